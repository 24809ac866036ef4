-- The laws of a log go on to hold after events that may happen.
use Rattle.std.proofs.Common.{List, sym, subst, ◌∙◌}
use Rattle.abstract_log.specs.declared.event.Event.{Event}
use Rattle.abstract_log.specs.declared.world.World.{World}
use Rattle.abstract_log.specs.Fits.{FitsLimits}
use Rattle.abstract_log.specs.Runs.{CanAllHappen, after_all}
use Rattle.log_laws.specs.Lawful.{IsLawful}
use Rattle.log_laws.proofs.Runs.{kept_by_runs}
use Rattle.log_laws.proofs.LimitedRuns.{IsKept, all_kept, all_laws, workload_stays}

pub kept_of : (w : World) → IsLawful w → IsKept w
kept_of w h = record {
  steady = record {
    lawful = record { causal = h.causal; one_record = h.one_record; tables = record { by_owner = h.tables; by_log = h.own_rows }; gone = h.gone };
    lengths = h.shape.pending ∙ sym h.shape.logs;
    pending = record { held = λ d g t waits. (h.awaited d g t waits).held; unknown = λ d g t waits. (h.awaited d g t waits).unknown };
  };
  shape = h.shape;
  square = h.square;
  within = λ s. record { answered = (h.sessions s).answered; next = (h.sessions s).next; seen = (h.sessions s).seen; floor = (h.sessions s).floor };
  written = h.written;
  done = h.done;
  once = λ d j k q r at_j at_k host_q host_r session index. h.once d j k q r at_j at_k session index;
  present = h.present;
  answered = h.answered;
}

pub lawful_after : (w : World) (es : List Event) → IsLawful w → CanAllHappen w es → IsLawful (after_all w es)
lawful_after w es h can =
    all_laws (after_all w es) (kept_by_runs IsKept all_kept w es (kept_of w h) can) (subst FitsLimits (sym (workload_stays w es)) h.limits)
