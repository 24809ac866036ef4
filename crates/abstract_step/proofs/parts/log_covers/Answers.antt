use Rattle.std.proofs.Common.{◌∙◌, sym}
use Rattle.causal_deps.proofs.LogsLemmas.{covered_by_log, covered_by_counts}
use Rattle.abstract_log.specs.Worlds.{log_of}
use Rattle.abstract_step.proofs.parts.log_covers.Goals as goal

pub returns : goal.returns
returns c = let len = c.requires.len ∙ sym c.counts.ensures.len in (
  λ yes'. covered_by_log (log_of c.args.world.now c.args.d) c.counts.result c.args.seen.now c.counts.ensures.counts len (c.covers.ensures.0 yes'),
  λ covered. c.covers.ensures.1 (covered_by_counts (log_of c.args.world.now c.args.d) c.counts.result c.args.seen.now c.counts.ensures.counts len covered),
)
