use Rattle.std.proofs.Common.{List, length, arith, ap}
use Rattle.causal_deps.specs.declared.record.Record.{Record}
use Rattle.maintainer.specs.declared.slot.Slot.{Slot}
use Rattle.datacentre.proofs.LeftLemmas.{one_slot}
use Rattle.datacentre.proofs.leaving.put_slots.Goals as goal

pub loop-slot-preserved : goal.loop-slot-preserved
loop-slot-preserved c =
    let inv = c.loop-slot.invariant in
    let steps = c.in-Some.ensures.steps in
    record {
      next = tt;
      finite = tt;
      leads = one_slot _ _ _ c.in-Some.slot _ _ steps.0 c.put_row.ensures inv.leads;
      len = omega (arith, inv.len, steps.1, ap (λ (xs : List (Slot Record)). length xs) steps.0);
    }
