use Rattle.std.proofs.Common.{List, length, arith, ap}
use Rattle.token_queue.specs.declared.entry.Entry.{Entry}
use Rattle.datacentre.proofs.LeftLemmas.{one_entry}
use Rattle.datacentre.proofs.leaving.put_entries.Goals as goal

pub loop-entry-preserved : goal.loop-entry-preserved
loop-entry-preserved c =
    let inv = c.loop-entry.invariant in
    let steps = c.in-Some.ensures.steps in
    record {
      next = tt;
      finite = tt;
      leads = one_entry _ _ _ c.in-Some.entry _ _ steps.0 c.put_row.ensures inv.leads;
      len = omega (arith, inv.len, steps.1, ap (λ (xs : List Entry). length xs) steps.0);
    }
