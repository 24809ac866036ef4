use Rattle.std.proofs.Common.{List, length, arith, ap, ◌∙◌}
use Rattle.causal_deps.specs.declared.record.Record.{Record}
use Rattle.token_queue.specs.declared.entry.Entry.{Entry}
use Rattle.maintainer.specs.Maintainers.{MaintainerState}
use Rattle.stage_turns.proofs.PlacingLemmas.{first_may, is_next}
use Rattle.stage_turns.proofs.placing.place_each.Goals as goal

pub place-requires-clause-own : goal.place-requires-clause-own
place-requires-clause-own c = (first_may _ _ _ _ c.in-Some.ensures.steps.0 c.loop-entry.invariant.may).own

pub place-requires-clause-small : goal.place-requires-clause-small
place-requires-clause-small c = (first_may _ _ _ _ c.in-Some.ensures.steps.0 c.loop-entry.invariant.may).small

pub place-requires-clause-vacant : goal.place-requires-clause-vacant
place-requires-clause-vacant c = (first_may _ _ _ _ c.in-Some.ensures.steps.0 c.loop-entry.invariant.may).vacant

pub loop-entry-preserved : goal.loop-entry-preserved
loop-entry-preserved c =
    let inv = c.loop-entry.invariant in
    let steps = c.in-Some.ensures.steps in
    let next = is_next c.loop-entry.maintainer c.place.new.self c.in-Some.entry _ _ steps.0 inv.may c.place.ensures in
    let fewer = ap (λ (es : List Entry). length es) steps.0 in
    let spare = ap (λ (m : MaintainerState Record). m.spare) c.place.ensures in
    record {
      next = tt;
      finite = tt;
      may = next.may;
      leads = next.leads ∙ inv.leads;
      room = omega (arith, inv.room, spare, fewer);
      len = omega (arith, inv.len, steps.1, fewer);
    }
