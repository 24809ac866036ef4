use Rattle.std.proofs.Common.{◌<◌, length, ap, sym, ◌∙◌, arith}
use Rattle.std.proofs.lemmas.List.{get_or_read}
use Rattle.abstract_log.specs.Steps.{inserted, name_before}
use Rattle.abstract_step.proofs.Inserting.{inserted_here, inserted_there, inserted_last}
use Rattle.abstract_step.proofs.names.insert_name.Goals as goal
use Rattle.abstract_step.proofs.names.insert_name.Goals.{After-is_before}

inside : (c : After-is_before) → c.loop-at.at < length c.loop-at.names.items
inside c = omega (arith, c.loop-at-test.true, c.len-at-end.ensures, c.args.names.now.ok.0, ap length c.loop-at.invariant.0)

pub returns-then-is_before : goal.returns-then-is_before
returns-then-is_before c = record {
  ok =
      c.in_ok-insert.ensures.items
      ∙ sym (inserted_here name_before c.args.name c.loop-at.names.items c.loop-at.at c.index.result.now (inside (goal.at.returns-then-is_before c).After-is_before)
      (ap (name_before c.args.name) (sym c.index.ensures) ∙ sym c.if-is_before.ensures) c.loop-at.invariant.1)
      ∙ ap (inserted name_before c.args.name) c.loop-at.invariant.0;
}

pub returns-then-not-is_before : goal.returns-then-not-is_before
returns-then-not-is_before c =
    let within = inside (goal.at.returns-then-not-is_before c).After-is_before in
    record {
      ok =
          sym (inserted_there name_before c.args.name c.loop-at.names.items c.loop-at.at c.index.result.now within
          (ap (name_before c.args.name) (sym c.index.ensures) ∙ sym c.if-is_before.ensures)
          (ap (λ y. name_before y c.args.name) (sym (get_or_read c.loop-at.names.items c.loop-at.at c.index-in-loop-at.result.now within c.index-in-loop-at.ensures c.index.result.now)) ∙ sym c.if-not-is_before.ensures)
          c.loop-at.invariant.1)
          ∙ ap (inserted name_before c.args.name) c.loop-at.invariant.0;
    }

pub returns : goal.returns
returns c = record {
  ok =
      c.in_ok-push.ensures.items
      ∙ sym (inserted_last name_before c.args.name c.loop-at.names.items c.loop-at.at
      (omega (arith, c.loop-at-test.false, c.len-at-end.ensures, c.args.names.now.ok.0, ap length c.loop-at.invariant.0)) c.loop-at.invariant.1)
      ∙ ap (inserted name_before c.args.name) c.loop-at.invariant.0;
}
