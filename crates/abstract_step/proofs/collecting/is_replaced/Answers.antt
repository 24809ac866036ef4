use Rattle.std.proofs.Common.{◌≡◌, ◌+◌, length, Some, slice_get, refl, ap, sym, ◌∙◌, inl, inr, arith, add-one, true≢false}
use Rattle.std.proofs.lemmas.Bool.{cases_lt}
use Rattle.std.proofs.lemmas.Option.{slice_get_read, slice_get_within, same_Some}
use Rattle.causal_deps.proofs.LogsLemmas.{record_at_is}
use Rattle.causal_deps.specs.declared.record.Record.{Record}
use Rattle.causal_deps.specs.Kinds.{is_update}
use Rattle.abstract_step.proofs.collecting.is_replaced.Goals as goal
use Rattle.abstract_step.proofs.collecting.is_replaced.Goals.{After-is_update, else-is_update-via-then-is_update+else-same_names, else-is_update-via-else-is_update}

at_place : (c : After-is_update) → slice_get c.args.log.now c.loop-at.at ≡ Some c.index-log-at.result
at_place c = slice_get_read c.args.log.now (length c.args.log.now) c.loop-at.at c.index-log-at.result refl c.loop-at-test.true c.index-log-at.is

pub returns-then-same_names-clause-yes : goal.returns-then-same_names-clause-yes
returns-then-same_names-clause-yes c = λ _. record {
  at = c.loop-at.at + 1;
  later = omega (arith, c.loop-at.auto.at);
  by = c.index-log-at.result;
  stands = rw add-one (at_place (goal.at.returns-then-same_names-clause-yes c).After-is_update);
  updates = sym c.is_update.ensures ∙ c.if-is_update.true;
  same_key = sym c.as_slice.ensures ∙ c.same_names.ensures.0 c.if-same_names.true ∙ c.as_slice-then-is_update.ensures;
}

pub loop-at-preserved : goal.loop-at-preserved
loop-at-preserved c = λ k by from below is updates tags. elim (cases_lt k c.loop-at.at) [
  | inl before ↦ c.loop-at.invariant k by from before is updates tags
  | inr not_before ↦
      let here : k ≡ c.loop-at.at = omega arith in
      let same : by ≡ c.index-log-at.result = same_Some by c.index-log-at.result (sym is ∙ ap (λ j. slice_get c.args.log.now j) here ∙ at_place (goal.at.loop-at-preserved c).After-is_update) in
      elim c.else-is_update.branch [
        | else-is_update-via-then-is_update+else-same_names w ↦ true≢false (sym (w.same_names.ensures.1 (w.as_slice.ensures ∙ ap (λ r. r.tags) (sym same) ∙ tags ∙ sym w.as_slice-then-is_update.ensures)) ∙ w.if-same_names.false)
        | else-is_update-via-else-is_update w ↦ true≢false (sym (c.is_update.ensures ∙ ap (λ (r : Record). is_update r.kind) (sym same) ∙ updates) ∙ w.if-is_update.false)
      ]
]

pub returns-clause-no : goal.returns-clause-no
returns-clause-no c = λ r. let at = record_at_is c.args.log.now r.at r.by r.stands in
    absurd (c.loop-at.invariant at.0 r.by (omega (arith, r.later, at.1)) (omega (arith, slice_get_within c.args.log.now at.0 r.by at.2)) at.2 r.updates r.same_key)
