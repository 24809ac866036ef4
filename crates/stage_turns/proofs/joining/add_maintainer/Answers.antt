use Rattle.std.proofs.Common.{◌∙◌, ◌∷◌, [], ◌++◌, ◌+◌, length, set, true, false, ap, ap₂, refl, subst, sym, arith}
use Rattle.std.proofs.lemmas.Bool.{lt-ltb}
use Rattle.abstract_log.specs.declared.script.Outcome.TheVariants.{EpochAdded, LateMark}
use Rattle.flstore_rounds.specs.Heads.{Pair, blank}
use Rattle.causal_deps.specs.declared.record.Record.{Record}
use Rattle.maintainer.specs.Maintainers.{MaintainerState, empty}
use Rattle.token_queue.specs.Queues.{mark_bound, with_maintainer}
use Rattle.stage_turns.specs.Joining.{token_adopted}
use Rattle.stage_turns.specs.Lent.{HaveToken, queues_seen, token_seen}
use Rattle.stage_turns.proofs.JoiningLemmas.{above_if, has_changed, holder_token, is_late, nothing_changed, now_there, queues_stay, token_changes, when_above, when_late}
use Rattle.stage_turns.proofs.joining.add_maintainer.Goals as goal

-- the mark is not above the bound: nothing changes

pub returns-in-Err-Late-clause-token : goal.returns-in-Err-Late-clause-token
returns-in-Err-Late-clause-token c =
    let late = (c.in-Err-Late.ensures.late (token_seen c.args.queues.now) (holder_token c.args.queues.now (token_seen c.args.queues.now) c.holder-at.result c.item_mut.result.now c.requires.may.has c.holder-at.ensures c.item_mut.ensures.value) c.in-Err-Late.bound).0 (cc) in
    ap token_seen (nothing_changed c.args.queues.now (token_seen c.args.queues.now) c.holder-at.result c.item_mut.result.now c.requires.may.has c.holder-at.ensures c.item_mut.ensures.value c.adopt.new.queue c.in-Err-Late.ensures.err) ∙ sym (when_late (token_seen c.args.queues.now) c.args.mark (with_maintainer (token_seen c.args.queues.now) c.args.mark) (token_seen c.args.queues.now) (omega (arith, late.0, late.1)))

pub returns-in-Err-Late-clause-holder : goal.returns-in-Err-Late-clause-holder
returns-in-Err-Late-clause-holder c =
    let late = (c.in-Err-Late.ensures.late (token_seen c.args.queues.now) (holder_token c.args.queues.now (token_seen c.args.queues.now) c.holder-at.result c.item_mut.result.now c.requires.may.has c.holder-at.ensures c.item_mut.ensures.value) c.in-Err-Late.bound).0 (cc) in
    subst (λ qs. HaveToken qs (token_adopted (token_seen c.args.queues.now) c.args.mark)) (sym (nothing_changed c.args.queues.now (token_seen c.args.queues.now) c.holder-at.result c.item_mut.result.now c.requires.may.has c.holder-at.ensures c.item_mut.ensures.value c.adopt.new.queue c.in-Err-Late.ensures.err))
    (subst (HaveToken c.args.queues.now) (sym (when_late (token_seen c.args.queues.now) c.args.mark (with_maintainer (token_seen c.args.queues.now) c.args.mark) (token_seen c.args.queues.now) (omega (arith, late.0, late.1)))) c.requires.may.has)

pub returns-in-Err-Late-clause-maintainers : goal.returns-in-Err-Late-clause-maintainers
returns-in-Err-Late-clause-maintainers c =
    let late = (c.in-Err-Late.ensures.late (token_seen c.args.queues.now) (holder_token c.args.queues.now (token_seen c.args.queues.now) c.holder-at.result c.item_mut.result.now c.requires.may.has c.holder-at.ensures c.item_mut.ensures.value) c.in-Err-Late.bound).0 (cc) in
    sym (when_late (token_seen c.args.queues.now) c.args.mark (c.args.maintainers.now ++ empty (length c.args.maintainers.now) (with_maintainer (token_seen c.args.queues.now) c.args.mark).epochs ∷ []) c.args.maintainers.now (omega (arith, late.0, late.1)))

pub returns-in-Err-Late-clause-vectors : goal.returns-in-Err-Late-clause-vectors
returns-in-Err-Late-clause-vectors c =
    let late = (c.in-Err-Late.ensures.late (token_seen c.args.queues.now) (holder_token c.args.queues.now (token_seen c.args.queues.now) c.holder-at.result c.item_mut.result.now c.requires.may.has c.holder-at.ensures c.item_mut.ensures.value) c.in-Err-Late.bound).0 (cc) in
    sym (when_late (token_seen c.args.queues.now) c.args.mark (c.args.vectors.now ++ blank (with_maintainer (token_seen c.args.queues.now) c.args.mark).epochs ∷ []) c.args.vectors.now (omega (arith, late.0, late.1)))

pub returns-in-Err-Late-clause-outcome : goal.returns-in-Err-Late-clause-outcome
returns-in-Err-Late-clause-outcome c =
    let late = (c.in-Err-Late.ensures.late (token_seen c.args.queues.now) (holder_token c.args.queues.now (token_seen c.args.queues.now) c.holder-at.result c.item_mut.result.now c.requires.may.has c.holder-at.ensures c.item_mut.ensures.value) c.in-Err-Late.bound).0 (cc) in
    ap LateMark late.0 ∙ sym (when_late (token_seen c.args.queues.now) c.args.mark (EpochAdded c.args.mark (length c.args.maintainers.now + 1)) (LateMark (mark_bound (token_seen c.args.queues.now))) (omega (arith, late.0, late.1)))

pub returns-in-Err-Late-clause-changed : goal.returns-in-Err-Late-clause-changed
returns-in-Err-Late-clause-changed c =
    let late = (c.in-Err-Late.ensures.late (token_seen c.args.queues.now) (holder_token c.args.queues.now (token_seen c.args.queues.now) c.holder-at.result c.item_mut.result.now c.requires.may.has c.holder-at.ensures c.item_mut.ensures.value) c.in-Err-Late.bound).0 (cc) in
    sym (is_late (token_seen c.args.queues.now) c.args.mark (omega (arith, late.0, late.1)))

-- it is: the token has one epoch more

pub epochs_at-requires-clause-has : goal.epochs_at-requires-clause-has
epochs_at-requires-clause-has c = ((with_maintainer (token_seen c.args.queues.now) c.args.mark), now_there c.args.queues.now (token_seen c.args.queues.now) c.holder-at.result c.item_mut.result.now c.requires.may.has c.holder-at.ensures c.item_mut.ensures.value (with_maintainer (token_seen c.args.queues.now) c.args.mark) c.adopt.new.queue refl (c.in-Ok.ensures.ok (token_seen c.args.queues.now) (holder_token c.args.queues.now (token_seen c.args.queues.now) c.holder-at.result c.item_mut.result.now c.requires.may.has c.holder-at.ensures c.item_mut.ensures.value)))

pub returns-clause-queues : goal.returns-clause-queues
returns-clause-queues c = queues_stay c.args.queues.now (token_seen c.args.queues.now) c.holder-at.result c.item_mut.result.now c.requires.may.has c.holder-at.ensures c.item_mut.ensures.value (with_maintainer (token_seen c.args.queues.now) c.args.mark) c.adopt.new.queue refl (c.in-Ok.ensures.ok (token_seen c.args.queues.now) (holder_token c.args.queues.now (token_seen c.args.queues.now) c.holder-at.result c.item_mut.result.now c.requires.may.has c.holder-at.ensures c.item_mut.ensures.value))

pub returns-clause-token : goal.returns-clause-token
returns-clause-token c = token_changes c.args.queues.now (token_seen c.args.queues.now) c.holder-at.result c.item_mut.result.now c.requires.may.has c.holder-at.ensures c.item_mut.ensures.value (with_maintainer (token_seen c.args.queues.now) c.args.mark) c.adopt.new.queue refl (c.in-Ok.ensures.ok (token_seen c.args.queues.now) (holder_token c.args.queues.now (token_seen c.args.queues.now) c.holder-at.result c.item_mut.result.now c.requires.may.has c.holder-at.ensures c.item_mut.ensures.value)) ∙ sym (when_above (token_seen c.args.queues.now) c.args.mark (with_maintainer (token_seen c.args.queues.now) c.args.mark) (token_seen c.args.queues.now) (above_if (token_seen c.args.queues.now) c.args.mark (λ bound low. let is = (c.in-Ok.ensures.late (token_seen c.args.queues.now) (holder_token c.args.queues.now (token_seen c.args.queues.now) c.holder-at.result c.item_mut.result.now c.requires.may.has c.holder-at.ensures c.item_mut.ensures.value) bound).1 low in cc)))

pub returns-clause-holder : goal.returns-clause-holder
returns-clause-holder c = subst (HaveToken (set c.args.queues.now c.holder-at.result c.adopt.new.queue)) (sym (when_above (token_seen c.args.queues.now) c.args.mark (with_maintainer (token_seen c.args.queues.now) c.args.mark) (token_seen c.args.queues.now) (above_if (token_seen c.args.queues.now) c.args.mark (λ bound low. let is = (c.in-Ok.ensures.late (token_seen c.args.queues.now) (holder_token c.args.queues.now (token_seen c.args.queues.now) c.holder-at.result c.item_mut.result.now c.requires.may.has c.holder-at.ensures c.item_mut.ensures.value) bound).1 low in cc)))) (has_changed c.args.queues.now (token_seen c.args.queues.now) c.holder-at.result c.item_mut.result.now c.requires.may.has c.holder-at.ensures c.item_mut.ensures.value (with_maintainer (token_seen c.args.queues.now) c.args.mark) c.adopt.new.queue refl (c.in-Ok.ensures.ok (token_seen c.args.queues.now) (holder_token c.args.queues.now (token_seen c.args.queues.now) c.holder-at.result c.item_mut.result.now c.requires.may.has c.holder-at.ensures c.item_mut.ensures.value)))

pub returns-clause-maintainers : goal.returns-clause-maintainers
returns-clause-maintainers c =
    c.in_ok-push.ensures.ok
    ∙ ap (λ (x : MaintainerState Record). c.args.maintainers.now ++ x ∷ []) (c.new-2.ensures ∙ ap₂ empty c.len-number.ensures (c.in_ok-epochs_at.ensures (with_maintainer (token_seen c.args.queues.now) c.args.mark) (now_there c.args.queues.now (token_seen c.args.queues.now) c.holder-at.result c.item_mut.result.now c.requires.may.has c.holder-at.ensures c.item_mut.ensures.value (with_maintainer (token_seen c.args.queues.now) c.args.mark) c.adopt.new.queue refl (c.in-Ok.ensures.ok (token_seen c.args.queues.now) (holder_token c.args.queues.now (token_seen c.args.queues.now) c.holder-at.result c.item_mut.result.now c.requires.may.has c.holder-at.ensures c.item_mut.ensures.value)))))
    ∙ sym (when_above (token_seen c.args.queues.now) c.args.mark (c.args.maintainers.now ++ empty (length c.args.maintainers.now) (with_maintainer (token_seen c.args.queues.now) c.args.mark).epochs ∷ []) c.args.maintainers.now (above_if (token_seen c.args.queues.now) c.args.mark (λ bound low. let is = (c.in-Ok.ensures.late (token_seen c.args.queues.now) (holder_token c.args.queues.now (token_seen c.args.queues.now) c.holder-at.result c.item_mut.result.now c.requires.may.has c.holder-at.ensures c.item_mut.ensures.value) bound).1 low in cc)))

pub returns-clause-vectors : goal.returns-clause-vectors
returns-clause-vectors c =
    c.in_ok-push-2.ensures.ok
    ∙ ap (λ (x : Pair). c.args.vectors.now ++ x ∷ []) (c.new-3.ensures ∙ ap blank (c.in_ok-epochs_at-2.ensures (with_maintainer (token_seen c.args.queues.now) c.args.mark) (now_there c.args.queues.now (token_seen c.args.queues.now) c.holder-at.result c.item_mut.result.now c.requires.may.has c.holder-at.ensures c.item_mut.ensures.value (with_maintainer (token_seen c.args.queues.now) c.args.mark) c.adopt.new.queue refl (c.in-Ok.ensures.ok (token_seen c.args.queues.now) (holder_token c.args.queues.now (token_seen c.args.queues.now) c.holder-at.result c.item_mut.result.now c.requires.may.has c.holder-at.ensures c.item_mut.ensures.value)))))
    ∙ sym (when_above (token_seen c.args.queues.now) c.args.mark (c.args.vectors.now ++ blank (with_maintainer (token_seen c.args.queues.now) c.args.mark).epochs ∷ []) c.args.vectors.now (above_if (token_seen c.args.queues.now) c.args.mark (λ bound low. let is = (c.in-Ok.ensures.late (token_seen c.args.queues.now) (holder_token c.args.queues.now (token_seen c.args.queues.now) c.holder-at.result c.item_mut.result.now c.requires.may.has c.holder-at.ensures c.item_mut.ensures.value) bound).1 low in cc)))

pub returns-clause-outcome : goal.returns-clause-outcome
returns-clause-outcome c =
    ap (λ n. EpochAdded c.args.mark (n + 1)) c.len-number.ensures ∙ sym (when_above (token_seen c.args.queues.now) c.args.mark (EpochAdded c.args.mark (length c.args.maintainers.now + 1)) (LateMark (mark_bound (token_seen c.args.queues.now))) (above_if (token_seen c.args.queues.now) c.args.mark (λ bound low. let is = (c.in-Ok.ensures.late (token_seen c.args.queues.now) (holder_token c.args.queues.now (token_seen c.args.queues.now) c.holder-at.result c.item_mut.result.now c.requires.may.has c.holder-at.ensures c.item_mut.ensures.value) bound).1 low in cc)))

pub returns-clause-changed : goal.returns-clause-changed
returns-clause-changed c = sym (lt-ltb (mark_bound (token_seen c.args.queues.now)) c.args.mark (above_if (token_seen c.args.queues.now) c.args.mark (λ bound low. let is = (c.in-Ok.ensures.late (token_seen c.args.queues.now) (holder_token c.args.queues.now (token_seen c.args.queues.now) c.holder-at.result c.item_mut.result.now c.requires.may.has c.holder-at.ensures c.item_mut.ensures.value) bound).1 low in cc)))
