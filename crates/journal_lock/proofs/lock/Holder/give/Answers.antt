use Rattle.std.proofs.Common.{rules, arith, ◌≡◌, ℕ, sym, subst, ◌∙◌, ap, Some, ◌∷◌}
use mathlib.Core.List.{IsPrefix}
use Rattle.abstract_log.specs.Runs.{IsRun}
use Rattle.atomic_table.specs.Table.{rest}
use Rattle.journal_lock.specs.declared.law.View.{View}
use Rattle.journal_lock.specs.Duties.{number, has, often}
use Rattle.journal_lock.proofs.Steps.{count_step, free_step}
use Rattle.journal_lock.proofs.lock.Holder.give.Goals as goal

pub store-requires : goal.store-requires
store-requires c =
    let out = c.self.invariant in let w = c.self.inside.journal in let now = c.exchange-empty.ensures.3 in let v = ap (λ m. m.0) now in (
      search rules,
      omega (arith, c.lock.invariant.0),
      count_step _ _ _ _ _ w _ (ap (λ (x : View). x.hold.stage) v ∙ out.stage) (ap (λ m. m.1) now ∙ ap (λ l. (0, Some w) ∷ rest l) out.carries) (subst (λ (x : View). IsRun x.hold.load w.log) (sym v) out.run)
          (subst (λ (x : View). IsPrefix x.hold.now.seen w.log) (sym v) out.grown) (subst (λ (x : View). (d : ℕ) → has number d x.hold.now.duties ≡ 0 → often d w.log ≡ often d x.hold.now.seen) (sym v) out.own) c.len-count.ensures
          (omega (arith, c.lock.invariant.1)),
    )

pub store-requires-2 : goal.store-requires-2
store-requires-2 c =
    let w = c.self.inside.journal in let now = c.exchange-empty.ensures.3 in let told = c.store.ensures.2 w (ap (λ m. m.1) now ∙ ap (λ l. (0, Some w) ∷ rest l) c.self.invariant.carries) in
    (search rules, omega (arith, c.lock.invariant.0), free_step _ _ _ _ _ (ap (λ (x : View). x.hold.stage) told.0))
