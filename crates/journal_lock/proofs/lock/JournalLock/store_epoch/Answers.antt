use Rattle.std.proofs.Common.{rules, arith, ◌≡◌, ◌<◌, ℕ, ◌∷◌, List, length, sym, subst, ap, ◌∙◌}
use Rattle.abstract_log.specs.declared.event.Event.{Event}
use Rattle.flstore_rounds.specs.Epochs.{last_epoch}
use Rattle.journal_lock.specs.declared.duty.Duty.{Duty}
use Rattle.journal_lock.specs.declared.duty.Duty.TheVariants.{Token}
use Rattle.journal_lock.specs.declared.law.Note.{Note}
use Rattle.journal_lock.specs.declared.law.Note.TheVariants.{Found}
use Rattle.journal_lock.specs.declared.law.Plan.{Plan}
use Rattle.journal_lock.specs.Duties.{Has, datacentre, has, stamped}
use Rattle.journal_lock.specs.Words.{epoch_word}
use Rattle.journal_lock.specs.Heads.{known_list}
use Rattle.journal_lock.proofs.Settled.{known_next}
use Rattle.journal_lock.proofs.Steps.{epoch_step}
use Rattle.journal_lock.proofs.lock.JournalLock.store_epoch.Goals as goal

pub store-requires : goal.store-requires
store-requires c =
    let d = c.args.dc in let e = c.args.epoch in let place = c.epoch_place.ensures in let round = sym (ap (λ l. l.round) c.self.view_is) ∙ ap (λ (k : Plan). k.round) c.self.invariant.2 in
    let notes = sym (ap (λ t. t.notes) c.pass.view_is) in let token = subst (Has (Token d)) (sym (ap (λ t. t.duties) c.pass.view_is)) c.requires.duty in
    let at = subst (λ (z : ℕ × List Note). c.args.at ≡ length (known_list z.0 d z.1).list) (λ i. (round i, notes i)) c.requires.at.1 in let low = c.requires.at.0 in
    let after = subst (λ (z : ℕ × List Note). (last_epoch (known_list z.0 d z.1)).start < e.start) (λ i. (round i, notes i)) c.requires.after in
    let more = subst (λ (z : ℕ × List Note). (last_epoch (known_list z.0 d z.1)).members < e.members) (λ i. (round i, notes i)) c.requires.more in
    let above = subst (λ (l : List Event). has datacentre d (stamped l) < e.start) (sym (ap (λ t. t.seen) c.pass.view_is)) c.requires.above in (
      search rules,
      omega (arith, c.self.invariant.0, place.within.1),
      epoch_step _ _ _ _ _ _ d e _ place.dc (omega arith) (place.value ∙ ap (epoch_word d) at) c.to_word.ensures token after more above c.requires.within.0 c.requires.within.1,
    )

pub returns-clause-last : goal.returns-clause-last
returns-clause-last c =
    let more = c.requires.more in let notes = ap (λ m. m.0.notes) c.store.ensures.2 ∙ (λ i. Found (c.epoch_place.ensures.value i) (c.to_word.ensures i) ∷ ap (λ t. t.notes) c.pass.view_is i) in
    ap (known_list c.args.self.now.round c.args.dc) notes
    ∙ known_next c.args.self.now.round c.args.dc c.args.at c.args.epoch c.args.pass.now.notes c.requires.at.1 c.requires.at.0 c.requires.rest c.requires.within.1 (omega arith)
