use Rattle.std.proofs.Common.{arith, ◌≡◌, ◌+◌, ◌≤◌, ◌∷◌, List, Some, length, sym, subst, ap, ◌∙◌}
use Rattle.flstore_rounds.specs.Epochs.{IsEpochList}
use Rattle.journal_lock.specs.declared.law.Note.TheVariants.{Found}
use Rattle.journal_lock.specs.Passes.{Ticket}
use Rattle.journal_lock.specs.Words.{epoch_word, code}
use Rattle.journal_lock.specs.Finds.{best}
use Rattle.journal_lock.specs.Heads.{known_list}
use Rattle.journal_lock.proofs.Settled.{known_ends, known_goes, no_room}
use Rattle.journal_lock.proofs.lock.JournalLock.write_epoch.Goals as goal

pub store_epoch-requires-clause-at : goal.store_epoch-requires-clause-at
store_epoch-requires-clause-at c =
    let round = c.args.self.now.round in let d = c.args.dc in let at = c.loop-at.at in let same = c.holds_none.ensures.same in
    let few = subst (λ (t : Ticket). at ≤ length (known_list round d t.notes).list) (sym (same ∙ c.loop-at.invariant.0)) c.loop-at.invariant.1 in
    let none = subst (λ (t : Ticket). best (epoch_word d at) t.notes ≡ 0) (sym same) (c.holds_none.ensures.none.0 c.if-holds_none.true) in (
      omega (arith, c.loop-at-test.true),
      known_ends round d at c.holds_none.new.pass.notes few none,
    )

pub loop-at-preserved : goal.loop-at-preserved
loop-at-preserved c =
    let round = c.args.self.now.round in let d = c.args.dc in let at = c.loop-at.at in let is = c.loop-at.invariant.0 in (
      c.holds_none.ensures.same ∙ is,
      known_goes round d at c.args.pass.now.notes c.loop-at.invariant.1 (omega (arith, c.loop-at-test.true))
          (λ z. (let t = c.holds_none.ensures.none.1 (subst (λ (t : Ticket). best (epoch_word d at) t.notes ≡ 0) (sym is) z) in cc (t, c.if-holds_none.false))),
      λ _. subst (λ (t : Ticket). IsEpochList (known_list round d t.notes)) is c.holds_none.ensures.rounds,
    )

pub unreachable-requires : goal.unreachable-requires
unreachable-requires c =
    let round = c.args.self.now.round in let d = c.args.dc in let past = c.loop-at-test.false in let inside = c.loop-at.invariant.1 in
    no_room (known_list round d c.args.pass.now.notes) c.args.epoch.members (c.loop-at.invariant.2 (omega arith)) (omega arith) c.requires.more c.requires.within.1

pub returns-then-holds_none-clause-noted : goal.returns-then-holds_none-clause-noted
returns-then-holds_none-clause-noted c =
    let round = c.args.self.now.round in let d = c.args.dc in let at = c.loop-at.at in let same = c.holds_none.ensures.same in let was = same ∙ c.loop-at.invariant.0 in
    let none = subst (λ (t : Ticket). best (epoch_word d at) t.notes ≡ 0) c.loop-at.invariant.0 (c.holds_none.ensures.none.0 c.if-holds_none.true) in
    let at_is = known_ends round d at c.args.pass.now.notes c.loop-at.invariant.1 none in
    c.store_epoch.ensures.noted ∙ (λ i. record (was i) { notes = Found (epoch_word d (at_is i)) (code (Some c.args.epoch)) ∷ (was i).notes })
