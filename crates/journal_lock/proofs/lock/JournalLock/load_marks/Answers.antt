use Rattle.std.proofs.Common.{arith, ◌≡◌, subst}
use Rattle.journal_lock.proofs.Rows.{IsMarked, marks_next, marks_known}
use Rattle.journal_lock.proofs.lock.JournalLock.load_marks.Goals as goal

pub loop-member-preserved : goal.loop-member-preserved
loop-member-preserved c = marks_next c.args.dc c.args.pass.now _ _ c.loop-member.marks c.loop-member.member _ c.loop-member.invariant (omega (arith, c.loop-member-test.true)) c.load_mark.ensures.no_less c.load_mark.ensures.noted

pub returns-clause-known : goal.returns-clause-known
returns-clause-known c = marks_known c.args.dc c.args.pass.now c.loop-member.pass c.loop-member.marks
    (subst (IsMarked c.args.dc c.args.pass.now c.loop-member.pass c.loop-member.marks) (let e : c.loop-member.member ≡ 16 = omega (arith, c.loop-member-test.false, c.loop-member.auto.member-end) in e) c.loop-member.invariant)
