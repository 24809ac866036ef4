use Rattle.std.proofs.Common.{rules, ◌≡◌, ◌∙◌, List, ap, refl}
use Rattle.abstract_log.specs.declared.command.SessionPlan.{SessionPlan}
use Rattle.journal_lock.specs.Duties.{all_duties}
use Rattle.test_journal.proofs.Duties.{tables}
use Rattle.test_journal.proofs.threads.four_threads_push_at_once.Goals as goal

pub learn_four-requires-clause-duties : goal.learn_four-requires-clause-duties
learn_four-requires-clause-duties g c l =
    let two : c.in_ok-second.second ≡ 1 = search rules in let three : c.in_ok-third.third ≡ 2 = search rules in let last : c.in_ok-fourth.fourth ≡ 3 = search rules in
    let duties : c.in_ok-lock.pass.duties ≡ all_duties (record { dcs = 4; sessions = c.new.result }) = search rules in
    tables 0 c.in_ok-second.second c.in_ok-third.third c.in_ok-fourth.fourth c.in_ok-lock.pass.duties refl two three last (duties ∙ ap (λ (s : List SessionPlan). all_duties (record { dcs = 4; sessions = s })) c.new.ensures)
