use Rattle.std.proofs.Common.{◌≡◌, ap, sym, ◌∙◌, List, subst, ◌++◌}
use Rattle.journal_lock.specs.declared.duty.Duty.{Duty}
use Rattle.journal_lock.specs.declared.duty.Duty.TheVariants.{Session}
use Rattle.journal_lock.specs.Duties.{number, minus, often, all_duties, Among}
use Rattle.journal_lock.specs.Law.{SameFor}
use Rattle.journal_lock.specs.Passes.{Ticket}
use Rattle.abstract_log.specs.declared.command.Workload.{Workload}
use Rattle.journal_lock.specs.Ties.{IsTied}
use Rattle.journal_lock.proofs.Places.{no_names}
use Rattle.journal_lock.proofs.TieLemmas.{rest_once, rest_tied}
use Rattle.journal_lock.proofs.Pairs.{session_of, first_there, second_there, all_again, both_once}
use Rattle.journal_lock.proofs.both.begin_both.Goals as goal

pub split_session-one-requires-clause-duties : goal.split_session-one-requires-clause-duties
split_session-one-requires-clause-duties g c =
    subst (λ (t : Ticket). Among number (session_of c.args.first) t.duties) (sym c.meet-events.ensures.noted) (first_there c.args.lock.workload c.args.pass.duties c.args.first c.requires.all c.requires.sessions.1)

pub split_session-one-requires-clause-left : goal.split_session-one-requires-clause-left
split_session-one-requires-clause-left g c =
    let met = c.meet-events.ensures.noted in let m = c.meet-events.new.pass in
    no_names (minus number m.duties (session_of c.args.first)) m.hand m.placed (ap (λ (t : Ticket). t.hand) met ∙ c.requires.none.1) (ap (λ (t : Ticket). t.placed) met ∙ c.requires.none.2)

pub split_session-one-requires-clause-tied : goal.split_session-one-requires-clause-tied
split_session-one-requires-clause-tied g c =
    let known = c.meet-events.ensures in let p = c.args.pass in
    subst (λ (t : Ticket). IsTied t.workload (minus number t.duties (session_of c.args.first))) (sym known.noted)
    (rest_tied p.workload p.duties c.args.first known.tied known.once (first_there c.args.lock.workload p.duties c.args.first c.requires.all c.requires.sessions.1))

pub split_session-two-requires-clause-duties : goal.split_session-two-requires-clause-duties
split_session-two-requires-clause-duties g c =
    subst (λ (ds : List Duty). Among number (session_of c.args.second) ds)
    (sym (ap (λ (t : Ticket). t.duties) c.split_session-one.ensures.kept ∙ ap (λ (t : Ticket). minus number t.duties (session_of c.args.first)) c.meet-events.ensures.noted))
    (second_there c.args.lock.workload c.args.pass.duties c.args.first c.args.second c.requires.all c.requires.sessions.0 c.requires.sessions.1 c.requires.sessions.2)

pub split_session-two-requires-clause-left : goal.split_session-two-requires-clause-left
split_session-two-requires-clause-left g c =
    let kept = c.split_session-one.ensures.kept in let met = c.meet-events.ensures.noted in let mid = c.split_session-one.new.pass in
    no_names (minus number mid.duties (session_of c.args.second)) mid.hand mid.placed (ap (λ (t : Ticket). t.hand) kept ∙ (ap (λ (t : Ticket). t.hand) met ∙ c.requires.none.1))
    (ap (λ (t : Ticket). t.placed) kept ∙ (ap (λ (t : Ticket). t.placed) met ∙ c.requires.none.2))

pub split_session-two-requires-clause-tied : goal.split_session-two-requires-clause-tied
split_session-two-requires-clause-tied g c =
    let known = c.meet-events.ensures in let kept = c.split_session-one.ensures.kept in let p = c.args.pass in let f = c.args.first in let s = c.args.second in
    let there = first_there c.args.lock.workload p.duties f c.requires.all c.requires.sessions.1 in
    let load = ap (λ (t : Ticket). t.workload) kept ∙ ap (λ (t : Ticket). t.workload) known.noted in
    let left = ap (λ (t : Ticket). t.duties) kept ∙ ap (λ (t : Ticket). minus number t.duties (session_of f)) known.noted in
    subst (λ (z : Workload × List Duty). IsTied z.0 (minus number z.1 (session_of s))) (λ i. (sym load i, sym left i))
    (rest_tied p.workload (minus number p.duties (session_of f)) s (rest_tied p.workload p.duties f known.tied known.once there) (rest_once p.duties f known.once there)
    (second_there c.args.lock.workload p.duties f s c.requires.all c.requires.sessions.0 c.requires.sessions.1 c.requires.sessions.2))

pub close-requires-clause-all : goal.close-requires-clause-all
close-requires-clause-all g c =
    let first = c.join-one.ensures.first in let second = c.join-one.ensures.second in let ds = c.args.pass.duties in let f = c.args.first in let s = c.args.second in
    let one_is = first.0.2 ∙ ap (λ (t : Ticket). t.duties) c.split_session-one.ensures.given in
    let two_is = second.0.2 ∙ ap (λ (t : Ticket). t.duties) c.split_session-two.ensures.given in
    let rest = ap (λ (t : Ticket). t.duties) c.split_session-two.ensures.kept ∙ ap (λ (l : List Duty). minus number l (session_of s)) (ap (λ (t : Ticket). t.duties) c.split_session-one.ensures.kept ∙ ap (λ (t : Ticket). minus number t.duties (session_of f)) c.meet-events.ensures.noted) in
    let one_in = ap (λ (t : Ticket). t.duties) c.join.ensures.all in let two_in = ap (λ (t : Ticket). t.duties) c.join-2.ensures.all in
    let is : c.join-2.new.pass.duties ≡ (minus number (minus number ds (session_of f)) (session_of s) ++ session_of f) ++ session_of s =
    two_in ∙ (λ i. (one_in ∙ (λ j. rest j ++ one_is j)) i ++ two_is i) in
    subst (λ (l : List Duty). Among number (all_duties c.args.lock.workload) l) (sym is) (all_again c.args.lock.workload ds f s c.requires.all c.requires.sessions.0 c.requires.sessions.1 c.requires.sessions.2)

pub returns-clause-first : goal.returns-clause-first
returns-clause-first g c =
    let one = c.join-one.result.0 in let two = c.join-one.result.1 in let f = c.args.first in let s = c.args.second in
    let first = c.join-one.ensures.first in let second = c.join-one.ensures.second in
    let fine_one = sym c.failed.ensures ∙ c.if-failed.false in let fine_two = sym c.failed-else-failed.ensures ∙ c.if-failed-2.false in
    let one_is = first.0.2 ∙ ap (λ (t : Ticket). t.duties) c.split_session-one.ensures.given in
    let two_is = second.0.2 ∙ ap (λ (t : Ticket). t.duties) c.split_session-two.ensures.given in
    let ds = c.split_session-two.new.pass.duties in
    let all = ap (λ (t : Ticket). t.duties) c.join.ensures.all ∙ ap (λ (l : List Duty). ds ++ l) one_is in
    let done = both_once ds f s one.seen two.seen c.join.new.pass.seen c.join-2.new.pass.seen (first.1 fine_one) (second.1 fine_two)
    (subst (λ (l : List Duty). SameFor l one.seen c.join.new.pass.seen) one_is c.join.ensures.two.1) (subst (λ (l : List Duty). SameFor l c.join.new.pass.seen c.join-2.new.pass.seen) all c.join-2.ensures.one.1)
    (subst (λ (l : List Duty). SameFor l two.seen c.join-2.new.pass.seen) two_is c.join-2.ensures.two.1) in
    ap (often (number (Session f))) c.close.ensures.events ∙ done.0

pub returns-clause-second : goal.returns-clause-second
returns-clause-second g c =
    let one = c.join-one.result.0 in let two = c.join-one.result.1 in let f = c.args.first in let s = c.args.second in
    let first = c.join-one.ensures.first in let second = c.join-one.ensures.second in
    let fine_one = sym c.failed.ensures ∙ c.if-failed.false in let fine_two = sym c.failed-else-failed.ensures ∙ c.if-failed-2.false in
    let one_is = first.0.2 ∙ ap (λ (t : Ticket). t.duties) c.split_session-one.ensures.given in
    let two_is = second.0.2 ∙ ap (λ (t : Ticket). t.duties) c.split_session-two.ensures.given in
    let ds = c.split_session-two.new.pass.duties in
    let all = ap (λ (t : Ticket). t.duties) c.join.ensures.all ∙ ap (λ (l : List Duty). ds ++ l) one_is in
    let done = both_once ds f s one.seen two.seen c.join.new.pass.seen c.join-2.new.pass.seen (first.1 fine_one) (second.1 fine_two)
    (subst (λ (l : List Duty). SameFor l one.seen c.join.new.pass.seen) one_is c.join.ensures.two.1) (subst (λ (l : List Duty). SameFor l c.join.new.pass.seen c.join-2.new.pass.seen) all c.join-2.ensures.one.1)
    (subst (λ (l : List Duty). SameFor l two.seen c.join-2.new.pass.seen) two_is c.join-2.ensures.two.1) in
    ap (often (number (Session s))) c.close.ensures.events ∙ done.1
