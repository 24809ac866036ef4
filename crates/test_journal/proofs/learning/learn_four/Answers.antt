use Rattle.std.proofs.Common.{ap, sym, subst, arith}
use Rattle.journal_lock.specs.declared.duty.Duty.{Duty}
use Rattle.journal_lock.specs.declared.duty.Duty.TheVariants.{Table}
use Rattle.journal_lock.specs.Duties.{Has}
use Rattle.journal_lock.specs.Passes.{Ticket}
use Rattle.test_journal.proofs.Duties.{among_one, still_has}
use Rattle.test_journal.proofs.learning.learn_four.Goals as goal

pub split_table-one-requires-clause-duty : goal.split_table-one-requires-clause-duty
split_table-one-requires-clause-duty g c =
    let a : Duty = Table c.args.first in among_one a c.meet-events.new.pass.duties (subst (λ (t : Ticket). Has a t.duties) (sym c.meet-events.ensures.noted) c.requires.duties.0)

pub split_table-two-requires-clause-duty : goal.split_table-two-requires-clause-duty
split_table-two-requires-clause-duty g c =
    let a : Duty = Table c.args.first in let b : Duty = Table c.args.second in let is = ap (λ (t : Ticket). t.duties) c.split_table-one.ensures.kept in let m = c.meet-events.new.pass in
    let has : (e : Duty) → Has e c.args.pass.now.duties → Has e m.duties = λ e h. subst (λ (t : Ticket). Has e t.duties) (sym c.meet-events.ensures.noted) h in let h = c.requires.duties in
    let order = c.requires.order in
    among_one b c.split_table-one.new.pass.duties (subst (Has b) (sym is) (still_has a b m.duties (λ e. omega (arith, order.0)) (has a h.0) (has b h.1)))

pub split_table-three-requires-clause-duty : goal.split_table-three-requires-clause-duty
split_table-three-requires-clause-duty g c =
    let a : Duty = Table c.args.first in let b : Duty = Table c.args.second in let d : Duty = Table c.args.third in let h = c.requires.duties in let order = c.requires.order in let m = c.meet-events.new.pass in
    let has : (e : Duty) → Has e c.args.pass.now.duties → Has e m.duties = λ e h. subst (λ (t : Ticket). Has e t.duties) (sym c.meet-events.ensures.noted) h in
    let is = ap (λ (t : Ticket). t.duties) c.split_table-one.ensures.kept in let too = ap (λ (t : Ticket). t.duties) c.split_table-two.ensures.kept in
    let has_b = subst (Has b) (sym is) (still_has a b m.duties (λ e. omega (arith, order.0)) (has a h.0) (has b h.1)) in
    let has_d = subst (Has d) (sym is) (still_has a d m.duties (λ e. omega (arith, order.0, order.1)) (has a h.0) (has d h.2)) in
    among_one d c.split_table-two.new.pass.duties (subst (Has d) (sym too) (still_has b d c.split_table-one.new.pass.duties (λ e. omega (arith, order.1)) has_b has_d))

pub split_table-four-requires-clause-duty : goal.split_table-four-requires-clause-duty
split_table-four-requires-clause-duty g c =
    let a : Duty = Table c.args.first in let b : Duty = Table c.args.second in let d : Duty = Table c.args.third in let f : Duty = Table c.args.fourth in let h = c.requires.duties in let order = c.requires.order in let m = c.meet-events.new.pass in
    let has : (e : Duty) → Has e c.args.pass.now.duties → Has e m.duties = λ e h. subst (λ (t : Ticket). Has e t.duties) (sym c.meet-events.ensures.noted) h in
    let is = ap (λ (t : Ticket). t.duties) c.split_table-one.ensures.kept in let too = ap (λ (t : Ticket). t.duties) c.split_table-two.ensures.kept in let also = ap (λ (t : Ticket). t.duties) c.split_table-three.ensures.kept in
    let has_b = subst (Has b) (sym is) (still_has a b m.duties (λ e. omega (arith, order.0)) (has a h.0) (has b h.1)) in
    let has_d = subst (Has d) (sym is) (still_has a d m.duties (λ e. omega (arith, order.0, order.1)) (has a h.0) (has d h.2)) in
    let has_f = subst (Has f) (sym is) (still_has a f m.duties (λ e. omega (arith, order.0, order.1, order.2)) (has a h.0) (has f h.3)) in
    let still_d = subst (Has d) (sym too) (still_has b d c.split_table-one.new.pass.duties (λ e. omega (arith, order.1)) has_b has_d) in
    let still_f = subst (Has f) (sym too) (still_has b f c.split_table-one.new.pass.duties (λ e. omega (arith, order.1, order.2)) has_b has_f) in
    among_one f c.split_table-three.new.pass.duties (subst (Has f) (sym also) (still_has d f c.split_table-two.new.pass.duties (λ e. omega (arith, order.2)) still_d still_f))
