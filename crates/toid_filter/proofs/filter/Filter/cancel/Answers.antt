use Rattle.std.proofs.Common.{arith, ap, refl, subst, ◌∙◌, sym}
use Rattle.toid_filter.specs.contracts.filter.Filter.{the_view}
use Rattle.toid_filter.specs.Filters.{FilterState, IsSteady, cancelled}
use Rattle.toid_filter.proofs.FilterLemmas.{steady_out, steady_sound}
use Rattle.toid_filter.proofs.Releasing.{code_fewer, code_fits, code_free, code_hosts, code_new, code_passes, code_steady, few_from, no_mark, still_released, still_steady, unmarked, unmarked_only, unmarked_tidy}
use Rattle.toid_filter.proofs.filter.Filter.cancel.Goals as goal

pub returns-in_default-clause-ok : goal.returns-in_default-clause-ok
returns-in_default-clause-ok c = sym (no_mark c.args.self.now (subst IsSteady c.self.view_is c.self.invariant) (ap (λ (f : FilterState). f.accepted) (sym c.self.view_is) ∙ c.in_default.is))

pub returns-in_default-clause-sound : goal.returns-in_default-clause-sound
returns-in_default-clause-sound c = steady_sound _ (subst IsSteady c.self.view_is c.self.invariant)

pub returns-in_err-reserve-clause-sound : goal.returns-in_err-reserve-clause-sound
returns-in_err-reserve-clause-sound c = steady_sound _ (steady_out _ _ c.self.invariant)

pub invariant_of-self-in-Some-next : goal.invariant_of-self-in-Some-next
invariant_of-self-in-Some-next c = code_steady (unmarked (the_view c.self.inside) c.in-Some.mark c.self.invariant c.in-Some.is) c.in-Some.mark.host (unmarked_tidy (the_view c.self.inside) c.in-Some.mark c.self.invariant c.in-Some.is) refl (unmarked_only (the_view c.self.inside) c.in-Some.mark c.self.invariant c.in-Some.is) c.in-Some-next.rec c.get-first.result c.get-first.ensures (c.take_next-next.ensures.some _ c.in-Some-next.is) c.take_next-next.new.held c.reserve.new.self.items (c.take_next-next.ensures.taken _ c.in-Some-next.is) c.reserve.ensures.items

pub due_count-count-requires-clause-fits : goal.due_count-count-requires-clause-fits
due_count-count-requires-clause-fits c = code_fits (unmarked (the_view c.self.inside) c.in-Some.mark c.self.invariant c.in-Some.is) c.in-Some.mark.host (unmarked_tidy (the_view c.self.inside) c.in-Some.mark c.self.invariant c.in-Some.is) refl (unmarked_only (the_view c.self.inside) c.in-Some.mark c.self.invariant c.in-Some.is) c.in-Some-next.rec c.get-first.result c.get-first.ensures (c.take_next-next.ensures.some _ c.in-Some-next.is) c.take_next-next.new.held c.reserve.new.self.items (c.take_next-next.ensures.taken _ c.in-Some-next.is) c.reserve.ensures.items

pub due_count-count-requires-clause-new : goal.due_count-count-requires-clause-new
due_count-count-requires-clause-new c = code_new (unmarked (the_view c.self.inside) c.in-Some.mark c.self.invariant c.in-Some.is) c.in-Some.mark.host (unmarked_tidy (the_view c.self.inside) c.in-Some.mark c.self.invariant c.in-Some.is) refl (unmarked_only (the_view c.self.inside) c.in-Some.mark c.self.invariant c.in-Some.is) c.in-Some-next.rec c.get-first.result c.get-first.ensures (c.take_next-next.ensures.some _ c.in-Some-next.is) c.take_next-next.new.held c.reserve.new.self.items (c.take_next-next.ensures.taken _ c.in-Some-next.is) c.reserve.ensures.items

pub due_count-count-requires-clause-free : goal.due_count-count-requires-clause-free
due_count-count-requires-clause-free c = code_free (unmarked (the_view c.self.inside) c.in-Some.mark c.self.invariant c.in-Some.is) c.in-Some.mark.host (unmarked_tidy (the_view c.self.inside) c.in-Some.mark c.self.invariant c.in-Some.is) refl (unmarked_only (the_view c.self.inside) c.in-Some.mark c.self.invariant c.in-Some.is) c.in-Some-next.rec c.get-first.result c.get-first.ensures (c.take_next-next.ensures.some _ c.in-Some-next.is) c.take_next-next.new.held c.reserve.new.self.items (c.take_next-next.ensures.taken _ c.in-Some-next.is) c.reserve.ensures.items

pub pass_run-requires-clause-room : goal.pass_run-requires-clause-room
pass_run-requires-clause-room c =
    omega (arith, c.in_ok-reserve.ensures.ok, c.len.ensures, code_fewer (unmarked (the_view c.self.inside) c.in-Some.mark c.self.invariant c.in-Some.is) c.in-Some.mark.host (unmarked_tidy (the_view c.self.inside) c.in-Some.mark c.self.invariant c.in-Some.is) refl (unmarked_only (the_view c.self.inside) c.in-Some.mark c.self.invariant c.in-Some.is) c.in-Some-next.rec c.get-first.result c.get-first.ensures (c.take_next-next.ensures.some _ c.in-Some-next.is) c.take_next-next.new.held c.reserve.new.self.items (c.take_next-next.ensures.taken _ c.in-Some-next.is) c.reserve.ensures.items, few_from (unmarked (the_view c.self.inside) c.in-Some.mark c.self.invariant c.in-Some.is) c.in-Some.mark.host (unmarked_tidy (the_view c.self.inside) c.in-Some.mark c.self.invariant c.in-Some.is) refl (unmarked_only (the_view c.self.inside) c.in-Some.mark c.self.invariant c.in-Some.is) c.in-Some-next.rec c.get-first.result c.get-first.ensures (c.take_next-next.ensures.some _ c.in-Some-next.is) c.take_next-next.new.held c.reserve.new.self.items (c.take_next-next.ensures.taken _ c.in-Some-next.is) c.reserve.ensures.items c.in-Some-next.rec.host c.in-Some-next.rec.toid, c.due_count-count.ensures.within)

pub pass_run-requires-clause-rising : goal.pass_run-requires-clause-rising
pass_run-requires-clause-rising c = (code_steady (unmarked (the_view c.self.inside) c.in-Some.mark c.self.invariant c.in-Some.is) c.in-Some.mark.host (unmarked_tidy (the_view c.self.inside) c.in-Some.mark c.self.invariant c.in-Some.is) refl (unmarked_only (the_view c.self.inside) c.in-Some.mark c.self.invariant c.in-Some.is) c.in-Some-next.rec c.get-first.result c.get-first.ensures (c.take_next-next.ensures.some _ c.in-Some-next.is) c.take_next-next.new.held c.reserve.new.self.items (c.take_next-next.ensures.taken _ c.in-Some-next.is) c.reserve.ensures.items).tidy.rising

pub pass_run-requires-clause-hosts : goal.pass_run-requires-clause-hosts
pass_run-requires-clause-hosts c = code_hosts (unmarked (the_view c.self.inside) c.in-Some.mark c.self.invariant c.in-Some.is) c.in-Some.mark.host (unmarked_tidy (the_view c.self.inside) c.in-Some.mark c.self.invariant c.in-Some.is) refl (unmarked_only (the_view c.self.inside) c.in-Some.mark c.self.invariant c.in-Some.is) c.in-Some-next.rec c.get-first.result c.get-first.ensures (c.take_next-next.ensures.some _ c.in-Some-next.is) c.take_next-next.new.held c.reserve.new.self.items (c.take_next-next.ensures.taken _ c.in-Some-next.is) c.reserve.ensures.items

pub invariant_of-self-in-Some-next-2 : goal.invariant_of-self-in-Some-next-2
invariant_of-self-in-Some-next-2 c = (code_passes (unmarked (the_view c.self.inside) c.in-Some.mark c.self.invariant c.in-Some.is) c.in-Some.mark.host (unmarked_tidy (the_view c.self.inside) c.in-Some.mark c.self.invariant c.in-Some.is) refl (unmarked_only (the_view c.self.inside) c.in-Some.mark c.self.invariant c.in-Some.is) c.in-Some-next.rec c.get-first.result c.get-first.ensures (c.take_next-next.ensures.some _ c.in-Some-next.is) c.take_next-next.new.held c.reserve.new.self.items (c.take_next-next.ensures.taken _ c.in-Some-next.is) c.reserve.ensures.items c.due_count-count.result c.pass_run.new.reached c.pass_run.new.held c.pass_run.new.out.items c.due_count-count.ensures.due c.due_count-count.ensures.rest c.pass_run.ensures.kept c.pass_run.ensures.raised c.pass_run.ensures.moved).1

pub returns-in-Some-next-clause-ok : goal.returns-in-Some-next-clause-ok
returns-in-Some-next-clause-ok c = (code_passes (unmarked (the_view c.self.inside) c.in-Some.mark c.self.invariant c.in-Some.is) c.in-Some.mark.host (unmarked_tidy (the_view c.self.inside) c.in-Some.mark c.self.invariant c.in-Some.is) refl (unmarked_only (the_view c.self.inside) c.in-Some.mark c.self.invariant c.in-Some.is) c.in-Some-next.rec c.get-first.result c.get-first.ensures (c.take_next-next.ensures.some _ c.in-Some-next.is) c.take_next-next.new.held c.reserve.new.self.items (c.take_next-next.ensures.taken _ c.in-Some-next.is) c.reserve.ensures.items c.due_count-count.result c.pass_run.new.reached c.pass_run.new.held c.pass_run.new.out.items c.due_count-count.ensures.due c.due_count-count.ensures.rest c.pass_run.ensures.kept c.pass_run.ensures.raised c.pass_run.ensures.moved).0 ∙ ap cancelled c.self.view_is

pub returns-in-Some-next-clause-sound : goal.returns-in-Some-next-clause-sound
returns-in-Some-next-clause-sound c = steady_sound _ (code_passes (unmarked (the_view c.self.inside) c.in-Some.mark c.self.invariant c.in-Some.is) c.in-Some.mark.host (unmarked_tidy (the_view c.self.inside) c.in-Some.mark c.self.invariant c.in-Some.is) refl (unmarked_only (the_view c.self.inside) c.in-Some.mark c.self.invariant c.in-Some.is) c.in-Some-next.rec c.get-first.result c.get-first.ensures (c.take_next-next.ensures.some _ c.in-Some-next.is) c.take_next-next.new.held c.reserve.new.self.items (c.take_next-next.ensures.taken _ c.in-Some-next.is) c.reserve.ensures.items c.due_count-count.result c.pass_run.new.reached c.pass_run.new.held c.pass_run.new.out.items c.due_count-count.ensures.due c.due_count-count.ensures.rest c.pass_run.ensures.kept c.pass_run.ensures.raised c.pass_run.ensures.moved).1

pub invariant_of-self-in_default-next : goal.invariant_of-self-in_default-next
invariant_of-self-in_default-next c = still_steady (unmarked (the_view c.self.inside) c.in-Some.mark c.self.invariant c.in-Some.is) c.in-Some.mark.host (unmarked_tidy (the_view c.self.inside) c.in-Some.mark c.self.invariant c.in-Some.is) refl (unmarked_only (the_view c.self.inside) c.in-Some.mark c.self.invariant c.in-Some.is) c.get-first.result c.get-first.ensures (c.take_next-next.ensures.none c.in_default-next.is).1 c.take_next-next.new.held c.reserve.new.self.items (c.take_next-next.ensures.none c.in_default-next.is).0 c.reserve.ensures.items

pub returns-in_default-next-clause-ok : goal.returns-in_default-next-clause-ok
returns-in_default-next-clause-ok c = still_released (unmarked (the_view c.self.inside) c.in-Some.mark c.self.invariant c.in-Some.is) c.in-Some.mark.host (unmarked_tidy (the_view c.self.inside) c.in-Some.mark c.self.invariant c.in-Some.is) refl (unmarked_only (the_view c.self.inside) c.in-Some.mark c.self.invariant c.in-Some.is) c.get-first.result c.get-first.ensures (c.take_next-next.ensures.none c.in_default-next.is).1 c.take_next-next.new.held c.reserve.new.self.items (c.take_next-next.ensures.none c.in_default-next.is).0 c.reserve.ensures.items ∙ ap cancelled c.self.view_is

pub returns-in_default-next-clause-sound : goal.returns-in_default-next-clause-sound
returns-in_default-next-clause-sound c = steady_sound _ (still_steady (unmarked (the_view c.self.inside) c.in-Some.mark c.self.invariant c.in-Some.is) c.in-Some.mark.host (unmarked_tidy (the_view c.self.inside) c.in-Some.mark c.self.invariant c.in-Some.is) refl (unmarked_only (the_view c.self.inside) c.in-Some.mark c.self.invariant c.in-Some.is) c.get-first.result c.get-first.ensures (c.take_next-next.ensures.none c.in_default-next.is).1 c.take_next-next.new.held c.reserve.new.self.items (c.take_next-next.ensures.none c.in_default-next.is).0 c.reserve.ensures.items)
