use Rattle.std.proofs.Common.{◌≤◌, arith, ap, length, refl, subst, ◌∙◌, sym}
use Rattle.std.proofs.lemmas.List.Elements.{All-weaker}
use Rattle.causal_deps.specs.declared.record.Record.{Record}
use Rattle.toid_filter.specs.contracts.filter.Filter.{the_view}
use Rattle.toid_filter.specs.Filters.{FitsFilter, IsSound, activated, is_own}
use Rattle.toid_filter.proofs.FilterLemmas.{steady_out, steady_sound}
use Rattle.toid_filter.proofs.Losing.{few_filtered}
use Rattle.toid_filter.proofs.Releasing.{code_fewer, code_fits, code_free, code_hosts, code_new, code_passes, code_steady, few_from, grown_at, remapped, remapped_only, remapped_released, remapped_tidy, still_released, still_steady}
use Rattle.toid_filter.proofs.filter.Filter.activate.Goals.{in-Some-next, in_default-next}
use Rattle.toid_filter.proofs.filter.Filter.activate.Goals as goal

pub returns-in_err-reserve-clause-sound : goal.returns-in_err-reserve-clause-sound
returns-in_err-reserve-clause-sound c = steady_sound _ (steady_out _ _ c.self.invariant)

pub returns-in_err-lost-clause-sound : goal.returns-in_err-lost-clause-sound
returns-in_err-lost-clause-sound c = steady_sound _ (steady_out _ _ c.self.invariant)

pub take_lost-requires-clause-numbers : goal.take_lost-requires-clause-numbers
take_lost-requires-clause-numbers c = All-weaker (FitsFilter (the_view c.self.inside)) (λ (r : Record). 1 ≤ r.toid) (λ r was. was.first) c.self.inside.held c.self.invariant.tidy.fits

pub invariant_of-self-in-Some-next : goal.invariant_of-self-in-Some-next
invariant_of-self-in-Some-next c = code_steady (remapped (the_view c.self.inside) c.in-Some.mark c.self.invariant c.in-Some.is c.args.map (grown_at (the_view c.self.inside) c.args.self.now c.in-Some.mark c.requires.grown.0 c.args.map c.self.view_is c.in-Some.is c.requires.grown.1 c.requires.grown.2) c.take_lost.new.held c.take_lost.ensures.kept) c.in-Some.mark.host (remapped_tidy (the_view c.self.inside) c.in-Some.mark c.self.invariant c.in-Some.is c.args.map (grown_at (the_view c.self.inside) c.args.self.now c.in-Some.mark c.requires.grown.0 c.args.map c.self.view_is c.in-Some.is c.requires.grown.1 c.requires.grown.2) c.take_lost.new.held c.take_lost.ensures.kept) refl (remapped_only (the_view c.self.inside) c.in-Some.mark c.self.invariant c.in-Some.is c.args.map (grown_at (the_view c.self.inside) c.args.self.now c.in-Some.mark c.requires.grown.0 c.args.map c.self.view_is c.in-Some.is c.requires.grown.1 c.requires.grown.2) c.take_lost.new.held c.take_lost.ensures.kept) c.in-Some-next.rec c.get-first.result c.get-first.ensures (c.take_next-next.ensures.some _ c.in-Some-next.is) c.take_next-next.new.held c.reserve.new.self.items (c.take_next-next.ensures.taken _ c.in-Some-next.is) c.reserve.ensures.items

pub due_count-count-requires-clause-fits : goal.due_count-count-requires-clause-fits
due_count-count-requires-clause-fits c = code_fits (remapped (the_view c.self.inside) c.in-Some.mark c.self.invariant c.in-Some.is c.args.map (grown_at (the_view c.self.inside) c.args.self.now c.in-Some.mark c.requires.grown.0 c.args.map c.self.view_is c.in-Some.is c.requires.grown.1 c.requires.grown.2) c.take_lost.new.held c.take_lost.ensures.kept) c.in-Some.mark.host (remapped_tidy (the_view c.self.inside) c.in-Some.mark c.self.invariant c.in-Some.is c.args.map (grown_at (the_view c.self.inside) c.args.self.now c.in-Some.mark c.requires.grown.0 c.args.map c.self.view_is c.in-Some.is c.requires.grown.1 c.requires.grown.2) c.take_lost.new.held c.take_lost.ensures.kept) refl (remapped_only (the_view c.self.inside) c.in-Some.mark c.self.invariant c.in-Some.is c.args.map (grown_at (the_view c.self.inside) c.args.self.now c.in-Some.mark c.requires.grown.0 c.args.map c.self.view_is c.in-Some.is c.requires.grown.1 c.requires.grown.2) c.take_lost.new.held c.take_lost.ensures.kept) c.in-Some-next.rec c.get-first.result c.get-first.ensures (c.take_next-next.ensures.some _ c.in-Some-next.is) c.take_next-next.new.held c.reserve.new.self.items (c.take_next-next.ensures.taken _ c.in-Some-next.is) c.reserve.ensures.items

pub due_count-count-requires-clause-new : goal.due_count-count-requires-clause-new
due_count-count-requires-clause-new c = code_new (remapped (the_view c.self.inside) c.in-Some.mark c.self.invariant c.in-Some.is c.args.map (grown_at (the_view c.self.inside) c.args.self.now c.in-Some.mark c.requires.grown.0 c.args.map c.self.view_is c.in-Some.is c.requires.grown.1 c.requires.grown.2) c.take_lost.new.held c.take_lost.ensures.kept) c.in-Some.mark.host (remapped_tidy (the_view c.self.inside) c.in-Some.mark c.self.invariant c.in-Some.is c.args.map (grown_at (the_view c.self.inside) c.args.self.now c.in-Some.mark c.requires.grown.0 c.args.map c.self.view_is c.in-Some.is c.requires.grown.1 c.requires.grown.2) c.take_lost.new.held c.take_lost.ensures.kept) refl (remapped_only (the_view c.self.inside) c.in-Some.mark c.self.invariant c.in-Some.is c.args.map (grown_at (the_view c.self.inside) c.args.self.now c.in-Some.mark c.requires.grown.0 c.args.map c.self.view_is c.in-Some.is c.requires.grown.1 c.requires.grown.2) c.take_lost.new.held c.take_lost.ensures.kept) c.in-Some-next.rec c.get-first.result c.get-first.ensures (c.take_next-next.ensures.some _ c.in-Some-next.is) c.take_next-next.new.held c.reserve.new.self.items (c.take_next-next.ensures.taken _ c.in-Some-next.is) c.reserve.ensures.items

pub due_count-count-requires-clause-free : goal.due_count-count-requires-clause-free
due_count-count-requires-clause-free c = code_free (remapped (the_view c.self.inside) c.in-Some.mark c.self.invariant c.in-Some.is c.args.map (grown_at (the_view c.self.inside) c.args.self.now c.in-Some.mark c.requires.grown.0 c.args.map c.self.view_is c.in-Some.is c.requires.grown.1 c.requires.grown.2) c.take_lost.new.held c.take_lost.ensures.kept) c.in-Some.mark.host (remapped_tidy (the_view c.self.inside) c.in-Some.mark c.self.invariant c.in-Some.is c.args.map (grown_at (the_view c.self.inside) c.args.self.now c.in-Some.mark c.requires.grown.0 c.args.map c.self.view_is c.in-Some.is c.requires.grown.1 c.requires.grown.2) c.take_lost.new.held c.take_lost.ensures.kept) refl (remapped_only (the_view c.self.inside) c.in-Some.mark c.self.invariant c.in-Some.is c.args.map (grown_at (the_view c.self.inside) c.args.self.now c.in-Some.mark c.requires.grown.0 c.args.map c.self.view_is c.in-Some.is c.requires.grown.1 c.requires.grown.2) c.take_lost.new.held c.take_lost.ensures.kept) c.in-Some-next.rec c.get-first.result c.get-first.ensures (c.take_next-next.ensures.some _ c.in-Some-next.is) c.take_next-next.new.held c.reserve.new.self.items (c.take_next-next.ensures.taken _ c.in-Some-next.is) c.reserve.ensures.items

pub pass_run-requires-clause-room : goal.pass_run-requires-clause-room
pass_run-requires-clause-room c =
    omega (
      arith,
      c.in_ok-reserve.ensures.ok,
      c.len.ensures,
      code_fewer (remapped (the_view c.self.inside) c.in-Some.mark c.self.invariant c.in-Some.is c.args.map (grown_at (the_view c.self.inside) c.args.self.now c.in-Some.mark c.requires.grown.0 c.args.map c.self.view_is c.in-Some.is c.requires.grown.1 c.requires.grown.2) c.take_lost.new.held c.take_lost.ensures.kept) c.in-Some.mark.host (remapped_tidy (the_view c.self.inside) c.in-Some.mark c.self.invariant c.in-Some.is c.args.map (grown_at (the_view c.self.inside) c.args.self.now c.in-Some.mark c.requires.grown.0 c.args.map c.self.view_is c.in-Some.is c.requires.grown.1 c.requires.grown.2) c.take_lost.new.held c.take_lost.ensures.kept) refl (remapped_only (the_view c.self.inside) c.in-Some.mark c.self.invariant c.in-Some.is c.args.map (grown_at (the_view c.self.inside) c.args.self.now c.in-Some.mark c.requires.grown.0 c.args.map c.self.view_is c.in-Some.is c.requires.grown.1 c.requires.grown.2) c.take_lost.new.held c.take_lost.ensures.kept) c.in-Some-next.rec c.get-first.result c.get-first.ensures (c.take_next-next.ensures.some _ c.in-Some-next.is) c.take_next-next.new.held c.reserve.new.self.items (c.take_next-next.ensures.taken _ c.in-Some-next.is) c.reserve.ensures.items,
      ap (length {A = Record}) c.take_lost.ensures.kept,
      few_filtered (is_own c.args.map c.self.inside.number) c.self.inside.held,
      few_from (remapped (the_view c.self.inside) c.in-Some.mark c.self.invariant c.in-Some.is c.args.map (grown_at (the_view c.self.inside) c.args.self.now c.in-Some.mark c.requires.grown.0 c.args.map c.self.view_is c.in-Some.is c.requires.grown.1 c.requires.grown.2) c.take_lost.new.held c.take_lost.ensures.kept) c.in-Some.mark.host (remapped_tidy (the_view c.self.inside) c.in-Some.mark c.self.invariant c.in-Some.is c.args.map (grown_at (the_view c.self.inside) c.args.self.now c.in-Some.mark c.requires.grown.0 c.args.map c.self.view_is c.in-Some.is c.requires.grown.1 c.requires.grown.2) c.take_lost.new.held c.take_lost.ensures.kept) refl (remapped_only (the_view c.self.inside) c.in-Some.mark c.self.invariant c.in-Some.is c.args.map (grown_at (the_view c.self.inside) c.args.self.now c.in-Some.mark c.requires.grown.0 c.args.map c.self.view_is c.in-Some.is c.requires.grown.1 c.requires.grown.2) c.take_lost.new.held c.take_lost.ensures.kept) c.in-Some-next.rec c.get-first.result c.get-first.ensures (c.take_next-next.ensures.some _ c.in-Some-next.is) c.take_next-next.new.held c.reserve.new.self.items (c.take_next-next.ensures.taken _ c.in-Some-next.is) c.reserve.ensures.items c.in-Some-next.rec.host c.in-Some-next.rec.toid,
      c.due_count-count.ensures.within,
    )

pub pass_run-requires-clause-rising : goal.pass_run-requires-clause-rising
pass_run-requires-clause-rising c = (code_steady (remapped (the_view c.self.inside) c.in-Some.mark c.self.invariant c.in-Some.is c.args.map (grown_at (the_view c.self.inside) c.args.self.now c.in-Some.mark c.requires.grown.0 c.args.map c.self.view_is c.in-Some.is c.requires.grown.1 c.requires.grown.2) c.take_lost.new.held c.take_lost.ensures.kept) c.in-Some.mark.host (remapped_tidy (the_view c.self.inside) c.in-Some.mark c.self.invariant c.in-Some.is c.args.map (grown_at (the_view c.self.inside) c.args.self.now c.in-Some.mark c.requires.grown.0 c.args.map c.self.view_is c.in-Some.is c.requires.grown.1 c.requires.grown.2) c.take_lost.new.held c.take_lost.ensures.kept) refl (remapped_only (the_view c.self.inside) c.in-Some.mark c.self.invariant c.in-Some.is c.args.map (grown_at (the_view c.self.inside) c.args.self.now c.in-Some.mark c.requires.grown.0 c.args.map c.self.view_is c.in-Some.is c.requires.grown.1 c.requires.grown.2) c.take_lost.new.held c.take_lost.ensures.kept) c.in-Some-next.rec c.get-first.result c.get-first.ensures (c.take_next-next.ensures.some _ c.in-Some-next.is) c.take_next-next.new.held c.reserve.new.self.items (c.take_next-next.ensures.taken _ c.in-Some-next.is) c.reserve.ensures.items).tidy.rising

pub pass_run-requires-clause-hosts : goal.pass_run-requires-clause-hosts
pass_run-requires-clause-hosts c = code_hosts (remapped (the_view c.self.inside) c.in-Some.mark c.self.invariant c.in-Some.is c.args.map (grown_at (the_view c.self.inside) c.args.self.now c.in-Some.mark c.requires.grown.0 c.args.map c.self.view_is c.in-Some.is c.requires.grown.1 c.requires.grown.2) c.take_lost.new.held c.take_lost.ensures.kept) c.in-Some.mark.host (remapped_tidy (the_view c.self.inside) c.in-Some.mark c.self.invariant c.in-Some.is c.args.map (grown_at (the_view c.self.inside) c.args.self.now c.in-Some.mark c.requires.grown.0 c.args.map c.self.view_is c.in-Some.is c.requires.grown.1 c.requires.grown.2) c.take_lost.new.held c.take_lost.ensures.kept) refl (remapped_only (the_view c.self.inside) c.in-Some.mark c.self.invariant c.in-Some.is c.args.map (grown_at (the_view c.self.inside) c.args.self.now c.in-Some.mark c.requires.grown.0 c.args.map c.self.view_is c.in-Some.is c.requires.grown.1 c.requires.grown.2) c.take_lost.new.held c.take_lost.ensures.kept) c.in-Some-next.rec c.get-first.result c.get-first.ensures (c.take_next-next.ensures.some _ c.in-Some-next.is) c.take_next-next.new.held c.reserve.new.self.items (c.take_next-next.ensures.taken _ c.in-Some-next.is) c.reserve.ensures.items

pub invariant_of-self-in-Some-next-2 : goal.invariant_of-self-in-Some-next-2
invariant_of-self-in-Some-next-2 c = (code_passes (remapped (the_view c.self.inside) c.in-Some.mark c.self.invariant c.in-Some.is c.args.map (grown_at (the_view c.self.inside) c.args.self.now c.in-Some.mark c.requires.grown.0 c.args.map c.self.view_is c.in-Some.is c.requires.grown.1 c.requires.grown.2) c.take_lost.new.held c.take_lost.ensures.kept) c.in-Some.mark.host (remapped_tidy (the_view c.self.inside) c.in-Some.mark c.self.invariant c.in-Some.is c.args.map (grown_at (the_view c.self.inside) c.args.self.now c.in-Some.mark c.requires.grown.0 c.args.map c.self.view_is c.in-Some.is c.requires.grown.1 c.requires.grown.2) c.take_lost.new.held c.take_lost.ensures.kept) refl (remapped_only (the_view c.self.inside) c.in-Some.mark c.self.invariant c.in-Some.is c.args.map (grown_at (the_view c.self.inside) c.args.self.now c.in-Some.mark c.requires.grown.0 c.args.map c.self.view_is c.in-Some.is c.requires.grown.1 c.requires.grown.2) c.take_lost.new.held c.take_lost.ensures.kept) c.in-Some-next.rec c.get-first.result c.get-first.ensures (c.take_next-next.ensures.some _ c.in-Some-next.is) c.take_next-next.new.held c.reserve.new.self.items (c.take_next-next.ensures.taken _ c.in-Some-next.is) c.reserve.ensures.items c.due_count-count.result c.pass_run.new.reached c.pass_run.new.held c.pass_run.new.out.items c.due_count-count.ensures.due c.due_count-count.ensures.rest c.pass_run.ensures.kept c.pass_run.ensures.raised c.pass_run.ensures.moved).1

pub invariant_of-self-in_default-next : goal.invariant_of-self-in_default-next
invariant_of-self-in_default-next c = still_steady (remapped (the_view c.self.inside) c.in-Some.mark c.self.invariant c.in-Some.is c.args.map (grown_at (the_view c.self.inside) c.args.self.now c.in-Some.mark c.requires.grown.0 c.args.map c.self.view_is c.in-Some.is c.requires.grown.1 c.requires.grown.2) c.take_lost.new.held c.take_lost.ensures.kept) c.in-Some.mark.host (remapped_tidy (the_view c.self.inside) c.in-Some.mark c.self.invariant c.in-Some.is c.args.map (grown_at (the_view c.self.inside) c.args.self.now c.in-Some.mark c.requires.grown.0 c.args.map c.self.view_is c.in-Some.is c.requires.grown.1 c.requires.grown.2) c.take_lost.new.held c.take_lost.ensures.kept) refl (remapped_only (the_view c.self.inside) c.in-Some.mark c.self.invariant c.in-Some.is c.args.map (grown_at (the_view c.self.inside) c.args.self.now c.in-Some.mark c.requires.grown.0 c.args.map c.self.view_is c.in-Some.is c.requires.grown.1 c.requires.grown.2) c.take_lost.new.held c.take_lost.ensures.kept) c.get-first.result c.get-first.ensures (c.take_next-next.ensures.none c.in_default-next.is).1 c.take_next-next.new.held c.reserve.new.self.items (c.take_next-next.ensures.none c.in_default-next.is).0 c.reserve.ensures.items

pub returns-clause-ok : goal.returns-clause-ok
returns-clause-ok c = elim c.match-next.branch [
  | in-Some-next w ↦ w.self-is ∙ (code_passes (remapped (the_view c.self.inside) c.in-Some.mark c.self.invariant c.in-Some.is c.args.map (grown_at (the_view c.self.inside) c.args.self.now c.in-Some.mark c.requires.grown.0 c.args.map c.self.view_is c.in-Some.is c.requires.grown.1 c.requires.grown.2) c.take_lost.new.held c.take_lost.ensures.kept) c.in-Some.mark.host (remapped_tidy (the_view c.self.inside) c.in-Some.mark c.self.invariant c.in-Some.is c.args.map (grown_at (the_view c.self.inside) c.args.self.now c.in-Some.mark c.requires.grown.0 c.args.map c.self.view_is c.in-Some.is c.requires.grown.1 c.requires.grown.2) c.take_lost.new.held c.take_lost.ensures.kept) refl (remapped_only (the_view c.self.inside) c.in-Some.mark c.self.invariant c.in-Some.is c.args.map (grown_at (the_view c.self.inside) c.args.self.now c.in-Some.mark c.requires.grown.0 c.args.map c.self.view_is c.in-Some.is c.requires.grown.1 c.requires.grown.2) c.take_lost.new.held c.take_lost.ensures.kept) w.in-Some-next.rec c.get-first.result c.get-first.ensures (c.take_next-next.ensures.some _ w.in-Some-next.is) c.take_next-next.new.held c.reserve.new.self.items (c.take_next-next.ensures.taken _ w.in-Some-next.is) c.reserve.ensures.items w.due_count-count.result w.pass_run.new.reached w.pass_run.new.held w.pass_run.new.out.items w.due_count-count.ensures.due w.due_count-count.ensures.rest w.pass_run.ensures.kept w.pass_run.ensures.raised w.pass_run.ensures.moved).0 ∙ remapped_released (the_view c.self.inside) c.in-Some.mark c.self.invariant c.in-Some.is c.args.map (grown_at (the_view c.self.inside) c.args.self.now c.in-Some.mark c.requires.grown.0 c.args.map c.self.view_is c.in-Some.is c.requires.grown.1 c.requires.grown.2) c.take_lost.new.held c.take_lost.ensures.kept ∙ ap (activated c.args.map) c.self.view_is
  | in_default-next w ↦ w.self-is ∙ still_released (remapped (the_view c.self.inside) c.in-Some.mark c.self.invariant c.in-Some.is c.args.map (grown_at (the_view c.self.inside) c.args.self.now c.in-Some.mark c.requires.grown.0 c.args.map c.self.view_is c.in-Some.is c.requires.grown.1 c.requires.grown.2) c.take_lost.new.held c.take_lost.ensures.kept) c.in-Some.mark.host (remapped_tidy (the_view c.self.inside) c.in-Some.mark c.self.invariant c.in-Some.is c.args.map (grown_at (the_view c.self.inside) c.args.self.now c.in-Some.mark c.requires.grown.0 c.args.map c.self.view_is c.in-Some.is c.requires.grown.1 c.requires.grown.2) c.take_lost.new.held c.take_lost.ensures.kept) refl (remapped_only (the_view c.self.inside) c.in-Some.mark c.self.invariant c.in-Some.is c.args.map (grown_at (the_view c.self.inside) c.args.self.now c.in-Some.mark c.requires.grown.0 c.args.map c.self.view_is c.in-Some.is c.requires.grown.1 c.requires.grown.2) c.take_lost.new.held c.take_lost.ensures.kept) c.get-first.result c.get-first.ensures (c.take_next-next.ensures.none w.in_default-next.is).1 c.take_next-next.new.held c.reserve.new.self.items (c.take_next-next.ensures.none w.in_default-next.is).0 c.reserve.ensures.items ∙ remapped_released (the_view c.self.inside) c.in-Some.mark c.self.invariant c.in-Some.is c.args.map (grown_at (the_view c.self.inside) c.args.self.now c.in-Some.mark c.requires.grown.0 c.args.map c.self.view_is c.in-Some.is c.requires.grown.1 c.requires.grown.2) c.take_lost.new.held c.take_lost.ensures.kept ∙ ap (activated c.args.map) c.self.view_is
]

pub returns-clause-sound : goal.returns-clause-sound
returns-clause-sound c = elim c.match-next.branch [
  | in-Some-next w ↦ subst IsSound (sym w.self-is) (steady_sound _ (code_passes (remapped (the_view c.self.inside) c.in-Some.mark c.self.invariant c.in-Some.is c.args.map (grown_at (the_view c.self.inside) c.args.self.now c.in-Some.mark c.requires.grown.0 c.args.map c.self.view_is c.in-Some.is c.requires.grown.1 c.requires.grown.2) c.take_lost.new.held c.take_lost.ensures.kept) c.in-Some.mark.host (remapped_tidy (the_view c.self.inside) c.in-Some.mark c.self.invariant c.in-Some.is c.args.map (grown_at (the_view c.self.inside) c.args.self.now c.in-Some.mark c.requires.grown.0 c.args.map c.self.view_is c.in-Some.is c.requires.grown.1 c.requires.grown.2) c.take_lost.new.held c.take_lost.ensures.kept) refl (remapped_only (the_view c.self.inside) c.in-Some.mark c.self.invariant c.in-Some.is c.args.map (grown_at (the_view c.self.inside) c.args.self.now c.in-Some.mark c.requires.grown.0 c.args.map c.self.view_is c.in-Some.is c.requires.grown.1 c.requires.grown.2) c.take_lost.new.held c.take_lost.ensures.kept) w.in-Some-next.rec c.get-first.result c.get-first.ensures (c.take_next-next.ensures.some _ w.in-Some-next.is) c.take_next-next.new.held c.reserve.new.self.items (c.take_next-next.ensures.taken _ w.in-Some-next.is) c.reserve.ensures.items w.due_count-count.result w.pass_run.new.reached w.pass_run.new.held w.pass_run.new.out.items w.due_count-count.ensures.due w.due_count-count.ensures.rest w.pass_run.ensures.kept w.pass_run.ensures.raised w.pass_run.ensures.moved).1)
  | in_default-next w ↦ subst IsSound (sym w.self-is) (steady_sound _ (still_steady (remapped (the_view c.self.inside) c.in-Some.mark c.self.invariant c.in-Some.is c.args.map (grown_at (the_view c.self.inside) c.args.self.now c.in-Some.mark c.requires.grown.0 c.args.map c.self.view_is c.in-Some.is c.requires.grown.1 c.requires.grown.2) c.take_lost.new.held c.take_lost.ensures.kept) c.in-Some.mark.host (remapped_tidy (the_view c.self.inside) c.in-Some.mark c.self.invariant c.in-Some.is c.args.map (grown_at (the_view c.self.inside) c.args.self.now c.in-Some.mark c.requires.grown.0 c.args.map c.self.view_is c.in-Some.is c.requires.grown.1 c.requires.grown.2) c.take_lost.new.held c.take_lost.ensures.kept) refl (remapped_only (the_view c.self.inside) c.in-Some.mark c.self.invariant c.in-Some.is c.args.map (grown_at (the_view c.self.inside) c.args.self.now c.in-Some.mark c.requires.grown.0 c.args.map c.self.view_is c.in-Some.is c.requires.grown.1 c.requires.grown.2) c.take_lost.new.held c.take_lost.ensures.kept) c.get-first.result c.get-first.ensures (c.take_next-next.ensures.none w.in_default-next.is).1 c.take_next-next.new.held c.reserve.new.self.items (c.take_next-next.ensures.none w.in_default-next.is).0 c.reserve.ensures.items))
]
