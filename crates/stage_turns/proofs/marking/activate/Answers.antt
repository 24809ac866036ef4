use Rattle.std.proofs.Common.{◌≡◌, ◌∙◌, ◌++◌, [], map, ap, ap₂, arith, length, refl, subst, sym}
use Rattle.std.specs.List.{flat_map, fold}
use Rattle.causal_deps.specs.declared.record.Item.TheVariants.{External}
use Rattle.stage_world.specs.Turns.{taken_by}
use Rattle.stage_marks.specs.Marks.{next_told, value_of}
use Rattle.toid_filter.specs.Champions.{last_share}
use Rattle.toid_filter.specs.Filters.{activated, handed_out}
use Rattle.toid_filter.specs.Marks.{filters_grown, grown_by}
use Rattle.stage_turns.specs.Flushing.{MayFlush}
use Rattle.stage_turns.specs.Marking.{HasFilters, MayMark, filters_with}
use Rattle.stage_turns.proofs.MarkingLemmas.{activates_is, all_heard, are_waiting, filters_are, may_flush_handed}
use Rattle.stage_turns.proofs.marking.activate.Goals as goal

pub grown-requires-clause-later : goal.grown-requires-clause-later
grown-requires-clause-later c = (subst (λ o. MayMark c.args.map.now o c.args.filters.now) (sym c.in-Some.ensures) c.requires.may).sound.later (value_of c.in-Some.on) refl

pub grown-requires-clause-room : goal.grown-requires-clause-room
grown-requires-clause-room c = (subst (λ o. MayMark c.args.map.now o c.args.filters.now) (sym c.in-Some.ensures) c.requires.may).sound.room (value_of c.in-Some.on) refl

pub activate_all-requires : goal.activate_all-requires
activate_all-requires c = are_waiting c.args.map.now (value_of c.in-Some.on) c.args.filters.now (subst (λ o. MayMark c.args.map.now o c.args.filters.now) (sym c.in-Some.ensures) c.requires.may) (all_heard (value_of c.in-Some.on) (length c.args.filters.now) (ap (λ o. next_told o (length c.args.filters.now)) c.in-Some.ensures ∙ c.requires.activates)) c.in_ok-grown.grown c.in_ok-grown.ensures

pub flush-requires : goal.flush-requires
flush-requires c =
    subst (λ g. MayFlush g c.add_filter.new.filters c.activate_all.new.handed) (sym c.in_ok-grown.ensures)
    (subst (λ fs. MayFlush (grown_by (value_of c.in-Some.on) c.args.map.now) fs c.activate_all.new.handed) (sym (c.in_ok-add_filter.ensures ∙ ap₂ (λ g fs. filters_with g c.filters-serving.result fs) c.in_ok-grown.ensures (c.in_ok-activate_all.ensures.filters ∙ ap (λ g. map (activated g) c.args.filters.now) c.in_ok-grown.ensures) ∙ filters_are c.args.map.now (value_of c.in-Some.on) c.args.filters.now (subst (λ o. MayMark c.args.map.now o c.args.filters.now) (sym c.in-Some.ensures) c.requires.may) (all_heard (value_of c.in-Some.on) (length c.args.filters.now) (ap (λ o. next_told o (length c.args.filters.now)) c.in-Some.ensures ∙ c.requires.activates)) c.filters-serving.result (c.filters-serving.ensures ∙ ap (λ g. (last_share g c.in-Some.on.host).filters) c.in_ok-grown.ensures)))
    (subst (λ items. MayFlush (grown_by (value_of c.in-Some.on) c.args.map.now) (filters_grown (value_of c.in-Some.on) c.args.map.now c.args.filters.now) items) (sym (c.in_ok-activate_all.ensures.handed ∙ ap (λ items. items ++ map External (flat_map (handed_out c.in_ok-grown.grown) c.args.filters.now)) c.new-handed.ensures ∙ ap (λ g. map External (flat_map (handed_out g) c.args.filters.now)) c.in_ok-grown.ensures)) (may_flush_handed c.args.map.now (value_of c.in-Some.on) c.args.filters.now (subst (λ o. MayMark c.args.map.now o c.args.filters.now) (sym c.in-Some.ensures) c.requires.may) (all_heard (value_of c.in-Some.on) (length c.args.filters.now) (ap (λ o. next_told o (length c.args.filters.now)) c.in-Some.ensures ∙ c.requires.activates)))))

pub returns : goal.returns
returns c z has =
    activates_is c.args.map.now (value_of c.in-Some.on) c.args.filters.now (subst (λ o. MayMark c.args.map.now o c.args.filters.now) (sym c.in-Some.ensures) c.requires.may) (all_heard (value_of c.in-Some.on) (length c.args.filters.now) (ap (λ o. next_told o (length c.args.filters.now)) c.in-Some.ensures ∙ c.requires.activates)) z (subst (λ o. HasFilters z c.args.map.now o c.args.filters.now) (sym c.in-Some.ensures) has) c.in_ok-grown.grown c.flush.new.filters c.done.new.self c.filters-serving.result c.told.result c.in_ok-grown.ensures
    (c.in_ok-flush.ensures.filters ∙ ap (λ g. fold (taken_by g) c.add_filter.new.filters c.activate_all.new.handed) c.in_ok-grown.ensures ∙ ap₂ (λ fs items. fold (taken_by (grown_by (value_of c.in-Some.on) c.args.map.now)) fs items) (c.in_ok-add_filter.ensures ∙ ap₂ (λ g fs. filters_with g c.filters-serving.result fs) c.in_ok-grown.ensures (c.in_ok-activate_all.ensures.filters ∙ ap (λ g. map (activated g) c.args.filters.now) c.in_ok-grown.ensures) ∙ filters_are c.args.map.now (value_of c.in-Some.on) c.args.filters.now (subst (λ o. MayMark c.args.map.now o c.args.filters.now) (sym c.in-Some.ensures) c.requires.may) (all_heard (value_of c.in-Some.on) (length c.args.filters.now) (ap (λ o. next_told o (length c.args.filters.now)) c.in-Some.ensures ∙ c.requires.activates)) c.filters-serving.result (c.filters-serving.ensures ∙ ap (λ g. (last_share g c.in-Some.on.host).filters) c.in_ok-grown.ensures)) (c.in_ok-activate_all.ensures.handed ∙ ap (λ items. items ++ map External (flat_map (handed_out c.in_ok-grown.grown) c.args.filters.now)) c.new-handed.ensures ∙ ap (λ g. map External (flat_map (handed_out g) c.args.filters.now)) c.in_ok-grown.ensures))
    c.done.ensures (c.filters-serving.ensures ∙ ap (λ g. (last_share g c.in-Some.on.host).filters) c.in_ok-grown.ensures) c.told.ensures
