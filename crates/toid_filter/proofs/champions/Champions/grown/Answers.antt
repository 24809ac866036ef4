use Rattle.std.proofs.Common.{◌∙◌, sym, subst}
use Rattle.toid_filter.specs.Champions.{IsMap}
use Rattle.toid_filter.proofs.ShareLemmas.{grown_is_map, pushed_is_grown}
use Rattle.toid_filter.proofs.champions.Champions.grown.Goals as goal

pub invariant_of-map : goal.invariant_of-map
invariant_of-map c =
    subst IsMap (sym (pushed_is_grown c.args.self.now c.map.inside.hosts c.args.h c.args.mark _ _ _ _ (c.map.view_is ∙ c.in_ok-map.ensures) c.requires.host c.number.ensures.value c.item_mut.ensures.value c.in_ok-push.ensures.ok c.filters.ensures))
    (grown_is_map c.args.self.now c.args.h c.args.mark (subst IsMap (c.map.view_is ∙ c.in_ok-map.ensures) c.map.invariant) c.requires.host c.requires.later)

pub returns : goal.returns
returns c = pushed_is_grown c.args.self.now c.map.inside.hosts c.args.h c.args.mark _ _ _ _ (c.map.view_is ∙ c.in_ok-map.ensures) c.requires.host c.number.ensures.value c.item_mut.ensures.value c.in_ok-push.ensures.ok c.filters.ensures
