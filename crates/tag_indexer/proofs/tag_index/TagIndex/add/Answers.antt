use Rattle.std.proofs.Common.{ap, ◌∙◌, subst, rules, ℕ, List, [], ◌∷◌, ◌++◌}
use Rattle.std.specs.BTreeMap.{BTreeMap}
use Rattle.std.specs.List.{Contains}
use Rattle.tag_indexer.specs.TagIndexes.{AreLidsRising, ListsAll}
use Rattle.tag_indexer.proofs.TagLemmas.{updated_rises, updated_keeps, updated_by, listed_as, one_rises, none_kept}
use Rattle.tag_indexer.proofs.tag_index.TagIndex.add.Goals as goal

pub add_lid-requires : goal.add_lid-requires
add_lid-requires c = subst AreLidsRising (listed_as c.self.inside.lists.entries c.args.tag.now c.in-Some.lids.now c.in-Some.ensures.value) (c.self.invariant c.args.tag.now)

pub invariant_of-self : goal.invariant_of-self
invariant_of-self c =
    updated_rises c.self.inside.lists.entries (c.get_mut.follows.lender c.add_lid.new.lids).entries c.args.tag.now c.add_lid.new.lids
    ((c.get_mut.follows.holds c.add_lid.new.lids).3 (search rules)).0 c.self.invariant c.add_lid.ensures.rising

pub returns-in-Some-clause-kept : goal.returns-in-Some-clause-kept
returns-in-Some-clause-kept c =
    subst (λ m. ListsAll m (c.get_mut.follows.lender c.add_lid.new.lids).entries) c.self.view_is
    (updated_keeps c.self.inside.lists.entries (c.get_mut.follows.lender c.add_lid.new.lids).entries c.args.tag.now c.add_lid.new.lids
    ((c.get_mut.follows.holds c.add_lid.new.lids).3 (search rules)).0
    (λ p has. c.add_lid.ensures.kept p (subst (λ lids. Contains lids p) (listed_as c.self.inside.lists.entries c.args.tag.now c.in-Some.lids.now c.in-Some.ensures.value) has)))

pub invariant_of-self-2 : goal.invariant_of-self-2
invariant_of-self-2 c =
    let is = updated_by c.self.inside.lists.entries c.get_mut.follows.lender-at-none.entries c.insert.new.self.entries c.in_ok-copy.field-0 c.args.tag.now c.push.new.self
    (ap (λ (m : BTreeMap (List ℕ) (List ℕ)). m.entries) c.get_mut.follows.holds-at-none) c.in_ok-copy.ensures c.in_ok-insert.ensures.updates.0 in
    updated_rises c.self.inside.lists.entries c.insert.new.self.entries c.args.tag.now c.push.new.self is c.self.invariant
    (one_rises c.push.new.self c.args.lid (c.in_ok-push.ensures.ok ∙ ap (λ (xs : List ℕ). xs ++ c.args.lid ∷ []) c.new-lids.ensures))

pub returns-clause-kept : goal.returns-clause-kept
returns-clause-kept c =
    let is = updated_by c.self.inside.lists.entries c.get_mut.follows.lender-at-none.entries c.insert.new.self.entries c.in_ok-copy.field-0 c.args.tag.now c.push.new.self
    (ap (λ (m : BTreeMap (List ℕ) (List ℕ)). m.entries) c.get_mut.follows.holds-at-none) c.in_ok-copy.ensures c.in_ok-insert.ensures.updates.0 in
    subst (λ m. ListsAll m c.insert.new.self.entries) c.self.view_is
    (updated_keeps c.self.inside.lists.entries c.insert.new.self.entries c.args.tag.now c.push.new.self is (none_kept c.self.inside.lists.entries c.args.tag.now c.push.new.self c.in_default.ensures.value))
