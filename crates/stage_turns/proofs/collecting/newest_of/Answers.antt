use Rattle.std.proofs.Common.{◌≡◌, Some, slice_get, rules}
use Rattle.causal_deps.specs.declared.record.Kind.TheVariants.{Put}
use Rattle.stage_turns.proofs.CollectingLemmas.{newest_told}
use Rattle.stage_turns.proofs.collecting.newest_of.Goals as goal

pub returns-in-Some : goal.returns-in-Some
returns-in-Some c =
    let put : c.args.rec.now.kind ≡ Put = search rules in
    let first : slice_get c.args.rec.now.tags 0 ≡ Some c.in-Some.key.now = search rules in
    newest_told c.args.indexers.now c.args.rec.now c.args.s c.in-Some.key.now c.home_indexer.result.now c.newest.result c.newest_lid.result put first c.home_indexer.ensures.value c.newest.ensures.position c.newest_lid.ensures
