use Rattle.std.proofs.Common.{◌-◌, ◌++◌, List, take, reverse, Some, None, filter_map, ap, sym, ◌∙◌, arith}
use Rattle.causal_deps.specs.declared.record.Place.{Place}
use Rattle.tag_indexer.specs.TagIndexes.{place_tagged_at}
use Rattle.tag_indexer.proofs.ScanLemmas.{split_more, found_more}
use Rattle.tag_indexer.proofs.rows.last_places.Goals as goal

pub loop-at-preserved-in-Continue-1 : goal.loop-at-preserved-in-Continue-1
loop-at-preserved-in-Continue-1 c =
    let inv = c.loop-at.invariant in
    record {
      within = omega (arith, inv.within);
      few = omega (arith, c.in_ok-push.ensures.len, c.len.ensures, c.if-len-count.true);
      split = split_more (place_tagged_at c.args.rows.now c.args.tag.now) c.args.lids.now c.loop-at.at c.loop-at.places.items (Some c.in-Some.place) c.loop-at-test.true inv.within inv.split c.in-Some.ensures
          ∙ ap (λ (ps : List Place). filter_map (place_tagged_at c.args.rows.now c.args.tag.now) (take (c.loop-at.at - 1) c.args.lids.now) ++ ps) (sym (ap (λ (ps : List Place). reverse ps) c.in_ok-push.ensures.items ∙ found_more c.loop-at.places.items c.in-Some.place));
    }

pub loop-at-preserved : goal.loop-at-preserved
loop-at-preserved c =
    let inv = c.loop-at.invariant in
    record {
      within = omega (arith, inv.within);
      few = inv.few;
      split = split_more (place_tagged_at c.args.rows.now c.args.tag.now) c.args.lids.now c.loop-at.at c.loop-at.places.items None c.loop-at-test.true inv.within inv.split c.in_default.ensures;
    }
