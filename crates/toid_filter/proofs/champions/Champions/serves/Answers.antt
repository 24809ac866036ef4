use Rattle.std.proofs.Common.{arith, rules, refl}
use Rattle.toid_filter.proofs.ShareLemmas.{served_here, served_later, served_apart, served_last, served_map, item_serves}
use Rattle.toid_filter.proofs.champions.Champions.serves.Goals as goal

pub returns-then-serves : goal.returns-then-serves
returns-then-serves c = (
  λ _. (served_map _ _ _ _ _ _ c.shares-share-items.ensures.value).0 (c.loop-share.invariant.found (served_here _ _ _ _ c.shares-share-items.ensures.shares (omega arith) _ _ _ _ _ c.min.ensures (c.serves.ensures.0 c.if-serves.true))),
  λ _. refl,
)

pub loop-share-preserved : goal.loop-share-preserved
loop-share-preserved c = record {
  found = λ later. c.loop-share.invariant.found (served_later _ _ _ _ c.shares-share-items.ensures.shares (omega arith) _ _ _ _ _ c.max-low.ensures later);
  left = λ whole. served_apart _ _ _ _ c.shares-share-items.ensures.shares (omega arith) _ _ _ _ _ _ c.min.ensures c.max-low.ensures (λ here. absurd (cc (c.serves.ensures.1 here))) (c.loop-share.invariant.left whole);
  starts = search rules;
  some = item_serves _ _ _ c.loop-share.found c.shares-share-items.ensures.shares (omega arith) 0 0 0 0;
}

pub returns : goal.returns
returns c = (
  λ is. (served_map _ _ _ _ _ _ c.shares-share-items.ensures.value).0 (c.loop-share.invariant.found ((served_last _ _ _ _ _ _ _ c.loop-share-test.false).1 (c.serves-2.ensures.0 is))),
  λ whole. c.serves-2.ensures.1 ((served_last _ _ _ _ _ _ _ c.loop-share-test.false).0 (c.loop-share.invariant.left ((served_map _ _ _ _ _ _ c.shares-share-items.ensures.value).1 whole))),
)
