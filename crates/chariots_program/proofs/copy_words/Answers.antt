use Rattle.std.proofs.Common.{ap, map, map-id, refl, sym, ◌∙◌}
use Rattle.std.specs.Prelude.{string_bytes}
use Rattle.std.proofs.lemmas.Iterator.Adapters.{YieldsList-from_vec, YieldsList-from_skip}
use Rattle.std.proofs.lemmas.Iterator.Consumers.{YieldsList-at, YieldsList-end}
use Rattle.chariots_program.proofs.copy_words.Goals as goal

-- the iterator gave all but its first, one after the other
pub returns : goal.returns
returns c held =
    let source = YieldsList-at c.skip-word-items.ensures.source (YieldsList-from_vec _ refl held) in
    let gives = YieldsList-at c.into_iter-word-iterator.ensures.into_iter_gives (YieldsList-from_skip 1 source c.skip-word-items.ensures.count) in
    let all = YieldsList-end gives c.loop-word.yielded _ c.loop-word.yielded_by c.next.result c.next.new.self c.in-None.is c.next.ensures.steps in
    c.loop-word.invariant ∙ ap (map string_bytes) (sym (map-id c.loop-word.yielded) ∙ all.0)
