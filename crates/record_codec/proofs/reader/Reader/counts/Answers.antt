use Rattle.std.proofs.Common.{ℕ, arith, ap, ◌∙◌, set, length}
use Rattle.std.proofs.lemmas.List.{length-set}
use Rattle.record_codec.proofs.Fields.{entries_more, entry_fails}
use Rattle.record_codec.proofs.Places.{exits}
use Rattle.record_codec.proofs.reader.Reader.counts.Goals as goal

pub loop-at-preserved : goal.loop-at-preserved
loop-at-preserved c =
    let is = c.put.ensures ∙ ap (λ (k : ℕ). set c.loop-at.counts k c.in_ok-count.count) c.datacentre.ensures in
    let more = entries_more _ _ _ _ _ _ _ c.range_of-low.ensures.low c.range_of-low.ensures.high (omega (arith, c.loop-at.invariant.0, c.loop-at-test.true)) is
    c.loop-at.invariant.1.0 c.in_ok-count.ensures.ok c.loop-at.invariant.1.1 c.in_ok-count.ensures.took in
    (omega (arith, ap length c.put.ensures, length-set c.loop-at.counts c.datacentre.result c.in_ok-count.count, c.loop-at.invariant.0), more)

pub returns-in_err-count-clause-fault : goal.returns-in_err-count-clause-fault
returns-in_err-count-clause-fault c =
    exits c.from_residual.result _ c.from_residual.ensures.1 c.in_err-count.ensures.fault
    (entry_fails _ _ _ _ _ _ c.requires.own c.range_of-low.ensures.low c.range_of-low.ensures.high c.loop-at.invariant.1.0 c.loop-at-test.true c.loop-at.invariant.1.1)
