use Rattle.std.proofs.Common.{ℕ, arith, ap, ◌∙◌}
use Rattle.causal_deps.specs.Counts.{raised_row}
use Rattle.record_codec.proofs.Fields.{rows_more, row_fails, entries_size}
use Rattle.record_codec.proofs.Places.{exits}
use Rattle.record_codec.proofs.reader.Reader.table.Goals as goal

pub loop-at-preserved : goal.loop-at-preserved
loop-at-preserved c =
    let is = c.raise_row.ensures ∙ ap (λ (k : ℕ). raised_row c.loop-at.table k c.in_ok-row.row) c.datacentre.ensures in
    rows_more _ _ _ _ _ c.loop-at-test.true is c.loop-at.invariant.0 c.loop-at.invariant.1.0 c.in_ok-row.ensures.ok c.loop-at.invariant.1.1 c.in_ok-row.ensures.took

pub returns-in_err-row-clause-fault : goal.returns-in_err-row-clause-fault
returns-in_err-row-clause-fault c =
    exits c.from_residual.result _ c.from_residual.ensures.1 c.in_err-row.ensures.fault
    (row_fails _ _ _ c.loop-at.invariant.1.0 c.loop-at-test.true c.loop-at.invariant.1.1)

pub raise_row-requires-clause-same : goal.raise_row-requires-clause-same
raise_row-requires-clause-same c = omega (arith, c.loop-at.invariant.0.rows, entries_size _ _ _ c.in_ok-row.ensures.ok)
