use Rattle.top_calls.proofs.Complete.{passed_on}
use Rattle.top_calls.proofs.storing.read.Goals as goal

pub returns-in_err-bytes-clause-refused : goal.returns-in_err-bytes-clause-refused
returns-in_err-bytes-clause-refused g c = passed_on _ _ _ _ _ c.from_residual.result _ c.from_residual.ensures.1 c.in_err-bytes.ensures.refused
