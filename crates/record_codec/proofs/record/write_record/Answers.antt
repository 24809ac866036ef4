use Rattle.std.proofs.lemmas.Result.{on_ok_weaker}
use Rattle.record_codec.proofs.Pieces.{pieces_4}
use Rattle.record_codec.proofs.record.write_record.Goals as goal

pub returns-clause-ok : goal.returns-clause-ok
returns-clause-ok c =
    on_ok_weaker c.body.result (pieces_4 _ _ _ _ _ _ _ _ _ c.in_ok-write_head.ensures c.in_ok-dep.ensures c.in_ok-names.ensures.ok) c.body.ensures.ok
