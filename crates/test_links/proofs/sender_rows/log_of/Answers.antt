use Rattle.std.proofs.Common.{◌∙◌}
use Rattle.test_links.proofs.SenderRows.{pushed}
use Rattle.test_links.proofs.sender_rows.log_of.Goals as goal
use Rattle.test_links.proofs.sender_rows.log_of.Goals.{then-host-eq65+in_ok-body_of+in_ok-numbered+in_ok-push, else-host-eq65+in_ok-body_of-2+in_ok-numbered-2+in_ok-push-2}

pub loop-host-preserved : goal.loop-host-preserved
loop-host-preserved c = elim c.if-host-eq65.branch [
  | then-host-eq65+in_ok-body_of+in_ok-numbered+in_ok-push w ↦
      pushed c.loop-host.log c.if-host-eq65.log _ c.loop-host.invariant w.in_ok-numbered.ensures (w.log-is ∙ w.in_ok-push.ensures.ok)
  | else-host-eq65+in_ok-body_of-2+in_ok-numbered-2+in_ok-push-2 w ↦
      pushed c.loop-host.log c.if-host-eq65.log _ c.loop-host.invariant w.in_ok-numbered-2.ensures (w.log-is ∙ w.in_ok-push-2.ensures.ok)
]
