use Rattle.std.proofs.Common.{◌≡◌, drop}
use Rattle.std.specs.List.{fold}
use Rattle.stage_turns.specs.Stamping.{CanAck, acked_by}
use Rattle.stage_turns.proofs.stamping.acknowledge_all.Given as goal

abbrev pub invariant-loop-stamp : goal.invariant-loop-stamp
invariant-loop-stamp l = record {
  can : CanAck l.dc (drop l.stamp-index l.stamps) l.sessions;
  same : fold (acked_by l.dc) l.sessions (drop l.stamp-index l.stamps) ≡ fold (acked_by l.dc) l.initial.sessions l.stamps;
}
