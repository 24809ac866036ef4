use Rattle.record_codec.proofs.Told.{IsTelling}
use Rattle.record_codec.proofs.reader.Reader.told_of.Given as goal

abbrev pub invariant-loop-told : goal.invariant-loop-told
invariant-loop-told l = IsTelling l.own l.dcs l.count l.told l.next l.dep l.initial.self l.self
