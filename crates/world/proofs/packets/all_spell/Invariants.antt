use Rattle.std.proofs.Common.{List}
use Rattle.record_codec.specs.declared.message.Message.{Message}
use Rattle.record_codec.specs.Wire.{SpellsMessage}
use Rattle.world.specs.Links.{AreSpelled}
use Rattle.world.proofs.FullLemmas.{AreFirst}
use Rattle.world.proofs.packets.all_spell.Given as goal

abbrev pub invariant-loop-held : goal.invariant-loop-held
invariant-loop-held l = (ms : List Message) (m : Message) → AreSpelled l.dcs l.packets ms → SpellsMessage l.dcs l.packet m → AreFirst m l.held-index ms
