use Rattle.std.proofs.Common.{ℕ, List, Option, Bor, ◌∙◌, ap, sym}
use Rattle.std.specs.Option.{option_copied}
use Rattle.world.proofs.FullLemmas.{none_kept, some_kept}
use Rattle.world.proofs.packets.is_kept_by_copy.Goals as goal

pub returns-in-Some : goal.returns-in-Some
returns-in-Some c = λ ms spelled. some_kept c.args.dcs c.args.link.now c.args.k ms spelled c.in-Some.packet.now c.is_full_of.result
    (sym (ap (λ (o : Option (Bor (List ℕ))). option_copied o) c.in-Some.is) ∙ c.packet.ensures) (λ m one. c.is_full_of.ensures ms m spelled one)

pub returns-in-None : goal.returns-in-None
returns-in-None c = λ ms spelled. none_kept c.args.dcs c.args.link.now c.args.k ms spelled (sym (ap (λ (o : Option (Bor (List ℕ))). option_copied o) c.in-None.is) ∙ c.packet.ensures)
