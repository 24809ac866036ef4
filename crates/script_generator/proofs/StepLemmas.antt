-- Generated steps keep their ranges.
use Rattle.std.proofs.Common.{◌≡◌, ◌<◌, ℕ, length, arith}
use Rattle.std.specs.Prelude.{nat_lt, ◌==◌}
use Rattle.rand_pcg.specs.Lcg.{Lcg}
use Rattle.abstract_log.specs.declared.command.Workload.{Workload}
use Rattle.abstract_log.specs.Turns.{AreTwo, FitsStep, IsMember, IsPacket, IsPosition}
use Rattle.script_generator.specs.Draws.{draw}
use Rattle.script_generator.specs.Generated.{other, draw_from_1, step_by, step}
use Rattle.script_generator.proofs.DrawLemmas.{draw_below, either_way}

-- a workload with three datacentres and twelve sessions
pub record IsLoad (load : Workload) : Type 0 where
  pub dcs : load.dcs ≡ 3
  pub sessions : length load.sessions ≡ 12

other_apart : (load : Workload) (d : ℕ) (g : Lcg) → IsLoad load → d < 3 → AreTwo load.dcs d (other d g).0
unfolding other
other_apart load d g is below = let two = draw_below 2 g (omega arith) in record {
  first = omega (arith, is.dcs);
  second = omega (arith, is.dcs);
  apart = λ same. omega (arith, same, two);
}

-- what is drawn of two and of three is the number of a member

two : (g : Lcg) → IsMember (draw 2 g).0
two g = omega (arith, draw_below 2 g (omega arith))

three : (g : Lcg) → IsMember (draw 3 g).0
three g = omega (arith, draw_below 3 g (omega arith))

packet : (g : Lcg) → IsPacket (draw_from_1 4 g).0
unfolding draw_from_1
packet g = let below = draw_below 4 g (omega arith) in (omega arith, omega arith)

position : (g : Lcg) → IsPosition (draw_from_1 600 g).0
unfolding draw_from_1
position g = let below = draw_below 600 g (omega arith) in (omega arith, omega arith)

step_by_fits : (load : Workload) (d choice : ℕ) (g : Lcg) → IsLoad load → d < 3 → FitsStep load (step_by d choice g).0
unfolding step_by
step_by_fits load d choice g is below =
    let there : d < load.dcs = omega (arith, is.dcs) in
    let apart = λ (h : Lcg). other_apart load d h is below in
    either_way (FitsStep load) (nat_lt choice 2) _ _ g (omega (arith, is.sessions, draw_below 12 g (omega arith)), tt)
    (either_way (FitsStep load) (choice == 2) _ _ g (there, two g)
    (either_way (FitsStep load) (choice == 3) _ _ g (there, (two g, two (draw 2 g).1))
    (either_way (FitsStep load) (choice == 4) _ _ g (there, two g)
    (either_way (FitsStep load) (choice == 5) _ _ g (there, tt)
    (either_way (FitsStep load) (choice == 6) _ _ g (there, (two g, three (draw 2 g).1))
    (either_way (FitsStep load) (choice == 7) _ _ g (there, (three g, three (draw 3 g).1))
    (either_way (FitsStep load) (choice == 8) _ _ g (there, (three g, two (draw 3 g).1))
    (either_way (FitsStep load) (choice == 9) _ _ g (there, tt)
    (either_way (FitsStep load) (choice == 10) _ _ g (apart (draw 2 g).1, two g)
    (either_way (FitsStep load) (choice == 11) _ _ g (apart g, (packet (other d g).1, two (draw_from_1 4 (other d g).1).1))
    (either_way (FitsStep load) (choice == 12) _ _ g (apart g, packet (other d g).1)
    (either_way (FitsStep load) (choice == 13) _ _ g (apart g, packet (other d g).1)
    (either_way (FitsStep load) (choice == 14) _ _ g (there, position g) (there, three g))))))))))))))

pub step_fits : (load : Workload) (g : Lcg) → IsLoad load → FitsStep load (step g).0
unfolding step
step_fits load g is = step_by_fits load (draw 3 g).0 (draw 16 (draw 3 g).1).0 (draw 16 (draw 3 g).1).1 is (draw_below 3 g (omega arith))
