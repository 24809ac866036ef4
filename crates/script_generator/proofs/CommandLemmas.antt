-- Generated commands keep their ranges, and so do the sessions that have them.
use Rattle.std.proofs.Common.{◌≡◌, ◌+◌, ◌*◌, ◌<◌, ◌^◌, ℕ, List, [], ◌∷◌, length, All, refl, arith}
use Rattle.std.specs.Prelude.{nat_lt, ◌==◌}
use Rattle.std.proofs.lemmas.List.Elements.{All-nil, All-cons, All-head, All-tail}
use Rattle.rand_pcg.specs.Lcg.{Lcg}
use Rattle.abstract_log.specs.declared.command.Command.TheVariants.{Tx}
use Rattle.abstract_log.specs.declared.command.SessionPlan.{SessionPlan}
use Rattle.abstract_log.specs.Fits.{FitsCommand, FitsPlan, commands_of}
use Rattle.cz_base.specs.Text.{IsName}
use Rattle.script_generator.specs.Draws.{draw}
use Rattle.script_generator.specs.Generated.{key, tag, command_by, command, plan}
use Rattle.script_generator.proofs.DrawLemmas.{draw_below, either_way, length-many, All-many}
use Rattle.script_generator.proofs.TextLemmas.{key_is_name, tag_is_name, put_is_body, append_is_body}

key_fits : (g : Lcg) → IsName (key g).0
unfolding key
key_fits g = key_is_name (draw 32 g).0 (omega (arith, draw_below 32 g (omega arith)))

tag_fits : (g : Lcg) → IsName (tag g).0
unfolding tag
tag_fits g = tag_is_name (draw 8 g).0 (omega (arith, draw_below 8 g (omega arith)))

three_names : (x y z : List ℕ) → IsName x → IsName y → IsName z → FitsCommand (Tx (x ∷ y ∷ z ∷ []))
three_names x y z first second third = (
  omega arith,
  (
    omega arith,
    All-cons IsName x (y ∷ z ∷ []) first (All-cons IsName y (z ∷ []) second (All-cons IsName z [] third (All-nil IsName))),
  ),
)

one_tag : (g : Lcg) → All IsName ((tag g).0 ∷ [])
one_tag g = All-cons IsName (tag g).0 [] (tag_fits g) (All-nil IsName)

command_by_fits : (s k choice : ℕ) (g : Lcg) → s < 2 ^ 32 → k < 2 ^ 32 → FitsCommand (command_by s k choice g).0
unfolding command_by
command_by_fits s k choice g small few =
    either_way FitsCommand (nat_lt choice 4) _ _ g (key_fits g, put_is_body s k small few)
    (either_way FitsCommand (nat_lt choice 7) _ _ g (key_fits g)
    (either_way FitsCommand (choice == 7) _ _ g (three_names (key g).0 (key (key g).1).0 (key (key (key g).1).1).0 (key_fits g) (key_fits (key g).1) (key_fits (key (key g).1).1))
    (either_way FitsCommand (choice == 8) _ _ g (omega arith, (one_tag g, append_is_body s k small few)) (tag_fits g, (omega arith, omega arith)))))

command_fits : (s k : ℕ) (g : Lcg) → s < 2 ^ 32 → k < 2 ^ 32 → FitsCommand (command s k g).0
unfolding command
command_fits s k g small few = command_by_fits s k (draw 10 g).0 (draw 10 g).1 small few

-- Sessions.

-- a session with 100 commands at one of three datacentres
pub record IsPlan (made : SessionPlan) : Type 0 where
  pub fits : FitsPlan 3 made
  pub commands : length made.commands ≡ 100

pub plan_fits : (s : ℕ) (g : Lcg) → s < 12 → IsPlan (plan s g).0
unfolding plan
plan_fits s g small = record {
  fits = record {
    home = omega arith;
    commands = All-many FitsCommand (λ n. command s (n + 1)) 100 (λ n h below. command_fits s (n + 1) h (omega arith) (omega arith)) g;
  };
  commands = length-many (λ n. command s (n + 1)) 100 g;
}

pub commands_in_all : (plans : List SessionPlan) → All IsPlan plans → commands_of plans ≡ length plans * 100
commands_in_all [] all = refl
commands_in_all (p ∷ plans) all = omega (arith, (All-head IsPlan p plans all).commands, commands_in_all plans (All-tail IsPlan p plans all))
