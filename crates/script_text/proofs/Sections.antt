-- The sections of a script: which one a test names, and how far it is along.
-- By cases on the section; `rank` counts the sections in their order.
use Rattle.std.proofs.Common.{◌≡◌, ◌≤◌, ℕ, refl, ap, arith, true, false, ◌||◌, inl, inr, ◌⊎◌}
use Rattle.script_text.specs.declared.section.Section.{Section}
use Rattle.script_text.specs.Keywords.{is_start, is_datacentres, is_round, is_stages, is_sessions, is_steps, is_ended}
use Rattle.script_text.specs.declared.section.Section.TheVariants as section

pub at-start : (here : Section) → is_start here ≡ true → here ≡ section.Start
at-start section.Start h = refl
at-start section.Datacentres h = cc
at-start section.Round h = cc
at-start section.Stages h = cc
at-start section.Sessions h = cc
at-start section.Steps h = cc
at-start section.Ended h = cc

pub at-datacentres : (here : Section) → is_datacentres here ≡ true → here ≡ section.Datacentres
at-datacentres section.Start h = cc
at-datacentres section.Datacentres h = refl
at-datacentres section.Round h = cc
at-datacentres section.Stages h = cc
at-datacentres section.Sessions h = cc
at-datacentres section.Steps h = cc
at-datacentres section.Ended h = cc

pub at-round : (here : Section) → is_round here ≡ true → here ≡ section.Round
at-round section.Start h = cc
at-round section.Datacentres h = cc
at-round section.Round h = refl
at-round section.Stages h = cc
at-round section.Sessions h = cc
at-round section.Steps h = cc
at-round section.Ended h = cc

pub at-stages : (here : Section) → is_stages here ≡ true → here ≡ section.Stages
at-stages section.Start h = cc
at-stages section.Datacentres h = cc
at-stages section.Round h = cc
at-stages section.Stages h = refl
at-stages section.Sessions h = cc
at-stages section.Steps h = cc
at-stages section.Ended h = cc

pub at-sessions : (here : Section) → is_sessions here ≡ true → here ≡ section.Sessions
at-sessions section.Start h = cc
at-sessions section.Datacentres h = cc
at-sessions section.Round h = cc
at-sessions section.Stages h = cc
at-sessions section.Sessions h = refl
at-sessions section.Steps h = cc
at-sessions section.Ended h = cc

pub at-either : (here : Section) → (is_stages here || is_sessions here) ≡ true → (here ≡ section.Stages) ⊎ (here ≡ section.Sessions)
at-either section.Start h = cc
at-either section.Datacentres h = cc
at-either section.Round h = cc
at-either section.Stages h = inl refl
at-either section.Sessions h = inr refl
at-either section.Steps h = cc
at-either section.Ended h = cc

pub at-steps : (here : Section) → is_steps here ≡ true → here ≡ section.Steps
at-steps section.Start h = cc
at-steps section.Datacentres h = cc
at-steps section.Round h = cc
at-steps section.Stages h = cc
at-steps section.Sessions h = cc
at-steps section.Steps h = refl
at-steps section.Ended h = cc

pub at-ended : (here : Section) → is_ended here ≡ true → here ≡ section.Ended
at-ended section.Start h = cc
at-ended section.Datacentres h = cc
at-ended section.Round h = cc
at-ended section.Stages h = cc
at-ended section.Sessions h = cc
at-ended section.Steps h = cc
at-ended section.Ended h = refl

-- where a section stands
abbrev pub rank : Section → ℕ
rank section.Start = 0
rank section.Datacentres = 1
rank section.Round = 2
rank section.Stages = 3
rank section.Sessions = 4
rank section.Steps = 5
rank section.Ended = 6

-- `stages` lines are over from the first session on
pub rank-either : (here : Section) → (is_stages here || is_sessions here) ≡ true → 3 ≤ rank here
rank-either here h = elim (at-either here h) [
  | inl is ↦ omega (arith, ap (λ (s : Section). rank s) is)
  | inr is ↦ omega (arith, ap (λ (s : Section). rank s) is)
]

pub rank-upto : (here : Section) → (is_stages here || is_sessions here) ≡ true → rank here ≤ 4
rank-upto here h = elim (at-either here h) [
  | inl is ↦ omega (arith, ap (λ (s : Section). rank s) is)
  | inr is ↦ omega (arith, ap (λ (s : Section). rank s) is)
]

pub rank-ended : (here : Section) → is_ended here ≡ true → rank here ≡ 6
rank-ended here h = ap (λ (s : Section). rank s) (at-ended here h)

pub not_ended : (here : Section) → (is_stages here || is_sessions here) ≡ true → is_ended here ≡ false
not_ended here h = elim (at-either here h) [
  | inl is ↦ ap (λ (s : Section). is_ended s) is
  | inr is ↦ ap (λ (s : Section). is_ended s) is
]
