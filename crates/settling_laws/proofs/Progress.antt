-- How far sessions are: what is left to each, and which goes on.
use Rattle.std.proofs.Common.{◌≡◌, ◌⊎◌, ℕ, zero, suc, ◌+◌, ◌<◌, ◌≤◌, true, List, [], ◌∷◌, length, drop, refl, ap, sym, subst, ◌∙◌, inl, inr, arith, Some, slice_get}
use Rattle.std.proofs.lemmas.Bool.{true≢false}
use Rattle.std.specs.List.{sum_by}
use Rattle.std.proofs.lemmas.List.Sums.{sum_by-cons}
use Rattle.abstract_log.specs.declared.command.Command.{Command}
use Rattle.abstract_log.specs.declared.command.Command.TheVariants.{Append, Put, Del, Get, Tx, Read, Last}
use Rattle.abstract_log.specs.Commands.{is_write}
use Rattle.stage_world.specs.Stages.{Session}
use Rattle.stage_world.specs.StandsFor.{keys_of}
use Rattle.settling_laws.specs.Rounds.{HasNoOpenWrite, left_to}

-- a write is open at the session, which looks nothing up
pub record HasOpenWrite (x : Session) : Type 0 where
  pub begun : x.standing.begun ≡ true
  pub command : Command
  pub is : slice_get x.commands x.standing.answered ≡ Some command
  pub writes : is_write command ≡ true
  pub fresh : length x.found ≡ 0

-- a write has no keys
pub write_keys : (c : Command) → is_write c ≡ true → length (keys_of c) ≡ 0
write_keys (Append tags body) is = refl
write_keys (Put key body) is = refl
write_keys (Del key) is = refl
write_keys (Get key) is = absurd (cc)
write_keys (Tx keys) is = absurd (cc)
write_keys (Read lid) is = absurd (cc)
write_keys (Last tag n) is = absurd (cc)

-- From x to y nothing was lost, and an open write is open yet or the session went on.
pub record GoesOn (x y : Session) : Type 0 where
  pub less : left_to y ≤ left_to x
  pub writes : HasOpenWrite x → HasOpenWrite y ⊎ (left_to y < left_to x)

-- from x to y a write was begun, or the session went on
abbrev pub Moves : Session → Session → Type 0
Moves x y = HasOpenWrite y ⊎ (left_to y < left_to x)

pub goes_same : (x : Session) → GoesOn x x
goes_same x = record { less = omega arith; writes = λ h. inl h }

pub goes_both : (x y z : Session) → GoesOn x y → GoesOn y z → GoesOn x z
goes_both x y z first second = record {
  less = omega (arith, first.less, second.less);
  writes = λ h. elim (first.writes h) [
    | inl opened ↦ elim (second.writes opened) [ inl still ↦ inl still | inr less ↦ inr (omega (arith, less, first.less)) ]
    | inr less ↦ inr (omega (arith, less, second.less))
  ];
}

pub moves_later : (x y z : Session) → GoesOn x y → Moves y z → Moves x z
moves_later x y z first moves = elim moves [ inl write ↦ inl write | inr less ↦ inr (omega (arith, less, first.less)) ]

pub moves_still : (x y z : Session) → GoesOn x y → Moves x y → GoesOn y z → Moves x z
moves_still x y z first moves second = elim moves [
  | inl write ↦ elim (second.writes write) [ inl still ↦ inl still | inr less ↦ inr (omega (arith, less, first.less)) ]
  | inr less ↦ inr (omega (arith, less, second.less))
]

-- a session without an open write that moved went on
pub moved_less : (x y : Session) → HasNoOpenWrite y → Moves x y → left_to y < left_to x
moved_less x y none moves = elim moves [
  | inl write ↦ absurd (true≢false (sym write.writes ∙ none write.command write.begun write.is))
  | inr less ↦ less
]

-- what is left from the next command on is its work and what is left behind it
pub drop_next : {X : Type 0} (f : X → ℕ) (xs : List X) (n : ℕ) (x : X) → slice_get xs n ≡ Some x → sum_by f (drop n xs) ≡ f x + sum_by f (drop (n + 1) xs)
drop_next f [] n x is = absurd (cc)
drop_next f (y ∷ ys) zero x is = let same : y ≡ x = cc in subst (λ v. sum_by f (y ∷ ys) ≡ f v + sum_by f ys) same (sum_by-cons f y ys)
drop_next f (y ∷ ys) (suc n) x is =
    let rest : sum_by f (drop n ys) ≡ f x + sum_by f (drop (n + 1) ys) = drop_next f ys n x is in
    let up : suc n + 1 ≡ suc (n + 1) = omega arith in
    subst (λ k. sum_by f (drop n ys) ≡ f x + sum_by f (drop k (y ∷ ys))) (sym up) rest

drop_none : {X : Type 0} (n : ℕ) → ◌≡◌ {A = List X} (drop n []) []
drop_none zero = refl
drop_none (suc n) = refl

pub drop_less : {X : Type 0} (f : X → ℕ) (xs : List X) (n : ℕ) → sum_by f (drop (n + 1) xs) ≤ sum_by f (drop n xs)
drop_less {X} f [] n = omega (arith, ap (sum_by f) (drop_none {X = X} (n + 1)), ap (sum_by f) (drop_none {X = X} n))
drop_less f (y ∷ ys) zero = omega (arith, sum_by-cons f y ys)
drop_less f (y ∷ ys) (suc n) =
    let up : suc n + 1 ≡ suc (n + 1) = omega arith in
    subst (λ k. sum_by f (drop k (y ∷ ys)) ≤ sum_by f (drop n ys)) (sym up) (drop_less f ys n)
