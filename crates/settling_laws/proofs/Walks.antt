-- Turns of a datacentre one after another, where each makes something so and none unmakes it.
use Rattle.std.proofs.Common.{◌≡◌, ◌⊎◌, ℕ, zero, suc, ◌<◌, List, [], ◌∷◌, ◌++◌, ap, sym, subst, ◌∙◌, inl, inr, arith, append-nil}
use Rattle.std.specs.List.{All, flat_map}
use Rattle.std.proofs.lemmas.Bool.{cases_lt}
use Rattle.std.proofs.lemmas.Grind.{flat_map-append}
use Rattle.std.proofs.lemmas.List.Elements.{All-nil, All-append}
use Rattle.abstract_log.specs.declared.script.Step.{Step}
use Rattle.stage_world.specs.Stages.{Datacentre}
use Rattle.stage_world.specs.Opening.{numbered}
use Rattle.stage_world.specs.Settling.{below}
use Rattle.settling_laws.proofs.Live.{turned, walked, walked-append}

-- From any state with I the steps lead to one with I, make E of each x with M, and leave E of every x for which it holds.
pub record Makes {X : Type 0} (d : ℕ) (I : Datacentre → Type 0) (E : X → Datacentre → Type 0) (M : X → Type 0) (ts : List Step) : Type 0 where
  pub stays : (y : Datacentre) → I y → I (walked d y ts)
  pub keeps : (y : Datacentre) (x : X) → I y → E x y → E x (walked d y ts)
  pub makes : (y : Datacentre) (x : X) → I y → M x → E x (walked d y ts)

module _ {X : Type 0} (d : ℕ) (I : Datacentre → Type 0) (E : X → Datacentre → Type 0) where
  pub makes_none : Makes d I E (λ x. ⊥) []
  makes_none = record { stays = λ y i. i; keeps = λ y x i e. e; makes = λ y x i m. absurd m }

  pub makes_append : (M N : X → Type 0) (ts us : List Step) → Makes d I E M ts → Makes d I E N us → Makes d I E (λ x. M x ⊎ N x) (ts ++ us)
  makes_append M N ts us first second = record {
    stays = λ y i. subst I (sym (walked-append d ts us y)) (second.stays (walked d y ts) (first.stays y i));
    keeps = λ y x i e. subst (E x) (sym (walked-append d ts us y)) (second.keeps (walked d y ts) x (first.stays y i) (first.keeps y x i e));
    makes = λ y x i either. subst (E x) (sym (walked-append d ts us y)) (elim either [
      | inl m ↦ second.keeps (walked d y ts) x (first.stays y i) (first.makes y x i m)
      | inr n ↦ second.makes (walked d y ts) x (first.stays y i) n
    ]);
  }

  pub makes_more : (M N : X → Type 0) (ts : List Step) → ((x : X) → N x → M x) → Makes d I E M ts → Makes d I E N ts
  makes_more M N ts then h = record { stays = h.stays; keeps = h.keeps; makes = λ y x i n. h.makes y x i (then x n) }

  -- one step for each number below n, and several
  abbrev pub Some_below : (ℕ → X → Type 0) → ℕ → X → Type 0
  Some_below M n x = (i : ℕ) × (i < n) × M i x

  earlier : (M : ℕ → X → Type 0) (n : ℕ) (x : X) → Some_below M (suc n) x → Some_below M n x ⊎ M n x
  earlier M n x some = elim (cases_lt some.0 n) [
    | inl low ↦ inl (some.0, low, some.2)
    | inr last ↦ inr (subst (λ i. M i x) (omega (arith, some.1)) some.2)
  ]

  pub makes_numbered : (M : ℕ → X → Type 0) (f : ℕ → Step) (n : ℕ) → ((i : ℕ) → i < n → Makes d I E (M i) (f i ∷ [])) → Makes d I E (Some_below M n) (numbered f n)
  makes_numbered M f zero each = makes_more (λ x. ⊥) (Some_below M 0) [] (λ x some. absurd (omega (arith, some.1))) makes_none
  makes_numbered M f (suc n) each = makes_more (λ x. Some_below M n x ⊎ M n x) (Some_below M (suc n)) (numbered f n ++ f n ∷ []) (earlier M n)
      (makes_append (Some_below M n) (M n) (numbered f n) (f n ∷ []) (makes_numbered M f n (λ i low. each i (omega arith))) (each n (omega arith)))

  last_piece : (g : ℕ → List Step) (n : ℕ) → flat_map g (below (suc n)) ≡ flat_map g (below n) ++ g n
  last_piece g n = flat_map-append g (below n) (n ∷ []) ∙ ap (λ ts. flat_map g (below n) ++ ts) (append-nil (g n))

  pub makes_flat : (M : ℕ → X → Type 0) (g : ℕ → List Step) (n : ℕ) → ((i : ℕ) → i < n → Makes d I E (M i) (g i)) → Makes d I E (Some_below M n) (flat_map g (below n))
  makes_flat M g zero each = makes_more (λ x. ⊥) (Some_below M 0) [] (λ x some. absurd (omega (arith, some.1))) makes_none
  makes_flat M g (suc n) each = subst (Makes d I E (Some_below M (suc n))) (sym (last_piece g n))
      (makes_more (λ x. Some_below M n x ⊎ M n x) (Some_below M (suc n)) (flat_map g (below n) ++ g n) (earlier M n)
      (makes_append (Some_below M n) (M n) (flat_map g (below n)) (g n) (makes_flat M g n (λ i low. each i (omega arith))) (each n (omega arith))))

-- one step: what it leaves
pub makes_turn : {X : Type 0} (d : ℕ) (I : Datacentre → Type 0) (E : X → Datacentre → Type 0) (M : X → Type 0) (t : Step)
    → ((y : Datacentre) → I y → I (turned d y t)) → ((y : Datacentre) (x : X) → I y → E x y → E x (turned d y t)) → ((y : Datacentre) (x : X) → I y → M x → E x (turned d y t)) → Makes d I E M (t ∷ [])
makes_turn d I E M t stays keeps makes = record { stays = stays; keeps = keeps; makes = makes }

-- what holds along steps that are numbered
pub along_flat : (P : ℕ → Datacentre → Type 0) (d : ℕ) (g : ℕ → List Step) (n : ℕ) (z : Datacentre) → P 0 z → ((i : ℕ) (y : Datacentre) → i < n → P i y → P (suc i) (walked d y (g i))) → P n (walked d z (flat_map g (below n)))
along_flat P d g zero z first each = first
along_flat P d g (suc n) z first each =
    let so_far : P n (walked d z (flat_map g (below n))) = along_flat P d g n z first (λ i y low. each i y (omega arith)) in
    let split : flat_map g (below (suc n)) ≡ flat_map g (below n) ++ g n = flat_map-append g (below n) (n ∷ []) ∙ ap (λ ts. flat_map g (below n) ++ ts) (append-nil (g n)) in
    let is : walked d z (flat_map g (below (suc n))) ≡ walked d (walked d z (flat_map g (below n))) (g n) = ap (walked d z) split ∙ walked-append d (flat_map g (below n)) (g n) z in
    subst (P (suc n)) (sym is) (each n (walked d z (flat_map g (below n))) (omega arith) so_far)

-- all of pieces
pub All-pieces : (P : Step → Type 0) (g : ℕ → List Step) (is : List ℕ) → ((i : ℕ) → All P (g i)) → All P (flat_map g is)
All-pieces P g [] each = All-nil P
All-pieces P g (i ∷ is) each = All-append P (g i) (flat_map g is) (each i) (All-pieces P g is each)
