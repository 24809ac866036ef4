-- Where every position of the log is filled, each maintainer's mark is above its own ones, and who knows all marks has the head at the log's end.
use Rattle.std.proofs.Common.{◌≡◌, ◌⊎◌, ℕ, suc, ◌<◌, ◌≤◌, List, [], ◌∷◌, length, get_or, refl, ap, sym, subst, ◌∙◌, inl, inr, arith}
use Rattle.std.specs.List.{sum_by}
use Rattle.std.proofs.lemmas.List.Elements.{All-get_or}
use Rattle.std.proofs.lemmas.List.Sums.{sum_by-cons}
use Rattle.std.proofs.lemmas.Bool.{cases_lt}
use Rattle.causal_deps.specs.declared.record.Record.{Record}
use Rattle.abstract_log.specs.declared.world.World.{World}
use Rattle.abstract_log.specs.Worlds.{log_of}
use Rattle.flstore_rounds.specs.Epochs.{EpochList, owner}
use Rattle.flstore_rounds.specs.Heads.{Pair, head, mark_at, IsTruePair, IsBelowMark}
use Rattle.flstore_rounds.proofs.HeadLemmas.{head_is, head_most}
use Rattle.maintainer.specs.Maintainers.{MaintainerState, IsFilled, OwnsAll, Owns, mark_of, times_filled}
use Rattle.maintainer.proofs.MarkOf.{is_mark}
use Rattle.maintainer.proofs.OwnLemmas.{owns_filled}
use Rattle.stage_world.specs.Stages.{Datacentre, maintainer_at, no_maintainer, IsFilledIn}
use Rattle.stage_world.specs.StandsFor.{StandsAt}
use Rattle.stage_world.proofs.StandsLemmas.{true_head_within}
use Rattle.settling_laws.specs.Rounds.{IsAllPlaced}
use Rattle.settling_laws.proofs.Placing.{owner_member}

-- the pair has the whole epoch list, and maintainer m's mark
pub record Knows (t : EpochList) (ms : List (MaintainerState Record)) (m : ℕ) (v : Pair) : Type 0 where
  pub epochs : v.epochs ≡ t
  pub mark : mark_of (maintainer_at ms m) ≤ mark_at v m

-- where a sum is positive, a term is
pub some_term : {X : Type 0} (f : X → ℕ) (xs : List X) (e : X) → 1 ≤ sum_by f xs → (i : ℕ) × (i < length xs) × (1 ≤ f (get_or xs i e))
some_term f [] e some = absurd (omega arith)
some_term f (x ∷ xs) e some = at (cases_lt 0 (f x)) (λ rest. some_term f xs e rest)
  where
    at : (0 < f x) ⊎ (f x ≤ 0) → (1 ≤ sum_by f xs → (i : ℕ) × (i < length xs) × (1 ≤ f (get_or xs i e))) → (i : ℕ) × (i < length (x ∷ xs)) × (1 ≤ f (get_or (x ∷ xs) i e))
    at (inl here) later = (0, omega arith, omega arith)
    at (inr none) later =
        let rest = later (omega (arith, some, sum_by-cons f x xs)) in
        (suc rest.0, omega (arith, rest.1), rest.2)

module _ (w : World) (d : ℕ) (z : Datacentre) (h : StandsAt w d z) (placed : IsAllPlaced z) where
  abbrev t : EpochList
  t = z.token.epochs

  abbrev at : ℕ → MaintainerState Record
  at m = maintainer_at z.maintainers m

  epochs_at : (m : ℕ) → m < length z.maintainers → (at m).epochs ≡ t
  epochs_at m within = All-get_or (λ (x : MaintainerState Record). x.epochs ≡ t) z.maintainers m no_maintainer within placed.maintainers

  -- a filled position is filled at its owner
  filled_there : (q m : ℕ) → m < length z.maintainers → owner t q ≡ m → IsFilledIn z.maintainers q → IsFilled (at m) q
  filled_there q m within own some =
      let found = some_term (times_filled q) z.maintainers no_maintainer some in
      let owns : OwnsAll t (at found.0) = All-get_or (OwnsAll t) z.maintainers found.0 no_maintainer found.1 h.membership.owned.maintainers in
      let its : Owns t (at found.0) q = owns_filled t (at found.0) q owns found.2 in
      let same : found.0 ≡ m = sym (h.membership.owned.numbers found.0 found.1) ∙ sym its.own ∙ ap (λ e. owner e q) (epochs_at found.0 found.1) ∙ own in
      subst (λ i. IsFilled (at i) q) same found.2

  -- its mark is above each own position of the log
  pub mark_above : (p m : ℕ) → m < length z.maintainers → 1 ≤ p → p ≤ z.token.last → owner t p ≡ m → p < mark_of (at m)
  mark_above p m within first low own = (is_mark (at m)).greatest p (record {
    here = record { first = first; owner = ap (λ e. owner e p) (epochs_at m within) ∙ own ∙ sym (h.membership.owned.numbers m within) };
    all = λ q up is_own.
        filled_there q m within (ap (λ e. owner e q) (sym (epochs_at m within)) ∙ is_own.owner ∙ h.membership.owned.numbers m within) (placed.filled q is_own.first (omega arith));
  })

  -- a pair that knows all has the head at the end of the log
  pub head_whole : (v : Pair) → IsTruePair t (IsFilledIn z.maintainers) v → ((m : ℕ) → m < length z.maintainers → Knows t z.maintainers m v) → head v ≡ z.token.last
  head_whole v is_true knows =
      let high : head v ≤ length (log_of w d) = true_head_within w d z v h is_true in
      let low : z.token.last ≤ head v = head_most v (head v) z.token.last (head_is v) (λ p first up. below p first up) in
      omega (arith, h.positions.counted.whole)
    where
      below : (p : ℕ) → 1 ≤ p → p ≤ z.token.last → IsBelowMark v p
      below p first up =
          let inside : owner t p < length z.maintainers = omega (arith, owner_member t p h.membership.members.dealt, h.membership.members.maintainers) in
          let k : Knows t z.maintainers (owner t p) v = knows (owner t p) inside in
          let mine : owner v.epochs p ≡ owner t p = ap (λ e. owner e p) k.epochs in
          subst (λ i. p < mark_at v i) (sym mine) (omega (arith, mark_above p (owner t p) inside first up refl, k.mark))
