-- What a queue and a maintainer that join leave of the ring: the token is where it was, with what was added to it.
use Rattle.std.proofs.Common.{◌≡◌, ◌≢◌, ℕ, ◌+◌, ◌<◌, ◌≤◌, Bool, true, false, cond, ltb, List, [], ◌∷◌, ◌++◌, length, map, set, get_or, refl, ap, ap₂, sym, subst, ◌∙◌, inl, inr, arith, Option, Some, None}
use Rattle.std.proofs.lemmas.Bool.{cases_Bool, cases_lt, cond-true, cond-false, lt-ltb, ltb-true}
use Rattle.std.proofs.lemmas.List.{get_or-set_other, get_or_append_left, get_or_default, get_or_push, length-set, length_push, map_push, set-get_or}
use Rattle.std.proofs.lemmas.Grind.{get_or-set_at}
use Rattle.flstore_rounds.specs.Epochs.{EpochList}
use Rattle.token_queue.specs.Queues.{QueueState, TokenState, mark_bound, no_outboxes, tokenless}
use Rattle.stage_world.specs.MoreTurns.{new_queue}
use Rattle.stage_world.specs.Stages.{no_queue, queue_at}
use Rattle.stage_turns.specs.Lent.{HaveToken, queues_seen, token_seen}
use Rattle.stage_turns.proofs.RingLemmas.{map_same, token_is}

-- whether a position is above the bound
pub is_late : (t : TokenState) (p : ℕ) → p ≤ mark_bound t → ltb (mark_bound t) p ≡ false
is_late t p low = elim (cases_Bool (ltb (mark_bound t) p)) [
  | inl above ↦ absurd (omega (arith, ltb-true (mark_bound t) p above, low))
  | inr late ↦ late
]

pub when_late : {X : Type 0} (t : TokenState) (p : ℕ) (x y : X) → p ≤ mark_bound t → cond (ltb (mark_bound t) p) x y ≡ y
when_late t p x y low = cond-false (ltb (mark_bound t) p) x y (is_late t p low)

pub when_above : {X : Type 0} (t : TokenState) (p : ℕ) (x y : X) → mark_bound t < p → cond (ltb (mark_bound t) p) x y ≡ x
when_above t p x y above = cond-true (ltb (mark_bound t) p) x y (lt-ltb (mark_bound t) p above)

-- what is not refused as late is above the bound
pub above_if : (t : TokenState) (p : ℕ) → ((bound : ℕ) → (bound ≡ mark_bound t) × (p ≤ bound) → ⊥) → mark_bound t < p
above_if t p never = elim (cases_lt (mark_bound t) p) [
  | inl above ↦ above
  | inr low ↦ absurd (never (mark_bound t) (refl, low))
]

-- The queue that has the token, looked at by its place.
module _ (qs : List QueueState) (t : TokenState) (at : ℕ) (was : QueueState) (h : HaveToken qs t) (place : at ≡ t.at) (was_is : was ≡ get_or qs at was) where
  inside : at < length qs
  inside = omega (arith, place, h.there)

  was_at : was ≡ queue_at qs at
  was_at = was_is ∙ get_or_default qs at was no_queue inside

  pub holder_token : was.token ≡ Some t
  holder_token = ap (λ (x : QueueState). x.token) was_at ∙ ap (λ k. (queue_at qs k).token) place ∙ h.holder

  pub token_there : (queue_at qs at).token ≡ Some t
  token_there = ap (λ k. (queue_at qs k).token) place ∙ h.holder

  -- put back as it was
  pub nothing_changed : (q : QueueState) → q ≡ was → set qs at q ≡ qs
  nothing_changed q is = ap (set qs at) (is ∙ was_at) ∙ set-get_or qs at no_queue

  -- put back with another token, which is at the same place
  module _ (u : TokenState) (q : QueueState) (same_at : u.at ≡ t.at) (is : q ≡ record was { token = Some u }) where
    pub now_there : (queue_at (set qs at q) at).token ≡ Some u
    now_there = ap (λ (x : QueueState). x.token) (get_or-set_at qs at at q no_queue refl inside ∙ is)

    pub has_changed : HaveToken (set qs at q) u
    has_changed = record {
      there = omega (arith, same_at, h.there, length-set qs at q);
      holder = ap (λ k. (queue_at (set qs at q) k).token) (same_at ∙ sym place) ∙ now_there;
      others = λ i within other.
          ap (λ (x : QueueState). x.token) (get_or-set_other qs at i q no_queue (λ same. other (same ∙ place ∙ sym same_at)))
          ∙ h.others i (omega (arith, within, length-set qs at q)) (λ same. other (same ∙ sym same_at));
    }

    pub queues_stay : queues_seen (set qs at q) ≡ queues_seen qs
    queues_stay = map_same tokenless qs at q no_queue (ap tokenless is ∙ ap tokenless was_at)

    pub token_changes : token_seen (set qs at q) ≡ u
    token_changes = token_is (set qs at q) u has_changed

-- A queue without a token joins behind the last.
module _ (qs : List QueueState) (t : TokenState) (q : QueueState) (h : HaveToken qs t) (free : q.token ≡ None) where
  pub has_after_push : HaveToken (qs ++ q ∷ []) t
  has_after_push = record {
    there = omega (arith, h.there, length_push qs q);
    holder = ap (λ (x : QueueState). x.token) (get_or_append_left qs (q ∷ []) no_queue t.at h.there) ∙ h.holder;
    others = λ i within other. elim (cases_lt i (length qs)) [
      | inl low ↦ ap (λ (x : QueueState). x.token) (get_or_append_left qs (q ∷ []) no_queue i low) ∙ h.others i low other
      | inr high ↦
          ap (λ (x : QueueState). x.token) (get_or_push qs q no_queue i (omega (arith, within, high, length_push qs q))) ∙ free
    ];
  }

pub pushed_seen : (qs : List QueueState) (xs : List QueueState) (q : QueueState) (number n : ℕ) (epochs e : EpochList) → queues_seen qs ≡ xs → q ≡ record { number = number; items = []; outboxes = no_outboxes; epochs = epochs; token = None }
    → number ≡ n → epochs ≡ e → queues_seen (qs ++ q ∷ []) ≡ xs ++ new_queue n e ∷ []
pushed_seen qs xs q number n epochs e seen is is_n is_e =
    map_push tokenless qs q ∙ ap₂ (λ a b. a ++ b ∷ []) seen (ap tokenless is ∙ ap₂ new_queue is_n is_e)
