-- The token among the queues, and when it moves on.
use Rattle.std.proofs.Common.{◌≡◌, ◌≢◌, ℕ, zero, suc, ◌+◌, ◌%◌, ◌<◌, ◌≤◌, true, List, [], ◌∷◌, length, map, set, get_or, ap, sym, ◌∙◌, inl, inr, arith, Option, Some, None, is_some, mod-lt}
use Rattle.std.specs.List.{position}
use Rattle.std.proofs.lemmas.Bool.{cases_eq, false≢true}
use Rattle.std.proofs.lemmas.List.{get_or-set_other, length-set, map-set, set-get_or, get_or_default}
use Rattle.std.proofs.lemmas.Grind.{get_or-set_at}
use Rattle.std.proofs.lemmas.Option.{same_Some}
use Rattle.std.proofs.lemmas.List.Sums.{passes_at_first, fails_before_first}
use Rattle.token_queue.specs.Queues.{QueueState, TokenState, tokenless}
use Rattle.stage_world.specs.Stages.{no_queue, queue_at}
use Rattle.stage_turns.specs.Lent.{HaveToken, MayMoveToken, has_token, queues_seen, token_at_next, token_seen}
use Rattle.stage_turns.proofs.AckLemmas.{position_some, position_none}

-- the token is that of the one queue that has one
seen_at : (qs : List QueueState) (k : ℕ) (t : TokenState) → k < length qs → (queue_at qs k).token ≡ Some t → ((i : ℕ) → i < length qs → i ≢ k → (queue_at qs i).token ≡ None) → token_seen qs ≡ t
seen_at [] k t there holder others = absurd (omega arith)
seen_at (q ∷ qs) zero t there holder others = ap (λ o. token_seen (record q { token = o } ∷ qs)) holder
seen_at (q ∷ qs) (suc k) t there holder others =
    ap (λ o. token_seen (record q { token = o } ∷ qs)) (others 0 (omega arith) (λ same. absurd (omega arith)))
    ∙ seen_at qs k t (omega arith) holder (λ i inside other. others (suc i) (omega arith) (λ same. other (omega arith)))

pub token_is : (qs : List QueueState) (t : TokenState) → HaveToken qs t → token_seen qs ≡ t
token_is qs t h = seen_at qs t.at t h.there h.holder h.others

some_token : (o : Option TokenState) (t : TokenState) → o ≡ Some t → is_some o ≡ true
some_token o t is = ap is_some is

no_token : (o : Option TokenState) → o ≡ None → is_some o ≡ true → ⊥
no_token o none some = absurd (false≢true (sym (ap is_some none) ∙ some))

-- the first queue with a token is the one that has it
pub first_has : (qs : List QueueState) (t : TokenState) (i : ℕ) → HaveToken qs t → Some i ≡ position has_token qs → i ≡ t.at
first_has qs t i h found =
    let at = position_some has_token qs i found in
    elim (cases_eq i t.at) [
      | inl same ↦ same
      | inr other ↦ absurd (no_token (queue_at qs i).token (h.others i at.1 other) (ap (λ k. has_token (queue_at qs k)) at.0 ∙ passes_at_first has_token qs no_queue (omega (arith, at.0, at.1))))
    ]

pub some_has : (qs : List QueueState) (t : TokenState) → HaveToken qs t → None ≡ position has_token qs → ⊥
some_has qs t h none =
    false≢true (sym (fails_before_first has_token qs t.at no_queue (omega (arith, h.there, position_none has_token qs none))) ∙ some_token (queue_at qs t.at).token t h.holder)

pub map_same : {X Y : Type 0} (f : X → Y) (xs : List X) (i : ℕ) (y d : X) → f y ≡ f (get_or xs i d) → map f (set xs i y) ≡ map f xs
map_same f xs i y d same = map-set f xs i y ∙ ap (set (map f xs) i) same ∙ sym (map-set f xs i (get_or xs i d)) ∙ ap (map f) (set-get_or xs i d)

-- The token t of queue `at` leaves it as q, and comes to the next as r.
pub record IsMoving (qs : List QueueState) (t : TokenState) (at next : ℕ) (was q came r : QueueState) : Type 0 where
  pub may : MayMoveToken qs t
  pub place : at ≡ t.at
  pub was_is : was ≡ get_or qs at was
  pub leaves : q ≡ record was { token = None }
  pub next_is : next ≡ (t.at + 1) % t.queues
  pub there : next < length qs
  pub came_is : came ≡ get_or (set qs at q) next came
  pub comes : r ≡ record came { token = Some (record t { at = came.number }) }

module _ (qs : List QueueState) (t : TokenState) (at next : ℕ) (was q came r : QueueState) (m : IsMoving qs t at next was q came r) where
  abbrev left : List QueueState
  left = set qs at q

  inside : at < length qs
  inside = omega (arith, m.place, m.may.has.there)

  was_at : was ≡ queue_at qs at
  was_at = m.was_is ∙ get_or_default qs at was no_queue inside

  came_at : came ≡ queue_at left next
  came_at = m.came_is ∙ get_or_default left next came no_queue (omega (arith, length-set qs at q, m.there))

  q_here : (k : ℕ) → k ≡ at → queue_at left k ≡ q
  q_here k same = get_or-set_at qs at k q no_queue same inside

  q_other : (k : ℕ) → k ≢ at → queue_at left k ≡ queue_at qs k
  q_other k other = get_or-set_other qs at k q no_queue other

  number_of : (k : ℕ) → k < length qs → (queue_at left k).number ≡ k
  number_of k within = elim (cases_eq k at) [
    | inl same ↦ ap (λ (x : QueueState). x.number) (q_here k same ∙ m.leaves) ∙ ap (λ (x : QueueState). x.number) was_at ∙ m.may.numbers at inside ∙ sym same
    | inr other ↦ ap (λ (x : QueueState). x.number) (q_other k other) ∙ m.may.numbers k within
  ]

  none_left : (k : ℕ) → k < length qs → (queue_at left k).token ≡ None
  none_left k within = elim (cases_eq k at) [
    | inl same ↦ ap (λ (x : QueueState). x.token) (q_here k same ∙ m.leaves)
    | inr other ↦ ap (λ (x : QueueState). x.token) (q_other k other) ∙ m.may.has.others k within (λ is. other (is ∙ sym m.place))
  ]

  pub queues_stay : queues_seen (set left next r) ≡ queues_seen qs
  queues_stay =
      map_same tokenless left next r no_queue (ap tokenless m.comes ∙ ap tokenless came_at)
      ∙ map_same tokenless qs at q no_queue (ap tokenless m.leaves ∙ ap tokenless was_at)

  pub has_again : HaveToken (set left next r) (token_at_next t)
  has_again =
      let far : next < length left = omega (arith, length-set qs at q, m.there) in
      let number : came.number ≡ next = ap (λ (x : QueueState). x.number) came_at ∙ number_of next m.there in
      record {
        there = omega (arith, length-set left next r, far, m.next_is);
        holder =
            ap (λ (x : QueueState). x.token) (get_or-set_at left next ((t.at + 1) % t.queues) r no_queue (sym m.next_is) far ∙ m.comes)
            ∙ ap (λ k. Some (record t { at = k })) (number ∙ m.next_is);
        others = λ k within other.
            ap (λ (x : QueueState). x.token) (get_or-set_other left next k r no_queue (λ same. other (same ∙ m.next_is)))
            ∙ none_left k (omega (arith, within, length-set left next r, length-set qs at q));
      }

  pub token_moves : token_seen (set left next r) ≡ token_at_next t
  token_moves = token_is (set left next r) (token_at_next t) has_again

-- what the calls tell
pub moving : (qs : List QueueState) (t u : TokenState) (at next : ℕ) (was q came r : QueueState) → MayMoveToken qs t → at ≡ t.at → was ≡ get_or qs at was → q ≡ record was { token = None } → Some u ≡ was.token
    → next ≡ (u.at + 1) % u.queues → came ≡ get_or (set qs at q) next came → r ≡ record came { token = Some (record u { at = came.number }) } → IsMoving qs t at next was q came r
moving qs t u at next was q came r may place was_is leaves taken next_is came_is comes =
    let inside : at < length qs = omega (arith, place, may.has.there) in
    let same : u ≡ t =
    same_Some u t (taken ∙ ap (λ (x : QueueState). x.token) (was_is ∙ get_or_default qs at was no_queue inside) ∙ ap (λ k. (queue_at qs k).token) place ∙ may.has.holder) in
    let to : next ≡ (t.at + 1) % t.queues = next_is ∙ ap (λ (x : TokenState). (x.at + 1) % x.queues) same in
    let some : 1 ≤ t.queues = omega (arith, may.ring, may.has.there) in
    record {
      may = may;
      place = place;
      was_is = was_is;
      leaves = leaves;
      next_is = to;
      there = omega (arith, to, may.ring, may.has.there, mod-lt (t.at + 1) some);
      came_is = came_is;
      comes = comes ∙ ap (λ (x : TokenState). record came { token = Some (record x { at = came.number }) }) same;
    }
