-- The next own position, and values that go in one after another.
use Rattle.std.proofs.Common.{◌≡◌, ℕ, zero, suc, ◌+◌, ◌<◌, ◌≤◌, ◌^◌, cond, eqb, true, false, List, [], ◌∷◌, ◌++◌, length, Option, Some, None, append-nil, append_assoc, refl, subst, ap, sym, ◌∙◌, inl, inr, arith}
use Rattle.std.proofs.lemmas.Bool.{cases_eq, cases_lt, cond-true, cond-false, eq-eqb, ne_eqb}
use Rattle.flstore_rounds.specs.Epochs.{EpochList, IsNextOwn, IsSettled, last_epoch, owner}
use Rattle.maintainer.specs.Maintainers.{MaintainerState, IsFilled, IsOwn, mark_of, placed, plain}
use Rattle.maintainer.proofs.LawLemmas.{mark_rises}
use Rattle.maintainer.proofs.StateLemmas.{plain_mark}
use Rattle.cz_base.specs.declared.limits.TheConstants.{NUMBERS_END}
use Rattle.std.specs.List.{All}
use Rattle.std.specs.Option.{option_map}
use Rattle.std.proofs.lemmas.List.Elements.{All-head, All-tail}
use Rattle.std.proofs.lemmas.Option.{same_Some}
use Rattle.post_assignment.specs.Waiting.{first_below, is_below, without_first_below}
use Rattle.post_assignment.specs.declared.wait_list.Waiting.{Waiting}
use Rattle.post_assignment.specs.Appending.{AppenderState, Released, after_lid, at_rest, on_first, released, appended, HasRoom, next_lid, next_own, own_from}

own_from_is : (t : EpochList) (m n p q : ℕ) → p ≤ q → q < p + n → owner t q ≡ m → ((k : ℕ) → p ≤ k → k < q → owner t k ≡ m → ⊥) → own_from t m n p ≡ q
own_from_is t m zero p q le near own least = absurd (omega (arith, le, near))
own_from_is t m (suc n) p q le near own least = elim (cases_eq p q) [
  | inl same ↦ cond-true (eqb (owner t p) m) p (own_from t m n (p + 1)) (eq-eqb (owner t p) m (ap (owner t) same ∙ own)) ∙ same
  | inr other ↦
      cond-false (eqb (owner t p) m) p (own_from t m n (p + 1)) (ne_eqb (owner t p) m (λ is. least p (omega arith) (omega (arith, le, other)) is))
      ∙ own_from_is t m n (p + 1) q (omega (arith, le, other)) (omega (arith, near)) own (λ k from until. least k (omega (arith, from)) until)
]

pub next_own_is : (t : EpochList) (m p q : ℕ) → IsNextOwn t m p q → q < 2 ^ 49 → q ≡ next_own t m p
unfolding next_own
next_own_is t m p q next near = sym (own_from_is t m (2 ^ 49) p q next.above (omega (arith, near)) next.own next.least)

module _ {T : Type 0} where
  pub next_lid_is : (m : MaintainerState T) (t : EpochList) (number p q : ℕ) → t ≡ m.epochs → number ≡ m.number → p ≡ mark_of m → IsNextOwn t number p q → q < 2 ^ 49 → q ≡ next_lid m
  next_lid_is m t number p q is_t is_number is_p next near = next_own_is t number p q next near ∙ (λ i. next_own (is_t i) (is_number i) (is_p i))

  -- what is asked of the state that is seen holds of the maintainer inside
  pub settled_inside : (m : MaintainerState T) (ws : List (Waiting T)) (s : AppenderState T) (e : EpochList) → record { maintainer = plain m; waiting = ws } ≡ s
      → ((p : ℕ) → IsFilled s.maintainer p → IsSettled e s.maintainer.epochs p) → (p : ℕ) → IsFilled m p → IsSettled e m.epochs p
  settled_inside m ws s e is settled = subst (λ (t : AppenderState T). (p : ℕ) → IsFilled t.maintainer p → IsSettled e t.maintainer.epochs p) (sym is) settled

  -- the next own position is own and vacant

  pub next_vacant : (m : MaintainerState T) (t : EpochList) (number p q : ℕ) → t ≡ m.epochs → number ≡ m.number → p ≡ mark_of m → IsNextOwn t number p q → IsNextOwn m.epochs m.number (mark_of m) q
  next_vacant m t number p q is_t is_number is_p next = subst (λ k. IsNextOwn m.epochs m.number k q) is_p (subst (λ n. IsNextOwn m.epochs n p q) is_number (subst (λ e. IsNextOwn e number p q) is_t next))

  pub next_is_own : (m : MaintainerState T) (q : ℕ) → 1 ≤ mark_of m → IsNextOwn m.epochs m.number (mark_of m) q → IsOwn m q
  next_is_own m q first next = record { first = omega (arith, first, next.above); owner = next.own }

  -- without spare places the next own position is the same
  pub next_plain : (m : MaintainerState T) → next_lid (plain m) ≡ next_lid m
  next_plain m = ap (next_own m.epochs m.number) (plain_mark m)

  -- once a value is placed there, no later one is below it
  pub next_rises : (m : MaintainerState T) (lid q : ℕ) (value : T) → IsNextOwn m.epochs m.number (mark_of m) lid → IsNextOwn m.epochs m.number (mark_of (placed m lid value)) q → lid ≤ q
  next_rises m lid q value next later = elim (cases_lt q lid) [
    | inl low ↦ absurd (next.least q (omega (arith, mark_rises m lid value, later.above)) low later.own)
    | inr high ↦ high
  ]

  -- one that was taken out leaves one less
  pub taken_length : (lid : ℕ) (ws : List (Waiting T)) (w : Waiting T) → first_below lid ws ≡ Some w → length ws ≡ suc (length (without_first_below lid ws))
  taken_length lid [] w is = absurd (let e : None ≡ Some w = is in cc)
  taken_length lid (v ∷ ws) w is = elim (is_below lid v) as (λ b. cond b (Some v) (first_below lid ws) ≡ Some w → suc (length ws) ≡ suc (length (cond b ws (v ∷ without_first_below lid ws)))) [
    | true ↦ λ _. refl
    | false ↦ λ found. ap suc (taken_length lid ws w found)
  ] is

  pub released_none : (n : ℕ) (m : MaintainerState T) (ws : List (Waiting T)) → first_below (next_lid m) ws ≡ None → released n m ws ≡ at_rest m ws
  released_none zero m ws is = refl
  released_none (suc n) m ws is = ap (λ o. on_first o (at_rest m ws) (λ w. after_lid (next_lid m) (released n (placed m (next_lid m) w.value) (without_first_below (next_lid m) ws)))) is

  pub released_some : (m : MaintainerState T) (ws : List (Waiting T)) (w : Waiting T) → first_below (next_lid m) ws ≡ Some w
      → released (length ws) m ws ≡ after_lid (next_lid m) (released (length (without_first_below (next_lid m) ws)) (placed m (next_lid m) w.value) (without_first_below (next_lid m) ws))
  released_some m ws w is = ap (λ n. released n m ws) (taken_length (next_lid m) ws w is)
      ∙ ap (λ o. on_first o (at_rest m ws) (λ v. after_lid (next_lid m) (released (length (without_first_below (next_lid m) ws)) (placed m (next_lid m) v.value) (without_first_below (next_lid m) ws)))) is

  -- all that goes in from here on
  abbrev pub all_released : MaintainerState T → List (Waiting T) → Released T
  all_released m ws = released (length ws) (plain m) ws

  -- what goes in from here on, after the positions so far, is what went in from the start
  pub record IsReleasing (all : Released T) (m : MaintainerState T) (ws : List (Waiting T)) (so_far : List ℕ) : Type 0 where
    pub state : (all_released m ws).state ≡ all.state
    pub lids : so_far ++ (all_released m ws).lids ≡ all.lids
    pub small : All (λ lid. lid < NUMBERS_END) (all_released m ws).lids

  pub record IsReleased (all : Released T) (m : MaintainerState T) (ws : List (Waiting T)) (so_far : List ℕ) (lid : ℕ) (value : T) : Type 0 where
    pub small : lid < NUMBERS_END
    pub one_less : length ws ≡ suc (length (without_first_below lid ws))
    pub more : IsReleasing all (placed m lid value) (without_first_below lid ws) (so_far ++ lid ∷ [])

  pub one_released : (all : Released T) (m : MaintainerState T) (ws : List (Waiting T)) (lids : List ℕ) (lid : ℕ) (value : T) (o : Option (Waiting T)) → IsReleasing all m ws lids → lid ≡ next_lid m → first_below lid ws ≡ o → Some value ≡ option_map (λ (w : Waiting T). w.value) o
      → IsReleased all m ws lids lid value
  one_released all m ws lids lid value None going is found some = absurd (let e : Some value ≡ None = some in cc)
  one_released all m ws lids lid value (Some w) going is found some =
      let lid_is : lid ≡ next_lid (plain m) = is ∙ sym (next_plain m) in
      let value_is : w.value ≡ value = sym (same_Some value w.value some) in
      let first : first_below (next_lid (plain m)) ws ≡ Some w = ap (λ p. first_below p ws) (sym lid_is) ∙ found in
      let step : all_released m ws ≡ after_lid lid (all_released (placed m lid value) (without_first_below lid ws)) =
      released_some (plain m) ws w first
      ∙ ap (λ p. after_lid p (released (length (without_first_below p ws)) (placed (plain m) p w.value) (without_first_below p ws))) (sym lid_is)
      ∙ ap (λ v. after_lid lid (released (length (without_first_below lid ws)) (placed (plain m) lid v) (without_first_below lid ws))) value_is
      in
      let small : All (λ p. p < NUMBERS_END) (lid ∷ (all_released (placed m lid value) (without_first_below lid ws)).lids) = subst (λ (r : Released T). All (λ p. p < NUMBERS_END) r.lids) step going.small in
      record {
        small = All-head (λ (p : ℕ). p < NUMBERS_END) lid (all_released (placed m lid value) (without_first_below lid ws)).lids small;
        one_less = taken_length lid ws w found;
        more = record {
          state = sym (ap (λ (r : Released T). r.state) step) ∙ going.state;
          lids = append_assoc lids (lid ∷ []) (all_released (placed m lid value) (without_first_below lid ws)).lids ∙ sym (ap (λ (r : Released T). lids ++ r.lids) step) ∙ going.lids;
          small = All-tail (λ (p : ℕ). p < NUMBERS_END) lid (all_released (placed m lid value) (without_first_below lid ws)).lids small;
        };
      }

  pub record IsDone (all : Released T) (m : MaintainerState T) (ws : List (Waiting T)) (so_far : List ℕ) : Type 0 where
    pub state : record { maintainer = plain m; waiting = ws } ≡ all.state
    pub lids : so_far ≡ all.lids

  none_without : (lid : ℕ) (ws : List (Waiting T)) → first_below lid ws ≡ None → without_first_below lid ws ≡ ws
  none_without lid [] is = refl
  none_without lid (v ∷ ws) is = elim (is_below lid v) as (λ b. cond b (Some v) (first_below lid ws) ≡ None → cond b ws (v ∷ without_first_below lid ws) ≡ v ∷ ws) [
    | true ↦ λ found. absurd (let e : Some v ≡ None = found in cc)
    | false ↦ λ rest. ap (λ xs. v ∷ xs) (none_without lid ws rest)
  ] is

  pub all_done : (all : Released T) (m : MaintainerState T) (ws left : List (Waiting T)) (lids : List ℕ) (lid : ℕ) (o : Option (Waiting T)) → IsReleasing all m ws lids → lid ≡ next_lid m → first_below lid ws ≡ o → None ≡ option_map (λ (w : Waiting T). w.value) o
      → left ≡ without_first_below lid ws → IsDone all m left lids
  all_done all m ws left lids lid (Some w) going is found none is_left = absurd (let e : None ≡ Some w.value = none in cc)
  all_done all m ws left lids lid None going is found none is_left =
      let first : first_below (next_lid (plain m)) ws ≡ None = ap (λ p. first_below p ws) (next_plain m ∙ sym is) ∙ found in
      let rest : all_released m ws ≡ at_rest (plain m) ws = released_none (length ws) (plain m) ws first in
      let same : left ≡ ws = is_left ∙ none_without lid ws found in
      record {
        state = ap (λ vs. record { maintainer = plain m; waiting = vs }) same ∙ sym (ap (λ (r : Released T). r.state) rest) ∙ going.state;
        lids = sym (append-nil lids) ∙ sym (ap (λ (r : Released T). lids ++ r.lids) rest) ∙ going.lids;
      }

  -- a value that goes in at the next own position, with what it releases

  pub record IsHere (s : AppenderState T) (value : T) (m : MaintainerState T) (ws : List (Waiting T)) (lid : ℕ) : Type 0 where
    pub lid_is : lid ≡ next_lid s.maintainer
    pub state_is : plain m ≡ s.maintainer
    pub waiting_is : ws ≡ s.waiting
    pub all_is : all_released (placed m lid value) ws ≡ appended s value

  pub here_is : (s : AppenderState T) (value : T) (was m : MaintainerState T) (ws : List (Waiting T)) (lid : ℕ) → record { maintainer = plain was; waiting = ws } ≡ s → plain m ≡ plain was → lid ≡ next_lid m → IsHere s value m ws lid
  here_is s value was m ws lid is same next =
      let state : plain m ≡ s.maintainer = same ∙ ap (λ (t : AppenderState T). t.maintainer) is in
      let waits : ws ≡ s.waiting = ap (λ (t : AppenderState T). t.waiting) is in
      let here : lid ≡ next_lid s.maintainer = next ∙ sym (next_plain m) ∙ ap (λ n. next_lid n) state in
      record {
        lid_is = here;
        state_is = state;
        waiting_is = waits;
        all_is = λ i. released (length (waits i)) (placed (state i) (here i) value) (waits i);
      }

  pub small_here : (s : AppenderState T) (value : T) (was m : MaintainerState T) (ws : List (Waiting T)) (lid : ℕ) → IsHere s value m ws lid → HasRoom s value → lid < NUMBERS_END
  small_here s value was m ws lid here room = omega (arith, here.lid_is, room.first)

  pub small_others : (s : AppenderState T) (value : T) (m : MaintainerState T) (ws : List (Waiting T)) (lid : ℕ) → IsHere s value m ws lid → HasRoom s value → All (λ p. p < NUMBERS_END) (all_released (placed m lid value) ws).lids
  small_others s value m ws lid here room = subst (λ (r : Released T). All (λ p. p < NUMBERS_END) r.lids) (sym here.all_is) room.others

  pub member_here : (s : AppenderState T) (was m : MaintainerState T) (ws : List (Waiting T)) → record { maintainer = plain was; waiting = ws } ≡ s → plain m ≡ plain was → s.maintainer.number < (last_epoch s.maintainer.epochs).members → m.number < (last_epoch m.epochs).members
  member_here s was m ws is same member =
      let state : plain m ≡ s.maintainer = same ∙ ap (λ (t : AppenderState T). t.maintainer) is in
      subst (λ (n : MaintainerState T). n.number < (last_epoch n.epochs).members) (sym state) member

  -- one step of the loop that puts values in

  pub gone_on : (all : Released T) (m n : MaintainerState T) (ws left : List (Waiting T)) (so_far now : List ℕ) (lid : ℕ) (value : T) → IsReleased all m ws so_far lid value → n ≡ placed m lid value → left ≡ without_first_below lid ws → now ≡ so_far ++ lid ∷ [] → IsReleasing all n left now
  gone_on all m n ws left so_far now lid value one is_n is_left is_now =
      subst (λ (x : MaintainerState T). IsReleasing all x left now) (sym is_n) (subst (λ vs. IsReleasing all (placed m lid value) vs now) (sym is_left) (subst (λ ls. IsReleasing all (placed m lid value) (without_first_below lid ws) ls) (sym is_now) one.more))

  pub limit_on : (m n : MaintainerState T) (lid limit : ℕ) (value : T) → n ≡ placed m lid value → IsNextOwn m.epochs m.number (mark_of m) lid → limit ≤ lid → (q : ℕ) → IsNextOwn n.epochs n.number (mark_of n) q → limit ≤ q
  limit_on m n lid limit value is next le q later = omega (arith, le, next_rises m lid q value next (subst (λ (x : MaintainerState T). IsNextOwn x.epochs x.number (mark_of x) q) is later))
