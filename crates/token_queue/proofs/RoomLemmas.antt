-- Room in outboxes.
use Rattle.std.proofs.Common.{◌≡◌, ℕ, zero, suc, ◌+◌, ◌-◌, ◌<◌, ◌≤◌, cond, eqb, List, [], ◌∷◌, ◌++◌, length, get_or, set, refl, ap, sym, ◌∙◌, inl, inr, arith}
use Rattle.std.proofs.lemmas.List.{get_or-set_same, get_or-set_other, length-set, map-append, map-set, get_or-map, get_or_default, replicate-append-replicate}
use Rattle.std.proofs.Math.Seq.{map-set_same}
use Rattle.std.proofs.lemmas.Bool.{cases_eq}
use Rattle.std.proofs.Common.{eq-eqb, ne_eqb}
use Rattle.flstore_rounds.specs.Epochs.{EpochList, owner}
use Rattle.token_queue.specs.declared.entry.Entry.{Entry}
use Rattle.token_queue.specs.Queues.{blank_outboxes}
use Rattle.token_queue.specs.Room.{OutboxState, no_outbox, entries_of, owned_among, HaveRoom}

pub owned_first : (e : EpochList) (m p end : ℕ) → p < end → owned_among e m p (end - p) ≡ cond (eqb (owner e p) m) 1 0 + owned_among e m (p + 1) (end - (p + 1))
owned_first e m p end within = let more : end - p ≡ suc (end - (p + 1)) = omega arith in ap (owned_among e m p) more

-- of fewer positions a member owns no more
pub owned_fewer : (e : EpochList) (m p a b : ℕ) → a ≤ b → owned_among e m p a ≤ owned_among e m p b
owned_fewer e m p zero b le = omega arith
owned_fewer e m p (suc a) zero le = absurd (omega arith)
owned_fewer e m p (suc a) (suc b) le = omega (arith, owned_fewer e m (p + 1) a b (omega arith))

-- one more position is counted for its owner
pub owned_counted : (e : EpochList) (m p end total w : ℕ) (xs : List ℕ) → w < length xs → owner e p ≡ w → p < end → get_or xs m 0 + owned_among e m p (end - p) ≡ total
    → get_or (set xs w (get_or xs w 0 + 1)) m 0 + owned_among e m (p + 1) (end - (p + 1)) ≡ total
owned_counted e m p end total w xs there own within before = elim (cases_eq w m) [
  | inl same ↦ omega (arith, owned_first e m p end within, ap {B = ℕ} (λ b. cond b 1 0) (eq-eqb (owner e p) m (own ∙ same)), ap (λ k. get_or (set xs w (get_or xs w 0 + 1)) k 0) same, get_or-set_same xs w (get_or xs w 0 + 1) 0 there, ap (λ k. get_or xs k 0) same)
  | inr other ↦ omega (arith, owned_first e m p end within, ap {B = ℕ} (λ b. cond b 1 0) (ne_eqb (owner e p) m (λ is. other (sym own ∙ is))), get_or-set_other xs w m (get_or xs w 0 + 1) 0 (λ is. other (sym is)))
]

pub owned_few : (m w bound : ℕ) (xs : List ℕ) → w < length xs → ((k : ℕ) → get_or xs k 0 ≤ bound) → get_or (set xs w (get_or xs w 0 + 1)) m 0 ≤ bound + 1
owned_few m w bound xs there few = elim (cases_eq w m) [
  | inl same ↦ omega (arith, ap (λ k. get_or (set xs w (get_or xs w 0 + 1)) k 0) same, get_or-set_same xs w (get_or xs w 0 + 1) 0 there, few w)
  | inr other ↦ omega (arith, get_or-set_other xs w m (get_or xs w 0 + 1) 0 (λ is. other (sym is)), few m)
]

-- one outbox more that is empty
pub blank_more : (os : List OutboxState) (o : OutboxState) (n : ℕ) → entries_of os ≡ blank_outboxes n → o.entries ≡ [] → entries_of (os ++ o ∷ []) ≡ blank_outboxes (n + 1)
blank_more os o n before empty =
    map-append (λ (x : OutboxState). x.entries) os (o ∷ []) ∙ ap (λ xs. xs ++ o.entries ∷ []) before ∙ ap (λ x. blank_outboxes n ++ x ∷ []) empty ∙ blanks n
  where
    blanks : (k : ℕ) → blank_outboxes k ++ [] ∷ [] ≡ blank_outboxes (k + 1)
    blanks k = replicate-append-replicate k 1 []

-- an outbox that keeps its entries
pub outbox_kept : (os : List OutboxState) (m : ℕ) (o d : OutboxState) → o.entries ≡ (get_or os m d).entries → entries_of (set os m o) ≡ entries_of os
outbox_kept os m o d same = map-set_same (λ (x : OutboxState). x.entries) os m o d same

pub outbox_emptied : (os : List OutboxState) (m : ℕ) (o : OutboxState) → o.entries ≡ [] → entries_of (set os m o) ≡ set (entries_of os) m []
outbox_emptied os m o empty = map-set (λ (x : OutboxState). x.entries) os m o ∙ ap (λ es. set (entries_of os) m es) empty

-- an outbox with one entry more
pub outbox_filled : (os : List OutboxState) (m : ℕ) (o d : OutboxState) (e : Entry) → m < length os → o.entries ≡ (get_or os m d).entries ++ e ∷ []
    → entries_of (set os m o) ≡ set (entries_of os) m (get_or (entries_of os) m [] ++ e ∷ [])
outbox_filled os m o d e there filled =
    map-set (λ (x : OutboxState). x.entries) os m o
    ∙ ap (λ es. set (entries_of os) m es) (filled ∙ ap (λ es. es ++ e ∷ []) (sym (get_or-map (λ (x : OutboxState). x.entries) os m d [] there)))

pub taken_more : (e : EpochList) (p n : ℕ) (os : List OutboxState) (m : ℕ) (o : OutboxState) → m < length os → ((k : ℕ) → k < m → owned_among e k p n ≤ (get_or os k no_outbox).room) → owned_among e m p n ≤ o.room
    → (k : ℕ) → k < m + 1 → owned_among e k p n ≤ (get_or (set os m o) k no_outbox).room
taken_more e p n os m o there before now k below = elim (cases_eq k m) [
  | inl same ↦ omega (arith, now, ap (λ i. owned_among e i p n) same, ap (λ i. (get_or (set os m o) i no_outbox).room) same, ap (λ (x : OutboxState). x.room) (get_or-set_same os m o no_outbox there))
  | inr other ↦ omega (arith, before k (omega arith), ap (λ (x : OutboxState). x.room) (get_or-set_other os m k o no_outbox other))
]

-- the owner of the next position has room for it
pub room_first : (e : EpochList) (p n : ℕ) (os : List OutboxState) (d : OutboxState) → owner e p < length os → HaveRoom e p (suc n) os → 1 ≤ (get_or os (owner e p) d).room
room_first e p n os d there room =
    omega (arith, room (owner e p) there, ap {B = ℕ} (λ b. cond b 1 0) (eq-eqb (owner e p) (owner e p) refl), ap (λ (x : OutboxState). x.room) (get_or_default os (owner e p) no_outbox d there))

-- and what is behind it has room when it is taken
pub room_rest : (e : EpochList) (p n w : ℕ) (os : List OutboxState) (o d : OutboxState) → w < length os → owner e p ≡ w → HaveRoom e p (suc n) os → (get_or os w d).room ≤ o.room + 1 → HaveRoom e (p + 1) n (set os w o)
room_rest e p n w os o d there own room left m within =
    let inside : m < length os = omega (arith, length-set os w o) in
    elim (cases_eq m w) [
      | inl same ↦ omega (
        arith,
        room m inside,
        left,
        ap {B = ℕ} (λ b. cond b 1 0) (eq-eqb (owner e p) m (own ∙ sym same)),
        ap (λ i. (get_or (set os w o) i no_outbox).room) same,
        ap (λ i. (get_or os i no_outbox).room) same,
        ap (λ (x : OutboxState). x.room) (get_or-set_same os w o no_outbox there),
        ap (λ (x : OutboxState). x.room) (get_or_default os w no_outbox d there),
      )
      | inr other ↦ omega (arith, room m inside, ap (λ (x : OutboxState). x.room) (get_or-set_other os w m o no_outbox other))
    ]
