-- Entries that are dealt to outboxes, and how often a position waits in them.
use Rattle.std.proofs.Common.{◌≡◌, ℕ, zero, suc, ◌+◌, ◌<◌, ◌≤◌, ◌⊎◌, cond, eqb, List, [], ◌∷◌, ◌++◌, length, get_or, set, refl, ap, sym, subst, inl, inr, arith, Option}
use Rattle.std.proofs.Common.{eq-eqb, ne_eqb}
use Rattle.std.specs.List.{All, sum_by}
use Rattle.std.proofs.lemmas.Bool.{cases_lt, cases_eq}
use Rattle.std.proofs.lemmas.List.{length-set, set_past, get_or_past, get_or-set_same, get_or-set_other}
use Rattle.std.proofs.lemmas.List.Sums.{sum_by-cons, sum_by_push, sum_by-set}
use Rattle.std.proofs.lemmas.List.Elements.{All-nil, All-cons, All-head, All-tail, All-weaker, All-push}
use Rattle.causal_deps.specs.declared.record.Record.{Record}
use Rattle.flstore_rounds.specs.Epochs.{EpochList, owner}
use Rattle.token_queue.specs.declared.entry.Entry.{Entry}
use Rattle.token_queue.specs.declared.entry.Stamp.{Stamp}
use Rattle.token_queue.specs.Drain.{Drained}
use Rattle.token_queue.specs.Queues.{TokenState, QueueState, Stamps, dealt, entries_from, outbox_for, owned_by, stamped_queue, times_among, tokenless, waiting, with_entry, with_token, without_outbox}
use Rattle.token_queue.proofs.Stamping.{dealt_none, dealt_to}

pub dealt_length : (e : EpochList) (es : List Entry) (m : ℕ) (os : List (List Entry)) → length (dealt e es m os) ≡ length os
dealt_length e es m [] = refl
dealt_length e es m (o ∷ os) = ap suc (dealt_length e es (suc m) os)

-- each outbox gains the entries that its member owns
pub dealt_at : (e : EpochList) (es : List Entry) (m k n : ℕ) (os : List (List Entry)) → k < length os → n ≡ m + k → get_or (dealt e es m os) k [] ≡ get_or os k [] ++ owned_by e n es
dealt_at e es m k n [] within is = absurd (omega arith)
dealt_at e es m zero n (o ∷ os) within is = let same : m ≡ n = omega arith in ap (λ i. o ++ owned_by e i es) same
dealt_at e es m (suc k) n (o ∷ os) within is = dealt_at e es (suc m) k n os (omega arith) (omega arith)

-- what is counted over the entries of all outboxes
abbrev pub in_outboxes : (Entry → ℕ) → List (List Entry) → ℕ
in_outboxes f os = sum_by (λ (o : List Entry). sum_by f o) os

-- one entry more in an outbox that there is
pub sum_put : (f : Entry → ℕ) (x : Entry) (w : ℕ) (os : List (List Entry)) → w < length os → in_outboxes f (set os w (get_or os w [] ++ x ∷ [])) ≡ in_outboxes f os + f x
sum_put f x w os there = omega (arith, sum_by-set (λ (o : List Entry). sum_by f o) os w (get_or os w [] ++ x ∷ []) [] there, sum_by_push f (get_or os w []) x)

-- nothing is lost or made
pub dealt_sums : (e : EpochList) (f : Entry → ℕ) (es : List Entry) (os : List (List Entry)) → All (λ x. owner e x.lid < length os) es → in_outboxes f (dealt e es 0 os) ≡ in_outboxes f os + sum_by f es
dealt_sums e f [] os all = omega (arith, ap (in_outboxes f) (dealt_none e 0 os))
dealt_sums e f (x ∷ es) os all =
    let w : ℕ = owner e x.lid in
    let put : List (List Entry) = set os w (get_or os w [] ++ x ∷ []) in
    let there : w < length os = All-head (λ (y : Entry). owner e y.lid < length os) x es all in
    let more : in_outboxes f put ≡ in_outboxes f os + f x = sum_put f x w os there in
    let rest = dealt_sums e f es put
    (All-weaker (λ (y : Entry). owner e y.lid < length os) (λ (y : Entry). owner e y.lid < length put) (λ y below. omega (arith, below, length-set os w (get_or os w [] ++ x ∷ []))) es
    (All-tail (λ (y : Entry). owner e y.lid < length os) x es all)) in
    omega (arith, ap (in_outboxes f) (dealt_to e x es 0 w os (omega arith)), more, rest, sum_by-cons f x es)

-- A position is among so many entries fewer, where an outbox was taken.
pub waiting_without : (p m : ℕ) (q : QueueState) → waiting p (without_outbox q m) + times_among p (outbox_for q m) ≡ waiting p q
waiting_without p m q = elim (cases_lt m (length q.outboxes)) [
  | inl within ↦ omega (arith, sum_by-set (λ (o : List Entry). times_among p o) q.outboxes m [] [] within)
  | inr past ↦ omega (arith, ap (sum_by (λ (o : List Entry). times_among p o)) (set_past q.outboxes m [] past), ap (times_among p) (get_or_past q.outboxes m [] past))
]

-- One entry more in the outbox of its owner.
pub waiting_with_entry : (p : ℕ) (e : EpochList) (x : Entry) (q : QueueState) → owner e x.lid < length q.outboxes → waiting p (with_entry e x q) ≡ waiting p q + cond (eqb x.lid p) 1 0
waiting_with_entry p e x q there = sum_put (λ (y : Entry). cond (eqb y.lid p) 1 0) x (owner e x.lid) q.outboxes there

-- A stamping adds what it stamps, each once.
pub waiting_stamped : (p : ℕ) (q : QueueState) (t : TokenState) (all : Drained) → All (λ x. owner t.epochs x.lid < length q.outboxes) (entries_from t.last all.records)
    → waiting p (stamped_queue q t all) ≡ waiting p q + times_among p (entries_from t.last all.records)
waiting_stamped p q t all there = dealt_sums t.epochs (λ (y : Entry). cond (eqb y.lid p) 1 0) (entries_from t.last all.records) q.outboxes there

-- The positions after the last: each of so many once, and no other.
pub times_first : (p : ℕ) (x : Entry) (es : List Entry) → times_among p (x ∷ es) ≡ cond (eqb x.lid p) 1 0 + times_among p es
times_first p x es = sum_by-cons (λ (y : Entry). cond (eqb y.lid p) 1 0) x es

pub entries_none : (p last : ℕ) (rs : List Record) → (p ≤ last) ⊎ (last + length rs < p) → times_among p (entries_from last rs) ≡ 0
entries_none p last [] out = refl
entries_none p last (r ∷ rs) out =
    omega (arith, times_first p (record { lid = last + 1; rec = r }) (entries_from (last + 1) rs), ap {B = ℕ} (λ b. cond b 1 0) (ne_eqb (last + 1) p (λ is. past is out)), entries_none p (last + 1) rs (later out))
  where
    past : last + 1 ≡ p → (p ≤ last) ⊎ (last + length (r ∷ rs) < p) → ⊥
    past is (inl low) = omega arith
    past is (inr high) = omega arith

    later : (p ≤ last) ⊎ (last + length (r ∷ rs) < p) → (p ≤ last + 1) ⊎ (last + 1 + length rs < p)
    later (inl low) = inl (omega arith)
    later (inr high) = inr (omega arith)

pub entries_once : (p last : ℕ) (rs : List Record) → last < p → p ≤ last + length rs → times_among p (entries_from last rs) ≡ 1
entries_once p last [] above within = absurd (omega arith)
entries_once p last (r ∷ rs) above within =
    let first = times_first p (record { lid = last + 1; rec = r }) (entries_from (last + 1) rs) in
    elim (cases_eq (last + 1) p) [
      | inl same ↦ omega (arith, first, ap {B = ℕ} (λ b. cond b 1 0) (eq-eqb (last + 1) p same), entries_none p (last + 1) rs (inl (omega (arith, same))))
      | inr other ↦ omega (arith, first, ap {B = ℕ} (λ b. cond b 1 0) (ne_eqb (last + 1) p other), entries_once p (last + 1) rs (omega (arith, other)) (omega arith))
    ]

-- where each position from 1 on has an owner below n, so have the entries
pub owners_below : (e : EpochList) (n last : ℕ) (rs : List Record) → ((p : ℕ) → 1 ≤ p → owner e p < n) → All (λ x. owner e x.lid < n) (entries_from last rs)
owners_below e n last [] below = All-nil (λ (x : Entry). owner e x.lid < n)
owners_below e n last (r ∷ rs) below = All-cons (λ (x : Entry). owner e x.lid < n) (record { lid = last + 1; rec = r }) (entries_from (last + 1) rs) (below (last + 1) (omega arith)) (owners_below e n (last + 1) rs below)

-- What holds of the entries in each outbox, by the number of its member, goes on to hold.
pub each_put : (P : ℕ → Entry → Type 0) (e : EpochList) (x : Entry) (os : List (List Entry)) → P (owner e x.lid) x → ((m : ℕ) → All (P m) (get_or os m []))
    → (m : ℕ) → All (P m) (get_or (set os (owner e x.lid) (get_or os (owner e x.lid) [] ++ x ∷ [])) m [])
each_put P e x os here each m =
    let w : ℕ = owner e x.lid in
    let o : List Entry = get_or os w [] ++ x ∷ [] in
    elim (cases_eq m w) [
      | inl same ↦ elim (cases_lt w (length os)) [
        | inl within ↦ subst (λ k. All (P k) (get_or (set os w o) k [])) (sym same) (subst (λ (ys : List Entry). All (P w) ys) (sym (get_or-set_same os w o [] within)) (All-push (P w) (get_or os w []) x (each w) here))
        | inr past ↦ subst (λ (ys : List (List Entry)). All (P m) (get_or ys m [])) (sym (set_past os w o past)) (each m)
      ]
      | inr other ↦ subst (λ (ys : List Entry). All (P m) ys) (sym (get_or-set_other os w m o [] other)) (each m)
    ]

pub each_dealt : (P : ℕ → Entry → Type 0) (e : EpochList) (es : List Entry) (os : List (List Entry)) → All (λ x. P (owner e x.lid) x) es → ((m : ℕ) → All (P m) (get_or os m []))
    → (m : ℕ) → All (P m) (get_or (dealt e es 0 os) m [])
each_dealt P e [] os all each m = subst (λ (ys : List (List Entry)). All (P m) (get_or ys m [])) (sym (dealt_none e 0 os)) (each m)
each_dealt P e (x ∷ es) os all each m =
    let put : List (List Entry) = set os (owner e x.lid) (get_or os (owner e x.lid) [] ++ x ∷ []) in
    subst (λ (ys : List (List Entry)). All (P m) (get_or ys m [])) (sym (dealt_to e x es 0 (owner e x.lid) os (omega arith)))
    (each_dealt P e es put (All-tail (λ (y : Entry). P (owner e y.lid) y) x es all) (each_put P e x os (All-head (λ (y : Entry). P (owner e y.lid) y) x es all) each) m)

pub each_with_entry : (P : ℕ → Entry → Type 0) (e : EpochList) (x : Entry) (q : QueueState) → P (owner e x.lid) x → ((m : ℕ) → All (P m) (outbox_for q m)) → (m : ℕ) → All (P m) (outbox_for (with_entry e x q) m)
each_with_entry P e x q here each m = each_put P e x q.outboxes here each m

pub each_stamped : (P : ℕ → Entry → Type 0) (q : QueueState) (t : TokenState) (all : Drained) → All (λ x. P (owner t.epochs x.lid) x) (entries_from t.last all.records) → ((m : ℕ) → All (P m) (outbox_for q m))
    → (m : ℕ) → All (P m) (outbox_for (stamped_queue q t all) m)
each_stamped P q t all here each m = each_dealt P t.epochs (entries_from t.last all.records) q.outboxes here each m

pub each_without : (P : ℕ → Entry → Type 0) (q : QueueState) (k : ℕ) → ((m : ℕ) → All (P m) (outbox_for q m)) → (m : ℕ) → All (P m) (outbox_for (without_outbox q k) m)
each_without P q k each m = elim (cases_eq m k) [
  | inl same ↦ elim (cases_lt k (length q.outboxes)) [
    | inl within ↦ subst (λ i. All (P i) (get_or (set q.outboxes k []) i [])) (sym same) (subst (λ (ys : List Entry). All (P k) ys) (sym (get_or-set_same q.outboxes k [] [] within)) (All-nil (P k)))
    | inr past ↦ subst (λ (ys : List (List Entry)). All (P m) (get_or ys m [])) (sym (set_past q.outboxes k [] past)) (each m)
  ]
  | inr other ↦ subst (λ (ys : List Entry). All (P m) ys) (sym (get_or-set_other q.outboxes k m [] [] other)) (each m)
]

-- The calls of a queue, where its token is left out of account.
pub tokenless_stamped : (q : QueueState) (t : TokenState) (all : Drained) → stamped_queue (tokenless q) t all ≡ stamped_queue q t all
tokenless_stamped q t all = refl

pub tokenless_stamps : (q new : QueueState) (t : TokenState) (all : Drained) (stamps : List Stamp) → Stamps q t all stamps new → Stamps (tokenless q) t all stamps new
tokenless_stamps q new t all stamps h = record { answer = h.answer; queue = h.queue }

pub tokenless_without : (q : QueueState) (m : ℕ) → tokenless (without_outbox q m) ≡ without_outbox (tokenless q) m
tokenless_without q m = refl

pub tokenless_outbox : (q : QueueState) (m : ℕ) → outbox_for (tokenless q) m ≡ outbox_for q m
tokenless_outbox q m = refl

pub tokenless_with_entry : (e : EpochList) (x : Entry) (q : QueueState) → tokenless (with_entry e x q) ≡ with_entry e x (tokenless q)
tokenless_with_entry e x q = refl

pub tokenless_waiting : (p : ℕ) (q : QueueState) → waiting p (tokenless q) ≡ waiting p q
tokenless_waiting p q = refl

pub tokenless_with_token : (q : QueueState) (o : Option TokenState) → tokenless (with_token o q) ≡ tokenless q
tokenless_with_token q o = refl

-- a queue is what it is without its token, and its token
pub whole_queue : (q : QueueState) → with_token q.token (tokenless q) ≡ q
whole_queue q = refl
