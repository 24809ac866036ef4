-- Each law holds of the world in which nothing has happened, and is kept by every event that may happen.
use Rattle.std.proofs.Common.{◌≡◌, ◌⊎◌, ℕ, zero, ◌<◌, ◌≤◌, Bool, true, false, List, [], ◌∷◌, get_or, replicate, Some, None, slice_get, refl, ap, sym, subst, ◌∙◌, inl, inr, arith, IsSomeAnd, Contains, nat_lt, if◌then◌else◌}
use Rattle.std.proofs.lemmas.List.{get_or-replicate, get_or_past, length-replicate}
use Rattle.std.proofs.lemmas.List.Elements.{Contains-append_left}
use Rattle.std.proofs.lemmas.Option.{same_Some}
use Rattle.std.proofs.lemmas.Bool.{cases_lt}
use Rattle.causal_deps.specs.declared.record.Record.{Record}
use Rattle.causal_deps.specs.Counts.{greater_rows, entry_of, raised_row, zero_table}
use Rattle.causal_deps.specs.Logs.{count_of, nth_of, record_at, HasName, IsCausal}
use Rattle.causal_deps.proofs.CountsLemmas.{entry_of-greater_rows, entry_of-raised_row}
use Rattle.causal_deps.proofs.Lists.{get_or-set_cases, slice_get_push_cases, Contains-slice_get, Contains-cons, Contains-there}
use Rattle.causal_deps.proofs.LogsLemmas.{IsCausal-push, nth_of_is, nth_of_next, nth_of_some, nth_of_place, record_at-push, record_at_place}
use Rattle.abstract_log.specs.declared.command.Workload.{Workload}
use Rattle.abstract_log.specs.declared.event.Event.{Event}
use Rattle.abstract_log.specs.declared.event.Event.TheVariants.{Submit, Append, Receive, Add, Learn, Reply, Collect}
use Rattle.abstract_log.specs.declared.world.World.{World}
use Rattle.abstract_log.specs.Worlds.{log_of, table_of, gone_of, record_of, start}
use Rattle.abstract_log.specs.Steps.{CanHappen, after, inserted, IsCollectable}
use Rattle.log_laws.specs.Laws.{EachLogIsCausal, HasOneRecordForEachName, AreTablesSound, IsGoneHeldByAll, IsOrderly}
use Rattle.abstract_log.proofs.Writing.{IsSomeAnd_is}
use Rattle.abstract_log.proofs.ShapesLemmas.{blank_at}
use Rattle.log_laws.proofs.Growth.{Grows, Gains, grows, count_of-grows, record_of-grows}

no_log : (load : Workload) (d : ℕ) → log_of (start load) d ≡ []
no_log load d = blank_at load.dcs d []

-- causal order

pub causal_at_start : (load : Workload) → EachLogIsCausal (start load)
causal_at_start load d = let P : List Record → Type 0 = λ xs. IsCausal xs in
    subst P (sym (no_log load d)) (record { in_order = λ k r is. grind arith })

pub causal_kept : (w : World) (e : Event) → EachLogIsCausal w → CanHappen w e → EachLogIsCausal (after w e)
causal_kept w e causal can d = let P : List Record → Type 0 = λ xs. IsCausal xs in
    elim (grows w e d causal can) [
      | inl same ↦ subst P (sym same) (causal d)
      | inr new ↦ subst P (sym new.1.last) (IsCausal-push (log_of w d) new.0 (causal d) new.1.ready)
    ]

-- one record for each name

pub one_record_at_start : (load : Workload) → HasOneRecordForEachName (start load)
one_record_at_start load d k r is = absurd (none (sym (ap (λ xs. slice_get xs k) (no_log load d)) ∙ is))
  where
    none : None ≡ Some r → ⊥
    none h = cc

own_record : (w : World) (e : Event) (d : ℕ) (r : Record) → Gains w e d r → r.host ≡ d → record_of (after w e) r.host r.toid ≡ Some r
own_record w e d r g own =
    ap (λ h. nth_of (log_of (after w e) h) r.host r.toid) own ∙ ap (λ xs. nth_of xs r.host r.toid) g.last
    ∙ nth_of_next (log_of w d) r g.ready.next

pub one_record_kept : (w : World) (e : Event) → EachLogIsCausal w → HasOneRecordForEachName w → CanHappen w e → HasOneRecordForEachName (after w e)
one_record_kept w e causal one can d k r is =
    let kept = λ (q : Record) (was : record_of w q.host q.toid ≡ Some q). record_of-grows w e q.host q.toid q (grows w e q.host causal can) was in
    elim (grows w e d causal can) [
      | inl same ↦ kept r (one d k r (sym (ap (λ xs. slice_get xs k) same) ∙ is))
      | inr new ↦ elim (slice_get_push_cases (log_of w d) new.0 r k (sym (ap (λ xs. slice_get xs k) new.1.last) ∙ is)) [
        | inl old ↦ kept r (one d k r old)
        | inr last ↦ let P : Record → Type 0 = λ q. record_of (after w e) q.host q.toid ≡ Some q in
            subst P last.1 (elim new.1.origin [
              | inl own ↦ own_record w e d new.0 new.1 own
              | inr copied ↦ kept new.0 copied
            ])
      ]
    ]

-- awareness tables

abbrev zeros : ℕ → List ℕ
zeros n = replicate n 0

no_entry : (load : Workload) (d k h : ℕ) → entry_of (table_of (start load) d) k h ≡ 0
no_entry load d k h = elim (cases_lt d load.dcs) [
  | inl within ↦ ap (λ t. entry_of t k h) (get_or-replicate load.dcs d (zero_table load.dcs) [] within) ∙ elim (cases_lt k load.dcs) [
    | inl row ↦ ap (λ xs. get_or xs h 0) (get_or-replicate load.dcs k (replicate load.dcs 0) [] row) ∙ blank_at load.dcs h 0
    | inr past ↦ ap (λ xs. get_or xs h 0) (get_or_past (zero_table load.dcs) k [] (omega (arith, length-replicate load.dcs (zeros load.dcs))))
  ]
  | inr past ↦ ap (λ t. entry_of t k h) (get_or_past (replicate load.dcs (zero_table load.dcs)) d [] (omega (arith, length-replicate load.dcs (zero_table load.dcs))))
]

pub tables_at_start : (load : Workload) → AreTablesSound (start load)
tables_at_start load = record {
  by_owner = λ d k h. omega (arith, no_entry load d k h);
  by_log = λ k h. omega (arith, no_entry load k k h);
}

-- an entry is at most what its owner knew before, or it is its owner's and at most the count
abbrev Bounded : World → Event → ℕ → ℕ → ℕ → Type 0
Bounded w e d k h = (entry_of (table_of (after w e) d) k h ≤ entry_of (table_of w k) k h)
    ⊎ ((d ≡ k) × (entry_of (table_of (after w e) d) k h ≤ count_of (log_of w k) h))

receives : (w : World) (i from : ℕ) (table : List (List ℕ)) (names : List (ℕ × ℕ)) (d k h : ℕ) → AreTablesSound w → CanHappen w (Receive i from table names) → Bounded w (Receive i from table names) d k h
receives w i from table names d k h sound can = inl (elim (get_or-set_cases w.tables i d (greater_rows (table_of w i) table) []) [
  | inl here ↦ omega (arith, ap (λ t. entry_of t k h) here.2, entry_of-greater_rows (table_of w i) table k h, sound.by_owner i k h, can.1.1.0 k h, sound.by_owner from k h)
  | inr same ↦ omega (arith, ap (λ t. entry_of t k h) same, sound.by_owner d k h)
])

learns : (w : World) (i : ℕ) (row : List ℕ) (d k h : ℕ) → AreTablesSound w → CanHappen w (Learn i row) → Bounded w (Learn i row) d k h
learns w i row d k h sound can = elim (get_or-set_cases w.tables i d (raised_row (table_of w i) i row) []) [
  | inl here ↦ elim (entry_of-raised_row (table_of w i) i row k h) [
    | inl own ↦ inr (here.0 ∙ sym own.0, omega (arith, ap (λ t. entry_of t k h) here.2, own.1, sound.by_log i h, can.1.0 h, ap (λ e. count_of (log_of w e) h) own.0))
    | inr other ↦ inl (omega (arith, ap (λ t. entry_of t k h) here.2, other, sound.by_owner i k h))
  ]
  | inr same ↦ inl (omega (arith, ap (λ t. entry_of t k h) same, sound.by_owner d k h))
]

bounded : (w : World) (e : Event) (d k h : ℕ) → AreTablesSound w → CanHappen w e → Bounded w e d k h
bounded w (Submit s n) d k h sound can = inl (sound.by_owner d k h)
bounded w (Append i s n lid toid) d k h sound can = inl (sound.by_owner d k h)
bounded w (Receive i from table names) d k h sound can = receives w i from table names d k h sound can
bounded w (Add i lid host t) d k h sound can = inl (sound.by_owner d k h)
bounded w (Learn i row) d k h sound can = learns w i row d k h sound can
bounded w (Reply i s n at answer) d k h sound can = inl (sound.by_owner d k h)
bounded w (Collect i p) d k h sound can = inl (sound.by_owner d k h)

own_rows_grow : (w : World) (e : Event) (k h : ℕ) → entry_of (table_of w k) k h ≤ entry_of (table_of (after w e) k) k h
own_rows_grow w (Submit s n) k h = omega arith
own_rows_grow w (Append i s n lid toid) k h = omega arith
own_rows_grow w (Receive i from table names) k h = elim (get_or-set_cases w.tables i k (greater_rows (table_of w i) table) []) [
  | inl here ↦ omega (arith, ap (λ t. entry_of t k h) here.2, entry_of-greater_rows (table_of w i) table k h, ap (λ e. entry_of (table_of w e) k h) here.0)
  | inr same ↦ omega (arith, ap (λ t. entry_of t k h) same)
]
own_rows_grow w (Add i lid host t) k h = omega arith
own_rows_grow w (Learn i row) k h = elim (get_or-set_cases w.tables i k (raised_row (table_of w i) i row) []) [
  | inl here ↦ elim (entry_of-raised_row (table_of w i) i row k h) [
    | inl own ↦ omega (arith, ap (λ t. entry_of t k h) here.2, own.1, ap (λ e. entry_of (table_of w e) e h) here.0)
    | inr other ↦ omega (arith, ap (λ t. entry_of t k h) here.2, other, ap (λ e. entry_of (table_of w e) k h) here.0)
  ]
  | inr same ↦ omega (arith, ap (λ t. entry_of t k h) same)
]
own_rows_grow w (Reply i s n at answer) k h = omega arith
own_rows_grow w (Collect i p) k h = omega arith

pub tables_kept : (w : World) (e : Event) → EachLogIsCausal w → AreTablesSound w → CanHappen w e → AreTablesSound (after w e)
tables_kept w e causal sound can = record {
  by_owner = λ d k h. elim (bounded w e d k h sound can) [
    | inl below ↦ omega (arith, own_rows_grow w e k h)
    | inr own ↦ omega (arith, ap (λ x. entry_of (table_of (after w e) x) k h) own.0)
  ];
  by_log = λ k h. let grown = count_of-grows w e k h (grows w e k causal can) in elim (bounded w e k k h sound can) [
    | inl below ↦ omega (arith, sound.by_log k h)
    | inr own ↦ omega arith
  ];
}

-- collected positions

pub workload-after : (w : World) (e : Event) → (after w e).workload ≡ w.workload
workload-after w (Submit s n) = refl
workload-after w (Append i s n lid toid) = refl
workload-after w (Receive i from table names) = refl
workload-after w (Add i lid host t) = refl
workload-after w (Learn i row) = refl
workload-after w (Reply i s n at answer) = refl
workload-after w (Collect i p) = refl

-- an element of a list with one inserted is that one or an old one
pub Contains-inserted : {X : Type 0} (before : X → X → Bool) (x : X) (ys : List X) (a : X) → Contains (inserted before x ys) a → (x ≡ a) ⊎ Contains ys a
Contains-inserted before x [] a has = elim (Contains-cons x [] a has) [ inl here ↦ inl here | inr there ↦ inr there ]
Contains-inserted before x (y ∷ ys) a has =
    elim (before x y) as (λ b. Contains (if b then x ∷ y ∷ ys else (if before y x then y ∷ inserted before x ys else y ∷ ys)) a → (x ≡ a) ⊎ Contains (y ∷ ys) a) [
      | true ↦ λ h. Contains-cons x (y ∷ ys) a h
      | false ↦ elim (before y x) as (λ b. Contains (if b then y ∷ inserted before x ys else y ∷ ys) a → (x ≡ a) ⊎ Contains (y ∷ ys) a) [
        | true ↦ λ h. elim (Contains-cons y (inserted before x ys) a h) [
          | inl here ↦ inr (zero, omega arith, here)
          | inr there ↦ elim (Contains-inserted before x ys a there) [ inl new ↦ inl new | inr old ↦ inr (Contains-there y ys a old) ]
        ]
        | false ↦ λ h. inr h
      ]
    ] has

pub gone_at_start : (load : Workload) → IsGoneHeldByAll (start load)
gone_at_start load d p e gone within = let P : List ℕ → Type 0 = λ xs. Contains xs p in
    absurd (none (subst P (blank_at load.dcs d []) gone))
  where
    none : Contains [] p → ⊥
    none (k, inside, is) = omega arith

-- a record that d is known to have everywhere is in every log
held : (w : World) (d p e : ℕ) (r : Record) → EachLogIsCausal w → HasOneRecordForEachName w → AreTablesSound w → e < w.workload.dcs
    → record_at (log_of w d) p ≡ Some r → IsCollectable w d p r → Contains (log_of w e) r
held w d p e r causal one sound within is can =
    let at = record_at_place (log_of w d) p r is in
    let ready = (causal d).in_order at.0 r at.1 in
    let named : HasName (log_of w e) r.host r.toid = record {
      first = omega (arith, ready.next);
      counted = omega (arith, can.known e within, sound.by_owner d e r.host, sound.by_log e r.host);
    } in
    let q = nth_of_some (log_of w e) r.host r.toid named in
    let name = nth_of_is (log_of w e) r.host r.toid q.0 (causal e) q.1 in
    let there = nth_of_place (log_of w e) r.host r.toid q.0 q.1 in
    let theirs = one e there.0 q.0 there.1 in
    let ours = one d at.0 r at.1 in
    let same : q.0 ≡ r = same_Some q.0 r (sym theirs ∙ ap (λ h. record_of w h q.0.toid) name.0 ∙ ap (λ t. record_of w r.host t) name.1 ∙ ours) in
    Contains-slice_get (log_of w e) there.0 r (there.1 ∙ ap (λ x. Some x) same)

-- what a log has it keeps
pub Contains-grows : (w : World) (e : Event) (d : ℕ) (r : Record) → Grows w e d → Contains (log_of w d) r → Contains (log_of (after w e) d) r
Contains-grows w e d r (inl same) has = let P : List Record → Type 0 = λ xs. Contains xs r in subst P (sym same) has
Contains-grows w e d r (inr (q, g)) has = let P : List Record → Type 0 = λ xs. Contains xs r in subst P (sym g.last) (Contains-append_left (log_of w d) (q ∷ []) r has)

record_at-grows : (w : World) (e : Event) (d p : ℕ) (r : Record) → Grows w e d → record_at (log_of w d) p ≡ Some r → record_at (log_of (after w e) d) p ≡ Some r
record_at-grows w e d p r (inl same) is = ap (λ xs. record_at xs p) same ∙ is
record_at-grows w e d p r (inr (q, g)) is = ap (λ xs. record_at xs p) g.last ∙ record_at-push (log_of w d) q p r is

-- a collected position was collected before, or now
collected : (w : World) (e : Event) (d p : ℕ) → CanHappen w e → Contains (gone_of (after w e) d) p
    → Contains (gone_of w d) p ⊎ ((r : Record) × (record_at (log_of w d) p ≡ Some r) × IsCollectable w d p r)
collected w (Submit s n) d p can gone = inl gone
collected w (Append i s n lid toid) d p can gone = inl gone
collected w (Receive i from table names) d p can gone = inl gone
collected w (Add i lid host t) d p can gone = inl gone
collected w (Learn i row) d p can gone = inl gone
collected w (Reply i s n at answer) d p can gone = inl gone
collected w (Collect i q) d p can gone = let P : List ℕ → Type 0 = λ xs. Contains xs p in
    elim (get_or-set_cases w.gone i d (inserted nat_lt q (gone_of w i)) []) [
      | inl here ↦ elim (Contains-inserted nat_lt q (gone_of w i) p (subst P here.2 gone)) [
        | inl now ↦ let C : ℕ → ℕ → Type 0 = λ x y. IsSomeAnd (record_at (log_of w x) y) (IsCollectable w x y) in
            inr (IsSomeAnd_is (record_at (log_of w d) p) (IsCollectable w d p) (subst (C d) now (subst (λ (x : ℕ). C x q) (sym here.0) can.1.1.1.0)))
        | inr old ↦ inl (subst (λ (x : ℕ). Contains (gone_of w x) p) (sym here.0) old)
      ]
      | inr same ↦ inl (subst P same gone)
    ]

pub gone_kept : (w : World) (e : Event) → EachLogIsCausal w → HasOneRecordForEachName w → AreTablesSound w → IsGoneHeldByAll w → CanHappen w e → IsGoneHeldByAll (after w e)
gone_kept w e causal one sound gone can d p i is_gone within =
    let inside : i < w.workload.dcs = omega (arith, ap (λ l. l.dcs) (workload-after w e)) in
    let grown = λ (j : ℕ). grows w e j causal can in
    elim (collected w e d p can is_gone) [
      | inl old ↦ let r = gone d p i old inside in
          (r.0, record_at-grows w e d p r.0 (grown d) r.1, Contains-grows w e i r.0 (grown i) r.2)
      | inr now ↦ (now.0, record_at-grows w e d p now.0 (grown d) now.1, Contains-grows w e i now.0 (grown i) (held w d p i now.0 causal one sound inside now.1 now.2))
    ]

-- all together

pub lawful_at_start : (load : Workload) → IsOrderly (start load)
lawful_at_start load = record { causal = causal_at_start load; one_record = one_record_at_start load; tables = tables_at_start load; gone = gone_at_start load }

pub lawful_kept : (w : World) (e : Event) → IsOrderly w → CanHappen w e → IsOrderly (after w e)
lawful_kept w e h can = record {
  causal = causal_kept w e h.causal can;
  one_record = one_record_kept w e h.causal h.one_record can;
  tables = tables_kept w e h.causal h.tables can;
  gone = gone_kept w e h.causal h.one_record h.tables h.gone can;
}
