-- The rows that stages leave are those of the log that they stand for.
use Rattle.std.proofs.Common.{◌≡◌, ℕ, zero, suc, ◌+◌, ◌-◌, ◌<◌, ◌≤◌, ◌⊎◌, true, false, cond, eqb, List, [], ◌∷◌, length, map, get_or, set, refl, ap, sym, ◌∙◌, subst, inl, inr, arith, Some}
use Rattle.std.specs.List.{All, flat_map, fold, slice_get, sum_by}
use Rattle.std.proofs.lemmas.List.{get_or-set_same, get_or-set_other, length-set, length-replicate, ext_get_or}
use Rattle.std.proofs.lemmas.List.Elements.{All-nil, All-append, All-head, All-map, All-tail, Contains-get_or}
use Rattle.std.proofs.lemmas.List.Sums.{sum_by-cons, sum_by-append}
use Rattle.std.proofs.lemmas.Bool.{cases_eq, cond-true, cond-false, eq-eqb, ne_eqb}
use Rattle.std.proofs.lemmas.Bool.Decides.{nat_tests}
use Rattle.std.proofs.lemmas.Option.{slice_get_within}
use Rattle.causal_deps.specs.declared.record.Place.{Place}
use Rattle.causal_deps.specs.declared.record.Record.{Record}
use Rattle.abstract_log.specs.declared.left.Row.{Row}
use Rattle.abstract_log.specs.declared.left.Row.TheVariants.{Kept, Gone}
use Rattle.abstract_log.specs.declared.world.World.{World}
use Rattle.abstract_log.specs.Left.{is_collected, row_at, rows_from, rows_of}
use Rattle.abstract_log.specs.Worlds.{log_of, gone_of}
use Rattle.maintainer.specs.Maintainers.{IsEntryOf, times, times_in}
use Rattle.maintainer.specs.declared.slot.Slot.{Slot}
use Rattle.maintainer.proofs.CountLemmas.{entry_counts}
use Rattle.token_queue.specs.declared.entry.Entry.{Entry}
use Rattle.token_queue.specs.Queues.{QueueState, times_among, waiting}
use Rattle.stage_world.specs.Stages.{Datacentre, slot_of, waiting_in}
use Rattle.stage_world.specs.StandsFor.{StandsAt, IsNamed, position_in}
use Rattle.stage_world.specs.Leaving.{blank_rows, rows_told, slots_in, slots_kept, slots_waiting, with_place, with_row, with_slot}
use Rattle.stage_world.proofs.FilledLemmas.{times_in-flat_map, All-flat_map}

-- What is collected counts among the positions.

not_collected : (p : ℕ) (gone : List ℕ) → times p gone ≡ 0 → is_collected gone p ≡ false
not_collected p [] none = refl
not_collected p (q ∷ qs) none =
    let split : times p (q ∷ qs) ≡ cond (eqb q p) 1 0 + times p qs = sum_by-cons (λ (x : ℕ). cond (eqb x p) 1 0) q qs in
    elim (cases_eq q p) [
      | inl same ↦ absurd (omega (arith, none, split, cond-true {A = ℕ} (eqb q p) 1 0 (eq-eqb q p same)))
      | inr other ↦ rw (ne_eqb q p other) (not_collected p qs (omega (arith, none, split)))
    ]

some_collected : (p : ℕ) (gone : List ℕ) → 1 ≤ times p gone → is_collected gone p ≡ true
some_collected p [] some = absurd (omega arith)
some_collected p (q ∷ qs) some =
    let split : times p (q ∷ qs) ≡ cond (eqb q p) 1 0 + times p qs = sum_by-cons (λ (x : ℕ). cond (eqb x p) 1 0) q qs in
    elim (cases_eq q p) [
      | inl same ↦ rw (eq-eqb q p same) refl
      | inr other ↦ rw (ne_eqb q p other) (some_collected p qs (omega (arith, some, split, cond-false {A = ℕ} (eqb q p) 1 0 (ne_eqb q p other))))
    ]

-- The rows of a log, by position.

length-rows : (gone : List ℕ) (n : ℕ) (log : List Record) → length (rows_from gone n log) ≡ length log
length-rows gone n [] = refl
length-rows gone n (r ∷ rs) = ap suc (length-rows gone (n + 1) rs)

row_there : (gone : List ℕ) (n : ℕ) (log : List Record) (k : ℕ) (r : Record) (x : Row) → slice_get log k ≡ Some r → get_or (rows_from gone n log) k x ≡ row_at gone (k + n) r
row_there gone n [] k r x is = absurd (cc)
row_there gone n (y ∷ ys) zero r x is =
    let same : y ≡ r = cc in
    let number : n ≡ 0 + n = omega arith in ap (row_at gone n) same ∙ ap (λ p. row_at gone p r) number
row_there gone n (y ∷ ys) (suc k) r x is = row_there gone (n + 1) ys k r x is ∙ ap (λ p. row_at gone p r) (omega arith)

-- Rows that come to be those of a log with these positions collected.
module _ (log : List Record) (gone : List ℕ) where
  abbrev target : List Row
  target = rows_of log gone

  -- the row is that of position p
  record IsRowAt (p : ℕ) (row : Row) : Type 0 where
    first : 1 ≤ p
    within : p ≤ length log
    is : (x : Row) → get_or target (p - 1) x ≡ row

  -- each row is told, but where its position is still to come
  record AreTold (rows : List Row) (coming : ℕ → ℕ) : Type 0 where
    size : length rows ≡ length log
    each : (k : ℕ) (x : Row) → k < length log → (get_or rows k x ≡ get_or target k x) ⊎ (1 ≤ coming (k + 1))

  told_same : (rows : List Row) (f g : ℕ → ℕ) → ((p : ℕ) → f p ≤ g p) → AreTold rows f → AreTold rows g
  told_same rows f g less h = record {
    size = h.size;
    each = λ k x within. elim (h.each k x within) [
      | inl done ↦ inl done
      | inr waits ↦ inr (omega (arith, waits, less (k + 1)))
    ];
  }

  told_row : (rows : List Row) (f : ℕ → ℕ) (p : ℕ) (row : Row) → IsRowAt p row → AreTold rows (λ q. cond (eqb p q) 1 0 + f q) → AreTold (with_row rows p row) f
  told_row rows f p row right h = record {
    size = length-set rows (p - 1) row ∙ h.size;
    each = λ k x within. elim (cases_eq (p - 1) k) [
      | inl same ↦ inl (subst (λ i. get_or (set rows (p - 1) row) i x ≡ get_or target i x) same (get_or-set_same rows (p - 1) row x (omega (arith, h.size, right.first, right.within)) ∙ sym (right.is x)))
      | inr other ↦ elim (h.each k x within) [
        | inl done ↦ inl (get_or-set_other rows (p - 1) k row x (λ e. other (sym e)) ∙ done)
        | inr waits ↦
            let apart : p ≡ k + 1 → ⊥ = λ e. other (omega (arith, e)) in
            inr (omega (arith, waits, cond-false {A = ℕ} (eqb p (k + 1)) 1 0 (ne_eqb p (k + 1) apart)))
      ]
    ];
  }

  told_slots : (rows : List Row) (f : ℕ → ℕ) (ss : List (Slot Record)) → All (λ s. IsRowAt s.lid (Kept s.value)) ss → AreTold rows (λ q. times_in q ss + f q) → AreTold (fold with_slot rows ss) f
  told_slots rows f [] all h = told_same rows (λ q. times_in {T = Record} q [] + f q) f (λ p. omega arith) h
  told_slots rows f (s ∷ ss) all h =
      let Right : Slot Record → Type 0 = λ x. IsRowAt x.lid (Kept x.value) in
      told_slots (with_slot rows s) f ss (All-tail Right s ss all) (told_row rows (λ q. times_in q ss + f q) s.lid (Kept s.value) (All-head Right s ss all)
      (told_same rows (λ q. times_in q (s ∷ ss) + f q) (λ q. cond (eqb s.lid q) 1 0 + (times_in q ss + f q))
      (λ q. omega (arith, sum_by-cons (λ (x : Slot Record). cond (eqb x.lid q) 1 0) s ss)) h))

  told_places : (rows : List Row) (f : ℕ → ℕ) (ps : List Place) → All (λ x. IsRowAt x.lid (Gone x.host x.toid)) ps → AreTold rows (λ q. times q (map (λ x. x.lid) ps) + f q)
      → AreTold (fold with_place rows ps) f
  told_places rows f [] all h = told_same rows (λ q. times q [] + f q) f (λ p. omega arith) h
  told_places rows f (x ∷ xs) all h =
      let Right : Place → Type 0 = λ y. IsRowAt y.lid (Gone y.host y.toid) in
      told_places (with_place rows x) f xs (All-tail Right x xs all) (told_row rows (λ q. times q (map (λ (y : Place). y.lid) xs) + f q) x.lid (Gone x.host x.toid) (All-head Right x xs all)
      (told_same rows (λ q. times q (map (λ (y : Place). y.lid) (x ∷ xs)) + f q) (λ q. cond (eqb x.lid q) 1 0 + (times q (map (λ (y : Place). y.lid) xs) + f q))
      (λ q. omega (arith, sum_by-cons (λ (y : ℕ). cond (eqb y q) 1 0) x.lid (map (λ (y : Place). y.lid) xs))) h))

  all_told : (rows : List Row) → AreTold rows (λ _. 0) → rows ≡ target
  all_told rows h = ext_get_or (Gone 0 0) rows target (h.size ∙ sym (length-rows gone 1 log)) (λ k within. elim (h.each k (Gone 0 0) (omega (arith, h.size))) [
    | inl done ↦ done
    | inr waits ↦ absurd (omega (arith, waits))
  ])

  -- what stands at a position that is not gone, and what is gone
  kept_right : (s : Slot Record) → IsEntryOf log s → times s.lid gone ≡ 0 → IsRowAt s.lid (Kept s.value)
  kept_right s stands none = record {
    first = stands.first;
    within = omega (arith, slice_get_within log (s.lid - 1) s.value stands.stands, stands.first);
    is = λ x. row_there gone 1 log (s.lid - 1) s.value x stands.stands
        ∙ cond-false {A = Row} (is_collected gone (s.lid - 1 + 1)) (Gone s.value.host s.value.toid) (Kept s.value) (ap (is_collected gone) (omega (arith, stands.first)) ∙ not_collected s.lid gone none);
  }

  gone_right : (place : Place) → IsNamed log place → 1 ≤ place.lid → 1 ≤ times place.lid gone → IsRowAt place.lid (Gone place.host place.toid)
  gone_right place stands first some = record {
    first = first;
    within = omega (arith, slice_get_within log (place.lid - 1) stands.rec stands.stands, first);
    is = λ x. row_there gone 1 log (place.lid - 1) stands.rec x stands.stands
        ∙ cond-true {A = Row} (is_collected gone (place.lid - 1 + 1)) (Gone stands.rec.host stands.rec.toid) (Kept stands.rec) (ap (is_collected gone) (omega (arith, first)) ∙ some_collected place.lid gone some)
        ∙ ap (λ (y : Place). Gone y.host y.toid) (sym stands.is);
  }

-- Where the records stand.

all_flat : {X Y : Type 0} (P : Y → Type 0) (f : X → List Y) (xs : List X) → All (λ x. All P (f x)) xs → All P (flat_map f xs)
all_flat P f [] all = All-nil P
all_flat P f (x ∷ xs) all = All-append P (f x) (flat_map f xs) (All-head (λ y. All P (f y)) x xs all) (all_flat P f xs (All-tail (λ y. All P (f y)) x xs all))

times_in-map : (p : ℕ) (es : List Entry) → times_in p (map slot_of es) ≡ times_among p es
times_in-map p [] = refl
times_in-map p (e ∷ es) = omega (arith, times_in-map p es, sum_by-cons (λ (x : Entry). cond (eqb x.lid p) 1 0) e es, sum_by-cons (λ (x : Slot Record). cond (eqb x.lid p) 1 0) (slot_of e) (map slot_of es))

times_in-outboxes : (p : ℕ) (boxes : List (List Entry)) → times_in p (slots_in boxes) ≡ sum_by (λ box. times_among p box) boxes
times_in-outboxes p [] = refl
times_in-outboxes p (box ∷ boxes) = omega (
  arith,
  times_in-outboxes p boxes,
  times_in-map p box,
  sum_by-append (λ (x : Slot Record). cond (eqb x.lid p) 1 0) (map slot_of box) (slots_in boxes),
  sum_by-cons (λ (es : List Entry). times_among p es) box boxes,
)

times_in-waiting : (p : ℕ) (qs : List QueueState) → times_in p (slots_waiting qs) ≡ waiting_in p qs
times_in-waiting p [] = refl
times_in-waiting p (q ∷ qs) = omega (
  arith,
  times_in-waiting p qs,
  times_in-outboxes p q.outboxes,
  sum_by-append (λ (x : Slot Record). cond (eqb x.lid p) 1 0) (slots_in q.outboxes) (slots_waiting qs),
  sum_by-cons (waiting p) q qs,
)

position_there : (log : List Record) (p : ℕ) → 1 ≤ p → p ≤ length log → position_in log p ≡ 1
position_there log p first within = grind (arith, nat_tests)

position_first : (log : List Record) (p : ℕ) → 1 ≤ position_in log p → 1 ≤ p
position_first log p some = grind (arith, nat_tests)

position_once : (log : List Record) (p : ℕ) → position_in log p ≤ 1
position_once log p = grind (arith, nat_tests)

place_counts : (ps : List Place) (k : ℕ) (x : Place) → k < length ps → 1 ≤ times (get_or ps k x).lid (map (λ (y : Place). y.lid) ps)
place_counts [] k x within = absurd (omega arith)
place_counts (p ∷ ps) zero x within =
    omega (arith, sum_by-cons (λ (y : ℕ). cond (eqb y p.lid) 1 0) p.lid (map (λ (y : Place). y.lid) ps), cond-true {A = ℕ} (eqb p.lid p.lid) 1 0 (eq-eqb p.lid p.lid refl))
place_counts (p ∷ ps) (suc k) x within =
    let q : ℕ = (get_or ps k x).lid in
    omega (arith, place_counts ps k x (omega arith), sum_by-cons (λ (y : ℕ). cond (eqb y q) 1 0) p.lid (map (λ (y : Place). y.lid) ps))

module _ (w : World) (d : ℕ) (z : Datacentre) (h : StandsAt w d z) where
  abbrev log : List Record
  log = log_of w d

  abbrev gone : List ℕ
  gone = gone_of w d

  abbrev waits : List (Slot Record)
  waits = slots_waiting z.queues

  abbrev kept : List (Slot Record)
  kept = slots_kept z.maintainers

  abbrev named : List ℕ
  named = map (λ (x : Place). x.lid) z.collected

  -- each position is in one place
  in_one_place : (p : ℕ) → times_in p waits + (times_in p kept + times p named) ≡ position_in log p
  in_one_place p = omega (arith, h.positions.placed.once p, times_in-waiting p z.queues, times_in-flat_map p z.maintainers, h.positions.placed.collected p, h.knowledge.named.once p)

  stands : (ss : List (Slot Record)) → All (IsEntryOf log) ss → ((p : ℕ) → times_in p ss + times p named ≤ position_in log p) → All (λ s. IsRowAt log gone s.lid (Kept s.value)) ss
  stands ss all few = λ k x within.
      let s : Slot Record = get_or ss k x in
      kept_right log gone s (all k x within) (omega (arith, few s.lid, position_once log s.lid, h.knowledge.named.once s.lid, entry_counts s ss (Contains-get_or ss k x within)))

  all_wait : All (IsEntryOf log) waits
  all_wait = all_flat (IsEntryOf log) (λ (q : QueueState). slots_in q.outboxes) z.queues
      (λ k x within. all_flat (IsEntryOf log) (λ (es : List Entry). map slot_of es) (get_or z.queues k x).outboxes
      (λ i es low. All-map (IsEntryOf log) slot_of (get_or (get_or z.queues k x).outboxes i es) (h.positions.placed.outboxes k x within i es low)))

  all_kept : All (IsEntryOf log) kept
  all_kept = All-flat_map (IsEntryOf log) z.maintainers h.positions.placed.entries

  all_gone : All (λ x. IsRowAt log gone x.lid (Gone x.host x.toid)) z.collected
  all_gone = λ k x within.
      let place : Place = get_or z.collected k x in
      let counted : 1 ≤ times place.lid named = place_counts z.collected k x within in
      gone_right log gone place (h.knowledge.named.each k x within) (position_first log place.lid (omega (arith, in_one_place place.lid, counted))) (omega (arith, counted, h.knowledge.named.once place.lid))

  pub rows_are : rows_told z.token.last z.queues z.maintainers z.collected ≡ rows_of log gone
  rows_are =
      let n : ℕ = z.token.last in
      let start : AreTold log gone (blank_rows n) (λ p. times_in p waits + (times_in p kept + (times p named + 0))) = record {
        size = length-replicate n (Gone 0 0) ∙ h.positions.counted.whole;
        each = λ k x within. inr (omega (arith, in_one_place (k + 1), position_there log (k + 1) (omega arith) (omega (arith, within))));
      } in
      let one = told_slots log gone (blank_rows n) (λ p. times_in p kept + (times p named + 0)) waits (stands waits all_wait (λ p. omega (arith, in_one_place p))) start in
      let two = told_slots log gone (fold with_slot (blank_rows n) waits) (λ p. times p named + 0) kept (stands kept all_kept (λ p. omega (arith, in_one_place p))) one in
      all_told log gone (rows_told n z.queues z.maintainers z.collected) (told_places log gone (fold with_slot (fold with_slot (blank_rows n) waits) kept) (λ _. 0) z.collected all_gone two)
