-- What holds of every drain.
use Rattle.std.proofs.Common.{◌≡◌, ℕ, zero, suc, ◌+◌, ◌<◌, ◌≤◌, true, false, List, [], ◌∷◌, ◌++◌, length, get_or, set, refl, ap, sym, ◌∙◌, subst, arith, Option, Some, None, append_assoc, append-nil}
use Rattle.std.specs.List.{All, sum_by}
use Rattle.std.specs.List.Sorted.{IsPermutation}
use Rattle.std.specs.Option.{option_map_or}
use Rattle.std.proofs.lemmas.List.{length-set}
use Rattle.std.proofs.lemmas.List.Sums.{sum_by-cons}
use Rattle.std.proofs.lemmas.List.Elements.{All-nil, All-weaker}
use Rattle.std.proofs.lemmas.List.Sorted.{IsPermutation-refl, IsPermutation-cons, IsPermutation-trans}
use Rattle.causal_deps.specs.declared.record.Record.{Record}
use Rattle.causal_deps.specs.declared.record.Item.{Item}
use Rattle.causal_deps.specs.Logs.{count_of, AreCountsOf, IsCausal}
use Rattle.causal_deps.proofs.LogsLemmas.{IsCausal-push}
use Rattle.token_queue.specs.Items.{FitsItem, IsItemReadyBy, is_ready, record_from, first_out, AreSomeOf}
use Rattle.token_queue.specs.Drain.{Drained, all_deferred, with_first, is_ready_on, record_on, drain_at_most, drain, drain_by_at_most, counts_with, AreSteps}
use Rattle.token_queue.proofs.ListLemmas.{is_out, none_out, out_of_none, first_out_agree, AreSomeOf-refl, AreSomeOf-trans}
use Rattle.token_queue.proofs.ItemLemmas.{ready_told, ready_found, ready_agree, record_agree, record_ready, record_host, counted_push}

-- what a drain gives, where the first step is known
step_of_drain : (n d : ℕ) (log : List Record) (items : List Item) (o : Option (Item × List Item)) → first_out (is_ready_on log) items ≡ o
    → drain_at_most (suc n) d log items ≡ option_map_or (λ found. with_first found.0 (record_on d log found.0) (drain_at_most n d (log ++ record_on d log found.0 ∷ []) found.1)) o (all_deferred items)
step_of_drain n d log items o is = ap (λ x. option_map_or (λ found. with_first found.0 (record_on d log found.0) (drain_at_most n d (log ++ record_on d log found.0 ∷ []) found.1)) x (all_deferred items)) is

-- A fact of all drains, by induction: it holds where nothing is ready, and of a first item before what comes later.
pub drain_by_steps : (d : ℕ) (P : List Record → List Item → Drained → Type 0)
    → ((log : List Record) (items : List Item) → P log items (all_deferred items))
    → ((log : List Record) (items : List Item) (found : Item × List Item) (later : Drained) → first_out (is_ready_on log) items ≡ Some found → P (log ++ record_on d log found.0 ∷ []) found.1 later → P log items (with_first found.0 (record_on d log found.0) later))
    → (n : ℕ) (log : List Record) (items : List Item) → P log items (drain_at_most n d log items)
drain_by_steps d P none more zero log items = none log items
drain_by_steps d P none more (suc n) log items = at (first_out (is_ready_on log) items) refl (λ l xs. drain_by_steps d P none more n l xs)
  where
    at : (o : Option (Item × List Item)) → first_out (is_ready_on log) items ≡ o → ((l : List Record) (xs : List Item) → P l xs (drain_at_most n d l xs))
        → P log items (option_map_or (λ found. with_first found.0 (record_on d log found.0) (drain_at_most n d (log ++ record_on d log found.0 ∷ []) found.1)) o (all_deferred items))
    at None is ih = none log items
    at (Some found) is ih = more log items found (drain_at_most n d (log ++ record_on d log found.0 ∷ []) found.1) is (ih (log ++ record_on d log found.0 ∷ []) found.1)

-- each step is ready on the log so far
pub drain_steps : (d n : ℕ) (log : List Record) (items : List Item) → AreSteps d log (drain_at_most n d log items).stamped (drain_at_most n d log items).records
drain_steps d n log items = drain_by_steps d (λ l xs all. AreSteps d l all.stamped all.records) (λ l xs. tt)
    (λ l xs found later is rest. (ready_told (λ h. count_of l h) found.0 (is_out (is_ready_on l) xs found is).passes, (refl, rest))) n log items

-- nothing is lost or made
pub drain_permutes : (d n : ℕ) (log : List Record) (items : List Item) → IsPermutation items ((drain_at_most n d log items).stamped ++ (drain_at_most n d log items).deferred)
drain_permutes d n log items = drain_by_steps d (λ l xs all. IsPermutation xs (all.stamped ++ all.deferred)) (λ l xs. IsPermutation-refl xs)
    (λ l xs found later is rest. IsPermutation-trans xs (found.0 ∷ found.1) (found.0 ∷ (later.stamped ++ later.deferred)) (is_out (is_ready_on l) xs found is).moved (IsPermutation-cons found.0 found.1 (later.stamped ++ later.deferred) rest)) n log items

pub drain_sums : (d n : ℕ) (log : List Record) (items : List Item) (f : Item → ℕ) → sum_by f items ≡ sum_by f (drain_at_most n d log items).stamped + sum_by f (drain_at_most n d log items).deferred
drain_sums d n log items f = drain_by_steps d (λ l xs all. sum_by f xs ≡ sum_by f all.stamped + sum_by f all.deferred) (λ l xs. omega arith)
    (λ l xs found later is rest. omega (arith, (is_out (is_ready_on l) xs found is).sums f, sum_by-cons f found.0 later.stamped, rest)) n log items

-- what is left stands in its order
pub drain_keeps_order : (d n : ℕ) (log : List Record) (items : List Item) → AreSomeOf (drain_at_most n d log items).deferred items
drain_keeps_order d n log items = drain_by_steps d (λ l xs all. AreSomeOf all.deferred xs) (λ l xs. AreSomeOf-refl xs)
    (λ l xs found later is rest. AreSomeOf-trans later.deferred found.1 xs rest (is_out (is_ready_on l) xs found is).ordered) n log items

-- a log in causal order stays so
pub drain_is_causal : (d n : ℕ) (log : List Record) (items : List Item) → IsCausal log → IsCausal (log ++ (drain_at_most n d log items).records)
drain_is_causal d n log items = drain_by_steps d (λ l xs all. IsCausal l → IsCausal (l ++ all.records)) (λ l xs causal. subst IsCausal (sym (append-nil l)) causal)
    (λ l xs found later is rest causal.
    let ready = record_ready d (λ h. count_of l h) found.0 (ready_told (λ h. count_of l h) found.0 (is_out (is_ready_on l) xs found is).passes) in
    subst IsCausal (append_assoc l (record_on d l found.0 ∷ []) later.records) (rest (IsCausal-push l (record_on d l found.0) causal ready))) n log items

-- the counts of the log after
pub drain_counts : (dcs d n : ℕ) (log : List Record) (items : List Item) → d < dcs → All (FitsItem dcs) items
    → (counts : List ℕ) → length counts ≡ dcs → AreCountsOf log counts → AreCountsOf (log ++ (drain_at_most n d log items).records) (counts_with counts (drain_at_most n d log items).records)
drain_counts dcs d n log items there = drain_by_steps d
    (λ l xs all. All (FitsItem dcs) xs → (counts : List ℕ) → length counts ≡ dcs → AreCountsOf l counts → AreCountsOf (l ++ all.records) (counts_with counts all.records))
    (λ l xs fit counts size are. subst (λ y. AreCountsOf y counts) (sym (append-nil l)) are)
    (λ l xs found later is rest fit counts size are.
    let out = is_out (is_ready_on l) xs found is in
    let fits = out.each (FitsItem dcs) fit in
    let r : Record = record_on d l found.0 in
    let ready = record_ready d (λ h. count_of l h) found.0 (ready_told (λ h. count_of l h) found.0 out.passes) in
    let host : r.host < dcs = record_host dcs d (λ h. count_of l h) found.0 there fits.0 in
    let next = counted_push l counts r are (omega arith) ready.next in
    subst (λ y. AreCountsOf y (counts_with (set counts r.host r.toid) later.records)) (append_assoc l (r ∷ []) later.records)
    (rest fits.1 (set counts r.host r.toid) (omega (arith, length-set counts r.host r.toid)) next)) n log items

-- what a drain gives, by its first step
abbrev drained_by : ℕ → ℕ → List Record → List Item → Option (Item × List Item) → Drained
drained_by n d log items o = option_map_or (λ found. with_first found.0 (record_on d log found.0) (drain_at_most n d (log ++ record_on d log found.0 ∷ []) found.1)) o (all_deferred items)

none_left_at : (d n : ℕ) (log : List Record) (items : List Item) (o : Option (Item × List Item)) → length items ≤ suc n → first_out (is_ready_on log) items ≡ o
    → ((l : List Record) (xs : List Item) → length xs ≤ n → All (λ item. is_ready_on (l ++ (drain_at_most n d l xs).records) item ≡ false) (drain_at_most n d l xs).deferred)
    → All (λ item. is_ready_on (log ++ (drained_by n d log items o).records) item ≡ false) (drained_by n d log items o).deferred
none_left_at d n log items None few is ih = subst (λ l. All (λ item. is_ready_on l item ≡ false) items) (sym (append-nil log)) (none_out (is_ready_on log) items is)
none_left_at d n log items (Some found) few is ih =
    let r : Record = record_on d log found.0 in
    let later : Drained = drain_at_most n d (log ++ r ∷ []) found.1 in
    subst (λ l. All (λ item. is_ready_on l item ≡ false) later.deferred) (append_assoc log (r ∷ []) later.records)
    (ih (log ++ r ∷ []) found.1 (omega (arith, (is_out (is_ready_on log) items found is).shorter)))

-- a drained list has no ready item
pub none_left : (d n : ℕ) (log : List Record) (items : List Item) → length items ≤ n
    → All (λ item. is_ready_on (log ++ (drain_at_most n d log items).records) item ≡ false) (drain_at_most n d log items).deferred
none_left d zero log [] few = All-nil (λ item. is_ready_on (log ++ []) item ≡ false)
none_left d zero log (x ∷ xs) few = absurd (omega arith)
none_left d (suc n) log items few = none_left_at d n log items (first_out (is_ready_on log) items) few refl (λ l xs. none_left d n l xs)

-- where none is ready, draining changes nothing
pub drain_of_none : (d n : ℕ) (log : List Record) (items : List Item) → All (λ item. is_ready_on log item ≡ false) items → drain_at_most n d log items ≡ all_deferred items
drain_of_none d zero log items none = refl
drain_of_none d (suc n) log items none = step_of_drain n d log items None (out_of_none (is_ready_on log) items none)

-- The counts of a log are enough to drain.
pub counts_suffice : (dcs d n : ℕ) (log : List Record) (counts : List ℕ) (items : List Item) → d < dcs → length counts ≡ dcs → AreCountsOf log counts → All (FitsItem dcs) items
    → drain_by_at_most n d counts items ≡ drain_at_most n d log items
counts_suffice dcs d zero log counts items there size are fit = refl
counts_suffice dcs d (suc n) log counts items there size are fit =
    ap (λ o. option_map_or (λ found. with_first found.0 (record_from d counts found.0) (drain_by_at_most n d (set counts (record_from d counts found.0).host (record_from d counts found.0).toid) found.1)) o (all_deferred items)) same
    ∙ at (first_out (is_ready_on log) items) refl (λ l cs xs. counts_suffice dcs d n l cs xs)
  where
    agree : (h : ℕ) → h < dcs → get_or counts h 0 ≡ count_of log h
    agree h below = are.each h (omega arith)

    same : first_out (is_ready counts) items ≡ first_out (is_ready_on log) items
    same = first_out_agree (is_ready counts) (is_ready_on log) items
        (All-weaker (FitsItem dcs) (λ item. is_ready counts item ≡ is_ready_on log item) (λ item fits. ready_agree dcs (λ h. get_or counts h 0) (λ h. count_of log h) item agree fits) items fit)

    at : (o : Option (Item × List Item)) → first_out (is_ready_on log) items ≡ o
        → ((l : List Record) (cs : List ℕ) (xs : List Item) → d < dcs → length cs ≡ dcs → AreCountsOf l cs → All (FitsItem dcs) xs → drain_by_at_most n d cs xs ≡ drain_at_most n d l xs)
        → option_map_or (λ found. with_first found.0 (record_from d counts found.0) (drain_by_at_most n d (set counts (record_from d counts found.0).host (record_from d counts found.0).toid) found.1)) o (all_deferred items)
        ≡ option_map_or (λ found. with_first found.0 (record_on d log found.0) (drain_at_most n d (log ++ record_on d log found.0 ∷ []) found.1)) o (all_deferred items)
    at None is ih = refl
    at (Some found) is ih =
        let out = is_out (is_ready_on log) items found is in
        let fits = out.each (FitsItem dcs) fit in
        let r : Record = record_on d log found.0 in
        let ready = record_ready d (λ h. count_of log h) found.0 (ready_told (λ h. count_of log h) found.0 out.passes) in
        let host : r.host < dcs = record_host dcs d (λ h. count_of log h) found.0 there fits.0 in
        ap (λ q. with_first found.0 q (drain_by_at_most n d (set counts q.host q.toid) found.1)) (record_agree d (λ h. get_or counts h 0) (λ h. count_of log h) found.0 (agree d there))
        ∙ ap (with_first found.0 r) (ih (log ++ r ∷ []) (set counts r.host r.toid) found.1 there (omega (arith, length-set counts r.host r.toid)) (counted_push log counts r are (omega arith) ready.next) fits.1)

-- what is left can not stand next
pub none_is_ready : (d : ℕ) (log : List Record) (items : List Item) → All (λ item. ¬ IsItemReadyBy (λ h. count_of (log ++ (drain d log items).records) h) item) (drain d log items).deferred
none_is_ready d log items =
    let after : List Record = log ++ (drain d log items).records in
    All-weaker (λ item. is_ready_on after item ≡ false) (λ item. ¬ IsItemReadyBy (λ h. count_of after h) item)
    (λ item is ready. let tested : is_ready_on after item ≡ true = ready_found (λ h. count_of after h) item ready in absurd (cc))
    (drain d log items).deferred (none_left d (length items) log items (omega arith))

pub drained_twice : (d : ℕ) (log : List Record) (items : List Item) → drain d (log ++ (drain d log items).records) (drain d log items).deferred ≡ all_deferred (drain d log items).deferred
drained_twice d log items = drain_of_none d (length (drain d log items).deferred) (log ++ (drain d log items).records) (drain d log items).deferred (none_left d (length items) log items (omega arith))

-- no more is stamped than there are items
pub drain_by_few : (n d : ℕ) (counts : List ℕ) (items : List Item) → length (drain_by_at_most n d counts items).records ≤ n
drain_by_few zero d counts items = omega arith
drain_by_few (suc n) d counts items = at (first_out (is_ready counts) items) (λ cs xs. drain_by_few n d cs xs)
  where
    at : (o : Option (Item × List Item)) → ((cs : List ℕ) (xs : List Item) → length (drain_by_at_most n d cs xs).records ≤ n)
        → length (option_map_or (λ found. with_first found.0 (record_from d counts found.0) (drain_by_at_most n d (set counts (record_from d counts found.0).host (record_from d counts found.0).toid) found.1)) o (all_deferred items)).records ≤ suc n
    at None ih = omega arith
    at (Some found) ih = omega (arith, ih (set counts (record_from d counts found.0).host (record_from d counts found.0).toid) found.1)
