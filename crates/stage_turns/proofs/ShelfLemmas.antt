-- What maintainers and indexers show of a position, a key and a tag.
use Rattle.std.proofs.Common.{◌≡◌, ◌≢◌, ◌↔◌, ℕ, zero, suc, ◌+◌, ◌-◌, ◌^◌, ◌%◌, ◌<◌, ◌≤◌, ◌&&◌, min, Bool, true, false, cond, leb, ltb, eqb, List, [], ◌∷◌, ◌++◌, length, map, drop, get_or, refl, ap, sym, ◌∙◌, subst, inl, inr, arith, sum, Option, Some, None, IsSome, is_some, Result, Ok, Err, IfOk}
use Rattle.std.specs.Bool.{IsTrue}
use Rattle.std.specs.List.{All, Contains, flat_map, list_any}
use Rattle.std.proofs.Math.Nat.{mod-lt}
use Rattle.std.proofs.lemmas.Bool.{and_from, and_parts, cases_lt, cond_both, eq-eqb, eqb-false, le-leb, leb-true, lt-ltb, le-ltb, ltb-true, ne_eqb, or_cases, or_left, or_right}
use Rattle.std.proofs.lemmas.Bool.Decides.{nat_tests}
use Rattle.std.proofs.lemmas.List.{get_or_default, get_or-map, length-map}
use Rattle.std.proofs.lemmas.List.Elements.{All-head, All-tail, Contains-append_cases, Contains-append_left, Contains-append_right}
use Rattle.causal_deps.specs.declared.answers.Newest.{Newest}
use Rattle.causal_deps.specs.declared.answers.Newest.TheVariants.{Behind, Found}
use Rattle.causal_deps.specs.declared.answers.Pin.{Pin}
use Rattle.causal_deps.specs.declared.answers.Pin.TheVariants.{Pinned, BelowFloor}
use Rattle.causal_deps.specs.declared.record.Record.{Record}
use Rattle.abstract_log.specs.Answers.{newest}
use Rattle.abstract_log.specs.Updates.{told_place}
use Rattle.flstore_rounds.specs.Heads.{Pair, blank, head}
use Rattle.hyksos.specs.Shelves.{ShelfState, covered_for, newest_told}
use Rattle.log_gc.specs.Floors.{Floored, pin_of}
use Rattle.maintainer.specs.declared.slot.Slot.{Slot}
use Rattle.maintainer.specs.Maintainers.{AreRising, MaintainerState, entry_after, is_some_within, value_at}
use Rattle.tag_indexer.specs.Indexers.{IndexerState}
use Rattle.tag_indexer.specs.Rows.{home}
use Rattle.stage_world.specs.Stages.{indexer_at, no_epochs, no_indexer, vector_at}
use Rattle.stage_world.proofs.ListLemmas.{Contains-cases}
use Rattle.stage_world.specs.MoreTurns.{record_kept}
use Rattle.cz_base.specs.declared.memory.NoMemory.{NoMemory}
use Rattle.hyksos.specs.declared.next.SessionTurnDone.{SessionTurnDone as SessionTurned}
use Rattle.hyksos.specs.Sessions.{SessionState, HasFound}
use Rattle.hyksos.specs.Turns.{session_turn, turned}
use Rattle.stage_turns.specs.declared.done.TurnDone.{TurnDone}
use Rattle.stage_turns.specs.Shelves.{ShowsLog, gone_in, shelf_of}
use Rattle.stage_turns.specs.Clients.{IsSessionTurn, events_of, outcome_of, session_changes, shelf_for}

-- The entry at a position is the first above the one before it.

above_all : (p : ℕ) (es : List (Slot Record)) → All (λ e. p < e.lid) es → value_at p es ≡ None
above_all p [] all = refl
above_all p (e ∷ es) all =
    let above : p < e.lid = All-head (λ (x : Slot Record). p < x.lid) e es all in
    ap (λ b. cond b (Some e.value) (value_at p es)) (ne_eqb e.lid p (λ same. absurd (omega (arith, above, same)))) ∙ above_all p es (All-tail (λ (x : Slot Record). p < x.lid) e es all)

rising_tail : (e : Slot Record) (es : List (Slot Record)) → AreRising (e ∷ es) → AreRising es
rising_tail e es rise = record { below = λ i j d less within. rise.below (suc i) (suc j) d (omega (arith, less)) (omega (arith, within)) }

rising_above : (e : Slot Record) (es : List (Slot Record)) → AreRising (e ∷ es) → All (λ x. e.lid < x.lid) es
rising_above e es rise = λ j d within. rise.below 0 (suc j) d (omega arith) (omega (arith, within))

-- what stands at p, by the first entry above the position before it
abbrev pub value_of : ℕ → Option (Slot Record) → Option Record
value_of p None = None
value_of p (Some e) = cond (eqb e.lid p) (Some e.value) None

pub entry_at : (p : ℕ) (es : List (Slot Record)) → AreRising es → 1 ≤ p → value_at p es ≡ value_of p (entry_after (p - 1) es)
entry_at p [] rise first = refl
entry_at p (e ∷ es) rise first = elim (cases_lt (p - 1) e.lid) [
  | inl above ↦
      let found : entry_after (p - 1) (e ∷ es) ≡ Some e = ap (λ b. cond b (Some e) (entry_after (p - 1) es)) (lt-ltb (p - 1) e.lid above) in
      cond_both (eqb e.lid p) (Some e.value) (value_at p es) (λ o. o ≡ cond (eqb e.lid p) (Some e.value) None)
      (λ here. sym (ap (λ b. cond b (Some e.value) None) here))
      (λ other. (let higher : p < e.lid = omega (arith, above, eqb-false e.lid p other) in
      above_all p es (λ j d within. omega (arith, higher, rising_above e es rise j d within)) ∙ sym (ap (λ b. cond b (Some e.value) None) other)))
      ∙ ap (value_of p) (sym found)
  | inr below ↦
      let later : entry_after (p - 1) (e ∷ es) ≡ entry_after (p - 1) es = ap (λ b. cond b (Some e) (entry_after (p - 1) es)) (le-ltb (p - 1) e.lid (omega (arith, below))) in
      ap (λ b. cond b (Some e.value) (value_at p es)) (ne_eqb e.lid p (λ same. absurd (omega (arith, below, same, first))))
      ∙ entry_at p es (rising_tail e es rise) first ∙ ap (value_of p) (sym later)
]

pub kept_then : (p : ℕ) (es : List (Slot Record)) (e : Slot Record) → AreRising es → 1 ≤ p → Some e ≡ entry_after (p - 1) es → e.lid ≡ p → Some e.value ≡ value_at p es
kept_then p es e rise first found here = sym (entry_at p es rise first ∙ ap (value_of p) (sym found) ∙ ap (λ b. cond b (Some e.value) None) (eq-eqb e.lid p here))

pub kept_else : (p : ℕ) (es : List (Slot Record)) (e : Slot Record) → AreRising es → 1 ≤ p → Some e ≡ entry_after (p - 1) es → e.lid ≢ p → None ≡ value_at p es
kept_else p es e rise first found other = sym (entry_at p es rise first ∙ ap (value_of p) (sym found) ∙ ap (λ b. cond b (Some e.value) None) (ne_eqb e.lid p other))

pub kept_none : (p : ℕ) (es : List (Slot Record)) → AreRising es → 1 ≤ p → None ≡ entry_after (p - 1) es → None ≡ value_at p es
kept_none p es rise first found = sym (entry_at p es rise first ∙ ap (value_of p) (sym found))

-- Several maintainers' records at a position.

front_kept : (p : ℕ) (xs ys : List (Slot Record)) (r : Record) → value_at p xs ≡ Some r → value_at p (xs ++ ys) ≡ Some r
front_kept p [] ys r is = absurd (cc)
front_kept p (x ∷ xs) ys r is = by_test (eqb x.lid p) (front_kept p xs ys r) is
  where
    by_test : (b : Bool) → (value_at p xs ≡ Some r → value_at p (xs ++ ys) ≡ Some r) → cond b (Some x.value) (value_at p xs) ≡ Some r → cond b (Some x.value) (value_at p (xs ++ ys)) ≡ Some r
    by_test true later same = same
    by_test false later same = later same

back_kept : (p : ℕ) (xs ys : List (Slot Record)) → value_at p xs ≡ None → value_at p (xs ++ ys) ≡ value_at p ys
back_kept p [] ys none = refl
back_kept p (x ∷ xs) ys none = by_test (eqb x.lid p) (back_kept p xs ys) none
  where
    by_test : (b : Bool) → (value_at p xs ≡ None → value_at p (xs ++ ys) ≡ value_at p ys) → cond b (Some x.value) (value_at p xs) ≡ None → cond b (Some x.value) (value_at p (xs ++ ys)) ≡ value_at p ys
    by_test true later bad = absurd (cc)
    by_test false later same = later same

-- the maintainers from place i on
drop_one : (ms : List (MaintainerState Record)) (i : ℕ) (m : MaintainerState Record) → i < length ms → m ≡ get_or ms i m → drop i ms ≡ m ∷ drop (i + 1) ms
drop_one [] i m within is = absurd (omega (arith, within))
drop_one (x ∷ xs) zero m within is = ap (λ y. y ∷ xs) (sym is)
drop_one (x ∷ xs) (suc i) m within is =
    let one_up : suc (i + 1) ≡ suc i + 1 = omega arith in
    drop_one xs i m (omega (arith, within)) is ∙ ap (λ n. m ∷ drop n (x ∷ xs)) one_up

pub kept_here : (p : ℕ) (ms : List (MaintainerState Record)) (i : ℕ) (m : MaintainerState Record) (r : Record) → i < length ms → m ≡ get_or ms i m → Some r ≡ value_at p m.entries → record_kept (drop i ms) p ≡ record_kept ms p → Some r ≡ record_kept ms p
kept_here p ms i m r within is here so_far =
    sym (ap (λ ns. record_kept ns p) (drop_one ms i m within is) ∙ front_kept p m.entries (flat_map (λ (x : MaintainerState Record). x.entries) (drop (i + 1) ms)) r (sym here)) ∙ so_far

pub kept_later : (p : ℕ) (ms : List (MaintainerState Record)) (i : ℕ) (m : MaintainerState Record) → i < length ms → m ≡ get_or ms i m → None ≡ value_at p m.entries → record_kept (drop i ms) p ≡ record_kept ms p → record_kept (drop (i + 1) ms) p ≡ record_kept ms p
kept_later p ms i m within is none so_far =
    sym (ap (λ ns. record_kept ns p) (drop_one ms i m within is) ∙ back_kept p m.entries (flat_map (λ (x : MaintainerState Record). x.entries) (drop (i + 1) ms)) (sym none)) ∙ so_far

-- A collected position.

in_range : (low top p : ℕ) (ps : List ℕ) → list_any (λ q. leb low q && ltb q top) ps ≡ true → top ≤ low + 1 → low ≡ p → Contains ps p
in_range low top p [] some narrow is = absurd (cc)
in_range low top p (q ∷ qs) some narrow is = elim (or_cases (leb low q && ltb q top) (list_any (λ x. leb low x && ltb x top) qs) some) [
  | inl here ↦ let tests = and_parts (leb low q) (ltb q top) here in (0, omega arith, omega (arith, leb-true low q tests.0, ltb-true q top tests.1, narrow, is))
  | inr later ↦ let has = in_range low top p qs later narrow is in (suc has.0, omega (arith, has.1), has.2)
]

ranged : (low top p : ℕ) (ps : List ℕ) → Contains ps p → low ≤ p → p < top → list_any (λ q. leb low q && ltb q top) ps ≡ true
ranged low top p [] has from upto = absurd (omega (arith, has.1))
ranged low top p (q ∷ qs) has from upto = elim (Contains-cases q p qs has) [
  | inl same ↦ or_left (leb low q && ltb q top) (list_any (λ x. leb low x && ltb x top) qs) (and_from (leb low q) (ltb q top) (le-leb low q (omega (arith, same, from))) (lt-ltb q top (omega (arith, same, upto))))
  | inr later ↦ or_right (leb low q && ltb q top) (list_any (λ x. leb low x && ltb x top) qs) (ranged low top p qs later from upto)
]

pub gone_found : (low top p : ℕ) (ms : List (MaintainerState Record)) → list_any (λ m. is_some_within low top m.gone) ms ≡ true → top ≤ low + 1 → low ≡ p → Contains (gone_in ms) p
gone_found low top p [] some narrow is = absurd (cc)
gone_found low top p (m ∷ ms) some narrow is = elim (or_cases (is_some_within low top m.gone) (list_any (λ (x : MaintainerState Record). is_some_within low top x.gone) ms) some) [
  | inl here ↦ Contains-append_left m.gone (gone_in ms) p (in_range low top p m.gone here narrow is)
  | inr later ↦ Contains-append_right m.gone (gone_in ms) p (gone_found low top p ms later narrow is)
]

pub gone_listed : (low top p : ℕ) (ms : List (MaintainerState Record)) → Contains (gone_in ms) p → low ≤ p → p < top → list_any (λ m. is_some_within low top m.gone) ms ≡ true
gone_listed low top p [] has from upto = absurd (omega (arith, has.1))
gone_listed low top p (m ∷ ms) has from upto = elim (Contains-append_cases m.gone (gone_in ms) p has) [
  | inl here ↦ or_left (is_some_within low top m.gone) (list_any (λ (x : MaintainerState Record). is_some_within low top x.gone) ms) (ranged low top p m.gone here from upto)
  | inr later ↦ or_right (is_some_within low top m.gone) (list_any (λ (x : MaintainerState Record). is_some_within low top x.gone) ms) (gone_listed low top p ms later from upto)
]

pub gone_decides : (p top : ℕ) (ms : List (MaintainerState Record)) (found : Bool) → found ≡ list_any (λ m. is_some_within p top m.gone) ms → top ≡ min (p + 1) (2 ^ 64 - 1) → ((q : ℕ) → Contains (gone_in ms) q → q < 2 ^ 48)
    → IsTrue found ↔ Contains (gone_in ms) p
gone_decides p top ms found is at small = (
  λ yes_found. gone_found p top p ms (sym is ∙ yes_found) (omega (arith, at)) refl,
  λ has. is ∙ gone_listed p top p ms has (omega arith) (omega (arith, at, small p has)),
)

-- What an indexer tells.

module _ (v : Pair) (ms : List (MaintainerState Record)) (is : List IndexerState) (g : Floored) (some : 1 ≤ length is) (key : List ℕ) where
  home_within : home key (length is) < length is
  home_within = mod-lt (sum key) some

  -- how far the home of a key covers the log
  pub covered_is : covered_for (shelf_of v ms is g) key ≡ head (indexer_at is (home key (length is))).pair
  covered_is =
      ap (λ n. get_or (map (λ (i : IndexerState). head i.pair) is) (sum key % n) 0) (length-map is (λ (i : IndexerState). head i.pair))
      ∙ get_or-map (λ (i : IndexerState). head i.pair) is (home key (length is)) no_indexer 0 home_within

  -- the home is the indexer of that number
  pub home_is : (at : ℕ) (x : IndexerState) → at ≡ home key (length is) → x ≡ get_or is at x → x ≡ indexer_at is (home key (length is))
  home_is at x number stands = stands ∙ get_or_default is at x no_indexer (omega (arith, home_within, number)) ∙ ap (λ n. get_or is n no_indexer) number

-- the same from what the code looks up
pub covered_at : (v : Pair) (ms : List (MaintainerState Record)) (is : List IndexerState) (g : Floored) (some : 1 ≤ length is) (key : List ℕ) (n at : ℕ) (x : IndexerState) (items : List IndexerState) → n ≡ length is → at ≡ home key n → items ≡ is → x ≡ get_or items at x
    → head x.pair ≡ covered_for (shelf_of v ms is g) key
covered_at v ms is g some key n at x items size number same stands =
    ap (λ (i : IndexerState). head i.pair) (home_is v ms is g some key at x (number ∙ ap (home key) size) (stands ∙ ap (λ l. get_or l at x) same)) ∙ sym (covered_is v ms is g some key)

-- the vector that serves the session
pub serving_is : (vs items : List Pair) (s first : ℕ) (v : Pair) → items ≡ vs → v ≡ get_or items (s % first) v → s % first < length vs → v ≡ vector_at vs (s % first)
serving_is vs items s first v same stands within = stands ∙ ap (λ l. get_or l (s % first) v) same ∙ get_or_default vs (s % first) v (blank no_epochs) within

pub told_as : (log : List Record) (m : ShelfState) (key : List ℕ) (s covered : ℕ) (result : Newest) → covered_for m key ≡ covered → (covered < s → result ≡ Behind covered) → (s ≤ covered → result ≡ told_place log (newest log key s)) → result ≡ newest_told log m key s
told_as log m key s covered result is behind found = subst (λ n. result ≡ cond (ltb n s) (Behind n) (told_place log (newest log key s))) (sym is)
    (cond_both (ltb covered s) (Behind covered) (told_place log (newest log key s)) (λ told. result ≡ told) (λ low. behind (ltb-true covered s low)) (λ high. found (grind (arith, nat_tests, high))))

-- what is told to be found is the log's, as far as is covered
pub found_told : (log : List Record) (m : ShelfState) (key : List ℕ) (s p : ℕ) → newest_told log m key s ≡ Found p → (s ≤ covered_for m key) × (told_place log (newest log key s) ≡ Found p)
found_told log m key s p is = by_test (ltb (covered_for m key) s) refl is
  where
    by_test : (b : Bool) → ltb (covered_for m key) s ≡ b → cond b (Behind (covered_for m key)) (told_place log (newest log key s)) ≡ Found p → (s ≤ covered_for m key) × (told_place log (newest log key s) ≡ Found p)
    by_test true low bad = absurd (cc)
    by_test false high same = (grind (arith, nat_tests, high), same)

-- a pin, as it is told
pub pin_is : (s floor : ℕ) (result : Pin) → (result ≡ Pinned) ↔ (floor ≤ s) → ((f : ℕ) → (result ≡ BelowFloor f) ↔ ((f ≡ floor) × (s < floor))) → result ≡ cond (ltb s floor) (BelowFloor floor) Pinned
pin_is s floor result taken refused = cond_both (ltb s floor) (BelowFloor floor) Pinned (λ told. result ≡ told) (λ low. (refused floor).1 (refl, ltb-true s floor low)) (λ high. taken.1 (grind (arith, nat_tests, high)))

-- a put that is the last update of its key at a pinned position is kept
pub not_missing : (v : Pair) (ms : List (MaintainerState Record)) (is : List IndexerState) (g : Floored) (log : List Record) (key : List ℕ) (n s p : ℕ) → ShowsLog v ms is g log → pin_of g n ≡ Some s → newest_told log (shelf_of v ms is g) key s ≡ Found p
    → None ≡ record_kept ms p → false ≡ true
not_missing v ms is g log key n s p shows pin told none =
    let newest_is = found_told log (shelf_of v ms is g) key s p told in
    subst (λ o. IsSome o) (sym none) (shows.newest key s p (shows.pins n s pin) newest_is.0 newest_is.1)

-- What the turn of a session leaves and tells, from what it was lent.
pub client_told : (d s first : ℕ) (log : List Record) (ms : List (MaintainerState Record)) (vs : List Pair) (is : List IndexerState) (g taken after : Floored) (v v' : Pair) (ms' : List (MaintainerState Record)) (is' : List IndexerState) (x new : SessionState) (was_pinned : Bool) (t : SessionTurned) (result : Result TurnDone NoMemory)
    → x.number ≡ s → v ≡ vector_at vs (s % first) → taken ≡ g → was_pinned ≡ is_some x.pin
    → ShowsLog (vector_at vs (s % first)) ms is g log → HasFound log x
    → (ShowsLog v ms is taken log → HasFound log x → t ≡ turned log (shelf_of v ms is taken) x)
    → (ShowsLog v ms is taken log → HasFound log x → new ≡ (session_turn log (shelf_of v ms is taken) x).session)
    → (ShowsLog v ms is taken log → HasFound log x → shelf_of v' ms' is' after ≡ (session_turn log (shelf_of v ms is taken) x).shelf)
    → IfOk result (λ done. done.outcome ≡ outcome_of t.next) → IfOk result (λ done. done.events ≡ events_of d s t) → IfOk result (λ done. done.changed ≡ session_changes was_pinned t)
    → IfOk result (λ done. IsSessionTurn d log (shelf_for s first ms vs is g) x done new after)
client_told d s first log ms vs is g taken after v v' ms' is' x new was_pinned t (Err fault) number serving same pinned shows found tells leaves keeps outcome events changed = tt
client_told d s first log ms vs is g taken after v v' ms' is' x new was_pinned t (Ok done) number serving same pinned shows found tells leaves keeps outcome events changed =
    let here : ShowsLog v ms is taken log = subst (λ u. ShowsLog u ms is taken log) (sym serving) (subst (λ f. ShowsLog (vector_at vs (s % first)) ms is f log) (sym same) shows) in
    let m : shelf_of v ms is taken ≡ shelf_for s first ms vs is g = ap (λ u. shelf_of u ms is taken) serving ∙ ap (λ f. shelf_of (vector_at vs (s % first)) ms is f) same in
    let told : t ≡ turned log (shelf_for s first ms vs is g) x = tells here found ∙ ap (λ y. turned log y x) m in
    record {
      session = leaves here found ∙ ap (λ y. (session_turn log y x).session) m;
      floor = ap (λ (y : ShelfState). record { floor = y.floor; pins = y.pins }) (keeps here found) ∙ ap (λ y. record { floor = (session_turn log y x).shelf.floor; pins = (session_turn log y x).shelf.pins }) m;
      outcome = outcome ∙ ap (λ u. outcome_of u.next) told;
      events = events ∙ ap (λ n. events_of d n t) (sym number) ∙ ap (events_of d x.number) told;
      changed = changed ∙ ap (λ b. session_changes b t) pinned ∙ ap (session_changes (is_some x.pin)) told;
    }
