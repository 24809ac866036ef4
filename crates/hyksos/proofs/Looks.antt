-- What a look-up sees, and the turn that it makes.
use Rattle.std.proofs.Common.{◌≡◌, ◌≢◌, ◌⊎◌, ℕ, zero, suc, ◌+◌, ◌<◌, ◌≤◌, Bool, true, false, cond, ltb, eqb, List, [], ◌∷◌, ◌++◌, length, map, take, get_or, set, refl, ap, sym, ◌∙◌, subst, inl, inr, arith, Option, Some, None, IsSomeAnd, IfOk, OnErr, Result, Ok, Err, slice_get}
use Rattle.std.specs.List.{Contains, list_any}
use Rattle.std.specs.Option.{option_map_or}
use Rattle.std.proofs.lemmas.Bool.{cond-false, le-ltb, eqb-true, or_cases, ltb-true}
use Rattle.std.proofs.lemmas.List.{take_more, set-get_or, map-append}
use Rattle.std.proofs.lemmas.Grind.{common_steps}
use Rattle.std.proofs.lemmas.Option.{same_Some, slice_get_within, get_or_from_slice_get, slice_get_cases}
use Rattle.causal_deps.specs.declared.answers.Newest.TheVariants.{Behind as BehindNewest, Found as FoundNewest}
use Rattle.causal_deps.specs.declared.answers.Pin.TheVariants.{Pinned, BelowFloor}
use Rattle.causal_deps.specs.declared.record.Kind.{Kind}
use Rattle.causal_deps.specs.declared.record.Kind.TheVariants.{Append as AppendKind, Put as PutKind, Del as DelKind}
use Rattle.causal_deps.specs.declared.record.Record.{Record}
use Rattle.causal_deps.specs.declared.record.Place.{Place}
use Rattle.causal_deps.specs.Logs.{record_at}
use Rattle.abstract_log.specs.declared.answer.Answer.TheVariants.{Items, Last}
use Rattle.abstract_log.specs.declared.answer.Found.{Found}
use Rattle.abstract_log.specs.declared.answer.Found.TheVariants.{At}
use Rattle.abstract_log.specs.declared.answer.ReadAnswer.TheVariants.{Beyond, Gone}
use Rattle.abstract_log.specs.declared.command.Command.{Command}
use Rattle.abstract_log.specs.declared.command.Command.TheVariants.{Append as AppendCommand, Put as PutCommand, Del as DelCommand, Get as GetCommand, Tx as TxCommand, Read as ReadCommand, Last as LastCommand}
use Rattle.abstract_log.specs.Commands.{draft_of}
use Rattle.cz_base.specs.declared.memory.NoMemory.{NoMemory}
use Rattle.abstract_log.specs.Answers.{newest, passes, place_at, is_update_of, found_at, found_by, found_place, found_record, read_in, shown_record}
use Rattle.abstract_log.specs.Updates.{told_by, told_place, told_record}
use Rattle.hyksos.specs.declared.looking.Seen.TheVariants.{Behind, Key, Places, Whole}
use Rattle.hyksos.specs.Looking.{key_seen, next_key_seen, sight}
use Rattle.hyksos.specs.Sessions.{SessionState, IsFoundAt, begun, is_look, keys_of, next_command, next_index, next_keys, reading, with_found}
use Rattle.hyksos.specs.Shelves.{ShelfState, covered_for, last_at, newest_told, pin_of, pin_told, pinned, with_pin}
use Rattle.hyksos.specs.declared.next.Next.{Next}
use Rattle.hyksos.specs.declared.next.Next.TheVariants.{Submitted, Unacknowledged, Finished, Behind as BehindNext}
use Rattle.hyksos.specs.Turns.{AfterTurn, IsAfterTurn, IsWriteTurn, behind, found_at_pin, key_turn, look, look_turn, reply, rest, session_turn, turn_with, write_turn}

-- a last update stands at position 1 or above
newest_first : (log : List Record) (key : List ℕ) (s p : ℕ) → newest log key s ≡ Some p → 1 ≤ p
newest_first log key zero p is = absurd (cc)
newest_first log key (suc s) p is = by_test (passes (is_update_of key) (slice_get log s)) (newest_first log key s p) is
  where
    by_test : (b : Bool) → (newest log key s ≡ Some p → 1 ≤ p) → cond b (Some (suc s)) (newest log key s) ≡ Some p → 1 ≤ p
    by_test true _ same = omega (arith, same_Some (suc s) p same)
    by_test false before later = before later

-- the last update is a put, and stands at p
record IsPutAt (log : List Record) (last : Option ℕ) (p : ℕ) : Type 0 where
  rec : Record
  at : last ≡ Some p
  stands : record_at log p ≡ Some rec
  put : rec.kind ≡ PutKind

put_told : (log : List Record) (last : Option ℕ) (p : ℕ) → told_place log last ≡ FoundNewest p → IsPutAt log last p
put_told log None p told = absurd (cc)
put_told log (Some q) p told = by_record (record_at log q) refl told
  where
    by_kind : (r : Record) (k : Kind) → record_at log q ≡ Some r → r.kind ≡ k → told_by k (place_at q r) ≡ FoundNewest p → IsPutAt log (Some q) p
    by_kind r AppendKind stands is bad = absurd (cc)
    by_kind r PutKind stands is same = let one : q ≡ p = cc in record { rec = r; at = ap Some one; stands = ap (record_at log) (sym one) ∙ stands; put = is }
    by_kind r DelKind stands is bad = absurd (cc)

    by_record : (o : Option Record) → record_at log q ≡ o → told_record q o ≡ FoundNewest p → IsPutAt log (Some q) p
    by_record None stands bad = absurd (cc)
    by_record (Some r) stands same = by_kind r r.kind stands refl same

-- where a put is told, the indexer of the key is not behind
told_put : (log : List Record) (m : ShelfState) (key : List ℕ) (s p : ℕ) → newest_told log m key s ≡ FoundNewest p → (ltb (covered_for m key) s ≡ false) × IsPutAt log (newest log key s) p
told_put log m key s p told = by_test (ltb (covered_for m key) s) refl told
  where
    by_test : (b : Bool) → ltb (covered_for m key) s ≡ b → cond b (BehindNewest (covered_for m key)) (told_place log (newest log key s)) ≡ FoundNewest p → (ltb (covered_for m key) s ≡ false) × IsPutAt log (newest log key s) p
    by_test true low bad = absurd (cc)
    by_test false reached same = (reached, put_told log (newest log key s) p same)

pub told_first : (log : List Record) (m : ShelfState) (key : List ℕ) (s p : ℕ) → newest_told log m key s ≡ FoundNewest p → 1 ≤ p
told_first log m key s p told = newest_first log key s p (told_put log m key s p told).1.at

-- what is seen of a key where a put is told: its value
pub put_seen : (log : List Record) (m : ShelfState) (key : List ℕ) (s p : ℕ) (r : Record) → newest_told log m key s ≡ FoundNewest p → record_at log p ≡ Some r → Key (At (place_at p r) r.body) ≡ key_seen log m key s
put_seen log m key s p r told stands =
    let here = told_put log m key s p told in
    let same : here.1.rec ≡ r = same_Some here.1.rec r (sym here.1.stands ∙ stands) in
    let put : r.kind ≡ PutKind = ap (λ (x : Record). x.kind) (sym same) ∙ here.1.put in
    let found : found_at log s key ≡ At (place_at p r) r.body = ap (found_place log) here.1.at ∙ ap (found_record p) stands ∙ ap (λ k. found_by k (place_at p r) r.body) put in
    sym (ap (λ b. cond b (Behind (covered_for m key)) (Key (found_at log s key))) here.0 ∙ ap Key found)

-- a position that a test finds is in the list
listed : (p : ℕ) (ps : List ℕ) → list_any (λ q. eqb q p) ps ≡ true → Contains ps p
listed p [] some = absurd (cc)
listed p (q ∷ qs) some = elim (or_cases (eqb q p) (list_any (λ x. eqb x p) qs) some) [
  | inl same ↦ (0, omega arith, eqb-true q p same)
  | inr later ↦ let has = listed p qs later in (suc has.0, omega (arith, has.1), has.2)
]

-- a filled position at or below the head is read as what stands there
pub read_filled : (log : List Record) (gone : List ℕ) (p s : ℕ) (r : Record) → p ≤ s → ¬ Contains gone p → record_at log p ≡ Some r → read_in log gone p s ≡ shown_record p (Some r)
read_filled log gone p s r low kept is = by_tests (ltb s p) refl (list_any (λ q. eqb q p) gone) refl
  where
    by_tests : (a : Bool) → ltb s p ≡ a → (b : Bool) → list_any (λ q. eqb q p) gone ≡ b → cond a Beyond (cond b Gone (shown_record p (record_at log p))) ≡ shown_record p (Some r)
    by_tests true above b _ = absurd (omega (arith, low, ltb-true s p above))
    by_tests false _ true has = absurd (kept (listed p gone has))
    by_tests false _ false _ = ap (shown_record p) is

-- one more key is found at s
pub found_more : (log : List Record) (keys : List (List ℕ)) (s : ℕ) (found : List Found) (key : List ℕ) → slice_get keys (length found) ≡ Some key → found ≡ map (found_at log s) (take (length found) keys)
    → found ++ found_at log s key ∷ [] ≡ map (found_at log s) (take (length (found ++ found_at log s key ∷ [])) keys)
found_more log keys s found key is so_far =
    let within : length found < length keys = slice_get_within keys (length found) key is in
    let size : length (found ++ found_at log s key ∷ []) ≡ length found + 1 = grind (arith, common_steps) in
    let longer : take (length found + 1) keys ≡ take (length found) keys ++ key ∷ [] = take_more keys (length found) key within ∙ ap (λ k. take (length found) keys ++ k ∷ []) (get_or_from_slice_get keys (length found) key key is) in
    let mapped : map (found_at log s) (take (length found) keys ++ key ∷ []) ≡ map (found_at log s) (take (length found) keys) ++ found_at log s key ∷ [] = map-append (found_at log s) (take (length found) keys) (key ∷ []) in
    ap (λ f. f ++ found_at log s key ∷ []) so_far ∙ sym mapped ∙ ap (map (found_at log s)) (sym longer) ∙ ap (λ n. map (found_at log s) (take n keys)) (sym size)

-- what is seen of the next key, and the turn of a look-up of keys
keys_behind : (log : List Record) (keys : List (List ℕ)) (m : ShelfState) (x : SessionState) (s covered : ℕ) → next_key_seen log keys m (length x.found) s ≡ Behind covered → key_turn log keys m x s ≡ behind m x s covered
keys_behind log keys m x s covered = by_key (slice_get keys (length x.found))
  where
    by_test : (key : List ℕ) (b : Bool) → cond b (Behind (covered_for m key)) (Key (found_at log s key)) ≡ Behind covered
        → cond b (behind m x s (covered_for m key)) (found_at_pin log keys m x s (x.found ++ found_at log s key ∷ [])) ≡ behind m x s covered
    by_test key true same = let at : covered_for m key ≡ covered = cc in ap (behind m x s) at
    by_test key false bad = absurd (cc)

    by_key : (o : Option (List ℕ)) → option_map_or (λ key. key_seen log m key s) o Whole ≡ Behind covered
        → option_map_or (λ key. cond (ltb (covered_for m key) s) (behind m x s (covered_for m key)) (found_at_pin log keys m x s (x.found ++ found_at log s key ∷ []))) o (reply m x s (Items (map (found_at log s) keys))) ≡ behind m x s covered
    by_key None bad = absurd (cc)
    by_key (Some key) is = by_test key (ltb (covered_for m key) s) is

-- a key is found
pub record IsNextFound (log : List Record) (keys : List (List ℕ)) (m : ShelfState) (x : SessionState) (s : ℕ) (found : Found) : Type 0 where
  pub turn : key_turn log keys m x s ≡ found_at_pin log keys m x s (x.found ++ found ∷ [])
  pub grown : x.found ≡ map (found_at log s) (take (length x.found) keys) → x.found ++ found ∷ [] ≡ map (found_at log s) (take (length (x.found ++ found ∷ [])) keys)

keys_found : (log : List Record) (keys : List (List ℕ)) (m : ShelfState) (x : SessionState) (s : ℕ) (found : Found) → next_key_seen log keys m (length x.found) s ≡ Key found → IsNextFound log keys m x s found
keys_found log keys m x s found = by_key (slice_get keys (length x.found)) refl
  where
    by_test : (key : List ℕ) (b : Bool) → slice_get keys (length x.found) ≡ Some key → ltb (covered_for m key) s ≡ b → cond b (Behind (covered_for m key)) (Key (found_at log s key)) ≡ Key found → IsNextFound log keys m x s found
    by_test key true at _ bad = absurd (cc)
    by_test key false at low same =
        let one : found_at log s key ≡ found = cc in
        record {
          turn = ap (λ o. option_map_or (λ k. cond (ltb (covered_for m k) s) (behind m x s (covered_for m k)) (found_at_pin log keys m x s (x.found ++ found_at log s k ∷ []))) o (reply m x s (Items (map (found_at log s) keys)))) at
              ∙ ap (λ b. cond b (behind m x s (covered_for m key)) (found_at_pin log keys m x s (x.found ++ found_at log s key ∷ []))) low
              ∙ ap (λ f. found_at_pin log keys m x s (x.found ++ f ∷ [])) one;
          grown = λ so_far. subst (λ f. x.found ++ f ∷ [] ≡ map (found_at log s) (take (length (x.found ++ f ∷ [])) keys)) one (found_more log keys s x.found key at so_far);
        }

    by_key : (o : Option (List ℕ)) → slice_get keys (length x.found) ≡ o → option_map_or (λ key. key_seen log m key s) o Whole ≡ Key found → IsNextFound log keys m x s found
    by_key None at bad = absurd (cc)
    by_key (Some key) at is = by_test key (ltb (covered_for m key) s) at refl is

-- every key is found already
keys_whole : (log : List Record) (keys : List (List ℕ)) (m : ShelfState) (x : SessionState) (s : ℕ) → next_key_seen log keys m (length x.found) s ≡ Whole → key_turn log keys m x s ≡ found_at_pin log keys m x s x.found
keys_whole log keys m x s = by_key (slice_get_cases keys (length x.found)).1
  where
    none_left : length keys ≤ length x.found → found_at_pin log keys m x s x.found ≡ reply m x s (Items (map (found_at log s) keys))
    none_left past = cond-false (ltb (length x.found) (length keys)) _ _ (le-ltb (length x.found) (length keys) past)

    seen_one : (key : List ℕ) (b : Bool) → cond b (Behind (covered_for m key)) (Key (found_at log s key)) ≢ Whole
    seen_one key true bad = cc
    seen_one key false bad = cc

    by_key : ((key : List ℕ) × (length x.found < length keys) × (slice_get keys (length x.found) ≡ Some key) × (get_or keys (length x.found) key ≡ key)) ⊎ ((length keys ≤ length x.found) × (slice_get keys (length x.found) ≡ None))
        → next_key_seen log keys m (length x.found) s ≡ Whole → key_turn log keys m x s ≡ found_at_pin log keys m x s x.found
    by_key (inl at) is = absurd (seen_one at.0 (ltb (covered_for m at.0) s) (ap (λ o. option_map_or (λ key. key_seen log m key s) o Whole) (sym at.2) ∙ is))
    by_key (inr past) is =
        ap (λ o. option_map_or (λ k. cond (ltb (covered_for m k) s) (behind m x s (covered_for m k)) (found_at_pin log keys m x s (x.found ++ found_at log s k ∷ []))) o (reply m x s (Items (map (found_at log s) keys)))) past.1
        ∙ sym (none_left past.0)

keys_list_nothing : (log : List Record) (keys : List (List ℕ)) (m : ShelfState) (found s : ℕ) (places : List Place) → next_key_seen log keys m found s ≢ Places places
keys_list_nothing log keys m found s places = by_key (slice_get keys found)
  where
    by_test : (key : List ℕ) (b : Bool) → cond b (Behind (covered_for m key)) (Key (found_at log s key)) ≢ Places places
    by_test key true bad = cc
    by_test key false bad = cc

    by_key : (o : Option (List ℕ)) → option_map_or (λ key. key_seen log m key s) o Whole ≢ Places places
    by_key None bad = cc
    by_key (Some key) bad = by_test key (ltb (covered_for m key) s) bad

-- What is seen of a command, and its turn.
pub seen_behind : (log : List Record) (c : Command) (m : ShelfState) (x : SessionState) (s covered : ℕ) → sight log c m (length x.found) s ≡ Behind covered → look log c m x s ≡ behind m x s covered
seen_behind log (AppendCommand tags body) m x s covered is = absurd (cc)
seen_behind log (PutCommand key body) m x s covered is = absurd (cc)
seen_behind log (DelCommand key) m x s covered is = absurd (cc)
seen_behind log (GetCommand key) m x s covered is = keys_behind log (key ∷ []) m x s covered is
seen_behind log (TxCommand keys) m x s covered is = keys_behind log keys m x s covered is
seen_behind log (ReadCommand p) m x s covered is = absurd (cc)
seen_behind log (LastCommand tag n) m x s covered is = by_test (ltb (covered_for m tag) s) is
  where
    by_test : (b : Bool) → cond b (Behind (covered_for m tag)) (Places (last_at log s tag n)) ≡ Behind covered → cond b (behind m x s (covered_for m tag)) (reply m x s (Last (last_at log s tag n))) ≡ behind m x s covered
    by_test true same = let at : covered_for m tag ≡ covered = cc in ap (behind m x s) at
    by_test false bad = absurd (cc)

pub record IsGoneOn (log : List Record) (c : Command) (m : ShelfState) (x : SessionState) (s : ℕ) (found : Found) : Type 0 where
  pub turn : look log c m x s ≡ found_at_pin log (keys_of c) m x s (x.found ++ found ∷ [])
  pub grown : x.found ≡ map (found_at log s) (take (length x.found) (keys_of c)) → x.found ++ found ∷ [] ≡ map (found_at log s) (take (length (x.found ++ found ∷ [])) (keys_of c))

pub seen_key : (log : List Record) (c : Command) (m : ShelfState) (x : SessionState) (s : ℕ) (found : Found) → sight log c m (length x.found) s ≡ Key found → IsGoneOn log c m x s found
seen_key log (AppendCommand tags body) m x s found is = absurd (cc)
seen_key log (PutCommand key body) m x s found is = absurd (cc)
seen_key log (DelCommand key) m x s found is = absurd (cc)
seen_key log (GetCommand key) m x s found is = let next = keys_found log (key ∷ []) m x s found is in record { turn = next.turn; grown = next.grown }
seen_key log (TxCommand keys) m x s found is = let next = keys_found log keys m x s found is in record { turn = next.turn; grown = next.grown }
seen_key log (ReadCommand p) m x s found is = absurd (cc)
seen_key log (LastCommand tag n) m x s found is = absurd (by_test (ltb (covered_for m tag) s) is)
  where
    by_test : (b : Bool) → cond b (Behind (covered_for m tag)) (Places (last_at log s tag n)) ≢ Key found
    by_test true bad = cc
    by_test false bad = cc

pub seen_whole : (log : List Record) (c : Command) (m : ShelfState) (x : SessionState) (s : ℕ) → is_look c ≡ true → sight log c m (length x.found) s ≡ Whole → look log c m x s ≡ found_at_pin log (keys_of c) m x s x.found
seen_whole log (AppendCommand tags body) m x s looks is = absurd (cc)
seen_whole log (PutCommand key body) m x s looks is = absurd (cc)
seen_whole log (DelCommand key) m x s looks is = absurd (cc)
seen_whole log (GetCommand key) m x s looks is = keys_whole log (key ∷ []) m x s is
seen_whole log (TxCommand keys) m x s looks is = keys_whole log keys m x s is
seen_whole log (ReadCommand p) m x s looks is = absurd (cc)
seen_whole log (LastCommand tag n) m x s looks is = absurd (by_test (ltb (covered_for m tag) s) is)
  where
    by_test : (b : Bool) → cond b (Behind (covered_for m tag)) (Places (last_at log s tag n)) ≢ Whole
    by_test true bad = cc
    by_test false bad = cc

pub seen_places : (log : List Record) (c : Command) (m : ShelfState) (x : SessionState) (s : ℕ) (places : List Place) → sight log c m (length x.found) s ≡ Places places → look log c m x s ≡ reply m x s (Last places)
seen_places log (AppendCommand tags body) m x s places is = absurd (cc)
seen_places log (PutCommand key body) m x s places is = absurd (cc)
seen_places log (DelCommand key) m x s places is = absurd (cc)
seen_places log (GetCommand key) m x s places is = absurd (keys_list_nothing log (key ∷ []) m (length x.found) s places is)
seen_places log (TxCommand keys) m x s places is = absurd (keys_list_nothing log keys m (length x.found) s places is)
seen_places log (ReadCommand p) m x s places is = absurd (cc)
seen_places log (LastCommand tag n) m x s places is = by_test (ltb (covered_for m tag) s) is
  where
    by_test : (b : Bool) → cond b (Behind (covered_for m tag)) (Places (last_at log s tag n)) ≡ Places places → cond b (behind m x s (covered_for m tag)) (reply m x s (Last (last_at log s tag n))) ≡ reply m x s (Last places)
    by_test true bad = absurd (cc)
    by_test false same = let one : last_at log s tag n ≡ places = cc in ap (λ p. reply m x s (Last p)) one

-- the keys of the next command are those of this one
pub keys_next : (x : SessionState) (c : Command) → next_command x ≡ Some c → next_keys x ≡ keys_of c
keys_next x c is = ap (λ o. option_map_or keys_of o []) is

-- a write to a place, written over
set_again : {X : Type 0} (xs : List X) (i : ℕ) (a b : X) → set (set xs i a) i b ≡ set xs i b
set_again [] i a b = refl
set_again (x ∷ xs) zero a b = refl
set_again (x ∷ xs) (suc i) a b = ap (λ ys. x ∷ ys) (set_again xs i a b)

-- a pin that is given back leaves the shelf as it was
pub given_back : (n s : ℕ) (m : ShelfState) → pin_of m n ≡ None → with_pin n None (with_pin n (Some s) m) ≡ m
given_back n s m none = ap (λ p. record m { pins = p }) (set_again m.pins n (Some s) None ∙ ap (λ o. set m.pins n o) (sym none) ∙ set-get_or m.pins n None)

-- this is what a turn leaves and answers, so far as it is the same turn
pub taken_along : (t u : AfterTurn) (next : Next) (x : SessionState) (m : ShelfState) → t ≡ u → IsAfterTurn u next x m → IsAfterTurn t next x m
taken_along t u next x m same taken = (taken.0 ∙ ap (λ v. v.next) (sym same), taken.1 ∙ ap (λ v. v.session) (sym same), taken.2 ∙ ap (λ v. v.shelf) (sym same))

pub taken_behind : (log : List Record) (c : Command) (m : ShelfState) (x new : SessionState) (s covered index : ℕ) → sight log c m (length x.found) s ≡ Behind covered → new ≡ reading s x.found x → index ≡ next_index new
    → IsAfterTurn (look log c m x s) (BehindNext index covered) new m
taken_behind log c m x new s covered index sees is at =
    taken_along (look log c m x s) (behind m x s covered) (BehindNext index covered) new m (seen_behind log c m x s covered sees)
    (ap (λ n. BehindNext n covered) (at ∙ ap next_index is), is, refl)

pub taken_key : (log : List Record) (c : Command) (m held : ShelfState) (x more new : SessionState) (s : ℕ) (found : Found) (next : Next) → next_command x ≡ Some c → sight log c m (length x.found) s ≡ Key found → IsFoundAt log s x
    → more ≡ with_found found x → (IsFoundAt log s more → IsAfterTurn (found_at_pin log (next_keys more) m more s more.found) next new held) → IsAfterTurn (look log c m x s) next new held
taken_key log c m held x more new s found next is sees so_far grown taken =
    let keys : next_keys x ≡ keys_of c = keys_next x c is in
    let on = seen_key log c m x s found sees in
    let have : IsFoundAt log s more = subst (λ y. IsFoundAt log s y) (sym grown)
    (on.grown (so_far ∙ ap (λ ks. map (found_at log s) (take (length x.found) ks)) keys) ∙ ap (λ ks. map (found_at log s) (take (length (x.found ++ found ∷ [])) ks)) (sym keys)) in
    taken_along (look log c m x s) (found_at_pin log (next_keys more) m more s more.found) next new held
    (on.turn ∙ ap (λ ks. found_at_pin log ks m x s (x.found ++ found ∷ [])) (sym keys) ∙ ap (λ y. found_at_pin log (next_keys y) m y s y.found) (sym grown)) (taken have)

pub taken_whole : (log : List Record) (c : Command) (m held : ShelfState) (x new : SessionState) (s : ℕ) (next : Next) → next_command x ≡ Some c → is_look c ≡ true → sight log c m (length x.found) s ≡ Whole
    → IsAfterTurn (found_at_pin log (next_keys x) m x s x.found) next new held → IsAfterTurn (look log c m x s) next new held
taken_whole log c m held x new s next is looks sees taken =
    taken_along (look log c m x s) (found_at_pin log (next_keys x) m x s x.found) next new held
    (seen_whole log c m x s looks sees ∙ ap (λ ks. found_at_pin log ks m x s x.found) (sym (keys_next x c is))) taken

pub taken_places : (log : List Record) (c : Command) (m held : ShelfState) (x new : SessionState) (s : ℕ) (places : List Place) (next : Next) → sight log c m (length x.found) s ≡ Places places
    → IsAfterTurn (reply m x s (Last places)) next new held → IsAfterTurn (look log c m x s) next new held
taken_places log c m held x new s places next sees taken = taken_along (look log c m x s) (reply m x s (Last places)) next new held (seen_places log c m x s places sees) taken

-- the turn of a session with this command
turn_is : (log : List Record) (m : ShelfState) (x : SessionState) (c : Command) → next_command x ≡ Some c → session_turn log m x ≡ turn_with log m x c
turn_is log m x c is = ap (λ o. option_map_or (turn_with log m x) o (rest m x)) is

pub taken_write : (log : List Record) (m : ShelfState) (x new : SessionState) (c : Command) (result : Result Next NoMemory) → next_command x ≡ Some c → turn_with log m x c ≡ write_turn m x c
    → IfOk result (λ next. IsWriteTurn c x next new) → IfOk result (λ next. IsAfterTurn (session_turn log m x) next new m)
taken_write log m x new c (Ok next) is with written = taken_along (session_turn log m x) (write_turn m x c) next new m (turn_is log m x c is ∙ with) ((written m).0, (written m).1, by_test x.standing.begun)
  where
    by_test : (b : Bool) → m ≡ (cond {A = AfterTurn} b (record { session = x; shelf = m; next = Unacknowledged (next_index x) }) (record { session = begun x; shelf = m; next = option_map_or Submitted (draft_of x.number (next_index x) x.standing.past c) Finished })).shelf
    by_test true = refl
    by_test false = refl
taken_write log m x new c (Err fault) is with written = tt

pub taken_look : (log : List Record) (m held : ShelfState) (x new : SessionState) (c : Command) (result : Result Next NoMemory) → next_command x ≡ Some c → turn_with log m x c ≡ look_turn log m x c
    → IfOk result (λ next. IsAfterTurn (look_turn log m x c) next new held) → IfOk result (λ next. IsAfterTurn (session_turn log m x) next new held)
taken_look log m held x new c (Ok next) is with taken = taken_along (session_turn log m x) (look_turn log m x c) next new held (turn_is log m x c is ∙ with) taken
taken_look log m held x new c (Err fault) is with taken = tt

-- a pin that was taken and given back in one turn
refused_back : (n s : ℕ) (m after last : ShelfState) → pin_of m n ≡ None → Pinned ≡ pin_told m s → after ≡ pinned n s m → last ≡ with_pin n None after → last ≡ m
refused_back n s m after last none told taken back = by_test (ltb s m.floor) told taken
  where
    by_test : (b : Bool) → Pinned ≡ cond b (BelowFloor m.floor) Pinned → after ≡ cond b m (with_pin n (Some s) m) → last ≡ m
    by_test true bad _ = absurd (cc)
    by_test false _ is = back ∙ ap (with_pin n None) is ∙ given_back n s m none

pub nothing_taken : (s : ℕ) (m after last : ShelfState) (x inside new : SessionState) (result : Result Next NoMemory) → inside ≡ x → pin_of m inside.number ≡ None → Pinned ≡ pin_told m s → after ≡ pinned inside.number s m
    → OnErr result ((new ≡ x) × (last ≡ with_pin x.number None after)) → OnErr result ((new ≡ x) × (last ≡ m))
nothing_taken s m after last x inside new (Ok next) same none told taken back = tt
nothing_taken s m after last x inside new (Err fault) same none told taken back =
    (back.0, refused_back inside.number s m after last none told taken (back.1 ∙ ap (λ (y : SessionState). with_pin y.number None after) (sym same)))

-- the turn with a command that is known
pub with_write : (log : List Record) (m : ShelfState) (x : SessionState) (c d : Command) → c ≡ d → turn_with log m x d ≡ write_turn m x d → turn_with log m x c ≡ write_turn m x c
with_write log m x c d is = subst (λ e. turn_with log m x e ≡ write_turn m x e) (sym is)

pub with_look : (log : List Record) (m : ShelfState) (x : SessionState) (c d : Command) → c ≡ d → turn_with log m x d ≡ look_turn log m x d → turn_with log m x c ≡ look_turn log m x c
with_look log m x c d is = subst (λ e. turn_with log m x e ≡ look_turn log m x e) (sym is)

pub looks_with : (x : SessionState) (c : Command) → next_command x ≡ Some c → IsSomeAnd (next_command x) (λ d. is_look d ≡ true) → is_look c ≡ true
looks_with x c is looks = subst (λ o. IsSomeAnd o (λ d. is_look d ≡ true)) is looks
