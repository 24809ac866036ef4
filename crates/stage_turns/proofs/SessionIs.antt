-- The turn of a session through the shelf of the stages is the turn of the stage world.
use Rattle.std.proofs.Common.{◌≡◌, ◌||◌, not, ℕ, zero, suc, ◌+◌, ◌%◌, ◌<◌, ◌≤◌, Bool, true, false, cond, ltb, eqb, List, [], ◌∷◌, ◌++◌, Option, Some, None, length, map, take, get_or, set, sum, refl, ap, ap₂, sym, ◌∙◌, subst, inl, inr, arith, slice_get}
use Rattle.std.specs.List.{All, find, list_any}
use Rattle.std.specs.Option.{option_and_then, option_map_or, unwrap_or}
use Rattle.std.proofs.Math.Nat.{mod-lt}
use Rattle.std.proofs.lemmas.Bool.{cases_eq, cases_lt, cond_both, eq-eqb, eqb-true, le-ltb, lt-ltb, ltb-false, ne_eqb, false≢true}
use Rattle.std.proofs.lemmas.List.{get_or-map, length-map, length_push, map-append, set-get_or, take_all, take_more}
use Rattle.std.proofs.lemmas.List.Elements.{All-get_or}
use Rattle.std.proofs.lemmas.List.Sums.{sum_by-cons, sum_by-append}
use Rattle.std.proofs.lemmas.Option.{same_Some, slice_get-get_or}
use Rattle.causal_deps.specs.declared.record.Record.{Record}
use Rattle.abstract_log.specs.declared.command.Command.{Command}
use Rattle.abstract_log.specs.declared.command.Command.TheVariants.{Append, Put, Del, Get, Tx, Read as ReadCommand, Last as LastCommand}
use Rattle.abstract_log.specs.declared.answer.Answer.{Answer}
use Rattle.abstract_log.specs.declared.answer.Answer.TheVariants.{Items, Read, Last}
use Rattle.abstract_log.specs.declared.answer.Found.{Found}
use Rattle.abstract_log.specs.declared.answer.ReadAnswer.TheVariants.{Beyond, Gone}
use Rattle.abstract_log.specs.declared.event.Event.TheVariants.{Submit, Reply}
use Rattle.abstract_log.specs.declared.script.Outcome.{Outcome}
use Rattle.abstract_log.specs.declared.script.Outcome.TheVariants.{Absent, Behind, Below, Finished, Key, Replied, Submitted, Waiting}
use Rattle.abstract_log.specs.declared.world.World.{World}
use Rattle.abstract_log.specs.Worlds.{log_of, gone_of}
use Rattle.abstract_log.specs.Commands.{is_write}
use Rattle.abstract_log.specs.Answers.{found_at, last_of, read_in, shown_record}
use Rattle.abstract_log.specs.Fits.{FitsCommand}
use Rattle.causal_deps.specs.Logs.{record_at}
use Rattle.flstore_rounds.specs.Heads.{Pair, IsTruePair, blank, head}
use Rattle.flstore_rounds.proofs.HeadLemmas.{head_filled}
use Rattle.log_gc.specs.Floors.{Floored}
use Rattle.log_laws.proofs.Places.{All-at_place}
use Rattle.maintainer.specs.Maintainers.{MaintainerState, plain, times}
use Rattle.tag_indexer.specs.Indexers.{IndexerState}
use Rattle.tag_indexer.specs.Rows.{home, tagged_places}
use Rattle.hyksos.specs.declared.next.Next.{Next}
use Rattle.hyksos.specs.declared.next.Next.TheVariants.{Key as KeyNext, Below as BelowNext, Replied as RepliedNext}
use Rattle.hyksos.specs.Shelves.{ShelfState, covered_for, last_at, with_pin}
use Rattle.hyksos.specs.Turns.{AfterTurn, behind, found_at_pin, key_turn as key_taken, last_turn as last_taken, read_turn as read_taken, reply, rest, session_turn, turn_with, turned, wait}
use Rattle.hyksos.specs.Sessions.{SessionState as Session, begun, next_command, next_index, reading, replied, writes}
use Rattle.stage_world.specs.Stages.{Datacentre, IsFilledIn, indexer_at, no_epochs, no_indexer, vector_at}
use Rattle.stage_world.specs.Turns.{Turned, at_session, quiet, submitted}
use Rattle.stage_world.specs.MoreTurns.{home_of}
use Rattle.stage_world.specs.ClientTurns.{and_then, begin_turn, behind_turn, client_of, found_more, found_turn, key_turn, last_turn, look_turn, looked_up, open_turn, reading_at, reply_with, shown_at, waiting_turn}
use Rattle.stage_world.specs.StandsFor.{IsAsFar, IsPinned, StandsAt, gone_times, is_look, keys_of}
use Rattle.stage_world.proofs.SessionLemmas.{begun_then}
use Rattle.stage_world.proofs.FilledLemmas.{filled_within}
use Rattle.stage_world.proofs.LookUps.{looked_up_is, tagged_home}
use Rattle.stage_world.proofs.ReplyTurn.{no_draft, shown_is}
use Rattle.stage_turns.proofs.ClientIs.{set_session}
use Rattle.stage_turns.specs.Clients.{begin_events, events_of, outcome_of, reply_events}
use Rattle.stage_turns.specs.Shelves.{gone_in, shelf_of}

-- What is gone, whoever says so.

gone_first : (b later : Bool) (n : ℕ) → later ≡ ltb 0 n → (b || later) ≡ ltb 0 (cond b 1 0 + n)
gone_first true later n is = sym (lt-ltb 0 (1 + n) (omega arith))
gone_first false later n is = is ∙ ap (ltb 0) (omega arith)

any_is_times : (p : ℕ) (ps : List ℕ) → list_any (λ q. eqb q p) ps ≡ ltb 0 (times p ps)
any_is_times p [] = refl
any_is_times p (q ∷ qs) =
    gone_first (eqb q p) (list_any (λ x. eqb x p) qs) (times p qs) (any_is_times p qs) ∙ ap (ltb 0) (sym (sum_by-cons (λ (x : ℕ). cond (eqb x p) 1 0) q qs))

any_by_times : (p : ℕ) (ps qs : List ℕ) → times p ps ≡ times p qs → list_any (λ q. eqb q p) ps ≡ list_any (λ q. eqb q p) qs
any_by_times p ps qs same = any_is_times p ps ∙ ap (ltb 0) same ∙ sym (any_is_times p qs)

times_gone : (p : ℕ) (ms : List (MaintainerState Record)) → times p (gone_in ms) ≡ gone_times p ms
times_gone p [] = refl
times_gone p (m ∷ ms) =
    sum_by-append (λ (x : ℕ). cond (eqb x p) 1 0) m.gone (gone_in ms) ∙ ap (λ n. times p m.gone + n) (times_gone p ms)
    ∙ sym (sum_by-cons (λ (x : MaintainerState Record). times p x.gone) m ms)

-- One test on both sides, and a test against its contrary.

tested : {X Y : Type 0} (f : X → Y) (a b : Bool) (l k : Y) (r q : X) → a ≡ b → (a ≡ true → l ≡ f r) → (a ≡ false → k ≡ f q) → cond a l k ≡ f (cond b r q)
tested f true b l k r q is yes_case no_case = yes_case refl ∙ ap (λ c. f (cond c r q)) is
tested f false b l k r q is yes_case no_case = no_case refl ∙ ap (λ c. f (cond c r q)) is

contrary : {X Y : Type 0} (f : X → Y) (a b : Bool) (l k : Y) (r q : X) → b ≡ not a → (a ≡ true → l ≡ f q) → (a ≡ false → k ≡ f r) → cond a l k ≡ f (cond b r q)
contrary f true b l k r q is yes_case no_case = yes_case refl ∙ sym (ap (λ c. f (cond c r q)) is)
contrary f false b l k r q is yes_case no_case = no_case refl ∙ sym (ap (λ c. f (cond c r q)) is)

less_or_same : (a b : ℕ) → a ≤ b → ltb a b ≡ not (eqb a b)
less_or_same a b most = elim (cases_eq a b) [
  | inl same ↦ le-ltb a b (omega (arith, same)) ∙ sym (ap not (eq-eqb a b same))
  | inr other ↦ lt-ltb a b (omega (arith, most, other)) ∙ sym (ap not (ne_eqb a b other))
]

gone_plain : (p : ℕ) (ms : List (MaintainerState Record)) → gone_times p (map plain ms) ≡ gone_times p ms
gone_plain p [] = refl
gone_plain p (m ∷ ms) = sum_by-cons (λ (x : MaintainerState Record). times p x.gone) (plain m) (map plain ms) ∙ ap (λ n. times p m.gone + n) (gone_plain p ms) ∙ sym (sum_by-cons (λ (x : MaintainerState Record). times p x.gone) m ms)

-- The home of a key, and how far it covers.

first_numbered : (k n : ℕ) (is : List IndexerState) → ((i : ℕ) → i < length is → (indexer_at is i).number ≡ k + i) → n < length is → find (λ (x : IndexerState). eqb x.number (k + n)) is ≡ Some (indexer_at is n)
first_numbered k n [] numbers within = absurd (omega (arith, within))
first_numbered k zero (x ∷ xs) numbers within = ap (λ b. cond b (Some x) (find (λ (y : IndexerState). eqb y.number (k + 0)) xs)) (eq-eqb x.number (k + 0) (numbers 0 (omega arith)))
first_numbered k (suc n) (x ∷ xs) numbers within =
    let first : x.number ≡ k + 0 = numbers 0 (omega arith) in
    let next : k + 1 + n ≡ k + suc n = omega arith in
    ap (λ b. cond b (Some x) (find (λ (y : IndexerState). eqb y.number (k + suc n)) xs)) (ne_eqb x.number (k + suc n) (λ same. absurd (omega (arith, first, same))))
    ∙ ap (λ j. find (λ (y : IndexerState). eqb y.number j) xs) (sym next)
    ∙ first_numbered (k + 1) n xs (λ i inside. numbers (suc i) (omega (arith, inside)) ∙ up k i) (omega (arith, within))
  where
    up : (a b : ℕ) → a + suc b ≡ a + 1 + b
    up a b = omega arith

covers_as : (z : Datacentre) (m : ShelfState) (name : List ℕ) → m.covered ≡ map (λ (i : IndexerState). head i.pair) z.indexers → 1 ≤ length z.indexers
    → ((i : ℕ) → i < length z.indexers → (indexer_at z.indexers i).number ≡ i) → covered_for m name ≡ head (home_of z name).pair
covers_as z m name is some numbers =
    let n : ℕ = length z.indexers in
    let at : ℕ = home name n in
    let inside : at < n = mod-lt (sum name) some in
    let size : length m.covered ≡ n = ap (λ (xs : List ℕ). length xs) is ∙ length-map z.indexers (λ (i : IndexerState). head i.pair) in
    let found : find (λ (x : IndexerState). eqb x.number at) z.indexers ≡ Some (indexer_at z.indexers at) = ap (λ k. find (λ (x : IndexerState). eqb x.number k) z.indexers) (plain_at at) ∙ first_numbered 0 at z.indexers (λ i within. numbers i within ∙ plain_at i) inside in
    ap₂ (λ (xs : List ℕ) k. get_or xs (home name k) 0) is size
    ∙ get_or-map (λ (i : IndexerState). head i.pair) z.indexers at no_indexer 0 inside
    ∙ sym (ap (λ o. head (unwrap_or o no_indexer).pair) found)
  where
    plain_at : (k : ℕ) → k ≡ 0 + k
    plain_at k = omega arith

-- what a look-up at s rests on
pub record MayLook (log : List Record) (low : ℕ) (x : Session) (c : Command) (s : ℕ) : Type 0 where
  pub kept : low ≤ s
  pub within : s ≤ length log
  pub fewer : 1 ≤ length (keys_of c) → length x.found < length (keys_of c)
  pub same : x.found ≡ map (found_at log s) (take (length x.found) (keys_of c))

module _ (w : World) (d : ℕ) (z : Datacentre) (h : StandsAt w d z) (m : ShelfState) (covered : m.covered ≡ map (λ (i : IndexerState). head i.pair) z.indexers) where
  abbrev log : List Record
  log = log_of w d

  covers : (name : List ℕ) → covered_for m name ≡ head (home_of z name).pair
  covers name = covers_as z m name covered h.membership.members.ranges.indexers.0 h.coverage.numbered

  -- an open session x among others, of which it is the one with this number
  module _ (xs ys : List Session) (i : ℕ) (x : Session) (opened_is : x.standing.begun ≡ true) (puts : (f : Session → Session) → at_session x.number f xs ≡ set ys i (f x)) (stays : xs ≡ set ys i x) where
    abbrev here : Datacentre
    here = record z { sessions = xs }

    abbrev left : Session → Datacentre
    left y = record z { sessions = set ys i y }

    abbrev told : AfterTurn → Turned
    told t = record { after = left t.session; outcome = outcome_of t.next; events = reply_events d x.number t.next }

    begun_is : x ≡ begun x
    begun_is = ap (λ v. record x { standing = record x.standing { begun = v } }) opened_is

    replied_is : (answer : Answer) (s : ℕ) → reply_with d here x answer s ≡ told (reply m x s answer)
    replied_is answer s = ap (λ ss. record { after = record z { sessions = ss }; outcome = Replied (next_index x); events = Reply d x.number (next_index x) s answer ∷ [] }) (puts (replied answer s))

    reading_is : (s : ℕ) (found : List Found) → reading_at here x s found ≡ left (reading s found x)
    reading_is s found = ap (λ ss. record z { sessions = ss }) (puts (found_more s found) ∙ ap (λ (y : Session). set ys i (record y { pin = Some s; found = found })) begun_is)

    waits_is : (outcome : Outcome) → quiet outcome here ≡ quiet outcome (left (begun x))
    waits_is outcome = ap (λ ss. quiet outcome (record z { sessions = ss })) (stays ∙ ap (set ys i) begun_is)

    behind_is : (name : List ℕ) (s : ℕ) → behind_turn here x name s ≡ told (behind m x s (covered_for m name))
    behind_is name s = ap₂ (λ k y. quiet (Behind (next_index x) k) y) (sym (covers name)) (reading_is s x.found)

    module _ (c : Command) (s : ℕ) (at : MayLook log z.floor x c s) where
      -- one more key is found
      found_is : (keys : List (List ℕ)) (found : List Found) → length found ≤ length keys → found ≡ map (found_at log s) (take (length found) keys) → found_turn d here x keys s found ≡ told (found_at_pin log keys m x s found)
      found_is keys found most is =
          contrary told (eqb (length found) (length keys)) (ltb (length found) (length keys))
          (reply_with d here x (Items found) s) (quiet (Key (next_index x) (length found) (length keys) s) (reading_at here x s found))
          (record { session = reading s found x; shelf = m; next = KeyNext (next_index x) (length found) (length keys) s }) (reply m x s (Items (map (found_at log s) keys)))
          (less_or_same (length found) (length keys) most)
          (λ all. (let whole : found ≡ map (found_at log s) keys = is ∙ ap (λ n. map (found_at log s) (take n keys)) (eqb-true (length found) (length keys) all) ∙ ap (map (found_at log s)) (take_all (length keys) keys (omega arith)) in
          replied_is (Items found) s ∙ ap (λ fs. told (reply m x s (Items fs))) whole))
          (λ part. ap (quiet (Key (next_index x) (length found) (length keys) s)) (reading_is s found))

      keys_is : (keys : List (List ℕ)) → keys_of c ≡ keys → 1 ≤ length keys → key_turn d here x keys s ≡ told (key_taken log keys m x s)
      keys_is keys has some =
          let n : ℕ = length x.found in
          let size : length (keys_of c) ≡ length keys = ap (λ (ks : List (List ℕ)). length ks) has in
          let inside : n < length keys = omega (arith, size, at.fewer (omega (arith, size, some))) in
          let key : List ℕ = get_or keys n [] in
          let there : slice_get keys n ≡ Some key = slice_get-get_or keys n [] inside in
          let before : x.found ≡ map (found_at log s) (take n keys) = at.same ∙ ap (λ ks. map (found_at log s) (take n ks)) has in
          let more : List Found = x.found ++ found_at log s key ∷ [] in
          let long : length more ≡ n + 1 = length_push x.found (found_at log s key) in
          let now : more ≡ map (found_at log s) (take (length more) keys) =
          ap (λ fs. fs ++ found_at log s key ∷ []) before ∙ sym (map-append (found_at log s) (take n keys) (key ∷ []))
          ∙ ap (map (found_at log s)) (sym (take_more keys n [] inside)) ∙ ap (λ k. map (found_at log s) (take k keys)) (sym long) in
          ap (λ o. option_map_or (λ k. cond (ltb (head (home_of z k).pair) s) (behind_turn here x k s) (found_turn d here x keys s (x.found ++ looked_up z k s ∷ []))) o (quiet Absent here)) there
          ∙ tested told (ltb (head (home_of z key).pair) s) (ltb (covered_for m key) s) (behind_turn here x key s) (found_turn d here x keys s (x.found ++ looked_up z key s ∷ []))
          (behind m x s (covered_for m key)) (found_at_pin log keys m x s more) (ap (λ k. ltb k s) (sym (covers key)))
          (λ low. behind_is key s)
          (λ reaches. ap (λ f. found_turn d here x keys s (x.found ++ f ∷ [])) (looked_up_is w d z key s h at.kept at.within (ltb-false (head (home_of z key).pair) s reaches))
          ∙ found_is keys more (omega (arith, long, inside)) now)
          ∙ sym (ap (λ o. told (option_map_or (λ k. cond (ltb (covered_for m k) s) (behind m x s (covered_for m k)) (found_at_pin log keys m x s (x.found ++ found_at log s k ∷ []))) o (reply m x s (Items (map (found_at log s) keys))))) there)

      last_is : (tag : List ℕ) (n : ℕ) → last_turn d here x tag n s ≡ told (last_taken log tag n m x s)
      last_is tag n =
          tested told (ltb (head (home_of z tag).pair) s) (ltb (covered_for m tag) s) (behind_turn here x tag s) (reply_with d here x (Last (last_of n (tagged_places (home_of z tag).rows tag s))) s)
          (behind m x s (covered_for m tag)) (reply m x s (Last (last_at log s tag n))) (ap (λ k. ltb k s) (sym (covers tag)))
          (λ low. behind_is tag s)
          (λ reaches. ap (λ ps. reply_with d here x (Last (last_of n ps)) s) (tagged_home w d z tag s h (ltb-false (head (home_of z tag).pair) s reaches) at.within) ∙ replied_is (Last (last_at log s tag n)) s)

    -- a look-up goes on at its pin, or begins at the head
    module _ (c : Command) (pinned : (s : ℕ) → x.pin ≡ Some s → MayLook log z.floor x c s) (fresh : x.pin ≡ None → x.found ≡ []) (low : m.floor ≡ z.floor) (within : m.head ≤ length log) where
      at_head : x.pin ≡ None → z.floor ≤ m.head → MayLook log z.floor x c m.head
      at_head none kept =
          let nothing : x.found ≡ [] = fresh none in
          record {
            kept = kept;
            within = within;
            fewer = λ some. omega (arith, some, ap (λ (fs : List Found). length fs) nothing);
            same = nothing ∙ ap (λ n. map (found_at log m.head) (take n (keys_of c))) (sym (ap (λ (fs : List Found). length fs) nothing));
          }

      look_is : (turn : ℕ → Turned) (taken : ℕ → AfterTurn) (first : AfterTurn) → ((s : ℕ) → MayLook log z.floor x c s → turn s ≡ told (taken s)) → (MayLook log z.floor x c m.head → turn m.head ≡ told first)
          → look_turn here x m.head turn ≡ told (option_map_or taken x.pin (cond (ltb m.head x.standing.floor) (wait m x) (cond (ltb m.head m.floor) (record { session = begun x; shelf = m; next = BelowNext (next_index x) m.floor }) first)))
      look_is turn taken first same begins = by_pin x.pin refl
        where
          by_pin : (o : Option ℕ) → x.pin ≡ o
              → option_map_or turn o (cond (ltb m.head x.standing.floor) (waiting_turn here x m.head) (cond (ltb m.head z.floor) (quiet (Below (next_index x) z.floor) here) (turn m.head)))
              ≡ told (option_map_or taken o (cond (ltb m.head x.standing.floor) (wait m x) (cond (ltb m.head m.floor) (record { session = begun x; shelf = m; next = BelowNext (next_index x) m.floor }) first)))
          by_pin (Some s) is = same s (pinned s is)
          by_pin None is =
              tested told (ltb m.head x.standing.floor) (ltb m.head x.standing.floor) (waiting_turn here x m.head) (cond (ltb m.head z.floor) (quiet (Below (next_index x) z.floor) here) (turn m.head))
              (wait m x) (cond (ltb m.head m.floor) (record { session = begun x; shelf = m; next = BelowNext (next_index x) m.floor }) first) refl
              (λ waits. waits_is (Waiting (next_index x) x.standing.floor m.head))
              (λ seen. tested told (ltb m.head z.floor) (ltb m.head m.floor) (quiet (Below (next_index x) z.floor) here) (turn m.head)
              (record { session = begun x; shelf = m; next = BelowNext (next_index x) m.floor }) first (ap (ltb m.head) (sym low))
              (λ below. waits_is (Below (next_index x) z.floor) ∙ ap (λ k. quiet (Below (next_index x) k) (left (begun x))) (sym low))
              (λ kept. begins (at_head is (ltb-false m.head z.floor kept))))

-- the shelf once a session reads at its head
abbrev pinned_at_head : ShelfState → Session → ShelfState
pinned_at_head m x = with_pin x.number (Some m.head) m

-- The turn of an open session that does not write.
module _ (w : World) (d : ℕ) (z : Datacentre) (h : StandsAt w d z) (m : ShelfState) (covered : m.covered ≡ map (λ (i : IndexerState). head i.pair) z.indexers)
    (xs ys : List Session) (i : ℕ) (x : Session) (opened_is : x.standing.begun ≡ true) (puts : (f : Session → Session) → at_session x.number f xs ≡ set ys i (f x)) (stays : xs ≡ set ys i x)
    (fresh : x.pin ≡ None → x.found ≡ []) (low : m.floor ≡ z.floor) (within : m.head ≤ length (log_of w d)) where
  abbrev told_all : AfterTurn → Turned
  told_all t = record { after = record z { sessions = set ys i t.session }; outcome = outcome_of t.next; events = reply_events d x.number t.next }

  keys_looked : (c : Command) (keys : List (List ℕ)) → keys_of c ≡ keys → 1 ≤ length keys → ((s : ℕ) → x.pin ≡ Some s → MayLook (log_of w d) z.floor x c s)
      → look_turn (record z { sessions = xs }) x m.head (key_turn d (record z { sessions = xs }) x keys)
      ≡ told_all (option_map_or (key_taken (log_of w d) keys m x) x.pin (cond (ltb m.head x.standing.floor) (wait m x) (cond (ltb m.head m.floor) (record { session = begun x; shelf = m; next = BelowNext (next_index x) m.floor }) (key_taken (log_of w d) keys (pinned_at_head m x) x m.head))))
  keys_looked c keys has some pinned =
      look_is w d z h m covered xs ys i x opened_is puts stays c pinned fresh low within (key_turn d (record z { sessions = xs }) x keys) (key_taken (log_of w d) keys m x) (key_taken (log_of w d) keys (pinned_at_head m x) x m.head)
      (λ s at. keys_is w d z h m covered xs ys i x opened_is puts stays c s at keys has some)
      (λ at. keys_is w d z h (pinned_at_head m x) covered xs ys i x opened_is puts stays c m.head at keys has some)

  last_looked : (tag : List ℕ) (n : ℕ) → ((s : ℕ) → x.pin ≡ Some s → MayLook (log_of w d) z.floor x (LastCommand tag n) s)
      → look_turn (record z { sessions = xs }) x m.head (last_turn d (record z { sessions = xs }) x tag n)
      ≡ told_all (option_map_or (last_taken (log_of w d) tag n m x) x.pin (cond (ltb m.head x.standing.floor) (wait m x) (cond (ltb m.head m.floor) (record { session = begun x; shelf = m; next = BelowNext (next_index x) m.floor }) (last_taken (log_of w d) tag n (pinned_at_head m x) x m.head))))
  last_looked tag n pinned =
      look_is w d z h m covered xs ys i x opened_is puts stays (LastCommand tag n) pinned fresh low within (last_turn d (record z { sessions = xs }) x tag n) (last_taken (log_of w d) tag n m x) (last_taken (log_of w d) tag n (pinned_at_head m x) x m.head)
      (λ s at. last_is w d z h m covered xs ys i x opened_is puts stays (LastCommand tag n) s at tag n)
      (λ at. last_is w d z h (pinned_at_head m x) covered xs ys i x opened_is puts stays (LastCommand tag n) m.head at tag n)

  read_is : (p : ℕ) → shown_at z p m.head ≡ read_in (log_of w d) m.gone p m.head → open_turn d (record z { sessions = xs }) x m.head (ReadCommand p) ≡ told_all (read_taken (log_of w d) m x p)
  read_is p shown =
      tested told_all (ltb m.head x.standing.floor) (ltb m.head x.standing.floor) (waiting_turn (record z { sessions = xs }) x m.head) (reply_with d (record z { sessions = xs }) x (Read (shown_at z p m.head)) m.head)
      (wait m x) (record { session = replied (Read (read_in (log_of w d) m.gone p m.head)) m.head x; shelf = m; next = RepliedNext (next_index x) m.head (Read (read_in (log_of w d) m.gone p m.head)) }) refl
      (λ waits. waits_is w d z h m covered xs ys i x opened_is puts stays (Waiting (next_index x) x.standing.floor m.head))
      (λ seen. ap (λ a. reply_with d (record z { sessions = xs }) x (Read a) m.head) shown ∙ replied_is w d z h m covered xs ys i x opened_is puts stays (Read (read_in (log_of w d) m.gone p m.head)) m.head)

  pub open_is : (c : Command) → is_write c ≡ false → FitsCommand c → ((s : ℕ) → x.pin ≡ Some s → MayLook (log_of w d) z.floor x c s)
      → ((p : ℕ) → 1 ≤ p → shown_at z p m.head ≡ read_in (log_of w d) m.gone p m.head) → open_turn d (record z { sessions = xs }) x m.head c ≡ told_all (turn_with (log_of w d) m x c)
  open_is (Append tags body) reads fits pinned shown = absurd (false≢true (sym reads))
  open_is (Put key body) reads fits pinned shown = absurd (false≢true (sym reads))
  open_is (Del key) reads fits pinned shown = absurd (false≢true (sym reads))
  open_is (Get key) reads fits pinned shown = keys_looked (Get key) (key ∷ []) refl (omega arith) pinned
  open_is (Tx keys) reads fits pinned shown = keys_looked (Tx keys) keys refl fits.0 pinned
  open_is (ReadCommand p) reads fits pinned shown = read_is p (shown p fits.0)
  open_is (LastCommand tag n) reads fits pinned shown = last_looked tag n pinned

-- whether the command was open before makes no difference
begun_same : (held : List Record) (m : ShelfState) (x : Session) (c : Command) → is_write c ≡ false → turn_with held m (begun x) c ≡ turn_with held m x c
begun_same held m x (Append tags body) reads = absurd (false≢true (sym reads))
begun_same held m x (Put key body) reads = absurd (false≢true (sym reads))
begun_same held m x (Del key) reads = absurd (false≢true (sym reads))
begun_same held m x (Get key) reads = refl
begun_same held m x (Tx keys) reads = refl
begun_same held m x (ReadCommand p) reads = refl
begun_same held m x (LastCommand tag n) reads = refl

-- The turn of a session that does not write, through the shelf that its datacentre's stages make.
module _ (w : World) (d : ℕ) (z : Datacentre) (h : StandsAt w d z) (i : ℕ) (x : Session) (within : i < length z.sessions) (is : get_or z.sessions i x ≡ x) (fits : All FitsCommand x.commands)
    (lent : List (MaintainerState Record)) (g : Floored) (same : map plain lent ≡ z.maintainers) (low : g.floor ≡ z.floor) where
  abbrev v : Pair
  v = vector_at z.vectors (x.number % z.first)

  abbrev m : ShelfState
  m = shelf_of v lent z.indexers g

  abbrev t : AfterTurn
  t = session_turn (log_of w d) m x

  full : (q : ℕ) → 1 ≤ q → q ≤ head v → IsFilledIn z.maintainers q
  full q first below =
      head_filled z.token.epochs (IsFilledIn z.maintainers) v q
      (All-get_or (IsTruePair z.token.epochs (IsFilledIn z.maintainers)) z.vectors (x.number % z.first) (blank no_epochs) (omega (arith, mod-lt x.number h.coverage.served.0, h.coverage.served.1)) h.coverage.heads) first below

  head_within : head v ≤ length (log_of w d)
  head_within = elim (cases_lt 0 (head v)) [
    | inl some ↦ filled_within w d z (head v) h (full (head v) (omega (arith, some)) (omega arith))
    | inr none ↦ omega (arith, none)
  ]

  shown : (p : ℕ) → 1 ≤ p → shown_at z p (head v) ≡ read_in (log_of w d) (gone_in lent) p (head v)
  shown p first =
      let gone : times p (gone_of w d) ≡ times p (gone_in lent) = sym (h.positions.placed.collected p) ∙ sym (ap (gone_times p) same) ∙ gone_plain p lent ∙ sym (times_gone p lent) in
      shown_is w d z (head v) p h full first ∙ ap (λ b. cond (ltb (head v) p) Beyond (cond b Gone (shown_record p (record_at (log_of w d) p)))) (any_by_times p (gone_of w d) (gone_in lent) gone)

  far : IsAsFar w.workload w.sessions (log_of w d) d z.floor x
  far = subst (IsAsFar w.workload w.sessions (log_of w d) d z.floor) is (All-get_or (IsAsFar w.workload w.sessions (log_of w d) d z.floor) z.sessions i x within h.clients.sessions)

  pinned : (c : Command) → next_command x ≡ Some c → (s : ℕ) → x.pin ≡ Some s → MayLook (log_of w d) z.floor x c s
  pinned c next s pin =
      let at : IsPinned (log_of w d) z.floor x s = far.pinned s pin in
      let command : at.command ≡ c = same_Some at.command c (sym at.is ∙ next) in
      record {
        kept = at.kept;
        within = at.within;
        fewer = λ some. omega (arith, ap (λ y. length (keys_of y)) command, at.fewer (omega (arith, some, ap (λ y. length (keys_of y)) command)));
        same = at.same ∙ ap (λ y. map (found_at (log_of w d) s) (take (length x.found) (keys_of y))) command;
      }

  changed : (f : Session → Session) → at_session x.number f z.sessions ≡ set z.sessions i (f x)
  changed f = set_session f z.sessions i x h.clients.ordered within is

  unchanged : z.sessions ≡ set z.sessions i x
  unchanged = sym (ap (set z.sessions i) (sym is) ∙ set-get_or z.sessions i x)

  abbrev told_at : Option Command → Turned
  told_at o =
      let u : AfterTurn = option_map_or (turn_with (log_of w d) m x) o (rest m x) in
      record {
        after = record z { sessions = set z.sessions i u.session };
        outcome = outcome_of u.next;
        events = begin_events x.number (option_and_then (λ c. cond x.standing.begun None (Some (next_index x))) o) ++ reply_events d x.number u.next;
      }

  module _ (c : Command) (next : next_command x ≡ Some c) (reads : is_write c ≡ false) where
    fits_c : FitsCommand c
    fits_c = All-at_place FitsCommand x.commands x.standing.answered c fits next

    if_open : x.standing.begun ≡ true → open_turn d z x (head v) c ≡ told_at (Some c)
    if_open opened_is =
        open_is w d z h m refl z.sessions z.sessions i x opened_is changed unchanged far.fresh low head_within c reads fits_c (pinned c next) shown
        ∙ sym (ap (λ b. record {
          after = record z { sessions = set z.sessions i (turn_with (log_of w d) m x c).session };
          outcome = outcome_of (turn_with (log_of w d) m x c).next;
          events = begin_events x.number (cond b None (Some (next_index x))) ++ reply_events d x.number (turn_with (log_of w d) m x c).next;
        }) opened_is)

    if_closed : x.standing.begun ≡ false → begin_turn d z x c ≡ told_at (Some c)
    if_closed closed =
        let y : Datacentre = record z { sessions = at_session x.number begun z.sessions } in
        let goes : open_turn d y (begun x) (head v) c ≡ record {
          after = record z { sessions = set z.sessions i (turn_with (log_of w d) m (begun x) c).session };
          outcome = outcome_of (turn_with (log_of w d) m (begun x) c).next;
          events = reply_events d x.number (turn_with (log_of w d) m (begun x) c).next;
        } =
        open_is w d z h m refl (at_session x.number begun z.sessions) z.sessions i (begun x) refl (λ f. begun_then x.number f z.sessions ∙ changed (λ u. f (begun u))) (changed begun) far.fresh low head_within c reads fits_c
        (λ s pin. (let at = pinned c next s pin in record { kept = at.kept; within = at.within; fewer = at.fewer; same = at.same })) shown in
        ap (λ o. option_map_or (λ draft. record { after = submitted z x.number draft; outcome = Submitted (next_index x); events = Submit x.number (next_index x) ∷ [] }) o
        (and_then (record { after = y; outcome = Submitted (next_index x); events = Submit x.number (next_index x) ∷ [] }) (λ u. open_turn d u (begun x) (head v) c))) (no_draft x.number (next_index x) x.standing.past c reads)
        ∙ ap (λ (u : Turned). record { after = u.after; outcome = u.outcome; events = Submit x.number (next_index x) ∷ u.events }) goes
        ∙ ap (λ (u : AfterTurn). record {
          after = record z { sessions = set z.sessions i u.session };
          outcome = outcome_of u.next;
          events = Submit x.number (next_index x) ∷ reply_events d x.number u.next;
        }) (begun_same (log_of w d) m x c reads)
        ∙ sym (ap (λ b. record {
          after = record z { sessions = set z.sessions i (turn_with (log_of w d) m x c).session };
          outcome = outcome_of (turn_with (log_of w d) m x c).next;
          events = begin_events x.number (cond b None (Some (next_index x))) ++ reply_events d x.number (turn_with (log_of w d) m x c).next;
        }) closed)

    by_begun : (b : Bool) → x.standing.begun ≡ b → cond b (open_turn d z x (head v) c) (begin_turn d z x c) ≡ told_at (Some c)
    by_begun true opened_is = if_open opened_is
    by_begun false closed = if_closed closed

  by_next : (o : Option Command) → next_command x ≡ o → option_map_or is_write o false ≡ false → option_map_or (λ c. cond x.standing.begun (open_turn d z x (head v) c) (begin_turn d z x c)) o (quiet Finished z) ≡ told_at o
  by_next None next reads = ap (λ ss. quiet Finished (record z { sessions = ss })) unchanged
  by_next (Some c) next reads = by_begun c next reads x.standing.begun refl

  pub session_is : writes x ≡ false → client_of d z x ≡ record {
    after = record z { sessions = set z.sessions i t.session };
    outcome = outcome_of t.next;
    events = events_of d x.number (turned (log_of w d) m x);
  }
  session_is reads = by_next (next_command x) refl reads

-- What is held against collection: the session's pin, and what others have.
pub record IsHeld (low n : ℕ) (before : List (Option ℕ)) (t : AfterTurn) : Type 0 where
  pub number : t.session.number ≡ n
  pub floor : t.shelf.floor ≡ low
  pub pins : t.shelf.pins ≡ set before n t.session.pin

set_twice : {X : Type 0} (xs : List X) (i : ℕ) (a b : X) → set (set xs i a) i b ≡ set xs i b
set_twice [] i a b = refl
set_twice (x ∷ xs) zero a b = refl
set_twice (x ∷ xs) (suc i) a b = ap (λ ys. x ∷ ys) (set_twice xs i a b)

module _ (log : List Record) (low : ℕ) (pins : List (Option ℕ)) (x : Session) where
  -- the shelf has the session's pin at s
  module _ (m : ShelfState) (s : ℕ) (floor_is : m.floor ≡ low) (pins_are : m.pins ≡ set pins x.number (Some s)) where
    held_reply : (answer : Answer) → IsHeld low x.number pins (reply m x s answer)
    held_reply answer = record { number = refl; floor = floor_is; pins = ap (λ ps. set ps x.number None) pins_are ∙ set_twice pins x.number (Some s) None }

    held_there : (found : List Found) (next : Next) → IsHeld low x.number pins (record { session = reading s found x; shelf = m; next = next })
    held_there found next = record { number = refl; floor = floor_is; pins = pins_are }

    held_keys : (keys : List (List ℕ)) → IsHeld low x.number pins (key_taken log keys m x s)
    held_keys keys = by_key (slice_get keys (length x.found))
      where
        by_key : (o : Option (List ℕ)) → IsHeld low x.number pins (option_map_or (λ k. cond (ltb (covered_for m k) s) (behind m x s (covered_for m k)) (found_at_pin log keys m x s (x.found ++ found_at log s k ∷ []))) o (reply m x s (Items (map (found_at log s) keys))))
        by_key None = held_reply (Items (map (found_at log s) keys))
        by_key (Some k) =
            let found : List Found = x.found ++ found_at log s k ∷ [] in
            cond_both (ltb (covered_for m k) s) (behind m x s (covered_for m k)) (found_at_pin log keys m x s found) (IsHeld low x.number pins)
            (λ _. held_there x.found (behind m x s (covered_for m k)).next)
            (λ _. cond_both (ltb (length found) (length keys)) (record { session = reading s found x; shelf = m; next = KeyNext (next_index x) (length found) (length keys) s }) (reply m x s (Items (map (found_at log s) keys))) (IsHeld low x.number pins)
            (λ _. held_there found (KeyNext (next_index x) (length found) (length keys) s)) (λ _. held_reply (Items (map (found_at log s) keys))))

    held_last : (tag : List ℕ) (n : ℕ) → IsHeld low x.number pins (last_taken log tag n m x s)
    held_last tag n = cond_both (ltb (covered_for m tag) s) (behind m x s (covered_for m tag)) (reply m x s (Last (last_at log s tag n))) (IsHeld low x.number pins)
        (λ _. held_there x.found (behind m x s (covered_for m tag)).next) (λ _. held_reply (Last (last_at log s tag n)))

module _ (log : List Record) (m : ShelfState) (x : Session) (pin_is : get_or m.pins x.number None ≡ x.pin) where
  pins_stay : (o : Option ℕ) → x.pin ≡ o → m.pins ≡ set m.pins x.number o
  pins_stay o is = sym (ap (set m.pins x.number) (sym (pin_is ∙ is)) ∙ set-get_or m.pins x.number None)

  held_still : (y : Session) (next : Next) → y.number ≡ x.number → y.pin ≡ x.pin → IsHeld m.floor x.number m.pins (record { session = y; shelf = m; next = next })
  held_still y next number pin = record { number = number; floor = refl; pins = pins_stay y.pin (sym pin) }

  held_look : (taken : ℕ → AfterTurn) (first : AfterTurn) → ((s : ℕ) → x.pin ≡ Some s → IsHeld m.floor x.number m.pins (taken s)) → IsHeld m.floor x.number m.pins first
      → IsHeld m.floor x.number m.pins (option_map_or taken x.pin (cond (ltb m.head x.standing.floor) (wait m x) (cond (ltb m.head m.floor) (record { session = begun x; shelf = m; next = BelowNext (next_index x) m.floor }) first)))
  held_look taken first at_pin begins = by_pin x.pin refl
    where
      by_pin : (o : Option ℕ) → x.pin ≡ o → IsHeld m.floor x.number m.pins (option_map_or taken o (cond (ltb m.head x.standing.floor) (wait m x) (cond (ltb m.head m.floor) (record { session = begun x; shelf = m; next = BelowNext (next_index x) m.floor }) first)))
      by_pin (Some s) is = at_pin s is
      by_pin None is =
          cond_both (ltb m.head x.standing.floor) (wait m x) (cond (ltb m.head m.floor) (record { session = begun x; shelf = m; next = BelowNext (next_index x) m.floor }) first) (IsHeld m.floor x.number m.pins)
          (λ _. held_still (begun x) (wait m x).next refl refl)
          (λ _. cond_both (ltb m.head m.floor) (record { session = begun x; shelf = m; next = BelowNext (next_index x) m.floor }) first (IsHeld m.floor x.number m.pins)
          (λ _. held_still (begun x) (BelowNext (next_index x) m.floor) refl refl) (λ _. begins))

  held_with : (c : Command) → is_write c ≡ false → ((p : ℕ) → c ≡ ReadCommand p → x.pin ≡ None) → IsHeld m.floor x.number m.pins (turn_with log m x c)
  held_with (Append tags body) reads none = absurd (false≢true (sym reads))
  held_with (Put key body) reads none = absurd (false≢true (sym reads))
  held_with (Del key) reads none = absurd (false≢true (sym reads))
  held_with (Get key) reads none =
      held_look (key_taken log (key ∷ []) m x) (key_taken log (key ∷ []) (pinned_at_head m x) x m.head) (λ s is. held_keys log m.floor m.pins x m s refl (pins_stay (Some s) is) (key ∷ []))
      (held_keys log m.floor m.pins x (pinned_at_head m x) m.head refl refl (key ∷ []))
  held_with (Tx keys) reads none =
      held_look (key_taken log keys m x) (key_taken log keys (pinned_at_head m x) x m.head) (λ s is. held_keys log m.floor m.pins x m s refl (pins_stay (Some s) is) keys)
      (held_keys log m.floor m.pins x (pinned_at_head m x) m.head refl refl keys)
  held_with (ReadCommand p) reads none =
      cond_both (ltb m.head x.standing.floor) (wait m x) (record { session = replied (Read (read_in log m.gone p m.head)) m.head x; shelf = m; next = RepliedNext (next_index x) m.head (Read (read_in log m.gone p m.head)) }) (IsHeld m.floor x.number m.pins)
      (λ _. held_still (begun x) (wait m x).next refl refl)
      (λ _. held_still (replied (Read (read_in log m.gone p m.head)) m.head x) (RepliedNext (next_index x) m.head (Read (read_in log m.gone p m.head))) refl (sym (none p refl)))
  held_with (LastCommand tag n) reads none =
      held_look (last_taken log tag n m x) (last_taken log tag n (pinned_at_head m x) x m.head) (λ s is. held_last log m.floor m.pins x m s refl (pins_stay (Some s) is) tag n)
      (held_last log m.floor m.pins x (pinned_at_head m x) m.head refl refl tag n)

  -- the turn of a session that does not write, and has no pin where it reads a position
  pub session_held : writes x ≡ false → ((p : ℕ) → next_command x ≡ Some (ReadCommand p) → x.pin ≡ None) → IsHeld m.floor x.number m.pins (session_turn log m x)
  session_held reads none = by_next (next_command x) reads none
    where
      by_next : (o : Option Command) → option_map_or is_write o false ≡ false → ((p : ℕ) → o ≡ Some (ReadCommand p) → x.pin ≡ None) → IsHeld m.floor x.number m.pins (option_map_or (turn_with log m x) o (rest m x))
      by_next None reads none = held_still x (rest m x).next refl refl
      by_next (Some c) reads none = held_with c reads (λ p is. none p (ap Some is))

-- a session of stages that stand for a world has no pin where it reads a position
pub reads_unpinned : (w : World) (d : ℕ) (z : Datacentre) (x : Session) → IsAsFar w.workload w.sessions (log_of w d) d z.floor x → (p : ℕ) → next_command x ≡ Some (ReadCommand p) → x.pin ≡ None
reads_unpinned w d z x far p next = by_pin x.pin refl
  where
    by_pin : (o : Option ℕ) → x.pin ≡ o → o ≡ None
    by_pin None is = refl
    by_pin (Some s) is =
        let at : IsPinned (log_of w d) z.floor x s = far.pinned s is in
        absurd (false≢true (sym (ap is_look (same_Some at.command (ReadCommand p) (sym at.is ∙ next))) ∙ at.looks))
