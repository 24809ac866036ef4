-- The turn of a session that has events brings the session on, by two for each command that is answered and one for the command that
-- is open: so such a turn leaves another datacentre. By the cases of the turn. The theorem is `client_silent`.
use Rattle.std.proofs.Common.{◌≡◌, ◌⊎◌, ℕ, ◌+◌, ◌<◌, ◌≤◌, Bool, true, false, cond, ltb, eqb, List, [], ◌∷◌, ◌++◌, length, refl, ap, sym, ◌∙◌, subst, inl, inr, arith, Option, Some, None, slice_get}
use Rattle.std.specs.List.{find}
use Rattle.std.specs.Option.{option_map_or}
use Rattle.std.proofs.lemmas.Bool.{cond_both, eqb-true}
use Rattle.std.proofs.lemmas.Option.{same_Some}
use Rattle.causal_deps.specs.declared.record.Draft.{Draft}
use Rattle.abstract_log.specs.declared.command.Command.{Command}
use Rattle.abstract_log.specs.declared.command.Command.TheVariants.{Append, Put, Del, Get, Tx, Read as ReadCommand, Last as LastCommand}
use Rattle.abstract_log.specs.declared.answer.Answer.{Answer}
use Rattle.abstract_log.specs.declared.answer.Answer.TheVariants.{Items, Read, Last}
use Rattle.abstract_log.specs.declared.answer.Found.{Found}
use Rattle.abstract_log.specs.declared.event.Event.TheVariants.{Submit}
use Rattle.abstract_log.specs.declared.script.Outcome.{Outcome}
use Rattle.abstract_log.specs.declared.script.Outcome.TheVariants.{Absent, Unacknowledged, Finished, Submitted, Waiting, Below, Behind, Key}
use Rattle.abstract_log.specs.declared.world.Standing.{Standing}
use Rattle.abstract_log.specs.Answers.{last_of}
use Rattle.abstract_log.specs.Commands.{draft_of}
use Rattle.flstore_rounds.specs.Heads.{head}
use Rattle.tag_indexer.specs.Rows.{tagged_places}
use Rattle.tag_indexer.proofs.TaggedLemmas.{find_tells}
use Rattle.stage_world.specs.Stages.{Datacentre, Session}
use Rattle.stage_world.specs.Turns.{Turned, quiet, at_session, begun, submitted}
use Rattle.stage_world.specs.MoreTurns.{home_of}
use Rattle.stage_world.specs.ClientTurns.{next_index, looked_up, replied, reading_at, found_more, behind_turn, found_turn, key_turn, reply_with, last_turn, shown_at, waiting_turn, look_turn, open_turn, and_then, top_for, begin_turn, client_of, client_turn}
use Rattle.stage_world.specs.Idle.{apart_from_epochs}

-- a turn that leaves the datacentre as it was, epoch lists apart, has no events
abbrev pub IsSilent : Datacentre → Turned → Type 0
IsSilent z turned = apart_from_epochs turned.after ≡ apart_from_epochs z → turned.events ≡ []

-- how far a session is
abbrev way : Standing → ℕ
way st = st.answered + st.answered + cond st.begun 1 0

one_more : (b : Bool) → ◌≤◌ (cond {A = ℕ} b 1 0) 1
one_more b = cond_both b 1 0 (λ (k : ℕ). k ≤ 1) (λ _. omega arith) (λ _. omega arith)

way_on : (st new : Standing) → new.answered ≡ st.answered + 1 → way st < way new
way_on st new next = omega (arith, next, one_more st.begun)

way_begun : (st : Standing) → st.begun ≡ false → way st < way (record st { begun = true })
way_begun st idle =
    let none : ◌≡◌ {A = ℕ} (cond st.begun 1 0) 0 = ap (λ b. cond {A = ℕ} b 1 0) idle in
    omega (arith, none)

-- The session with this number, where it has come this far: it lost nothing, and where the turn has events it went on.
record GoesOn (number from : ℕ) (turned : Turned) : Type 0 where
  pub now : Session
  pub there : find (λ y. eqb y.number number) turned.after.sessions ≡ Some now
  pub least : from ≤ way now.standing
  pub on : (turned.events ≡ []) ⊎ (from < way now.standing)

-- the session that is found by its number is found changed
find_changed : (s : ℕ) (f : Session → Session) (xs : List Session) (x : Session) → ((y : Session) → (f y).number ≡ y.number)
    → find (λ y. eqb y.number s) xs ≡ Some x → find (λ y. eqb y.number s) (at_session s f xs) ≡ Some (f x)
find_changed s f [] x same is = absurd (cc)
find_changed s f (y ∷ ys) x same is = at (eqb y.number s) refl is (find_changed s f ys x same)
  where
    at : (b : Bool) → eqb y.number s ≡ b → cond b (Some y) (find (λ u. eqb u.number s) ys) ≡ Some x
        → (find (λ u. eqb u.number s) ys ≡ Some x → find (λ u. eqb u.number s) (at_session s f ys) ≡ Some (f x))
        → cond (eqb (cond b (f y) y).number s) (Some (cond b (f y) y)) (find (λ u. eqb u.number s) (at_session s f ys)) ≡ Some (f x)
    at true test first rest = ap (λ b. cond b (Some (f y)) (find (λ u. eqb u.number s) (at_session s f ys))) (ap (λ n. eqb n s) (same y) ∙ test) ∙ ap (λ u. Some (f u)) (same_Some y x first)
    at false test later rest = ap (λ b. cond b (Some y) (find (λ u. eqb u.number s) (at_session s f ys))) test ∙ rest later

module _ (d : ℕ) (z : Datacentre) (x : Session) (found : find (λ y. eqb y.number x.number) z.sessions ≡ Some x) where
  abbrev Goes : Turned → Type 0
  Goes turned = GoesOn x.number (way x.standing) turned

  still : (o : Outcome) → Goes (quiet o z)
  still o = record { now = x; there = found; least = omega arith; on = inl refl }

  -- it reads at s
  reads : (o : Outcome) (s : ℕ) (fs : List Found) → Goes (quiet o (reading_at z x s fs))
  reads o s fs =
      let same : way (found_more s fs x).standing ≡ way x.standing = refl in
      record { now = found_more s fs x; there = find_changed x.number (found_more s fs) z.sessions x (λ y. refl) found; least = omega (arith, same); on = inl refl }

  replies : (answer : Answer) (s : ℕ) → Goes (reply_with d z x answer s)
  replies answer s =
      let more : way x.standing < way (replied answer s x).standing = way_on x.standing (replied answer s x).standing refl in
      record { now = replied answer s x; there = find_changed x.number (replied answer s) z.sessions x (λ y. refl) found; least = omega (arith, more); on = inr more }

  finds : (keys : List (List ℕ)) (s : ℕ) (fs : List Found) → Goes (found_turn d z x keys s fs)
  finds keys s fs = cond_both (eqb (length fs) (length keys)) (reply_with d z x (Items fs) s) (quiet (Key (next_index x) (length fs) (length keys) s) (reading_at z x s fs)) Goes
      (λ _. replies (Items fs) s) (λ _. reads (Key (next_index x) (length fs) (length keys) s) s fs)

  looks_up : (keys : List (List ℕ)) (s : ℕ) → Goes (key_turn d z x keys s)
  looks_up keys s = at (slice_get keys (length x.found))
    where
      at : (o : Option (List ℕ)) → Goes (option_map_or (λ key. cond (ltb (head (home_of z key).pair) s) (behind_turn z x key s) (found_turn d z x keys s (x.found ++ looked_up z key s ∷ []))) o (quiet Absent z))
      at None = still Absent
      at (Some key) = cond_both (ltb (head (home_of z key).pair) s) (behind_turn z x key s) (found_turn d z x keys s (x.found ++ looked_up z key s ∷ [])) Goes
          (λ _. reads (Behind (next_index x) (head (home_of z key).pair)) s x.found) (λ _. finds keys s (x.found ++ looked_up z key s ∷ []))

  looks_last : (tag : List ℕ) (n s : ℕ) → Goes (last_turn d z x tag n s)
  looks_last tag n s = cond_both (ltb (head (home_of z tag).pair) s) (behind_turn z x tag s) (reply_with d z x (Last (last_of n (tagged_places (home_of z tag).rows tag s))) s) Goes
      (λ _. reads (Behind (next_index x) (head (home_of z tag).pair)) s x.found) (λ _. replies (Last (last_of n (tagged_places (home_of z tag).rows tag s))) s)

  -- a look-up at its pin or at the head
  looks : (top : ℕ) (look : ℕ → Turned) → ((s : ℕ) → Goes (look s)) → Goes (look_turn z x top look)
  looks top look each = at x.pin
    where
      at : (o : Option ℕ) → Goes (option_map_or look o (cond (ltb top x.standing.floor) (waiting_turn z x top) (cond (ltb top z.floor) (quiet (Below (next_index x) z.floor) z) (look top))))
      at (Some s) = each s
      at None = cond_both (ltb top x.standing.floor) (waiting_turn z x top) (cond (ltb top z.floor) (quiet (Below (next_index x) z.floor) z) (look top)) Goes
          (λ _. still (Waiting (next_index x) x.standing.floor top))
          (λ _. cond_both (ltb top z.floor) (quiet (Below (next_index x) z.floor) z) (look top) Goes (λ _. still (Below (next_index x) z.floor)) (λ _. each top))

  opened : (top : ℕ) (c : Command) → Goes (open_turn d z x top c)
  opened top (Append tags body) = still (Unacknowledged (next_index x))
  opened top (Put key body) = still (Unacknowledged (next_index x))
  opened top (Del key) = still (Unacknowledged (next_index x))
  opened top (ReadCommand p) = cond_both (ltb top x.standing.floor) (waiting_turn z x top) (reply_with d z x (Read (shown_at z p top)) top) Goes
      (λ _. still (Waiting (next_index x) x.standing.floor top)) (λ _. replies (Read (shown_at z p top)) top)
  opened top (Get key) = looks top (key_turn d z x (key ∷ [])) (looks_up (key ∷ []))
  opened top (Tx keys) = looks top (key_turn d z x keys) (looks_up keys)
  opened top (LastCommand tag n) = looks top (last_turn d z x tag n) (looks_last tag n)

-- a session that begins its next command goes on by that alone
begins : (d : ℕ) (z : Datacentre) (x : Session) (c : Command) → find (λ y. eqb y.number x.number) z.sessions ≡ Some x → x.standing.begun ≡ false → GoesOn x.number (way x.standing) (begin_turn d z x c)
begins d z x c found idle = at (draft_of x.number (next_index x) x.standing.past c)
  where
    more : way x.standing < way (begun x).standing
    more = way_begun x.standing idle

    there : find (λ y. eqb y.number x.number) (at_session x.number begun z.sessions) ≡ Some (begun x)
    there = find_changed x.number begun z.sessions x (λ y. refl) found

    at : (o : Option Draft) → GoesOn x.number (way x.standing) (option_map_or (λ draft. record { after = submitted z x.number draft; outcome = Submitted (next_index x); events = Submit x.number (next_index x) ∷ [] }) o
        (and_then (record { after = record z { sessions = at_session x.number begun z.sessions }; outcome = Submitted (next_index x); events = Submit x.number (next_index x) ∷ [] }) (λ y. open_turn d y (begun x) (top_for z x.number) c)))
    at (Some draft) = record { now = begun x; there = there; least = omega (arith, more); on = inr more }
    at None =
        let rest : GoesOn x.number (way (begun x).standing) (open_turn d (record z { sessions = at_session x.number begun z.sessions }) (begun x) (top_for z x.number) c) =
        opened d (record z { sessions = at_session x.number begun z.sessions }) (begun x) there (top_for z x.number) c in
        record { now = rest.now; there = rest.there; least = omega (arith, more, rest.least); on = inr (omega (arith, more, rest.least)) }

client_goes : (d : ℕ) (z : Datacentre) (x : Session) → find (λ y. eqb y.number x.number) z.sessions ≡ Some x → GoesOn x.number (way x.standing) (client_of d z x)
client_goes d z x found = at (slice_get x.commands x.standing.answered)
  where
    at : (o : Option Command) → GoesOn x.number (way x.standing) (option_map_or (λ c. cond x.standing.begun (open_turn d z x (top_for z x.number) c) (begin_turn d z x c)) o (quiet Finished z))
    at None = still d z x found Finished
    at (Some c) = cond_both x.standing.begun (open_turn d z x (top_for z x.number) c) (begin_turn d z x c) (GoesOn x.number (way x.standing))
        (λ _. opened d z x found (top_for z x.number) c) (λ idle. begins d z x c found idle)

-- The turn of a session is silent where it leaves the datacentre as it was.
pub client_silent : (d : ℕ) (z : Datacentre) (s : ℕ) → IsSilent z (client_turn d z s)
client_silent d z s = at (find (λ y. eqb y.number s) z.sessions) refl
  where
    at : (o : Option Session) → find (λ y. eqb y.number s) z.sessions ≡ o → IsSilent z (option_map_or (client_of d z) o (quiet Absent z))
    at None is same = refl
    at (Some x) is same =
        let number : x.number ≡ s = eqb-true x.number s (find_tells (λ (y : Session). eqb y.number s) z.sessions x is).1 in
        let found : find (λ y. eqb y.number x.number) z.sessions ≡ Some x = subst (λ n. find (λ (y : Session). eqb y.number n) z.sessions ≡ Some x) (sym number) is in
        let goes : GoesOn x.number (way x.standing) (client_of d z x) = client_goes d z x found in
        elim goes.on [
          | inl none ↦ none
          | inr more ↦
              let kept : goes.now ≡ x = same_Some goes.now x (sym goes.there ∙ ap (λ (y : Datacentre). find (λ (u : Session). eqb u.number x.number) y.sessions) same ∙ found) in
              absurd (omega (arith, more, ap (λ (u : Session). way u.standing) kept))
        ]
