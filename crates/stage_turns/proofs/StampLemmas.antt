-- The turn of stamping, from what its calls tell.
use Rattle.std.proofs.Common.{◌≡◌, ℕ, ◌+◌, ◌<◌, ◌^◌, ◌↔◌, ◌||◌, not, Bool, cond, eqb, true, false, List, [], ◌∷◌, ◌++◌, length, map, refl, ap, ap₂, sym, subst, ◌∙◌, arith, Option, Some, None, IsSomeAnd}
use Rattle.std.specs.Bool.{IsTrue}
use Rattle.std.specs.List.{All, fold, sum_by}
use Rattle.std.specs.Option.{ForSome, option_map_or}
use Rattle.std.proofs.lemmas.Bool.{eqb-true}
use Rattle.std.proofs.lemmas.List.{length-append}
use Rattle.std.proofs.lemmas.List.Elements.{All-weaker}
use Rattle.std.proofs.lemmas.Option.{same_Some}
use Rattle.causal_deps.specs.declared.record.Place.{Place}
use Rattle.causal_deps.specs.declared.record.Item.{Item}
use Rattle.causal_deps.specs.declared.record.Record.{Record}
use Rattle.abstract_log.specs.declared.event.Event.{Event}
use Rattle.abstract_log.specs.declared.script.Outcome.{Outcome}
use Rattle.abstract_log.specs.declared.script.Outcome.TheVariants.{Empty, NoToken, Stamped}
use Rattle.token_queue.specs.declared.entry.Stamp.{Stamp}
use Rattle.token_queue.specs.Drain.{drain_by}
use Rattle.token_queue.specs.Queues.{QueueState, TokenState, Stamps, stamped_queue, stamped_token, stamp_of, stamps_of, entries_from}
use Rattle.stage_world.specs.Stages.{Session, is_draft_of}
use Rattle.stage_world.specs.Turns.{all_acknowledged, stamp_events, unless_empty, place_of_entry}
use Rattle.stage_turns.specs.Changing.{has_some, stamp_changes}
use Rattle.stage_turns.specs.Stamping.{CanAck, IsNewAt, MayStamp, acked_by, drained_of, event_of, events_stamped, is_ack_of, items_of, outcome_stamped, queue_stamped, sessions_stamped, stamped_outcome}
use Rattle.stage_turns.proofs.ChangeLemmas.{has_some_is, has_some-map}
use Rattle.stage_turns.proofs.StampedItems.{AreStampedAs, drained_as, stamped_among, acks_are_drafts, events_are, sessions_are, places_are}

-- where something is deferred there is something to stamp
pub not_idle : (q : QueueState) (t : TokenState) (n : ℕ) → n ≡ length t.deferred → Some t ≡ q.token → (n ≡ 0 → ⊥) → ForSome q.token (λ x. IsTrue (eqb n 0) ↔ (items_of q x ≡ []))
not_idle q t n is some other x has = (
  λ zero'. absurd (other (eqb-true n 0 zero')),
  λ none. absurd (other (omega (arith, is, ap (λ (u : TokenState). length u.deferred) (same_Some t x (some ∙ has)), ap (λ (xs : List Item). length xs) none, length-append x.deferred q.items))),
)

some_entries : (last : ℕ) (rs : List Record) → has_some (entries_from last rs) ≡ has_some rs
some_entries last [] = refl
some_entries last (r ∷ rs) = refl

-- A queue with a token stamped.
pub record HasStamped (d : ℕ) (q : QueueState) (xs : List Session) (stamps : List Stamp) (new : QueueState) : Type 0 where
  pub token : TokenState
  pub is : q.token ≡ Some token
  pub may : MayStamp d q token xs
  pub answer : stamps ≡ stamps_of token (drained_of q token)
  pub queue : new ≡ stamped_queue q token (drained_of q token)

pub has_stamped : (d : ℕ) (q : QueueState) (xs : List Session) (stamps : List Stamp) (new : QueueState) → ForSome q.token (λ t. MayStamp d q t xs)
    → IsSomeAnd q.token (λ t. Stamps q t (drain_by t.dc t.counts (t.deferred ++ q.items)) stamps new) → HasStamped d q xs stamps new
has_stamped d q xs stamps new may = at q.token refl
  where
    at : (o : Option TokenState) → q.token ≡ o → IsSomeAnd o (λ t. Stamps q t (drain_by t.dc t.counts (t.deferred ++ q.items)) stamps new) → HasStamped d q xs stamps new
    at None is all = absurd all
    at (Some t) is all = record { token = t; is = is; may = may t is; answer = all.answer; queue = all.queue }

module _ (d : ℕ) (q : QueueState) (xs : List Session) (stamps : List Stamp) (new : QueueState) (h : HasStamped d q xs stamps new) where
  abbrev t : TokenState
  t = h.token

  are : AreStampedAs d (drained_of q t).stamped (drained_of q t).records
  are = subst (λ k. AreStampedAs k (drained_of q t).stamped (drained_of q t).records) h.may.here
      (drained_as (length (items_of q t)) t.dc t.counts (items_of q t) (subst (λ k. All (IsNewAt k) (items_of q t)) (sym h.may.here) h.may.new))

  pub can_ack : CanAck d stamps xs
  can_ack = record {
    ordered = h.may.ordered;
    pasts = h.may.pasts;
    few = All-weaker (λ (x : Session). x.standing.answered + sum_by (is_draft_of x.number) (items_of q t) < 2 ^ 32) (λ (x : Session). x.standing.answered + sum_by (is_ack_of d x.number) stamps < 2 ^ 32)
        (λ x has. omega (
          arith,
          has,
          ap (λ ss. sum_by (is_ack_of d x.number) ss) h.answer,
          acks_are_drafts d x.number t.last (drained_of q t).stamped (drained_of q t).records are,
          stamped_among (length (items_of q t)) t.dc t.counts (items_of q t) (is_draft_of x.number),
        ))
        xs h.may.few;
  }

  pub queue_is : new ≡ queue_stamped q
  queue_is = h.queue ∙ sym (ap (λ o. option_map_or (λ u. stamped_queue q u (drained_of q u)) o q) h.is)

  pub sessions_is : (nexts : List Session) → nexts ≡ fold (acked_by d) xs stamps → nexts ≡ sessions_stamped q xs
  sessions_is nexts acks =
      acks ∙ ap (fold (acked_by d) xs) h.answer ∙ sessions_are d t.last (drained_of q t).stamped (drained_of q t).records xs are
      ∙ sym (ap (λ o. option_map_or (λ u. all_acknowledged u.last (drained_of q u).stamped (drained_of q u).records xs) o xs) h.is)

  pub events_is : (events : List Event) → events ≡ map (event_of d) stamps → events ≡ events_stamped d q
  events_is events told =
      told ∙ ap (map (event_of d)) h.answer ∙ events_are d t.last (drained_of q t).stamped (drained_of q t).records are
      ∙ sym (ap (λ o. option_map_or (λ u. stamp_events d u.last (drained_of q u).stamped (drained_of q u).records) o []) h.is)

  abbrev told : ℕ → Outcome
  told deferred = Stamped (map (λ (s : Stamp). s.place) stamps) deferred

  told_is : (deferred : ℕ) → ForSome new.token (λ u. deferred ≡ length u.deferred)
      → told deferred ≡ Stamped (map place_of_entry (entries_from t.last (drained_of q t).records)) (length (drained_of q t).deferred)
  told_is deferred counted =
      ap₂ (λ (ps : List Place) n. Stamped ps n)
      (ap (map (λ (s : Stamp). s.place)) h.answer ∙ places_are (entries_from t.last (drained_of q t).records))
      (counted (stamped_token t (drained_of q t)) (ap (λ (x : QueueState). x.token) h.queue))

  answered : (items : List Item) (idle : Bool) (made : Outcome) → IsTrue idle ↔ (items ≡ []) → cond idle Empty made ≡ unless_empty items made
  answered [] idle made tells = ap (λ b. cond b Empty made) (tells.1 refl)
  answered (x ∷ more) true made tells = let none : x ∷ more ≡ [] = tells.0 refl in absurd (omega (arith, ap (λ (ys : List Item). length ys) none))
  answered (x ∷ more) false made tells = refl

  pub outcome_is : (idle : Bool) (deferred : ℕ) (outcome : Outcome) → ForSome q.token (λ u. IsTrue idle ↔ (items_of q u ≡ [])) → ForSome new.token (λ u. deferred ≡ length u.deferred)
      → outcome ≡ cond idle Empty (told deferred) → outcome ≡ outcome_stamped q
  outcome_is idle deferred outcome tells counted made =
      made ∙ answered (items_of q t) idle (told deferred) (tells t h.is) ∙ ap (unless_empty (items_of q t)) (told_is deferred counted)
      ∙ sym (ap (λ o. option_map_or (λ u. stamped_outcome q u) o NoToken) h.is)

  pub change_is : (empty stamped b : Bool) → IsTrue empty ↔ (q.items ≡ []) → stamped ≡ has_some stamps → b ≡ (not empty || stamped) → b ≡ stamp_changes q
  change_is empty stamped b items some made =
      let records : has_some stamps ≡ has_some (drained_of q t).records =
      ap (λ (ss : List Stamp). has_some ss) h.answer ∙ has_some-map stamp_of (entries_from t.last (drained_of q t).records) ∙ some_entries t.last (drained_of q t).records in
      made ∙ ap₂ (λ c d. c || d) (has_some_is empty q.items items) (some ∙ records)
      ∙ sym (ap (λ o. option_map_or (λ u. has_some q.items || has_some (drained_of q u).records) o false) h.is)
