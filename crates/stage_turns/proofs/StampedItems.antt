-- What became of the items that were drained, as the stamps tell it.
use Rattle.std.proofs.Common.{◌≡◌, ◌≢◌, ℕ, zero, suc, ◌+◌, ◌≤◌, cond, eqb, ◌&&◌, List, [], ◌∷◌, map, set, refl, ap, ap₂, ◌∙◌, arith, Option, Some, None}
use Rattle.std.specs.List.{All, fold, sum_by}
use Rattle.std.specs.Option.{option_map_or}
use Rattle.std.proofs.lemmas.Bool.{eq-eqb, ne_eqb}
use Rattle.std.proofs.lemmas.List.Sums.{sum_by-cons}
use Rattle.causal_deps.specs.declared.record.Record.{Record}
use Rattle.causal_deps.specs.declared.record.Place.{Place}
use Rattle.causal_deps.specs.declared.record.Item.{Item}
use Rattle.causal_deps.specs.declared.record.Item.TheVariants.{Local, External}
use Rattle.abstract_log.specs.declared.event.Event.{Event}
use Rattle.abstract_log.specs.declared.event.Event.TheVariants.{Append, Add}
use Rattle.token_queue.specs.declared.entry.Entry.{Entry}
use Rattle.token_queue.specs.declared.entry.Stamp.{Stamp}
use Rattle.token_queue.specs.Items.{is_ready, record_from, first_out}
use Rattle.token_queue.specs.Drain.{Drained, all_deferred, with_first, drain_by_at_most}
use Rattle.token_queue.specs.Queues.{entries_from, stamp_of}
use Rattle.token_queue.proofs.ListLemmas.{is_out}
use Rattle.abstract_log.specs.Answers.{place_at}
use Rattle.stage_world.specs.Stages.{Session, is_draft_of}
use Rattle.stage_world.specs.Turns.{acked, at_session, all_acknowledged, sessions_after, stamp_event, stamp_events, place_of_entry}
use Rattle.stage_turns.specs.Stamping.{IsNewAt, acked_by, event_of, is_ack_of}

-- the record that an item became at datacentre d
abbrev pub IsStampedAs : ℕ → Item → Record → Type 0
IsStampedAs d (Local draft) r = (r.host ≡ d) × ((r.session ≡ draft.session) × (r.index ≡ draft.index))
IsStampedAs d (External e) r = (r ≡ e) × (e.host ≢ d)

-- the records that items became, one by one
abbrev pub AreStampedAs : ℕ → List Item → List Record → Type 0
AreStampedAs d [] [] = Unit {0}
AreStampedAs d [] (r ∷ rs) = ⊥
AreStampedAs d (item ∷ items) [] = ⊥
AreStampedAs d (item ∷ items) (r ∷ rs) = IsStampedAs d item r × AreStampedAs d items rs

one_stamped : (d : ℕ) (counts : List ℕ) (item : Item) → IsNewAt d item → IsStampedAs d item (record_from d counts item)
one_stamped d counts (Local draft) new = (refl, (refl, refl))
one_stamped d counts (External r) new = (refl, new)

-- what a drain gives, by its first step
abbrev drained_with : ℕ → ℕ → List ℕ → List Item → Option (Item × List Item) → Drained
drained_with n d counts items o =
    option_map_or (λ found. with_first found.0 (record_from d counts found.0) (drain_by_at_most n d (set counts (record_from d counts found.0).host (record_from d counts found.0).toid) found.1)) o (all_deferred items)

-- A drain makes its records of the items that it stamps.
pub drained_as : (n d : ℕ) (counts : List ℕ) (items : List Item) → All (IsNewAt d) items
    → AreStampedAs d (drain_by_at_most n d counts items).stamped (drain_by_at_most n d counts items).records
drained_as zero d counts items new = tt
drained_as (suc n) d counts items new = at (first_out (is_ready counts) items) refl (λ cs xs. drained_as n d cs xs)
  where
    at : (o : Option (Item × List Item)) → first_out (is_ready counts) items ≡ o
        → ((cs : List ℕ) (xs : List Item) → All (IsNewAt d) xs → AreStampedAs d (drain_by_at_most n d cs xs).stamped (drain_by_at_most n d cs xs).records)
        → AreStampedAs d (drained_with n d counts items o).stamped (drained_with n d counts items o).records
    at None is ih = tt
    at (Some found) is ih =
        let news = (is_out (is_ready counts) items found is).each (IsNewAt d) new in
        (one_stamped d counts found.0 news.0, ih (set counts (record_from d counts found.0).host (record_from d counts found.0).toid) found.1 news.1)

-- what is stamped is among the items
pub stamped_among : (n d : ℕ) (counts : List ℕ) (items : List Item) (f : Item → ℕ) → sum_by f (drain_by_at_most n d counts items).stamped ≤ sum_by f items
stamped_among zero d counts items f = omega arith
stamped_among (suc n) d counts items f = at (first_out (is_ready counts) items) refl (λ cs xs. stamped_among n d cs xs f)
  where
    at : (o : Option (Item × List Item)) → first_out (is_ready counts) items ≡ o
        → ((cs : List ℕ) (xs : List Item) → sum_by f (drain_by_at_most n d cs xs).stamped ≤ sum_by f xs)
        → sum_by f (drained_with n d counts items o).stamped ≤ sum_by f items
    at None is ih = omega arith
    at (Some found) is ih =
        let next : List ℕ = set counts (record_from d counts found.0).host (record_from d counts found.0).toid in
        omega (arith, (is_out (is_ready counts) items found is).sums f, sum_by-cons f found.0 (drain_by_at_most n d next found.1).stamped, ih next found.1)

-- the stamps of records at the positions after `last`
abbrev pub stamps_from : ℕ → List Record → List Stamp
stamps_from last rs = map stamp_of (entries_from last rs)

abbrev stamp_at : ℕ → Record → Stamp
stamp_at p r = stamp_of (record { lid = p; rec = r })

-- one item, as its stamp tells it
ack_same : (d s p : ℕ) (item : Item) (r : Record) → IsStampedAs d item r → is_ack_of d s (stamp_at p r) ≡ is_draft_of s item
ack_same d s p (Local draft) r is =
    ap (λ b. cond (b && eqb r.session s) 1 0) (eq-eqb r.host d is.0) ∙ ap (λ x. cond (eqb x s) 1 0) is.1.0
ack_same d s p (External e) r is =
    ap (λ b. cond (b && eqb r.session s) 1 0) (ap (λ (x : Record). eqb x.host d) is.0 ∙ ne_eqb e.host d is.1)

event_same : (d p : ℕ) (item : Item) (r : Record) → IsStampedAs d item r → event_of d (stamp_at p r) ≡ stamp_event d item p r
event_same d p (Local draft) r is =
    ap (λ b. cond b (Append d r.session r.index p r.toid) (Add d p r.host r.toid)) (eq-eqb r.host d is.0)
    ∙ ap₂ (λ s k. Append d s k p r.toid) is.1.0 is.1.1
event_same d p (External e) r is =
    ap (λ b. cond b (Append d r.session r.index p r.toid) (Add d p r.host r.toid)) (ap (λ (x : Record). eqb x.host d) is.0 ∙ ne_eqb e.host d is.1)

sessions_same : (d p : ℕ) (item : Item) (r : Record) (xs : List Session) → IsStampedAs d item r → acked_by d xs (stamp_at p r) ≡ sessions_after item p r xs
sessions_same d p (Local draft) r xs is =
    ap (λ b. cond b (at_session r.session (acked (place_at p r)) xs) xs) (eq-eqb r.host d is.0) ∙ ap (λ s. at_session s (acked (place_at p r)) xs) is.1.0
sessions_same d p (External e) r xs is =
    ap (λ b. cond b (at_session r.session (acked (place_at p r)) xs) xs) (ap (λ (x : Record). eqb x.host d) is.0 ∙ ne_eqb e.host d is.1)

-- all of them
pub acks_are_drafts : (d s last : ℕ) (items : List Item) (rs : List Record) → AreStampedAs d items rs → sum_by (is_ack_of d s) (stamps_from last rs) ≡ sum_by (is_draft_of s) items
acks_are_drafts d s last [] [] are = refl
acks_are_drafts d s last [] (r ∷ rs) are = absurd are
acks_are_drafts d s last (item ∷ items) [] are = absurd are
acks_are_drafts d s last (item ∷ items) (r ∷ rs) are =
    omega (
      arith,
      sum_by-cons (is_ack_of d s) (stamp_at (last + 1) r) (stamps_from (last + 1) rs),
      sum_by-cons (is_draft_of s) item items,
      ack_same d s (last + 1) item r are.0,
      acks_are_drafts d s (last + 1) items rs are.1,
    )

pub events_are : (d last : ℕ) (items : List Item) (rs : List Record) → AreStampedAs d items rs → map (event_of d) (stamps_from last rs) ≡ stamp_events d last items rs
events_are d last [] [] are = refl
events_are d last [] (r ∷ rs) are = absurd are
events_are d last (item ∷ items) [] are = absurd are
events_are d last (item ∷ items) (r ∷ rs) are =
    ap₂ (λ (e : Event) es. e ∷ es) (event_same d (last + 1) item r are.0) (events_are d (last + 1) items rs are.1)

pub sessions_are : (d last : ℕ) (items : List Item) (rs : List Record) (xs : List Session) → AreStampedAs d items rs
    → fold (acked_by d) xs (stamps_from last rs) ≡ all_acknowledged last items rs xs
sessions_are d last [] [] xs are = refl
sessions_are d last [] (r ∷ rs) xs are = absurd are
sessions_are d last (item ∷ items) [] xs are = absurd are
sessions_are d last (item ∷ items) (r ∷ rs) xs are =
    ap (λ ys. fold (acked_by d) ys (stamps_from (last + 1) rs)) (sessions_same d (last + 1) item r xs are.0)
    ∙ sessions_are d (last + 1) items rs (sessions_after item (last + 1) r xs) are.1

pub places_are : (es : List Entry) → map (λ (s : Stamp). s.place) (map stamp_of es) ≡ map place_of_entry es
places_are [] = refl
places_are (e ∷ es) = ap (λ (ps : List Place). place_of_entry e ∷ ps) (places_are es)
