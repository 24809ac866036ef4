-- What a session is shown are records of the log.
use Rattle.std.proofs.Common.{◌≡◌, ℕ, ◌+◌, ◌-◌, ◌≤◌, ◌==◌, nat_lt, if◌then◌else◌, List, [], ◌∷◌, length, take, get_or, map, filter_map, max, Option, Some, None, slice_get, refl, ap, sym, subst, inl, inr, arith, All}
use Rattle.std.proofs.lemmas.Bool.{cond_both}
use Rattle.std.proofs.lemmas.Option.{same_Some, slice_get_within, get_or_from_slice_get}
use Rattle.std.proofs.lemmas.List.{take_all}
use Rattle.std.proofs.lemmas.List.Elements.{All-nil, All-cons, All-head, All-tail, All-drop, All-take}
use Rattle.std.specs.List.{list_any, cons_option}
use Rattle.causal_deps.specs.declared.record.Record.{Record}
use Rattle.causal_deps.specs.declared.record.Place.{Place}
use Rattle.causal_deps.specs.Counts.{raised, AreCovered}
use Rattle.causal_deps.specs.Logs.{count_of, record_at, IsCausal}
use Rattle.causal_deps.proofs.Lists.{get_or-set_cases, slice_get_some}
use Rattle.causal_deps.proofs.LogsLemmas.{record_at_place, count_of-take, count_of-take_more}
use Rattle.abstract_log.specs.declared.command.Command.{Command}
use Rattle.causal_deps.specs.declared.record.Kind.{Kind}
use Rattle.causal_deps.specs.declared.record.Kind.TheVariants.{Append as AppendKind, Put as PutKind, Del as DelKind}
use Rattle.abstract_log.specs.declared.command.Command.TheVariants.{Append, Put, Del, Get, Tx, Read, Last}
use Rattle.abstract_log.specs.declared.answer.Answer.{Answer}
use Rattle.abstract_log.specs.declared.answer.Answer.TheVariants.{Items, Read as ReadOut, Last as LastOut}
use Rattle.abstract_log.specs.declared.answer.ReadAnswer.{ReadAnswer}
use Rattle.abstract_log.specs.declared.answer.ReadAnswer.TheVariants.{Beyond, Gone}
use Rattle.abstract_log.specs.declared.world.World.{World}
use Rattle.abstract_log.specs.Worlds.{log_of, gone_of}
use Rattle.abstract_log.specs.Answers.{place_at, has_tag, newest, found_record, found_place, found_at, found_by, shown_record, read_in, places_with, last_of, answer_to, found_places, shown_places, places_in, past_with}

-- a fact on each place of a list is one on each element
pub All-from_places : {A : Type 0} (P : A → Type 0) (xs : List A) → ((k : ℕ) (a : A) → slice_get xs k ≡ Some a → P a) → All P xs
All-from_places P xs each k d within = let a = slice_get_some xs k within in subst P (sym (get_or_from_slice_get xs k a.0 d a.1)) (each k a.0 a.1)

pub All-at_place : {A : Type 0} (P : A → Type 0) (xs : List A) (k : ℕ) (a : A) → All P xs → slice_get xs k ≡ Some a → P a
All-at_place P xs k a all is = subst P (get_or_from_slice_get xs k a a is) (all k a (slice_get_within xs k a is))

-- a front of a log counts no more than the log
pub front_counts : (xs : List Record) (k g : ℕ) → count_of (take k xs) g ≤ count_of xs g
front_counts xs k g = omega (arith, count_of-take xs k (k + length xs) g (omega arith), ap (λ ys. count_of ys g) (take_all (k + length xs) xs (omega arith)))

-- the log counts the record with this place
abbrev pub IsCounted : List Record → Place → Type 0
IsCounted xs place = place.toid ≤ count_of xs place.host

pub counted_record : (xs : List Record) (k : ℕ) (r : Record) → IsCausal xs → slice_get xs k ≡ Some r → r.toid ≤ count_of xs r.host
counted_record xs k r causal is =
    omega (arith, (causal.in_order k r is).next, count_of-take_more xs k r is, front_counts xs (k + 1) r.host)

found_record_counted : (xs : List Record) (p : ℕ) (o : Option Record) (place : Place) → IsCausal xs → record_at xs p ≡ o → found_places (found_record p o) ≡ Some place → IsCounted xs place
found_record_counted xs p None place causal at is = cc
found_record_counted xs p (Some r) place causal at is = by_kind r.kind is
  where
    here : IsCounted xs (place_at p r)
    here = let there = record_at_place xs p r at in counted_record xs there.0 r causal there.1

    by_kind : (k : Kind) → found_places (found_by k (place_at p r) r.body) ≡ Some place → IsCounted xs place
    by_kind AppendKind none = cc
    by_kind PutKind same = subst (IsCounted xs) (same_Some (place_at p r) place same) here
    by_kind DelKind same = subst (IsCounted xs) (same_Some (place_at p r) place same) here

found_counted : (xs : List Record) (o : Option ℕ) (place : Place) → IsCausal xs → found_places (found_place xs o) ≡ Some place → IsCounted xs place
found_counted xs None place causal is = cc
found_counted xs (Some p) place causal is = found_record_counted xs p (record_at xs p) place causal refl is

with_place : (xs : List Record) (o : Option Place) (places : List Place) → ((place : Place) → o ≡ Some place → IsCounted xs place) → All (IsCounted xs) places → All (IsCounted xs) (cons_option o places)
with_place xs None places one others = others
with_place xs (Some place) places one others = All-cons (IsCounted xs) place places (one place refl) others

items_counted : (xs : List Record) (s : ℕ) (keys : List (List ℕ)) → IsCausal xs → All (IsCounted xs) (filter_map found_places (map (found_at xs s) keys))
items_counted xs s [] causal = All-nil (IsCounted xs)
items_counted xs s (key ∷ keys) causal =
    with_place xs (found_places (found_at xs s key)) (filter_map found_places (map (found_at xs s) keys)) (λ place is. found_counted xs (newest xs key s) place causal is) (items_counted xs s keys causal)

shown_counted : (xs : List Record) (p : ℕ) (o : Option Record) → IsCausal xs → record_at xs p ≡ o → All (IsCounted xs) (shown_places (shown_record p o))
shown_counted xs p None causal at = All-nil (IsCounted xs)
shown_counted xs p (Some r) causal at = let there = record_at_place xs p r at in
    All-cons (IsCounted xs) (place_at p r) [] (counted_record xs there.0 r causal there.1) (All-nil (IsCounted xs))

read_counted : (xs : List Record) (gone : List ℕ) (p s : ℕ) → IsCausal xs → All (IsCounted xs) (shown_places (read_in xs gone p s))
read_counted xs gone p s causal =
    let P : ReadAnswer → Type 0 = λ answer. All (IsCounted xs) (shown_places answer) in
    let later : ReadAnswer = if list_any (λ q. q == p) gone then Gone else shown_record p (record_at xs p) in
    cond_both (nat_lt s p) Beyond later P (λ _. All-nil (IsCounted xs))
    (λ _. cond_both (list_any (λ q. q == p) gone) Gone (shown_record p (record_at xs p)) P (λ _. All-nil (IsCounted xs)) (λ _. shown_counted xs p (record_at xs p) causal refl))

tagged_counted : (xs : List Record) (tag : List ℕ) (p : ℕ) (rs : List Record) → All (λ (r : Record). r.toid ≤ count_of xs r.host) rs → All (IsCounted xs) (places_with tag p rs)
tagged_counted xs tag p [] all = All-nil (IsCounted xs)
tagged_counted xs tag p (r ∷ rs) all =
    let P : Record → Type 0 = λ q. q.toid ≤ count_of xs q.host in
    let rest = tagged_counted xs tag (p + 1) rs (All-tail P r rs all) in
    cond_both (has_tag tag r) (place_at p r ∷ places_with tag (p + 1) rs) (places_with tag (p + 1) rs) (All (IsCounted xs))
    (λ _. All-cons (IsCounted xs) (place_at p r) (places_with tag (p + 1) rs) (All-head P r rs all) rest) (λ _. rest)

-- an answer shows records of the log alone
pub answer_counted : (w : World) (d : ℕ) (c : Command) (s : ℕ) (answer : Answer) → IsCausal (log_of w d) → answer_to w d c s ≡ Some answer → All (IsCounted (log_of w d)) (places_in answer)
answer_counted w d (Append tags body) s answer causal is = cc
answer_counted w d (Put key body) s answer causal is = cc
answer_counted w d (Del key) s answer causal is = cc
answer_counted w d (Get key) s answer causal is = let P : Answer → Type 0 = λ a. All (IsCounted (log_of w d)) (places_in a) in
    subst P (same_Some (Items (found_at (log_of w d) s key ∷ [])) answer is) (items_counted (log_of w d) s (key ∷ []) causal)
answer_counted w d (Tx keys) s answer causal is = let P : Answer → Type 0 = λ a. All (IsCounted (log_of w d)) (places_in a) in
    subst P (same_Some (Items (map (found_at (log_of w d) s) keys)) answer is) (items_counted (log_of w d) s keys causal)
answer_counted w d (Read p) s answer causal is = let P : Answer → Type 0 = λ a. All (IsCounted (log_of w d)) (places_in a) in
    subst P (same_Some (ReadOut (read_in (log_of w d) (gone_of w d) p s)) answer is) (read_counted (log_of w d) (gone_of w d) p s causal)
answer_counted w d (Last tag n) s answer causal is =
    let P : Answer → Type 0 = λ a. All (IsCounted (log_of w d)) (places_in a) in
    let xs : List Record = log_of w d in
    let places : List Place = places_with tag 1 (take s xs) in
    let R : Record → Type 0 = λ r. r.toid ≤ count_of xs r.host in
    subst P (same_Some (LastOut (last_of n places)) answer is)
    (All-drop (IsCounted xs) (length places - n) places (tagged_counted xs tag 1 (take s xs) (All-take R s xs (All-from_places R xs (λ k r at. counted_record xs k r causal at)))))

-- a raised entry stays covered
pub raised_covered : (past : List ℕ) (h t : ℕ) (counts : ℕ → ℕ) → AreCovered past counts → t ≤ counts h → AreCovered (raised past h t) counts
raised_covered past h t counts covered below g = elim (get_or-set_cases past h g (max (get_or past h 0) t) 0) [
  | inl here ↦ omega (arith, here.2, covered h, below, ap counts here.0)
  | inr same ↦ omega (arith, same, covered g)
]

pub past_with-covered : (past : List ℕ) (places : List Place) (counts : ℕ → ℕ) → AreCovered past counts → All (λ (p : Place). p.toid ≤ counts p.host) places → AreCovered (past_with past places) counts
past_with-covered past [] counts covered all = covered
past_with-covered past (p ∷ ps) counts covered all =
    let P : Place → Type 0 = λ q. q.toid ≤ counts q.host in
    past_with-covered (raised past p.host p.toid) ps counts (raised_covered past p.host p.toid counts covered (All-head P p ps all)) (All-tail P p ps all)
