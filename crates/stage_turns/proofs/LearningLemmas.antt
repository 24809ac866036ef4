-- What a datacentre learns of its own log.
use Rattle.std.proofs.Common.{◌≡◌, ℕ, zero, suc, ◌+◌, ◌-◌, ◌<◌, ◌≤◌, ◌&&◌, max, Bool, true, false, cond, eqb, List, [], ◌∷◌, ◌++◌, length, map, take, replicate, get_or, refl, ap, ap₂, sym, ◌∙◌, subst, inl, inr, arith, Option, Some, None}
use Rattle.std.specs.Bool.{Decides}
use Rattle.std.specs.List.{All, flat_map, slice_get}
use Rattle.std.specs.Option.{ForSome}
use Rattle.std.proofs.lemmas.Bool.{cases_lt, cond-false, cond-true, eq-eqb, eqb-true, and_parts}
use Rattle.std.proofs.lemmas.List.{get_or-map, get_or_default, length-map, length-set}
use Rattle.std.proofs.lemmas.List.Elements.{All-get_or, All-weaker}
use Rattle.std.proofs.lemmas.List.Sums.{sum_by-cons, get_or-le-sum_by}
use Rattle.std.proofs.lemmas.Bool.Decides.{Decides-eqb, same_from_decides}
use Rattle.std.proofs.lemmas.Slice.Eq.{slice_eq-Decides}
use Rattle.std.specs.Cmp.Lexicographic.{pointwise}
use Rattle.std.proofs.Math.Seq.{take-append_seam}
use Rattle.std.proofs.lemmas.Option.{slice_get-get_or}
use Rattle.abstract_log.specs.declared.event.Event.{Event}
use Rattle.abstract_log.specs.declared.event.Event.TheVariants.{Learn}
use Rattle.causal_deps.specs.declared.record.Record.{Record}
use Rattle.causal_deps.specs.Counts.{raised_row, row_of}
use Rattle.abstract_log.specs.declared.world.World.{World}
use Rattle.abstract_log.specs.Worlds.{log_of, gone_of}
use Rattle.log_laws.specs.Lawful.{IsLawful}
use Rattle.log_laws.specs.Records.{IsValid}
use Rattle.flstore_rounds.specs.declared.epochs.Epoch.{Epoch}
use Rattle.flstore_rounds.specs.Epochs.{EpochList, IsSettled, later_than, owner}
use Rattle.flstore_rounds.specs.Heads.{Pair, IsTruePair, head, mark_at}
use Rattle.flstore_rounds.proofs.EpochLemmas.{owner-prefix}
use Rattle.flstore_rounds.proofs.HeadLemmas.{head_below, head_filled}
use Rattle.maintainer.specs.Maintainers.{IsEntryOf, IsOwn, MaintainerState, Owns, OwnsAll, plain, times, times_filled, times_in, value_at}
use Rattle.maintainer.proofs.CountLemmas.{value_at-log}
use Rattle.maintainer.proofs.OwnLemmas.{owns_filled}
use Rattle.stage_world.specs.Stages.{Datacentre, IsFilledIn, maintainer_at, no_maintainer, vector_at}
use Rattle.stage_world.specs.StandsFor.{StandsAt}
use Rattle.stage_world.specs.MoreTurns.{counts_after, counts_with_one, learn_events, learnt_more, learnt_row, record_kept, same_counts}
use Rattle.stage_world.proofs.FilledLemmas.{filled_within, no_record, record_at_filled}
use Rattle.stage_world.proofs.StandsLemmas.{first_true}
use Rattle.stage_turns.specs.Learning.{IsAtOwner, MayLearn, row_events, row_learnt}

-- the test of two lists of counts

same-is : (xs ys : List ℕ) → same_counts xs ys ≡ true → xs ≡ ys
same-is [] [] is = refl
same-is [] (y ∷ ys) is = absurd (cc)
same-is (x ∷ xs) [] is = absurd (cc)
same-is (x ∷ xs) (y ∷ ys) is = let both = and_parts (eqb x y) (same_counts xs ys) is in ap₂ (λ z zs. z ∷ zs) (eqb-true x y both.0) (same-is xs ys both.1)

same-itself : (xs : List ℕ) → same_counts xs xs ≡ true
same-itself [] = refl
same-itself (x ∷ xs) = ap₂ (λ a b. a && b) (eq-eqb x x refl) (same-itself xs)

pub same_decided : (xs ys : List ℕ) → Decides (same_counts xs ys) (xs ≡ ys)
same_decided xs ys = (same-is xs ys, λ e. subst (λ zs. same_counts xs zs ≡ true) e (same-itself xs))

abbrev zeros : ℕ → List ℕ
zeros n = replicate n 0

abbrev padded : List ℕ → List ℕ
padded xs = xs ++ zeros (8 - length xs)

-- the test of two counts, of which 8 numbers are stored and the length
pub same_stored : (xs ys : List ℕ) (b : Bool) → b ≡ (pointwise eqb (padded xs) (padded ys) && eqb (length xs) (length ys)) → Decides b (xs ≡ ys)
same_stored xs ys b e =
    let stored : Decides (pointwise eqb (padded xs) (padded ys)) (padded xs ≡ padded ys) = slice_eq-Decides Decides-eqb (padded xs) (padded ys) (pointwise eqb (padded xs) (padded ys)) refl in
    let to : b ≡ true → xs ≡ ys = λ is.
    let both = and_parts (pointwise eqb (padded xs) (padded ys)) (eqb (length xs) (length ys)) (sym e ∙ is) in
    let sizes : length xs ≡ length ys = eqb-true (length xs) (length ys) both.1 in
    sym (take-append_seam xs (zeros (8 - length xs))) ∙ ap (take (length xs)) (stored.0 both.0) ∙ ap (λ n. take n (padded ys)) sizes ∙ take-append_seam ys (zeros (8 - length ys)) in
    let from : xs ≡ ys → b ≡ true = λ same. e ∙ ap₂ (λ p q. p && q) (stored.1 (ap padded same)) (eq-eqb (length xs) (length ys) (ap (λ (zs : List ℕ). length zs) same)) in
    (to, from)

-- the events, by any test of the two rows
events_tested : (d : ℕ) (old row : List ℕ) (b : Bool) → Decides b (row ≡ old) → row_events d old row ≡ cond b [] (Learn d row ∷ [])
events_tested d old row b tests = ap (λ (is : Bool). cond is [] (Learn d row ∷ [])) (same_from_decides (same_counts row old) b (same_decided row old) tests)

pub none_if_same : (d : ℕ) (old row : List ℕ) (b : Bool) (es : List Event) → Decides b (row ≡ old) → b ≡ true → es ≡ [] → es ≡ row_events d old row
none_if_same d old row b es tests same none = none ∙ sym (events_tested d old row b tests ∙ cond-true b [] (Learn d row ∷ []) same)

pub one_if_changed : (d : ℕ) (old row : List ℕ) (b : Bool) (start es : List Event) → Decides b (row ≡ old) → b ≡ false → start ≡ [] → es ≡ start ++ Learn d row ∷ [] → es ≡ row_events d old row
one_if_changed d old row b start es tests changed none one =
    one ∙ ap (λ xs. xs ++ Learn d row ∷ []) none ∙ sym (events_tested d old row b tests ∙ cond-false b [] (Learn d row ∷ []) changed)

-- counting on

pub length-counts_with : (row : List ℕ) (o : Option Record) → length (counts_with_one row o) ≡ length row
length-counts_with row None = refl
length-counts_with row (Some r) = length-set row r.host (max (get_or row r.host 0) r.toid)

-- what is there at a maintainer that owns p is what all have there
pub record IsHere (dcs : ℕ) (ms : List (MaintainerState Record)) (p : ℕ) (x : MaintainerState Record) : Type 0 where
  pub own : IsOwn x p
  pub host : ForSome (value_at p x.entries) (λ r. r.host < dcs)
  pub value : value_at p x.entries ≡ record_kept ms p

some_same : (r s : Record) (o : Option Record) → o ≡ Some r → o ≡ Some s → r ≡ s
some_same r s o first second = cc

pub is_here : (dcs : ℕ) (e : EpochList) (ms : List (MaintainerState Record)) (p k : ℕ) (x : MaintainerState Record) → IsAtOwner dcs e ms p → k ≡ owner e p → x ≡ get_or ms k x → IsHere dcs ms p x
is_here dcs e ms p k x at same is =
    let there : maintainer_at ms (owner e p) ≡ x = sym (is ∙ ap (λ i. get_or ms i x) same ∙ get_or_default ms (owner e p) x no_maintainer at.member) in
    let value : value_at p x.entries ≡ Some at.rec = ap (λ (y : MaintainerState Record). value_at p y.entries) (sym there) ∙ at.there in
    record {
      own = subst (λ y. IsOwn y p) there at.own;
      host = λ r has. subst (λ (s : Record). s.host < dcs) (some_same at.rec r (value_at p x.entries) value has) at.host;
      value = value ∙ sym at.kept;
    }

-- as it is told
pub at_owner_told : (dcs dcs' : ℕ) (e e' : EpochList) (ms ms' : List (MaintainerState Record)) (p : ℕ) → dcs' ≡ dcs → e' ≡ e → ms' ≡ ms → IsAtOwner dcs e ms p → IsAtOwner dcs' e' ms' p
at_owner_told dcs dcs' e e' ms ms' p same_dcs same_list same_ms at =
    subst (λ n. IsAtOwner n e' ms' p) (sym same_dcs) (subst (λ f. IsAtOwner dcs f ms' p) (sym same_list) (subst (λ xs. IsAtOwner dcs e xs p) (sym same_ms) at))

-- the counts of what is left are those of the next position, and then of the rest
pub counts_next : (ms : List (MaintainerState Record)) (row row' first : List ℕ) (from s upto p : ℕ) (o : Option Record) → s < upto → p ≡ s + 1 → o ≡ record_kept ms p → row' ≡ counts_with_one row o
    → counts_after ms row s (upto - s) ≡ counts_after ms first from (upto - from) → counts_after ms row' (s + 1) (upto - (s + 1)) ≡ counts_after ms first from (upto - from)
counts_next ms row row' first from s upto p o lt next kept new so_far =
    ap (λ r. counts_after ms r (s + 1) (upto - (s + 1))) (new ∙ ap (counts_with_one row) (kept ∙ ap (record_kept ms) next))
    ∙ sym (ap (counts_after ms row s) (one_more s upto lt)) ∙ so_far
  where
    one_more : (a b : ℕ) → a < b → b - a ≡ suc (b - (a + 1))
    one_more a b less = omega arith

-- room does not matter

kept_entries : (ms : List (MaintainerState Record)) → flat_map (λ (m : MaintainerState Record). m.entries) (map plain ms) ≡ flat_map (λ (m : MaintainerState Record). m.entries) ms
kept_entries [] = refl
kept_entries (m ∷ ms) = ap (λ es. m.entries ++ es) (kept_entries ms)

kept_plain : (ms : List (MaintainerState Record)) (p : ℕ) → record_kept (map plain ms) p ≡ record_kept ms p
kept_plain ms p = ap (value_at p) (kept_entries ms)

pub counts_plain : (ms : List (MaintainerState Record)) (row : List ℕ) (s n : ℕ) → counts_after (map plain ms) row s n ≡ counts_after ms row s n
counts_plain ms row s zero = refl
counts_plain ms row s (suc n) =
    ap (λ o. counts_after (map plain ms) (counts_with_one row o) (s + 1) n) (kept_plain ms (s + 1)) ∙ counts_plain ms (counts_with_one row (record_kept ms (s + 1))) (s + 1) n

at_owner_plain : (dcs : ℕ) (e : EpochList) (ms : List (MaintainerState Record)) (p : ℕ) → IsAtOwner dcs e (map plain ms) p → IsAtOwner dcs e ms p
at_owner_plain dcs e ms p at =
    let k : ℕ = owner e p in
    let inside : k < length ms = omega (arith, at.member, length-map ms (λ (m : MaintainerState Record). plain m)) in
    let same : maintainer_at (map plain ms) k ≡ plain (maintainer_at ms k) = get_or-map (λ (m : MaintainerState Record). plain m) ms k no_maintainer no_maintainer inside in
    let own : IsOwn (plain (maintainer_at ms k)) p = subst (λ y. IsOwn y p) same at.own in
    record {
      member = inside;
      own = record { first = own.first; owner = own.owner };
      rec = at.rec;
      host = at.host;
      there = ap (λ (y : MaintainerState Record). value_at p y.entries) (sym same) ∙ at.there;
      kept = sym (kept_plain ms p) ∙ at.kept;
    }

-- a filled position is so at some maintainer
filled_somewhere : (p : ℕ) (ms : List (MaintainerState Record)) → IsFilledIn ms p → (i : ℕ) × (i < length ms) × (1 ≤ times_filled p (maintainer_at ms i))
filled_somewhere p [] some = absurd (omega arith)
filled_somewhere p (m ∷ ms) some = elim (cases_lt 0 (times_filled p m)) [
  | inl here ↦ (0, omega arith, here)
  | inr none ↦ let rest = filled_somewhere p ms (omega (arith, some, sum_by-cons (times_filled p) m ms)) in (suc rest.0, omega (arith, rest.1), rest.2)
]

module _ (w : World) (d : ℕ) (z : Datacentre) (lawful : IsLawful w) (h : StandsAt w d z) where
  abbrev t : EpochList
  t = z.token.epochs

  abbrev v : Pair
  v = vector_at z.vectors 0

  abbrev log : List Record
  log = log_of w d

  first : IsTruePair t (IsFilledIn z.maintainers) v
  first = first_true w d z h

  at_owner : (p : ℕ) → z.learnt < p → p ≤ head v → IsAtOwner (length z.table) v.epochs z.maintainers p
  at_owner p low high =
      let some : IsFilledIn z.maintainers p = head_filled t (IsFilledIn z.maintainers) v p first (omega arith) high in
      let at = filled_somewhere p z.maintainers some in
      let i : ℕ = at.0 in
      let m : MaintainerState Record = maintainer_at z.maintainers i in
      let k : ℕ = owner v.epochs p in
      let below : p < mark_at v k = head_below v p (omega arith) high in
      let settled : IsSettled t v.epochs p = All-weaker (λ (n : Epoch). mark_at v k ≤ n.start) (λ (n : Epoch). p < n.start) (λ n within. omega arith) (later_than v.epochs t) (first.settled k) in
      let all : OwnsAll t m = All-get_or (OwnsAll t) z.maintainers i no_maintainer at.1 h.membership.owned.maintainers in
      let owns : Owns t m p = owns_filled t m p all at.2 in
      let number : m.number ≡ i = h.membership.owned.numbers i at.1 in
      let same : i ≡ k = sym number ∙ sym owns.own ∙ owner-prefix m.epochs t p all.known owns.settled ∙ sym (owner-prefix v.epochs t p first.known settled) in
      let kept : times p (gone_of w d) ≡ 0 = elim (cases_lt 0 (times p (gone_of w d))) [
        | inl gone ↦ absurd (omega (arith, (h.knowledge.aware.below p (omega arith)).0))
        | inr none ↦ omega arith
      ] in
      let counted : 1 ≤ times_in p m.entries = omega (arith, at.2, get_or-le-sum_by (λ (x : MaintainerState Record). times p x.gone) z.maintainers i no_maintainer at.1, h.positions.placed.collected p) in
      let entries : All (IsEntryOf log) m.entries = All-get_or (λ (x : MaintainerState Record). All (IsEntryOf log) x.entries) z.maintainers i no_maintainer at.1 h.positions.placed.entries in
      let inside : p - 1 < length log = omega (arith, filled_within w d z p h some) in
      let stands : slice_get log (p - 1) ≡ Some (get_or log (p - 1) no_record) = slice_get-get_or log (p - 1) no_record inside in
      let own : IsOwn m p = record { first = omega arith; owner = owns.own } in
      record {
        member = subst (λ j. j < length z.maintainers) same at.1;
        own = subst (λ j. IsOwn (maintainer_at z.maintainers j) p) same own;
        rec = get_or log (p - 1) no_record;
        host = omega (arith, (All-get_or (IsValid w.workload.dcs) log (p - 1) no_record inside (lawful.valid d)).host, h.knowledge.aware.square.rows);
        there = subst (λ j. value_at p (maintainer_at z.maintainers j).entries ≡ Some (get_or log (p - 1) no_record)) same (value_at-log log p m.entries counted entries ∙ stands);
        kept = record_at_filled w d z p h some kept ∙ stands;
      }

  -- maintainers, whatever room they have, meet what `learn` asks
  pub may_learn : (ms : List (MaintainerState Record)) → map plain ms ≡ z.maintainers → MayLearn (length z.table) ms v z.learnt
  may_learn ms same p low high = at_owner_plain (length z.table) v.epochs ms p (subst (λ xs. IsAtOwner (length z.table) v.epochs xs p) (sym same) (at_owner p low high))

-- what `learn` leaves and tells is the turn of all stages
pub record IsLearnTurn (d : ℕ) (z : Datacentre) (row : List ℕ) : Type 0 where
  pub table : raised_row z.table d row ≡ (learnt_more d z).table
  pub events : row_events d (row_of z.table d) row ≡ learn_events d z

pub learn_is_turn : (d : ℕ) (z : Datacentre) (ms : List (MaintainerState Record)) → map plain ms ≡ z.maintainers → IsLearnTurn d z (row_learnt d ms (vector_at z.vectors 0) z.table z.learnt)
learn_is_turn d z ms same =
    let low : ℕ = z.learnt in
    let n : ℕ = max (head (vector_at z.vectors 0)) low - low in
    let is : row_learnt d ms (vector_at z.vectors 0) z.table z.learnt ≡ learnt_row d z =
    sym (counts_plain ms (row_of z.table d) low n) ∙ ap (λ xs. counts_after xs (row_of z.table d) low n) same in
    record { table = ap (raised_row z.table d) is; events = ap (row_events d (row_of z.table d)) is }
