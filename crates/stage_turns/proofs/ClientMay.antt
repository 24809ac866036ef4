-- A session may take its turn at stages that stand for a log.
use Rattle.std.proofs.Common.{◌≡◌, ◌⊎◌, ℕ, zero, suc, ◌+◌, ◌-◌, ◌^◌, ◌%◌, ◌<◌, ◌≤◌, Bool, true, false, cond, eqb, List, [], ◌∷◌, ◌++◌, Option, Some, None, length, map, get_or, IsSome, take, refl, ap, sym, ◌∙◌, subst, inl, inr, arith, sum}
use Rattle.std.specs.List.{All, Contains, find, flat_map, slice_get}
use Rattle.std.specs.Option.{option_map_or, unwrap_or}
use Rattle.std.proofs.Math.Nat.{mod-lt}
use Rattle.std.proofs.lemmas.Bool.{cases_lt, eq-eqb, ne_eqb}
use Rattle.std.proofs.lemmas.Bool.Decides.{nat_tests}
use Rattle.std.proofs.lemmas.List.Elements.{All-contains, All-get_or, Contains-append_cases, Contains-append_left, Contains-append_right}
use Rattle.std.proofs.lemmas.List.Sums.{sum_by-cons}
use Rattle.std.proofs.lemmas.Option.{same_Some, slice_get-get_or}
use Rattle.causal_deps.specs.declared.record.Record.{Record}
use Rattle.causal_deps.specs.Logs.{record_at}
use Rattle.causal_deps.specs.declared.answers.Newest.TheVariants.{Found as FoundPut}
use Rattle.abstract_log.specs.declared.command.Command.{Command}
use Rattle.abstract_log.specs.declared.world.World.{World}
use Rattle.abstract_log.specs.Worlds.{log_of}
use Rattle.abstract_log.specs.Answers.{found_at, newest}
use Rattle.abstract_log.specs.Updates.{told_place}
use Rattle.log_laws.specs.Lawful.{IsLawful}
use Rattle.flstore_rounds.specs.Heads.{Pair, IsTruePair, blank, head}
use Rattle.flstore_rounds.proofs.HeadLemmas.{head_filled}
use Rattle.hyksos.specs.Sessions.{SessionState, HasFound, keys_of, next_command, next_keys, writes}
use Rattle.hyksos.specs.Shelves.{covered_for}
use Rattle.log_gc.specs.Floors.{Floored, pin_of}
use Rattle.maintainer.specs.Maintainers.{IsEntryOf, MaintainerState, plain, times, times_in, value_at}
use Rattle.maintainer.proofs.CountLemmas.{value_at-log}
use Rattle.maintainer.proofs.SlotLemmas.{value_at-filled}
use Rattle.tag_indexer.specs.Indexers.{IndexerState}
use Rattle.tag_indexer.specs.Rows.{home, newest_row}
use Rattle.stage_world.specs.Stages.{Datacentre, IsFilledIn, filled, indexer_at, no_epochs, no_indexer, vector_at, waiting_in}
use Rattle.stage_world.specs.StandsFor.{IsAsFar, IsIndexedAt, StandsAt, gone_times, position_in}
use Rattle.stage_world.specs.MoreTurns.{home_of, record_kept}
use Rattle.stage_world.proofs.FilledLemmas.{All-flat_map, filled_within, no_record, one_at_most, times_in-flat_map}
use Rattle.stage_world.proofs.LogLemmas.{record_at_below}
use Rattle.stage_world.proofs.LookUps.{put_kept}
use Rattle.stage_turns.specs.Clients.{MayRead, MayWrite}
use Rattle.stage_turns.specs.Shelves.{ShowsLog, gone_in, shelf_of}
use Rattle.stage_turns.proofs.ShelfLemmas.{covered_is}

-- room does not matter

plain_entries : (ms : List (MaintainerState Record)) → flat_map (λ (m : MaintainerState Record). m.entries) (map plain ms) ≡ flat_map (λ (m : MaintainerState Record). m.entries) ms
plain_entries [] = refl
plain_entries (m ∷ ms) = ap (λ es. m.entries ++ es) (plain_entries ms)

pub record_kept_plain : (ms : List (MaintainerState Record)) (p : ℕ) → record_kept (map plain ms) p ≡ record_kept ms p
record_kept_plain ms p = ap (value_at p) (plain_entries ms)

pub gone_plain : (ms : List (MaintainerState Record)) → gone_in (map plain ms) ≡ gone_in ms
gone_plain [] = refl
gone_plain (m ∷ ms) = ap (λ ps. m.gone ++ ps) (gone_plain ms)

pub shows_lent : (v : Pair) (lent : List (MaintainerState Record)) (is : List IndexerState) (g : Floored) (log : List Record) → ShowsLog v (map plain lent) is g log → ShowsLog v lent is g log
shows_lent v lent is g log h = record {
  within = h.within;
  indexers = h.indexers;
  kept = λ p r some. h.kept p r (record_kept_plain lent p ∙ some);
  filled = λ p first high. elim (h.filled p first high) [
    | inl gone ↦ inl (subst (λ ps. Contains ps p) (gone_plain lent) gone)
    | inr some ↦ inr (subst (λ o. IsSome o) (record_kept_plain lent p) some)
  ];
  apart = λ p gone. sym (record_kept_plain lent p) ∙ h.apart p (subst (λ ps. Contains ps p) (sym (gone_plain lent)) gone);
  small = λ p gone. h.small p (subst (λ ps. Contains ps p) (sym (gone_plain lent)) gone);
  newest = λ key s p low covered is_newest. subst (λ o. IsSome o) (record_kept_plain lent p) (h.newest key s p low covered is_newest);
  pins = h.pins;
}

-- positions that are gone

counted : (p : ℕ) (ps : List ℕ) → 1 ≤ times p ps → Contains ps p
counted p [] some = absurd (omega arith)
counted p (q ∷ qs) some = elim (cases_lt 0 (cond (eqb q p) 1 0)) [
  | inl here ↦ (0, omega arith, is_it q here)
  | inr other ↦ let has = counted p qs (omega (arith, some, other, sum_by-cons (λ (x : ℕ). cond (eqb x p) 1 0) q qs)) in (suc has.0, omega (arith, has.1), has.2)
]
  where
    is_it : (n : ℕ) → 0 < cond (eqb n p) 1 0 → n ≡ p
    is_it n some = grind (arith, nat_tests, some)

listed : (p : ℕ) (ps : List ℕ) → Contains ps p → 1 ≤ times p ps
listed p [] has = absurd (omega (arith, has.1))
listed p (q ∷ qs) has = at has.0 has.1 has.2 (λ later. listed p qs later)
  where
    at : (k : ℕ) → k < length (q ∷ qs) → get_or (q ∷ qs) k p ≡ p → (Contains qs p → 1 ≤ times p qs) → 1 ≤ times p (q ∷ qs)
    at zero within is later = omega (arith, sum_by-cons (λ (x : ℕ). cond (eqb x p) 1 0) q qs, ap (λ b. cond {A = ℕ} b 1 0) (eq-eqb q p is))
    at (suc k) within is later = omega (arith, sum_by-cons (λ (x : ℕ). cond (eqb x p) 1 0) q qs, later (k, omega (arith, within), is))

gone_somewhere : (p : ℕ) (ms : List (MaintainerState Record)) → 1 ≤ gone_times p ms → Contains (gone_in ms) p
gone_somewhere p [] some = absurd (omega arith)
gone_somewhere p (m ∷ ms) some = elim (cases_lt 0 (times p m.gone)) [
  | inl here ↦ Contains-append_left m.gone (gone_in ms) p (counted p m.gone here)
  | inr none ↦ Contains-append_right m.gone (gone_in ms) p (gone_somewhere p ms (omega (arith, some, none, sum_by-cons (λ (x : MaintainerState Record). times p x.gone) m ms)))
]

gone_counts : (p : ℕ) (ms : List (MaintainerState Record)) → Contains (gone_in ms) p → 1 ≤ gone_times p ms
gone_counts p [] has = absurd (omega (arith, has.1))
gone_counts p (m ∷ ms) has = elim (Contains-append_cases m.gone (gone_in ms) p has) [
  | inl here ↦ omega (arith, listed p m.gone here, sum_by-cons (λ (x : MaintainerState Record). times p x.gone) m ms)
  | inr later ↦ omega (arith, gone_counts p ms later, sum_by-cons (λ (x : MaintainerState Record). times p x.gone) m ms)
]

-- indexers by number

find_at : (o k : ℕ) (xs : List IndexerState) → ((i : ℕ) → i < length xs → (indexer_at xs i).number ≡ i + o) → k < length xs → find (λ i. eqb i.number (k + o)) xs ≡ Some (indexer_at xs k)
find_at o k [] numbers within = absurd (omega (arith, within))
find_at o zero (x ∷ xs) numbers within = ap (λ b. cond b (Some x) (find (λ (i : IndexerState). eqb i.number (0 + o)) xs)) (eq-eqb x.number (0 + o) (numbers 0 within))
find_at o (suc k) (x ∷ xs) numbers within =
    let apart : eqb x.number (suc k + o) ≡ false = ne_eqb x.number (suc k + o) (λ same. absurd (omega (arith, same, numbers 0 (omega arith)))) in
    let along : suc k + o ≡ k + suc o = omega arith in
    ap (λ b. cond b (Some x) (find (λ (i : IndexerState). eqb i.number (suc k + o)) xs)) apart ∙ ap (λ n. find (λ (i : IndexerState). eqb i.number n) xs) along
    ∙ find_at (suc o) k xs (λ i inside. numbers (suc i) (omega (arith, inside)) ∙ omega arith) (omega (arith, within))

module _ (w : World) (d : ℕ) (z : Datacentre) (lawful : IsLawful w) (h : StandsAt w d z) where
  abbrev log : List Record
  log = log_of w d

  abbrev ms : List (MaintainerState Record)
  ms = z.maintainers

  -- what is filled up to a head is no further than the log
  pair_within : (v : Pair) → IsTruePair z.token.epochs (IsFilledIn ms) v → head v ≤ length log
  pair_within v truth = elim (cases_lt 0 (head v)) [
    | inl some ↦ filled_within w d z (head v) h (head_filled z.token.epochs (IsFilledIn ms) v (head v) truth some (omega arith))
    | inr none ↦ omega (arith, none)
  ]

  -- what stands at a position is the log's
  kept_is : (p : ℕ) (r : Record) → record_kept ms p ≡ Some r → record_at log p ≡ Some r
  kept_is p r is =
      let entries : All (IsEntryOf log) (flat_map (λ (m : MaintainerState Record). m.entries) ms) = All-flat_map (IsEntryOf log) ms h.positions.placed.entries in
      let count : 1 ≤ times_in p (flat_map (λ (m : MaintainerState Record). m.entries) ms) = value_at-filled p r (flat_map (λ (m : MaintainerState Record). m.entries) ms) is in
      let once : waiting_in p z.queues + filled p ms ≡ position_in log p = h.positions.placed.once p in
      let some : 1 ≤ position_in log p = omega (arith, count, times_in-flat_map p ms, once) in
      let first : 1 ≤ p = grind (arith, nat_tests, some) in
      record_at_below log p first ∙ sym (value_at-log log p (flat_map (λ (m : MaintainerState Record). m.entries) ms) count entries) ∙ is

  -- a filled position is gone, or its record stands there
  gone_or_kept : (p : ℕ) → 1 ≤ p → IsFilledIn ms p → Contains (gone_in ms) p ⊎ IsSome (record_kept ms p)
  gone_or_kept p first some = elim (cases_lt 0 (gone_times p ms)) [
    | inl gone ↦ inl (gone_somewhere p ms gone)
    | inr none ↦
        let count : 1 ≤ times_in p (flat_map (λ (m : MaintainerState Record). m.entries) ms) = omega (arith, some, none, times_in-flat_map p ms) in
        let within : p ≤ length log = filled_within w d z p h some in
        let is : record_kept ms p ≡ slice_get log (p - 1) = value_at-log log p (flat_map (λ (m : MaintainerState Record). m.entries) ms) count (All-flat_map (IsEntryOf log) ms h.positions.placed.entries) in
        inr (subst (λ o. IsSome o) (sym (is ∙ slice_get-get_or log (p - 1) no_record (omega (arith, first, within)))) refl)
  ]

  gone_alone : (p : ℕ) → Contains (gone_in ms) p → record_kept ms p ≡ None
  gone_alone p gone = by_record (record_kept ms p) refl
    where
      by_record : (o : Option Record) → record_kept ms p ≡ o → o ≡ None
      by_record None is = refl
      by_record (Some r) is =
          let count : 1 ≤ times_in p (flat_map (λ (m : MaintainerState Record). m.entries) ms) = value_at-filled p r (flat_map (λ (m : MaintainerState Record). m.entries) ms) is in
          absurd (omega (arith, count, gone_counts p ms gone, times_in-flat_map p ms, one_at_most log p (waiting_in p z.queues) (filled p ms) (h.positions.placed.once p)))

  gone_small : (p : ℕ) → Contains (gone_in ms) p → p < 2 ^ 48
  gone_small p gone = omega (arith, filled_within w d z p h (omega (arith, gone_counts p ms gone, times_in-flat_map p ms)), lawful.few d)

  -- the indexer of a key
  pub home_at : (key : List ℕ) → 1 ≤ length z.indexers → home_of z key ≡ indexer_at z.indexers (home key (length z.indexers))
  home_at key some =
      let k : ℕ = home key (length z.indexers) in
      let same : k + 0 ≡ k = omega arith in
      ap (λ o. unwrap_or o no_indexer) (ap (λ n. find (λ (i : IndexerState). eqb i.number n) z.indexers) (sym same) ∙ find_at 0 k z.indexers (λ i within. h.coverage.numbered i within ∙ omega arith) (mod-lt (sum key) some))

  newest_kept : (v : Pair) (g : Floored) (key : List ℕ) (s p : ℕ) → g.floor ≡ z.floor → g.floor ≤ s → s ≤ covered_for (shelf_of v ms z.indexers g) key → told_place log (newest log key s) ≡ FoundPut p → IsSome (record_kept ms p)
  newest_kept v g key s p floor low covered is =
      let some : 1 ≤ length z.indexers = h.membership.members.ranges.indexers.0 in
      let reached : s ≤ head (home_of z key).pair = omega (arith, covered, covered_is v ms z.indexers g some key, ap (λ (i : IndexerState). head i.pair) (home_at key some)) in
      let within : s ≤ length log = omega (arith, reached, ap (λ (i : IndexerState). head i.pair) (home_at key some), home_within key some) in
      put_kept w d z key s p h (omega (arith, low, floor)) within reached is
    where
      home_within : (key : List ℕ) → 1 ≤ length z.indexers → head (indexer_at z.indexers (home key (length z.indexers))).pair ≤ length log
      home_within key some = pair_within (indexer_at z.indexers (home key (length z.indexers))).pair
          (All-get_or (λ (i : IndexerState). IsTruePair z.token.epochs (IsFilledIn ms) i.pair × IsIndexedAt log (length z.indexers) i) z.indexers (home key (length z.indexers)) no_indexer (mod-lt (sum key) some) h.coverage.indexers).0

  -- what the stages make shows the log
  pub shows_log : (k : ℕ) (g : Floored) → k < length z.vectors → g.floor ≡ z.floor → ((n s : ℕ) → pin_of g n ≡ Some s → g.floor ≤ s) → ShowsLog (vector_at z.vectors k) ms z.indexers g log
  shows_log k g within floor pins =
      let truth : IsTruePair z.token.epochs (IsFilledIn ms) (vector_at z.vectors k) = All-get_or (IsTruePair z.token.epochs (IsFilledIn ms)) z.vectors k (blank no_epochs) within h.coverage.heads in
      record {
        within = pair_within (vector_at z.vectors k) truth;
        indexers = λ i inside.
            let its = All-get_or (λ (x : IndexerState). IsTruePair z.token.epochs (IsFilledIn ms) x.pair × IsIndexedAt log (length z.indexers) x) z.indexers i no_indexer inside h.coverage.indexers in
            record { number = h.coverage.numbered i inside; members = its.1.members; indexed = its.1.has; within = pair_within (indexer_at z.indexers i).pair its.0 };
        kept = kept_is;
        filled = λ p first high. gone_or_kept p first (head_filled z.token.epochs (IsFilledIn ms) (vector_at z.vectors k) p truth first high);
        apart = gone_alone;
        small = gone_small;
        newest = λ key s p low covered is. newest_kept (vector_at z.vectors k) g key s p floor low covered is;
        pins = pins;
      }

  module _ (x : SessionState) (has : Contains z.sessions x) where
    far : IsAsFar w.workload w.sessions log d z.floor x
    far = All-contains (IsAsFar w.workload w.sessions log d z.floor) z.sessions x h.clients.sessions has

    -- a session whose turn is that of a write may take it
    pub may_write : writes x ≡ true → MayWrite x.number x z.batchers
    may_write is = record { number = refl; writes = is; batcher = h.membership.members.ranges.batchers.0 }

    -- what it has found is the log's
    pub has_found : HasFound log x
    has_found = record {
      pinned = λ s pin.
          let at = far.pinned s pin in
          at.same ∙ ap (λ ks. map (found_at log s) (take (length x.found) ks)) (sym (keys at.command at.is));
      fresh = far.fresh;
    }
      where
        keys : (c : Command) → next_command x ≡ Some c → next_keys x ≡ keys_of c
        keys c is = ap (λ o. option_map_or keys_of o []) is

    -- its number is one of the 64
    small_number : x.number < 64
    small_number = omega (arith, far.home.there, lawful.limits.sessions)

    -- another session may take its turn at lent maintainers, whatever room they have
    pub may_read : (lent : List (MaintainerState Record)) (g : Floored) → writes x ≡ false → map plain lent ≡ ms → g.floor ≡ z.floor → pin_of g x.number ≡ x.pin → ((n s : ℕ) → pin_of g n ≡ Some s → g.floor ≤ s)
        → MayRead x.number z.first x lent z.vectors z.indexers g
    may_read lent g reads same floor pin pins = record {
      number = refl;
      small = small_number;
      reads = reads;
      some = h.coverage.served.0;
      vector = served;
      indexers = h.membership.members.ranges.indexers;
      pin = pin;
      log = log;
      shows = shows_at lent g same floor pins;
      found = has_found;
    }
      where
        served : x.number % z.first < length z.vectors
        served = omega (arith, mod-lt x.number h.coverage.served.0, h.coverage.served.1)

        shows_at : (ns : List (MaintainerState Record)) (f : Floored) → map plain ns ≡ ms → f.floor ≡ z.floor → ((n s : ℕ) → pin_of f n ≡ Some s → f.floor ≤ s) → ShowsLog (vector_at z.vectors (x.number % z.first)) ns z.indexers f log
        shows_at ns f alike low all = shows_lent (vector_at z.vectors (x.number % z.first)) ns z.indexers f log (subst (λ us. ShowsLog (vector_at z.vectors (x.number % z.first)) us z.indexers f log) (sym alike) (shows_log (x.number % z.first) f served low all))
