-- Entries that a maintainer takes from a queue.
use Rattle.std.proofs.Common.{◌≡◌, ℕ, zero, suc, ◌+◌, ◌-◌, ◌<◌, ◌≤◌, ◌⊎◌, cond, eqb, List, [], ◌∷◌, length, map, take, drop, get_or, set, refl, ap, sym, ◌∙◌, subst, inl, inr, arith}
use Rattle.std.specs.List.{All}
use Rattle.std.proofs.lemmas.Bool.{cases_lt, cases_eq, cond-true, cond-false, eq-eqb, ne_eqb}
use Rattle.std.proofs.lemmas.List.{drop-take, drop_all}
use Rattle.std.proofs.lemmas.List.Elements.{All-nil, All-head, All-tail, All-take, All-same, All-get_or}
use Rattle.std.proofs.lemmas.List.Sums.{sum_by-cons, get_or-le-sum_by}
use Rattle.std.proofs.lemmas.Option.{slice_get_within}
use Rattle.causal_deps.specs.declared.record.Record.{Record}
use Rattle.abstract_log.specs.declared.script.Outcome.{Outcome}
use Rattle.abstract_log.specs.declared.script.Outcome.TheVariants.{Placed}
use Rattle.abstract_log.specs.declared.world.World.{World}
use Rattle.abstract_log.specs.Worlds.{log_of}
use Rattle.log_laws.specs.Lawful.{IsLawful}
use Rattle.flstore_rounds.specs.declared.epochs.Epoch.{Epoch}
use Rattle.flstore_rounds.specs.Epochs.{EpochList, IsPrefix, IsSettled, later_than}
use Rattle.maintainer.specs.Maintainers.{IsEntryOf, MaintainerState, Owns, OwnsAll, learned, moved_in, placed, plain, times_filled}
use Rattle.maintainer.proofs.OwnLemmas.{owns_filled, owns_told}
use Rattle.maintainer.proofs.SlotLemmas.{times_in-put_in}
use Rattle.maintainer.proofs.StateLemmas.{plain_moved_in}
use Rattle.token_queue.specs.declared.entry.Entry.{Entry}
use Rattle.token_queue.specs.Queues.{QueueState, outbox_for, tokenless, times_among, waiting, without_outbox}
use Rattle.token_queue.proofs.Dealing.{waiting_without}
use Rattle.stage_world.specs.Stages.{Datacentre, maintainer_at, no_maintainer, no_queue, queue_at, slot_of, waiting_in, filled}
use Rattle.stage_world.specs.StandsFor.{IsDealtBy, StandsAt}
use Rattle.stage_world.specs.Turns.{place_turn, placed_from, unless_empty}
use Rattle.stage_world.proofs.FilledLemmas.{one_at_most}
use Rattle.stage_world.proofs.PrefixLemmas.{All-later_by, prefixes_meet}
use Rattle.stage_world.proofs.StandsLemmas.{outbox_entries}
use Rattle.stage_turns.specs.Placing.{MayPlace, MayPlaceAll, MayPlaceFrom, lid_of}

-- each of the entries counts at its own position
entry_counts : (es : List Entry) (k : ℕ) (d : Entry) → k < length es → 1 ≤ times_among (get_or es k d).lid es
entry_counts es k d within =
    let p : ℕ = (get_or es k d).lid in
    omega (arith, get_or-le-sum_by (λ (x : Entry). cond (eqb x.lid p) 1 0) es k d within, cond-true {A = ℕ} (eqb p p) 1 0 (eq-eqb p p refl))

-- once the first is placed, the others may be
others_may : (m : MaintainerState Record) (e : Entry) (es : List Entry) → MayPlaceAll m (e ∷ es) → MayPlaceAll (placed m e.lid e.rec) es
others_may m e es may = record {
  each = λ k d within.
      let x : Entry = get_or es k d in
      let was : MayPlace m x = All-tail (MayPlace m) e es may.each k d within in
      record {
        own = record { first = was.own.first; owner = was.own.owner };
        small = was.small;
        vacant = λ full. elim (cases_eq e.lid x.lid) [
          | inl same ↦ absurd (omega (
            arith,
            may.once x.lid,
            sum_by-cons (λ (y : Entry). cond (eqb y.lid x.lid) 1 0) e es,
            cond-true {A = ℕ} (eqb e.lid x.lid) 1 0 (eq-eqb e.lid x.lid same),
            entry_counts es k d within,
          ))
          | inr other ↦ was.vacant (omega (arith, full, times_in-put_in x.lid (slot_of e) m.entries, cond-false {A = ℕ} (eqb e.lid x.lid) 1 0 (ne_eqb e.lid x.lid other)))
        ];
      };
  once = λ p. omega (arith, may.once p, sum_by-cons (λ (y : Entry). cond (eqb y.lid p) 1 0) e es);
}

-- the first of them may be placed
pub first_may : (m : MaintainerState Record) (e : Entry) (es all : List Entry) → all ≡ e ∷ es → MayPlaceAll m all → MayPlace m e
first_may m e es all is may = All-head (MayPlace m) e es (subst (λ xs. MayPlaceAll m xs) is may).each

-- what is left to be placed, and where that leads
pub record IsNext (m m' : MaintainerState Record) (es all : List Entry) : Type 0 where
  pub may : MayPlaceAll m' es
  pub leads : moved_in m' (map slot_of es) ≡ moved_in m (map slot_of all)

next_of : (m : MaintainerState Record) (e : Entry) (es : List Entry) → MayPlaceAll m (e ∷ es) → IsNext m (placed m e.lid e.rec) es (e ∷ es)
next_of m e es may = record { may = others_may m e es may; leads = refl }

pub is_next : (m m' : MaintainerState Record) (e : Entry) (es all : List Entry) → all ≡ e ∷ es → MayPlaceAll m all → m' ≡ placed m e.lid e.rec → IsNext m m' es all
is_next m m' e es all is may new =
    subst (λ xs. IsNext m m' es xs) (sym is) (subst (λ x. IsNext m x es (e ∷ es)) (sym new) (next_of m e es (subst (λ xs. MayPlaceAll m xs) is may)))

-- room does not matter
pub may_plain : (x : MaintainerState Record) (es : List Entry) → MayPlaceAll (plain x) es → MayPlaceAll x es
may_plain x es may = record {
  each = λ k d within. let was = may.each k d within in record { own = record { first = was.own.first; owner = was.own.owner }; small = was.small; vacant = was.vacant };
  once = may.once;
}

to_plain : (x : MaintainerState Record) (es : List Entry) → MayPlaceAll x es → MayPlaceAll (plain x) es
to_plain x es may = record {
  each = λ k d within. let was = may.each k d within in record { own = record { first = was.own.first; owner = was.own.owner }; small = was.small; vacant = was.vacant };
  once = may.once;
}

-- what a maintainer may place, it may with room for more
pub may_with_room : (x y z : MaintainerState Record) (n : ℕ) (es fs : List Entry) → y ≡ x → z ≡ record y { spare = n } → fs ≡ es → MayPlaceAll x es → MayPlaceAll z fs
may_with_room x y z n es fs learnt room same may =
    may_plain z fs (subst (λ s. MayPlaceAll s fs) (sym (ap (λ (s : MaintainerState Record). plain s) room ∙ ap (λ (s : MaintainerState Record). plain s) learnt)) (to_plain x fs (subst (λ xs. MayPlaceAll x xs) (sym same) may)))

-- a maintainer that learned, got room and took the entries
pub placed_plain : (old x y z : MaintainerState Record) (n : ℕ) (e : EpochList) (es fs : List Entry) → x ≡ learned old e → y ≡ record x { spare = n } → fs ≡ es → z ≡ moved_in y (map slot_of fs)
    → plain z ≡ moved_in (learned (plain old) e) (map slot_of es)
placed_plain old x y z n e es fs learnt room same new =
    ap (λ (s : MaintainerState Record). plain s) new ∙ plain_moved_in y (map slot_of fs)
    ∙ ap (λ (s : MaintainerState Record). moved_in s (map slot_of fs)) (ap (λ (s : MaintainerState Record). plain s) room ∙ ap (λ (s : MaintainerState Record). plain s) learnt)
    ∙ ap (λ xs. moved_in (learned (plain old) e) (map slot_of xs)) same

-- what is settled by the whole list is by a beginning of it
pub settled_by : (e f t : EpochList) (p : ℕ) → IsPrefix f t → IsSettled t e p → IsSettled f e p
settled_by e f t p hf settled = All-later_by (λ x. p < x.start) e f t hf settled

module _ (w : World) (d : ℕ) (z : Datacentre) (q m : ℕ) (in_q : q < length z.queues) (in_m : m < length z.maintainers) (lawful : IsLawful w) (h : StandsAt w d z) where
  abbrev old_q : QueueState
  old_q = queue_at z.queues q

  abbrev old_m : MaintainerState Record
  old_m = maintainer_at z.maintainers m

  abbrev box : List Entry
  box = outbox_for old_q m

  owns_old : OwnsAll z.token.epochs old_m
  owns_old = All-get_or (OwnsAll z.token.epochs) z.maintainers m no_maintainer in_m h.membership.owned.maintainers

  dealt : IsDealtBy z.token.epochs old_q
  dealt = All-get_or (IsDealtBy z.token.epochs) z.queues q no_queue in_q h.membership.owned.queues

  stand : All (λ e. IsEntryOf (log_of w d) (slot_of e)) box
  stand = outbox_entries (λ e. IsEntryOf (log_of w d) (slot_of e)) old_q m
      (All-get_or (λ (x : QueueState). All (λ es. All (λ e. IsEntryOf (log_of w d) (slot_of e)) es) x.outboxes) z.queues q no_queue in_q h.positions.placed.outboxes)

  -- what waits here and what is filled here is once in all
  few_here : (p : ℕ) → times_among p box + times_filled p old_m ≤ 1
  few_here p = omega (
    arith,
    waiting_without p m old_q,
    get_or-le-sum_by (waiting p) z.queues q no_queue in_q,
    get_or-le-sum_by (times_filled p) z.maintainers m no_maintainer in_m,
    one_at_most (log_of w d) p 0 (waiting_in p z.queues + filled p z.maintainers) (omega (arith, h.positions.placed.once p)),
  )

  entry_may : (k : ℕ) (e : Entry) → k < length box → MayPlace (learned old_m old_q.epochs) (get_or box k e)
  entry_may k e within =
      let x : Entry = get_or box k e in
      let own : Owns z.token.epochs (learned old_m old_q.epochs) x.lid =
      owns_told z.token.epochs old_m old_q.epochs x.lid owns_old.known dealt.known ((dealt.owned m k e within).0 ∙ sym (h.membership.owned.numbers m in_m)) (dealt.owned m k e within).1 in
      let here : IsEntryOf (log_of w d) (slot_of x) = stand k e within in
      record {
        own = record { first = here.first; owner = own.own };
        small = omega (arith, slice_get_within (log_of w d) (x.lid - 1) x.rec here.stands, lawful.few d);
        vacant = λ full. absurd (omega (arith, few_here x.lid, entry_counts box k e within, full));
      }

  may_old : MayPlaceFrom old_q m old_m
  may_old = record {
    known = prefixes_meet old_m.epochs old_q.epochs z.token.epochs owns_old.known dealt.known;
    settled = λ p full. settled_by old_m.epochs old_q.epochs z.token.epochs p dealt.known (owns_filled z.token.epochs old_m p owns_old full).settled;
    entries = record { each = λ k e within. entry_may k e within; once = λ p. omega (arith, few_here p) };
  }

  -- a queue, with the token or without, and a maintainer, whatever room it has, meet what `place` asks
  pub may_place_from : (queue : QueueState) (x : MaintainerState Record) → tokenless queue ≡ old_q → plain x ≡ old_m → MayPlaceFrom queue m x
  may_place_from queue x is_q is_m =
      let may : MayPlaceFrom (tokenless queue) m (plain x) = subst (λ y. MayPlaceFrom (tokenless queue) m y) (sym is_m) (subst (λ y. MayPlaceFrom y m old_m) (sym is_q) may_old) in
      record { known = may.known; settled = may.settled; entries = may_plain (learned x queue.epochs) (outbox_for queue m) may.entries }

-- a maintainer that is there has a number below 16
pub member_below : (w : World) (d : ℕ) (z : Datacentre) (m : ℕ) → StandsAt w d z → m < length z.maintainers → m < 16
member_below w d z m h there = omega (arith, h.membership.members.ranges.maintainers.1)

-- what `place` leaves and answers is the turn of all stages
pub record IsPlaceTurn (z : Datacentre) (q m : ℕ) (queue : QueueState) (x : MaintainerState Record) (o : Outcome) : Type 0 where
  pub queues : set z.queues q (tokenless queue) ≡ (placed_from z q m).queues
  pub maintainers : set z.maintainers m (plain x) ≡ (placed_from z q m).maintainers
  pub outcome : o ≡ (place_turn z q m).outcome

pub place_is_turn : (z : Datacentre) (q m : ℕ) (queue queue' : QueueState) (x x' : MaintainerState Record) (o : Outcome) → tokenless queue ≡ queue_at z.queues q → plain x ≡ maintainer_at z.maintainers m
    → queue' ≡ without_outbox queue m → plain x' ≡ moved_in (learned (plain x) queue.epochs) (map slot_of (outbox_for queue m)) → o ≡ unless_empty (outbox_for queue m) (Placed (map lid_of (outbox_for queue m)))
    → IsPlaceTurn z q m queue' x' o
place_is_turn z q m queue queue' x x' o is_q is_m new_q new_m answer = record {
  queues = ap (set z.queues q) (ap (λ (y : QueueState). tokenless y) new_q ∙ ap (λ (y : QueueState). without_outbox y m) is_q);
  maintainers = ap (set z.maintainers m) (new_m
      ∙ ap (λ (y : MaintainerState Record). moved_in (learned y queue.epochs) (map slot_of (outbox_for queue m))) is_m
      ∙ ap (λ (y : QueueState). moved_in (learned (maintainer_at z.maintainers m) y.epochs) (map slot_of (outbox_for y m))) is_q);
  outcome = answer ∙ ap (λ (y : QueueState). unless_empty (outbox_for y m) (Placed (map lid_of (outbox_for y m)))) is_q;
}
