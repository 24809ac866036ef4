-- What stages that stand for a world tell has a spelling, and what they ask of the stages that are lent holds there.
use Rattle.std.proofs.Common.{◌≡◌, ℕ, ◌-◌, ◌%◌, ◌<◌, ◌≤◌, Bool, true, cond, eqb, List, [], ◌∷◌, ◌++◌, length, filter, refl, ap, sym, ◌∙◌, subst, inl, inr, arith}
use Rattle.std.specs.List.{All, Contains, fold}
use Rattle.std.proofs.lemmas.Bool.{cases_eq, cond-true, cond-false, cond_both, ne_eqb}
use Rattle.std.proofs.lemmas.List.Elements.{All-nil, All-cons, All-head, All-tail, All-filter, All-map, All-weaker, All-contains}
use Rattle.std.proofs.lemmas.List.Folds.{flat_map-map}
use Rattle.std.proofs.lemmas.List.Sums.{sum_by-cons}
use Rattle.cz_base.specs.Text.{IsBody}
use Rattle.causal_deps.specs.Counts.{entry_of}
use Rattle.causal_deps.specs.declared.record.Kind.{Kind}
use Rattle.causal_deps.specs.declared.record.Kind.TheVariants.{Append, Put, Del}
use Rattle.causal_deps.specs.Kinds.{is_update}
use Rattle.causal_deps.specs.declared.record.Record.{Record}
use Rattle.abstract_log.specs.declared.world.World.{World}
use Rattle.abstract_log.specs.Worlds.{log_of, table_of}
use Rattle.log_laws.specs.Lawful.{IsLawful}
use Rattle.log_laws.specs.Records.{IsValid}
use Rattle.log_laws.proofs.Places.{All-at_place}
use Rattle.maintainer.specs.declared.slot.Slot.{Slot}
use Rattle.maintainer.specs.Maintainers.{IsEntryOf, MaintainerState, plain, times_filled}
use Rattle.record_codec.specs.declared.message.Message.{Message}
use Rattle.record_codec.specs.Wire.{FitsRecord, HasTexts, SpellsMessage, fewest_tags, most_body, most_tags}
use Rattle.sender_receiver.specs.Sending.{message_to}
use Rattle.sender_receiver.specs.Stocks.{Stocked, records_in}
use Rattle.stage_world.specs.MoreTurns.{message_of, sorted_in, stock_of, stocked}
use Rattle.stage_world.specs.Stages.{Datacentre, Stages, filled}
use Rattle.stage_world.specs.StandsFor.{StandsAt}
use Rattle.stage_world.specs.Whole.{IsLogged, IsTold, StandsFor, datacentre_at, link_at}
use Rattle.stage_world.proofs.FilledLemmas.{one_at_most}
use Rattle.stage_turns.specs.Lent.{maintainers_seen}
use Rattle.stage_turns.specs.Told.{IsToldBy, MayLook, MayTell, told_message}
use Rattle.stage_world.proofs.StockLemmas.{All-read_by, All-sorted, read_by}

-- a valid record has a spelling

-- as many tags as its kind may have
record HasTags (kind : Kind) (tags : List (List ℕ)) : Type 0 where
  first : fewest_tags kind ≤ length tags
  last : length tags ≤ most_tags kind

tags_fit : (kind : Kind) (tags : List (List ℕ)) → (is_update kind ≡ true → (name : List ℕ) × (tags ≡ name ∷ [])) → length tags ≤ 8 → HasTags kind tags
tags_fit Append tags key few = record { first = omega arith; last = few }
tags_fit Put tags key few = let one = ap length (key refl).1 in record { first = omega (arith, one); last = omega (arith, one) }
tags_fit Del tags key few = let one = ap length (key refl).1 in record { first = omega (arith, one); last = omega (arith, one) }

-- a body of no more bytes than its kind may have
body_fits : (kind : Kind) (body : List ℕ) → (kind ≡ Del → body ≡ []) → IsBody body → length body ≤ most_body kind
body_fits Append body silent fits = fits.short
body_fits Put body silent fits = fits.short
body_fits Del body silent fits = omega (arith, ap length (silent refl))

pub valid_fits : (dcs : ℕ) (r : Record) → IsValid dcs r → FitsRecord dcs r
valid_fits dcs r h = let tags = tags_fit r.kind r.tags h.key h.tags in record {
  host = h.host;
  toid_first = h.first;
  toid = h.small;
  session = h.session;
  index_first = h.index_first;
  index = h.index;
  entries = h.size;
  dep = h.dep;
  own = h.before;
  tags_first = tags.first;
  tags = tags.last;
  body = body_fits r.kind r.body h.silent h.body;
}

pub valid_texts : (dcs : ℕ) (r : Record) → IsValid dcs r → HasTexts r
valid_texts dcs r h = record { tags = h.names; body = h.body }

-- A packet of a message in the link from d may be delivered at e.
pub record MayDeliver (d : ℕ) (packet : List ℕ) (z : Datacentre) : Type 0 where
  pub some : 1 ≤ length z.batchers
  pub told : IsToldBy (length z.table) d packet

pub may_deliver : (w : World) (z : Stages) (d e : ℕ) (m : Message) (packet : List ℕ) → StandsFor w z → e < w.workload.dcs → Contains (link_at z d e) m → SpellsMessage w.workload.dcs packet m
    → MayDeliver d packet (datacentre_at z e)
may_deliver w z d e m packet stands there has spelled =
    let at : StandsAt w e (datacentre_at z e) = stands.each e there in
    let told : IsTold w.workload.dcs (log_of w d) (table_of w d) d m = All-contains (IsTold w.workload.dcs (log_of w d) (table_of w d) d) (link_at z d e) m (stands.links d e) has in
    record {
      some = at.membership.members.ranges.batchers.0;
      told = record { message = m; spelled = subst (λ n. SpellsMessage n packet m) (sym at.knowledge.aware.square.rows) spelled; sender = told.from };
    }

-- the maintainers that are lent, whatever room they have

All-seen : (P : Slot Record → Type 0) (ms : List (MaintainerState Record)) → All (λ m. All P m.entries) (maintainers_seen ms) → All (λ m. All P m.entries) ms
All-seen P [] all = All-nil (λ (m : MaintainerState Record). All P m.entries)
All-seen P (m ∷ ms) all = All-cons (λ (x : MaintainerState Record). All P x.entries) m ms
    (All-head (λ (x : MaintainerState Record). All P x.entries) (plain m) (maintainers_seen ms) all)
    (All-seen P ms (All-tail (λ (x : MaintainerState Record). All P x.entries) (plain m) (maintainers_seen ms) all))

filled_seen : (p : ℕ) (ms : List (MaintainerState Record)) → filled p (maintainers_seen ms) ≡ filled p ms
filled_seen p [] = refl
filled_seen p (m ∷ ms) = omega (arith, filled_seen p ms, sum_by-cons (times_filled p) m ms, sum_by-cons (times_filled p) (plain m) (maintainers_seen ms))

abbrev stock_of_entries : List (Slot Record) → List Stocked
stock_of_entries es = fold (λ ys e. sorted_in (stocked e) ys) [] es

pub stock_seen : (ms : List (MaintainerState Record)) (k n : ℕ) → stock_of (maintainers_seen ms) k n ≡ stock_of ms k n
stock_seen ms k n = ap stock_of_entries (flat_map-map (λ (m : MaintainerState Record). cond (eqb (m.number % n) k) m.entries []) plain ms)

-- Of a datacentre's maintainers those are lent that a test keeps, which are at least the ones that sender k reads.
pub record AreLent (k : ℕ) (z : Datacentre) (ms : List (MaintainerState Record)) : Type 0 where
  pub kept : MaintainerState Record → Bool
  pub all : (m : MaintainerState Record) → m.number % z.senders ≡ k → kept m ≡ true
  pub seen : maintainers_seen ms ≡ filter kept z.maintainers

-- all of them are enough
pub whole_is_lent : (k : ℕ) (z : Datacentre) (ms : List (MaintainerState Record)) → maintainers_seen ms ≡ z.maintainers → AreLent k z ms
whole_is_lent k z ms seen = record { kept = λ _. true; all = λ m is. refl; seen = seen ∙ sym (keeps_all z.maintainers) }
  where
    keeps_all : (xs : List (MaintainerState Record)) → filter (λ _. true) xs ≡ xs
    keeps_all [] = refl
    keeps_all (x ∷ xs) = ap (λ ys. x ∷ ys) (keeps_all xs)

-- the sender reads as much of those that are kept
read_kept : (k n : ℕ) (kept : MaintainerState Record → Bool) (ms : List (MaintainerState Record)) → ((m : MaintainerState Record) → m.number % n ≡ k → kept m ≡ true) → read_by k n (filter kept ms) ≡ read_by k n ms
read_kept k n kept [] all = refl
read_kept k n kept (m ∷ ms) all = elim (cases_eq (m.number % n) k) [
  | inl same ↦
      ap (read_by k n) (cond-true (kept m) (m ∷ filter kept ms) (filter kept ms) (all m same))
      ∙ ap (λ es. cond (eqb (m.number % n) k) m.entries [] ++ es) (read_kept k n kept ms all)
  | inr other ↦
      let nothing : cond (eqb (m.number % n) k) m.entries [] ≡ [] = cond-false (eqb (m.number % n) k) m.entries [] (ne_eqb (m.number % n) k other) in
      cond_both (kept m) (m ∷ filter kept ms) (filter kept ms) (λ xs. read_by k n xs ≡ read_by k n (m ∷ ms))
      (λ _. ap (λ es. cond (eqb (m.number % n) k) m.entries [] ++ es) (read_kept k n kept ms all))
      (λ _. read_kept k n kept ms all ∙ ap (λ es. es ++ read_by k n ms) (sym nothing))
]

filled_kept : (p : ℕ) (kept : MaintainerState Record → Bool) (ms : List (MaintainerState Record)) → filled p (filter kept ms) ≤ filled p ms
filled_kept p kept [] = omega arith
filled_kept p kept (m ∷ ms) = cond_both (kept m) (m ∷ filter kept ms) (filter kept ms) (λ xs. filled p xs ≤ filled p (m ∷ ms))
    (λ _. omega (arith, filled_kept p kept ms, sum_by-cons (times_filled p) m (filter kept ms), sum_by-cons (times_filled p) m ms))
    (λ _. omega (arith, filled_kept p kept ms, sum_by-cons (times_filled p) m ms))

-- what is told of them is the message of the stage world
pub told_is : (d e k : ℕ) (z : Datacentre) (ms : List (MaintainerState Record)) → AreLent k z ms → told_message d e k z.senders ms z.table ≡ message_of d z k e
told_is d e k z ms lent =
    let same : stock_of ms k z.senders ≡ stock_of z.maintainers k z.senders =
    sym (stock_seen ms k z.senders) ∙ ap (λ (xs : List (MaintainerState Record)). stock_of xs k z.senders) lent.seen ∙ ap stock_of_entries (read_kept k z.senders lent.kept z.maintainers lent.all)
    in
    ap (λ (es : List Stocked). message_to d e z.table (records_in es)) same

-- what holds of all entries holds of those that are lent
All-lent : (P : Slot Record → Type 0) (k : ℕ) (z : Datacentre) (ms : List (MaintainerState Record)) → AreLent k z ms → All (λ m. All P m.entries) z.maintainers → All (λ m. All P m.entries) ms
All-lent P k z ms lent all =
    let Q : MaintainerState Record → Type 0 = λ m. All P m.entries in
    All-seen P ms (subst (All Q) (sym lent.seen) (All-filter lent.kept Q z.maintainers all))

pub may_look : (w : World) (d e k : ℕ) (z : Datacentre) (ms : List (MaintainerState Record)) → StandsAt w d z → e < w.workload.dcs → AreLent k z ms → MayLook d e z.senders ms z.table
may_look w d e k z ms h there lent = record {
  from = omega (arith, h.there, h.knowledge.aware.square.rows);
  to = omega (arith, there, h.knowledge.aware.square.rows);
  some = h.membership.members.ranges.senders.0;
  apart = record {
    first = All-weaker (λ (m : MaintainerState Record). All (IsEntryOf (log_of w d)) m.entries) (λ (m : MaintainerState Record). All (λ (x : Slot Record). 1 ≤ x.lid) m.entries)
        (λ m. All-weaker (IsEntryOf (log_of w d)) (λ (x : Slot Record). 1 ≤ x.lid) (λ x i. i.first) m.entries) ms (All-lent (IsEntryOf (log_of w d)) k z ms lent h.positions.placed.entries);
    once = λ p. omega (arith, filled_seen p ms, ap (filled p) lent.seen, filled_kept p lent.kept z.maintainers, one_at_most (log_of w d) p _ _ (h.positions.placed.once p));
  };
}

pub may_tell : (w : World) (d e k : ℕ) (z : Datacentre) (ms : List (MaintainerState Record)) → IsLawful w → StandsAt w d z → e < w.workload.dcs → AreLent k z ms → MayTell d e k z.senders ms z.table
may_tell w d e k z ms lawful h there lent =
    let log : List Record = log_of w d in
    let P : Stocked → Type 0 = λ x. x.rec.host ≡ d → FitsRecord (length z.table) x.rec in
    let fits : (x : Slot Record) → IsEntryOf log x → P (stocked x) = λ x i _.
    subst (λ n. FitsRecord n x.value) (sym h.knowledge.aware.square.rows) (valid_fits w.workload.dcs x.value (All-at_place (IsValid w.workload.dcs) log (x.lid - 1) x.value (lawful.valid d) i.stands)) in
    record {
      look = may_look w d e k z ms h there lent;
      counts = λ i g. omega (arith, ap (λ t. entry_of t i g) h.knowledge.aware.same, lawful.entries d i g);
      own = All-map (λ (r : Record). r.host ≡ d → FitsRecord (length z.table) r) (λ (x : Stocked). x.rec) (stock_of ms k z.senders)
          (All-sorted P [] (read_by k z.senders ms) (All-nil P) (All-weaker (IsEntryOf log) (λ x. P (stocked x)) fits (read_by k z.senders ms) (All-read_by (IsEntryOf log) k z.senders ms (All-lent (IsEntryOf log) k z ms lent h.positions.placed.entries))));
    }
