-- An exchange: every datacentre tells every other its table, and the next of its own records that the other lacks.
use Rattle.std.proofs.Common.{◌≡◌, ◌≢◌, ◌⊎◌, ℕ, ◌+◌, ◌-◌, ◌<◌, ◌≤◌, true, false, eqb, ltb, List, [], ◌∷◌, ◌++◌, length, take, ap, sym, subst, ◌∙◌, inl, inr, arith, Some, slice_get}
use Rattle.std.specs.List.{All, Contains}
use Rattle.std.proofs.lemmas.List.Elements.{All-nil, All-head, All-tail, All-append, All-contains, All-weaker}
use Rattle.std.proofs.lemmas.Option.{same_Some}
use Rattle.std.proofs.lemmas.Bool.{cases_lt, cond_both, and_parts, and_from, eqb-true, eq-eqb, ltb-true, lt-ltb, or_parts, true≢false}
use Rattle.causal_deps.specs.declared.record.Record.{Record}
use Rattle.causal_deps.specs.Counts.{entry_of}
use Rattle.causal_deps.specs.Logs.{count_of, IsCausal}
use Rattle.causal_deps.proofs.LogsLemmas.{count_of-take, count_of-take_more}
use Rattle.abstract_log.specs.declared.command.Workload.{Workload}
use Rattle.abstract_log.specs.declared.script.Step.{Step}
use Rattle.abstract_log.specs.declared.world.World.{World}
use Rattle.abstract_log.specs.Worlds.{log_of}
use Rattle.maintainer.specs.Maintainers.{IsEntryOf}
use Rattle.record_codec.specs.declared.message.Message.{Message}
use Rattle.sender_receiver.specs.Choosing.{is_new}
use Rattle.sender_receiver.specs.Stocks.{Stocked}
use Rattle.stage_world.specs.Stages.{Datacentre, Stages}
use Rattle.stage_world.specs.StandsFor.{StandsAt}
use Rattle.stage_world.specs.MoreTurns.{message_of, names_of, stock_of}
use Rattle.stage_world.specs.Whole.{datacentre_at}
use Rattle.abstract_log.specs.Turns.{IsStep}
use Rattle.stage_world.specs.Schedules.{after_steps}
use Rattle.stage_world.specs.Settling.{Errand, has_errand, sent_and_delivered, errand_turns, exchange}
use Rattle.stage_world.proofs.ListLemmas.{Contains-cases, Contains-head, Contains-tail}
use Rattle.settling_laws.specs.Rounds.{IsStanding}
use Rattle.settling_laws.proofs.Rounds.{after_steps-append}
use Rattle.settling_laws.proofs.Behind.{IsDueAt, behind_itself, behind_both, LeadsTo, stands_here}
use Rattle.settling_laws.proofs.Errands.{AreBeside, IsBeside, all_beside_both, all_beside_themselves, IsErrandDone, errand_runs}
use Rattle.stage_world.proofs.StockLemmas.{All-stock}
use Rattle.settling_laws.proofs.Stocks.{first_told, stock_rises}

-- an errand between two datacentres, by a sender that is there
pub record IsErrand (load : Workload) (z : Stages) (x : Errand) : Type 0 where
  pub from : x.from < load.dcs
  pub to : x.to < load.dcs
  pub apart : x.from ≢ x.to
  pub sender : x.sender < (datacentre_at z x.from).senders

-- q is the next record that the errand's sender has to tell
pub record IsNext (z : Stages) (x : Errand) (q : Record) : Type 0 where
  pub host : q.host ≡ x.from
  pub known : q.toid ≤ entry_of (datacentre_at z x.from).table x.to x.from + 1
  pub entry : Stocked
  pub stocked : Contains (stock_of (datacentre_at z x.from).maintainers x.sender (datacentre_at z x.from).senders) entry
  pub rec : entry.rec ≡ q

pub errand_stays : (load : Workload) (z y : Stages) (x : Errand) → ((g : ℕ) → IsBeside (datacentre_at z g) (datacentre_at y g)) → IsErrand load z x → IsErrand load y x
errand_stays load z y x beside h = record { from = h.from; to = h.to; apart = h.apart; sender = omega (arith, h.sender, ap (λ (v : Datacentre). v.senders) (beside x.from).rest) }

next_stays : (z y : Stages) (x : Errand) (q : Record) → ((g : ℕ) → IsBeside (datacentre_at z g) (datacentre_at y g)) → IsNext z x q → IsNext y x q
next_stays z y x q beside h = record {
  host = h.host;
  known = omega (arith, h.known, (beside x.from).table x.to x.from);
  entry = h.entry;
  stocked = subst (λ (v : Datacentre). Contains (stock_of v.maintainers x.sender v.senders) h.entry) (sym (beside x.from).rest) h.stocked;
  rec = h.rec;
}

-- numbers of a host rise along a log
numbers_rise : (log : List Record) (i j : ℕ) (a b : Record) → IsCausal log → slice_get log i ≡ Some a → slice_get log j ≡ Some b → a.host ≡ b.host → i < j → a.toid < b.toid
numbers_rise log i j a b causal at_i at_j same before =
    omega (arith, (causal.in_order i a at_i).next, (causal.in_order j b at_j).next, ap (count_of (take j log)) same, count_of-take_more log i a at_i, count_of-take log (i + 1) j a.host (omega arith))

-- names of records
named_in : (rs : List Record) (q : Record) → Contains rs q → Contains (names_of rs) (q.host, q.toid)
named_in [] q has = absurd (omega (arith, has.1))
named_in (r ∷ rs) q has = elim (Contains-cases r q rs has) [
  | inl same ↦ subst (λ v. Contains (names_of (v ∷ rs)) (q.host, q.toid)) (sym same) (Contains-head (q.host, q.toid) (names_of rs))
  | inr later ↦ Contains-tail (r.host, r.toid) (q.host, q.toid) (names_of rs) (named_in rs q later)
]

module _ (load : Workload) (z : Stages) (h : IsStanding load z) (x : Errand) (good : IsErrand load z x) where
  abbrev w : World
  w = h.world

  abbrev v : Datacentre
  v = datacentre_at z x.from

  abbrev m : Message
  m = message_of x.from v x.sender x.to

  abbrev known : ℕ
  known = entry_of v.table x.to x.from

  stands : StandsAt w x.from v
  stands = stands_here load z x.from good.from h

  -- the table knows no more than the other has
  known_most : known ≤ count_of (log_of w x.to) x.from
  known_most = omega (arith, ap (λ t. entry_of t x.to x.from) stands.knowledge.aware.same, h.lawful.tables x.from x.to x.from, h.lawful.own_rows x.to x.from)

  abbrev IsStock : Stocked → Type 0
  IsStock y = IsEntryOf (log_of w x.from) (record { lid = y.lid; value = y.rec })

  all_stock : All IsStock (stock_of v.maintainers x.sender v.senders)
  all_stock = All-stock IsStock x.sender v.senders v.maintainers stands.positions.placed.entries

  -- the next record is told, or it is there already
  next_told : (q : Record) → IsNext z x q → (q.toid ≤ count_of (log_of w x.to) x.from) ⊎ Contains m.records q
  next_told q next = elim (cases_lt (count_of (log_of w x.to) x.from) q.toid) [
    | inr there ↦ inl there
    | inl lacks ↦
        let y : Stocked = next.entry in
        let stock : List Stocked = stock_of v.maintainers x.sender v.senders in
        let at_y : IsStock y = All-contains IsStock stock y all_stock next.stocked in
        let new : is_new x.from known y.rec ≡ true = and_from (eqb y.rec.host x.from) (ltb known y.rec.toid) (eq-eqb y.rec.host x.from (ap (λ (r : Record). r.host) next.rec ∙ next.host))
        (lt-ltb known y.rec.toid (omega (arith, ap (λ (r : Record). r.toid) next.rec, lacks, known_most))) in
        let only : (u : Stocked) → Contains stock u → u.lid ≤ y.lid → is_new x.from known u.rec ≡ true → u.rec ≡ y.rec = λ u has low is.
        let at_u : IsStock u = All-contains IsStock stock u all_stock has in
        let parts = and_parts (eqb u.rec.host x.from) (ltb known u.rec.toid) is in
        let same_host : u.rec.host ≡ y.rec.host = eqb-true u.rec.host x.from parts.0 ∙ sym (ap (λ (r : Record). r.host) next.rec ∙ next.host) in
        elim (cases_lt u.lid y.lid) [
          | inr same_place ↦
              let place : u.lid - 1 ≡ y.lid - 1 = omega (arith, low, same_place) in
              same_Some u.rec y.rec (sym at_u.stands ∙ ap (slice_get (log_of w x.from)) place ∙ at_y.stands)
          | inl before ↦ absurd (omega (
            arith,
            numbers_rise (log_of w x.from) (u.lid - 1) (y.lid - 1) u.rec y.rec (h.lawful.causal x.from) at_u.stands at_y.stands same_host (omega (arith, before, at_u.first)),
            ltb-true known u.rec.toid parts.1,
            ap (λ (r : Record). r.toid) next.rec,
            next.known,
          ))
        ] in
        inr (subst (Contains m.records) next.rec (first_told x.from known stock y (stock_rises v.maintainers x.sender v.senders) next.stocked new only))
  ]

  -- What one errand leaves, be it due or not.
  pub record IsRun (new : Stages) (turns : List Step) : Type 0 where
    pub steps : All (IsStep load) turns
    pub leads : LeadsTo load z new h
    pub beside : AreBeside z new
    pub told : x.sender ≡ 0 → (k g : ℕ) → entry_of v.table k g ≤ entry_of (datacentre_at new x.to).table k g
    pub due : (q : Record) → IsNext z x q → IsDueAt leads.standing.world x.to q.host q.toid

  due_run : IsRun (after_steps load z (sent_and_delivered load z x)) (sent_and_delivered load z x)
  due_run =
      let both = errand_runs load z h x.from x.sender x.to good.from good.to good.apart good.sender in
      let done : IsErrandDone load z h x.from x.to m (after_steps load z (sent_and_delivered load z x)) = both.1 in
      record {
        steps = both.0;
        leads = done.leads;
        beside = done.beside;
        told = λ _. done.told;
        due = λ q next. elim (next_told q next) [
          | inl there ↦ done.leads.behind.due x.to q.host q.toid (inr (subst (λ i. q.toid ≤ count_of (log_of w x.to) i) (sym next.host) there))
          | inr told ↦ done.due (q.host, q.toid) (named_in m.records q told)
        ];
      }

  idle_run : has_errand z x ≡ false → IsRun z []
  idle_run idle =
      let parts = or_parts (eqb x.sender 0) (ltb 0 (length m.records)) idle in
      record {
        steps = All-nil (IsStep load);
        leads = record { standing = h; behind = behind_itself w };
        beside = all_beside_themselves z;
        told = λ first. absurd (true≢false (sym (eq-eqb x.sender 0 first) ∙ parts.0));
        due = λ q next. elim (next_told q next) [
          | inl there ↦ inr (subst (λ i. q.toid ≤ count_of (log_of w x.to) i) (sym next.host) there)
          | inr told ↦ absurd (true≢false (sym (lt-ltb 0 (length m.records) (omega (arith, told.1))) ∙ parts.1))
        ];
      }

  pub errand_run : IsRun (after_steps load z (errand_turns load z x)) (errand_turns load z x)
  errand_run = cond_both (has_errand z x) (sent_and_delivered load z x) [] (λ ts. IsRun (after_steps load z ts) ts) (λ _. due_run) idle_run

-- What the errands of a list leave, one after another.
pub record IsExchanged (load : Workload) (z : Stages) (h : IsStanding load z) (xs : List Errand) (new : Stages) (turns : List Step) : Type 0 where
  pub steps : All (IsStep load) turns
  pub leads : LeadsTo load z new h
  pub beside : AreBeside z new
  pub told : (x : Errand) → Contains xs x → x.sender ≡ 0 → (k g : ℕ) → entry_of (datacentre_at z x.from).table k g ≤ entry_of (datacentre_at new x.to).table k g
  pub due : (x : Errand) (q : Record) → Contains xs x → IsNext z x q → IsDueAt leads.standing.world x.to q.host q.toid

pub exchanged : (load : Workload) (xs : List Errand) (z : Stages) (h : IsStanding load z) → All (IsErrand load z) xs → IsExchanged load z h xs (after_steps load z (exchange load z xs)) (exchange load z xs)
exchanged load [] z h all = record {
  steps = All-nil (IsStep load);
  leads = record { standing = h; behind = behind_itself h.world };
  beside = all_beside_themselves z;
  told = λ x has. absurd (omega (arith, has.1));
  due = λ x q has. absurd (omega (arith, has.1));
}
exchanged load (x ∷ xs) z h all =
    let ts : List Step = errand_turns load z x in
    let y : Stages = after_steps load z ts in
    let first = errand_run load z h x (All-head (IsErrand load z) x xs all) in
    let rest : IsExchanged load y first.leads.standing xs (after_steps load y (exchange load y xs)) (exchange load y xs) =
    exchanged load xs y first.leads.standing (All-weaker (IsErrand load z) (IsErrand load y) (λ u. errand_stays load z y u first.beside.each) xs (All-tail (IsErrand load z) x xs all)) in
    let end : Stages = after_steps load y (exchange load y xs) in
    let is : after_steps load z (ts ++ exchange load y xs) ≡ end = after_steps-append load ts (exchange load y xs) z in
    subst (λ s. IsExchanged load z h (x ∷ xs) s (ts ++ exchange load y xs)) (sym is) (record {
      steps = All-append (IsStep load) ts (exchange load y xs) first.steps rest.steps;
      leads = record { standing = rest.leads.standing; behind = behind_both h.world first.leads.standing.world rest.leads.standing.world first.leads.behind rest.leads.behind };
      beside = all_beside_both z y end first.beside rest.beside;
      told = λ u has zeroth k g. elim (Contains-cases x u xs has) [
        | inl same ↦ omega (
          arith,
          subst (λ (e : Errand). entry_of (datacentre_at z e.from).table k g ≤ entry_of (datacentre_at y e.to).table k g) same (first.told (ap (λ (e : Errand). e.sender) same ∙ zeroth) k g),
          (rest.beside.each u.to).table k g,
        )
        | inr later ↦ omega (arith, (first.beside.each u.from).table k g, rest.told u later zeroth k g)
      ];
      due = λ u q has next. elim (Contains-cases x u xs has) [
        | inl same ↦ rest.leads.behind.due u.to q.host q.toid (subst (λ (e : Errand). IsDueAt first.leads.standing.world e.to q.host q.toid) same (first.due q (subst (λ e. IsNext z e q) (sym same) next)))
        | inr later ↦ rest.due u q later (next_stays z y u q first.beside.each next)
      ];
    })
