-- One pass of telling: a local round of each datacentre, then an exchange.
use Rattle.std.proofs.Common.{◌≡◌, ◌≢◌, ℕ, zero, suc, ◌+◌, ◌-◌, ◌%◌, mod-lt, ◌<◌, ◌≤◌, true, cond, eqb, List, [], ◌∷◌, ◌++◌, length, refl, ap, sym, subst, ◌∙◌, inl, inr, arith, Some, slice_get, append-nil}
use Rattle.std.specs.List.{All, Contains, filter, flat_map}
use Rattle.std.proofs.lemmas.List.Elements.{All-nil, All-append, All-push, All-contains, Contains-append_left, Contains-append_right}
use Rattle.std.proofs.lemmas.Grind.{flat_map-append}
use Rattle.std.proofs.lemmas.Bool.{cases_lt, cond_both, cond-false, ne_eqb, eqb-false}
use Rattle.std.proofs.lemmas.Option.{slice_get_within, same_Some}
use Rattle.causal_deps.specs.declared.record.Record.{Record}
use Rattle.causal_deps.specs.Counts.{entry_of}
use Rattle.causal_deps.specs.Logs.{count_of}
use Rattle.causal_deps.proofs.LogsLemmas.{nth_of_place}
use Rattle.abstract_log.specs.declared.command.Workload.{Workload}
use Rattle.abstract_log.specs.declared.script.Step.{Step}
use Rattle.abstract_log.specs.declared.world.World.{World}
use Rattle.abstract_log.specs.Worlds.{log_of}
use Rattle.maintainer.specs.declared.slot.Slot.{Slot}
use Rattle.maintainer.specs.Maintainers.{MaintainerState, IsEntryOf}
use Rattle.stage_world.specs.Stages.{Datacentre, Stages}
use Rattle.stage_world.specs.StandsFor.{StandsAt, IsSafe, gone_times}
use Rattle.stage_world.specs.MoreTurns.{stocked}
use Rattle.stage_world.specs.Opening.{numbered}
use Rattle.stage_world.specs.Whole.{datacentre_at, nowhere_at}
use Rattle.abstract_log.specs.Turns.{IsStep}
use Rattle.stage_world.specs.Schedules.{after_steps}
use Rattle.stage_world.specs.Settling.{Errand, below, rounds, all_rounds, errands, exchange_turns, telling_rounds}
use Rattle.stage_world.proofs.ListLemmas.{Contains-head}
use Rattle.settling_laws.specs.Rounds.{HasSameMembers, IsRounded, IsStanding, work_at, left_in}
use Rattle.settling_laws.proofs.LocalRound.{IsRoundOf, live_at, round_rounds}
use Rattle.settling_laws.proofs.Answering.{sum_less, round_no_more}
use Rattle.settling_laws.proofs.Rounds.{AreRoundsOf, rounds_are, rounded_at, after_steps-append}
use Rattle.settling_laws.proofs.Behind.{LeadsTo, steps_lead, stands_here}
use Rattle.settling_laws.proofs.Stocks.{some_entry, stock_has}
use Rattle.settling_laws.proofs.Exchange.{IsErrand, IsNext, IsExchanged, exchanged}
use Rattle.settling_laws.proofs.Choosing.{IsMissing}

-- What rounds of all datacentres leave.
pub record AreAllRounded (load : Workload) (z : Stages) (h : IsStanding load z) (new : Stages) (turns : List Step) : Type 0 where
  pub steps : All (IsStep load) turns
  pub leads : LeadsTo load z new h
  pub datacentres : length new.datacentres ≡ length z.datacentres
  pub rounded : (d : ℕ) → d < load.dcs → IsRounded d (datacentre_at new d)
  pub members : (d : ℕ) → d < load.dcs → HasSameMembers (datacentre_at z d) (datacentre_at new d)
  pub no_more : left_in new ≤ left_in z

every : (xs : List ℕ) → filter (λ _. true) xs ≡ xs
every [] = refl
every (x ∷ xs) = ap (λ ys. x ∷ ys) (every xs)

pub dcs_of : (load : Workload) (z : Stages) → IsStanding load z → length z.datacentres ≡ load.dcs
dcs_of load z h = h.stands.size ∙ ap (λ (l : Workload). l.dcs) h.workload

-- they are rounds of all
pub all_of : (load : Workload) (z : Stages) → IsStanding load z → AreRoundsOf load z (λ _. true) (length z.datacentres) (all_rounds z)
all_of load z h = subst (λ ds. AreRoundsOf load z (λ _. true) (length z.datacentres) (rounds z ds)) (every (below (length z.datacentres))) (rounds_are load z h (λ _. true) (length z.datacentres) (omega (arith, dcs_of load z h)))

pub all_round : (load : Workload) (z : Stages) (h : IsStanding load z) → AreAllRounded load z h (after_steps load z (all_rounds z)) (all_rounds z)
all_round load z h =
    let n : ℕ = length z.datacentres in
    let ts : List Step = all_rounds z in
    let new : Stages = after_steps load z ts in
    let are : AreRoundsOf load z (λ _. true) n ts = all_of load z h in
    let round : (d : ℕ) → d < load.dcs → IsRoundOf load d (datacentre_at z d) (rounded_at z d) = λ d within. round_rounds load d (datacentre_at z d) (live_at load d z within h) in
    let at : (d : ℕ) → d < load.dcs → datacentre_at new d ≡ rounded_at z d = λ d within. are.done d (omega (arith, within, dcs_of load z h)) refl in
    record {
      steps = are.steps;
      leads = steps_lead load ts z are.steps h;
      datacentres = are.datacentres;
      rounded = λ d within. subst (IsRounded d) (sym (at d within)) (round d within).rounded;
      members = λ d within. subst (HasSameMembers (datacentre_at z d)) (sym (at d within)) (round d within).round.goes.members;
      no_more = sum_less work_at z.datacentres new.datacentres nowhere_at are.datacentres (λ d inside.
          let within : d < load.dcs = omega (arith, inside, dcs_of load z h) in
          omega (arith, ap work_at (at d within), round_no_more load d (datacentre_at z d) (rounded_at z d) (live_at load d z within h) (round d within).round));
    }

-- all of numbered things, below the number
all_below : {X : Type 0} (P : X → Type 0) (f : ℕ → X) (n : ℕ) → ((i : ℕ) → i < n → P (f i)) → All P (numbered f n)
all_below P f zero each = All-nil P
all_below P f (suc n) each = All-push P (numbered f n) (f n) (all_below P f n (λ i low. each i (omega arith))) (each n (omega arith))

all_pieces : {X : Type 0} (P : X → Type 0) (g : ℕ → List X) (n : ℕ) → ((i : ℕ) → i < n → All P (g i)) → All P (flat_map g (below n))
all_pieces P g zero each = All-nil P
all_pieces P g (suc n) each = subst (All P) (sym (flat_map-append g (below n) (n ∷ []) ∙ ap (λ ts. flat_map g (below n) ++ ts) (append-nil (g n))))
    (All-append P (flat_map g (below n)) (g n) (all_pieces P g n (λ i low. each i (omega arith))) (each n (omega arith)))

-- and one of them
one_below : {X : Type 0} (f : ℕ → X) (n i : ℕ) → i < n → Contains (numbered f n) (f i)
one_below f zero i low = absurd (omega (arith, low))
one_below f (suc n) i low = elim (cases_lt i n) [
  | inl before ↦ Contains-append_left (numbered f n) (f n ∷ []) (f i) (one_below f n i before)
  | inr last ↦ let same : n ≡ i = omega (arith, low, last) in Contains-append_right (numbered f n) (f n ∷ []) (f i) (subst (λ k. Contains (f n ∷ []) (f k)) same (Contains-head (f n) []))
]

in_piece : {X : Type 0} (g : ℕ → List X) (n i : ℕ) (x : X) → i < n → Contains (g i) x → Contains (flat_map g (below n)) x
in_piece g zero i x low has = absurd (omega (arith, low))
in_piece g (suc n) i x low has =
    subst (λ ts. Contains ts x) (sym (flat_map-append g (below n) (n ∷ []) ∙ ap (λ ts. flat_map g (below n) ++ ts) (append-nil (g n))))
    (elim (cases_lt i n) [
      | inl before ↦ Contains-append_left (flat_map g (below n)) (g n) x (in_piece g n i x before has)
      | inr last ↦ let same : i ≡ n = omega (arith, low, last) in Contains-append_right (flat_map g (below n)) (g n) x (subst (λ k. Contains (g k) x) same has)
    ])

module _ (load : Workload) (z : Stages) (h : IsStanding load z) where
  abbrev n : ℕ
  n = length z.datacentres

  abbrev of_two : ℕ → ℕ → List Errand
  of_two d e = cond (eqb d e) [] (numbered (λ k. record { from = d; to = e; sender = k }) (datacentre_at z d).senders)

  -- all errands are such
  pub all_errands : All (IsErrand load z) (errands z)
  all_errands = all_pieces (IsErrand load z) (λ d. flat_map (of_two d) (below n)) n (λ d in_d. all_pieces (IsErrand load z) (of_two d) n (λ e in_e.
      cond_both (eqb d e) [] (numbered (λ k. record { from = d; to = e; sender = k }) (datacentre_at z d).senders) (All (IsErrand load z)) (λ _. All-nil (IsErrand load z))
      (λ apart. all_below (IsErrand load z) (λ k. record { from = d; to = e; sender = k }) (datacentre_at z d).senders
      (λ k in_k. record { from = omega (arith, in_d, dcs_of load z h); to = omega (arith, in_e, dcs_of load z h); apart = eqb-false d e apart; sender = in_k }))))

  -- and each is there
  pub errand_there : (d e k : ℕ) → d < load.dcs → e < load.dcs → d ≢ e → k < (datacentre_at z d).senders → Contains (errands z) (record { from = d; to = e; sender = k })
  errand_there d e k in_d in_e apart in_k =
      let x : Errand = record { from = d; to = e; sender = k } in
      in_piece (λ i. flat_map (of_two i) (below n)) n d x (omega (arith, in_d, dcs_of load z h)) (in_piece (of_two d) n e x (omega (arith, in_e, dcs_of load z h))
      (subst (λ xs. Contains xs x) (sym (cond-false (eqb d e) [] (numbered (λ i. record { from = d; to = e; sender = i }) (datacentre_at z d).senders) (ne_eqb d e apart)))
      (one_below (λ i. record { from = d; to = e; sender = i }) (datacentre_at z d).senders k in_k)))

-- What a pass of telling leaves: the stages after the rounds, and after the exchange.
pub record IsTelling (load : Workload) (z : Stages) (h : IsStanding load z) (new : Stages) (turns : List Step) : Type 0 where
  pub steps : All (IsStep load) turns
  pub mid : Stages
  pub rounded : AreAllRounded load z h mid (all_rounds z)
  pub swapped : IsExchanged load mid rounded.leads.standing (errands mid) new (exchange_turns load mid)

pub telling : (load : Workload) (z : Stages) (h : IsStanding load z) → IsTelling load z h (after_steps load z (telling_rounds load z)) (telling_rounds load z)
telling load z h =
    let mid : Stages = after_steps load z (all_rounds z) in
    let rounded : AreAllRounded load z h mid (all_rounds z) = all_round load z h in
    let hm : IsStanding load mid = rounded.leads.standing in
    let swapped : IsExchanged load mid hm (errands mid) (after_steps load mid (exchange_turns load mid)) (exchange_turns load mid) = exchanged load (errands mid) mid hm (all_errands load mid hm) in
    record {
      steps = All-append (IsStep load) (all_rounds z) (exchange_turns load mid) rounded.steps swapped.steps;
      mid = mid;
      rounded = rounded;
      swapped = subst (λ s. IsExchanged load mid hm (errands mid) s (exchange_turns load mid)) (sym (after_steps-append load (all_rounds z) (exchange_turns load mid) z)) swapped;
    }

-- The record that a log lacks is the next of one of its host's senders, where the host's table knows what the other has.
pub sender_of : (load : Workload) (z : Stages) (h : IsStanding load z) (e : ℕ) (m : IsMissing h.world e) → e < load.dcs → ((d : ℕ) → d < load.dcs → IsRounded d (datacentre_at z d))
    → count_of (log_of h.world e) m.rec.host ≤ entry_of (datacentre_at z m.rec.host).table e m.rec.host
    → (x : Errand) × Contains (errands z) x × (x.to ≡ e) × IsNext z x m.rec
sender_of load z h e m in_e rounded knows =
    let w : World = h.world in
    let r : Record = m.rec in
    let d : ℕ = r.host in
    let in_d : d < load.dcs = omega (arith, m.host, ap (λ (l : Workload). l.dcs) h.workload) in
    let v : Datacentre = datacentre_at z d in
    let stands : StandsAt w d v = stands_here load z d in_d h in
    let place = nth_of_place (log_of w d) d r.toid r m.has in
    let p : ℕ = place.0 + 1 in
    let back : p - 1 ≡ place.0 = omega arith in
    let at_p : slice_get (log_of w d) (p - 1) ≡ Some r = ap (slice_get (log_of w d)) back ∙ place.1 in
    let low : p ≤ v.token.last = omega (arith, slice_get_within (log_of w d) place.0 r place.1, stands.positions.counted.whole) in
    let filled = (rounded d in_d).placed.filled p (omega arith) low in
    let none : gone_times p v.maintainers ≡ 0 = elim (cases_lt 0 (gone_times p v.maintainers)) [
      | inr zeroth ↦ omega (arith, zeroth)
      | inl some ↦
          let safe : IsSafe w.workload.dcs (log_of w d) v.table v.floor p = stands.knowledge.safe p (omega (arith, some, stands.positions.placed.collected p)) in
          let same : safe.rec ≡ r = same_Some safe.rec r (sym safe.stands ∙ at_p) in
          let known : safe.rec.toid ≤ entry_of v.table e safe.rec.host = safe.known e (omega (arith, in_e, ap (λ (l : Workload). l.dcs) h.workload)) in
          let of_r : r.toid ≤ entry_of v.table e d = subst (λ (q : Record). q.toid ≤ entry_of v.table e q.host) same known in
          absurd (omega (arith, of_r, ap (λ t. entry_of t e d) stands.knowledge.aware.same, h.lawful.tables d e d, h.lawful.own_rows e d, m.next))
    ] in
    let entry = some_entry p v.maintainers filled none in
    let ms : MaintainerState Record = entry.0 in
    let slot : Slot Record = entry.2.0 in
    let k : ℕ = ms.number % v.senders in
    let in_k : k < v.senders = mod-lt ms.number (omega (arith, stands.membership.members.ranges.senders.0)) in
    let is_entry : IsEntryOf (log_of w d) slot = All-contains (IsEntryOf (log_of w d)) ms.entries slot (All-contains (λ (x : MaintainerState Record). All (IsEntryOf (log_of w d)) x.entries) v.maintainers ms stands.positions.placed.entries entry.1) entry.2.1 in
    let its : slot.value ≡ r = same_Some slot.value r (sym is_entry.stands ∙ ap (λ q. slice_get (log_of w d) (q - 1)) entry.2.2 ∙ at_p) in (
      record { from = d; to = e; sender = k },
      errand_there load z h d e k in_d in_e m.apart in_k,
      refl,
      record {
        host = refl;
        known = omega (arith, m.next, knows);
        entry = stocked slot;
        stocked = stock_has v.maintainers v.senders ms slot entry.1 entry.2.1;
        rec = its;
      },
    )
