-- Worlds later than others: what is known, logged and awaited there.
use Rattle.std.proofs.Common.{◌≡◌, ◌⊎◌, ℕ, ◌+◌, ◌<◌, ◌≤◌, not, ◌&&◌, eqb, List, [], ◌∷◌, ◌++◌, length, refl, ap, sym, subst, ◌∙◌, inl, inr, arith, Some, option_to_list, append_assoc, append-nil, length-append}
use Rattle.std.specs.List.{All, Contains, filter}
use Rattle.std.proofs.lemmas.List.{get_or-set_same}
use Rattle.std.proofs.lemmas.List.Elements.{All-head, All-tail}
use Rattle.std.proofs.lemmas.Bool.{cases_Bool, and_parts, eqb-true}
use Rattle.causal_deps.specs.declared.record.Record.{Record}
use Rattle.causal_deps.specs.Counts.{IsWithin}
use Rattle.causal_deps.specs.Logs.{count_of, nth_of, IsReady}
use Rattle.causal_deps.proofs.Lists.{get_or-set_cases}
use Rattle.causal_deps.proofs.LogsLemmas.{nth_of_is, nth_of-push, count_of-push_own, records_of-append}
use Rattle.abstract_log.specs.declared.command.Workload.{Workload}
use Rattle.abstract_log.specs.declared.event.Event.{Event}
use Rattle.abstract_log.specs.declared.event.Event.TheVariants.{Submit, Append, Receive, Add, Learn, Reply, Collect}
use Rattle.abstract_log.specs.declared.script.Step.{Step}
use Rattle.abstract_log.specs.declared.world.World.{World}
use Rattle.abstract_log.specs.Runs.{CanAllHappen, after_all}
use Rattle.abstract_log.specs.Steps.{CanHappen, after, names_with, names_without}
use Rattle.abstract_log.specs.Worlds.{log_of, table_of, pending_of, record_of}
use Rattle.abstract_log.proofs.Writing.{IsSomeAnd_is}
use Rattle.log_laws.specs.Lawful.{IsLawful}
use Rattle.log_laws.proofs.Growth.{Grows, grows}
use Rattle.stage_world.specs.Stages.{Stages}
use Rattle.stage_world.specs.StandsFor.{StandsAt}
use Rattle.stage_world.specs.Whole.{datacentre_at}
use Rattle.abstract_log.specs.Turns.{IsStep}
use Rattle.stage_world.specs.Schedules.{IsKept, step_of, after_steps}
use Rattle.stage_world.proofs.Frames.{grows as tables_grow}
use Rattle.stage_world.proofs.ReceiveTurn.{names_keep}
use Rattle.stage_world.proofs.ListLemmas.{Contains-filter}
use Rattle.stage_world.proofs.AllTurns.{step_kept}
use Rattle.settling_laws.specs.Rounds.{IsStanding}
use Rattle.log_laws.proofs.LawfulAfter.{lawful_after}
use Rattle.log_laws.proofs.LimitedRuns.{workload_stays}

-- number t of host h is awaited at g or in its log
abbrev pub IsDueAt : World → ℕ → ℕ → ℕ → Type 0
IsDueAt w g h t = Contains (pending_of w g) (h, t) ⊎ (t ≤ count_of (log_of w g) h)

-- the second log is the first with more records
abbrev pub Extends : List Record → List Record → Type 0
Extends xs ys = (more : List Record) × (ys ≡ xs ++ more)

-- From w to v nothing that is known, logged or awaited was lost.
pub record IsBehind (w v : World) : Type 0 where
  pub tables : (g : ℕ) → IsWithin (table_of w g) (table_of v g)
  pub logs : (g : ℕ) → Extends (log_of w g) (log_of v g)
  pub due : (g h t : ℕ) → IsDueAt w g h t → IsDueAt v g h t

pub extends_counts : (xs ys : List Record) (h : ℕ) → Extends xs ys → count_of xs h ≤ count_of ys h
extends_counts xs ys h e = omega (arith, ap (λ l. count_of l h) e.1, ap length (records_of-append h xs e.0), length-append (filter (λ (r : Record). eqb r.host h) xs) (filter (λ (r : Record). eqb r.host h) e.0))

-- a log of which a count rose is longer
pub extends_longer : (xs ys : List Record) (h : ℕ) → Extends xs ys → count_of xs h < count_of ys h → length xs < length ys
extends_longer xs ys h e more = at e.0 e.1
  where
    at : (zs : List Record) → ys ≡ xs ++ zs → length xs < length ys
    at [] is = absurd (omega (arith, more, ap (λ l. count_of l h) (is ∙ append-nil xs)))
    at (z ∷ zs) is = omega (arith, ap length is, length-append xs (z ∷ zs))

-- a log that is no longer has the same counts
pub extends_same : (xs ys : List Record) (h : ℕ) → Extends xs ys → length ys ≤ length xs → count_of ys h ≡ count_of xs h
extends_same xs ys h e short = at e.0 e.1
  where
    at : (zs : List Record) → ys ≡ xs ++ zs → count_of ys h ≡ count_of xs h
    at [] is = ap (λ l. count_of l h) (is ∙ append-nil xs)
    at (z ∷ zs) is = absurd (omega (arith, short, ap length is, length-append xs (z ∷ zs)))

pub behind_itself : (w : World) → IsBehind w w
behind_itself w = record { tables = λ g k h. omega arith; logs = λ g. ([], sym (append-nil (log_of w g))); due = λ g h t is. is }

pub behind_both : (u v w : World) → IsBehind u v → IsBehind v w → IsBehind u w
behind_both u v w a b = record {
  tables = λ g k h. omega (arith, a.tables g k h, b.tables g k h);
  logs = λ g. ((a.logs g).0 ++ (b.logs g).0, (b.logs g).1 ∙ ap (λ l. l ++ (b.logs g).0) (a.logs g).1 ∙ append_assoc (log_of u g) (a.logs g).0 (b.logs g).0);
  due = λ g h t is. b.due g h t (a.due g h t is);
}

-- logs after an event
logs_after : (w : World) (ev : Event) (g : ℕ) → Grows w ev g → Extends (log_of w g) (log_of (after w ev) g)
logs_after w ev g (inl same) = ([], same ∙ sym (append-nil (log_of w g)))
logs_after w ev g (inr (r, gains)) = (r ∷ [], gains.last)

-- where the names that wait stay, what is due is
due_by : (w v : World) (g h t : ℕ) → (Contains (pending_of w g) (h, t) → IsDueAt v g h t) → Extends (log_of w g) (log_of v g) → IsDueAt w g h t → IsDueAt v g h t
due_by w v g h t waits log (inl pending) = waits pending
due_by w v g h t waits log (inr known) = inr (omega (arith, known, extends_counts (log_of w g) (log_of v g) h log))

-- an Add takes a name that is then in the log
added_due : (w : World) (d lid host number g h t : ℕ) → IsLawful w → CanHappen w (Add d lid host number) → Contains (pending_of w g) (h, t) → IsDueAt (after w (Add d lid host number)) g h t
added_due w d lid host number g h t lawful can waits = elim (get_or-set_cases w.pending d g (names_without host number (pending_of w d)) []) [
  | inr same ↦ inl (subst (λ xs. Contains xs (h, t)) (sym same) waits)
  | inl here ↦ elim (cases_Bool (eqb h host && eqb t number)) [
    | inr other ↦ inl (subst (λ xs. Contains xs (h, t)) (sym here.2)
        (Contains-filter (λ (n : ℕ × ℕ). not (eqb n.0 host && eqb n.1 number)) (pending_of w d) (h, t) (subst (λ j. Contains (pending_of w j) (h, t)) here.0 waits) (ap not other)))
    | inl named ↦
        let is = and_parts (eqb h host) (eqb t number) named in
        let new = IsSomeAnd_is (record_of w host number) (IsReady (log_of w d)) can.1.1.1.0 in
        let name = nth_of_is (log_of w host) host number new.0 (lawful.causal host) new.1 in
        let in_logs : d < length w.logs = omega (arith, can.0, lawful.shape.logs) in
        let log : log_of (after w (Add d lid host number)) d ≡ log_of w d ++ new.0 ∷ [] = get_or-set_same w.logs d (log_of w d ++ option_to_list (record_of w host number)) [] in_logs ∙ ap (λ o. log_of w d ++ option_to_list o) new.1 in
        let counted : count_of (log_of (after w (Add d lid host number)) d) new.0.host ≡ count_of (log_of w d) new.0.host + 1 = ap (λ l. count_of l new.0.host) log ∙ count_of-push_own (log_of w d) new.0 in
        let all : new.0.toid ≤ count_of (log_of (after w (Add d lid host number)) d) new.0.host = omega (arith, counted, new.2.next) in
        let by_host : new.0.host ≡ h = name.0 ∙ sym (eqb-true h host is.0) in
        let by_toid : new.0.toid ≡ t = name.1 ∙ sym (eqb-true t number is.1) in
        let at_d : t ≤ count_of (log_of (after w (Add d lid host number)) d) h = subst (λ i. t ≤ count_of (log_of (after w (Add d lid host number)) d) i) by_host (omega (arith, all, by_toid)) in
        inr (subst (λ j. t ≤ count_of (log_of (after w (Add d lid host number)) j) h) (sym here.0) at_d)
  ]
]

-- what waits after an event, or is in the log by then
waits_after : (w : World) (ev : Event) (g h t : ℕ) → IsLawful w → CanHappen w ev → Contains (pending_of w g) (h, t) → IsDueAt (after w ev) g h t
waits_after w (Submit s k) g h t lawful can waits = inl waits
waits_after w (Append d s k lid toid) g h t lawful can waits = inl waits
waits_after w (Receive d e table names) g h t lawful can waits = elim (get_or-set_cases w.pending d g (names_with (log_of w d) (pending_of w d) names) []) [
  | inr same ↦ inl (subst (λ xs. Contains xs (h, t)) (sym same) waits)
  | inl here ↦ inl (subst (λ xs. Contains xs (h, t)) (sym here.2) (names_keep (log_of w d) (pending_of w d) names (h, t) (subst (λ j. Contains (pending_of w j) (h, t)) here.0 waits)))
]
waits_after w (Add d lid host number) g h t lawful can waits = added_due w d lid host number g h t lawful can waits
waits_after w (Learn d row) g h t lawful can waits = inl waits
waits_after w (Reply d s k at answer) g h t lawful can waits = inl waits
waits_after w (Collect d p) g h t lawful can waits = inl waits

pub event_behind : (w : World) (ev : Event) → IsLawful w → CanHappen w ev → IsBehind w (after w ev)
event_behind w ev lawful can = record {
  tables = (tables_grow w ev).tables;
  logs = λ g. logs_after w ev g (grows w ev g lawful.causal can);
  due = λ g h t. due_by w (after w ev) g h t (waits_after w ev g h t lawful can) (logs_after w ev g (grows w ev g lawful.causal can));
}

pub events_behind : (es : List Event) (w : World) → IsLawful w → CanAllHappen w es → IsBehind w (after_all w es)
events_behind [] w lawful can = behind_itself w
events_behind (ev ∷ es) w lawful can = behind_both w (after w ev) (after_all (after w ev) es) (event_behind w ev lawful can.0) (events_behind es (after w ev) (lawful_after w (ev ∷ []) lawful (can.0, tt)) can.1)

-- The stages go on to others, and the world that these stand for is later.
pub record LeadsTo (load : Workload) (z new : Stages) (h : IsStanding load z) : Type 0 where
  pub standing : IsStanding load new
  pub behind : IsBehind h.world standing.world

pub leads_nowhere : (load : Workload) (z : Stages) (h : IsStanding load z) → LeadsTo load z z h
leads_nowhere load z h = record { standing = h; behind = behind_itself h.world }

pub leads_both : (load : Workload) (x y z : Stages) (h : IsStanding load x) (a : LeadsTo load x y h) → LeadsTo load y z a.standing → LeadsTo load x z h
leads_both load x y z h a b = record { standing = b.standing; behind = behind_both h.world a.standing.world b.standing.world a.behind b.behind }

-- the same, by these events
pub record LeadsBy (load : Workload) (z new : Stages) (h : IsStanding load z) (es : List Event) : Type 0 where
  pub standing : IsStanding load new
  pub world : standing.world ≡ after_all h.world es
  pub behind : IsBehind h.world standing.world

pub step_leads_by : (load : Workload) (z : Stages) (t : Step) → IsStep load t → (h : IsStanding load z) → LeadsBy load z (step_of load z t).after h (step_of load z t).events
step_leads_by load z t good h =
    let w : World = h.world in
    let kept : IsKept w (step_of load z t) = subst (λ l. IsKept w (step_of l z t)) h.workload (step_kept w z t h.lawful h.stands (subst (λ l. IsStep l t) (sym h.workload) good)) in
    record {
      standing = record {
        world = after_all w (step_of load z t).events;
        workload = workload_stays w (step_of load z t).events ∙ h.workload;
        lawful = lawful_after w (step_of load z t).events h.lawful kept.can;
        stands = kept.stands;
      };
      world = refl;
      behind = events_behind (step_of load z t).events w h.lawful kept.can;
    }

pub step_leads : (load : Workload) (z : Stages) (t : Step) → IsStep load t → (h : IsStanding load z) → LeadsTo load z (step_of load z t).after h
step_leads load z t good h =
    let by : LeadsBy load z (step_of load z t).after h (step_of load z t).events = step_leads_by load z t good h in
    record { standing = by.standing; behind = by.behind }

pub steps_lead : (load : Workload) (ts : List Step) (z : Stages) → All (IsStep load) ts → (h : IsStanding load z) → LeadsTo load z (after_steps load z ts) h
steps_lead load [] z good h = leads_nowhere load z h
steps_lead load (t ∷ ts) z good h =
    let first : LeadsTo load z (step_of load z t).after h = step_leads load z t (All-head (IsStep load) t ts good) h in
    leads_both load z (step_of load z t).after (after_steps load (step_of load z t).after ts) h first (steps_lead load ts (step_of load z t).after (All-tail (IsStep load) t ts good) first.standing)

-- each datacentre of them
pub stands_here : (load : Workload) (z : Stages) (d : ℕ) → d < load.dcs → (h : IsStanding load z) → StandsAt h.world d (datacentre_at z d)
stands_here load z d within h = h.stands.each d (omega (arith, within, ap (λ (l : Workload). l.dcs) h.workload))

-- a record that its host has stays so
pub nth_extends : (xs ys : List Record) (h t : ℕ) (r : Record) → Extends xs ys → nth_of xs h t ≡ Some r → nth_of ys h t ≡ Some r
nth_extends xs ys h t r e is = ap (λ l. nth_of l h t) e.1 ∙ more e.0 xs is
  where
    more : (zs ws : List Record) → nth_of ws h t ≡ Some r → nth_of (ws ++ zs) h t ≡ Some r
    more [] ws known = ap (λ l. nth_of l h t) (append-nil ws) ∙ known
    more (z ∷ zs) ws known = ap (λ l. nth_of l h t) (sym (append_assoc ws (z ∷ []) zs)) ∙ more zs (ws ++ z ∷ []) (nth_of-push ws z h t r known)
