-- The first turns of settling bring each announcement to its end. The measure is how many filters are still to be asked, and one turn
-- more; `quiet_after_marks` is the theorem.
use Rattle.std.proofs.Common.{◌≡◌, ◌≢◌, ◌⊎◌, ℕ, zero, suc, ◌+◌, ◌<◌, ◌≤◌, Bool, cond, ltb, List, [], ◌∷◌, ◌++◌, length, set, get_or, refl, ap, sym, subst, ◌∙◌, inl, inr, arith, Option, Some, None}
use Rattle.std.specs.List.{All, Contains, flat_map}
use Rattle.std.specs.Option.{option_map_or}
use Rattle.std.proofs.lemmas.List.{length-set, get_or-set_same, get_or-set_other}
use Rattle.std.proofs.lemmas.List.Elements.{All-append, All-head, All-tail}
use Rattle.std.proofs.lemmas.Bool.{cases_eq, cond_both, ltb-true}
use Rattle.cz_base.specs.declared.limits.TheConstants.{MEMBERS}
use Rattle.abstract_log.specs.declared.command.Workload.{Workload}
use Rattle.abstract_log.specs.declared.script.Step.{Step}
use Rattle.abstract_log.specs.declared.script.Step.TheVariants.{Mark}
use Rattle.abstract_log.specs.declared.script.Outcome.TheVariants.{AcceptedBy, Active, Idle, LateAt}
use Rattle.abstract_log.specs.Turns.{IsStep}
use Rattle.toid_filter.specs.Champions.{last_share}
use Rattle.toid_filter.specs.Filters.{Announcement, filter_at, is_past}
use Rattle.toid_filter.specs.Marks.{accepted_next, asked_next}
use Rattle.stage_world.specs.Stages.{Datacentre, Stages}
use Rattle.stage_world.specs.Opening.{numbered}
use Rattle.stage_world.specs.Turns.{Turned, quiet}
use Rattle.stage_world.specs.MarkTurns.{accept_next, activate_all, ask_next, cancel_all, mark_turn}
use Rattle.stage_world.specs.Schedules.{after_steps, step_of}
use Rattle.stage_world.specs.Settling.{all_marks, below, mark_turns, marks}
use Rattle.stage_world.specs.Whole.{datacentre_at, nowhere_at, with_turn}
use Rattle.stage_world.proofs.ListLemmas.{Contains-cases}
use Rattle.stage_world.proofs.OpeningLemmas.{all_below, all_flat, all_numbered, get_or-numbered, length-numbered}
use Rattle.settling_laws.specs.Ending.{AreQuiet}
use Rattle.settling_laws.specs.Rounds.{IsStanding}
use Rattle.settling_laws.proofs.Behind.{stands_here}
use Rattle.settling_laws.proofs.Live.{in_stages, steps_stand}
use Rattle.settling_laws.proofs.Rounds.{after_steps-append}
use Rattle.settling_laws.proofs.TellingPass.{dcs_of}

-- the announcement, if one is on, comes to its end within so many turns
abbrev HasTurns : ℕ → Datacentre → Type 0
HasTurns n z = (a : Announcement) → z.announcement ≡ Some a → (1 ≤ n) × (length z.filters < n + a.next)

none_left : (z : Datacentre) → HasTurns 0 z → z.announcement ≡ None
none_left z h = at z.announcement refl
  where
    at : (o : Option Announcement) → z.announcement ≡ o → z.announcement ≡ None
    at None is = is
    at (Some a) is = absurd (omega (arith, (h a is).0))

module _ (n : ℕ) (z : Datacentre) (h : HasTurns (suc n) z) where
  asked : (a : Announcement) → z.announcement ≡ Some a → a.next < length z.filters → HasTurns n (ask_next z a).after
  asked a on low =
      cond_both (is_past a.host a.mark (filter_at z.filters a.next)) (quiet (LateAt a.next (get_or (filter_at z.filters a.next).reached a.host 0)) (cancel_all z)) (quiet (AcceptedBy a.next) (accept_next z a))
      (λ (t : Turned). HasTurns n t.after) (λ _ b is. absurd (cc))
      (λ _ b is.
      let same : asked_next a ≡ b = cc in
      let next : a.next + 1 ≡ b.next = ap (λ (x : Announcement). x.next) same in
      let size : length (accepted_next a z.filters) ≡ length z.filters = length-set z.filters a.next _ in
      (omega (arith, (h a on).1, low), omega (arith, (h a on).1, next, size)))

  one_turn : HasTurns n (mark_turn z).after
  one_turn = at z.announcement refl
    where
      at : (o : Option Announcement) → z.announcement ≡ o
          → HasTurns n (option_map_or (λ a. cond (ltb a.next (length z.filters)) (ask_next z a) (quiet (Active (last_share (activate_all z a).map a.host).filters) (activate_all z a))) o (quiet Idle z)).after
      at None on = λ a is. absurd (cc)
      at (Some a) on =
          cond_both (ltb a.next (length z.filters)) (ask_next z a) (quiet (Active (last_share (activate_all z a).map a.host).filters) (activate_all z a)) (λ (t : Turned). HasTurns n t.after)
          (λ low. asked a on (ltb-true a.next (length z.filters) low)) (λ _ b is. absurd (cc))

-- a datacentre after so many turns
abbrev marked : ℕ → Datacentre → Datacentre
marked zero z = z
marked (suc n) z = (mark_turn (marked n z)).after

turns_left : (k n : ℕ) (z : Datacentre) → HasTurns (k + n) z → HasTurns n (marked k z)
turns_left zero n z h = subst (λ i. HasTurns i z) (omega arith) h
turns_left (suc k) n z h = one_turn n (marked k z) (turns_left k (suc n) z (subst (λ i. HasTurns i z) (omega arith) h))

ended : (z : Datacentre) → length z.filters ≤ MEMBERS → (marked mark_turns z).announcement ≡ None
ended z few = none_left (marked mark_turns z) (turns_left mark_turns 0 z (λ a is. (omega arith, omega (arith, few))))

-- The turns of one datacentre among all stages.
record AreMarked (z : Stages) (d n : ℕ) (new : Stages) : Type 0 where
  pub size : length new.datacentres ≡ length z.datacentres
  pub here : datacentre_at new d ≡ marked n (datacentre_at z d)
  pub others : (e : ℕ) → e ≢ d → datacentre_at new e ≡ datacentre_at z e

mark_walk : (load : Workload) (z : Stages) (d n : ℕ) → d < length z.datacentres → AreMarked z d n (after_steps load z (numbered (λ _. Mark d) n))
mark_walk load z d zero within = record { size = refl; here = refl; others = λ e other. refl }
mark_walk load z d (suc n) within =
    let so_far : AreMarked z d n (after_steps load z (numbered (λ _. Mark d) n)) = mark_walk load z d n within in
    let y : Stages = after_steps load z (numbered (λ _. Mark d) n) in
    let v : Datacentre = (mark_turn (datacentre_at y d)).after in
    subst (AreMarked z d (suc n)) (sym (after_steps-append load (numbered (λ _. Mark d) n) (Mark d ∷ []) z))
    (record {
      size = length-set y.datacentres d v ∙ so_far.size;
      here = get_or-set_same y.datacentres d v nowhere_at (omega (arith, within, so_far.size)) ∙ ap (λ x. (mark_turn x).after) so_far.here;
      others = λ e other. get_or-set_other y.datacentres d e v nowhere_at other ∙ so_far.others e other;
    })

marks_are_steps : (load : Workload) (d : ℕ) → d < load.dcs → All (IsStep load) (marks d)
marks_are_steps load d within = all_numbered (IsStep load) (λ _. Mark d) mark_turns (λ i _. within)

few_filters : (load : Workload) (z : Stages) (d : ℕ) → d < load.dcs → IsStanding load z → length (datacentre_at z d).filters ≤ MEMBERS
few_filters load z d within h = omega (arith, (stands_here load z d within h).membership.members.ranges.filters.1)

-- after the turns of these datacentres, one after another
quiet_at : (load : Workload) (ds : List ℕ) (z : Stages) → IsStanding load z → All (λ d. d < load.dcs) ds → (g : ℕ) → ((datacentre_at z g).announcement ≡ None) ⊎ Contains ds g
    → (datacentre_at (after_steps load z (flat_map marks ds)) g).announcement ≡ None
quiet_at load [] z h all g (inl is) = is
quiet_at load [] z h all g (inr has) = absurd (omega (arith, has.1))
quiet_at load (d ∷ ds) z h all g before =
    let within : d < load.dcs = All-head (λ i. i < load.dcs) d ds all in
    let y : Stages = after_steps load z (marks d) in
    let walk : AreMarked z d mark_turns y = mark_walk load z d mark_turns (in_stages load d z within h) in
    let rest = quiet_at load ds y (steps_stand load (marks d) z (marks_are_steps load d within) h) (All-tail (λ i. i < load.dcs) d ds all) g in
    ap (λ s. (datacentre_at s g).announcement) (after_steps-append load (marks d) (flat_map marks ds) z)
    ∙ elim (cases_eq g d) [
      | inl same ↦ rest (inl (ap (λ k. (datacentre_at y k).announcement) same ∙ ap (λ (v : Datacentre). v.announcement) walk.here ∙ ended (datacentre_at z d) (few_filters load z d within h)))
      | inr other ↦ rest (later other walk before)
    ]
  where
    later : {n : ℕ} {y : Stages} → g ≢ d → AreMarked z d n y → ((datacentre_at z g).announcement ≡ None) ⊎ Contains (d ∷ ds) g → ((datacentre_at y g).announcement ≡ None) ⊎ Contains ds g
    later other walk (inl is) = inl (ap (λ (v : Datacentre). v.announcement) (walk.others g other) ∙ is)
    later other walk (inr has) = elim (Contains-cases d g ds has) [
      | inl same ↦ absurd (other (sym same))
      | inr more ↦ inr more
    ]

below_has : (n g : ℕ) → g < n → Contains (below n) g
below_has n g within = (g, omega (arith, within, length-numbered (λ i. i) n), get_or-numbered (λ i. i) n g g within)

-- The turns of all datacentres are steps, and leave no announcement.
pub marks_may_come : (load : Workload) (z : Stages) → IsStanding load z → All (IsStep load) (all_marks z)
marks_may_come load z h =
    all_flat (IsStep load) (λ d. d < length z.datacentres) marks (below (length z.datacentres)) (λ d within. marks_are_steps load d (omega (arith, within, dcs_of load z h))) (all_below (length z.datacentres))

pub quiet_after_marks : (load : Workload) (z : Stages) → IsStanding load z → AreQuiet load (after_steps load z (all_marks z))
quiet_after_marks load z h g within =
    let size : length z.datacentres ≡ load.dcs = dcs_of load z h in
    let all : All (λ d. d < load.dcs) (below (length z.datacentres)) = subst (λ n. All (λ d. d < n) (below (length z.datacentres))) size (all_below (length z.datacentres)) in
    quiet_at load (below (length z.datacentres)) z h all g (inr (below_has (length z.datacentres) g (omega (arith, within, size))))
