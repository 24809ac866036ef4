-- The rounds of answering end.
use Rattle.std.proofs.Common.{◌≡◌, ℕ, zero, suc, ◌+◌, ◌<◌, ◌≤◌, true, false, Bool, List, length, refl, ap, sym, subst, ◌∙◌, inl, inr, arith}
use Rattle.std.specs.List.{All}
use Rattle.std.proofs.lemmas.Bool.{cases_lt, cases_Bool, true≢false}
use Rattle.std.proofs.lemmas.List.{get_or_default}
use Rattle.std.proofs.lemmas.List.Elements.{All-nil, All-append}
use Rattle.abstract_log.specs.declared.command.Workload.{Workload}
use Rattle.abstract_log.specs.declared.script.Step.{Step}
use Rattle.toid_filter.proofs.Tests.{any_gives}
use Rattle.stage_world.specs.Stages.{Stages}
use Rattle.stage_world.specs.Whole.{datacentre_at, nowhere_at}
use Rattle.abstract_log.specs.Turns.{IsStep}
use Rattle.stage_world.specs.Schedules.{after_steps}
use Rattle.stage_world.specs.Settling.{has_unanswered, is_answering, answering_rounds, after_passes, turns_of_passes}
use Rattle.settling_laws.specs.Ending.{AreQuiet}
use Rattle.settling_laws.specs.Rounds.{HasSameMembers, IsRounded, IsStanding, work_at, left_in, EndsAnswering}
use Rattle.settling_laws.proofs.Live.{IsLive}
use Rattle.settling_laws.proofs.Members.{same_members, members_both}
use Rattle.settling_laws.proofs.LocalRound.{live_at, round_rounds}
use Rattle.settling_laws.proofs.Answering.{sum_less, sum_fewer, round_no_more, round_fewer}
use Rattle.settling_laws.proofs.Rounds.{AreRoundsOf, rounds_are, rounded_at, after_steps-append}

-- a datacentre with a command that is not answered is rounded
abbrev AreReady : Workload → Stages → Type 0
AreReady load z = (d : ℕ) → d < load.dcs → has_unanswered (datacentre_at z d) ≡ true → IsRounded d (datacentre_at z d)

-- What one pass of answering leaves.
record IsPass (load : Workload) (z new : Stages) : Type 0 where
  pub standing : IsStanding load new
  pub datacentres : length new.datacentres ≡ length z.datacentres
  pub links : new.links ≡ z.links
  pub members : (d : ℕ) → HasSameMembers (datacentre_at z d) (datacentre_at new d)
  pub no_more : left_in new ≤ left_in z
  pub ready : AreReady load new
  pub fewer : AreReady load z → is_answering z ≡ true → left_in new < left_in z

module _ (load : Workload) (z : Stages) (h : IsStanding load z) where
  abbrev test : ℕ → Bool
  test d = has_unanswered (datacentre_at z d)

  size : length z.datacentres ≡ load.dcs
  size = h.stands.size ∙ ap (λ (l : Workload). l.dcs) h.workload

  abbrev turns : List Step
  turns = answering_rounds load z

  pass_is : AreRoundsOf load z test (length z.datacentres) turns
  pass_is = rounds_are load z h test (length z.datacentres) (omega (arith, size))

  abbrev new : Stages
  new = after_steps load z turns

  live : (d : ℕ) → d < load.dcs → IsLive load d (datacentre_at z d)
  live d within = live_at load d z within h

  members_at : (d : ℕ) → HasSameMembers (datacentre_at z d) (datacentre_at new d)
  members_at d = elim (cases_lt d (length z.datacentres)) [
    | inr past ↦ subst (HasSameMembers (datacentre_at z d)) (sym (pass_is.still d (λ low. absurd (omega (arith, low, past))))) (same_members (datacentre_at z d))
    | inl within ↦ elim (cases_Bool (test d)) [
      | inl some ↦ subst (HasSameMembers (datacentre_at z d)) (sym (pass_is.done d within some)) (round_rounds load d (datacentre_at z d) (live d (omega (arith, within, size)))).round.goes.members
      | inr none ↦ subst (HasSameMembers (datacentre_at z d)) (sym (pass_is.still d (λ _. none))) (same_members (datacentre_at z d))
    ]
  ]

  no_more_at : (d : ℕ) → d < length z.datacentres → work_at (datacentre_at new d) ≤ work_at (datacentre_at z d)
  no_more_at d within = elim (cases_Bool (test d)) [
    | inl some ↦
        let l : IsLive load d (datacentre_at z d) = live d (omega (arith, within, size)) in
        omega (arith, ap work_at (pass_is.done d within some), round_no_more load d (datacentre_at z d) (rounded_at z d) l (round_rounds load d (datacentre_at z d) l).round)
    | inr none ↦ omega (arith, ap work_at (pass_is.still d (λ _. none)))
  ]

  ready_after : AreReady load new
  ready_after d within waits = elim (cases_Bool (test d)) [
    | inl some ↦ subst (IsRounded d) (sym (pass_is.done d (omega (arith, within, size)) some)) (round_rounds load d (datacentre_at z d) (live d within)).rounded
    | inr none ↦ absurd (true≢false (sym waits ∙ ap has_unanswered (pass_is.still d (λ _. none)) ∙ none))
  ]

  fewer_after : AreReady load z → is_answering z ≡ true → left_in new < left_in z
  fewer_after ready some =
      let found = any_gives has_unanswered z.datacentres some in
      let d : ℕ = found.1.0 in
      let inside : d < length z.datacentres = found.1.1 in
      let is : datacentre_at z d ≡ found.0 = get_or_default z.datacentres d nowhere_at found.0 inside ∙ found.1.2 in
      let waits : test d ≡ true = ap has_unanswered is ∙ found.2 in
      let within : d < load.dcs = omega (arith, inside, size) in
      sum_fewer work_at z.datacentres new.datacentres nowhere_at d pass_is.datacentres no_more_at inside
      (omega (arith, ap work_at (pass_is.done d inside waits), round_fewer load d (datacentre_at z d) (live d within) (ready d within waits).told waits))

  one_pass : IsPass load z new
  one_pass = record {
    standing = pass_is.standing;
    datacentres = pass_is.datacentres;
    links = pass_is.links;
    members = members_at;
    no_more = sum_less work_at z.datacentres new.datacentres nowhere_at pass_is.datacentres no_more_at;
    ready = ready_after;
    fewer = fewer_after;
  }

module _ (load : Workload) (z : Stages) (h : IsStanding load z) where
  abbrev at : ℕ → Stages
  at n = after_passes load answering_rounds z n

  stands : (n : ℕ) → IsStanding load (at n)
  stands zero = h
  stands (suc n) = (one_pass load (at n) (stands n)).standing

  pass_at : (n : ℕ) → IsPass load (at n) (at (suc n))
  pass_at n = one_pass load (at n) (stands n)

  -- the loop ends after so many passes
  abbrev Ends : Type 0
  Ends = (passes : ℕ) × ((m : ℕ) → m < passes → is_answering (at m) ≡ true) × (is_answering (at passes) ≡ false) × (passes ≤ left_in z + 1)

  -- from so many passes on, of which all went on
  ends_from : (fuel n : ℕ) → ((m : ℕ) → m < n → is_answering (at m) ≡ true) → AreReady load (at n) → left_in (at n) ≤ fuel → left_in (at n) + n ≤ left_in z + 1 → Ends
  ends_from zero n before ready low bound = elim (cases_Bool (is_answering (at n))) [
    | inl going ↦ absurd (omega (arith, (pass_at n).fewer ready going, low))
    | inr ended ↦ (n, before, ended, omega (arith, bound))
  ]
  ends_from (suc fuel) n before ready low bound = elim (cases_Bool (is_answering (at n))) [
    | inl going ↦ ends_from fuel (suc n) (λ m up. elim (cases_lt m n) [
      | inl earlier ↦ before m earlier
      | inr last ↦ let same : n ≡ m = omega (arith, up, last) in subst (λ k. is_answering (at k) ≡ true) same going
    ]) (pass_at n).ready (omega (arith, (pass_at n).fewer ready going, low)) (omega (arith, (pass_at n).fewer ready going, bound))
    | inr ended ↦ (n, before, ended, omega (arith, bound))
  ]

  ends : Ends
  ends = elim (cases_Bool (is_answering z)) [
    | inr ended ↦ (0, (λ m up. absurd (omega (arith, up))), ended, omega arith)
    | inl going ↦ ends_from (left_in (at 1)) 1 (λ m up. let same : 0 ≡ m = omega (arith, up) in subst (λ k. is_answering (at k) ≡ true) same going) (pass_at 0).ready (omega arith) (omega (arith, (pass_at 0).no_more))
  ]

  abbrev turns_to : ℕ → List Step
  turns_to n = turns_of_passes load answering_rounds z n

  -- the turns of so many passes lead there, and change no members and no link
  record LeadsTo (n : ℕ) : Type 0 where
    pub steps : All (IsStep load) (turns_to n)
    pub is : after_steps load z (turns_to n) ≡ at n
    pub datacentres : length (at n).datacentres ≡ length z.datacentres
    pub links : (at n).links ≡ z.links
    pub members : (d : ℕ) → HasSameMembers (datacentre_at z d) (datacentre_at (at n) d)

  leads_to : (n : ℕ) → LeadsTo n
  leads_to zero = record { steps = All-nil (IsStep load); is = refl; datacentres = refl; links = refl; members = λ d. same_members (datacentre_at z d) }
  leads_to (suc n) =
      let so_far : LeadsTo n = leads_to n in
      let more : List Step = answering_rounds load (at n) in
      record {
        steps = All-append (IsStep load) (turns_to n) more so_far.steps (pass_is load (at n) (stands n)).steps;
        is = after_steps-append load (turns_to n) more z ∙ ap (λ s. after_steps load s more) so_far.is;
        datacentres = (pass_at n).datacentres ∙ so_far.datacentres;
        links = (pass_at n).links ∙ so_far.links;
        members = λ d. members_both (datacentre_at z d) (datacentre_at (at n) d) (datacentre_at (at (suc n)) d) (so_far.members d) ((pass_at n).members d);
      }

  -- the turns of any number of passes are steps that a script may have
  pub answering_steps : (n : ℕ) → All (IsStep load) (turns_to n)
  answering_steps n = (leads_to n).steps

  -- and bring no announcement
  pub answering_stays_quiet : (n : ℕ) → AreQuiet load z → AreQuiet load (at n)
  answering_stays_quiet n quiet d within = ((leads_to n).members d).announcement ∙ quiet d within

  -- The loop of answering ends.
  pub answering_ends_at : EndsAnswering load z
  answering_ends_at =
      let n : ℕ = ends.0 in
      let there : LeadsTo n = leads_to n in
      record {
        passes = n;
        turns = turns_to n;
        loop = record { turns = refl; before = ends.1; ends = ends.2 };
        few = ends.3;
        steps = there.steps;
        datacentres = ap (λ (s : Stages). length s.datacentres) there.is ∙ there.datacentres;
        links = ap (λ (s : Stages). s.links) there.is ∙ there.links;
        members = λ d. subst (λ s. HasSameMembers (datacentre_at z d) (datacentre_at s d)) (sym there.is) (there.members d);
      }
