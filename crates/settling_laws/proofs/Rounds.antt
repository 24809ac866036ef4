-- Local rounds of several datacentres, one after another.
use Rattle.std.proofs.Common.{◌≡◌, ℕ, zero, suc, ◌<◌, ◌≤◌, true, false, Bool, cond, List, [], ◌∷◌, ◌++◌, length, refl, ap, sym, subst, ◌∙◌, inl, inr, arith, append-nil}
use Rattle.std.specs.List.{All, filter, flat_map}
use Rattle.std.proofs.lemmas.Bool.{cases_eq, cond_both, true≢false}
use Rattle.std.proofs.lemmas.Grind.{flat_map-append}
use Rattle.std.proofs.lemmas.List.Elements.{All-nil, All-append, All-weaker, filter-append}
use Rattle.abstract_log.specs.declared.command.Workload.{Workload}
use Rattle.abstract_log.specs.declared.script.Step.{Step}
use Rattle.stage_world.specs.Stages.{Datacentre, Stages}
use Rattle.stage_world.specs.Whole.{datacentre_at}
use Rattle.abstract_log.specs.Turns.{IsStep}
use Rattle.stage_world.specs.Schedules.{after_steps}
use Rattle.stage_world.specs.Settling.{below, local_round, rounds}
use Rattle.settling_laws.specs.Rounds.{IsStanding}
use Rattle.settling_laws.proofs.Live.{IsTurnAt, IsWalk, walked, walk, turn_good, in_stages, steps_stand}
use Rattle.settling_laws.proofs.LocalRound.{all_turns, live_at}

pub after_steps-append : (load : Workload) (ts us : List Step) (z : Stages) → after_steps load z (ts ++ us) ≡ after_steps load (after_steps load z ts) us
after_steps-append load [] us z = refl
after_steps-append load (t ∷ ts) us z = after_steps-append load ts us _

-- datacentre d of z after a local round
abbrev pub rounded_at : Stages → ℕ → Datacentre
rounded_at z d = walked d (datacentre_at z d) (local_round d (datacentre_at z d))

-- z after turns that were local rounds of the datacentres below n that pass the test.
pub record AreRoundsOf (load : Workload) (z : Stages) (test : ℕ → Bool) (n : ℕ) (ts : List Step) : Type 0 where
  pub steps : All (IsStep load) ts
  pub standing : IsStanding load (after_steps load z ts)
  pub datacentres : length (after_steps load z ts).datacentres ≡ length z.datacentres
  pub links : (after_steps load z ts).links ≡ z.links
  pub done : (d : ℕ) → d < n → test d ≡ true → datacentre_at (after_steps load z ts) d ≡ rounded_at z d
  pub still : (d : ℕ) → (d < n → test d ≡ false) → datacentre_at (after_steps load z ts) d ≡ datacentre_at z d

module _ (load : Workload) (z : Stages) (h : IsStanding load z) (test : ℕ → Bool) where
  one_more : (n : ℕ) (ts : List Step) → n < load.dcs → AreRoundsOf load z test n ts → test n ≡ true → AreRoundsOf load z test (suc n) (ts ++ local_round n (datacentre_at z n))
  one_more n ts within so_far passes =
      let us : List Step = local_round n (datacentre_at z n) in
      let y : Stages = after_steps load z ts in
      let same : datacentre_at y n ≡ datacentre_at z n = so_far.still n (λ low. absurd (omega (arith, low))) in
      let all : All (IsTurnAt load n) us = all_turns load n (datacentre_at z n) (live_at load n z within h) in
      let good : All (IsStep load) us = All-weaker (IsTurnAt load n) (IsStep load) (λ t at. turn_good load n t within at) us all in
      let moved : IsWalk load n y us = walk load n us y (in_stages load n y within so_far.standing) all in
      let is : after_steps load z (ts ++ us) ≡ after_steps load y us = after_steps-append load ts us z in
      record {
        steps = All-append (IsStep load) ts us so_far.steps good;
        standing = subst (IsStanding load) (sym is) (steps_stand load us y good so_far.standing);
        datacentres = ap (λ (s : Stages). length s.datacentres) is ∙ moved.datacentres ∙ so_far.datacentres;
        links = ap (λ (s : Stages). s.links) is ∙ moved.links ∙ so_far.links;
        done = λ d low test_d. ap (λ s. datacentre_at s d) is ∙ elim (cases_eq d n) [
          | inl here ↦ subst (λ k. datacentre_at (after_steps load y us) k ≡ rounded_at z k) (sym here) (moved.at ∙ ap (λ v. walked n v us) same)
          | inr other ↦ moved.others d other ∙ so_far.done d (omega (arith, low, other)) test_d
        ];
        still = λ d none. ap (λ s. datacentre_at s d) is ∙ elim (cases_eq d n) [
          | inl here ↦ absurd (true≢false (sym passes ∙ ap test (sym here) ∙ none (omega (arith, here))))
          | inr other ↦ moved.others d other ∙ so_far.still d (λ low. none (omega (arith, low)))
        ];
      }

  none_more : (n : ℕ) (ts : List Step) → AreRoundsOf load z test n ts → test n ≡ false → AreRoundsOf load z test (suc n) ts
  none_more n ts so_far fails = record {
    steps = so_far.steps;
    standing = so_far.standing;
    datacentres = so_far.datacentres;
    links = so_far.links;
    done = λ d low test_d. elim (cases_eq d n) [
      | inl here ↦ absurd (true≢false (sym test_d ∙ ap test here ∙ fails))
      | inr other ↦ so_far.done d (omega (arith, low, other)) test_d
    ];
    still = λ d none. so_far.still d (λ low. none (omega (arith, low)));
  }

  abbrev round_of : ℕ → List Step
  round_of d = local_round d (datacentre_at z d)

  -- the rounds of those below n that pass
  pub rounds_are : (n : ℕ) → n ≤ load.dcs → AreRoundsOf load z test n (rounds z (filter test (below n)))
  rounds_are zero within = record {
    steps = All-nil (IsStep load);
    standing = h;
    datacentres = refl;
    links = refl;
    done = λ d low. absurd (omega (arith, low));
    still = λ d none. refl;
  }
  rounds_are (suc n) within =
      let so_far : AreRoundsOf load z test n (rounds z (filter test (below n))) = rounds_are n (omega arith) in
      let split : filter test (below (suc n)) ≡ filter test (below n) ++ cond (test n) (n ∷ []) [] = filter-append test (below n) (n ∷ []) in
      let turns : rounds z (filter test (below (suc n))) ≡ rounds z (filter test (below n)) ++ flat_map round_of (cond (test n) (n ∷ []) []) = ap (rounds z) split ∙ flat_map-append round_of (filter test (below n)) (cond (test n) (n ∷ []) []) in
      subst (AreRoundsOf load z test (suc n)) (sym turns)
      (cond_both (test n) (n ∷ []) [] (λ ds. AreRoundsOf load z test (suc n) (rounds z (filter test (below n)) ++ flat_map round_of ds))
      (λ passes. subst (λ us. AreRoundsOf load z test (suc n) (rounds z (filter test (below n)) ++ us)) (sym (append-nil (round_of n))) (one_more n (rounds z (filter test (below n))) (omega arith) so_far passes))
      (λ fails. subst (AreRoundsOf load z test (suc n)) (sym (append-nil (rounds z (filter test (below n))))) (none_more n (rounds z (filter test (below n))) so_far fails)))
