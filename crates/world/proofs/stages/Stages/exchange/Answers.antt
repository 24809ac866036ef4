use Rattle.std.proofs.Common.{◌∙◌, sym, subst, arith}
use Rattle.world.specs.Taking.{HasTaken, HaveTakenTurns}
use Rattle.world.proofs.KnownLemmas.{count_there, few_dcs, known_of, known_some}
use Rattle.world.proofs.SettledLemmas.{errand_two, errands_all, errands_next, plays_none, still_taken}
use Rattle.world.proofs.stages.Stages.exchange.Goals as goal

pub errands-requires-clause-known : goal.errands-requires-clause-known
errands-requires-clause-known c = known_some _ (subst HaveTakenTurns (sym c.self.view_is) c.requires)

pub errands-requires-clause-few : goal.errands-requires-clause-few
errands-requires-clause-few c = few_dcs _ (subst HaveTakenTurns (sym c.self.view_is) c.requires)

pub errands-requires-clause-all : goal.errands-requires-clause-all
errands-requires-clause-all c = sym (count_there _ (subst HaveTakenTurns (sym c.self.view_is) c.requires))

pub loop-errand-init : goal.loop-errand-init
loop-errand-init c = plays_none _

pub run-requires-clause-taken : goal.run-requires-clause-taken
run-requires-clause-taken c = still_taken _ _ _ c.loop-errand.invariant c.requires

pub run-requires-clause-two : goal.run-requires-clause-two
run-requires-clause-two c =
    errand_two _ _ _ _ _ c.loop-errand.invariant c.requires (λ script ts h. c.as_slice-errand-items.ensures ∙ c.in_ok-them.ensures _ (known_of script ts _ (subst (HasTaken script ts) (sym c.self.view_is) h))) c.loop-errand-test.true c.errand-item.is

pub loop-errand-preserved : goal.loop-errand-preserved
loop-errand-preserved c = errands_next _ _ _ _ _ _ c.loop-errand-test.true c.errand-item.is c.loop-errand.invariant c.in_ok-run.ensures

pub returns : goal.returns
returns c =
    errands_all _ _ _ _ (omega (arith, c.loop-errand-test.false)) (λ script ts h. c.as_slice-errand-items.ensures ∙ c.in_ok-them.ensures _ (known_of script ts _ (subst (HasTaken script ts) (sym c.self.view_is) h))) c.loop-errand.invariant
