use Rattle.std.proofs.Common.{◌∙◌, ap, sym, subst, arith}
use Rattle.std.proofs.lemmas.Result.{on_ok_weaker}
use Rattle.world.specs.Taking.{HasTaken, HaveTakenTurns, StagesState}
use Rattle.world.proofs.KnownLemmas.{count_there, known_of, known_some}
use Rattle.world.proofs.SettledLemmas.{errand_due, errand_not_due}
use Rattle.world.proofs.stages.Stages.run.Goals as goal

pub has_errand-requires-clause-known : goal.has_errand-requires-clause-known
has_errand-requires-clause-known c = known_some _ (subst HaveTakenTurns (sym c.self.view_is) c.requires.taken)

pub has_errand-requires-clause-from : goal.has_errand-requires-clause-from
has_errand-requires-clause-from c = omega (arith, count_there _ (subst HaveTakenTurns (sym c.self.view_is) c.requires.taken), ap (λ (s : StagesState). s.workload.dcs) c.self.view_is, c.requires.two.first)

pub has_errand-requires-clause-to : goal.has_errand-requires-clause-to
has_errand-requires-clause-to c = omega (arith, count_there _ (subst HaveTakenTurns (sym c.self.view_is) c.requires.taken), ap (λ (s : StagesState). s.workload.dcs) c.self.view_is, c.requires.two.second)

pub returns-then-not-has_errand : goal.returns-then-not-has_errand
returns-then-not-has_errand c = errand_not_due c.args.errand.now _ (λ script ts h. sym (c.has_errand.ensures _ (known_of script ts _ (subst (HasTaken script ts) (sym c.self.view_is) h))) ∙ c.if-not-has_errand.true)

pub returns : goal.returns
returns c =
    on_ok_weaker _ (errand_due c.args.errand.now _ _ (λ script ts h. sym (c.has_errand.ensures _ (known_of script ts _ (subst (HasTaken script ts) (sym c.self.view_is) h))) ∙ c.if-not-has_errand.false)) c.send_and_deliver.ensures
