-- What the check asks of `StepList::new` beyond what it finds by itself.
use Rattle.std.proofs.Common.{refl, sym, subst}
use Rattle.std.specs.Prelude.{List}
use Rattle.abstract_log.specs.declared.script.Step.{Step}
use Rattle.std.proofs.lemmas.List.{get_or-replicate}
use Rattle.script_text.specs.declared.members.TheConstants.{PLACES}
use Rattle.script_text.specs.Tallies.{IsTally}
use Rattle.script_text.proofs.MemberLemmas.{no_tally, zeros}
use Rattle.script_text.proofs.members.StepList.new.Goals as goal

pub invariant_of-result : goal.invariant_of-result
invariant_of-result c = subst (λ (steps : List Step). IsTally steps (zeros PLACES)) (sym c.new.ensures) (no_tally (zeros PLACES) refl (λ i below. get_or-replicate PLACES i 0 0 below))
