use Rattle.std.proofs.Common.{◌≡◌, ◌↔◌, ◌≤◌, ◌∙◌, subst}
use Rattle.std.specs.Prelude.{IsErrOf}
use Rattle.std.proofs.lemmas.Option.{same_Some}
use Rattle.token_queue.specs.declared.token.AdoptFault.{AdoptFault}
use Rattle.token_queue.specs.Queues.{mark_bound}
use Rattle.stage_turns.proofs.joining.adopt.Goals as goal

pub returns-clause-late : goal.returns-clause-late
returns-clause-late c t is bound =
    subst (λ u. IsErrOf c.adopt.result (AdoptFault.Late bound) ↔ ((bound ≡ mark_bound u) × (c.args.mark ≤ bound))) (same_Some c.in-Some.token.now t (c.in-Some.ensures.value ∙ is)) (c.adopt.ensures.late bound)
