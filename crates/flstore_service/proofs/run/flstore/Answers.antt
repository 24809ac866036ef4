use Rattle.std.proofs.Common.{[], ◌∷◌, length, sym, ap, subst, arith}
use Rattle.flstore_service.specs.Fits.{additions}
use Rattle.flstore_service.specs.declared.service.Service.{Service}
use Rattle.flstore_service.specs.Sound.{IsServing}
use Rattle.flstore_service.proofs.ServedLemmas.{fresh_length, start_served}
use Rattle.flstore_service.proofs.run.flstore.Goals as goal

pub take_steps-requires-clause-start : goal.take_steps-requires-clause-start
take_steps-requires-clause-start c = subst (λ s. IsServing s 0) (sym c.in_ok-service.ensures) (start_served c.args.script.now.round c.args.script.now.maintainers c.requires.round.0 c.requires.round.1 c.requires.some (omega (arith, c.requires.few)))

pub take_steps-requires-clause-few : goal.take_steps-requires-clause-few
take_steps-requires-clause-few c = omega (arith, c.requires.few, ap (λ (s : Service). length s.members) c.in_ok-service.ensures, fresh_length (record { round = c.args.script.now.round; list = record { start = 1; members = c.args.script.now.maintainers } ∷ [] }) c.args.script.now.maintainers, ap additions c.as_slice.ensures)
