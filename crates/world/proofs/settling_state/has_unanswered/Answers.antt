use Rattle.std.proofs.Common.{◌≡◌, ◌∙◌, ap, get_or}
use Rattle.stage_world.specs.Settling.{has_unanswered}
use Rattle.world.proofs.KnownLemmas.{told_letter}
use Rattle.world.proofs.settling_state.has_unanswered.Goals as goal

pub returns : goal.returns
returns c z known = told_letter _ _ known c.args.d c.number.result c.index-as_slice-number.result c.number.ensures.value c.requires.there (c.index-as_slice-number.is ∙ ap (λ xs. get_or xs c.number.result c.index-as_slice-number.result) c.as_slice.ensures) (λ y. c.unanswered.result ≡ has_unanswered y) c.unanswered.ensures
