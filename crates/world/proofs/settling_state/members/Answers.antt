use Rattle.std.proofs.Common.{◌≡◌, ◌∙◌, ap, get_or}
use Rattle.stage_world.specs.Stages.{sizes_of}
use Rattle.world.proofs.KnownLemmas.{told_letter_log}
use Rattle.world.proofs.settling_state.members.Goals as goal

pub returns : goal.returns
returns c z known = told_letter_log _ _ known c.args.d c.number.result c.index-as_slice-number.result c.number.ensures.value c.requires.there (c.index-as_slice-number.is ∙ ap (λ xs. get_or xs c.number.result c.index-as_slice-number.result) c.as_slice.ensures) (λ y. c.members.result ≡ sizes_of y) c.members.ensures
