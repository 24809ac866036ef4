use Rattle.std.proofs.Common.{ap, ◌∙◌}
use Rattle.std.specs.List.{position}
use Rattle.stage_turns.specs.Lent.{has_token}
use Rattle.stage_turns.proofs.RingLemmas.{first_has, some_has}
use Rattle.stage_turns.proofs.ring.holder.Goals as goal

pub unreachable-requires : goal.unreachable-requires
unreachable-requires c = some_has _ _ c.requires (c.in_default.ensures ∙ ap (position has_token) c.as_slice.ensures)

pub returns : goal.returns
returns c = first_has _ _ _ c.requires (c.in-Some.ensures ∙ ap (position has_token) c.as_slice.ensures)
