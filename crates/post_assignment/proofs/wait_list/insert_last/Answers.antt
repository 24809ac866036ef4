use Rattle.std.proofs.Common.{sym, ◌∙◌}
use Rattle.post_assignment.proofs.ArrivalLemmas.{inserted_last, none_some, not_yet}
use Rattle.post_assignment.proofs.wait_list.insert_last.Goals as goal

pub unreachable-requires : goal.unreachable-requires
unreachable-requires g c = none_some _ (sym (not_yet _ _ c.requires) ∙ sym c.in-Ok-Some.ensures.old ∙ c.in-Ok-Some.field-0-is)

pub returns-in-Ok-None-clause-ok : goal.returns-in-Ok-None-clause-ok
returns-in-Ok-None-clause-ok g c = c.in-Ok-None.ensures.entries ∙ inserted_last _ _ _ c.requires
