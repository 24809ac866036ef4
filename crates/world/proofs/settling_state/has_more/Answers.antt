use Rattle.std.proofs.Common.{◌≡◌, ◌<◌, ◌∙◌, ap, get_or, length, nat_lt, subst, sym}
use Rattle.stage_world.specs.MoreTurns.{message_of}
use Rattle.stage_world.specs.Settling.{Errand}
use Rattle.stage_world.specs.Whole.{datacentre_at}
use Rattle.world.proofs.KnownLemmas.{asks_letter, more_letter, table_within}
use Rattle.world.proofs.settling_state.has_more.Goals as goal

pub has_more-requires-clause-log : goal.has_more-requires-clause-log
has_more-requires-clause-log c = asks_letter _ _ c.requires.known.1 c.errand.inside.from c.number.result c.index-as_slice-number.result c.number.ensures.value (subst (λ (x : Errand). x.from < length c.args.datacentres.now) (sym c.errand.view_is) c.requires.from) (c.index-as_slice-number.is ∙ ap (λ xs. get_or xs c.number.result c.index-as_slice-number.result) c.as_slice.ensures)

pub has_more-requires-clause-to : goal.has_more-requires-clause-to
has_more-requires-clause-to c =
    table_within _ _ c.requires.known.1 c.errand.inside.from c.number.result c.index-as_slice-number.result c.number.ensures.value (subst (λ (x : Errand). x.from < length c.args.datacentres.now) (sym c.errand.view_is) c.requires.from) (c.index-as_slice-number.is ∙ ap (λ xs. get_or xs c.number.result c.index-as_slice-number.result) c.as_slice.ensures) c.errand.inside.to
    (subst (λ (x : Errand). x.to < length c.args.datacentres.now) (sym c.errand.view_is) c.requires.to)

pub returns : goal.returns
returns c z known =
    subst (λ (x : Errand). c.has_more.result ≡ nat_lt 0 (length (message_of x.from (datacentre_at z x.from) x.sender x.to).records)) c.errand.view_is
    (more_letter _ _ known c.errand.inside.from c.number.result c.index-as_slice-number.result c.number.ensures.value (subst (λ (x : Errand). x.from < length c.args.datacentres.now) (sym c.errand.view_is) c.requires.from) (c.index-as_slice-number.is ∙ ap (λ xs. get_or xs c.number.result c.index-as_slice-number.result) c.as_slice.ensures) c.errand.inside.sender c.errand.inside.to c.has_more.result c.has_more.ensures)
