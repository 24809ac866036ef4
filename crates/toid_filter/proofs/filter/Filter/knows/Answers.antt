use Rattle.std.proofs.Common.{◌∙◌, ap, arith, get_or}
use Rattle.toid_filter.specs.Filters.{FilterState, is_held}
use Rattle.toid_filter.proofs.Running.{known_above}
use Rattle.toid_filter.proofs.filter.Filter.knows.Goals as goal

pub returns-else-t-get : goal.returns-else-t-get
returns-else-t-get c =
    c.contains.ensures ∙ ap (λ (f : FilterState). is_held f c.args.h c.args.t) c.self.view_is
    ∙ known_above c.args.self.now c.args.h c.args.t (omega (arith, c.get.ensures, ap (λ (f : FilterState). get_or f.reached c.args.h 0) c.self.view_is, c.if-t-get.false))
