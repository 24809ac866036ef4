use Rattle.std.proofs.Common.{leb, ◌&&◌, arith, ap, length, subst, ◌∙◌, sym}
use Rattle.toid_filter.specs.contracts.filter.Filter.{the_view}
use Rattle.toid_filter.specs.Filters.{FilterState, IsSteady}
use Rattle.toid_filter.proofs.FilterLemmas.{steady_sound}
use Rattle.toid_filter.proofs.MarkLemmas.{accepts, not_past}
use Rattle.toid_filter.proofs.filter.Filter.accept.Goals as goal

pub get-passed-requires : goal.get-passed-requires
get-passed-requires c = omega (arith, c.requires.host, c.self.invariant.tidy.width, ap (λ (f : FilterState). length f.map) c.self.view_is)

pub returns-then-passed-mark-clause-sound : goal.returns-then-passed-mark-clause-sound
returns-then-passed-mark-clause-sound c = steady_sound _ (subst IsSteady c.self.view_is c.self.invariant)

pub returns-clause-sound : goal.returns-clause-sound
returns-clause-sound c =
    steady_sound _ (accepts (the_view c.self.inside) c.args.h c.args.mark c.self.invariant (ap (λ (f : FilterState). f.accepted) c.self.view_is ∙ c.requires.free)
    (ap (λ n. leb 1 n && leb c.args.mark n) (sym c.get-passed.ensures) ∙ not_past c.get-passed.result c.args.mark c.else-passed-ge1.either))
