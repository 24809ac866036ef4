use Rattle.std.proofs.Common.{◌≡◌, length, map, ap, arith}
use Rattle.std.proofs.lemmas.List.{length-map}
use Rattle.toid_filter.specs.Filters.{from_name, named}
use Rattle.toid_filter.proofs.HeldLemmas.{ordered_in, range_in}
use Rattle.toid_filter.proofs.held.Held.range_from.Goals as goal

pub returns-clause-shown : goal.returns-clause-shown
returns-clause-shown c = range_in _ _ c.self.invariant c.self.view_is c.args.h c.args.t _ (c.range.ensures.between tt)

pub returns-clause-few : goal.returns-clause-few
returns-clause-few c =
    let shown : c.range.result ≡ map named (from_name c.args.h c.args.t c.args.self.now) = range_in _ _ c.self.invariant c.self.view_is c.args.h c.args.t _ (c.range.ensures.between tt) in
    omega (arith, c.range.ensures.fits, ap length shown, length-map (from_name c.args.h c.args.t c.args.self.now) named)

pub returns-clause-rising : goal.returns-clause-rising
returns-clause-rising c = ordered_in _ _ c.self.invariant c.self.view_is c.range.ensures.ordered
