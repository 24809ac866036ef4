use Rattle.std.proofs.Common.{◌∙◌, ap, subst, length, map, arith}
use Rattle.toid_filter.specs.Filters.{FilterState, IsSteady, from_name, named}
use Rattle.toid_filter.proofs.Running.{walk_starts, walk_within, walk_goes, walk_stops}
use Rattle.toid_filter.proofs.filter.Filter.due_count.Goals as goal

pub loop-next-init : goal.loop-next-init
loop-next-init c = record {
  next = tt;
  finite = tt;
  walking = walk_starts c.args.self.now c.args.rec.now (subst IsSteady c.self.view_is c.self.invariant) c.requires.fits c.requires.new c.requires.free _
      (c.into_iter-next-iterator.ensures.into_iter_gives ∙ c.range_from-next-items.ensures.shown ∙ ap (λ (f : FilterState). map named (from_name c.args.rec.now.host c.args.rec.now.toid f.held)) c.self.view_is);
}

pub returns-then-not-follows-clause-rest : goal.returns-then-not-follows-clause-rest
returns-then-not-follows-clause-rest c = walk_stops c.args.self.now c.args.rec.now (subst IsSteady c.self.view_is c.self.invariant) c.requires.fits c.requires.new c.requires.free _ _ _ c.loop-next.invariant.walking _ _ c.in-Some.ensures.steps
    (λ follows. absurd (cc (c.follows.ensures.1 follows, c.if-not-follows.true)))

pub overflow_add-count : goal.overflow_add-count
overflow_add-count c =
    let more = walk_within c.args.self.now c.args.rec.now (subst IsSteady c.self.view_is c.self.invariant) c.requires.fits c.requires.new c.requires.free _ _ _ c.loop-next.invariant.walking _ _ c.in-Some.ensures.steps in
    omega (arith, more, c.range_from-next-items.ensures.few, ap (λ (f : FilterState). length (from_name c.args.rec.now.host c.args.rec.now.toid f.held)) c.self.view_is)

pub loop-next-preserved : goal.loop-next-preserved
loop-next-preserved c = record {
  next = tt;
  finite = tt;
  walking = walk_goes c.args.self.now c.args.rec.now (subst IsSteady c.self.view_is c.self.invariant) c.requires.fits c.requires.new c.requires.free _ _ _ c.loop-next.invariant.walking _ _ c.in-Some.ensures.steps
      (c.follows.ensures.0 c.if-not-follows.false);
}
