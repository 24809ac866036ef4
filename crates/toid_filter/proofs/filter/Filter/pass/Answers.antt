use Rattle.std.proofs.Common.{◌∙◌, ap, ◌++◌, ◌∷◌, []}
use Rattle.causal_deps.specs.declared.record.Item.TheVariants.{External}
use Rattle.toid_filter.proofs.FilterLemmas.{steady_sound, steady_out}
use Rattle.toid_filter.proofs.Running.{pass_taken, hosts_fit, behind_same}
use Rattle.toid_filter.proofs.filter.Filter.pass.Goals as goal

pub returns-then-is_err-clause-sound : goal.returns-then-is_err-clause-sound
returns-then-is_err-clause-sound c = steady_sound _ (steady_out _ _ c.self.invariant)

pub pass_first-requires-clause-within : goal.pass_first-requires-clause-within
pass_first-requires-clause-within c = behind_same _ _ c.args.rec _ c.self.view_is c.due_count-count.ensures.within

pub pass_first-requires-clause-rising : goal.pass_first-requires-clause-rising
pass_first-requires-clause-rising c = c.self.invariant.tidy.rising

pub pass_first-requires-clause-hosts : goal.pass_first-requires-clause-hosts
pass_first-requires-clause-hosts c = hosts_fit _ _ _ _ c.self.invariant c.raise.ensures

pub invariant_of-self-2 : goal.invariant_of-self-2
invariant_of-self-2 c = (pass_taken _ _ _ _ _ _ _ _ _ c.self.view_is c.self.invariant c.requires.fits c.requires.new c.requires.free c.due_count-count.ensures.due c.due_count-count.ensures.rest c.raise.ensures c.pass_first.ensures.raised c.pass_first.ensures.kept (c.push_reserved.ensures.items ∙ ap (λ out. out ++ External c.args.rec ∷ []) c.reserve.ensures.items) c.pass_first.ensures.moved).1

pub returns-clause-ok : goal.returns-clause-ok
returns-clause-ok c = (pass_taken _ _ _ _ _ _ _ _ _ c.self.view_is c.self.invariant c.requires.fits c.requires.new c.requires.free c.due_count-count.ensures.due c.due_count-count.ensures.rest c.raise.ensures c.pass_first.ensures.raised c.pass_first.ensures.kept (c.push_reserved.ensures.items ∙ ap (λ out. out ++ External c.args.rec ∷ []) c.reserve.ensures.items) c.pass_first.ensures.moved).0

pub returns-clause-sound : goal.returns-clause-sound
returns-clause-sound c = steady_sound _ (pass_taken _ _ _ _ _ _ _ _ _ c.self.view_is c.self.invariant c.requires.fits c.requires.new c.requires.free c.due_count-count.ensures.due c.due_count-count.ensures.rest c.raise.ensures c.pass_first.ensures.raised c.pass_first.ensures.kept (c.push_reserved.ensures.items ∙ ap (λ out. out ++ External c.args.rec ∷ []) c.reserve.ensures.items) c.pass_first.ensures.moved).1
