use Rattle.std.proofs.Common.{ap, refl, ◌∙◌}
use Rattle.datacentre.specs.Seen.{first_token}
use Rattle.datacentre.proofs.NewLemmas.{is_ring, may_hold}
use Rattle.datacentre.proofs.opening.new_ring.Goals as goal

pub hold_first-requires-clause-some : goal.hold_first-requires-clause-some
hold_first-requires-clause-some c = (may_hold _ _ _ c.requires.queues.0 c.in_ok-queues.ensures).some

pub hold_first-requires-clause-free : goal.hold_first-requires-clause-free
hold_first-requires-clause-free c = (may_hold _ _ _ c.requires.queues.0 c.in_ok-queues.ensures).free

pub returns-clause-seen : goal.returns-clause-seen
returns-clause-seen c =
    (is_ring _ _ (first_token c.args.dc c.args.dcs c.args.epochs.now c.args.n) _ _ _ c.requires.queues.0 refl c.in_ok-queues.ensures
    (c.first.ensures ∙ ap (λ e. first_token c.args.dc c.args.dcs e c.args.n) c.in_ok-copy.ensures) c.hold_first.ensures).seen

pub returns-clause-token : goal.returns-clause-token
returns-clause-token c =
    (is_ring _ _ (first_token c.args.dc c.args.dcs c.args.epochs.now c.args.n) _ _ _ c.requires.queues.0 refl c.in_ok-queues.ensures
    (c.first.ensures ∙ ap (λ e. first_token c.args.dc c.args.dcs e c.args.n) c.in_ok-copy.ensures) c.hold_first.ensures).has
