use Rattle.std.proofs.Common.{◌∙◌, ap, sym, refl, is_some, true, false}
use Rattle.stage_turns.specs.declared.done.TurnDone.{TurnDone}
use Rattle.stage_world.specs.Whole.{datacentre_at}
use Rattle.world.proofs.LinkIdle.{delivered_told, no_receiver_told}
use Rattle.world.proofs.MovingLemmas.{changed_moves, deliver_absent, deliver_empty, deliver_moves, links_there, may_ask, may_receive, seen_at}
use Rattle.world.proofs.network.Network.deliver.Goals as goal

pub has_receiver-requires : goal.has_receiver-requires
has_receiver-requires c = may_ask _ _ _ _ c.args.e c.requires.1 c.requires.1.fits.second

pub returns-then-not-has_receiver-clause-moved : goal.returns-then-not-has_receiver-clause-moved
returns-then-not-has_receiver-clause-moved c z may =
    let none = sym (c.has_receiver.ensures (datacentre_at z c.args.e) (seen_at _ z _ c.args.e may.shown may.fits.second)) ∙ c.if-not-has_receiver.true in
    deliver_absent c.args._workload.now z _ c.args.d c.args.e c.args.k c.args.r _ may.shown none c.absent.ensures

pub returns-then-not-has_receiver-clause-told : goal.returns-then-not-has_receiver-clause-told
returns-then-not-has_receiver-clause-told c z may =
    let none = sym (c.has_receiver.ensures (datacentre_at z c.args.e) (seen_at _ z _ c.args.e may.shown may.fits.second)) ∙ c.if-not-has_receiver.true in
    no_receiver_told c.args._workload.now z _ c.args.d c.args.e may.shown may.fits.first may.fits.second c.args.k c.args.r _ none (ap (λ (x : TurnDone). x.changed) c.absent.ensures)

pub take_out-requires : goal.take_out-requires
take_out-requires c = links_there _ _ _ _ _ c.requires.1.shown c.requires.1.fits.first c.requires.1.fits.second

pub returns-in_default-clause-moved : goal.returns-in_default-clause-moved
returns-in_default-clause-moved c z may =
    let there = sym (c.has_receiver.ensures (datacentre_at z c.args.e) (seen_at _ z _ c.args.e may.shown may.fits.second)) ∙ c.if-not-has_receiver.false in
    deliver_empty c.args._workload.now z _ _ c.args.d c.args.e c.args.k c.args.r _ may.shown there (sym c.in_default.is ∙ c.take_out.ensures.packet) refl c.take_out.ensures.links c.absent-in_default.ensures

pub returns-in_default-clause-told : goal.returns-in_default-clause-told
returns-in_default-clause-told c z may =
    let there = sym (c.has_receiver.ensures (datacentre_at z c.args.e) (seen_at _ z _ c.args.e may.shown may.fits.second)) ∙ c.if-not-has_receiver.false in
    delivered_told c.args._workload.now z _ c.args.d c.args.e may.shown may.fits.first may.fits.second c.args.k c.args.r _ there (ap (λ (x : TurnDone). x.changed) c.absent-in_default.ensures ∙ ap is_some (sym c.in_default.is ∙ c.take_out.ensures.packet))

pub receive-requires : goal.receive-requires
receive-requires c = may_receive _ _ _ _ _ _ _ _ c.requires.1 (sym c.in-Some.is ∙ c.take_out.ensures.packet)

pub returns-clause-moved : goal.returns-clause-moved
returns-clause-moved c z may =
    let seen = seen_at _ z _ c.args.e may.shown may.fits.second in
    let there = sym (c.has_receiver.ensures (datacentre_at z c.args.e) seen) ∙ c.if-not-has_receiver.false in
    let moved = deliver_moves c.args._workload.now c.args.d c.args.e c.args.k c.args.r z _ _ c.in-Some.packet c.in_ok-done.done may there (sym c.in-Some.is ∙ c.take_out.ensures.packet) c.take_out.ensures.links
    (λ m spelled. c.in_ok-done.ensures (datacentre_at z c.args.e) m seen spelled) in
    changed_moves _ _ _ _ _ moved c.with_change.ensures

pub returns-clause-told : goal.returns-clause-told
returns-clause-told c z may =
    let there = sym (c.has_receiver.ensures (datacentre_at z c.args.e) (seen_at _ z _ c.args.e may.shown may.fits.second)) ∙ c.if-not-has_receiver.false in
    delivered_told c.args._workload.now z _ c.args.d c.args.e may.shown may.fits.first may.fits.second c.args.k c.args.r _ there (ap (λ (x : TurnDone). x.changed) c.with_change.ensures ∙ ap is_some (sym c.in-Some.is ∙ c.take_out.ensures.packet))
