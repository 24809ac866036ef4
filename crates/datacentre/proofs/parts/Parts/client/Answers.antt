use Rattle.std.proofs.Common.{IfOk, sym, ◌∙◌}
use Rattle.stage_turns.specs.declared.done.TurnDone.{TurnDone}
use Rattle.stage_turns.specs.Clients.{IsSessionTurn, shelf_for}
use Rattle.datacentre.proofs.WholeTurns.{if_five, if_ok}
use Rattle.datacentre.proofs.WholeLinks.{nobody_is, read_is, read_may, turn_by_log, write_is, write_may}
use Rattle.datacentre.proofs.parts.Parts.client.Goals as goal

pub returns-in_default : goal.returns-in_default
returns-in_default c = nobody_is c.args.self.now c.args.s c.absent.result c.requires c.in_default.ensures c.absent.ensures

pub client_write-requires : goal.client_write-requires
client_write-requires c = write_may c.args.self.now c.args.s c.in-Some.at _ c.requires c.in-Some.ensures c.item_mut.ensures.value (sym (c.writes.ensures _ c.item_mut.ensures.value) ∙ c.if-writes.true)

pub client_read-requires : goal.client_read-requires
client_read-requires c = read_may c.args.self.now c.args.s c.in-Some.at _ c.requires c.in-Some.ensures c.item_mut-else-writes.ensures.value (sym (c.writes.ensures _ c.item_mut-else-writes.ensures.value) ∙ c.if-writes.false)

pub returns-then-writes : goal.returns-then-writes
returns-then-writes c =
    if_five c.client_write.result _ _ _ _ _ _ c.client_write.ensures.session c.client_write.ensures.batchers c.client_write.ensures.outcome c.client_write.ensures.events c.client_write.ensures.changed
    (λ done session batchers outcome events changed. write_is c.args.self.now c.args.s c.in-Some.at c.item_mut.result.now c.requires c.in-Some.ensures c.item_mut.ensures.value
    c.client_write.new.session c.client_write.new.batchers done (sym (c.writes.ensures _ c.item_mut.ensures.value) ∙ c.if-writes.true) session batchers outcome events changed)

pub returns-else-writes : goal.returns-else-writes
returns-else-writes c =
    if_ok c.client_read.result _ _
    (turn_by_log c.args.self.now c.args.s c.in-Some.at c.item_mut-else-writes.result.now c.requires c.in-Some.ensures c.item_mut-else-writes.ensures.value
    (λ log. IfOk c.client_read.result (λ (done : TurnDone). IsSessionTurn c.args.self.now.dc log (shelf_for c.args.s c.args.self.now.first_maintainers c.args.self.now.maintainers c.args.self.now.vectors c.args.self.now.indexers c.args.self.now.floor)
    c.item_mut-else-writes.result.now done c.client_read.new.session c.client_read.new.floor)) c.client_read.ensures.turn)
    (λ done turn. read_is c.args.self.now c.args.s c.in-Some.at c.item_mut-else-writes.result.now c.requires c.in-Some.ensures c.item_mut-else-writes.ensures.value
    c.client_read.new.session c.client_read.new.maintainers c.client_read.new.vectors c.client_read.new.indexers c.client_read.new.floor done (sym (c.writes.ensures _ c.item_mut-else-writes.ensures.value) ∙ c.if-writes.false)
    c.client_read.ensures.maintainers c.client_read.ensures.vectors c.client_read.ensures.indexers turn)
