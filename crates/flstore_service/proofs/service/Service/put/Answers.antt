use Rattle.flstore_service.proofs.TurnLemmas.{put_in_is, put_turned, there_is}
use Rattle.flstore_service.proofs.RoomLemmas.{has_room}
use Rattle.flstore_service.proofs.service.Service.put.Goals as goal

pub append_here-requires : goal.append_here-requires
append_here-requires c = has_room c.args.self.now c.args.m c.item_mut.result.now c.in_ok-value.value c.requires (there_is _ _ _ c.if-not-has.ensures c.item_mut.ensures.value)

pub returns : goal.returns
returns c = put_turned c.args.self.now c.args.m c.args.body.now c.item_mut.result.now _ (there_is _ _ _ c.if-not-has.ensures c.item_mut.ensures.value)
    (put_in_is c.args.self.now c.args.m 0 c.args.body.now c.item_mut.result.now c.in_ok-value.value c.append_here.new.self _ _ _ _ c.in_ok-value.ensures c.in_ok-here.ensures.state c.in_ok-here.ensures.ok.0 c.in_ok-here.ensures.ok.1 c.placed.ensures.service c.placed.ensures.outcome)
