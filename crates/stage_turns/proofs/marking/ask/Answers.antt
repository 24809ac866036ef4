use Rattle.std.proofs.Common.{◌≡◌, ◌<◌, ◌∙◌, ap, arith, length, refl, subst, sym, true}
use Rattle.std.specs.Option.{ForSome}
use Rattle.stage_marks.specs.Marks.{next_told, value_of}
use Rattle.toid_filter.specs.Filters.{FilterState}
use Rattle.stage_turns.specs.Marking.{MayMark}
use Rattle.stage_turns.proofs.MarkingLemmas.{by_told, hosts_there, put_back_all, told_late}
use Rattle.stage_turns.proofs.marking.ask.Goals as goal

pub heard-requires : goal.heard-requires
heard-requires c = (c.args.filter, ap (next_told c.args.marks.now) c.len-there.ensures ∙ c.requires.asks)

pub cancel_all-requires : goal.cancel_all-requires
cancel_all-requires c =
    put_back_all c.args.filters.now c.args.filter c.item_mut.result.now c.accept-answer.new.self c.item_mut.ensures.value
    (by_told c.in-Some.on.host c.in-Some.on.mark c.item_mut.result.now c.accept-answer.new.self true c.accept-answer.ensures.after (told_late c.in-Some.on.host c.in-Some.on.mark c.in-Late.passed c.item_mut.result.now c.in-Late.ensures.told).0)
    (hosts_there c.args._map.now c.args.marks.now c.args.filters.now c.requires.may.sound)
