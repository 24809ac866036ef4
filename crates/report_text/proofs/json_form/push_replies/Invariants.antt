-- The loops of `push_replies`: what holds at each turn, and why they end.
use Rattle.std.proofs.Common.{◌≡◌, ◌++◌, map, take}
use Rattle.std.specs.List.{flat_map}
use Rattle.serde_json.specs.View.{view}
use Rattle.report_text.specs.Json.{reply_items}
use Rattle.report_text.proofs.json_form.push_replies.Given as goal

abbrev pub invariant-loop-event : goal.invariant-loop-event
invariant-loop-event l = map view l.items.items ≡ map view l.initial.items.items ++ flat_map (reply_items l.session) (take l.event-index l.event-items)
