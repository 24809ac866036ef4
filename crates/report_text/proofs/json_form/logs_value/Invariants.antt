-- The loops of `logs_value`: what holds at each turn, and why they end.
use Rattle.std.proofs.Common.{◌≡◌, map, take}
use Rattle.serde_json.specs.View.{view}
use Rattle.report_text.specs.Json.{log_data}
use Rattle.report_text.proofs.json_form.logs_value.Given as goal

abbrev pub invariant-loop-at : goal.invariant-loop-at
invariant-loop-at l = map view l.items.items ≡ map log_data (take l.at-index l.at-items)
