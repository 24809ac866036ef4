-- The loops of `counts_value`: what holds at each turn, and why they end.
use Rattle.std.proofs.Common.{◌≡◌, map, take}
use Rattle.serde_json.specs.View.{view}
use Rattle.report_text.specs.Json.{number_data}
use Rattle.report_text.proofs.json_form.counts_value.Given as goal

abbrev pub invariant-loop-number : goal.invariant-loop-number
invariant-loop-number l = map view l.items.items ≡ map number_data (take l.number l.counts)
