-- The loops of `log_value`: what holds at each turn, and why they end.
use Rattle.std.proofs.Common.{◌≡◌, map, take}
use Rattle.serde_json.specs.View.{view}
use Rattle.report_text.specs.Json.{row_items}
use Rattle.report_text.specs.Numbered.{flat_map_from}
use Rattle.report_text.proofs.json_form.log_value.Given as goal

abbrev pub invariant-loop-place : goal.invariant-loop-place
invariant-loop-place l = map view l.items.items ≡ flat_map_from row_items 1 (take l.place l.row-items)
