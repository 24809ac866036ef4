-- The loops of `tags_value`: what holds at each turn, and why they end.
use Rattle.std.proofs.Common.{◌≡◌, map, take}
use Rattle.serde_json.specs.View.{view}
use Rattle.report_text.specs.Json.{text_data}
use Rattle.report_text.proofs.json_form.tags_value.Given as goal

abbrev pub invariant-loop-tag : goal.invariant-loop-tag
invariant-loop-tag l = map view l.items.items ≡ map text_data (take l.tag-index l.tag-items)
