-- The loops of `replies_value`: what holds at each turn, and why they end.
use Rattle.std.proofs.Common.{◌≡◌, map}
use Rattle.serde_json.specs.View.{view}
use Rattle.report_text.specs.Json.{session_items}
use Rattle.report_text.specs.Numbered.{below}
use Rattle.report_text.proofs.json_form.replies_value.Given as goal

abbrev pub invariant-loop-session : goal.invariant-loop-session
invariant-loop-session l = map view l.items.items ≡ below (session_items l.events) l.session
