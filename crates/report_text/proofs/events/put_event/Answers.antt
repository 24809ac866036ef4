-- What the check asks of `put_event` beyond what it finds by itself.
use Rattle.std.proofs.Common.{◌≡◌, ◌++◌, OnOk, subst, sym}
use Rattle.abstract_log.specs.declared.event.Event.{Event}
use Rattle.report_text.specs.Lines.{words_text}
use Rattle.report_text.specs.Report.{event_words}
use Rattle.report_text.proofs.events.put_event.Goals as goal

pub returns-in-Receive : goal.returns-in-Receive
returns-in-Receive c =
    subst (λ (e : Event). OnOk c.put_received.result (c.put_received.new.text ≡ c.args.text.now ++ words_text (event_words e))) (sym c.in-Receive.is) c.put_received.ensures
