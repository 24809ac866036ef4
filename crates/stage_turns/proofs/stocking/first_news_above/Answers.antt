use Rattle.std.proofs.Common.{◌∙◌, ap, ltb}
use Rattle.std.specs.List.{find}
use Rattle.sender_receiver.specs.Choosing.{is_new}
use Rattle.stage_turns.proofs.NewsLemmas.{both_tests}
use Rattle.stage_turns.proofs.stocking.first_news_above.Goals as goal

pub returns : goal.returns
returns c =
    c.first_news.ensures ∙ ap (find (λ e. is_new c.args.host c.args.known e.value)) c.above.ensures
    ∙ both_tests (λ e. ltb c.args.lid e.lid) (λ e. is_new c.args.host c.args.known e.value) c.args.entries.now
