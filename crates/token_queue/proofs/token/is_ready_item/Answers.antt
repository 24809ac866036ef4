use Rattle.std.proofs.Common.{◌≡◌, sym, subst}
use Rattle.token_queue.specs.Items.{is_ready}
use Rattle.token_queue.proofs.ItemLemmas.{draft_tested, record_tested}
use Rattle.token_queue.proofs.token.is_ready_item.Goals as goal

pub returns-in-Local : goal.returns-in-Local
returns-in-Local c = subst (λ item. c.draft_ready.result ≡ is_ready c.args.counts.now item) (sym c.in-Local.is) (draft_tested c.args.counts.now c.in-Local.draft c.draft_ready.result c.draft_ready.ensures)

pub returns-in-External : goal.returns-in-External
returns-in-External c = subst (λ item. c.ready.result ≡ is_ready c.args.counts.now item) (sym c.in-External.is) (record_tested c.args.counts.now c.in-External.rec c.ready.result c.ready.ensures)
