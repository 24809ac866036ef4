use Rattle.std.proofs.Common.{arith, ◌≡◌, List, ap, sym, subst, ◌∙◌}
use Rattle.std.proofs.lemmas.List.{take_all}
use Rattle.flstore_rounds.specs.Epochs.{EpochList}
use Rattle.journal_lock.specs.Listing.{IsListed}
use Rattle.journal_lock.specs.Passes.{Lock}
use Rattle.journal_lock.proofs.lock.JournalLock.load_epochs.Goals as goal

pub returns-clause-ok : goal.returns-clause-ok
returns-clause-ok c =
    let round = ap (λ (l : Lock). l.round) c.self.view_is in
    let items = c.loop-epoch.invariant.0 ∙ (take_all c.loop-epoch.epoch-index c.as_slice-epoch-items.result.now (omega (arith, c.loop-epoch-test.false)) ∙ c.as_slice-epoch-items.ensures.value) in
    subst (λ (e : EpochList). IsListed c.args.self.now c.args.dc c.args.pass.now c.load_row-row.new.pass e) ((λ i. record { round = sym round i; list = sym items i }) ∙ sym c.from_list.ensures) c.load_row-row.ensures.listed
