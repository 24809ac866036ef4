use Rattle.std.proofs.Common.{◌≡◌, ◌%◌, ◌++◌, [], ◌∷◌, ◌∙◌, sym, ap, arith, not, length, map, slice_set}
use Rattle.std.proofs.Math.Nat.{mod-lt}
use Rattle.std.proofs.lemmas.List.{get_or_read_under}
use Rattle.causal_deps.specs.Counts.{greater_rows}
use Rattle.causal_deps.specs.declared.record.Item.TheVariants.{External}
use Rattle.abstract_log.specs.declared.event.Event.TheVariants.{Receive}
use Rattle.record_codec.specs.declared.message.Message.{Message as MessageValue}
use Rattle.stage_world.specs.Stages.{batcher_at}
use Rattle.stage_world.specs.MoreTurns.{names_of, received_outcome}
use Rattle.stage_turns.proofs.ChangeLemmas.{news_of, or_first, or_second}
use Rattle.stage_turns.proofs.receiving.deliver.Goals as goal
use Rattle.stage_turns.proofs.receiving.deliver.Goals.{then-brings_records, else-brings_records}

pub covers-raises_counts-requires : goal.covers-raises_counts-requires
covers-raises_counts-requires c =
    let told = c.in_ok-message.ensures.is c.requires.told.message c.requires.told.spelled in
    ap (λ rows. length rows) c.table.ensures ∙ sym (ap (λ (m : MessageValue). length m.table) told ∙ c.requires.told.spelled.inside.fits.square.rows)

pub merge-requires : goal.merge-requires
merge-requires c =
    let told = c.in_ok-message.ensures.is c.requires.told.message c.requires.told.spelled in
    sym (ap (λ (m : MessageValue). length m.table) told ∙ c.requires.told.spelled.inside.fits.square.rows)

pub returns-clause-table : goal.returns-clause-table
returns-clause-table c = λ m spelled. c.merge.ensures ∙ ap (λ (x : MessageValue). record c.args.table.now { table = greater_rows c.args.table.now.table x.table }) (c.in_ok-message.ensures.is m spelled)

pub returns-clause-batchers : goal.returns-clause-batchers
returns-clause-batchers c = λ m spelled.
    let b = c.args.r % c.len.result in
    let here : c.item_mut.result.now ≡ batcher_at c.args.batchers.now b =
    get_or_read_under c.args.batchers.now b c.len.result c.item_mut.result.now [] c.item_mut.ensures.value (mod-lt c.args.r (omega (arith, c.len.ensures, c.requires.some))) c.len.ensures in
    ap (λ batcher. slice_set c.args.batchers.now b batcher)
    (c.in_ok-take_records.ensures ∙ ap (λ batcher. batcher ++ map External c.in_ok-message.message.records) here
    ∙ ap (λ (x : MessageValue). batcher_at c.args.batchers.now b ++ map External x.records) (c.in_ok-message.ensures.is m spelled))
    ∙ ap (λ n. slice_set c.args.batchers.now (c.args.r % n) (batcher_at c.args.batchers.now (c.args.r % n) ++ map External m.records)) c.len.ensures

pub returns-clause-outcome : goal.returns-clause-outcome
returns-clause-outcome c = λ m spelled.
    c.outcome_of-outcome.ensures ∙ ap received_outcome c.in_ok-names_of.ensures ∙ ap (λ (x : MessageValue). received_outcome (names_of x.records)) (c.in_ok-message.ensures.is m spelled)

pub returns-clause-events : goal.returns-clause-events
returns-clause-events c = λ m spelled.
    let told = c.in_ok-message.ensures.is c.requires.told.message c.requires.told.spelled in
    let sender : c.args.from ≡ c.in_ok-message.message.from = sym (ap (λ (x : MessageValue). x.from) told ∙ c.requires.told.sender) in
    c.in_ok-events.ensures
    ∙ ap (λ from. Receive c.args.dc from c.in_ok-message.message.table (names_of c.in_ok-message.message.records) ∷ []) sender
    ∙ ap (λ (x : MessageValue). Receive c.args.dc x.from x.table (names_of x.records) ∷ []) (c.in_ok-message.ensures.is m spelled)

pub returns-clause-changed : goal.returns-clause-changed
returns-clause-changed c = λ m spelled.
    news_of (length c.args.table.now.table) c.args.table.now.table c.table.result c.in_ok-message.message m c.in_ok-message.ensures.square spelled.inside.fits.square c.table.ensures (c.in_ok-message.ensures.is m spelled)
    c.has_some-brings_records.result c.covers-raises_counts.result c.if-brings_records.result c.has_some-brings_records.ensures c.covers-raises_counts.ensures
    (elim c.if-brings_records.branch [
      | then-brings_records w ↦ or_first c.has_some-brings_records.result (not c.covers-raises_counts.result) c.if-brings_records.result w.if-brings_records.true w.result-is
      | else-brings_records w ↦ or_second c.has_some-brings_records.result (not c.covers-raises_counts.result) c.if-brings_records.result w.if-brings_records.false w.result-is
    ])
