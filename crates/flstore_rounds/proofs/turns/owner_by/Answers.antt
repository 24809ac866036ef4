use Rattle.flstore_rounds.proofs.OwnerLemmas.{found, partitioned}
use Rattle.flstore_rounds.proofs.turns.owner_by.Goals as goal

pub begun-requires : goal.begun-requires
begun-requires c = partitioned (record { round = c.args.round; list = c.args.epochs.now }) c.args.p c.requires.rounds

pub overflow_sub-epoch : goal.overflow_sub-epoch
overflow_sub-epoch c = (found (record { round = c.args.round; list = c.args.epochs.now }) c.args.p c.begun.result (record { start = 0; members = 0 }) c.requires.rounds c.requires.first c.begun.ensures.bound c.begun.ensures.parts).some

pub overflow_sub-result : goal.overflow_sub-result
overflow_sub-result c = (found (record { round = c.args.round; list = c.args.epochs.now }) c.args.p c.begun.result (record { start = 0; members = 0 }) c.requires.rounds c.requires.first c.begun.ensures.bound c.begun.ensures.parts).from

pub returns-clause-value : goal.returns-clause-value
returns-clause-value c = (found (record { round = c.args.round; list = c.args.epochs.now }) c.args.p c.begun.result (record { start = 0; members = 0 }) c.requires.rounds c.requires.first c.begun.ensures.bound c.begun.ensures.parts).value

pub returns-clause-member : goal.returns-clause-member
returns-clause-member c = (found (record { round = c.args.round; list = c.args.epochs.now }) c.args.p c.begun.result (record { start = 0; members = 0 }) c.requires.rounds c.requires.first c.begun.ensures.bound c.begun.ensures.parts).member
