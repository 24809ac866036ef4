use Rattle.std.proofs.Common.{rules, leb}
use Rattle.std.proofs.lemmas.List.Sorted.{IsPartitionPoint-from_clause}
use Rattle.flstore_rounds.specs.declared.epochs.Epoch.{Epoch}
use Rattle.flstore_rounds.proofs.turns.begun.Goals as goal

pub returns-clause-parts : goal.returns-clause-parts
returns-clause-parts c = IsPartitionPoint-from_clause (λ (e : Epoch). leb e.start c.args.p) c.args.epochs.now c.partition_point.result c.partition_point.ensures.partitioned c.requires (λ a r f called. search rules)
