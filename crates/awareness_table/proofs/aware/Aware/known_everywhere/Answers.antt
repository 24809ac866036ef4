use Rattle.awareness_table.proofs.Known.{known_by_test}
use Rattle.awareness_table.proofs.aware.Aware.known_everywhere.Goals as goal

pub returns-clause-test : goal.returns-clause-test
returns-clause-test c = known_by_test c.args.self.now.table c.args.h c.args.t c.least.result c.least.ensures
