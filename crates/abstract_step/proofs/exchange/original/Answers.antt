use Rattle.std.specs.Option.{option_copied}
use Rattle.abstract_log.proofs.ShapesLemmas.{original_fits}
use Rattle.abstract_step.proofs.exchange.original.Goals as goal

pub returns-clause-fits : goal.returns-clause-fits
returns-clause-fits c = original_fits c.args.world.now c.args.h c.args.t (option_copied c.find_original.result) c.requires c.find_original.ensures
