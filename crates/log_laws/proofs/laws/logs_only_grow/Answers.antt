use Rattle.std.proofs.Common.{ap, ◌∙◌}
use Rattle.abstract_log.specs.Worlds.{log_of, start}
use Rattle.abstract_log.specs.Runs.{world_of}
use Rattle.log_laws.proofs.Runs.{after_all-append, CanAllHappen-front, CanAllHappen-rest}
use Rattle.log_laws.proofs.LawfulRuns.{lawful, all_more}
use Rattle.log_laws.proofs.laws.logs_only_grow.Goals as goal

pub returns : goal.returns
returns c = λ load events more run d.
    let rest = all_more (world_of load events) more d (lawful load events (CanAllHappen-front (start load) events more run)) (CanAllHappen-rest (start load) events more run) in
    (rest.0, ap (λ w. log_of w d) (after_all-append (start load) events more) ∙ rest.1)
