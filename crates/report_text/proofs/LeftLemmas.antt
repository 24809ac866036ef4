-- What a run leaves has a part for each datacentre.
use Rattle.std.proofs.Common.{◌≡◌, ◌≤◌, List, [], ◌∷◌, length, refl, ap, ◌∙◌, arith}
use Rattle.std.proofs.lemmas.List.{length-map}
use Rattle.std.proofs.lemmas.List.FromFn.{length-range_with_len}
use Rattle.std.specs.List.{range_with_len}
use Rattle.cz_base.specs.declared.limits.TheConstants.{DATACENTRES}
use Rattle.abstract_log.specs.declared.command.Workload.{Workload}
use Rattle.abstract_log.specs.declared.event.Event.{Event}
use Rattle.abstract_log.specs.declared.event.Event.TheVariants.{Submit, Append, Receive, Add, Learn, Reply, Collect}
use Rattle.abstract_log.specs.declared.left.LeftAt.{LeftAt}
use Rattle.abstract_log.specs.declared.world.World.{World}
use Rattle.abstract_log.specs.Worlds.{start}
use Rattle.abstract_log.specs.Shapes.{FitsWorkload}
use Rattle.abstract_log.specs.Steps.{after}
use Rattle.abstract_log.specs.Runs.{after_all, world_of}
use Rattle.abstract_log.specs.Left.{left_at, left_of}

same_load : (w : World) (event : Event) → (after w event).workload ≡ w.workload
same_load w (Submit s k) = refl
same_load w (Append d s k lid toid) = refl
same_load w (Receive d e table names) = refl
same_load w (Add d lid h toid) = refl
same_load w (Learn d row) = refl
same_load w (Reply d s k at answer) = refl
same_load w (Collect d lid) = refl

load_kept : (w : World) (events : List Event) → (after_all w events).workload ≡ w.workload
load_kept w [] = refl
load_kept w (event ∷ more) = load_kept (after w event) more ∙ same_load w event

-- so many parts as datacentres, of which there are few enough
pub few_left : (load : Workload) (events : List Event) (left : List LeftAt) → FitsWorkload load → left ≡ left_of (world_of load events) → length left ≤ DATACENTRES
few_left load events left fits is =
    let w : World = world_of load events in
    let dcs : w.workload.dcs ≡ load.dcs = ap (λ (l : Workload). l.dcs) (load_kept (start load) events) in
    omega (arith, ap (length {A = LeftAt}) is, length-map (range_with_len 0 w.workload.dcs) (left_at w), length-range_with_len 0 w.workload.dcs, dcs, fits.few)
