use Rattle.std.proofs.Common.{◌≡◌, Some, slice_get, ap, sym, ◌∙◌, arith}
use Rattle.std.specs.Option.{option_copied}
use Rattle.abstract_step.proofs.Opening.{no_session, no_commands, opened, not_begun, not_next}
use Rattle.abstract_step.proofs.parts.open_command.Goals as goal
use Rattle.abstract_step.proofs.parts.open_command.Goals.{In-Some-get, else-standing-via-then-standing+then-k-gt0+else-standing-k, else-standing-via-then-standing+else-k-gt0, else-standing-via-else-standing}

pub returns-in_default : goal.returns-in_default
returns-in_default c = no_session c.args.world.now c.args.s c.args.k (sym c.get.ensures.value ∙ ap option_copied c.in_default.is)

pub returns-in_default-get : goal.returns-in_default-get
returns-in_default-get c = no_commands c.args.world.now c.args.s c.args.k (sym c.get-2.ensures.value ∙ ap option_copied c.in_default-get.is)

has_standing : (c : In-Some-get) → slice_get c.args.world.now.sessions c.args.s ≡ Some c.in-Some.standing.now
has_standing c = sym c.get.ensures.value ∙ ap option_copied c.in-Some.is

has_plan : (c : In-Some-get) → slice_get c.args.world.now.workload.sessions c.args.s ≡ Some c.in-Some-get.plan.now
has_plan c = sym c.get-2.ensures.value ∙ ap option_copied c.in-Some-get.is

pub returns-then-standing-k : goal.returns-then-standing-k
returns-then-standing-k c = let d = (goal.at.returns-then-standing-k c).In-Some-get in
    c.get-then-standing-k.ensures.value
    ∙ opened c.args.world.now c.args.s c.args.k c.in-Some.standing.now c.in-Some-get.plan.now (has_standing d) (has_plan d) c.if-standing.true (omega arith)

pub returns-else-standing : goal.returns-else-standing
returns-else-standing c = let d = (goal.at.returns-else-standing c).In-Some-get in
    elim c.else-standing.branch [
      | else-standing-via-then-standing+then-k-gt0+else-standing-k w ↦ not_next c.args.world.now c.args.s c.args.k c.in-Some.standing.now c.in-Some-get.plan.now (has_standing d) (has_plan d) (omega arith)
      | else-standing-via-then-standing+else-k-gt0 w ↦ not_next c.args.world.now c.args.s c.args.k c.in-Some.standing.now c.in-Some-get.plan.now (has_standing d) (has_plan d) (omega arith)
      | else-standing-via-else-standing w ↦ not_begun c.args.world.now c.args.s c.args.k c.in-Some.standing.now c.in-Some-get.plan.now (has_standing d) (has_plan d) w.if-standing.false
    ]
