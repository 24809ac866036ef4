use Rattle.std.proofs.Common.{rules, arith, ◌≡◌, ◌||◌, ℕ, ◌≤◌, ◌++◌, List, subst, ap, ◌∙◌, sym}
use Rattle.flstore_rounds.specs.Heads.{head}
use Rattle.journal_lock.specs.declared.law.Note.{Note}
use Rattle.journal_lock.specs.declared.law.Plan.{Plan}
use Rattle.journal_lock.specs.Heads.{settled}
use Rattle.abstract_log.specs.declared.event.Event.{Event}
use Rattle.journal_lock.specs.declared.duty.Duty.{Duty}
use Rattle.journal_lock.specs.declared.law.Names.{Names}
use Rattle.journal_lock.specs.Law.{Within, longer}
use Rattle.abstract_log.specs.declared.command.Workload.{Workload}
use Rattle.journal_lock.specs.Pins.{PinsAgree, Stake, pins_of_both}
use Rattle.journal_lock.specs.Names.{IsNamed}
use Rattle.journal_lock.proofs.Steps.{join_step, learn_by}
use Rattle.journal_lock.proofs.lock.JournalLock.join_both.Goals as goal
use Rattle.journal_lock.proofs.lock.JournalLock.join_both.Goals.{then-pass, else-pass}

pub join_seat-requires : goal.join_seat-requires
join_seat-requires g c = (
  search rules,
  search rules,
  c.other.invariant.empty,
  omega (arith, c.self.invariant.0),
  join_step _ _ _ _ c.pass.invariant.stage _ _ c.other.invariant.stage,
)

pub load-requires : goal.load-requires
load-requires g c =
    let round = sym (c.requires.plan.1 ∙ (sym (ap (λ l. l.round) c.self.view_is) ∙ ap (λ (k : Plan). k.round) c.self.invariant.2)) in
    let load = sym (c.requires.plan.0 ∙ (sym (ap (λ l. l.workload) c.self.view_is) ∙ ap (λ (k : Plan). k.workload) c.self.invariant.2)) in
    (search rules, omega (arith, c.self.invariant.0), learn_by _ _ _ _ _ g.C.Planned.load g.C.Planned.round load round)

pub returns-clause-one : goal.returns-clause-one
returns-clause-one g c =
    let now = c.join_seat.ensures.2 in let told = c.load.ensures.2 in
    subst (λ (z : List Duty × List Event × List Event). Within z.0 z.1 z.2)
    (λ i. ((ap (λ m. m.0.hold.left.duties) now ∙ ap (λ t. t.duties) c.pass.view_is) i, (ap (λ m. m.0.hold.left.seen) now ∙ ap (λ t. t.seen) c.pass.view_is) i, sym (ap (λ m. m.0.hold.now.seen) told.5) i)) told.0

pub returns-clause-two : goal.returns-clause-two
returns-clause-two g c =
    let now = c.join_seat.ensures.2 in let told = c.load.ensures.2 in
    subst (λ (z : List Duty × List Event × List Event). Within z.0 z.1 z.2)
    (λ i. ((ap (λ m. m.0.hold.right.duties) now ∙ ap (λ t. t.duties) c.other.view_is) i, (ap (λ m. m.0.hold.right.seen) now ∙ ap (λ t. t.seen) c.other.view_is) i, sym (ap (λ m. m.0.hold.now.seen) told.5) i)) told.1

pub returns-clause-named : goal.returns-clause-named
returns-clause-named g c =
    let told = c.load.ensures.2 in subst (λ (z : List Event × Names). IsNamed z.0 z.1) (λ i. (sym (ap (λ m. m.0.hold.now.seen) told.5) i, sym (ap (λ m. m.0.names) told.5) i)) told.2

pub returns-clause-heads : goal.returns-clause-heads
returns-clause-heads g c =
    let now = c.join_seat.ensures.2 in let told = c.load.ensures.2 in
    let notes = ap (λ m. m.0.notes) now ∙ (λ i. ap (λ t. t.notes) c.pass.view_is i ++ ap (λ t. t.notes) c.other.view_is i) in
    λ d low. subst (λ (z : ℕ × List Note). (head (settled z.0 d c.args.pass.now.notes) ≤ head (settled z.0 d z.1)) × (head (settled z.0 d c.args.other.notes) ≤ head (settled z.0 d z.1))) (λ i. (c.requires.plan.1 i, sym (ap (λ m. m.0.notes) told.5) i)) (told.3 d c.args.pass.now.notes c.args.other.notes low notes)

pub returns-clause-pins : goal.returns-clause-pins
returns-clause-pins g c =
    let now = c.join_seat.ensures.2 in let told = c.load.ensures.2 in
    subst (λ (z : Workload × Stake × Stake). PinsAgree z.0 z.1 z.2)
    (λ i. (
      c.requires.plan.0 i,
      ((ap (λ m. m.0.hold.left.duties) now ∙ ap (λ t. t.duties) c.pass.view_is) i, (ap (λ m. m.0.pins.left) now ∙ ap (λ t. t.pins) c.pass.view_is) i),
      ((ap (λ m. m.0.hold.right.duties) now ∙ ap (λ t. t.duties) c.other.view_is) i, (ap (λ m. m.0.pins.right) now ∙ ap (λ t. t.pins) c.other.view_is) i),
    )) told.4

pub returns-clause-all : goal.returns-clause-all
returns-clause-all g c =
    let first = c.join_seat.ensures.2 in let now = c.load.ensures.2.5 in let was = c.pass.view_is in let also = c.other.view_is in
    let flag : c.if-pass.pass ≡ (c.args.pass.now.failed || c.args.other.failed) = elim c.if-pass.branch [
      | then-pass w ↦ search rules
      | else-pass w ↦ search rules
    ] in
    λ i. record {
      table = (c.load.ensures.0 ∙ (c.join_seat.ensures.0 ∙ ap (λ t. t.table) was)) i;
      workload = (ap (λ m. m.0.hold.load) now ∙ (ap (λ m. m.0.hold.load) first ∙ ap (λ t. t.workload) was)) i;
      seen = (ap (λ m. m.0.hold.now.seen) now ∙ (ap (λ m. m.0.hold.now.seen) first ∙ (λ j. longer (ap (λ t. t.seen) was j) (ap (λ t. t.seen) also j)))) i;
      duties = (ap (λ m. m.0.hold.now.duties) now ∙ (ap (λ m. m.0.hold.now.duties) first ∙ (λ j. ap (λ t. t.duties) was j ++ ap (λ t. t.duties) also j))) i;
      failed = flag i;
      notes = (ap (λ m. m.0.notes) now ∙ (ap (λ m. m.0.notes) first ∙ (λ j. ap (λ t. t.notes) was j ++ ap (λ t. t.notes) also j))) i;
      hand = (ap (λ m. m.0.names.hand) now ∙ (ap (λ m. m.0.names.hand) first ∙ (λ j. ap (λ t. t.hand) was j ++ ap (λ t. t.hand) also j))) i;
      placed = (ap (λ m. m.0.names.placed) now ∙ (ap (λ m. m.0.names.placed) first ∙ (λ j. ap (λ t. t.placed) was j ++ ap (λ t. t.placed) also j))) i;
      pins = (ap (λ m. m.0.pins.now) now ∙ (ap (λ m. m.0.pins.now) first ∙ (λ j. pins_of_both (ap (λ t. t.workload) was j) (ap (λ t. t.duties) was j) (ap (λ t. t.pins) was j) (ap (λ t. t.pins) also j) 64))) i;
    }
