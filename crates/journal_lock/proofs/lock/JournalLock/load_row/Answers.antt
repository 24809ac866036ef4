use Rattle.std.proofs.Common.{rules, arith, ◌+◌, List, sym, subst}
use Rattle.flstore_rounds.specs.declared.epochs.Epoch.{Epoch}
use Rattle.journal_lock.proofs.Rows.{IsRow, row_before, row_next, end_listed, end_rounds, end_own, full_listed, full_rounds, full_own}
use Rattle.journal_lock.proofs.lock.JournalLock.load_row.Goals as goal

pub tell_epoch-requires-clause-before : goal.tell_epoch-requires-clause-before
tell_epoch-requires-clause-before c = row_before _ _ _ _ _ _ _ c.loop-at.invariant (omega (arith, c.loop-at-test.true))

pub returns-in-None-clause-listed : goal.returns-in-None-clause-listed
returns-in-None-clause-listed c = let e = c.in-None.ensures in
    end_listed c.args.self.now c.args.self.now.workload.dcs c.args.dc c.args.pass.now _ _ _ c.loop-at.invariant (omega (arith, c.loop-at-test.true)) _ record { known = e.known; own = e.own; noted = e.noted; decodes = e.decoded; told = e.told }

pub returns-in-None-clause-rounds : goal.returns-in-None-clause-rounds
returns-in-None-clause-rounds c = let e = c.in-None.ensures in
    end_rounds c.args.self.now c.args.self.now.workload.dcs c.args.dc c.args.pass.now _ _ _ c.loop-at.invariant (omega (arith, c.loop-at-test.true)) c.tell_epoch.new.pass record { known = e.known; own = e.own; noted = e.noted; decodes = e.decoded; told = e.told } c.requires.dc

pub returns-in-None-clause-own : goal.returns-in-None-clause-own
returns-in-None-clause-own c = let e = c.in-None.ensures in
    end_own c.args.self.now c.args.self.now.workload.dcs c.args.dc c.args.pass.now _ _ _ c.loop-at.invariant (omega (arith, c.loop-at-test.true)) c.tell_epoch.new.pass record { known = e.known; own = e.own; noted = e.noted; decodes = e.decoded; told = e.told }

pub loop-at-preserved : goal.loop-at-preserved
loop-at-preserved c = let e = c.in-Some.ensures in
    subst (λ (l : List Epoch). IsRow c.args.self.now.round c.args.self.now.workload.dcs c.args.dc c.args.pass.now c.tell_epoch.new.pass l (c.loop-at.at + 1)) (sym c.push.ensures)
    (row_next c.args.self.now.round c.args.self.now.workload.dcs c.args.dc c.args.pass.now _ _ _ c.loop-at.invariant (omega (arith, c.loop-at-test.true)) _ c.in-Some.epoch record { known = e.known; own = e.own; noted = e.noted; decodes = e.decoded; told = e.told })

pub returns-clause-listed : goal.returns-clause-listed
returns-clause-listed c = full_listed c.args.self.now c.args.self.now.workload.dcs c.args.dc c.args.pass.now _ _ _ c.loop-at.invariant (omega (arith, c.loop-at-test.false, c.loop-at.auto.at-end))

pub returns-clause-rounds : goal.returns-clause-rounds
returns-clause-rounds c = full_rounds c.args.self.now c.args.self.now.workload.dcs c.args.dc c.args.pass.now _ _ _ c.loop-at.invariant (omega (arith, c.loop-at-test.false, c.loop-at.auto.at-end)) c.requires.dc

pub returns-clause-own : goal.returns-clause-own
returns-clause-own c = full_own c.args.self.now c.args.self.now.workload.dcs c.args.dc c.args.pass.now _ _ _ c.loop-at.invariant (omega (arith, c.loop-at-test.false, c.loop-at.auto.at-end))
