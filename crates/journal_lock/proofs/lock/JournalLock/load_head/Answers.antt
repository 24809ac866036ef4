use Rattle.std.proofs.Common.{arith, ◌≡◌, ap, sym, ◌∙◌}
use Rattle.flstore_rounds.specs.Heads.{head}
use Rattle.journal_lock.specs.Words.{mark_word}
use Rattle.journal_lock.specs.Heads.{pair_of, settled}
use Rattle.journal_lock.specs.Passes.{Lock, Ticket}
use Rattle.journal_lock.proofs.Rows.{found_settled}
use Rattle.journal_lock.proofs.lock.JournalLock.load_head.Goals as goal

pub returns-clause-value : goal.returns-clause-value
returns-clause-value c = let round = ap (λ (l : Lock). l.round) c.self.view_is in
    c.head_of.ensures.value ∙ ((λ i. head (pair_of (record { round = round i; list = c.as_slice.ensures.value i }) (c.load_marks-marks.ensures.known i))) ∙ sym c.load_row-row.ensures.listed.head_is)

pub returns-clause-no_less : goal.returns-clause-no_less
returns-clause-no_less c =
    let round = c.args.self.now.round in let d = c.args.dc in
    let marks = ap (λ (t : Ticket). head (settled round d t.notes)) c.load_marks-marks.ensures.noted in
    let same = ap head (found_settled round d (mark_word d 0) c.load_marks-marks.result c.args.pass.now.notes) in
    omega (arith, marks, same, c.load_row-row.ensures.listed.no_less, returns-clause-value c)
