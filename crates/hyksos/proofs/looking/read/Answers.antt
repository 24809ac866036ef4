use Rattle.std.proofs.Common.{◌≡◌, IfOk, arith, refl, sym, subst}
use Rattle.hyksos.proofs.Looks.{read_filled}
use Rattle.hyksos.proofs.looking.read.Goals as goal

pub returns-in-Filled : goal.returns-in-Filled
returns-in-Filled g c = λ log shows.
    subst (λ a. IfOk c.shown_record.result (λ shown. shown ≡ a))
    (sym (read_filled log (g.V.Shelf.held c.args.shelf.now).gone c.args.lid c.args.head c.in-Filled.rec.now (omega (arith, c.if-head-lid.false)) (λ has. (let bad = c.in-Filled.ensures.gone.1 has in cc)) (c.in-Filled.ensures.filled log c.in-Filled.rec.now shows refl)))
    c.shown_record.ensures
