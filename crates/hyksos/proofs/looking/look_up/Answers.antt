use Rattle.std.proofs.Common.{refl, sym, ap, ◌∙◌}
use Rattle.hyksos.specs.declared.looking.Seen.TheVariants.{Key}
use Rattle.hyksos.proofs.Looks.{told_first, put_seen}
use Rattle.hyksos.proofs.looking.look_up.Goals as goal

pub shown-requires-clause-first : goal.shown-requires-clause-first
shown-requires-clause-first g c = told_first c.requires.log.0 (g.V.Shelf.held c.args.shelf.now) c.args.key.now c.args.s c.in-Found.lid (sym (c.in-Found.ensures c.requires.log.0 c.requires.log.1))

pub returns-in_ok-found_value-in-Filled : goal.returns-in_ok-found_value-in-Filled
returns-in_ok-found_value-in-Filled g c = λ log shows.
    ap Key c.in_ok-found_value-in-Filled.ensures
    ∙ put_seen log (g.V.Shelf.held c.args.shelf.now) c.args.key.now c.args.s c.in-Found.lid c.in-Filled.rec.now (sym (c.in-Found.ensures log shows)) (c.in-Filled.ensures.filled log c.in-Filled.rec.now shows refl)
