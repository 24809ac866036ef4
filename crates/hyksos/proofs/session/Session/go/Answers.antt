use Rattle.std.proofs.Common.{refl, sym}
use Rattle.hyksos.proofs.Looks.{taken_write, taken_look, with_write, with_look}
use Rattle.hyksos.proofs.session.Session.go.Goals as goal

pub returns-in-Some-Append-clause-ok : goal.returns-in-Some-Append-clause-ok
returns-in-Some-Append-clause-ok g c = λ log shows found.
    taken_write log (g.V.Shelf.held c.args.shelf.now) c.args.self.now c.write.new.self _ c.write.result (sym c.in-Some-Append.ensures.value) (with_write log (g.V.Shelf.held c.args.shelf.now) c.args.self.now _ _ c.in-Some-Append.field-0-is refl) (c.write.ensures.ok _ (sym c.in-Some-Append.ensures.value))

pub returns-in-Some-Put-clause-ok : goal.returns-in-Some-Put-clause-ok
returns-in-Some-Put-clause-ok g c = λ log shows found.
    taken_write log (g.V.Shelf.held c.args.shelf.now) c.args.self.now c.write-in-Some-Put.new.self _ c.write-in-Some-Put.result (sym c.in-Some-Put.ensures.value) (with_write log (g.V.Shelf.held c.args.shelf.now) c.args.self.now _ _ c.in-Some-Put.field-0-is refl) (c.write-in-Some-Put.ensures.ok _ (sym c.in-Some-Put.ensures.value))

pub returns-in-Some-Del-clause-ok : goal.returns-in-Some-Del-clause-ok
returns-in-Some-Del-clause-ok g c = λ log shows found.
    taken_write log (g.V.Shelf.held c.args.shelf.now) c.args.self.now c.write-in-Some-Del.new.self _ c.write-in-Some-Del.result (sym c.in-Some-Del.ensures.value) (with_write log (g.V.Shelf.held c.args.shelf.now) c.args.self.now _ _ c.in-Some-Del.field-0-is refl) (c.write-in-Some-Del.ensures.ok _ (sym c.in-Some-Del.ensures.value))

pub returns-in-Some-Get-clause-ok : goal.returns-in-Some-Get-clause-ok
returns-in-Some-Get-clause-ok g c = λ log shows found.
    taken_look log (g.V.Shelf.held c.args.shelf.now) (g.V.Shelf.held c.look.new.shelf) c.args.self.now c.look.new.self _ c.look.result (sym c.in-Some-Get.ensures.value) (with_look log (g.V.Shelf.held c.args.shelf.now) c.args.self.now _ _ c.in-Some-Get.field-0-is refl) (c.look.ensures.ok log _ shows found (sym c.in-Some-Get.ensures.value))

pub returns-in-Some-Tx-clause-ok : goal.returns-in-Some-Tx-clause-ok
returns-in-Some-Tx-clause-ok g c = λ log shows found.
    taken_look log (g.V.Shelf.held c.args.shelf.now) (g.V.Shelf.held c.look-in-Some-Tx.new.shelf) c.args.self.now c.look-in-Some-Tx.new.self _ c.look-in-Some-Tx.result (sym c.in-Some-Tx.ensures.value) (with_look log (g.V.Shelf.held c.args.shelf.now) c.args.self.now _ _ c.in-Some-Tx.field-0-is refl)
    (c.look-in-Some-Tx.ensures.ok log _ shows found (sym c.in-Some-Tx.ensures.value))

pub returns-in-Some-Last-clause-ok : goal.returns-in-Some-Last-clause-ok
returns-in-Some-Last-clause-ok g c = λ log shows found.
    taken_look log (g.V.Shelf.held c.args.shelf.now) (g.V.Shelf.held c.look-in-Some-Last.new.shelf) c.args.self.now c.look-in-Some-Last.new.self _ c.look-in-Some-Last.result (sym c.in-Some-Last.ensures.value) (with_look log (g.V.Shelf.held c.args.shelf.now) c.args.self.now _ _ c.in-Some-Last.field-0-is refl)
    (c.look-in-Some-Last.ensures.ok log _ shows found (sym c.in-Some-Last.ensures.value))
