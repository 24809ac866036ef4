use Rattle.std.proofs.Common.{◌≡◌, rules, None}
use Rattle.hyksos.specs.Shelves.{pin_of}
use Rattle.hyksos.proofs.Looks.{nothing_taken}
use Rattle.hyksos.proofs.session.Session.look.Goals as goal

pub returns-in-Pinned-clause-refused : goal.returns-in-Pinned-clause-refused
returns-in-Pinned-clause-refused g c =
    let none : pin_of (g.V.Shelf.held c.args.shelf.now) c.self.inside.number ≡ None = search rules in
    nothing_taken c.head-head.result (g.V.Shelf.held c.args.shelf.now) (g.V.Shelf.held c.pin.new.self) (g.V.Shelf.held c.look_first.new.shelf) c.args.self.now _ c.look_first.new.self c.look_first.result c.self.view_is none c.in-Pinned.ensures.answer c.pin.ensures.held c.look_first.ensures.refused
