use Rattle.std.proofs.Common.{sym, ◌∙◌}
use Rattle.hyksos.proofs.Looks.{looks_with, taken_behind, taken_key, taken_whole, taken_places}
use Rattle.hyksos.proofs.session.Session.look_at.Goals as goal

pub returns-in-Behind-clause-ok : goal.returns-in-Behind-clause-ok
returns-in-Behind-clause-ok g c = λ log command shows found is.
    taken_behind log command (g.V.Shelf.held c.args.shelf.now) c.args.self.now c.read_on.new.self c.args.s c.in-Behind.covered c.index.result (sym (c.in_ok-covered.ensures log command shows is) ∙ c.in-Behind.is) c.read_on.ensures c.index.ensures

pub returns-in_ok-add-in-Key-clause-ok : goal.returns-in_ok-add-in-Key-clause-ok
returns-in_ok-add-in-Key-clause-ok g c = λ log command shows found is.
    taken_key log command (g.V.Shelf.held c.args.shelf.now) (g.V.Shelf.held c.go_on.new.shelf) c.args.self.now c.add.new.self c.go_on.new.self c.args.s c.in-Key.found c.go_on.result is
    (sym (c.in_ok-covered.ensures log command shows is) ∙ c.in-Key.is) found c.in_ok-add-in-Key.ensures.ok (c.go_on.ensures.taken log)

pub returns-in-Whole-clause-ok : goal.returns-in-Whole-clause-ok
returns-in-Whole-clause-ok g c = λ log command shows found is.
    taken_whole log command (g.V.Shelf.held c.args.shelf.now) (g.V.Shelf.held c.go_on-in-Whole.new.shelf) c.args.self.now c.go_on-in-Whole.new.self c.args.s c.go_on-in-Whole.result is
    (looks_with c.args.self.now command is c.requires.looks) (sym (c.in_ok-covered.ensures log command shows is) ∙ c.in-Whole.is) (c.go_on-in-Whole.ensures.taken log found)

pub returns-in-Places-clause-ok : goal.returns-in-Places-clause-ok
returns-in-Places-clause-ok g c = λ log command shows found is.
    taken_places log command (g.V.Shelf.held c.args.shelf.now) (g.V.Shelf.held c.give_back.new.shelf) c.args.self.now c.give_back.new.self c.args.s c.in-Places.places c.give_back.result
    (sym (c.in_ok-covered.ensures log command shows is) ∙ c.in-Places.is) c.give_back.ensures.taken
