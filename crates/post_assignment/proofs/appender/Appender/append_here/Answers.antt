use Rattle.std.proofs.Common.{◌∙◌, ap, arith}
use Rattle.maintainer.specs.Maintainers.{MaintainerState}
use Rattle.post_assignment.specs.Appending.{Released}
use Rattle.post_assignment.proofs.AppendLemmas.{all_released, here_is}
use Rattle.post_assignment.proofs.appender.Appender.append_here.Goals as goal

pub place-requires-clause-small : goal.place-requires-clause-small
place-requires-clause-small g c =
    let here = here_is c.args.self.now c.args.value c.self.inside.maintainer c.make_room.new.maintainer c.self.inside.waiting.waiting c.next_lid-lid.result c.self.view_is c.make_room.ensures.rest c.next_lid-lid.ensures.value in
    omega (arith, here.lid_is, c.requires.first)

pub returns-clause-ok : goal.returns-clause-ok
returns-clause-ok g c =
    let here = here_is c.args.self.now c.args.value c.self.inside.maintainer c.make_room.new.maintainer c.self.inside.waiting.waiting c.next_lid-lid.result c.self.view_is c.make_room.ensures.rest c.next_lid-lid.ensures.value in
    (here.lid_is, c.release-released.ensures.lids ∙ ap (λ (m : MaintainerState g.row.T.Denot). (all_released m c.self.inside.waiting.waiting).lids) c.place.ensures ∙ ap (λ (r : Released g.row.T.Denot). r.lids) here.all_is)
