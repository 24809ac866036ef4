use Rattle.std.proofs.Common.{◌≡◌, [], ◌∷◌, length, sym, subst, ◌∙◌}
use Rattle.abstract_log.specs.declared.script.Step.TheVariants.{Deliver, Send}
use Rattle.stage_world.specs.Settling.{Errand}
use Rattle.world.specs.Links.{AreThere, packets_at}
use Rattle.world.specs.Settled.{Plays}
use Rattle.world.specs.Taking.{HasTaken}
use Rattle.world.proofs.SettledLemmas.{count_of_link, ended_with, link_after, plays_one, sends_and_delivers}
use Rattle.world.proofs.stages.Stages.send_and_deliver.Goals as goal

pub packets_in-newest-requires : goal.packets_in-newest-requires
packets_in-newest-requires c =
    subst (λ (x : Errand). AreThere x.from x.to c.self.inside.network.links) (sym c.errand.view_is)
    (link_after _ _ _ _ c.args.errand.now c.requires.taken c.requires.two (plays_one _ _ _ c.in_ok-take.ensures.taken) (sym c.self.view_is))

pub returns : goal.returns
returns c =
    ended_with c.take-2.result _ _ c.take.new.self c.take-2.new.self c.take-2.ensures.taken
    (λ delivered. sends_and_delivers c.args.errand.now c.packets_in-newest.result _ _ _
    (subst (λ (x : Errand). Plays (λ load z xs. xs ≡ Send x.from x.sender x.to ∷ []) c.args.self.now c.take.new.self) c.errand.view_is (plays_one _ _ _ c.in_ok-take.ensures.taken))
    (λ script ts h.
    subst (λ (x : Errand). c.packets_in-newest.result ≡ length (packets_at c.self.inside.network.links x.from x.to)) c.errand.view_is c.packets_in-newest.ensures
    ∙ count_of_link script ts _ c.args.errand.now.from c.args.errand.now.to (subst (HasTaken script ts) (sym c.self.view_is) h))
    (subst (λ (x : Errand). Plays (λ load z xs. xs ≡ Deliver x.from x.to c.packets_in-newest.result 0 ∷ []) c.take.new.self c.take-2.new.self) c.errand.view_is delivered))
