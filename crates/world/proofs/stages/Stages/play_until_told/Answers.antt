use Rattle.std.proofs.Common.{sym, subst, ◌∙◌}
use Rattle.stage_world.specs.Settling.{telling_rounds, is_unfinished}
use Rattle.world.specs.Taking.{HasTaken}
use Rattle.world.proofs.KnownLemmas.{known_of}
use Rattle.world.proofs.NearerLemmas.{tells_end, pass_nearer}
use Rattle.world.proofs.SettledLemmas.{loop_done, none_so_far, one_pass_more, still_taken}
use Rattle.world.proofs.stages.Stages.play_until_told.Goals as goal

pub loop-self-init : goal.loop-self-init
loop-self-init c = none_so_far is_unfinished telling_rounds _

pub play_and_tell-requires : goal.play_and_tell-requires
play_and_tell-requires c = still_taken _ _ _ c.loop-self.invariant c.requires.taken

pub loop-self-preserved : goal.loop-self-preserved
loop-self-preserved c =
    one_pass_more is_unfinished telling_rounds _ _ _ c.loop-self.invariant (λ script ts h. sym (c.is_unfinished.ensures _ (known_of script ts _ (subst (HasTaken script ts) (sym c.self.view_is) h))) ∙ c.loop-self-test.true) c.in_ok-play_and_tell.ensures

pub loop-self-smaller : goal.loop-self-smaller
loop-self-smaller c =
    pass_nearer is_unfinished telling_rounds _ _ _ _ (tells_end _ c.telling_ends.ensures c.requires.taken c.requires.calm c.requires.answered) c.loop-self.invariant (λ script ts h. sym (c.is_unfinished.ensures _ (known_of script ts _ (subst (HasTaken script ts) (sym c.self.view_is) h))) ∙ c.loop-self-test.true) c.in_ok-play_and_tell.ensures

pub returns : goal.returns
returns c =
    loop_done is_unfinished telling_rounds _ _ c.loop-self.invariant (λ script ts h. sym (c.is_unfinished.ensures _ (known_of script ts _ (subst (HasTaken script ts) (sym c.self.view_is) h))) ∙ c.loop-self-test.false)
