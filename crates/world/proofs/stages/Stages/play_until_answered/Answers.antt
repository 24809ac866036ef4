use Rattle.std.proofs.Common.{sym, subst, ◌∙◌}
use Rattle.stage_world.specs.Settling.{answering_rounds, is_answering}
use Rattle.world.specs.Settled.{AreKnown}
use Rattle.world.specs.Taking.{HasTaken, StagesState}
use Rattle.world.proofs.KnownLemmas.{known_of}
use Rattle.world.proofs.NearerLemmas.{answering_calm, answers_end, pass_nearer}
use Rattle.world.proofs.SettledLemmas.{loop_done, none_so_far, one_pass_more, still_taken}
use Rattle.world.proofs.stages.Stages.play_until_answered.Goals as goal

pub loop-self-init : goal.loop-self-init
loop-self-init c = none_so_far is_answering answering_rounds _

pub play_where_waiting-requires : goal.play_where_waiting-requires
play_where_waiting-requires c = still_taken _ _ _ c.loop-self.invariant c.requires.taken

pub loop-self-preserved : goal.loop-self-preserved
loop-self-preserved c =
    one_pass_more is_answering answering_rounds _ _ _ c.loop-self.invariant (λ script ts h. sym (c.is_answering.ensures _ (known_of script ts _ (subst (HasTaken script ts) (sym c.self.view_is) h))) ∙ c.loop-self-test.true) c.in_ok-play_where_waiting.ensures

pub loop-self-smaller : goal.loop-self-smaller
loop-self-smaller c =
    pass_nearer is_answering answering_rounds _ _ _ _ (answers_end _ c.answering_ends.ensures c.requires.taken) c.loop-self.invariant (λ script ts h. sym (c.is_answering.ensures _ (known_of script ts _ (subst (HasTaken script ts) (sym c.self.view_is) h))) ∙ c.loop-self-test.true) c.in_ok-play_where_waiting.ensures

pub returns-clause-turns : goal.returns-clause-turns
returns-clause-turns c =
    loop_done is_answering answering_rounds _ _ c.loop-self.invariant (λ script ts h. sym (c.is_answering.ensures _ (known_of script ts _ (subst (HasTaken script ts) (sym c.self.view_is) h))) ∙ c.loop-self-test.false)

pub returns-clause-answered : goal.returns-clause-answered
returns-clause-answered c z known = sym (c.is_answering.ensures z (subst (λ (s : StagesState). AreKnown z s.network.datacentres) (sym c.self.view_is) known)) ∙ c.loop-self-test.false

pub returns-clause-calm : goal.returns-clause-calm
returns-clause-calm c = answering_calm _ _ c.requires.taken c.requires.calm c.loop-self.invariant
