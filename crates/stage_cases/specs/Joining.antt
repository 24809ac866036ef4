-- Scripts in which members join, and what their turns answer.
use Rattle.std.specs.Prelude.{List, [], ◌∷◌}
use Rattle.abstract_log.specs.declared.script.Outcome.{Outcome}
use Rattle.abstract_log.specs.declared.script.Outcome.TheVariants.{NoToken, At, Announced, Busy, LateStart, Idle, AcceptedBy, Active, LateMark, EpochAdded, Member}
use Rattle.abstract_log.specs.declared.script.Script.{Script}
use Rattle.abstract_log.specs.declared.script.Step.TheVariants.{Stamp, Token, Announce, Mark, AddMaintainer, AddQueue}
use Rattle.stage_world.specs.Opening.{one_of_each}
use Rattle.stage_cases.specs.Pieces.{dc_a, dc_b, two_filters}
use Rattle.stage_cases.specs.Reading.{gap_script}

-- Two maintainers join, the second at a later mark, since one that is not above the last start is late. A queue joins the ring,
-- and stamps nothing while the token is elsewhere.
abbrev pub join_script : Script
join_script = record gap_script {
  steps =
      AddMaintainer dc_a 5 ∷ AddMaintainer dc_a 5 ∷ AddMaintainer dc_a 9
      ∷ AddQueue dc_a ∷ Stamp dc_a 1 ∷ Token dc_a ∷ Stamp dc_a 0 ∷ [];
}

abbrev pub join_answers : List Outcome
join_answers =
    EpochAdded 5 3 ∷ LateMark 5 ∷ EpochAdded 9 4
    ∷ Member 1 ∷ NoToken ∷ At 1 ∷ NoToken ∷ []

-- From B's third record on A is to have a third filter. While that is announced nothing else can be; both filters accept it,
-- then it is in force, and that mark is late.
abbrev pub filter_script : Script
filter_script = record {
  workload = record { dcs = 2; sessions = [] };
  round = 1;
  sizes = two_filters ∷ one_of_each ∷ [];
  steps =
      Announce dc_a dc_b 3 ∷ Announce dc_a dc_b 4
      ∷ Mark dc_a ∷ Mark dc_a ∷ Mark dc_a ∷ Mark dc_a
      ∷ Announce dc_a dc_b 3 ∷ [];
}

abbrev pub filter_answers : List Outcome
filter_answers =
    Announced ∷ Busy
    ∷ AcceptedBy 0 ∷ AcceptedBy 1 ∷ Active 3 ∷ Idle
    ∷ LateStart 3 ∷ []
