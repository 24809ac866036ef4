-- A script in which members have nothing to do or are not there, and what its turns answer.
use Rattle.std.specs.Prelude.{List, [], ◌∷◌, false}
use Rattle.abstract_log.specs.declared.command.Command.TheVariants.{Put}
use Rattle.abstract_log.specs.declared.script.Outcome.{Outcome}
use Rattle.abstract_log.specs.declared.script.Outcome.TheVariants.{Absent, Unacknowledged, Finished, Submitted, Empty, At, Head, Covered, Learnt, Sent, NoRecords, FloorAt, Nothing, Idle, LateStart, Form2}
use Rattle.abstract_log.specs.declared.script.Script.{Script}
use Rattle.abstract_log.specs.declared.script.Step.TheVariants.{Client, Flush, Pass, Stamp, Token, Place, Gossip, Post, Learn, Send, Deliver, Lose, Copy, Floor, Collect, Announce, Mark, Upgrade}
use Rattle.stage_world.specs.Opening.{one_of_each}
use Rattle.stage_cases.specs.Pieces.{dc_a, dc_b, key_x, body_1, session_at, to_log, draft_passed, logged}

-- Each kind of turn at the start, and for members that are not there; then one put, and turns that find nothing more.
abbrev pub idle_script : Script
idle_script = record {
  workload = record { dcs = 2; sessions = session_at dc_a (Put key_x body_1 ∷ []) ∷ [] };
  round = 1;
  sizes = one_of_each ∷ one_of_each ∷ [];
  steps =
      Flush dc_a 0 ∷ Pass dc_a 0 0 ∷ Stamp dc_a 0 ∷ Token dc_a ∷ Place dc_a 0 0 ∷ Gossip dc_a 0 0 ∷ Post dc_a 0 0 ∷ Learn dc_a
      ∷ Floor dc_a 1 ∷ Collect dc_a 0 ∷ Mark dc_a ∷ Announce dc_a dc_b 1 ∷ Upgrade dc_a ∷ Upgrade dc_a
      ∷ Send dc_b 0 dc_a ∷ Deliver dc_b dc_a 1 1 ∷ Deliver dc_b dc_a 2 0 ∷ Deliver dc_b dc_a 1 0 ∷ Deliver dc_b dc_a 1 0
      ∷ Flush dc_a 1 ∷ Pass dc_a 1 0 ∷ Pass dc_a 0 1 ∷ Stamp dc_a 1 ∷ Place dc_a 1 0 ∷ Place dc_a 0 1 ∷ Gossip dc_a 1 0 ∷ Gossip dc_a 0 1
      ∷ Post dc_a 1 0 ∷ Post dc_a 0 1 ∷ Collect dc_a 1 ∷ Send dc_a 1 dc_b ∷ Lose dc_a dc_b 1 ∷ Copy dc_a dc_b 1
      ∷ Client 0 ∷ Client 0 ∷ to_log dc_a
      (Client 0 ∷ Flush dc_a 0 ∷ Pass dc_a 0 0 ∷ Stamp dc_a 0 ∷ []);
}

abbrev pub idle_answers : List Outcome
idle_answers =
    Empty ∷ Empty ∷ Empty ∷ At 0 ∷ Empty ∷ Head 0 ∷ Covered 0 ∷ Learnt (0 ∷ 0 ∷ [])
    ∷ FloorAt 0 ∷ Nothing ∷ Idle ∷ LateStart 1 ∷ Form2 ∷ Form2
    ∷ Sent [] 1 false ∷ Absent ∷ Absent ∷ NoRecords ∷ Absent
    ∷ Absent ∷ Absent ∷ Absent ∷ Absent ∷ Absent ∷ Absent ∷ Absent ∷ Absent
    ∷ Absent ∷ Absent ∷ Absent ∷ Absent ∷ Absent ∷ Absent
    ∷ Submitted 1 ∷ Unacknowledged 1 ∷ logged (draft_passed 0 1) 1 dc_a 1
    (Finished ∷ Empty ∷ Empty ∷ Empty ∷ [])
