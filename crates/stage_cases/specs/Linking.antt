-- Scripts in which datacentres tell each other, and what their turns answer.
use Rattle.std.specs.Prelude.{List, [], ◌∷◌, false}
use Rattle.causal_deps.specs.Counts.{zero_table}
use Rattle.causal_deps.specs.declared.record.Record.{Record}
use Rattle.abstract_log.specs.declared.command.Command.TheVariants.{Put, Get}
use Rattle.abstract_log.specs.declared.command.Workload.{Workload}
use Rattle.abstract_log.specs.declared.answer.Answer.TheVariants.{Items}
use Rattle.abstract_log.specs.declared.event.Event.{Event}
use Rattle.abstract_log.specs.declared.event.Event.TheVariants.{Submit, Append, Receive, Add, Reply}
use Rattle.abstract_log.specs.declared.script.Outcome.{Outcome}
use Rattle.abstract_log.specs.declared.script.Outcome.TheVariants.{Submitted, Replied, Flushed, PassedOn, Stamped, Head, Covered, Lost, Copied}
use Rattle.abstract_log.specs.declared.script.Script.{Script}
use Rattle.abstract_log.specs.declared.script.Step.{Step}
use Rattle.abstract_log.specs.declared.script.Step.TheVariants.{Client, Place, Gossip, Post, Send, Deliver, Lose, Copy}
use Rattle.stage_world.specs.Opening.{one_of_each}
use Rattle.stage_cases.specs.Pieces.{dc_a, dc_b, dc_c, key_x, key_y, body_1, body_2, session_at, to_log, place, draft_passed, record_passed, record_dropped, logged, placed, sent_alone, received, found, put_record}

-- B gets x, which A has put, and puts y. C hears of y first, and defers it until x is there.
abbrev pub cause_script : Script
cause_script = record {
  workload = record {
    dcs = 3;
    sessions = session_at dc_a (Put key_x body_1 ∷ []) ∷ session_at dc_b (Get key_x ∷ Put key_y body_2 ∷ []) ∷ [];
  };
  round = 1;
  sizes = one_of_each ∷ one_of_each ∷ one_of_each ∷ [];
  steps =
      Client 0 ∷ to_log dc_a
      (Place dc_a 0 0 ∷ Send dc_a 0 dc_b ∷ Deliver dc_a dc_b 1 0 ∷ to_log dc_b
      (Place dc_b 0 0 ∷ Gossip dc_b 0 0 ∷ Post dc_b 0 0 ∷ Client 1 ∷ Client 1 ∷ to_log dc_b
      (Place dc_b 0 0 ∷ Send dc_b 0 dc_c ∷ Deliver dc_b dc_c 1 0 ∷ to_log dc_c
      (Send dc_a 0 dc_c ∷ Deliver dc_a dc_c 1 0 ∷ to_log dc_c []))));
}

abbrev pub cause_answers : List Outcome
cause_answers =
    Submitted 1 ∷ logged (draft_passed 0 1) 1 dc_a 1
    (placed 1 ∷ sent_alone dc_a 1 ∷ received dc_a 1 ∷ logged (record_passed dc_a 1) 1 dc_a 1
    (placed 1 ∷ Head 1 ∷ Covered 1 ∷ Replied 1 ∷ Submitted 2 ∷ logged (draft_passed 1 2) 2 dc_b 1
    (placed 2 ∷ sent_alone dc_b 1 ∷ received dc_b 1
    ∷ Flushed (record_passed dc_b 1 ∷ []) ∷ PassedOn 1 ∷ Stamped [] 1
    ∷ sent_alone dc_a 1 ∷ received dc_a 1
    ∷ Flushed (record_passed dc_a 1 ∷ []) ∷ PassedOn 1 ∷ Stamped (place 1 dc_a 1 ∷ place 2 dc_b 1 ∷ []) 0 ∷ [])))

abbrev pub cause_events : List Event
cause_events =
    Submit 0 1 ∷ Append dc_a 0 1 1 1
    ∷ Receive dc_b dc_a (zero_table 3) ((dc_a, 1) ∷ []) ∷ Add dc_b 1 dc_a 1
    ∷ Submit 1 1 ∷ Reply dc_b 1 1 1 (Items (found 1 dc_a 1 body_1 ∷ []))
    ∷ Submit 1 2 ∷ Append dc_b 1 2 2 1
    ∷ Receive dc_c dc_b (zero_table 3) ((dc_b, 1) ∷ [])
    ∷ Receive dc_c dc_a (zero_table 3) ((dc_a, 1) ∷ []) ∷ Add dc_c 1 dc_a 1 ∷ Add dc_c 2 dc_b 1
    ∷ []

-- x as A has put it, and y as B has put it once it was shown x
abbrev pub put_of_x : Record
put_of_x = put_record dc_a 1 0 1 (0 ∷ 0 ∷ 0 ∷ []) body_1 key_x

abbrev pub put_of_y : Record
put_of_y = put_record dc_b 1 1 2 (1 ∷ 0 ∷ 0 ∷ []) body_2 key_y

-- A puts x and sends it to B, and then these steps follow
abbrev pub told_load : Workload
told_load = record { dcs = 2; sessions = session_at dc_a (Put key_x body_1 ∷ []) ∷ [] }

abbrev pub told_then : List Step → Script
told_then later = record {
  workload = told_load;
  round = 1;
  sizes = one_of_each ∷ one_of_each ∷ [];
  steps = Client 0 ∷ to_log dc_a (Place dc_a 0 0 ∷ Send dc_a 0 dc_b ∷ later);
}

abbrev pub told_answers : List Outcome → List Outcome
told_answers later = Submitted 1 ∷ logged (draft_passed 0 1) 1 dc_a 1 (placed 1 ∷ sent_alone dc_a 1 ∷ later)

-- The link repeats the message twice. B receives it three times, and its filter drops it twice.
abbrev pub repeat_script : Script
repeat_script = told_then
    (Copy dc_a dc_b 1 ∷ Copy dc_a dc_b 1
    ∷ Deliver dc_a dc_b 1 0 ∷ Deliver dc_a dc_b 1 0 ∷ Deliver dc_a dc_b 1 0 ∷ to_log dc_b [])

abbrev pub repeat_answers : List Outcome
repeat_answers = told_answers
    (Copied 2 false ∷ Copied 3 false
    ∷ received dc_a 1 ∷ received dc_a 1 ∷ received dc_a 1
    ∷ Flushed (record_passed dc_a 1 ∷ record_dropped dc_a 1 ∷ record_dropped dc_a 1 ∷ [])
    ∷ PassedOn 1 ∷ Stamped (place 1 dc_a 1 ∷ []) 0 ∷ [])

abbrev pub repeat_events : List Event
repeat_events =
    Submit 0 1 ∷ Append dc_a 0 1 1 1
    ∷ Receive dc_b dc_a ((0 ∷ 0 ∷ []) ∷ (0 ∷ 0 ∷ []) ∷ []) ((dc_a, 1) ∷ [])
    ∷ Receive dc_b dc_a ((0 ∷ 0 ∷ []) ∷ (0 ∷ 0 ∷ []) ∷ []) ((dc_a, 1) ∷ [])
    ∷ Receive dc_b dc_a ((0 ∷ 0 ∷ []) ∷ (0 ∷ 0 ∷ []) ∷ []) ((dc_a, 1) ∷ [])
    ∷ Add dc_b 1 dc_a 1
    ∷ []

-- The link loses what A sends, twice. A does not know that B has it, and sends it again: so it arrives in the end.
abbrev pub lose_script : Script
lose_script = told_then (Lose dc_a dc_b 1 ∷ Send dc_a 0 dc_b ∷ Lose dc_a dc_b 1 ∷ Send dc_a 0 dc_b ∷ Deliver dc_a dc_b 1 0 ∷ to_log dc_b [])

abbrev pub lose_answers : List Outcome
lose_answers = told_answers (Lost ∷ sent_alone dc_a 1 ∷ Lost ∷ sent_alone dc_a 1 ∷ received dc_a 1 ∷ logged (record_passed dc_a 1) 1 dc_a 1 [])

abbrev pub lose_events : List Event
lose_events =
    Submit 0 1 ∷ Append dc_a 0 1 1 1
    ∷ Receive dc_b dc_a ((0 ∷ 0 ∷ []) ∷ (0 ∷ 0 ∷ []) ∷ []) ((dc_a, 1) ∷ [])
    ∷ Add dc_b 1 dc_a 1
    ∷ []

abbrev pub told_log : List Record
told_log = put_record dc_a 1 0 1 (0 ∷ 0 ∷ []) body_1 key_x ∷ []
