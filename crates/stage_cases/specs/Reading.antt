-- Scripts in which sessions read, and what their turns answer.
use Rattle.std.specs.Prelude.{List, [], ◌∷◌}
use Rattle.causal_deps.specs.declared.record.Record.{Record}
use Rattle.causal_deps.specs.declared.record.Kind.TheVariants.{Append as AppendKind}
use Rattle.abstract_log.specs.declared.command.Command.TheVariants.{Append as AppendCommand, Put, Get, Tx, Read as ReadCommand, Last as LastCommand}
use Rattle.abstract_log.specs.declared.answer.Answer.TheVariants.{Items, Read, Last}
use Rattle.abstract_log.specs.declared.answer.Found.TheVariants.{Absent as AbsentKey}
use Rattle.abstract_log.specs.declared.answer.ReadAnswer.TheVariants.{Shown, Beyond, Gone}
use Rattle.abstract_log.specs.declared.event.Event.{Event}
use Rattle.abstract_log.specs.declared.event.Event.TheVariants.{Submit, Append, Reply, Learn as LearnEvent, Collect as CollectEvent}
use Rattle.abstract_log.specs.declared.script.Outcome.{Outcome}
use Rattle.abstract_log.specs.declared.script.Outcome.TheVariants.{Submitted, Replied, Waiting, Below, Behind, Key, Flushed, PassedOn, Stamped, Placed, Head, Covered, Learnt, FloorAt, Nothing, Collected}
use Rattle.abstract_log.specs.declared.script.Script.{Script}
use Rattle.abstract_log.specs.declared.script.Step.TheVariants.{Client, Place, Gossip, Post, Learn, Floor, Collect}
use Rattle.stage_world.specs.Opening.{one_of_each}
use Rattle.stage_cases.specs.Pieces.{dc_a, key_x, key_y, tag_t, body_1, body_2, body_3, body_a, body_b, body_c, session_at, two_maintainers, to_log, place, draft_passed, logged, placed, found, put_record}

-- Rounds of 2 and two maintainers: positions 1 and 2 are the first's, 3 the second's. Position 3 is placed first, so session 1, whose own
-- record is at 2, waits with its read of 3 until 1 and 2 are placed too.
abbrev pub gap_script : Script
gap_script = record {
  workload = record {
    dcs = 1;
    sessions =
        session_at dc_a (AppendCommand [] body_a ∷ [])
        ∷ session_at dc_a (AppendCommand [] body_b ∷ ReadCommand 3 ∷ [])
        ∷ session_at dc_a (AppendCommand [] body_c ∷ [])
        ∷ [];
  };
  round = 2;
  sizes = two_maintainers ∷ [];
  steps =
      Client 0 ∷ Client 1 ∷ Client 2 ∷ to_log dc_a
      (Place dc_a 0 1 ∷ Gossip dc_a 1 1 ∷ Client 1
      ∷ Place dc_a 0 0 ∷ Gossip dc_a 0 1 ∷ Client 1 ∷ []);
}

abbrev pub gap_answers : List Outcome
gap_answers =
    Submitted 1 ∷ Submitted 1 ∷ Submitted 1
    ∷ Flushed (draft_passed 0 1 ∷ draft_passed 1 1 ∷ draft_passed 2 1 ∷ [])
    ∷ PassedOn 3
    ∷ Stamped (place 1 dc_a 1 ∷ place 2 dc_a 2 ∷ place 3 dc_a 3 ∷ []) 0
    ∷ placed 3 ∷ Head 0 ∷ Waiting 2 2 0
    ∷ Placed (1 ∷ 2 ∷ []) ∷ Head 3 ∷ Replied 2 ∷ []

abbrev pub gap_events : List Event
gap_events =
    Submit 0 1 ∷ Submit 1 1 ∷ Submit 2 1
    ∷ Append dc_a 0 1 1 1 ∷ Append dc_a 1 1 2 2 ∷ Append dc_a 2 1 3 3
    ∷ Submit 1 2
    ∷ Reply dc_a 1 2 3 (Read (Shown (place 3 dc_a 3) AppendKind body_c []))
    ∷ []

-- A session gets the key that it has put: it waits until its record is below the head, and then until the indexer has it.
abbrev pub behind_script : Script
behind_script = record {
  workload = record { dcs = 1; sessions = session_at dc_a (Put key_x body_1 ∷ Get key_x ∷ []) ∷ [] };
  round = 1;
  sizes = one_of_each ∷ [];
  steps =
      Client 0 ∷ to_log dc_a
      (Client 0 ∷ Place dc_a 0 0 ∷ Gossip dc_a 0 0
      ∷ Client 0 ∷ Post dc_a 0 0 ∷ Client 0 ∷ []);
}

abbrev pub behind_answers : List Outcome
behind_answers =
    Submitted 1 ∷ logged (draft_passed 0 1) 1 dc_a 1
    (Waiting 2 1 0 ∷ placed 1 ∷ Head 1
    ∷ Behind 2 0 ∷ Covered 1 ∷ Replied 2 ∷ [])

abbrev pub behind_events : List Event
behind_events =
    Submit 0 1 ∷ Append dc_a 0 1 1 1 ∷ Submit 0 2
    ∷ Reply dc_a 0 2 1 (Items (found 1 dc_a 1 body_1 ∷ []))
    ∷ []

-- A get-transaction takes a turn for each key and reads both at 2, though x is put again at 3 in between. Until it is answered the
-- floor stays at 2 and nothing may go; then the floor rises to 3, and the older put of x goes.
abbrev pub collect_script : Script
collect_script = record {
  workload = record {
    dcs = 1;
    sessions =
        session_at dc_a (Put key_x body_1 ∷ Put key_y body_1 ∷ Put key_x body_2 ∷ [])
        ∷ session_at dc_a (Tx (key_y ∷ key_x ∷ []) ∷ [])
        ∷ [];
  };
  round = 1;
  sizes = one_of_each ∷ [];
  steps =
      Client 0 ∷ to_log dc_a
      (Client 0 ∷ to_log dc_a
      (Place dc_a 0 0 ∷ Gossip dc_a 0 0 ∷ Post dc_a 0 0 ∷ Client 1
      ∷ Client 0 ∷ to_log dc_a
      (Place dc_a 0 0 ∷ Gossip dc_a 0 0 ∷ Post dc_a 0 0 ∷ Learn dc_a
      ∷ Floor dc_a 3 ∷ Collect dc_a 0 ∷ Client 1 ∷ Floor dc_a 3 ∷ Collect dc_a 0 ∷ [])));
}

abbrev pub collect_answers : List Outcome
collect_answers =
    Submitted 1 ∷ logged (draft_passed 0 1) 1 dc_a 1
    (Submitted 2 ∷ logged (draft_passed 0 2) 2 dc_a 2
    (Placed (1 ∷ 2 ∷ []) ∷ Head 2 ∷ Covered 2 ∷ Key 1 1 2 2
    ∷ Submitted 3 ∷ logged (draft_passed 0 3) 3 dc_a 3
    (placed 3 ∷ Head 3 ∷ Covered 3 ∷ Learnt (3 ∷ [])
    ∷ FloorAt 2 ∷ Nothing ∷ Replied 1 ∷ FloorAt 3 ∷ Collected (1 ∷ []) ∷ [])))

abbrev pub collect_events : List Event
collect_events =
    Submit 0 1 ∷ Append dc_a 0 1 1 1
    ∷ Submit 0 2 ∷ Append dc_a 0 2 2 2
    ∷ Submit 1 1
    ∷ Submit 0 3 ∷ Append dc_a 0 3 3 3
    ∷ LearnEvent dc_a (3 ∷ [])
    ∷ Reply dc_a 1 1 2 (Items (found 2 dc_a 2 body_1 ∷ found 1 dc_a 1 body_1 ∷ []))
    ∷ CollectEvent dc_a 1
    ∷ []

abbrev pub collect_log : List Record
collect_log =
    put_record dc_a 1 0 1 (0 ∷ []) body_1 key_x
    ∷ put_record dc_a 2 0 2 (1 ∷ []) body_1 key_y
    ∷ put_record dc_a 3 0 3 (2 ∷ []) body_2 key_x
    ∷ []

-- Rounds of 1 and two maintainers. The floor rises to 3 with the first vector, while the second, which session 1 reads by, is at 2: a
-- position below the floor is not read at. Once that vector has heard, the session reads at 3.
abbrev pub floor_script : Script
floor_script = record {
  workload = record {
    dcs = 1;
    sessions =
        session_at dc_a (Put key_x body_1 ∷ Put key_x body_2 ∷ Put key_x body_3 ∷ [])
        ∷ session_at dc_a (Get key_x ∷ [])
        ∷ [];
  };
  round = 1;
  sizes = two_maintainers ∷ [];
  steps =
      Client 0 ∷ to_log dc_a
      (Client 0 ∷ to_log dc_a
      (Place dc_a 0 0 ∷ Place dc_a 0 1 ∷ Gossip dc_a 0 1 ∷ Gossip dc_a 1 0
      ∷ Client 0 ∷ to_log dc_a
      (Place dc_a 0 0 ∷ Gossip dc_a 0 0 ∷ Post dc_a 0 0 ∷ Post dc_a 1 0
      ∷ Floor dc_a 3 ∷ Client 1 ∷ Gossip dc_a 0 1 ∷ Client 1 ∷ [])));
}

abbrev pub floor_answers : List Outcome
floor_answers =
    Submitted 1 ∷ logged (draft_passed 0 1) 1 dc_a 1
    (Submitted 2 ∷ logged (draft_passed 0 2) 2 dc_a 2
    (placed 1 ∷ placed 2 ∷ Head 1 ∷ Head 2
    ∷ Submitted 3 ∷ logged (draft_passed 0 3) 3 dc_a 3
    (placed 3 ∷ Head 3 ∷ Covered 1 ∷ Covered 3
    ∷ FloorAt 3 ∷ Below 1 3 ∷ Head 3 ∷ Replied 1 ∷ [])))

abbrev pub floor_events : List Event
floor_events =
    Submit 0 1 ∷ Append dc_a 0 1 1 1
    ∷ Submit 0 2 ∷ Append dc_a 0 2 2 2
    ∷ Submit 0 3 ∷ Append dc_a 0 3 3 3
    ∷ Submit 1 1
    ∷ Reply dc_a 1 1 3 (Items (found 3 dc_a 3 body_3 ∷ []))
    ∷ []

-- The last two records with a tag, before there is one and among three, one of which has it twice; a key that was never put; a position beyond
-- the head, and one that is collected.
abbrev pub asked_script : Script
asked_script = record {
  workload = record {
    dcs = 1;
    sessions =
        session_at dc_a
        (LastCommand tag_t 2
        ∷ AppendCommand (tag_t ∷ []) body_a ∷ AppendCommand (tag_t ∷ tag_t ∷ []) body_b ∷ AppendCommand (tag_t ∷ []) body_c
        ∷ LastCommand tag_t 2 ∷ Get key_x ∷ ReadCommand 4 ∷ ReadCommand 2 ∷ [])
        ∷ [];
  };
  round = 1;
  sizes = one_of_each ∷ [];
  steps =
      Client 0
      ∷ Client 0 ∷ to_log dc_a (Client 0 ∷ to_log dc_a (Client 0 ∷ to_log dc_a
      (Place dc_a 0 0 ∷ Gossip dc_a 0 0 ∷ Post dc_a 0 0
      ∷ Client 0 ∷ Client 0 ∷ Client 0
      ∷ Learn dc_a ∷ Floor dc_a 3 ∷ Collect dc_a 0
      ∷ Client 0 ∷ [])));
}

abbrev pub asked_answers : List Outcome
asked_answers =
    Replied 1
    ∷ Submitted 2 ∷ logged (draft_passed 0 2) 1 dc_a 1 (Submitted 3 ∷ logged (draft_passed 0 3) 2 dc_a 2 (Submitted 4 ∷ logged (draft_passed 0 4) 3 dc_a 3
    (Placed (1 ∷ 2 ∷ 3 ∷ []) ∷ Head 3 ∷ Covered 3
    ∷ Replied 5 ∷ Replied 6 ∷ Replied 7
    ∷ Learnt (3 ∷ []) ∷ FloorAt 3 ∷ Collected (1 ∷ 2 ∷ 3 ∷ [])
    ∷ Replied 8 ∷ [])))

abbrev pub asked_events : List Event
asked_events =
    Submit 0 1 ∷ Reply dc_a 0 1 0 (Last [])
    ∷ Submit 0 2 ∷ Append dc_a 0 2 1 1 ∷ Submit 0 3 ∷ Append dc_a 0 3 2 2 ∷ Submit 0 4 ∷ Append dc_a 0 4 3 3
    ∷ Submit 0 5 ∷ Reply dc_a 0 5 3 (Last (place 2 dc_a 2 ∷ place 3 dc_a 3 ∷ []))
    ∷ Submit 0 6 ∷ Reply dc_a 0 6 3 (Items (AbsentKey ∷ []))
    ∷ Submit 0 7 ∷ Reply dc_a 0 7 3 (Read Beyond)
    ∷ LearnEvent dc_a (3 ∷ []) ∷ CollectEvent dc_a 1 ∷ CollectEvent dc_a 2 ∷ CollectEvent dc_a 3
    ∷ Submit 0 8 ∷ Reply dc_a 0 8 3 (Read Gone)
    ∷ []
