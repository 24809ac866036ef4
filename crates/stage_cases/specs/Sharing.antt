-- Scripts in which a host's records are shared out among filters anew, and what their turns answer. B writes four records, of which A's
-- filter 1 has those with odd numbers and filter 0 the others.
use Rattle.std.specs.Prelude.{ℕ, List, [], ◌∷◌, false}
use Rattle.abstract_log.specs.declared.command.Command.TheVariants.{Append as AppendCommand}
use Rattle.abstract_log.specs.declared.script.FlushItem.{FlushItem}
use Rattle.abstract_log.specs.declared.script.ItemName.TheVariants.{External as ExternalName}
use Rattle.abstract_log.specs.declared.script.Outcome.{Outcome}
use Rattle.abstract_log.specs.declared.script.Outcome.TheVariants.{Submitted, Flushed, PassedOn, Stamped, Placed, Sent, Received, Announced, Idle, AcceptedBy, LateAt, Active}
use Rattle.abstract_log.specs.declared.script.Script.{Script}
use Rattle.abstract_log.specs.declared.script.Step.{Step}
use Rattle.abstract_log.specs.declared.script.Step.TheVariants.{Client, Flush, Pass, Stamp, Place, Send, Deliver, Announce, Mark}
use Rattle.abstract_log.specs.declared.script.Way.{Way}
use Rattle.abstract_log.specs.declared.script.Way.TheVariants.{Passed, Held, Dropped}
use Rattle.stage_world.specs.Opening.{one_of_each}
use Rattle.stage_cases.specs.Pieces.{dc_a, dc_b, body_a, session_at, two_filters, to_log, place, draft_passed, logged}

abbrev pub shared_then : List Step → Script
shared_then steps = record {
  workload = record {
    dcs = 2;
    sessions = session_at dc_b (AppendCommand [] body_a ∷ AppendCommand [] body_a ∷ AppendCommand [] body_a ∷ AppendCommand [] body_a ∷ []) ∷ [];
  };
  round = 1;
  sizes = two_filters ∷ one_of_each ∷ [];
  steps = steps;
}

-- B writes one record more, and what that answers, as record t
abbrev pub writes_one : List Step → List Step
writes_one later = Client 0 ∷ to_log dc_b later

abbrev pub written_one : ℕ → List Outcome → List Outcome
written_one t later = Submitted t ∷ logged (draft_passed 0 t) t dc_b t later

-- what B has written comes into A's batcher, and what that answers, where these are placed and those are told
abbrev pub tells : List Step → List Step
tells later = Place dc_b 0 0 ∷ Send dc_b 0 dc_a ∷ Deliver dc_b dc_a 1 0 ∷ later

abbrev pub names_to : List ℕ → List (ℕ × ℕ)
names_to [] = []
names_to (t ∷ ts) = (dc_b, t) ∷ names_to ts

abbrev pub told : List ℕ → List ℕ → List Outcome → List Outcome
told lids toids later = Placed lids ∷ Sent (names_to toids) 1 false ∷ Received (names_to toids) ∷ later

-- what filter f does with B's record t
abbrev pub does : ℕ → ℕ → Way → FlushItem
does t f way = record { name = ExternalName dc_b t; filter = f; way = way }

-- A filter more is announced from B:3 on, and filter 0 accepts it: B:4 waits there. But filter 1 has passed B:3, so the mark is late, and
-- B:4 goes on.
abbrev pub late_script : Script
late_script = shared_then
    (writes_one (writes_one (writes_one (tells
    (Flush dc_a 0 ∷ Announce dc_a dc_b 3 ∷ Mark dc_a
    ∷ writes_one (tells
    (Flush dc_a 0 ∷ Pass dc_a 0 0 ∷ Mark dc_a ∷ Pass dc_a 0 0 ∷ Pass dc_a 1 0 ∷ Stamp dc_a 0 ∷ Mark dc_a ∷ [])))))))

abbrev pub late_answers : List Outcome
late_answers = written_one 1 (written_one 2 (written_one 3 (told (1 ∷ 2 ∷ 3 ∷ []) (1 ∷ 2 ∷ 3 ∷ [])
    (Flushed (does 1 1 Passed ∷ does 2 0 Passed ∷ does 3 1 Passed ∷ []) ∷ Announced ∷ AcceptedBy 0
    ∷ written_one 4 (told (4 ∷ []) (1 ∷ 2 ∷ 3 ∷ 4 ∷ [])
    (Flushed (does 1 1 Dropped ∷ does 2 0 Dropped ∷ does 3 1 Dropped ∷ does 4 0 Held ∷ [])
    ∷ PassedOn 1 ∷ LateAt 1 3 ∷ PassedOn 1 ∷ PassedOn 2
    ∷ Stamped (place 1 dc_b 1 ∷ place 2 dc_b 2 ∷ place 3 dc_b 3 ∷ place 4 dc_b 4 ∷ []) 0 ∷ Idle ∷ []))))))

-- Both filters accept the mark, and hold B:3 and B:4. With the third filter B:3 stays with filter 1, and B:4 goes to filter 2.
abbrev pub handed_script : Script
handed_script = shared_then
    (writes_one (writes_one (tells
    (Flush dc_a 0 ∷ Announce dc_a dc_b 3 ∷ Mark dc_a ∷ Mark dc_a
    ∷ writes_one (writes_one (tells
    (Flush dc_a 0 ∷ Mark dc_a ∷ Pass dc_a 2 0 ∷ Pass dc_a 0 0 ∷ Pass dc_a 1 0 ∷ Stamp dc_a 0 ∷ [])))))))

abbrev pub handed_answers : List Outcome
handed_answers = written_one 1 (written_one 2 (told (1 ∷ 2 ∷ []) (1 ∷ 2 ∷ [])
    (Flushed (does 1 1 Passed ∷ does 2 0 Passed ∷ []) ∷ Announced ∷ AcceptedBy 0 ∷ AcceptedBy 1
    ∷ written_one 3 (written_one 4 (told (3 ∷ 4 ∷ []) (1 ∷ 2 ∷ 3 ∷ 4 ∷ [])
    (Flushed (does 1 1 Dropped ∷ does 2 0 Dropped ∷ does 3 1 Held ∷ does 4 0 Held ∷ [])
    ∷ Active 3 ∷ PassedOn 1 ∷ PassedOn 1 ∷ PassedOn 2
    ∷ Stamped (place 1 dc_b 1 ∷ place 2 dc_b 2 ∷ place 3 dc_b 3 ∷ place 4 dc_b 4 ∷ []) 0 ∷ []))))))
