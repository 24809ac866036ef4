-- Scripts that come to a limit, and what their turns answer.
use Rattle.std.specs.Prelude.{◌+◌, List, [], ◌∷◌, ◌++◌, replicate, true, false}
use Rattle.abstract_log.specs.declared.script.Outcome.{Outcome}
use Rattle.abstract_log.specs.declared.script.Outcome.TheVariants.{Absent, Sent, Copied, EpochAdded, Member}
use Rattle.abstract_log.specs.declared.script.Script.{Script}
use Rattle.abstract_log.specs.declared.script.Sizes.{Sizes}
use Rattle.abstract_log.specs.declared.script.Step.TheVariants.{Send, Copy, Announce, AddMaintainer, AddBatcher, AddQueue, AddSender, AddReceiver, Upgrade}
use Rattle.abstract_log.specs.declared.command.Workload.{Workload}
use Rattle.stage_world.specs.Opening.{one_of_each, numbered, opening}
use Rattle.stage_world.specs.Schedules.{after_steps}
use Rattle.stage_world.specs.Stages.{Stages}
use Rattle.stage_cases.specs.Pieces.{dc_a, dc_b}

abbrev pub no_commands : Workload
no_commands = record { dcs = 2; sessions = [] }

-- Sixty-four messages fill a link. One more, sent or copied, pushes the oldest out.
abbrev pub full_link_script : Script
full_link_script = record {
  workload = no_commands;
  round = 1;
  sizes = one_of_each ∷ one_of_each ∷ [];
  steps = replicate 65 (Send dc_b 0 dc_a) ++ Copy dc_b dc_a 1 ∷ [];
}

abbrev pub full_link_answers : List Outcome
full_link_answers = numbered (λ i. Sent [] (i + 1) false) 64 ++ Sent [] 64 true ∷ Copied 64 true ∷ []

-- the link once it is full of messages that say the same
abbrev pub full_of_equals : Stages
full_of_equals = after_steps no_commands (opening full_link_script) (replicate 64 (Send dc_b 0 dc_a))

-- the same once the sender's datacentre is upgraded
abbrev pub full_and_upgraded : Stages
full_and_upgraded = after_steps no_commands full_of_equals (Upgrade dc_b ∷ [])

-- Each stage has sixteen members at most: of sixteen additions the last finds no room. So does a filter more for a host that sixteen serve.
abbrev pub sixteen_filters : Sizes
sixteen_filters = record { batchers = 1; filters = 16; queues = 1; maintainers = 1; indexers = 1; senders = 1; receivers = 1 }

abbrev pub sixteen_script : Script
sixteen_script = record {
  workload = no_commands;
  round = 1;
  sizes = sixteen_filters ∷ one_of_each ∷ [];
  steps =
      replicate 16 (AddBatcher dc_a) ++ replicate 16 (AddQueue dc_a) ++ replicate 16 (AddSender dc_a) ++ replicate 16 (AddReceiver dc_a)
      ++ numbered (λ i. AddMaintainer dc_a (i + 2)) 16 ++ Announce dc_a dc_b 5 ∷ [];
}

-- members 1 to 15, and then none
abbrev pub fifteen_more : List Outcome
fifteen_more = numbered (λ i. Member (i + 1)) 15 ++ Absent ∷ []

abbrev pub sixteen_answers : List Outcome
sixteen_answers =
    fifteen_more ++ fifteen_more ++ fifteen_more ++ fifteen_more
    ++ numbered (λ i. EpochAdded (i + 2) (i + 2)) 15 ++ Absent ∷ Absent ∷ []
