-- Settling: the turns by which every command is answered and every log gets every record, as a function of the stages.
use Rattle.std.specs.Prelude.{◌≡◌, ℕ, zero, suc, ◌+◌, ◌<◌, ◌%◌, ◌==◌, ◌||◌, Bool, true, false, not, if◌then◌else◌, nat_lt, List, [], ◌∷◌, ◌++◌, length, map, filter, flat_map}
use Rattle.std.specs.List.{list_any, list_all}
use Rattle.cz_base.specs.declared.limits.TheConstants.{MEMBERS}
use Rattle.abstract_log.specs.declared.command.Workload.{Workload}
use Rattle.abstract_log.specs.declared.script.Step.{Step}
use Rattle.abstract_log.specs.declared.script.Step.TheVariants.{Client, Flush, Pass, Stamp, Token, Place, Gossip, Post, Learn, Send, Deliver, Mark}
pub use Rattle.hyksos.specs.Sessions.{is_unanswered}
use Rattle.stage_world.specs.Stages.{Datacentre, Stages}
use Rattle.stage_world.specs.Opening.{numbered}
use Rattle.stage_world.specs.MoreTurns.{message_of, same_counts}
use Rattle.stage_world.specs.LinkTurns.{link_length}
use Rattle.stage_world.specs.Whole.{datacentre_at}
use Rattle.stage_world.specs.Schedules.{after_steps, step_of}

-- the numbers below n
abbrev pub below : ℕ → List ℕ
below n = numbered (λ i. i) n

-- The turns of a local round of datacentre d, kind by kind: each session, each batcher, each filter with its queue, ..
abbrev pub clients : Datacentre → List Step
clients z = map (λ x. Client x.number) z.sessions

abbrev pub flushes : ℕ → Datacentre → List Step
flushes d z = numbered (Flush d) (length z.batchers)

abbrev pub pass_lines : ℕ → Datacentre → List Step
pass_lines d z = numbered (λ f. Pass d f (f % length z.queues)) (length z.filters)

-- .. the token once round the ring, each queue stamping while it has it, ..
abbrev pub ring : ℕ → Datacentre → List Step
ring d z = flat_map (λ i. Stamp d ((z.token.at + i) % length z.queues) ∷ Token d ∷ []) (below (length z.queues))

-- .. each queue with each maintainer, each maintainer with each vector and with each indexer
abbrev pub places : ℕ → Datacentre → List Step
places d z = flat_map (λ q. numbered (Place d q) (length z.maintainers)) (below (length z.queues))

abbrev pub gossips : ℕ → Datacentre → List Step
gossips d z = flat_map (λ m. numbered (Gossip d m) (length z.maintainers)) (below (length z.maintainers))

abbrev pub posts : ℕ → Datacentre → List Step
posts d z = flat_map (λ m. numbered (Post d m) (length z.indexers)) (below (length z.maintainers))

abbrev pub local_round : ℕ → Datacentre → List Step
local_round d z = clients z ++ flushes d z ++ pass_lines d z ++ ring d z ++ places d z ++ gossips d z ++ posts d z ++ Learn d ∷ []

-- the local rounds of these datacentres, one after another; none changes what another does
abbrev pub rounds : Stages → List ℕ → List Step
rounds z ds = flat_map (λ d. local_round d (datacentre_at z d)) ds

abbrev pub all_rounds : Stages → List Step
all_rounds z = rounds z (below (length z.datacentres))

-- a session has a command that is not answered
abbrev pub has_unanswered : Datacentre → Bool
has_unanswered z = list_any is_unanswered z.sessions

-- some command is not answered
abbrev pub is_answering : Stages → Bool
is_answering z = list_any has_unanswered z.datacentres

-- a local round of each datacentre with a command that is not answered
abbrev pub answering_rounds : Workload → Stages → List Step
answering_rounds load z = rounds z (filter (λ d. has_unanswered (datacentre_at z d)) (below (length z.datacentres)))

-- a sender that is to send to another datacentre
pub record Errand : Type 0 where
  pub from : ℕ
  pub to : ℕ
  pub sender : ℕ

-- all of them: by letter, and for each pair of datacentres by number
abbrev pub errands : Stages → List Errand
errands z = flat_map (λ d. flat_map (λ e. if d == e then [] else numbered (λ k. record { from = d; to = e; sender = k }) (datacentre_at z d).senders) (below (length z.datacentres))) (below (length z.datacentres))

-- the first sender always sends, a further one where its message would hold a record
abbrev pub has_errand : Stages → Errand → Bool
has_errand z x = (x.sender == 0) || nat_lt 0 (length (message_of x.from (datacentre_at z x.from) x.sender x.to).records)

-- it sends, and the newest packet of the link is delivered
abbrev pub sent_and_delivered : Workload → Stages → Errand → List Step
sent_and_delivered load z x =
    let send = Send x.from x.sender x.to in
    send ∷ Deliver x.from x.to (link_length (step_of load z send).after x.from x.to) 0 ∷ []

abbrev pub errand_turns : Workload → Stages → Errand → List Step
errand_turns load z x = if has_errand z x then sent_and_delivered load z x else []

-- one errand after another
abbrev pub exchange : Workload → Stages → List Errand → List Step
exchange load z [] = []
exchange load z (x ∷ more) = errand_turns load z x ++ exchange load (after_steps load z (errand_turns load z x)) more

-- every datacentre's log has as many records of each host
abbrev pub is_agreed : Stages → Bool
is_agreed z = list_all (λ x. list_all (λ y. same_counts x.token.counts y.token.counts) z.datacentres) z.datacentres

-- a command is not answered, or a log lacks a record
abbrev pub is_unfinished : Stages → Bool
is_unfinished z = is_answering z || not (is_agreed z)

-- all errands that the stages have
abbrev pub exchange_turns : Workload → Stages → List Step
exchange_turns load z = exchange load z (errands z)

-- a local round of each datacentre, then an exchange
abbrev pub telling_rounds : Workload → Stages → List Step
telling_rounds load z = all_rounds z ++ exchange_turns load (after_steps load z (all_rounds z))

-- the stages after n passes of a loop, each of turns that its beginning decides, and those turns
abbrev pub after_passes : Workload → (Workload → Stages → List Step) → Stages → ℕ → Stages
after_passes load pass z zero = z
after_passes load pass z (suc n) = after_steps load (after_passes load pass z n) (pass load (after_passes load pass z n))

abbrev pub turns_of_passes : Workload → (Workload → Stages → List Step) → Stages → ℕ → List Step
turns_of_passes load pass z zero = []
turns_of_passes load pass z (suc n) = turns_of_passes load pass z n ++ pass load (after_passes load pass z n)

-- These are the turns of a loop that makes pass after pass from z on while something is so.
pub record IsLoop (load : Workload) (goes_on : Stages → Bool) (pass : Workload → Stages → List Step) (z : Stages) (passes : ℕ) (steps : List Step) : Type 0 where
  pub turns : steps ≡ turns_of_passes load pass z passes
  pub before : (n : ℕ) → n < passes → goes_on (after_passes load pass z n) ≡ true
  pub ends : goes_on (after_passes load pass z passes) ≡ false

-- How often each datacentre takes the next step of its announcement as settling begins: each filter is asked once, and then all take
-- the grown map.
abbrev pub mark_turns : ℕ
mark_turns = MEMBERS + 1

abbrev pub marks : ℕ → List Step
marks d = numbered (λ _. Mark d) mark_turns

abbrev pub all_marks : Stages → List Step
all_marks z = flat_map marks (below (length z.datacentres))

-- The rounds of settling, from stages z on: until every command is answered, then with exchanges until every log has every record, and a
-- last round of each datacentre.
pub record AreSettlingRounds (load : Workload) (z : Stages) (steps : List Step) : Type 0 where
  pub answering : List Step
  pub answers : ℕ
  pub first : IsLoop load is_answering answering_rounds z answers answering
  pub telling : List Step
  pub tells : ℕ
  pub second : IsLoop load is_unfinished telling_rounds (after_steps load z answering) tells telling
  pub turns : steps ≡ answering ++ telling ++ all_rounds (after_steps load z (answering ++ telling))

-- The turns of settling, from stages z on: those by which each announcement comes to its end, and then the rounds.
pub record IsSettling (load : Workload) (z : Stages) (steps : List Step) : Type 0 where
  pub rounds : List Step
  pub settled : AreSettlingRounds load (after_steps load z (all_marks z)) rounds
  pub turns : steps ≡ all_marks z ++ rounds
