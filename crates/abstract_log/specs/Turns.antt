-- What a step of a script is: whose turn it is, which steps a script may have, and in which ranges their numbers are.
use Rattle.std.specs.Prelude.{⊤, ℕ, ◌≢◌, ◌<◌, ◌≤◌, ◌^◌, length}
use Rattle.cz_base.specs.declared.limits.TheConstants.{MEMBERS, PACKETS, NUMBERS_END}
use Rattle.abstract_log.specs.declared.command.Workload.{Workload}
use Rattle.abstract_log.specs.declared.script.Step.{Step}
use Rattle.abstract_log.specs.declared.script.Step.TheVariants.{Client, Flush, Pass, Stamp, Token, Place, Gossip, Post, Learn, Send, Deliver, Lose, Copy, Floor, Collect, Announce, Mark, AddMaintainer, AddBatcher, AddQueue, AddSender, AddReceiver, Upgrade}
use Rattle.abstract_log.specs.Worlds.{plan_of}

-- the datacentre whose stage takes the turn
abbrev pub datacentre_of_step : Workload → Step → ℕ
datacentre_of_step load (Client s) = (plan_of load s).home
datacentre_of_step load (Flush d b) = d
datacentre_of_step load (Pass d f q) = d
datacentre_of_step load (Stamp d q) = d
datacentre_of_step load (Token d) = d
datacentre_of_step load (Place d q m) = d
datacentre_of_step load (Gossip d m k) = d
datacentre_of_step load (Post d m i) = d
datacentre_of_step load (Learn d) = d
datacentre_of_step load (Send d k e) = d
datacentre_of_step load (Deliver d e k r) = e
datacentre_of_step load (Lose d e k) = d
datacentre_of_step load (Copy d e k) = d
datacentre_of_step load (Floor d p) = d
datacentre_of_step load (Collect d m) = d
datacentre_of_step load (Announce d h t) = d
datacentre_of_step load (Mark d) = d
datacentre_of_step load (AddMaintainer d p) = d
datacentre_of_step load (AddBatcher d) = d
datacentre_of_step load (AddQueue d) = d
datacentre_of_step load (AddSender d) = d
datacentre_of_step load (AddReceiver d) = d
datacentre_of_step load (Upgrade d) = d

-- two datacentres
pub record AreTwo (dcs d e : ℕ) : Type 0 where
  pub first : d < dcs
  pub second : e < dcs
  pub apart : d ≢ e

-- A step that stages may take: its session and its datacentres are there, a link is between two, a new filter serves
-- another host, and a new maintainer's first position is a number.
abbrev pub IsStep : Workload → Step → Type 0
IsStep load (Client s) = s < length load.sessions
IsStep load (Send d k e) = AreTwo load.dcs d e
IsStep load (Deliver d e k r) = AreTwo load.dcs d e
IsStep load (Lose d e k) = AreTwo load.dcs d e
IsStep load (Copy d e k) = AreTwo load.dcs d e
IsStep load (Announce d h t) = AreTwo load.dcs d h
IsStep load (AddMaintainer d p) = (d < load.dcs) × (p < NUMBERS_END)
IsStep load step = datacentre_of_step load step < load.dcs

-- the number of a member of a stage, which need not be there
abbrev pub IsMember : ℕ → Type 0
IsMember m = m < MEMBERS

-- the number of a packet of a link, which need not be there
abbrev pub IsPacket : ℕ → Type 0
IsPacket k = (1 ≤ k) × (k ≤ PACKETS)

-- a position, or a record's number at its host, as a script spells it
abbrev pub IsPosition : ℕ → Type 0
IsPosition p = (1 ≤ p) × (p < 2 ^ 32)

-- the numbers of members, packets and positions are in their ranges
abbrev pub HasRanges : Step → Type 0
HasRanges (Client s) = ⊤
HasRanges (Flush d b) = IsMember b
HasRanges (Pass d f q) = IsMember f × IsMember q
HasRanges (Stamp d q) = IsMember q
HasRanges (Token d) = ⊤
HasRanges (Place d q m) = IsMember q × IsMember m
HasRanges (Gossip d m k) = IsMember m × IsMember k
HasRanges (Post d m i) = IsMember m × IsMember i
HasRanges (Learn d) = ⊤
HasRanges (Send d k e) = IsMember k
HasRanges (Deliver d e k r) = IsPacket k × IsMember r
HasRanges (Lose d e k) = IsPacket k
HasRanges (Copy d e k) = IsPacket k
HasRanges (Floor d p) = IsPosition p
HasRanges (Collect d m) = IsMember m
HasRanges (Announce d h t) = IsPosition t
HasRanges (Mark d) = ⊤
HasRanges (AddMaintainer d p) = IsPosition p
HasRanges (AddBatcher d) = ⊤
HasRanges (AddQueue d) = ⊤
HasRanges (AddSender d) = ⊤
HasRanges (AddReceiver d) = ⊤
HasRanges (Upgrade d) = ⊤

-- a step that a script may have
abbrev pub FitsStep : Workload → Step → Type 0
FitsStep load step = IsStep load step × HasRanges step
