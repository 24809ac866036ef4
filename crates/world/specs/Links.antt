-- The packets of a link among the rows of all links, and the messages that they spell.
use Rattle.std.specs.Prelude.{ℕ, ◌<◌, Bool, true, false, List, [], length, Option, slice_index_or, slice_set}
use Rattle.std.specs.List.{AllZip}
use Rattle.std.specs.Option.{option_map_or}
use Rattle.abstract_log.specs.declared.script.Outcome.{Outcome}
use Rattle.abstract_log.specs.declared.script.Outcome.TheVariants.{Absent, Copied as CopiedTo, Lost}
use Rattle.lossy_links.specs.declared.link.Copied.{Copied}
use Rattle.lossy_links.specs.declared.link.Copied.TheVariants.{Absent as NoPacket, Done, Overflow}
use Rattle.lossy_links.specs.Links.{answer_to_copy}
use Rattle.record_codec.specs.declared.message.Message.{Message}
use Rattle.record_codec.specs.Wire.{SpellsMessage}

abbrev pub packets_at : List (List (List (List ℕ))) → ℕ → ℕ → List (List ℕ)
packets_at links d e = slice_index_or (slice_index_or links d []) e []

abbrev pub with_packets : List (List (List (List ℕ))) → ℕ → ℕ → List (List ℕ) → List (List (List (List ℕ)))
with_packets links d e packets = slice_set links d (slice_set (slice_index_or links d []) e packets)

-- There is a link from d to e.
pub record AreThere (d e : ℕ) (links : List (List (List (List ℕ)))) : Type 0 where
  pub from : d < length links
  pub to : e < length (slice_index_or links d [])

-- Each packet of a link between two of so many datacentres spells the message at its place, in one form or the other.
abbrev pub AreSpelled : ℕ → List (List ℕ) → List Message → Type 0
AreSpelled dcs packets ms = AllZip (SpellsMessage dcs) packets ms

-- So it is with all links.
abbrev pub AreLinked : ℕ → List (List (List (List ℕ))) → List (List (List Message)) → Type 0
AreLinked dcs links zs = AllZip (AllZip (AreSpelled dcs)) links zs

-- what is answered where this packet is to be lost
abbrev pub lose_outcome : Option (List ℕ) → Outcome
lose_outcome o = option_map_or (λ packet. Lost) o Absent

-- what is answered to a copy once so many packets are in the link
abbrev pub outcome_of_copy : Copied → ℕ → Outcome
outcome_of_copy NoPacket n = Absent
outcome_of_copy Done n = CopiedTo n false
outcome_of_copy (Overflow packet) n = CopiedTo n true

abbrev pub copy_outcome : List (List ℕ) → ℕ → ℕ → Outcome
copy_outcome packets k n = outcome_of_copy (answer_to_copy packets k) n
