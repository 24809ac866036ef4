-- Which records a sender tells.
use Rattle.std.specs.Prelude.{ℕ, ◌==◌, ◌&&◌, nat_lt, Bool, List, Option, take, filter, find}
use Rattle.causal_deps.specs.declared.record.Record.{Record}
use Rattle.sender_receiver.specs.Stocks.{Stocked}
use Rattle.cz_base.specs.declared.limits.TheConstants.{MESSAGE_RECORDS}

-- the record is of host d, and above the number that is known
abbrev pub is_new : ℕ → ℕ → Record → Bool
is_new d known r = (r.host == d) && nat_lt known r.toid

-- the first such records, as many as a message holds
abbrev pub first_new : ℕ → ℕ → List Record → List Record
first_new d known records = take MESSAGE_RECORDS (filter (is_new d known) records)

-- such a record stands there, above the place lid
abbrev pub is_new_above : ℕ → ℕ → ℕ → Stocked → Bool
is_new_above d known lid x = nat_lt lid x.lid && is_new d known x.rec

-- the first such record above the place lid, and its place
abbrev pub next_new : ℕ → ℕ → ℕ → List Stocked → Option Stocked
next_new d known lid held = find (is_new_above d known lid) held
