-- What a sender tells.
use Rattle.std.specs.Prelude.{◌≡◌, ℕ, ◌||◌, if◌then◌else◌, nat_lt, Bool, List, length, All}
use Rattle.std.specs.List.{list_any}
use Rattle.cz_base.specs.declared.limits.TheConstants.{DENSE_BODY_BYTES}
use Rattle.causal_deps.specs.Counts.{entry_of}
use Rattle.causal_deps.specs.declared.record.Record.{Record}
use Rattle.record_codec.specs.declared.form.Form.{Form}
use Rattle.record_codec.specs.declared.form.Form.TheVariants.{Dense, Sparse}
use Rattle.record_codec.specs.declared.message.Message.{Message}
use Rattle.record_codec.specs.Wire.{FitsRecord}
use Rattle.sender_receiver.specs.Choosing.{first_new}

-- the datacentre whose sender it is, its number among the senders there, and whether it was upgraded
pub record SenderState : Type 0 where
  pub dc : ℕ
  pub number : ℕ
  pub upgraded : Bool

-- the message of d to e: the table, and the first own records that e is not known to have
abbrev pub message_to : ℕ → ℕ → List (List ℕ) → List Record → Message
message_to d e table records = record {
  from = d;
  table = table;
  records = first_new d (entry_of table e d) records;
}

-- the body is too long for the dense form
abbrev pub has_long_body : Record → Bool
has_long_body r = nat_lt DENSE_BODY_BYTES (length r.body)

-- the form in which a message is written: the sparse one after the upgrade, or where a body is too long for the dense one
abbrev pub form_of : Bool → Message → Form
form_of upgraded m = if upgraded || list_any has_long_body m.records then Sparse else Dense

-- the own records among them can be told
abbrev pub AreTellable : ℕ → ℕ → List Record → Type 0
AreTellable dcs d records = All (λ (r : Record). r.host ≡ d → FitsRecord dcs r) records
