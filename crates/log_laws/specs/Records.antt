-- What every record of a log has: which command it was written by, and the ranges of its wire form.
use Rattle.std.specs.Prelude.{◌≡◌, ℕ, ◌-◌, ◌<◌, ◌≤◌, true, List, [], ◌∷◌, length, Some, All, slice_get, slice_index}
use Rattle.cz_base.specs.declared.limits.TheConstants.{COMMANDS, NUMBERS_END, SESSIONS, TAGS}
use Rattle.cz_base.specs.Text.{IsName, IsBody}
use Rattle.causal_deps.specs.declared.record.Record.{Record}
use Rattle.causal_deps.specs.declared.record.Draft.{Draft}
use Rattle.causal_deps.specs.declared.record.Kind.TheVariants.{Del as DelKind}
use Rattle.causal_deps.specs.Kinds.{is_update}
use Rattle.causal_deps.specs.Logs.{sealed}
use Rattle.abstract_log.specs.declared.command.Command.{Command}
use Rattle.abstract_log.specs.declared.command.Workload.{Workload}
use Rattle.abstract_log.specs.Commands.{draft_of}
use Rattle.abstract_log.specs.Worlds.{plan_of}

-- The record is the sealed draft of a write: command number `index` of its session, which has the record's host as home.
pub record IsWritten (load : Workload) (r : Record) : Type 0 where
  pub there : r.session < length load.sessions
  pub home : (plan_of load r.session).home ≡ r.host
  pub first : 1 ≤ r.index
  pub command : Command
  pub is : slice_get (plan_of load r.session).commands (r.index - 1) ≡ Some command
  pub draft : Draft
  pub drafted : draft_of r.session r.index draft.dep command ≡ Some draft
  pub sealing : r ≡ sealed draft r.host r.toid

-- The record is in the ranges of its wire form, for so many datacentres.
pub record IsValid (dcs : ℕ) (r : Record) : Type 0 where
  pub host : r.host < dcs
  pub first : 1 ≤ r.toid
  pub small : r.toid < NUMBERS_END
  pub session : r.session < SESSIONS
  pub index_first : 1 ≤ r.index
  pub index : r.index ≤ COMMANDS
  pub size : length r.dep ≡ dcs
  pub dep : All (λ n. n < NUMBERS_END) r.dep
  pub before : slice_index r.dep r.host ≡ r.toid - 1
  pub key : is_update r.kind ≡ true → (name : List ℕ) × (r.tags ≡ name ∷ [])
  pub silent : r.kind ≡ DelKind → r.body ≡ []
  pub tags : length r.tags ≤ TAGS
  pub names : All IsName r.tags
  pub body : IsBody r.body
