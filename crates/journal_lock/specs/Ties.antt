-- The part of the rule on ties: who has a datacentre's token has one of its queues, and who has the draft of a session has the session or a stage of its home.
use Rattle.std.specs.Prelude.{◌≡◌, ℕ, zero, suc, ◌+◌, ◌<◌, ◌≤◌, List}
use mathlib.Core.Option.{some}
use lib.ListN.{get_elem?}
use Rattle.cz_base.specs.declared.limits.TheConstants.{DATACENTRES, MEMBERS, SESSIONS}
use Rattle.abstract_log.specs.declared.command.Workload.{Workload}
use Rattle.abstract_log.specs.Worlds.{plan_of}
use Rattle.journal_lock.specs.declared.duty.Duty.{Duty}
use Rattle.journal_lock.specs.declared.duty.Duty.TheVariants.{Token, Batcher, Queue, Filter, Session, Draft}
use Rattle.journal_lock.specs.declared.law.View.{View}
use Rattle.journal_lock.specs.Duties.{number, has, Has}

-- how many of these duties are those of the first n members of a kind
abbrev pub members_among : (ℕ → Duty) → ℕ → List Duty → ℕ
members_among f zero ds = 0
members_among f (suc n) ds = has number (number (f n)) ds + members_among f n ds

-- how many of these duties the draft of session s may be with: the session's, and those of batchers, filters and queues of datacentre d
abbrev pub hosts_of_draft : ℕ → ℕ → List Duty → ℕ
hosts_of_draft s d ds = has number (number (Session s)) ds + (members_among (λ m. Batcher d m) MEMBERS ds + (members_among (λ m. Filter d m) MEMBERS ds + members_among (λ m. Queue d m) MEMBERS ds))

-- a token is with a queue, and a draft with its session or with a stage of its home
pub record IsTied (load : Workload) (ds : List Duty) : Type 0 where
  pub token : (d : ℕ) → d < DATACENTRES → Has (Token d) ds → 0 < members_among (λ m. Queue d m) MEMBERS ds
  pub draft : (s : ℕ) → s < SESSIONS → (plan_of load s).home < DATACENTRES → Has (Draft s) ds → 0 < hosts_of_draft s (plan_of load s).home ds

-- the duties of each view are tied
abbrev pub AllTied : Workload → List (List Duty) → Type 0
AllTied load xs = (j : ℕ) (ds : List Duty) → get_elem? xs j ≡ some ds → IsTied load ds

abbrev pub held_by : View → List Duty
held_by v = v.hold.now.duties
