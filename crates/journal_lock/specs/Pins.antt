-- The part of the rule on pins: each session has one, a position of its datacentre or none. Who has the session's duty knows it, and so does who has the duty of its datacentre's table.
use Rattle.std.specs.Prelude.{◌≡◌, ℕ, zero, suc, ◌+◌, ◌<◌, ◌≤◌, ◌==◌, cond, nat_le, List, [], ◌∷◌, Option, None}
use Rattle.std.specs.List.{All}
use mathlib.Core.Option.{some}
use lib.ListN.{get_elem?}
use Rattle.cz_base.specs.declared.limits.TheConstants.{SESSIONS}
use Rattle.abstract_log.specs.declared.command.Workload.{Workload}
use Rattle.abstract_log.specs.Worlds.{plan_of}
use Rattle.journal_lock.specs.declared.duty.Duty.{Duty}
use Rattle.journal_lock.specs.declared.duty.Duty.TheVariants.{Session, Table}
use Rattle.journal_lock.specs.declared.law.SessionPin.{SessionPin}
use Rattle.journal_lock.specs.declared.law.View.{View}
use Rattle.journal_lock.specs.Duties.{number, has, Has}

-- the pin of session s in a list of them: the first that is told
abbrev pub pin_of : ℕ → List SessionPin → Option ℕ
pin_of s [] = None
pin_of s (p ∷ ps) = cond (p.session == s) p.at (pin_of s ps)

-- the number of the table's duty at the home of session s
abbrev pub home_table : Workload → ℕ → ℕ
home_table load s = number (Table (plan_of load s).home)

-- of how many of these duties the pin of session s is known
abbrev pub knowers : Workload → ℕ → List Duty → ℕ
knowers load s ds = has number (number (Session s)) ds + has number (home_table load s) ds

-- the pins of the first n sessions, as the first of two passes has them where its duties know them, and else as the second has them
abbrev pub pins_of_both : Workload → List Duty → List SessionPin → List SessionPin → ℕ → List SessionPin
pins_of_both load ds ps qs zero = []
pins_of_both load ds ps qs (suc n) = record { session = n; at = cond (nat_le 1 (knowers load n ds)) (pin_of n ps) (pin_of n qs) } ∷ pins_of_both load ds ps qs n

-- these pins may be set: both duties by which each is known are there
abbrev pub MayPin : Workload → List Duty → List SessionPin → Type 0
MayPin load ds changes = All (λ (p : SessionPin). Has (Session p.session) ds × Has (Table (plan_of load p.session).home) ds) changes

-- duties, and pins
abbrev pub Stake : Type 0
Stake = List Duty × List SessionPin

-- the duties and the pins of a view, and those of the two that became it
abbrev pub Pinning : Type 0
Pinning = Stake × Stake × Stake

abbrev pub pinning_of : View → Pinning
pinning_of v = ((v.hold.now.duties, v.pins.now), (v.hold.left.duties, v.pins.left), (v.hold.right.duties, v.pins.right))

-- the pins that are known by these duties are right
abbrev pub KnowsPins : Workload → (ℕ → Option ℕ) → Stake → Type 0
KnowsPins load pins k = (s : ℕ) → s < SESSIONS → 0 < knowers load s k.0 → pin_of s k.1 ≡ pins s

pub record FitsPins (load : Workload) (pins : ℕ → Option ℕ) (x : Pinning) : Type 0 where
  pub now : KnowsPins load pins x.0
  pub left : KnowsPins load pins x.1
  pub right : KnowsPins load pins x.2

pub record Pinned (load : Workload) (xs : List Pinning) : Type 0 where
  pub pins : ℕ → Option ℕ
  pub each : (j : ℕ) (x : Pinning) → get_elem? xs j ≡ some x → FitsPins load pins x

-- two stakes that both know the pin of a session have the same
abbrev pub PinsAgree : Workload → Stake → Stake → Type 0
PinsAgree load k l = (s : ℕ) → s < SESSIONS → 0 < knowers load s k.0 → 0 < knowers load s l.0 → pin_of s k.1 ≡ pin_of s l.1
