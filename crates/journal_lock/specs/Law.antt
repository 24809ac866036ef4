-- The part of the rule on the turn, the journal and the duties, and what each of its steps tells.
use Rattle.std.specs.Prelude.{◌≡◌, ◌≢◌, ℕ, ◌+◌, ◌<◌, ◌≤◌, cond, nat_le, List, [], ◌∷◌, ◌++◌, length, drop, Option, Some, None}
use mathlib.Core.Option.{some}
use mathlib.Core.Option as maybe
use mathlib.Core.List.{IsPrefix}
use lib.ListN.{get_elem?}
use Rattle.atomic_table.specs.Table.{State, Me, Step}
use Rattle.abstract_log.specs.declared.command.Workload.{Workload}
use Rattle.abstract_log.specs.declared.event.Event.{Event}
use Rattle.abstract_log.specs.Worlds.{plan_of}
use Rattle.abstract_log.specs.Runs.{IsRun}
use Rattle.journal_lock.specs.declared.duty.Duty.{Duty}
use Rattle.journal_lock.specs.declared.duty.Position.{Position}
use Rattle.journal_lock.specs.declared.law.Stage.{Stage}
use Rattle.journal_lock.specs.declared.law.Stage.TheVariants.{Idle, Out, Back, Spent}
use Rattle.journal_lock.specs.declared.law.Known.{Known}
use Rattle.journal_lock.specs.declared.law.Hold.{Hold}
use Rattle.journal_lock.specs.declared.law.Names.{Names}
use Rattle.journal_lock.specs.declared.law.Pins.{Pins}
use Rattle.journal_lock.specs.declared.law.View.{View}
use Rattle.cz_base.specs.declared.limits.TheConstants.{SESSIONS}
use Rattle.journal_lock.specs.Pins.{pins_of_both}
use Rattle.journal_lock.specs.Duties.{number, place, has, minus, often, stamped, all_duties, HasDuty}

-- what a journal is to a contract: its events, and how many more it has room for
pub record Book : Type 0 where
  pub log : List Event
  pub spare : ℕ

-- the sum of f over the views
abbrev pub total : {A : Type 0} → (A → ℕ) → List A → ℕ
total f [] = 0
total f (x ∷ xs) = f x + total f xs

-- 1 where the pass has the turn
abbrev pub busy : Stage → ℕ
busy Idle = 0
busy Out = 1
busy Back = 1
busy Spent = 0

-- 1 where the pass has the slot
abbrev pub away : Stage → ℕ
away Idle = 0
away Out = 1
away Back = 0
away Spent = 0

-- 1 where no other pass took it in
abbrev pub lives : Stage → ℕ
lives Idle = 1
lives Out = 1
lives Back = 1
lives Spent = 0

-- b has no event of these duties that a lacks
abbrev pub SameFor : List Duty → List Event → List Event → Type 0
SameFor ds a b = (x : ℕ) → 0 < has number x ds → often x b ≡ often x a

-- b begins with a, and has no event of these duties that a lacks
abbrev pub Within : List Duty → List Event → List Event → Type 0
Within ds a b = IsPrefix a b × SameFor ds a b

-- what is known is true of the journal
pub record Knows (log : List Event) (k : Known) : Type 0 where
  pub begins : IsPrefix k.seen log
  pub complete : SameFor k.duties k.seen log

-- what a pass knows is true of the journal, and it knows no less than the two that it was made of
pub record Fits (load : Workload) (log : List Event) (h : Hold) : Type 0 where
  pub plan : 0 < lives h.stage → h.load ≡ load
  pub now : Knows log h.now
  pub left : Knows log h.left
  pub right : Knows log h.right
  pub no_less : (length h.left.seen ≤ length h.now.seen) × (length h.right.seen ≤ length h.now.seen)
  pub parts : ((x : ℕ) → 0 < has number x h.left.duties → 0 < has number x h.now.duties) × ((x : ℕ) → 0 < has number x h.right.duties → 0 < has number x h.now.duties)
  pub holding : 0 < busy h.stage → (h.now.seen ≡ log) × HasDuty h.now.duties

-- there is a session s, and it has a command
abbrev pub HasCommands : Workload → ℕ → Type 0
HasCommands load s = (s < length load.sessions) × (0 < length (plan_of load s).commands)

abbrev pub Homes : Type 0
Homes = List (maybe.Option (Option Book))

-- the journal lies in the slot
abbrev pub Home : List Event → Homes → Type 0
Home log homes = (w : Book) × (w.log ≡ log) × (get_elem? homes 0 ≡ some (some (Some w)))

-- the part of the rule on the turn, the journal and the duties
pub record Locked (load : Workload) (log : List Event) (turn count : ℕ) (homes : Homes) (hs : List Hold) : Type 0 where
  pub run : IsRun load log
  pub counted : count ≡ length log
  pub one : turn ≤ 1
  pub turns : total (λ h. busy h.stage) hs ≡ turn
  pub home : total (λ h. away h.stage) hs ≡ 0 → Home log homes
  pub single : (x : ℕ) → has number x (all_duties load) ≤ 1
  pub duties : (x : ℕ) → total (λ h. has number x h.now.duties) hs ≡ has number x (all_duties load)
  pub known : (x : ℕ) → has number x (all_duties load) ≡ 0 → often x log ≡ 0
  pub each : (j : ℕ) (h : Hold) → get_elem? hs j ≡ some h → Fits load log h

abbrev pub hold_of : View → Hold
hold_of v = v.hold

abbrev pub At : Type 0
At = State (Option Book) View

abbrev pub known : List Event → List Duty → Known
known seen ds = record { seen = seen; duties = ds }

abbrev pub nothing : Known
nothing = known [] []

-- a pass that was not just joined
abbrev pub plain : Workload → Known → Stage → Hold
plain load k stage = record { load = load; now = k; left = nothing; right = nothing; stage = stage }

abbrev pub longer : List Event → List Event → List Event
longer xs ys = cond (nat_le (length xs) (length ys)) ys xs

abbrev pub both_known : Known → Known → Known
both_known k l = known (longer k.seen l.seen) (k.duties ++ l.duties)

-- views

abbrev pub names : List Position → List Position → Names
names hand placed = record { hand = hand; placed = placed }

-- nothing is pinned, as far as is known
abbrev pub no_pins : Pins
no_pins = record { now = []; left = []; right = [] }

-- what two passes know of pins, as one
abbrev pub both_pins : View → View → Pins
both_pins v w = record { now = pins_of_both v.hold.load v.hold.now.duties v.pins.now w.pins.now SESSIONS; left = v.pins.now; right = w.pins.now }

abbrev pub with_names : View → Names → View
with_names v x = record { hold = v.hold; notes = v.notes; names = x; pins = v.pins }

abbrev pub with_hold : View → Hold → View
with_hold v h = record { hold = h; notes = v.notes; names = v.names; pins = v.pins }

abbrev pub no_load : Workload
no_load = record { dcs = 0; sessions = [] }

abbrev pub spent : View
spent = record { hold = plain no_load nothing Spent; notes = []; names = names [] []; pins = no_pins }

abbrev pub kept : List Duty → List Position → List Position → View → View
kept ds hand placed v = with_names (with_hold v (plain v.hold.load (known v.hold.now.seen (minus number v.hold.now.duties ds)) v.hold.stage)) (names (minus place v.names.hand hand) (minus place v.names.placed placed))

abbrev pub given : List Duty → List Position → List Position → View → View
given ds hand placed v = with_names (with_hold v (plain v.hold.load (known v.hold.now.seen ds) Idle)) (names hand placed)

abbrev pub joined : View → View → View
joined v w = record { hold = record { load = v.hold.load; now = both_known v.hold.now w.hold.now; left = v.hold.now; right = w.hold.now; stage = v.hold.stage }; notes = v.notes ++ w.notes; names = names (v.names.hand ++ w.names.hand) (v.names.placed ++ w.names.placed); pins = both_pins v w }

abbrev pub learnt : View → View
learnt v = with_hold v (plain v.hold.load v.hold.now v.hold.stage)

abbrev pub staged : View → List Event → Stage → View
staged v log stage = with_hold v (plain v.hold.load (known log v.hold.now.duties) stage)

-- the pass after its events were counted: their positions are at hand
abbrev pub counted : View → List Event → View
counted v log = with_names (staged v log Back) (names (stamped (drop (length v.hold.now.seen) log) ++ v.names.hand) v.names.placed)

-- what each step tells

abbrev pub Sat : Type 0
Sat = Me (Option Book) View

abbrev pub Counts : Step (Option Book) → Sat → ℕ → Sat → Type 0
Counts st m found m' = (w : Book) → m.1 ≡ (0, Some w) ∷ [] → (m'.0 ≡ counted m.0 w.log) × (m'.1 ≡ [])

abbrev pub Frees : Step (Option Book) → Sat → ℕ → Sat → Type 0
Frees st m found m' = (m'.0 ≡ staged m.0 m.0.hold.now.seen Idle) × (m'.1 ≡ m.1)

-- the pass has neither the turn nor the slot
pub record IsIdle (m : Sat) : Type 0 where
  pub stage : m.0.hold.stage ≡ Idle
  pub empty : m.1 ≡ []

-- the pass has the turn, and its slot lies empty: the journal, with the log now, is in hand. It is a run, and has grown by events of the pass's duties
pub record IsOut (m : Sat) (log : List Event) : Type 0 where
  pub stage : m.0.hold.stage ≡ Out
  pub carries : m.1 ≡ (0, None) ∷ []
  pub run : IsRun m.0.hold.load log
  pub grown : IsPrefix m.0.hold.now.seen log
  pub own : (x : ℕ) → has number x m.0.hold.now.duties ≡ 0 → often x log ≡ often x m.0.hold.now.seen
