-- Duties and positions by their numbers, lists of them, and which event needs or takes which.
use Rattle.std.specs.Prelude.{ℕ, zero, suc, ◌+◌, ◌*◌, ◌<◌, ◌≤◌, ◌==◌, cond, nat_le, List, [], ◌∷◌, ◌++◌, length, count_by, sum_by}
use Rattle.abstract_log.specs.declared.command.Workload.{Workload}
use Rattle.abstract_log.specs.declared.event.Event.{Event}
use Rattle.abstract_log.specs.declared.event.Event.TheVariants.{Submit, Append, Receive, Add, Learn, Reply, Collect}
use Rattle.journal_lock.specs.declared.duty.Duty.{Duty}
use Rattle.journal_lock.specs.declared.duty.Duty.TheVariants.{Token, Table, Batcher, Queue, Maintainer, Filter, Session, Draft}
use Rattle.journal_lock.specs.declared.duty.Position.{Position}
use Rattle.cz_base.specs.declared.limits.TheConstants.{DATACENTRES, MEMBERS}
use Rattle.journal_lock.specs.declared.duty.TheConstants.{DUTIES, BATCHERS, QUEUES, MAINTAINERS, FILTERS, SESSION_DUTIES}

-- The number of a duty. With datacentres below DATACENTRES and members below MEMBERS no two duties have the same.
abbrev pub number : Duty → ℕ
number (Token d) = DUTIES * d
number (Table d) = DUTIES * d + 1
number (Batcher d m) = DUTIES * d + BATCHERS + m
number (Queue d m) = DUTIES * d + QUEUES + m
number (Maintainer d m) = DUTIES * d + MAINTAINERS + m
number (Filter d m) = DUTIES * d + FILTERS + m
number (Session s) = SESSION_DUTIES + 2 * s
number (Draft s) = SESSION_DUTIES + 1 + 2 * s

-- The number of position p of datacentre d. With datacentres below DATACENTRES no two positions have the same.
abbrev pub place_at : ℕ → ℕ → ℕ
place_at d p = DATACENTRES * p + d

abbrev pub place : Position → ℕ
place p = place_at p.dc p.lid

-- the datacentre of a position
abbrev pub datacentre : Position → ℕ
datacentre p = p.dc

-- how often the number x stands in a list
abbrev pub has : {A : Type 0} → (A → ℕ) → ℕ → List A → ℕ
has f x xs = count_by (λ a. f a == x) xs

-- the list without one that has the number x
abbrev pub without : {A : Type 0} → (A → ℕ) → ℕ → List A → List A
without f x [] = []
without f x (a ∷ xs) = cond (f a == x) xs (a ∷ without f x xs)

-- the list xs without those of ys
abbrev pub minus : {A : Type 0} → (A → ℕ) → List A → List A → List A
minus f xs [] = xs
minus f xs (y ∷ ys) = minus f (without f (f y) xs) ys

-- those of ys are among xs
abbrev pub Among : {A : Type 0} → (A → ℕ) → List A → List A → Type 0
Among f ys xs = (x : ℕ) → has f x ys ≤ has f x xs

-- this duty is among them
abbrev pub Has : Duty → List Duty → Type 0
Has d ds = 0 < has number (number d) ds

-- some duty is among them
abbrev pub HasDuty : List Duty → Type 0
HasDuty ds = (x : ℕ) × (0 < has number x ds)

-- the duties that an event needs: who pushes it has them all
abbrev pub duties_of : Event → List Duty
duties_of (Submit s k) = Session s ∷ Draft s ∷ []
duties_of (Append d s k lid toid) = Session s ∷ Draft s ∷ Token d ∷ []
duties_of (Receive d e table names) = Table d ∷ []
duties_of (Add d lid h t) = Token d ∷ []
duties_of (Learn d row) = Table d ∷ []
duties_of (Reply d s k at answer) = Session s ∷ []
duties_of (Collect d p) = Table d ∷ []

-- how many events of a list need the duty with the number x
abbrev pub often : ℕ → List Event → ℕ
often x log = sum_by (λ e. has number x (duties_of e)) log

-- the position that an event fills
abbrev pub positions_of : Event → List Position
positions_of (Submit s k) = []
positions_of (Append d s k lid toid) = record { dc = d; lid = lid } ∷ []
positions_of (Receive d e table names) = []
positions_of (Add d lid h t) = record { dc = d; lid = lid } ∷ []
positions_of (Learn d row) = []
positions_of (Reply d s k at answer) = []
positions_of (Collect d p) = []

-- the positions that events fill
abbrev pub stamped : List Event → List Position
stamped [] = []
stamped (e ∷ es) = positions_of e ++ stamped es

-- the first n of a kind
abbrev pub members : (ℕ → Duty) → ℕ → List Duty
members f zero = []
members f (suc n) = f n ∷ members f n

-- the duties of datacentre d
abbrev pub duties_at : ℕ → List Duty
duties_at d = members (λ m. Filter d m) MEMBERS ++ (members (λ m. Maintainer d m) MEMBERS ++ (members (λ m. Queue d m) MEMBERS ++ (members (λ m. Batcher d m) MEMBERS ++ (Table d ∷ Token d ∷ []))))

-- the duties of the first n datacentres
abbrev pub dc_duties : ℕ → List Duty
dc_duties zero = []
dc_duties (suc n) = duties_at n ++ dc_duties n

-- the duties of the first n sessions
abbrev pub session_duties : ℕ → List Duty
session_duties zero = []
session_duties (suc n) = Draft n ∷ Session n ∷ session_duties n

-- each duty that there is
abbrev pub all_duties : Workload → List Duty
all_duties load = session_duties (length load.sessions) ++ dc_duties load.dcs

-- 1 where p is a position of a log of n records, and else 0
abbrev pub is_inside : ℕ → ℕ → ℕ
is_inside n p = cond (nat_le p n) (cond (p == 0) 0 1) 0
