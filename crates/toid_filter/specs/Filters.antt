-- Filters: each record from another datacentre goes to one of them, its champion, which passes it once and in order.
use Rattle.std.specs.Prelude.{◌≡◌, ℕ, zero, suc, ◌+◌, ◌<◌, ◌≤◌, ◌==◌, ◌&&◌, ◌||◌, Bool, true, false, not, if◌then◌else◌, nat_le, nat_lt, List, [], ◌∷◌, ◌++◌, length, map, replicate, Option, Some, None, slice_get, slice_index, slice_index_or, count_by, filter, All}
use Rattle.std.specs.List.{list_any, AllPairs}
use Rattle.causal_deps.specs.declared.record.Record.{Record}
use Rattle.causal_deps.specs.declared.record.Item.{Item}
use Rattle.causal_deps.specs.declared.record.Item.TheVariants.{Local, External}
use Rattle.causal_deps.specs.Counts.{raised}
use Rattle.toid_filter.specs.declared.champions.Share.{Share}
use Rattle.toid_filter.specs.declared.filter.AcceptedMark.{AcceptedMark}
use Rattle.toid_filter.specs.declared.filter.Accept.{Accept}
use Rattle.toid_filter.specs.declared.filter.Accept.TheVariants.{Accepted, Late}
use Rattle.toid_filter.specs.declared.filter.Verdict.{Verdict}
use Rattle.toid_filter.specs.declared.filter.Verdict.TheVariants.{Passed, Held, Dropped}
use Rattle.toid_filter.specs.Champions.{champion, last_share, Serves}
use Rattle.cz_base.specs.declared.limits.TheConstants.{MEMBERS}

-- What a filter has: its number and champion map; for each host the greatest number that it passed, 0 before the first;
-- the records held, by host and then by number; what it passed on; a mark that it accepted.
-- It passes its own numbers of a host in order, so what it passed are its own numbers up to the greatest.
pub record FilterState : Type 0 where
  pub number : ℕ
  pub map : List (List Share)
  pub reached : List ℕ
  pub held : List Record
  pub out : List Item
  pub accepted : Option AcceptedMark

-- a filter that has nothing
abbrev pub new_filter : ℕ → List (List Share) → FilterState
new_filter number map = record { number = number; map = map; reached = replicate (length map) 0; held = []; out = []; accepted = None }

-- number t of host h is the filter's own
abbrev pub owns : FilterState → ℕ → ℕ → Bool
owns f h t = champion f.map h t == f.number

-- the filter passed number t of host h
abbrev pub is_passed : FilterState → ℕ → ℕ → Bool
is_passed f h t = nat_le 1 t && (nat_le t (slice_index f.reached h) && owns f h t)

-- the record is number t of host h
abbrev pub has_name : ℕ → ℕ → Record → Bool
has_name h t r = (r.host == h) && (r.toid == t)

-- the filter holds number t of host h
abbrev pub is_held : FilterState → ℕ → ℕ → Bool
is_held f h t = list_any (has_name h t) f.held

abbrev pub is_known : FilterState → ℕ → ℕ → Bool
is_known f h t = is_passed f h t || is_held f h t

-- how often the filter passed number t of host h, and how often it holds it
abbrev pub times_passed : ℕ → ℕ → FilterState → ℕ
times_passed h t f = if is_passed f h t then 1 else 0

abbrev pub times_held : ℕ → ℕ → FilterState → ℕ
times_held h t f = count_by (has_name h t) f.held

-- the test holds of each number below t
abbrev pub all_below : (ℕ → Bool) → ℕ → Bool
all_below test zero = true
all_below test (suc t) = test t && all_below test t

-- number t of host h is none of the filter's, or was passed
abbrev pub is_done : FilterState → ℕ → ℕ → Bool
is_done f h t = (t == 0) || (not (owns f h t) || is_passed f h t)

-- number t of host h is none of the filter's, or was passed or is held
abbrev pub is_met : FilterState → ℕ → ℕ → Bool
is_met f h t = (t == 0) || (not (owns f h t) || is_known f h t)

-- an accepted mark of the host is at or below the number
abbrev pub is_held_back : Option AcceptedMark → ℕ → ℕ → Bool
is_held_back None h t = false
is_held_back (Some mark) h t = (mark.host == h) && nat_le mark.from t

-- each smaller own number was passed, and no accepted mark holds the record back
abbrev pub is_free : FilterState → Record → Bool
is_free f r = all_below (is_done f r.host) r.toid && not (is_held_back f.accepted r.host r.toid)

-- each smaller own number was passed or is held, and no accepted mark holds the record back
abbrev pub is_due : FilterState → Record → Bool
is_due f r = all_below (is_met f r.host) r.toid && not (is_held_back f.accepted r.host r.toid)

-- the records held that pass together, by host and then by number
abbrev pub due : FilterState → List Record
due f = filter (is_due f) f.held

abbrev pub not_due : FilterState → List Record
not_due f = filter (λ r. not (is_due f r)) f.held

-- the greatest numbers passed, after these records passed
abbrev pub reached_by : List ℕ → List Record → List ℕ
reached_by reached [] = reached
reached_by reached (r ∷ rs) = reached_by (raised reached r.host r.toid) rs

-- all records that are due pass
abbrev pub released : FilterState → FilterState
released f = record f { reached = reached_by f.reached (due f); held = not_due f; out = f.out ++ map External (due f) }

-- the record stands before number t of host h: it has a smaller host, or that host and a smaller number
abbrev pub stands_before : ℕ → ℕ → Record → Bool
stands_before h t r = nat_lt r.host h || ((r.host == h) && nat_lt r.toid t)

-- the records that stand before number t of host h, and those from it on
abbrev pub before_name : ℕ → ℕ → List Record → List Record
before_name h t rs = filter (stands_before h t) rs

abbrev pub from_name : ℕ → ℕ → List Record → List Record
from_name h t rs = filter (λ q. not (stands_before h t q)) rs

-- a record with its name before it
abbrev pub named : Record → (ℕ × ℕ) × Record
named r = ((r.host, r.toid), r)

-- the record is held at its place
abbrev pub with_held : FilterState → Record → FilterState
with_held f r = record f { held = before_name r.host r.toid f.held ++ r ∷ from_name r.host r.toid f.held }

-- the record is the next own one of host h after a number, and no accepted mark holds it back
pub record Follows (f : FilterState) (r : Record) (h last : ℕ) : Type 0 where
  pub host : r.host ≡ h
  pub later : last < r.toid
  pub next : Serves f.map f.number h (last + 1) r.toid → ⊥
  pub unmarked : is_held_back f.accepted h r.toid ≡ false

-- Taking a record, with what is said of it and the filter afterwards: one that was passed or is held is dropped; else one that
-- may not pass yet is held; else it passes, with each held record that is then due.
abbrev pub IsTaken : FilterState → Record → Verdict → FilterState → Type 0
IsTaken f r Dropped g = (is_known f r.host r.toid ≡ true) × (g ≡ f)
IsTaken f r Held g = (is_known f r.host r.toid ≡ false) × (is_free f r ≡ false) × (g ≡ with_held f r)
IsTaken f r Passed g = (is_known f r.host r.toid ≡ false) × (is_free f r ≡ true) × (g ≡ released (with_held f r))

-- a record that the filter may take: a number of its own, of a host that there is
pub record FitsFilter (f : FilterState) (r : Record) : Type 0 where
  pub host : r.host < length f.map
  pub first : 1 ≤ r.toid
  pub own : champion f.map r.host r.toid ≡ f.number

-- the filter after a record, and after an item
abbrev pub with_record : FilterState → Record → FilterState
with_record f r =
    if is_known f r.host r.toid then f
    else (if is_free f r then released (with_held f r) else with_held f r)

abbrev pub with_item : FilterState → Item → FilterState
with_item f (Local draft) = record f { out = f.out ++ Local draft ∷ [] }
with_item f (External r) = with_record f r

-- what a filter keeps, also while it holds records that are due
pub record IsTidy (f : FilterState) : Type 0 where
  pub width : length f.reached ≡ length f.map
  pub reached_own : (h : ℕ) → 1 ≤ slice_index f.reached h → owns f h (slice_index f.reached h) ≡ true
  pub reached_open : (h : ℕ) → 1 ≤ slice_index f.reached h → is_held_back f.accepted h (slice_index f.reached h) ≡ false
  pub rising : AllPairs (λ q r. stands_before r.host r.toid q ≡ true) f.held
  pub fits : All (FitsFilter f) f.held
  pub unpassed : All (λ r. is_passed f r.host r.toid ≡ false) f.held

-- what a filter keeps between its calls; by it the filter is sound
pub record IsSteady (f : FilterState) : Type 0 where
  pub tidy : IsTidy f
  pub none_due : All (λ r. is_due f r ≡ false) f.held

-- A sound filter: what it passed or holds is its own; it holds no number that it passed, and none twice; each own number
-- smaller than a passed one of that host was passed; what is held waits for a smaller own number or for an accepted mark;
-- nothing at or above an accepted mark of its host was passed.
pub record IsSound (f : FilterState) : Type 0 where
  pub own_passed : (h t : ℕ) → is_passed f h t ≡ true → owns f h t ≡ true
  pub own_held : All (λ r. owns f r.host r.toid ≡ true) f.held
  pub once : (h t : ℕ) → times_passed h t f + times_held h t f ≤ 1
  pub in_order : (h t : ℕ) → is_passed f h t ≡ true → all_below (is_done f h) t ≡ true
  pub none_free : All (λ r. is_free f r ≡ false) f.held
  pub below_mark : (h t : ℕ) → is_passed f h t ≡ true → is_held_back f.accepted h t ≡ false

abbrev pub no_filter : FilterState
no_filter = record { number = 0; map = []; reached = []; held = []; out = []; accepted = None }

abbrev pub filter_at : List FilterState → ℕ → FilterState
filter_at fs i = slice_index_or fs i no_filter

-- an announcement of one filter more for a host from a mark on, and the filter that it asks next
pub record Announcement : Type 0 where
  pub host : ℕ
  pub mark : ℕ
  pub next : ℕ

-- the mark that filter i has accepted: the filters before the next one have heard it
abbrev pub mark_accepted : Option Announcement → ℕ → Option AcceptedMark
mark_accepted None i = None
mark_accepted (Some a) i = if nat_lt i a.next then Some (record { host = a.host; from = a.mark }) else None

-- The filters of a datacentre are steady, and so sound, by one map; the accepted marks are those of the filters that the announcement has
-- heard, and there is none without one; what is announced is of a host that there is, is later than the last share, leaves at
-- most `MEMBERS` filters and asks none that is not there; every champion is there.
pub record AreSound (map : List (List Share)) (announcement : Option Announcement) (fs : List FilterState) : Type 0 where
  pub each : All IsSteady fs
  pub one_map : All (λ f. f.map ≡ map) fs
  pub numbers : (i : ℕ) → i < length fs → (filter_at fs i).number ≡ i
  pub heard : (i : ℕ) → i < length fs → (filter_at fs i).accepted ≡ mark_accepted announcement i
  pub host : (a : Announcement) → announcement ≡ Some a → a.host < length map
  pub asked : (a : Announcement) → announcement ≡ Some a → a.next ≤ length fs
  pub later : (a : Announcement) → announcement ≡ Some a → (last_share map a.host).start < a.mark
  pub room : (a : Announcement) → announcement ≡ Some a → (last_share map a.host).filters < MEMBERS
  pub there : (h t : ℕ) → champion map h t < length fs
  pub enough : (h : ℕ) → (last_share map h).filters ≤ length fs

-- the filter has passed a number of the host at or above the mark
abbrev pub is_past : ℕ → ℕ → FilterState → Bool
is_past h mark f = nat_le 1 (slice_index f.reached h) && nat_le mark (slice_index f.reached h)

-- what a filter answers that is asked to accept a mark, and what it then is
abbrev pub accept_told : ℕ → ℕ → FilterState → Accept
accept_told h mark f = if is_past h mark f then Late (slice_index f.reached h) else Accepted

abbrev pub accepted_by : ℕ → ℕ → FilterState → FilterState
accepted_by h mark f = if is_past h mark f then f else record f { accepted = Some (record { host = h; from = mark }) }

-- The record is the first held from number `first` of host h on, it is of that host, and no smaller number from there on is the filter's.
pub record IsNext (map : List (List Share)) (number h first : ℕ) (held : List Record) (q : Record) : Type 0 where
  pub is : slice_get (from_name h first held) 0 ≡ Some q
  pub host : q.host ≡ h
  pub next : Serves map number h first q.toid → ⊥

-- the filter forgets its accepted mark, and what is due passes
abbrev pub cancelled : FilterState → FilterState
cancelled f = released (record f { accepted = None })

-- the record is the filter's own by the map
abbrev pub is_own : List (List Share) → ℕ → Record → Bool
is_own map number r = champion map r.host r.toid == number

-- the filter takes a grown map and keeps what it still owns, and what is due passes
abbrev pub activated : List (List Share) → FilterState → FilterState
activated map f = released (record f { map = map; accepted = None; held = filter (is_own map f.number) f.held })

-- what it hands out
abbrev pub handed_out : List (List Share) → FilterState → List Record
handed_out map f = filter (λ r. not (is_own map f.number r)) f.held
