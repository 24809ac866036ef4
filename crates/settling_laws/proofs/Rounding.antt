-- What holds along the turns of a local round.
use Rattle.std.proofs.Common.{◌≡◌, ℕ, ◌<◌, Bool, true, ltb, ◌&&◌, List, [], ◌∷◌, length, get_or, set, ap, sym, subst, ◌∙◌, inl, inr, arith}
use Rattle.std.specs.List.{All}
use Rattle.std.proofs.lemmas.List.{get_or-set_same, get_or-set_other, get_or_past, length-set}
use Rattle.std.proofs.lemmas.List.Elements.{All-head, All-tail}
use Rattle.std.proofs.lemmas.Bool.{cases_lt, cases_eq, cond-true, lt-ltb, and_from}
use Rattle.abstract_log.specs.declared.command.Workload.{Workload}
use Rattle.abstract_log.specs.declared.script.Sizes.{Sizes}
use Rattle.abstract_log.specs.declared.script.Step.{Step}
use Rattle.abstract_log.specs.declared.script.Outcome.TheVariants.{Absent}
use Rattle.stage_world.specs.Stages.{Datacentre}
use Rattle.stage_world.specs.Turns.{Turned, quiet, where_there}
use Rattle.settling_laws.proofs.Live.{IsTurnAt, IsLive, turned, walked, live_turn}
use Rattle.settling_laws.proofs.Members.{GoesTo, goes_nowhere, goes_far, turn_goes}

-- The datacentre is in a local round that began at z.
pub record IsInRound (load : Workload) (d : ℕ) (z y : Datacentre) : Type 0 where
  pub live : IsLive load d y
  pub goes : GoesTo z y

pub round_begins : (load : Workload) (d : ℕ) (z : Datacentre) → IsLive load d z → IsInRound load d z z
round_begins load d z l = record { live = l; goes = goes_nowhere z }

pub round_goes : (load : Workload) (d : ℕ) (z y : Datacentre) (t : Step) → IsTurnAt load d t → IsInRound load d z y → IsInRound load d z (turned d y t)
round_goes load d z y t at h = record { live = live_turn load d y t at h.live; goes = goes_far z y (turned d y t) h.goes (turn_goes load d y t at h.live) }

-- the stages have as many members as at the beginning
pub batchers_stay : (load : Workload) (d : ℕ) (z y : Datacentre) → IsInRound load d z y → length y.batchers ≡ length z.batchers
batchers_stay load d z y h = ap (λ (s : Sizes). s.batchers) h.goes.members.sizes

pub filters_stay : (load : Workload) (d : ℕ) (z y : Datacentre) → IsInRound load d z y → length y.filters ≡ length z.filters
filters_stay load d z y h = ap (λ (s : Sizes). s.filters) h.goes.members.sizes

pub queues_stay : (load : Workload) (d : ℕ) (z y : Datacentre) → IsInRound load d z y → length y.queues ≡ length z.queues
queues_stay load d z y h = ap (λ (s : Sizes). s.queues) h.goes.members.sizes

pub maintainers_stay : (load : Workload) (d : ℕ) (z y : Datacentre) → IsInRound load d z y → length y.maintainers ≡ length z.maintainers
maintainers_stay load d z y h = ap (λ (s : Sizes). s.maintainers) h.goes.members.sizes

pub indexers_stay : (load : Workload) (d : ℕ) (z y : Datacentre) → IsInRound load d z y → length y.indexers ≡ length z.indexers
indexers_stay load d z y h = ap (λ (s : Sizes). s.indexers) h.goes.members.sizes

-- a turn of members that are there
pub there_is : (b : Bool) (z : Datacentre) (t : Turned) → b ≡ true → (where_there b z t).after ≡ t.after
there_is b z t is = ap (λ (u : Turned). u.after) (cond-true b t (quiet Absent z) is)

pub both_there : (a m b n : ℕ) → a < m → b < n → (ltb a m && ltb b n) ≡ true
both_there a m b n one two = and_from (ltb a m) (ltb b n) (lt-ltb a m one) (lt-ltb b n two)

-- what holds at a place of a list still holds where it also holds of what is put into the list
pub at_set : {X : Type 0} (P : X → Type 0) (xs : List X) (i k : ℕ) (y d : X) → (i < length xs → P y) → P (get_or xs k d) → P (get_or (set xs i y) k d)
at_set P xs i k y d new old = elim (cases_eq k i) [
  | inr other ↦ subst P (sym (get_or-set_other xs i k y d other)) old
  | inl same ↦ elim (cases_lt i (length xs)) [
    | inl within ↦ subst (λ j. P (get_or (set xs i y) j d)) (sym same) (subst P (sym (get_or-set_same xs i y d within)) (new within))
    | inr past ↦
        let was : get_or xs k d ≡ d = get_or_past xs k d (omega (arith, past, same)) in
        let is : get_or (set xs i y) k d ≡ d = get_or_past (set xs i y) k d (omega (arith, past, same, length-set xs i y)) in
        subst P (was ∙ sym is) old
  ]
]

-- what is put into a list stands there, or the place is past the end
pub at_put : {X : Type 0} (P : X → Type 0) (xs : List X) (i : ℕ) (y d : X) → P y → P d → P (get_or (set xs i y) i d)
at_put P xs i y d new none = elim (cases_lt i (length xs)) [
  | inl within ↦ subst P (sym (get_or-set_same xs i y d within)) new
  | inr past ↦ subst P (sym (get_or_past (set xs i y) i d (omega (arith, past, length-set xs i y)))) none
]

-- what each of the steps keeps
pub along_all : (d : ℕ) (I : Datacentre → Type 0) (Q : Step → Type 0) (ts : List Step) → ((y : Datacentre) (t : Step) → Q t → I y → I (turned d y t)) → All Q ts → (z : Datacentre) → I z → I (walked d z ts)
along_all d I Q [] keeps all z i = i
along_all d I Q (t ∷ ts) keeps all z i = along_all d I Q ts keeps (All-tail Q t ts all) (turned d z t) (keeps z t (All-head Q t ts all) i)

-- the same where the new element takes the place of the old one
pub at_changed : {X : Type 0} (P : X → Type 0) (xs : List X) (i k : ℕ) (y d : X) → (P (get_or xs i d) → P y) → P (get_or xs k d) → P (get_or (set xs i y) k d)
at_changed P xs i k y d new old = elim (cases_eq k i) [
  | inr other ↦ subst P (sym (get_or-set_other xs i k y d other)) old
  | inl same ↦ at_set P xs i k y d (λ _. new (subst (λ j. P (get_or xs j d)) same old)) old
]
