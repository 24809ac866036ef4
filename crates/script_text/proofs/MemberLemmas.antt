-- Members that steps add: the counts of them, one step after another, and the room that a stage has.
-- By cases on what a step adds.
-- The theorems are `tally_kept` and `tally_more` of the counts, `within_push` of what is read, and `has_room` of what is written.
use Rattle.std.proofs.Common.{◌≡◌, ◌<◌, ◌≤◌, ◌+◌, ℕ, zero, suc, List, [], ◌∷◌, ◌++◌, length, refl, ap, sym, subst, ◌∙◌, arith, Bool, true, false, cond, nat_eq, set, ap₂}
use Rattle.std.specs.Prelude.{◌≢◌, Option, Some, None, slice_index, replicate}
use Rattle.std.proofs.lemmas.Bool.{and_parts, and_from}
use Rattle.std.proofs.lemmas.Bool.Decides.{nat_tests}
use Rattle.std.proofs.lemmas.List.{length-set, get_or-set_same, get_or-set_other}
use Rattle.std.proofs.lemmas.Option.{same_Some}
use Rattle.std.proofs.lemmas.List.Sums.{sum_by-append, count_by-le-length}
use Rattle.cz_base.specs.declared.limits.TheConstants.{DATACENTRES, MEMBERS}
use Rattle.abstract_log.specs.declared.command.Workload.{Workload}
use Rattle.abstract_log.specs.declared.script.Step.{Step}
use Rattle.abstract_log.specs.declared.script.Step.TheVariants as step
use Rattle.abstract_log.specs.Turns.{FitsStep}
use Rattle.script_text.specs.declared.members.TheConstants.{STAGES, PLACES}
use Rattle.script_text.specs.declared.members.Stage.{Stage}
use Rattle.script_text.specs.declared.members.Stage.TheVariants.{Batchers, Filters, Queues, Maintainers, Senders, Receivers}
use Rattle.script_text.specs.declared.members.Addition.{Addition}
use Rattle.script_text.specs.declared.progress.SizesLine.{SizesLine}
use Rattle.script_text.specs.Members.{stage_number, added_by, is_of, additions, members}
use Rattle.script_text.specs.Tallies.{place, IsTally}
use Rattle.script_text.specs.Meaning.{sizes_given, is_full}

-- The counts.

true_is_not_false : true ≡ false → ⊥
true_is_not_false same = cc

abbrev stage_of : ℕ → Stage
stage_of zero = Batchers
stage_of (suc zero) = Filters
stage_of (suc (suc zero)) = Queues
stage_of (suc (suc (suc zero))) = Maintainers
stage_of (suc (suc (suc (suc zero)))) = Senders
stage_of (suc (suc (suc (suc (suc n))))) = Receivers

its_number : (stage : Stage) → stage_of (stage_number stage) ≡ stage
its_number Batchers = refl
its_number Filters = refl
its_number Queues = refl
its_number Maintainers = refl
its_number Senders = refl
its_number Receivers = refl

same_stage : (a b : Stage) → stage_number a ≡ stage_number b → a ≡ b
same_stage a b same = sym (its_number a) ∙ ap stage_of same ∙ its_number b

number_below : (stage : Stage) → stage_number stage < STAGES
number_below Batchers = omega arith
number_below Filters = omega arith
number_below Queues = omega arith
number_below Maintainers = omega arith
number_below Senders = omega arith
number_below Receivers = omega arith

abbrev one_if : Bool → ℕ
one_if b = cond b 1 0

zero-add : (n : ℕ) → 0 + n ≡ n
zero-add n = omega arith

pub additions-push : (d : ℕ) (stage : Stage) (steps : List Step) (t : Step) → additions d stage (steps ++ t ∷ []) ≡ additions d stage steps + one_if (is_of d stage (added_by t))
additions-push d stage steps t =
    sum_by-append (λ s. one_if (is_of d stage (added_by s))) steps (t ∷ []) ∙ ap (λ n. additions d stage steps + n) (zero-add (one_if (is_of d stage (added_by t))))

additions-more : (d : ℕ) (stage : Stage) (steps : List Step) (t : Step) (more : List Step)
    → additions d stage (steps ++ t ∷ more) ≡ additions d stage steps + (one_if (is_of d stage (added_by t)) + additions d stage more)
additions-more d stage steps t more =
    sum_by-append (λ s. one_if (is_of d stage (added_by s))) steps (t ∷ more)
    ∙ ap (λ n. additions d stage steps + n)
    (sum_by-append (λ s. one_if (is_of d stage (added_by s))) (t ∷ []) more ∙ ap (λ n. n + additions d stage more) (zero-add (one_if (is_of d stage (added_by t)))))

-- an addition is one of its own stage
is_own : (a : Addition) → is_of a.dc a.stage (Some a) ≡ true
is_own a =
    let same : nat_eq a.dc a.dc ≡ true = grind (arith, nat_tests) in
    let stage : nat_eq (stage_number a.stage) (stage_number a.stage) ≡ true = grind (arith, nat_tests) in
    and_from (nat_eq a.dc a.dc) (nat_eq (stage_number a.stage) (stage_number a.stage)) same stage

-- and of no other
own_only : (d : ℕ) (stage : Stage) (a : Addition) → is_of d stage (Some a) ≡ true → (a.dc ≡ d) × (a.stage ≡ stage)
own_only d stage a is =
    let both = and_parts (nat_eq a.dc d) (nat_eq (stage_number a.stage) (stage_number stage)) is in
    let dc : a.dc ≡ d = grind (arith, nat_tests, both.0) in
    let number : stage_number a.stage ≡ stage_number stage = grind (arith, nat_tests, both.1) in
    (dc, same_stage a.stage stage number)

-- a step that adds no member leaves the counts as they are
pub tally_kept : (steps : List Step) (added : List ℕ) (t : Step) → added_by t ≡ None → IsTally steps added → IsTally (steps ++ t ∷ []) added
tally_kept steps added t none tally = record {
  whole = tally.whole;
  each = λ d stage few.
      tally.each d stage few ∙ (omega (arith, additions-push d stage steps t, ap (λ (o : Option Addition). one_if (is_of d stage o)) none));
}

-- stages that differ have their counts at different places
apart : (d : ℕ) (stage : Stage) (a : Addition) → is_of d stage (Some a) ≡ false → place d stage ≢ place a.dc a.stage
apart d stage a other same =
    let low = number_below stage in
    let least = number_below a.stage in
    let dc : a.dc ≡ d = omega (arith, same, low, least) in
    let number : stage_number a.stage ≡ stage_number stage = omega (arith, same, low, least) in
    let first : nat_eq a.dc d ≡ true = grind (arith, nat_tests, dc) in
    let second : nat_eq (stage_number a.stage) (stage_number stage) ≡ true = grind (arith, nat_tests, number) in
    let both : is_of d stage (Some a) ≡ true = and_from (nat_eq a.dc d) (nat_eq (stage_number a.stage) (stage_number stage)) first second in
    true_is_not_false (sym both ∙ other)

-- a step that adds one makes its count one greater
pub tally_more : (steps : List Step) (added : List ℕ) (t : Step) (a : Addition) → added_by t ≡ Some a → a.dc < DATACENTRES → IsTally steps added
    → IsTally (steps ++ t ∷ []) (set added (place a.dc a.stage) (slice_index added (place a.dc a.stage) + 1))
tally_more steps added t a is few tally =
    let at = place a.dc a.stage in
    let more = slice_index added at + 1 in
    let below = number_below a.stage in
    let within : at < length added = omega (arith, tally.whole, few, below) in
    record {
      whole = length-set added at more ∙ tally.whole;
      each = λ d stage fewer.
          let grown : additions d stage (steps ++ t ∷ []) ≡ additions d stage steps + one_if (is_of d stage (Some a))
          = additions-push d stage steps t ∙ ap (λ (o : Option Addition). additions d stage steps + one_if (is_of d stage o)) is in
          elim (is_of d stage (Some a)) as (λ v. (is_of d stage (Some a) ≡ v) → additions d stage (steps ++ t ∷ []) ≡ additions d stage steps + one_if v
          → slice_index (set added at more) (place d stage) ≡ additions d stage (steps ++ t ∷ [])) [
            | true ↦ λ own sum.
                let it = own_only d stage a own in
                let here : place d stage ≡ at = omega (arith, it.0, ap stage_number it.1) in
                ap (λ (n : ℕ). slice_index (set added at more) n) here ∙ get_or-set_same added at more 0 within
                ∙ ap (λ (n : ℕ). slice_index added n + 1) (sym here) ∙ ap (λ (n : ℕ). n + 1) (tally.each d stage fewer) ∙ sym sum
            | false ↦ λ other sum.
                get_or-set_other added at (place d stage) more 0 (apart d stage a other) ∙ tally.each d stage fewer ∙ omega (arith, sum)
          ] refl grown;
    }

abbrev pub zeros : ℕ → List ℕ
zeros n = replicate n 0

-- no step, no additions
pub no_tally : (added : List ℕ) → length added ≡ PLACES → ((i : ℕ) → i < PLACES → slice_index added i ≡ 0) → IsTally [] added
no_tally added whole zeros = record { whole = whole; each = λ d stage few. let below = number_below stage in zeros (place d stage) (omega (arith, few, below)) }

-- a count of additions is no greater than the number of steps
pub additions-short : (d : ℕ) (stage : Stage) (steps : List Step) → additions d stage steps ≤ length steps
additions-short d stage steps = count_by-le-length (λ s. is_of d stage (added_by s)) steps

-- The room that a stage has.

-- with what the steps add, no stage has more members than it may have
abbrev pub AreWithin : List SizesLine → List Step → Type 0
AreWithin stages steps = (d : ℕ) (stage : Stage) → members stage (sizes_given stages d) + additions d stage steps ≤ MEMBERS

-- what one step more adds
within_more : (stages : List SizesLine) (steps : List Step) (added : Option Addition) (d : ℕ) (stage : Stage) → members stage (sizes_given stages d) + additions d stage steps ≤ MEMBERS
    → is_full stages steps added ≡ false → members stage (sizes_given stages d) + (additions d stage steps + one_if (is_of d stage added)) ≤ MEMBERS
within_more stages steps None d stage before room = omega (arith, before)
within_more stages steps (Some a) d stage before room =
    elim (is_of d stage (Some a)) as (λ v. (is_of d stage (Some a) ≡ v) → members stage (sizes_given stages d) + (additions d stage steps + one_if v) ≤ MEMBERS) [
      | true ↦ λ own.
          let it = own_only d stage a own in
          let below : members a.stage (sizes_given stages a.dc) + additions a.dc a.stage steps < MEMBERS = grind (arith, nat_tests, room) in
          let here : members a.stage (sizes_given stages a.dc) + additions a.dc a.stage steps ≡ members stage (sizes_given stages d) + additions d stage steps
          = ap₂ (λ (e : ℕ) (other : Stage). members other (sizes_given stages e) + additions e other steps) it.0 it.1 in
          omega (arith, below, here)
      | false ↦ λ other. omega (arith, before)
    ] refl

pub within_push : (stages : List SizesLine) (steps : List Step) (t : Step) → AreWithin stages steps → is_full stages steps (added_by t) ≡ false → AreWithin stages (steps ++ t ∷ [])
within_push stages steps t within room d stage = omega (arith, within_more stages steps (added_by t) d stage (within d stage) room, additions-push d stage steps t)

-- where steps fit with one of them among them, there is room for what that one adds after those before it
room_for : (stages : List SizesLine) (done : List Step) (t : Step) (more : List Step) (added : Option Addition) → added_by t ≡ added
    → ((a : Addition) → added ≡ Some a → members a.stage (sizes_given stages a.dc) + additions a.dc a.stage (done ++ t ∷ more) ≤ MEMBERS) → is_full stages done added ≡ false
room_for stages done t more None is fits = refl
room_for stages done t more (Some a) is fits =
    let counts = additions-more a.dc a.stage done t more in
    let one : one_if (is_of a.dc a.stage (added_by t)) ≡ 1 = ap (λ (o : Option Addition). one_if (is_of a.dc a.stage o)) is ∙ ap one_if (is_own a) in
    let below : members a.stage (sizes_given stages a.dc) + additions a.dc a.stage done < MEMBERS = omega (arith, fits a refl, counts, one) in
    grind (arith, nat_tests, below)

-- a step of a script adds members only at datacentres that are there
added_there : (load : Workload) (t : Step) (a : Addition) → FitsStep load t → added_by t ≡ Some a → a.dc < load.dcs
added_there load (step.Client s) a fits is = cc
added_there load (step.Flush d b) a fits is = cc
added_there load (step.Pass d f q) a fits is = cc
added_there load (step.Stamp d q) a fits is = cc
added_there load (step.Token d) a fits is = cc
added_there load (step.Place d q m) a fits is = cc
added_there load (step.Gossip d m k) a fits is = cc
added_there load (step.Post d m i) a fits is = cc
added_there load (step.Learn d) a fits is = cc
added_there load (step.Send d k e) a fits is = cc
added_there load (step.Deliver d e k r) a fits is = cc
added_there load (step.Lose d e k) a fits is = cc
added_there load (step.Copy d e k) a fits is = cc
added_there load (step.Floor d p) a fits is = cc
added_there load (step.Collect d m) a fits is = cc
added_there load (step.Announce d h t) a fits is = subst (λ (n : Addition). n.dc < load.dcs) (same_Some (record { dc = d; stage = Filters }) a is) fits.0.first
added_there load (step.Mark d) a fits is = cc
added_there load (step.AddMaintainer d p) a fits is = subst (λ (n : Addition). n.dc < load.dcs) (same_Some (record { dc = d; stage = Maintainers }) a is) fits.0.0
added_there load (step.AddBatcher d) a fits is = subst (λ (n : Addition). n.dc < load.dcs) (same_Some (record { dc = d; stage = Batchers }) a is) fits.0
added_there load (step.AddQueue d) a fits is = subst (λ (n : Addition). n.dc < load.dcs) (same_Some (record { dc = d; stage = Queues }) a is) fits.0
added_there load (step.AddSender d) a fits is = subst (λ (n : Addition). n.dc < load.dcs) (same_Some (record { dc = d; stage = Senders }) a is) fits.0
added_there load (step.AddReceiver d) a fits is = subst (λ (n : Addition). n.dc < load.dcs) (same_Some (record { dc = d; stage = Receivers }) a is) fits.0
added_there load (step.Upgrade d) a fits is = cc

-- the same for steps of a script, at datacentres that are there
abbrev pub AreWithinAt : ℕ → List SizesLine → List Step → Type 0
AreWithinAt dcs stages steps = (d : ℕ) (stage : Stage) → d < dcs → members stage (sizes_given stages d) + additions d stage steps ≤ MEMBERS

pub has_room : (load : Workload) (stages : List SizesLine) (done : List Step) (t : Step) (more : List Step) → FitsStep load t → AreWithinAt load.dcs stages (done ++ t ∷ more) → is_full stages done (added_by t) ≡ false
has_room load stages done t more fits within = room_for stages done t more (added_by t) refl (λ a is. within a.dc a.stage (added_there load t a fits is))
