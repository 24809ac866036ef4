-- By how many filters have accepted.
use Rattle.std.proofs.Common.{◌≡◌, ℕ, ◌+◌, ◌≤◌, Bool, cond, ltb, List, [], ◌∷◌, length, refl, arith, Option, Some, None}
use Rattle.std.specs.List.{All}
use Rattle.std.proofs.lemmas.Bool.{cond_both, ltb-false}
use Rattle.std.proofs.lemmas.List.Elements.{All-nil, All-cons}
use Rattle.toid_filter.specs.declared.filter.Accept.{Accept}
use Rattle.toid_filter.specs.declared.filter.Accept.TheVariants.{Accepted, Late as LateAnswer}
use Rattle.toid_filter.specs.Filters.{Announcement}
use Rattle.toid_filter.specs.Marks.{asked_next}
use Rattle.stage_marks.specs.declared.marks.NextMark.TheVariants.{Activate, Ask}
use Rattle.stage_marks.specs.Marks.{after_answers, next_told}

never_again : (filters : ℕ) (answers : List Accept) → next_told (after_answers None answers) filters ≡ Activate → ⊥
never_again filters [] is = cc
never_again filters (answer ∷ more) is = never_again filters more is

all_asked : (a : Announcement) (filters : ℕ) → next_told (Some a) filters ≡ Activate → filters ≤ a.next
all_asked a filters = cond_both (ltb a.next filters) (Ask a.next) Activate (λ n. n ≡ Activate → filters ≤ a.next) (λ _ is. absurd (cc)) (λ past _. ltb-false a.next filters past)

pub all_accepted : (a : Announcement) (filters : ℕ) (answers : List Accept) → next_told (after_answers (Some a) answers) filters ≡ Activate → All (λ answer. answer ≡ Accepted) answers × (filters ≤ a.next + length answers)
all_accepted a filters [] is = (All-nil (λ answer. answer ≡ Accepted), omega (arith, all_asked a filters is))
all_accepted a filters (Accepted ∷ more) is =
    let rest = all_accepted (asked_next a) filters more is in
    (All-cons (λ answer. answer ≡ Accepted) Accepted more refl rest.0, omega (arith, rest.1))
all_accepted a filters (LateAnswer passed ∷ more) is = absurd (never_again filters more is)
