-- Words of which `clap` takes each as it is.
use Rattle.std.proofs.Common.{◌≡◌, ℕ, refl, codes, List, [], ◌∷◌, ◌++◌, Some, None}
use Rattle.clap.proofs.OnLiterals.{clap_on_literals}
use Rattle.command_line.specs.Words.{are_taken, found_in, task_in_mode, task_of}

-- after `--`

pub dashed_one : (mode : List ℕ) → task_of (codes "--" ∷ mode ∷ []) ≡ task_in_mode mode None None
unfolding clap_on_literals task_of are_taken found_in
dashed_one mode = refl

pub dashed_two : (mode number : List ℕ) → task_of (codes "--" ∷ mode ∷ number ∷ []) ≡ task_in_mode mode (Some number) None
unfolding clap_on_literals task_of are_taken found_in
dashed_two mode number = refl

pub dashed_three : (mode number next : List ℕ) (more : List (List ℕ)) → task_of (codes "--" ∷ mode ∷ number ∷ next ∷ more) ≡ None
unfolding clap_on_literals task_of are_taken found_in
dashed_three mode number next more = refl

pub dashed_form : (name mode : List ℕ) → task_of ((codes "--form=" ++ name) ∷ codes "--" ∷ mode ∷ []) ≡ task_in_mode mode None (Some name)
unfolding clap_on_literals task_of are_taken found_in
dashed_form name mode = refl
