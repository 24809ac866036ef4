-- What the words in use ask for, by computation.
use Rattle.std.proofs.Common.{◌≡◌, refl, codes, [], ◌∷◌, ◌++◌, Some, None}
use Rattle.std.specs.Fmt.{digits}
use Rattle.clap.proofs.OnLiterals.{clap_on_literals}
use Rattle.command_line.specs.Words.{are_taken, found_in, form_name, task_of}
use Rattle.command_line.specs.declared.task.Form.{Form}
use Rattle.command_line.specs.declared.task.Form.TheVariants.{Full, Logs, Summary, Json}
use Rattle.command_line.specs.declared.task.Task.TheVariants.{Replay, Generate, FlStore}

-- A replay.

pub replay_alone : task_of (codes "replay" ∷ []) ≡ Some (Replay Logs)
unfolding clap_on_literals task_of are_taken found_in
replay_alone = refl

pub replay_closed : task_of (codes "replay" ∷ codes "--" ∷ []) ≡ Some (Replay Logs)
unfolding clap_on_literals task_of are_taken found_in
replay_closed = refl

pub form_after : (form : Form) → task_of (codes "replay" ∷ codes "--form" ∷ form_name form ∷ []) ≡ Some (Replay form)
unfolding clap_on_literals task_of are_taken found_in
form_after Full = refl
form_after Logs = refl
form_after Summary = refl
form_after Json = refl

pub form_joined_after : (form : Form) → task_of (codes "replay" ∷ (codes "--form=" ++ form_name form) ∷ []) ≡ Some (Replay form)
unfolding clap_on_literals task_of are_taken found_in
form_joined_after Full = refl
form_joined_after Logs = refl
form_joined_after Summary = refl
form_joined_after Json = refl

pub form_before : (form : Form) → task_of (codes "--form" ∷ form_name form ∷ codes "replay" ∷ []) ≡ Some (Replay form)
unfolding clap_on_literals task_of are_taken found_in
form_before Full = refl
form_before Logs = refl
form_before Summary = refl
form_before Json = refl

pub form_joined_before : (form : Form) → task_of ((codes "--form=" ++ form_name form) ∷ codes "replay" ∷ []) ≡ Some (Replay form)
unfolding clap_on_literals task_of are_taken found_in
form_joined_before Full = refl
form_joined_before Logs = refl
form_joined_before Summary = refl
form_joined_before Json = refl

pub form_not_named : task_of (codes "replay" ∷ codes "--form" ∷ []) ≡ None
unfolding clap_on_literals task_of are_taken found_in
form_not_named = refl

pub form_twice : task_of (codes "replay" ∷ codes "--form" ∷ codes "full" ∷ codes "--form" ∷ codes "full" ∷ []) ≡ None
unfolding clap_on_literals task_of are_taken found_in
form_twice = refl

pub form_unknown : task_of (codes "replay" ∷ codes "--form" ∷ codes "x" ∷ []) ≡ None
unfolding clap_on_literals task_of are_taken found_in
form_unknown = refl

pub replay_with_number : task_of (codes "replay" ∷ codes "3" ∷ []) ≡ None
unfolding clap_on_literals task_of are_taken found_in
replay_with_number = refl

-- A generated script.

pub gen_least : task_of (codes "gen" ∷ codes "0" ∷ []) ≡ Some (Generate 0)
unfolding clap_on_literals task_of are_taken found_in digits
gen_least = refl

pub gen_seven : task_of (codes "gen" ∷ codes "7" ∷ []) ≡ Some (Generate 7)
unfolding clap_on_literals task_of are_taken found_in digits
gen_seven = refl

pub gen_closed : task_of (codes "gen" ∷ codes "--" ∷ codes "7" ∷ []) ≡ Some (Generate 7)
unfolding clap_on_literals task_of are_taken found_in digits
gen_closed = refl

pub gen_greatest : task_of (codes "gen" ∷ codes "18446744073709551615" ∷ []) ≡ Some (Generate 18446744073709551615)
unfolding clap_on_literals task_of are_taken found_in digits
gen_greatest = refl

pub gen_alone : task_of (codes "gen" ∷ []) ≡ None
unfolding clap_on_literals task_of are_taken found_in digits
gen_alone = refl

pub gen_leading_zero : task_of (codes "gen" ∷ codes "07" ∷ []) ≡ None
unfolding clap_on_literals task_of are_taken found_in digits
gen_leading_zero = refl

pub gen_too_large : task_of (codes "gen" ∷ codes "18446744073709551616" ∷ []) ≡ None
unfolding clap_on_literals task_of are_taken found_in digits
gen_too_large = refl

pub gen_with_form : task_of (codes "gen" ∷ codes "7" ∷ codes "--form" ∷ codes "json" ∷ []) ≡ None
unfolding clap_on_literals task_of are_taken found_in digits
gen_with_form = refl

-- A log by itself.

pub flstore_alone : task_of (codes "flstore" ∷ []) ≡ Some FlStore
unfolding clap_on_literals task_of are_taken found_in
flstore_alone = refl

pub flstore_closed : task_of (codes "flstore" ∷ codes "--" ∷ []) ≡ Some FlStore
unfolding clap_on_literals task_of are_taken found_in
flstore_closed = refl

pub flstore_with_number : task_of (codes "flstore" ∷ codes "3" ∷ []) ≡ None
unfolding clap_on_literals task_of are_taken found_in
flstore_with_number = refl

pub flstore_with_form : (form : Form) → task_of (codes "flstore" ∷ codes "--form" ∷ form_name form ∷ []) ≡ None
unfolding clap_on_literals task_of are_taken found_in
flstore_with_form Full = refl
flstore_with_form Logs = refl
flstore_with_form Summary = refl
flstore_with_form Json = refl

pub flstore_after_form : (form : Form) → task_of ((codes "--form=" ++ form_name form) ∷ codes "flstore" ∷ []) ≡ None
unfolding clap_on_literals task_of are_taken found_in
flstore_after_form Full = refl
flstore_after_form Logs = refl
flstore_after_form Summary = refl
flstore_after_form Json = refl

-- Other words.

pub no_words : task_of [] ≡ None
unfolding clap_on_literals task_of are_taken found_in
no_words = refl

pub unknown_mode : task_of (codes "fly" ∷ []) ≡ None
unfolding clap_on_literals task_of are_taken found_in
unknown_mode = refl

pub help : task_of (codes "--help" ∷ []) ≡ None
unfolding clap_on_literals task_of are_taken found_in
help = refl

pub version : task_of (codes "--version" ∷ []) ≡ None
unfolding clap_on_literals task_of are_taken found_in
version = refl

pub help_beside_replay : task_of (codes "replay" ∷ codes "--help" ∷ []) ≡ None
unfolding clap_on_literals task_of are_taken found_in
help_beside_replay = refl
