-- The task of what is found.
use Rattle.std.proofs.Common.{◌≡◌, ◌∙◌, true, false, refl, sym, ap, subst, codes, List, Option, Some, None, Result}
use Rattle.std.specs.Result.{IfErr, IfOk, IsErrAnd}
use Rattle.std.specs.Option.{ok_or}
use Rattle.std.proofs.lemmas.Result.{err_from_is_err_and}
use Rattle.clap.specs.Words.{Text, first_of, first_value, rows_of}
use Rattle.clap.specs.declared.parser.matches.Found.{Found}
use Rattle.clap.proofs.WalkLemmas.{first_value-rows}
use Rattle.command_line.specs.Words.{are_taken, found_in, task_from, task_of, text_of}
use Rattle.command_line.specs.declared.task.Task.{Task}
use Rattle.command_line.specs.declared.task.WordsFault.{WordsFault}
use Rattle.command_line.specs.declared.task.WordsFault.TheVariants.{NotValid}

-- what is read of the matches is what stands for the argument
pub text_is : (matches : Found) (words : List Text) (argument : Text) (text : Option Text) → text ≡ first_value matches argument
    → rows_of matches ≡ found_in words → text ≡ text_of argument words
text_is matches words argument text read found = read ∙ first_value-rows matches argument ∙ ap (first_of argument) found

-- words that are not taken ask for nothing
pub not_taken : (words : List Text) → are_taken words ≡ false → task_of words ≡ None
unfolding task_of
not_taken words refused = rw refused refl

-- also where the refusal is passed on
pub passed_on : {T : Type 0} (r : Result T WordsFault) (fault : WordsFault) (words : List Text) → IsErrAnd r (λ other. other ≡ fault)
    → (fault ≡ NotValid → are_taken words ≡ false) → IfErr r (λ other. other ≡ NotValid → task_of words ≡ None)
passed_on {T} r fault words passed refused =
    let gave = err_from_is_err_and r passed in
    let told : Result T WordsFault → Type 0 = λ x. IfErr x (λ other. other ≡ NotValid → task_of words ≡ None) in
    subst told (sym gave.1) (λ invalid. not_taken words (refused (sym gave.2 ∙ invalid)))

-- words that are taken ask for the task of their mode, number and form
pub task_is : (words : List Text) (mode number form : Option Text) (task : Option Task) → are_taken words ≡ true
    → mode ≡ text_of (codes "mode") words → number ≡ text_of (codes "number") words → form ≡ text_of (codes "form") words
    → task ≡ task_from mode number form → task_of words ≡ task
unfolding task_of
task_is words mode number form task taken mode_is number_is form_is is = rw (taken, is, mode_is, number_is, form_is) refl

-- and that is told, or that there is none
pub told : (words : List Text) (task : Option Task) (result : Result Task WordsFault) → task_of words ≡ task → result ≡ ok_or task NotValid
    → IfOk result (λ found. task_of words ≡ Some found) × IfErr result (λ fault. fault ≡ NotValid → task_of words ≡ None)
told words None result is gives =
    let wanted : Result Task WordsFault → Type 0 = λ x. IfOk x (λ found. task_of words ≡ Some found) × IfErr x (λ fault. fault ≡ NotValid → task_of words ≡ None) in
    subst wanted (sym gives) (tt, λ fault. is)
told words (Some task) result is gives =
    let wanted : Result Task WordsFault → Type 0 = λ x. IfOk x (λ found. task_of words ≡ Some found) × IfErr x (λ fault. fault ≡ NotValid → task_of words ≡ None) in
    subst wanted (sym gives) (is, tt)
