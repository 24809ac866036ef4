-- The walk over words that begin with no hyphen.
use Rattle.std.proofs.Common.{◌≡◌, ◌∙◌, ◌<◌, ◌≤◌, ◌^◌, ℕ, false, zero, suc, refl, sym, ap, ap₂, arith, codes, List, [], ◌∷◌, length, get_or, Some, None, nat_eq}
use Rattle.std.specs.Prelude.{is_some}
use Rattle.std.specs.Str.{bytes_eq}
use Rattle.std.specs.Fmt.{decimal, digits}
use Rattle.std.proofs.lemmas.Bool.Decides.{nat_tests}
use Rattle.std.proofs.lemmas.Fmt.{first_decimal}
use Rattle.clap.specs.Lexer.{long_of, short_of}
use Rattle.clap.specs.Kinds.{Kinds, or_else}
use Rattle.clap.specs.Words.{Rule, Shape, Text, built, fault_of, first_of}
use Rattle.clap.specs.Walk.{Held, Step, Walk, after_step, arg_by_index, finished, idle, nothing_held, settled, to_positional, value, walk, walked, word_met}
use Rattle.clap.specs.Simple.{entered}
use Rattle.clap.specs.Faults.{check_fault, defaults_fault, entered_fault, settle_fault, step_fault, turn_fault, walk_fault, word_fault}
use Rattle.clap.specs.declared.error.kind.ErrorKind.TheVariants.{UnknownArgument}
use Rattle.clap.proofs.OnLiterals.{clap_on_literals}
use Rattle.command_line.specs.Command.{command}
use Rattle.command_line.specs.Words.{are_taken, begins_with_hyphen, found_in, task_in_mode, task_of}
use Rattle.command_line.proofs.Tasks.{not_taken, task_is}

-- ---- one word

-- the word is neither `--` nor an option
record IsPlain (word : Text) : Type 0 where
  dashes : bytes_eq word (45 ∷ 45 ∷ []) ≡ false
  long : long_of word ≡ None
  short : short_of word ≡ None

plain : (word : Text) → begins_with_hyphen word ≡ false → IsPlain word
plain [] begins = record { dashes = refl; long = refl; short = refl }
plain (b ∷ rest) begins = record { dashes = rw begins refl; long = rw begins refl; short = rw begins refl }

-- a walk in which no option waits for its value
abbrev at : Held → ℕ → Walk
at held position = record { held = held; waiting = idle; position = position; is_trailing = false; stopped = None }

met : (c : List Rule) (held : Held) (position : ℕ) (word : Text) → IsPlain word → word_met c [] false idle position word held ≡ (held, value)
met c held position word is = rw (is.dashes, is.long, is.short) refl

-- the word goes to the positional
goes_on : (c : List Rule) (held : Held) (position : ℕ) (word : Text) → IsPlain word
    → walked c [] (at held position) word ≡ to_positional c (arg_by_index c position) word (at held position) held
unfolding walked
goes_on c held position word is = ap (λ (step : Held × Step). after_step c word (at held position) step.0 step.1) (met c held position word is)

fails : (s : Shape) (held : Held) (position : ℕ) (word : Text) → IsPlain word → turn_fault s [] (at held position) word ≡ step_fault s position held value
fails s held position word is = rw (is.dashes, is.long, is.short) refl

-- ---- the command

abbrev pub top : Shape
top = (built command).top

abbrev pub start : Walk
start = at nothing_held 1

-- the kinds of error after a walk that had the first of them
abbrev pub level : Kinds → Walk → Kinds
level kinds end = or_else kinds (or_else (entered_fault (built command) end.stopped)
    (or_else (settle_fault top.rules top.args_override_self end.held)
    (or_else (defaults_fault (settled top.rules end.held).rows top.rules)
    (check_fault top (finished top.rules end.held) (is_some (entered (built command) end.stopped))))))

fault_is : (words : List Text) → fault_of command words ≡ level (walk_fault top [] start words) (walk top.rules [] nothing_held words)
fault_is words = refl

-- what is held after a mode, and after a number too
abbrev after_one : Text → Held
after_one mode = record { rows = []; pending = Some (codes "mode", mode ∷ []); skip = 0 }

one : (mode : Text) → IsPlain mode → walked top.rules [] start mode ≡ at (after_one mode) 2
one mode is = goes_on top.rules nothing_held 1 mode is

one_fails : (mode : Text) → IsPlain mode → turn_fault top [] start mode ≡ []
one_fails mode is = fails top nothing_held 1 mode is

abbrev after_two : Text → Text → Held
after_two mode number = (to_positional top.rules (arg_by_index top.rules 2) number (at (after_one mode) 2) (after_one mode)).held

two : (mode number : Text) → IsPlain number → walked top.rules [] (at (after_one mode) 2) number ≡ at (after_two mode number) 3
two mode number is = goes_on top.rules (after_one mode) 2 number is

two_fails : (mode number : Text) → IsPlain number → turn_fault top [] (at (after_one mode) 2) number ≡ []
two_fails mode number is = fails top (after_one mode) 2 number is

-- ---- one word that is a mode

one_taken : (mode : Text) → turn_fault top [] start mode ≡ [] → walked top.rules [] start mode ≡ at (after_one mode) 2 → fault_of command (mode ∷ []) ≡ []
unfolding clap_on_literals
one_taken mode fails is = ap₂ level (ap (λ (kinds : Kinds). or_else kinds []) fails) is

one_found : (mode : Text) → walked top.rules [] start mode ≡ at (after_one mode) 2 → found_in (mode ∷ []) ≡ finished top.rules (after_one mode)
unfolding found_in
one_found mode is = ap (λ (end : Walk). finished top.rules end.held) is

one_task : (mode : Text) → turn_fault top [] start mode ≡ [] → walked top.rules [] start mode ≡ at (after_one mode) 2
    → task_of (mode ∷ []) ≡ task_in_mode mode None None
unfolding are_taken
one_task mode fails is =
    let found = one_found mode is in
    task_is (mode ∷ []) (Some mode) None None (task_in_mode mode None None)
    (ap (λ (kinds : Kinds). nat_eq (length kinds) 0) (one_taken mode fails is))
    (sym (ap (first_of (codes "mode")) found))
    (sym (ap (first_of (codes "number")) found))
    (sym (ap (first_of (codes "form")) found)) refl

-- the mode stands for itself
pub plain_one : (mode : Text) → begins_with_hyphen mode ≡ false → task_of (mode ∷ []) ≡ task_in_mode mode None None
plain_one mode begins = let is = plain mode begins in one_task mode (one_fails mode is) (one mode is)

-- so does a word that is no flag
pub positional_one : (word : Text) → word_fault top [] false idle word nothing_held ≡ [] → word_met top.rules [] false idle 1 word nothing_held ≡ (nothing_held, value)
    → task_of (word ∷ []) ≡ task_in_mode word None None
unfolding walked
positional_one word fails is =
    one_task word
    (ap₂ (λ (kinds : Kinds) (step : Held × Step). or_else kinds (step_fault top 1 step.0 step.1)) fails is)
    (ap (λ (step : Held × Step). after_step top.rules word start step.0 step.1) is)

-- ---- a mode and a number

abbrev both_fail : Kinds → Walk → Text → Kinds
both_fail kinds now word = or_else kinds (or_else (turn_fault top [] now word) [])

two_fail : (mode number : Text) → IsPlain mode → IsPlain number → walk_fault top [] start (mode ∷ number ∷ []) ≡ []
unfolding clap_on_literals
two_fail mode number is is_too =
    ap₂ (λ (kinds : Kinds) (now : Walk). both_fail kinds now number) (one_fails mode is) (one mode is)
    ∙ ap (λ (kinds : Kinds). or_else kinds []) (two_fails mode number is_too)

two_walked : (mode number : Text) → IsPlain mode → IsPlain number → walk top.rules [] nothing_held (mode ∷ number ∷ []) ≡ at (after_two mode number) 3
two_walked mode number is is_too = ap (λ (now : Walk). walked top.rules [] now number) (one mode is) ∙ two mode number is_too

two_passes : (mode number : Text) → level [] (at (after_two mode number) 3) ≡ []
unfolding clap_on_literals
two_passes mode number = refl

two_taken : (mode number : Text) → IsPlain mode → IsPlain number → fault_of command (mode ∷ number ∷ []) ≡ []
two_taken mode number is is_too = ap₂ level (two_fail mode number is is_too) (two_walked mode number is is_too) ∙ two_passes mode number

two_found : (mode number : Text) → IsPlain mode → IsPlain number → found_in (mode ∷ number ∷ []) ≡ finished top.rules (after_two mode number)
unfolding found_in
two_found mode number is is_too = ap (λ (end : Walk). finished top.rules end.held) (two_walked mode number is is_too)

-- each stands for itself
pub plain_two : (mode number : Text) → begins_with_hyphen mode ≡ false → begins_with_hyphen number ≡ false
    → task_of (mode ∷ number ∷ []) ≡ task_in_mode mode (Some number) None
unfolding are_taken
plain_two mode number begins begins_too =
    let is = plain mode begins in
    let is_too = plain number begins_too in
    let found = two_found mode number is is_too in
    task_is (mode ∷ number ∷ []) (Some mode) (Some number) None (task_in_mode mode (Some number) None)
    (ap (λ (kinds : Kinds). nat_eq (length kinds) 0) (two_taken mode number is is_too))
    (sym (ap (first_of (codes "mode")) found))
    (sym (ap (first_of (codes "number")) found))
    (sym (ap (first_of (codes "form")) found)) refl

-- ---- the text of a number

no_hyphen : (word : List ℕ) → 48 ≤ get_or word 0 0 → begins_with_hyphen word ≡ false
no_hyphen [] high = refl
no_hyphen (b ∷ rest) high = grind (arith, nat_tests)

first_is : (n : ℕ) → n < 2 ^ 64 → 48 ≤ get_or (decimal n) 0 0
unfolding digits
first_is zero low = omega arith
first_is (suc n) low = omega (arith, first_decimal (suc n) (omega arith) low)

pub digits_begin : (n : ℕ) → n < 2 ^ 64 → begins_with_hyphen (decimal n) ≡ false
digits_begin n low = no_hyphen (decimal n) (first_is n low)

-- ---- three words or more

two_stop : (mode number next : Text) → IsPlain next → turn_fault top [] (at (after_two mode number) 3) next ≡ UnknownArgument ∷ []
two_stop mode number next is = fails top (after_two mode number) 3 next is

all_fail : Kinds → Walk → Text → Text → List Text → Kinds
all_fail kinds now number next more =
    or_else kinds (or_else (turn_fault top [] now number)
    (or_else (turn_fault top [] (walked top.rules [] now number) next)
    (walk_fault top [] (walked top.rules [] (walked top.rules [] now number) next) more)))

all_fault : (mode number next : Text) (more : List Text) → walk_fault top [] start (mode ∷ number ∷ next ∷ more) ≡ all_fail (turn_fault top [] start mode) (walked top.rules [] start mode) number next more
unfolding walk_fault all_fail
all_fault mode number next more = refl

three_fail : (mode number next : Text) (more : List Text) → IsPlain mode → IsPlain number → IsPlain next
    → walk_fault top [] start (mode ∷ number ∷ next ∷ more) ≡ UnknownArgument ∷ []
unfolding all_fail
three_fail mode number next more is is_too last =
    all_fault mode number next more
    ∙ ap₂ (λ (kinds : Kinds) (now : Walk). all_fail kinds now number next more) (one_fails mode is) (one mode is)
    ∙ ap₂ (λ (kinds : Kinds) (now : Walk). or_else kinds (or_else (turn_fault top [] now next) (walk_fault top [] (walked top.rules [] now next) more)))
    (two_fails mode number is_too) (two mode number is_too)
    ∙ ap (λ (kinds : Kinds). or_else kinds (walk_fault top [] (walked top.rules [] (at (after_two mode number) 3) next) more)) (two_stop mode number next last)

three_fault : (mode number next : Text) (more : List Text) → IsPlain mode → IsPlain number → IsPlain next
    → fault_of command (mode ∷ number ∷ next ∷ more) ≡ UnknownArgument ∷ []
three_fault mode number next more is is_too last =
    ap (λ (kinds : Kinds). level kinds (walk top.rules [] nothing_held (mode ∷ number ∷ next ∷ more))) (three_fail mode number next more is is_too last)

-- there is no third positional
pub plain_three : (mode number next : Text) (more : List Text) → begins_with_hyphen mode ≡ false → begins_with_hyphen number ≡ false
    → begins_with_hyphen next ≡ false → task_of (mode ∷ number ∷ next ∷ more) ≡ None
unfolding are_taken
plain_three mode number next more begins begins_too last =
    not_taken (mode ∷ number ∷ next ∷ more)
    (ap (λ (kinds : Kinds). nat_eq (length kinds) 0) (three_fault mode number next more (plain mode begins) (plain number begins_too) (plain next last)))
