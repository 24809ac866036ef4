-- A word that begins with a hyphen, alone, asks for nothing.
use Rattle.std.proofs.Common.{◌≡◌, ◌∙◌, ℕ, Bool, true, false, refl, sym, subst, eqb-true, ap, ap₂, cond, codes, List, [], ◌∷◌, length, drop, Option, Some, None, nat_eq, ◌||◌}
use Rattle.std.specs.Prelude.{◌≢◌, slice_get, encode_utf8}
use Rattle.std.specs.Str.{bytes_eq, chars}
use Rattle.clap.specs.Lexer.{long_of, name_and_value, short_of}
use Rattle.clap.specs.Kinds.{Kinds, or_else}
use Rattle.clap.specs.Words.{Rule, Shape, Text, fault_of}
use Rattle.clap.specs.Walk.{Held, Outcome, Step, after_flag, after_step, arg_by_long, arg_by_short, bundle, bundle_met, idle, long_met, nothing_held, plain, walked, word_met}
use Rattle.clap.specs.Faults.{bundle_fault, bundle_step_fault, flags_fault, long_fault, short_fault, step_fault, walk_fault, word_fault}
use Rattle.clap.specs.declared.error.kind.ErrorKind.{ErrorKind}
use Rattle.clap.specs.declared.error.kind.ErrorKind.TheVariants.{DisplayHelp, UnknownArgument}
use Rattle.clap.proofs.OnLiterals.{clap_on_literals}
use Rattle.command_line.specs.Command.{command}
use Rattle.command_line.specs.Words.{are_taken, begins_with_hyphen, found_in, task_of}
use Rattle.command_line.proofs.AskedLemmas.{lone_word}
use Rattle.command_line.proofs.Tasks.{not_taken}
use Rattle.command_line.proofs.Walks.{level, positional_one, start, top}

-- what comes of one word, by the kinds of error that are its own and by what the word is
abbrev outcome : Kinds → Held × Step → Text → Kinds
outcome kinds step word = level (or_else (or_else kinds (step_fault top 1 step.0 step.1)) []) (after_step top.rules word start step.0 step.1)

one_fault : (word : Text) → fault_of command (word ∷ []) ≡ outcome (word_fault top [] false idle word nothing_held) (word_met top.rules [] false idle 1 word nothing_held) word
unfolding walked walk_fault
one_fault word = refl

refused : (word : Text) (kinds : Kinds) (step : Held × Step) → word_fault top [] false idle word nothing_held ≡ kinds
    → word_met top.rules [] false idle 1 word nothing_held ≡ step → nat_eq (length (outcome kinds step word)) 0 ≡ false → task_of (word ∷ []) ≡ None
unfolding are_taken
refused word kinds step fails is some =
    not_taken (word ∷ [])
    (ap (λ (all : Kinds). nat_eq (length all) 0) (one_fault word ∙ ap₂ (λ (own : Kinds) (met : Held × Step). outcome own met word) fails is) ∙ some)

-- ---- a long option

long_fails : (s : Shape) (held : Held) (word name : Text) (v : Option Text) → bytes_eq word (45 ∷ 45 ∷ []) ≡ false → long_of word ≡ Some (name, v)
    → word_fault s [] false idle word held ≡ long_fault s.rules s.args_override_self (arg_by_long s.rules name) v held
long_fails s held word name v dashes long = rw (dashes, long) refl

abbrev long_step : List Rule → Held → Text → Option Rule → Option Text → Held × Step
long_step c held word rule v = after_flag c idle word (long_met c rule v held).0 (long_met c rule v held).1

long_is : (c : List Rule) (held : Held) (position : ℕ) (word name : Text) (v : Option Text) → bytes_eq word (45 ∷ 45 ∷ []) ≡ false → long_of word ≡ Some (name, v)
    → word_met c [] false idle position word held ≡ long_step c held word (arg_by_long c name) v
long_is c held position word name v dashes long = rw (dashes, long) refl

-- the command has `--form` and `--help`
abbrev rule_of_two : Bool → Bool → Option Rule
rule_of_two is_form is_help = cond is_form (arg_by_long top.rules (codes "form")) (cond is_help (arg_by_long top.rules (codes "help")) None)

two_rules : (first second : Option Rule) (b d : Bool) → cond (b || false) first (cond (d || false) second None) ≡ cond b first (cond d second None)
two_rules first second true d = refl
two_rules first second false true = refl
two_rules first second false false = refl

rule_named : (name : Text) → arg_by_long top.rules name ≡ rule_of_two (bytes_eq (codes "form") name) (bytes_eq (codes "help") name)
rule_named name = two_rules (arg_by_long top.rules (codes "form")) (arg_by_long top.rules (codes "help")) (bytes_eq (codes "form") name) (bytes_eq (codes "help") name)

abbrev long_outcome : Text → Option Rule → Option Text → Kinds
long_outcome word rule v = outcome (long_fault top.rules top.args_override_self rule v nothing_held) (long_step top.rules nothing_held word rule v) word

long_refused : (word : Text) (b d : Bool) (v : Option Text) → nat_eq (length (long_outcome word (rule_of_two b d) v)) 0 ≡ false
unfolding clap_on_literals
long_refused word true d (Some x) = refl
long_refused word true d None = refl
long_refused word false true (Some x) = refl
long_refused word false true None = refl
long_refused word false false v = refl

long_none : (word name : Text) (v : Option Text) → bytes_eq word (45 ∷ 45 ∷ []) ≡ false → long_of word ≡ Some (name, v) → task_of (word ∷ []) ≡ None
long_none word name v dashes long =
    refused word (long_fault top.rules top.args_override_self (rule_of_two (bytes_eq (codes "form") name) (bytes_eq (codes "help") name)) v nothing_held)
    (long_step top.rules nothing_held word (rule_of_two (bytes_eq (codes "form") name) (bytes_eq (codes "help") name)) v)
    (long_fails top nothing_held word name v dashes long ∙ ap (λ (rule : Option Rule). long_fault top.rules top.args_override_self rule v nothing_held) (rule_named name))
    (long_is top.rules nothing_held 1 word name v dashes long ∙ ap (λ (rule : Option Rule). long_step top.rules nothing_held word rule v) (rule_named name))
    (long_refused word (bytes_eq (codes "form") name) (bytes_eq (codes "help") name) v)

-- ---- short options

short_fails : (s : Shape) (held : Held) (word flags : Text) → bytes_eq word (45 ∷ 45 ∷ []) ≡ false → long_of word ≡ None → short_of word ≡ Some flags
    → word_fault s [] false idle word held ≡ bundle_fault s.rules s.args_override_self flags held
short_fails s held word flags dashes long short = rw (dashes, long, short) refl

short_is : (c : List Rule) (held : Held) (position : ℕ) (word flags : Text) → bytes_eq word (45 ∷ 45 ∷ []) ≡ false → long_of word ≡ None → short_of word ≡ Some flags
    → word_met c [] false idle position word held ≡ after_flag c idle word (bundle c flags held).0 (bundle c flags held).1
short_is c held position word flags dashes long short = rw (dashes, long, short) refl

-- the command has `-h`
one_rule : (rule : Option Rule) (b : Bool) → cond (b || false) rule None ≡ cond b rule None
one_rule rule true = refl
one_rule rule false = refl

rule_lettered : (x : ℕ) → arg_by_short top.rules x ≡ cond (nat_eq 104 x) (arg_by_short top.rules 104) None
rule_lettered x = one_rule (arg_by_short top.rules 104) (nat_eq 104 x)

letter_fault : (b : Bool) (rest : Text) (next : Held → Kinds)
    → (kind : ErrorKind) × (short_fault top.rules top.args_override_self (cond b (arg_by_short top.rules 104) None) rest nothing_held next ≡ kind ∷ [])
letter_fault true rest next = (DisplayHelp, refl)
letter_fault false rest next = (UnknownArgument, refl)

first_flag : (c : List Rule) (again : Bool) (b : ℕ) (rest : Text) (o : Option ℕ) → slice_get (chars (b ∷ rest)) 0 ≡ o
    → bundle_fault c again (b ∷ rest) nothing_held ≡ bundle_step_fault c again o (b ∷ rest) 0 nothing_held (flags_fault c again (length rest))
unfolding flags_fault
first_flag c again b rest o is = ap (λ (x : Option ℕ). bundle_step_fault c again x (b ∷ rest) 0 nothing_held (flags_fault c again (length rest))) is

no_flag : (c : List Rule) (b : ℕ) (rest : Text) → slice_get (chars (b ∷ rest)) 0 ≡ None → bundle c (b ∷ rest) nothing_held ≡ (nothing_held, plain)
unfolding bundle_met
no_flag c b rest is = rw is refl

short_none : (b : ℕ) (rest : Text) → nat_eq b 45 ≡ false → task_of ((45 ∷ b ∷ rest) ∷ []) ≡ None
short_none b rest other = go (slice_get (chars (b ∷ rest)) 0) refl
  where
    dashes : bytes_eq (45 ∷ b ∷ rest) (45 ∷ 45 ∷ []) ≡ false
    dashes = rw other refl

    long : long_of (45 ∷ b ∷ rest) ≡ None
    long = rw other refl

    short : short_of (45 ∷ b ∷ rest) ≡ Some (b ∷ rest)
    short = rw other refl

    go : (o : Option ℕ) → slice_get (chars (b ∷ rest)) 0 ≡ o → task_of ((45 ∷ b ∷ rest) ∷ []) ≡ None
    go None is =
        positional_one (45 ∷ b ∷ rest)
        (short_fails top nothing_held (45 ∷ b ∷ rest) (b ∷ rest) dashes long short ∙ first_flag top.rules top.args_override_self b rest None is)
        (short_is top.rules nothing_held 1 (45 ∷ b ∷ rest) (b ∷ rest) dashes long short
        ∙ ap (λ (met : Held × Outcome). after_flag top.rules idle (45 ∷ b ∷ rest) met.0 met.1) (no_flag top.rules b rest is))
    go (Some x) is =
        let left = drop (length (encode_utf8 x)) (b ∷ rest) in
        let next : Held → Kinds = λ held. flags_fault top.rules top.args_override_self (length rest) left 0 held in
        let letter = letter_fault (nat_eq 104 x) left next in
        refused (45 ∷ b ∷ rest) (letter.0 ∷ []) (word_met top.rules [] false idle 1 (45 ∷ b ∷ rest) nothing_held)
        (short_fails top nothing_held (45 ∷ b ∷ rest) (b ∷ rest) dashes long short ∙ first_flag top.rules top.args_override_self b rest (Some x) is
        ∙ ap (λ (rule : Option Rule). short_fault top.rules top.args_override_self rule left nothing_held next) (rule_lettered x) ∙ letter.1)
        refl refl

-- ---- any word

dashes_alone : task_of ((45 ∷ 45 ∷ []) ∷ []) ≡ None
unfolding clap_on_literals task_of are_taken found_in
dashes_alone = refl

hyphen_alone : task_of ((45 ∷ []) ∷ []) ≡ None
unfolding clap_on_literals task_of are_taken found_in
hyphen_alone = refl

two_hyphens : (rest : Text) → task_of ((45 ∷ 45 ∷ rest) ∷ []) ≡ None
two_hyphens [] = dashes_alone
two_hyphens (x ∷ name) = long_none (45 ∷ 45 ∷ x ∷ name) (name_and_value (x ∷ name)).0 (name_and_value (x ∷ name)).1 refl refl

one_hyphen : (rest : Text) → task_of ((45 ∷ rest) ∷ []) ≡ None
one_hyphen [] = hyphen_alone
one_hyphen (b ∷ rest) = go (nat_eq b 45) refl
  where
    go : (is_hyphen : Bool) → nat_eq b 45 ≡ is_hyphen → task_of ((45 ∷ b ∷ rest) ∷ []) ≡ None
    go true is = subst (λ x. task_of ((45 ∷ x ∷ rest) ∷ []) ≡ None) (sym (eqb-true b 45 is)) (two_hyphens rest)
    go false is = short_none b rest is

pub begins_none : (word : Text) → begins_with_hyphen word ≡ true → task_of (word ∷ []) ≡ None
begins_none [] begins = cc
begins_none (first ∷ rest) begins = subst (λ x. task_of ((x ∷ rest) ∷ []) ≡ None) (sym (eqb-true first 45 begins)) (one_hyphen rest)

-- of all single words only `replay` and `flstore` ask for anything
pub lone : (word : Text) → word ≢ codes "replay" → word ≢ codes "flstore" → task_of (word ∷ []) ≡ None
lone word other another = go (begins_with_hyphen word) refl
  where
    go : (begins : Bool) → begins_with_hyphen word ≡ begins → task_of (word ∷ []) ≡ None
    go true is = begins_none word is
    go false is = lone_word word is other another
