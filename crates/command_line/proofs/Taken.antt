-- What `clap` tells of the command.
use Rattle.std.proofs.Common.{◌≡◌, ◌∙◌, ℕ, true, false, suc, arith, refl, sym, ap, ap₂, subst, inl, inr, List, [], ◌∷◌, map, length, nat_eq}
use Rattle.std.proofs.lemmas.Bool.Decides.{nat_tests}
use Rattle.std.proofs.lemmas.List.{map-id}
use Rattle.clap.specs.Words.{App, HasKind, Kinds, Row, Text, fault_of, is_simple, is_simple_and_free, kind_of, matches_of}
use Rattle.clap.specs.declared.error.Error.{Error}
use Rattle.clap.specs.declared.error.kind.ErrorKind.TheVariants.{OutOfMemory}
use Rattle.clap.proofs.OnLiterals.{clap_on_literals}
use Rattle.command_line.specs.Command.{command}
use Rattle.command_line.specs.Words.{are_taken, found_in}

is_simple_command : is_simple command ≡ true
unfolding clap_on_literals
is_simple_command = refl

is_free_command : is_simple_and_free command ≡ true
unfolding clap_on_literals
is_free_command = refl

-- a list of texts, as the parser reads it
abbrev pub read : List Text → List Text
read words = map (λ word. word) words

none_at : (app made : App) (words : List Text) → made ≡ app → is_simple_and_free app ≡ true
    → (is_simple_and_free made ≡ true → fault_of made (read words) ≡ []) → nat_eq (length (fault_of app words)) 0 ≡ true
none_at app made words is free told =
    ap (λ (kinds : Kinds). nat_eq (length kinds) 0) (sym (ap₂ fault_of is (map-id words)) ∙ told (ap is_simple_and_free is ∙ free))

found_at : (app made : App) (words : List Text) (rows : List Row) (more : Type 0) → made ≡ app → is_simple app ≡ true
    → (is_simple made ≡ true → (rows ≡ matches_of made (read words)) × more) → rows ≡ matches_of app words
found_at app made words rows more is simple told = (told (ap is_simple is ∙ simple)).0 ∙ ap₂ matches_of is (map-id words)

some_is_not_none : (n : ℕ) → nat_eq (suc n) 0 ≡ false
some_is_not_none n = grind (arith, nat_tests)

has_kind : (kinds : Kinds) (error : Error) → HasKind kinds error → (kind_of error ≡ OutOfMemory → ⊥) → nat_eq (length kinds) 0 ≡ false
has_kind [] error (inl memory) other = absurd (other memory)
has_kind [] error (inr among) other = absurd among
has_kind (k ∷ ks) error has other = some_is_not_none (length ks)

some_at : (app made : App) (words : List Text) (error : Error) → made ≡ app → is_simple_and_free app ≡ true
    → (is_simple_and_free made ≡ true → HasKind (fault_of made (read words)) error) → (kind_of error ≡ OutOfMemory → ⊥)
    → nat_eq (length (fault_of app words)) 0 ≡ false
some_at app made words error is free told other =
    has_kind (fault_of app words) error
    (subst (λ (kinds : Kinds). HasKind kinds error) (ap₂ fault_of is (map-id words)) (told (ap is_simple_and_free is ∙ free))) other

-- what `clap` takes has no kind of error
pub taken : (made : App) (words : List Text) → made ≡ command → (is_simple_and_free made ≡ true → fault_of made (read words) ≡ []) → are_taken words ≡ true
unfolding are_taken
taken made words is told = none_at command made words is is_free_command told

-- and it finds what the command finds
pub found : (made : App) (words : List Text) (rows : List Row) (more : Type 0) → made ≡ command
    → (is_simple made ≡ true → (rows ≡ matches_of made (read words)) × more) → rows ≡ found_in words
unfolding found_in
found made words rows more is told = found_at command made words rows more is is_simple_command told

-- what it refuses has one, want of memory apart
pub refused : (made : App) (words : List Text) (error : Error) → made ≡ command
    → (is_simple_and_free made ≡ true → HasKind (fault_of made (read words)) error) → (kind_of error ≡ OutOfMemory → ⊥) → are_taken words ≡ false
unfolding are_taken
refused made words error is told other = some_at command made words error is is_free_command told other
