-- The task of words is the one that what is found among them asks for.
use Rattle.std.proofs.Common.{◌≡◌, ◌∙◌, ◌<◌, ◌^◌, ℕ, Bool, true, false, refl, ap, subst, cond, codes, List, [], ◌∷◌, Option, Some, None}
use Rattle.std.specs.Prelude.{◌≢◌}
use Rattle.std.specs.Option.{option_map}
use Rattle.std.specs.Str.{bytes_eq}
use Rattle.std.specs.Fmt.{decimal}
use Rattle.std.proofs.lemmas.Option.{none-some, same_Some}
use Rattle.std.proofs.lemmas.Slice.Eq.{bytes_eq-Decides}
use Rattle.command_line.specs.Words.{are_taken, begins_with_hyphen, flstore_of, form_asked, generate_of, replay_of, seed_of, task_from, task_of, text_of}
use Rattle.command_line.specs.Asked.{IsAskedBy}
use Rattle.command_line.specs.declared.task.Form.{Form}
use Rattle.command_line.specs.declared.task.Task.{Task}
use Rattle.command_line.specs.declared.task.Task.TheVariants.{Replay, Generate, FlStore}
use Rattle.command_line.proofs.Seeds.{seed_is, seed_of_decimal}
use Rattle.command_line.proofs.Walks.{digits_begin, plain_one, plain_two}

-- ---- from the task to what asks for it

replay_asked : (mode : List ℕ) (number form : Option (List ℕ)) (task : Task) → mode ≡ codes "replay" → replay_of number form ≡ Some task → IsAskedBy task (Some mode) number form
replay_asked mode (Some n) form task named is = absurd (none-some task is)
replay_asked mode None form task named is = go (form_asked form) refl is
  where
    go : (o : Option Form) → form_asked form ≡ o → option_map Replay o ≡ Some task → IsAskedBy task (Some mode) None form
    go None asked found = absurd (none-some task found)
    go (Some wanted) asked found = subst (λ t. IsAskedBy t (Some mode) None form) (same_Some (Replay wanted) task found) (ap Some named, refl, asked)

generate_asked : (mode : List ℕ) (number form : Option (List ℕ)) (task : Task) → mode ≡ codes "gen" → generate_of number form ≡ Some task → IsAskedBy task (Some mode) number form
generate_asked mode None form task named is = absurd (none-some task is)
generate_asked mode (Some text) (Some f) task named is = absurd (none-some task is)
generate_asked mode (Some text) None task named is = go (seed_of text) refl is
  where
    go : (o : Option ℕ) → seed_of text ≡ o → option_map Generate o ≡ Some task → IsAskedBy task (Some mode) (Some text) None
    go None asked found = absurd (none-some task found)
    go (Some seed) asked found =
        let told = seed_is text seed asked in
        subst (λ t. IsAskedBy t (Some mode) (Some text) None) (same_Some (Generate seed) task found) (ap Some named, told.0, ap Some told.1, refl)

flstore_asked : (mode : List ℕ) (number form : Option (List ℕ)) (task : Task) → mode ≡ codes "flstore" → flstore_of number form ≡ Some task → IsAskedBy task (Some mode) number form
flstore_asked mode None None task named is = subst (λ t. IsAskedBy t (Some mode) None None) (same_Some FlStore task is) (ap Some named, refl, refl)
flstore_asked mode None (Some f) task named is = absurd (none-some task is)
flstore_asked mode (Some n) form task named is = absurd (none-some task is)

from_asked : (mode number form : Option (List ℕ)) (task : Task) → task_from mode number form ≡ Some task → IsAskedBy task mode number form
from_asked None number form task is = absurd (none-some task is)
from_asked (Some mode) number form task is = go (bytes_eq mode (codes "replay")) (bytes_eq mode (codes "gen")) (bytes_eq mode (codes "flstore")) refl refl refl is
  where
    go : (b d e : Bool) → bytes_eq mode (codes "replay") ≡ b → bytes_eq mode (codes "gen") ≡ d → bytes_eq mode (codes "flstore") ≡ e
        → cond b (replay_of number form) (cond d (generate_of number form) (cond e (flstore_of number form) None)) ≡ Some task → IsAskedBy task (Some mode) number form
    go true d e test other last found = replay_asked mode number form task ((bytes_eq-Decides mode (codes "replay")).0 test) found
    go false true e test other last found = generate_asked mode number form task ((bytes_eq-Decides mode (codes "gen")).0 other) found
    go false false true test other last found = flstore_asked mode number form task ((bytes_eq-Decides mode (codes "flstore")).0 last) found
    go false false false test other last found = absurd (none-some task found)

pub task_asked : (words : List (List ℕ)) (task : Task) → task_of words ≡ Some task
    → (are_taken words ≡ true) × IsAskedBy task (text_of (codes "mode") words) (text_of (codes "number") words) (text_of (codes "form") words)
unfolding task_of
task_asked words task is = go (are_taken words) refl is
  where
    go : (b : Bool) → are_taken words ≡ b
        → cond b (task_from (text_of (codes "mode") words) (text_of (codes "number") words) (text_of (codes "form") words)) None ≡ Some task
        → (are_taken words ≡ true) × IsAskedBy task (text_of (codes "mode") words) (text_of (codes "number") words) (text_of (codes "form") words)
    go true taken found = (taken, from_asked (text_of (codes "mode") words) (text_of (codes "number") words) (text_of (codes "form") words) task found)
    go false taken found = absurd (none-some task found)

-- ---- and back

asked_from : (mode number form : Option (List ℕ)) (task : Task) → IsAskedBy task mode number form → task_from mode number form ≡ Some task
asked_from mode number form (Replay wanted) asked = rw (asked.0, asked.1, asked.2) refl
asked_from mode number form (Generate seed) asked = rw (asked.0, asked.2, asked.3, seed_of_decimal (decimal seed) seed asked.1 refl) refl
asked_from mode number form FlStore asked = rw (asked.0, asked.1, asked.2) refl

pub asked_task : (words : List (List ℕ)) (task : Task) → are_taken words ≡ true
    → IsAskedBy task (text_of (codes "mode") words) (text_of (codes "number") words) (text_of (codes "form") words) → task_of words ≡ Some task
unfolding task_of
asked_task words task taken asked =
    rw taken (asked_from (text_of (codes "mode") words) (text_of (codes "number") words) (text_of (codes "form") words) task asked)

-- ---- words without a hyphen

pub every_seed : (seed : ℕ) → seed < 2 ^ 64 → task_of (codes "gen" ∷ decimal seed ∷ []) ≡ Some (Generate seed)
every_seed seed low =
    plain_two (codes "gen") (decimal seed) refl (digits_begin seed low)
    ∙ ap (option_map Generate) (seed_of_decimal (decimal seed) seed low refl)

pub lone_word : (word : List ℕ) → begins_with_hyphen word ≡ false → word ≢ codes "replay" → word ≢ codes "flstore" → task_of (word ∷ []) ≡ None
lone_word word begins other another = plain_one word begins ∙ go (bytes_eq word (codes "replay")) (bytes_eq word (codes "gen")) (bytes_eq word (codes "flstore")) refl refl
  where
    go : (b d e : Bool) → bytes_eq word (codes "replay") ≡ b → bytes_eq word (codes "flstore") ≡ e
        → cond b (replay_of None None) (cond d (generate_of None None) (cond e (flstore_of None None) None)) ≡ None
    go true d e test last = absurd (other ((bytes_eq-Decides word (codes "replay")).0 test))
    go false true e test last = refl
    go false false true test last = absurd (another ((bytes_eq-Decides word (codes "flstore")).0 last))
    go false false false test last = refl
