-- What sessions have pinned, where they change.
use Rattle.std.proofs.Common.{◌≡◌, ◌≢◌, ℕ, zero, suc, ◌+◌, ◌<◌, Bool, true, false, cond, eqb, find, List, [], ◌∷◌, length, map, set, get_or, refl, ap, sym, ◌∙◌, arith, Option, Some, None}
use Rattle.std.specs.List.{All, AllPairs}
use Rattle.std.proofs.lemmas.List.Elements.{All-head, All-tail}
use Rattle.std.specs.Option.{option_and_then, option_map_or}
use Rattle.std.proofs.lemmas.Bool.{eq-eqb, ne_eqb}
use Rattle.std.proofs.lemmas.List.{get_or-map, length-map}
use Rattle.causal_deps.specs.declared.record.Record.{Record}
use Rattle.causal_deps.specs.declared.record.Item.{Item}
use Rattle.causal_deps.specs.declared.record.Item.TheVariants.{Local, External}
use Rattle.token_queue.specs.Queues.{QueueState, TokenState}
use Rattle.abstract_log.specs.Answers.{place_at}
use Rattle.log_gc.specs.Floors.{Floored, pin_of}
use Rattle.stage_world.specs.Stages.{Session}
use Rattle.stage_world.specs.StandsFor.{numbers_of}
use Rattle.stage_world.specs.Turns.{acked, all_acknowledged, at_session, sessions_after}
use Rattle.stage_turns.specs.Stamping.{drained_of, sessions_stamped}
use Rattle.datacentre.specs.Seen.{pin_in}

-- the same session, with the same pin
pub record HasItsPin (x y : Session) : Type 0 where
  pub number : y.number ≡ x.number
  pub pin : y.pin ≡ x.pin

-- the pin of the first of these, or of a later one
abbrev pin_at : Bool → Session → Option Session → Option ℕ
pin_at b x later = option_and_then (λ (y : Session). y.pin) (cond b (Some x) later)

abbrev found_in : List Session → ℕ → Option Session
found_in xs n = find (λ (x : Session). eqb x.number n) xs

first_kept : (x y : Session) (xs ys : List Session) (n : ℕ) → HasItsPin x y → pin_in ys n ≡ pin_in xs n → pin_in (y ∷ ys) n ≡ pin_in (x ∷ xs) n
first_kept x y xs ys n same later = ap (λ k. pin_at (eqb k n) y (found_in ys n)) same.number ∙ at (eqb x.number n)
  where
    at : (b : Bool) → pin_at b y (found_in ys n) ≡ pin_at b x (found_in xs n)
    at true = same.pin
    at false = later

-- one of them is changed
pub pins_set : (xs : List Session) (i : ℕ) (x y : Session) (n : ℕ) → get_or xs i x ≡ x → HasItsPin x y → pin_in (set xs i y) n ≡ pin_in xs n
pins_set [] i x y n is same = refl
pins_set (z ∷ zs) zero x y n is same =
    first_kept z y zs zs n (record { number = same.number ∙ sym (ap (λ (s : Session). s.number) is); pin = same.pin ∙ sym (ap (λ (s : Session). s.pin) is) }) refl
pins_set (z ∷ zs) (suc i) x y n is same = first_kept z z zs (set zs i y) n (record { number = refl; pin = refl }) (pins_set zs i x y n is same)

pins_mapped : (f : Session → Session) (xs : List Session) (n : ℕ) → ((x : Session) → HasItsPin x (f x)) → pin_in (map f xs) n ≡ pin_in xs n
pins_mapped f [] n same = refl
pins_mapped f (x ∷ xs) n same = first_kept x (f x) xs (map f xs) n (same x) (pins_mapped f xs n same)

-- one of them is changed, and those of other numbers are asked
pub pins_other : (xs : List Session) (i : ℕ) (x y : Session) (n : ℕ) → get_or xs i x ≡ x → y.number ≡ x.number → n ≢ x.number → pin_in (set xs i y) n ≡ pin_in xs n
pins_other [] i x y n is same other = refl
pins_other (z ∷ zs) zero x y n is same other =
    ap (λ b. pin_at b y (found_in zs n)) (ne_eqb y.number n (λ e. other (sym e ∙ same)))
    ∙ sym (ap (λ b. pin_at b z (found_in zs n)) (ne_eqb z.number n (λ e. other (sym e ∙ ap (λ (s : Session). s.number) is))))
pins_other (z ∷ zs) (suc i) x y n is same other = first_kept z z zs (set zs i y) n (record { number = refl; pin = refl }) (pins_other zs i x y n is same other)

-- what is pinned is the pin of some session, all of which have P
pub pinned_by : (P : Session → Type 0) (Q : Type 0) (xs : List Session) (n s : ℕ) → All P xs → ((y : Session) → P y → y.pin ≡ Some s → Q) → pin_in xs n ≡ Some s → Q
pinned_by P Q [] n s all has is = absurd (cc)
pinned_by P Q (x ∷ xs) n s all has is = at (eqb x.number n) (has x (All-head P x xs all)) (pinned_by P Q xs n s (All-tail P x xs all) has) is
  where
    at : (b : Bool) → (x.pin ≡ Some s → Q) → (pin_in xs n ≡ Some s → Q) → pin_at b x (found_in xs n) ≡ Some s → Q
    at true first later same = first same
    at false first later same = later same

-- the sessions that get their places

pins_acked : (s p : ℕ) (r : Record) (xs : List Session) (n : ℕ) → pin_in (at_session s (acked (place_at p r)) xs) n ≡ pin_in xs n
pins_acked s p r xs n = pins_mapped (λ x. cond (eqb x.number s) (acked (place_at p r) x) x) xs n (λ x. at x (eqb x.number s))
  where
    at : (x : Session) (b : Bool) → HasItsPin x (cond b (acked (place_at p r) x) x)
    at x true = record { number = refl; pin = refl }
    at x false = record { number = refl; pin = refl }

pins_after : (item : Item) (p : ℕ) (r : Record) (xs : List Session) (n : ℕ) → pin_in (sessions_after item p r xs) n ≡ pin_in xs n
pins_after (Local draft) p r xs n = pins_acked draft.session p r xs n
pins_after (External e) p r xs n = refl

pins_all : (last : ℕ) (items : List Item) (rs : List Record) (xs : List Session) (n : ℕ) → pin_in (all_acknowledged last items rs xs) n ≡ pin_in xs n
pins_all last [] rs xs n = refl
pins_all last (item ∷ items) [] xs n = refl
pins_all last (item ∷ items) (r ∷ rs) xs n = pins_all (last + 1) items rs (sessions_after item (last + 1) r xs) n ∙ pins_after item (last + 1) r xs n

pub pins_stamped : (q : QueueState) (xs : List Session) (n : ℕ) → pin_in (sessions_stamped q xs) n ≡ pin_in xs n
pins_stamped q xs n = at q.token
  where
    at : (o : Option TokenState) → pin_in (option_map_or (λ t. all_acknowledged t.last (drained_of q t).stamped (drained_of q t).records xs) o xs) n ≡ pin_in xs n
    at None = refl
    at (Some t) = pins_all t.last (drained_of q t).stamped (drained_of q t).records xs n

-- Each session's pin is held under its number, and nothing else is.

found_at_number : (xs : List Session) (i : ℕ) (x : Session) → AllPairs (λ a b. a < b) (numbers_of xs) → i < length xs → get_or xs i x ≡ x → pin_in xs x.number ≡ x.pin
found_at_number [] i x rise within is = absurd (omega (arith, within))
found_at_number (y ∷ ys) zero x rise within is =
    ap (λ b. pin_at b y (found_in ys x.number)) (eq-eqb y.number x.number (ap (λ (s : Session). s.number) is)) ∙ ap (λ (s : Session). s.pin) is
found_at_number (y ∷ ys) (suc i) x rise within is =
    let inside : i < length ys = omega (arith, within) in
    let number : get_or (numbers_of ys) i x.number ≡ x.number = get_or-map (λ (s : Session). s.number) ys i x x.number inside ∙ ap (λ (s : Session). s.number) is in
    let size : length (numbers_of ys) ≡ length ys = length-map ys (λ (s : Session). s.number) in
    let below : y.number < x.number = omega (arith, rise 0 (suc i) x.number (omega arith) (omega (arith, inside, size)), number) in
    ap (λ b. pin_at b y (found_in ys x.number)) (ne_eqb y.number x.number (λ same. absurd (omega (arith, below, same))))
    ∙ found_at_number ys i x (λ j k d less there. rise (suc j) (suc k) d (omega (arith, less)) (omega (arith, there))) inside is

pub pins_held : (xs : List Session) (g : Floored) → AllPairs (λ a b. a < b) (numbers_of xs) → ((n : ℕ) → pin_of g n ≡ pin_in xs n) → (i : ℕ) (x : Session) → i < length xs → get_or xs i x ≡ x → pin_of g x.number ≡ x.pin
pins_held xs g rise pins i x within is = pins x.number ∙ found_at_number xs i x rise within is

-- the pin of the one that is changed
pub pin_there : (xs : List Session) (i : ℕ) (x y : Session) → AllPairs (λ a b. a < b) (numbers_of xs) → i < length xs → get_or xs i x ≡ x → y.number ≡ x.number → pin_in (set xs i y) x.number ≡ y.pin
pin_there [] i x y rise within is same = absurd (omega (arith, within))
pin_there (z ∷ zs) zero x y rise within is same = ap (λ b. pin_at b y (found_in zs x.number)) (eq-eqb y.number x.number same)
pin_there (z ∷ zs) (suc i) x y rise within is same =
    let inside : i < length zs = omega (arith, within) in
    let number : get_or (numbers_of zs) i x.number ≡ x.number = get_or-map (λ (s : Session). s.number) zs i x x.number inside ∙ ap (λ (s : Session). s.number) is in
    let size : length (numbers_of zs) ≡ length zs = length-map zs (λ (s : Session). s.number) in
    let below : z.number < x.number = omega (arith, rise 0 (suc i) x.number (omega arith) (omega (arith, inside, size)), number) in
    ap (λ b. pin_at b z (found_in (set zs i y) x.number)) (ne_eqb z.number x.number (λ e. absurd (omega (arith, below, e))))
    ∙ pin_there zs i x y (λ j k d less there. rise (suc j) (suc k) d (omega (arith, less)) (omega (arith, there))) inside is same
