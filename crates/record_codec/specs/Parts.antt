-- Parts of a spelling: values that are allowed there, and the bytes that spell each. A word is what spells an allowed value.
use Rattle.std.specs.Prelude.{◌≡◌, ℕ, zero, suc, ◌<◌, ◌≤◌, ◌==◌, ◌⊎◌, if◌then◌else◌, Bool, None, List, [], ◌∷◌, ◌++◌, length}
use Rattle.cz_base.specs.Text.{first_bad}
use Rattle.byteorder.specs.Endian.{big_bytes}

-- how many bytes two texts share from the start
abbrev pub shared : List ℕ → List ℕ → ℕ
shared [] ys = 0
shared (x ∷ xs) [] = 0
shared (x ∷ xs) (y ∷ ys) = if x == y then suc (shared xs ys) else 0

-- the texts part before either ends
pub record Differ (xs ys : List ℕ) : Type 0 where
  pub left : shared xs ys < length xs
  pub right : shared xs ys < length ys

-- the text is a word of the part
pub record IsWord {X : Type 0} (Allowed : X → Type 0) (spell : X → List ℕ) (text : List ℕ) : Type 0 where
  pub value : X
  pub allowed : Allowed value
  pub spelled : text ≡ spell value

-- no word begins the bytes, and the most that they share with one is so many
pub record Misses (Word : List ℕ → Type 0) (bytes : List ℕ) (at : ℕ) : Type 0 where
  pub word : List ℕ
  pub is_word : Word word
  pub reached : shared word bytes ≡ at
  pub most : (w : List ℕ) → Word w → shared w bytes ≤ at
  pub none : (w : List ℕ) → Word w → shared w bytes < length w

-- the words of two values differ
pub record IsCode {X : Type 0} (Allowed : X → Type 0) (spell : X → List ℕ) : Type 0 where
  pub apart : (x y : X) → Allowed x → Allowed y → (x ≡ y) ⊎ Differ (spell x) (spell y)

-- a value, and after it a second whose part depends on the first
pub record Both {X Y : Type 0} (First : X → Type 0) (Second : X → Y → Type 0) (values : X × Y) : Type 0 where
  pub first : First values.0
  pub second : Second values.0 values.1

abbrev pub behind_one_another : {X Y : Type 0} → (X → List ℕ) → (X → Y → List ℕ) → X × Y → List ℕ
behind_one_another first second values = first values.0 ++ second values.0 values.1

-- a number of a range
pub record IsBetween (low high n : ℕ) : Type 0 where
  pub least : low ≤ n
  pub greatest : n ≤ high

-- so many bytes that all pass the test
pub record IsText (good : ℕ → Bool) (n : ℕ) (text : List ℕ) : Type 0 where
  pub size : length text ≡ n
  pub passes : first_bad good text ≡ None

abbrev pub as_it_is : List ℕ → List ℕ
as_it_is text = text

-- so many values, each allowed at its place, where the first stands at place i
abbrev pub AreEach : {X : Type 0} → (ℕ → X → Type 0) → ℕ → ℕ → List X → Type 0
AreEach Allowed i n [] = n ≡ 0
AreEach Allowed i zero (x ∷ xs) = ⊥
AreEach Allowed i (suc n) (x ∷ xs) = Allowed i x × AreEach Allowed (suc i) n xs

-- a value whose size is in a range, spelled behind its size
pub record IsSized {Y : Type 0} (low high : ℕ) (size : Y → ℕ) (Items : ℕ → Y → Type 0) (y : Y) : Type 0 where
  pub within : IsBetween low high (size y)
  pub items : Items (size y) y

abbrev pub sized : {Y : Type 0} → ℕ → (Y → ℕ) → (Y → List ℕ) → Y → List ℕ
sized width size spell y = big_bytes width (size y) ++ spell y
