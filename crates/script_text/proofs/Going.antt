-- Steps of reading that went on: what an answer that is `Ok` tells of the calls and tests before it.
use Rattle.std.proofs.Common.{◌≡◌, ℕ, refl, Bool, true, false, cond, ◌⊎◌, inl, inr}
use Rattle.std.specs.Prelude.{Ok, Err, Result, Option, Some, None, is_none}
use Rattle.script_text.specs.declared.fault.Cause.{Cause}
use Rattle.script_text.specs.declared.progress.Progress.{Progress}
use Rattle.script_text.specs.Reading.{◌>>=◌}
use Rattle.script_text.specs.Meaning.{told}

-- a line or a word that is read
abbrev pub okay : {A : Type 0} → A → Result A Cause
okay x = Ok x

pub okay-same : {A : Type 0} (x y : A) → okay x ≡ okay y → x ≡ y
okay-same x y same = cc

-- a step of reading that went on
pub bind_ok : {A B E : Type 0} (r : Result A E) (f : A → Result B E) (y : B) → (r >>= f) ≡ Ok y → (x : A) × ((r ≡ Ok x) × (f x ≡ Ok y))
bind_ok (Ok x) f y same = (x, (refl, same))
bind_ok (Err e) f y same = cc

-- a test that let it go on
pub guard_ok : {A E : Type 0} (b : Bool) (e : E) (r : Result A E) (y : A) → cond b (Err e) r ≡ Ok y → (b ≡ false) × (r ≡ Ok y)
guard_ok true e r y same = cc
guard_ok false e r y same = (refl, same)

pub pass_ok : {A E : Type 0} (b : Bool) (e : E) (r : Result A E) (y : A) → cond b r (Err e) ≡ Ok y → (b ≡ true) × (r ≡ Ok y)
pass_ok true e r y same = (refl, same)
pass_ok false e r y same = cc

pub chosen : {A : Type 0} (b : Bool) (x y z : A) → cond b x y ≡ z → (x ≡ z) ⊎ (y ≡ z)
chosen true x y z same = inl same
chosen false x y z same = inr same

pub told_ok : (number : ℕ) (r : Result Progress Cause) (y : Progress) → told number r ≡ Ok y → r ≡ Ok y
told_ok number (Ok x) y same = cc
told_ok number (Err e) y same = cc

pub none_is : (o : Option ℕ) → is_none o ≡ true → o ≡ None
none_is None h = refl
none_is (Some n) h = cc
