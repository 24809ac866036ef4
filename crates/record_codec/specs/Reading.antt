-- What a read does to a reader: the bytes that are left, and how many were read.
use Rattle.std.specs.Prelude.{◌≡◌, ℕ, ◌+◌, ◌-◌, ◌/◌, ◌^◌, ◌≤◌, List, ◌++◌, length}
use Rattle.byteorder.specs.Endian.{big_number}
use Rattle.record_codec.specs.declared.fault.DecodeFault.{DecodeFault}
use Rattle.record_codec.specs.declared.fault.DecodeFault.TheVariants.{Malformed, NoMemory}
use Rattle.record_codec.specs.Parts.{Misses}

-- the bytes that are left, and the place of the first of them
pub record ReaderState : Type 0 where
  pub left : List ℕ
  pub at : ℕ

-- the reader went past the word
pub record ReadPast (old new : ReaderState) (word : List ℕ) : Type 0 where
  pub bytes : old.left ≡ word ++ new.left
  pub at : new.at ≡ old.at + length word

-- no word begins what was left, and the longest that begins some word ends at the place
pub record MissesFrom (Word : List ℕ → Type 0) (old : ReaderState) (at : ℕ) : Type 0 where
  pub off : ℕ
  pub misses : Misses Word old.left off
  pub is : at ≡ old.at + off

abbrev pub FailsAt : (List ℕ → Type 0) → ReaderState → DecodeFault → Type 0
FailsAt Word old (Malformed at) = MissesFrom Word old at
FailsAt Word old NoMemory = Unit {0}

-- the first n of the bytes begin a number of so many bytes in the range
pub record BeginsNumber (width low high : ℕ) (bytes : List ℕ) (n : ℕ) : Type 0 where
  pub least : low / 256 ^ (width - n) ≤ big_number n bytes
  pub greatest : big_number n bytes ≤ high / 256 ^ (width - n)
