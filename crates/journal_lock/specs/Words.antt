-- Which word is which, and the duty that it takes to change one.
use Rattle.std.specs.Prelude.{ℕ, ◌+◌, ◌*◌, ◌-◌, ◌/◌, ◌%◌, cond, nat_le, Option, Some, None}
use Rattle.cz_base.specs.declared.limits.TheConstants.{MEMBERS}
use Rattle.flstore_rounds.specs.declared.epochs.Epoch.{Epoch}
use Rattle.journal_lock.specs.declared.duty.Duty.TheVariants.{Token, Maintainer}
use Rattle.journal_lock.specs.declared.words.TheConstants.{MARKS, EPOCHS, SPAN}
use Rattle.journal_lock.specs.Duties.{number}

-- the word of the mark of maintainer m of datacentre d
abbrev pub mark_word : ℕ → ℕ → ℕ
mark_word d m = MARKS + MEMBERS * d + m

-- the word of the epoch k of datacentre d
abbrev pub epoch_word : ℕ → ℕ → ℕ
epoch_word d k = EPOCHS + MEMBERS * d + k

-- the datacentre of the word of an epoch
abbrev pub dc_of : ℕ → ℕ
dc_of w = (w - EPOCHS) / MEMBERS

-- the number of the duty that it takes to change a word: a mark that of its maintainer, an epoch that of the token
abbrev pub guard : ℕ → ℕ
guard w = cond (nat_le EPOCHS w) (number (Token (dc_of w))) (number (Maintainer ((w - MARKS) / MEMBERS) ((w - MARKS) % MEMBERS)))

-- what the word of an epoch holds, and 0 where there is none
abbrev pub code : Option Epoch → ℕ
code None = 0
code (Some e) = SPAN * e.start + e.members
