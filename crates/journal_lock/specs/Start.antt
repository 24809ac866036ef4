-- The table at the beginning: marks of 1, one epoch for each datacentre, and a pass that knows these and has every duty.
use Rattle.std.specs.Prelude.{ℕ, ◌+◌, ◌-◌, ◌%◌, ◌==◌, cond, nat_le, List, [], ◌∷◌, map, replicate, slice_index, Some}
use Rattle.cz_base.specs.declared.limits.TheConstants.{MEMBERS}
use Rattle.flstore_rounds.specs.declared.epochs.Epoch.{Epoch}
use Rattle.flstore_rounds.specs.Epochs.{EpochList}
use Rattle.abstract_log.specs.declared.command.Workload.{Workload}
use Rattle.journal_lock.specs.declared.law.Note.{Note}
use Rattle.journal_lock.specs.declared.law.Note.TheVariants.{Found, Ended, Told}
use Rattle.journal_lock.specs.declared.law.Stage.TheVariants.{Idle}
use Rattle.journal_lock.specs.declared.law.View.{View}
use Rattle.journal_lock.specs.declared.law.Plan.{Plan}
use Rattle.journal_lock.specs.declared.words.TheConstants.{MARKS, EPOCHS}
use Rattle.journal_lock.specs.Duties.{all_duties}
use Rattle.journal_lock.specs.Law.{plain, known, names, no_pins}
use Rattle.journal_lock.specs.Words.{epoch_word, dc_of, code}

-- from the first position on, so many maintainers
abbrev pub first_of : ℕ → Epoch
first_of members = record { start = 1; members = members }

abbrev pub first_list : ℕ → ℕ → EpochList
first_list round members = record { round = round; list = first_of members ∷ [] }

-- what a word holds, where the datacentres have so many maintainers
abbrev pub first_word : List ℕ → ℕ → ℕ
first_word members w = cond (nat_le EPOCHS w) (cond ((w - EPOCHS) % MEMBERS == 0) (slice_index (map (λ n. code (Some (first_of n))) members) (dc_of w)) 0) (cond (nat_le MARKS w) 1 0)

-- what the first pass was told of datacentre d and those after it
abbrev pub first_notes : ℕ → ℕ → List ℕ → List Note
first_notes round d [] = []
first_notes round d (n ∷ ns) = Told d (first_list round n) (replicate MEMBERS 1) ∷ Ended (epoch_word d 1) 0 ∷ Found (epoch_word d 0) (code (Some (first_of n))) ∷ first_notes round (d + 1) ns

-- the first pass
abbrev pub fresh : Plan → View
fresh plan = record { hold = plain plan.workload (known [] (all_duties plan.workload)) Idle; notes = first_notes plan.round 0 plan.maintainers; names = names [] []; pins = no_pins }
