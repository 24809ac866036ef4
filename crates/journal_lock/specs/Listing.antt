-- What a pass knows once it looked at the marks or at the epochs of a datacentre.
use Rattle.std.specs.Prelude.{◌≡◌, ℕ, ◌+◌, ◌≤◌, ◌==◌, cond, List, [], ◌∷◌, map, length, Some}
use Rattle.cz_base.specs.declared.limits.TheConstants.{MEMBERS}
use Rattle.flstore_rounds.specs.declared.epochs.Epoch.{Epoch}
use Rattle.flstore_rounds.specs.Epochs.{EpochList, IsPrefix}
use Rattle.flstore_rounds.specs.Heads.{head}
use Rattle.journal_lock.specs.declared.law.Note.{Note}
use Rattle.journal_lock.specs.declared.law.Note.TheVariants.{Found, Ended}
use Rattle.journal_lock.specs.Duties.{datacentre, has, stamped}
use Rattle.journal_lock.specs.Words.{mark_word, epoch_word, code}
use Rattle.journal_lock.specs.Heads.{pair_of, known_list, known_marks, settled, told}
use Rattle.journal_lock.specs.Passes.{Lock, Ticket}

-- the notes after words were found to hold these values, from word w on
abbrev pub found_list : ℕ → List ℕ → List Note → List Note
found_list w [] notes = notes
found_list w (x ∷ xs) notes = found_list (w + 1) xs (Found w x ∷ notes)

-- after a look at all marks of a datacentre
abbrev pub marks_found : ℕ → List ℕ → List Note → List Note
marks_found d marks notes = found_list (mark_word d 0) marks notes

-- after a look at the words of these epochs, the first of a datacentre
abbrev pub epochs_found : ℕ → List Epoch → List Note → List Note
epochs_found d es notes = found_list (epoch_word d 0) (map (λ e. code (Some e)) es) notes

-- after a look at all epochs of a datacentre, and at the word that holds none where there is one
abbrev pub list_notes : ℕ → ℕ → ℕ → List Epoch → List Note → List Note
list_notes round d len es notes =
    told round d (cond (length es == MEMBERS) (epochs_found d es notes) (Ended (epoch_word d (length es)) len ∷ Found (epoch_word d (length es)) 0 ∷ epochs_found d es notes))

-- The pass p looked at the epochs of datacentre d, which are these, and is now q. The list goes on from any that p was told, q was told just this list, and the head of all that q was told is that of this list and of the marks that p knew, and no lower than before.
pub record IsListed (l : Lock) (d : ℕ) (p q : Ticket) (epochs : EpochList) : Type 0 where
  pub kept : q ≡ record p { notes = list_notes l.round d (has datacentre d (stamped p.seen)) epochs.list p.notes }
  pub known : epochs ≡ known_list l.round d q.notes
  pub later : IsPrefix (settled l.round d p.notes).epochs epochs
  pub whole : (settled l.round d q.notes).epochs ≡ epochs
  pub no_less : head (settled l.round d p.notes) ≤ head (settled l.round d q.notes)
  pub head_is : head (settled l.round d q.notes) ≡ head (pair_of epochs (known_marks d p.notes))
