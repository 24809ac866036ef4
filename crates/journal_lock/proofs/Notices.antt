-- What each kind of step does to the part of the rule on notes.
use Rattle.std.proofs.Common.{◌≤◌, ◌≡◌, ℕ, zero, suc, List, [], ◌∷◌, sym, subst, arith}
use mathlib.Core.List.{IsPrefix}
use Rattle.abstract_log.specs.declared.event.Event.{Event}
use Rattle.journal_lock.specs.declared.law.Note.{Note}
use Rattle.journal_lock.specs.declared.law.Note.TheVariants.{Met, Length, Found, Ended, Told}
use Rattle.journal_lock.specs.Duties.{datacentre, has, stamped}
use Rattle.journal_lock.specs.Finds.{read_notes}
use Rattle.std.proofs.lemmas.Bool.Decides.{nat_tests}
use Rattle.journal_lock.specs.Notes.{IsTrue, AllTrue, Noted}
use Rattle.journal_lock.specs.Names.{lengths_of}
use Rattle.journal_lock.specs.Words.{dc_of}
use Rattle.journal_lock.proofs.EachNotes.{each_by}
use Rattle.journal_lock.proofs.Lists.{prefix_length, stamped_prefix}

-- what is true stays true as the journal grows
pub true_longer : (log log' : List Event) → IsPrefix log log' → (x : Note) → IsTrue log x → IsTrue log' x
true_longer log log' more (Met count) t = omega (arith, prefix_length log log' more)
true_longer log log' more (Length d n) t = omega (arith, stamped_prefix datacentre d log log' more)
true_longer log log' more (Told d epochs marks) t = tt
true_longer log log' more (Ended w len) t = λ d k a e. omega (arith, t d k a e, stamped_prefix datacentre d log log' more)
true_longer log log' more (Found w value) t = λ d m a b e. omega (arith, t d m a b e, stamped_prefix datacentre d log log' more)

-- the lengths that were seen are true
pub lengths_true : (log seen : List Event) → IsPrefix seen log → (ds : List ℕ) → AllTrue log (lengths_of ds seen)
lengths_true log seen more [] = tt
lengths_true log seen more (d ∷ ds) = (stamped_prefix datacentre d seen log more, lengths_true log seen more ds)

-- what a look at the word of an epoch leaves is true
pub read_true : (seen log : List Event) → IsPrefix seen log → (w : ℕ) → 130 ≤ w → (value : ℕ) → AllTrue log (read_notes w (has datacentre (dc_of w) (stamped seen)) value)
read_true seen log more w high zero = (
  (λ d k a e. (let is : dc_of w ≡ d = grind (arith, nat_tests) in subst (λ z. has datacentre z (stamped seen) ≤ has datacentre d (stamped log)) (sym is) (stamped_prefix datacentre d seen log more))),
  ((λ d m a b e. absurd (omega arith)), tt),
)
read_true seen log more w high (suc value) = ((λ d m a b e. absurd (omega arith)), tt)

pub grows : (log log' : List Event) → IsPrefix log log' → (ns : List (List Note)) → Noted log ns → Noted log' ns
grows log log' more ns r = each_by (IsTrue log) (IsTrue log') (true_longer log log' more) ns r
