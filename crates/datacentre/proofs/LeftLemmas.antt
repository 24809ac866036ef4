-- What parts leave is what each world leaves for which they stand.
use Rattle.std.proofs.Common.{◌≡◌, ℕ, ◌+◌, ◌<◌, ◌≤◌, false, Bool, List, [], ◌∷◌, ◌++◌, length, map, take, get_or, refl, ap, ap₂, sym, ◌∙◌, subst, arith, add-one, append-nil, Result, Ok, Err, IfOk}
use Rattle.std.specs.List.{flat_map, fold}
use Rattle.std.proofs.lemmas.List.{get_or-set_other, length-set, take_all}
use Rattle.std.proofs.lemmas.List.Sums.{fold-append}
use Rattle.std.proofs.lemmas.Grind.{flat_map-append}
use Rattle.std.proofs.Math.Seq.{take-suc}
use Rattle.causal_deps.specs.declared.record.Place.{Place}
use Rattle.causal_deps.specs.declared.record.Record.{Record}
use Rattle.abstract_log.specs.declared.left.LeftAt.{LeftAt}
use Rattle.abstract_log.specs.declared.left.Row.{Row}
use Rattle.maintainer.specs.Maintainers.{MaintainerState}
use Rattle.maintainer.specs.declared.slot.Slot.{Slot}
use Rattle.token_queue.specs.declared.entry.Entry.{Entry}
use Rattle.token_queue.specs.Queues.{QueueState, outbox_for, without_outbox}
use Rattle.stage_world.specs.Leaving.{blank_rows, rows_told, slots_in, slots_kept, slots_waiting, with_place, with_slot}
use Rattle.stage_world.specs.Stages.{slot_of}
use Rattle.stage_world.proofs.LeavingLemmas.{rows_are}
use Rattle.stage_turns.specs.Lent.{maintainers_seen, queues_seen, token_seen}
use Rattle.datacentre.specs.declared.leaving.Remains.{Remains}
use Rattle.datacentre.specs.declared.parts.Parts.{Parts}
use Rattle.datacentre.specs.Leaving.{IsLeftBy, IsLeftByParts}
use Rattle.datacentre.specs.Seen.{DatacentreState, seen, state_of}

-- neither the token nor room matters

waiting_seen : (qs : List QueueState) → slots_waiting qs ≡ slots_waiting (queues_seen qs)
waiting_seen [] = refl
waiting_seen (q ∷ qs) = ap (λ ss. slots_in q.outboxes ++ ss) (waiting_seen qs)

kept_seen : (ms : List (MaintainerState Record)) → slots_kept ms ≡ slots_kept (maintainers_seen ms)
kept_seen [] = refl
kept_seen (m ∷ ms) = ap (λ ss. m.entries ++ ss) (kept_seen ms)

rows_seen : (n : ℕ) (qs : List QueueState) (ms : List (MaintainerState Record)) (places : List Place) → rows_told n qs ms places ≡ rows_told n (queues_seen qs) (maintainers_seen ms) places
rows_seen n qs ms places = ap₂ (λ (a : List (Slot Record)) (b : List (Slot Record)). fold with_place (fold with_slot (fold with_slot (blank_rows n) a) b) places) (waiting_seen qs) (kept_seen ms)

left_is : (p : Parts) (n : ℕ) (rows : List Row) (table : List (List ℕ)) → n ≡ (token_seen p.queues).last → rows ≡ rows_told n p.queues p.maintainers p.collected → table ≡ p.table.table
    → IsLeftByParts p (record { rows = rows; table = table })
left_is p n rows table count told known w stands = λ i. record {
  rows = (told ∙ ap (λ k. rows_told k p.queues p.maintainers p.collected) count ∙ rows_seen (token_seen p.queues).last p.queues p.maintainers p.collected ∙ rows_are w p.dc (seen p) stands) i;
  table = (known ∙ stands.knowledge.aware.same) i;
}

pub left_with : (p : Parts) (r : Remains) (n : ℕ) (rows : List Row) → r ≡ record { queues = p.queues; maintainers = p.maintainers; collected = p.collected; table = p.table.table }
    → n ≡ (token_seen p.queues).last → rows ≡ rows_told n r.queues r.maintainers r.collected → IsLeftByParts p (record { rows = rows; table = r.table })
left_with p r n rows is count told = left_is p n rows r.table count (told ∙ ap (λ (x : Remains). rows_told n x.queues x.maintainers x.collected) is) (ap (λ (x : Remains). x.table) is)

-- the outboxes of a queue, one after another

pub record AreTaken (start now : List Row) (queue left : QueueState) (m : ℕ) : Type 0 where
  pub rows : now ≡ fold with_slot start (slots_in (take m queue.outboxes))
  pub rest : (i : ℕ) → m ≤ i → outbox_for left i ≡ outbox_for queue i
  pub size : 1 ≤ m → length queue.outboxes ≡ 16
  pub same : length left.outboxes ≡ length queue.outboxes

pub none_taken : (start : List Row) (queue : QueueState) → AreTaken start start queue queue 0
none_taken start queue = record { rows = refl; rest = λ i le. refl; size = λ none. absurd (omega (arith, none)); same = refl }

pub one_taken : (start now next : List Row) (queue left after : QueueState) (m : ℕ) (entries : List Entry) → m < 16 → length left.outboxes ≡ 16 → entries ≡ outbox_for left m → after ≡ without_outbox left m
    → next ≡ fold with_slot now (map slot_of entries) → AreTaken start now queue left m → AreTaken start next queue after (m + 1)
one_taken start now next queue left after m entries few all out is put h =
    let boxes : List (List Entry) = queue.outboxes in
    let f : List Entry → List (Slot Record) = λ es. map slot_of es in
    let within : m < length boxes = omega (arith, few, all, h.same) in
    let box : List Entry = get_or boxes m [] in
    let these : entries ≡ box = out ∙ h.rest m (omega arith) in
    let more : take (m + 1) boxes ≡ take m boxes ++ box ∷ [] = rw (add-one, take-suc boxes m [] within) refl in
    let split : slots_in (take (m + 1) boxes) ≡ slots_in (take m boxes) ++ f box = ap slots_in more ∙ flat_map-append f (take m boxes) (box ∷ []) ∙ ap (λ ss. slots_in (take m boxes) ++ ss) (append-nil (f box)) in
    record {
      rows = put ∙ ap₂ (λ (r : List Row) (es : List Entry). fold with_slot r (map slot_of es)) h.rows these ∙ sym (fold-append with_slot start (slots_in (take m boxes)) (f box)) ∙ ap (fold with_slot start) (sym split);
      rest = λ i le. ap (λ (q : QueueState). outbox_for q i) is ∙ get_or-set_other left.outboxes m i [] [] (λ e. absurd (omega (arith, e, le))) ∙ h.rest i (omega (arith, le));
      size = λ some. sym h.same ∙ all;
      same = ap (λ (q : QueueState). length q.outboxes) is ∙ length-set left.outboxes m [] ∙ h.same;
    }

pub all_taken : (start now : List Row) (queue left : QueueState) (m : ℕ) → m ≡ 16 → AreTaken start now queue left m → now ≡ fold with_slot start (slots_in queue.outboxes)
all_taken start now queue left m end h = h.rows ∙ ap (λ (os : List (List Entry)). fold with_slot start (slots_in os)) (take_all m queue.outboxes (omega (arith, end, h.size (omega (arith, end)))))

-- the first of what is still to come

pub one_more : {X : Type 0} (f : X → List (Slot Record)) (now next start : List Row) (x : X) (xs all : List X) → all ≡ x ∷ xs → next ≡ fold with_slot now (f x)
    → fold with_slot now (flat_map f all) ≡ start → fold with_slot next (flat_map f xs) ≡ start
one_more f now next start x xs all is new leads =
    ap (λ (r : List Row). fold with_slot r (flat_map f xs)) new ∙ sym (fold-append with_slot now (f x) (flat_map f xs)) ∙ sym (ap (λ ys. fold with_slot now (flat_map f ys)) is) ∙ leads

pub one_slot : (now next start : List Row) (s : Slot Record) (ss all : List (Slot Record)) → all ≡ s ∷ ss → next ≡ with_slot now s → fold with_slot now all ≡ start → fold with_slot next ss ≡ start
one_slot now next start s ss all is new leads = ap (λ (r : List Row). fold with_slot r ss) new ∙ sym (ap (λ xs. fold with_slot now xs) is) ∙ leads

pub one_entry : (now next start : List Row) (e : Entry) (es all : List Entry) → all ≡ e ∷ es → next ≡ with_slot now (slot_of e) → fold with_slot now (map slot_of all) ≡ start → fold with_slot next (map slot_of es) ≡ start
one_entry now next start e es all is new leads = ap (λ (r : List Row). fold with_slot r (map slot_of es)) new ∙ sym (ap (λ xs. fold with_slot now (map slot_of xs)) is) ∙ leads

pub one_place : (start now next : List Row) (xs : List Place) (i : ℕ) (x : Place) → now ≡ fold with_place start (take i xs) → next ≡ with_place now x → i < length xs → x ≡ get_or xs i x
    → next ≡ fold with_place start (take (i + 1) xs)
one_place start now next xs i x was is within at =
    let more : take (i + 1) xs ≡ take i xs ++ x ∷ [] = rw (add-one, take-suc xs i x within, ← at) refl in
    is ∙ ap (λ r. with_place r x) was ∙ sym (fold-append with_place start (take i xs) (x ∷ [])) ∙ ap (fold with_place start) (sym more)

-- a datacentre that has not failed leaves what its parts do
pub left_by : {E : Type 0} (failed : Bool) (p : Parts) (s : DatacentreState) (result : Result LeftAt E) → state_of failed p ≡ s → failed ≡ false → IfOk result (IsLeftByParts p) → IfOk result (IsLeftBy s)
left_by failed p s (Ok left) view works is = subst (λ (x : DatacentreState). IsLeftBy x left) view (subst (λ b. IsLeftBy (state_of b p) left) (sym works) is)
left_by failed p s (Err e) view works is = tt
