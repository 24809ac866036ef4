-- The parts of the rule beside the lock's own, at the steps of the lock. A new part is added here, and no step of the lock is opened.
use Rattle.std.proofs.Common.{arith, append_assoc, zero, suc, ◌+◌, le_refl, get_or-set_other, slice_index, Option, ◌≡◌, ◌≢◌, ℕ, ◌<◌, ◌≤◌, List, replicate, [], ◌∷◌, ◌++◌, map, length, drop, set, get_or, max, refl, ap, sym, ◌∙◌, subst}
use mathlib.Core.Option.{some, some-injective, some-ne-none}
use mathlib.Core.List.{IsPrefix, map-append}
use lib.ListN.{get_elem?}
use lib.Seq.{map-set}
use Rattle.atomic_table.proofs.Lists.{set_again, set_else, at_map}
use Rattle.abstract_log.specs.declared.command.Workload.{Workload}
use Rattle.abstract_log.specs.declared.event.Event.{Event}
use Rattle.journal_lock.specs.declared.duty.Duty.{Duty}
use Rattle.journal_lock.specs.declared.duty.Position.{Position}
use Rattle.journal_lock.specs.declared.law.Note.{Note}
use Rattle.journal_lock.specs.declared.law.Note.TheVariants.{Length, Found}
use Rattle.journal_lock.specs.declared.law.Names.{Names}
use Rattle.journal_lock.specs.declared.law.View.{View}
use Rattle.journal_lock.specs.Duties.{number, place, datacentre, has, minus, stamped, Among, HasDuty}
use Rattle.journal_lock.specs.Law.{spent, kept, given, joined, names, counted, longer}
use Rattle.journal_lock.specs.Notes.{AllNotes, EachNote, IsTrue, AllTrue, Noted, notes_of, with_notes, noted}
use Rattle.journal_lock.specs.Words.{epoch_word, guard}
use Rattle.journal_lock.specs.Finds.{IsLater, AllStand, Finding, Stands, Worded, finding_of, reads}
use Rattle.journal_lock.specs.Marks.{Marked, list_by, placed_by, placed_of}
use Rattle.journal_lock.specs.Joins.{AreTold, TwoPairs, joins_of}
use Rattle.journal_lock.specs.Names.{Named, NamesByDuty, naming_of, amended, lengths_of, own_notes}
use Rattle.journal_lock.specs.Heads.{IsPlaced, Agrees, Paired}
use Rattle.journal_lock.specs.declared.law.SessionPin.{SessionPin}
use Rattle.journal_lock.specs.Pins.{FitsPins, MayPin, Pinned, Pinning, pinning_of, pins_of_both}
use Rattle.journal_lock.specs.Rule.{Sides}
use Rattle.flstore_rounds.proofs.HeadLemmas.{joined_true}
use Rattle.journal_lock.proofs.EachNotes.{all_append, all_joins, each_split, each_join, each_more}
use Rattle.journal_lock.proofs.Settled as heads
use Rattle.journal_lock.proofs.Notices as notices
use Rattle.journal_lock.proofs.Places as places
use Rattle.journal_lock.proofs.Finds as finds
use Rattle.journal_lock.proofs.Marks as marks
use Rattle.journal_lock.proofs.Pinnings as pins
use Rattle.journal_lock.specs.Ties.{AllTied, IsTied, held_by}
use Rattle.journal_lock.proofs.TieLemmas as ties
use Rattle.journal_lock.proofs.Lists.{total_set, total_snoc, has_append, has_minus}
use Rattle.journal_lock.proofs.Lists.{prefix_self}

-- what the parts here see of a view
abbrev pub Side : Type 0
Side = List Duty × List Note × Names

abbrev pub side_of : View → Side
side_of v = (v.hold.now.duties, v.notes, v.names)

pub same_map : {B : Type 0} (f : View → B) (vs : List View) (id : ℕ) (v w : View) → get_elem? vs id ≡ some v → f w ≡ f v → map f (set vs id w) ≡ map f vs
same_map f vs id v w at e = map-set f vs id w ∙ (ap (set (map f vs) id) e ∙ set_again (map f vs) id (f v) (at_map f vs id v at))

-- the view behind what is seen of it
pub at_unmap : {B : Type 0} (f : View → B) (vs : List View) (j : ℕ) (y : B) → get_elem? (map f vs) j ≡ some y → (v : View) × (get_elem? vs j ≡ some v) × (f v ≡ y)
at_unmap f [] j y e = absurd (some-ne-none y (sym e))
at_unmap f (v ∷ vs) zero y e = (v, refl, some-injective (f v) y e)
at_unmap f (v ∷ vs) (suc j) y e = at_unmap f vs j y e

set_over : {A : Type 0} (xs : List A) (i : ℕ) (a b : A) → set (set xs i a) i b ≡ set xs i b
set_over [] i a b = refl
set_over (x ∷ xs) zero a b = refl
set_over (x ∷ xs) (suc i) a b = ap (λ l. x ∷ l) (set_over xs i a b)

set_at : {A : Type 0} (xs : List A) (i : ℕ) (v a : A) → get_elem? xs i ≡ some v → get_elem? (set xs i a) i ≡ some a
set_at [] i v a at = absurd (some-ne-none v (sym at))
set_at (x ∷ xs) zero v a at = refl
set_at (x ∷ xs) (suc i) v a at = set_at xs i v a at

lengths_agree : (round : ℕ) (words : List ℕ) (P : ℕ → ℕ → Type 0) (seen : List Event) (ds : List ℕ) → AllNotes (Agrees round words P) (lengths_of ds seen)
lengths_agree round words P seen [] = tt
lengths_agree round words P seen (d ∷ ds) = (tt, lengths_agree round words P seen ds)

module _ (load : Workload) (round : ℕ) (log : List Event) (words : List ℕ) (views : List View) (r : Sides load round log words views) (id : ℕ) (v : View) (at : get_elem? views id ≡ some v) where
  -- what is true of the words and of what is placed
  abbrev pub Fact : Note → Type 0
  Fact = Agrees round words (IsPlaced (map placed_of views))

  -- notes that are true of what there was
  moved : (words' : List ℕ) (views' : List View) → ((u : ℕ) → 2 ≤ u → get_or words' u 0 ≡ get_or words u 0) → ((x : ℕ) → placed_by x (map placed_of views) ≤ placed_by x (map placed_of views')) → EachNote Fact (map notes_of views') → Paired load.dcs round words' (map placed_of views') (map notes_of views')
  moved words' views' same more each = heads.moves load.dcs round words (map placed_of views) (map notes_of views) r.paired words' (map placed_of views') (map notes_of views') same more each

  -- the seat has more notes
  more_notes : (w : View) (new : List Note) → w.notes ≡ new ++ v.notes → AllNotes Fact new → EachNote Fact (map notes_of (set views id w))
  more_notes w new is t = subst (EachNote Fact) (sym (map-set notes_of views id w ∙ ap (set (map notes_of views) id) is)) (each_more Fact (map notes_of views) r.paired.each id (notes_of v) (at_map notes_of views id v at) new t)

  -- where the seat has placed no fewer positions, no fewer are placed
  more_at : (w : View) → ((x : ℕ) → has place x v.names.placed ≤ has place x w.names.placed) → (x : ℕ) → placed_by x (map placed_of views) ≤ placed_by x (map placed_of (set views id w))
  more_at w more x = let e = ap (placed_by x) (map-set placed_of views id w) in omega (arith, more x, total_set (λ (q : List Position). has place x q) (map placed_of views) id (placed_of v) (placed_of w) (at_map placed_of views id v at))

  -- the seat has the same duties
  tied_by : (w : View) → held_by w ≡ held_by v → AllTied load (map held_by (set views id w))
  tied_by w same = subst (AllTied load) (sym (same_map held_by views id v w at same)) r.tied

  -- the seat knows no pins but those that it knew
  pinned_by : (w : View) → ((pins : ℕ → Option ℕ) → FitsPins load pins (pinning_of v) → FitsPins load pins (pinning_of w)) → Pinned load (map pinning_of (set views id w))
  pinned_by w fewer = subst (Pinned load) (sym (map-set pinning_of views id w)) (pins.keeps load (map pinning_of views) r.pinned id (pinning_of v) (at_map pinning_of views id v at) (pinning_of w) fewer)

  -- a step after which the seat names, notes and may do the same, and has seen no less
  pub keep_sides : (i x : ℕ) → i < 2 → (w : View) → IsPrefix v.hold.now.seen w.hold.now.seen → side_of w ≡ side_of v → ((pins : ℕ → Option ℕ) → FitsPins load pins (pinning_of v) → FitsPins load pins (pinning_of w)) → Sides load round log (set words i x) (set views id w)
  keep_sides i x low w more same fewer = record {
    tied = tied_by w (ap (λ (s : Side). s.0) same);
    pinned = pinned_by w fewer;
    marked = marks.moves round words (map placed_of views) r.marked (set words i x) (map placed_of (set views id w)) (λ u le. get_or-set_other words i u x 0 (λ e. omega arith)) (more_at w (λ y. (let e = ap (λ (s : Side). has place y s.2.placed) same in omega arith)));
    found = subst (Worded log (set words i x)) (sym (same_map finding_of views id v w at (ap (λ (s : Side). (s.0, s.1)) same))) (finds.grows log words (map finding_of views) r.found log (prefix_self log) i x low);
    noted = subst (Noted log) (sym (same_map notes_of views id v w at (ap (λ (s : Side). s.1) same))) r.noted;
    named = subst (Named log) (sym (map-set naming_of views id w ∙ ap (λ (s : Side). set (map naming_of views) id (w.hold.now.seen, s.0, s.2)) same))
        (places.sees log (map naming_of views) r.named id (naming_of v) (at_map naming_of views id v at) w.hold.now.seen more);
    paired = moved (set words i x) (set views id w) (λ u le. get_or-set_other words i u x 0 (λ e. omega arith)) (more_at w (λ y. (let e = ap (λ (s : Side). has place y s.2.placed) same in omega arith))) (more_notes w [] (ap (λ (s : Side). s.1) same) tt);
  }

  -- the count, after which the seat names the new positions
  pub count_sides : (log' : List Event) → IsPrefix log log' → v.hold.now.seen ≡ log → HasDuty v.hold.now.duties → ((p : ℕ) → has place p (stamped log') ≤ 1) → (i x : ℕ) → i < 2 → Sides load round log' (set words i x) (set views id (counted v log'))
  count_sides log' more saw duty single i x low = let w : View = counted v log' in record {
    tied = tied_by w refl;
    pinned = pinned_by w (λ known t. pins.plain_pins load known (pinning_of v) t);
    marked = marks.moves round words (map placed_of views) r.marked (set words i x) (map placed_of (set views id w)) (λ u le. get_or-set_other words i u x 0 (λ e. omega arith)) (more_at w (λ y. le_refl (has place y v.names.placed)));
    found = subst (Worded log' (set words i x)) (sym (same_map finding_of views id v w at refl)) (finds.grows log words (map finding_of views) r.found log' more i x low);
    noted = subst (Noted log') (sym (same_map notes_of views id v w at refl)) (notices.grows log log' more (map notes_of views) r.noted);
    named = subst (Named log') (sym (map-set naming_of views id w)) (subst (λ (l : List Event). Named log' (set (map naming_of views) id (log', v.hold.now.duties, names (stamped (drop (length l) log') ++ v.names.hand) v.names.placed))) (sym saw)
        (places.counts log (map naming_of views) r.named id (naming_of v) (at_map naming_of views id v at) log' more saw duty single));
    paired = moved (set words i x) (set views id w) (λ u le. get_or-set_other words i u x 0 (λ e. omega arith)) (more_at w (λ y. le_refl (has place y v.names.placed))) (more_notes w [] refl tt);
  }

  -- true notes
  pub notes_sides : (new : List Note) → AllTrue log new → AllStand words new → AllNotes Fact new → Sides load round log words (set views id (reads v new))
  notes_sides new t stand agree = let w : View = reads v new in record {
    tied = tied_by w refl;
    pinned = pinned_by w (λ _ t. t);
    marked = marks.moves round words (map placed_of views) r.marked words (map placed_of (set views id w)) (λ u le. refl) (more_at w (λ y. le_refl (has place y v.names.placed)));
    found = subst (Worded log words) (sym (map-set finding_of views id w)) (finds.adds log words (map finding_of views) r.found id (finding_of v) (at_map finding_of views id v at) new stand);
    noted = subst (Noted log) (sym (map-set notes_of views id w)) (each_more (IsTrue log) (map notes_of views) r.noted id (notes_of v) (at_map notes_of views id v at) new t);
    named = subst (Named log) (sym (same_map naming_of views id v w at refl)) r.named;
    paired = moved words (set views id w) (λ u le. refl) (more_at w (λ y. le_refl (has place y v.names.placed))) (more_notes w new refl agree);
  }

  -- names are placed, lengths noted, and pairs as one
  pub amend_sides : (ps : List Position) (ds : List ℕ) (twos : List TwoPairs) (changes : List SessionPin) → Among place ps v.names.hand → AreTold twos v.notes → MayPin load v.hold.now.duties changes
      → ((j : ℕ) (z : Pinning) → j ≢ id → get_elem? (map pinning_of views) j ≡ some z → (y : ℕ) → 0 < has number y v.hold.now.duties → (has number y z.0.0 ≡ 0) × (has number y z.1.0 ≡ 0) × (has number y z.2.0 ≡ 0))
      → IsPrefix v.hold.now.seen log → Sides load round log words (set views id (amended ps ds twos changes v))
  amend_sides ps ds twos changes among told may alone more = let w : View = amended ps ds twos changes v in let seen : List Event = v.hold.now.seen in record {
    tied = tied_by w refl;
    pinned = subst (Pinned load) (sym (map-set pinning_of views id w)) (pins.changes load (map pinning_of views) r.pinned id (pinning_of v) (at_map pinning_of views id v at) changes may alone);
    marked = marks.moves round words (map placed_of views) r.marked words (map placed_of (set views id w)) (λ u le. refl) (more_at w (λ y. omega (arith, has_append place y ps v.names.placed)));
    found = subst (Worded log words) (sym (map-set finding_of views id w)) (finds.adds log words (map finding_of views) r.found id (finding_of v) (at_map finding_of views id v at) (own_notes twos ds seen)
        (all_append (Stands words) (joins_of twos) (lengths_of ds seen) (all_joins (Stands words) (finds.joins_stand words) v.notes (r.found.each id (finding_of v) (at_map finding_of views id v at)).stand twos told) (finds.lengths_stand words seen ds)));
    noted = subst (Noted log) (sym (map-set notes_of views id w))
        (each_more (IsTrue log) (map notes_of views) r.noted id (notes_of v) (at_map notes_of views id v at) (own_notes twos ds seen)
        (all_append (IsTrue log) (joins_of twos) (lengths_of ds seen) (all_joins (IsTrue log) (λ d a b _ _. tt) v.notes (r.noted id (notes_of v) (at_map notes_of views id v at)) twos told) (notices.lengths_true log seen more ds)));
    named = subst (Named log) (sym (map-set naming_of views id w)) (places.places log (map naming_of views) r.named id (naming_of v) (at_map naming_of views id v at) ps among);
    paired = moved words (set views id w) (λ u le. refl) (more_at w (λ y. omega (arith, has_append place y ps v.names.placed))) (more_notes w (own_notes twos ds seen) refl
        (all_append Fact (joins_of twos) (lengths_of ds seen) (all_joins Fact (λ d a b s t. joined_true (list_by round (slice_index words) d) (IsPlaced (map placed_of views) d) a b s t) v.notes (r.paired.each id (notes_of v) (at_map notes_of views id v at)) twos told)
        (lengths_agree round words (IsPlaced (map placed_of views)) seen ds)));
  }

  pub split_sides : (ds : List Duty) (hand placed : List Position) → Among number ds v.hold.now.duties → Among place hand v.names.hand → Among place placed v.names.placed → NamesByDuty (kept ds hand placed v).hold.now.duties (kept ds hand placed v).names → NamesByDuty ds (names hand placed) → IsTied load (minus number v.hold.now.duties ds) → IsTied load ds
      → Sides load round log words (set views id (kept ds hand placed v) ++ given ds hand placed v ∷ [])
  split_sides ds hand placed among a b mine other left_tied right_tied = let w : View = kept ds hand placed v in let g : View = given ds hand placed v in
      let more : (y : ℕ) → placed_by y (map placed_of views) ≤ placed_by y (map placed_of (set views id w ++ g ∷ [])) = (λ y. (let e = ap (placed_by y) (map-append placed_of (set views id w) (g ∷ []) ∙ ap (λ l. l ++ placed_of g ∷ []) (map-set placed_of views id w)) in
      omega (arith, has_minus place v.names.placed placed b y, total_snoc (λ (q : List Position). has place y q) (set (map placed_of views) id (placed_of w)) (placed_of g), total_set (λ (q : List Position). has place y q) (map placed_of views) id (placed_of v) (placed_of w) (at_map placed_of views id v at)))) in record {
        tied = subst (AllTied load) (sym (map-append held_by (set views id w) (g ∷ []) ∙ ap (λ l. l ++ held_by g ∷ []) (map-set held_by views id w))) (ties.split_tied load (map held_by views) r.tied id (held_by w) ds left_tied right_tied);
        pinned = subst (Pinned load) (sym (map-append pinning_of (set views id w) (g ∷ []) ∙ ap (λ l. l ++ pinning_of g ∷ []) (map-set pinning_of views id w)))
            (pins.splits load (map pinning_of views) r.pinned id (pinning_of v) (at_map pinning_of views id v at) ds among);
        marked = marks.moves round words (map placed_of views) r.marked words (map placed_of (set views id w ++ g ∷ [])) (λ u le. refl) more;
        paired = moved words (set views id w ++ g ∷ []) (λ u le. refl) more (subst (EachNote Fact) (sym (map-append notes_of (set views id w) (g ∷ []) ∙ ap (λ l. l ++ notes_of g ∷ []) (map-set notes_of views id w))) (each_split Fact (map notes_of views) r.paired.each id (notes_of v) (at_map notes_of views id v at)));
        found = subst (Worded log words) (sym (map-append finding_of (set views id w) (g ∷ []) ∙ ap (λ l. l ++ finding_of g ∷ []) (map-set finding_of views id w)))
            (finds.splits log words (map finding_of views) r.found id (finding_of v) (at_map finding_of views id v at) ds among);
        noted = subst (Noted log) (sym (map-append notes_of (set views id w) (g ∷ []) ∙ ap (λ l. l ++ notes_of g ∷ []) (map-set notes_of views id w)))
            (each_split (IsTrue log) (map notes_of views) r.noted id (notes_of v) (at_map notes_of views id v at));
        named = subst (Named log) (sym (map-append naming_of (set views id w) (g ∷ []) ∙ ap (λ l. l ++ naming_of g ∷ []) (map-set naming_of views id w)))
            (places.splits log (map naming_of views) r.named id (naming_of v) (at_map naming_of views id v at) ds hand placed a b mine other);
      }

  pub join_sides : v.hold.load ≡ load → (other : ℕ) (w : View) → IsPrefix v.hold.now.seen (longer v.hold.now.seen w.hold.now.seen) → IsPrefix w.hold.now.seen (longer v.hold.now.seen w.hold.now.seen) → other ≢ id → get_elem? (set views id (joined v w)) other ≡ some w → Sides load round log words (set (set views id (joined v w)) other spent)
  join_sides right_load other w left right apart there = let j : View = joined v w in let vs : List View = set views id j in let a = map-set notes_of views id j in let c = map-set naming_of views id j in let d = map-set finding_of views id j in let p = map-set placed_of views id j in
      let more : (y : ℕ) → placed_by y (map placed_of views) ≤ placed_by y (map placed_of (set vs other spent)) = (λ y. (let e = ap (placed_by y) (map-set placed_of vs other spent ∙ ap (λ l. set l other []) p) in
      omega (
        arith,
        has_append place y v.names.placed w.names.placed,
        total_set (λ (q : List Position). has place y q) (map placed_of views) id (placed_of v) (placed_of j) (at_map placed_of views id v at),
        total_set (λ (q : List Position). has place y q) (set (map placed_of views) id (placed_of j)) other (placed_of w) [] (subst (λ l. get_elem? l other ≡ some (placed_of w)) p (at_map placed_of vs other w there)),
      ))) in let q : map pinning_of vs ≡ set (map pinning_of views) id ((v.hold.now.duties ++ w.hold.now.duties, pins_of_both load v.hold.now.duties v.pins.now w.pins.now 64), (v.hold.now.duties, v.pins.now), (w.hold.now.duties, w.pins.now)) =
      map-set pinning_of views id j ∙ ap (λ (l : Workload). set (map pinning_of views) id ((v.hold.now.duties ++ w.hold.now.duties, pins_of_both l v.hold.now.duties v.pins.now w.pins.now 64), (v.hold.now.duties, v.pins.now), (w.hold.now.duties, w.pins.now))) right_load in record {
        tied = subst (AllTied load) (sym (map-set held_by vs other spent ∙ ap (λ l. set l other []) (map-set held_by views id j)))
            (ties.set_tied load (set (map held_by views) id (held_by j)) (ties.set_tied load (map held_by views) r.tied id (held_by j) (ties.both_tied load (held_by v) (held_by w) (r.tied id (held_by v) (at_map held_by views id v at)) (r.tied other (held_by w) (sym (set_else (map held_by views) id other (held_by j) apart) ∙ subst (λ l. get_elem? l other ≡ some (held_by w)) (map-set held_by views id j) (at_map held_by vs other w there))))) other [] (ties.none_tied load [] (λ x. refl)));
        pinned = subst (Pinned load) (sym (map-set pinning_of vs other spent ∙ ap (λ l. set l other (([], []), ([], []), ([], []))) q))
            (pins.joins load (map pinning_of views) r.pinned id (pinning_of v) (at_map pinning_of views id v at) other (pinning_of w) apart (subst (λ l. get_elem? l other ≡ some (pinning_of w)) q (at_map pinning_of vs other w there)));
        marked = marks.moves round words (map placed_of views) r.marked words (map placed_of (set vs other spent)) (λ u le. refl) more;
        paired = moved words (set vs other spent) (λ u le. refl) more (subst (EachNote Fact) (sym (map-set notes_of vs other spent ∙ ap (λ l. set l other []) a))
            (each_join Fact (map notes_of views) r.paired.each id (notes_of v) (at_map notes_of views id v at) other (notes_of w) apart (subst (λ l. get_elem? l other ≡ some (notes_of w)) a (at_map notes_of vs other w there))));
        found = subst (Worded log words) (sym (map-set finding_of vs other spent ∙ ap (λ l. set l other ([], [])) d))
            (finds.joins log words (map finding_of views) r.found id (finding_of v) (at_map finding_of views id v at) other (finding_of w) apart (subst (λ l. get_elem? l other ≡ some (finding_of w)) d (at_map finding_of vs other w there)));
        noted = subst (Noted log) (sym (map-set notes_of vs other spent ∙ ap (λ l. set l other []) a))
            (each_join (IsTrue log) (map notes_of views) r.noted id (notes_of v) (at_map notes_of views id v at) other (notes_of w) apart (subst (λ l. get_elem? l other ≡ some (notes_of w)) a (at_map notes_of vs other w there)));
        named = subst (Named log) (sym (map-set naming_of vs other spent ∙ ap (λ l. set l other ([], [], names [] [])) c))
            (places.joins log (map naming_of views) r.named id (naming_of v) (at_map naming_of views id v at) other (naming_of w) (longer v.hold.now.seen w.hold.now.seen) left right apart (subst (λ l. get_elem? l other ≡ some (naming_of w)) c (at_map naming_of vs other w there)));
      }

  all_true : (j : ℕ) (x : Finding) → get_elem? (map finding_of views) j ≡ some x → AllTrue log x.1
  all_true j x e = let u = at_unmap finding_of views j x e in subst (λ (z : Finding). AllTrue log z.1) u.2 (r.noted j (notes_of u.0) (at_map notes_of views j u.0 u.1))

  -- who alone has the duty for a word raises it, and notes what it is, with more that is true
  pub write_sides : (w x new : ℕ) (extra : List Note) → 2 ≤ w → w < length words → 0 < has number (guard w) v.hold.now.duties → ((j : ℕ) (y : Finding) → j ≢ id → get_elem? (map finding_of views) j ≡ some y → has number (guard w) y.0 ≡ 0)
      → new ≡ max (get_or words w 0) x → (130 ≤ w → 0 < get_or words w 0 → new ≡ get_or words w 0) → (130 ≤ w → new ≡ x) → IsTrue log (Found w x) → ((d j : ℕ) → j < 16 → w ≡ epoch_word d j → IsLater (has datacentre d (stamped log)) new × ((k : ℕ) → k < j → 0 < get_or words (epoch_word d k) 0))
      → AllTrue log extra → AllStand (set words w new) extra → Marked round (set words w new) (map placed_of views)
      → (let ns : List (List Note) = set (map notes_of views) id (extra ++ Found w x ∷ v.notes) in EachNote Fact ns → Paired load.dcs round (set words w new) (map placed_of views) ns) → AllNotes Fact (extra ++ Found w x ∷ [])
      → Sides load round log (set words w new) (set views id (with_notes v (extra ++ Found w x ∷ v.notes)))
  write_sides w x new extra from inside duty alone is keep whole t order too stand marked paired agree =
      let u : View = with_notes v (extra ++ Found w x ∷ v.notes) in let words' : List ℕ = set words w new in let xs : List Finding = map finding_of views in let y : Finding = (v.hold.now.duties, Found w x ∷ v.notes) in
      let all : extra ++ Found w x ∷ v.notes ≡ (extra ++ Found w x ∷ []) ++ v.notes = sym (append_assoc extra (Found w x ∷ []) v.notes) in
      let here = at_map finding_of views id v at in
      let first : Worded log words' (set xs id y) = finds.writes log words xs r.found id (finding_of v) here w x new from inside duty alone is keep whole t all_true order in
      let more : Worded log words' (set (set xs id y) id (y.0, extra ++ y.1)) = finds.adds log words' (set xs id y) first id y (set_at xs id (finding_of v) y here) extra stand in
      let placed : map placed_of (set views id u) ≡ map placed_of views = same_map placed_of views id v u at refl in
      let each = more_notes u (extra ++ Found w x ∷ []) all agree in let notes_are = map-set notes_of views id u in record {
        tied = tied_by u refl;
        pinned = pinned_by u (λ _ t. t);
        marked = subst (Marked round words') (sym placed) marked;
        found = subst (Worded log words') (sym (map-set finding_of views id u ∙ sym (set_over xs id y (y.0, extra ++ y.1)))) more;
        noted = subst (Noted log) (sym (notes_are ∙ ap (set (map notes_of views) id) all)) (each_more (IsTrue log) (map notes_of views) r.noted id (notes_of v) (at_map notes_of views id v at) (extra ++ Found w x ∷ []) (all_append (IsTrue log) extra (Found w x ∷ []) too (t, tt)));
        named = subst (Named log) (sym (same_map naming_of views id v u at refl)) r.named;
        paired = subst (λ (z : List (List Position) × List (List Note)). Paired load.dcs round words' z.0 z.1) (λ i. (sym placed i, sym notes_are i)) (paired (subst (EachNote Fact) notes_are each));
      }
