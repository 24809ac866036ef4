-- Each kind of step keeps the whole rule.
use Rattle.std.proofs.Common.{◌+◌, ◌*◌, ◌-◌, ◌/◌, ◌%◌, ◌^◌, ◌⊎◌, Bool, true, false, cond, inl, inr, ⊎_elim, ◌≡◌, ◌≢◌, ℕ, eqb, replicate, max, zero, suc, ◌<◌, ◌≤◌, List, [], ◌∷◌, ◌++◌, map, length, get_or, set, refl, ap, sym, ◌∙◌, subst, arith, le_refl, Some, None, Option, length-set, get_or-set_other, get_or-set_same}
use mathlib.Core.Option.{some, none, some-injective, some-ne-none}
use mathlib.Core.List.{IsPrefix, map-append}
use lib.ListN.{get_elem?, length-replicate}
use lib.Seq.{map-set, set-get_or}
use prog.Atomic.{either}
use Rattle.atomic_table.specs.Table.{State, Me, step, Act, keeps, takes, gives, stepped, carried_after, Valid, Allows, Splits, Joins, opening, Final, Seen}
use Rattle.atomic_table.proofs.Lists.{set_again, set_else, at_map, exchanged}
use Rattle.abstract_log.specs.declared.command.Workload.{Workload}
use Rattle.abstract_log.specs.declared.event.Event.{Event}
use Rattle.abstract_log.specs.Shapes.{FitsWorkload}
use Rattle.abstract_log.specs.Runs.{IsRun, world_of}
use Rattle.journal_lock.specs.declared.duty.Duty.{Duty}
use Rattle.journal_lock.specs.declared.duty.Position.{Position}
use Rattle.journal_lock.specs.declared.law.Stage.TheVariants.{Idle, Out, Back}
use Rattle.journal_lock.specs.declared.law.Hold.{Hold}
use Rattle.journal_lock.specs.declared.law.Note.TheVariants.{Met, Found, Told}
use Rattle.journal_lock.specs.declared.law.View.{View}
use Rattle.journal_lock.specs.Duties.{Among, HasDuty, all_duties, datacentre, has, is_inside, minus, number, often, place, stamped}
use Rattle.journal_lock.specs.Law.{Book, total, lives, Homes, Locked, hold_of, At, Sat, spent, kept, given, joined, names, counted, learnt, staged, Counts, Frees}
use Rattle.journal_lock.specs.Takes.{Takes, Learns}
use Rattle.journal_lock.specs.Start.{first_word, fresh}
use Rattle.journal_lock.specs.declared.law.Plan.{Plan}
use Rattle.journal_lock.specs.declared.law.Note.{Note}
use Rattle.journal_lock.specs.Notes.{AllNotes, IsTrue, AllTrue, notes_of, with_notes, noted}
use Rattle.journal_lock.specs.Words.{mark_word, epoch_word, dc_of, guard, code}
use Rattle.journal_lock.specs.Finds.{best, IsLater, Finding, FitsWords, Stands, AllStand, Looks, Reads, Writes, finding_of, reads, read_notes}
use Rattle.journal_lock.specs.Marks.{MayRise, placed_by, placed_of, epoch_of}
use Rattle.journal_lock.specs.Heads.{HeadsStand, IsPlaced, Reaches, Agrees, Tells, Sees, Raises, is_end, pair_of, known_list, known_marks, settled, tell_notes, told, risen_notes}
use Rattle.journal_lock.specs.declared.duty.Duty.TheVariants.{Token, Maintainer}
use Rattle.journal_lock.specs.Joins.{AreTold, TwoPairs}
use Rattle.journal_lock.specs.declared.law.SessionPin.{SessionPin}
use Rattle.journal_lock.specs.Pins.{MayPin, Pinning, PinsAgree, pinning_of}
use Rattle.journal_lock.proofs.Pinnings.{plain_pins}
use Rattle.journal_lock.specs.Ties.{IsTied, held_by}
use Rattle.journal_lock.specs.Names.{IsNamed, NamesByDuty, Naming, named, naming_of, amended, Amends, Meets}
use Rattle.journal_lock.specs.Rule.{Sides, Keeps}
use Rattle.journal_lock.proofs.Lists.{prefix_self, prefix_length, total_one, stamped_known}
use Rattle.journal_lock.proofs.Notices.{true_longer, read_true}
use Rattle.journal_lock.proofs.Stamps.{stamped_inside, stamped_length, stamped_once}
use Rattle.journal_lock.proofs.EachNotes.{all_append}
use Rattle.journal_lock.proofs.Starts.{has_place, start_sides}
use Rattle.journal_lock.proofs.Spans.{marks_length, list_same, epochs_some, epochs_none}
use Rattle.journal_lock.proofs.Settled as heads
use Rattle.journal_lock.proofs.Settled.{list_at, known_at, known_true, known_settles, known_whole, single_told, single_reached, single_stands, heads_join, head_placed, read_best, read_agrees, end_is}
use Rattle.std.specs.List.{All}
use Rattle.std.proofs.lemmas.Bool.Decides.{nat_tests}
use mathlib.Core.Logic.{dite}
use native.Mathlib.Decide.{ℕ_discrete}
use Rattle.flstore_rounds.specs.declared.epochs.Epoch.{Epoch}
use Rattle.flstore_rounds.specs.Epochs.{EpochList, IsEpochList, owner, last_epoch, with_epoch}
use Rattle.flstore_rounds.specs.Heads.{IsTruePair, head, single}
use Rattle.flstore_rounds.proofs.EpochLemmas.{epoch_list_more}
use Rattle.abstract_log.specs.Worlds.{log_of}
use Rattle.journal_lock.proofs.Locks as locks
use Rattle.journal_lock.proofs.Sides.{same_map, keep_sides, count_sides, amend_sides, split_sides, join_sides, write_sides, notes_sides, at_unmap}
use Rattle.journal_lock.proofs.Finds.{best_low, best_same, best_append, read_stand, guard_mark, guard_epoch, one_dc}
use Rattle.journal_lock.proofs.Marks as marks
use Rattle.journal_lock.proofs.Marks.{risen}

-- no position is placed more often than it is named
placed_named : (x : ℕ) (views : List View) → placed_by x (map placed_of views) ≤ total (λ (y : Naming). named x y.2) (map naming_of views)
placed_named x [] = omega arith
placed_named x (v ∷ views) = omega (arith, placed_named x views)

by_bool : (P : Bool → Type 0) (b : Bool) → (b ≡ true → P true) → (b ≡ false → P false) → P b
by_bool P true yes_case no_case = yes_case refl
by_bool P false yes_case no_case = no_case refl

inside_low : (n p : ℕ) → 0 < is_inside n p → p ≤ n
inside_low n p more = grind (arith, nat_tests)

-- a rule put together: the words, the slot and what the views hold
pub made : (load : Workload) (round : ℕ) → FitsWorkload load → (log : List Event) (words : List ℕ) (homes : Homes) (views : List View) (t c : ℕ) (hs : List Hold) → length words ≡ 258 → get_or words 0 0 ≡ t → get_or words 1 0 ≡ c → map hold_of views ≡ hs
    → Locked load log t c homes hs → Sides load round log words views → Keeps load round record { words = words; homes = homes; views = views }
made load round fits log words homes views t c hs wide turn count same r sides = record {
  fits = fits;
  log = log;
  wide = wide;
  lock = subst (λ (z : ℕ × ℕ × List Hold). Locked load log z.0 z.1 homes z.2) (λ i. (sym turn i, sym count i, sym same i)) r;
  sides = sides;
}

pub first_state : (plan : Plan) → FitsWorkload plan.workload → length plan.maintainers ≡ plan.workload.dcs → All (λ n. (1 ≤ n) × (n ≤ 16)) plan.maintainers → 1 ≤ plan.round → plan.round ≤ 1024 → (words : List ℕ) → length words ≡ 258
    → ((w : ℕ) → w < 258 → get_or words w 0 ≡ first_word plan.maintainers w) → (w : Book) → ((x : ℕ) → has number x (all_duties plan.workload) ≤ 1) → w.log ≡ [] → IsRun plan.workload [] → Keeps plan.workload plan.round (opening words (Some w ∷ []) (fresh plan))
first_state plan fits long members from to words wide is w single empty run =
    let load : Workload = plan.workload in
    made load plan.round fits [] words (some (Some w) ∷ []) (fresh plan ∷ []) 0 0 ((fresh plan).hold ∷ []) wide (is 0 (omega arith)) (is 1 (omega arith)) refl (locks.starts load w single empty run)
    (start_sides load plan.round plan.maintainers fits long members from to words wide is)

abbrev pub book_in : Book → Option Book → Book
book_in d (Some b) = b
book_in d None = d

abbrev pub book_at : Book → List (ℕ × Option Book) → Book
book_at d [] = d
book_at d (x ∷ xs) = book_in d x.1

module _ (load : Workload) (round : ℕ) (slots id : ℕ) (m : Sat) where
  abbrev pub Rule : At → Type 0
  Rule = Keeps load round

  -- a position that is placed is one of its log
  placed_low : (s : At) (r : Rule s) (d p : ℕ) → d < 8 → IsPlaced (map placed_of s.views) d p → p ≤ has datacentre d (stamped r.log)
  placed_low s r d p small placed =
      let x : ℕ = 8 * p + d in let n : ℕ = length (log_of (world_of load r.log) d) in
      let inside : 0 < is_inside n p = omega (arith, placed_named x s.views, r.sides.named.once x, stamped_inside load r.log r.fits r.lock.run d p small) in
      omega (arith, inside_low n p inside, stamped_length load r.log r.fits r.lock.run d)

  -- the log reaches each head that the seat was told
  heads_stand : (s : At) (r : Rule s) → get_elem? s.views id ≡ some m.0 → HeadsStand round m.0.notes r.log
  heads_stand s r at d small = dite (ℕ_discrete (head (settled round d m.0.notes)) 0) (λ none. omega arith)
      (λ more. placed_low s r d (head (settled round d m.0.notes)) small
      (head_placed round s.words (IsPlaced (map placed_of s.views)) d m.0.notes (r.sides.paired.each id m.0.notes (at_map notes_of s.views id m.0 at)) (head (settled round d m.0.notes)) (omega arith) (omega arith)))

  pub take_step : m.0.hold.stage ≡ Idle → HasDuty m.0.hold.now.duties → Allows Rule slots id m 0 (λ x. either (eqb x 0) 1 x) (Takes load round (step slots 0 0 1 none) m)
  take_step is duty s r len at small = let x : ℕ = get_or s.words 0 0 in let hs : List Hold = map hold_of s.views in let here = at_map hold_of s.views id m.0 at in let wide = r.wide in
      let there : lives m.0.hold.stage ≡ 1 = ap lives is in
      exchanged x 0 1 (λ z. (w : View) × (a : Act (Option Book)) × Valid s.homes m.1 a × Rule (stepped s 0 z id m.1 w a) × Takes load round (step slots 0 0 1 none) m x (w, carried_after m.1 a))
      (λ hit. let home = locks.at_home load r.log x (get_or s.words 1 0) s.homes hs r.lock id m.0.hold here hit in let b : Book = home.0 in
      let w : View = staged m.0 r.log Out in
      let right : m.0.hold.load ≡ load = locks.right_load load r.log x (get_or s.words 1 0) s.homes hs r.lock id m.0.hold here (omega arith) in (
        w,
        takes 0 (Some b),
        home.2,
        made load round r.fits r.log (set s.words 0 1) (set s.homes 0 none) (set s.views id w) 1 (get_or s.words 1 0) (set hs id w.hold) (length-set s.words 0 1 ∙ r.wide) (get_or-set_same s.words 0 1 0 (omega arith))
            (get_or-set_other s.words 0 1 1 0 (λ e. omega arith)) (map-set hold_of s.views id w) (locks.takes load r.log x (get_or s.words 1 0) s.homes hs r.lock id m.0.hold here hit is duty)
            (keep_sides load round r.log s.words s.views r.sides id m.0 at 0 1 (omega arith) w (r.lock.each id m.0.hold here).now.begins refl (λ known t. plain_pins load known (pinning_of m.0) t)),
        (
          (λ _. (
            b,
            right,
            subst (IsRun load) (sym home.1) r.lock.run,
            (subst (λ (l : List Event). IsPrefix m.0.hold.now.seen l) (sym home.1) (r.lock.each id m.0.hold here).now.begins, (λ y p. ap (often y) home.1 ∙ (r.lock.each id m.0.hold here).now.complete y p)),
            subst (λ (l : List Event). AllTrue l m.0.notes) (sym home.1) (r.sides.noted id m.0.notes (at_map notes_of s.views id m.0 at)),
            subst (HeadsStand round m.0.notes) (sym home.1) (heads_stand s r at),
            ap (λ (l : List Event). staged m.0 l Out) (sym home.1),
            refl,
          )),
          λ ne. absurd (ne hit),
        ),
      ))
      (λ miss. (
        m.0,
        keeps,
        tt,
        made load round r.fits r.log (set s.words 0 x) s.homes (set s.views id m.0) x (get_or s.words 1 0) hs (length-set s.words 0 x ∙ r.wide) (get_or-set_same s.words 0 x 0 (omega arith))
            (get_or-set_other s.words 0 1 x 0 (λ e. omega arith)) (same_map hold_of s.views id m.0 m.0 at refl) r.lock
            (keep_sides load round r.log s.words s.views r.sides id m.0 at 0 x (omega arith) m.0 (prefix_self m.0.hold.now.seen) refl (λ _ t. t)),
        ((λ hit. absurd (miss hit)), λ _. refl),
      ))

  pub count_step : (w : Book) (new : ℕ) → m.0.hold.stage ≡ Out → m.1 ≡ (0, Some w) ∷ [] → IsRun m.0.hold.load w.log → IsPrefix m.0.hold.now.seen w.log → ((x : ℕ) → has number x m.0.hold.now.duties ≡ 0 → often x w.log ≡ often x m.0.hold.now.seen)
      → new ≡ length w.log → 0 < slots → Allows Rule slots id m 1 (λ _. new) (λ _. Counts (step slots 1 new 0 none) m new)
  count_step w new is carries run grown own count some_slot s r len at small = let hs : List Hold = map hold_of s.views in let here = at_map hold_of s.views id m.0 at in let wide = r.wide in let v : View = counted m.0 w.log in
      let there : lives m.0.hold.stage ≡ 1 = ap lives is in
      let saw = locks.holder_saw load r.log (get_or s.words 0 0) (get_or s.words 1 0) s.homes hs r.lock id m.0.hold here is in
      let right = locks.right_load load r.log (get_or s.words 0 0) (get_or s.words 1 0) s.homes hs r.lock id m.0.hold here (omega arith) in (
        v,
        gives,
        tt,
        subst (λ (c : List (ℕ × Option Book)). Rule (stepped s 1 new id c v gives)) (sym carries)
            (made load round r.fits w.log (set s.words 1 new) (set s.homes 0 (some (Some w))) (set s.views id v) (get_or s.words 0 0) (length w.log) (set hs id v.hold) (length-set s.words 1 new ∙ r.wide)
            (get_or-set_other s.words 1 0 new 0 (λ e. omega arith)) (get_or-set_same s.words 1 new 0 (omega arith) ∙ count) (map-set hold_of s.views id v)
            (locks.counts load r.log (get_or s.words 0 0) (get_or s.words 1 0) s.homes hs r.lock id m.0.hold here is w (subst (λ (l : Workload). IsRun l w.log) right run) grown own (omega arith))
            (count_sides load round r.log s.words s.views r.sides id m.0 at w.log (subst (λ (l : List Event). IsPrefix l w.log) saw grown) saw (locks.holder_duty load r.log (get_or s.words 0 0) (get_or s.words 1 0) s.homes hs r.lock id m.0.hold here is) (stamped_once load w.log r.fits (subst (λ (l : Workload). IsRun l w.log) right run)) 1 new (omega arith))),
        λ u carries'. (let same : w ≡ u = ap (book_at w) (sym carries ∙ carries') in (ap (λ (b : Book). counted m.0 b.log) same, ap Rattle.atomic_table.specs.Table.rest carries)),
      )

  pub free_step : m.0.hold.stage ≡ Back → Allows Rule slots id m 0 (λ _. 0) (λ _. Frees (step slots 0 0 0 none) m 0)
  free_step is s r len at small = let hs : List Hold = map hold_of s.views in let here = at_map hold_of s.views id m.0 at in let wide = r.wide in let v : View = staged m.0 m.0.hold.now.seen Idle in (
    v,
    keeps,
    tt,
    made load round r.fits r.log (set s.words 0 0) s.homes (set s.views id v) 0 (get_or s.words 1 0) (set hs id v.hold) (length-set s.words 0 0 ∙ r.wide) (get_or-set_same s.words 0 0 0 (omega arith))
        (get_or-set_other s.words 0 1 0 0 (λ e. omega arith)) (map-set hold_of s.views id v) (locks.frees load r.log (get_or s.words 0 0) (get_or s.words 1 0) s.homes hs r.lock id m.0.hold here is)
        (keep_sides load round r.log s.words s.views r.sides id m.0 at 0 0 (omega arith) v (prefix_self m.0.hold.now.seen) refl (λ known t. plain_pins load known (pinning_of m.0) t)),
    (refl, refl),
  )

  -- a look at the count, after which the seat has another view
  look : (s : At) (r : Rule s) → get_elem? s.views id ≡ some m.0 → (w : View) → Locked load r.log (get_or s.words 0 0) (get_or s.words 1 0) s.homes (set (map hold_of s.views) id w.hold) → Sides load round r.log (set s.words 1 (get_or s.words 1 0)) (set s.views id w) → Rule (stepped s 1 (get_or s.words 1 0) id m.1 w keeps)
  look s r at w lock sides = let wide = r.wide in let x : ℕ = get_or s.words 1 0 in
      made load round r.fits r.log (set s.words 1 x) s.homes (set s.views id w) (get_or s.words 0 0) x (set (map hold_of s.views) id w.hold) (length-set s.words 1 x ∙ r.wide) (get_or-set_other s.words 1 0 x 0 (λ e. omega arith))
      (get_or-set_same s.words 1 x 0 (omega arith)) (map-set hold_of s.views id w) lock sides

  -- the same where what it holds stays
  look_on : (s : At) (r : Rule s) → get_elem? s.views id ≡ some m.0 → (w : View) → w.hold ≡ m.0.hold → Sides load round r.log s.words (set s.views id w) → Rule (stepped s 1 (get_or s.words 1 0) id m.1 w keeps)
  look_on s r at w same sides = look s r at w
      (subst (Locked load r.log (get_or s.words 0 0) (get_or s.words 1 0) s.homes) (sym (ap (set (map hold_of s.views) id) same ∙ set_again (map hold_of s.views) id m.0.hold (at_map hold_of s.views id m.0 at))) r.lock)
      (subst (λ (l : List ℕ). Sides load round r.log l (set s.views id w)) (sym (set-get_or s.words 1 0)) sides)

  -- the seat names what it has seen
  names_seen : (s : At) (r : Rule s) → get_elem? s.views id ≡ some m.0 → IsNamed m.0.hold.now.seen m.0.names
  names_seen s r at = (r.sides.named.each id (naming_of m.0) (at_map naming_of s.views id m.0 at)).stamped

  -- the two passes that the seat was know the same pins
  pins_agree : (s : At) (r : Rule s) → get_elem? s.views id ≡ some m.0 → PinsAgree load (m.0.hold.left.duties, m.0.pins.left) (m.0.hold.right.duties, m.0.pins.right)
  pins_agree s r at n low a b = let f = r.sides.pinned.each id (pinning_of m.0) (at_map pinning_of s.views id m.0 at) in f.left n low a ∙ sym (f.right n low b)

  pub learn_step : Allows Rule slots id m 1 (λ x. x) (Learns load round (step slots 1 0 0 none) m)
  learn_step s r len at small = let hs : List Hold = map hold_of s.views in let here = at_map hold_of s.views id m.0 at in let v : View = learnt m.0 in let f = r.lock.each id m.0.hold here in (
    v,
    keeps,
    tt,
    look s r at v (locks.forgets load r.log (get_or s.words 0 0) (get_or s.words 1 0) s.homes hs r.lock id m.0.hold here) (keep_sides load round r.log s.words s.views r.sides id m.0 at 1 (get_or s.words 1 0) (omega arith) v (prefix_self m.0.hold.now.seen) refl (λ known t. plain_pins load known (pinning_of m.0) t)),
    (locks.within r.log m.0.hold.left m.0.hold.now f.left f.now f.no_less.0, locks.within r.log m.0.hold.right m.0.hold.now f.right f.now f.no_less.1, names_seen s r at, heads_join round s.words (IsPlaced (map placed_of s.views)) m.0.notes (r.sides.paired.each id m.0.notes (at_map notes_of s.views id m.0 at)), pins_agree s r at, refl),
  )

  pub meet_step : m.0.hold.stage ≡ Idle → Allows Rule slots id m 1 (λ x. x) (Meets (step slots 1 0 0 none) m)
  meet_step is s r len at small = let there : lives m.0.hold.stage ≡ 1 = ap lives is in let right : m.0.hold.load ≡ load = (r.lock.each id m.0.hold (at_map hold_of s.views id m.0 at)).plan (omega arith) in let here = at_map hold_of s.views id m.0 at in let x : ℕ = get_or s.words 1 0 in let count = r.lock.counted in (
    noted m.0 (Met x),
    keeps,
    tt,
    look_on s r at (noted m.0 (Met x)) refl (notes_sides load round r.log s.words s.views r.sides id m.0 at (Met x ∷ []) (omega arith, tt) (tt, tt) (tt, tt)),
    (
      omega (arith, prefix_length m.0.hold.now.seen r.log (r.lock.each id m.0.hold here).now.begins),
      names_seen s r at,
      subst (λ (l : Workload). IsTied l m.0.hold.now.duties) (sym right) (r.sides.tied id m.0.hold.now.duties (at_map held_by s.views id m.0 at)),
      (λ y. omega (arith, r.lock.single y, r.lock.duties y, total_one (λ (h : Hold). has number y h.now.duties) (map hold_of s.views) id m.0.hold here)),
      refl,
    ),
  )

  -- no other view has a duty that the seat has, nor did those that it was
  pins_alone : (s : At) (r : Rule s) → get_elem? s.views id ≡ some m.0 → (j : ℕ) (z : Pinning) → j ≢ id → get_elem? (map pinning_of s.views) j ≡ some z → (y : ℕ) → 0 < has number y m.0.hold.now.duties → (has number y z.0.0 ≡ 0) × (has number y z.1.0 ≡ 0) × (has number y z.2.0 ≡ 0)
  pins_alone s r at j z ne e y duty = let v = at_unmap pinning_of s.views j z e in let there = at_map hold_of s.views j v.0 v.1 in let f = r.lock.each j v.0.hold there in
      let none = locks.alone load r.log (get_or s.words 0 0) (get_or s.words 1 0) s.homes (map hold_of s.views) r.lock id m.0.hold (at_map hold_of s.views id m.0 at) y duty j v.0.hold there ne in
      let gone : (n : ℕ) → (0 < n → 0 < has number y v.0.hold.now.duties) → n ≡ 0 = λ n more. dite (ℕ_discrete n 0) (λ is. is) (λ some_duty. absurd (omega (arith, more (omega arith)))) in
      subst (λ (q : Pinning). (has number y q.0.0 ≡ 0) × (has number y q.1.0 ≡ 0) × (has number y q.2.0 ≡ 0)) v.2
      (none, gone (has number y v.0.hold.left.duties) (f.parts.0 y), gone (has number y v.0.hold.right.duties) (f.parts.1 y))

  -- names at hand are placed, lengths noted, pairs as one, and pins set
  pub amend_step : m.0.hold.stage ≡ Idle → (ps : List Position) (ds : List ℕ) (twos : List TwoPairs) (changes : List SessionPin) → Among place ps m.0.names.hand → AreTold twos m.0.notes → MayPin m.0.hold.load m.0.hold.now.duties changes → Allows Rule slots id m 1 (λ x. x) (Amends ps ds twos changes (step slots 1 0 0 none) m)
  amend_step is ps ds twos changes among told may s r len at small = let here = at_map hold_of s.views id m.0 at in let w : View = amended ps ds twos changes m.0 in let there : lives m.0.hold.stage ≡ 1 = ap lives is in
      let right : m.0.hold.load ≡ load = (r.lock.each id m.0.hold here).plan (omega arith) in (
        w,
        keeps,
        tt,
        look_on s r at w refl (amend_sides load round r.log s.words s.views r.sides id m.0 at ps ds twos changes among told (subst (λ (l : Workload). MayPin l m.0.hold.now.duties changes) right may) (pins_alone s r at) (r.lock.each id m.0.hold here).now.begins),
        refl,
      )

  -- nobody else has a duty that this pass has
  alone : (s : At) (r : Rule s) → get_elem? s.views id ≡ some m.0 → (x : ℕ) → 0 < has number x m.0.hold.now.duties → (j : ℕ) (y : Finding) → j ≢ id → get_elem? (map finding_of s.views) j ≡ some y → has number x y.0 ≡ 0
  alone s r at x duty j y ne e = let v = at_unmap finding_of s.views j y e in
      subst (λ (z : Finding). has number x z.0 ≡ 0) v.2 (locks.alone load r.log (get_or s.words 0 0) (get_or s.words 1 0) s.homes (map hold_of s.views) r.lock id m.0.hold (at_map hold_of s.views id m.0 at) x duty j v.0.hold (at_map hold_of s.views j v.0 v.1) ne)

  -- a step on a word of marks or epochs leaves what the views hold
  aside : (s : At) (r : Rule s) (w x : ℕ) (v : View) → 2 ≤ w → get_elem? s.views id ≡ some m.0 → v.hold ≡ m.0.hold → Sides load round r.log (set s.words w x) (set s.views id v) → Rule (stepped s w x id m.1 v keeps)
  aside s r w x v from at same sides = made load round r.fits r.log (set s.words w x) s.homes (set s.views id v) (get_or s.words 0 0) (get_or s.words 1 0) (map hold_of s.views) (length-set s.words w x ∙ r.wide)
      (get_or-set_other s.words w 0 x 0 (λ e. omega arith)) (get_or-set_other s.words w 1 x 0 (λ e. omega arith)) (same_map hold_of s.views id m.0 v at same) r.lock sides

  -- a mark or an epoch is loaded
  pub look_step : (w : ℕ) → 2 ≤ w → Allows Rule slots id m w (λ x. x) (Looks (step slots w 0 0 none) m)
  look_step w from s r len at small =
      let x : ℕ = get_or s.words w 0 in let v : View = noted m.0 (Found w x) in let f = r.sides.found.each id (finding_of m.0) (at_map finding_of s.views id m.0 at) in
      let t : IsTrue r.log (Found w x) = λ d k a b e. (let low = r.sides.found.low d k a b in let same = ap (λ i. get_or s.words i 0) e in omega arith) in
      let reached : Agrees round s.words (IsPlaced (map placed_of s.views)) (Found w x) = λ d k a b e. subst (λ i. Reaches (list_at round s.words d) (IsPlaced (map placed_of s.views) d) k (get_or s.words i 0)) (sym e) (r.sides.paired.reached d k a b) in (
        v,
        keeps,
        tt,
        aside s r w x v from at refl (subst (λ (l : List ℕ). Sides load round r.log l (set s.views id v)) (sym (set-get_or s.words w 0)) (notes_sides load round r.log s.words s.views r.sides id m.0 at (Found w x ∷ []) (t, tt) ((from, le_refl x, λ high more. refl), tt) (reached, tt))),
        (best_low s.words w m.0.notes f.stand, (λ high more. best_same s.words w m.0.notes high f.stand more), (λ duty. f.own w from duty), refl),
      )

  -- what a look at the word of an epoch leaves
  module _ (s : At) (r : Rule s) (at : get_elem? s.views id ≡ some m.0) (w : ℕ) (high : 130 ≤ w) (low : w < 258) where
    abbrev value : ℕ
    value = get_or s.words w 0

    abbrev read : List Note
    read = read_notes w (has datacentre (dc_of w) (stamped m.0.hold.now.seen)) value

    abbrev Fact : Note → Type 0
    Fact = Agrees round s.words (IsPlaced (map placed_of s.views))

    fits : FitsWords s.words (finding_of m.0)
    fits = r.sides.found.each id (finding_of m.0) (at_map finding_of s.views id m.0 at)

    is_true : AllTrue r.log read
    is_true = read_true m.0.hold.now.seen r.log (r.lock.each id m.0.hold (at_map hold_of s.views id m.0 at)).now.begins w high value

    stands : AllStand s.words read
    stands = read_stand r.log s.words (map finding_of s.views) r.sides.found id (finding_of m.0) (at_map finding_of s.views id m.0 at) w (has datacentre (dc_of w) (stamped m.0.hold.now.seen)) value (omega arith) low refl

    agrees : AllNotes Fact read
    agrees = read_agrees round s.words (IsPlaced (map placed_of s.views)) w (has datacentre (dc_of w) (stamped m.0.hold.now.seen)) value high

    -- the seat has these notes, and true ones before them
    noting : (extra : List Note) → AllTrue r.log extra → AllStand s.words extra → AllNotes Fact extra → Rule (stepped s w value id m.1 (with_notes m.0 ((extra ++ read) ++ m.0.notes)) keeps)
    noting extra t u a = aside s r w value (with_notes m.0 ((extra ++ read) ++ m.0.notes)) (omega arith) at refl
        (subst (λ (l : List ℕ). Sides load round r.log l (set s.views id (with_notes m.0 ((extra ++ read) ++ m.0.notes)))) (sym (set-get_or s.words w 0))
        (notes_sides load round r.log s.words s.views r.sides id m.0 at (extra ++ read) (all_append (IsTrue r.log) extra read t is_true) (all_append (Stands s.words) extra read u stands) (all_append Fact extra read a agrees)))

  -- an epoch is loaded, or none is found
  pub read_step : (w : ℕ) → 130 ≤ w → w < 258 → Allows Rule slots id m w (λ x. x) (Reads (step slots w 0 0 none) m)
  read_step w high low s r len at small = let f = fits s r at w high low in (
    reads m.0 (read s r at w high low),
    keeps,
    tt,
    noting s r at w high low [] tt tt tt,
    ((λ _ more. best_same s.words w m.0.notes high f.stand more), (λ duty. f.own w (omega arith) duty), refl),
  )

  -- an epoch is loaded, or none is found; where the list ends there, it is told
  pub tell_step : (w k : ℕ) → dc_of w < 8 → k < 16 → w ≡ epoch_word (dc_of w) k → ((j : ℕ) → j < k → 0 < best (epoch_word (dc_of w) j) m.0.notes) → Allows Rule slots id m w (λ x. x) (Tells load round (step slots w 0 0 none) m)
  tell_step w k small few is before s r len at some_words =
      let high : 130 ≤ w = omega arith in let low : w < 258 = omega arith in let f = fits s r at w high low in let x : ℕ = get_or s.words w 0 in let d : ℕ = dc_of w in
      let new : List Note = read s r at w high low in let mid : List Note = new ++ m.0.notes in let P : ℕ → ℕ → Type 0 = IsPlaced (map placed_of s.views) in
      let u : AllStand s.words mid = all_append (Stands s.words) new m.0.notes (stands s r at w high low) f.stand in
      let a : AllNotes (Agrees round s.words P) mid = all_append (Agrees round s.words P) new m.0.notes (agrees s r at w high low) (r.sides.paired.each id m.0.notes (at_map notes_of s.views id m.0 at)) in
      let known : (j : ℕ) → j ≤ k → get_or s.words (epoch_word d j) 0 ≤ best (epoch_word d j) mid = λ j le. dite (ℕ_discrete j k)
      (λ e. (let q : epoch_word d j ≡ w = ap (epoch_word d) e ∙ sym is in subst (λ i. get_or s.words i 0 ≤ best i mid) (sym q) (omega (arith, best_append w new m.0.notes, read_best w (has datacentre d (stamped m.0.hold.now.seen)) x))))
      (λ ne. (let b = before j (omega arith) in let e = best_same s.words (epoch_word d j) m.0.notes (omega arith) f.stand b in omega (arith, best_append (epoch_word d j) new m.0.notes))) in
      let whole : is_end w x ≡ true → known_list round d mid ≡ list_at round s.words d = λ end. known_whole round d k s.words mid u known
      (λ j gt lt. (let h = end_is w x end in ⊎_elim (λ (z : x ≡ 0). r.sides.found.rows d k j small (omega arith) lt (ap (λ i. get_or s.words i 0) (sym is) ∙ z)) (λ (last : (w - 130) % 16 ≡ 15). absurd (omega arith)) h)) in
      let filled : (n p : ℕ) → n < 16 → 1 ≤ p → p < get_or s.words (mark_word d n) 0 → owner (list_at round s.words d) p ≡ n → P d p = λ n p lt first below mine. r.sides.marked.filled d n p small lt first below mine in
      let told_stands : Stands s.words (Told d (known_list round d mid) (known_marks d mid)) =
      (omega (arith, marks_length (λ i. best i mid) (mark_word d 0) 16), small, λ n lt. (let b = best_low s.words (mark_word d n) mid u in omega (arith, known_at d mid n lt))) in
      let told_agrees : is_end w x ≡ true → IsTruePair (list_at round s.words d) (P d) (pair_of (known_list round d mid) (known_marks d mid)) = λ end. known_true round s.words P d small mid u a filled (whole end) in
      let state : Rule (stepped s w x id m.1 (with_notes m.0 (tell_notes round w (has datacentre d (stamped m.0.hold.now.seen)) x m.0.notes)) keeps) = by_bool (λ b. Rule (stepped s w x id m.1 (with_notes m.0 (cond b (told round d mid) mid)) keeps)) (is_end w x)
      (λ end. noting s r at w high low (Told d (known_list round d mid) (known_marks d mid) ∷ []) (tt, tt) (told_stands, tt) (told_agrees end, tt)) (λ _. noting s r at w high low [] tt tt tt) in (
        with_notes m.0 (tell_notes round w (has datacentre d (stamped m.0.hold.now.seen)) x m.0.notes),
        keeps,
        tt,
        state,
        (
          (λ _ more. best_same s.words w m.0.notes high f.stand more),
          (λ duty. f.own w (omega arith) duty),
          (λ end. record { settles = known_settles round s.words P d mid u a (whole end); list = λ there. subst IsEpochList (sym (whole end)) (r.sides.paired.lists d there) }),
          refl,
        ),
      )

  -- a duty that the seat has is one that there is
  exists : (s : At) (r : Rule s) → get_elem? s.views id ≡ some m.0 → (x : ℕ) → 0 < has number x m.0.hold.now.duties → 0 < has number x (all_duties load)
  exists s r at x duty = omega (arith, total_one (λ (h : Hold). has number x h.now.duties) (map hold_of s.views) id m.0.hold (at_map hold_of s.views id m.0 at), r.lock.duties x)

  -- who has the token knows the whole list
  own_list : (s : At) (r : Rule s) → get_elem? s.views id ≡ some m.0 → (d : ℕ) → 0 < has number (number (Token d)) m.0.hold.now.duties → known_list round d m.0.notes ≡ list_at round s.words d
  own_list s r at d token = let f = r.sides.found.each id (finding_of m.0) (at_map finding_of s.views id m.0 at) in
      list_same round d (λ w. best w m.0.notes) (λ w. get_or s.words w 0) (λ i le lt. (let k : ℕ = i - epoch_word d 0 in let e : i ≡ epoch_word d k = omega arith in
      sym (f.own i (omega arith) (subst (λ z. 0 < has number z m.0.hold.now.duties) (sym (ap guard e ∙ guard_epoch d k (omega arith))) token))))

  -- the word of an epoch is loaded by who has the token
  pub see_step : (w : ℕ) → 130 ≤ w → w < 258 → Allows Rule slots id m w (λ x. x) (Sees round (step slots w 0 0 none) m)
  see_step w high low s r len at small =
      let x : ℕ = get_or s.words w 0 in let f = r.sides.found.each id (finding_of m.0) (at_map finding_of s.views id m.0 at) in let d : ℕ = dc_of w in let k : ℕ = (w - 130) % 16 in
      let is : w ≡ epoch_word d k = omega arith in (
        m.0,
        keeps,
        tt,
        aside s r w x m.0 (omega arith) at refl (subst (λ (z : List ℕ × List View). Sides load round r.log z.0 z.1) (λ i. (sym (set-get_or s.words w 0) i, sym (set_again s.views id m.0 at) i)) r.sides),
        (
          (λ duty. (let token = subst (λ z. 0 < has number z m.0.hold.now.duties) (ap guard is ∙ guard_epoch d k (omega arith)) duty in (
            f.own w (omega arith) duty,
            subst IsEpochList (sym (own_list s r at d token)) (r.sides.paired.lists d (has_place load d 0 (number (Token d)) (omega arith) (omega arith) (omega arith) (exists s r at (number (Token d)) token))),
            (λ none_here j le lt. (let gone = r.sides.found.rows d k j (omega arith) (omega arith) lt (ap (λ i. get_or s.words i 0) (sym is) ∙ none_here) in
                sym (f.own (epoch_word d j) (omega arith) (subst (λ z. 0 < has number z m.0.hold.now.duties) (sym (guard_epoch d j lt)) token)) ∙ gone)),
          ))),
          refl,
        ),
      )

  -- a mark is raised
  pub raise_step : (d k x : ℕ) → d < 8 → k < 16 → 0 < has number (number (Maintainer d k)) m.0.hold.now.duties → x ≤ has datacentre d (stamped m.0.hold.now.seen) + 1 → MayRise round d k x m.0.notes m.0.names.placed
      → Allows Rule slots id m (mark_word d k) (λ z. max z x) (Raises round (step slots (mark_word d k) x 0 none) m)
  raise_step d k x small few maintains within may s r len at some_words =
      let w : ℕ = mark_word d k in let old : ℕ = get_or s.words w 0 in let wide = r.wide in let seen = (r.lock.each id m.0.hold (at_map hold_of s.views id m.0 at)).now.begins in
      let f = r.sides.found.each id (finding_of m.0) (at_map finding_of s.views id m.0 at) in let here = at_map placed_of s.views id m.0 at in let P : ℕ → Type 0 = IsPlaced (map placed_of s.views) d in
      let duty : 0 < has number (guard w) m.0.hold.now.duties = subst (λ z. 0 < has number z m.0.hold.now.duties) (sym (guard_mark d k small few)) maintains in
      let own : (p : ℕ) → 0 < has place (8 * p + d) m.0.names.placed → P p = λ p h. omega (arith, total_one (λ (q : List Position). has place (8 * p + d) q) (map placed_of s.views) id (placed_of m.0) here) in
      let e : EpochList = known_list round d m.0.notes in let told_is : Note = Told d e (single e k x).marks in
      let pair = single_told round d k x s.words m.0.notes m.0.names.placed P f.stand may (r.sides.paired.lists d (has_place load d (34 + k) (number (Maintainer d k)) (omega arith) small (omega arith) (exists s r at (number (Maintainer d k)) maintains))) own in
      let reached = single_reached round d k x s.words m.0.notes P pair in
      let t : IsTrue m.0.hold.now.seen (Found w x) = λ g j a b is. one_dc d k g j x m.0.hold.now.seen few b is within in
      let each : Agrees round s.words (IsPlaced (map placed_of s.views)) (Found w x) = λ g j a b is. (let g_is : d ≡ g = omega arith in let j_is : k ≡ j = omega arith in
      subst (λ (z : ℕ × ℕ). Reaches (list_at round s.words z.0) (IsPlaced (map placed_of s.views) z.0) z.1 x) (λ i. (g_is i, j_is i)) reached) in
      let words' : List ℕ = set s.words w (max old x) in let risen_is : get_or words' w 0 ≡ max old x = get_or-set_same s.words w (max old x) 0 (omega arith) in (
        with_notes m.0 (risen_notes round d k x m.0.notes),
        keeps,
        tt,
        aside s r w (max old x) (with_notes m.0 (risen_notes round d k x m.0.notes)) (omega arith) at refl
            (write_sides load round r.log s.words s.views r.sides id m.0 at w x (max old x) (told_is ∷ []) (omega arith) (omega arith) duty (alone s r at (guard w) duty) refl (λ high. absurd (omega arith)) (λ high. absurd (omega arith))
            (true_longer m.0.hold.now.seen r.log seen (Found w x) t) (λ g j lt z. absurd (omega arith)) (tt, tt) (single_stands e words' d k x small few (omega arith), tt)
            (marks.raises round s.words (map placed_of s.views) r.sides.marked d k x small few w refl (omega arith) (λ p from low mine. own p (risen round d k x m.0.notes m.0.names.placed s.words f.stand may p from low mine)))
            (λ all. heads.raises load.dcs round s.words (map placed_of s.views) (map notes_of s.views) r.sides.paired d k x small few w refl (omega arith) reached (set (map notes_of s.views) id (told_is ∷ Found w x ∷ m.0.notes)) all)
            (pair, (each, tt))),
        (λ g j a b is. (let g_is : d ≡ g = omega arith in let j_is : k ≡ j = omega arith in
            subst (λ (z : ℕ × ℕ). ◌≡◌ {A = Sat} (with_notes m.0 (risen_notes round d k x m.0.notes), m.1) (with_notes m.0 (risen_notes round z.0 z.1 x m.0.notes), m.1)) (λ i. (g_is i, j_is i)) refl)),
      )

  -- an epoch is written, after the last, above it and above all that the log has
  pub epoch_step : (w d : ℕ) (e : Epoch) (x : ℕ) → d < 8 → length (known_list round d m.0.notes).list < 16 → w ≡ epoch_word d (length (known_list round d m.0.notes).list) → x ≡ code (Some e) → 0 < has number (number (Token d)) m.0.hold.now.duties
      → (last_epoch (known_list round d m.0.notes)).start < e.start → (last_epoch (known_list round d m.0.notes)).members < e.members → has datacentre d (stamped m.0.hold.now.seen) < e.start → e.start < 2 ^ 48 → e.members ≤ 16
      → Allows Rule slots id m w (λ _. x) (Writes (step slots w x 0 none) m)
  epoch_step w d e x small few is coded token after more above lid fewer s r len at some_words =
      let f = r.sides.found.each id (finding_of m.0) (at_map finding_of s.views id m.0 at) in let wide = r.wide in let known : EpochList = known_list round d m.0.notes in let k : ℕ = length known.list in
      let g : ℕ → ℕ = λ i. best i m.0.notes in let T : EpochList = list_at round s.words d in
      let whole : known ≡ T = own_list s r at d token in
      let guards : (j : ℕ) → j < 16 → get_or s.words (epoch_word d j) 0 ≡ best (epoch_word d j) m.0.notes = λ j lt. f.own (epoch_word d j) (omega arith) (subst (λ z. 0 < has number z m.0.hold.now.duties) (sym (guard_epoch d j lt)) token) in
      let shift : (j : ℕ) → g (epoch_word d 0 + j) ≡ g (epoch_word d j) = λ j. ap g (let q : epoch_word d 0 + j ≡ epoch_word d j = omega arith in q) in
      let some_before : (j : ℕ) → j < k → 0 < get_or s.words (epoch_word d j) 0 = λ j lt. (let h = epochs_some g (epoch_word d 0) 16 j lt in let q = shift j in let z = guards j (omega arith) in omega arith) in
      let none_here : get_or s.words (epoch_word d k) 0 ≡ 0 = (let h = epochs_none g (epoch_word d 0) 16 few in let q = shift k in let z = guards k few in omega arith) in
      let none_after : (j : ℕ) → k ≤ j → j < 16 → get_or s.words (epoch_word d j) 0 ≡ 0 = λ j le lt. r.sides.found.rows d k j small le lt none_here in
      let guarded : guard w ≡ number (Token d) = ap guard is ∙ guard_epoch d k few in let duty : 0 < has number (guard w) m.0.hold.now.duties = subst (λ z. 0 < has number z m.0.hold.now.duties) (sym guarded) token in
      let was : get_or s.words w 0 ≡ 0 = ap (λ i. get_or s.words i 0) is ∙ none_here in let now = (r.lock.each id m.0.hold (at_map hold_of s.views id m.0 at)).now in
      let len_is = stamped_known d m.0.hold.now.seen r.log now.begins (now.complete (number (Token d)) token) in
      let starts : x / 32 ≡ e.start = omega arith in let later : IsLater (has datacentre d (stamped r.log)) x = inr (omega arith) in
      let there : d < load.dcs = has_place load d 0 (number (Token d)) (omega arith) small (omega arith) (exists s r at (number (Token d)) token) in let old = r.sides.paired.lists d there in let last = ap last_epoch whole in
      let grown : IsEpochList (with_epoch T e) = epoch_list_more T e old (let q = ap (λ (z : Epoch). z.start) last in omega arith) (let q = ap (λ (z : Epoch). z.members) last in omega arith) lid fewer in
      let decoded : epoch_of x ≡ e = (let members : x % 32 ≡ e.members = omega arith in (λ i. record { start = starts i; members = members i })) in
      let v : View = noted m.0 (Found w x) in (
        v,
        keeps,
        tt,
        aside s r w x v (omega arith) at refl (write_sides load round r.log s.words s.views r.sides id m.0 at w x x [] (omega arith) (omega arith) duty (alone s r at (guard w) duty) (omega arith) (λ _ some_epoch. absurd (omega arith)) (λ _. refl)
            (λ h i a b z. absurd (omega arith))
            (λ h j lt z. (let h_is : h ≡ d = omega arith in let j_is : j ≡ k = omega arith in (
              subst (λ u. IsLater (has datacentre u (stamped r.log)) x) (sym h_is) later,
              (λ i less. (let b = some_before i (omega arith) in let q = ap (λ u. get_or s.words (epoch_word u i) 0) h_is in omega arith)),
            )))
            tt tt
            (marks.begins round s.words (map placed_of s.views) r.sides.marked d k x few (λ h. has datacentre h (stamped r.log)) r.sides.found.low later none_after w is (omega arith))
            (λ all. heads.begins load.dcs round s.words (map placed_of s.views) (map notes_of s.views) r.sides.paired d k x small few w is (omega arith) some_before none_after (omega arith) (subst (λ (z : Epoch). IsEpochList (with_epoch T z)) (sym decoded) grown)
            (omega arith) (λ p placed. (let q = placed_low s r d p small placed in omega arith)) (set (map notes_of s.views) id (Found w x ∷ m.0.notes)) all)
            ((λ h i a b z. absurd (omega arith)), tt)),
        refl,
      )

-- the same, told of a plan that is the lock's
module _ (load : Workload) (round : ℕ) (slots id : ℕ) (m : Sat) (load' : Workload) (round' : ℕ) (same_load : load ≡ load') (same_round : round ≡ round') where
  pub take_by : m.0.hold.stage ≡ Idle → HasDuty m.0.hold.now.duties → Allows (Keeps load round) slots id m 0 (λ x. either (eqb x 0) 1 x) (Takes load' round' (step slots 0 0 1 none) m)
  take_by is duty = subst (λ (z : Workload × ℕ). Allows (Keeps load round) slots id m 0 (λ x. either (eqb x 0) 1 x) (Takes z.0 z.1 (step slots 0 0 1 none) m)) (λ i. (same_load i, same_round i)) (take_step load round slots id m is duty)

  pub tell_by : (w d k : ℕ) → d < 8 → k < 16 → w ≡ epoch_word d k → ((j : ℕ) → j < k → 0 < best (epoch_word d j) m.0.notes) → Allows (Keeps load round) slots id m w (λ x. x) (Tells load' round' (step slots w 0 0 none) m)
  tell_by w d k small few is before = let of : dc_of w ≡ d = omega arith in
      subst (λ (z : Workload × ℕ). Allows (Keeps load round) slots id m w (λ x. x) (Tells z.0 z.1 (step slots w 0 0 none) m)) (λ i. (same_load i, same_round i))
      (tell_step load round slots id m w k (omega arith) few (is ∙ ap (λ z. epoch_word z k) (sym of)) (subst (λ z. (j : ℕ) → j < k → 0 < best (epoch_word z j) m.0.notes) (sym of) before))

  pub learn_by : Allows (Keeps load round) slots id m 1 (λ x. x) (Learns load' round' (step slots 1 0 0 none) m)
  learn_by = subst (λ (z : Workload × ℕ). Allows (Keeps load round) slots id m 1 (λ x. x) (Learns z.0 z.1 (step slots 1 0 0 none) m)) (λ i. (same_load i, same_round i)) (learn_step load round slots id m)

module _ (load : Workload) (round : ℕ) (slots id : ℕ) (m : Sat) (round' : ℕ) (same_round : round ≡ round') where
  pub see_by : (w : ℕ) → 130 ≤ w → w < 258 → Allows (Keeps load round) slots id m w (λ x. x) (Sees round' (step slots w 0 0 none) m)
  see_by w high low = subst (λ z. Allows (Keeps load round) slots id m w (λ x. x) (Sees z (step slots w 0 0 none) m)) same_round (see_step load round slots id m w high low)

  pub raise_by : (w d k x : ℕ) → w ≡ mark_word d k → d < 8 → k < 16 → 0 < has number (number (Maintainer d k)) m.0.hold.now.duties → x ≤ has datacentre d (stamped m.0.hold.now.seen) + 1 → MayRise round' d k x m.0.notes m.0.names.placed
      → Allows (Keeps load round) slots id m w (λ z. max z x) (Raises round' (step slots w x 0 none) m)
  raise_by w d k x is small few duty within may = subst (λ (y : ℕ × ℕ). Allows (Keeps load round) slots id m y.1 (λ z. max z x) (Raises y.0 (step slots y.1 x 0 none) m)) (λ i. (same_round i, sym is i))
      (raise_step load round slots id m d k x small few duty within (subst (λ z. MayRise z d k x m.0.notes m.0.names.placed) (sym same_round) may))

module _ (load : Workload) (round : ℕ) (id : ℕ) (v : View) where
  pub split_step : v.hold.stage ≡ Idle → (ds : List Duty) (hand placed : List Position) → Among number ds v.hold.now.duties → Among place hand v.names.hand → Among place placed v.names.placed
      → NamesByDuty (kept ds hand placed v).hold.now.duties (kept ds hand placed v).names → NamesByDuty ds (names hand placed) → IsTied v.hold.load (minus number v.hold.now.duties ds) → IsTied v.hold.load ds
      → Splits (Keeps load round) id v (kept ds hand placed v) (given ds hand placed v)
  split_step is ds hand placed among a b mine other left_tied right_tied s r at = let lively : lives v.hold.stage ≡ 1 = ap lives is in let right : v.hold.load ≡ load = (r.lock.each id v.hold (at_map hold_of s.views id v at)).plan (omega arith) in let hs : List Hold = map hold_of s.views in let here = at_map hold_of s.views id v at in let w : View = kept ds hand placed v in let g : View = given ds hand placed v in
      made load round r.fits r.log s.words s.homes (set s.views id w ++ g ∷ []) (get_or s.words 0 0) (get_or s.words 1 0) (set hs id w.hold ++ g.hold ∷ []) r.wide refl refl
      (map-append hold_of (set s.views id w) (g ∷ []) ∙ ap (λ l. l ++ g.hold ∷ []) (map-set hold_of s.views id w))
      (locks.splits load r.log (get_or s.words 0 0) (get_or s.words 1 0) s.homes hs r.lock id v.hold here is ds among)
      (split_sides load round r.log s.words s.views r.sides id v at ds hand placed among a b mine other (subst (λ (l : Workload). IsTied l (minus number v.hold.now.duties ds)) right left_tied) (subst (λ (l : Workload). IsTied l ds) right right_tied))

  pub join_step : v.hold.stage ≡ Idle → (other : ℕ) (w : View) → w.hold.stage ≡ Idle → Joins (Keeps load round) id v other w (joined v w) spent
  join_step is other w too s r at apart there = let hs : List Hold = map hold_of s.views in let here = at_map hold_of s.views id v at in let j : View = joined v w in let vs : List View = set s.views id j in
      let same = map-set hold_of s.views id j in let f = r.lock.each id v.hold here in
      let wt : get_elem? (set hs id j.hold) other ≡ some w.hold = subst (λ l. get_elem? l other ≡ some w.hold) same (at_map hold_of vs other w there) in
      let g = r.lock.each other w.hold (sym (set_else hs id other j.hold apart) ∙ wt) in let both = locks.longer_both v.hold.now.seen w.hold.now.seen r.log f.now.begins g.now.begins in
      made load round r.fits r.log s.words s.homes (set vs other spent) (get_or s.words 0 0) (get_or s.words 1 0) (set (set hs id j.hold) other spent.hold) r.wide refl refl
      (map-set hold_of vs other spent ∙ ap (λ l. set l other spent.hold) same)
      (locks.joins load r.log (get_or s.words 0 0) (get_or s.words 1 0) s.homes hs r.lock id v.hold here is other w.hold apart wt too)
      (join_sides load round r.log s.words s.views r.sides id v at (f.plan (let lively : lives v.hold.stage ≡ 1 = ap lives is in omega arith)) other w both.0 both.1 apart there)

-- a closed lock: who has every duty has seen the journal, which lies in the slot
pub closing : (load : Workload) (round : ℕ) (id : ℕ) (v : View) (words : List ℕ) (slots : List (Option Book)) → v.hold.stage ≡ Idle → Among number (all_duties load) v.hold.now.duties → Final (Seen (Keeps load round) id v) words slots
    → (w : Book) × (w.log ≡ v.hold.now.seen) × IsRun load w.log × (get_elem? slots 0 ≡ some (Some w))
closing load round id v words slots is all f = let s = f.0 in let r = f.1.0 in let at = f.1.1 in let hs : List Hold = map hold_of s.views in let here = at_map hold_of s.views id v at in
    let c = locks.closes load r.log (get_or s.words 0 0) (get_or s.words 1 0) s.homes hs r.lock id v.hold here is all in let home = c.0 in
    (home.0, home.1 ∙ c.1, subst (IsRun load) (sym home.1) r.lock.run, f.4 0 (Some home.0) home.2)
