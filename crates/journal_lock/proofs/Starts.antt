-- The table at the beginning meets the rule: marks of 1, one epoch for each datacentre, and a pass that knows these.
use Rattle.std.proofs.Common.{None, ◌≡◌, ◌≢◌, ℕ, zero, suc, ◌+◌, ◌*◌, ◌-◌, ◌/◌, ◌%◌, ◌<◌, ◌≤◌, max, List, [], ◌∷◌, map, length, get_or, replicate, Some, refl, ap, sym, ◌∙◌, subst, inl, arith}
use Rattle.std.specs.List.{All}
use Rattle.std.proofs.lemmas.Bool.Decides.{nat_tests}
use Rattle.std.proofs.lemmas.List.{get_or_past, get_or-map, get_or-replicate, length-replicate, length-map}
use Rattle.std.proofs.lemmas.List.Elements.{All-get_or}
use mathlib.Core.Logic.{dite}
use mathlib.Core.Option.{some, some-injective}
use native.Mathlib.Decide.{ℕ_discrete, dec_le}
use lib.ListN.{get_elem?}
use Rattle.flstore_rounds.specs.declared.epochs.Epoch.{Epoch}
use Rattle.flstore_rounds.specs.Epochs.{EpochList, IsEpochList}
use Rattle.flstore_rounds.specs.Heads.{IsTruePair}
use Rattle.flstore_rounds.proofs.EpochLemmas.{first_epoch_list}
use Rattle.flstore_rounds.proofs.HeadLemmas.{blank_true}
use Rattle.abstract_log.specs.declared.command.Workload.{Workload}
use Rattle.abstract_log.specs.Shapes.{FitsWorkload}
use Rattle.journal_lock.specs.declared.duty.Duty.{Duty}
use Rattle.journal_lock.specs.declared.duty.Duty.TheVariants.{Maintainer}
use Rattle.journal_lock.specs.declared.law.Note.{Note}
use Rattle.journal_lock.specs.declared.law.Note.TheVariants.{Found, Ended, Told}
use Rattle.journal_lock.specs.declared.law.Plan.{Plan}
use Rattle.journal_lock.specs.Duties.{number, has, session_duties, dc_duties, all_duties}
use Rattle.journal_lock.specs.Words.{mark_word, epoch_word, dc_of, guard, code}
use Rattle.journal_lock.specs.Notes.{AllNotes, IsTrue, AllTrue}
use Rattle.journal_lock.specs.Finds.{said, best, Stands, AllStand, Finding, FitsWords, Worded}
use Rattle.journal_lock.specs.Marks.{epoch_of, epochs_by, Marked}
use Rattle.journal_lock.specs.Heads.{pair_of, known_list, IsPlaced, Agrees, Paired}
use Rattle.journal_lock.specs.Start.{first_of, first_list, first_word, first_notes, fresh}
use Rattle.journal_lock.specs.Rule.{Sides}
use Rattle.journal_lock.specs.Pins.{FitsPins, Pinning}
use Rattle.journal_lock.specs.Ties.{IsTied}
use Rattle.journal_lock.proofs.TieLemmas.{all_tied}
use Rattle.journal_lock.proofs.Lists.{has_append}
use Rattle.journal_lock.proofs.Numbers.{below, has_dcs, has_sessions}
use Rattle.journal_lock.proofs.Places as places
use Rattle.journal_lock.proofs.Spans.{list_same, epochs_stop, then_some}
use Rattle.journal_lock.proofs.Finds.{at_word, said_by, guard_mark, told_here, best_low}
use Rattle.journal_lock.proofs.Settled.{list_at}

mark_first : (ns : List ℕ) (d m : ℕ) → d < 8 → m < 16 → first_word ns (mark_word d m) ≡ 1
mark_first ns d m small few = grind (arith, nat_tests)

epoch_first : (ns : List ℕ) (d : ℕ) → first_word ns (epoch_word d 0) ≡ get_or (map (λ n. code (Some (first_of n))) ns) (dc_of (epoch_word d 0)) 0
epoch_first ns d = grind (arith, nat_tests)

later_first : (ns : List ℕ) (d k : ℕ) → 1 ≤ k → k < 16 → first_word ns (epoch_word d k) ≡ 0
later_first ns d k some_epoch few = grind (arith, nat_tests)

dc_first : (d : ℕ) → dc_of (epoch_word d 0) ≡ d
dc_first d = omega arith

first_epoch_of : (n : ℕ) → n ≤ 16 → epoch_of (code (Some (first_of n))) ≡ first_of n
first_epoch_of n few = let s : (32 * 1 + n) / 32 ≡ 1 = omega arith in let m : (32 * 1 + n) % 32 ≡ n = omega arith in (λ i. record { start = s i; members = m i })

-- what each note at the beginning is, all of them are
all_first : (T : Note → Type 0) (round d : ℕ) (xs : List ℕ)
    → ((i e : ℕ) → e ≡ d + i → i < length xs → T (Told e (first_list round (get_or xs i 0)) (replicate 16 1)) × T (Ended (epoch_word e 1) 0) × T (Found (epoch_word e 0) (code (Some (first_of (get_or xs i 0))))))
    → AllNotes T (first_notes round d xs)
all_first T round d [] each = tt
all_first T round d (x ∷ xs) each = let h = each 0 d (omega arith) (omega arith) in (h.0, (h.1, (h.2, all_first T round (d + 1) xs (λ i e is low. each (suc i) e (omega arith) (omega arith)))))

first_mark : (round d : ℕ) (xs : List ℕ) (e m : ℕ) → d ≤ e → e < d + length xs → m < 16 → 1 ≤ best (mark_word e m) (first_notes round d xs)
first_mark round d [] e m le lt few = absurd (omega arith)
first_mark round d (x ∷ xs) e m le lt few = dite (ℕ_discrete e d)
    (λ same. (let t = told_here e m (replicate 16 1) in let one = get_or-replicate {A = ℕ} 16 m 1 0 few in let q : said_by d (mark_word e m) (replicate 16 1) ≡ said_by e (mark_word e m) (replicate 16 1) = ap (λ z. said_by z (mark_word e m) (replicate 16 1)) (sym same) in omega arith))
    (λ ne. omega (arith, first_mark round (d + 1) xs e m (omega arith) (omega arith) few))

first_found : (round d : ℕ) (xs : List ℕ) (i : ℕ) → i < length xs → code (Some (first_of (get_or xs i 0))) ≤ best (epoch_word (d + i) 0) (first_notes round d xs)
first_found round d [] i low = absurd (omega arith)
first_found round d (x ∷ xs) zero low = (let e : epoch_word (d + 0) 0 ≡ epoch_word d 0 = omega arith in
    subst (λ w. 32 * 1 + x ≤ best w (first_notes round d (x ∷ xs))) (sym e) (let s : said (epoch_word d 0) (Found (epoch_word d 0) (32 * 1 + x)) ≡ 32 * 1 + x = grind (arith, nat_tests) in omega arith))
first_found round d (x ∷ xs) (suc i) low = (let e : epoch_word (d + suc i) 0 ≡ epoch_word (d + 1 + i) 0 = omega arith in
    subst (λ w. code (Some (first_of (get_or xs i 0))) ≤ best w (first_notes round d (x ∷ xs))) (sym e) (omega (arith, first_found round (d + 1) xs i (omega arith))))

-- a datacentre with a duty is one of those that there are
pub has_place : (load : Workload) (d i x : ℕ) → x ≡ 66 * d + i → d < 8 → i < 66 → 0 < has number x (all_duties load) → d < load.dcs
has_place load d i x is small inside more =
    let n : ℕ = length load.sessions in let a = has_append number x (session_duties n) (dc_duties load.dcs) in let s = has_sessions x n in let c = has_dcs x load.dcs in
    dite (dec_le (66 * load.dcs) x) (λ past. absurd (let z : below x (66 * load.dcs) ≡ 0 = grind (arith, nat_tests) in let u : below x 528 ≡ 1 = grind (arith, nat_tests) in let v : below x (528 + 2 * n) ≡ 1 = grind (arith, nat_tests) in omega arith)) (λ below_it. omega arith)

module _ (load : Workload) (round : ℕ) (ns : List ℕ) (fits : FitsWorkload load) (long : length ns ≡ load.dcs) (members : All (λ n. (1 ≤ n) × (n ≤ 16)) ns) (from : 1 ≤ round) (to : round ≤ 1024)
    (words : List ℕ) (wide : length words ≡ 258) (is : (w : ℕ) → w < 258 → at_word words w ≡ first_word ns w) where
  abbrev notes : List Note
  notes = first_notes round 0 ns

  of_mark : (d m : ℕ) → d < 8 → m < 16 → at_word words (mark_word d m) ≡ 1
  of_mark d m small few = is (mark_word d m) (omega arith) ∙ mark_first ns d m small few

  of_first : (d : ℕ) → d < load.dcs → at_word words (epoch_word d 0) ≡ code (Some (first_of (get_or ns d 0)))
  of_first d low = let few = fits.few in
      is (epoch_word d 0) (omega arith) ∙ (epoch_first ns d ∙ (ap (λ i. get_or (map (λ n. code (Some (first_of n))) ns) i 0) (dc_first d) ∙ get_or-map (λ n. code (Some (first_of n))) ns d 0 0 (omega arith)))

  of_later : (d k : ℕ) → d < 8 → 1 ≤ k → k < 16 → at_word words (epoch_word d k) ≡ 0
  of_later d k small some_epoch few = is (epoch_word d k) (omega arith) ∙ later_first ns d k some_epoch few

  of_none : (d : ℕ) → d < 8 → load.dcs ≤ d → at_word words (epoch_word d 0) ≡ 0
  of_none d small past = is (epoch_word d 0) (omega arith) ∙ (epoch_first ns d ∙ (ap (λ i. get_or (map (λ n. code (Some (first_of n))) ns) i 0) (dc_first d)
      ∙ get_or_past (map (λ n. code (Some (first_of n))) ns) d 0 (omega (arith, length-map ns (λ n. code (Some (first_of n)))))))

  some_members : (d : ℕ) → d < load.dcs → (1 ≤ get_or ns d 0) × (get_or ns d 0 ≤ 16)
  some_members d low = All-get_or (λ n. (1 ≤ n) × (n ≤ 16)) ns d 0 (omega arith) members

  -- one epoch for each datacentre
  list_is : (d : ℕ) → d < load.dcs → list_at round words d ≡ first_list round (get_or ns d 0)
  list_is d low = let few = fits.few in let w : ℕ = epoch_word d 0 in let f : ℕ → ℕ = at_word words in let n : ℕ = get_or ns d 0 in
      let none : f (w + 1) ≡ 0 = ap f (let e : w + 1 ≡ epoch_word d 1 = omega arith in e) ∙ of_later d 1 (omega arith) (omega arith) (omega arith) in
      let first = of_first d low in
      let stop = epochs_stop f w 1 16 (λ j lt. (let e : f (w + j) ≡ f w = ap f (let q : w + j ≡ w = omega arith in q) in omega arith)) none (omega arith) in
      let one : epochs_by f w 1 ≡ epoch_of (f w) ∷ [] = then_some (f w) [] (omega arith) in
      ap (λ (l : List Epoch). let t : EpochList = record { round = round; list = l } in t) (stop ∙ (one ∙ ap (λ (e : Epoch). e ∷ []) (ap epoch_of first ∙ first_epoch_of n (some_members d low).1)))

  stand : AllStand words notes
  stand = all_first (Stands words) round 0 ns (λ i e at low. (let few = fits.few in let here = of_first e (omega arith) in let same = ap (λ z. get_or ns z 0) at in (
    (omega (arith, length-replicate {A = ℕ} 16 1), omega arith, λ m inside. omega (arith, get_or-replicate {A = ℕ} 16 m 1 0 inside, of_mark e m (omega arith) inside)),
    (λ d k j is_word le lt. inl (of_later d j (omega arith) (omega arith) lt)),
    (
      omega arith,
      (let q : get_or ns e 0 ≡ get_or ns i 0 = same ∙ ap (λ z. get_or ns z 0) (let p : 0 + i ≡ i = omega arith in p) in omega arith),
      λ high more. (let q : get_or ns e 0 ≡ get_or ns i 0 = same ∙ ap (λ z. get_or ns z 0) (let p : 0 + i ≡ i = omega arith in p) in omega arith),
    ),
  )))

  -- an epoch that there is not holds none, and one that there is the pass knows
  known_word : (d k : ℕ) → d < 8 → k < 16 → at_word words (epoch_word d k) ≡ best (epoch_word d k) notes
  known_word d k small few = let low = best_low words (epoch_word d k) notes stand in dite (ℕ_discrete k 0)
      (λ z. (let e : epoch_word d k ≡ epoch_word d 0 = ap (epoch_word d) z in let a = ap (at_word words) e in let b = ap (λ w. best w notes) e in
      dite (dec_le load.dcs d) (λ past. omega (arith, of_none d small past))
      (λ inside. (let f = first_found round 0 ns d (omega arith) in let c : best (epoch_word (0 + d) 0) notes ≡ best (epoch_word d 0) notes = ap (λ w. best w notes) (let q : epoch_word (0 + d) 0 ≡ epoch_word d 0 = omega arith in q) in omega (arith, of_first d (omega arith))))))
      (λ ne. omega (arith, of_later d k small (omega arith) few))

  -- the pass knows the one epoch of each datacentre
  pub start_known : (d : ℕ) → d < load.dcs → known_list round d notes ≡ first_list round (get_or ns d 0)
  start_known d low = let few = fits.few in
      list_same round d (λ w. best w notes) (at_word words) (λ i a b. (let k : ℕ = i - epoch_word d 0 in let e : epoch_word d k ≡ i = omega arith in
      ap (λ w. best w notes) (sym e) ∙ (sym (known_word d k (omega arith) (omega arith)) ∙ ap (at_word words) e))) ∙ list_is d low

  own : (w : ℕ) → 2 ≤ w → 0 < has number (guard w) (all_duties load) → at_word words w ≡ best w notes
  own w high duty = let low = best_low words w notes stand in dite (dec_le 130 w)
      (λ epoch. dite (dec_le 258 w) (λ past. omega (arith, get_or_past words w 0 (omega arith)))
      (λ inside. (let d : ℕ = (w - 130) / 16 in let k : ℕ = (w - 130) % 16 in let e : epoch_word d k ≡ w = omega arith in
      ap (at_word words) (sym e) ∙ (known_word d k (omega arith) (omega arith) ∙ ap (λ z. best z notes) e))))
      (λ mark. (let d : ℕ = (w - 2) / 16 in let m : ℕ = (w - 2) % 16 in let e : mark_word d m ≡ w = omega arith in let small : d < 8 = omega arith in let few : m < 16 = omega arith in
      let guarded : guard w ≡ number (Maintainer d m) = ap guard (sym e) ∙ guard_mark d m small few in
      let there = has_place load d (34 + m) (number (Maintainer d m)) (omega arith) small (omega arith) (subst (λ z. 0 < has number z (all_duties load)) guarded duty) in
      let a = of_mark d m small few in let b = first_mark round 0 ns d m (omega arith) (omega arith) few in let p = ap (at_word words) e in let q = ap (λ z. best z notes) e in omega arith))

  all_agree : (P : ℕ → ℕ → Type 0) → AllNotes (Agrees round words P) notes
  all_agree P = all_first (Agrees round words P) round 0 ns (λ i e at low. (let few = fits.few in let there : e < load.dcs = omega arith in let same : get_or ns e 0 ≡ get_or ns i 0 = ap (λ z. get_or ns z 0) (let q : e ≡ i = omega arith in q) in
      let whole : list_at round words e ≡ first_list round (get_or ns i 0) = list_is e there ∙ ap (first_list round) same in (
        subst (λ (t : EpochList). IsTruePair t (P e) (pair_of (first_list round (get_or ns i 0)) (replicate 16 1))) (sym whole) (blank_true (first_list round (get_or ns i 0)) (P e)),
        tt,
        (λ d m small inside is_word. absurd (omega arith)),
      )))

  all_true : AllTrue [] notes
  all_true = all_first (IsTrue []) round 0 ns (λ i e at low. (tt, (λ d k few is_word. omega arith), (λ d m small inside is_word. absurd (let few = fits.few in omega arith))))

  one_finding : (j : ℕ) (x : Finding) → get_elem? ((all_duties load, notes) ∷ []) j ≡ some x → FitsWords words x
  one_finding zero x e = subst (FitsWords words) (some-injective (all_duties load, notes) x e) record { stand = stand; own = own }
  one_finding (suc j) x e = cc

  one_notes : (T : Note → Type 0) → AllNotes T notes → (j : ℕ) (xs : List Note) → get_elem? (notes ∷ []) j ≡ some xs → AllNotes T xs
  one_notes T t zero xs e = subst (AllNotes T) (some-injective notes xs e) t
  one_notes T t (suc j) xs e = cc

  one_tied : (j : ℕ) (ds : List Duty) → get_elem? (all_duties load ∷ []) j ≡ some ds → IsTied load ds
  one_tied zero ds e = subst (IsTied load) (some-injective (all_duties load) ds e) (all_tied load fits.few)
  one_tied (suc j) ds e = cc

  one_pinning : (j : ℕ) (x : Pinning) → get_elem? (((all_duties load, []), ([], []), ([], [])) ∷ []) j ≡ some x → FitsPins load (λ s. None) x
  one_pinning zero x e = subst (FitsPins load (λ s. None)) (some-injective ((all_duties load, []), ([], []), ([], [])) x e) record { now = λ s low more. refl; left = λ s low more. refl; right = λ s low more. refl }
  one_pinning (suc j) x e = cc

  pub start_sides : Sides load round [] words (fresh (record { workload = load; round = round; maintainers = ns }) ∷ [])
  start_sides = record {
    noted = one_notes (IsTrue []) all_true;
    found = record {
      low = λ d m small few. omega (arith, of_mark d m small few);
      rows = λ d k j small le lt none. dite (ℕ_discrete j 0) (λ z. (let e = ap (λ q. at_word words (epoch_word d q)) (let u : j ≡ k = omega arith in u) in omega arith)) (λ more. of_later d j small (omega arith) lt);
      each = one_finding;
    };
    marked = record { filled = λ d m p small few first low mine. absurd (omega (arith, of_mark d m small few)) };
    named = places.starts (all_duties load);
    tied = one_tied;
    pinned = record { pins = λ s. None; each = one_pinning };
    paired = record {
      lists = λ d low. (let s = some_members d low in subst IsEpochList (sym (list_is d low)) (first_epoch_list round (get_or ns d 0) from to s.0 s.1));
      reached = λ d m small few. inl (omega (arith, of_mark d m small few));
      each = one_notes (Agrees round words (IsPlaced ([] ∷ []))) (all_agree (IsPlaced ([] ∷ [])));
    };
  }
