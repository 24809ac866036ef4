-- Filters that take records while others are announced, accepted and made.
use Rattle.std.proofs.Common.{◌≡◌, ℕ, zero, suc, ◌+◌, ◌<◌, ◌≤◌, true, false, cond, ltb, List, [], ◌∷◌, ◌++◌, length, map, filter, get_or, refl, ap, sym, ◌∙◌, subst, inl, inr, arith, Some, None, append-nil}
use Rattle.std.specs.List.{count_by, sum_by}
use Rattle.std.proofs.lemmas.Bool.{cases_eq, cases_lt, cond_both, cond-true, cond-false, lt-ltb, le-ltb}
use Rattle.std.proofs.lemmas.List.{length-map, length-set, get_or-map, get_or-set_same, get_or-set_other, get_or_append_left, get_or_push, length_push}
use Rattle.std.proofs.lemmas.List.Elements.{All-nil}
use Rattle.std.proofs.lemmas.List.Sums.{sum_by-cons}
use Rattle.causal_deps.specs.declared.record.Record.{Record}
use Rattle.toid_filter.specs.declared.champions.Share.{Share}
use Rattle.toid_filter.specs.Champions.{last_share}
use Rattle.toid_filter.specs.Filters.{FilterState, Announcement, no_filter, new_filter, filter_at, has_name, is_own, is_passed, times_passed, due, cancelled, activated, IsSteady, AreSound}
use Rattle.toid_filter.specs.Marks.{mark_announced, accepted_next, filters_grown, grown_by}
use Rattle.toid_filter.specs.Laws.{HavePassed}
use Rattle.toid_filter.specs.Growth.{Filtering, AreSoundTogether, GoesOn, GoOn, HasGained, HaveGained}
use Rattle.toid_filter.proofs.FilterLemmas.{none_reached, passed_parts}
use Rattle.toid_filter.proofs.LawsLemmas.{release_passes, gained_of, then_gained, passed_once, champions_sound, champions_pass}
use Rattle.toid_filter.proofs.MarkLemmas.{announced_sound, accepted_sound, cancelled_sound, grown_sound, open_tidy, on_tidy, passed_same, marked_at}

past_all : {X : Type 0} (xs : List X) (i : ℕ) (d : X) → length xs ≤ i → get_or xs i d ≡ d
past_all [] i d all = refl
past_all (x ∷ xs) zero d all = absurd (omega arith)
past_all (x ∷ xs) (suc i) d all = past_all xs i d (omega arith)

gained_same : (f g f' g' : FilterState) (a a' : List Record) → f ≡ f' → g ≡ g' → a ≡ a' → HasGained f g a → HasGained f' g' a'
gained_same f g f' g' a a' at_f at_g at_a gained = subst (λ x. HasGained x g' a') at_f (subst (λ x. HasGained f x a') at_g (subst (HasGained f g) at_a gained))

-- A filter that keeps what it passed gains nothing.
gains_nothing : (f g : FilterState) → g.out ≡ f.out → ((h t : ℕ) → times_passed h t f ≡ times_passed h t g) → ((h : ℕ) → get_or f.reached h 0 ≡ get_or g.reached h 0) → HasGained f g []
gains_nothing f g out passed reached = record {
  out = out ∙ sym (append-nil f.out);
  rising = λ i j d before within. absurd (omega arith);
  counts = λ h t. omega (arith, passed h t);
  new = All-nil (λ (q : Record). get_or f.reached q.host 0 < q.toid);
  reached = All-nil (λ (q : Record). q.toid ≤ get_or g.reached q.host 0);
  grows = λ h. omega (arith, reached h);
}

stays : (f : FilterState) → HasGained f f []
stays f = gains_nothing f f refl (λ h t. refl) (λ h. refl)

cancel_gains : (f : FilterState) → IsSteady f → HasGained f (cancelled f) (due (record f { accepted = None }))
cancel_gains f steady =
    let x : FilterState = record f { accepted = None } in
    let all = release_passes x (open_tidy f steady.tidy) in
    record { out = all.out; rising = all.rising; counts = all.counts; new = all.new; reached = all.reached; grows = all.grows }

activate_gains : (m : List (List Share)) (a : Announcement) (f : FilterState) → f.map ≡ m → f.accepted ≡ Some (mark_announced a) → IsSteady f
    → HasGained f (activated (grown_by a m) f) (due (record f { map = grown_by a m; accepted = None; held = filter (is_own (grown_by a m) f.number) f.held }))
activate_gains m a f fm marked steady =
    let x : FilterState = record f { map = grown_by a m; accepted = None; held = filter (is_own (grown_by a m) f.number) f.held } in
    let all = release_passes x (on_tidy m a.host a.mark f fm marked steady) in record {
      out = all.out;
      rising = all.rising;
      counts = λ h t. omega (arith, all.counts h t, ap {B = ℕ} (λ b. cond b 1 0) (passed_same m a.host a.mark f fm marked steady h t));
      new = all.new;
      reached = all.reached;
      grows = all.grows;
    }

made_gains : (n : ℕ) (m : List (List Share)) → HasGained no_filter (new_filter n m) []
made_gains n m = gains_nothing no_filter (new_filter n m) refl (λ h t. none_passed h t) (λ h. sym (none_reached (length m) h))
  where
    none_passed : (h t : ℕ) → times_passed h t no_filter ≡ times_passed h t (new_filter n m)
    none_passed h t = never no_filter h t (λ k. refl) ∙ sym (never (new_filter n m) h t (none_reached (length m)))
      where
        never : (f : FilterState) (h t : ℕ) → ((k : ℕ) → ◌≡◌ {A = ℕ} (get_or f.reached k 0) 0) → ◌≡◌ {A = ℕ} (times_passed h t f) 0
        never f h t none = elim (is_passed f h t) as (λ b. is_passed f h t ≡ b → ◌≡◌ {A = ℕ} (cond b 1 0) 0) [
          | true ↦ λ is. let parts = passed_parts f h t is in absurd (omega (arith, parts.0, parts.1, none h))
          | false ↦ λ is. refl
        ] refl

-- What each filter gains in a step; past them nothing does.
record AllGain (fs gs : List FilterState) (gain : ℕ → List Record) : Type 0 where
  more : length fs ≤ length gs
  each : (i : ℕ) → HasGained (filter_at fs i) (filter_at gs i) (gain i)

abbrev Gains : List FilterState → List FilterState → Type 0
Gains fs gs = (gain : ℕ → List Record) × AllGain fs gs gain

none_gain : (fs : List FilterState) → Gains fs fs
none_gain fs = ((λ i. []), record { more = omega arith; each = λ i. stays (filter_at fs i) })

-- where there are as many filters as before, those that there are tell
gain_all : (fs gs : List FilterState) (gain : ℕ → List Record) → length gs ≡ length fs → ((i : ℕ) → i < length fs → HasGained (filter_at fs i) (filter_at gs i) (gain i)) → ((i : ℕ) → length fs ≤ i → gain i ≡ []) → AllGain fs gs gain
gain_all fs gs gain sizes each none = record {
  more = omega (arith, sizes);
  each = λ i. elim (cases_lt i (length fs)) [
    | inl low ↦ each i low
    | inr past ↦ gained_same no_filter no_filter (filter_at fs i) (filter_at gs i) [] (gain i) (sym (past_all fs i no_filter past)) (sym (past_all gs i no_filter (omega (arith, sizes)))) (sym (none i past)) (stays no_filter)
  ];
}

take_gains : (z : Filtering) (rs : List Record) (fs : List FilterState) (gained : List (List Record)) → HavePassed z.filters fs gained → Gains z.filters fs
take_gains z rs fs gained passed = (
  (λ i. get_or gained i []),
  gain_all z.filters fs (λ i. get_or gained i []) passed.filters (λ i low. gained_of (filter_at z.filters i) (filter_at fs i) (get_or gained i []) (passed.each i low)) (λ i past. past_all gained i [] (omega (arith, passed.lists))),
)

accept_gains : (a : Announcement) (fs : List FilterState) → Gains fs (accepted_next a fs)
accept_gains a fs = (
  (λ i. []),
  gain_all fs (accepted_next a fs) (λ i. []) (length-set fs a.next new) (λ i low. elim (cases_eq i a.next) [
    | inl same ↦ subst (λ j. HasGained (filter_at fs j) (filter_at (accepted_next a fs) j) []) (sym same)
        (subst (λ g. HasGained (filter_at fs a.next) g []) (sym (get_or-set_same fs a.next new no_filter (omega (arith, same)))) (gains_nothing (filter_at fs a.next) new refl (λ h t. refl) (λ h. refl)))
    | inr other ↦ subst (λ g. HasGained (filter_at fs i) g []) (sym (get_or-set_other fs a.next i new no_filter other)) (stays (filter_at fs i))
  ]) (λ i past. refl),
)
  where
    new : FilterState
    new = record (filter_at fs a.next) { accepted = Some (mark_announced a) }

-- what filters gain by a change of each of them
abbrev gain_by : (FilterState → List Record) → List FilterState → ℕ → List Record
gain_by gain fs i = cond (ltb i (length fs)) (gain (filter_at fs i)) []

map_gains : (k : FilterState → FilterState) (gain : FilterState → List Record) (fs : List FilterState) → ((i : ℕ) → i < length fs → HasGained (filter_at fs i) (k (filter_at fs i)) (gain (filter_at fs i))) → AllGain fs (map k fs) (gain_by gain fs)
map_gains k gain fs each = gain_all fs (map k fs) (gain_by gain fs) (length-map fs k)
    (λ i low. gained_same (filter_at fs i) (k (filter_at fs i)) (filter_at fs i) (filter_at (map k fs) i) (gain (filter_at fs i)) (gain_by gain fs i) refl (sym (get_or-map k fs i no_filter no_filter low))
    (sym (cond-true (ltb i (length fs)) (gain (filter_at fs i)) [] (lt-ltb i (length fs) low))) (each i low))
    (λ i past. cond-false (ltb i (length fs)) (gain (filter_at fs i)) [] (le-ltb i (length fs) past))

-- one filter is made
push_gains : (fs gs : List FilterState) (gain : ℕ → List Record) (n : ℕ) (m : List (List Share)) → length gs ≡ length fs → gain (length fs) ≡ [] → AllGain fs gs gain → AllGain fs (gs ++ new_filter n m ∷ []) gain
push_gains fs gs gain n m sizes none all = record {
  more = omega (arith, sizes, length_push gs made);
  each = λ i. elim (cases_lt i (length gs)) [
    | inl low ↦ subst (λ g. HasGained (filter_at fs i) g (gain i)) (sym (get_or_append_left gs (made ∷ []) no_filter i low)) (all.each i)
    | inr past ↦ elim (cases_eq i (length gs)) [
      | inl same ↦ gained_same no_filter made (filter_at fs i) (filter_at (gs ++ made ∷ []) i) [] (gain i) (sym (past_all fs i no_filter (omega (arith, sizes)))) (sym (get_or_push gs made no_filter i (sym same)))
          (sym (ap gain (same ∙ sizes) ∙ none)) (made_gains n m)
      | inr other ↦ subst (λ g. HasGained (filter_at fs i) g (gain i)) (past_all gs i no_filter past ∙ sym (past_all (gs ++ made ∷ []) i no_filter (omega (arith, length_push gs made)))) (all.each i)
    ]
  ];
}
  where
    made : FilterState
    made = new_filter n m

activation_gains : (m : List (List Share)) (a : Announcement) (fs : List FilterState) → AreSound m (Some a) fs → length fs ≤ a.next → Gains fs (filters_grown a m fs)
activation_gains m a fs sound heard = (
  gain_by given fs,
  cond_both (ltb (length fs) (last_share (grown_by a m) a.host).filters) (on ++ new_filter (length fs) (grown_by a m) ∷ []) on (λ gs. AllGain fs gs (gain_by given fs))
      (λ needed. push_gains fs on (gain_by given fs) (length fs) (grown_by a m) (length-map fs (activated (grown_by a m))) (cond-false (ltb (length fs) (length fs)) (given (filter_at fs (length fs))) [] (le-ltb (length fs) (length fs) (omega arith))) all)
      (λ enough. all),
)
  where
    given : FilterState → List Record
    given f = due (record f { map = grown_by a m; accepted = None; held = filter (is_own (grown_by a m) f.number) f.held })

    on : List FilterState
    on = map (activated (grown_by a m)) fs

    all : AllGain fs on (gain_by given fs)
    all = map_gains (activated (grown_by a m)) given fs (λ i low. activate_gains m a (filter_at fs i) (sound.one_map i no_filter low) (marked_at m a fs sound heard i no_filter low) (sound.each i no_filter low))

-- A step keeps the filters sound, and what it passes is new.
step_sound : (z y : Filtering) → AreSoundTogether z → GoesOn z y → AreSoundTogether y × Gains z.filters y.filters
step_sound z y sound step = elim step [
  | inl (rs, fs, took, is) ↦ subst After (sym is) (champions_sound z.map z.announcement z.filters fs rs sound took, (let passed = champions_pass z.map z.announcement z.filters fs rs sound took in take_gains z rs fs passed.0 passed.1))
  | inr (inl (h, mark, idle, host, later, room, is)) ↦ subst After (sym is) (announced_sound z.map z.filters h mark (subst (λ a. AreSound z.map a z.filters) idle sound) host later room, none_gain z.filters)
  | inr (inr (inl (a, on, low, unpast, is))) ↦ subst After (sym is) (accepted_sound z.map a z.filters (subst (λ x. AreSound z.map x z.filters) on sound) low unpast, accept_gains a z.filters)
  | inr (inr (inr (inl is))) ↦ subst After (sym is) (
    cancelled_sound z.map z.announcement z.filters sound,
    ((λ i. gain_by (λ (f : FilterState). due (record f { accepted = None })) z.filters i), map_gains cancelled (λ (f : FilterState). due (record f { accepted = None })) z.filters (λ i low. cancel_gains (filter_at z.filters i) (sound.each i no_filter low))),
  )
  | inr (inr (inr (inr (a, on, heard, is)))) ↦ let so = subst (λ x. AreSound z.map x z.filters) on sound in subst After (sym is) (grown_sound z.map a z.filters so heard, activation_gains z.map a z.filters so heard)
]
  where
    After : Filtering → Type 0
    After x = AreSoundTogether x × Gains z.filters x.filters

steps_sound : (z y : Filtering) (steps : List Filtering) → AreSoundTogether z → GoOn z steps y → AreSoundTogether y × Gains z.filters y.filters
steps_sound z y [] sound is = subst (λ (x : Filtering). AreSoundTogether x × Gains z.filters x.filters) (sym is) (sound, none_gain z.filters)
steps_sound z y (x ∷ xs) sound (step, rest) =
    let first = step_sound z x sound step in
    let later = steps_sound x y xs first.0 rest in (
      later.0,
      (
        (λ i. first.1.0 i ++ later.1.0 i),
        record {
          more = omega (arith, first.1.1.more, later.1.1.more);
          each = λ i. then_gained (filter_at z.filters i) (filter_at x.filters i) (filter_at y.filters i) (first.1.0 i) (later.1.0 i) (first.1.1.each i) (later.1.1.each i);
        },
      ),
    )

pub goes_on_sound : (z y : Filtering) (steps : List Filtering) → AreSoundTogether z → GoOn z steps y → AreSoundTogether y
goes_on_sound z y steps sound go = (steps_sound z y steps sound go).0

-- The gains as lists, and counted together.
abbrev listed : (ℕ → List Record) → ℕ → List (List Record)
listed gain zero = []
listed gain (suc n) = gain 0 ∷ listed (λ i. gain (suc i)) n

listed_size : (gain : ℕ → List Record) (n : ℕ) → length (listed gain n) ≡ n
listed_size gain zero = refl
listed_size gain (suc n) = ap suc (listed_size (λ i. gain (suc i)) n)

listed_at : (gain : ℕ → List Record) (n i : ℕ) → i < n → get_or (listed gain n) i [] ≡ gain i
listed_at gain zero i low = absurd (omega arith)
listed_at gain (suc n) zero low = refl
listed_at gain (suc n) (suc i) low = listed_at (λ j. gain (suc j)) n i (omega arith)

grown_counts : (c : List Record → ℕ) (n : FilterState → ℕ) → n no_filter ≡ 0 → (fs gs : List FilterState) (gained : List (List Record)) → length fs ≤ length gs → length gained ≡ length gs
    → ((i : ℕ) → i < length gs → c (get_or gained i []) + n (filter_at fs i) ≡ n (filter_at gs i)) → sum_by c gained + sum_by n fs ≡ sum_by n gs
grown_counts c n none [] [] [] more lists each = refl
grown_counts c n none (f ∷ fs) [] gained more lists each = absurd (omega (arith, more))
grown_counts c n none [] [] (x ∷ xs) more lists each = absurd (omega (arith, lists))
grown_counts c n none fs (g ∷ gs) [] more lists each = absurd (omega (arith, lists))
grown_counts c n none [] (g ∷ gs) (x ∷ xs) more lists each =
    omega (arith, none, sum_by-cons c x xs, sum_by-cons n g gs, each 0 (omega arith), grown_counts c n none [] gs xs (omega arith) (omega (arith, lists)) (λ i low. each (suc i) (omega arith)))
grown_counts c n none (f ∷ fs) (g ∷ gs) (x ∷ xs) more lists each =
    omega (arith, sum_by-cons c x xs, sum_by-cons n f fs, sum_by-cons n g gs, each 0 (omega arith), grown_counts c n none fs gs xs (omega (arith, more)) (omega (arith, lists)) (λ i low. each (suc i) (omega arith)))

pub goes_on_once : (z y : Filtering) (steps : List Filtering) → AreSoundTogether z → GoOn z steps y → (gained : List (List Record)) × HaveGained z.filters y.filters gained
goes_on_once z y steps sound go =
    let all = steps_sound z y steps sound go in
    let n : ℕ = length y.filters in
    let gain : ℕ → List Record = all.1.0 in
    let each : (i : ℕ) → i < n → HasGained (filter_at z.filters i) (filter_at y.filters i) (get_or (listed gain n) i []) = λ i low. subst (HasGained (filter_at z.filters i) (filter_at y.filters i)) (sym (listed_at gain n i low)) (all.1.1.each i) in (
      listed gain n,
      record {
        filters = all.1.1.more;
        lists = listed_size gain n;
        each = each;
        once = λ h t. omega (
          arith,
          passed_once y.map y.announcement y.filters all.0 h t,
          grown_counts (count_by (has_name h t)) (times_passed h t) (none_passed h t) z.filters y.filters (listed gain n) all.1.1.more (listed_size gain n) (λ i low. (each i low).counts h t),
        );
      },
    )
  where
    none_passed : (h t : ℕ) → ◌≡◌ {A = ℕ} (times_passed h t no_filter) 0
    none_passed h t = elim (is_passed no_filter h t) as (λ b. is_passed no_filter h t ≡ b → ◌≡◌ {A = ℕ} (cond b 1 0) 0) [
      | true ↦ λ is. let parts = passed_parts no_filter h t is in absurd (omega (arith, parts.0, parts.1))
      | false ↦ λ is. refl
    ] refl
