-- Filters that hear of a mark, forget it, or take the map that grew at it.
use Rattle.std.proofs.Common.{◌≡◌, ◌⊎◌, ℕ, ◌+◌, ◌-◌, ◌<◌, ◌≤◌, Bool, true, false, cond, leb, ltb, eqb, not, ◌&&◌, List, [], ◌∷◌, ◌++◌, length, map, filter, get_or, set, refl, ap, ap₂, sym, ◌∙◌, subst, inl, inr, arith, Option, Some, None, Contains}
use Rattle.std.specs.List.{All, sum_by, flat_map}
use Rattle.std.proofs.lemmas.Nat.{mod_below}
use Rattle.std.proofs.lemmas.List.{get_or-set_same, get_or-set_other, length-set, length-map, get_or-map, length_push, set_past, get_or_append_left, get_or_push, get_or_default}
use Rattle.std.proofs.lemmas.List.Elements.{All-nil, All-weaker, All-push, All-append, All-filter, All-map, All-head, All-tail, All-contains}
use Rattle.std.proofs.lemmas.List.Kept.{AllPairs-filter}
use Rattle.std.proofs.lemmas.List.Sums.{sum_by_push}
use Rattle.std.proofs.lemmas.Bool.{cases_eq, cases_lt, cond_both, cond-true, cond-false, leb-true, and_from, and_parts, and_cases, le-leb, lt-leb, le-ltb, lt-ltb, ltb-true, ltb-false, eqb-false, eqb-true, true≢false, false_from_ne_true}
use Rattle.std.proofs.lemmas.Option.{same_Some}
use Rattle.causal_deps.specs.declared.record.Record.{Record}
use Rattle.causal_deps.specs.declared.record.Item.{Item}
use Rattle.causal_deps.specs.declared.record.Item.TheVariants.{External}
use Rattle.causal_deps.proofs.Lists.{Contains-filter}
use Rattle.toid_filter.specs.declared.champions.Share.{Share}
use Rattle.toid_filter.specs.declared.filter.AcceptedMark.{AcceptedMark}
use Rattle.toid_filter.specs.Champions.{champion, dealt_by, dealt_from, grown, last_share, last_of_shares, share_from, sole_share}
use Rattle.toid_filter.specs.Filters.{FilterState, Announcement, no_filter, new_filter, filter_at, owns, is_passed, is_held_back, is_due, is_own, is_past, times_passed, cancelled, activated, handed_out, mark_accepted, stands_before, FitsFilter, IsTidy, IsSteady, AreSound}
use Rattle.toid_filter.specs.Sums.{items_of, in_held, in_out, passed, LosesNothing}
use Rattle.toid_filter.specs.Marks.{mark_announced, asked_next, accepted_next, grown_by, filters_grown}
use Rattle.toid_filter.proofs.ShareLemmas.{last_of_shares-push}
use Rattle.toid_filter.proofs.Tests.{all_from_contains, held_back_below}
use Rattle.toid_filter.proofs.FilterLemmas.{passed_parts, passed_from, due_parts, due_from, own_is, released_steady, new_steady, none_reached}
use Rattle.toid_filter.proofs.LawsLemmas.{at_set, all_at}
use Rattle.toid_filter.proofs.SumLemmas.{sum_by-split, HasTaken, HasKept, released_takes, nothing_taken, held_among, out_among, all_items}

-- what holds of each place of a list of filters holds of the changed ones
pub at_map : (Q : ℕ → FilterState → Type 0) (k : FilterState → FilterState) (fs : List FilterState) → ((i : ℕ) → i < length fs → Q i (k (filter_at fs i))) → (i : ℕ) → i < length (map k fs) → Q i (filter_at (map k fs) i)
at_map Q k fs all i low =
    let within : i < length fs = omega (arith, length-map fs k) in
    subst (Q i) (sym (get_or-map k fs i no_filter no_filter within)) (all i within)

no_announcement : (P : Announcement → Type 0) (a : Announcement) → ◌≡◌ {A = Option Announcement} None (Some a) → P a
no_announcement P a is = absurd (cc)

-- what holds of an announcement holds of an equal one
of_announcement : (P : Announcement → Type 0) (a b : Announcement) → ◌≡◌ {A = Option Announcement} (Some a) (Some b) → P a → P b
of_announcement P a b is has = subst P (same_Some a b is) has

-- an announcement begins
pub announced_sound : (m : List (List Share)) (fs : List FilterState) (h mark : ℕ) → AreSound m None fs → h < length m → (last_share m h).start < mark → (last_share m h).filters < 16
    → AreSound m (Some (record { host = h; mark = mark; next = 0 })) fs
announced_sound m fs h mark sound host later room =
    let a : Announcement = record { host = h; mark = mark; next = 0 } in record {
      each = sound.each;
      one_map = sound.one_map;
      numbers = sound.numbers;
      heard = λ i low. sound.heard i low ∙ sym (cond-false (ltb i 0) (Some (mark_announced a)) None (le-ltb i 0 (omega arith)));
      host = λ b is. of_announcement (λ (x : Announcement). x.host < length m) a b is host;
      asked = λ b is. of_announcement (λ (x : Announcement). x.next ≤ length fs) a b is (omega arith);
      later = λ b is. of_announcement (λ (x : Announcement). (last_share m x.host).start < x.mark) a b is later;
      room = λ b is. of_announcement (λ (x : Announcement). (last_share m x.host).filters < 16) a b is room;
      there = sound.there;
      enough = sound.enough;
    }

-- a filter that passed no number at or above a mark accepts it
-- no number at or above the mark was passed
pub not_past : (passed mark : ℕ) → ((1 ≤ passed) × (passed < mark)) ⊎ (passed < 1) → (leb 1 passed && leb mark passed) ≡ false
not_past passed mark (inl below) = ap₂ (λ a b. a && b) (le-leb 1 passed below.0) (lt-leb mark passed below.1)
not_past passed mark (inr none) = ap (λ b. b && leb mark passed) (lt-leb 1 passed none)

pub accepts : (f : FilterState) (h mark : ℕ) → IsSteady f → f.accepted ≡ None → is_past h mark f ≡ false → IsSteady (record f { accepted = Some (record { host = h; from = mark }) })
accepts f h mark steady free past =
    let x : FilterState = record f { accepted = Some (record { host = h; from = mark }) } in record {
      tidy = record {
        width = steady.tidy.width;
        reached_own = steady.tidy.reached_own;
        reached_open = λ g some. false_from_ne_true (eqb h g && leb mark (get_or f.reached g 0)) (λ back.
            let both = and_parts (eqb h g) (leb mark (get_or f.reached g 0)) back in
            let same : g ≡ h = sym (eqb-true h g both.0) in
            true≢false (sym (and_from (leb 1 (get_or f.reached h 0)) (leb mark (get_or f.reached h 0)) (ap (λ k. leb 1 (get_or f.reached k 0)) (sym same) ∙ le-leb 1 (get_or f.reached g 0) some)
            (ap (λ k. leb mark (get_or f.reached k 0)) (sym same) ∙ both.1)) ∙ past));
        rising = steady.tidy.rising;
        fits = All-weaker (FitsFilter f) (FitsFilter x) (λ r was. record { host = was.host; first = was.first; own = was.own }) f.held steady.tidy.fits;
        unpassed = steady.tidy.unpassed;
      };
      none_due = All-weaker (λ (r : Record). is_due f r ≡ false) (λ (r : Record). is_due x r ≡ false) (λ r undue. false_from_ne_true (is_due x r) (λ is.
          true≢false (sym (due_from f r (due_parts x r is).0 (ap (λ o. is_held_back o r.host r.toid) free)) ∙ undue))) f.held steady.none_due;
    }

-- the next filter accepts
pub accepted_sound : (m : List (List Share)) (a : Announcement) (fs : List FilterState) → AreSound m (Some a) fs → a.next < length fs → is_past a.host a.mark (filter_at fs a.next) ≡ false → AreSound m (Some (asked_next a)) (accepted_next a fs)
accepted_sound m a fs sound low past = record {
  each = all_at IsSteady (set fs a.next new) (at_set (λ _ x. IsSteady x) fs a.next new (accepts old a.host a.mark (sound.each a.next no_filter low) unmarked past) (λ j within. sound.each j no_filter within));
  one_map = all_at (λ (x : FilterState). x.map ≡ m) (set fs a.next new) (at_set (λ _ (x : FilterState). x.map ≡ m) fs a.next new (sound.one_map a.next no_filter low) (λ j within. sound.one_map j no_filter within));
  numbers = at_set (λ j (x : FilterState). x.number ≡ j) fs a.next new (sound.numbers a.next low) sound.numbers;
  heard = λ i within. let inside : i < length fs = omega (arith, length-set fs a.next new) in elim (cases_eq i a.next) [
    | inl same ↦ ap (λ j. (filter_at (set fs a.next new) j).accepted) same ∙ ap (λ (x : FilterState). x.accepted) (get_or-set_same fs a.next new no_filter low)
        ∙ sym (cond-true (ltb i (a.next + 1)) (Some (mark_announced a)) None (lt-ltb i (a.next + 1) (omega arith)))
    | inr other ↦ ap (λ (x : FilterState). x.accepted) (get_or-set_other fs a.next i new no_filter other) ∙ sound.heard i inside ∙ elim (cases_lt i a.next) [
      | inl before ↦ cond-true (ltb i a.next) (Some (mark_announced a)) None (lt-ltb i a.next before) ∙ sym (cond-true (ltb i (a.next + 1)) (Some (mark_announced a)) None (lt-ltb i (a.next + 1) (omega arith)))
      | inr later ↦ cond-false (ltb i a.next) (Some (mark_announced a)) None (le-ltb i a.next later) ∙ sym (cond-false (ltb i (a.next + 1)) (Some (mark_announced a)) None (le-ltb i (a.next + 1) (omega arith)))
    ]
  ];
  host = λ b is. of_announcement (λ (x : Announcement). x.host < length m) (asked_next a) b is (sound.host a refl);
  asked = λ b is. of_announcement (λ (x : Announcement). x.next ≤ length (set fs a.next new)) (asked_next a) b is (omega (arith, low, length-set fs a.next new));
  later = λ b is. of_announcement (λ (x : Announcement). (last_share m x.host).start < x.mark) (asked_next a) b is (sound.later a refl);
  room = λ b is. of_announcement (λ (x : Announcement). (last_share m x.host).filters < 16) (asked_next a) b is (sound.room a refl);
  there = λ g t. omega (arith, sound.there g t, length-set fs a.next new);
  enough = λ g. omega (arith, sound.enough g, length-set fs a.next new);
}
  where
    old : FilterState
    old = filter_at fs a.next

    new : FilterState
    new = record (filter_at fs a.next) { accepted = Some (mark_announced a) }

    unmarked : (filter_at fs a.next).accepted ≡ None
    unmarked = sound.heard a.next low ∙ cond-false (ltb a.next a.next) (Some (mark_announced a)) None (le-ltb a.next a.next (omega arith))

-- A filter forgets its mark.
pub open_tidy : (f : FilterState) → IsTidy f → IsTidy (record f { accepted = None })
open_tidy f tidy = record {
  width = tidy.width;
  reached_own = tidy.reached_own;
  reached_open = λ h some. refl;
  rising = tidy.rising;
  fits = All-weaker (FitsFilter f) (FitsFilter (record f { accepted = None })) (λ r was. record { host = was.host; first = was.first; own = was.own }) f.held tidy.fits;
  unpassed = tidy.unpassed;
}

pub record IsCancelled (f : FilterState) (P : Item → Type 0) (y : FilterState) : Type 0 where
  pub steady : IsSteady y
  pub kept : HasKept f [] P y
  pub number : y.number ≡ f.number
  pub map : y.map ≡ f.map
  pub accepted : y.accepted ≡ None

pub cancels : (P : Item → Type 0) (f : FilterState) → IsSteady f → All (λ r. P (External r)) f.held → All P f.out → IsCancelled f P (cancelled f)
cancels P f steady held out =
    let x : FilterState = record f { accepted = None } in
    let tidy : IsTidy x = open_tidy f steady.tidy in
    let took : HasTaken x (λ _. 0) P (cancelled f) = released_takes x (λ _. 0) P x tidy (nothing_taken x P held out) in record {
      steady = released_steady x tidy;
      number = refl;
      map = refl;
      accepted = refl;
      kept = record { sums = λ g. omega (arith, took.sums g); passing = took.passing; held = took.held; out = took.out };
    }

pub cancel_loses_nothing : (f : FilterState) → IsSteady f → LosesNothing f (λ _. 0) [] (items_of f ++ []) (cancelled f)
cancel_loses_nothing f steady =
    let known : List Item = items_of f ++ [] in
    let all = cancels (Contains known) f steady (held_among f []) (out_among f []) in record {
      sums = λ m. omega (arith, all.kept.sums m);
      passing = all.kept.passing;
      each = all_items (Contains known) (cancelled f) [] all.kept.held all.kept.out (All-nil (λ (y : Record). Contains known (External y)));
    }

-- all filters forget it
pub cancelled_sound : (m : List (List Share)) (a : Option Announcement) (fs : List FilterState) → AreSound m a fs → AreSound m None (map cancelled fs)
cancelled_sound m a fs sound = record {
  each = All-map IsSteady cancelled fs (λ i f low. released_steady (record (get_or fs i f) { accepted = None }) (open_tidy (get_or fs i f) (sound.each i f low).tidy));
  one_map = All-map (λ (f : FilterState). f.map ≡ m) cancelled fs (λ i f low. sound.one_map i f low);
  numbers = at_map (λ i (f : FilterState). f.number ≡ i) cancelled fs (λ i low. sound.numbers i low);
  heard = at_map (λ i (f : FilterState). f.accepted ≡ mark_accepted None i) cancelled fs (λ i low. refl);
  host = no_announcement (λ (x : Announcement). x.host < length m);
  asked = no_announcement (λ (x : Announcement). x.next ≤ length (map cancelled fs));
  later = no_announcement (λ (x : Announcement). (last_share m x.host).start < x.mark);
  room = no_announcement (λ (x : Announcement). (last_share m x.host).filters < 16);
  there = λ g t. omega (arith, sound.there g t, length-map fs cancelled);
  enough = λ g. omega (arith, sound.enough g, length-map fs cancelled);
}

-- The grown map deals as before but for numbers of the host from the mark on.
share_from-append : (f : Share) (xs : List Share) (n : Share) (t : ℕ) → share_from f (xs ++ n ∷ []) t ≡ cond (leb n.start t) n (share_from f xs t)
share_from-append f [] n t = refl
share_from-append f (x ∷ xs) n t = share_from-append (cond (leb x.start t) x f) xs n t

module _ (m : List (List Share)) (h mark : ℕ) where
  abbrev shares : List Share
  shares = get_or m h []

  abbrev new_share : Share
  new_share = record { start = mark; filters = (last_share m h).filters + 1 }

  abbrev m_new : List (List Share)
  m_new = grown m h mark

  abbrev at_mark : Option AcceptedMark
  at_mark = Some (record { host = h; from = mark })

  -- the shares of a host in the grown map
  pub shares_of : (g : ℕ) → (get_or m_new g [] ≡ get_or m g []) ⊎ ((g ≡ h) × (get_or m_new g [] ≡ shares ++ new_share ∷ []))
  shares_of g = elim (cases_eq g h) [
    | inr other ↦ inl (get_or-set_other m h g (shares ++ new_share ∷ []) [] other)
    | inl same ↦ elim (cases_lt h (length m)) [
      | inr past ↦ inl (ap (λ x. get_or x g []) (set_past m h (shares ++ new_share ∷ []) past))
      | inl within ↦ inr (same, ap (λ i. get_or m_new i []) same ∙ get_or-set_same m h (shares ++ new_share ∷ []) [] within)
    ]
  ]

  pub champion_same : (g t : ℕ) → is_held_back at_mark g t ≡ false → champion m_new g t ≡ champion m g t
  champion_same g t below = elim (shares_of g) [
    | inl same ↦ ap (λ ss. dealt_from sole_share ss g t) same
    | inr grew ↦
        let not_yet : leb mark t ≡ false = elim (and_cases (eqb h g) (leb mark t) below) [
          | inl apart ↦ absurd (eqb-false h g apart (sym grew.0))
          | inr low ↦ low
        ] in
        ap (λ ss. dealt_from sole_share ss g t) grew.1
        ∙ ap (λ s. dealt_by s g t) (share_from-append sole_share shares new_share t ∙ cond-false (leb mark t) new_share (share_from sole_share shares t) not_yet)
        ∙ ap (λ i. dealt_from sole_share (get_or m i []) g t) (sym grew.0)
  ]

  last_grown : (g : ℕ) → g ≡ h → get_or m_new g [] ≡ shares ++ new_share ∷ [] → last_share m_new h ≡ new_share
  last_grown g same is = ap (λ i. last_share m_new i) (sym same) ∙ ap (last_of_shares sole_share) is ∙ last_of_shares-push sole_share shares new_share

  -- a champion by the grown map is one by the old, or below the new number of filters
  pub champion_grown : (g t n : ℕ) → champion m g t < n → (last_share m_new h).filters ≤ n → champion m_new g t < n
  champion_grown g t n before enough = elim (shares_of g) [
    | inl same ↦ omega (arith, before, ap (λ ss. dealt_from sole_share ss g t) same)
    | inr grew ↦
        let count : (last_share m_new h).filters ≡ (last_share m h).filters + 1 = ap (λ (s : Share). s.filters) (last_grown g grew.0 grew.1) in
        let is : champion m_new g t ≡ dealt_by (cond (leb mark t) new_share (share_from sole_share shares t)) g t =
        ap (λ ss. dealt_from sole_share ss g t) grew.1 ∙ ap (λ s. dealt_by s g t) (share_from-append sole_share shares new_share t) in
        subst (λ c. c < n) (sym is) (cond_both (leb mark t) new_share (share_from sole_share shares t) (λ s. dealt_by s g t < n)
        (λ _. omega (arith, enough, count, mod_below ((g + t) - mark) ((last_share m h).filters + 1) (omega arith)))
        (λ _. omega (arith, before, ap (λ i. dealt_from sole_share (get_or m i []) g t) grew.0)))
  ]

  -- the last shares of the grown map have no more filters than there are, once one is made where it is needed
  pub enough_grown : (n : ℕ) → ((g : ℕ) → (last_share m g).filters ≤ n) → (last_share m_new h).filters ≤ n → (g : ℕ) → (last_share m_new g).filters ≤ n
  enough_grown n before high g = elim (shares_of g) [
    | inl same ↦ omega (arith, before g, ap (λ ss. (last_of_shares sole_share ss).filters) same)
    | inr grew ↦ omega (arith, high, ap (λ i. (last_share m_new i).filters) grew.0)
  ]

  -- where fewer than 16 filters serve the host, at most 16 do then
  pub few_grown : (last_share m h).filters < 16 → (last_share m_new h).filters ≤ 16
  few_grown few = elim (shares_of h) [
    | inl same ↦ omega (arith, few, ap (λ ss. (last_of_shares sole_share ss).filters) same)
    | inr grew ↦ omega (arith, few, ap (λ (s : Share). s.filters) (last_grown h grew.0 grew.1))
  ]

  pub one_more : (n : ℕ) → ((g : ℕ) → (last_share m g).filters ≤ n) → (last_share m_new h).filters ≤ n + 1
  one_more n before = elim (shares_of h) [
    | inl same ↦ omega (arith, before h, ap (λ ss. (last_of_shares sole_share ss).filters) same)
    | inr grew ↦ omega (arith, before h, ap (λ (s : Share). s.filters) (last_grown h grew.0 grew.1))
  ]

-- A filter at its activation.
pub record IsActivated (m : List (List Share)) (f : FilterState) (P : Item → Type 0) (y : FilterState) : Type 0 where
  pub steady : IsSteady y
  pub kept : HasKept f (handed_out m f) P y
  pub number : y.number ≡ f.number
  pub map : y.map ≡ m
  pub accepted : y.accepted ≡ None

module _ (m : List (List Share)) (h mark : ℕ) (f : FilterState) (fm : f.map ≡ m) (marked : f.accepted ≡ Some (record { host = h; from = mark })) (steady : IsSteady f) where
  abbrev m_on : List (List Share)
  m_on = grown m h mark

  abbrev on : FilterState
  on = record f { map = m_on; accepted = None; held = filter (is_own m_on f.number) f.held }

  -- a number up to the greatest that was passed is owned as before
  owned_same : (g t : ℕ) → 1 ≤ get_or f.reached g 0 → t ≤ get_or f.reached g 0 → owns on g t ≡ owns f g t
  owned_same g t some low = ap (λ c. eqb c f.number) (champion_same m h mark g t below ∙ ap (λ x. champion x g t) (sym fm))
    where
      below : is_held_back (Some (record { host = h; from = mark })) g t ≡ false
      below = ap (λ o. is_held_back o g t) (sym marked) ∙ held_back_below f.accepted g (get_or f.reached g 0) t (steady.tidy.reached_open g some) low

  pub on_tidy : IsTidy on
  on_tidy = record {
    width = steady.tidy.width ∙ ap (length {A = List Share}) fm ∙ sym (length-set m h (get_or m h [] ++ (record { start = mark; filters = (last_share m h).filters + 1 }) ∷ []));
    reached_own = λ g some. owned_same g (get_or f.reached g 0) some (omega arith) ∙ steady.tidy.reached_own g some;
    reached_open = λ g some. refl;
    rising = AllPairs-filter (λ (q r : Record). stands_before r.host r.toid q ≡ true) (is_own m_on f.number) f.held steady.tidy.rising;
    fits = all_from_contains (FitsFilter on) (filter (is_own m_on f.number) f.held) (λ r has.
        let parts = Contains-filter (is_own m_on f.number) f.held r has in
        let was = All-contains (FitsFilter f) f.held r steady.tidy.fits parts.0 in record {
          host = omega (arith, was.host, ap (length {A = List Share}) fm, length-set m h (get_or m h [] ++ (record { start = mark; filters = (last_share m h).filters + 1 }) ∷ []));
          first = was.first;
          own = eqb-true (champion m_on r.host r.toid) f.number parts.1;
        });
    unpassed = all_from_contains (λ (r : Record). is_passed on r.host r.toid ≡ false) (filter (is_own m_on f.number) f.held) (λ r has. false_from_ne_true (is_passed on r.host r.toid) (λ is.
        let parts = passed_parts on r.host r.toid is in
        let in_held = (Contains-filter (is_own m_on f.number) f.held r has).0 in
        let own : owns f r.host r.toid ≡ true = own_is f r (All-contains (FitsFilter f) f.held r steady.tidy.fits in_held) in
        true≢false (sym (passed_from f r.host r.toid parts.0 parts.1 own) ∙ All-contains (λ (q : Record). is_passed f q.host q.toid ≡ false) f.held r steady.tidy.unpassed in_held)));
  }

  -- what was passed is passed by the grown map, and nothing else
  pub passed_same : (g t : ℕ) → is_passed on g t ≡ is_passed f g t
  passed_same g t = same_and (leb 1 t) (leb t (get_or f.reached g 0)) (owns on g t) (owns f g t) (λ some low.
      let first = leb-true 1 t some in
      let below = leb-true t (get_or f.reached g 0) low in
      owned_same g t (omega arith) below)
    where
      same_and : (a b x y : Bool) → (a ≡ true → b ≡ true → x ≡ y) → (a && (b && x)) ≡ (a && (b && y))
      same_and true true x y same = same refl refl
      same_and true false x y same = refl
      same_and false b x y same = refl

  pub activated_steady : IsSteady (activated m_on f)
  activated_steady = released_steady on on_tidy

  pub activates : (P : Item → Type 0) → All (λ r. P (External r)) f.held → All P f.out → IsActivated m_on f P (activated m_on f)
  activates P held out =
      let took : HasTaken on (λ _. 0) P (activated m_on f) = released_takes on (λ _. 0) P on on_tidy (nothing_taken on P (All-filter (is_own m_on f.number) (λ (r : Record). P (External r)) f.held held) out) in record {
        steady = activated_steady;
        number = refl;
        map = refl;
        accepted = refl;
        kept = record {
          sums = λ g. omega (arith, took.sums g, sum_by-split (λ r. g (External r)) (is_own m_on f.number) f.held);
          passing = λ g t. omega (arith, took.passing g t, ap {B = ℕ} (λ b. cond b 1 0) (passed_same g t));
          held = took.held;
          out = took.out;
        };
      }

  pub activate_loses_nothing : LosesNothing f (λ _. 0) (handed_out m_on f) (items_of f ++ []) (activated m_on f)
  activate_loses_nothing =
      let known : List Item = items_of f ++ [] in
      let all = activates (Contains known) (held_among f []) (out_among f []) in record {
        sums = λ w. omega (arith, all.kept.sums w);
        passing = all.kept.passing;
        each = all_items (Contains known) (activated m_on f) (handed_out m_on f) all.kept.held all.kept.out
            (All-filter (λ r. not (is_own m_on f.number r)) (λ (r : Record). Contains known (External r)) f.held (held_among f []));
      }

pub activation_loses_nothing : (f : FilterState) (mark : AcceptedMark) → IsSteady f → f.accepted ≡ Some mark → LosesNothing f (λ _. 0) (handed_out (grown f.map mark.host mark.from) f) (items_of f ++ []) (activated (grown f.map mark.host mark.from) f)
activation_loses_nothing f mark steady marked = activate_loses_nothing f.map mark.host mark.from f refl marked steady

-- what filters hand out is what they held
pub handed_flat : (P : Item → Type 0) (m : List (List Share)) (fs : List FilterState) → All (λ f. All (λ r. P (External r)) f.held) fs → All (λ r. P (External r)) (flat_map (handed_out m) fs)
handed_flat P m [] all = All-nil (λ (r : Record). P (External r))
handed_flat P m (f ∷ fs) all = All-append (λ (r : Record). P (External r)) (handed_out m f) (flat_map (handed_out m) fs)
    (All-filter (λ r. not (is_own m f.number r)) (λ (r : Record). P (External r)) f.held (All-head (λ (x : FilterState). All (λ r. P (External r)) x.held) f fs all))
    (handed_flat P m fs (All-tail (λ (x : FilterState). All (λ r. P (External r)) x.held) f fs all))

pub All-handed : (P : Item → Type 0) (m : List (List Share)) (fs : List FilterState) → All (λ f. All (λ r. P (External r)) f.held) fs → All P (map External (flat_map (handed_out m) fs))
All-handed P m fs all = All-map P External (flat_map (handed_out m) fs) (handed_flat P m fs all)

-- All filters at an activation.
module _ (m : List (List Share)) (a : Announcement) (fs : List FilterState) (sound : AreSound m (Some a) fs) (all_heard : length fs ≤ a.next) where
  abbrev m_grown : List (List Share)
  m_grown = grown_by a m

  abbrev fs_on : List FilterState
  fs_on = map (activated m_grown) fs

  abbrev made : FilterState
  made = new_filter (length fs) m_grown

  pub marked_at : (i : ℕ) (f : FilterState) → i < length fs → (get_or fs i f).accepted ≡ Some (mark_announced a)
  marked_at i f low = ap (λ (x : FilterState). x.accepted) (get_or_default fs i f no_filter low) ∙ sound.heard i low ∙ cond-true (ltb i a.next) (Some (mark_announced a)) None (lt-ltb i a.next (omega arith))

  pub all_activated : (P : Item → Type 0) → All (λ f. All (λ r. P (External r)) f.held) fs → All (λ f. All P f.out) fs → All (λ f. IsActivated m_grown f P (activated m_grown f)) fs
  all_activated P held out = λ i f low. activates m a.host a.mark (get_or fs i f) (sound.one_map i f low) (marked_at i f low) (sound.each i f low) P (held i f low) (out i f low)

  steady_on : All IsSteady fs_on
  steady_on = All-map IsSteady (activated m_grown) fs (λ i f low. activated_steady m a.host a.mark (get_or fs i f) (sound.one_map i f low) (marked_at i f low) (sound.each i f low))

  size_on : length fs_on ≡ length fs
  size_on = length-map fs (activated m_grown)

  sound_on : (last_share m_grown a.host).filters ≤ length fs → AreSound m_grown None fs_on
  sound_on enough = record {
    each = steady_on;
    one_map = All-map (λ (f : FilterState). f.map ≡ m_grown) (activated m_grown) fs (λ i f low. refl);
    numbers = at_map (λ i (f : FilterState). f.number ≡ i) (activated m_grown) fs (λ i low. sound.numbers i low);
    heard = at_map (λ i (f : FilterState). f.accepted ≡ mark_accepted None i) (activated m_grown) fs (λ i low. refl);
    host = no_announcement (λ (x : Announcement). x.host < length m_grown);
    asked = no_announcement (λ (x : Announcement). x.next ≤ length fs_on);
    later = no_announcement (λ (x : Announcement). (last_share m_grown x.host).start < x.mark);
    room = no_announcement (λ (x : Announcement). (last_share m_grown x.host).filters < 16);
    there = λ g t. omega (arith, champion_grown m a.host a.mark g t (length fs) (sound.there g t) enough, size_on);
    enough = λ g. omega (arith, enough_grown m a.host a.mark (length fs) sound.enough enough g, size_on);
  }

  at_push : (Q : ℕ → FilterState → Type 0) → ((i : ℕ) → i < length fs_on → Q i (filter_at fs_on i)) → Q (length fs) made → (i : ℕ) → i < length (fs_on ++ made ∷ []) → Q i (filter_at (fs_on ++ made ∷ []) i)
  at_push Q all here i low = elim (cases_lt i (length fs_on)) [
    | inl old ↦ subst (Q i) (sym (get_or_append_left fs_on (made ∷ []) no_filter i old)) (all i old)
    | inr new ↦ let at : length fs_on ≡ i = omega (arith, length_push fs_on made) in
        subst (Q i) (sym (get_or_push fs_on made no_filter i at)) (subst (λ j. Q j made) (sym size_on ∙ at) here)
  ]

  sound_made : AreSound m_grown None (fs_on ++ made ∷ [])
  sound_made = record {
    each = All-push IsSteady fs_on made steady_on (new_steady (length fs) m_grown);
    one_map = All-push (λ (f : FilterState). f.map ≡ m_grown) fs_on made (All-map (λ (f : FilterState). f.map ≡ m_grown) (activated m_grown) fs (λ i f low. refl)) refl;
    numbers = at_push (λ i (f : FilterState). f.number ≡ i) (at_map (λ i (f : FilterState). f.number ≡ i) (activated m_grown) fs (λ i low. sound.numbers i low)) refl;
    heard = at_push (λ i (f : FilterState). f.accepted ≡ mark_accepted None i) (at_map (λ i (f : FilterState). f.accepted ≡ mark_accepted None i) (activated m_grown) fs (λ i low. refl)) refl;
    host = no_announcement (λ (x : Announcement). x.host < length m_grown);
    asked = no_announcement (λ (x : Announcement). x.next ≤ length (fs_on ++ made ∷ []));
    later = no_announcement (λ (x : Announcement). (last_share m_grown x.host).start < x.mark);
    room = no_announcement (λ (x : Announcement). (last_share m_grown x.host).filters < 16);
    there = λ g t. omega (arith, champion_grown m a.host a.mark g t (length fs + 1) (omega (arith, sound.there g t)) top_is, size_on, length_push fs_on made);
    enough = λ g. omega (arith, enough_grown m a.host a.mark (length fs + 1) (λ k. omega (arith, sound.enough k)) top_is g, size_on, length_push fs_on made);
  }
    where
      top_is : (last_share m_grown a.host).filters ≤ length fs + 1
      top_is = one_more m a.host a.mark (length fs) sound.enough

  pub grown_sound : AreSound m_grown None (filters_grown a m fs)
  grown_sound = cond_both (ltb (length fs) (last_share m_grown a.host).filters) (fs_on ++ made ∷ []) fs_on (AreSound m_grown None)
      (λ needed. sound_made) (λ enough. sound_on (ltb-false (length fs) (last_share m_grown a.host).filters enough))

  -- there are no more than 16
  pub grown_few : length fs ≤ 16 → length (filters_grown a m fs) ≤ 16
  grown_few few = cond_both (ltb (length fs) (last_share m_grown a.host).filters) (fs_on ++ made ∷ []) fs_on (λ gs. length gs ≤ 16)
      (λ needed. omega (arith, ltb-true (length fs) (last_share m_grown a.host).filters needed, few_grown m a.host a.mark (sound.room a refl), size_on, length_push fs_on made))
      (λ enough. omega (arith, few, size_on))

  -- a filter that is made has nothing
  pub grown_sums : (g : Item → ℕ) → (in_held g (filters_grown a m fs) ≡ in_held g fs_on) × (in_out g (filters_grown a m fs) ≡ in_out g fs_on)
  grown_sums g = cond_both (ltb (length fs) (last_share m_grown a.host).filters) (fs_on ++ made ∷ []) fs_on (λ gs. (in_held g gs ≡ in_held g fs_on) × (in_out g gs ≡ in_out g fs_on))
      (λ needed. (
        omega (arith, sum_by_push (λ (x : FilterState). sum_by (λ r. g (External r)) x.held) fs_on made),
        omega (arith, sum_by_push (λ (x : FilterState). sum_by g x.out) fs_on made),
      )) (λ enough. (refl, refl))

  pub grown_passed : (h t : ℕ) → passed h t (filters_grown a m fs) ≡ passed h t fs_on
  grown_passed h t = cond_both (ltb (length fs) (last_share m_grown a.host).filters) (fs_on ++ made ∷ []) fs_on (λ gs. passed h t gs ≡ passed h t fs_on)
      (λ needed. omega (arith, sum_by_push (times_passed h t) fs_on made, made_passed h t)) (λ enough. refl)
    where
      made_passed : (h t : ℕ) → times_passed h t made ≡ 0
      made_passed h t = cond-false (is_passed made h t) 1 0 (false_from_ne_true (is_passed made h t) (λ is. let parts = passed_parts made h t is in absurd (omega (arith, parts.0, parts.1, none_reached (length m_grown) h))))

  pub grown_held : (P : Item → Type 0) → All (λ f. All (λ r. P (External r)) f.held) fs_on → All (λ f. All (λ r. P (External r)) f.held) (filters_grown a m fs)
  grown_held P all = cond_both (ltb (length fs) (last_share m_grown a.host).filters) (fs_on ++ made ∷ []) fs_on (All (λ f. All (λ r. P (External r)) f.held))
      (λ needed. All-push (λ (f : FilterState). All (λ r. P (External r)) f.held) fs_on made all (All-nil (λ (r : Record). P (External r)))) (λ enough. all)

  pub grown_out : (P : Item → Type 0) → All (λ f. All P f.out) fs_on → All (λ f. All P f.out) (filters_grown a m fs)
  grown_out P all = cond_both (ltb (length fs) (last_share m_grown a.host).filters) (fs_on ++ made ∷ []) fs_on (All (λ f. All P f.out))
      (λ needed. All-push (λ (f : FilterState). All P f.out) fs_on made all (All-nil P)) (λ enough. all)
