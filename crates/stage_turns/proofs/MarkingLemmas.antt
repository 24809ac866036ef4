-- The filters of a datacentre while they are asked, forget a mark, or take a grown map, one after another.
use Rattle.std.proofs.Common.{◌≡◌, ◌≢◌, ℕ, zero, suc, ◌+◌, ◌<◌, ◌≤◌, Bool, true, false, cond, ltb, List, [], ◌∷◌, ◌++◌, length, map, fold, take, drop, set, get_or, refl, ap, ap₂, sym, ◌∙◌, subst, arith, add-one, append_assoc, append-nil, Option, Some, None}
use Rattle.std.specs.List.{All, flat_map}
use Rattle.std.specs.Option.{ForSome, option_map_or}
use Rattle.std.proofs.Math.Seq.{take-suc}
use Rattle.std.proofs.lemmas.List.{flat_map_more, get_or_default, length-map, length-set, set-get_or}
use Rattle.std.proofs.lemmas.List.Elements.{All-weaker}
use Rattle.std.proofs.lemmas.Option.{same_Some}
use Rattle.std.proofs.lemmas.Bool.{cond_both, cond-true, cond-false, lt-ltb, ltb-true, ltb-false, le-ltb}
use Rattle.causal_deps.specs.declared.record.Record.{Record}
use Rattle.causal_deps.specs.declared.record.Item.{Item}
use Rattle.causal_deps.specs.declared.record.Item.TheVariants.{External}
use Rattle.abstract_log.specs.declared.script.Outcome.TheVariants.{AcceptedBy, Active, Idle, LateAt}
use Rattle.toid_filter.specs.declared.champions.Share.{Share}
use Rattle.toid_filter.specs.declared.filter.Accept.TheVariants.{Accepted, Late}
use Rattle.toid_filter.specs.declared.filter.AcceptedMark.{AcceptedMark}
use Rattle.toid_filter.specs.Champions.{grown, last_share}
use Rattle.toid_filter.specs.Filters.{Announcement, AreSound, FilterState, FitsFilter, accept_told, accepted_by, activated, cancelled, filter_at, handed_out, is_past, mark_accepted, new_filter, no_filter}
use Rattle.toid_filter.specs.Marks.{accepted_next, asked_next, filters_grown, grown_by, mark_announced}
use Rattle.toid_filter.proofs.MarkLemmas.{All-handed, grown_few, grown_sound}
use Rattle.stage_marks.specs.declared.marks.NextMark.TheVariants.{Activate, Ask}
use Rattle.stage_marks.specs.Marks.{next_told}
use Rattle.stage_world.specs.Idle.{TellsChange, apart_from_epochs}
use Rattle.stage_world.specs.MarkTurns.{accept_next, activate_all, ask_next, cancel_all, mark_turn}
use Rattle.stage_world.specs.Stages.{Datacentre}
use Rattle.stage_world.specs.Turns.{Turned, quiet, taken_by}
use Rattle.stage_turns.specs.declared.done.TurnDone.{TurnDone}
use Rattle.stage_turns.specs.Flushing.{IsOfHosts, MayFlush}
use Rattle.stage_turns.specs.Marking.{AreWaiting, HasFilters, IsMarked, MayMark, filters_with}
use Rattle.stage_turns.proofs.ChangeLemmas.{tells_other}

module _ {X : Type 0} (f : X → X) where
  -- the first so many are changed
  abbrev pub mix : ℕ → List X → List X
  mix i xs = map f (take i xs) ++ drop i xs

  pub mix_at : (xs : List X) (i : ℕ) (d : X) → i < length xs → get_or (mix i xs) i d ≡ get_or xs i d
  mix_at [] i d within = absurd (omega (arith, within))
  mix_at (x ∷ xs) zero d within = refl
  mix_at (x ∷ xs) (suc i) d within = mix_at xs i d (omega (arith, within))

  mix_set : (xs : List X) (i : ℕ) (d : X) → i < length xs → set (mix i xs) i (f (get_or xs i d)) ≡ mix (suc i) xs
  mix_set [] i d within = absurd (omega (arith, within))
  mix_set (x ∷ xs) zero d within = refl
  mix_set (x ∷ xs) (suc i) d within = ap (λ ys. f x ∷ ys) (mix_set xs i d (omega (arith, within)))

  pub mix_length : (xs : List X) (i : ℕ) → length (mix i xs) ≡ length xs
  mix_length [] zero = refl
  mix_length [] (suc i) = refl
  mix_length (x ∷ xs) zero = refl
  mix_length (x ∷ xs) (suc i) = omega (arith, mix_length xs i)

  pub mix_all : (xs : List X) (i : ℕ) → length xs ≤ i → mix i xs ≡ map f xs
  mix_all [] zero past = refl
  mix_all [] (suc i) past = refl
  mix_all (x ∷ xs) zero past = absurd (omega (arith, past))
  mix_all (x ∷ xs) (suc i) past = ap (λ ys. f x ∷ ys) (mix_all xs i (omega (arith, past)))

  -- the one that is lent is as it was, and put back it is changed
  pub mix_lent : (old xs : List X) (i : ℕ) (was : X) → xs ≡ mix i old → i < length old → was ≡ get_or xs i was → was ≡ get_or old i was
  mix_lent old xs i was so_far within is = is ∙ ap (λ ys. get_or ys i was) so_far ∙ mix_at old i was within

  pub mix_next : (old xs : List X) (i : ℕ) (was now : X) → xs ≡ mix i old → i < length old → was ≡ get_or xs i was → now ≡ f was → set xs i now ≡ mix (i + 1) old
  mix_next old xs i was now so_far within is changed =
      ap₂ (λ ys y. set ys i y) so_far (changed ∙ ap f (mix_lent old xs i was so_far within is))
      ∙ mix_set old i was within ∙ ap (λ n. mix n old) (sym (add-one i))

-- what is handed out by one more
pub more_handed : {X : Type 0} (out : X → List Record) (start now new : List Item) (old : List X) (i : ℕ) (was : X) → now ≡ start ++ map External (flat_map out (take i old)) → i < length old → was ≡ get_or old i was
    → new ≡ now ++ map External (out was) → new ≡ start ++ map External (flat_map out (take (i + 1) old))
more_handed out start now new old i was so_far within is next =
    next ∙ ap (λ xs. xs ++ map External (out was)) so_far ∙ append_assoc start (map External (flat_map out (take i old))) (map External (out was))
    ∙ ap (λ xs. start ++ xs) (sym (map_both (flat_map out (take i old)) (out was)) ∙ ap (map External) (flat_map_more out [] (take i old) was)
    ∙ ap (λ y. map External (flat_map out (take i old ++ y ∷ []))) is ∙ ap (λ ys. map External (flat_map out ys)) (sym (take-suc old i was within)) ∙ ap (λ n. map External (flat_map out (take n old))) (sym (add-one i)))
  where
    map_both : (xs ys : List Record) → map External (xs ++ ys) ≡ map External xs ++ map External ys
    map_both [] ys = refl
    map_both (x ∷ xs) ys = ap (λ zs. External x ∷ zs) (map_both xs ys)

pub all_handed : {X : Type 0} (out : X → List Record) (start now : List Item) (old : List X) (i : ℕ) → now ≡ start ++ map External (flat_map out (take i old)) → length old ≤ i → now ≡ start ++ map External (flat_map out old)
all_handed out start now old i so_far past = so_far ∙ ap (λ xs. start ++ map External (flat_map out xs)) (take_past old i past)
  where
    take_past : {X : Type 0} (xs : List X) (n : ℕ) → length xs ≤ n → take n xs ≡ xs
    take_past [] zero past = refl
    take_past [] (suc n) past = refl
    take_past (x ∷ xs) zero past = absurd (omega (arith, past))
    take_past (x ∷ xs) (suc n) past = ap (λ ys. x ∷ ys) (take_past xs n (omega (arith, past)))

-- one record more goes into the batcher
pub one_added : (handed new whole : List Item) (items rest : List Record) (r : Record) → handed ++ map External items ≡ whole → items ≡ r ∷ rest → new ≡ handed ++ External r ∷ [] → new ++ map External rest ≡ whole
one_added handed new whole items rest r so_far is next =
    ap (λ xs. xs ++ map External rest) next ∙ append_assoc handed (External r ∷ []) (map External rest) ∙ ap (λ xs. handed ++ map External xs) (sym is) ∙ so_far

pub none_left : (handed whole : List Item) (items : List Record) → handed ++ map External items ≡ whole → length items ≡ 0 → handed ≡ whole
none_left handed whole [] so_far ended = sym (append-nil handed) ∙ so_far
none_left handed whole (r ∷ rest) so_far ended = absurd (omega (arith, ended))

-- What is asked next of the announcement that is on.
pub asks_next : (a : Announcement) (n f : ℕ) → next_told (Some a) n ≡ Ask f → (a.next < n) × (a.next ≡ f)
asks_next a n f = cond_both (ltb a.next n) (Ask a.next) Activate (λ k. k ≡ Ask f → (a.next < n) × (a.next ≡ f)) (λ low is. (ltb-true a.next n low, cc)) (λ _ is. absurd (cc))

pub all_heard : (a : Announcement) (n : ℕ) → next_told (Some a) n ≡ Activate → n ≤ a.next
all_heard a n = cond_both (ltb a.next n) (Ask a.next) Activate (λ k. k ≡ Activate → n ≤ a.next) (λ _ is. absurd (cc)) (λ past is. ltb-false a.next n past)

no_less : (n : ℕ) → n ≡ n + 1 → ⊥
no_less n same = omega (arith, same)

-- another announcement is another datacentre
other_announcement : (z y : Datacentre) → z.announcement ≢ y.announcement → TellsChange true z y
other_announcement z y apart = tells_other (apart_from_epochs z) (apart_from_epochs y) (λ same. apart (ap (λ (x : Datacentre). x.announcement) same))

-- the hosts of the accepted marks are there
pub hosts_there : (m : List (List Share)) (on : Option Announcement) (fs : List FilterState) → AreSound m on fs → All (λ f. ForSome f.accepted (λ mark. mark.host < length f.map)) fs
hosts_there m on fs sound i f low mark is =
    let marked : mark_accepted on i ≡ Some mark = sym (sound.heard i low) ∙ ap (λ (x : FilterState). x.accepted) (sym (get_or_default fs i f no_filter low)) ∙ is in
    omega (arith, at on refl marked, ap (length {A = List Share}) (sound.one_map i f low))
  where
    at : (o : Option Announcement) → on ≡ o → mark_accepted o i ≡ Some mark → mark.host < length m
    at None same none = absurd (cc)
    at (Some a) same some =
        cond_both (ltb i a.next) (Some (mark_announced a)) None (λ o. o ≡ Some mark → mark.host < length m)
        (λ _ here. let one : mark_announced a ≡ mark = same_Some (mark_announced a) mark here in omega (arith, sound.host a same, ap (λ (k : AcceptedMark). k.host) one)) (λ _ none. absurd (cc)) some

-- The next filter is asked.
module _ (m : List (List Share)) (a : Announcement) (fs : List FilterState) (may : MayMark m (Some a) fs) (low : a.next < length fs) (z : Datacentre) (has : HasFilters z m (Some a) fs) where
  abbrev asked : FilterState
  asked = filter_at fs a.next

  abbrev asking : Option Announcement → List FilterState → Turned
  asking o gs = option_map_or
      (λ b. cond (ltb b.next (length gs)) (ask_next z b) (quiet (Active (last_share (activate_all z b).map b.host).filters) (activate_all z b))) o (quiet Idle z)

  is_asked : mark_turn z ≡ ask_next z a
  is_asked =
      ap₂ asking has.on_is has.filters_are
      ∙ cond-true (ltb a.next (length fs)) (ask_next z a) (quiet (Active (last_share (activate_all z a).map a.host).filters) (activate_all z a)) (lt-ltb a.next (length fs) low)

  at_filter : filter_at z.filters a.next ≡ asked
  at_filter = ap (λ gs. filter_at gs a.next) has.filters_are

  abbrev if_past : Bool → Turned
  if_past b = cond b (quiet (LateAt a.next (get_or (filter_at z.filters a.next).reached a.host 0)) (cancel_all z)) (quiet (AcceptedBy a.next) (accept_next z a))

  by_past : (b : Bool) → is_past a.host a.mark asked ≡ b → mark_turn z ≡ if_past b
  by_past b is = is_asked ∙ ap if_past (ap (is_past a.host a.mark) at_filter ∙ is)

  -- it accepts the mark
  pub accepts_is : (filter : ℕ) (fs' : List FilterState) (on : Option Announcement) (done : TurnDone) → is_past a.host a.mark asked ≡ false → filter ≡ a.next → fs' ≡ accepted_next a fs → on ≡ Some (asked_next a)
      → done ≡ record { outcome = AcceptedBy filter; events = []; changed = true } → IsMarked z (mark_turn z) m on fs' done
  accepts_is filter fs' on done past at filters next is = record {
    stages = ap (λ (t : Turned). t.after) (by_past false past)
        ∙ ap₂ (λ gs o. record z { filters = gs; announcement = o }) (ap (accepted_next a) has.filters_are ∙ sym filters) (sym next) ∙ ap (λ k. record z { map = k; filters = fs'; announcement = on }) has.map_is;
    outcome = ap (λ (t : TurnDone). t.outcome) is ∙ ap AcceptedBy at ∙ sym (ap (λ (t : Turned). t.outcome) (by_past false past));
    events = ap (λ (t : TurnDone). t.events) is ∙ sym (ap (λ (t : Turned). t.events) (by_past false past));
    changed = subst (λ (t : TurnDone). TellsChange t.changed z (mark_turn z).after) (sym is) (subst (λ (t : Turned). TellsChange true z t.after) (sym (by_past false past))
        (other_announcement z (accept_next z a) (λ same. no_less a.next (ap (λ (b : Announcement). b.next) (same_Some a (asked_next a) (sym has.on_is ∙ same))))));
  }

  -- it has passed the mark
  pub late_is : (filter passed : ℕ) (fs' : List FilterState) (on : Option Announcement) (done : TurnDone) → is_past a.host a.mark asked ≡ true → filter ≡ a.next → passed ≡ get_or asked.reached a.host 0 → fs' ≡ map cancelled fs → on ≡ None
      → done ≡ record { outcome = LateAt filter passed; events = []; changed = true } → IsMarked z (mark_turn z) m on fs' done
  late_is filter passed fs' on done past at number filters next is = record {
    stages = ap (λ (t : Turned). t.after) (by_past true past)
        ∙ ap₂ (λ gs o. record z { filters = gs; announcement = o }) (ap (map cancelled) has.filters_are ∙ sym filters) (sym next) ∙ ap (λ k. record z { map = k; filters = fs'; announcement = on }) has.map_is;
    outcome = ap (λ (t : TurnDone). t.outcome) is ∙ ap₂ LateAt at (number ∙ sym (ap (λ (f : FilterState). get_or f.reached a.host 0) at_filter)) ∙ sym (ap (λ (t : Turned). t.outcome) (by_past true past));
    events = ap (λ (t : TurnDone). t.events) is ∙ sym (ap (λ (t : Turned). t.events) (by_past true past));
    changed = subst (λ (t : TurnDone). TellsChange t.changed z (mark_turn z).after) (sym is) (subst (λ (t : Turned). TellsChange true z t.after) (sym (by_past true past))
        (other_announcement z (cancel_all z) (λ same. nothing_some (sym has.on_is ∙ same))));
  }
    where
      nothing_some : Some a ≡ None → ⊥
      nothing_some is = cc

-- what the answer tells of the filter
pub told_accepted : (h mark : ℕ) (f : FilterState) → Accepted ≡ accept_told h mark f → is_past h mark f ≡ false
told_accepted h mark f is = at (is_past h mark f) is
  where
    at : (b : Bool) → Accepted ≡ cond b (Late (get_or f.reached h 0)) Accepted → b ≡ false
    at true same = absurd (cc)
    at false same = refl

pub told_late : (h mark passed : ℕ) (f : FilterState) → Late passed ≡ accept_told h mark f → (is_past h mark f ≡ true) × (passed ≡ get_or f.reached h 0)
told_late h mark passed f is = at (is_past h mark f) is
  where
    at : (b : Bool) → Late passed ≡ cond b (Late (get_or f.reached h 0)) Accepted → (b ≡ true) × (passed ≡ get_or f.reached h 0)
    at true same = (refl, cc)
    at false same = absurd (cc)

pub by_told : (h mark : ℕ) (was now : FilterState) (b : Bool) → now ≡ accepted_by h mark was → is_past h mark was ≡ b → now ≡ cond b was (record was { accepted = Some (record { host = h; from = mark }) })
by_told h mark was now b is past = is ∙ ap (λ t. cond t was (record was { accepted = Some (record { host = h; from = mark }) })) past

-- All accepted it: they take the grown map.
module _ (m : List (List Share)) (a : Announcement) (fs : List FilterState) (may : MayMark m (Some a) fs) (heard : length fs ≤ a.next) where
  abbrev pub gm : List (List Share)
  gm = grown_by a m

  marked_at : (i : ℕ) (f : FilterState) → i < length fs → (get_or fs i f).accepted ≡ Some (mark_announced a)
  marked_at i f low = ap (λ (x : FilterState). x.accepted) (get_or_default fs i f no_filter low) ∙ may.sound.heard i low ∙ cond-true (ltb i a.next) (Some (mark_announced a)) None (lt-ltb i a.next (omega (arith, low, heard)))

  pub are_waiting : (g : List (List Share)) → g ≡ gm → AreWaiting g fs
  are_waiting g g_is i f low = (
    (mark_announced a, marked_at i f low, g_is ∙ ap (λ k. grown k a.host a.mark) (sym (may.sound.one_map i f low))),
    hosts_there m (Some a) fs may.sound i f low,
  )

  hosts_same : length gm ≡ length m
  hosts_same = length-set m a.host (get_or m a.host [] ++ (record { start = a.mark; filters = (last_share m a.host).filters + 1 }) ∷ [])

  pub filters_are : (serving : ℕ) → serving ≡ (last_share gm a.host).filters → filters_with gm serving (map (activated gm) fs) ≡ filters_grown a m fs
  filters_are serving is =
      ap₂ (λ n s. cond (ltb n s) (map (activated gm) fs ++ new_filter n gm ∷ []) (map (activated gm) fs)) (length-map fs (activated gm)) is

  pub may_flush_handed : MayFlush gm (filters_grown a m fs) (map External (flat_map (handed_out gm) fs))
  may_flush_handed =
      let sound : AreSound gm None (filters_grown a m fs) = grown_sound m a fs may.sound heard in
      record {
        serving = record { one_map = sound.one_map; numbers = sound.numbers; there = sound.there; few = grown_few m a fs may.sound heard may.few };
        of_hosts = All-handed (IsOfHosts (length gm)) gm fs (λ i f low. All-weaker (FitsFilter (get_or fs i f)) (λ (r : Record). (r.host < length gm) × (1 ≤ r.toid))
            (λ r was. (omega (arith, was.host, hosts_same, ap (length {A = List Share}) (may.sound.one_map i f low)), was.first)) (get_or fs i f).held (may.sound.each i f low).tidy.fits);
      }

  module _ (z : Datacentre) (has : HasFilters z m (Some a) fs) where
    abbrev marking : Option Announcement → List FilterState → Turned
    marking o gs = option_map_or
        (λ b. cond (ltb b.next (length gs)) (ask_next z b) (quiet (Active (last_share (activate_all z b).map b.host).filters) (activate_all z b))) o (quiet Idle z)

    is_activated : mark_turn z ≡ quiet (Active (last_share (activate_all z a).map a.host).filters) (activate_all z a)
    is_activated =
        ap₂ marking has.on_is has.filters_are
        ∙ cond-false (ltb a.next (length fs)) (ask_next z a) (quiet (Active (last_share (activate_all z a).map a.host).filters) (activate_all z a)) (le-ltb a.next (length fs) heard)

    pub activates_is : (g : List (List Share)) (fs' : List FilterState) (on : Option Announcement) (serving : ℕ) (done : TurnDone) → g ≡ gm
        → fs' ≡ fold (taken_by gm) (filters_grown a m fs) (map External (flat_map (handed_out gm) fs)) → on ≡ None → serving ≡ (last_share gm a.host).filters
        → done ≡ record { outcome = Active serving; events = []; changed = true } → IsMarked z (mark_turn z) g on fs' done
    activates_is g fs' on serving done g_is filters none count is = record {
      stages = ap (λ (t : Turned). t.after) is_activated
          ∙ ap₂ (λ k gs. record z { filters = fold (taken_by (grown_by a k)) (filters_grown a k gs) (map External (flat_map (handed_out (grown_by a k)) gs)); map = grown_by a k; announcement = None }) has.map_is has.filters_are
          ∙ ap₂ (λ k gs. record z { filters = gs; map = k; announcement = None }) (sym g_is) (sym filters) ∙ ap (λ o. record z { filters = fs'; map = g; announcement = o }) (sym none);
      outcome = ap (λ (t : TurnDone). t.outcome) is ∙ ap Active (count ∙ ap (λ k. (last_share (grown_by a k) a.host).filters) (sym has.map_is)) ∙ sym (ap (λ (t : Turned). t.outcome) is_activated);
      events = ap (λ (t : TurnDone). t.events) is ∙ sym (ap (λ (t : Turned). t.events) is_activated);
      changed = subst (λ (t : TurnDone). TellsChange t.changed z (mark_turn z).after) (sym is) (subst (λ (t : Turned). TellsChange true z t.after) (sym is_activated)
          (other_announcement z (activate_all z a) (λ same. nothing_some (sym has.on_is ∙ same))));
    }
      where
        nothing_some : Some a ≡ None → ⊥
        nothing_some is = cc

-- a filter that is put back as it was leaves all that holds of them
pub put_back_all : (fs : List FilterState) (i : ℕ) (was now : FilterState) → was ≡ get_or fs i was → now ≡ was → All (λ f. ForSome f.accepted (λ mark. mark.host < length f.map)) fs → All (λ f. ForSome f.accepted (λ mark. mark.host < length f.map)) (set fs i now)
put_back_all fs i was now is same all = subst (All (λ f. ForSome f.accepted (λ mark. mark.host < length f.map))) (sym (ap (set fs i) (same ∙ is) ∙ set-get_or fs i was)) all
