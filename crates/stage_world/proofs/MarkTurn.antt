-- The turns by which one filter more comes to serve a host keep what the stages stand for.
use Rattle.std.proofs.Common.{◌≡◌, ℕ, ◌+◌, ◌<◌, ◌≤◌, false, cond, leb, ltb, List, [], ◌∷◌, ◌++◌, length, map, get_or, set, refl, ap, ◌∙◌, subst, inl, inr, arith, Option, Some, None}
use Rattle.std.specs.List.{All, sum_by, fold, flat_map}
use Rattle.std.specs.Option.{option_map_or}
use Rattle.std.proofs.lemmas.List.{length-set, length-map, length_push, get_or_push, set_at}
use Rattle.std.proofs.lemmas.List.Elements.{All-nil, All-push}
use Rattle.std.proofs.lemmas.List.Sums.{sum_by_push}
use Rattle.std.proofs.lemmas.Bool.{cond_both, ltb-true, ltb-false, leb-false}
use Rattle.causal_deps.specs.declared.record.Record.{Record}
use Rattle.causal_deps.specs.declared.record.Item.{Item}
use Rattle.causal_deps.specs.declared.record.Item.TheVariants.{External}
use Rattle.abstract_log.specs.declared.world.World.{World}
use Rattle.abstract_log.specs.declared.script.Outcome.{Outcome}
use Rattle.abstract_log.specs.declared.script.Outcome.TheVariants.{Absent, Announced, Busy, LateStart, Idle, AcceptedBy, LateAt, Active}
use Rattle.abstract_log.specs.Worlds.{pending_of}
use Rattle.abstract_log.specs.Fits.{IsSize}
use Rattle.toid_filter.specs.declared.champions.Share.{Share}
use Rattle.toid_filter.specs.Champions.{grown, last_share, last_of_shares, sole_share}
use Rattle.toid_filter.specs.Filters.{FilterState, Announcement, no_filter, new_filter, filter_at, times_passed, is_past, cancelled, activated, handed_out, AreSound}
use Rattle.toid_filter.specs.Marks.{mark_announced, asked_next, grown_by, filters_grown}
use Rattle.toid_filter.proofs.SumLemmas.{AllKeep, kept_sums, kept_passing, kept_held, sum_by-map_external}
use Rattle.toid_filter.proofs.MarkLemmas.{cancels, accepted_sound, cancelled_sound, shares_of, All-handed, all_activated, grown_sound, grown_sums, grown_passed, grown_held, grown_out}
use Rattle.toid_filter.proofs.ShareLemmas.{last_of_shares-push}
use Rattle.stage_world.specs.Stages.{Datacentre, in_batchers}
use Rattle.toid_filter.specs.Sums.{is_named}
use Rattle.stage_world.specs.Turns.{quiet, taken_by}
use Rattle.stage_world.specs.MarkTurns.{announced, announce_idle, announce_turn, cancel_all, accept_next, activate_all, ask_next, mark_turn}
use Rattle.stage_world.specs.StandsFor.{StandsAt, AreUnderWay, IsDue}
use Rattle.stage_world.specs.Whole.{Keeps, datacentre_of}
use Rattle.stage_world.proofs.ListLemmas.{All-set_at, sum_by-set_same}
use Rattle.stage_world.proofs.AnnounceTurn.{announce_keeps}
use Rattle.stage_world.proofs.FlushTurn.{all_taken_keep, length-taken, under_way_by_sums, stands_with}

-- where fewer than 16 filters serve a host, the grown map has at most 16 for it
few_grown : (m : List (List Share)) (h mark : ℕ) → (last_share m h).filters < 16 → (last_share (grown m h mark) h).filters ≤ 16
few_grown m h mark few = elim (shares_of m h mark h) [
  | inl same ↦ omega (arith, few, ap (λ ss. (last_of_shares sole_share ss).filters) same)
  | inr grew ↦
      let new : Share = record { start = mark; filters = (last_share m h).filters + 1 } in
      let is : last_share (grown m h mark) h ≡ new = ap (last_of_shares sole_share) grew.1 ∙ last_of_shares-push sole_share (get_or m h []) new in
      omega (arith, few, ap (λ (s : Share). s.filters) is)
]

-- nothing is given away
abbrev nothing : FilterState → List Record
nothing f = []

none_given : (fs : List FilterState) (g : Item → ℕ) → sum_by (λ r. g (External r)) (flat_map nothing fs) ≡ 0
none_given [] g = refl
none_given (f ∷ fs) g = none_given fs g

-- a filter has passed the mark: the announcement is off
pub cancel_keeps : (w : World) (d : ℕ) (z : Datacentre) → StandsAt w d z → StandsAt w d (cancel_all z)
cancel_keeps w d z h =
    let D : Item → Type 0 = IsDue w.workload w.sessions w.logs (pending_of w d) d in
    let fs : List FilterState = map cancelled z.filters in
    let size : length fs ≡ length z.filters = length-map z.filters cancelled in
    let kept : AllKeep D cancelled nothing z.filters = λ i f low. (cancels D (get_or z.filters i f) (h.items.sound.each i f low) (h.items.under_way.due.held i f low) (h.items.under_way.due.out i f low)).kept in
    let held = kept_held D cancelled nothing z.filters kept in
    stands_with w d z z.batchers fs z.map None refl (omega (arith, size, h.membership.members.ranges.filters.0), omega (arith, size, h.membership.members.ranges.filters.1)) refl
    (cancelled_sound z.map z.announcement z.filters h.items.sound)
    (under_way_by_sums w.workload w.sessions w.logs (pending_of w d) d z.queues z.token.deferred z.batchers z.batchers z.filters fs
    (λ g. omega (arith, kept_sums D cancelled nothing z.filters g kept, none_given z.filters g))
    (λ g t. kept_passing D cancelled nothing z.filters g t kept)
    h.items.under_way.due.batchers held.0 held.1 h.items.under_way)
    h

module _ (w : World) (d : ℕ) (z : Datacentre) (h : StandsAt w d z) (a : Announcement) (is : z.announcement ≡ Some a) where
  abbrev D : Item → Type 0
  D = IsDue w.workload w.sessions w.logs (pending_of w d) d

  sound_some : AreSound z.map (Some a) z.filters
  sound_some = subst (λ o. AreSound z.map o z.filters) is h.items.sound

  -- the next filter accepts the mark
  pub accept_keeps : a.next < length z.filters → is_past a.host a.mark (filter_at z.filters a.next) ≡ false → StandsAt w d (accept_next z a)
  accept_keeps low past =
      let new : FilterState = record (filter_at z.filters a.next) { accepted = Some (mark_announced a) } in
      let fs : List FilterState = set z.filters a.next new in
      let size : length fs ≡ length z.filters = length-set z.filters a.next new in
      stands_with w d z z.batchers fs z.map (Some (asked_next a)) refl (omega (arith, size, h.membership.members.ranges.filters.0), omega (arith, size, h.membership.members.ranges.filters.1)) refl
      (accepted_sound z.map a z.filters sound_some low past)
      (under_way_by_sums w.workload w.sessions w.logs (pending_of w d) d z.queues z.token.deferred z.batchers z.batchers z.filters fs
      (λ g. omega (arith, sum_by-set_same (λ (x : FilterState). sum_by (λ r. g (External r)) x.held) z.filters a.next new no_filter refl, sum_by-set_same (λ (x : FilterState). sum_by g x.out) z.filters a.next new no_filter refl))
      (λ g t. omega (arith, sum_by-set_same (λ (x : FilterState). sum_by (is_named g t) x.out) z.filters a.next new no_filter refl, sum_by-set_same (times_passed g t) z.filters a.next new no_filter refl))
      h.items.under_way.due.batchers
      (All-set_at (λ (x : FilterState). All (λ r. D (External r)) x.held) z.filters a.next new no_filter (λ _ has. has) h.items.under_way.due.held)
      (All-set_at (λ (x : FilterState). All D x.out) z.filters a.next new no_filter (λ _ has. has) h.items.under_way.due.out)
      h.items.under_way)
      h

  -- all accepted it
  module _ (heard : length z.filters ≤ a.next) where
    abbrev m : List (List Share)
    m = grown_by a z.map

    abbrev fs_on : List FilterState
    fs_on = map (activated m) z.filters

    abbrev fs_grown : List FilterState
    fs_grown = filters_grown a z.map z.filters

    abbrev handed : List Item
    handed = map External (flat_map (handed_out m) z.filters)

    -- the batchers, and one that has what the filters hand out
    abbrev bs_more : List (List Item)
    bs_more = z.batchers ++ handed ∷ []

    hosts : length m ≡ length z.map
    hosts = length-set z.map a.host (get_or z.map a.host [] ++ (record { start = a.mark; filters = (last_share z.map a.host).filters + 1 }) ∷ [])

    kept : AllKeep D (activated m) (handed_out m) z.filters
    kept = λ i f low. (all_activated z.map a z.filters sound_some heard D h.items.under_way.due.held h.items.under_way.due.out i f low).kept

    under_grown : AreUnderWay w.workload w.sessions w.logs (pending_of w d) d bs_more fs_grown z.queues z.token.deferred
    under_grown =
        let held = kept_held D (activated m) (handed_out m) z.filters kept in
        under_way_by_sums w.workload w.sessions w.logs (pending_of w d) d z.queues z.token.deferred z.batchers bs_more z.filters fs_grown
        (λ g.
        let same = grown_sums z.map a z.filters sound_some heard g in
        omega (arith, same.0, same.1, kept_sums D (activated m) (handed_out m) z.filters g kept, sum_by_push (sum_by g) z.batchers handed, sum_by-map_external g (flat_map (handed_out m) z.filters)))
        (λ g t. omega (arith, (grown_sums z.map a z.filters sound_some heard (is_named g t)).1, grown_passed z.map a z.filters sound_some heard g t, kept_passing D (activated m) (handed_out m) z.filters g t kept))
        (All-push (All D) z.batchers handed h.items.under_way.due.batchers (All-handed D m z.filters h.items.under_way.due.held))
        (grown_held z.map a z.filters sound_some heard D held.0)
        (grown_out z.map a z.filters sound_some heard D held.1)
        h.items.under_way

    size_grown : IsSize (length fs_grown)
    size_grown =
        let few : (last_share m a.host).filters ≤ 16 = few_grown z.map a.host a.mark (sound_some.room a refl) in
        let size : length fs_on ≡ length z.filters = length-map z.filters (activated m) in
        cond_both (ltb (length z.filters) (last_share m a.host).filters) (fs_on ++ made ∷ []) fs_on (λ fs. IsSize (length fs))
        (λ needed.
        let less = ltb-true (length z.filters) (last_share m a.host).filters needed in
        (omega (arith, length_push fs_on made), omega (arith, size, length_push fs_on made, less, few)))
        (λ enough. (omega (arith, size, h.membership.members.ranges.filters.0), omega (arith, size, h.membership.members.ranges.filters.1)))
      where
        made : FilterState
        made = new_filter (length z.filters) m

    pub activate_keeps : StandsAt w d (activate_all z a)
    activate_keeps =
        let b : ℕ = length z.batchers in
        let fs : List FilterState = fold (taken_by m) fs_grown handed in
        let last : get_or bs_more b [] ≡ handed = get_or_push z.batchers handed [] b refl in
        let ready = all_taken_keep w.workload w.sessions w.logs (pending_of w d) d z.queues z.token.deferred m None (hosts ∙ h.items.mapped) handed bs_more fs_grown b (omega (arith, length_push z.batchers handed)) last
        (grown_sound z.map a z.filters sound_some heard, under_grown) in
        let emptied : set bs_more b [] ≡ z.batchers ++ [] ∷ [] = set_at z.batchers handed [] [] b refl in
        let size : length fs ≡ length fs_grown = length-taken m handed fs_grown in
        stands_with w d z z.batchers fs m None refl (omega (arith, size, size_grown.0), omega (arith, size, size_grown.1)) hosts ready.0
        (under_way_by_sums w.workload w.sessions w.logs (pending_of w d) d z.queues z.token.deferred (set bs_more b []) z.batchers fs fs
        (λ g. omega (arith, ap (in_batchers g) emptied, sum_by_push (sum_by g) z.batchers []))
        (λ g t. refl) h.items.under_way.due.batchers ready.1.due.held ready.1.due.out ready.1)
        h

-- a turn without events keeps what its state stands for
pub quiet_keeps : (w : World) (d : ℕ) (outcome : Outcome) (y : Datacentre) → StandsAt w d y → Keeps w d (quiet outcome y)
quiet_keeps w d outcome y h = record { can = tt; here = All-nil (λ e. datacentre_of w.workload e ≡ d); stands = h }

-- the next filter is asked
ask_keeps : (w : World) (d : ℕ) (z : Datacentre) (a : Announcement) → z.announcement ≡ Some a → a.next < length z.filters → StandsAt w d z → Keeps w d (ask_next z a)
ask_keeps w d z a is low h =
    let f : FilterState = filter_at z.filters a.next in
    let late : Outcome = LateAt a.next (get_or f.reached a.host 0) in
    cond_both (is_past a.host a.mark f) (quiet late (cancel_all z)) (quiet (AcceptedBy a.next) (accept_next z a)) (Keeps w d)
    (λ past. quiet_keeps w d late (cancel_all z) (cancel_keeps w d z h)) (λ not_past. quiet_keeps w d (AcceptedBy a.next) (accept_next z a) (accept_keeps w d z h a is low not_past))

-- what the stages answer when all accepted
abbrev active : Datacentre → Announcement → Outcome
active z a = Active (last_share (activate_all z a).map a.host).filters

mark_at : (w : World) (d : ℕ) (z : Datacentre) (o : Option Announcement) → z.announcement ≡ o → StandsAt w d z
    → Keeps w d (option_map_or (λ a. cond (ltb a.next (length z.filters)) (ask_next z a) (quiet (active z a) (activate_all z a))) o (quiet Idle z))
mark_at w d z None is h = quiet_keeps w d Idle z h
mark_at w d z (Some a) is h = cond_both (ltb a.next (length z.filters)) (ask_next z a) (quiet (active z a) (activate_all z a)) (Keeps w d)
    (λ asks. ask_keeps w d z a is (ltb-true a.next (length z.filters) asks) h)
    (λ done. quiet_keeps w d (active z a) (activate_all z a) (activate_keeps w d z h a is (ltb-false a.next (length z.filters) done)))

-- the turn that takes the next step of an announcement
pub mark_turn_keeps : (w : World) (d : ℕ) (z : Datacentre) → StandsAt w d z → Keeps w d (mark_turn z)
mark_turn_keeps w d z h = mark_at w d z z.announcement refl h

announce_at : (w : World) (d : ℕ) (z : Datacentre) (g t : ℕ) (o : Option Announcement) → z.announcement ≡ o → g < length z.map → (last_share z.map g).filters < 16 → StandsAt w d z
    → Keeps w d (option_map_or (λ a. quiet Busy z) o (announce_idle z g t))
announce_at w d z g t (Some a) is inside room h = quiet_keeps w d Busy z h
announce_at w d z g t None is inside room h =
    let start : ℕ = (last_share z.map g).start in
    cond_both (leb t start) (quiet (LateStart start) z) (quiet Announced (announced z g t)) (Keeps w d)
    (λ early. quiet_keeps w d (LateStart start) z h) (λ late. quiet_keeps w d Announced (announced z g t) (announce_keeps w d z g t is (leb-false t start late) room inside h))

-- the turn that announces one filter more
pub announce_turn_keeps : (w : World) (d : ℕ) (z : Datacentre) (g t : ℕ) → g < w.workload.dcs → StandsAt w d z → Keeps w d (announce_turn z g t)
announce_turn_keeps w d z g t there h =
    cond_both (ltb (last_share z.map g).filters 16) (option_map_or (λ a. quiet Busy z) z.announcement (announce_idle z g t)) (quiet Absent z) (Keeps w d)
    (λ room. announce_at w d z g t z.announcement refl (omega (arith, h.items.mapped)) (ltb-true (last_share z.map g).filters 16 room) h) (λ full. quiet_keeps w d Absent z h)
