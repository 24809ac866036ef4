-- In a rounded datacentre no record waits that may go into the log.
use Rattle.std.proofs.Common.{◌≡◌, ◌≢◌, ℕ, ◌+◌, ◌<◌, ◌≤◌, true, false, Bool, cond, leb, ◌&&◌, List, length, get_or, refl, ap, sym, subst, ◌∙◌, inl, inr, arith, Some, None}
use Rattle.std.specs.List.{Contains, sum_by}
use Rattle.std.proofs.lemmas.Option.{same_Some}
use Rattle.std.proofs.lemmas.Bool.{cases_lt, cond-true, and_from, le-leb, eqb-true, true≢false}
use Rattle.causal_deps.specs.declared.record.Record.{Record}
use Rattle.causal_deps.specs.declared.record.Item.{Item}
use Rattle.causal_deps.specs.declared.record.Item.TheVariants.{Local, External}
use Rattle.causal_deps.specs.Logs.{count_of, nth_of}
use Rattle.abstract_log.specs.declared.world.World.{World}
use Rattle.abstract_log.specs.Worlds.{log_of, pending_of}
use Rattle.log_laws.specs.Lawful.{IsLawful}
use Rattle.toid_filter.specs.Champions.{champion}
use Rattle.toid_filter.specs.Filters.{FilterState, filter_at, no_filter, has_name, is_passed, is_held_back, mark_accepted, owns, times_passed, IsSound}
use Rattle.toid_filter.specs.Sums.{is_named, in_held, passed}
use Rattle.toid_filter.proofs.FilterLemmas.{steady_sound}
use Rattle.toid_filter.proofs.LawsLemmas.{held_waits}
use Rattle.toid_filter.proofs.Tests.{name_parts}
use Rattle.token_queue.specs.Items.{is_ready}
use Rattle.token_queue.specs.Queues.{QueueState}
use Rattle.token_queue.proofs.ItemLemmas.{ready_found}
use Rattle.stage_world.specs.Stages.{Datacentre}
use Rattle.stage_world.specs.StandsFor.{StandsAt, IsDue, IsFromElsewhere, name_in}
use Rattle.settling_laws.specs.Rounds.{IsDrained}
use Rattle.settling_laws.proofs.Behind.{IsDueAt}
use Rattle.settling_laws.proofs.Drafts.{sum_none}
use Rattle.settling_laws.proofs.Marks.{some_term}

-- what is named is a record of this name
named_is : (h t : ℕ) (item : Item) → 1 ≤ is_named h t item → (r : Record) × (item ≡ External r) × (r.host ≡ h) × (r.toid ≡ t)
named_is h t (Local draft) some = absurd (omega (arith, some))
named_is h t (External r) some = at (has_name h t r) refl
  where
    at : (b : Bool) → has_name h t r ≡ b → (q : Record) × (External r ≡ External q) × (q.host ≡ h) × (q.toid ≡ t)
    at true is = let parts = name_parts h t r is in (r, refl, parts.0, parts.1)
    at false is = absurd (omega (arith, some, ap {B = ℕ} (λ b. cond b 1 0) is))

module _ (w : World) (e : ℕ) (z : Datacentre) (stands : StandsAt w e z) (drained : IsDrained z) (quiet : z.announcement ≡ None) (h t : ℕ) (r : Record)
    (is : nth_of (log_of w h) h t ≡ Some r) (named : (r.host ≡ h) × (r.toid ≡ t)) (next : t ≡ count_of (log_of w e) h + 1) (known : (g : ℕ) → g ≢ h → get_or r.dep g 0 ≤ count_of (log_of w e) g) (other : h ≢ e) where
  abbrev fs : List FilterState
  fs = z.filters

  -- the record may be stamped
  ready : is_ready z.token.counts (External r) ≡ true
  ready = ready_found (λ g. get_or z.token.counts g 0) (External r) (record {
    next = omega (arith, named.1, next, stands.positions.counted.each r.host, ap (count_of (log_of w e)) named.0);
    known = λ g apart. omega (arith, known g (λ same. apart (same ∙ sym named.0)), stands.positions.counted.each g);
  })

  -- so it is not deferred
  not_deferred : 1 ≤ sum_by (is_named h t) z.token.deferred → ⊥
  not_deferred some =
      let nothing : Item = External r in
      let found = some_term (is_named h t) z.token.deferred nothing some in
      let item : Item = get_or z.token.deferred found.0 nothing in
      let its = named_is h t item found.2 in
      let due : IsDue w.workload w.sessions w.logs (pending_of w e) e item = stands.items.under_way.due.deferred found.0 nothing found.1 in
      let of : IsFromElsewhere w.workload.dcs w.logs (pending_of w e) e its.0 = subst (IsDue w.workload w.sessions w.logs (pending_of w e) e) its.1 due in
      let at_name : nth_of (log_of w h) h t ≡ Some its.0 = subst (λ u. nth_of (log_of w h) h u ≡ Some its.0) its.3 (subst (λ i. nth_of (log_of w i) i its.0.toid ≡ Some its.0) its.2 of.known) in
      let same : its.0 ≡ r = same_Some its.0 r (sym at_name ∙ is) in
      let waits : is_ready z.token.counts item ≡ false = drained.deferred found.0 nothing found.1 in
      true≢false (sym ready ∙ ap (λ q. is_ready z.token.counts (External q)) (sym same) ∙ ap (is_ready z.token.counts) (sym its.1) ∙ waits)

  -- a smaller number was passed
  passed_before : (u : ℕ) → 1 ≤ u → u < t → 1 ≤ passed h u fs
  passed_before u first low =
      let logged : name_in (log_of w e) h u ≡ 1 = cond-true (leb 1 u && leb u (count_of (log_of w e) h)) 1 0 (and_from (leb 1 u) (leb u (count_of (log_of w e) h)) (le-leb 1 u first) (le-leb u (count_of (log_of w e) h) (omega (arith, low, next)))) in
      omega (arith, stands.items.under_way.once h u other, logged)

  sound_at : (i : ℕ) → i < length fs → IsSound (filter_at fs i)
  sound_at i within = steady_sound (filter_at fs i) (stands.items.sound.each i no_filter within)

  champion_at : (i u : ℕ) → i < length fs → owns (filter_at fs i) h u ≡ true → champion z.map h u ≡ i
  champion_at i u within own = ap (λ m. champion m h u) (sym (stands.items.sound.one_map i no_filter within)) ∙ eqb-true (champion (filter_at fs i).map h u) (filter_at fs i).number own ∙ stands.items.sound.numbers i within

  -- no filter holds it
  not_held : (i : ℕ) → i < length fs → (k : ℕ) (q : Record) → k < length (filter_at fs i).held → 1 ≤ is_named h t (External (get_or (filter_at fs i).held k q)) → ⊥
  not_held i within k q inside some =
      let f : FilterState = filter_at fs i in
      let x : Record = get_or f.held k q in
      let its = named_is h t (External x) some in
      let x_is : x ≡ its.0 = cc in
      let host : x.host ≡ h = ap (λ (y : Record). y.host) x_is ∙ its.2 in
      let toid : x.toid ≡ t = ap (λ (y : Record). y.toid) x_is ∙ its.3 in
      elim (held_waits f x ((sound_at i within).none_free k q inside)) [
        | inr marked ↦
            let none : f.accepted ≡ None = stands.items.sound.heard i within ∙ ap (λ a. mark_accepted a i) quiet in
            true≢false (sym marked ∙ ap (λ a. is_held_back a x.host x.toid) none)
        | inl waits ↦
            let u : ℕ = waits.0 in
            let some_passed : 1 ≤ passed h u fs = passed_before u waits.1 (omega (arith, waits.2, toid)) in
            let found = some_term (times_passed h u) fs no_filter some_passed in
            let was : is_passed (filter_at fs found.0) h u ≡ true = passes (is_passed (filter_at fs found.0) h u) found.2 in
            let by : champion z.map h u ≡ found.0 = champion_at found.0 u found.1 ((sound_at found.0 found.1).own_passed h u was) in
            let own : owns f h u ≡ true = ap (λ j. owns f j u) (sym host) ∙ waits.3 in
            let here : champion z.map h u ≡ i = champion_at i u within own in
            let same : found.0 ≡ i = sym by ∙ here in
            let unpassed : is_passed f h u ≡ false = ap (λ j. is_passed f j u) (sym host) ∙ waits.4 in
            true≢false (sym was ∙ ap (λ j. is_passed (filter_at fs j) h u) same ∙ unpassed)
      ]
    where
      passes : (b : Bool) → 1 ≤ cond b 1 0 → b ≡ true
      passes true one = refl
      passes false one = absurd (omega (arith, one))

  none_held : 1 ≤ in_held (is_named h t) fs → ⊥
  none_held some =
      let f = some_term (λ (x : FilterState). sum_by (λ q. is_named h t (External q)) x.held) fs no_filter some in
      let q = some_term (λ (x : Record). is_named h t (External x)) (filter_at fs f.0).held r f.2 in
      not_held f.0 f.1 q.0 r q.1 q.2

  -- it is not under way
  pub not_under_way : Contains (pending_of w e) (h, t) → ⊥
  not_under_way waits =
      let awaited = stands.items.under_way.awaited h t waits in
      let batchers = sum_none (λ (b : List Item). sum_by (is_named h t) b) z.batchers (λ k d within. ap (sum_by (is_named h t)) (drained.batchers k d within)) in
      let out = sum_none (λ (f : FilterState). sum_by (is_named h t) f.out) z.filters (λ k d within. ap (sum_by (is_named h t)) (drained.filters k d within)) in
      let queues = sum_none (λ (q : QueueState). sum_by (is_named h t) q.items) z.queues (λ k d within. ap (sum_by (is_named h t)) (drained.queues k d within)) in
      elim (cases_lt 0 (in_held (is_named h t) fs)) [
        | inl held ↦ none_held (omega (arith, held))
        | inr none ↦ not_deferred (omega (arith, awaited.2, batchers, out, queues, none))
      ]

-- A record that is due at a rounded datacentre and may go next into its log is there.
pub arrived : (w : World) (e : ℕ) (z : Datacentre) → IsLawful w → StandsAt w e z → IsDrained z → z.announcement ≡ None → (h t : ℕ) (r : Record) → nth_of (log_of w h) h t ≡ Some r → (r.host ≡ h) × (r.toid ≡ t)
    → t ≤ count_of (log_of w e) h + 1 → ((g : ℕ) → g ≢ h → get_or r.dep g 0 ≤ count_of (log_of w e) g) → IsDueAt w e h t → t ≤ count_of (log_of w e) h
arrived w e z lawful stands drained quiet h t r is named low known (inr there) = there
arrived w e z lawful stands drained quiet h t r is named low known (inl waits) =
    let awaited = lawful.awaited e h t waits in
    absurd (not_under_way w e z stands drained quiet h t r is named (omega (arith, low, awaited.unknown)) known awaited.elsewhere waits)
