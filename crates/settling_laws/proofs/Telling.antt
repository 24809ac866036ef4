-- The rounds of telling end: of three passes the logs grow, unless they agree.
use Rattle.std.proofs.Common.{◌≡◌, ◌≢◌, ℕ, ◌<◌, ◌≤◌, false, List, length, get_or, refl, ap, sym, subst, ◌∙◌, inl, inr, arith}
use Rattle.std.specs.List.{list_all, sum_by}
use Rattle.std.proofs.lemmas.Bool.{cases_lt}
use Rattle.std.proofs.lemmas.List.{get_or_default, length-append}
use Rattle.causal_deps.specs.declared.record.Record.{Record}
use Rattle.causal_deps.specs.Counts.{entry_of}
use Rattle.causal_deps.specs.Logs.{count_of}
use Rattle.abstract_log.specs.declared.command.Workload.{Workload}
use Rattle.abstract_log.specs.declared.script.Step.{Step}
use Rattle.abstract_log.specs.Worlds.{log_of}
use Rattle.stage_world.specs.Stages.{Datacentre, Stages}
use Rattle.stage_world.specs.MoreTurns.{same_counts}
use Rattle.stage_world.specs.Whole.{datacentre_at, nowhere_at}
use Rattle.stage_world.specs.Settling.{Errand, is_agreed}
use Rattle.settling_laws.specs.Rounds.{IsStanding}
use Rattle.settling_laws.specs.Ending.{AreQuiet}
use Rattle.settling_laws.proofs.Answering.{sum_less, sum_fewer}
use Rattle.settling_laws.proofs.Behind.{IsDueAt, IsBehind, behind_both, extends_counts, extends_longer, nth_extends, stands_here}
use Rattle.settling_laws.proofs.Arrivals.{arrived}
use Rattle.settling_laws.proofs.Choosing.{IsMissing, missing, fails_at, differ_at}
use Rattle.settling_laws.proofs.TellingPass.{IsTelling, errand_there, sender_of, dcs_of}

-- how many records all logs have
abbrev pub total : Stages → ℕ
total z = sum_by (λ (x : Datacentre). x.token.last) z.datacentres

last_at : (load : Workload) (z : Stages) (d : ℕ) → d < load.dcs → (h : IsStanding load z) → (datacentre_at z d).token.last ≡ length (log_of h.world d)
last_at load z d within h = (stands_here load z d within h).positions.counted.whole

count_at : (load : Workload) (z : Stages) (d g : ℕ) → d < load.dcs → (h : IsStanding load z) → get_or (datacentre_at z d).token.counts g 0 ≡ count_of (log_of h.world d) g
count_at load z d g within h = (stands_here load z d within h).positions.counted.each g

-- a later log is as long at least
last_up : (load : Workload) (y z : Stages) (hy : IsStanding load y) (hz : IsStanding load z) (d : ℕ) → d < load.dcs → IsBehind hy.world hz.world → (datacentre_at y d).token.last ≤ (datacentre_at z d).token.last
last_up load y z hy hz d within behind =
    let more = behind.logs d in
    omega (arith, last_at load y d within hy, last_at load z d within hz, ap length more.1, length-append (log_of hy.world d) more.0)

pub total_up : (load : Workload) (y z : Stages) (hy : IsStanding load y) (hz : IsStanding load z) → IsBehind hy.world hz.world → total y ≤ total z
total_up load y z hy hz behind = sum_less (λ (x : Datacentre). x.token.last) z.datacentres y.datacentres nowhere_at (dcs_of load y hy ∙ sym (dcs_of load z hz)) (λ d inside. last_up load y z hy hz d (omega (arith, inside, dcs_of load z hz)) behind)

-- and longer, where a count rose
total_more : (load : Workload) (y z : Stages) (hy : IsStanding load y) (hz : IsStanding load z) (e g : ℕ) → e < load.dcs → IsBehind hy.world hz.world → count_of (log_of hy.world e) g < count_of (log_of hz.world e) g → total y < total z
total_more load y z hy hz e g within behind more =
    sum_fewer (λ (x : Datacentre). x.token.last) z.datacentres y.datacentres nowhere_at e (dcs_of load y hy ∙ sym (dcs_of load z hz)) (λ d inside. last_up load y z hy hz d (omega (arith, inside, dcs_of load z hz)) behind)
    (omega (arith, within, dcs_of load z hz))
    (omega (arith, last_at load y e within hy, last_at load z e within hz, extends_longer (log_of hy.world e) (log_of hz.world e) g (behind.logs e) more))

-- where all together are no longer, each has the same counts
counts_stay : (load : Workload) (y z : Stages) (hy : IsStanding load y) (hz : IsStanding load z) → IsBehind hy.world hz.world → total z ≤ total y → (e g : ℕ) → e < load.dcs → count_of (log_of hz.world e) g ≡ count_of (log_of hy.world e) g
counts_stay load y z hy hz behind short e g within = elim (cases_lt (count_of (log_of hy.world e) g) (count_of (log_of hz.world e) g)) [
  | inl more ↦ absurd (omega (arith, short, total_more load y z hy hz e g within behind more))
  | inr same ↦ omega (arith, same, extends_counts (log_of hy.world e) (log_of hz.world e) g (behind.logs e))
]

module _ (load : Workload) (s0 s1 s2 s3 : Stages) (h0 : IsStanding load s0) (ts0 ts1 ts2 : List Step) (t0 : IsTelling load s0 h0 s1 ts0) (t1 : IsTelling load s1 t0.swapped.leads.standing s2 ts1)
    (t2 : IsTelling load s2 t1.swapped.leads.standing s3 ts2) (quiet : AreQuiet load s0) where
  abbrev g0 : IsStanding load t0.mid
  g0 = t0.rounded.leads.standing

  abbrev h1 : IsStanding load s1
  h1 = t0.swapped.leads.standing

  abbrev g1 : IsStanding load t1.mid
  g1 = t1.rounded.leads.standing

  abbrev h2 : IsStanding load s2
  h2 = t1.swapped.leads.standing

  abbrev g2 : IsStanding load t2.mid
  g2 = t2.rounded.leads.standing

  -- exchanges leave the tokens
  token_1 : (d : ℕ) → (datacentre_at s1 d).token ≡ (datacentre_at t0.mid d).token
  token_1 d = ap (λ (v : Datacentre). v.token) (t0.swapped.beside.each d).rest

  token_2 : (d : ℕ) → (datacentre_at s2 d).token ≡ (datacentre_at t1.mid d).token
  token_2 d = ap (λ (v : Datacentre). v.token) (t1.swapped.beside.each d).rest

  -- no announcement comes
  quiet_2 : AreQuiet load t2.mid
  quiet_2 d within =
      (t2.rounded.members d within).announcement ∙ ap (λ (v : Datacentre). v.announcement) (t1.swapped.beside.each d).rest
      ∙ (t1.rounded.members d within).announcement ∙ ap (λ (v : Datacentre). v.announcement) (t0.swapped.beside.each d).rest
      ∙ (t0.rounded.members d within).announcement ∙ quiet d within

  -- where the second pass's rounds bring no record, its tables know what each log has
  knows : total t1.mid ≤ total s1 → (d e g : ℕ) → d < load.dcs → e < load.dcs → d ≢ e → count_of (log_of g1.world e) g ≤ entry_of (datacentre_at t1.mid d).table e g
  knows still d e g in_d in_e apart =
      let first : 0 < (datacentre_at t0.mid e).senders = omega (arith, (stands_here load t0.mid e in_e g0).membership.members.ranges.senders.0) in
      let x : Errand = record { from = e; to = d; sender = 0 } in
      let own : entry_of (datacentre_at t0.mid e).table e g ≡ get_or (datacentre_at t0.mid e).token.counts g 0 = (t0.rounded.rounded e in_e).told.own g in
      let told : entry_of (datacentre_at t0.mid e).table e g ≤ entry_of (datacentre_at s1 d).table e g = t0.swapped.told x (errand_there load t0.mid g0 e d 0 in_e in_d (λ same. absurd (apart (sym same))) first) refl e g in
      omega (
        arith,
        own,
        told,
        ap (λ t. get_or t.counts g 0) (token_1 e),
        count_at load s1 e g in_e h1,
        counts_stay load s1 t1.mid h1 g1 t1.rounded.leads.behind still e g in_e,
        ap (λ t. entry_of t e g) (stands_here load s1 d in_d h1).knowledge.aware.same,
        ap (λ t. entry_of t e g) (stands_here load t1.mid d in_d g1).knowledge.aware.same,
        t1.rounded.leads.behind.tables d e g,
      )

  -- some log lacks a record that is next
  lacks : is_agreed s2 ≡ false → (e : ℕ) × (e < load.dcs) × IsMissing g1.world e
  lacks differ =
      let row = fails_at (λ (x : Datacentre). list_all (λ (y : Datacentre). same_counts x.token.counts y.token.counts) s2.datacentres) s2.datacentres differ in
      let cell = fails_at (λ (y : Datacentre). same_counts row.0.token.counts y.token.counts) s2.datacentres row.2 in
      let d : ℕ = row.1.0 in
      let e : ℕ = cell.1.0 in
      let in_d : d < load.dcs = omega (arith, row.1.1, dcs_of load s2 h2) in
      let in_e : e < load.dcs = omega (arith, cell.1.1, dcs_of load s2 h2) in
      let at_d : datacentre_at s2 d ≡ row.0 = get_or_default s2.datacentres d nowhere_at row.0 row.1.1 ∙ row.1.2 in
      let at_e : datacentre_at s2 e ≡ cell.0 = get_or_default s2.datacentres e nowhere_at cell.0 cell.1.1 ∙ cell.1.2 in
      let sizes : length row.0.token.counts ≡ length cell.0.token.counts =
      ap (λ (v : Datacentre). length v.token.counts) (sym at_d) ∙ (stands_here load s2 d in_d h2).positions.counted.size ∙ sym (stands_here load s2 e in_e h2).positions.counted.size ∙ ap (λ (v : Datacentre). length v.token.counts) at_e in
      let place = differ_at row.0.token.counts cell.0.token.counts sizes cell.2 in
      let g : ℕ = place.0 in
      let of_d : get_or row.0.token.counts g 0 ≡ count_of (log_of g1.world d) g = ap (λ (v : Datacentre). get_or v.token.counts g 0) (sym at_d) ∙ ap (λ t. get_or t.counts g 0) (token_2 d) ∙ count_at load t1.mid d g in_d g1 in
      let of_e : get_or cell.0.token.counts g 0 ≡ count_of (log_of g1.world e) g = ap (λ (v : Datacentre). get_or v.token.counts g 0) (sym at_e) ∙ ap (λ t. get_or t.counts g 0) (token_2 e) ∙ count_at load t1.mid e g in_e g1 in
      elim (cases_lt (count_of (log_of g1.world e) g) (count_of (log_of g1.world d) g)) [
        | inl more ↦ (e, in_e, missing g1.world g1.lawful d e g more)
        | inr less ↦ elim (cases_lt (count_of (log_of g1.world d) g) (count_of (log_of g1.world e) g)) [
          | inl fewer ↦ (d, in_d, missing g1.world g1.lawful e d g fewer)
          | inr same ↦ absurd (place.1 (of_d ∙ omega (arith, less, same) ∙ sym of_e))
        ]
      ]

  -- it is told in the second exchange, and in the log after the third rounds
  comes : total t1.mid ≤ total s1 → is_agreed s2 ≡ false → total t1.mid < total t2.mid
  comes still differ =
      let some = lacks differ in
      let e : ℕ = some.0 in
      let m : IsMissing g1.world e = some.2 in
      let r : Record = m.rec in
      let in_h : r.host < load.dcs = omega (arith, m.host, ap (λ (l : Workload). l.dcs) g1.workload) in
      let found = sender_of load t1.mid g1 e m some.1 t1.rounded.rounded (knows still r.host e r.host in_h some.1 m.apart) in
      let due_2 : IsDueAt h2.world e r.host r.toid = subst (λ i. IsDueAt h2.world i r.host r.toid) found.2 (t1.swapped.due found.0 r found.1 found.3) in
      let due_3 : IsDueAt g2.world e r.host r.toid = t2.rounded.leads.behind.due e r.host r.toid due_2 in
      let later : IsBehind g1.world g2.world = behind_both g1.world h2.world g2.world t1.swapped.leads.behind t2.rounded.leads.behind in
      let grown : (g : ℕ) → count_of (log_of g1.world e) g ≤ count_of (log_of g2.world e) g = λ g. extends_counts (log_of g1.world e) (log_of g2.world e) g (later.logs e) in
      let there : r.toid ≤ count_of (log_of g2.world e) r.host =
      arrived g2.world e (datacentre_at t2.mid e) g2.lawful (stands_here load t2.mid e some.1 g2) (t2.rounded.rounded e some.1).drained (quiet_2 e some.1) r.host r.toid r
      (nth_extends (log_of g1.world r.host) (log_of g2.world r.host) r.host r.toid r (later.logs r.host) m.has) (refl, refl) (omega (arith, m.next, grown r.host)) (λ g other. omega (arith, m.known g other, grown g)) due_3 in
      total_more load t1.mid t2.mid g1 g2 e r.host some.1 later (omega (arith, there, m.next))

  total_1 : total s1 ≤ total t1.mid
  total_1 = total_up load s1 t1.mid h1 g1 t1.rounded.leads.behind

  total_2 : total t1.mid ≤ total t2.mid
  total_2 = total_up load t1.mid t2.mid g1 g2 (behind_both g1.world h2.world g2.world t1.swapped.leads.behind t2.rounded.leads.behind)

  total_3 : total t2.mid ≤ total s3
  total_3 = total_up load t2.mid s3 g2 t2.swapped.leads.standing t2.swapped.leads.behind

  -- Where logs differ after two passes, two passes brought a record.
  pub two_passes : is_agreed s2 ≡ false → total s1 < total s3
  two_passes differ = elim (cases_lt (total s1) (total t1.mid)) [
    | inl more ↦ omega (arith, more, total_2, total_3)
    | inr still ↦ omega (arith, comes still differ, total_1, total_3)
  ]
