-- A local round, from what a datacentre answers.
use Rattle.std.proofs.Common.{◌≡◌, ℕ, ◌<◌, ◌≤◌, ◌%◌, List, [], ◌∷◌, ◌++◌, length, map, ap, ap₂, ◌∙◌, arith}
use Rattle.std.specs.List.{flat_map}
use Rattle.std.specs.Option.{ForSome}
use Rattle.abstract_log.specs.declared.script.Sizes.{Sizes}
use Rattle.abstract_log.specs.declared.script.Step.{Step}
use Rattle.abstract_log.specs.declared.script.Step.TheVariants.{Client, Flush, Gossip, Learn, Pass, Place, Post}
use Rattle.stage_world.specs.Opening.{numbered}
use Rattle.stage_world.specs.Settling.{below, clients, flushes, gossips, local_round, pass_lines, places, posts, ring}
use Rattle.stage_world.specs.Stages.{Datacentre, Session, sizes_of}
use Rattle.datacentre.specs.Seen.{DatacentreState, StandsForALog}
use Rattle.world.specs.Settled.{IsKnown, ring_from}
use Rattle.world.proofs.KnownLemmas.{told, told_log}
use Rattle.world.proofs.RoundLemmas.{then_more}

module _ (d : ℕ) (z : Datacentre) (x : DatacentreState) (sizes : Sizes) (holder : ℕ) (known : IsKnown d z x) (members : ForSome x.stages (λ y. StandsForALog x.dc y → sizes ≡ sizes_of y)) (at : ForSome x.stages (λ y. StandsForALog x.dc y → holder ≡ y.token.at)) where
  sizes_are : sizes ≡ sizes_of z
  sizes_are = told_log (λ y. sizes ≡ sizes_of y) d z x known members

  holder_is : holder ≡ z.token.at
  holder_is = told_log (λ y. holder ≡ y.token.at) d z x known at

  queues_are : sizes.queues ≡ length z.queues
  queues_are = ap (λ (s : Sizes). s.queues) sizes_are

  pub has_queue : 1 ≤ sizes.queues
  has_queue = omega (arith, queues_are, known.log.stands.membership.members.holder)

  pub few_queues : sizes.queues ≤ 2147483648
  few_queues = omega (arith, queues_are, known.log.stands.membership.members.ranges.queues.1)

  pub holds_within : holder < sizes.queues
  holds_within = omega (arith, queues_are, holder_is, known.log.stands.membership.members.holder)

  pub round_is : (sessions : List Session) (s0 s1 s2 s3 s4 s5 s6 s7 s8 : List Step) → ForSome x.stages (λ y. sessions ≡ y.sessions)
      → s1 ≡ s0 ++ map (λ (y : Session). Client y.number) sessions
      → s2 ≡ s1 ++ numbered (Flush d) sizes.batchers
      → s3 ≡ s2 ++ numbered (λ f. Pass d f (f % sizes.queues)) sizes.filters
      → s4 ≡ s3 ++ ring_from d holder sizes.queues sizes.queues
      → s5 ≡ s4 ++ flat_map (λ q. numbered (Place d q) sizes.maintainers) (below sizes.queues)
      → s6 ≡ s5 ++ flat_map (λ m. numbered (Gossip d m) sizes.maintainers) (below sizes.maintainers)
      → s7 ≡ s6 ++ flat_map (λ m. numbered (Post d m) sizes.indexers) (below sizes.maintainers)
      → s8 ≡ s7 ++ Learn d ∷ []
      → s8 ≡ s0 ++ local_round d z
  round_is sessions s0 s1 s2 s3 s4 s5 s6 s7 s8 have e1 e2 e3 e4 e5 e6 e7 e8 =
      let each : sessions ≡ z.sessions = told (λ y. sessions ≡ y.sessions) d z x known have in
      let f1 : s1 ≡ s0 ++ clients z = e1 ∙ ap (λ xs. s0 ++ map (λ (y : Session). Client y.number) xs) each in
      let f2 : s2 ≡ s1 ++ flushes d z = e2 ∙ ap (λ (s : Sizes). s1 ++ numbered (Flush d) s.batchers) sizes_are in
      let f3 : s3 ≡ s2 ++ pass_lines d z = e3 ∙ ap (λ (s : Sizes). s2 ++ numbered (λ f. Pass d f (f % s.queues)) s.filters) sizes_are in
      let f4 : s4 ≡ s3 ++ ring d z = e4 ∙ ap₂ (λ (h : ℕ) (s : Sizes). s3 ++ ring_from d h s.queues s.queues) holder_is sizes_are in
      let f5 : s5 ≡ s4 ++ places d z = e5 ∙ ap (λ (s : Sizes). s4 ++ flat_map (λ q. numbered (Place d q) s.maintainers) (below s.queues)) sizes_are in
      let f6 : s6 ≡ s5 ++ gossips d z = e6 ∙ ap (λ (s : Sizes). s5 ++ flat_map (λ m. numbered (Gossip d m) s.maintainers) (below s.maintainers)) sizes_are in
      let f7 : s7 ≡ s6 ++ posts d z = e7 ∙ ap (λ (s : Sizes). s6 ++ flat_map (λ m. numbered (Post d m) s.indexers) (below s.maintainers)) sizes_are in
      let g2 : s2 ≡ s0 ++ (clients z ++ flushes d z) = then_more s0 (clients z) (flushes d z) s1 s2 f1 f2 in
      let g3 = then_more s0 (clients z ++ flushes d z) (pass_lines d z) s2 s3 g2 f3 in
      let g4 = then_more s0 (clients z ++ flushes d z ++ pass_lines d z) (ring d z) s3 s4 g3 f4 in
      let g5 = then_more s0 (clients z ++ flushes d z ++ pass_lines d z ++ ring d z) (places d z) s4 s5 g4 f5 in
      let g6 = then_more s0 (clients z ++ flushes d z ++ pass_lines d z ++ ring d z ++ places d z) (gossips d z) s5 s6 g5 f6 in
      let g7 = then_more s0 (clients z ++ flushes d z ++ pass_lines d z ++ ring d z ++ places d z ++ gossips d z) (posts d z) s6 s7 g6 f7 in
      then_more s0 (clients z ++ flushes d z ++ pass_lines d z ++ ring d z ++ places d z ++ gossips d z ++ posts d z) (Learn d ∷ []) s7 s8 g7 e8
