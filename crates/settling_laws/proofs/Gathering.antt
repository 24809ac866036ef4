-- The first turns of a local round: the clients', and those that bring all items to the queues.
use Rattle.std.proofs.Common.{◌≡◌, ℕ, ◌%◌, mod-lt, ◌<◌, ltb, ◌&&◌, List, [], ◌∷◌, length, get_or, set, refl, ap, sym, subst, ◌∙◌, arith}
use Rattle.std.specs.List.{All}
use Rattle.std.proofs.lemmas.List.Elements.{All-from_get_or, All-map}
use Rattle.std.proofs.lemmas.Bool.{lt-ltb}
use Rattle.causal_deps.specs.declared.record.Item.{Item}
use Rattle.abstract_log.specs.declared.command.Workload.{Workload}
use Rattle.abstract_log.specs.declared.script.Step.{Step}
use Rattle.abstract_log.specs.declared.script.Step.TheVariants.{Client, Flush, Pass}
use Rattle.abstract_log.specs.Worlds.{log_of}
use Rattle.toid_filter.specs.Filters.{FilterState, filter_at, no_filter}
use Rattle.stage_world.specs.Stages.{Datacentre, Session, batcher_at}
use Rattle.stage_world.specs.StandsFor.{IsAt, IsAsFar}
use Rattle.stage_world.specs.Turns.{flush_turn, flushed, pass_turn, passed_on}
use Rattle.stage_world.specs.Settling.{clients, flushes, pass_lines}
use Rattle.settling_laws.proofs.Live.{IsTurnAt, IsLive, turned, walked, stands_at}
use Rattle.settling_laws.proofs.Walks.{Makes, Some_below, makes_numbered, makes_turn}
use Rattle.settling_laws.proofs.ClientTurns.{client_turns}
use Rattle.settling_laws.proofs.Rounding.{IsInRound, round_goes, batchers_stay, filters_stay, queues_stay, there_is, both_there, at_set, at_put, along_all}

-- the turn of the client of a session of d
abbrev pub IsClientOf : Workload → ℕ → Step → Type 0
IsClientOf load d t = (s : ℕ) × IsAt load s d × (t ≡ Client s)

pub client_at : (load : Workload) (d : ℕ) (t : Step) → IsClientOf load d t → IsTurnAt load d t
client_at load d t is = subst (IsTurnAt load d) (sym is.2) is.1

pub all_clients : (load : Workload) (d : ℕ) (z : Datacentre) → IsLive load d z → All (IsClientOf load d) (clients z)
all_clients load d z l =
    let w = l.standing.world in
    All-map (IsClientOf load d) (λ (x : Session). Client x.number) z.sessions
    (λ k e within.
    let far : IsAsFar w.workload w.sessions (log_of w d) d z.floor (get_or z.sessions k e) = (stands_at load d z l).clients.sessions k e within in
    ((get_or z.sessions k e).number, subst (λ x. IsAt x (get_or z.sessions k e).number d) l.standing.workload far.home, refl))

-- in a round, and the token is as it was
pub record IsWithToken (load : Workload) (d : ℕ) (z y : Datacentre) : Type 0 where
  pub round : IsInRound load d z y
  pub token : y.token ≡ z.token

pub client_keeps_token : (load : Workload) (d : ℕ) (z y : Datacentre) (t : Step) → IsClientOf load d t → IsWithToken load d z y → IsWithToken load d z (turned d y t)
client_keeps_token load d z y t is h = record {
  round = round_goes load d z y t (client_at load d t is) h.round;
  token = subst (λ s. (turned d y s).token ≡ z.token) (sym is.2) (ap (λ (v : Datacentre). v.token) (client_turns load d y is.0 h.round.live).rest ∙ h.token);
}

pub clients_keep_token : (load : Workload) (d : ℕ) (z y : Datacentre) → IsLive load d z → IsWithToken load d z y → IsWithToken load d z (walked d y (clients z))
clients_keep_token load d z y l h = along_all d (IsWithToken load d z) (IsClientOf load d) (clients z) (λ x t is i. client_keeps_token load d z x t is i) (all_clients load d z l) y h

-- no batcher has an item
abbrev pub AreFlushed : Datacentre → Type 0
AreFlushed y = All (λ b. b ≡ []) y.batchers

-- no filter has an item that passed it
abbrev pub HavePassedOn : Datacentre → Type 0
HavePassedOn y = All (λ f. f.out ≡ []) y.filters

module _ (load : Workload) (d : ℕ) (z : Datacentre) where
  flush_is : (y : Datacentre) (i : ℕ) → IsWithToken load d z y → i < length z.batchers → turned d y (Flush d i) ≡ flushed y i
  flush_is y i h within = there_is (ltb i (length y.batchers)) y (flush_turn y i) (lt-ltb i (length y.batchers) (omega (arith, batchers_stay load d z y h.round)))

  abbrev Emptied : ℕ → Datacentre → Type 0
  Emptied b y = batcher_at y.batchers b ≡ []

  flush_one : (i : ℕ) → i < length z.batchers → Makes d (IsWithToken load d z) Emptied (λ b. b ≡ i) (Flush d i ∷ [])
  flush_one i within = makes_turn d (IsWithToken load d z) Emptied (λ b. b ≡ i) (Flush d i)
      (λ y h. record { round = round_goes load d z y (Flush d i) refl h.round; token = ap (λ (v : Datacentre). v.token) (flush_is y i h within) ∙ h.token })
      (λ y b h e. subst (Emptied b) (sym (flush_is y i h within)) (at_set (λ xs. xs ≡ []) y.batchers i b [] [] (λ _. refl) e))
      (λ y b h is. subst (Emptied b) (sym (flush_is y i h within)) (subst (λ j. get_or (set y.batchers i []) j [] ≡ []) (sym is) (at_put (λ (xs : List Item). xs ≡ []) y.batchers i [] [] refl refl)))

  all_flushed : Makes d (IsWithToken load d z) Emptied (Some_below d (IsWithToken load d z) Emptied (λ i b. b ≡ i) (length z.batchers)) (flushes d z)
  all_flushed = makes_numbered d (IsWithToken load d z) Emptied (λ i b. b ≡ i) (Flush d) (length z.batchers) flush_one

  pub flushes_empty : (y : Datacentre) → IsWithToken load d z y → IsWithToken load d z (walked d y (flushes d z)) × AreFlushed (walked d y (flushes d z))
  flushes_empty y h =
      let after : IsWithToken load d z (walked d y (flushes d z)) = all_flushed.stays y h in (
        after,
        All-from_get_or (λ (b : List Item). b ≡ []) (walked d y (flushes d z)).batchers []
            (λ i within. all_flushed.makes y i h (i, omega (arith, within, batchers_stay load d z (walked d y (flushes d z)) after.round), refl)),
      )

  -- and no batcher has an item
  record IsFlushed (y : Datacentre) : Type 0 where
    pub token : IsWithToken load d z y
    pub batchers : AreFlushed y

  some_queue : IsLive load d z → 0 < length z.queues
  some_queue l = omega (arith, (stands_at load d z l).membership.members.ranges.queues.0)

  module _ (l : IsLive load d z) where
    abbrev queue_of : ℕ → ℕ
    queue_of f = f % length z.queues

    pass_is : (y : Datacentre) (i : ℕ) → IsFlushed y → i < length z.filters → turned d y (Pass d i (queue_of i)) ≡ passed_on y i (queue_of i)
    pass_is y i h within = there_is (ltb i (length y.filters) && ltb (queue_of i) (length y.queues)) y (pass_turn y i (queue_of i))
        (both_there i (length y.filters) (queue_of i) (length y.queues) (omega (arith, filters_stay load d z y h.token.round)) (omega (arith, mod-lt i (some_queue l), queues_stay load d z y h.token.round)))

    abbrev Handed : ℕ → Datacentre → Type 0
    Handed f y = (filter_at y.filters f).out ≡ []

    pass_one : (i : ℕ) → i < length z.filters → Makes d IsFlushed Handed (λ f. f ≡ i) (Pass d i (queue_of i) ∷ [])
    pass_one i within = makes_turn d IsFlushed Handed (λ f. f ≡ i) (Pass d i (queue_of i))
        (λ y h. record {
          token = record {
            round = round_goes load d z y (Pass d i (queue_of i)) refl h.token.round;
            token = ap (λ (v : Datacentre). v.token) (pass_is y i h within) ∙ h.token.token;
          };
          batchers = subst AreFlushed (sym (pass_is y i h within)) h.batchers;
        })
        (λ y f h e. subst (Handed f) (sym (pass_is y i h within)) (at_set (λ (x : FilterState). x.out ≡ []) y.filters i f (record (filter_at y.filters i) { out = [] }) no_filter (λ _. refl) e))
        (λ y f h is. subst (Handed f) (sym (pass_is y i h within)) (subst (λ j. (get_or (set y.filters i (record (filter_at y.filters i) { out = [] })) j no_filter).out ≡ []) (sym is)
        (at_put (λ (x : FilterState). x.out ≡ []) y.filters i (record (filter_at y.filters i) { out = [] }) no_filter refl refl)))

    all_passed : Makes d IsFlushed Handed (Some_below d IsFlushed Handed (λ i f. f ≡ i) (length z.filters)) (pass_lines d z)
    all_passed = makes_numbered d IsFlushed Handed (λ i f. f ≡ i) (λ f. Pass d f (queue_of f)) (length z.filters) pass_one

    pub passes_empty : (y : Datacentre) → IsWithToken load d z y → AreFlushed y → IsWithToken load d z (walked d y (pass_lines d z)) × AreFlushed (walked d y (pass_lines d z)) × HavePassedOn (walked d y (pass_lines d z))
    passes_empty y h flat =
        let before : IsFlushed y = record { token = h; batchers = flat } in
        let after : IsFlushed (walked d y (pass_lines d z)) = all_passed.stays y before in (
          after.token,
          after.batchers,
          All-from_get_or (λ (f : FilterState). f.out ≡ []) (walked d y (pass_lines d z)).filters no_filter
              (λ i within. all_passed.makes y i before (i, omega (arith, within, filters_stay load d z (walked d y (pass_lines d z)) after.token.round), refl)),
        )
