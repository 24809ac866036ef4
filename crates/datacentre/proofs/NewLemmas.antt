-- A datacentre at the beginning.
use Rattle.std.proofs.Common.{◌≡◌, ℕ, zero, suc, ◌+◌, ◌<◌, ◌≤◌, Bool, true, false, cond, eqb, find, inl, inr, List, [], ◌∷◌, ◌++◌, length, map, set, get_or, replicate, refl, ap, ap₂, sym, ◌∙◌, subst, arith, Option, Some, None}
use Rattle.std.proofs.Math.Seq.{map-set_same}
use Rattle.std.proofs.lemmas.List.{get_or-replicate, get_or-set_same, get_or-set_other, get_or_past, length-replicate, length-set, map_push}
use Rattle.std.proofs.lemmas.Bool.{cases_lt}
use Rattle.std.specs.List.{All}
use Rattle.std.specs.Option.{option_and_then}
use Rattle.flstore_rounds.specs.Epochs.{EpochList}
use Rattle.token_queue.specs.Queues.{QueueState, TokenState, tokenless}
use Rattle.log_gc.specs.Floors.{fresh, pin_of}
use Rattle.abstract_log.specs.declared.command.SessionPlan.{SessionPlan}
use Rattle.abstract_log.specs.declared.command.Workload.{Workload}
use Rattle.abstract_log.specs.Fits.{FitsLimits, commands_of}
use Rattle.hyksos.specs.Sessions.{AreCommands}
use Rattle.stage_world.specs.Stages.{Session, no_queue, queue_at}
use Rattle.stage_world.specs.MoreTurns.{new_queue}
use Rattle.stage_world.specs.Opening.{new_session, numbered, sessions_from}
use Rattle.stage_world.proofs.OpeningLemmas.{length-numbered, get_or-numbered}
use Rattle.stage_turns.specs.Lent.{queues_seen, HaveToken}
use Rattle.datacentre.specs.Seen.{pin_in}

-- what g leaves as it is
pub map-numbered : {X : Type 0} (g : X → X) (f : ℕ → X) (n : ℕ) → ((i : ℕ) → g (f i) ≡ f i) → map g (numbered f n) ≡ numbered f n
map-numbered g f zero same = refl
map-numbered g f (suc n) same = map_push g (numbered f n) (f n) ∙ ap₂ (λ xs x. xs ++ x ∷ []) (map-numbered g f n same) (same n)

module _ (e : EpochList) (n : ℕ) (some : 1 ≤ n) (t : TokenState) (first : t.at ≡ 0) (qs : List QueueState) where
  abbrev queues : List QueueState
  queues = numbered (λ i. new_queue i e) n

  abbrev held : QueueState → QueueState
  held q = record q { token = Some (record t { at = q.number }) }

  first_is : queue_at queues 0 ≡ new_queue 0 e
  first_is = get_or-numbered (λ i. new_queue i e) n 0 no_queue some

  ring_is : qs ≡ set queues 0 (held (queue_at queues 0)) → qs ≡ set queues 0 (held (new_queue 0 e))
  ring_is is = is ∙ ap (λ q. set queues 0 (held q)) first_is

  pub ring_seen : qs ≡ set queues 0 (held (queue_at queues 0)) → queues_seen qs ≡ queues
  ring_seen is =
      ap queues_seen (ring_is is)
      ∙ map-set_same tokenless queues 0 (held (new_queue 0 e)) no_queue (sym (ap tokenless first_is))
      ∙ map-numbered tokenless (λ i. new_queue i e) n (λ i. refl)

  pub ring_has : qs ≡ set queues 0 (held (queue_at queues 0)) → HaveToken qs t
  ring_has is = subst (λ xs. HaveToken xs t) (sym (ring_is is)) (record {
    there = omega (arith, first, length-set queues 0 (held (new_queue 0 e)), length-numbered (λ i. new_queue i e) n);
    holder =
        ap (λ i. (queue_at (set queues 0 (held (new_queue 0 e))) i).token) first
        ∙ ap (λ (q : QueueState). q.token) (get_or-set_same queues 0 (held (new_queue 0 e)) no_queue (omega (arith, length-numbered (λ i. new_queue i e) n)))
        ∙ ap (λ i. Some (record t { at = i })) (sym first);
    others = λ i within other.
        ap (λ (q : QueueState). q.token) (get_or-set_other queues 0 i (held (new_queue 0 e)) no_queue (λ is0. other (is0 ∙ sym first))
        ∙ get_or-numbered (λ i. new_queue i e) n i no_queue (omega (arith, within, length-set queues 0 (held (new_queue 0 e)), length-numbered (λ i. new_queue i e) n)));
  })

-- the first queue of these may take the token
pub record MayHold (qs : List QueueState) : Type 0 where
  pub some : 1 ≤ length qs
  pub free : (queue_at qs 0).token ≡ None

pub may_hold : (e : EpochList) (n : ℕ) (qs : List QueueState) → 1 ≤ n → qs ≡ numbered (λ i. new_queue i e) n → MayHold qs
may_hold e n qs some is = record {
  some = omega (arith, ap (λ (xs : List QueueState). length xs) is, length-numbered (λ i. new_queue i e) n);
  free = ap (λ xs. (queue_at xs 0).token) is ∙ ap (λ (q : QueueState). q.token) (get_or-numbered (λ i. new_queue i e) n 0 no_queue some);
}

-- and once it has it
pub record IsRing (e : EpochList) (n : ℕ) (t : TokenState) (qs : List QueueState) : Type 0 where
  pub seen : queues_seen qs ≡ numbered (λ i. new_queue i e) n
  pub has : HaveToken qs t

pub is_ring : (e : EpochList) (n : ℕ) (t t' : TokenState) (qs new : List QueueState) → 1 ≤ n → t.at ≡ 0 → qs ≡ numbered (λ i. new_queue i e) n → t' ≡ t
    → new ≡ set qs 0 (record (queue_at qs 0) { token = Some (record t' { at = (queue_at qs 0).number }) }) → IsRing e n t new
is_ring e n t t' qs new some first is same held =
    let all : new ≡ set (numbered (λ i. new_queue i e) n) 0 (record (queue_at (numbered (λ i. new_queue i e) n) 0) { token = Some (record t { at = (queue_at (numbered (λ i. new_queue i e) n) 0).number }) }) =
    held ∙ ap₂ (λ xs (u : TokenState). set xs 0 (record (queue_at xs 0) { token = Some (record u { at = (queue_at xs 0).number }) })) is same in
    record { seen = ring_seen e n some t first new all; has = ring_has e n some t first new all }

-- the commands of each session are in their ranges, and their numbers fit

few_commands : (plans : List SessionPlan) (k : ℕ) (d : SessionPlan) → k < length plans → length (get_or plans k d).commands ≤ commands_of plans
few_commands [] k d inside = absurd (omega (arith, inside))
few_commands (plan ∷ plans) zero d inside = omega arith
few_commands (plan ∷ plans) (suc k) d inside = omega (arith, few_commands plans k d (omega (arith, inside)))

pub all_commands : (load : Workload) → FitsLimits load → All (λ (plan : SessionPlan). AreCommands plan.commands) load.sessions
all_commands load fits k d inside = record { few = omega (arith, few_commands load.sessions k d inside, fits.commands); each = (fits.plans k d inside).commands }

-- no session that is new has a pin

none_first : (b : Bool) (x : Session) (later : Option Session) → x.pin ≡ None → option_and_then (λ (y : Session). y.pin) later ≡ None → option_and_then (λ (y : Session). y.pin) (cond b (Some x) later) ≡ None
none_first true x later first rest = first
none_first false x later first rest = rest

none_at : (b : Bool) (x : Session) (xs : List Session) (n : ℕ) → x.pin ≡ None → pin_in xs n ≡ None → pin_in (cond b (x ∷ xs) xs) n ≡ None
none_at true x xs n first rest = none_first (eqb x.number n) x (find (λ (y : Session). eqb y.number n) xs) first rest
none_at false x xs n first rest = rest

pub none_pinned : (dcs d first n : ℕ) (plans : List SessionPlan) → pin_in (sessions_from dcs d first plans) n ≡ None
none_pinned dcs d first n [] = refl
none_pinned dcs d first n (plan ∷ plans) = none_at (eqb plan.home d) (new_session dcs first plan) (sessions_from dcs d (first + 1) plans) n refl (none_pinned dcs d (first + 1) n plans)

-- and nothing is held against collection
pub nothing_held : (n : ℕ) → pin_of fresh n ≡ None
nothing_held n = elim (cases_lt n 64) [
  | inl within ↦ get_or-replicate 64 n None None within
  | inr past ↦ get_or_past (replicate 64 None) n None (omega (arith, past, length-replicate {A = Option ℕ} 64 None))
]
