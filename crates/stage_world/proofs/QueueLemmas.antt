-- Queues of a datacentre, when one of them changes, and the members of each stage.
use Rattle.std.proofs.Common.{◌≡◌, ℕ, ◌-◌, ◌/◌, ◌<◌, ◌≤◌, cond, leb, mod-lt, List, [], ◌∷◌, ◌++◌, length, get_or, set, ap, ◌∙◌, subst, sym, inl, inr, arith, None}
use Rattle.std.specs.List.{All}
use Rattle.std.proofs.lemmas.List.{get_or-set_other, set_past, length-set}
use Rattle.std.proofs.lemmas.List.Elements.{All-push, All-head, All-tail}
use Rattle.std.proofs.lemmas.Bool.{cases_eq, cases_lt, cond_both}
use Rattle.std.proofs.lemmas.Grind.{get_or-set_at}
use Rattle.causal_deps.specs.declared.record.Record.{Record}
use Rattle.abstract_log.specs.declared.script.Sizes.{Sizes}
use Rattle.abstract_log.specs.Fits.{FitsSizes}
use Rattle.flstore_rounds.specs.declared.epochs.Epoch.{Epoch}
use Rattle.flstore_rounds.specs.Epochs.{EpochList, IsEpochList, first_epoch, epoch_from, owner, IsSettled}
use Rattle.maintainer.specs.Maintainers.{MaintainerState}
use Rattle.token_queue.specs.declared.entry.Entry.{Entry}
use Rattle.token_queue.specs.Queues.{QueueState, with_entry}
use Rattle.stage_world.specs.Stages.{Datacentre, no_queue, queue_at, sizes_of}
use Rattle.stage_world.specs.StandsFor.{AreQueues, AreMembers, HasMembership, IsDealtBy}
use Rattle.stage_world.proofs.ListLemmas.{All-set_at}

pub queues_set : (qs : List QueueState) (i : ℕ) (q : QueueState) → q.number ≡ (queue_at qs i).number → q.token ≡ (queue_at qs i).token → AreQueues qs → AreQueues (set qs i q)
queues_set qs i q number token h = record {
  numbers = λ k within. elim (cases_eq k i) [
    | inr other ↦ ap (λ (x : QueueState). x.number) (get_or-set_other qs i k q no_queue other) ∙ h.numbers k (omega (arith, length-set qs i q))
    | inl same ↦ ap (λ (x : QueueState). x.number) (get_or-set_at qs i k q no_queue same (omega (arith, length-set qs i q, same))) ∙ number ∙ h.numbers i (omega (arith, length-set qs i q, same)) ∙ sym same
  ];
  apart = All-set_at (λ (x : QueueState). x.token ≡ None) qs i q no_queue (λ inside has. token ∙ has) h.apart;
}

pub members_same : (t : EpochList) (ring at nv : ℕ) (a b : Sizes) → b ≡ a → AreMembers t ring at nv a → AreMembers t ring at nv b
members_same t ring at nv a b same h = subst (AreMembers t ring at nv) (sym same) h

pub sizes_with_queue : (z : Datacentre) (i : ℕ) (q : QueueState) → sizes_of (record z { queues = set z.queues i q }) ≡ sizes_of z
sizes_with_queue z i q = ap (λ n. record (sizes_of z) { queues = n }) (length-set z.queues i q)

-- as many queues and maintainers as before, and members in their ranges
pub resized : (t : EpochList) (ring at nv : ℕ) (a b : Sizes) (qs : List QueueState) (ms : List (MaintainerState Record)) → b.queues ≡ a.queues → b.maintainers ≡ a.maintainers → FitsSizes b
    → HasMembership t ring at nv a qs ms → HasMembership t ring at nv b qs ms
resized t ring at nv a b qs ms queues maintainers fits h = record {
  owned = h.owned;
  queues = h.queues;
  members = record {
    dealt = h.members.dealt;
    maintainers = h.members.maintainers ∙ sym maintainers;
    vectors = h.members.vectors ∙ sym maintainers;
    queues = h.members.queues ∙ sym queues;
    holder = omega (arith, h.members.holder, queues);
    ranges = fits;
  };
}

-- an entry more, in the outbox of its owner
pub dealt_more : (t : EpochList) (q : QueueState) (e : Entry) → q.epochs ≡ t → IsSettled t q.epochs e.lid → IsDealtBy t q → IsDealtBy t (with_entry t e q)
dealt_more t q e same settled h = record {
  known = h.known;
  outboxes = length-set q.outboxes (owner t e.lid) (get_or q.outboxes (owner t e.lid) [] ++ e ∷ []) ∙ h.outboxes;
  owned = λ m. elim (cases_eq m (owner t e.lid)) [
    | inr other ↦ subst (All (λ x. (owner q.epochs x.lid ≡ m) × IsSettled t q.epochs x.lid)) (sym (get_or-set_other q.outboxes (owner t e.lid) m (get_or q.outboxes (owner t e.lid) [] ++ e ∷ []) [] other)) (h.owned m)
    | inl is ↦ elim (cases_lt (owner t e.lid) (length q.outboxes)) [
      | inr past ↦ subst (λ (os : List (List Entry)). All (λ x. (owner q.epochs x.lid ≡ m) × IsSettled t q.epochs x.lid) (get_or os m [])) (sym (set_past q.outboxes (owner t e.lid) (get_or q.outboxes (owner t e.lid) [] ++ e ∷ []) past)) (h.owned m)
      | inl inside ↦ subst (All (λ x. (owner q.epochs x.lid ≡ m) × IsSettled t q.epochs x.lid)) (sym (get_or-set_at q.outboxes (owner t e.lid) m (get_or q.outboxes (owner t e.lid) [] ++ e ∷ []) [] is inside))
          (All-push (λ (x : Entry). (owner q.epochs x.lid ≡ m) × IsSettled t q.epochs x.lid) (get_or q.outboxes (owner t e.lid) []) e
          (subst (λ k. All (λ x. (owner q.epochs x.lid ≡ m) × IsSettled t q.epochs x.lid) (get_or q.outboxes k [])) is (h.owned m))
          (ap (λ f. owner f e.lid) same ∙ sym is, settled))
    ]
  ];
}

-- an epoch of the list, or the first one, deals each position
few_from : (found : Epoch) (es : List Epoch) (p : ℕ) → (1 ≤ found.members) × (found.members ≤ 16) → All (λ e. 1 ≤ e.members) es → All (λ e. e.members ≤ 16) es
    → (1 ≤ (epoch_from found es p).members) × ((epoch_from found es p).members ≤ 16)
few_from found [] p has some few = has
few_from found (e ∷ es) p has some few =
    few_from (cond (leb e.start p) e found) es p
    (cond_both (leb e.start p) e found (λ (x : Epoch). (1 ≤ x.members) × (x.members ≤ 16)) (λ _. (All-head (λ (x : Epoch). 1 ≤ x.members) e es some, All-head (λ (x : Epoch). x.members ≤ 16) e es few)) (λ _. has))
    (All-tail (λ (x : Epoch). 1 ≤ x.members) e es some) (All-tail (λ (x : Epoch). x.members ≤ 16) e es few)

-- the owner of a position is one of the members
pub owner_below : (t : EpochList) (p : ℕ) → IsEpochList t → owner t p < 16
owner_below t p h =
    let few = few_from first_epoch t.list p (omega arith, omega arith) h.some_members h.few_members in
    let x : Epoch = epoch_from first_epoch t.list p in
    omega (arith, mod-lt ((p - x.start) / t.round) few.0, few.1)
