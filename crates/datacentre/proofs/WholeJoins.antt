-- Members that join a whole datacentre, and its upgrade: what stands then is what the stage world's turn leaves.
use Rattle.std.proofs.Common.{Result, Ok, Err, IfOk, OnOk, ◌≡◌, ℕ, ◌+◌, ◌<◌, Bool, true, false, not, cond, ltb, List, map, [], ◌∷◌, ◌++◌, length, refl, ap, ap₂, sym, ◌∙◌, subst, arith}
use Rattle.std.proofs.lemmas.Bool.{lt-ltb}
use Rattle.std.proofs.lemmas.List.{length-map, length_push, map_push}
use Rattle.std.proofs.lemmas.List.Elements.{All-map, All-push, All-weaker}
use Rattle.std.specs.List.{All}
use Rattle.causal_deps.specs.declared.record.Record.{Record}
use Rattle.abstract_log.specs.declared.script.Outcome.TheVariants.{EpochAdded, LateMark, Member, Form2}
use Rattle.flstore_rounds.specs.Epochs.{with_epoch}
use Rattle.flstore_rounds.specs.Heads.{Pair, blank}
use Rattle.maintainer.specs.Maintainers.{MaintainerState, empty, plain}
use Rattle.sender_receiver.specs.Sending.{SenderState}
use Rattle.token_queue.specs.Queues.{QueueState, TokenState, mark_bound, tokenless, with_maintainer, with_queue}
use Rattle.stage_world.specs.Stages.{Datacentre}
use Rattle.stage_world.specs.Turns.{quiet, where_there}
use Rattle.stage_world.specs.MoreTurns.{add_maintainer_turn, maintainer_added, new_queue, next_epoch, queue_added, sender_added, upgrade_turn}
use Rattle.stage_world.specs.Idle.{TellsApart, apart_from_epochs, maintainer_apart, queue_apart}
use Rattle.stage_turns.specs.declared.done.TurnDone.{TurnDone}
use Rattle.stage_turns.specs.Joining.{MayAddMaintainer, MayAddQueue, maintainer_outcome, maintainers_with, token_adopted, vectors_with}
use Rattle.stage_turns.specs.Lent.{HaveToken, maintainers_seen, queues_seen, token_seen}
use Rattle.stage_turns.proofs.ChangeLemmas.{same_tells, tells_other}
use Rattle.datacentre.specs.declared.parts.Parts.{Parts}
use Rattle.datacentre.specs.Seen.{IsSenderOf, seen, upgraded}
use Rattle.datacentre.specs.Turning.{IsTurned, MayTurn}
use Rattle.datacentre.proofs.WholeTurns.{as_many, there, told_of}

-- six clauses of one result, and eight

pub if_six : {T E : Type 0} (r : Result T E) (A B C : Type 0) (P Q R S : T → Type 0) → OnOk r A → OnOk r B → OnOk r C → IfOk r P → IfOk r Q → IfOk r R → ((x : T) → A → B → C → P x → Q x → R x → S x) → IfOk r S
if_six (Ok x) A B C P Q R S a b c p q t f = f x a b c p q t
if_six (Err e) A B C P Q R S a b c p q t f = tt

pub if_eight : {T E : Type 0} (r : Result T E) (A B C D F : Type 0) (P Q R S : T → Type 0) → OnOk r A → OnOk r B → OnOk r C → OnOk r D → OnOk r F → IfOk r P → IfOk r Q → IfOk r R
    → ((x : T) → A → B → C → D → F → P x → Q x → R x → S x) → IfOk r S
if_eight (Ok x) A B C D F P Q R S a b c d e p q t f = f x a b c d e p q t
if_eight (Err e) A B C D F P Q R S a b c d g p q t f = tt

-- what is answered where a member has joined
abbrev joined : ℕ → TurnDone
joined n = record { outcome = Member n; events = []; changed = true }

-- senders

pub sender_joins : (p : Parts) (xs : List SenderState) (s : SenderState) (n : ℕ) (done : TurnDone) → MayTurn p → n ≡ length p.senders → n < 16 → s ≡ record { dc = p.dc; number = n; upgraded = p.upgraded } → xs ≡ p.senders ++ s ∷ [] → done ≡ joined n
    → IsTurned p (record p { senders = xs }) done (where_there (ltb (length p.senders) 16) (seen p) (quiet (Member (length p.senders)) (sender_added (seen p))))
sender_joins p xs s n done may many room made is same =
    let z : Datacentre = seen p in
    let one_more : length xs ≡ length p.senders + 1 = ap (λ (ys : List SenderState). length ys) is ∙ length_push p.senders s in
    there p (record p { senders = xs }) done (ltb (length p.senders) 16) (quiet (Member (length p.senders)) (sender_added z)) (lt-ltb (length p.senders) 16 (omega (arith, many, room))) (record {
      stages = ap (λ (k : ℕ). record z { senders = k }) one_more;
      here = refl;
      whole = record {
        token = may.whole.token;
        table = may.whole.table;
        senders = subst (All (IsSenderOf p.dc p.upgraded)) (sym is) (All-push (IsSenderOf p.dc p.upgraded) p.senders s may.whole.senders (record { dc = ap (λ (x : SenderState). x.dc) made; form = ap (λ (x : SenderState). x.upgraded) made }));
        pins = may.whole.pins;
        many = may.whole.many;
      };
      outcome = ap (λ (t : TurnDone). t.outcome) same ∙ ap Member many;
      events = ap (λ (t : TurnDone). t.events) same;
      changed = told_of z (sender_added z) done.changed true (ap (λ (t : TurnDone). t.changed) same)
          (tells_other (apart_from_epochs z) (apart_from_epochs (sender_added z)) (λ alike. absurd (omega (arith, ap (λ (y : Datacentre). y.senders) alike))));
    })

-- an upgrade

-- the flag is another one exactly where it was not set
flag_tells : (z : Datacentre) (b : Bool) → z.upgraded ≡ b → TellsApart (not b) (apart_from_epochs z) (apart_from_epochs (upgrade_turn z).after)
flag_tells z true is = record { same = λ _. ap (λ b. apart_from_epochs (record z { upgraded = b })) is; other = λ yes. absurd (cc) }
flag_tells z false is = record { same = λ no. absurd (cc); other = λ _ alike. absurd (let set : false ≡ true = sym is ∙ ap (λ (y : Datacentre). y.upgraded) alike in cc) }

pub upgrade_is : (p : Parts) (xs : List SenderState) (done : TurnDone) → MayTurn p → xs ≡ map upgraded p.senders → done.outcome ≡ Form2 → done.events ≡ [] → done.changed ≡ not p.upgraded
    → IsTurned p (record p { senders = xs; upgraded = true }) done (upgrade_turn (seen p))
upgrade_is p xs done may is outcome events changed =
    let z : Datacentre = seen p in
    record {
      stages = ap (λ (k : ℕ). record z { senders = k; upgraded = true }) (ap (λ (ys : List SenderState). length ys) is ∙ length-map p.senders upgraded);
      here = refl;
      whole = record {
        token = may.whole.token;
        table = may.whole.table;
        senders = subst (All (IsSenderOf p.dc true)) (sym is)
            (All-map (IsSenderOf p.dc true) upgraded p.senders (All-weaker (IsSenderOf p.dc p.upgraded) (λ s. IsSenderOf p.dc true (upgraded s)) (λ s has. record { dc = has.dc; form = refl }) p.senders may.whole.senders));
        pins = may.whole.pins;
        many = may.whole.many;
      };
      outcome = outcome;
      events = events;
      changed = told_of z (upgrade_turn z).after done.changed (not p.upgraded) changed (flag_tells z p.upgraded refl);
    }

-- queues

pub queues_many : (p : Parts) → length (queues_seen p.queues) ≡ length p.queues
queues_many p = length-map p.queues tokenless

pub may_add_queue : (p : Parts) (n : ℕ) → MayTurn p → n ≡ length p.queues → n < 16 → MayAddQueue p.queues (token_seen p.queues)
may_add_queue p n may many room = record {
  has = may.whole.token;
  ring = may.log.stands.membership.members.queues ∙ queues_many p;
  room = omega (arith, many, room);
}

queue_more : (p : Parts) → apart_from_epochs (seen p) ≡ apart_from_epochs (queue_added (seen p)) → ⊥
queue_more p alike =
    let z : Datacentre = seen p in
    let q : QueueState = new_queue (length z.queues) z.token.epochs in
    absurd (omega (arith, ap (λ (y : Datacentre). length y.queues) alike, length-map z.queues queue_apart, length-map (z.queues ++ q ∷ []) queue_apart, length_push z.queues q))

pub queue_joins : (p : Parts) (qs : List QueueState) (n : ℕ) (done : TurnDone) → MayTurn p → n ≡ length p.queues → n < 16
    → queues_seen qs ≡ queues_seen p.queues ++ new_queue (length p.queues) (token_seen p.queues).epochs ∷ [] → token_seen qs ≡ with_queue (token_seen p.queues) → HaveToken qs (with_queue (token_seen p.queues))
    → done.outcome ≡ Member (length p.queues) → done.events ≡ [] → done.changed ≡ true
    → IsTurned p (record p { queues = qs }) done (where_there (ltb (length (seen p).queues) 16) (seen p) (quiet (Member (length (seen p).queues)) (queue_added (seen p))))
queue_joins p qs n done may many room queues token has outcome events changed =
    let z : Datacentre = seen p in
    let t : TokenState = token_seen p.queues in
    there p (record p { queues = qs }) done (ltb (length z.queues) 16) (quiet (Member (length z.queues)) (queue_added z)) (lt-ltb (length z.queues) 16 (omega (arith, many, room, queues_many p))) (record {
      stages = ap₂ (λ xs u. record z { queues = xs; token = u }) (queues ∙ ap (λ k. queues_seen p.queues ++ new_queue k t.epochs ∷ []) (sym (queues_many p))) token;
      here = refl;
      whole = record { token = subst (HaveToken qs) (sym token) has; table = may.whole.table; senders = may.whole.senders; pins = may.whole.pins; many = may.whole.many };
      outcome = outcome ∙ ap Member (sym (queues_many p));
      events = events;
      changed = told_of z (queue_added z) done.changed true changed (tells_other (apart_from_epochs z) (apart_from_epochs (queue_added z)) (queue_more p));
    })

-- maintainers

pub may_add_maintainer : (p : Parts) (n : ℕ) → MayTurn p → n ≡ length p.maintainers → n < 16 → MayAddMaintainer p.queues (token_seen p.queues) p.maintainers
may_add_maintainer p n may many room = record {
  has = may.whole.token;
  members = may.log.stands.membership.members.maintainers ∙ as_many p;
  room = omega (arith, many, room);
}

maintainer_more : (p : Parts) (at : ℕ) → apart_from_epochs (seen p) ≡ apart_from_epochs (maintainer_added (seen p) at) → ⊥
maintainer_more p at alike =
    let z : Datacentre = seen p in
    let m : MaintainerState Record = empty (length z.maintainers) (with_epoch z.token.epochs (next_epoch z at)) in
    absurd (omega (arith, ap (λ (y : Datacentre). length y.maintainers) alike, length-map z.maintainers maintainer_apart, length-map (z.maintainers ++ m ∷ []) maintainer_apart, length_push z.maintainers m))

maintainer_by : (p : Parts) (at : ℕ) (b : Bool) (qs : List QueueState) (ms : List (MaintainerState Record)) (vs : List Pair) (done : TurnDone) → MayTurn p
    → queues_seen qs ≡ queues_seen p.queues → token_seen qs ≡ cond b (with_maintainer (token_seen p.queues) at) (token_seen p.queues) → HaveToken qs (cond b (with_maintainer (token_seen p.queues) at) (token_seen p.queues))
    → ms ≡ cond b (p.maintainers ++ empty (length p.maintainers) (with_maintainer (token_seen p.queues) at).epochs ∷ []) p.maintainers
    → vs ≡ cond b (p.vectors ++ blank (with_maintainer (token_seen p.queues) at).epochs ∷ []) p.vectors
    → done.outcome ≡ cond b (EpochAdded at (length p.maintainers + 1)) (LateMark (mark_bound (token_seen p.queues))) → done.events ≡ [] → done.changed ≡ b
    → IsTurned p (record p { queues = qs; maintainers = ms; vectors = vs }) done
    (cond b (quiet (EpochAdded at (length (seen p).maintainers + 1)) (maintainer_added (seen p) at)) (quiet (LateMark (mark_bound (token_seen p.queues))) (seen p)))
maintainer_by p at true qs ms vs done may queues token has maintainers vectors outcome events changed =
    let z : Datacentre = seen p in
    let t : TokenState = token_seen p.queues in
    let size : length p.maintainers ≡ length z.maintainers = sym (as_many p) in
    let epochs : (with_maintainer t at).epochs ≡ with_epoch t.epochs (next_epoch z at) =
    ap (λ k. with_epoch t.epochs (record { start = at; members = k + 1 })) may.log.stands.membership.members.maintainers in
    let more : maintainers_seen ms ≡ z.maintainers ++ empty (length z.maintainers) (with_epoch t.epochs (next_epoch z at)) ∷ [] =
    ap maintainers_seen maintainers ∙ map_push (λ (y : MaintainerState Record). plain y) p.maintainers (empty (length p.maintainers) (with_maintainer t at).epochs)
    ∙ ap₂ (λ k e. z.maintainers ++ empty k e ∷ []) size epochs in
    let told : vs ≡ p.vectors ++ blank (with_epoch t.epochs (next_epoch z at)) ∷ [] = vectors ∙ ap (λ e. p.vectors ++ blank e ∷ []) epochs in
    let held : token_seen qs ≡ record t { epochs = with_epoch t.epochs (next_epoch z at) } = token ∙ ap (λ e. record t { epochs = e }) epochs in
    record {
      stages = λ i. record z { queues = queues i; token = held i; maintainers = more i; vectors = told i };
      here = refl;
      whole = record { token = subst (HaveToken qs) (sym token) has; table = may.whole.table; senders = may.whole.senders; pins = may.whole.pins; many = may.whole.many };
      outcome = outcome ∙ ap (λ k. EpochAdded at (k + 1)) size;
      events = events;
      changed = told_of z (maintainer_added z at) done.changed true changed (tells_other (apart_from_epochs z) (apart_from_epochs (maintainer_added z at)) (maintainer_more p at));
    }
maintainer_by p at false qs ms vs done may queues token has maintainers vectors outcome events changed =
    let z : Datacentre = seen p in
    record {
      stages = λ i. record z { queues = queues i; token = token i; maintainers = maintainers_seen (maintainers i); vectors = vectors i };
      here = refl;
      whole = record { token = subst (HaveToken qs) (sym token) has; table = may.whole.table; senders = may.whole.senders; pins = may.whole.pins; many = may.whole.many };
      outcome = outcome;
      events = events;
      changed = told_of z z done.changed false changed (same_tells (apart_from_epochs z));
    }

pub maintainer_joins : (p : Parts) (at n : ℕ) (qs : List QueueState) (ms : List (MaintainerState Record)) (vs : List Pair) (done : TurnDone) → MayTurn p → n ≡ length p.maintainers → n < 16
    → queues_seen qs ≡ queues_seen p.queues → token_seen qs ≡ token_adopted (token_seen p.queues) at → HaveToken qs (token_adopted (token_seen p.queues) at)
    → ms ≡ maintainers_with (token_seen p.queues) at p.maintainers → vs ≡ vectors_with (token_seen p.queues) at p.vectors
    → done.outcome ≡ maintainer_outcome (token_seen p.queues) at (length p.maintainers) → done.events ≡ [] → done.changed ≡ ltb (mark_bound (token_seen p.queues)) at
    → IsTurned p (record p { queues = qs; maintainers = ms; vectors = vs }) done (where_there (ltb (length (seen p).maintainers) 16) (seen p) (add_maintainer_turn (seen p) at))
maintainer_joins p at n qs ms vs done may many room queues token has maintainers vectors outcome events changed =
    there p (record p { queues = qs; maintainers = ms; vectors = vs }) done (ltb (length (seen p).maintainers) 16) (add_maintainer_turn (seen p) at)
    (lt-ltb (length (seen p).maintainers) 16 (omega (arith, many, room, as_many p)))
    (maintainer_by p at (ltb (mark_bound (token_seen p.queues)) at) qs ms vs done may queues token has maintainers vectors outcome events changed)
