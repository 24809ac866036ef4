-- A queue that stamps.
use Rattle.std.proofs.Common.{◌≡◌, ℕ, ◌+◌, ◌-◌, ◌<◌, ◌≤◌, ◌^◌, min, List, ◌++◌, length, take, refl, ap, sym, ◌∙◌, subst, arith, Option, Some, None, Result, Ok, Err}
use Rattle.std.specs.List.{All}
use Rattle.std.specs.Option.{ForSome, IsSomeAnd}
use Rattle.std.specs.Result.{IfOk, OnOk}
use Rattle.std.proofs.lemmas.List.{length-append, take-append-le, take_all}
use Rattle.std.proofs.lemmas.List.Elements.{All-append}
use Rattle.causal_deps.specs.declared.record.Record.{Record}
use Rattle.causal_deps.specs.declared.record.Item.{Item}
use Rattle.causal_deps.specs.Logs.{AreCountsOf}
use Rattle.flstore_rounds.specs.Epochs.{EpochList}
use Rattle.token_queue.specs.declared.entry.Stamp.{Stamp}
use Rattle.token_queue.specs.Items.{FitsItem}
use Rattle.token_queue.specs.Drain.{Drained, drain, drain_by}
use Rattle.token_queue.specs.Queues.{TokenState, IsToken, QueueState, IsLogOf, Stamps, stamped_token}
use Rattle.token_queue.specs.Room.{OutboxState, HaveRoom}
use Rattle.token_queue.proofs.DrainLemmas.{counts_suffice, drain_counts, drain_by_few}
use Rattle.token_queue.proofs.RoomLemmas.{owned_fewer}

-- the token with the queue's items behind its own
pub joined_stays : (t u : TokenState) (q r : QueueState) (xs : List Item) → IsToken t → t ≡ u → q ≡ r → All (FitsItem (length u.counts)) r.items → xs ≡ t.deferred ++ q.items → IsToken (record t { deferred = xs })
joined_stays t u q r xs h same_token same_queue fit all =
    let fits : All (FitsItem (length t.counts)) q.items =
    subst (λ (x : QueueState). All (FitsItem (length t.counts)) x.items) (sym same_queue) (subst (λ (x : TokenState). All (FitsItem (length x.counts)) r.items) (sym same_token) fit) in
    record {
      here = h.here;
      counted = h.counted;
      fit = subst (λ (ys : List Item). All (FitsItem (length t.counts)) ys) (sym all) (All-append (FitsItem (length t.counts)) t.deferred q.items h.fit fits);
      numbered = h.numbered;
      ring = h.ring;
    }

-- room for so many positions is room for fewer
pub same_room : (e f : EpochList) (p q m n : ℕ) (os us : List OutboxState) → f ≡ e → q ≡ p → m ≤ n → us ≡ os → HaveRoom f q n us → HaveRoom e p m os
same_room e f p q m n os us epochs first fewer outboxes room k within =
    let here : HaveRoom e p n os = subst (λ x. HaveRoom x p n os) epochs (subst (λ x. HaveRoom f x n os) first (subst (λ x. HaveRoom f q n x) outboxes room)) in
    omega (arith, owned_fewer e k p m n fewer, here k within)

-- so many positions are enough for all that is stamped
pub enough_wanted : (t u : TokenState) (q r : QueueState) (xs : List Item) (deferred items last wanted : ℕ) → t ≡ u → q ≡ r → xs ≡ t.deferred ++ q.items
    → u.last + length (drain_by u.dc u.counts (u.deferred ++ r.items)).records < 2 ^ 48 → deferred ≡ length u.deferred → items ≡ length q.items → last ≡ u.last
    → wanted ≡ min (deferred + items) (2 ^ 48 - 1 - last) → length (drain_by t.dc t.counts xs).records ≤ wanted
enough_wanted t u q r xs deferred items last wanted same_token same_queue all left deferred_is items_is last_is wanted_is =
    let mine : t.last + length (drain_by t.dc t.counts (t.deferred ++ q.items)).records < 2 ^ 48 = subst (λ (x : QueueState). t.last + length (drain_by t.dc t.counts (t.deferred ++ x.items)).records < 2 ^ 48) (sym same_queue)
    (subst (λ (x : TokenState). x.last + length (drain_by x.dc x.counts (x.deferred ++ r.items)).records < 2 ^ 48) (sym same_token) left) in
    let few = drain_by_few (length xs) t.dc t.counts xs in
    omega (
      arith,
      mine,
      few,
      deferred_is,
      items_is,
      last_is,
      wanted_is,
      ap (λ (x : TokenState). x.last) same_token,
      ap (λ (x : TokenState). length x.deferred) same_token,
      ap length all,
      length-append t.deferred q.items,
      ap (λ (ys : List Item). length (drain_by t.dc t.counts ys).records) all,
    )

-- what is said of the token that the queue has, of the token that is taken out
pub held : (P : TokenState → List Item → Type 0) (q r : QueueState) (o : Option TokenState) (t : TokenState) → q ≡ r → o ≡ q.token → o ≡ Some t → ForSome r.token (λ u. P u r.items) → P t q.items
held P q r o t same left is fit =
    let mine : ForSome q.token (λ u. P u q.items) = subst (λ (x : QueueState). ForSome x.token (λ u. P u x.items)) (sym same) fit in
    subst (λ (x : Option TokenState). ForSome x (λ u. P u q.items)) (sym left ∙ is) mine t refl

pub fits_held : (q r : QueueState) (o : Option TokenState) (t : TokenState) → q ≡ r → o ≡ q.token → o ≡ Some t → ForSome r.token (λ u. All (FitsItem (length u.counts)) r.items) → All (FitsItem (length t.counts)) q.items
fits_held q r o t same left is fit = held (λ u items. All (FitsItem (length u.counts)) items) q r o t same left is fit

all_fit : (t : TokenState) (items : List Item) → IsToken t → All (FitsItem (length t.counts)) items → All (FitsItem (length t.counts)) (t.deferred ++ items)
all_fit t items h fit = All-append (FitsItem (length t.counts)) t.deferred items h.fit fit

-- by the counts is by the log
same_drain : (t : TokenState) (items : List Item) (log : List Record) → IsToken t → All (FitsItem (length t.counts)) items → AreCountsOf log t.counts → drain_by t.dc t.counts (t.deferred ++ items) ≡ drain t.dc log (t.deferred ++ items)
same_drain t items log h fit are = counts_suffice (length t.counts) t.dc (length (t.deferred ++ items)) log t.counts (t.deferred ++ items) h.here refl are (all_fit t items h fit)

pub stamps_by_log : {E : Type 0} (q new : QueueState) (log : List Record) (o : Option TokenState) (r : Result (List Stamp) E) → OnOk r (ForSome o (λ t. IsToken t)) → ForSome o (λ t. All (FitsItem (length t.counts)) q.items)
    → IfOk r (λ stamps. IsSomeAnd o (λ t. Stamps q t (drain_by t.dc t.counts (t.deferred ++ q.items)) stamps new))
    → IfOk r (λ stamps. IsSomeAnd o (λ t. AreCountsOf log t.counts → Stamps q t (drain t.dc log (t.deferred ++ q.items)) stamps new))
stamps_by_log q new log (Some t) (Ok stamps) h fit is = λ of. subst (λ all. Stamps q t all stamps new) (same_drain t q.items log (h t refl) (fit t refl) of) is
stamps_by_log q new log None (Ok stamps) h fit is = absurd is
stamps_by_log q new log o (Err e) h fit is = tt

log_after : (t : TokenState) (items : List Item) (log : List Record) → IsToken t → All (FitsItem (length t.counts)) items → IsLogOf t log
    → IsLogOf (stamped_token t (drain t.dc log (t.deferred ++ items))) (log ++ (drain t.dc log (t.deferred ++ items)).records)
log_after t items log h fit is =
    let all : Drained = drain t.dc log (t.deferred ++ items) in
    record {
      counts = drain_counts (length t.counts) t.dc (length (t.deferred ++ items)) log (t.deferred ++ items) h.here (all_fit t items h fit) t.counts refl is.counts;
      last = omega (arith, is.last, length-append log all.records);
    }

pub log_of_stamped : {E : Type 0} (q new : QueueState) (log : List Record) (o : Option TokenState) (r : Result (List Stamp) E) → OnOk r (ForSome o (λ t. IsToken t)) → ForSome o (λ t. All (FitsItem (length t.counts)) q.items)
    → IfOk r (λ stamps. IsSomeAnd o (λ t. Stamps q t (drain_by t.dc t.counts (t.deferred ++ q.items)) stamps new))
    → OnOk r (IsSomeAnd o (λ t. IsLogOf t log → IsSomeAnd new.token (λ u. IsLogOf u (log ++ (drain t.dc log (t.deferred ++ q.items)).records))))
log_of_stamped q new log (Some t) (Ok stamps) h fit is = λ of.
    let R : List Record = log ++ (drain t.dc log (t.deferred ++ q.items)).records in
    subst (λ (x : QueueState). IsSomeAnd x.token (λ u. IsLogOf u R)) (sym is.queue)
    (subst (λ all. IsLogOf (stamped_token t all) R) (sym (same_drain t q.items log (h t refl) (fit t refl) of.counts)) (log_after t q.items log (h t refl) (fit t refl) of))
log_of_stamped q new log None (Ok stamps) h fit is = absurd is
log_of_stamped q new log o (Err e) h fit is = tt

pub all_taken : {X : Type 0} (n : ℕ) (xs ys : List X) → n ≡ length xs → take n (xs ++ ys) ≡ xs
all_taken n xs ys size = take-append-le n xs ys (omega arith) ∙ take_all n xs (omega arith)
