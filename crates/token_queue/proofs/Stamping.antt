-- Stamping the deferred items one after another is the drain of them.
use Rattle.std.proofs.Common.{◌≡◌, ◌↔◌, ℕ, zero, suc, ◌+◌, ◌<◌, ◌≤◌, ◌^◌, cond, List, [], ◌∷◌, ◌++◌, length, get_or, set, refl, ap, ap₂, sym, ◌∙◌, subst, arith, Option, Some, None, append_assoc, append-nil}
use Rattle.std.proofs.Common.{eq-eqb, ne_eqb}
use Rattle.std.specs.Option.{ForSome, option_map, option_map_or}
use Rattle.std.proofs.lemmas.Option.{same_Some}
use Rattle.causal_deps.specs.declared.record.Item.{Item}
use Rattle.flstore_rounds.specs.Epochs.{EpochList, owner}
use Rattle.token_queue.specs.declared.entry.Entry.{Entry}
use Rattle.token_queue.specs.declared.entry.Stamp.{Stamp}
use Rattle.token_queue.specs.Items.{is_ready, record_from}
use Rattle.token_queue.specs.Drain.{Drained, all_deferred, with_first, drain_by_at_most, drain_by}
use Rattle.token_queue.specs.Queues.{TokenState, QueueState, Stamps, all_of, with_entry, with_items, stamped_queue, next_out, record_of, entry_after, token_after, entries_from, stamp_of, owned_by, dealt, stamped_token, stamps_of}
use Rattle.token_queue.specs.Room.{OutboxState, entries_of, HaveRoom}
use Rattle.token_queue.proofs.ListLemmas.{is_out}
use Rattle.token_queue.proofs.RoomLemmas.{outbox_filled, room_first, room_rest}

-- the outboxes once all is stamped
abbrev pub outboxes_of : TokenState → List (List Entry) → List (List Entry)
outboxes_of t os = dealt t.epochs (entries_from t.last (all_of t).records) 0 os

-- Where nothing is ready, all is deferred.
pub all_of_none : (t : TokenState) → next_out t ≡ None → all_of t ≡ all_deferred t.deferred
all_of_none t is = at (length t.deferred)
  where
    at : (n : ℕ) → drain_by_at_most n t.dc t.counts t.deferred ≡ all_deferred t.deferred
    at zero = refl
    at (suc n) = ap (λ o. option_map_or (λ found. with_first found.0 (record_from t.dc t.counts found.0)
        (drain_by_at_most n t.dc (set t.counts (record_from t.dc t.counts found.0).host (record_from t.dc t.counts found.0).toid) found.1)) o (all_deferred t.deferred)) is

-- Else the first ready item comes first, and then all that the token after it drains.
pub all_of_first : (t : TokenState) (found : Item × List Item) → next_out t ≡ Some found → all_of t ≡ with_first found.0 (record_of t found.0) (all_of (token_after t found))
all_of_first t found is =
    let size : length t.deferred ≡ suc (length found.1) = omega (arith, (is_out (is_ready t.counts) t.deferred found is).shorter) in
    ap (λ n. drain_by_at_most n t.dc t.counts t.deferred) size
    ∙ ap (λ o. option_map_or (λ x. with_first x.0 (record_from t.dc t.counts x.0)
    (drain_by_at_most (length found.1) t.dc (set t.counts (record_from t.dc t.counts x.0).host (record_from t.dc t.counts x.0).toid) x.1)) o (all_deferred t.deferred)) is

-- The stamps: that of the first entry goes last into the answer so far, and then come those of the token after it.
pub stamps_step : (t : TokenState) (found : Item × List Item) (stamps more : List Stamp) (s : Stamp) → next_out t ≡ Some found → s ≡ stamp_of (entry_after t found) → more ≡ stamps ++ s ∷ []
    → more ++ stamps_of (token_after t found) (all_of (token_after t found)) ≡ stamps ++ stamps_of t (all_of t)
stamps_step t found stamps more s is made grown =
    let rest : List Stamp = stamps_of (token_after t found) (all_of (token_after t found)) in
    ap (λ (xs : List Stamp). xs ++ rest) (grown ∙ ap (λ x. stamps ++ x ∷ []) made)
    ∙ append_assoc stamps (stamp_of (entry_after t found) ∷ []) rest
    ∙ ap (λ all. stamps ++ stamps_of t all) (sym (all_of_first t found is))

-- an entry whose owner comes before these outboxes goes into none of them
pub dealt_before : (e : EpochList) (x : Entry) (es : List Entry) (m : ℕ) (os : List (List Entry)) → owner e x.lid < m → dealt e (x ∷ es) m os ≡ dealt e es m os
dealt_before e x es m [] low = refl
dealt_before e x es m (o ∷ os) low =
    ap₂ (λ (ys : List Entry) (rest : List (List Entry)). (o ++ ys) ∷ rest)
    (ap (λ b. cond b (x ∷ owned_by e m es) (owned_by e m es)) (ne_eqb (owner e x.lid) m (λ is. absurd (omega (arith, is)))))
    (dealt_before e x es (suc m) os (omega arith))

-- an entry goes behind its owner's
pub dealt_to : (e : EpochList) (x : Entry) (es : List Entry) (m k : ℕ) (os : List (List Entry)) → owner e x.lid ≡ m + k → dealt e (x ∷ es) m os ≡ dealt e es m (set os k (get_or os k [] ++ x ∷ []))
dealt_to e x es m k [] own = refl
dealt_to e x es m zero (o ∷ os) own =
    ap₂ (λ (ys : List Entry) (rest : List (List Entry)). (o ++ ys) ∷ rest)
    (ap (λ b. cond b (x ∷ owned_by e m es) (owned_by e m es)) (eq-eqb (owner e x.lid) m (omega arith)))
    (dealt_before e x es (suc m) os (omega arith))
    ∙ ap (λ (ys : List Entry). ys ∷ dealt e es (suc m) os) (sym (append_assoc o (x ∷ []) (owned_by e m es)))
dealt_to e x es m (suc k) (o ∷ os) own =
    ap₂ (λ (ys : List Entry) (rest : List (List Entry)). (o ++ ys) ∷ rest)
    (ap (λ b. cond b (x ∷ owned_by e m es) (owned_by e m es)) (ne_eqb (owner e x.lid) m (λ is. absurd (omega (arith, is)))))
    (dealt_to e x es (suc m) k os (omega arith))

pub dealt_none : (e : EpochList) (m : ℕ) (os : List (List Entry)) → dealt e [] m os ≡ os
dealt_none e m [] = refl
dealt_none e m (o ∷ os) = ap₂ (λ (ys : List Entry) (rest : List (List Entry)). ys ∷ rest) (append-nil o) (dealt_none e (suc m) os)

-- The outboxes: the first entry goes to its owner, and then those of the token after it are dealt.
pub outboxes_step : (t : TokenState) (found : Item × List Item) (os more : List (List Entry)) (w : ℕ) (x : Entry) → next_out t ≡ Some found → x ≡ entry_after t found → w ≡ owner t.epochs x.lid
    → more ≡ set os w (get_or os w [] ++ x ∷ []) → outboxes_of (token_after t found) more ≡ outboxes_of t os
outboxes_step t found os more w x is made own put =
    let es : List Entry = entries_from (t.last + 1) (all_of (token_after t found)).records in
    ap (λ (ys : List (List Entry)). dealt t.epochs es 0 ys) put
    ∙ sym (dealt_to t.epochs x es 0 w os (omega (arith, own)))
    ∙ ap (λ y. dealt t.epochs (y ∷ es) 0 os) made
    ∙ ap (λ all. dealt t.epochs (entries_from t.last all.records) 0 os) (sym (all_of_first t found is))

-- The token: stamping on from the token after the first entry comes to the same.
pub token_step : (t : TokenState) (found : Item × List Item) → next_out t ≡ Some found → stamped_token (token_after t found) (all_of (token_after t found)) ≡ stamped_token t (all_of t)
token_step t found is =
    let later : Drained = all_of (token_after t found) in
    let last : t.last + 1 + length later.records ≡ t.last + suc (length later.records) = omega arith in
    ap (λ n. record (stamped_token (token_after t found) later) { last = n }) last
    ∙ ap (stamped_token t) (sym (all_of_first t found is))

-- one stamping of the token t, which gives the entry and leaves the token u
pub record IsNext (t : TokenState) (entry : Entry) (u : TokenState) : Type 0 where
  pub found : Item × List Item
  pub is : next_out t ≡ Some found
  pub entry_is : entry ≡ entry_after t found
  pub token_is : u ≡ token_after t found
  pub shorter : length t.deferred ≡ suc (length u.deferred)
  pub fewer : length (all_of t).records ≡ suc (length (all_of u).records)

pub next_is : (t : TokenState) (r : Option Entry) (entry : Entry) (u : TokenState) → r ≡ option_map (entry_after t) (next_out t) → u ≡ option_map_or (token_after t) (next_out t) t → r ≡ Some entry → IsNext t entry u
next_is t r entry u gave left is = at (next_out t) refl gave left
  where
    at : (o : Option (Item × List Item)) → next_out t ≡ o → r ≡ option_map (entry_after t) o → u ≡ option_map_or (token_after t) o t → IsNext t entry u
    at None none gives leaves = absurd (cc)
    at (Some found) some gives leaves =
        let same : Some (entry_after t found) ≡ Some entry = sym gives ∙ is in
        record {
          found = found;
          is = some;
          entry_is = sym (same_Some (entry_after t found) entry same);
          token_is = leaves;
          shorter = omega (arith, (is_out (is_ready t.counts) t.deferred found some).shorter, ap (λ (v : TokenState). length v.deferred) leaves);
          fewer = omega (arith, ap (λ (all : Drained). length all.records) (all_of_first t found some), ap (λ (v : TokenState). length (all_of v).records) leaves);
        }

pub none_is : (t : TokenState) (r : Option Entry) → r ≡ option_map (entry_after t) (next_out t) → r ≡ None → next_out t ≡ None
none_is t r gave is = at (next_out t) refl gave
  where
    at : (o : Option (Item × List Item)) → next_out t ≡ o → r ≡ option_map (entry_after t) o → next_out t ≡ None
    at None none gives = none
    at (Some found) some gives = absurd (cc)

-- the owner, by the epochs that the token after it tells
own_is : (t u : TokenState) (entry : Entry) (ep : EpochList) (w : ℕ) → IsNext t entry u → ep ≡ u.epochs → w ≡ owner ep entry.lid → owner t.epochs (t.last + 1) ≡ w
own_is t u entry ep w h same own = sym (own ∙ ap₂ owner (same ∙ ap (λ (v : TokenState). v.epochs) h.token_is) (ap (λ (e : Entry). e.lid) h.entry_is))

pub next_has_room : (t u : TokenState) (entry : Entry) (ep : EpochList) (w : ℕ) (os : List OutboxState) (d : OutboxState) → IsNext t entry u → ep ≡ u.epochs → w ≡ owner ep entry.lid → w < length os
    → HaveRoom t.epochs (t.last + 1) (length (all_of t).records) os → 1 ≤ (get_or os w d).room
next_has_room t u entry ep w os d h same own there room =
    let is : owner t.epochs (t.last + 1) ≡ w = own_is t u entry ep w h same own in
    subst (λ k. 1 ≤ (get_or os k d).room) is
    (room_first t.epochs (t.last + 1) (length (all_of u).records) os d (omega (arith, is)) (subst (λ n. HaveRoom t.epochs (t.last + 1) n os) h.fewer room))

pub rest_has_room : (t u : TokenState) (entry : Entry) (ep : EpochList) (w : ℕ) (os : List OutboxState) (o d : OutboxState) → IsNext t entry u → ep ≡ u.epochs → w ≡ owner ep entry.lid → w < length os
    → HaveRoom t.epochs (t.last + 1) (length (all_of t).records) os → (get_or os w d).room ≤ o.room + 1 → HaveRoom u.epochs (u.last + 1) (length (all_of u).records) (set os w o)
rest_has_room t u entry ep w os o d h same own there room left =
    let rest : HaveRoom t.epochs (t.last + 1 + 1) (length (all_of u).records) (set os w o) =
    room_rest t.epochs (t.last + 1) (length (all_of u).records) w os o d there (own_is t u entry ep w h same own) (subst (λ n. HaveRoom t.epochs (t.last + 1) n os) h.fewer room) left in
    subst (λ (v : TokenState). HaveRoom v.epochs (v.last + 1) (length (all_of u).records) (set os w o)) (sym h.token_is) rest

pub next_answer : (t u : TokenState) (entry : Entry) (stamps more whole : List Stamp) (s : Stamp) → IsNext t entry u → s ≡ stamp_of entry → more ≡ stamps ++ s ∷ [] → stamps ++ stamps_of t (all_of t) ≡ whole
    → more ++ stamps_of u (all_of u) ≡ whole
next_answer t u entry stamps more whole s h made grown before =
    subst (λ (v : TokenState). more ++ stamps_of v (all_of v) ≡ whole) (sym h.token_is) (stamps_step t h.found stamps more s h.is (made ∙ ap stamp_of h.entry_is) grown ∙ before)

pub next_dealt : (t u : TokenState) (entry : Entry) (ep : EpochList) (w : ℕ) (os : List OutboxState) (whole : List (List Entry)) (o d : OutboxState) → IsNext t entry u → ep ≡ u.epochs → w ≡ owner ep entry.lid → w < length os
    → o.entries ≡ (get_or os w d).entries ++ entry ∷ [] → outboxes_of t (entries_of os) ≡ whole → outboxes_of u (entries_of (set os w o)) ≡ whole
next_dealt t u entry ep w os whole o d h same own there filled before =
    let owned : w ≡ owner t.epochs entry.lid = own ∙ ap (λ e. owner e entry.lid) (same ∙ ap (λ (v : TokenState). v.epochs) h.token_is) in
    subst (λ (v : TokenState). outboxes_of v (entries_of (set os w o)) ≡ whole) (sym h.token_is)
    (outboxes_step t h.found (entries_of os) (entries_of (set os w o)) w entry h.is h.entry_is owned (outbox_filled os w o d entry there filled) ∙ before)

pub next_left : (t u v : TokenState) (entry : Entry) → IsNext t entry u → stamped_token t (all_of t) ≡ v → stamped_token u (all_of u) ≡ v
next_left t u v entry h before = subst (λ (x : TokenState). stamped_token x (all_of x) ≡ v) (sym h.token_is) (token_step t h.found h.is ∙ before)

pub next_lids : (t u : TokenState) (entry : Entry) → IsNext t entry u → u.last + length (all_of u).records ≡ t.last + length (all_of t).records
next_lids t u entry h = omega (arith, h.fewer, ap (λ (v : TokenState). v.last) h.token_is)

-- where all that is stamped has positions, so has the next
pub lid_is_left : (t : TokenState) → t.last + length (all_of t).records < 2 ^ 48 → ForSome (next_out t) (λ _. t.last + 1 < 2 ^ 48)
lid_is_left t left found is = omega (arith, left, ap (λ (all : Drained). length all.records) (all_of_first t found is))

-- at the end
pub answer_whole : (t : TokenState) (stamps whole : List Stamp) → next_out t ≡ None → stamps ++ stamps_of t (all_of t) ≡ whole → stamps ≡ whole
answer_whole t stamps whole is all = sym (append-nil stamps) ∙ ap (λ x. stamps ++ stamps_of t x) (sym (all_of_none t is)) ∙ all

pub dealt_whole : (t : TokenState) (os whole : List (List Entry)) → next_out t ≡ None → outboxes_of t os ≡ whole → os ≡ whole
dealt_whole t os whole is all = sym (dealt_none t.epochs 0 os) ∙ ap (λ x. dealt t.epochs (entries_from t.last x.records) 0 os) (sym (all_of_none t is)) ∙ all

pub left_whole : (t u v : TokenState) → next_out t ≡ None → u ≡ option_map_or (token_after t) (next_out t) t → stamped_token t (all_of t) ≡ v → u ≡ v
left_whole t u v is left all =
    left ∙ ap (λ o. option_map_or (token_after t) o t) is ∙ ap (λ n. record t { last = n }) (add-zero-right t.last) ∙ ap (stamped_token t) (sym (all_of_none t is)) ∙ all
  where
    add-zero-right : (n : ℕ) → n ≡ n + 0
    add-zero-right n = omega arith

pub next_smaller : (t u : TokenState) (entry : Entry) → IsNext t entry u → length u.deferred < length t.deferred
next_smaller t u entry h = omega (arith, h.shorter)

-- A queue's stamping goes by single steps: the first entry goes to its owner, and the rest is the stamping of the token after it.
pub stamped_queue_step : (q : QueueState) (t : TokenState) (found : Item × List Item) → next_out t ≡ Some found
    → stamped_queue q t (all_of t) ≡ stamped_queue (with_entry t.epochs (entry_after t found) q) (token_after t found) (all_of (token_after t found))
stamped_queue_step q t found is =
    let x : Entry = entry_after t found in
    let w : ℕ = owner t.epochs x.lid in
    let os : List (List Entry) = set q.outboxes w (get_or q.outboxes w [] ++ x ∷ []) in
    ap₂ (λ (ys : List (List Entry)) (u : TokenState). record q { items = []; outboxes = ys; epochs = t.epochs; token = Some u })
    (sym (outboxes_step t found q.outboxes os w x is refl refl refl)) (sym (token_step t found is))

-- Where nothing is ready, a stamping takes the epochs and the items, and stamps nothing.
pub stamped_queue_none : (q : QueueState) (t : TokenState) → next_out t ≡ None → stamped_queue q t (all_of t) ≡ record q { items = []; epochs = t.epochs; token = Some t }
stamped_queue_none q t is =
    ap (stamped_queue q t) (all_of_none t is)
    ∙ ap₂ (λ (ys : List (List Entry)) (n : ℕ). record q { items = []; outboxes = ys; epochs = t.epochs; token = Some (record t { last = n }) }) (dealt_none t.epochs 0 q.outboxes) (none_more t.last)
  where
    none_more : (n : ℕ) → n + 0 ≡ n
    none_more n = omega arith

pub stamps_first : (q : QueueState) (t : TokenState) (found : Item × List Item) (stamps : List Stamp) (new : QueueState) → next_out t ≡ Some found
    → Stamps (with_entry t.epochs (entry_after t found) q) (token_after t found) (all_of (token_after t found)) stamps new → Stamps q t (all_of t) (stamp_of (entry_after t found) ∷ stamps) new
stamps_first q t found stamps new is h = record {
  answer = ap (λ (ss : List Stamp). stamp_of (entry_after t found) ∷ ss) h.answer ∙ ap (stamps_of t) (sym (all_of_first t found is));
  queue = h.queue ∙ sym (stamped_queue_step q t found is);
}

pub stamps_none : (q : QueueState) (t : TokenState) → next_out t ≡ None → Stamps q t (all_of t) [] (record q { items = []; epochs = t.epochs; token = Some t })
stamps_none q t is = record { answer = ap (stamps_of t) (sym (all_of_none t is)); queue = sym (stamped_queue_none q t is) }

-- A stamping is that of the token that has the queue's items behind its own.
pub stamps_joined : (q new : QueueState) (t : TokenState) (stamps : List Stamp)
    → Stamps q t (drain_by t.dc t.counts (t.deferred ++ q.items)) stamps new ↔ Stamps (record q { items = [] }) (with_items t q.items) (all_of (with_items t q.items)) stamps new
stamps_joined q new t stamps = (λ h. record { answer = h.answer; queue = h.queue }, λ h. record { answer = h.answer; queue = h.queue })
