-- Which turns change a datacentre, epoch lists apart.
use Rattle.std.proofs.Common.{◌≡◌, ◌≢◌, ◌↔◌, ℕ, zero, suc, ◌+◌, ◌-◌, ◌%◌, ◌<◌, ◌≤◌, ◌||◌, max, Bool, true, false, not, nat_lt, List, [], ◌∷◌, ◌++◌, length, map, set, get_or, fold, refl, ap, ap₂, sym, ◌∙◌, subst, inl, inr, arith, Option, Some, None}
use Rattle.std.specs.Bool.{IsTrue}
use Rattle.std.specs.Option.{option_map_or}
use Rattle.std.proofs.Math.ListN.{get_or-map}
use Rattle.std.proofs.Math.Nat.{mod-eq_of_lt, mod-one, mod_self}
use Rattle.std.proofs.Math.Seq.{map-set_same}
use Rattle.std.proofs.lemmas.Bool.{cases_lt, false≢true, le-ltb, lt-ltb}
use Rattle.std.proofs.lemmas.List.{append-nil, get_or-set_same, get_or_default, get_or_past, length-append, length-map, length-set, same_lists, set-get_or}
use Rattle.std.proofs.lemmas.Grind.{same_number_lists}
use Rattle.causal_deps.specs.declared.record.Record.{Record}
use Rattle.causal_deps.specs.declared.record.Item.{Item}
use Rattle.causal_deps.specs.declared.record.Item.TheVariants.{External}
use Rattle.causal_deps.specs.Counts.{IsSquare, IsWithin, entry_of, greater, greater_rows, raised_row, row_of}
use Rattle.causal_deps.proofs.CountsLemmas.{entry_of-greater_rows, get_or-greater, get_or-greater_rows, length-greater, length-greater_rows}
use Rattle.flstore_rounds.specs.Epochs.{EpochList}
use Rattle.flstore_rounds.specs.Heads.{Pair}
use Rattle.maintainer.specs.Maintainers.{MaintainerState, learned, moved_in}
use Rattle.record_codec.specs.declared.message.Message.{Message}
use Rattle.token_queue.specs.declared.entry.Entry.{Entry}
use Rattle.token_queue.specs.Drain.{Drained, all_deferred, drain_by_at_most, with_first}
use Rattle.token_queue.specs.Items.{first_out, is_ready, record_from}
use Rattle.token_queue.specs.Queues.{QueueState, TokenState, dealt, outbox_for, stamped_queue, stamped_token, tokenless, without_outbox}
use Rattle.toid_filter.specs.Filters.{FilterState, filter_at, no_filter}
use Rattle.stage_world.specs.Stages.{Datacentre, batcher_at, maintainer_at, no_epochs, no_maintainer, no_queue, queue_at, slot_of}
use Rattle.stage_world.specs.Turns.{all_acknowledged, drained, drained_items, flushed, passed_on, placed_from, stamped, taken_by, token_moved}
use Rattle.stage_world.specs.MoreTurns.{counts_after, learnable, learnt_more, learnt_row, received}
use Rattle.stage_world.specs.Idle.{TellsApart, TellsChange, apart_from_epochs, maintainer_apart, pair_apart, queue_apart}
use Rattle.stage_world.proofs.LearnTurn.{greater-self}
use Rattle.stage_turns.specs.Changing.{TellsNews, has_some, marks_in}

-- something in a list

pub has_some_is : {X : Type 0} (r : Bool) (xs : List X) → IsTrue r ↔ (xs ≡ []) → not r ≡ has_some xs
has_some_is r [] tells = ap not (tells.1 refl)
has_some_is true (x ∷ xs) tells = absurd (omega (arith, ap (λ ys. length ys) (tells.0 refl)))
has_some_is false (x ∷ xs) tells = refl

pub has_some-map : {X Y : Type 0} (f : X → Y) (xs : List X) → has_some (map f xs) ≡ has_some xs
has_some-map f [] = refl
has_some-map f (x ∷ xs) = refl

none_in : {X : Type 0} (xs : List X) → has_some xs ≡ false → xs ≡ []
none_in [] is = refl
none_in (x ∷ xs) is = absurd (false≢true (sym is))

one_in : {X : Type 0} (xs : List X) → has_some xs ≡ true → 1 ≤ length xs
one_in [] is = absurd (false≢true is)
one_in (x ∷ xs) is = omega arith

no_length : {X : Type 0} (xs : List X) → length xs ≡ 0 → xs ≡ []
no_length [] is = refl
no_length (x ∷ xs) is = absurd (omega (arith, is))

-- what is told of one and the same
pub same_tells : {X : Type 0} (x : X) → TellsApart false x x
same_tells x = record { same = λ _. refl; other = λ is. absurd (false≢true is) }

pub tells_other : {X : Type 0} (old new : X) → old ≢ new → TellsApart true old new
tells_other old new apart = record { same = λ is. absurd (false≢true (sym is)); other = λ _. apart }

pub tells_same : {X : Type 0} (old new : X) → old ≡ new → TellsApart false old new
tells_same old new is = record { same = λ _. is; other = λ is'. absurd (false≢true is') }

-- a list that is then empty
tells_list : {X Y : Type 0} (xs : List X) (f : Y → List X) (old new : Y) → f old ≡ xs → f new ≡ [] → (xs ≡ [] → old ≡ new) → TellsApart (has_some xs) old new
tells_list xs f old new before after keeps = record {
  same = λ none. keeps (none_in xs none);
  other = λ some alike. absurd (omega (arith, one_in xs some, ap (λ ys. length ys) (sym before ∙ ap f alike ∙ after)));
}

set_none : {X : Type 0} (xs : List X) (i : ℕ) (d : X) → get_or (set xs i d) i d ≡ d
set_none xs i d = elim (cases_lt i (length xs)) [
  | inl within ↦ get_or-set_same xs i d d within
  | inr out ↦ get_or_past (set xs i d) i d (omega (arith, out, length-set xs i d))
]

-- the queue at a place, whatever epoch lists are there
queue_there : (qs : List QueueState) (q : ℕ) → queue_at (map queue_apart qs) q ≡ queue_apart (queue_at qs q)
queue_there qs q = get_or-map queue_apart qs q no_queue

-- flush
pub flush_tells : (z : Datacentre) (b : ℕ) → TellsChange (has_some (batcher_at z.batchers b)) z (flushed z b)
flush_tells z b =
    tells_list (batcher_at z.batchers b) (λ (y : Datacentre). batcher_at y.batchers b) (apart_from_epochs z) (apart_from_epochs (flushed z b)) refl (set_none z.batchers b [])
    (λ none. ap₂ (λ bs fs. record (apart_from_epochs z) { batchers = bs; filters = fs })
    (sym (ap (set z.batchers b) (sym none) ∙ set-get_or z.batchers b [])) (sym (ap (fold (taken_by z.map) z.filters) none)))

-- pass
pub pass_tells : (z : Datacentre) (f q : ℕ) → f < length z.filters → TellsChange (has_some (filter_at z.filters f).out) z (passed_on z f q)
pass_tells z f q within =
    let x : FilterState = filter_at z.filters f in
    let y : QueueState = queue_at z.queues q in
    tells_list x.out (λ (c : Datacentre). (filter_at c.filters f).out) (apart_from_epochs z) (apart_from_epochs (passed_on z f q)) refl
    (ap (λ (g : FilterState). g.out) (get_or-set_same z.filters f (record x { out = [] }) no_filter within))
    (λ none. ap₂ (λ fs qs. record (apart_from_epochs z) { filters = fs; queues = map queue_apart qs })
    (sym (ap (λ (o : List Item). set z.filters f (record x { out = o })) (sym none) ∙ set-get_or z.filters f no_filter))
    (sym (ap (λ (o : List Item). set z.queues q (record y { items = o })) (ap (λ (o : List Item). y.items ++ o) none ∙ append-nil y.items) ∙ set-get_or z.queues q no_queue)))

-- stamp: where no record is made, all items are deferred
abbrev drain_step : (n d : ℕ) → List ℕ → List Item → Option (Item × List Item) → Drained
drain_step n d counts items o = option_map_or (λ found. with_first found.0 (record_from d counts found.0) (drain_by_at_most n d (set counts (record_from d counts found.0).host (record_from d counts found.0).toid) found.1)) o (all_deferred items)

none_stamped : (n d : ℕ) (counts : List ℕ) (items : List Item) (o : Option (Item × List Item)) → (drain_step n d counts items o).records ≡ [] → drain_step n d counts items o ≡ all_deferred items
none_stamped n d counts items None is = refl
none_stamped n d counts items (Some found) is = absurd (omega (arith, ap (λ (rs : List Record). length rs) is))

drained_none : (n d : ℕ) (counts : List ℕ) (items : List Item) → (drain_by_at_most n d counts items).records ≡ [] → drain_by_at_most n d counts items ≡ all_deferred items
drained_none zero d counts items none = refl
drained_none (suc n) d counts items none = none_stamped n d counts items (first_out (is_ready counts) items) none

dealt_none : (e : EpochList) (m : ℕ) (outboxes : List (List Entry)) → dealt e [] m outboxes ≡ outboxes
dealt_none e m [] = refl
dealt_none e m (outbox ∷ outboxes) = ap₂ (λ (x : List Entry) xs. x ∷ xs) (append-nil outbox) (dealt_none e (suc m) outboxes)

module _ (z : Datacentre) (q : ℕ) (within : q < length z.queues) (bare : (queue_at z.queues q).token ≡ None) where
  abbrev x : QueueState
  x = queue_at z.queues q

  abbrev stamped_so : Drained → Datacentre
  stamped_so a = record z {
    sessions = all_acknowledged z.token.last a.stamped a.records z.sessions;
    queues = set z.queues q (tokenless (stamped_queue x z.token a));
    token = stamped_token z.token a;
  }

  nothing_stamped : x.items ≡ [] → apart_from_epochs z ≡ apart_from_epochs (stamped_so (all_deferred z.token.deferred))
  nothing_stamped none =
      let t : TokenState = z.token in
      let y : QueueState = tokenless (stamped_queue x t (all_deferred t.deferred)) in
      let same : queue_apart y ≡ queue_apart x = λ j. record { number = x.number; items = sym none j; outboxes = dealt_none t.epochs 0 x.outboxes j; epochs = no_epochs; token = sym bare j } in
      let token : stamped_token t (all_deferred t.deferred) ≡ t = ap (λ n. record t { last = n }) (omega arith) in
      sym (ap₂ (λ qs u. record (apart_from_epochs z) { queues = qs; token = u }) (map-set_same queue_apart z.queues q y no_queue same) token)

  drained_so : x.items ≡ [] → (drained z q).records ≡ [] → drained z q ≡ all_deferred z.token.deferred
  drained_so none nothing =
      drained_none (length (drained_items z q)) z.token.dc z.token.counts (drained_items z q) nothing
      ∙ ap all_deferred (ap (λ (o : List Item). z.token.deferred ++ o) none ∙ append-nil z.token.deferred)

  items_gone : apart_from_epochs z ≡ apart_from_epochs (stamped z q) → x.items ≡ []
  items_gone alike =
      ap (λ (y : QueueState). y.items) (sym (queue_there z.queues q)) ∙ ap (λ (y : Datacentre). (queue_at y.queues q).items) alike
      ∙ ap (λ (y : QueueState). y.items) (queue_there (stamped z q).queues q ∙ ap queue_apart (get_or-set_same z.queues q (tokenless (stamped_queue x z.token (drained z q))) no_queue within))

  pub stamp_tells : TellsChange (has_some x.items || has_some (drained z q).records) z (stamped z q)
  stamp_tells = at (has_some x.items) (has_some (drained z q).records) refl refl
    where
      at : (a b : Bool) → has_some x.items ≡ a → has_some (drained z q).records ≡ b → TellsChange (a || b) z (stamped z q)
      at true b some any = tells_other (apart_from_epochs z) (apart_from_epochs (stamped z q)) (λ alike. absurd (omega (arith, one_in x.items some, ap (λ (is : List Item). length is) (items_gone alike))))
      at false true none some = tells_other (apart_from_epochs z) (apart_from_epochs (stamped z q)) (λ alike. absurd (omega (arith, one_in (drained z q).records some, ap (λ (y : Datacentre). y.token.last) alike)))
      at false false none nothing =
          let no_items : x.items ≡ [] = none_in x.items none in
          tells_same (apart_from_epochs z) (apart_from_epochs (stamped z q))
          (nothing_stamped no_items ∙ sym (ap (λ a. apart_from_epochs (stamped_so a)) (drained_so no_items (none_in (drained z q).records nothing))))

-- token
pub token_tells : (z : Datacentre) → z.token.at < z.token.queues → TellsChange (nat_lt 1 z.token.queues) z (token_moved z)
token_tells z there = elim (cases_lt 1 z.token.queues) [
  | inl several ↦ subst (λ b. TellsChange b z (token_moved z)) (sym (lt-ltb 1 z.token.queues several))
      (tells_other (apart_from_epochs z) (apart_from_epochs (token_moved z)) (λ alike. moves several (ap (λ (y : Datacentre). y.token.at) alike)))
  | inr one ↦ subst (λ b. TellsChange b z (token_moved z)) (sym (le-ltb 1 z.token.queues one))
      (tells_same (apart_from_epochs z) (apart_from_epochs (token_moved z)) (ap (λ k. record (apart_from_epochs z) { token = record z.token { at = k } }) (stays one)))
]
  where
    moves : 1 < z.token.queues → z.token.at ≡ (z.token.at + 1) % z.token.queues → ⊥
    moves several same = elim (cases_lt (z.token.at + 1) z.token.queues) [
      | inl less ↦ absurd (omega (arith, same, mod-eq_of_lt less))
      | inr last ↦ absurd (omega (arith, same, several, ap (λ k. k % z.token.queues) (full last), mod_self z.token.queues, last))
    ]
      where
        full : z.token.queues ≤ z.token.at + 1 → z.token.at + 1 ≡ z.token.queues
        full last = omega (arith, last, there)

    stays : z.token.queues ≤ 1 → z.token.at ≡ (z.token.at + 1) % z.token.queues
    stays one =
        let single : z.token.queues ≡ 1 = omega (arith, one, there) in
        omega (arith, ap (λ n. (z.token.at + 1) % n) single, mod-one (z.token.at + 1), there, single)

-- place
pub place_tells : (z : Datacentre) (q m : ℕ) → q < length z.queues → TellsChange (has_some (outbox_for (queue_at z.queues q) m)) z (placed_from z q m)
place_tells z q m within =
    let x : QueueState = queue_at z.queues q in
    let y : MaintainerState Record = maintainer_at z.maintainers m in
    let taken : (es : List Entry) → MaintainerState Record = λ es. moved_in (learned y x.epochs) (map slot_of es) in
    tells_list (outbox_for x m) (λ (c : Datacentre). outbox_for (queue_at c.queues q) m) (apart_from_epochs z) (apart_from_epochs (placed_from z q m))
    (ap (λ (c : QueueState). outbox_for c m) (queue_there z.queues q))
    (ap (λ (c : QueueState). outbox_for c m) (queue_there (placed_from z q m).queues q ∙ ap queue_apart (get_or-set_same z.queues q (without_outbox x m) no_queue within)) ∙ set_none x.outboxes m [])
    (λ none. ap₂ (λ qs ms. record (apart_from_epochs z) { queues = map queue_apart qs; maintainers = ms })
    (sym (ap (set z.queues q) (ap (λ (o : List Entry). record x { outboxes = set x.outboxes m o }) (sym none) ∙ ap (λ (os : List (List Entry)). record x { outboxes = os }) (set-get_or x.outboxes m [])) ∙ set-get_or z.queues q no_queue))
    (sym (map-set_same maintainer_apart z.maintainers m (taken (outbox_for x m)) no_maintainer (ap (λ (es : List Entry). maintainer_apart (taken es)) none))))

-- gossip

abbrev remade : List (List ℕ) → List Pair
remade rows = map (λ row. record { epochs = no_epochs; marks = row }) rows

apart_is : (vs : List Pair) → map pair_apart vs ≡ remade (marks_in vs)
apart_is [] = refl
apart_is (v ∷ vs) = ap (λ ws. pair_apart v ∷ ws) (apart_is vs)

marks_apart : (vs : List Pair) → marks_in (map pair_apart vs) ≡ marks_in vs
marks_apart [] = refl
marks_apart (v ∷ vs) = ap (λ ws. v.marks ∷ ws) (marks_apart vs)

pub gossip_tells : (z : Datacentre) (vs : List Pair) (c : Bool) → TellsApart c (marks_in z.vectors) (marks_in vs) → TellsChange c z (record z { vectors = vs })
gossip_tells z vs c h = record {
  same = λ is. ap (λ ws. record (apart_from_epochs z) { vectors = ws }) (apart_is z.vectors ∙ ap remade (h.same is) ∙ sym (apart_is vs));
  other = λ is alike. h.other is (sym (marks_apart z.vectors) ∙ ap (λ (y : Datacentre). marks_in y.vectors) alike ∙ marks_apart vs);
}

-- learn
pub learn_tells : (d : ℕ) (z : Datacentre) → TellsChange (nat_lt z.learnt (learnable z)) z (learnt_more d z)
learn_tells d z = elim (cases_lt z.learnt (learnable z)) [
  | inl more ↦ subst (λ b. TellsChange b z (learnt_more d z)) (sym (lt-ltb z.learnt (learnable z) more))
      (tells_other (apart_from_epochs z) (apart_from_epochs (learnt_more d z)) (λ alike. absurd (omega (arith, more, ap (λ (y : Datacentre). y.learnt) alike))))
  | inr none ↦ subst (λ b. TellsChange b z (learnt_more d z)) (sym (le-ltb z.learnt (learnable z) none))
      (tells_same (apart_from_epochs z) (apart_from_epochs (learnt_more d z)) (kept none))
]
  where
    kept : learnable z ≤ z.learnt → apart_from_epochs z ≡ apart_from_epochs (learnt_more d z)
    kept none =
        let upto : learnable z ≡ z.learnt = omega (arith, none) in
        let nothing : learnable z - z.learnt ≡ 0 = omega (arith, upto) in
        let row : learnt_row d z ≡ row_of z.table d = ap (λ k. counts_after z.maintainers (row_of z.table d) z.learnt k) nothing in
        let rows : raised_row z.table d (learnt_row d z) ≡ z.table = ap (raised_row z.table d) row ∙ ap (set z.table d) (greater-self (row_of z.table d)) ∙ set-get_or z.table d [] in
        sym (ap₂ (λ t k. record (apart_from_epochs z) { table = t; learnt = k }) rows upto)

-- deliver
pub receive_tells : (z : Datacentre) (r : ℕ) (m : Message) (c : Bool) → r % length z.batchers < length z.batchers → TellsNews c z.table m → TellsChange c z (received z r m)
receive_tells z r m c within h =
    let b : ℕ = r % length z.batchers in
    let x : List Item = batcher_at z.batchers b in
    record {
      same = λ is.
          let records : [] ≡ m.records = ap (λ (p : List Record × List (List ℕ)). p.0) (h.same is) in
          let batcher : x ++ map External m.records ≡ x = ap (λ (rs : List Record). x ++ map External rs) (sym records) ∙ append-nil x in
          ap₂ (λ t bs. record (apart_from_epochs z) { table = t; batchers = bs }) (ap (λ (p : List Record × List (List ℕ)). p.1) (h.same is))
          (sym (ap (set z.batchers b) batcher ∙ set-get_or z.batchers b []));
      other = λ is alike.
          let longer : x ≡ x ++ map External m.records = ap (λ (y : Datacentre). batcher_at y.batchers b) alike ∙ get_or-set_same z.batchers b (x ++ map External m.records) [] within in
          let none : m.records ≡ [] = no_length m.records (omega (arith, ap (λ (is : List Item). length is) longer, length-append x (map External m.records), length-map m.records External)) in
          let table : z.table ≡ greater_rows z.table m.table = ap (λ (y : Datacentre). y.table) alike in
          h.other is (λ j. (sym none j, table j));
    }

-- what a message brings

row_kept : (n k : ℕ) (t u : List (List ℕ)) → k < n → IsSquare n t → IsSquare n u → IsWithin u t → greater (row_of t k) (row_of u k) ≡ row_of t k
row_kept n k t u inside sizes others within =
    let size : length (greater (row_of t k) (row_of u k)) ≡ length (row_of t k) = length-greater (row_of t k) (row_of u k) (sizes.entries k inside ∙ sym (others.entries k inside)) in
    same_number_lists (greater (row_of t k) (row_of u k)) (row_of t k) size (λ h there. get_or-greater (row_of t k) (row_of u k) h ∙ max_left (within k h))
  where
    max_left : {a b : ℕ} → b ≤ a → max a b ≡ a
    max_left le = omega (arith, le)

rows_kept : (n : ℕ) (t u : List (List ℕ)) → IsSquare n t → IsSquare n u → IsWithin u t → greater_rows t u ≡ t
rows_kept n t u sizes others within =
    let size : length (greater_rows t u) ≡ length t = length-greater_rows t u (sizes.rows ∙ sym others.rows) in
    same_lists (greater_rows t u) t size (λ k d inside.
    let there : k < length t = omega (arith, inside, size) in
    get_or_default (greater_rows t u) k d [] inside ∙ get_or-greater_rows t u k ∙ row_kept n k t u (omega (arith, there, sizes.rows)) sizes others within
    ∙ sym (get_or_default t k d [] there))

within_kept : (t u : List (List ℕ)) → t ≡ greater_rows t u → IsWithin u t
within_kept t u same k h = omega (arith, ap (λ x. entry_of x k h) same, entry_of-greater_rows t u k h)

module _ (n : ℕ) (table : List (List ℕ)) (m : Message) (sizes : IsSquare n table) (others : IsSquare n m.table) where
  abbrev News : Type 0
  News = List Record × List (List ℕ)

  abbrev nothing : News
  nothing = ([], table)

  abbrev brought : News
  brought = (m.records, greater_rows table m.table)

  news_by : (a b : Bool) → has_some m.records ≡ a → IsTrue b ↔ IsWithin m.table table → TellsNews (a || not b) table m
  news_by true b any told = tells_other nothing brought (λ alike. absurd (omega (arith, one_in m.records any, ap (λ (p : News). length p.0) alike)))
  news_by false true none told = tells_same nothing brought (λ j. (sym (none_in m.records none) j, sym (rows_kept n table m.table sizes others (told.0 refl)) j))
  news_by false false none told = tells_other nothing brought (λ alike. absurd (false≢true (told.1 (within_kept table m.table (ap (λ (p : News). p.1) alike)))))

  pub news_is : (some covers r : Bool) → some ≡ has_some m.records → IsTrue covers ↔ IsWithin m.table table → r ≡ (some || not covers) → TellsNews r table m
  news_is some covers r is tells made =
      subst (λ b. TellsNews b table m) (sym (made ∙ ap (λ b. b || not covers) is)) (news_by (has_some m.records) covers refl tells)

-- from what was read of the message and the table
pub news_of : (n : ℕ) (table read : List (List ℕ)) (found m : Message) → IsSquare n table → IsSquare n m.table → read ≡ table → found ≡ m
    → (some covers r : Bool) → some ≡ has_some found.records → IsTrue covers ↔ IsWithin found.table read → r ≡ (some || not covers) → TellsNews r table m
news_of n table read found m sizes others is_table is_m some covers r any tells made =
    news_is n table m sizes others some covers r (any ∙ ap (λ (x : Message). has_some x.records) is_m)
    (subst (λ t. IsTrue covers ↔ IsWithin m.table t) is_table (subst (λ (x : Message). IsTrue covers ↔ IsWithin x.table read) is_m tells)) made

-- either of two

pub or_first : (a b r : Bool) → a ≡ true → r ≡ a → r ≡ (a || b)
or_first a b r is same = same ∙ is ∙ sym (ap (λ x. x || b) is)

pub or_second : (a b r : Bool) → a ≡ false → r ≡ b → r ≡ (a || b)
or_second a b r is same = same ∙ sym (ap (λ x. x || b) is)
