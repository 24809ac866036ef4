-- What each step makes of the service.
use Rattle.std.proofs.Common.{◌≡◌, ◌⊎◌, ℕ, zero, suc, ◌+◌, ◌<◌, ◌≤◌, max, cond, ltb, true, List, [], ◌∷◌, ◌++◌, length, take, drop, map, get_or, Some, slice_get, refl, ap, sym, ◌∙◌, subst, inl, inr, arith}
use Rattle.std.proofs.Common.{fold, slice_set, ◌↔◌}
use Rattle.std.specs.List.{All}
use Rattle.std.proofs.lemmas.List.{length-set, take_all}
use Rattle.std.proofs.lemmas.Bool.{cases_eq, cases_lt, ltb-true, cond-true, cond-false, lt-ltb, le-ltb}
use Rattle.std.proofs.lemmas.Option.{same_Some, slice_get_within, slice_get_read, slice_get-get_or}
use Rattle.causal_deps.proofs.Lists.{slice_get_some}
use Rattle.flstore_rounds.specs.declared.epochs.Epoch.{Epoch}
use Rattle.flstore_rounds.proofs.EpochLemmas.{All-later_more, all_settled, prefix_more, prefix_refl}
use Rattle.post_assignment.specs.Appending.{AppenderState, appended, kept, next_lid}
use Rattle.flstore_rounds.specs.Epochs.{EpochList, longer, IsPrefix, IsSettled, owner, with_epoch}
use Rattle.flstore_rounds.specs.Heads.{Pair, head, joined}
use Rattle.maintainer.specs.Maintainers.{IsOwnedBy}
use Rattle.post_assignment.specs.declared.appender.After.{After as AfterOf}
use Rattle.post_assignment.specs.declared.appender.After.TheVariants.{Kept as KeptBack, Placed as PutIn}
use Rattle.post_assignment.specs.declared.appender.Here.{Here}
use Rattle.flstore_service.specs.declared.run.FlOutcome.{FlOutcome}
use Rattle.flstore_service.specs.declared.run.FlOutcome.TheVariants.{Heard, HeadAt, Kept, Placed}
use Rattle.flstore_service.specs.declared.service.Member.{Member}
use Rattle.flstore_service.specs.declared.service.Service.{Service}
use Rattle.flstore_service.specs.declared.service.Submission.{Submission}
use Rattle.flstore_service.specs.Running.{after_turn, kept_at, put_in, put_turn, submission, StepDone, gossip_turn, head_turn, heard, own_vector, owned, quiet, where_some, with_member}
use Rattle.flstore_service.specs.Sound.{CanLearn, CanTurn}

pub there : {A : Type 0} (xs : List A) (i : ℕ) (x : A) → i < length xs → x ≡ get_or xs i x → slice_get xs i ≡ Some x
there xs i x inside is = slice_get_read xs (length xs) i x refl inside is

pub slice_get-set_same : {A : Type 0} (xs : List A) (i : ℕ) (y : A) → i < length xs → slice_get (slice_set xs i y) i ≡ Some y
slice_get-set_same [] i y inside = absurd (omega (arith, inside))
slice_get-set_same (x ∷ xs) zero y inside = refl
slice_get-set_same (x ∷ xs) (suc i) y inside = slice_get-set_same xs i y (omega (arith, inside))

pub slice_get-set_other : {A : Type 0} (xs : List A) (i j : ℕ) (y : A) → (i ≡ j → ⊥) → slice_get (slice_set xs i y) j ≡ slice_get xs j
slice_get-set_other [] i j y other = refl
slice_get-set_other (x ∷ xs) zero zero y other = absurd (other refl)
slice_get-set_other (x ∷ xs) zero (suc j) y other = refl
slice_get-set_other (x ∷ xs) (suc i) zero y other = refl
slice_get-set_other (x ∷ xs) (suc i) (suc j) y other = slice_get-set_other xs i j y (λ is. other (ap suc is))

-- a list that has begun as the whole one is not longer
pub longer_is : (e t : EpochList) → IsPrefix e t → longer e t ≡ t
longer_is e t begun = elim (cases_lt (length e.list) (length t.list)) [
  | inl less ↦ cond-true (ltb (length e.list) (length t.list)) t e (lt-ltb (length e.list) (length t.list) less)
  | inr same ↦
      let lists : e.list ≡ t.list = begun.same ∙ take_all (length e.list) t.list (omega (arith, same)) in
      let here : e ≡ t = λ i. record { round = begun.round i; list = lists i } in
      cond-false (ltb (length e.list) (length t.list)) t e (le-ltb (length e.list) (length t.list) same) ∙ here
]

-- a vector may take what its maintainer has
pub vector_prefix : (s : Service) (m : ℕ) (member : Member) → CanTurn s → slice_get s.members m ≡ Some member → IsPrefix member.vector.epochs member.appender.maintainer.epochs
vector_prefix s m member can is = let one = can.serving.each m member is in subst (λ e. IsPrefix member.vector.epochs e) (sym one.epochs) one.vector

-- head

pub head_turned : (s : Service) (m : ℕ) (member new : Member) (at : ℕ) → slice_get s.members m ≡ Some member → new ≡ record member { vector = own_vector m member } → at ≡ head new.vector
    → quiet (with_member s m new) (HeadAt at) ≡ head_turn s m
head_turned s m member new at is is_new is_at =
    (λ i. quiet (with_member s m (is_new i)) (HeadAt ((is_at ∙ ap (λ (x : Member). head x.vector) is_new) i)))
    ∙ sym (ap (λ o. where_some s o (λ x. quiet (owned s m x) (HeadAt (head (own_vector m x))))) is)

-- a value

pub put_in_is : (s : Service) (m bound : ℕ) (body : List ℕ) (member : Member) (sub : Submission) (a : AppenderState Submission) (lid : ℕ) (lids : List ℕ) (after : Service) (outcome : FlOutcome)
    → sub ≡ submission s bound body → a ≡ (appended member.appender sub).state → lid ≡ next_lid member.appender.maintainer → lids ≡ (appended member.appender sub).lids
    → after ≡ record s { members = slice_set s.members m (record { appender = a; vector = member.vector }); count = s.count + 1; top = fold max (max s.top lid) lids } → outcome ≡ Placed lid lids
    → quiet after outcome ≡ put_in s m member bound body
put_in_is s m bound body member sub a lid lids after outcome is_sub is_a is_lid is_lids is_after is_outcome =
    let state : a ≡ (appended member.appender (submission s bound body)).state = is_a ∙ ap (λ x. (appended member.appender x).state) is_sub in
    let all : lids ≡ (appended member.appender (submission s bound body)).lids = is_lids ∙ ap (λ x. (appended member.appender x).lids) is_sub in
    (λ i. quiet (is_after i) (is_outcome i))
    ∙ (λ i. quiet (record s { members = slice_set s.members m (record { appender = state i; vector = member.vector }); count = s.count + 1; top = fold max (max s.top (is_lid i)) (all i) }) (Placed (is_lid i) (all i)))

pub put_turned : (s : Service) (m : ℕ) (body : List ℕ) (member : Member) (done : StepDone) → slice_get s.members m ≡ Some member → done ≡ put_in s m member 0 body → done ≡ put_turn s m body
put_turned s m body member done is is_done = is_done ∙ sym (ap (λ o. where_some s o (λ x. put_in s m x 0 body)) is)

after_is : (s : Service) (m p : ℕ) (body : List ℕ) (member : Member) → slice_get s.members m ≡ Some member
    → after_turn s m p body ≡ cond (ltb p (next_lid member.appender.maintainer)) (put_in s m member p body) (kept_at s m member p body)
after_is s m p body member is = ap (λ o. where_some s o (λ x. cond (ltb p (next_lid x.appender.maintainer)) (put_in s m x p body) (kept_at s m x p body))) is

pub after_put : (s : Service) (m p : ℕ) (body : List ℕ) (member : Member) (done : StepDone) → slice_get s.members m ≡ Some member → p < next_lid member.appender.maintainer → done ≡ put_in s m member p body → done ≡ after_turn s m p body
after_put s m p body member done is low is_done = is_done ∙ sym (cond-true (ltb p (next_lid member.appender.maintainer)) (put_in s m member p body) (kept_at s m member p body) (lt-ltb p (next_lid member.appender.maintainer) low)) ∙ sym (after_is s m p body member is)

pub after_kept : (s : Service) (m p : ℕ) (body : List ℕ) (member : Member) (sub : Submission) (a : AppenderState Submission) → slice_get s.members m ≡ Some member → next_lid member.appender.maintainer ≤ p → sub ≡ submission s p body → a ≡ kept member.appender p sub
    → quiet (record s { members = slice_set s.members m (record { appender = a; vector = member.vector }); count = s.count + 1 }) Kept ≡ after_turn s m p body
after_kept s m p body member sub a is high is_sub is_a =
    (λ i. quiet (record s { members = slice_set s.members m (record { appender = (is_a ∙ ap (kept member.appender p) is_sub) i; vector = member.vector }); count = s.count + 1 }) Kept)
    ∙ sym (cond-false (ltb p (next_lid member.appender.maintainer)) (put_in s m member p body) (kept_at s m member p body) (le-ltb p (next_lid member.appender.maintainer) high)) ∙ sym (after_is s m p body member is)

-- gossip

pub gossip_turned : (s : Service) (m k : ℕ) (teller new hearer other : Member) (note : Pair) (at : ℕ) → slice_get s.members m ≡ Some teller → k < length s.members → new ≡ record teller { vector = own_vector m teller } → note ≡ new.vector
    → slice_get (slice_set s.members m new) k ≡ Some hearer → other ≡ record hearer { vector = joined hearer.vector note } → at ≡ head other.vector
    → quiet (record s { members = slice_set (slice_set s.members m new) k other }) (Heard at) ≡ gossip_turn s m k
gossip_turned s m k teller new hearer other note at is inside is_new is_note is_hearer is_other is_at =
    let told : note ≡ own_vector m teller = is_note ∙ ap (λ (x : Member). x.vector) is_new in
    let second = slice_get_some s.members k inside in
    let after : Service = owned s m teller in
    let here : slice_get after.members k ≡ Some hearer = ap (λ x. slice_get (slice_set s.members m x) k) (sym is_new) ∙ is_hearer in
    (λ i. quiet (with_member (with_member s m (is_new i)) k (is_other i)) (Heard ((is_at ∙ ap (λ (x : Member). head x.vector) is_other) i)))
    ∙ ap (λ (v : Pair). quiet (with_member after k (record hearer { vector = joined hearer.vector v })) (Heard (head (joined hearer.vector v)))) told
    ∙ sym (ap (λ o. where_some after o (λ h. quiet (with_member after k (record h { vector = joined h.vector (own_vector m teller) })) (Heard (head (joined h.vector (own_vector m teller)))))) here)
    ∙ sym (ap (λ o. where_some s o (λ _. heard (owned s m teller) k (own_vector m teller))) second.1)
    ∙ sym (ap (λ o. where_some s o (λ t. where_some s (slice_get s.members k) (λ _. heard (owned s m t) k (own_vector m t)))) is)

-- what a maintainer is asked for is its own

pub keeper_owns : (s : Service) (p m : ℕ) (keeper : Member) (e : EpochList) (number : ℕ) → CanTurn s → 1 ≤ p → m ≡ owner s.epochs p → slice_get s.members m ≡ Some keeper → e ≡ keeper.appender.maintainer.epochs → number ≡ keeper.appender.maintainer.number → IsOwnedBy e number p
keeper_owns s p m keeper e number can first is_owner is is_e is_number =
    let one = can.serving.each m keeper is in
    record { first = first; owner = ap (λ x. owner x p) (is_e ∙ one.epochs) ∙ sym is_owner ∙ sym one.number ∙ sym is_number }

-- each maintainer may learn a list that goes on above all positions

pub can_learn : (s : Service) (p n : ℕ) (e : EpochList) → CanTurn s → e ≡ with_epoch s.epochs (record { start = p; members = n }) → s.top < p → All (CanLearn e) s.members
can_learn s p n e can is above = λ k d inside.
    (let one = can.serving.each k (get_or s.members k d) (slice_get-get_or s.members k d inside) in
    subst (λ x. CanLearn x (get_or s.members k d)) (sym is) (record {
      known = subst (λ x. IsPrefix x (with_epoch s.epochs (record { start = p; members = n }))) (sym one.epochs) (prefix_more s.epochs s.epochs (record { start = p; members = n }) (prefix_refl s.epochs));
      settled = λ q full. subst (λ x. IsSettled (with_epoch s.epochs (record { start = p; members = n })) x q) (sym one.epochs)
          (All-later_more (λ (y : Epoch). q < y.start) s.epochs s.epochs (record { start = p; members = n }) (prefix_refl s.epochs) (all_settled s.epochs s.epochs q refl) (omega (arith, above, one.below q full)));
    }))

-- one member more knows the epochs

told_after : {A : Type 0} (f : A → A) (xs : List A) (i : ℕ) (y z : A) → i < length xs → y ≡ get_or (map f (take i xs) ++ drop i xs) i y → z ≡ f y → (get_or xs i y ≡ y) × (slice_set (map f (take i xs) ++ drop i xs) i z ≡ map f (take (suc i) xs) ++ drop (suc i) xs)
told_after f [] i y z inside is is_z = absurd (omega (arith, inside))
told_after f (x ∷ xs) zero y z inside is is_z = (sym is, ap (λ v. v ∷ xs) (is_z ∙ ap f is))
told_after f (x ∷ xs) (suc i) y z inside is is_z = let rest = told_after f xs i y z (omega (arith, inside)) is is_z in (rest.0, ap (λ vs. f x ∷ vs) rest.1)

pub told_next : {A : Type 0} (f : A → A) (xs ys : List A) (i : ℕ) (y z : A) → ys ≡ map f (take i xs) ++ drop i xs → i < length xs → y ≡ get_or ys i y → z ≡ f y → slice_set ys i z ≡ map f (take (i + 1) xs) ++ drop (i + 1) xs
told_next f xs ys i y z is_ys inside is is_z =
    let next : suc i ≡ i + 1 = omega arith in
    ap (λ vs. slice_set vs i z) is_ys ∙ (told_after f xs i y z inside (is ∙ ap (λ vs. get_or vs i y) is_ys) is_z).1 ∙ ap (λ n. map f (take n xs) ++ drop n xs) next

pub still_there : {A : Type 0} (f : A → A) (P : A → Type 0) (xs ys : List A) (i : ℕ) (y : A) → ys ≡ map f (take i xs) ++ drop i xs → i < length xs → y ≡ get_or ys i y → All P xs → P y
still_there f P xs ys i y is_ys inside is all = subst P ((told_after f xs i y (f y) inside (is ∙ ap (λ vs. get_or vs i y) is_ys) refl).0) (all i y inside)

pub told_length : {A : Type 0} (f : A → A) (xs : List A) (i : ℕ) → length (map f (take i xs) ++ drop i xs) ≡ length xs
told_length f [] zero = refl
told_length f [] (suc i) = refl
told_length f (x ∷ xs) zero = refl
told_length f (x ∷ xs) (suc i) = ap suc (told_length f xs i)

pub there_is : {A : Type 0} (xs : List A) (i : ℕ) (x : A) → true ≡ ltb i (length xs) → x ≡ get_or xs i x → slice_get xs i ≡ Some x
there_is xs i x has is = there xs i x (ltb-true i (length xs) (sym has)) is

pub inside_is : {A : Type 0} (xs : List A) (i : ℕ) → true ≡ ltb i (length xs) → i < length xs
inside_is xs i has = ltb-true i (length xs) (sym has)

-- the second vector hears what has begun as its own list has
pub may_hear : (s : Service) (m k : ℕ) (teller new hearer : Member) (e : EpochList) → CanTurn s → slice_get s.members m ≡ Some teller → new ≡ record teller { vector = own_vector m teller } → e ≡ new.vector.epochs
    → slice_get (slice_set s.members m new) k ≡ Some hearer → IsPrefix hearer.vector.epochs e ⊎ IsPrefix e hearer.vector.epochs
may_hear s m k teller new hearer e can is is_new is_e is_hearer =
    let one = can.serving.each m teller is in
    let whole : e ≡ longer teller.vector.epochs s.epochs = is_e ∙ ap (λ (x : Member). x.vector.epochs) is_new ∙ ap (longer teller.vector.epochs) one.epochs in
    let all : e ≡ s.epochs = whole ∙ longer_is teller.vector.epochs s.epochs one.vector in
    inl (subst (λ x. IsPrefix hearer.vector.epochs x) (sym all) (elim (cases_eq m k) [
      | inl same ↦
          let here : hearer ≡ new = same_Some hearer new (sym is_hearer ∙ ap (slice_get (slice_set s.members m new)) (sym same) ∙ slice_get-set_same s.members m new (slice_get_within s.members m teller is)) in
          subst (λ x. IsPrefix x s.epochs) (sym (ap (λ (x : Member). x.vector.epochs) here ∙ sym is_e ∙ all)) (prefix_refl s.epochs)
      | inr other ↦ (can.serving.each k hearer (sym (slice_get-set_other s.members m k new other) ∙ is_hearer)).vector
    ]))

pub hearer_there : {A : Type 0} (xs : List A) (m k : ℕ) (new hearer : A) → true ≡ ltb k (length xs) → hearer ≡ get_or (slice_set xs m new) k hearer → slice_get (slice_set xs m new) k ≡ Some hearer
hearer_there xs m k new hearer has is = there (slice_set xs m new) k hearer (omega (arith, ltb-true k (length xs) (sym has), length-set xs m new)) is

-- a value that stands was not kept
pub placed_low : (o : AfterOf) (here : Here) (bound next : ℕ) → o ≡ PutIn here → ((o ≡ KeptBack) ↔ (next ≤ bound)) → bound < next
placed_low o here bound next is kept = elim (cases_lt bound next) [
  | inl low ↦ low
  | inr high ↦ absurd (let e : PutIn here ≡ KeptBack = sym is ∙ kept.1 high in cc)
]

pub placed_here : (o : AfterOf) (here other : Here) → o ≡ PutIn here → o ≡ PutIn other → here ≡ other
placed_here o here other is also = (let e : PutIn here ≡ PutIn other = sym is ∙ also in cc)
