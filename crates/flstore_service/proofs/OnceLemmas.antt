-- Each value stands or waits once, and what stands is above its bound.
use Rattle.std.proofs.Common.{◌≡◌, ℕ, zero, suc, ◌+◌, ◌<◌, ◌≤◌, cond, ltb, leb, eqb, ◌&&◌, slice_set, slice_get, get_or, map, List, [], ◌∷◌, length, Option, Some, None, refl, ap, sym, ◌∙◌, subst, inl, inr, arith, nat_lt, if◌then◌else◌}
use Rattle.std.specs.List.{All, sum_by}
use Rattle.std.proofs.lemmas.Bool.{cases_eq, cases_lt, cond-true, cond-false, cond_both, eq-eqb, ne_eqb, le-leb, lt-leb, ltb-true, and_right, and_from}
use Rattle.std.proofs.lemmas.List.Elements.{All-cons, All-head, All-nil, All-push, All-set, All-tail}
use Rattle.std.proofs.lemmas.List.Sums.{sum_by-cons, sum_by-set, sum_by_push}
use Rattle.std.proofs.lemmas.Option.{slice_get_within, slice_get-get_or, same_Some}
use Rattle.flstore_rounds.specs.Epochs.{EpochList, owner}
use Rattle.flstore_rounds.specs.Heads.{Pair, head, joined}
use Rattle.post_assignment.specs.Appending.{StandsAbove, appended, kept, next_lid, times_of}
use Rattle.post_assignment.proofs.BoundLemmas.{next_lid_first}
use Rattle.post_assignment.proofs.LawLemmas.{appended_above, appended_times, kept_above, kept_times}
use Rattle.flstore_service.specs.declared.run.FlOutcome.TheVariants.{Beyond, EpochAdded, Heard, HeadAt, Late}
use Rattle.flstore_service.specs.declared.script.FlStep.{FlStep}
use Rattle.flstore_service.specs.declared.script.FlStep.TheVariants as step
use Rattle.flstore_service.specs.declared.service.Member.{Member}
use Rattle.flstore_service.specs.declared.service.Service.{Service}
use Rattle.flstore_service.specs.declared.service.Submission.{Submission}
use Rattle.flstore_service.specs.Running.{StepDone, fresh, fresh_upto, grown, heard, kept_at, late_bound, next_epochs, own_vector, owned, put_in, quiet, service_after, shown_by, start, submission, told_epochs, turn, where_some, with_member}
use Rattle.flstore_service.specs.Laws.{AreAbove, all_times, has_number, once_upto}

-- what every step keeps holds after all of them
pub kept_by_steps : (P : Service → Type 0) → ((s : Service) (x : FlStep) → P s → P (turn s x).service) → (s : Service) (xs : List FlStep) → P s → P (service_after s xs)
kept_by_steps P keeps s [] is = is
kept_by_steps P keeps s (x ∷ xs) is = kept_by_steps P keeps (turn s x).service xs (keeps s x is)

-- What each kind of step does to the appenders alone is one of three: nothing, one gets a value, or one epoch more.
pub record KeepsAppenders (P : Service → Type 0) : Type 0 where
  pub vector : (s : Service) (m : ℕ) (member : Member) (v : Pair) → slice_get s.members m ≡ Some member → P s → P (with_member s m (record member { vector = v }))
  pub placed : (s : Service) (m bound : ℕ) (body : List ℕ) (member : Member) → slice_get s.members m ≡ Some member → bound < next_lid member.appender.maintainer → P s → P (put_in s m member bound body).service
  pub kept : (s : Service) (m bound : ℕ) (body : List ℕ) (member : Member) → slice_get s.members m ≡ Some member → P s → P (kept_at s m member bound body).service
  pub grown : (s : Service) (p : ℕ) → P s → P (grown s p)

where_kept : {A : Type 0} (P : Service → Type 0) (s : Service) (o : Option A) (go : A → StepDone) → P s → ((x : A) → o ≡ Some x → P (go x).service) → P (where_some s o go).service
where_kept P s None go is each = is
where_kept P s (Some x) go is each = each x refl

heard_kept : (P : Service → Type 0) → KeepsAppenders P → (s : Service) (k : ℕ) (note : Pair) → P s → P (heard s k note).service
heard_kept P keeps s k note is = where_kept P s (slice_get s.members k) (λ hearer. quiet (with_member s k (record hearer { vector = joined hearer.vector note })) (Heard (head (joined hearer.vector note)))) is
    (λ hearer at. keeps.vector s k hearer (joined hearer.vector note) at is)

pub step_kept : (P : Service → Type 0) → KeepsAppenders P → (s : Service) (x : FlStep) → P s → P (turn s x).service
step_kept P keeps s (step.Put m body) is = where_kept P s (slice_get s.members m) (λ member. put_in s m member 0 body) is (λ member at. keeps.placed s m 0 body member at (next_lid_first member.appender.maintainer) is)
step_kept P keeps s (step.After m p body) is = where_kept P s (slice_get s.members m) (λ member. if nat_lt p (next_lid member.appender.maintainer) then put_in s m member p body else kept_at s m member p body) is
    (λ member at. cond_both (ltb p (next_lid member.appender.maintainer)) (put_in s m member p body) (kept_at s m member p body) (λ (done : StepDone). P done.service)
    (λ low. keeps.placed s m p body member at (ltb-true p (next_lid member.appender.maintainer) low) is) (λ _. keeps.kept s m p body member at is))
step_kept P keeps s (step.Gossip m k) is = where_kept P s (slice_get s.members m) (λ teller. where_some s (slice_get s.members k) (λ _. heard (owned s m teller) k (own_vector m teller))) is
    (λ teller at. where_kept P s (slice_get s.members k) (λ _. heard (owned s m teller) k (own_vector m teller)) is (λ _ _. heard_kept P keeps (owned s m teller) k (own_vector m teller) (keeps.vector s m teller (own_vector m teller) at is)))
step_kept P keeps s (step.Head m) is = where_kept P s (slice_get s.members m) (λ member. quiet (owned s m member) (HeadAt (head (own_vector m member)))) is (λ member at. keeps.vector s m member (own_vector m member) at is)
step_kept P keeps s (step.Read m p) is = where_kept P s (slice_get s.members m) (λ member. quiet s (if nat_lt (head member.vector) p then Beyond else shown_by (slice_get s.members (owner s.epochs p)) p)) is (λ member at. is)
step_kept P keeps s (step.AddMaintainer p) is = cond_both (leb p (late_bound s)) (quiet s (Late (late_bound s))) (quiet (grown s p) (EpochAdded p (length s.members + 1))) (λ (done : StepDone). P done.service) (λ _. is) (λ _. keeps.grown s p is)

-- sums over the members

-- one is another
sum_one : (f : Member → ℕ) (xs : List Member) (m : ℕ) (member new : Member) → slice_get xs m ≡ Some member → sum_by f (slice_set xs m new) + f member ≡ sum_by f xs + f new
sum_one f xs m member new at =
    let inside : m < length xs = slice_get_within xs m member at in
    let here : get_or xs m member ≡ member = same_Some (get_or xs m member) member (sym (slice_get-get_or xs m member inside) ∙ at) in
    omega (arith, sum_by-set f xs m new member inside, ap f here)

-- each has the same
sum_told : (f : Member → ℕ) (g : Member → Member) (xs : List Member) → ((x : Member) → f (g x) ≡ f x) → sum_by f (map g xs) ≡ sum_by f xs
sum_told f g [] same = refl
sum_told f g (x ∷ xs) same = omega (arith, sum_by-cons f (g x) (map g xs), sum_by-cons f x xs, same x, sum_told f g xs same)

abbrev times_in_member : ℕ → Member → ℕ
times_in_member n member = times_of (has_number n) member.appender

-- one value more
once_more : (count n : ℕ) → once_upto (count + 1) n ≡ once_upto count n + cond (eqb (count + 1) n) 1 0
once_more count n = elim (cases_eq (count + 1) n) [
  | inl same ↦
      let low : 1 ≤ n = omega (arith, same) in
      let within : n ≤ count + 1 = omega (arith, same) in
      let past : count < n = omega (arith, same) in
      omega (
        arith,
        cond-true {A = ℕ} (leb 1 n && leb n (count + 1)) 1 0 (and_from (leb 1 n) (leb n (count + 1)) (le-leb 1 n low) (le-leb n (count + 1) within)),
        cond-false {A = ℕ} (leb 1 n && leb n count) 1 0 (and_right (leb 1 n) (leb n count) (lt-leb n count past)),
        cond-true {A = ℕ} (eqb (count + 1) n) 1 0 (eq-eqb (count + 1) n same),
      )
  | inr other ↦ elim (cases_lt count n) [
    | inl past ↦
        let beyond : count + 1 < n = omega (arith, past, other) in
        omega (
          arith,
          cond-false {A = ℕ} (leb 1 n && leb n (count + 1)) 1 0 (and_right (leb 1 n) (leb n (count + 1)) (lt-leb n (count + 1) beyond)),
          cond-false {A = ℕ} (leb 1 n && leb n count) 1 0 (and_right (leb 1 n) (leb n count) (lt-leb n count past)),
          cond-false {A = ℕ} (eqb (count + 1) n) 1 0 (ne_eqb (count + 1) n other),
        )
    | inr within ↦
        let also : n ≤ count + 1 = omega (arith, within) in
        let same : (leb 1 n && leb n (count + 1)) ≡ (leb 1 n && leb n count) = ap (λ b. leb 1 n && b) (le-leb n (count + 1) also ∙ sym (le-leb n count within)) in
        omega (arith, ap (λ b. cond {A = ℕ} b 1 0) same, cond-false {A = ℕ} (eqb (count + 1) n) 1 0 (ne_eqb (count + 1) n other))
  ]
]

abbrev IsOnce : ℕ → Service → Type 0
IsOnce n s = all_times n s ≡ once_upto s.count n

once_steps : (n : ℕ) → KeepsAppenders (IsOnce n)
once_steps n = record {
  vector = λ s m member v at is. omega (arith, is, sum_one (times_in_member n) s.members m member (record member { vector = v }) at);
  placed = λ s m bound body member at low is.
      (let value = submission s bound body in
      omega (arith, is, sum_one (times_in_member n) s.members m member (record member { appender = (appended member.appender value).state }) at, appended_times (has_number n) member.appender value, once_more s.count n));
  kept = λ s m bound body member at is.
      (let value = submission s bound body in
      omega (arith, is, sum_one (times_in_member n) s.members m member (record member { appender = kept member.appender bound value }) at, kept_times (has_number n) member.appender bound value, once_more s.count n));
  grown = λ s p is. omega (arith, is, sum_by_push (times_in_member n) (map (told_epochs (next_epochs s p)) s.members) (fresh (next_epochs s p) (length s.members)), sum_told (times_in_member n) (told_epochs (next_epochs s p)) s.members (λ x. refl));
}

fresh_times : (n : ℕ) (e : EpochList) (k : ℕ) → sum_by (times_in_member n) (fresh_upto e k) ≡ 0
fresh_times n e zero = refl
fresh_times n e (suc k) = omega (arith, fresh_times n e k, sum_by_push (times_in_member n) (fresh_upto e k) (fresh e k))

none_at_start : (n : ℕ) → once_upto 0 n ≡ 0
none_at_start zero = refl
none_at_start (suc n) = cond-false {A = ℕ} (leb 1 (suc n) && leb (suc n) 0) 1 0 (and_right (leb 1 (suc n)) (leb (suc n) 0) (lt-leb (suc n) 0 (omega arith)))

pub stands_once : (round maintainers : ℕ) (steps : List FlStep) (n : ℕ) → all_times n (service_after (start round maintainers) steps) ≡ once_upto (service_after (start round maintainers) steps).count n
stands_once round maintainers steps n = kept_by_steps (IsOnce n) (step_kept (IsOnce n) (once_steps n)) (start round maintainers) steps
    (omega (arith, fresh_times n (start round maintainers).epochs maintainers, none_at_start n))

-- above bounds

abbrev IsAboveIn : Member → Type 0
IsAboveIn member = StandsAbove (λ (value : Submission). value.bound) member.appender

All-at : (P : Member → Type 0) (xs : List Member) (m : ℕ) (member : Member) → slice_get xs m ≡ Some member → All P xs → P member
All-at P xs m member at all =
    let inside : m < length xs = slice_get_within xs m member at in
    subst P (same_Some (get_or xs m member) member (sym (slice_get-get_or xs m member inside) ∙ at)) (all m member inside)

All-told : (P : Member → Type 0) (g : Member → Member) (xs : List Member) → ((x : Member) → P x → P (g x)) → All P xs → All P (map g xs)
All-told P g [] keeps all = all
All-told P g (x ∷ xs) keeps all = All-cons P (g x) (map g xs) (keeps x (All-head P x xs all)) (All-told P g xs keeps (All-tail P x xs all))

above_steps : KeepsAppenders AreAbove
above_steps = record {
  vector = λ s m member v at is. All-set IsAboveIn s.members m (record member { vector = v }) (record { placed = (All-at IsAboveIn s.members m member at is).placed; waits = (All-at IsAboveIn s.members m member at is).waits }) is;
  placed = λ s m bound body member at low is.
      (let value = submission s bound body in
      All-set IsAboveIn s.members m (record member { appender = (appended member.appender value).state }) (appended_above (λ (v : Submission). v.bound) member.appender value (All-at IsAboveIn s.members m member at is) low) is);
  kept = λ s m bound body member at is.
      (let value = submission s bound body in
      All-set IsAboveIn s.members m (record member { appender = kept member.appender bound value }) (kept_above (λ (v : Submission). v.bound) member.appender bound value (All-at IsAboveIn s.members m member at is) (omega arith)) is);
  grown = λ s p is. All-push IsAboveIn (map (told_epochs (next_epochs s p)) s.members) (fresh (next_epochs s p) (length s.members)) (All-told IsAboveIn (told_epochs (next_epochs s p)) s.members (λ x above. record { placed = above.placed; waits = above.waits }) is)
      (record { placed = λ k d inside. absurd (omega (arith, inside)); waits = λ k d inside. absurd (omega (arith, inside)) });
}

fresh_above : (e : EpochList) (k : ℕ) → All IsAboveIn (fresh_upto e k)
fresh_above e zero = All-nil IsAboveIn
fresh_above e (suc k) = All-push IsAboveIn (fresh_upto e k) (fresh e k) (fresh_above e k) (record { placed = λ j d inside. absurd (omega (arith, inside)); waits = λ j d inside. absurd (omega (arith, inside)) })

pub stands_above : (round maintainers : ℕ) (steps : List FlStep) → AreAbove (service_after (start round maintainers) steps)
stands_above round maintainers steps = kept_by_steps AreAbove (step_kept AreAbove above_steps) (start round maintainers) steps (fresh_above (start round maintainers).epochs maintainers)
