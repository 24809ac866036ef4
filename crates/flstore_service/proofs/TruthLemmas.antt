-- Vectors are true of what stands, so that no head that is told passes a gap.
use Rattle.std.proofs.Common.{◌≡◌, ℕ, ◌+◌, ◌<◌, ◌≤◌, cond, ltb, leb, slice_set, slice_get, map, nat_lt, if◌then◌else◌, List, [], ◌∷◌, ◌++◌, length, Option, Some, None, refl, ap, sym, ◌∙◌, subst, inl, inr, arith}
use Rattle.std.specs.List.{All}
use Rattle.std.specs.Option.{option_map}
use Rattle.std.proofs.lemmas.Bool.{cases_eq, cond_both, leb-false}
use Rattle.std.proofs.lemmas.List.Elements.{All-cons, All-head, All-nil, All-tail}
use Rattle.std.proofs.lemmas.List.{length-append}
use Rattle.std.proofs.lemmas.List.Sums.{sum_by-append, sum_by-cons}
use Rattle.std.proofs.lemmas.Option.{same_Some, slice_get_within, slice_get-map}
use Rattle.causal_deps.proofs.Lists.{slice_get-append_left, slice_get_push_cases}
use Rattle.flstore_rounds.specs.declared.epochs.Epoch.{Epoch}
use Rattle.flstore_rounds.specs.Epochs.{EpochList, IsEpochList, last_epoch, owner}
use Rattle.flstore_rounds.specs.Heads.{Pair, IsTruePair, head, joined, single}
use Rattle.flstore_rounds.proofs.EpochLemmas.{all_settled, all_starts_from, prefix_refl}
use Rattle.flstore_rounds.proofs.HeadLemmas.{blank_true, head_filled, joined_true, true_later, true_more, with_own_true}
use Rattle.maintainer.specs.Maintainers.{MaintainerState, IsFilled, OwnsAll, mark_of, placed, value_at}
use Rattle.maintainer.proofs.LawLemmas.{placed_filled}
use Rattle.maintainer.proofs.OwnLemmas.{own_pair_true, owns_empty, owns_later, owns_learned, owns_placed}
use Rattle.post_assignment.specs.Appending.{appended, kept, next_lid}
use Rattle.post_assignment.proofs.BoundLemmas.{next_own_next, released_keeps}
use Rattle.cz_base.specs.declared.limits.TheConstants.{MEMBERS, STEPS}
use Rattle.flstore_service.specs.declared.run.FlOutcome.{FlOutcome}
use Rattle.flstore_service.specs.declared.run.FlOutcome.TheVariants.{Absent, Beyond, EpochAdded, Heard, HeadAt, Late}
use Rattle.flstore_service.specs.declared.script.FlScript.{FlScript}
use Rattle.flstore_service.specs.declared.script.FlStep.{FlStep}
use Rattle.flstore_service.specs.declared.script.FlStep.TheVariants as step
use Rattle.flstore_service.specs.declared.service.Member.{Member}
use Rattle.flstore_service.specs.declared.service.Service.{Service}
use Rattle.flstore_service.specs.declared.service.Submission.{Submission}
use Rattle.flstore_service.specs.Fits.{FitsFlScript, FitsFlStep, additions, adds_maintainer}
use Rattle.flstore_service.specs.Running.{StepDone, add_maintainer_turn, after_turn, fresh, gossip_turn, grown, head_turn, heard, kept_at, late_bound, next_epochs, own_vector, owned, put_in, put_turn, quiet, read_turn, service_after, shown, shown_by, start, submission, told_epochs, turn, where_some, with_member}
use Rattle.flstore_service.specs.Laws.{IsFilledSomewhere, reached, head_told}
use Rattle.flstore_service.specs.Sound.{IsServing}
use Rattle.flstore_service.proofs.TurnLemmas.{slice_get-set_other, slice_get-set_same}
use Rattle.flstore_service.proofs.ServedLemmas.{fresh_at, fresh_length, start_served, turn_members, turn_served}

-- a maintainer owns what it has filled, and its vector is true of what stands
pub record IsTruthfulMember (s : Service) (member : Member) : Type 0 where
  pub owns : OwnsAll s.epochs member.appender.maintainer
  pub truth : IsTruePair s.epochs (IsFilledSomewhere s) member.vector

pub record IsTruthful (s : Service) : Type 0 where
  pub each : (m : ℕ) (member : Member) → slice_get s.members m ≡ Some member → IsTruthfulMember s member

-- what stood stands

pub record Goes (member new : Member) : Type 0 where
  pub filled : (p : ℕ) → IsFilled member.appender.maintainer p → IsFilled new.appender.maintainer p

goes_refl : (member : Member) → Goes member member
goes_refl member = record { filled = λ p full. full }

standing_set : (s t : Service) (m : ℕ) (member new : Member) → t.members ≡ slice_set s.members m new → slice_get s.members m ≡ Some member → Goes member new → (p : ℕ) → IsFilledSomewhere s p → IsFilledSomewhere t p
standing_set s t m member new is at goes p stands = elim (cases_eq m stands.number) [
  | inl same ↦
      let here : member ≡ stands.member = same_Some member stands.member (sym at ∙ ap (slice_get s.members) same ∙ stands.there) in
      record {
        number = m;
        member = new;
        there = ap (λ xs. slice_get xs m) is ∙ slice_get-set_same s.members m new (slice_get_within s.members m member at);
        filled = goes.filled p (subst (λ (x : Member). IsFilled x.appender.maintainer p) (sym here) stands.filled);
      }
  | inr other ↦ record {
    number = stands.number;
    member = stands.member;
    there = ap (λ xs. slice_get xs stands.number) is ∙ slice_get-set_other s.members m stands.number new other ∙ stands.there;
    filled = stands.filled;
  }
]

-- one member is another, which owns what it has and has a true vector

set_truthful : (s t : Service) (m : ℕ) (member new : Member) → t.members ≡ slice_set s.members m new → t.epochs ≡ s.epochs → slice_get s.members m ≡ Some member → Goes member new → OwnsAll s.epochs new.appender.maintainer → IsTruePair s.epochs (IsFilledSomewhere t) new.vector → IsTruthful s → IsTruthful t
set_truthful s t m member new is same at goes owns truth was = record {
  each = λ k other is_other. elim (cases_eq m k) [
    | inl here ↦
        let one : other ≡ new = same_Some other new (sym is_other ∙ ap (λ xs. slice_get xs k) is ∙ ap (slice_get (slice_set s.members m new)) (sym here) ∙ slice_get-set_same s.members m new (slice_get_within s.members m member at)) in
        subst (IsTruthfulMember t) (sym one) (record {
          owns = subst (λ e. OwnsAll e new.appender.maintainer) (sym same) owns;
          truth = subst (λ e. IsTruePair e (IsFilledSomewhere t) new.vector) (sym same) truth;
        })
    | inr there ↦
        let old = was.each k other (sym (slice_get-set_other s.members m k new there) ∙ sym (ap (λ xs. slice_get xs k) is) ∙ is_other) in
        record {
          owns = subst (λ e. OwnsAll e other.appender.maintainer) (sym same) old.owns;
          truth = subst (λ e. IsTruePair e (IsFilledSomewhere t) other.vector) (sym same) (true_more s.epochs (IsFilledSomewhere s) (IsFilledSomewhere t) other.vector (standing_set s t m member new is at goes) old.truth);
        }
  ];
}

-- vectors

pub own_true_here : (s : Service) (n m : ℕ) (member : Member) → IsServing s n → IsTruthful s → slice_get s.members m ≡ Some member → IsTruePair s.epochs (IsFilledSomewhere s) (own_vector m member)
own_true_here s n m member serving was at =
    let one = serving.each m member at in
    let here = was.each m member at in
    with_own_true s.epochs member.appender.maintainer.epochs (IsFilledSomewhere s) member.vector m (mark_of member.appender.maintainer) here.truth
    (subst (λ k. IsTruePair s.epochs (IsFilledSomewhere s) (single member.appender.maintainer.epochs k (mark_of member.appender.maintainer))) one.number
    (own_pair_true s.epochs member.appender.maintainer (IsFilledSomewhere s) (all_starts_from s.epochs serving.epochs) here.owns (λ p full. record { number = m; member = member; there = at; filled = full })))

vector_truthful : (s : Service) (m : ℕ) (member : Member) (v : Pair) → slice_get s.members m ≡ Some member → IsTruePair s.epochs (IsFilledSomewhere s) v → IsTruthful s → IsTruthful (with_member s m (record member { vector = v }))
vector_truthful s m member v at truth was =
    let new : Member = record member { vector = v } in
    let t : Service = with_member s m new in
    let goes : Goes member new = record { filled = λ p full. full } in
    set_truthful s t m member new refl refl at goes (was.each m member at).owns (true_more s.epochs (IsFilledSomewhere s) (IsFilledSomewhere t) v (standing_set s t m member new refl at goes) truth) was

-- a value that goes in

pub record IsOwning (e : EpochList) (number : ℕ) (from m : MaintainerState Submission) : Type 0 where
  pub epochs : m.epochs ≡ e
  pub number_is : m.number ≡ number
  pub owns : OwnsAll e m
  pub filled : (p : ℕ) → IsFilled from p → IsFilled m p

placed_owning : (e : EpochList) (number : ℕ) (from m : MaintainerState Submission) (value : Submission) → IsEpochList e → number < (last_epoch e).members → IsOwning e number from m → IsOwning e number from (placed m (next_lid m) value)
placed_owning e number from m value h member was =
    let list : IsEpochList m.epochs = subst IsEpochList (sym was.epochs) h in
    let one : m.number < (last_epoch m.epochs).members = omega (arith, member, was.number_is, ap (λ (x : EpochList). (last_epoch x).members) was.epochs) in
    let next = next_own_next m.epochs m.number (mark_of m) list one in
    record {
      epochs = was.epochs;
      number_is = was.number_is;
      owns = owns_placed e m (next_lid m) value was.owns (record { own = next.own; settled = all_settled e m.epochs (next_lid m) was.epochs });
      filled = λ p full. omega (arith, was.filled p full, placed_filled m (next_lid m) p value);
    }

appended_owning : (s : Service) (n m : ℕ) (member : Member) (value : Submission) → IsServing s n → IsTruthful s → slice_get s.members m ≡ Some member → IsOwning s.epochs m member.appender.maintainer (appended member.appender value).state.maintainer
appended_owning s n m member value serving was at =
    let one = serving.each m member at in
    let inside : m < (last_epoch s.epochs).members = omega (arith, slice_get_within s.members m member at, serving.members) in
    released_keeps (λ x ws. IsOwning s.epochs m member.appender.maintainer x) (λ x ws w first owning. placed_owning s.epochs m member.appender.maintainer x w.value serving.epochs inside owning)
    (length member.appender.waiting) (placed member.appender.maintainer (next_lid member.appender.maintainer) value) member.appender.waiting
    (placed_owning s.epochs m member.appender.maintainer member.appender.maintainer value serving.epochs inside (record { epochs = one.epochs; number_is = one.number; owns = (was.each m member at).owns; filled = λ p full. full }))

put_in_truthful : (s : Service) (n m bound : ℕ) (body : List ℕ) (member : Member) → IsServing s n → slice_get s.members m ≡ Some member → IsTruthful s → IsTruthful (put_in s m member bound body).service
put_in_truthful s n m bound body member serving at was =
    let value = submission s bound body in
    let new : Member = record member { appender = (appended member.appender value).state } in
    let t : Service = (put_in s m member bound body).service in
    let owning = appended_owning s n m member value serving was at in
    let goes : Goes member new = record { filled = owning.filled } in
    set_truthful s t m member new refl refl at goes owning.owns (true_more s.epochs (IsFilledSomewhere s) (IsFilledSomewhere t) member.vector (standing_set s t m member new refl at goes) (was.each m member at).truth) was

kept_truthful : (s : Service) (m bound : ℕ) (body : List ℕ) (member : Member) → slice_get s.members m ≡ Some member → IsTruthful s → IsTruthful (kept_at s m member bound body).service
kept_truthful s m bound body member at was =
    let new : Member = record member { appender = kept member.appender bound (submission s bound body) } in
    let t : Service = (kept_at s m member bound body).service in
    let goes : Goes member new = record { filled = λ p full. full } in
    set_truthful s t m member new refl refl at goes (was.each m member at).owns (true_more s.epochs (IsFilledSomewhere s) (IsFilledSomewhere t) member.vector (standing_set s t m member new refl at goes) (was.each m member at).truth) was

-- one maintainer more

standing_grown : (s : Service) (q p : ℕ) → IsFilledSomewhere s p → IsFilledSomewhere (grown s q) p
standing_grown s q p stands = record {
  number = stands.number;
  member = told_epochs (next_epochs s q) stands.member;
  there = slice_get-append_left (map (told_epochs (next_epochs s q)) s.members) (fresh (next_epochs s q) (length s.members) ∷ []) stands.number (told_epochs (next_epochs s q) stands.member)
      (slice_get-map (told_epochs (next_epochs s q)) s.members stands.number ∙ ap (option_map (told_epochs (next_epochs s q))) stands.there);
  filled = stands.filled;
}

standing_low : (s : Service) (n p : ℕ) → IsServing s n → IsFilledSomewhere s p → p ≤ s.top
standing_low s n p serving stands = (serving.each stands.number stands.member stands.there).below p stands.filled

grown_truthful : (s : Service) (n q : ℕ) → IsServing s n → late_bound s < q → IsTruthful s → IsTruthful (grown s q)
grown_truthful s n q serving late was = record {
  each = λ k member at. elim (slice_get_push_cases (map (told_epochs (next_epochs s q)) s.members) (fresh (next_epochs s q) (length s.members)) member k at) [
    | inl old ↦ told_member k member (slice_get s.members k) refl (sym (slice_get-map (told_epochs (next_epochs s q)) s.members k) ∙ old)
    | inr last ↦ subst (IsTruthfulMember (grown s q)) last.1 (record {
      owns = owns_empty (next_epochs s q) (next_epochs s q) (length s.members) (prefix_refl (next_epochs s q));
      truth = blank_true (next_epochs s q) (IsFilledSomewhere (grown s q));
    })
  ];
}
  where
    told_member : (k : ℕ) (member : Member) (o : Option Member) → slice_get s.members k ≡ o → option_map (told_epochs (next_epochs s q)) o ≡ Some member → IsTruthfulMember (grown s q) member
    told_member k member None at is = absurd (let f : None ≡ Some member = is in cc)
    told_member k member (Some old) at is =
        let new : Epoch = record { start = q; members = length s.members + 1 } in
        let e : EpochList = next_epochs s q in
        let one = was.each k old at in
        let first : 1 ≤ q = omega (arith, late) in
        let here : told_epochs e old ≡ member = same_Some (told_epochs e old) member is in
        subst (IsTruthfulMember (grown s q)) here (record {
          owns = owns_learned e old.appender.maintainer e (owns_later s.epochs new old.appender.maintainer one.owns (λ p full. omega (arith, (serving.each k old at).below p full, late))) (prefix_refl e);
          truth = true_more e (IsFilledSomewhere s) (IsFilledSomewhere (grown s q)) old.vector (standing_grown s q)
              (true_later s.epochs (IsFilledSomewhere s) new old.vector first (λ p stands. omega (arith, standing_low s n p serving stands, late)) one.truth);
        })

-- Each step keeps that, and a head that it tells is that of a true vector.

pub record IsToldBy (t : Service) (s : ℕ) : Type 0 where
  pub vector : Pair
  pub truth : IsTruePair t.epochs (IsFilledSomewhere t) vector
  pub is : s ≡ head vector

pub record IsTruthfulTurn (done : StepDone) : Type 0 where
  pub after : IsTruthful done.service
  pub told : (s : ℕ) → head_told done.outcome ≡ Some s → IsToldBy done.service s

none_told : {A : Type 0} (s : ℕ) → None ≡ Some s → A
none_told s is = absurd (cc)

silent : (t : Service) (outcome : FlOutcome) → head_told outcome ≡ None → IsTruthful t → IsTruthfulTurn (quiet t outcome)
silent t outcome none is = record { after = is; told = λ s told. none_told s (sym none ∙ told) }

where_truthful : {A : Type 0} (s : Service) (o : Option A) (go : A → StepDone) → IsTruthful s → ((x : A) → o ≡ Some x → IsTruthfulTurn (go x)) → IsTruthfulTurn (where_some s o go)
where_truthful s None go is each = silent s Absent refl is
where_truthful s (Some x) go is each = each x refl

told_head : (t : Service) (v : Pair) (s : ℕ) → IsTruePair t.epochs (IsFilledSomewhere t) v → Some (head v) ≡ Some s → IsToldBy t s
told_head t v s truth is = record { vector = v; truth = truth; is = sym (same_Some (head v) s is) }

standing_vector : (s : Service) (m : ℕ) (member : Member) (v w : Pair) → slice_get s.members m ≡ Some member → IsTruePair s.epochs (IsFilledSomewhere s) w → IsTruePair s.epochs (IsFilledSomewhere (with_member s m (record member { vector = v }))) w
standing_vector s m member v w at truth =
    let new : Member = record member { vector = v } in
    true_more s.epochs (IsFilledSomewhere s) (IsFilledSomewhere (with_member s m new)) w (standing_set s (with_member s m new) m member new refl at (record { filled = λ p full. full })) truth

heard_truthful : (s : Service) (k : ℕ) (note : Pair) → IsTruthful s → IsTruePair s.epochs (IsFilledSomewhere s) note → IsTruthfulTurn (heard s k note)
heard_truthful s k note was truth = where_truthful s (slice_get s.members k) (λ hearer. quiet (with_member s k (record hearer { vector = joined hearer.vector note })) (Heard (head (joined hearer.vector note)))) was
    (λ hearer at. (
    let v : Pair = joined hearer.vector note in
    let both = joined_true s.epochs (IsFilledSomewhere s) hearer.vector note (was.each k hearer at).truth truth in
    record {
      after = vector_truthful s k hearer v at both was;
      told = λ h told. told_head (with_member s k (record hearer { vector = v })) v h (standing_vector s k hearer v v at both) told;
    }))

gossip_truthful : (s : Service) (n m k : ℕ) → IsServing s n → IsTruthful s → IsTruthfulTurn (gossip_turn s m k)
gossip_truthful s n m k serving was = where_truthful s (slice_get s.members m) (λ teller. where_some s (slice_get s.members k) (λ _. heard (owned s m teller) k (own_vector m teller))) was
    (λ teller at. where_truthful s (slice_get s.members k) (λ _. heard (owned s m teller) k (own_vector m teller)) was
    (λ _ _. (
    let truth = own_true_here s n m teller serving was at in
    heard_truthful (owned s m teller) k (own_vector m teller) (vector_truthful s m teller (own_vector m teller) at truth was) (standing_vector s m teller (own_vector m teller) (own_vector m teller) at truth))))

head_truthful : (s : Service) (n m : ℕ) → IsServing s n → IsTruthful s → IsTruthfulTurn (head_turn s m)
head_truthful s n m serving was = where_truthful s (slice_get s.members m) (λ member. quiet (owned s m member) (HeadAt (head (own_vector m member)))) was
    (λ member at. (
    let truth = own_true_here s n m member serving was at in
    record {
      after = vector_truthful s m member (own_vector m member) at truth was;
      told = λ h told. told_head (owned s m member) (own_vector m member) h (standing_vector s m member (own_vector m member) (own_vector m member) at truth) told;
    }))

shows_none : (o : Option Submission) → head_told (shown o) ≡ None
shows_none None = refl
shows_none (Some value) = refl

shows_none_by : (o : Option Member) (p : ℕ) → head_told (shown_by o p) ≡ None
shows_none_by None p = refl
shows_none_by (Some keeper) p = shows_none (value_at p keeper.appender.maintainer.entries)

read_truthful : (s : Service) (m p : ℕ) → IsTruthful s → IsTruthfulTurn (read_turn s m p)
read_truthful s m p was = where_truthful s (slice_get s.members m) (λ member. quiet s (if nat_lt (head member.vector) p then Beyond else shown_by (slice_get s.members (owner s.epochs p)) p)) was
    (λ member at. silent s (cond (ltb (head member.vector) p) Beyond (shown_by (slice_get s.members (owner s.epochs p)) p))
    (cond_both (ltb (head member.vector) p) Beyond (shown_by (slice_get s.members (owner s.epochs p)) p) (λ o. head_told o ≡ None) (λ _. refl) (λ _. shows_none_by (slice_get s.members (owner s.epochs p)) p)) was)

put_truthful : (s : Service) (n m : ℕ) (body : List ℕ) → IsServing s n → IsTruthful s → IsTruthfulTurn (put_turn s m body)
put_truthful s n m body serving was = where_truthful s (slice_get s.members m) (λ member. put_in s m member 0 body) was (λ member at. record { after = put_in_truthful s n m 0 body member serving at was; told = λ h told. none_told h told })

after_truthful : (s : Service) (n m p : ℕ) (body : List ℕ) → IsServing s n → IsTruthful s → IsTruthfulTurn (after_turn s m p body)
after_truthful s n m p body serving was = where_truthful s (slice_get s.members m) (λ member. if nat_lt p (next_lid member.appender.maintainer) then put_in s m member p body else kept_at s m member p body) was
    (λ member at. cond_both (ltb p (next_lid member.appender.maintainer)) (put_in s m member p body) (kept_at s m member p body) IsTruthfulTurn
    (λ _. record { after = put_in_truthful s n m p body member serving at was; told = λ h told. none_told h told })
    (λ _. record { after = kept_truthful s m p body member at was; told = λ h told. none_told h told }))

add_truthful : (s : Service) (n p : ℕ) → IsServing s n → IsTruthful s → IsTruthfulTurn (add_maintainer_turn s p)
add_truthful s n p serving was = cond_both (leb p (late_bound s)) (quiet s (Late (late_bound s))) (quiet (grown s p) (EpochAdded p (length s.members + 1))) IsTruthfulTurn
    (λ _. silent s (Late (late_bound s)) refl was)
    (λ above. silent (grown s p) (EpochAdded p (length s.members + 1)) refl (grown_truthful s n p serving (leb-false p (late_bound s) above) was))

pub turn_truthful : (s : Service) (n : ℕ) (x : FlStep) → IsServing s n → IsTruthful s → IsTruthfulTurn (turn s x)
turn_truthful s n (step.Put m body) serving was = put_truthful s n m body serving was
turn_truthful s n (step.After m p body) serving was = after_truthful s n m p body serving was
turn_truthful s n (step.Gossip m k) serving was = gossip_truthful s n m k serving was
turn_truthful s n (step.Head m) serving was = head_truthful s n m serving was
turn_truthful s n (step.Read m p) serving was = read_truthful s m p was
turn_truthful s n (step.AddMaintainer p) serving was = add_truthful s n p serving was

-- all steps

pub record IsGoing (s : Service) (n : ℕ) : Type 0 where
  pub serving : IsServing s n
  pub truthful : IsTruthful s

going_on : (s : Service) (n : ℕ) (xs : List FlStep) → IsGoing s n → n + length xs ≤ STEPS → length s.members + additions xs ≤ MEMBERS → All FitsFlStep xs → IsGoing (service_after s xs) (n + length xs)
going_on s n [] going short few fits = subst (IsGoing s) (omega arith) going
going_on s n (x ∷ xs) going short few fits =
    let counted = sum_by-cons (λ (y : FlStep). cond (adds_maintainer y) 1 0) x xs in
    let next : IsGoing (turn s x).service (n + 1) = record {
      serving = turn_served s n x going.serving (omega (arith, short)) (All-head FitsFlStep x xs fits) (omega (arith, few, counted));
      truthful = (turn_truthful s n x going.serving going.truthful).after;
    } in
    let rest = going_on (turn s x).service (n + 1) xs next (omega (arith, short)) (omega (arith, few, counted, turn_members s x)) (All-tail FitsFlStep x xs fits) in
    subst (IsGoing (service_after (turn s x).service xs)) (omega arith) rest

start_truthful : (round maintainers : ℕ) → IsTruthful (start round maintainers)
start_truthful round maintainers = record {
  each = λ m member at. (
      let e : EpochList = (start round maintainers).epochs in
      subst (IsTruthfulMember (start round maintainers)) (sym (fresh_at e maintainers m member at)) (record { owns = owns_empty e e m (prefix_refl e); truth = blank_true e (IsFilledSomewhere (start round maintainers)) }));
}

additions-append : (xs ys : List FlStep) → additions (xs ++ ys) ≡ additions xs + additions ys
additions-append xs ys = sum_by-append (λ (y : FlStep). cond (adds_maintainer y) 1 0) xs ys

All-front : (P : FlStep → Type 0) (xs ys : List FlStep) → All P (xs ++ ys) → All P xs
All-front P [] ys all = All-nil P
All-front P (x ∷ xs) ys all = All-cons P x xs (All-head P x (xs ++ ys) all) (All-front P xs ys (All-tail P x (xs ++ ys) all))

pub reached_going : (script : FlScript) (before after : List FlStep) → FitsFlScript script → script.steps ≡ before ++ after → IsGoing (reached script before) (length before)
reached_going script before after fits is =
    let first : IsGoing (start script.round script.maintainers) 0 = record {
      serving = start_served script.round script.maintainers fits.round.0 fits.round.1 fits.some (omega (arith, fits.few));
      truthful = start_truthful script.round script.maintainers;
    } in
    let size : length script.steps ≡ length before + length after = ap (λ (xs : List FlStep). length xs) is ∙ length-append before after in
    let added : additions script.steps ≡ additions before + additions after = ap additions is ∙ additions-append before after in
    let e : EpochList = (start script.round script.maintainers).epochs in
    subst (IsGoing (reached script before)) (omega arith)
    (going_on (start script.round script.maintainers) 0 before first (omega (arith, fits.steps, size)) (omega (arith, fits.few, added, fresh_length e script.maintainers)) (All-front FitsFlStep before after (subst (All FitsFlStep) is fits.each)))

pub no_gap : (script : FlScript) (before after : List FlStep) (x : FlStep) (s p : ℕ) → FitsFlScript script → script.steps ≡ before ++ x ∷ after → head_told (turn (reached script before) x).outcome ≡ Some s → 1 ≤ p → p ≤ s → IsFilledSomewhere (turn (reached script before) x).service p
no_gap script before after x s p fits is told first low =
    let going = reached_going script before (x ∷ after) fits is in
    let t : Service = (turn (reached script before) x).service in
    let by = (turn_truthful (reached script before) (length before) x going.serving going.truthful).told s told in
    head_filled t.epochs (IsFilledSomewhere t) by.vector p by.truth first (omega (arith, low, by.is))
