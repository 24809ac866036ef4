-- Each step keeps what holds of the service.
use Rattle.std.proofs.Common.{◌≡◌, ℕ, zero, suc, ◌+◌, ◌*◌, ◌<◌, ◌≤◌, ◌^◌, max, cond, ltb, leb, fold, slice_set, get_or, drop, drop-cons, append-nil, append_assoc, nat_lt, if◌then◌else◌, List, [], ◌∷◌, ◌++◌, length, map, Option, Some, None, slice_get, refl, ap, sym, ◌∙◌, subst, inl, inr, arith}
use Rattle.std.specs.List.{All}
use Rattle.std.specs.Option.{option_map}
use Rattle.std.proofs.lemmas.Bool.{cases_eq, cond_both, leb-false}
use Rattle.std.proofs.lemmas.List.{drop_all, length-set, length-map}
use Rattle.std.proofs.lemmas.List.Elements.{All-head, All-tail, All-weaker}
use Rattle.std.proofs.lemmas.Option.{same_Some, slice_get_within, slice_get-map}
use Rattle.causal_deps.proofs.Lists.{slice_get_push_cases}
use Rattle.flstore_rounds.specs.declared.epochs.Epoch.{Epoch}
use Rattle.flstore_rounds.specs.Epochs.{EpochList, first_epoch, owner, IsPrefix}
use Rattle.flstore_rounds.specs.Heads.{Pair, head, joined}
use Rattle.flstore_rounds.proofs.EpochLemmas.{epoch_list_more, first_epoch_list, last_from-push, length_push, longer_prefix, prefix_more, prefix_refl}
use Rattle.maintainer.specs.Maintainers.{placed}
use Rattle.post_assignment.specs.Appending.{appended, kept, next_lid}
use Rattle.post_assignment.proofs.BoundLemmas.{next_lid_most, placed_below, released_epochs, released_fewer, released_near, released_number, released_within}
use Rattle.cz_base.specs.declared.limits.TheConstants.{MEMBERS, ROUND, STEPS}
use Rattle.std.proofs.lemmas.List.Sums.{sum_by-drop_more}
use Rattle.flstore_service.specs.declared.run.FlLine.{FlLine}
use Rattle.flstore_service.specs.declared.run.FlOutcome.{FlOutcome}
use Rattle.flstore_service.specs.declared.run.FlOutcome.TheVariants.{Beyond, EpochAdded, Heard, HeadAt, Late}
use Rattle.flstore_service.specs.declared.script.FlStep.{FlStep}
use Rattle.flstore_service.specs.declared.script.FlStep.TheVariants as step
use Rattle.flstore_service.specs.declared.service.Member.{Member}
use Rattle.flstore_service.specs.declared.service.Service.{Service}
use Rattle.flstore_service.specs.Fits.{FitsFlStep, additions, adds_maintainer}
use Rattle.flstore_service.specs.Running.{StepDone, add_maintainer_turn, after_turn, fresh, fresh_upto, gossip_turn, grown, head_turn, heard, kept_at, lines_after, service_after, late_bound, next_epochs, own_vector, owned, put_in, put_turn, quiet, read_turn, shown_by, start, submission, told_epochs, turn, where_some, with_member}
use Rattle.flstore_service.specs.Sound.{IsSoundMember, IsServing}
use Rattle.flstore_service.proofs.TurnLemmas.{longer_is, slice_get-set_other, slice_get-set_same}
use Rattle.flstore_service.proofs.RoomLemmas.{is_placed}

-- the greatest of some is at most what all are at most
greatest_most : (c a : ℕ) (xs : List ℕ) → a ≤ c → All (λ x. x ≤ c) xs → fold max a xs ≤ c
greatest_most c a [] le all = le
greatest_most c a (x ∷ xs) le all = greatest_most c (max a x) xs (omega (arith, le, All-head (λ (y : ℕ). y ≤ c) x xs all)) (All-tail (λ (y : ℕ). y ≤ c) x xs all)

-- and at least the first of them, and each
greatest_first : (a : ℕ) (xs : List ℕ) → a ≤ fold max a xs
greatest_first a [] = omega arith
greatest_first a (x ∷ xs) = omega (arith, greatest_first (max a x) xs)

greatest_each : (a : ℕ) (xs : List ℕ) → All (λ x. x ≤ fold max a xs) xs
greatest_each a [] = λ k d inside. absurd (omega (arith, inside))
greatest_each a (x ∷ xs) = λ k d inside. by_place k d inside (greatest_each (max a x) xs)
  where
    by_place : (k d : ℕ) → k < length (x ∷ xs) → All (λ y. y ≤ fold max (max a x) xs) xs → get_or (x ∷ xs) k d ≤ fold max (max a x) xs
    by_place zero d inside rest = omega (arith, greatest_first (max a x) xs)
    by_place (suc k) d inside rest = rest k d (omega (arith, inside))

pub serving_more : (s : Service) (n : ℕ) → IsServing s n → IsServing s (n + 1)
serving_more s n h = record {
  epochs = h.epochs;
  start = h.start;
  members = h.members;
  each = h.each;
  count = omega (arith, h.count);
  top = omega (arith, h.top);
}

-- a member that has the same epochs, with more values and a greater top

member_grows : (s t : Service) (m : ℕ) (member : Member) → t.epochs ≡ s.epochs → s.top ≤ t.top → s.count ≤ t.count → IsSoundMember s m member → IsSoundMember t m member
member_grows s t m member same top count is = record {
  number = is.number;
  epochs = is.epochs ∙ sym same;
  below = λ p full. omega (arith, is.below p full, top);
  waits = omega (arith, is.waits, count);
  vector = subst (λ e. IsPrefix member.vector.epochs e) (sym same) is.vector;
}

-- one member is another, and the others have grown

each_set : (s t : Service) (m : ℕ) (new : Member) → t.members ≡ slice_set s.members m new → m < length s.members → IsSoundMember t m new → ((k : ℕ) (member : Member) → slice_get s.members k ≡ Some member → IsSoundMember t k member) → (k : ℕ) (member : Member) → slice_get t.members k ≡ Some member → IsSoundMember t k member
each_set s t m new is inside one others k member at = elim (cases_eq m k) [
  | inl same ↦
      let here : member ≡ new = same_Some member new (sym at ∙ ap (λ xs. slice_get xs k) is ∙ ap (slice_get (slice_set s.members m new)) (sym same) ∙ slice_get-set_same s.members m new inside) in
      subst (λ i. IsSoundMember t i member) same (subst (IsSoundMember t m) (sym here) one)
  | inr other ↦ others k member (sym (slice_get-set_other s.members m k new other) ∙ sym (ap (λ xs. slice_get xs k) is) ∙ at)
]

-- a vector that took a list that has begun

pub vector_served : (s : Service) (n m : ℕ) (member : Member) (v : Pair) → IsServing s n → slice_get s.members m ≡ Some member → IsPrefix v.epochs s.epochs → IsServing (with_member s m (record member { vector = v })) n
vector_served s n m member v h at begun =
    let new : Member = record member { vector = v } in
    let t : Service = with_member s m new in
    let one = h.each m member at in
    record {
      epochs = h.epochs;
      start = h.start;
      members = length-set s.members m new ∙ h.members;
      each = each_set s t m new refl (slice_get_within s.members m member at) (record { number = one.number; epochs = one.epochs; below = one.below; waits = one.waits; vector = begun })
          (λ k other is. let was = h.each k other is in record { number = was.number; epochs = was.epochs; below = was.below; waits = was.waits; vector = was.vector });
      count = h.count;
      top = h.top;
    }

own_begun : (s : Service) (n m : ℕ) (member : Member) → IsServing s n → slice_get s.members m ≡ Some member → IsPrefix (own_vector m member).epochs s.epochs
own_begun s n m member h at =
    let one = h.each m member at in
    longer_prefix member.vector.epochs member.appender.maintainer.epochs s.epochs one.vector (subst (λ e. IsPrefix e s.epochs) (sym one.epochs) (prefix_refl s.epochs))

pub owned_served : (s : Service) (n m : ℕ) (member : Member) → IsServing s n → slice_get s.members m ≡ Some member → IsServing (owned s m member) n
owned_served s n m member h at = vector_served s n m member (own_vector m member) h at (own_begun s n m member h at)

-- what is true of each answer and of none
where_served : {A : Type 0} (s : Service) (n : ℕ) (o : Option A) (go : A → StepDone) → IsServing s n → ((x : A) → o ≡ Some x → IsServing (go x).service n) → IsServing (where_some s o go).service n
where_served s n None go h each = h
where_served s n (Some x) go h each = each x refl

heard_served : (s : Service) (n k : ℕ) (note : Pair) → IsServing s n → IsPrefix note.epochs s.epochs → IsServing (heard s k note).service n
heard_served s n k note h begun = where_served s n (slice_get s.members k) (λ hearer. quiet (with_member s k (record hearer { vector = joined hearer.vector note })) (Heard (head (joined hearer.vector note)))) h
    (λ hearer at. vector_served s n k hearer (joined hearer.vector note) h at (longer_prefix hearer.vector.epochs note.epochs s.epochs (h.each k hearer at).vector begun))

gossip_served : (s : Service) (n m k : ℕ) → IsServing s n → IsServing (gossip_turn s m k).service n
gossip_served s n m k h = where_served s n (slice_get s.members m) (λ teller. where_some s (slice_get s.members k) (λ _. heard (owned s m teller) k (own_vector m teller))) h
    (λ teller at. where_served s n (slice_get s.members k) (λ _. heard (owned s m teller) k (own_vector m teller)) h
    (λ _ _. heard_served (owned s m teller) n k (own_vector m teller) (owned_served s n m teller h at) (own_begun s n m teller h at)))

head_served : (s : Service) (n m : ℕ) → IsServing s n → IsServing (head_turn s m).service n
head_served s n m h = where_served s n (slice_get s.members m) (λ member. quiet (owned s m member) (HeadAt (head (own_vector m member)))) h (λ member at. owned_served s n m member h at)

read_served : (s : Service) (n m p : ℕ) → IsServing s n → IsServing (read_turn s m p).service n
read_served s n m p h = where_served s n (slice_get s.members m) (λ member. quiet s (if nat_lt (head member.vector) p then Beyond else shown_by (slice_get s.members (owner s.epochs p)) p)) h (λ member at. h)

-- a value that goes in

put_in_served : (s : Service) (n m bound : ℕ) (body : List ℕ) (member : Member) → IsServing s n → n < STEPS → slice_get s.members m ≡ Some member → IsServing (put_in s m member bound body).service (n + 1)
put_in_served s n m bound body member h few at =
    let place = is_placed s n m member h at in
    let one = h.each m member at in
    let value = submission s bound body in
    let lid : ℕ = next_lid member.appender.maintainer in
    let r = appended member.appender value in
    let new : Member = record member { appender = r.state } in
    let t : Service = (put_in s m member bound body).service in
    let b : ℕ = 2 ^ 32 + n * ((STEPS + 1) * 2 ^ 15) in
    let near : lid ≤ b + 2 ^ 15 = next_lid_most member.appender.maintainer b place.epochs place.one place.start place.below in
    let all = released_near (length member.appender.waiting) (placed member.appender.maintainer lid value) member.appender.waiting (b + 2 ^ 15) place.epochs place.one (omega (arith, place.start))
    (placed_below member.appender.maintainer lid b (b + 2 ^ 15) value near (omega arith) place.below) in
    let first : max s.top lid ≤ t.top = greatest_first (max s.top lid) r.lids in
    let up : s.top ≤ t.top = omega (arith, first) in
    record {
      epochs = h.epochs;
      start = h.start;
      members = length-set s.members m new ∙ h.members;
      each = each_set s t m new refl (slice_get_within s.members m member at)
          (record {
            number = released_number (length member.appender.waiting) (placed member.appender.maintainer lid value) member.appender.waiting ∙ one.number;
            epochs = released_epochs (length member.appender.waiting) (placed member.appender.maintainer lid value) member.appender.waiting ∙ one.epochs;
            below = released_within (length member.appender.waiting) (placed member.appender.maintainer lid value) member.appender.waiting t.top (placed_below member.appender.maintainer lid s.top t.top value (omega (arith, first)) up one.below) (greatest_each (max s.top lid) r.lids);
            waits = released_fewer (length member.appender.waiting) (s.count + 1) (placed member.appender.maintainer lid value) member.appender.waiting (omega (arith, one.waits));
            vector = one.vector;
          })
          (λ k other is. member_grows s t k other refl up (omega arith) (h.each k other is));
      count = omega (arith, h.count);
      top = greatest_most (2 ^ 32 + (n + 1) * ((STEPS + 1) * 2 ^ 15)) (max s.top lid) r.lids (omega (arith, h.top, near))
          (All-weaker (λ (x : ℕ). x ≤ b + 2 ^ 15 + length member.appender.waiting * 2 ^ 15) (λ (x : ℕ). x ≤ 2 ^ 32 + (n + 1) * ((STEPS + 1) * 2 ^ 15)) (λ x le. omega (arith, le, place.waits, few)) r.lids all.lids);
    }

kept_served : (s : Service) (n m bound : ℕ) (body : List ℕ) (member : Member) → IsServing s n → slice_get s.members m ≡ Some member → IsServing (kept_at s m member bound body).service (n + 1)
kept_served s n m bound body member h at =
    let one = h.each m member at in
    let new : Member = record member { appender = kept member.appender bound (submission s bound body) } in
    let t : Service = (kept_at s m member bound body).service in
    record {
      epochs = h.epochs;
      start = h.start;
      members = length-set s.members m new ∙ h.members;
      each = each_set s t m new refl (slice_get_within s.members m member at)
          (record {
            number = one.number;
            epochs = one.epochs;
            below = one.below;
            waits = omega (arith, one.waits, length_push member.appender.waiting (record { bound = bound; value = submission s bound body }));
            vector = one.vector;
          })
          (λ k other is. member_grows s t k other refl (omega arith) (omega arith) (h.each k other is));
      count = omega (arith, h.count);
      top = omega (arith, h.top);
    }

put_served : (s : Service) (n m : ℕ) (body : List ℕ) → IsServing s n → n < STEPS → IsServing (put_turn s m body).service (n + 1)
put_served s n m body h few = where_served s (n + 1) (slice_get s.members m) (λ member. put_in s m member 0 body) (serving_more s n h) (λ member at. put_in_served s n m 0 body member h few at)

after_served : (s : Service) (n m p : ℕ) (body : List ℕ) → IsServing s n → n < STEPS → IsServing (after_turn s m p body).service (n + 1)
after_served s n m p body h few = where_served s (n + 1) (slice_get s.members m) (λ member. if nat_lt p (next_lid member.appender.maintainer) then put_in s m member p body else kept_at s m member p body) (serving_more s n h)
    (λ member at. cond_both (ltb p (next_lid member.appender.maintainer)) (put_in s m member p body) (kept_at s m member p body) (λ (done : StepDone). IsServing done.service (n + 1)) (λ _. put_in_served s n m p body member h few at) (λ _. kept_served s n m p body member h at))

-- one maintainer more

grown_served : (s : Service) (n p : ℕ) → IsServing s n → late_bound s < p → p < 2 ^ 32 → length s.members < MEMBERS → IsServing (grown s p) n
grown_served s n p h late small room =
    let new : Epoch = record { start = p; members = length s.members + 1 } in
    let e : EpochList = next_epochs s p in
    let t : Service = grown s p in
    let others : List Member = map (told_epochs e) s.members in
    let begun : IsPrefix s.epochs e = prefix_more s.epochs s.epochs new (prefix_refl s.epochs) in
    record {
      epochs = epoch_list_more s.epochs new h.epochs (omega (arith, late)) (omega (arith, h.members)) (omega (arith, small)) (omega (arith, room));
      start = omega (arith, small, ap (λ (x : Epoch). x.start) (last_from-push first_epoch s.epochs.list new));
      members = length_push others (fresh e (length s.members)) ∙ ap (λ k. k + 1) (length-map s.members (told_epochs e)) ∙ sym (ap (λ (x : Epoch). x.members) (last_from-push first_epoch s.epochs.list new));
      each = λ k member at. elim (slice_get_push_cases others (fresh e (length s.members)) member k at) [
        | inl old ↦ told_member k member (slice_get s.members k) refl (sym (slice_get-map (told_epochs e) s.members k) ∙ old) begun
        | inr last ↦ fresh_member k member last.0 (sym last.1)
      ];
      count = h.count;
      top = h.top;
    }
  where
    told_member : (k : ℕ) (member : Member) (o : Option Member) → slice_get s.members k ≡ o → option_map (told_epochs (next_epochs s p)) o ≡ Some member → IsPrefix s.epochs (next_epochs s p) → IsSoundMember (grown s p) k member
    told_member k member None at is begun = absurd (let f : None ≡ Some member = is in cc)
    told_member k member (Some was) at is begun =
        let one = h.each k was at in
        let here : told_epochs (next_epochs s p) was ≡ member = same_Some (told_epochs (next_epochs s p) was) member is in
        subst (IsSoundMember (grown s p) k) here (record {
          number = one.number;
          epochs = longer_is was.appender.maintainer.epochs (next_epochs s p) (subst (λ x. IsPrefix x (next_epochs s p)) (sym one.epochs) begun);
          below = one.below;
          waits = one.waits;
          vector = prefix_more was.vector.epochs s.epochs (record { start = p; members = length s.members + 1 }) one.vector;
        })

    fresh_member : (k : ℕ) (member : Member) → k ≡ length (map (told_epochs (next_epochs s p)) s.members) → member ≡ fresh (next_epochs s p) (length s.members) → IsSoundMember (grown s p) k member
    fresh_member k member at is = subst (IsSoundMember (grown s p) k) (sym is) (record {
      number = sym (at ∙ length-map s.members (told_epochs (next_epochs s p)));
      epochs = refl;
      below = λ q full. absurd (omega (arith, full));
      waits = omega arith;
      vector = prefix_refl (next_epochs s p);
    })

add_served : (s : Service) (n p : ℕ) → IsServing s n → p < 2 ^ 32 → length s.members < MEMBERS → IsServing (add_maintainer_turn s p).service n
add_served s n p h small room = cond_both (leb p (late_bound s)) (quiet s (Late (late_bound s))) (quiet (grown s p) (EpochAdded p (length s.members + 1))) (λ (done : StepDone). IsServing done.service n) (λ _. h) (λ above. grown_served s n p h (leb-false p (late_bound s) above) small room)

pub turn_served : (s : Service) (n : ℕ) (x : FlStep) → IsServing s n → n < STEPS → FitsFlStep x → length s.members + cond (adds_maintainer x) 1 0 ≤ MEMBERS → IsServing (turn s x).service (n + 1)
turn_served s n (step.Put m body) h few fits room = put_served s n m body h few
turn_served s n (step.After m p body) h few fits room = after_served s n m p body h few
turn_served s n (step.Gossip m k) h few fits room = serving_more (gossip_turn s m k).service n (gossip_served s n m k h)
turn_served s n (step.Head m) h few fits room = serving_more (head_turn s m).service n (head_served s n m h)
turn_served s n (step.Read m p) h few fits room = serving_more (read_turn s m p).service n (read_served s n m p h)
turn_served s n (step.AddMaintainer p) h few fits room = serving_more (add_maintainer_turn s p).service n (add_served s n p h (omega (arith, fits.1)) (omega (arith, room)))

-- no step adds more than one maintainer, and only one kind adds any

where_few : {A : Type 0} (s : Service) (n : ℕ) (o : Option A) (go : A → StepDone) → length s.members ≤ n → ((x : A) → o ≡ Some x → length (go x).service.members ≤ n) → length (where_some s o go).service.members ≤ n
where_few s n None go few each = few
where_few s n (Some x) go few each = each x refl

set_few : (s : Service) (m : ℕ) (member : Member) → length (with_member s m member).members ≤ length s.members + 0
set_few s m member = omega (arith, length-set s.members m member)

pub turn_members : (s : Service) (x : FlStep) → length (turn s x).service.members ≤ length s.members + cond (adds_maintainer x) 1 0
turn_members s (step.Put m body) = where_few s (length s.members + 0) (slice_get s.members m) (λ member. put_in s m member 0 body) (omega arith) (λ member at. set_few s m (record member { appender = (appended member.appender (submission s 0 body)).state }))
turn_members s (step.After m p body) = where_few s (length s.members + 0) (slice_get s.members m) (λ member. if nat_lt p (next_lid member.appender.maintainer) then put_in s m member p body else kept_at s m member p body) (omega arith)
    (λ member at. cond_both (ltb p (next_lid member.appender.maintainer)) (put_in s m member p body) (kept_at s m member p body) (λ (done : StepDone). length done.service.members ≤ length s.members + 0)
    (λ _. set_few s m (record member { appender = (appended member.appender (submission s p body)).state }))
    (λ _. set_few s m (record member { appender = kept member.appender p (submission s p body) })))
turn_members s (step.Gossip m k) = where_few s (length s.members + 0) (slice_get s.members m) (λ teller. where_some s (slice_get s.members k) (λ _. heard (owned s m teller) k (own_vector m teller))) (omega arith)
    (λ teller at. where_few s (length s.members + 0) (slice_get s.members k) (λ _. heard (owned s m teller) k (own_vector m teller)) (omega arith) (λ _ _. heard_few teller))
  where
    heard_few : (teller : Member) → length (heard (owned s m teller) k (own_vector m teller)).service.members ≤ length s.members + 0
    heard_few teller = where_few (owned s m teller) (length s.members + 0) (slice_get (owned s m teller).members k) (λ hearer. quiet (with_member (owned s m teller) k (record hearer { vector = joined hearer.vector (own_vector m teller) })) (Heard (head (joined hearer.vector (own_vector m teller)))))
        (set_few s m (record teller { vector = own_vector m teller }))
        (λ hearer at. omega (arith, set_few (owned s m teller) k (record hearer { vector = joined hearer.vector (own_vector m teller) }), set_few s m (record teller { vector = own_vector m teller })))
turn_members s (step.Head m) = where_few s (length s.members + 0) (slice_get s.members m) (λ member. quiet (owned s m member) (HeadAt (head (own_vector m member)))) (omega arith) (λ member at. set_few s m (record member { vector = own_vector m member }))
turn_members s (step.Read m p) = where_few s (length s.members + 0) (slice_get s.members m) (λ member. quiet s (if nat_lt (head member.vector) p then Beyond else shown_by (slice_get s.members (owner s.epochs p)) p)) (omega arith) (λ member at. omega arith)
turn_members s (step.AddMaintainer p) = cond_both (leb p (late_bound s)) (quiet s (Late (late_bound s))) (quiet (grown s p) (EpochAdded p (length s.members + 1))) (λ (done : StepDone). length done.service.members ≤ length s.members + 1)
    (λ _. omega arith) (λ _. omega (arith, length_push (map (told_epochs (next_epochs s p)) s.members) (fresh (next_epochs s p) (length s.members)), length-map s.members (told_epochs (next_epochs s p))))

-- all steps, one after another

pub record IsRunning (first : Service) (steps : List FlStep) (at : ℕ) (now : Service) (so_far : List FlLine) : Type 0 where
  pub serving : IsServing now at
  pub few : length now.members + additions (drop at steps) ≤ MEMBERS
  pub lines : so_far ++ lines_after now (drop at steps) ≡ lines_after first steps
  pub service : service_after now (drop at steps) ≡ service_after first steps

pub running_start : (first : Service) (steps : List FlStep) (lines : List FlLine) → IsServing first 0 → length first.members + additions steps ≤ MEMBERS → lines ≡ [] → IsRunning first steps 0 first lines
running_start first steps lines h few none = record { serving = h; few = few; lines = ap (λ xs. xs ++ lines_after first steps) none; service = refl }

pub record IsNext (now : Service) (at : ℕ) (x : FlStep) : Type 0 where
  pub fits : FitsFlStep x
  pub room : length now.members + cond (adds_maintainer x) 1 0 ≤ MEMBERS

pub running_next : (first now : Service) (steps : List FlStep) (at : ℕ) (so_far : List FlLine) (x : FlStep) → IsRunning first steps at now so_far → at < length steps → x ≡ get_or steps at x → All FitsFlStep steps → IsNext now at x
running_next first now steps at so_far x run inside is all = record {
  fits = subst FitsFlStep (sym is) (all at x inside);
  room = omega (arith, run.few, sum_by-drop_more (λ (y : FlStep). cond (adds_maintainer y) 1 0) steps at x inside, ap (λ (y : FlStep). cond {A = ℕ} (adds_maintainer y) 1 0) is);
}

pub running_on : (first now new : Service) (steps : List FlStep) (at : ℕ) (so_far more : List FlLine) (x : FlStep) (outcome : FlOutcome) → IsRunning first steps at now so_far → at < length steps → x ≡ get_or steps at x → length steps ≤ STEPS → All FitsFlStep steps
    → quiet new outcome ≡ turn now x → more ≡ so_far ++ record { step = x; outcome = outcome } ∷ [] → IsRunning first steps (at + 1) new more
running_on first now new steps at so_far more x outcome run inside is short all is_turn is_more =
    let next = running_next first now steps at so_far x run inside is all in
    let service : new ≡ (turn now x).service = ap (λ (t : StepDone). t.service) is_turn in
    let answer : outcome ≡ (turn now x).outcome = ap (λ (t : StepDone). t.outcome) is_turn in
    let rest : drop at steps ≡ x ∷ drop (at + 1) steps = drop-cons steps at x inside ∙ ap (λ y. y ∷ drop (suc at) steps) (sym is) ∙ ap (λ k. x ∷ drop k steps) (add_one at) in
    record {
      serving = subst (λ s. IsServing s (at + 1)) (sym service) (turn_served now at x run.serving (omega (arith, inside, short)) next.fits next.room);
      few = omega (arith, run.few, ap (λ (s : Service). length s.members) service, turn_members now x, sum_by-drop_more (λ (y : FlStep). cond (adds_maintainer y) 1 0) steps at x inside, ap (λ (y : FlStep). cond {A = ℕ} (adds_maintainer y) 1 0) is);
      lines = (λ i. is_more i ++ lines_after (service i) (drop (at + 1) steps)) ∙ ap (λ o. (so_far ++ record { step = x; outcome = o } ∷ []) ++ lines_after (turn now x).service (drop (at + 1) steps)) answer
          ∙ append_assoc so_far (record { step = x; outcome = (turn now x).outcome } ∷ []) (lines_after (turn now x).service (drop (at + 1) steps)) ∙ sym (ap (λ xs. so_far ++ lines_after now xs) rest) ∙ run.lines;
      service = ap (λ s. service_after s (drop (at + 1) steps)) service ∙ sym (ap (service_after now) rest) ∙ run.service;
    }
  where
    add_one : (k : ℕ) → suc k ≡ k + 1
    add_one k = omega arith

pub record IsRun (first : Service) (steps : List FlStep) (now : Service) (so_far : List FlLine) : Type 0 where
  pub lines : so_far ≡ lines_after first steps
  pub service : now ≡ service_after first steps

pub running_end : (first now : Service) (steps : List FlStep) (at : ℕ) (so_far : List FlLine) → IsRunning first steps at now so_far → length steps ≤ at → IsRun first steps now so_far
running_end first now steps at so_far run past =
    let none : drop at steps ≡ [] = drop_all at steps past in
    record { lines = sym (append-nil so_far) ∙ sym (ap (λ xs. so_far ++ lines_after now xs) none) ∙ run.lines; service = sym (ap (service_after now) none) ∙ run.service }

-- at the start

pub fresh_length : (e : EpochList) (n : ℕ) → length (fresh_upto e n) ≡ n
fresh_length e zero = refl
fresh_length e (suc n) = length_push (fresh_upto e n) (fresh e n) ∙ ap (λ k. k + 1) (fresh_length e n) ∙ omega arith

pub fresh_at : (e : EpochList) (n m : ℕ) (member : Member) → slice_get (fresh_upto e n) m ≡ Some member → member ≡ fresh e m
fresh_at e zero m member is = absurd (let f : None ≡ Some member = is in cc)
fresh_at e (suc n) m member is = elim (slice_get_push_cases (fresh_upto e n) (fresh e n) member m is) [
  | inl old ↦ fresh_at e n m member old
  | inr last ↦ sym last.1 ∙ ap (fresh e) (sym (last.0 ∙ fresh_length e n))
]

pub start_served : (round maintainers : ℕ) → 1 ≤ round → round ≤ ROUND → 1 ≤ maintainers → maintainers ≤ MEMBERS → IsServing (start round maintainers) 0
start_served round maintainers some short one few =
    let e : EpochList = record { round = round; list = record { start = 1; members = maintainers } ∷ [] } in
    record {
      epochs = first_epoch_list round maintainers some short one few;
      start = omega arith;
      members = fresh_length e maintainers;
      each = λ m member at. subst (IsSoundMember (start round maintainers) m) (sym (fresh_at e maintainers m member at)) (record { number = refl; epochs = refl; below = λ p full. absurd (omega (arith, full)); waits = omega arith; vector = prefix_refl e });
      count = omega arith;
      top = omega arith;
    }
