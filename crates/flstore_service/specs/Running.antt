-- What each step does and answers, and the run of a script.
use Rattle.std.specs.Prelude.{ℕ, zero, suc, ◌+◌, max, if◌then◌else◌, nat_lt, nat_le, List, [], ◌∷◌, ◌++◌, length, map, Option, Some, None, slice_get, slice_set, fold}
use Rattle.std.specs.Map.{values_of}
use Rattle.std.specs.BTreeMap.{insert_entry}
use Rattle.std.specs.Ordering.{nat_cmp}
use Rattle.flstore_rounds.specs.Epochs.{EpochList, last_epoch, owner, with_epoch}
use Rattle.flstore_rounds.specs.Heads.{Pair, blank, head, joined, with_own}
use Rattle.maintainer.specs.declared.slot.Slot.{Slot}
use Rattle.maintainer.specs.Maintainers.{empty, learned, mark_of, value_at}
use Rattle.post_assignment.specs.declared.wait_list.Waiting.{Waiting}
use Rattle.post_assignment.specs.Appending.{appended, kept, next_lid}
use Rattle.flstore_service.specs.declared.run.FlKept.{FlKept}
use Rattle.flstore_service.specs.declared.run.FlLine.{FlLine}
use Rattle.flstore_service.specs.declared.run.FlOutcome.{FlOutcome}
use Rattle.flstore_service.specs.declared.run.FlOutcome.TheVariants.{Absent, Placed, Kept, Heard, HeadAt, Beyond, Value, Late, EpochAdded}
use Rattle.flstore_service.specs.declared.run.FlPlace.{FlPlace}
use Rattle.flstore_service.specs.declared.run.FlRun.{FlRun}
use Rattle.flstore_service.specs.declared.script.FlScript.{FlScript}
use Rattle.flstore_service.specs.declared.script.FlStep.{FlStep}
use Rattle.flstore_service.specs.declared.script.FlStep.TheVariants as step
use Rattle.flstore_service.specs.declared.service.Member.{Member}
use Rattle.flstore_service.specs.declared.service.Service.{Service}
use Rattle.flstore_service.specs.declared.service.Submission.{Submission}

-- the service after a step, and what the step answers
pub record StepDone : Type 0 where
  pub service : Service
  pub outcome : FlOutcome

abbrev pub quiet : Service → FlOutcome → StepDone
quiet s outcome = record { service = s; outcome = outcome }

-- a maintainer that is not there gives no answer but this
abbrev pub where_some : {A : Type 0} → Service → Option A → (A → StepDone) → StepDone
where_some s None go = quiet s Absent
where_some s (Some x) go = go x

-- a maintainer is another
abbrev pub with_member : Service → ℕ → Member → Service
with_member s m member = record s { members = slice_set s.members m member }

-- a value, with the next number
abbrev pub submission : Service → ℕ → List ℕ → Submission
submission s bound body = record { number = s.count + 1; bound = bound; body = body }

-- a value goes in at the next own position of a maintainer, and those that it releases after it
abbrev pub put_in : Service → ℕ → Member → ℕ → List ℕ → StepDone
put_in s m member bound body =
    let r = appended member.appender (submission s bound body) in
    let lid = next_lid member.appender.maintainer in
    record {
      service = record s { members = slice_set s.members m (record member { appender = r.state }); count = s.count + 1; top = fold max (max s.top lid) r.lids };
      outcome = Placed lid r.lids;
    }

-- a value waits for a maintainer
abbrev pub kept_at : Service → ℕ → Member → ℕ → List ℕ → StepDone
kept_at s m member bound body = record {
  service = record s { members = slice_set s.members m (record member { appender = kept member.appender bound (submission s bound body) }); count = s.count + 1 };
  outcome = Kept;
}

-- the vector, once it took what its maintainer has
abbrev pub own_vector : ℕ → Member → Pair
own_vector m member = with_own member.vector member.appender.maintainer.epochs m (mark_of member.appender.maintainer)

-- each step by its line
abbrev pub put_turn : Service → ℕ → List ℕ → StepDone
put_turn s m body = where_some s (slice_get s.members m) (λ member. put_in s m member 0 body)

abbrev pub after_turn : Service → ℕ → ℕ → List ℕ → StepDone
after_turn s m p body = where_some s (slice_get s.members m) (λ member. if nat_lt p (next_lid member.appender.maintainer) then put_in s m member p body else kept_at s m member p body)

abbrev pub owned : Service → ℕ → Member → Service
owned s m member = with_member s m (record member { vector = own_vector m member })

abbrev pub heard : Service → ℕ → Pair → StepDone
heard s k note = where_some s (slice_get s.members k) (λ hearer. quiet (with_member s k (record hearer { vector = joined hearer.vector note })) (Heard (head (joined hearer.vector note))))

abbrev pub gossip_turn : Service → ℕ → ℕ → StepDone
gossip_turn s m k = where_some s (slice_get s.members m) (λ teller. where_some s (slice_get s.members k) (λ _. heard (owned s m teller) k (own_vector m teller)))

abbrev pub head_turn : Service → ℕ → StepDone
head_turn s m = where_some s (slice_get s.members m) (λ member. quiet (owned s m member) (HeadAt (head (own_vector m member))))

-- what a maintainer shows at a position
abbrev pub shown : Option Submission → FlOutcome
shown None = Beyond
shown (Some value) = Value value.body

abbrev pub shown_by : Option Member → ℕ → FlOutcome
shown_by None p = Beyond
shown_by (Some keeper) p = shown (value_at p keeper.appender.maintainer.entries)

abbrev pub read_turn : Service → ℕ → ℕ → StepDone
read_turn s m p = where_some s (slice_get s.members m) (λ member. quiet s (if nat_lt (head member.vector) p then Beyond else shown_by (slice_get s.members (owner s.epochs p)) p))

-- the greatest of all positions given, and the last epoch's start
abbrev pub late_bound : Service → ℕ
late_bound s = max s.top (last_epoch s.epochs).start

abbrev pub next_epochs : Service → ℕ → EpochList
next_epochs s p = with_epoch s.epochs (record { start = p; members = length s.members + 1 })

-- a maintainer that has nothing
abbrev pub fresh : EpochList → ℕ → Member
fresh e number = record { appender = record { maintainer = empty number e; waiting = [] }; vector = blank e }

abbrev pub told_epochs : EpochList → Member → Member
told_epochs e member = record member { appender = record member.appender { maintainer = learned member.appender.maintainer e } }

abbrev pub grown : Service → ℕ → Service
grown s p = record s { epochs = next_epochs s p; members = map (told_epochs (next_epochs s p)) s.members ++ fresh (next_epochs s p) (length s.members) ∷ [] }

abbrev pub add_maintainer_turn : Service → ℕ → StepDone
add_maintainer_turn s p = if nat_le p (late_bound s) then quiet s (Late (late_bound s)) else quiet (grown s p) (EpochAdded p (length s.members + 1))

-- all steps
abbrev pub turn : Service → FlStep → StepDone
turn s (step.Put m body) = put_turn s m body
turn s (step.After m p body) = after_turn s m p body
turn s (step.Gossip m k) = gossip_turn s m k
turn s (step.Head m) = head_turn s m
turn s (step.Read m p) = read_turn s m p
turn s (step.AddMaintainer p) = add_maintainer_turn s p

-- what several steps leave, and their lines
abbrev pub service_after : Service → List FlStep → Service
service_after s [] = s
service_after s (x ∷ xs) = service_after (turn s x).service xs

abbrev pub lines_after : Service → List FlStep → List FlLine
lines_after s [] = []
lines_after s (x ∷ xs) = record { step = x; outcome = (turn s x).outcome } ∷ lines_after (turn s x).service xs

-- so many maintainers that have nothing
abbrev pub fresh_upto : EpochList → ℕ → List Member
fresh_upto e zero = []
fresh_upto e (suc n) = fresh_upto e n ++ fresh e n ∷ []

abbrev pub start : ℕ → ℕ → Service
start round maintainers =
    let e : EpochList = record { round = round; list = record { start = 1; members = maintainers } ∷ [] } in
    record { epochs = e; members = fresh_upto e maintainers; count = 0; top = 0 }

-- what stands, put in order by position
abbrev pub place_of : Slot Submission → FlPlace
place_of e = record { lid = e.lid; number = e.value.number; body = e.value.body }

abbrev pub put_place : List (ℕ × FlPlace) → Slot Submission → List (ℕ × FlPlace)
put_place places e = insert_entry nat_cmp places e.lid (place_of e)

abbrev pub put_places : List (ℕ × FlPlace) → Member → List (ℕ × FlPlace)
put_places places member = fold put_place places member.appender.maintainer.entries

abbrev pub places_of : Service → List FlPlace
places_of s = values_of (fold put_places [] s.members)

-- what waits, put in order by number
abbrev pub kept_of : ℕ → Waiting Submission → FlKept
kept_of m w = record { number = w.value.number; member = m; bound = w.bound }

abbrev pub put_kept : ℕ → List (ℕ × FlKept) → Waiting Submission → List (ℕ × FlKept)
put_kept m values w = insert_entry nat_cmp values w.value.number (kept_of m w)

abbrev pub put_all_kept : List (ℕ × FlKept) → Member → List (ℕ × FlKept)
put_all_kept values member = fold (put_kept member.appender.maintainer.number) values member.appender.waiting

abbrev pub all_kept : Service → List FlKept
all_kept s = values_of (fold put_all_kept [] s.members)

-- the run of a script
abbrev pub run_from : Service → List FlStep → FlRun
run_from s steps = record { lines = lines_after s steps; places = places_of (service_after s steps); kept = all_kept (service_after s steps) }

abbrev pub run_of : FlScript → FlRun
run_of script = run_from (start script.round script.maintainers) script.steps
