-- Where stages stand for a log, a maintainer may collect; and what floor and collection leave is the stage world's turn.
use Rattle.std.proofs.Common.{◌≡◌, ℕ, ◌-◌, ◌<◌, true, nat_lt, List, [], ◌∷◌, ◌++◌, length, map, set, get_or, refl, ap, ap₂, sym, subst, inl, inr, arith}
use Rattle.std.specs.List.{All, fold}
use Rattle.std.proofs.lemmas.Bool.{cases_lt, lt-ltb, le-ltb, false≢true}
use Rattle.std.proofs.lemmas.List.{append-nil, length-append, set-get_or}
use Rattle.std.proofs.lemmas.List.Elements.{All-get_or}
use Rattle.causal_deps.specs.declared.record.Kind.{Kind}
use Rattle.causal_deps.specs.declared.record.Kind.TheVariants.{Append, Put, Del}
use Rattle.causal_deps.specs.Kinds.{is_put, is_update}
use Rattle.causal_deps.specs.declared.record.Place.{Place}
use Rattle.causal_deps.specs.declared.record.Record.{Record}
use Rattle.abstract_log.specs.declared.world.World.{World}
use Rattle.abstract_log.specs.Worlds.{log_of}
use Rattle.log_laws.specs.Lawful.{IsLawful}
use Rattle.log_laws.specs.Records.{IsValid}
use Rattle.log_laws.proofs.Places.{All-at_place}
use Rattle.maintainer.specs.declared.slot.Slot.{Slot}
use Rattle.maintainer.specs.Maintainers.{IsEntryOf, MaintainerState, collected, plain}
use Rattle.stage_world.specs.Stages.{Datacentre, maintainer_at, no_indexer, no_maintainer}
use Rattle.stage_world.specs.StandsFor.{StandsAt}
use Rattle.stage_world.specs.MoreTurns.{collect_turn, entries_to_go, floor_raised, place_of_entry}
use Rattle.stage_world.specs.Idle.{TellsChange, apart_from_epochs}
use Rattle.stage_turns.specs.Changing.{has_some}
use Rattle.stage_turns.specs.Collecting.{MayCollect, lid_at}
use Rattle.stage_turns.proofs.ChangeLemmas.{tells_other, tells_same}

-- a put has one tag
one_key : (kind : Kind) (tags : List (List ℕ)) → (is_update kind ≡ true → (name : List ℕ) × (tags ≡ name ∷ [])) → is_put kind ≡ true → length tags ≡ 1
one_key Append tags key is = absurd (false≢true is)
one_key Put tags key is = ap (λ ts. length ts) (key refl).1
one_key Del tags key is = absurd (false≢true is)

pub may_collect_at : (w : World) (d : ℕ) (z : Datacentre) (m : ℕ) → m < length z.maintainers → IsLawful w → StandsAt w d z → MayCollect (length z.table) z.indexers (maintainer_at z.maintainers m).entries
may_collect_at w d z m within lawful h =
    let entries : All (IsEntryOf (log_of w d)) (maintainer_at z.maintainers m).entries = All-get_or (λ (x : MaintainerState Record). All (IsEntryOf (log_of w d)) x.entries) z.maintainers m no_maintainer within h.positions.placed.entries in
    record {
      records = λ k e inside.
          let slot : Slot Record = get_or (maintainer_at z.maintainers m).entries k e in
          let valid : IsValid w.workload.dcs slot.value = All-at_place (IsValid w.workload.dcs) (log_of w d) (slot.lid - 1) slot.value (lawful.valid d) (entries k e inside).stands in
          record { host = omega (arith, valid.host, h.knowledge.aware.square.rows); key = one_key slot.value.kind slot.value.tags valid.key };
      homes = record {
        some = h.membership.members.ranges.indexers.0;
        few = h.membership.members.ranges.indexers.1;
        each = λ i inside. (h.coverage.numbered i inside, (h.coverage.indexers i no_indexer inside).1.members);
      };
    }

-- collecting does not speak of spare places
pub plain_collected_all : (x : MaintainerState Record) (ps : List ℕ) → plain (fold collected x ps) ≡ fold collected (plain x) ps
plain_collected_all x [] = refl
plain_collected_all x (p ∷ ps) = plain_collected_all (collected x p) ps

-- what maintainer m keeps once these are let go, and the places that are kept
abbrev after_going : Datacentre → ℕ → List (Slot Record) → Datacentre
after_going z m es = record z { maintainers = set z.maintainers m (fold collected (maintainer_at z.maintainers m) (map lid_at es)); collected = z.collected ++ map place_of_entry es }

going_tells : (z : Datacentre) (m : ℕ) (es : List (Slot Record)) → TellsChange (has_some es) z (after_going z m es)
going_tells z m [] = tells_same (apart_from_epochs z) (apart_from_epochs (after_going z m []))
    (ap₂ (λ ms (ps : List Place). apart_from_epochs (record z { maintainers = ms; collected = ps })) (sym (set-get_or z.maintainers m no_maintainer)) (sym (append-nil z.collected)))
going_tells z m (e ∷ es) = tells_other (apart_from_epochs z) (apart_from_epochs (after_going z m (e ∷ es)))
    (λ alike. absurd (omega (arith, ap (λ (y : Datacentre). length y.collected) alike, length-append z.collected (map place_of_entry (e ∷ es)))))

pub collect_tells : (d : ℕ) (z : Datacentre) (m : ℕ) → TellsChange (has_some (entries_to_go z m)) z (collect_turn d z m).after
collect_tells d z m = going_tells z m (entries_to_go z m)

pub floor_tells : (z : Datacentre) (p : ℕ) → TellsChange (nat_lt z.floor (floor_raised z p).floor) z (floor_raised z p)
floor_tells z p = elim (cases_lt z.floor (floor_raised z p).floor) [
  | inl higher ↦ subst (λ b. TellsChange b z (floor_raised z p)) (sym (lt-ltb z.floor (floor_raised z p).floor higher))
      (tells_other (apart_from_epochs z) (apart_from_epochs (floor_raised z p)) (λ alike. absurd (omega (arith, higher, ap (λ (y : Datacentre). y.floor) alike))))
  | inr same ↦ subst (λ b. TellsChange b z (floor_raised z p)) (sym (le-ltb z.floor (floor_raised z p).floor same))
      (tells_same (apart_from_epochs z) (apart_from_epochs (floor_raised z p)) (ap (λ n. record (apart_from_epochs z) { floor = n }) (omega (arith, same))))
]
