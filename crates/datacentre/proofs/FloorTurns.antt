-- Floor and collection at a whole datacentre: what the lent stages leave is what the stage world's turn leaves.
use Rattle.std.proofs.Common.{Result, Ok, Err, IfOk, OnOk, ◌≡◌, ℕ, ◌<◌, ◌≤◌, min, max, Bool, true, false, cond, ltb, eqb, nat_lt, find, List, [], ◌∷◌, ◌++◌, length, map, set, get_or, Option, Some, None, refl, ap, ap₂, sym, ◌∙◌, subst, arith}
use Rattle.std.specs.List.{All, cons_option, fold}
use Rattle.std.specs.Option.{option_and_then}
use Rattle.std.proofs.lemmas.Bool.{lt-ltb}
use Rattle.std.proofs.lemmas.List.{get_or_default, map-set}
use Rattle.std.proofs.lemmas.List.Elements.{All-head, All-tail}
use Rattle.causal_deps.specs.declared.record.Record.{Record}
use Rattle.causal_deps.specs.declared.record.Place.{Place}
use Rattle.abstract_log.specs.declared.event.Event.TheVariants.{Collect}
use Rattle.abstract_log.specs.declared.script.Outcome.TheVariants.{FloorAt}
use Rattle.flstore_rounds.specs.Heads.{Pair, blank, head}
use Rattle.log_gc.specs.Floors.{Floored, lowest, pin_of}
use Rattle.log_gc.proofs.PinLemmas.{lowest_bound, lowest_greatest, lowest_pin}
use Rattle.maintainer.specs.Maintainers.{MaintainerState, collected, plain}
use Rattle.stage_world.specs.Stages.{Datacentre, Session, maintainer_at, no_epochs, vector_at}
use Rattle.stage_world.specs.Turns.{Turned, where_there}
use Rattle.stage_world.specs.MoreTurns.{collect_turn, collected_outcome, entries_to_go, floor_raised, floor_turn, least_with, pins_of, place_of_entry}
use Rattle.stage_world.proofs.FloorTurn.{least-le, pins_least}
use Rattle.stage_turns.specs.declared.done.TurnDone.{TurnDone}
use Rattle.stage_turns.specs.Changing.{has_some}
use Rattle.stage_turns.specs.Collecting.{MayCollect, covered_by, lid_at, risen, to_go}
use Rattle.stage_turns.proofs.CollectTurns.{collect_tells, floor_tells, may_collect_at, plain_collected_all}
use Rattle.datacentre.specs.declared.parts.Parts.{Parts}
use Rattle.datacentre.specs.Seen.{pin_in, seen}
use Rattle.datacentre.specs.Turning.{IsTurned, MayTurn}
use Rattle.datacentre.proofs.PinLemmas.{pins_held}
use Rattle.datacentre.proofs.WholeTurns.{as_many, first_there, lent_is, maintainer_lent, there, told_of}

-- four clauses of one result, and five of which two are of what is lent
pub if_four : {T E : Type 0} (r : Result T E) (A : Type 0) (P Q R S : T → Type 0) → OnOk r A → IfOk r P → IfOk r Q → IfOk r R → ((x : T) → A → P x → Q x → R x → S x) → IfOk r S
if_four (Ok x) A P Q R S a p q t f = f x a p q t
if_four (Err e) A P Q R S a p q t f = tt

-- least of pins, as the sessions have them and as they are held

at_most_pins : (m n : ℕ) (x : Session) (xs : List Session) (o : Option ℕ) → x.pin ≡ o → ((s : ℕ) → x.pin ≡ Some s → m ≤ s) → m ≤ n → ((k : ℕ) → m ≤ k → m ≤ least_with k (pins_of xs)) → m ≤ least_with n (cons_option o (pins_of xs))
at_most_pins m n x xs None is first low later = later n low
at_most_pins m n x xs (Some t) is first low later = later (min n t) (omega (arith, low, first t is))

pins_greatest : (m n : ℕ) (xs : List Session) → m ≤ n → All (λ x. (s : ℕ) → x.pin ≡ Some s → m ≤ s) xs → m ≤ least_with n (pins_of xs)
pins_greatest m n [] low each = low
pins_greatest m n (x ∷ xs) low each = at_most_pins m n x xs x.pin refl (All-head (λ (y : Session). (s : ℕ) → y.pin ≡ Some s → m ≤ s) x xs each) low
    (λ k small. pins_greatest m k xs small (All-tail (λ (y : Session). (s : ℕ) → y.pin ≡ Some s → m ≤ s) x xs each))

-- a pin of one of them is at least the least
pin_there : (m n : ℕ) (x : Session) (xs : List Session) (t : Bool) → ((s : ℕ) → x.pin ≡ Some s → m ≤ s) → ((p : ℕ) → pin_in xs n ≡ Some p → m ≤ p)
    → (p : ℕ) → option_and_then (λ (y : Session). y.pin) (cond t (Some x) (find (λ (y : Session). eqb y.number n) xs)) ≡ Some p → m ≤ p
pin_there m n x xs true first later p is = first p is
pin_there m n x xs false first later p is = later p is

pins_at_least : (m n : ℕ) (xs : List Session) → All (λ x. (s : ℕ) → x.pin ≡ Some s → m ≤ s) xs → (p : ℕ) → pin_in xs n ≡ Some p → m ≤ p
pins_at_least m n [] each p is = absurd (cc)
pins_at_least m n (x ∷ xs) each p is = pin_there m n x xs (eqb x.number n) (All-head (λ (y : Session). (s : ℕ) → y.pin ≡ Some s → m ≤ s) x xs each)
    (pins_at_least m n xs (All-tail (λ (y : Session). (s : ℕ) → y.pin ≡ Some s → m ≤ s) x xs each)) p is

same_least : (g : Floored) (xs : List Session) (n : ℕ) → ((i : ℕ) (x : Session) → i < length xs → get_or xs i x ≡ x → pin_of g x.number ≡ x.pin) → ((k : ℕ) → pin_of g k ≡ pin_in xs k) → lowest n g.pins ≡ least_with n (pins_of xs)
same_least g xs n held pins =
    let under : lowest n g.pins ≤ least_with n (pins_of xs) = pins_greatest (lowest n g.pins) n xs (lowest_bound n g.pins)
    (λ k d inside s is.
    let x : Session = get_or xs k d in
    lowest_pin n x.number s g.pins (held k x inside (get_or_default xs k x d inside) ∙ is)) in
    let over : least_with n (pins_of xs) ≤ lowest n g.pins = lowest_greatest (least_with n (pins_of xs)) n g.pins (least-le n (pins_of xs))
    (λ session s at. pins_at_least (least_with n (pins_of xs)) session xs (pins_least n xs) s (sym (pins session) ∙ at)) in
    omega (arith, under, over)

-- a bound of all is one of the first

fold_min_of : (a b : ℕ) (xs : List ℕ) → min a (fold min b xs) ≡ fold min (min a b) xs
fold_min_of a b [] = refl
fold_min_of a b (x ∷ xs) = fold_min_of a (min b x) xs ∙ ap (λ n. fold min n xs) (omega arith)

least_again : (p top : ℕ) (xs : List ℕ) → min (min p top) (fold min top xs) ≡ least_with (min p top) xs
least_again p top xs = fold_min_of (min p top) top xs ∙ ap (λ n. fold min n xs) (omega arith)

-- the floor that it rises to is the stage world's
floor_is : (p : Parts) (v : Pair) (to : ℕ) → MayTurn p → v ≡ vector_at p.vectors 0 → risen p.floor to (head v) (covered_by p.indexers) ≡ (floor_raised (seen p) to).floor
floor_is p v to may is =
    ap (λ (x : Pair). risen p.floor to (head x) (covered_by p.indexers)) is
    ∙ ap (λ n. max p.floor.floor (lowest n p.floor.pins)) (least_again to (head (vector_at p.vectors 0)) (covered_by p.indexers))
    ∙ ap (λ n. max p.floor.floor n) (same_least p.floor p.sessions (least_with (min to (head (vector_at p.vectors 0))) (covered_by p.indexers)) (pins_held p.sessions p.floor may.log.stands.clients.ordered may.whole.pins) may.whole.pins)

pub raise_is : (p : Parts) (v : Pair) (to : ℕ) (g : Floored) (done : TurnDone) → MayTurn p → v ≡ get_or p.vectors 0 v
    → g ≡ record p.floor { floor = risen p.floor to (head v) (covered_by p.indexers) } → done.outcome ≡ FloorAt g.floor → done.events ≡ [] → done.changed ≡ nat_lt p.floor.floor g.floor
    → IsTurned p (record p { floor = g }) done (floor_turn (seen p) to)
raise_is p v to g done may is new outcome events changed =
    let z : Datacentre = seen p in
    let up : g.floor ≡ (floor_raised z to).floor = ap (λ (x : Floored). x.floor) new ∙ floor_is p v to may (lent_is p.vectors 0 v (blank no_epochs) is (first_there p may)) in
    record {
      stages = ap (λ n. record z { floor = n }) up;
      here = refl;
      whole = record { token = may.whole.token; table = may.whole.table; senders = may.whole.senders; pins = λ n. ap (λ (x : Floored). pin_of x n) new ∙ may.whole.pins n; many = ap (λ (x : Floored). length x.pins) new ∙ may.whole.many };
      outcome = outcome ∙ ap (λ n. FloorAt n) up;
      events = events;
      changed = told_of z (floor_raised z to) done.changed (nat_lt z.floor (floor_raised z to).floor) (changed ∙ ap (nat_lt p.floor.floor) up) (floor_tells z to);
    }

-- collect

pub collect_may : (p : Parts) (m : ℕ) (x : MaintainerState Record) → MayTurn p → m < length p.maintainers → x ≡ get_or p.maintainers m x → MayCollect (length p.table.table) p.indexers x.entries
collect_may p m x may within is =
    subst (λ (y : MaintainerState Record). MayCollect (length p.table.table) p.indexers y.entries) (sym (maintainer_lent p m x within is))
    (may_collect_at may.log.world p.dc (seen p) m (omega (arith, within, as_many p)) may.log.lawful may.log.stands)

pub collect_is : (p : Parts) (m : ℕ) (x x' : MaintainerState Record) (places : List Place) (done : TurnDone) → MayTurn p → m < length p.maintainers → x ≡ get_or p.maintainers m x
    → x' ≡ fold collected x (map lid_at (to_go p.floor.floor p.table.table p.indexers x.entries)) → places ≡ p.collected ++ map place_of_entry (to_go p.floor.floor p.table.table p.indexers x.entries)
    → done.outcome ≡ collected_outcome (map lid_at (to_go p.floor.floor p.table.table p.indexers x.entries)) → done.events ≡ map (Collect p.dc) (map lid_at (to_go p.floor.floor p.table.table p.indexers x.entries))
    → done.changed ≡ has_some (to_go p.floor.floor p.table.table p.indexers x.entries)
    → IsTurned p (record p { maintainers = set p.maintainers m x'; collected = places }) done (where_there (ltb m (length p.maintainers)) (seen p) (collect_turn p.dc (seen p) m))
collect_is p m x x' places done may within is new names outcome events changed =
    let z : Datacentre = seen p in
    let turned : Turned = collect_turn p.dc z m in
    let at : plain x ≡ maintainer_at z.maintainers m = maintainer_lent p m x within is in
    let gone : to_go p.floor.floor p.table.table p.indexers x.entries ≡ entries_to_go z m = ap (λ (y : MaintainerState Record). to_go p.floor.floor p.table.table p.indexers y.entries) at in
    let kept : plain x' ≡ fold collected (maintainer_at z.maintainers m) (map lid_at (entries_to_go z m)) =
    ap plain new ∙ plain_collected_all x (map lid_at (to_go p.floor.floor p.table.table p.indexers x.entries)) ∙ ap₂ (λ y es. fold collected y (map lid_at es)) at gone in
    there p (record p { maintainers = set p.maintainers m x'; collected = places }) done (ltb m (length p.maintainers)) turned (lt-ltb m (length p.maintainers) within) (record {
      stages = ap₂ (λ ms ps. record z { maintainers = ms; collected = ps }) (map-set (λ (y : MaintainerState Record). plain y) p.maintainers m x' ∙ ap (set z.maintainers m) kept)
          (names ∙ ap (λ es. p.collected ++ map place_of_entry es) gone);
      here = refl;
      whole = record { token = may.whole.token; table = may.whole.table; senders = may.whole.senders; pins = may.whole.pins; many = may.whole.many };
      outcome = outcome ∙ ap (λ es. collected_outcome (map lid_at es)) gone;
      events = events ∙ ap (λ es. map (Collect p.dc) (map lid_at es)) gone;
      changed = told_of z turned.after done.changed (has_some (entries_to_go z m)) (changed ∙ ap (λ es. has_some es) gone) (collect_tells p.dc z m);
    })
