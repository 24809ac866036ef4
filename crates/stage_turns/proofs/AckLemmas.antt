-- Sessions by number, and one that gets its place.
use Rattle.std.proofs.Common.{◌≡◌, ℕ, suc, ◌+◌, ◌<◌, ◌≤◌, ◌^◌, max, Bool, cond, eqb, ltb, not, ◌&&◌, true, false, List, [], ◌∷◌, length, set, get_or, drop, refl, ap, ap₂, sym, subst, ◌∙◌, arith, Some, None}
use Rattle.std.specs.List.{All, AllPairs, fold, sum_by, position, position_or_len}
use Rattle.std.proofs.lemmas.Bool.{eqb-true, eq-eqb, ne_eqb, ltb-true, ltb-false, false≢true}
use Rattle.std.proofs.lemmas.List.{drop_more, length-set, set_past}
use Rattle.std.proofs.lemmas.List.Sums.{sum_by-cons, passes_at_first}
use Rattle.std.proofs.lemmas.List.Elements.{All-head, All-tail, All-weaker}
use Rattle.causal_deps.specs.declared.record.Place.{Place}
use Rattle.abstract_log.specs.Worlds.{nowhere}
use Rattle.token_queue.specs.declared.entry.Stamp.{Stamp}
use Rattle.stage_world.specs.Stages.{Session}
use Rattle.stage_world.specs.Turns.{at_session}
use Rattle.stage_world.specs.StandsFor.{numbers_of}
use Rattle.stage_world.proofs.SessionLemmas.{All-at_session, numbers-at_session}
use Rattle.stage_turns.specs.Stamping.{CanAck, acked, acked_by, is_ack_of}

abbrev has_number : ℕ → Session → Bool
has_number s x = eqb x.number s

-- what stands for a session that there is not
nobody : Session
nobody = record { number = 0; commands = []; standing = nowhere; pin = None; found = [] }

abbrev Rise : List ℕ → Type 0
Rise ns = AllPairs (λ a b. a < b) ns

rise_tail : (n : ℕ) (ns : List ℕ) → Rise (n ∷ ns) → Rise ns
rise_tail n ns h i j d less inside = h (suc i) (suc j) d (omega arith) (omega arith)

-- no later session has the number of the first
others_differ : (x : Session) (xs : List Session) → Rise (numbers_of (x ∷ xs)) → All (λ n. x.number < n) (numbers_of xs)
others_differ x xs h k d inside = h 0 (suc k) d (omega arith) (omega arith)

-- a change by a number that none has
pub none_changed : (s : ℕ) (f : Session → Session) (xs : List Session) → All (λ n. s < n) (numbers_of xs) → at_session s f xs ≡ xs
none_changed s f [] h = refl
none_changed s f (x ∷ xs) h =
    let above : s < x.number = All-head (λ n. s < n) x.number (numbers_of xs) h in
    ap₂ (λ (y : Session) ys. y ∷ ys) (ap (λ b. cond b (f x) x) (ne_eqb x.number s (λ same. absurd (omega (arith, above, same)))))
    (none_changed s f xs (All-tail (λ n. s < n) x.number (numbers_of xs) h))

-- The session with the number is the first that has it.
pub set_at_session : (s : ℕ) (f : Session → Session) (xs : List Session) (d : Session) → Rise (numbers_of xs)
    → set xs (position_or_len (has_number s) xs) (f (get_or xs (position_or_len (has_number s) xs) d)) ≡ at_session s f xs
set_at_session s f [] d h = refl
set_at_session s f (x ∷ xs) d h = at (eqb x.number s) refl (set_at_session s f xs d (rise_tail x.number (numbers_of xs) h))
  where
    at : (b : Bool) → eqb x.number s ≡ b → set xs (position_or_len (has_number s) xs) (f (get_or xs (position_or_len (has_number s) xs) d)) ≡ at_session s f xs
        → set (x ∷ xs) (cond (not b) (1 + position_or_len (has_number s) xs) 0) (f (get_or (x ∷ xs) (cond (not b) (1 + position_or_len (has_number s) xs) 0) d)) ≡ cond b (f x) x ∷ at_session s f xs
    at true is ih =
        ap (λ ys. f x ∷ ys) (sym (none_changed s f xs (subst (λ n. All (λ m. n < m) (numbers_of xs)) (eqb-true x.number s is) (others_differ x xs h))))
    at false is ih =
        let next : 1 + position_or_len (has_number s) xs ≡ suc (position_or_len (has_number s) xs) = omega arith in
        ap (λ k. set (x ∷ xs) k (f (get_or (x ∷ xs) k d))) next ∙ ap (λ ys. x ∷ ys) ih

-- where the first that has the number stands
pub position_some : {X : Type 0} (test : X → Bool) (xs : List X) (i : ℕ) → Some i ≡ position test xs → (i ≡ position_or_len test xs) × (i < length xs)
position_some test xs i = at (ltb (position_or_len test xs) (length xs)) refl
  where
    at : (b : Bool) → ltb (position_or_len test xs) (length xs) ≡ b → Some i ≡ cond b (Some (position_or_len test xs)) None → (i ≡ position_or_len test xs) × (i < length xs)
    at true is h = let same : i ≡ position_or_len test xs = cc in (same, omega (arith, same, ltb-true (position_or_len test xs) (length xs) is))
    at false is h = absurd (cc)

pub position_none : {X : Type 0} (test : X → Bool) (xs : List X) → None ≡ position test xs → length xs ≤ position_or_len test xs
position_none test xs = at (ltb (position_or_len test xs) (length xs)) refl
  where
    at : (b : Bool) → ltb (position_or_len test xs) (length xs) ≡ b → None ≡ cond b (Some (position_or_len test xs)) None → length xs ≤ position_or_len test xs
    at true is h = absurd (cc)
    at false is h = ltb-false (position_or_len test xs) (length xs) is

-- where the test that they differ is false
pub same_host : (h d : ℕ) → false ≡ not (eqb h d) → h ≡ d
same_host h d is = eqb-true h d (at (eqb h d) is)
  where
    at : (b : Bool) → false ≡ not b → b ≡ true
    at true told = refl
    at false told = absurd (false≢true told)

acked_here : (d : ℕ) (stamp : Stamp) (xs : List Session) → stamp.place.host ≡ d → acked_by d xs stamp ≡ at_session stamp.session (acked stamp.place) xs
acked_here d stamp xs host = ap (λ b. cond b (at_session stamp.session (acked stamp.place) xs) xs) (eq-eqb stamp.place.host d host)

-- One stamp goes to its session.
pub ack_at : (d : ℕ) (stamp : Stamp) (xs : List Session) (i : ℕ) (x y : Session) → stamp.place.host ≡ d → CanAck d (stamp ∷ []) xs → Some i ≡ position (has_number stamp.session) xs → x ≡ get_or xs i x → y ≡ acked stamp.place x
    → set xs i y ≡ acked_by d xs stamp
ack_at d stamp xs i x y host can found here new =
    let s : ℕ = stamp.session in
    let p : Place = stamp.place in
    ap (set xs i) (new ∙ ap (acked p) here)
    ∙ ap (λ k. set xs k (acked p (get_or xs k x))) (position_some (has_number s) xs i found).0
    ∙ set_at_session s (acked p) xs x can.ordered
    ∙ sym (acked_here d stamp xs host)

pub ack_nowhere : (d : ℕ) (stamp : Stamp) (xs : List Session) → stamp.place.host ≡ d → CanAck d (stamp ∷ []) xs → None ≡ position (has_number stamp.session) xs → xs ≡ acked_by d xs stamp
ack_nowhere d stamp xs host can none =
    let s : ℕ = stamp.session in
    let p : Place = stamp.place in
    sym (set_past xs (position_or_len (has_number s) xs) (acked p (get_or xs (position_or_len (has_number s) xs) nobody)) (position_none (has_number s) xs none))
    ∙ set_at_session s (acked p) xs nobody can.ordered
    ∙ sym (acked_here d stamp xs host)

-- what is asked of the session that gets the place
pub record MayAck (d : ℕ) (x : Session) : Type 0 where
  pub past : d < length x.standing.past
  pub few : x.standing.answered + 1 < 2 ^ 32

pub may_ack : (d : ℕ) (stamp : Stamp) (xs : List Session) (i : ℕ) (x : Session) → stamp.place.host ≡ d → CanAck d (stamp ∷ []) xs → Some i ≡ position (has_number stamp.session) xs → x ≡ get_or xs i x → MayAck d x
may_ack d stamp xs i x host can found here =
    let at = position_some (has_number stamp.session) xs i found in
    let number : x.number ≡ stamp.session =
    eqb-true x.number stamp.session (ap (has_number stamp.session) (here ∙ ap (λ k. get_or xs k x) at.0) ∙ passes_at_first (has_number stamp.session) xs x (omega (arith, at.0, at.1))) in
    let one : is_ack_of d x.number stamp ≡ 1 =
    ap₂ (λ a b. cond (a && b) 1 0) (eq-eqb stamp.place.host d host) (eq-eqb stamp.session x.number (sym number)) in
    let few = subst (λ (y : Session). y.standing.answered + sum_by (is_ack_of d y.number) (stamp ∷ []) < 2 ^ 32) (sym here) (can.few i x at.1) in
    record {
      past = subst (λ (y : Session). d < length y.standing.past) (sym here) (can.pasts i x at.1);
      few = omega (arith, few, one, sum_by-cons (is_ack_of d x.number) stamp []);
    }

-- the first stamp can go
pub can_first : (d : ℕ) (stamp : Stamp) (rest : List Stamp) (xs : List Session) → CanAck d (stamp ∷ rest) xs → CanAck d (stamp ∷ []) xs
can_first d stamp rest xs can = record {
  ordered = can.ordered;
  pasts = can.pasts;
  few = All-weaker (λ (x : Session). x.standing.answered + sum_by (is_ack_of d x.number) (stamp ∷ rest) < 2 ^ 32) (λ (x : Session). x.standing.answered + sum_by (is_ack_of d x.number) (stamp ∷ []) < 2 ^ 32)
      (λ x has. omega (arith, has, sum_by-cons (is_ack_of d x.number) stamp rest, sum_by-cons (is_ack_of d x.number) stamp [])) xs can.few;
}

-- and then the rest
pub can_rest : (d : ℕ) (stamp : Stamp) (rest : List Stamp) (xs : List Session) → CanAck d (stamp ∷ rest) xs → CanAck d rest (acked_by d xs stamp)
can_rest d stamp rest xs can = at (eqb stamp.place.host d) refl
  where
    Few : List Stamp → Session → Type 0
    Few stamps x = x.standing.answered + sum_by (is_ack_of d x.number) stamps < 2 ^ 32

    less : (x : Session) → Few (stamp ∷ rest) x → Few rest x
    less x has = omega (arith, has, sum_by-cons (is_ack_of d x.number) stamp rest)

    one_less : eqb stamp.place.host d ≡ true → (x : Session) → Few (stamp ∷ rest) x → x.number ≡ stamp.session → Few rest (acked stamp.place x)
    one_less here x has number =
        let one : is_ack_of d x.number stamp ≡ 1 = ap₂ (λ a b. cond (a && b) 1 0) here (eq-eqb stamp.session x.number (sym number)) in
        omega (arith, has, one, sum_by-cons (is_ack_of d x.number) stamp rest)

    at : (b : Bool) → eqb stamp.place.host d ≡ b → CanAck d rest (cond b (at_session stamp.session (acked stamp.place) xs) xs)
    at true is = record {
      ordered = subst Rise (sym (numbers-at_session stamp.session (acked stamp.place) xs (λ x. refl))) can.ordered;
      pasts = All-at_session (λ (x : Session). d < length x.standing.past) (λ (x : Session). d < length x.standing.past) stamp.session (acked stamp.place) xs
          (λ x has number. omega (arith, has, length-set x.standing.past stamp.place.host (max (get_or x.standing.past stamp.place.host 0) stamp.place.toid))) (λ x has other. has) can.pasts;
      few = All-at_session (Few (stamp ∷ rest)) (Few rest) stamp.session (acked stamp.place) xs (one_less is) (λ x has other. less x has) can.few;
    }
    at false is = record { ordered = can.ordered; pasts = can.pasts; few = All-weaker (Few (stamp ∷ rest)) (Few rest) less xs can.few }

-- a loop over the stamps
pub can_at : (d : ℕ) (stamps : List Stamp) (i : ℕ) (stamp : Stamp) (xs : List Session) → i < length stamps → stamp ≡ get_or stamps i stamp → CanAck d (drop i stamps) xs → CanAck d (stamp ∷ drop (i + 1) stamps) xs
can_at d stamps i stamp xs inside is can =
    subst (λ ss. CanAck d ss xs) (drop_more stamps i stamp inside ∙ ap (λ s. s ∷ drop (i + 1) stamps) (sym is)) can

pub fold_at : (d : ℕ) (stamps : List Stamp) (i : ℕ) (stamp : Stamp) (xs ys : List Session) → i < length stamps → stamp ≡ get_or stamps i stamp → ys ≡ acked_by d xs stamp
    → fold (acked_by d) ys (drop (i + 1) stamps) ≡ fold (acked_by d) xs (drop i stamps)
fold_at d stamps i stamp xs ys inside is acks =
    ap (λ zs. fold (acked_by d) zs (drop (i + 1) stamps)) acks
    ∙ sym (ap (fold (acked_by d) xs) (drop_more stamps i stamp inside ∙ ap (λ s. s ∷ drop (i + 1) stamps) (sym is)))

pub can_next : (d : ℕ) (stamps : List Stamp) (i : ℕ) (stamp : Stamp) (xs ys : List Session) → i < length stamps → stamp ≡ get_or stamps i stamp → ys ≡ acked_by d xs stamp → CanAck d (drop i stamps) xs → CanAck d (drop (i + 1) stamps) ys
can_next d stamps i stamp xs ys inside is acks can =
    subst (CanAck d (drop (i + 1) stamps)) (sym acks) (can_rest d stamp (drop (i + 1) stamps) xs (can_at d stamps i stamp xs inside is can))
