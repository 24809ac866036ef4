-- Each duty that there is stands once among all.
use Rattle.std.proofs.Common.{◌≡◌, ℕ, zero, suc, ◌+◌, ◌*◌, ◌≤◌, ◌==◌, cond, nat_le, List, [], ◌∷◌, ◌++◌, length, refl, ap, ◌∙◌, arith}
use Rattle.std.proofs.lemmas.Bool.Decides.{nat_tests}
use Rattle.abstract_log.specs.declared.command.Workload.{Workload}
use Rattle.journal_lock.specs.declared.duty.Duty.{Duty}
use Rattle.journal_lock.specs.declared.duty.Duty.TheVariants.{Token, Table, Batcher, Queue, Maintainer, Filter, Session, Draft}
use Rattle.journal_lock.specs.Duties.{number, has, members, duties_at, dc_duties, session_duties, all_duties}
use Rattle.journal_lock.proofs.Lists.{has_append, has_cons}

-- 1 below n, and else 0
abbrev pub below : ℕ → ℕ → ℕ
below x n = cond (nat_le n x) 0 1

below_next : (x n : ℕ) → cond (n == x) 1 0 + below x n ≡ below x (n + 1)
below_next x n = grind (arith, nat_tests)

below_more : (x m n : ℕ) → m ≤ n → below x m ≤ below x n
below_more x m n le = grind (arith, nat_tests)

below_one : (x n : ℕ) → below x n ≤ 1
below_one x n = grind (arith, nat_tests)

-- a duty alone has the number n
alone : (x n c : ℕ) (a : Duty) → number a ≡ n → n + 1 ≡ c → has number x (a ∷ []) + below x n ≡ below x c
alone x n c a is e = let h = has_cons number x a [] in let same : cond {A = ℕ} (number a == x) 1 0 ≡ cond {A = ℕ} (n == x) 1 0 = ap (λ (k : ℕ). cond {A = ℕ} (k == x) 1 0) is in
    let u = below_next x n in let v : below x (n + 1) ≡ below x c = ap (below x) e in omega arith

-- two lists whose numbers follow one another
block : (x lo mid hi : ℕ) (xs ys : List Duty) → has number x xs + below x mid ≡ below x hi → has number x ys + below x lo ≡ below x mid → has number x (xs ++ ys) + below x lo ≡ below x hi
block x lo mid hi xs ys a b = omega (arith, has_append number x xs ys, a, b)

-- the members of a kind have the numbers from b on
has_members : (f : ℕ → Duty) (b x n c : ℕ) → ((k : ℕ) → number (f k) ≡ b + k) → b + n ≡ c → has number x (members f n) + below x b ≡ below x c
has_members f b x zero c is e = let v : below x b ≡ below x c = ap (below x) (let q : b ≡ c = omega arith in q) in omega arith
has_members f b x (suc n) c is e = let one = has_cons number x (f n) (members f n) in let r = has_members f b x n (b + n) is refl in let u = below_next x (b + n) in
    let here : cond {A = ℕ} (number (f n) == x) 1 0 ≡ cond {A = ℕ} (b + n == x) 1 0 = ap (λ (k : ℕ). cond {A = ℕ} (k == x) 1 0) (is n) in
    let v : below x (b + n + 1) ≡ below x c = ap (below x) (let q : b + n + 1 ≡ c = omega arith in q) in omega arith

has_at : (x d : ℕ) → has number x (duties_at d) + below x (66 * d) ≡ below x (66 * d + 66)
has_at x d =
    let last : List Duty = Table d ∷ Token d ∷ [] in
    let b : List Duty = members (λ m. Batcher d m) 16 ++ last in
    let q : List Duty = members (λ m. Queue d m) 16 ++ b in
    let t : List Duty = members (λ m. Maintainer d m) 16 ++ q in
    let ends = block x (66 * d) (66 * d + 1) (66 * d + 2) (Table d ∷ []) (Token d ∷ []) (alone x (66 * d + 1) (66 * d + 2) (Table d) refl (omega arith)) (alone x (66 * d) (66 * d + 1) (Token d) refl (omega arith)) in
    let batchers = block x (66 * d) (66 * d + 2) (66 * d + 18) (members (λ m. Batcher d m) 16) last (has_members (λ m. Batcher d m) (66 * d + 2) x 16 (66 * d + 18) (λ i. refl) (omega arith)) ends in
    let queues = block x (66 * d) (66 * d + 18) (66 * d + 34) (members (λ m. Queue d m) 16) b (has_members (λ m. Queue d m) (66 * d + 18) x 16 (66 * d + 34) (λ i. refl) (omega arith)) batchers in
    let maintainers = block x (66 * d) (66 * d + 34) (66 * d + 50) (members (λ m. Maintainer d m) 16) q (has_members (λ m. Maintainer d m) (66 * d + 34) x 16 (66 * d + 50) (λ i. refl) (omega arith)) queues in
    block x (66 * d) (66 * d + 50) (66 * d + 66) (members (λ m. Filter d m) 16) t (has_members (λ m. Filter d m) (66 * d + 50) x 16 (66 * d + 66) (λ i. refl) (omega arith)) maintainers

pub has_dcs : (x n : ℕ) → has number x (dc_duties n) ≡ below x (66 * n)
has_dcs x zero = grind (arith, nat_tests)
has_dcs x (suc n) = has_append number x (duties_at n) (dc_duties n) ∙ (ap (λ (k : ℕ). has number x (duties_at n) + k) (has_dcs x n) ∙ (has_at x n ∙ ap (below x) (let e : 66 * n + 66 ≡ 66 * suc n = omega arith in e)))

pub has_sessions : (x n : ℕ) → has number x (session_duties n) + below x 528 ≡ below x (528 + 2 * n)
has_sessions x zero = omega arith
has_sessions x (suc n) =
    let rest : List Duty = session_duties n in
    block x 528 (529 + 2 * n) (528 + 2 * suc n) (Draft n ∷ []) (Session n ∷ rest) (alone x (529 + 2 * n) (528 + 2 * suc n) (Draft n) refl (omega arith))
    (block x 528 (528 + 2 * n) (529 + 2 * n) (Session n ∷ []) rest (alone x (528 + 2 * n) (529 + 2 * n) (Session n) refl (omega arith)) (has_sessions x n))

-- no duty stands twice
pub each_once : (load : Workload) → load.dcs ≤ 8 → (x : ℕ) → has number x (all_duties load) ≤ 1
each_once load few x =
    let a = has_append number x (session_duties (length load.sessions)) (dc_duties load.dcs) in
    omega (arith, has_dcs x load.dcs, has_sessions x (length load.sessions), below_more x (66 * load.dcs) 528 (omega arith), below_one x (528 + 2 * length load.sessions))
