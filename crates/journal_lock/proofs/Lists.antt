-- Sums over the views, prefixes, lists of duties and positions, and what events need and fill.
use Rattle.std.proofs.Common.{◌*◌, ◌≡◌, ◌≢◌, ℕ, zero, suc, ◌+◌, ◌<◌, ◌≤◌, ◌==◌, Bool, true, false, cond, List, [], ◌∷◌, ◌++◌, length, drop, set, refl, ap, sym, ◌∙◌, arith, le_refl, append_assoc, length-append}
use Rattle.std.proofs.lemmas.Bool.Decides.{nat_tests}
use Rattle.std.proofs.lemmas.List.Sums.{sum_by-append, sum_by-cons}
use mathlib.Core.Option.{some, some-injective, some-ne-none}
use mathlib.Core.List.{IsPrefix}
use lib.ListN.{get_elem?}
use Rattle.abstract_log.specs.declared.event.Event.{Event}
use Rattle.abstract_log.specs.declared.event.Event.TheVariants.{Submit, Append, Receive, Add, Learn, Reply, Collect}
use Rattle.journal_lock.specs.declared.duty.Duty.{Duty}
use Rattle.journal_lock.specs.declared.duty.Duty.TheVariants.{Token, Table, Session, Draft}
use Rattle.journal_lock.specs.declared.duty.Position.{Position}
use Rattle.journal_lock.specs.Duties.{number, datacentre, has, without, minus, Among, often, duties_of, positions_of, stamped}
use Rattle.journal_lock.specs.Law.{total}

-- the sum after a change of one
pub total_set : {A : Type 0} (f : A → ℕ) (xs : List A) (i : ℕ) (v w : A) → get_elem? xs i ≡ some v → total f (set xs i w) + f v ≡ total f xs + f w
total_set f [] i v w at = absurd (some-ne-none v (sym at))
total_set f (x ∷ xs) zero v w at = let e : f x ≡ f v = ap f (some-injective x v at) in omega arith
total_set f (x ∷ xs) (suc i) v w at = omega (arith, total_set f xs i v w at)

pub total_snoc : {A : Type 0} (f : A → ℕ) (xs : List A) (y : A) → total f (xs ++ y ∷ []) ≡ total f xs + f y
total_snoc f [] y = omega arith
total_snoc f (x ∷ xs) y = omega (arith, total_snoc f xs y)

pub total_one : {A : Type 0} (f : A → ℕ) (xs : List A) (i : ℕ) (v : A) → get_elem? xs i ≡ some v → f v ≤ total f xs
total_one f [] i v at = absurd (some-ne-none v (sym at))
total_one f (x ∷ xs) zero v at = let e : f x ≡ f v = ap f (some-injective x v at) in omega arith
total_one f (x ∷ xs) (suc i) v at = omega (arith, total_one f xs i v at)

-- two of them together are no more than all
pub total_two : {A : Type 0} (f : A → ℕ) (xs : List A) (i j : ℕ) (v w : A) → get_elem? xs i ≡ some v → get_elem? xs j ≡ some w → j ≢ i → f v + f w ≤ total f xs
total_two f [] i j v w at bt ne = absurd (some-ne-none v (sym at))
total_two f (x ∷ xs) zero zero v w at bt ne = absurd (ne refl)
total_two f (x ∷ xs) zero (suc j) v w at bt ne = let e : f x ≡ f v = ap f (some-injective x v at) in omega (arith, total_one f xs j w bt)
total_two f (x ∷ xs) (suc i) zero v w at bt ne = let e : f x ≡ f w = ap f (some-injective x w bt) in omega (arith, total_one f xs i v at)
total_two f (x ∷ xs) (suc i) (suc j) v w at bt ne = omega (arith, total_two f xs i j v w at bt (λ e. ne (ap suc e)))

pub total_le : {A : Type 0} (f g : A → ℕ) (xs : List A) → ((x : A) → f x ≤ g x) → total f xs ≤ total g xs
total_le f g [] le = omega arith
total_le f g (x ∷ xs) le = omega (arith, le x, total_le f g xs le)

some_of : {A : Type 0} (f : A → ℕ) (x : A) (xs : List A) (k : ℕ) → f x ≡ k → (f x ≡ 0 → (i : ℕ) × (v : A) × (get_elem? xs i ≡ some v) × (0 < f v))
    → (i : ℕ) × (v : A) × (get_elem? (x ∷ xs) i ≡ some v) × (0 < f v)
some_of f x xs zero is later = let r = later is in (suc r.0, r.1, r.2, r.3)
some_of f x xs (suc k) is later = (0, x, refl, omega arith)

-- where the sum is not 0, one is not 0
pub total_some : {A : Type 0} (f : A → ℕ) (xs : List A) → 0 < total f xs → (i : ℕ) × (v : A) × (get_elem? xs i ≡ some v) × (0 < f v)
total_some f [] more = absurd (omega arith)
total_some f (x ∷ xs) more = some_of f x xs (f x) refl (λ z. total_some f xs (omega arith))

-- each list begins with itself
pub prefix_self : {A : Type 0} (xs : List A) → IsPrefix xs xs
prefix_self [] = ([], refl)
prefix_self (x ∷ xs) = (let r = prefix_self xs in r.0, ap (λ ys. x ∷ ys) (prefix_self xs).1)

pub prefix_none : {A : Type 0} (xs : List A) → IsPrefix [] xs
prefix_none xs = (xs, refl)

pub prefix_trans : {A : Type 0} (xs ys zs : List A) → IsPrefix xs ys → IsPrefix ys zs → IsPrefix xs zs
prefix_trans xs ys zs p q = (p.0 ++ q.0, sym (append_assoc xs p.0 q.0) ∙ (ap (λ w. w ++ q.0) p.1 ∙ q.1))

-- of two beginnings of one list the shorter begins the longer
pub prefix_shorter : {A : Type 0} (xs ys zs : List A) → IsPrefix xs zs → IsPrefix ys zs → length xs ≤ length ys → IsPrefix xs ys
prefix_shorter [] ys zs p q le = (ys, refl)
prefix_shorter (x ∷ xs) [] zs p q le = absurd (omega arith)
prefix_shorter (x ∷ xs) (y ∷ ys) [] p q le = absurd (cc (p.1))
prefix_shorter (x ∷ xs) (y ∷ ys) (z ∷ zs) p q le =
    let heads : x ≡ y = cc (p.1, q.1) in
    let rest = prefix_shorter xs ys zs (p.0, cc (p.1)) (q.0, cc (q.1)) (omega arith) in
    (rest.0, cc (heads, rest.1))

pub prefix_length : {A : Type 0} (xs ys : List A) → IsPrefix xs ys → length xs ≤ length ys
prefix_length xs ys p = omega (arith, sym (ap length p.1) ∙ length-append xs p.0)

pub drop_length : {A : Type 0} (xs ys : List A) → drop (length xs) (xs ++ ys) ≡ ys
drop_length [] ys = refl
drop_length (x ∷ xs) ys = drop_length xs ys

-- what comes after a beginning
pub prefix_rest : {A : Type 0} (xs ys : List A) (p : IsPrefix xs ys) → drop (length xs) ys ≡ p.0
prefix_rest xs ys p = ap (drop (length xs)) (sym p.1) ∙ drop_length xs p.0

pub often_append : (x : ℕ) (xs ys : List Event) → often x (xs ++ ys) ≡ often x xs + often x ys
often_append x xs ys = sum_by-append (λ (e : Event). has number x (duties_of e)) xs ys

-- a longer list has no fewer events of a duty
pub often_prefix : (x : ℕ) (xs ys : List Event) → IsPrefix xs ys → often x xs ≤ often x ys
often_prefix x xs ys p = omega (arith, sym (ap (often x) p.1), often_append x xs p.0)

pub often_one : (x : ℕ) (e : Event) → often x (e ∷ []) ≡ has number x (duties_of e)
often_one x e = omega (arith, sum_by-cons (λ (z : Event). has number x (duties_of z)) e [])

pub often_snoc : (x : ℕ) (xs : List Event) (e : Event) → often x (xs ++ e ∷ []) ≡ often x xs + has number x (duties_of e)
often_snoc x xs e = omega (arith, often_append x xs (e ∷ []), often_one x e)

pub stamped_append : (xs ys : List Event) → stamped (xs ++ ys) ≡ stamped xs ++ stamped ys
stamped_append [] ys = refl
stamped_append (e ∷ xs) ys = ap (λ l. positions_of e ++ l) (stamped_append xs ys) ∙ sym (append_assoc (positions_of e) (stamped xs) (stamped ys))

module _ {A : Type 0} (f : A → ℕ) where
  pub has_append : (x : ℕ) (xs ys : List A) → has f x (xs ++ ys) ≡ has f x xs + has f x ys
  has_append x xs ys = sum_by-append (λ (a : A). cond (f a == x) 1 0) xs ys

  pub has_cons : (x : ℕ) (a : A) (xs : List A) → has f x (a ∷ xs) ≡ cond (f a == x) 1 0 + has f x xs
  has_cons x a xs = sum_by-cons (λ (b : A). cond (f b == x) 1 0) a xs

  pub has_self : (a : A) (xs : List A) → 0 < has f (f a) (a ∷ xs)
  has_self a xs = let self : cond {A = ℕ} (f a == f a) 1 0 ≡ 1 = grind (arith, nat_tests) in omega (arith, has_cons (f a) a xs)

  without_step : (x y : ℕ) (a : A) (xs : List A) → ((0 < has f y xs) → has f x (without f y xs) + cond (y == x) 1 0 ≡ has f x xs) → 0 < has f y (a ∷ xs) → (b : Bool) → (f a == y) ≡ b
      → has f x (cond b xs (a ∷ without f y xs)) + cond (y == x) 1 0 ≡ has f x (a ∷ xs)
  without_step x y a xs rest there true is = grind (arith, nat_tests, has_cons x a xs)
  without_step x y a xs rest there false is =
      let p = has_cons x a xs in let q = has_cons x a (without f y xs) in let c = has_cons y a xs in
      let here : 0 < has f y xs = grind (arith, nat_tests) in
      let r = rest here in omega arith

  pub has_without : (x y : ℕ) (xs : List A) → 0 < has f y xs → has f x (without f y xs) + cond (y == x) 1 0 ≡ has f x xs
  has_without x y [] there = absurd (omega arith)
  has_without x y (a ∷ xs) there = without_step x y a xs (has_without x y xs) there (f a == y) refl

  -- what is left, and what was taken out
  pub has_minus : (xs ys : List A) → Among f ys xs → (x : ℕ) → has f x (minus f xs ys) + has f x ys ≡ has f x xs
  has_minus xs [] among x = omega arith
  has_minus xs (y ∷ ys) among x =
      let a = has_cons (f y) y ys in let own = among (f y) in
      let self : cond {A = ℕ} (f y == f y) 1 0 ≡ 1 = grind (arith, nat_tests) in
      let here : 0 < has f (f y) xs = omega arith in
      let less : Among f ys (without f (f y) xs) = λ e. (let p = has_without e (f y) xs here in let q = among e in let r = has_cons e y ys in omega arith) in
      let m = has_minus (without f (f y) xs) ys less x in let p = has_without x (f y) xs here in let r = has_cons x y ys in omega arith

-- what is left of all is nothing
pub nothing_left : {A : Type 0} (f : A → ℕ) (xs : List A) (x : ℕ) → has f x (minus f xs xs) ≡ 0
nothing_left f xs x = omega (arith, has_minus f xs xs (λ e. le_refl (has f e xs)) x)

pub minus_self : {A : Type 0} (f : A → ℕ) (xs : List A) → minus f xs xs ≡ []
minus_self f [] = refl
minus_self f (x ∷ xs) = let self : (f x == f x) ≡ true = grind (arith, nat_tests) in ap (λ b. minus f (cond b xs (x ∷ without f (f x) xs)) xs) self ∙ minus_self f xs

-- each event needs some duty
abbrev pub main_duty : Event → Duty
main_duty (Submit s k) = Session s
main_duty (Append d s k lid toid) = Session s
main_duty (Receive d e table names) = Table d
main_duty (Add d lid h t) = Token d
main_duty (Learn d row) = Table d
main_duty (Reply d s k at answer) = Session s
main_duty (Collect d p) = Table d

pub needs_some : (e : Event) → 0 < has number (number (main_duty e)) (duties_of e)
needs_some (Submit s k) = has_self number (Session s) (Draft s ∷ [])
needs_some (Append d s k lid toid) = has_self number (Session s) (Draft s ∷ Token d ∷ [])
needs_some (Receive d e table names) = has_self number (Table d) []
needs_some (Add d lid h t) = has_self number (Token d) []
needs_some (Learn d row) = has_self number (Table d) []
needs_some (Reply d s k at answer) = has_self number (Session s) []
needs_some (Collect d p) = has_self number (Table d) []

-- a list with no event of any duty is empty
pub none_often : (rest : List Event) → ((x : ℕ) → often x rest ≡ 0) → rest ≡ []
none_often [] none = refl
none_often (e ∷ es) none = let x : ℕ = number (main_duty e) in
    let here = none x in let c = sum_by-cons (λ (z : Event). has number x (duties_of z)) e es in absurd (omega (arith, needs_some e))

-- one event more, of duties that are there
pub own_more : (x : ℕ) (log seen : List Event) (e : Event) (ds : List Duty) → often x log ≡ often x seen → has number x ds ≡ 0 → Among number (duties_of e) ds → often x (log ++ e ∷ []) ≡ often x seen
own_more x log seen e ds same none may = omega (arith, often_snoc x log e, may x)

-- the longer journal has the positions of the shorter and those of the rest
pub stamped_more : (f : Position → ℕ) (x : ℕ) (xs ys : List Event) → IsPrefix xs ys → has f x (stamped ys) ≡ has f x (stamped xs) + has f x (stamped (drop (length xs) ys))
stamped_more f x xs ys p = ap (λ l. has f x (stamped l)) (sym p.1)
    ∙ (ap (has f x) (stamped_append xs p.0) ∙ (has_append f x (stamped xs) (stamped p.0) ∙ ap (λ l. has f x (stamped xs) + has f x (stamped l)) (sym (prefix_rest xs ys p))))

pub stamped_prefix : (f : Position → ℕ) (x : ℕ) (xs ys : List Event) → IsPrefix xs ys → has f x (stamped xs) ≤ has f x (stamped ys)
stamped_prefix f x xs ys p = omega (arith, stamped_more f x xs ys p)

one_dc : (d e : ℕ) → cond {A = ℕ} (e == d) 1 0 ≤ cond {A = ℕ} (66 * e == 66 * d) 1 0
one_dc d e = grind (arith, nat_tests)

-- an event that fills a position needs the token of its datacentre
stamp_needs : (d : ℕ) (e : Event) → has datacentre d (positions_of e) ≤ has number (number (Token d)) (duties_of e)
stamp_needs d (Submit s k) = omega arith
stamp_needs d (Append e s k lid toid) = omega (arith, one_dc d e, has_cons datacentre d (record { dc = e; lid = lid }) [], has_cons number (number (Token d)) (Session s) (Draft s ∷ Token e ∷ []), has_cons number (number (Token d)) (Draft s) (Token e ∷ []), has_cons number (number (Token d)) (Token e) [])
stamp_needs d (Receive e f table names) = omega arith
stamp_needs d (Add e lid h t) = omega (arith, one_dc d e, has_cons datacentre d (record { dc = e; lid = lid }) [], has_cons number (number (Token d)) (Token e) [])
stamp_needs d (Learn e row) = omega arith
stamp_needs d (Reply e s k at answer) = omega arith
stamp_needs d (Collect e p) = omega arith

stamps_need : (d : ℕ) (es : List Event) → has datacentre d (stamped es) ≤ often (number (Token d)) es
stamps_need d [] = omega arith
stamps_need d (e ∷ es) = omega (arith, stamp_needs d e, stamps_need d es, has_append datacentre d (positions_of e) (stamped es), sum_by-cons (λ (z : Event). has number (number (Token d)) (duties_of z)) e es)

-- who has the token of a datacentre knows how many of its positions are filled
pub stamped_known : (d : ℕ) (seen log : List Event) → IsPrefix seen log → often (number (Token d)) log ≡ often (number (Token d)) seen → has datacentre d (stamped log) ≡ has datacentre d (stamped seen)
stamped_known d seen log p same =
    let rest : List Event = p.0 in let split = ap (λ l. has datacentre d (stamped l)) (sym p.1) ∙ ap (has datacentre d) (stamped_append seen rest) in
    omega (arith, split, has_append datacentre d (stamped seen) (stamped rest), stamps_need d rest, ap (often (number (Token d))) (sym p.1), often_append (number (Token d)) seen rest, same)
