-- What each kind of step does to the part of the rule on names.
use Rattle.std.proofs.Common.{◌≡◌, ◌≢◌, ℕ, zero, suc, ◌+◌, ◌≤◌, List, [], ◌∷◌, ◌++◌, length, drop, set, ap, sym, ◌∙◌, subst, ⊎_elim, arith}
use mathlib.Core.Logic.{dite}
use mathlib.Core.Option.{some, some-injective}
use mathlib.Core.List.{IsPrefix}
use native.Mathlib.Decide.{ℕ_discrete}
use lib.ListN.{get_elem?}
use Rattle.atomic_table.proofs.Lists.{at_set, set_else, at_snoc}
use Rattle.abstract_log.specs.declared.event.Event.{Event}
use Rattle.journal_lock.specs.declared.duty.Duty.{Duty}
use Rattle.journal_lock.specs.declared.duty.Position.{Position}
use Rattle.journal_lock.specs.Duties.{number, place, has, minus, stamped, Among, HasDuty}
use Rattle.journal_lock.specs.Law.{names}
use Rattle.journal_lock.specs.Names.{named, Naming, FitsNames, Named, NamesByDuty, put}
use Rattle.journal_lock.proofs.Lists.{total_set, total_snoc, total_two, stamped_more, stamped_prefix, has_append, has_minus}

abbrev name_of : ℕ → Naming → ℕ
name_of p x = named p x.2

each_set : (xs : List Naming) (id : ℕ) (y : Naming) → FitsNames y → ((j : ℕ) (x : Naming) → get_elem? xs j ≡ some x → FitsNames x) → (j : ℕ) (x : Naming) → get_elem? (set xs id y) j ≡ some x → FitsNames x
each_set xs id y mine others j x e = ⊎_elim (λ (t : (j ≡ id) × (y ≡ x)). subst FitsNames t.1 mine) (λ (t : (j ≢ id) × (get_elem? xs j ≡ some x)). others j x t.1) (at_set xs id j y x e)

names_nothing : (seen : List Event) (ds : List Duty) → FitsNames (seen, ds, names [] [])
names_nothing seen ds = record { stamped = λ p. omega arith; by_duty = λ p more. absurd (omega arith) }

pub starts : (ds : List Duty) → Named [] (([], ds, names [] []) ∷ [])
starts ds = record {
  single = λ p. omega arith;
  once = λ p. omega arith;
  each = λ j x e. one j x e;
}
  where
    one : (j : ℕ) (x : Naming) → get_elem? (([], ds, names [] []) ∷ []) j ≡ some x → FitsNames x
    one zero x e = subst FitsNames (some-injective ([], ds, names [] []) x e) (names_nothing [] ds)
    one (suc j) x e = cc

module _ (log : List Event) (xs : List Naming) (r : Named log xs) where
  module _ (id : ℕ) (y : Naming) (at : get_elem? xs id ≡ some y) where
    -- more was seen
    pub sees : (seen : List Event) → IsPrefix y.0 seen → Named log (set xs id (seen, y.1, y.2))
    sees seen more = let y' : Naming = (seen, y.1, y.2) in let f = r.each id y at in record {
      single = r.single;
      once = λ p. omega (arith, total_set (name_of p) xs id y y' at, r.once p);
      each = each_set xs id y' record { stamped = λ p. omega (arith, f.stamped p, stamped_prefix place p y.0 seen more); by_duty = f.by_duty } r.each;
    }

    -- the journal grows, and its new positions are at hand
    pub counts : (log' : List Event) → IsPrefix log log' → y.0 ≡ log → HasDuty y.1 → ((p : ℕ) → has place p (stamped log') ≤ 1) → Named log' (set xs id (log', y.1, names (stamped (drop (length log) log') ++ y.2.hand) y.2.placed))
    counts log' more saw duty single = let new : List Position = stamped (drop (length log) log') in let y' : Naming = (log', y.1, names (new ++ y.2.hand) y.2.placed) in let f = r.each id y at in record {
      single = single;
      once = λ p. omega (arith, total_set (name_of p) xs id y y' at, has_append place p new y.2.hand, stamped_more place p log log' more, r.once p);
      each = each_set xs id y' record {
        stamped = λ p. (let u = ap (λ l. has place p (stamped l)) saw in omega (arith, has_append place p new y.2.hand, stamped_more place p log log' more, f.stamped p));
        by_duty = λ p _. duty;
      } r.each;
    }

    pub splits : (ds : List Duty) (hand placed : List Position) → Among place hand y.2.hand → Among place placed y.2.placed → NamesByDuty (minus number y.1 ds) (names (minus place y.2.hand hand) (minus place y.2.placed placed)) → NamesByDuty ds (names hand placed)
        → Named log (set xs id (y.0, minus number y.1 ds, names (minus place y.2.hand hand) (minus place y.2.placed placed)) ++ (y.0, ds, names hand placed) ∷ [])
    splits ds hand placed a b mine other = let y' : Naming = (y.0, minus number y.1 ds, names (minus place y.2.hand hand) (minus place y.2.placed placed)) in let z : Naming = (y.0, ds, names hand placed) in let f = r.each id y at in record {
      single = r.single;
      once = λ p. omega (arith, total_set (name_of p) xs id y y' at, total_snoc (name_of p) (set xs id y') z, has_minus place y.2.hand hand a p, has_minus place y.2.placed placed b p, r.once p);
      each = λ j x e. ⊎_elim (each_set xs id y' record { stamped = λ p. omega (arith, f.stamped p, has_minus place y.2.hand hand a p, has_minus place y.2.placed placed b p); by_duty = mine } r.each j x)
          (λ (t : z ≡ x). subst FitsNames t record { stamped = λ p. omega (arith, f.stamped p, a p, b p); by_duty = other }) (at_snoc (set xs id y') z x j e);
    }

    -- one view takes in another, and sees no less than both
    pub joins : (other : ℕ) (x : Naming) (seen : List Event) → IsPrefix y.0 seen → IsPrefix x.0 seen → other ≢ id → get_elem? (set xs id (seen, y.1 ++ x.1, names (y.2.hand ++ x.2.hand) (y.2.placed ++ x.2.placed))) other ≡ some x
        → Named log (set (set xs id (seen, y.1 ++ x.1, names (y.2.hand ++ x.2.hand) (y.2.placed ++ x.2.placed))) other ([], [], names [] []))
    joins other x seen left right ne bt = let y' : Naming = (seen, y.1 ++ x.1, names (y.2.hand ++ x.2.hand) (y.2.placed ++ x.2.placed)) in let there : get_elem? xs other ≡ some x = sym (set_else xs id other y' ne) ∙ bt in
        let f = r.each id y at in let g = r.each other x there in
        let both : (p : ℕ) → named p y'.2 ≡ named p y.2 + named p x.2 = λ p. omega (arith, has_append place p y.2.hand x.2.hand, has_append place p y.2.placed x.2.placed) in record {
          single = r.single;
          once = λ p. omega (arith, total_set (name_of p) xs id y y' at, total_set (name_of p) (set xs id y') other x ([], [], names [] []) bt, both p, r.once p);
          each = each_set (set xs id y') other ([], [], names [] []) (names_nothing [] []) (each_set xs id y' record {
            stamped = λ p. dite (ℕ_discrete (named p y.2) 0)
                (λ z. omega (arith, both p, g.stamped p, stamped_prefix place p x.0 seen right))
                (λ some_here. omega (arith, both p, total_two (name_of p) xs id other y x at there ne, r.once p, r.single p, f.stamped p, stamped_prefix place p y.0 seen left));
            by_duty = λ p more. dite (ℕ_discrete (named p y.2) 0)
                (λ z. (let d = g.by_duty p (omega (arith, both p)) in (d.0, (let q = d.1 in omega (arith, has_append number d.0 y.1 x.1)))))
                (λ some_here. (let d = f.by_duty p (omega arith) in (d.0, (let q = d.1 in omega (arith, has_append number d.0 y.1 x.1)))));
          } r.each);
        }

    pub places : (ps : List Position) → Among place ps y.2.hand → Named log (set xs id (y.0, y.1, put ps y.2))
    places ps a = let y' : Naming = (y.0, y.1, put ps y.2) in let f = r.each id y at in let same : (p : ℕ) → named p y'.2 ≡ named p y.2 = λ p. omega (arith, has_minus place y.2.hand ps a p, has_append place p ps y.2.placed) in record {
      single = r.single;
      once = λ p. omega (arith, total_set (name_of p) xs id y y' at, same p, r.once p);
      each = each_set xs id y' record { stamped = λ p. omega (arith, same p, f.stamped p); by_duty = λ p more. f.by_duty p (omega (arith, same p)) } r.each;
    }

-- who names nothing needs no duty
pub no_names : (ds : List Duty) (hand placed : List Position) → hand ≡ [] → placed ≡ [] → NamesByDuty ds (names hand placed)
no_names ds hand placed a b p more = absurd (let u = ap (has place p) a in let v = ap (has place p) b in omega arith)
