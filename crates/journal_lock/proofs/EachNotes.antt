-- Lists of notes of which each is as T says.
use Rattle.std.proofs.Common.{◌≡◌, ◌≢◌, ℕ, zero, suc, List, [], ◌∷◌, ◌++◌, set, sym, ◌∙◌, subst, ⊎_elim, arith, Contains, All}
use Rattle.std.proofs.lemmas.List.Elements.{All-head, All-tail}
use mathlib.Core.Option.{some}
use lib.ListN.{get_elem?}
use Rattle.atomic_table.proofs.Lists.{at_set, set_else, at_snoc}
use Rattle.journal_lock.specs.declared.law.Note.{Note}
use Rattle.causal_deps.proofs.Lists.{Contains-cons}
use Rattle.flstore_rounds.specs.Heads.{Pair, joined}
use Rattle.journal_lock.specs.Notes.{AllNotes, EachNote}
use Rattle.journal_lock.specs.Joins.{AreTold, TwoPairs, joins_of, told_as}

pub all_append : (T : Note → Type 0) (xs ys : List Note) → AllNotes T xs → AllNotes T ys → AllNotes T (xs ++ ys)
all_append T [] ys s t = t
all_append T (x ∷ xs) ys s t = (s.0, all_append T xs ys s.1 t)

all_contains : (T : Note → Type 0) (xs : List Note) (x : Note) → AllNotes T xs → Contains xs x → T x
all_contains T [] x t has = absurd (omega (arith, has.1))
all_contains T (y ∷ ys) x t has = ⊎_elim (λ (is : y ≡ x). subst T is t.0) (λ (there : Contains ys x). all_contains T ys x t.1 there) (Contains-cons y ys x has)

-- what two pairs say together is as T says, where the notes are that tell them
pub all_joins : (T : Note → Type 0) → ((d : ℕ) (v u : Pair) → T (told_as d v) → T (told_as d u) → T (told_as d (joined v u))) → (xs : List Note) → AllNotes T xs → (twos : List TwoPairs) → AreTold twos xs → AllNotes T (joins_of twos)
all_joins T closed xs all [] told = tt
all_joins T closed xs all (t ∷ ts) told = let h = All-head (λ (t : TwoPairs). Contains xs (told_as t.0 t.1) × Contains xs (told_as t.0 t.2)) t ts told in
    (closed t.0 t.1 t.2 (all_contains T xs (told_as t.0 t.1) all h.0) (all_contains T xs (told_as t.0 t.2) all h.1), all_joins T closed xs all ts (All-tail (λ (t : TwoPairs). Contains xs (told_as t.0 t.1) × Contains xs (told_as t.0 t.2)) t ts told))

pub all_by : (T U : Note → Type 0) → ((x : Note) → T x → U x) → (xs : List Note) → AllNotes T xs → AllNotes U xs
all_by T U one [] t = tt
all_by T U one (x ∷ xs) t = (one x t.0, all_by T U one xs t.1)

pub each_by : (T U : Note → Type 0) → ((x : Note) → T x → U x) → (ns : List (List Note)) → EachNote T ns → EachNote U ns
each_by T U one ns each j xs e = all_by T U one xs (each j xs e)

module _ (T : Note → Type 0) (ns : List (List Note)) (r : EachNote T ns) where
  pub each_set : (id : ℕ) (xs : List Note) → AllNotes T xs → EachNote T (set ns id xs)
  each_set id xs mine j ys e = ⊎_elim (λ (t : (j ≡ id) × (xs ≡ ys)). subst (AllNotes T) t.1 mine) (λ (t : (j ≢ id) × (get_elem? ns j ≡ some ys)). r j ys t.1) (at_set ns id j xs ys e)

  module _ (id : ℕ) (xs : List Note) (at : get_elem? ns id ≡ some xs) where
    -- a second list of the same notes
    pub each_split : EachNote T (set ns id xs ++ xs ∷ [])
    each_split j ys e = ⊎_elim (each_set id xs (r id xs at) j ys) (λ (t : xs ≡ ys). subst (AllNotes T) t (r id xs at)) (at_snoc (set ns id xs) xs ys j e)

    -- the notes of two lists in one
    pub each_join : (other : ℕ) (ys : List Note) → other ≢ id → get_elem? (set ns id (xs ++ ys)) other ≡ some ys → EachNote T (set (set ns id (xs ++ ys)) other [])
    each_join other ys ne bt j zs e = let there : get_elem? ns other ≡ some ys = sym (set_else ns id other (xs ++ ys) ne) ∙ bt in
        ⊎_elim (λ (t : (j ≡ other) × ([] ≡ zs)). subst (AllNotes T) t.1 tt) (λ (t : (j ≢ other) × (get_elem? (set ns id (xs ++ ys)) j ≡ some zs)). each_set id (xs ++ ys) (all_append T xs ys (r id xs at) (r other ys there)) j zs t.1)
        (at_set (set ns id (xs ++ ys)) other j [] zs e)

    -- more notes
    pub each_more : (new : List Note) → AllNotes T new → EachNote T (set ns id (new ++ xs))
    each_more new t = each_set id (new ++ xs) (all_append T new xs t (r id xs at))
