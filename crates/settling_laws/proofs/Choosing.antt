-- Where logs differ, some log lacks a record that may go next into it.
use Rattle.std.proofs.Common.{◌≡◌, ◌≢◌, ◌⊎◌, ℕ, zero, suc, ◌+◌, ◌<◌, ◌≤◌, false, Bool, eqb, List, [], ◌∷◌, ◌++◌, length, take, get_or, refl, ap, subst, ◌∙◌, inl, inr, arith, Some, slice_get}
use Rattle.std.specs.List.{Contains, list_all}
use Rattle.std.proofs.lemmas.List.{take_all, take_more}
use Rattle.std.proofs.lemmas.Option.{get_or_from_slice_get, slice_get_within}
use Rattle.std.proofs.lemmas.Bool.{cases_lt, cases_eq, and_cases, eqb-false}
use Rattle.causal_deps.specs.declared.record.Record.{Record}
use Rattle.causal_deps.specs.Logs.{count_of, nth_of, IsReady}
use Rattle.causal_deps.proofs.Lists.{slice_get_some}
use Rattle.causal_deps.proofs.LogsLemmas.{count_of-take_more, count_of-push_other, nth_of_has}
use Rattle.abstract_log.specs.declared.world.World.{World}
use Rattle.abstract_log.specs.Worlds.{log_of}
use Rattle.log_laws.specs.Lawful.{IsLawful}
use Rattle.log_laws.specs.Records.{IsValid}
use Rattle.stage_world.specs.MoreTurns.{same_counts}

-- e's log lacks this record, which may go next into it; its host has it.
pub record IsMissing (w : World) (e : ℕ) : Type 0 where
  pub rec : Record
  pub host : rec.host < w.workload.dcs
  pub apart : rec.host ≢ e
  pub has : nth_of (log_of w rec.host) rec.host rec.toid ≡ Some rec
  pub next : rec.toid ≡ count_of (log_of w e) rec.host + 1
  pub known : (g : ℕ) → g ≢ rec.host → get_or rec.dep g 0 ≤ count_of (log_of w e) g

-- the first record of a log that another lacks
record IsFirst (xs ys : List Record) : Type 0 where
  pub at : ℕ
  pub rec : Record
  pub stands : slice_get xs at ≡ Some rec
  pub before : (g : ℕ) → count_of (take at xs) g ≤ count_of ys g
  pub lacks : count_of ys rec.host < rec.toid

module _ (w : World) (lawful : IsLawful w) (d e : ℕ) where
  abbrev xs : List Record
  xs = log_of w d

  abbrev ys : List Record
  ys = log_of w e

  next_one : (n : ℕ) → n < length xs → ((g : ℕ) → count_of (take n xs) g ≤ count_of ys g) → ((g : ℕ) → count_of (take (suc n) xs) g ≤ count_of ys g) ⊎ IsFirst xs ys
  next_one n within all =
      let some = slice_get_some xs n within in
      let r : Record = some.0 in
      let ready : IsReady (take n xs) r = (lawful.causal d).in_order n r some.1 in
      elim (cases_lt (count_of ys r.host) r.toid) [
        | inl lacks ↦ inr (record { at = n; rec = r; stands = some.1; before = all; lacks = lacks })
        | inr has ↦ inl (λ g.
            let one_up : suc n ≡ n + 1 = omega arith in
            elim (cases_eq r.host g) [
              | inl same ↦ subst (λ i. count_of (take (suc n) xs) i ≤ count_of ys i) same (omega (arith, ap (λ k. count_of (take k xs) r.host) one_up, count_of-take_more xs n r some.1, ready.next, has))
              | inr other ↦
                  let longer : take (suc n) xs ≡ take n xs ++ r ∷ [] = ap (λ k. take k xs) one_up ∙ take_more xs n r within ∙ ap (λ x. take n xs ++ x ∷ []) (get_or_from_slice_get xs n r r some.1) in
                  omega (arith, ap (λ l. count_of l g) longer, count_of-push_other (take n xs) r g other, all g)
            ])
      ]

  search_up : (n : ℕ) → n ≤ length xs → ((g : ℕ) → count_of (take n xs) g ≤ count_of ys g) ⊎ IsFirst xs ys
  search_up zero within = inl (λ g. omega arith)
  search_up (suc n) within = elim (search_up n (omega arith)) [
    | inl all ↦ next_one n (omega arith) all
    | inr first ↦ inr first
  ]

  first_is : IsFirst xs ys → IsMissing w e
  first_is f =
      let r : Record = f.rec in
      let ready : IsReady (take f.at xs) r = (lawful.causal d).in_order f.at r f.stands in
      let has : nth_of (log_of w r.host) r.host r.toid ≡ Some r = lawful.one_record d f.at r f.stands in
      record {
        rec = r;
        host = (subst (IsValid w.workload.dcs) (get_or_from_slice_get xs f.at r r f.stands) (lawful.valid d f.at r (slice_get_within xs f.at r f.stands))).host;
        apart = λ same. absurd (omega (arith, f.lacks, (nth_of_has (log_of w r.host) r.host r.toid r has).counted, ap (λ i. count_of (log_of w i) r.host) same));
        has = has;
        next = omega (arith, f.lacks, ready.next, f.before r.host);
        known = λ g other. omega (arith, ready.known g other, f.before g);
      }

  -- Where d's log has more records of some host, e's lacks one that may go next.
  pub missing : (g : ℕ) → count_of ys g < count_of xs g → IsMissing w e
  missing g more = elim (search_up (length xs) (omega arith)) [
    | inl all ↦ absurd (omega (arith, more, all g, ap (λ l. count_of l g) (take_all (length xs) xs (omega arith))))
    | inr first ↦ first_is first
  ]

-- where a test of all fails, it fails of one
pub fails_at : {X : Type 0} (test : X → Bool) (xs : List X) → list_all test xs ≡ false → (x : X) × Contains xs x × (test x ≡ false)
fails_at test [] is = absurd (cc)
fails_at {X} test (x ∷ xs) is = at (and_cases (test x) (list_all test xs) is) (λ later. fails_at test xs later)
  where
    at : (test x ≡ false) ⊎ (list_all test xs ≡ false) → (list_all test xs ≡ false → (y : X) × Contains xs y × (test y ≡ false)) → (y : X) × Contains (x ∷ xs) y × (test y ≡ false)
    at (inl here) ih = (x, (0, omega arith, refl), here)
    at (inr later) ih = let rest = ih later in (rest.0, (suc rest.1.0, omega (arith, rest.1.1), rest.1.2), rest.2)

-- lists of counts that are not the same differ somewhere
pub differ_at : (xs ys : List ℕ) → length xs ≡ length ys → same_counts xs ys ≡ false → (g : ℕ) × (get_or xs g 0 ≢ get_or ys g 0)
differ_at [] [] same is = absurd (cc)
differ_at [] (y ∷ ys) same is = absurd (omega (arith, same))
differ_at (x ∷ xs) [] same is = absurd (omega (arith, same))
differ_at (x ∷ xs) (y ∷ ys) same is = at (and_cases (eqb x y) (same_counts xs ys) is) (λ later. differ_at xs ys (omega (arith, same)) later)
  where
    at : (eqb x y ≡ false) ⊎ (same_counts xs ys ≡ false) → (same_counts xs ys ≡ false → (g : ℕ) × (get_or xs g 0 ≢ get_or ys g 0)) → (g : ℕ) × (get_or (x ∷ xs) g 0 ≢ get_or (y ∷ ys) g 0)
    at (inl here) ih = (0, eqb-false x y here)
    at (inr later) ih = let rest = ih later in (suc rest.0, rest.1)
