-- Tests of readiness.
use Rattle.std.proofs.Common.{◌≡◌, ℕ, zero, suc, ◌+◌, ◌-◌, ◌<◌, ◌↔◌, Bool, true, false, ◌&&◌, leb, eqb, List, [], ◌∷◌, ◌++◌, length, get_or, set, refl, ap, sym, ◌∙◌, inl, inr, arith}
use Rattle.std.proofs.lemmas.List.{get_or-set_same, get_or-set_other, length-set, get_or_past}
use Rattle.std.proofs.lemmas.Bool.{cases_eq, cases_lt, and_parts, and_from, leb-true, le-leb, eqb-true}
use Rattle.std.proofs.Common.{eq-eqb}
use Rattle.causal_deps.specs.declared.record.Record.{Record}
use Rattle.causal_deps.specs.declared.record.Draft.{Draft}
use Rattle.causal_deps.specs.declared.record.Item.{Item}
use Rattle.causal_deps.specs.declared.record.Item.TheVariants.{Local, External}
use Rattle.causal_deps.specs.Counts.{AreCovered}
use Rattle.causal_deps.specs.Logs.{count_of, AreCountsOf, IsReadyBy, IsDraftReadyBy}
use Rattle.causal_deps.proofs.LogsLemmas.{count_of-push_own, count_of-push_other}
use Rattle.token_queue.specs.Items.{covers_by, IsItemReadyBy, is_ready_by, is_ready, record_by, FitsItem}

pub covered : (xs : List ℕ) (counts : ℕ → ℕ) → covers_by xs counts ≡ true → AreCovered xs counts
covered [] counts is g = omega arith
covered (x ∷ xs) counts is zero = leb-true x (counts 0) (and_parts (leb x (counts 0)) (covers_by xs (λ g. counts (suc g))) is).0
covered (x ∷ xs) counts is (suc g) = covered xs (λ h. counts (suc h)) (and_parts (leb x (counts 0)) (covers_by xs (λ h. counts (suc h))) is).1 g

pub covering : (xs : List ℕ) (counts : ℕ → ℕ) → AreCovered xs counts → covers_by xs counts ≡ true
covering [] counts h = refl
covering (x ∷ xs) counts h = and_from (leb x (counts 0)) (covers_by xs (λ g. counts (suc g))) (le-leb x (counts 0) (h 0)) (covering xs (λ g. counts (suc g)) (λ g. h (suc g)))

pub covers_agree : (xs : List ℕ) (f g : ℕ → ℕ) → ((h : ℕ) → h < length xs → f h ≡ g h) → covers_by xs f ≡ covers_by xs g
covers_agree [] f g same = refl
covers_agree (x ∷ xs) f g same =
    ap (λ n. leb x n && covers_by xs (λ h. f (suc h))) (same 0 (omega arith))
    ∙ ap (λ b. leb x (g 0) && b) (covers_agree xs (λ h. f (suc h)) (λ h. g (suc h)) (λ h below. same (suc h) (omega arith)))

-- the test finds what is ready
pub ready_told : (counts : ℕ → ℕ) (item : Item) → is_ready_by counts item ≡ true → IsItemReadyBy counts item
ready_told counts (Local draft) is = covered draft.dep counts is
ready_told counts (External r) is =
    let both = and_parts (eqb r.toid (counts r.host + 1)) (covers_by (set r.dep r.host 0) counts) is in
    record {
      next = eqb-true r.toid (counts r.host + 1) both.0;
      known = λ g other. omega (arith, covered (set r.dep r.host 0) counts both.1 g, get_or-set_other r.dep r.host g 0 0 other);
    }

pub ready_found : (counts : ℕ → ℕ) (item : Item) → IsItemReadyBy counts item → is_ready_by counts item ≡ true
ready_found counts (Local draft) h = covering draft.dep counts h
ready_found counts (External r) h =
    and_from (eqb r.toid (counts r.host + 1)) (covers_by (set r.dep r.host 0) counts) (eq-eqb r.toid (counts r.host + 1) h.next)
    (covering (set r.dep r.host 0) counts (λ g. elim (cases_eq g r.host) [
      | inl same ↦ elim (cases_lt r.host (length r.dep)) [
        | inl within ↦ omega (arith, ap (λ k. get_or (set r.dep r.host 0) k 0) same, get_or-set_same r.dep r.host 0 0 within)
        | inr past ↦ omega (arith, ap (λ k. get_or (set r.dep r.host 0) k 0) same, get_or_past (set r.dep r.host 0) r.host 0 (omega (arith, length-set r.dep r.host 0)))
      ]
      | inr other ↦ omega (arith, get_or-set_other r.dep r.host g 0 0 other, h.known g other)
    ]))

-- counts that agree on the datacentres that there are give the same test and the same record
pub ready_agree : (dcs : ℕ) (f g : ℕ → ℕ) (item : Item) → ((h : ℕ) → h < dcs → f h ≡ g h) → FitsItem dcs item → is_ready_by f item ≡ is_ready_by g item
ready_agree dcs f g (Local draft) same fits = covers_agree draft.dep f g (λ h below. same h (omega arith))
ready_agree dcs f g (External r) same fits =
    ap (λ n. eqb r.toid (n + 1) && covers_by (set r.dep r.host 0) f) (same r.host fits.0)
    ∙ ap (λ b. eqb r.toid (g r.host + 1) && b) (covers_agree (set r.dep r.host 0) f g (λ h below. same h (omega (arith, length-set r.dep r.host 0, fits.1))))

pub record_agree : (d : ℕ) (f g : ℕ → ℕ) (item : Item) → f d ≡ g d → record_by d f item ≡ record_by d g item
record_agree d f g (Local draft) same = ap (λ n. record_by d (λ h. n) (Local draft)) same
record_agree d f g (External r) same = refl

-- a ready item becomes the next record of its host, ready where it stands
pub record_ready : (d : ℕ) (counts : ℕ → ℕ) (item : Item) → IsItemReadyBy counts item → IsReadyBy counts (record_by d counts item)
record_ready d counts (Local draft) h = record {
  next = refl;
  known = λ g other. omega (arith, h g, get_or-set_other draft.dep d g (counts d + 1 - 1) 0 other);
}
record_ready d counts (External r) h = h

-- its host is one of the datacentres that there are
pub record_host : (dcs d : ℕ) (counts : ℕ → ℕ) (item : Item) → d < dcs → FitsItem dcs item → (record_by d counts item).host < dcs
record_host dcs d counts (Local draft) there fits = there
record_host dcs d counts (External r) there fits = fits.0

-- the counts with a record that is the next one of its host
pub counted_push : (log : List Record) (counts : List ℕ) (r : Record) → AreCountsOf log counts → r.host < length counts → r.toid ≡ count_of log r.host + 1
    → AreCountsOf (log ++ r ∷ []) (set counts r.host r.toid)
counted_push log counts r are there next = record {
  each = λ h within. elim (cases_eq h r.host) [
    | inl same ↦ omega (arith, ap (λ k. get_or (set counts r.host r.toid) k 0) same, get_or-set_same counts r.host r.toid 0 there, ap (λ k. count_of (log ++ r ∷ []) k) same, count_of-push_own log r, next)
    | inr other ↦ get_or-set_other counts r.host h r.toid 0 other ∙ are.each h (omega (arith, length-set counts r.host r.toid)) ∙ sym (count_of-push_other log r h (λ e. other (sym e)))
  ];
}

same_truth : (a b : Bool) → (a ≡ true → b ≡ true) → (b ≡ true → a ≡ true) → a ≡ b
same_truth true b there back = sym (there refl)
same_truth false true there back = back refl
same_truth false false there back = refl

-- a test that tells readiness is the test of it
pub draft_tested : (counts : List ℕ) (draft : Draft) (b : Bool) → (b ≡ true) ↔ IsDraftReadyBy (λ h. get_or counts h 0) draft → b ≡ is_ready counts (Local draft)
draft_tested counts draft b tells = same_truth b (is_ready counts (Local draft)) (λ is. ready_found (λ h. get_or counts h 0) (Local draft) (tells.0 is)) (λ is. tells.1 (ready_told (λ h. get_or counts h 0) (Local draft) is))

pub record_tested : (counts : List ℕ) (r : Record) (b : Bool) → (b ≡ true) ↔ IsReadyBy (λ h. get_or counts h 0) r → b ≡ is_ready counts (External r)
record_tested counts r b tells = same_truth b (is_ready counts (External r)) (λ is. ready_found (λ h. get_or counts h 0) (External r) (tells.0 is)) (λ is. tells.1 (ready_told (λ h. get_or counts h 0) (External r) is))
