-- The records, stocks and tables of the sender's rows.
use Rattle.std.proofs.Common.{◌≡◌, ℕ, zero, suc, ◌+◌, ◌-◌, ◌<◌, ◌≤◌, ◌^◌, max, List, [], ◌∷◌, ◌++◌, length, get_or, set, refl, ap, sym, subst, ◌∙◌, arith, All, get_or-set_same}
use Rattle.std.proofs.lemmas.List.Elements.{All-set, All-replicate, All-push, All-weaker}
use Rattle.causal_deps.specs.Counts.{entry_of, greater_rows, raised_row, zero_table}
use Rattle.causal_deps.specs.declared.record.Record.{Record}
use Rattle.causal_deps.specs.declared.record.Kind.TheVariants.{Append}
use Rattle.record_codec.specs.Wire.{FitsRecord, fewest_tags, most_tags}
use Rattle.sender_receiver.specs.Stocks.{records_in, stocked_from}
use Rattle.sender_receiver.specs.Sending.{AreTellable}
use Rattle.sender_receiver.proofs.Placed.{records_in-stocked_from}

-- a dependency of two entries
two : (h n : ℕ) → h < 2 → length (set (0 ∷ 0 ∷ []) h n) ≡ 2
two zero n below = refl
two (suc zero) n below = refl
two (suc (suc h)) n below = absurd (omega arith)

pub numbered_fits : (r : Record) → r.host < 2 → 1 ≤ r.toid → r.toid < 2 ^ 32 → r.session ≡ 0 → r.index ≡ 1 → r.kind ≡ Append → r.tags ≡ [] → length r.body ≤ 4096
    → r.dep ≡ set (0 ∷ 0 ∷ []) r.host (r.toid - 1) → FitsRecord 2 r
numbered_fits r host first toid session index kind tags body dep =
    let P : List ℕ → Type 0 = λ xs. All (λ n. n < 2 ^ 48) xs in
    record {
      host = host;
      toid_first = first;
      toid = omega arith;
      session = omega (arith, session);
      index_first = omega (arith, index);
      index = omega (arith, index);
      entries = ap length dep ∙ two r.host (r.toid - 1) host;
      dep = subst P (sym dep) (All-set (λ n. n < 2 ^ 48) (0 ∷ 0 ∷ []) r.host (r.toid - 1) (omega arith) (All-replicate (λ n. n < 2 ^ 48) 2 0 (omega arith)));
      own = ap (λ xs. get_or xs r.host 0) dep ∙ get_or-set_same (0 ∷ 0 ∷ []) r.host (r.toid - 1) 0 host;
      tags_first = rw kind (omega arith);
      tags = rw kind (omega (arith, ap length tags));
      body = rw kind body;
    }

pub pushed : (xs ys : List Record) (r : Record) → All (λ r. FitsRecord 2 r) xs → FitsRecord 2 r → ys ≡ xs ++ r ∷ [] → All (λ r. FitsRecord 2 r) ys
pushed xs ys r all fits is =
    let P : List Record → Type 0 = λ rs. All (λ r. FitsRecord 2 r) rs in
    subst P (sym is) (All-push (λ r. FitsRecord 2 r) xs r all fits)

pub tellable : (n : ℕ) (d dcs : ℕ) (records : List Record) → dcs ≡ 2 → All (λ r. FitsRecord 2 r) records → AreTellable dcs d (records_in (stocked_from n records))
tellable n d dcs records is_two all =
    let P : List Record → Type 0 = λ rs. AreTellable 2 d rs in
    let D : ℕ → Type 0 = λ m. AreTellable m d (records_in (stocked_from n records)) in
    subst D (sym is_two) (subst P (sym (records_in-stocked_from n records)) (λ k r inside _. all k r inside))

-- a table with one entry above 0
small : (x : ℕ) → x < 2 ^ 48 → (k h : ℕ) → entry_of ((0 ∷ 0 ∷ []) ∷ (x ∷ 0 ∷ []) ∷ []) k h < 2 ^ 48
small x below zero zero = omega arith
small x below zero (suc zero) = omega arith
small x below zero (suc (suc h)) = omega arith
small x below (suc zero) zero = below
small x below (suc zero) (suc zero) = omega arith
small x below (suc zero) (suc (suc h)) = omega arith
small x below (suc (suc k)) h = omega arith

pub known_is_small : (x : ℕ) (t : List (List ℕ)) → x < 2 ^ 48 → t ≡ (0 ∷ 0 ∷ []) ∷ (x ∷ 0 ∷ []) ∷ [] → (k h : ℕ) → entry_of t k h < 2 ^ 48
known_is_small x t below is k h = omega (arith, ap (λ u. entry_of u k h) is, small x below k h)
