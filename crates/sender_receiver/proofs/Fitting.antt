-- What a sender chooses has a spelling.
use Rattle.std.proofs.Common.{◌≡◌, ℕ, ◌<◌, ◌^◌, ◌==◌, true, List, length, filter, sym, subst, arith, All}
use Rattle.std.specs.Prelude.{nat_lt}
use Rattle.std.proofs.lemmas.Bool.{eqb-true, and_parts}
use Rattle.std.proofs.lemmas.List.{length-take}
use Rattle.std.proofs.lemmas.List.Elements.{All-filter, All-take, All-weaker, filter_passes}
use Rattle.causal_deps.specs.Counts.{entry_of, IsSquare}
use Rattle.causal_deps.specs.declared.record.Record.{Record}
use Rattle.record_codec.specs.Wire.{FitsMessage, FitsRecord}
use Rattle.sender_receiver.specs.Choosing.{is_new, first_new}
use Rattle.sender_receiver.specs.Sending.{AreTellable}

own : (d known : ℕ) (records : List Record) → All (λ (r : Record). r.host ≡ d) (first_new d known records)
own d known records =
    All-take (λ (r : Record). r.host ≡ d) 16 (filter (is_new d known) records)
    (All-weaker (λ r. is_new d known r ≡ true) (λ (r : Record). r.host ≡ d) (λ r new. eqb-true r.host d (and_parts (r.host == d) (nat_lt known r.toid) new).0)
    (filter (is_new d known) records) (filter_passes (is_new d known) records))

tellable : (dcs d known : ℕ) (records : List Record) → AreTellable dcs d records → AreTellable dcs d (first_new d known records)
tellable dcs d known records all =
    let P : Record → Type 0 = λ r. r.host ≡ d → FitsRecord dcs r in
    All-take P 16 (filter (is_new d known) records) (All-filter (is_new d known) P records all)

chosen_fits : (d known : ℕ) (table : List (List ℕ)) (records : List Record) → IsSquare (length table) table → d < length table
    → ((k h : ℕ) → entry_of table k h < 2 ^ 48) → AreTellable (length table) d records
    → FitsMessage (length table) (record { from = d; table = table; records = first_new d known records })
chosen_fits d known table records square within entries all = record {
  from = within;
  square = square;
  table = entries;
  few = omega (arith, length-take 16 (filter (is_new d known) records));
  records = λ k r inside. tellable (length table) d known records all k r inside (own d known records k r inside);
  senders = own d known records;
}

pub message_fits : (d seen_d known : ℕ) (table seen : List (List ℕ)) (chosen records : List Record) → seen_d ≡ d → seen ≡ table → chosen ≡ first_new seen_d known records
    → IsSquare (length seen) seen → d < length table → ((k h : ℕ) → entry_of table k h < 2 ^ 48) → AreTellable (length table) d records
    → FitsMessage (length table) (record { from = seen_d; table = seen; records = chosen })
message_fits d seen_d known table seen chosen records is_d is_table is square within entries all =
    let S : List (List ℕ) → Type 0 = λ t. IsSquare (length t) t in
    let C : List Record → Type 0 = λ rs. FitsMessage (length table) (record { from = seen_d; table = seen; records = rs }) in
    let T : List (List ℕ) → Type 0 = λ t. FitsMessage (length table) (record { from = seen_d; table = t; records = first_new seen_d known records }) in
    let D : ℕ → Type 0 = λ n. FitsMessage (length table) (record { from = n; table = table; records = first_new n known records }) in
    subst C (sym is) (subst T (sym is_table) (subst D (sym is_d) (chosen_fits d known table records (subst S is_table square) within entries all)))
