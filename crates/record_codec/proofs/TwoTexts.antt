-- Texts of messages are compared. In one form two texts are equal exactly where their messages are, and the first byte tells the form.
-- The theorems are `alike_message` and `sparse_message`.
use Rattle.std.proofs.Common.{◌≡◌, ℕ, ◌≤◌, Bool, IsTrue, List, [], length, refl, ap, sym, ◌∙◌, subst, Result, Ok, Err, IfOk, Some, slice_get}
use Rattle.std.specs.Prelude.{◌↔◌}
use Rattle.std.proofs.lemmas.List.{append-nil}
use Rattle.std.proofs.lemmas.Option.{same_Some}
use Rattle.record_codec.specs.declared.form.Form.{Form}
use Rattle.record_codec.specs.declared.form.Form.TheVariants.{Dense, Sparse}
use Rattle.record_codec.specs.declared.message.Message.{Message}
use Rattle.record_codec.specs.Wire.{SpellsIn, SpellsMessage, form_number, message_bytes}
use Rattle.record_codec.proofs.Wholes.{message_law}

-- two texts of one form
in_one_form : (form : Form) (dcs : ℕ) (a b : List ℕ) (test : Bool) → dcs ≤ 8 → IsTrue test ↔ (a ≡ b) → (m n : Message) → SpellsIn form dcs a m → SpellsIn form dcs b n → IsTrue test ↔ (m ≡ n)
in_one_form form dcs a b test few exact m n is_m is_n = (
  λ yes. (message_law dcs a b [] m n few (record { form = form; inside = is_m }) (record { form = form; inside = is_n }) (append-nil a ∙ exact.0 yes)).0,
  λ same. exact.1 (is_m.spelled ∙ ap (message_bytes form dcs) same ∙ sym is_n.spelled),
)

first_byte : (form : Form) (dcs : ℕ) (a : List ℕ) (m : Message) → SpellsIn form dcs a m → slice_get a 0 ≡ Some (form_number form)
first_byte Dense dcs a m is = ap (λ w. slice_get w 0) is.spelled
first_byte Sparse dcs a m is = ap (λ w. slice_get w 0) is.spelled

same_number : (f g : Form) → form_number f ≡ form_number g → f ≡ g
same_number Dense Dense e = refl
same_number Dense Sparse e = absurd (cc)
same_number Sparse Dense e = absurd (cc)
same_number Sparse Sparse e = refl

-- two texts that begin with one byte
pub alike_message : (dcs : ℕ) (a b : List ℕ) (test : Bool) → dcs ≤ 8 → slice_get a 0 ≡ slice_get b 0 → IsTrue test ↔ (a ≡ b) → (m n : Message) → SpellsMessage dcs a m → SpellsMessage dcs b n → IsTrue test ↔ (m ≡ n)
alike_message dcs a b test few first exact m n is_m is_n =
    let number : form_number is_m.form ≡ form_number is_n.form = same_Some (form_number is_m.form) (form_number is_n.form)
    (sym (first_byte is_m.form dcs a m is_m.inside) ∙ first ∙ first_byte is_n.form dcs b n is_n.inside) in
    in_one_form is_m.form dcs a b test few exact m n is_m.inside (subst (λ f. SpellsIn f dcs b n) (sym (same_number is_m.form is_n.form number)) is_n.inside)

-- two messages written in the sparse form
pub sparse_message : (dcs : ℕ) (a b u v : List ℕ) (test : Bool) → dcs ≤ 8 → u ≡ a → v ≡ b → IsTrue test ↔ (u ≡ v) → (m n : Message) → SpellsIn Sparse dcs a m → SpellsIn Sparse dcs b n → IsTrue test ↔ (m ≡ n)
sparse_message dcs a b u v test few at_a at_b exact m n is_m is_n =
    in_one_form Sparse dcs u v test few exact m n (subst (λ w. SpellsIn Sparse dcs w m) (sym at_a) is_m) (subst (λ w. SpellsIn Sparse dcs w n) (sym at_b) is_n)

-- what is written of the message that was read
pub written_sparse : {T E : Type 0} (bytes_of : T → List ℕ) (dcs : ℕ) (bytes : List ℕ) (found m : Message) (r : Result T E) → SpellsMessage dcs bytes found → found ≡ m
    → IfOk r (λ x. SpellsIn Sparse (length found.table) (bytes_of x) found) → IfOk r (λ x. SpellsIn Sparse dcs (bytes_of x) m)
written_sparse bytes_of dcs bytes found m (Ok x) spelled same sparse =
    subst (SpellsIn Sparse dcs (bytes_of x)) same (subst (λ k. SpellsIn Sparse k (bytes_of x) found) spelled.inside.fits.square.rows sparse)
written_sparse bytes_of dcs bytes found m (Err e) spelled same sparse = tt
