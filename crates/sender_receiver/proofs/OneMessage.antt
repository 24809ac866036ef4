-- The bytes of a message spell no other.
use Rattle.std.proofs.Common.{◌≡◌, ℕ, ◌≤◌, List, [], ◌++◌, length, sym, subst, append-nil}
use Rattle.record_codec.specs.declared.message.Message.{Message}
use Rattle.record_codec.specs.Wire.{SpellsMessage}

pub only_this : (bytes : List ℕ) (dcs : ℕ) (message told : Message)
    → ((dcs : ℕ) (a b more : List ℕ) (m n : Message) → dcs ≤ 8 → SpellsMessage dcs a m → SpellsMessage dcs b n → a ++ more ≡ b → (m ≡ n) × (more ≡ []))
    → dcs ≤ 8 → dcs ≡ length told.table → message ≡ told → SpellsMessage (length message.table) bytes message → (m : Message) → SpellsMessage dcs bytes m → m ≡ told
only_this bytes dcs message told law few same is spelled m spells =
    let P : Message → Type 0 = λ n. SpellsMessage (length n.table) bytes n in
    let D : ℕ → Type 0 = λ n. SpellsMessage n bytes told in
    (law dcs bytes bytes [] m told few spells (subst D (sym same) (subst P is spelled)) (append-nil bytes)).0
