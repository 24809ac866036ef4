-- Bytes that were written one piece after the other.
use Rattle.std.proofs.Common.{◌≡◌, ℕ, ◌+◌, ◌<◌, ◌≤◌, All, List, [], ◌∷◌, ◌++◌, length, take, get_or, ap, sym, ◌∙◌, subst, append_assoc}
use Rattle.std.proofs.lemmas.List.{flat_map_more, take_more, take_all}
use Rattle.std.proofs.lemmas.List.Elements.{All-push}
use Rattle.std.specs.List.{flat_map}
use Rattle.byteorder.specs.Endian.{big_bytes}
use Rattle.causal_deps.specs.declared.record.Record.{Record}
use Rattle.record_codec.specs.declared.form.Form.{Form}
use Rattle.record_codec.specs.Wire.{record_bytes, records_bytes, FitsRecord}

pub pieces_4 : (w u v x y a b c d : List ℕ) → u ≡ w ++ a → v ≡ u ++ b → x ≡ v ++ c → y ≡ x ++ d → y ≡ w ++ (a ++ (b ++ (c ++ d)))
pieces_4 w u v x y a b c d e1 e2 e3 e4 =
    e4 ∙ ap (λ (z : List ℕ). z ++ d) (e3 ∙ ap (λ (z : List ℕ). z ++ c) (e2 ∙ ap (λ (z : List ℕ). z ++ b) e1)) ∙ simp append_assoc

pub pieces_3 : (w u v x a b c : List ℕ) → u ≡ w ++ a → v ≡ u ++ b → x ≡ v ++ c → x ≡ w ++ (a ++ (b ++ c))
pieces_3 w u v x a b c e1 e2 e3 = e3 ∙ ap (λ (z : List ℕ). z ++ c) (e2 ∙ ap (λ (z : List ℕ). z ++ b) e1) ∙ simp append_assoc

pub pieces_5 : (w u v x y z a b c d e : List ℕ) → u ≡ w ++ a → v ≡ u ++ b → x ≡ v ++ c → y ≡ x ++ d → z ≡ y ++ e → z ≡ w ++ (a ++ (b ++ (c ++ (d ++ e))))
pieces_5 w u v x y z a b c d e e1 e2 e3 e4 e5 =
    pieces_3 w v y z (a ++ b) (c ++ d) e (e2 ∙ ap (λ (q : List ℕ). q ++ b) e1 ∙ append_assoc w a b) (e4 ∙ ap (λ (q : List ℕ). q ++ d) e3 ∙ append_assoc v c d) e5 ∙ simp append_assoc

pub pieces_6 : (w u v x y z t a b c d e f : List ℕ) → u ≡ w ++ a → v ≡ u ++ b → x ≡ v ++ c → y ≡ x ++ d → z ≡ y ++ e → t ≡ z ++ f → t ≡ w ++ (a ++ (b ++ (c ++ (d ++ (e ++ f)))))
pieces_6 w u v x y z t a b c d e f e1 e2 e3 e4 e5 e6 =
    pieces_5 w u v x y t a b c d (e ++ f) e1 e2 e3 e4 (e6 ∙ ap (λ (q : List ℕ). q ++ f) e5 ∙ append_assoc y e f)

-- the six numbers before the dependencies
pub head_written : (w u v x y z t : List ℕ) (dcs dcs' host host' toid session index kind kind' : ℕ) → dcs ≡ dcs' → host ≡ host' → kind ≡ kind'
    → u ≡ w ++ big_bytes 1 dcs → v ≡ u ++ big_bytes 1 host → x ≡ v ++ big_bytes 8 toid → y ≡ x ++ big_bytes 2 session → z ≡ y ++ big_bytes 4 index → t ≡ z ++ big_bytes 1 kind
    → t ≡ w ++ (big_bytes 1 dcs' ++ (big_bytes 1 host' ++ (big_bytes 8 toid ++ (big_bytes 2 session ++ (big_bytes 4 index ++ big_bytes 1 kind')))))
head_written w u v x y z t dcs dcs' host host' toid session index kind kind' is_dcs is_host is_kind e1 e2 e3 e4 e5 e6 =
    pieces_6 w u v x y z t (big_bytes 1 dcs') (big_bytes 1 host') (big_bytes 8 toid) (big_bytes 2 session) (big_bytes 4 index) (big_bytes 1 kind')
    (e1 ∙ ap (λ (n : ℕ). w ++ big_bytes 1 n) is_dcs) (e2 ∙ ap (λ (n : ℕ). u ++ big_bytes 1 n) is_host) e3 e4 e5 (e6 ∙ ap (λ (n : ℕ). z ++ big_bytes 1 n) is_kind)

-- the five parts of a message
pub message_written : (form : Form) (w u v x y z : List ℕ) (kind kind' dcs dcs' host host' : ℕ) (table : List ℕ) (records : List Record) → kind ≡ kind' → dcs ≡ dcs' → host ≡ host'
    → u ≡ w ++ big_bytes 1 kind → v ≡ u ++ big_bytes 1 host → x ≡ v ++ big_bytes 1 dcs → y ≡ x ++ table → z ≡ y ++ records_bytes form dcs records
    → z ≡ w ++ (big_bytes 1 kind' ++ (big_bytes 1 host' ++ (big_bytes 1 dcs' ++ (table ++ records_bytes form dcs' records))))
message_written form w u v x y z kind kind' dcs dcs' host host' table records is_kind is_dcs is_host e1 e2 e3 e4 e5 =
    pieces_5 w u v x y z (big_bytes 1 kind') (big_bytes 1 host') (big_bytes 1 dcs') table (records_bytes form dcs' records)
    (e1 ∙ ap (λ (n : ℕ). w ++ big_bytes 1 n) is_kind) (e2 ∙ ap (λ (n : ℕ). u ++ big_bytes 1 n) is_host) (e3 ∙ ap (λ (n : ℕ). v ++ big_bytes 1 n) is_dcs) e4
    (e5 ∙ ap (λ (n : ℕ). y ++ records_bytes form n records) is_dcs)

-- one more value of a list
pub written_more : {X : Type 0} (s : X → List ℕ) (xs : List X) (i : ℕ) (x : X) (w u v : List ℕ) → i < length xs → x ≡ get_or xs i x → u ≡ w ++ flat_map s (take i xs) → v ≡ u ++ s x
    → v ≡ w ++ flat_map s (take (i + 1) xs)
written_more {X} s xs i x w u v inside is before now =
    now ∙ ap (λ (q : List ℕ). q ++ s x) before ∙ flat_map_more s w (take i xs) x
    ∙ ap (λ (ys : List X). w ++ flat_map s ys) (ap (λ (y : X). take i xs ++ y ∷ []) is ∙ sym (take_more xs i x inside))

-- all values of a list
pub written_all : {X : Type 0} (s : X → List ℕ) (xs : List X) (i : ℕ) (w u : List ℕ) → length xs ≤ i → u ≡ w ++ flat_map s (take i xs) → u ≡ w ++ flat_map s xs
written_all {X} s xs i w u past e = e ∙ ap (λ (ys : List X). w ++ flat_map s ys) (take_all i xs past)

-- what holds of each, and of one more
pub all_more : {X : Type 0} (P : X → Type 0) (xs : List X) (i : ℕ) (x : X) → i < length xs → x ≡ get_or xs i x → All P (take i xs) → P x → All P (take (i + 1) xs)
all_more {X} P xs i x inside is before now =
    let Q : List X → Type 0 = λ ys. All P ys in
    subst Q (ap (λ (y : X). take i xs ++ y ∷ []) is ∙ sym (take_more xs i x inside)) (All-push P (take i xs) x before now)

-- one more record
pub records_written_more : (form : Form) (dcs : ℕ) (xs ys : List Record) (i : ℕ) (x : Record) (w u v : List ℕ) → xs ≡ ys → All (λ r. FitsRecord dcs r) ys → i < length xs → x ≡ get_or xs i x
    → u ≡ w ++ flat_map (record_bytes form dcs) (take i xs) → v ≡ u ++ record_bytes form (length x.dep) x → v ≡ w ++ flat_map (record_bytes form dcs) (take (i + 1) xs)
records_written_more form dcs xs ys i x w u v same fits inside is before now =
    let P : List Record → Type 0 = λ zs. All (λ r. FitsRecord dcs r) zs in
    let all : All (λ r. FitsRecord dcs r) xs = subst P (sym same) fits in
    let e : length x.dep ≡ dcs = ap (λ (r : Record). length r.dep) is ∙ (all i x inside).entries in
    written_more (record_bytes form dcs) xs i x w u v inside is before (now ∙ ap (λ (n : ℕ). u ++ record_bytes form n x) e)
