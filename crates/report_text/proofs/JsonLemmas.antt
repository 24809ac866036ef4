-- Values that are lists, and numbers that are whole.
use Rattle.std.proofs.Common.{◌≡◌, ℕ, zero, suc, ◌+◌, ◌<◌, false, List, [], ◌∷◌, ◌++◌, length, map, take, get_or, refl, ap, ap₂, sym, ◌∙◌, add-one, append_assoc, append-nil, Vec, Global, codes, eqb}
use Rattle.std.specs.Fmt.{decimal}
use Rattle.std.specs.List.{All, flat_map}
use Rattle.std.proofs.lemmas.List.Elements.{All-nil, All-cons, All-append, All-head, All-map, All-tail}
use Rattle.std.proofs.lemmas.Bool.{cond_both}
use Rattle.std.proofs.lemmas.List.{map_push, get_or_default}
use Rattle.std.proofs.lemmas.Grind.{flat_map-append}
use Rattle.std.proofs.Math.Seq.{take-suc}
use Rattle.causal_deps.specs.declared.record.Record.{Record}
use Rattle.abstract_log.specs.declared.answer.Answer.TheVariants.{Written}
use Rattle.abstract_log.specs.declared.event.Event.{Event}
use Rattle.abstract_log.specs.declared.event.Event.TheVariants.{Submit, Append, Receive, Add, Learn, Reply, Collect}
use Rattle.abstract_log.specs.declared.event.Run.{Run}
use Rattle.abstract_log.specs.declared.left.LeftAt.{LeftAt}
use Rattle.abstract_log.specs.declared.left.Row.{Row}
use Rattle.abstract_log.specs.declared.left.Row.TheVariants.{Kept, Gone}
use Rattle.abstract_log.specs.Left.{left_of}
use Rattle.abstract_log.specs.Runs.{world_of}
use Rattle.serde_json.proofs.Views.{view-Array}
use Rattle.serde_json.specs.Data.{Data, Members, no_members, object, put}
use Rattle.serde_json.specs.View.{view, items_of}
use Rattle.serde_json.specs.Written.{compact_text, has_float, items_have_float}
use Rattle.serde_json.specs.declared.value.Value.{Value}
use Rattle.serde_json.specs.declared.value.Value.TheVariants.{Array}
use Rattle.report_text.specs.Json.{answered_data, json_data, json_text, list_data, log_data, number_data, record_data, reply_items, row_data, row_items, session_items, text_data, with_content, with_writer}
use Rattle.report_text.specs.Numbered.{below, flat_map_from}
use Rattle.report_text.specs.Report.{answer_words}
use Rattle.report_text.proofs.LineLemmas.{flat_map_from_more}

-- an array of values is the list of what they stand for
pub array_is : (items : Vec Value Global) (ds : List Data) → map view items.items ≡ ds → view (Array items) ≡ list_data ds
array_is items ds is = view-Array items ∙ ap list_data is

-- one value more
pub value_more : (old new : List Value) (v : Value) (ds : List Data) (d : Data) → new ≡ old ++ v ∷ [] → map view old ≡ ds → view v ≡ d → map view new ≡ ds ++ d ∷ []
value_more old new v ds d pushed was is = ap (map view) pushed ∙ map_push view old v ∙ ap₂ (λ (xs : List Data) (x : Data). xs ++ x ∷ []) was is

-- so many elements of a list, once the next is told
pub mapped_more : {X : Type 0} (f : X → Data) (old new : List Value) (v : Value) (xs : List X) (i : ℕ) (x : X) → new ≡ old ++ v ∷ [] → map view old ≡ map f (take i xs) → view v ≡ f x
    → i < length xs → x ≡ get_or xs i x → map view new ≡ map f (take (i + 1) xs)
mapped_more f old new v xs i x pushed was is within at =
    let more : take (i + 1) xs ≡ take i xs ++ x ∷ [] = rw (add-one, take-suc xs i x within, ← at) refl in
    value_more old new v (map f (take i xs)) (f x) pushed was is ∙ sym (ap (map f) more ∙ map_push f (take i xs) x)

pub mapped_read : {X : Type 0} (f : X → Data) (old new : List Value) (v : Value) (xs : List X) (i : ℕ) (d : X) → new ≡ old ++ v ∷ [] → map view old ≡ map f (take i xs) → view v ≡ f (get_or xs i d)
    → i < length xs → map view new ≡ map f (take (i + 1) xs)
mapped_read f old new v xs i d pushed was is within = mapped_more f old new v xs i (get_or xs i d) pushed was is within (get_or_default xs i d (get_or xs i d) within)

pub row_more : (old new : List Value) (v : Value) (rows : List Row) (i : ℕ) (row : Row) → new ≡ old ++ v ∷ [] → map view old ≡ flat_map_from row_items 1 (take i rows) → view v ≡ row_data (i + 1) row
    → i < length rows → row ≡ get_or rows i row → map view new ≡ flat_map_from row_items 1 (take (i + 1) rows)
row_more old new v rows i row pushed was is within at =
    value_more old new v (flat_map_from row_items 1 (take i rows)) (row_data (i + 1) row) pushed was is ∙ sym (flat_map_from_more row_items 1 rows i row within at)

-- pieces one after another
pub piece_more : {X : Type 0} (f : X → List Data) (start now next : List Data) (xs : List X) (i : ℕ) (x : X) → now ≡ start ++ flat_map f (take i xs) → next ≡ now ++ f x → i < length xs → x ≡ get_or xs i x
    → next ≡ start ++ flat_map f (take (i + 1) xs)
piece_more f start now next xs i x was is within at =
    let more : take (i + 1) xs ≡ take i xs ++ x ∷ [] = rw (add-one, take-suc xs i x within, ← at) refl in
    is ∙ ap (λ t. t ++ f x) was ∙ append_assoc start (flat_map f (take i xs)) (f x)
    ∙ ap (λ t. start ++ t) (sym (ap (flat_map f) more ∙ flat_map-append f (take i xs) (x ∷ []) ∙ ap (λ t. flat_map f (take i xs) ++ t) (append-nil (f x))))

pub below_more : (f : ℕ → List Data) (now next : List Data) (n : ℕ) → now ≡ below f n → next ≡ now ++ f n → next ≡ below f (n + 1)
below_more f now next n was is = is ∙ ap (λ t. t ++ f n) was ∙ sym (ap (below f) (add-one n))

-- the members of a record, put one after another
pub record_is : (lid : ℕ) (r : Record) (ms : Members) → ms ≡ put (codes "lid") (number_data lid) (with_writer r (with_content r no_members)) → object ms ≡ record_data lid r
record_is lid r ms is = ap object is

-- No number has a fraction.

abbrev IsWhole : Data → Type 0
IsWhole d = has_float d ≡ false

all_whole : (ds : List Data) → All IsWhole ds → items_have_float (items_of ds) ≡ false
all_whole [] all = refl
all_whole (d ∷ ds) all = rw (All-head IsWhole d ds all) (all_whole ds (All-tail IsWhole d ds all))

numbers_whole : (ns : List ℕ) → items_have_float (items_of (map number_data ns)) ≡ false
numbers_whole ns = all_whole (map number_data ns) (All-map IsWhole number_data ns (λ k n low. refl))

texts_whole : (ts : List (List ℕ)) → items_have_float (items_of (map text_data ts)) ≡ false
texts_whole ts = all_whole (map text_data ts) (All-map IsWhole text_data ts (λ k t low. refl))

row_whole : (lid : ℕ) (row : Row) → IsWhole (row_data lid row)
row_whole lid (Kept r) = rw (numbers_whole r.dep, texts_whole r.tags) refl
row_whole lid (Gone h t) = refl

rows_whole : (n : ℕ) (rows : List Row) → All IsWhole (flat_map_from row_items n rows)
rows_whole n [] = All-nil IsWhole
rows_whole n (row ∷ rows) = All-cons IsWhole (row_data n row) (flat_map_from row_items (n + 1) rows) (row_whole n row) (rows_whole (n + 1) rows)

log_whole : (at : LeftAt) → IsWhole (log_data at)
log_whole at = all_whole (flat_map_from row_items 1 at.rows) (rows_whole 1 at.rows)

reply_whole : (s : ℕ) (event : Event) → All IsWhole (reply_items s event)
reply_whole s (Submit of k) = All-nil IsWhole
reply_whole s (Append d of k lid toid) =
    let reply : Data = answered_data s k (answer_words (Written (record { lid = lid; host = d; toid = toid }))) in
    cond_both (eqb of s) (reply ∷ []) [] (All IsWhole) (λ _. All-cons IsWhole reply [] refl (All-nil IsWhole)) (λ _. All-nil IsWhole)
reply_whole s (Receive d e table names) = All-nil IsWhole
reply_whole s (Add d lid h toid) = All-nil IsWhole
reply_whole s (Learn d row) = All-nil IsWhole
reply_whole s (Reply d of k at answer) =
    let reply : Data = answered_data s k (codes "at" ∷ decimal at ∷ answer_words answer) in
    cond_both (eqb of s) (reply ∷ []) [] (All IsWhole) (λ _. All-cons IsWhole reply [] refl (All-nil IsWhole)) (λ _. All-nil IsWhole)
reply_whole s (Collect d lid) = All-nil IsWhole

session_whole : (events : List Event) (s : ℕ) → All IsWhole (session_items events s)
session_whole [] s = All-nil IsWhole
session_whole (e ∷ es) s = All-append IsWhole (reply_items s e) (session_items es s) (reply_whole s e) (session_whole es s)

replies_whole : (events : List Event) (n : ℕ) → All IsWhole (below (session_items events) n)
replies_whole events zero = All-nil IsWhole
replies_whole events (suc n) = All-append IsWhole (below (session_items events) n) (session_items events n) (replies_whole events n) (session_whole events n)

pub json_whole : (run : Run) → has_float (json_data run) ≡ false
json_whole run =
    let left : List LeftAt = left_of (world_of run.workload run.events) in
    rw (
      all_whole (map log_data left) (All-map IsWhole log_data left (λ k at low. log_whole (get_or left k at))),
      all_whole (below (session_items run.events) (length run.workload.sessions)) (replies_whole run.events (length run.workload.sessions)),
    ) refl

-- the text of the whole, and the end of its line
pub json_told : (run : Run) (d : Data) (text bytes : List ℕ) → d ≡ json_data run → (has_float d ≡ false → text ≡ compact_text d) → bytes ≡ text ++ 10 ∷ [] → bytes ≡ json_text run
json_told run d text bytes is told ended =
    let whole : has_float d ≡ false = ap has_float is ∙ json_whole run in
    ended ∙ ap (λ t. t ++ 10 ∷ []) (told whole ∙ ap compact_text is)
