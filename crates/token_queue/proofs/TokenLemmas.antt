-- The token, one stamping at a time.
use Rattle.std.proofs.Common.{◌≡◌, ℕ, ◌+◌, ◌<◌, ◌≤◌, ◌^◌, Bool, List, length, get_or, set, ap, ap₂, sym, ◌∙◌, subst, arith, Option, Some, None}
use Rattle.std.specs.List.{All, remove, position}
use Rattle.std.specs.Option.{ForSome, option_map, option_map_or}
use Rattle.std.proofs.lemmas.List.{length-set}
use Rattle.std.proofs.lemmas.List.Elements.{All-set, All-weaker}
use Rattle.std.proofs.lemmas.List.Quantifiers.{position-Some}
use Rattle.causal_deps.specs.declared.record.Record.{Record}
use Rattle.causal_deps.specs.declared.record.Item.{Item}
use Rattle.token_queue.specs.Items.{FitsItem, first_out, is_ready, record_from}
use Rattle.token_queue.specs.Queues.{TokenState, IsToken, next_out, entry_after, token_after}
use Rattle.token_queue.proofs.ListLemmas.{is_out, out_at, out_of_position}
use Rattle.token_queue.proofs.ItemLemmas.{ready_told, record_ready, record_host}

-- where no place is found, none is taken out
pub not_out : (p : Item → Bool) (xs ys : List Item) (r : Option ℕ) → r ≡ position p ys → ys ≡ xs → r ≡ None → first_out p xs ≡ None
not_out p xs ys r found same is = out_of_position p xs (ap (position p) (sym same) ∙ sym found ∙ is)

-- what stands at the place that is found is taken out
pub out_is : (p : Item → Bool) (xs ys : List Item) (r : Option ℕ) (i : ℕ) (x : Item) → r ≡ position p ys → ys ≡ xs → r ≡ Some i → x ≡ get_or xs i x → first_out p xs ≡ Some (x, remove xs i)
out_is p xs ys r i x found same is at =
    let h = position-Some p xs i x (ap (position p) (sym same) ∙ sym found ∙ is) in
    out_at p xs i x x h.0 h.2 at (ap p at ∙ h.1)

-- what is stamped next has a position, and a draft a number
pub lid_left : (t u : TokenState) (item : Item) (rest : List Item) → t ≡ u → next_out t ≡ Some (item, rest) → ForSome (next_out u) (λ _. u.last + 1 < 2 ^ 48) → t.last + 1 < 2 ^ 48
lid_left t u item rest same is left =
    let mine : ForSome (next_out t) (λ _. t.last + 1 < 2 ^ 48) = subst (λ (x : TokenState). ForSome (next_out x) (λ _. x.last + 1 < 2 ^ 48)) (sym same) left in
    mine (item, rest) is

pub toid_left : (t : TokenState) → IsToken t → t.last + 1 < 2 ^ 48 → get_or t.counts t.dc 0 + 1 < 2 ^ 48
toid_left t h left = omega (arith, h.counted t.dc 0 h.here)

pub entry_is : (t : TokenState) (item : Item) (rest : List Item) (r : Record) → next_out t ≡ Some (item, rest) → r ≡ record_from t.dc t.counts item
    → Some (record { lid = t.last + 1; rec = r }) ≡ option_map (entry_after t) (next_out t)
entry_is t item rest r is made = ap (λ q. Some (record { lid = t.last + 1; rec = q })) made ∙ ap (option_map (entry_after t)) (sym is)

pub token_is : (t : TokenState) (item : Item) (rest left : List Item) (r : Record) (counts : List ℕ) → next_out t ≡ Some (item, rest) → r ≡ record_from t.dc t.counts item → counts ≡ set t.counts r.host r.toid → left ≡ rest
    → record t { counts = counts; last = t.last + 1; deferred = left } ≡ option_map_or (token_after t) (next_out t) t
token_is t item rest left r counts is made put same =
    ap₂ (λ (cs : List ℕ) (xs : List Item). record t { counts = cs; last = t.last + 1; deferred = xs }) (put ∙ ap (λ (q : Record). set t.counts q.host q.toid) made) same
    ∙ ap (λ o. option_map_or (token_after t) o t) (sym is)

pub token_stays : (t : TokenState) (item : Item) (rest left : List Item) (r : Record) (counts : List ℕ) → IsToken t → next_out t ≡ Some (item, rest) → r ≡ record_from t.dc t.counts item → counts ≡ set t.counts r.host r.toid → left ≡ rest
    → IsToken (record t { counts = counts; last = t.last + 1; deferred = left })
token_stays t item rest left r counts h is made put same =
    let out = is_out (is_ready t.counts) t.deferred (item, rest) is in
    let fits = out.each (FitsItem (length t.counts)) h.fit in
    let q : Record = record_from t.dc t.counts item in
    let ready = record_ready t.dc (λ k. get_or t.counts k 0) item (ready_told (λ k. get_or t.counts k 0) item out.passes) in
    let host : q.host < length t.counts = record_host (length t.counts) t.dc (λ k. get_or t.counts k 0) item h.here fits.0 in
    let low : q.toid ≤ t.last + 1 = omega (arith, ready.next, h.counted q.host 0 host) in
    let size = length-set t.counts q.host q.toid in
    subst (λ (cs : List ℕ). IsToken (record t { counts = cs; last = t.last + 1; deferred = left })) (sym (put ∙ ap (λ (x : Record). set t.counts x.host x.toid) made))
    (subst (λ (xs : List Item). IsToken (record t { counts = set t.counts q.host q.toid; last = t.last + 1; deferred = xs })) (sym same) (record {
      here = omega (arith, size, h.here);
      counted = All-set (λ n. n ≤ t.last + 1) t.counts q.host q.toid low (All-weaker (λ n. n ≤ t.last) (λ n. n ≤ t.last + 1) (λ n le. omega arith) t.counts h.counted);
      fit = subst (λ n. All (FitsItem n) rest) (sym size) fits.1;
      numbered = h.numbered;
      ring = h.ring;
    }))
