-- What a word that was read keeps: a body, a name, names and the sizes of a `stages` line are in their ranges.
-- By the tests of `Reading`, word by word; `number_spells` of `Spelling` says it of numbers.
use Rattle.std.proofs.Common.{◌≡◌, ◌+◌, ℕ, List, [], ◌∷◌, length, ap, subst, ◌∙◌, arith, true, ◌&&◌, nat_eq, All, lit<}
use Rattle.std.specs.Prelude.{nat_le, Ok, is_none, drop}
use Rattle.std.specs.List.{list_all}
use Rattle.std.proofs.lemmas.Bool.Decides.{nat_tests}
use Rattle.std.proofs.lemmas.List.Elements.{All-nil, All-cons}
use Rattle.cz_base.specs.Text.{IsName, IsBody, first_bad, is_name_byte, is_body_byte}
use Rattle.abstract_log.specs.declared.script.Sizes.{Sizes}
use Rattle.script_text.specs.Words.{is_name, is_body}
use Rattle.script_text.specs.Reading.{number_at, body_in, body_at, name_in, name_at, names_in}
use Rattle.script_text.specs.Meaning.{sizes_at}
use Rattle.abstract_log.specs.Fits.{FitsSizes}
use Rattle.std.proofs.lemmas.Bool.{and_parts}
use Rattle.cz_base.specs.declared.limits.TheConstants.{MEMBERS, NAME_BYTES, BODY_BYTES}
use Rattle.script_text.proofs.Going.{okay-same, bind_ok, pass_ok, none_is}
use Rattle.script_text.proofs.Spelling.{number_spells}

body_is : (word : List ℕ) → is_body word ≡ true → IsBody (drop 1 word)
body_is [] h = cc
body_is (sign ∷ bytes) h =
    let both = and_parts ((nat_eq sign 61) && nat_le (length bytes) BODY_BYTES) (is_none (first_bad is_body_byte bytes)) h in
    let short = and_parts (nat_eq sign 61) (nat_le (length bytes) BODY_BYTES) both.0 in
    record { short = grind (arith, nat_tests, short.1); allowed = none_is (first_bad is_body_byte bytes) both.1 }

pub record TakesBody (left : List (List ℕ)) (x : List ℕ × List (List ℕ)) : Type 0 where
  pub body : IsBody x.0
  pub shorter : length left ≡ length x.1 + 1

pub body_takes : (left : List (List ℕ)) (x : List ℕ × List (List ℕ)) → body_at left ≡ Ok x → TakesBody left x
unfolding body_at
body_takes [] x same = cc
body_takes (word ∷ more) x same =
    let bound = bind_ok (body_in word) (λ body. Ok (body, more)) x same in
    let form = pass_ok (is_body word) _ _ bound.0 bound.1.0 in
    let value : drop 1 word ≡ bound.0 = cc (form.1) in
    let pair : (bound.0, more) ≡ x = cc (bound.1.1) in
    let first : bound.0 ≡ x.0 = ap (λ (p : List ℕ × List (List ℕ)). p.0) pair in
    let second : more ≡ x.1 = ap (λ (p : List ℕ × List (List ℕ)). p.1) pair in
    record {
      body = subst (λ (bytes : List ℕ). IsBody bytes) (value ∙ first) (body_is word form.0);
      shorter = omega (arith, ap (λ (ws : List (List ℕ)). length ws) second);
    }

name_is : (word : List ℕ) → is_name word ≡ true → IsName word
name_is word h =
    let both = and_parts (nat_le 1 (length word) && nat_le (length word) NAME_BYTES) (is_none (first_bad is_name_byte word)) h in
    let bounds = and_parts (nat_le 1 (length word)) (nat_le (length word) NAME_BYTES) both.0 in
    record { not_empty = grind (arith, nat_tests, bounds.0); short = grind (arith, nat_tests, bounds.1); allowed = none_is (first_bad is_name_byte word) both.1 }

names_are : (left : List (List ℕ)) → list_all is_name left ≡ true → All IsName left
names_are [] h = All-nil IsName
names_are (word ∷ more) h =
    let both = and_parts (is_name word) (list_all is_name more) h in
    All-cons IsName word more (name_is word both.0) (names_are more both.1)

pub names_take : (left tags : List (List ℕ)) → names_in left ≡ Ok tags → (left ≡ tags) × All IsName left
unfolding names_in
names_take left tags same =
    let form = pass_ok (list_all is_name left) _ _ tags same in
    (cc (form.1), names_are left form.0)

pub sizes_take : (left : List (List ℕ)) (x : Sizes × List (List ℕ)) → sizes_at left ≡ Ok x → FitsSizes x.0
unfolding sizes_at
sizes_take left x same =
    let one = bind_ok (number_at 1 MEMBERS left) _ x same in
    let two = bind_ok (number_at 1 MEMBERS one.0.1) _ x one.1.1 in
    let three = bind_ok (number_at 1 MEMBERS two.0.1) _ x two.1.1 in
    let four = bind_ok (number_at 1 MEMBERS three.0.1) _ x three.1.1 in
    let five = bind_ok (number_at 1 MEMBERS four.0.1) _ x four.1.1 in
    let six = bind_ok (number_at 1 MEMBERS five.0.1) _ x five.1.1 in
    let seven = bind_ok (number_at 1 MEMBERS six.0.1) _ x six.1.1 in
    let a = number_spells 1 MEMBERS left one.0 (lit< tt) one.1.0 in
    let b = number_spells 1 MEMBERS one.0.1 two.0 (lit< tt) two.1.0 in
    let c = number_spells 1 MEMBERS two.0.1 three.0 (lit< tt) three.1.0 in
    let d = number_spells 1 MEMBERS three.0.1 four.0 (lit< tt) four.1.0 in
    let e = number_spells 1 MEMBERS four.0.1 five.0 (lit< tt) five.1.0 in
    let f = number_spells 1 MEMBERS five.0.1 six.0 (lit< tt) six.1.0 in
    let g = number_spells 1 MEMBERS six.0.1 seven.0 (lit< tt) seven.1.0 in
    let made : Sizes = record { batchers = one.0.0; filters = two.0.0; queues = three.0.0; maintainers = four.0.0; indexers = five.0.0; senders = six.0.0; receivers = seven.0.0 } in
    let pair : (made, seven.0.1) ≡ x = okay-same (made, seven.0.1) x seven.1.1 in
    let fits : FitsSizes made = record {
      batchers = (a.low, a.high);
      filters = (b.low, b.high);
      queues = (c.low, c.high);
      maintainers = (d.low, d.high);
      indexers = (e.low, e.high);
      senders = (f.low, f.high);
      receivers = (g.low, g.high);
    } in
    subst (λ (p : Sizes × List (List ℕ)). FitsSizes p.0) pair fits

pub name_takes : (left : List (List ℕ)) (x : List ℕ × List (List ℕ)) → name_at left ≡ Ok x → IsName x.0
unfolding name_at
name_takes [] x same = cc
name_takes (word ∷ more) x same =
    let bound = bind_ok (name_in word) (λ name. Ok (name, more)) x same in
    let form = pass_ok (is_name word) _ _ bound.0 bound.1.0 in
    let value : word ≡ bound.0 = okay-same word bound.0 form.1 in
    let pair : (bound.0, more) ≡ x = okay-same (bound.0, more) x bound.1.1 in
    subst (λ (name : List ℕ). IsName name) (value ∙ ap (λ (p : List ℕ × List (List ℕ)). p.0) pair) (name_is word form.0)
