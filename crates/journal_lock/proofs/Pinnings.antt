-- What each kind of step does to the part of the rule on pins.
use Rattle.std.proofs.Common.{◌≡◌, ◌≢◌, ◌⊎◌, ℕ, zero, suc, ◌+◌, ◌<◌, ◌≤◌, ◌==◌, cond, nat_le, Bool, true, false, List, [], ◌∷◌, ◌++◌, set, Option, None, refl, ap, sym, ◌∙◌, subst, ⊎_elim, arith}
use Rattle.std.specs.List.{All}
use Rattle.std.proofs.lemmas.List.Elements.{All-head, All-tail}
use Rattle.std.proofs.lemmas.Bool.Decides.{nat_tests}
use mathlib.Core.Logic.{dite}
use mathlib.Core.Option.{some}
use native.Mathlib.Decide.{ℕ_discrete, dec_le}
use lib.ListN.{get_elem?}
use Rattle.atomic_table.proofs.Lists.{at_set, set_else, at_snoc}
use Rattle.abstract_log.specs.declared.command.Workload.{Workload}
use Rattle.abstract_log.specs.Worlds.{plan_of}
use Rattle.journal_lock.specs.declared.duty.Duty.{Duty}
use Rattle.journal_lock.specs.declared.duty.Duty.TheVariants.{Session, Table}
use Rattle.journal_lock.specs.declared.law.SessionPin.{SessionPin}
use Rattle.journal_lock.specs.Duties.{number, has, minus, Among, Has}
use Rattle.journal_lock.specs.Pins.{pin_of, home_table, knowers, pins_of_both, MayPin, Stake, Pinning, KnowsPins, FitsPins, Pinned}
use Rattle.journal_lock.proofs.Lists.{has_append, has_minus}

by_flag : (P : Bool → Type 0) (b : Bool) → (b ≡ true → P true) → (b ≡ false → P false) → P b
by_flag P true yes_case no_case = yes_case refl
by_flag P false yes_case no_case = no_case refl

-- without duties no pin is known
pub none_known : (load : Workload) (pins : ℕ → Option ℕ) (ps : List SessionPin) → KnowsPins load pins ([], ps)
none_known load pins ps s low more = absurd (omega arith)

-- fewer duties know no more
fewer_known : (load : Workload) (pins : ℕ → Option ℕ) (ds es : List Duty) (ps : List SessionPin) → ((x : ℕ) → has number x es ≤ has number x ds) → KnowsPins load pins (ds, ps) → KnowsPins load pins (es, ps)
fewer_known load pins ds es ps fewer known s low more = known s low (omega (arith, fewer (number (Session s)), fewer (home_table load s)))

-- a view that was not just joined
pub plain_pins : (load : Workload) (pins : ℕ → Option ℕ) (x : Pinning) → FitsPins load pins x → FitsPins load pins (x.0, ([], x.1.1), ([], x.2.1))
plain_pins load pins x t = record { now = t.now; left = none_known load pins x.1.1; right = none_known load pins x.2.1 }

-- the pins of two passes, for one session
pub pin_of_both : (load : Workload) (ds : List Duty) (ps qs : List SessionPin) (n s : ℕ) → s < n → pin_of s (pins_of_both load ds ps qs n) ≡ cond (nat_le 1 (knowers load s ds)) (pin_of s ps) (pin_of s qs)
pin_of_both load ds ps qs zero s low = absurd (omega arith)
pin_of_both load ds ps qs (suc n) s low = dite (ℕ_discrete n s)
    (λ same. (let e : cond (n == s) (cond (nat_le 1 (knowers load n ds)) (pin_of n ps) (pin_of n qs)) (pin_of s (pins_of_both load ds ps qs n)) ≡ cond (nat_le 1 (knowers load n ds)) (pin_of n ps) (pin_of n qs) = grind (arith, nat_tests) in
    e ∙ ap (λ i. cond (nat_le 1 (knowers load i ds)) (pin_of i ps) (pin_of i qs)) same))
    (λ other. (let e : cond (n == s) (cond (nat_le 1 (knowers load n ds)) (pin_of n ps) (pin_of n qs)) (pin_of s (pins_of_both load ds ps qs n)) ≡ pin_of s (pins_of_both load ds ps qs n) = grind (arith, nat_tests) in
    e ∙ pin_of_both load ds ps qs n s (omega arith)))

-- the pin of session s after these changes
abbrev over : List SessionPin → ℕ → Option ℕ → Option ℕ
over [] s p = p
over (c ∷ cs) s p = cond (c.session == s) c.at (over cs s p)

over_is : (cs ps : List SessionPin) (s : ℕ) → pin_of s (cs ++ ps) ≡ over cs s (pin_of s ps)
over_is [] ps s = refl
over_is (c ∷ cs) ps s = ap (λ p. cond (c.session == s) c.at p) (over_is cs ps s)

over_known : (load : Workload) (pins : ℕ → Option ℕ) (cs : List SessionPin) (k : Stake) → KnowsPins load pins k → KnowsPins load (λ s. over cs s (pins s)) (k.0, cs ++ k.1)
over_known load pins cs k known s low more = over_is cs k.1 s ∙ ap (over cs s) (known s low more)

-- who knows the pin of no session that changes sees no change
over_else : (load : Workload) (ds es : List Duty) (cs : List SessionPin) → MayPin load ds cs → ((x : ℕ) → 0 < has number x ds → has number x es ≡ 0) → (s : ℕ) (p : Option ℕ) → 0 < knowers load s es → over cs s p ≡ p
over_else load ds es [] may apart s p more = refl
over_else load ds es (c ∷ cs) may apart s p more =
    let mine = All-head (λ (q : SessionPin). Has (Session q.session) ds × Has (Table (plan_of load q.session).home) ds) c cs may in
    let rest = over_else load ds es cs (All-tail (λ (q : SessionPin). Has (Session q.session) ds × Has (Table (plan_of load q.session).home) ds) c cs may) apart s p more in
    dite (ℕ_discrete c.session s)
    (λ same. (let a = ap (λ i. has number (number (Session i)) es) same in let b = ap (λ i. has number (home_table load i) es) same in
    absurd (omega (arith, apart (number (Session c.session)) mine.0, apart (home_table load c.session) mine.1))))
    (λ other. (let e : cond (c.session == s) c.at (over cs s p) ≡ over cs s p = grind (arith, nat_tests) in e ∙ rest))

module _ (load : Workload) (xs : List Pinning) (r : Pinned load xs) (id : ℕ) (x : Pinning) (at : get_elem? xs id ≡ some x) where
  set_fits : (pins : ℕ → Option ℕ) (y : Pinning) → FitsPins load pins y → ((j : ℕ) (z : Pinning) → j ≢ id → get_elem? xs j ≡ some z → FitsPins load pins z) → (j : ℕ) (z : Pinning) → get_elem? (set xs id y) j ≡ some z → FitsPins load pins z
  set_fits pins y mine others j z e = ⊎_elim (λ (t : (j ≡ id) × (y ≡ z)). subst (FitsPins load pins) t.1 mine) (λ (t : (j ≢ id) × (get_elem? xs j ≡ some z)). others j z t.0 t.1) (at_set xs id j y z e)

  pub keeps : (y : Pinning) → ((pins : ℕ → Option ℕ) → FitsPins load pins x → FitsPins load pins y) → Pinned load (set xs id y)
  keeps y more = record { pins = r.pins; each = set_fits r.pins y (more r.pins (r.each id x at)) (λ j z _ e. r.each j z e) }

  pub splits : (ds : List Duty) → Among number ds x.0.0 → Pinned load (set xs id ((minus number x.0.0 ds, x.0.1), ([], x.1.1), ([], x.2.1)) ++ ((ds, x.0.1), ([], x.1.1), ([], x.2.1)) ∷ [])
  splits ds among = let f = r.each id x at in let y : Pinning = ((minus number x.0.0 ds, x.0.1), ([], x.1.1), ([], x.2.1)) in let g : Pinning = ((ds, x.0.1), ([], x.1.1), ([], x.2.1)) in
      let left : FitsPins load r.pins y = plain_pins load r.pins ((minus number x.0.0 ds, x.0.1), x.1, x.2) record { now = fewer_known load r.pins x.0.0 (minus number x.0.0 ds) x.0.1 (λ e. omega (arith, has_minus number x.0.0 ds among e)) f.now; left = f.left; right = f.right } in
      let right : FitsPins load r.pins g = plain_pins load r.pins ((ds, x.0.1), x.1, x.2) record { now = fewer_known load r.pins x.0.0 ds x.0.1 among f.now; left = f.left; right = f.right } in record {
        pins = r.pins;
        each = λ j z e. ⊎_elim (set_fits r.pins y left (λ i u _ h. r.each i u h) j z) (λ (t : g ≡ z). subst (FitsPins load r.pins) t right) (at_snoc (set xs id y) g z j e);
      }

  pub joins : (other : ℕ) (w : Pinning) → other ≢ id → (let y : Pinning = ((x.0.0 ++ w.0.0, pins_of_both load x.0.0 x.0.1 w.0.1 64), x.0, w.0) in get_elem? (set xs id y) other ≡ some w → Pinned load (set (set xs id y) other (([], []), ([], []), ([], []))))
  joins other w apart there = let f = r.each id x at in let y : Pinning = ((x.0.0 ++ w.0.0, pins_of_both load x.0.0 x.0.1 w.0.1 64), x.0, w.0) in
      let g = r.each other w (sym (set_else xs id other y apart) ∙ there) in
      let both : KnowsPins load r.pins y.0 = (λ s low more. pin_of_both load x.0.0 x.0.1 w.0.1 64 s low ∙ dite (dec_le 1 (knowers load s x.0.0))
      (λ mine. (let e : cond (nat_le 1 (knowers load s x.0.0)) (pin_of s x.0.1) (pin_of s w.0.1) ≡ pin_of s x.0.1 = grind (arith, nat_tests) in e ∙ f.now s low (omega arith)))
      (λ none. (let e : cond (nat_le 1 (knowers load s x.0.0)) (pin_of s x.0.1) (pin_of s w.0.1) ≡ pin_of s w.0.1 = grind (arith, nat_tests) in
      e ∙ g.now s low (omega (arith, has_append number (number (Session s)) x.0.0 w.0.0, has_append number (home_table load s) x.0.0 w.0.0))))) in record {
        pins = r.pins;
        each = λ j z e. ⊎_elim (λ (t : (j ≡ other) × ((([], []), ([], []), ([], [])) ≡ z)). subst (FitsPins load r.pins) t.1 record { now = none_known load r.pins []; left = none_known load r.pins []; right = none_known load r.pins [] })
            (λ (t : (j ≢ other) × (get_elem? (set xs id y) j ≡ some z)). set_fits r.pins y record { now = both; left = f.now; right = g.now } (λ i u _ h. r.each i u h) j z t.1) (at_set (set xs id y) other j (([], []), ([], []), ([], [])) z e);
      }

  pub changes : (cs : List SessionPin) → MayPin load x.0.0 cs → ((j : ℕ) (z : Pinning) → j ≢ id → get_elem? xs j ≡ some z → (y : ℕ) → 0 < has number y x.0.0 → (has number y z.0.0 ≡ 0) × (has number y z.1.0 ≡ 0) × (has number y z.2.0 ≡ 0))
      → Pinned load (set xs id ((x.0.0, cs ++ x.0.1), (x.1.0, cs ++ x.1.1), (x.2.0, cs ++ x.2.1)))
  changes cs may alone = let f = r.each id x at in let new : ℕ → Option ℕ = λ s. over cs s (r.pins s) in
      let stays : (k : Stake) → ((y : ℕ) → 0 < has number y x.0.0 → has number y k.0 ≡ 0) → KnowsPins load r.pins k → KnowsPins load new k = λ k apart known s low more. known s low more ∙ sym (over_else load x.0.0 k.0 cs may apart s (r.pins s) more) in record {
        pins = new;
        each = set_fits new ((x.0.0, cs ++ x.0.1), (x.1.0, cs ++ x.1.1), (x.2.0, cs ++ x.2.1)) record { now = over_known load r.pins cs x.0 f.now; left = over_known load r.pins cs x.1 f.left; right = over_known load r.pins cs x.2 f.right }
            (λ j z ne e. (let a = alone j z ne e in let t = r.each j z e in record { now = stays z.0 (λ y h. (a y h).0) t.now; left = stays z.1 (λ y h. (a y h).1) t.left; right = stays z.2 (λ y h. (a y h).2) t.right }));
      }
