-- What each kind of step does to the part of the rule on the turn, the journal and the duties.
use Rattle.std.proofs.Common.{◌≡◌, ◌≢◌, ℕ, zero, suc, ◌<◌, ◌≤◌, Bool, true, false, cond, nat_le, List, [], ◌∷◌, ◌++◌, length, set, refl, ap, sym, ◌∙◌, subst, ⊎_elim, arith, le_refl, Some}
use Rattle.std.proofs.lemmas.Bool.Decides.{nat_tests}
use Rattle.std.proofs.lemmas.List.{append-nil}
use mathlib.Core.Logic.{dite}
use mathlib.Core.Option.{some, none, some-injective}
use mathlib.Core.List.{IsPrefix}
use native.Mathlib.Decide.{ℕ_discrete}
use lib.ListN.{get_elem?}
use Rattle.atomic_table.proofs.Lists.{at_set, set_here, set_else, at_snoc}
use Rattle.abstract_log.specs.declared.command.Workload.{Workload}
use Rattle.abstract_log.specs.declared.event.Event.{Event}
use Rattle.abstract_log.specs.Runs.{IsRun}
use Rattle.journal_lock.specs.declared.duty.Duty.{Duty}
use Rattle.journal_lock.specs.declared.law.Stage.{Stage}
use Rattle.journal_lock.specs.declared.law.Stage.TheVariants.{Idle, Out, Back, Spent}
use Rattle.journal_lock.specs.declared.law.Known.{Known}
use Rattle.journal_lock.specs.declared.law.Hold.{Hold}
use Rattle.journal_lock.specs.Duties.{number, has, minus, Among, often, all_duties, HasDuty}
use Rattle.journal_lock.specs.Law.{Book, total, busy, away, lives, SameFor, Knows, Fits, Homes, Home, Locked, longer, known, nothing, no_load, plain, both_known, Within}
use Rattle.journal_lock.proofs.Lists.{total_set, total_snoc, total_one, total_two, total_le, total_some, prefix_self, prefix_none, prefix_trans, prefix_shorter, often_prefix, often_append, has_append, has_minus, none_often}

abbrev busy_of : Hold → ℕ
busy_of h = busy h.stage

abbrev away_of : Hold → ℕ
away_of h = away h.stage

abbrev has_of : ℕ → Hold → ℕ
has_of x h = has number x h.now.duties

away_busy : (s : Stage) → away s ≤ busy s
away_busy Idle = omega arith
away_busy Out = omega arith
away_busy Back = omega arith
away_busy Spent = omega arith

busy_lives : (s : Stage) → busy s ≤ lives s
busy_lives Idle = omega arith
busy_lives Out = omega arith
busy_lives Back = omega arith
busy_lives Spent = omega arith

pub knows_nothing : (log : List Event) → Knows log nothing
knows_nothing log = record { begins = prefix_none log; complete = λ x p. absurd (omega arith) }

plain_fits : (load : Workload) (log : List Event) (mine : Workload) (k : Known) (s : Stage) → (0 < lives s → mine ≡ load) → Knows log k → (0 < busy s → (k.seen ≡ log) × HasDuty k.duties) → Fits load log (plain mine k s)
plain_fits load log mine k s plan knows holding = record {
  plan = plan;
  now = knows;
  left = knows_nothing log;
  right = knows_nothing log;
  no_less = (omega arith, omega arith);
  parts = ((λ x p. absurd (omega arith)), (λ x p. absurd (omega arith)));
  holding = holding;
}

each_set : (load : Workload) (log : List Event) (hs : List Hold) (id : ℕ) (h : Hold) → Fits load log h → ((j : ℕ) (y : Hold) → j ≢ id → get_elem? hs j ≡ some y → Fits load log y)
    → (j : ℕ) (y : Hold) → get_elem? (set hs id h) j ≡ some y → Fits load log y
each_set load log hs id h mine others j y e =
    ⊎_elim (λ (t : (j ≡ id) × (h ≡ y)). subst (Fits load log) t.1 mine) (λ (t : (j ≢ id) × (get_elem? hs j ≡ some y)). others j y t.0 t.1) (at_set hs id j h y e)

each_more : (load : Workload) (log : List Event) (hs : List Hold) (h : Hold) → Fits load log h → ((j : ℕ) (y : Hold) → get_elem? hs j ≡ some y → Fits load log y)
    → (j : ℕ) (y : Hold) → get_elem? (hs ++ h ∷ []) j ≡ some y → Fits load log y
each_more load log hs h mine others j y e = ⊎_elim (others j y) (λ (t : h ≡ y). subst (Fits load log) t mine) (at_snoc hs h y j e)

pub starts : (load : Workload) (w : Book) → ((x : ℕ) → has number x (all_duties load) ≤ 1) → w.log ≡ [] → IsRun load [] → Locked load [] 0 0 (some (Some w) ∷ []) (plain load (known [] (all_duties load)) Idle ∷ [])
starts load w single empty run = record {
  run = run;
  counted = refl;
  one = omega arith;
  turns = refl;
  home = λ _. (w, empty, refl);
  single = single;
  duties = λ x. omega arith;
  known = λ x _. refl;
  each = each_set load [] (plain load (known [] (all_duties load)) Idle ∷ []) 0 (plain load (known [] (all_duties load)) Idle)
      (plain_fits load [] load (known [] (all_duties load)) Idle (λ _. refl) record { begins = prefix_none []; complete = λ x _. refl } (λ b. absurd (omega arith)))
      (λ j y ne e. absurd (beyond j y ne e));
}
  where
    beyond : (j : ℕ) (y : Hold) → j ≢ 0 → get_elem? (plain load (known [] (all_duties load)) Idle ∷ []) j ≡ some y → ⊥
    beyond zero y ne e = ne refl
    beyond (suc j) y ne e = cc

-- what is known stays known as the journal grows, where no event of its duties is new
knows_more : (log log' : List Event) (k : Known) → IsPrefix log log' → SameFor k.duties log log' → Knows log k → Knows log' k
knows_more log log' k grows same knows = record { begins = prefix_trans k.seen log log' knows.begins grows; complete = λ x p. same x p ∙ knows.complete x p }

-- of two that know one journal, who has seen no less knows all that the other does
pub within : (log : List Event) (k l : Known) → Knows log k → Knows log l → length k.seen ≤ length l.seen → Within k.duties k.seen l.seen
within log k l a b le = let pre = prefix_shorter k.seen l.seen log a.begins b.begins le in
    (pre, λ x p. (let up = often_prefix x k.seen l.seen pre in let top = often_prefix x l.seen log b.begins in let e = a.complete x p in omega arith))

longer_by : (a b log : List Event) → IsPrefix a log → IsPrefix b log → (c : Bool) → nat_le (length a) (length b) ≡ c → IsPrefix a (cond c b a) × IsPrefix b (cond c b a)
longer_by a b log p q true is = (prefix_shorter a b log p q (grind (arith, nat_tests)), prefix_self b)
longer_by a b log p q false is = (prefix_self a, prefix_shorter b a log q p (grind (arith, nat_tests)))

-- both of two beginnings begin the longer
pub longer_both : (a b log : List Event) → IsPrefix a log → IsPrefix b log → IsPrefix a (longer a b) × IsPrefix b (longer a b)
longer_both a b log p q = longer_by a b log p q (nat_le (length a) (length b)) refl

module _ (load : Workload) (log : List Event) (t c : ℕ) (homes : Homes) (hs : List Hold) (r : Locked load log t c homes hs) (id : ℕ) (h : Hold) (at : get_elem? hs id ≡ some h) where
  -- with the turn free the journal is at home
  pub at_home : t ≡ 0 → Home log homes
  at_home free = r.home (let le = total_le away_of busy_of hs (λ y. away_busy y.stage) in let u = r.turns in omega arith)

  -- who has the journal has seen it
  pub holder_saw : h.stage ≡ Out → h.now.seen ≡ log
  holder_saw is = let b : busy h.stage ≡ 1 = ap busy is in ((r.each id h at).holding (omega arith)).0

  pub holder_duty : h.stage ≡ Out → HasDuty h.now.duties
  holder_duty is = let b : busy h.stage ≡ 1 = ap busy is in ((r.each id h at).holding (omega arith)).1

  -- who is there knows the workload
  pub right_load : 0 < lives h.stage → h.load ≡ load
  right_load = (r.each id h at).plan

  -- nobody else has a duty that this pass has
  pub alone : (x : ℕ) → 0 < has number x h.now.duties → (j : ℕ) (y : Hold) → get_elem? hs j ≡ some y → j ≢ id → has number x y.now.duties ≡ 0
  alone x duty j y e ne = omega (arith, total_two (has_of x) hs id j h y at e ne, r.duties x, r.single x)

  -- the turn is taken, and the journal goes out
  pub takes : t ≡ 0 → h.stage ≡ Idle → HasDuty h.now.duties → Locked load log 1 c (set homes 0 none) (set hs id (plain h.load (known log h.now.duties) Out))
  takes free is duty = let h' : Hold = plain h.load (known log h.now.duties) Out in let b : busy h.stage ≡ 0 = ap busy is in let a : away h.stage ≡ 0 = ap away is in let l : lives h.stage ≡ 1 = ap lives is in record {
    run = r.run;
    counted = r.counted;
    one = omega arith;
    turns = omega (arith, total_set busy_of hs id h h' at, r.turns);
    home = λ z. absurd (omega (arith, total_set away_of hs id h h' at));
    single = r.single;
    duties = λ x. omega (arith, total_set (has_of x) hs id h h' at, r.duties x);
    known = r.known;
    each = each_set load log hs id h' (plain_fits load log h.load (known log h.now.duties) Out (λ _. (r.each id h at).plan (omega arith)) record { begins = prefix_self log; complete = λ x _. refl } (λ _. (refl, duty))) (λ j y _. r.each j y);
  }

  -- the journal comes home with more events, of the duties that its holder has
  pub counts : h.stage ≡ Out → (w : Book) → IsRun load w.log → IsPrefix h.now.seen w.log → ((x : ℕ) → has number x h.now.duties ≡ 0 → often x w.log ≡ often x h.now.seen) → 0 < length homes
      → Locked load w.log t (length w.log) (set homes 0 (some (Some w))) (set hs id (plain h.load (known w.log h.now.duties) Back))
  counts is w run more only room =
      let h' : Hold = plain h.load (known w.log h.now.duties) Back in let b : busy h.stage ≡ 1 = ap busy is in let l : lives h.stage ≡ 1 = ap lives is in let here = (r.each id h at).holding (omega arith) in
      let grows : IsPrefix log w.log = subst (λ (l : List Event). IsPrefix l w.log) here.0 more in
      let only' : (x : ℕ) → has number x h.now.duties ≡ 0 → often x w.log ≡ often x log = λ x none. only x none ∙ ap (often x) here.0 in record {
        run = run;
        counted = refl;
        one = r.one;
        turns = omega (arith, total_set busy_of hs id h h' at, r.turns);
        home = λ _. (w, refl, set_here homes 0 (some (Some w)) room);
        single = r.single;
        duties = λ x. omega (arith, total_set (has_of x) hs id h h' at, r.duties x);
        known = λ x z. only' x (omega (arith, total_one (has_of x) hs id h at, r.duties x)) ∙ r.known x z;
        each = each_set load w.log hs id h' (plain_fits load w.log h.load (known w.log h.now.duties) Back (λ _. (r.each id h at).plan (omega arith)) record { begins = prefix_self w.log; complete = λ x _. refl } (λ _. (refl, here.1)))
            (λ j y ne e. (let f = r.each j y e in
            let others : (ds : List Duty) → ((x : ℕ) → 0 < has number x ds → 0 < has number x y.now.duties) → SameFor ds log w.log =
            λ ds mine x p. (let q = mine x p in only' x (omega (arith, total_two (has_of x) hs id j h y at e ne, r.duties x, r.single x))) in record {
              plan = f.plan;
              now = knows_more log w.log y.now grows (others y.now.duties (λ x p. p)) f.now;
              left = knows_more log w.log y.left grows (others y.left.duties (λ x p. f.parts.0 x p)) f.left;
              right = knows_more log w.log y.right grows (others y.right.duties (λ x p. f.parts.1 x p)) f.right;
              no_less = f.no_less;
              parts = f.parts;
              holding = λ p. absurd (omega (arith, total_two busy_of hs id j h y at e ne, r.turns, r.one));
            }));
      }

  -- the turn is given back
  pub frees : h.stage ≡ Back → Locked load log 0 c homes (set hs id (plain h.load (known h.now.seen h.now.duties) Idle))
  frees is =
      let h' : Hold = plain h.load (known h.now.seen h.now.duties) Idle in let b : busy h.stage ≡ 1 = ap busy is in let a : away h.stage ≡ 0 = ap away is in let l : lives h.stage ≡ 1 = ap lives is in let f = r.each id h at in record {
        run = r.run;
        counted = r.counted;
        one = omega arith;
        turns = omega (arith, total_set busy_of hs id h h' at, r.turns, r.one);
        home = λ z. r.home (omega (arith, total_set away_of hs id h h' at));
        single = r.single;
        duties = λ x. omega (arith, total_set (has_of x) hs id h h' at, r.duties x);
        known = r.known;
        each = each_set load log hs id h' (plain_fits load log h.load (known h.now.seen h.now.duties) Idle (λ _. f.plan (omega arith)) record { begins = f.now.begins; complete = f.now.complete } (λ p. absurd (omega arith))) (λ j y _. r.each j y);
      }

  -- what two passes knew that became this one is forgotten
  pub forgets : Locked load log t c homes (set hs id (plain h.load h.now h.stage))
  forgets =
      let h' : Hold = plain h.load h.now h.stage in let f = r.each id h at in record {
        run = r.run;
        counted = r.counted;
        one = r.one;
        turns = omega (arith, total_set busy_of hs id h h' at, r.turns);
        home = λ z. r.home (omega (arith, total_set away_of hs id h h' at));
        single = r.single;
        duties = λ x. omega (arith, total_set (has_of x) hs id h h' at, r.duties x);
        known = r.known;
        each = each_set load log hs id h' (plain_fits load log h.load h.now h.stage f.plan f.now f.holding) (λ j y _. r.each j y);
      }

  -- the duties ds go to a new pass
  pub splits : h.stage ≡ Idle → (ds : List Duty) → Among number ds h.now.duties
      → Locked load log t c homes (set hs id (plain h.load (known h.now.seen (minus number h.now.duties ds)) h.stage) ++ plain h.load (known h.now.seen ds) Idle ∷ [])
  splits is ds among =
      let h' : Hold = plain h.load (known h.now.seen (minus number h.now.duties ds)) h.stage in let g : Hold = plain h.load (known h.now.seen ds) Idle in let f = r.each id h at in let hs' : List Hold = set hs id h' in
      let b : busy h.stage ≡ 0 = ap busy is in let l : lives h.stage ≡ 1 = ap lives is in record {
        run = r.run;
        counted = r.counted;
        one = r.one;
        turns = omega (arith, total_set busy_of hs id h h' at, total_snoc busy_of hs' g, r.turns);
        home = λ z. r.home (omega (arith, total_set away_of hs id h h' at, total_snoc away_of hs' g));
        single = r.single;
        duties = λ x. omega (arith, total_set (has_of x) hs id h h' at, total_snoc (has_of x) hs' g, has_minus number h.now.duties ds among x, r.duties x);
        known = r.known;
        each = each_more load log hs' g (plain_fits load log h.load (known h.now.seen ds) Idle (λ _. f.plan (omega arith)) record { begins = f.now.begins; complete = λ x p. f.now.complete x (omega (arith, among x)) } (λ p. absurd (omega arith)))
            (each_set load log hs id h'
            (plain_fits load log h.load (known h.now.seen (minus number h.now.duties ds)) h.stage f.plan record { begins = f.now.begins; complete = λ x p. f.now.complete x (omega (arith, has_minus number h.now.duties ds among x)) } (λ p. absurd (omega arith)))
            (λ j y _. r.each j y));
      }

  both_know : (k l : Known) → Knows log k → Knows log l → (b : Bool) → nat_le (length k.seen) (length l.seen) ≡ b
      → Knows log (known (cond b l.seen k.seen) (k.duties ++ l.duties)) × (length k.seen ≤ length (cond b l.seen k.seen)) × (length l.seen ≤ length (cond b l.seen k.seen))
  both_know k l a g true is = let less : length k.seen ≤ length l.seen = grind (arith, nat_tests) in let w = within log k l a g less in (
    record {
      begins = g.begins;
      complete = λ x p. dite (ℕ_discrete (has number x k.duties) 0) (λ z. g.complete x (omega (arith, has_append number x k.duties l.duties))) (λ some_here. a.complete x (omega arith) ∙ sym (w.1 x (omega arith)));
    },
    less,
    le_refl (length l.seen),
  )
  both_know k l a g false is = let less : length l.seen ≤ length k.seen = grind (arith, nat_tests) in let w = within log l k g a less in (
    record {
      begins = a.begins;
      complete = λ x p. dite (ℕ_discrete (has number x k.duties) 0) (λ z. (let q : 0 < has number x l.duties = omega (arith, has_append number x k.duties l.duties) in g.complete x q ∙ sym (w.1 x q))) (λ some_here. a.complete x (omega arith));
    },
    le_refl (length k.seen),
    less,
  )

  -- one pass takes in another
  pub joins : h.stage ≡ Idle → (other : ℕ) (y : Hold) → other ≢ id → get_elem? (set hs id record { load = h.load; now = both_known h.now y.now; left = h.now; right = y.now; stage = h.stage }) other ≡ some y → y.stage ≡ Idle
      → Locked load log t c homes (set (set hs id record { load = h.load; now = both_known h.now y.now; left = h.now; right = y.now; stage = h.stage }) other (plain no_load nothing Spent))
  joins is other y ne bt too =
      let h' : Hold = record { load = h.load; now = both_known h.now y.now; left = h.now; right = y.now; stage = h.stage } in let e : Hold = plain no_load nothing Spent in let hs' : List Hold = set hs id h' in
      let there : get_elem? hs other ≡ some y = sym (set_else hs id other h' ne) ∙ bt in let f = r.each id h at in let g = r.each other y there in
      let both = both_know h.now y.now f.now g.now (nat_le (length h.now.seen) (length y.now.seen)) refl in
      let b : busy y.stage ≡ 0 = ap busy too in let a : away y.stage ≡ 0 = ap away too in let idle : busy h.stage ≡ 0 = ap busy is in record {
        run = r.run;
        counted = r.counted;
        one = r.one;
        turns = omega (arith, total_set busy_of hs id h h' at, total_set busy_of hs' other y e bt, r.turns);
        home = λ z. r.home (omega (arith, total_set away_of hs id h h' at, total_set away_of hs' other y e bt));
        single = r.single;
        duties = λ x. omega (arith, total_set (has_of x) hs id h h' at, total_set (has_of x) hs' other y e bt, has_append number x h.now.duties y.now.duties, r.duties x);
        known = r.known;
        each = each_set load log hs' other e (plain_fits load log no_load nothing Spent (λ p. absurd (omega arith)) (knows_nothing log) (λ p. absurd (omega arith)))
            (λ j z _. each_set load log hs id h' record {
              plan = f.plan;
              now = both.0;
              left = f.now;
              right = g.now;
              no_less = (both.1, both.2);
              parts = ((λ x p. omega (arith, has_append number x h.now.duties y.now.duties)), (λ x p. omega (arith, has_append number x h.now.duties y.now.duties)));
              holding = λ p. absurd (omega arith);
            }
            (λ i u _. r.each i u) j z);
      }

  -- who has every duty has seen all, and the journal is at home
  pub closes : h.stage ≡ Idle → Among number (all_duties load) h.now.duties → Home log homes × (log ≡ h.now.seen)
  closes is all = (r.home none_out, whole)
    where
      all_seen : (x : ℕ) → often x log ≡ often x h.now.seen
      all_seen x = let f = (r.each id h at).now in let up = often_prefix x h.now.seen log f.begins in
          dite (ℕ_discrete (has number x (all_duties load)) 0) (λ z. omega (arith, r.known x z)) (λ some_there. f.complete x (omega (arith, all x)))

      whole : log ≡ h.now.seen
      whole = let f = (r.each id h at).now in let rest : List Event = f.begins.0 in
          let gone : rest ≡ [] = none_often rest (λ x. omega (arith, all_seen x, sym (ap (often x) f.begins.1), often_append x h.now.seen rest)) in
          sym f.begins.1 ∙ (ap (λ z. h.now.seen ++ z) gone ∙ append-nil h.now.seen)

      none_out : total away_of hs ≡ 0
      none_out = dite (ℕ_discrete (total away_of hs) 0) (λ z. z) (λ more. absurd (
          let s = total_some away_of hs (omega arith) in let j = s.0 in let y = s.1 in let f = r.each j y s.2 in let b : away y.stage ≤ busy y.stage = away_busy y.stage in
          let out : 0 < away y.stage = s.3 in
          let duty = (f.holding (omega arith)).1 in let x = duty.0 in let low : 0 < has number x y.now.duties = duty.1 in
          dite (ℕ_discrete j id) (λ e. (let same : y ≡ h = some-injective y h (sym s.2 ∙ (ap (get_elem? hs) e ∙ at)) in let i : away y.stage ≡ 0 = ap away_of same ∙ ap away is in omega arith))
          (λ ne. omega (arith, total_one (has_of x) hs j y s.2, total_two (has_of x) hs id j h y at s.2 ne, r.duties x, r.single x, all x))))
