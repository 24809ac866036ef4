-- Ties of duties: all duties are tied, and what is put together of tied ones; what a session's duties leave behind.
use Rattle.std.proofs.Common.{◌≡◌, ◌≢◌, ◌⊎◌, ℕ, zero, suc, ◌+◌, ◌*◌, ◌<◌, ◌≤◌, ◌==◌, cond, nat_le, List, [], ◌∷◌, ◌++◌, length, set, refl, ap, sym, ◌∙◌, subst, ⊎_elim, arith}
use Rattle.std.proofs.lemmas.Bool.Decides.{nat_tests}
use mathlib.Core.Logic.{dite}
use mathlib.Core.Option.{some}
use native.Mathlib.Decide.{ℕ_discrete}
use lib.ListN.{get_elem?}
use Rattle.atomic_table.proofs.Lists.{at_set, at_snoc}
use Rattle.abstract_log.specs.declared.command.Workload.{Workload}
use Rattle.abstract_log.specs.Worlds.{plan_of}
use Rattle.journal_lock.specs.declared.duty.Duty.{Duty}
use Rattle.journal_lock.specs.declared.duty.Duty.TheVariants.{Token, Table, Batcher, Queue, Filter, Session, Draft}
use Rattle.journal_lock.specs.Duties.{number, has, minus, session_duties, dc_duties, all_duties, Among, Has}
use Rattle.journal_lock.specs.Ties.{members_among, hosts_of_draft, IsTied, AllTied}
use Rattle.journal_lock.proofs.Lists.{has_append, has_cons, has_minus, nothing_left}
use Rattle.journal_lock.proofs.Numbers.{below, has_dcs, has_sessions}
use Rattle.journal_lock.proofs.Pairs.{session_of}

members_append : (f : ℕ → Duty) (n : ℕ) (xs ys : List Duty) → members_among f n (xs ++ ys) ≡ members_among f n xs + members_among f n ys
members_append f zero xs ys = refl
members_append f (suc n) xs ys = omega (arith, has_append number (number (f n)) xs ys, members_append f n xs ys)

members_minus : (f : ℕ → Duty) (n : ℕ) (xs ys : List Duty) → Among number ys xs → members_among f n (minus number xs ys) + members_among f n ys ≡ members_among f n xs
members_minus f zero xs ys among = refl
members_minus f (suc n) xs ys among = omega (arith, has_minus number xs ys among (number (f n)), members_minus f n xs ys among)

members_none : (f : ℕ → Duty) (n : ℕ) (ds : List Duty) → ((k : ℕ) → k < n → has number (number (f k)) ds ≡ 0) → members_among f n ds ≡ 0
members_none f zero ds none = refl
members_none f (suc n) ds none = omega (arith, none n (omega arith), members_none f n ds (λ k low. none k (omega arith)))

hosts_append : (s d : ℕ) (xs ys : List Duty) → hosts_of_draft s d (xs ++ ys) ≡ hosts_of_draft s d xs + hosts_of_draft s d ys
hosts_append s d xs ys = omega (arith, has_append number (number (Session s)) xs ys, members_append (λ m. Batcher d m) 16 xs ys, members_append (λ m. Filter d m) 16 xs ys, members_append (λ m. Queue d m) 16 xs ys)

-- no duties are tied
pub none_tied : (load : Workload) (ds : List Duty) → ((x : ℕ) → has number x ds ≡ 0) → IsTied load ds
none_tied load ds none = record { token = λ d low h. absurd (omega (arith, none (number (Token d)))); draft = λ s low home h. absurd (omega (arith, none (number (Draft s)))) }

-- two lists of tied duties are so together
pub both_tied : (load : Workload) (xs ys : List Duty) → IsTied load xs → IsTied load ys → IsTied load (xs ++ ys)
both_tied load xs ys a b = record {
  token = λ d low h. (let sum = has_append number (number (Token d)) xs ys in let m = members_append (λ m. Queue d m) 16 xs ys in
      dite (ℕ_discrete (has number (number (Token d)) xs) 0) (λ none. omega (arith, b.token d low (omega arith))) (λ some_there. omega (arith, a.token d low (omega arith))));
  draft = λ s low home h. (let sum = has_append number (number (Draft s)) xs ys in let m = hosts_append s (plan_of load s).home xs ys in
      dite (ℕ_discrete (has number (number (Draft s)) xs) 0) (λ none. omega (arith, b.draft s low home (omega arith))) (λ some_there. omega (arith, a.draft s low home (omega arith))));
}

total_is : (load : Workload) (x : ℕ) → has number x (all_duties load) + below x 528 ≡ below x (528 + 2 * length load.sessions) + below x (66 * load.dcs)
total_is load x = omega (arith, has_append number x (session_duties (length load.sessions)) (dc_duties load.dcs), has_dcs x load.dcs, has_sessions x (length load.sessions))

token_low : (d n c : ℕ) → d < 8 → 0 < below (66 * d) (66 * c) + below (66 * d) (528 + 2 * n) → below (66 * d) 528 < below (66 * d) (66 * c) + below (66 * d) (528 + 2 * n) → d < c
token_low d n c low some_there more = grind (arith, nat_tests)

queue_there : (d n c : ℕ) → d < c → c ≤ 8 → below (66 * d + 33) 528 + 1 ≤ below (66 * d + 33) (528 + 2 * n) + below (66 * d + 33) (66 * c)
queue_there d n c low few = grind (arith, nat_tests)

draft_low : (s n c : ℕ) → c ≤ 8 → below (529 + 2 * s) 528 < below (529 + 2 * s) (528 + 2 * n) + below (529 + 2 * s) (66 * c) → s < n
draft_low s n c few more = grind (arith, nat_tests)

session_there : (s n c : ℕ) → s < n → below (528 + 2 * s) 528 + 1 ≤ below (528 + 2 * s) (528 + 2 * n) + below (528 + 2 * s) (66 * c)
session_there s n c low = grind (arith, nat_tests)

pub all_tied : (load : Workload) → load.dcs ≤ 8 → IsTied load (all_duties load)
all_tied load few = let n : ℕ = length load.sessions in record {
  token = λ d low h. (let t = total_is load (66 * d) in let here = token_low d n load.dcs low (omega arith) (omega arith) in let q = queue_there d n load.dcs here few in let u = total_is load (66 * d + 33) in
      let e : has number (number (Queue d 15)) (all_duties load) ≡ has number (66 * d + 33) (all_duties load) = ap (λ x. has number x (all_duties load)) (let w : number (Queue d 15) ≡ 66 * d + 33 = omega arith in w) in omega arith);
  draft = λ s low home h. (let t = total_is load (529 + 2 * s) in let here = draft_low s n load.dcs few (omega arith) in let q = session_there s n load.dcs here in let u = total_is load (528 + 2 * s) in omega arith);
}

-- a session's duties

in_session : (x s : ℕ) → has number x (session_of s) ≡ cond (528 + 2 * s == x) 1 0 + cond (529 + 2 * s == x) 1 0
in_session x s = omega (arith, has_cons number x (Session s) (Draft s ∷ []), has_cons number x (Draft s) [])

apart : (x s : ℕ) → x < 528 → has number x (session_of s) ≡ 0
apart x s low = in_session x s ∙ (let e : cond {A = ℕ} (528 + 2 * s == x) 1 0 + cond {A = ℕ} (529 + 2 * s == x) 1 0 ≡ 0 = grind (arith, nat_tests) in e)

stages_apart : (d s : ℕ) → d < 8 → (members_among (λ m. Batcher d m) 16 (session_of s) ≡ 0) × (members_among (λ m. Filter d m) 16 (session_of s) ≡ 0) × (members_among (λ m. Queue d m) 16 (session_of s) ≡ 0)
stages_apart d s low = (
  members_none (λ m. Batcher d m) 16 (session_of s) (λ k few. apart (number (Batcher d k)) s (omega arith)),
  members_none (λ m. Filter d m) 16 (session_of s) (λ k few. apart (number (Filter d k)) s (omega arith)),
  members_none (λ m. Queue d m) 16 (session_of s) (λ k few. apart (number (Queue d k)) s (omega arith)),
)

own_draft : (s t : ℕ) → 0 < cond {A = ℕ} (528 + 2 * s == 529 + 2 * t) 1 0 + cond {A = ℕ} (529 + 2 * s == 529 + 2 * t) 1 0 → s ≡ t
own_draft s t more = grind (arith, nat_tests)

own_session : (s : ℕ) → cond {A = ℕ} (528 + 2 * s == 528 + 2 * s) 1 0 + cond {A = ℕ} (529 + 2 * s == 528 + 2 * s) 1 0 ≡ 1
own_session s = grind (arith, nat_tests)

both_drafts : (s : ℕ) → cond {A = ℕ} (528 + 2 * s == 529 + 2 * s) 1 0 + cond {A = ℕ} (529 + 2 * s == 529 + 2 * s) 1 0 ≡ 1
both_drafts s = grind (arith, nat_tests)

other_session : (s t : ℕ) → s ≢ t → cond {A = ℕ} (528 + 2 * s == 528 + 2 * t) 1 0 + cond {A = ℕ} (529 + 2 * s == 528 + 2 * t) 1 0 ≡ 0
other_session s t ne = grind (arith, nat_tests)

-- a session with its draft is tied
pub session_tied : (load : Workload) (s : ℕ) → IsTied load (session_of s)
session_tied load s = record {
  token = λ d low h. absurd (omega (arith, apart (number (Token d)) s (omega arith)));
  draft = λ t low home h. (let same = own_draft s t (let e = in_session (529 + 2 * t) s in omega arith) in
      let e = in_session (528 + 2 * s) s in let one = own_session s in let here : has number (528 + 2 * t) (session_of s) ≡ has number (528 + 2 * s) (session_of s) = ap (λ i. has number (528 + 2 * i) (session_of s)) (sym same) in omega arith);
}

-- what is left of tied duties without those of a session is tied, where no duty stands twice
pub rest_tied : (load : Workload) (ds : List Duty) (s : ℕ) → IsTied load ds → ((x : ℕ) → has number x ds ≤ 1) → Among number (session_of s) ds → IsTied load (minus number ds (session_of s))
rest_tied load ds s tied once among = record {
  token = λ d low h. (let none = apart (number (Token d)) s (omega arith) in let less = has_minus number ds (session_of s) among (number (Token d)) in let out = stages_apart d s low in
      omega (arith, tied.token d low (omega arith), members_minus (λ m. Queue d m) 16 ds (session_of s) among));
  draft = λ t low home h. (let less = has_minus number ds (session_of s) among (529 + 2 * t) in let d : ℕ = (plan_of load t).home in let out = stages_apart d s home in
      dite (ℕ_discrete s t)
      (λ same. (let e = in_session (529 + 2 * s) s in let one = both_drafts s in let here : has number (529 + 2 * t) (session_of s) ≡ has number (529 + 2 * s) (session_of s) = ap (λ i. has number (529 + 2 * i) (session_of s)) (sym same) in
      absurd (omega (arith, once (529 + 2 * t)))))
      (λ ne. (let e = in_session (528 + 2 * t) s in let none = other_session s t ne in let more = has_minus number ds (session_of s) among (528 + 2 * t) in
      omega (arith, tied.draft t low home (omega arith), members_minus (λ m. Batcher d m) 16 ds (session_of s) among, members_minus (λ m. Filter d m) 16 ds (session_of s) among, members_minus (λ m. Queue d m) 16 ds (session_of s) among))));
}

pub rest_once : (ds : List Duty) (s : ℕ) → ((x : ℕ) → has number x ds ≤ 1) → Among number (session_of s) ds → (x : ℕ) → has number x (minus number ds (session_of s)) ≤ 1
rest_once ds s once among x = omega (arith, once x, has_minus number ds (session_of s) among x)

-- a table's duty

in_table : (x d : ℕ) → x ≢ 66 * d + 1 → has number x (Table d ∷ []) ≡ 0
in_table x d ne = let e : cond {A = ℕ} (66 * d + 1 == x) 1 0 ≡ 0 = grind (arith, nat_tests) in omega (arith, has_cons number x (Table d) [], e)

stages_beside : (e d : ℕ) → (members_among (λ m. Batcher e m) 16 (Table d ∷ []) ≡ 0) × (members_among (λ m. Filter e m) 16 (Table d ∷ []) ≡ 0) × (members_among (λ m. Queue e m) 16 (Table d ∷ []) ≡ 0)
stages_beside e d = (
  members_none (λ m. Batcher e m) 16 (Table d ∷ []) (λ k few. in_table (number (Batcher e k)) d (λ is. omega arith)),
  members_none (λ m. Filter e m) 16 (Table d ∷ []) (λ k few. in_table (number (Filter e k)) d (λ is. omega arith)),
  members_none (λ m. Queue e m) 16 (Table d ∷ []) (λ k few. in_table (number (Queue e k)) d (λ is. omega arith)),
)

-- a table alone is tied
pub table_tied : (load : Workload) (d : ℕ) → d < 8 → IsTied load (Table d ∷ [])
table_tied load d small = record {
  token = λ e low h. absurd (omega (arith, in_table (66 * e) d (λ is. omega arith)));
  draft = λ s low home h. absurd (omega (arith, in_table (529 + 2 * s) d (λ is. omega arith)));
}

-- tied duties without a table are tied
pub rest_of_table : (load : Workload) (ds : List Duty) (d : ℕ) → d < 8 → IsTied load ds → Among number (Table d ∷ []) ds → IsTied load (minus number ds (Table d ∷ []))
rest_of_table load ds d small tied among = record {
  token = λ e low h. (let none = in_table (66 * e) d (λ is. omega arith) in let less = has_minus number ds (Table d ∷ []) among (66 * e) in let out = stages_beside e d in
      omega (arith, tied.token e low (omega arith), members_minus (λ m. Queue e m) 16 ds (Table d ∷ []) among));
  draft = λ t low home h. (let e : ℕ = (plan_of load t).home in let out = stages_beside e d in
      let none = in_table (529 + 2 * t) d (λ is. omega arith) in let less = has_minus number ds (Table d ∷ []) among (529 + 2 * t) in
      let other = in_table (528 + 2 * t) d (λ is. omega arith) in let more = has_minus number ds (Table d ∷ []) among (528 + 2 * t) in
      omega (arith, tied.draft t low home (omega arith), members_minus (λ m. Batcher e m) 16 ds (Table d ∷ []) among, members_minus (λ m. Filter e m) 16 ds (Table d ∷ []) among, members_minus (λ m. Queue e m) 16 ds (Table d ∷ []) among));
}

-- steps

module _ (load : Workload) (xs : List (List Duty)) (r : AllTied load xs) (id : ℕ) where
  pub set_tied : (ds : List Duty) → IsTied load ds → AllTied load (set xs id ds)
  set_tied ds mine j es e = ⊎_elim (λ (t : (j ≡ id) × (ds ≡ es)). subst (IsTied load) t.1 mine) (λ (t : (j ≢ id) × (get_elem? xs j ≡ some es)). r j es t.1) (at_set xs id j ds es e)

  pub split_tied : (ds gs : List Duty) → IsTied load ds → IsTied load gs → AllTied load (set xs id ds ++ gs ∷ [])
  split_tied ds gs a b j es e = ⊎_elim (set_tied ds a j es) (λ (t : gs ≡ es). subst (IsTied load) t b) (at_snoc (set xs id ds) gs es j e)
