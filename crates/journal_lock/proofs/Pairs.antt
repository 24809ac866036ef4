-- For two threads with a session each.
use Rattle.std.proofs.Common.{◌≡◌, ◌≢◌, ℕ, ◌+◌, ◌*◌, ◌<◌, ◌≤◌, ◌==◌, cond, List, [], ◌∷◌, ◌++◌, length, ap, ◌∙◌, arith}
use Rattle.std.proofs.lemmas.Bool.Decides.{nat_tests}
use Rattle.std.proofs.lemmas.List.{get_or-map, length-map}
use Rattle.abstract_log.specs.declared.command.SessionPlan.{SessionPlan}
use Rattle.abstract_log.specs.declared.command.Workload.{Workload}
use Rattle.abstract_log.specs.declared.event.Event.{Event}
use Rattle.abstract_log.specs.declared.event.Event.TheVariants.{Submit}
use Rattle.abstract_log.specs.declared.world.Standing.{Standing}
use Rattle.abstract_log.specs.declared.world.World.{World}
use Rattle.abstract_log.specs.Commands.{no_plan}
use Rattle.abstract_log.specs.Worlds.{standing_of, plan_of, nowhere, start, first_standing}
use Rattle.abstract_log.specs.Steps.{CanHappen}
use Rattle.abstract_log.specs.Runs.{world_of}
use Rattle.journal_lock.specs.declared.duty.Duty.{Duty}
use Rattle.journal_lock.specs.declared.duty.Duty.TheVariants.{Session, Draft}
use Rattle.journal_lock.specs.Duties.{number, has, minus, often, all_duties, session_duties, dc_duties, Among}
use Rattle.journal_lock.specs.Law.{SameFor, HasCommands}
use Rattle.journal_lock.proofs.Lists.{has_append, has_minus, has_cons, often_snoc}
use Rattle.journal_lock.proofs.Numbers.{below, has_sessions}
use Rattle.journal_lock.proofs.Standing.{stays, standing_stays, same_plan}

-- the duties of a session
abbrev pub session_of : ℕ → List Duty
session_of s = Session s ∷ Draft s ∷ []

-- where no event was of the session, its first command can begin
pub can_begin : (load : Workload) (log : List Event) (s : ℕ) → HasCommands load s → often (number (Session s)) log ≡ 0 → CanHappen (world_of load log) (Submit s 1)
can_begin load log s h none =
    let w0 : World = start load in let w : World = world_of load log in
    let plan = same_plan w0 log in
    let st : standing_of w s ≡ first_standing load.dcs = stays (λ (v : World). standing_of v s) (number (Session s)) (standing_stays s) w0 log none
    ∙ get_or-map (λ (_ : SessionPlan). first_standing load.dcs) load.sessions s no_plan nowhere h.0 in
    let count : length w.sessions ≡ length load.sessions = plan.1 ∙ length-map load.sessions (λ (_ : SessionPlan). first_standing load.dcs) in
    let answered : (standing_of w s).answered ≡ 0 = ap (λ (x : Standing). x.answered) st in
    let commands : length (plan_of w.workload s).commands ≡ length (plan_of load s).commands = ap (λ (l : Workload). length (plan_of l s).commands) plan.0 in
    let has_one = h.1 in let low = h.0 in (
      omega arith,
      (ap (λ (x : Standing). x.begun) st, ((omega arith, omega arith), tt)),
    )

pub begun_once : (s : ℕ) (log : List Event) → often (number (Session s)) log ≡ 0 → often (number (Session s)) (log ++ Submit s 1 ∷ []) ≡ 1
begun_once s log none =
    let x : ℕ = number (Session s) in let a = has_cons number x (Session s) (Draft s ∷ []) in let b = has_cons number x (Draft s) [] in
    let self : cond {A = ℕ} (528 + 2 * s == 528 + 2 * s) 1 0 ≡ 1 = grind (arith, nat_tests) in
    let other : cond {A = ℕ} (529 + 2 * s == 528 + 2 * s) 1 0 ≡ 0 = grind (arith, nat_tests) in omega (arith, often_snoc x log (Submit s 1))

pub has_session : (s : ℕ) → 0 < has number (number (Session s)) (session_of s)
has_session s = Rattle.journal_lock.proofs.Lists.has_self number (Session s) (Draft s ∷ [])

has_two : (x s : ℕ) → has number x (session_of s) ≡ cond (528 + 2 * s == x) 1 0 + cond (529 + 2 * s == x) 1 0
has_two x s = omega (arith, has_cons number x (Session s) (Draft s ∷ []), has_cons number x (Draft s) [])

apart : (x a b n : ℕ) → a ≢ b → a < n → b < n → cond (528 + 2 * a == x) 1 0 + cond (529 + 2 * a == x) 1 0 + (cond (528 + 2 * b == x) 1 0 + cond (529 + 2 * b == x) 1 0) + below x 528 ≤ below x (528 + 2 * n)
apart x a b n ne la lb = grind (arith, nat_tests)

inside : (x a n : ℕ) → a < n → cond (528 + 2 * a == x) 1 0 + cond (529 + 2 * a == x) 1 0 + below x 528 ≤ below x (528 + 2 * n)
inside x a n la = grind (arith, nat_tests)

pub first_there : (load : Workload) (ds : List Duty) (a : ℕ) → Among number (all_duties load) ds → HasCommands load a → Among number (session_of a) ds
first_there load ds a all ha x = let n : ℕ = length load.sessions in let p = all x in
    omega (arith, has_append number x (session_duties n) (dc_duties load.dcs), has_sessions x n, has_two x a, inside x a n ha.0)

pub second_there : (load : Workload) (ds : List Duty) (a b : ℕ) → Among number (all_duties load) ds → a ≢ b → HasCommands load a → HasCommands load b → Among number (session_of b) (minus number ds (session_of a))
second_there load ds a b all ne ha hb x = let n : ℕ = length load.sessions in let p = all x in
    omega (arith, has_minus number ds (session_of a) (first_there load ds a all ha) x, has_append number x (session_duties n) (dc_duties load.dcs), has_sessions x n, has_two x a, has_two x b, apart x a b n ne ha.0 hb.0)

-- the parts together are all again
pub all_again : (load : Workload) (ds : List Duty) (a b : ℕ) → Among number (all_duties load) ds → a ≢ b → HasCommands load a → HasCommands load b
    → Among number (all_duties load) ((minus number (minus number ds (session_of a)) (session_of b) ++ session_of a) ++ session_of b)
all_again load ds a b all ne ha hb x = let p = all x in let rest : List Duty = minus number ds (session_of a) in let rest' : List Duty = minus number rest (session_of b) in
    omega (arith, has_minus number ds (session_of a) (first_there load ds a all ha) x, has_minus number rest (session_of b) (second_there load ds a b all ne ha hb) x, has_append number x (rest' ++ session_of a) (session_of b), has_append number x rest' (session_of a))

-- what each saw of its own session is in what both saw
pub both_once : (ds : List Duty) (f s : ℕ) (a b m t : List Event) → often (number (Session f)) a ≡ 1 → often (number (Session s)) b ≡ 1 → SameFor (session_of f) a m → SameFor (ds ++ session_of f) m t → SameFor (session_of s) b t
    → (often (number (Session f)) t ≡ 1) × (often (number (Session s)) t ≡ 1)
both_once ds f s a b m t p q one all two = (
  all (number (Session f)) (omega (arith, has_session f, has_append number (number (Session f)) ds (session_of f))) ∙ (one (number (Session f)) (has_session f) ∙ p),
  two (number (Session s)) (has_session s) ∙ q,
)
