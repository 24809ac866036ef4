-- Turns of settling one after another.
use Rattle.std.proofs.Common.{◌≡◌, Result, Ok, Err, OnOk, ℕ, zero, suc, ◌+◌, ◌<◌, ◌≤◌, Bool, true, false, List, [], ◌∷◌, ◌++◌, length, take, get_or, refl, ap, ap₂, sym, ◌∙◌, subst, arith, add-one, append_assoc, below_more}
use Rattle.std.specs.List.{All, filter, flat_map}
use Rattle.std.proofs.lemmas.Bool.{cond-true, cond-false}
use Rattle.std.proofs.lemmas.List.{append-nil, map-append}
use Rattle.std.proofs.lemmas.List.Elements.{All-filter, All-get_or}
use Rattle.std.proofs.Math.Seq.{take-suc}
use Rattle.abstract_log.specs.declared.command.Workload.{Workload}
use Rattle.abstract_log.specs.declared.script.Script.{Script}
use Rattle.abstract_log.specs.declared.script.Step.{Step}
use Rattle.stage_world.specs.Stages.{Stages}
use Rattle.stage_world.specs.Opening.{opening}
use Rattle.abstract_log.specs.declared.script.Step.TheVariants.{Deliver, Send}
use Rattle.stage_world.specs.LinkTurns.{link_length}
use Rattle.stage_world.specs.Whole.{datacentre_at}
use Rattle.abstract_log.specs.Turns.{AreTwo, IsStep}
use Rattle.stage_world.specs.Schedules.{after_steps, step_of}
use Rattle.stage_world.specs.Settling.{AreSettlingRounds, Errand, IsSettling, all_marks, after_passes, all_rounds, answering_rounds, below, errand_turns, errands, exchange, exchange_turns, has_unanswered, is_answering, has_errand, is_unfinished, marks, rounds, sent_and_delivered, telling_rounds, turns_of_passes}
use Rattle.world.specs.Settled.{HasLooped, Plays}
use Rattle.world.specs.Links.{AreThere, packets_at}
use Rattle.world.proofs.MovingLemmas.{length_are, links_there}
use Rattle.world.proofs.RoundLemmas.{all_below, take_all}
use Rattle.world.proofs.SettlingLemmas.{errands_two, rounds_may}
use Rattle.world.specs.Taking.{HasTaken, HaveTakenTurns, StagesState, TakenTurn, settled, stages_after, steps_of}

pub after_append : (load : Workload) (z : Stages) (xs ys : List Step) → after_steps load z (xs ++ ys) ≡ after_steps load (after_steps load z xs) ys
after_append load z [] ys = refl
after_append load z (x ∷ xs) ys = after_append load (step_of load z x).after xs ys

steps_settled : (xs : List Step) → steps_of (settled xs) ≡ xs
steps_settled [] = refl
steps_settled (x ∷ xs) = ap (λ ys. x ∷ ys) (steps_settled xs)

pub steps_played : (ts : List TakenTurn) (xs : List Step) → steps_of (ts ++ settled xs) ≡ steps_of ts ++ xs
steps_played ts xs = map-append (λ (t : TakenTurn). t.step) ts (settled xs) ∙ ap (λ ys. steps_of ts ++ ys) (steps_settled xs)

pub stages_played : (script : Script) (ts : List TakenTurn) (xs : List Step) → stages_after script (ts ++ settled xs) ≡ after_steps script.workload (stages_after script ts) xs
stages_played script ts xs = ap (after_steps script.workload (opening script)) (steps_played ts xs) ∙ after_append script.workload (opening script) (steps_of ts) xs

abbrev Such : Type 1
Such = Workload → Stages → List Step → Type 0

-- no turn
pub plays_none : (s : StagesState) → Plays (λ load z xs. xs ≡ []) s s
plays_none s script ts h = record { steps = []; are = refl; taken = subst (λ us. HasTaken script us s) (sym (append-nil ts)) h }

-- one turn
pub plays_one : (step : Step) (a b : StagesState) → ((script : Script) (ts : List TakenTurn) → HasTaken script ts a → HasTaken script (ts ++ record { step = step; settling = true } ∷ []) b) → Plays (λ load z xs. xs ≡ step ∷ []) a b
plays_one step a b takes script ts h = record { steps = step ∷ []; are = refl; taken = takes script ts h }

-- the same turns, said in other words
pub plays_as : (P Q : Such) (a b : StagesState) → ((load : Workload) (z : Stages) (xs : List Step) → P load z xs → Q load z xs) → Plays P a b → Plays Q a b
plays_as P Q a b so plays script ts h =
    let one = plays script ts h in record { steps = one.steps; are = so script.workload (stages_after script ts) one.steps one.are; taken = one.taken }

-- turns, and what is known of the stages after them
pub plays_knowing : (P : Such) (Q : Stages → Type 0) (a b : StagesState) → Plays P a b → ((script : Script) (ts : List TakenTurn) → HasTaken script ts b → Q (stages_after script ts)) → Plays (λ load z xs. P load z xs × Q (after_steps load z xs)) a b
plays_knowing P Q a b plays known script ts h =
    let one = plays script ts h in
    record {
      steps = one.steps;
      are = (one.are, subst Q (stages_played script ts one.steps) (known script (ts ++ settled one.steps) one.taken));
      taken = one.taken;
    }

-- turns, and then more
pub plays_then : (P Q R : Such) (a b c : StagesState) → ((load : Workload) (z : Stages) (xs ys : List Step) → P load z xs → Q load (after_steps load z xs) ys → R load z (xs ++ ys)) → Plays P a b → Plays Q b c → Plays R a c
plays_then P Q R a b c joins first second script ts h =
    let one = first script ts h in
    let two = second script (ts ++ settled one.steps) one.taken in
    let z : Stages = stages_after script ts in
    record {
      steps = one.steps ++ two.steps;
      are = joins script.workload z one.steps two.steps one.are (subst (λ y. Q script.workload y two.steps) (stages_played script ts one.steps) two.are);
      taken = subst (λ us. HasTaken script us c) (append_assoc ts (settled one.steps) (settled two.steps) ∙ ap (λ us. ts ++ us) (sym (map-append (λ (s : Step). record { step = s; settling = true }) one.steps two.steps))) two.taken;
    }

-- the stages are those of some turns still, on the same workload
pub still_taken : (P : Such) (a b : StagesState) → Plays P a b → HaveTakenTurns a → HaveTakenTurns b
still_taken P a b plays h = let one = plays h.script h.turns h.taken in record { script = h.script; turns = h.turns ++ settled one.steps; taken = one.taken }

pub workload_kept : (P : Such) (a b : StagesState) → Plays P a b → HaveTakenTurns a → b.workload ≡ a.workload
workload_kept P a b plays h = (plays h.script h.turns h.taken).taken.workload ∙ sym h.taken.workload

-- Turns of a list

abbrev pub AreThese : List Step → Such
AreThese steps load z xs = xs ≡ steps

pub plays_next : (items : List Step) (i : ℕ) (x : Step) (a b c : StagesState) → i < length items → x ≡ get_or items i x → Plays (AreThese (take i items)) a b → Plays (AreThese (x ∷ [])) b c → Plays (AreThese (take (i + 1) items)) a c
plays_next items i x a b c within here =
    plays_then (AreThese (take i items)) (AreThese (x ∷ [])) (AreThese (take (i + 1) items)) a b c
    (λ load z xs ys first second. ap (λ us. us ++ ys) first ∙ ap (λ us. take i items ++ us) (second ∙ ap (λ y. y ∷ []) here) ∙ sym (ap (λ n. take n items) (add-one i) ∙ take-suc items i x within))

-- Errands

errands_push : (load : Workload) (z : Stages) (es : List Errand) (e : Errand) → exchange load z (es ++ e ∷ []) ≡ exchange load z es ++ errand_turns load (after_steps load z (exchange load z es)) e
errands_push load z [] e = append-nil (errand_turns load z e)
errands_push load z (x ∷ es) e =
    let first : List Step = errand_turns load z x in
    let y : Stages = after_steps load z first in
    ap (λ us. first ++ us) (errands_push load y es e)
    ∙ sym (append_assoc first (exchange load y es) (errand_turns load (after_steps load y (exchange load y es)) e))
    ∙ ap (λ u. (first ++ exchange load y es) ++ errand_turns load u e) (sym (after_append load z first (exchange load y es)))

abbrev pub AreErrands : List Errand → Such
AreErrands es load z xs = xs ≡ exchange load z es

pub errands_next : (items : List Errand) (i : ℕ) (x : Errand) (a b c : StagesState) → i < length items → x ≡ get_or items i x → Plays (AreErrands (take i items)) a b → Plays (λ load z xs. xs ≡ errand_turns load z x) b c → Plays (AreErrands (take (i + 1) items)) a c
errands_next items i x a b c within here =
    plays_then (AreErrands (take i items)) (λ load z xs. xs ≡ errand_turns load z x) (AreErrands (take (i + 1) items)) a b c
    (λ load z xs ys first second.
    let done : List Step = exchange load z (take i items) in
    ap (λ us. us ++ ys) first ∙ ap (λ us. done ++ us) (second ∙ ap (λ us. errand_turns load (after_steps load z us) x) first)
    ∙ sym (ap (λ n. exchange load z (take n items)) (add-one i) ∙ ap (exchange load z) (take-suc items i x within ∙ ap (λ y. take i items ++ y ∷ []) (sym here)) ∙ errands_push load z (take i items) x))

-- Loops

-- the turns of some passes, before each of which there was something to do
pub record IsSoFar (goes_on : Stages → Bool) (pass : Workload → Stages → List Step) (load : Workload) (z : Stages) (xs : List Step) : Type 0 where
  pub passes : ℕ
  pub turns : xs ≡ turns_of_passes load pass z passes
  pub before : (m : ℕ) → m < passes → goes_on (after_passes load pass z m) ≡ true

passes_after : (load : Workload) (pass : Workload → Stages → List Step) (z : Stages) (n : ℕ) → after_steps load z (turns_of_passes load pass z n) ≡ after_passes load pass z n
passes_after load pass z zero = refl
passes_after load pass z (suc n) =
    after_append load z (turns_of_passes load pass z n) (pass load (after_passes load pass z n))
    ∙ ap (λ y. after_steps load y (pass load (after_passes load pass z n))) (passes_after load pass z n)

module _ (goes_on : Stages → Bool) (pass : Workload → Stages → List Step) where
  pub after_so_far : (load : Workload) (z : Stages) (xs : List Step) → (so : IsSoFar goes_on pass load z xs) → after_steps load z xs ≡ after_passes load pass z so.passes
  after_so_far load z xs so = ap (after_steps load z) so.turns ∙ passes_after load pass z so.passes

  pub none_so_far : (s : StagesState) → Plays (IsSoFar goes_on pass) s s
  none_so_far s = plays_as (λ load z xs. xs ≡ []) (IsSoFar goes_on pass) s s (λ load z xs is. record { passes = 0; turns = is; before = λ m less. absurd (omega (arith, less)) }) (plays_none s)

  next_before : (n : ℕ) (load : Workload) (z : Stages) → ((m : ℕ) → m < n → goes_on (after_passes load pass z m) ≡ true) → goes_on (after_passes load pass z n) ≡ true → (m : ℕ) → m < n + 1 → goes_on (after_passes load pass z m) ≡ true
  next_before n load z before now m less = below_more _ _ before now m less

  joins_pass : (load : Workload) (z : Stages) (xs ys : List Step) → IsSoFar goes_on pass load z xs × (goes_on (after_steps load z xs) ≡ true) → ys ≡ pass load (after_steps load z xs) → IsSoFar goes_on pass load z (xs ++ ys)
  joins_pass load z xs ys so next =
      let n : ℕ = so.0.passes in
      let at : after_steps load z xs ≡ after_passes load pass z n = after_so_far load z xs so.0 in
      record {
        passes = n + 1;
        turns = ap (λ us. us ++ ys) so.0.turns ∙ ap (λ us. turns_of_passes load pass z n ++ us) (next ∙ ap (pass load) at) ∙ sym (ap (turns_of_passes load pass z) (add-one n));
        before = next_before n load z so.0.before (sym (ap goes_on at) ∙ so.1);
      }

  pub one_pass_more : (a b c : StagesState) → Plays (IsSoFar goes_on pass) a b → ((script : Script) (ts : List TakenTurn) → HasTaken script ts b → goes_on (stages_after script ts) ≡ true) → Plays (λ load z xs. xs ≡ pass load z) b c → Plays (IsSoFar goes_on pass) a c
  one_pass_more a b c so going next =
      plays_then (λ load z xs. IsSoFar goes_on pass load z xs × (goes_on (after_steps load z xs) ≡ true)) (λ load z xs. xs ≡ pass load z) (IsSoFar goes_on pass) a b c joins_pass
      (plays_knowing (IsSoFar goes_on pass) (λ z. goes_on z ≡ true) a b so going) next

  -- nothing was left to do
  pub loop_done : (a b : StagesState) → Plays (IsSoFar goes_on pass) a b → ((script : Script) (ts : List TakenTurn) → HasTaken script ts b → goes_on (stages_after script ts) ≡ false) → Plays (HasLooped goes_on pass) a b
  loop_done a b so ended =
      plays_as (λ load z xs. IsSoFar goes_on pass load z xs × (goes_on (after_steps load z xs) ≡ false)) (HasLooped goes_on pass) a b
      (λ load z xs is. record { passes = is.0.passes; loop = record { turns = is.0.turns; before = is.0.before; ends = sym (ap goes_on (after_so_far load z xs is.0)) ∙ is.1 } })
      (plays_knowing (IsSoFar goes_on pass) (λ z. goes_on z ≡ false) a b so ended)

-- a round of each, then an exchange
pub plays_telling : (a b c : StagesState) → Plays (λ load z xs. xs ≡ all_rounds z) a b → Plays (λ load z xs. xs ≡ exchange_turns load z) b c → Plays (λ load z xs. xs ≡ telling_rounds load z) a c
plays_telling a b c =
    plays_then (λ load z xs. xs ≡ all_rounds z) (λ load z xs. xs ≡ exchange_turns load z) (λ load z xs. xs ≡ telling_rounds load z) a b c
    (λ load z xs ys first second. ap (λ us. us ++ ys) first ∙ ap (λ us. all_rounds z ++ us) (second ∙ ap (λ us. exchange_turns load (after_steps load z us)) first))

-- both loops, and the last rounds
record AreLoops (load : Workload) (z : Stages) (xs : List Step) : Type 0 where
  answering : List Step
  first : HasLooped is_answering answering_rounds load z answering
  telling : List Step
  second : HasLooped is_unfinished telling_rounds load (after_steps load z answering) telling
  are : xs ≡ answering ++ telling

plays_settling_rounds : (a b c d : StagesState) → Plays (HasLooped is_answering answering_rounds) a b → Plays (HasLooped is_unfinished telling_rounds) b c → Plays (λ load z xs. xs ≡ all_rounds z) c d → Plays AreSettlingRounds a d
plays_settling_rounds a b c d first second last =
    plays_then AreLoops (λ load z xs. xs ≡ all_rounds z) AreSettlingRounds a c d
    (λ load z xs ys loops rounds. record {
      answering = loops.answering;
      answers = loops.first.passes;
      first = loops.first.loop;
      telling = loops.telling;
      tells = loops.second.passes;
      second = loops.second.loop;
      turns = ap (λ us. us ++ ys) loops.are ∙ ap (λ us. loops.answering ++ loops.telling ++ us) (rounds ∙ ap (λ us. all_rounds (after_steps load z us)) loops.are);
    })
    (plays_then (HasLooped is_answering answering_rounds) (HasLooped is_unfinished telling_rounds) AreLoops a b c
    (λ load z xs ys one two. record { answering = xs; first = one; telling = ys; second = two; are = refl }) first second)
    last

-- the marks, and the rounds after them
pub plays_settling : (a m b c d : StagesState) → Plays (λ load z xs. xs ≡ all_marks z) a m → Plays (HasLooped is_answering answering_rounds) m b → Plays (HasLooped is_unfinished telling_rounds) b c
    → Plays (λ load z xs. xs ≡ all_rounds z) c d → Plays IsSettling a d
plays_settling a m b c d marked first second last =
    plays_then (λ load z xs. xs ≡ all_marks z) AreSettlingRounds IsSettling a m d
    (λ load z xs ys first second. record {
      rounds = ys;
      settled = subst (λ us. AreSettlingRounds load (after_steps load z us) ys) first second;
      turns = ap (λ us. us ++ ys) first;
    })
    marked (plays_settling_rounds m b c d first second last)

-- the turn that comes next may be taken
pub item_may : (P : Such) (items : List Step) (i : ℕ) (x : Step) (a b : StagesState) → Plays P a b → HaveTakenTurns a → All (IsStep a.workload) items → i < length items → x ≡ get_or items i x → IsStep b.workload x
item_may P items i x a b plays taken may within here =
    subst (λ l. IsStep l x) (sym (workload_kept P a b plays taken)) (subst (IsStep a.workload) (sym here) (All-get_or (IsStep a.workload) items i x within may))

-- all were taken
pub plays_all : (items : List Step) (i : ℕ) (a b : StagesState) → length items ≤ i → Plays (AreThese (take i items)) a b → Plays (AreThese items) a b
plays_all items i a b past = plays_as (AreThese (take i items)) (AreThese items) a b (λ load z xs is. is ∙ take_all items i past)

-- turns that the stages before them decide
pub plays_these : (steps : List Step) (F : Stages → List Step) (a b : StagesState) → ((script : Script) (ts : List TakenTurn) → HasTaken script ts a → steps ≡ F (stages_after script ts)) → Plays (AreThese steps) a b → Plays (λ load z xs. xs ≡ F z) a b
plays_these steps F a b are plays script ts h =
    let one = plays script ts h in record { steps = one.steps; are = one.are ∙ are script ts h; taken = one.taken }

-- all errands were done
pub errands_all : (items : List Errand) (i : ℕ) (a b : StagesState) → length items ≤ i → ((script : Script) (ts : List TakenTurn) → HasTaken script ts a → items ≡ errands (stages_after script ts)) → Plays (AreErrands (take i items)) a b → Plays (λ load z xs. xs ≡ exchange_turns load z) a b
errands_all items i a b past are plays script ts h =
    let one = plays script ts h in
    record {
      steps = one.steps;
      are = one.are ∙ ap (exchange script.workload (stages_after script ts)) (take_all items i past ∙ are script ts h);
      taken = one.taken;
    }

-- what is to be done next is between two
pub errand_two : (items : List Errand) (i : ℕ) (x : Errand) (a b : StagesState) → Plays (AreErrands (take i items)) a b → HaveTakenTurns a → ((script : Script) (ts : List TakenTurn) → HasTaken script ts a → items ≡ errands (stages_after script ts)) → i < length items → x ≡ get_or items i x
    → AreTwo b.workload.dcs x.from x.to
errand_two items i x a b plays taken are within here =
    let z : Stages = stages_after taken.script taken.turns in
    let P : ℕ → Errand → Type 0 = λ n y. AreTwo n y.from y.to in
    let dcs : length z.datacentres ≡ b.workload.dcs = taken.taken.shown.count ∙ ap (λ (l : Workload). l.dcs) (sym taken.taken.workload ∙ sym (workload_kept (AreErrands (take i items)) a b plays taken)) in
    let all : All (P (length z.datacentres)) items = subst (All (P (length z.datacentres))) (sym (are taken.script taken.turns taken.taken)) (errands_two z) in
    subst (λ n. P n x) dcs (subst (P (length z.datacentres)) (sym here) (All-get_or (P (length z.datacentres)) items i x within all))

-- An errand

pub errand_not_due : (e : Errand) (s : StagesState) → ((script : Script) (ts : List TakenTurn) → HasTaken script ts s → has_errand (stages_after script ts) e ≡ false) → Plays (λ load z xs. xs ≡ errand_turns load z e) s s
errand_not_due e s not_due script ts h =
    let z : Stages = stages_after script ts in
    record {
      steps = [];
      are = sym (cond-false (has_errand z e) (sent_and_delivered script.workload z e) [] (not_due script ts h));
      taken = subst (λ us. HasTaken script us s) (sym (append-nil ts)) h;
    }

pub errand_due : (e : Errand) (a b : StagesState) → ((script : Script) (ts : List TakenTurn) → HasTaken script ts a → has_errand (stages_after script ts) e ≡ true) → Plays (λ load z xs. xs ≡ sent_and_delivered load z e) a b → Plays (λ load z xs. xs ≡ errand_turns load z e) a b
errand_due e a b due plays script ts h =
    let z : Stages = stages_after script ts in
    let one = plays script ts h in
    record {
      steps = one.steps;
      are = one.are ∙ sym (cond-true (has_errand z e) (sent_and_delivered script.workload z e) [] (due script ts h));
      taken = one.taken;
    }

-- a message is sent, and the packet that is then the newest delivered
pub sends_and_delivers : (e : Errand) (n : ℕ) (a b c : StagesState) → Plays (λ load z xs. xs ≡ Send e.from e.sender e.to ∷ []) a b
    → ((script : Script) (ts : List TakenTurn) → HasTaken script ts b → n ≡ link_length (stages_after script ts) e.from e.to)
    → Plays (λ load z xs. xs ≡ Deliver e.from e.to n 0 ∷ []) b c → Plays (λ load z xs. xs ≡ sent_and_delivered load z e) a c
sends_and_delivers e n a b c sent newest delivered =
    let send : Step = Send e.from e.sender e.to in
    plays_then (λ load z xs. (xs ≡ send ∷ []) × (n ≡ link_length (after_steps load z xs) e.from e.to)) (λ load z xs. xs ≡ Deliver e.from e.to n 0 ∷ []) (λ load z xs. xs ≡ sent_and_delivered load z e) a b c
    (λ load z xs ys first second.
    let count : n ≡ link_length (step_of load z send).after e.from e.to = first.1 ∙ ap (λ us. link_length (after_steps load z us) e.from e.to) first.0 in
    ap₂ (λ us vs. us ++ vs) first.0 (second ∙ ap (λ k. Deliver e.from e.to k 0 ∷ []) count))
    (plays_knowing (λ load z xs. xs ≡ send ∷ []) (λ z. n ≡ link_length z e.from e.to) a b sent newest)
    delivered

-- the link is there, and has as many packets as messages
pub link_of : (script : Script) (ts : List TakenTurn) (s : StagesState) (d e : ℕ) → HasTaken script ts s → AreTwo s.workload.dcs d e → AreThere d e s.network.links
link_of script ts s d e h two =
    let dcs : s.workload.dcs ≡ script.workload.dcs = ap (λ (l : Workload). l.dcs) h.workload in
    links_there script.workload.dcs (stages_after script ts) s.network d e h.shown (omega (arith, two.first, dcs)) (omega (arith, two.second, dcs))

pub count_of_link : (script : Script) (ts : List TakenTurn) (s : StagesState) (d e : ℕ) → HasTaken script ts s → length (packets_at s.network.links d e) ≡ link_length (stages_after script ts) d e
count_of_link script ts s d e h = length_are script.workload.dcs (stages_after script ts) s.network d e h.shown

-- the last turn, whatever came of it
pub ended_with : {T E : Type 0} (r : Result T E) (P : Type 0) (step : Step) (b c : StagesState) → ((script : Script) (ts : List TakenTurn) → HasTaken script ts b → OnOk r (HasTaken script (ts ++ record { step = step; settling = true } ∷ []) c))
    → (Plays (λ load z xs. xs ≡ step ∷ []) b c → P) → OnOk r P
ended_with (Ok v) P step b c takes so = so (plays_one step b c takes)
ended_with (Err e) P step b c takes so = tt

-- steps that the stages decide may be played
pub decided_may : (steps : List Step) (ds : List ℕ) (s : StagesState) → (h : HaveTakenTurns s) → All (λ d. d < s.workload.dcs) ds → steps ≡ rounds (stages_after h.script h.turns) ds → All (IsStep s.workload) steps
decided_may steps ds s h there are = subst (All (IsStep s.workload)) (sym are) (rounds_may h.script h.turns s ds h.taken there)

-- rounds of datacentres that the stages decide
pub plays_rounds : (ds : List ℕ) (F : Workload → Stages → List Step) (a b : StagesState) → ((script : Script) (ts : List TakenTurn) → HasTaken script ts a → rounds (stages_after script ts) ds ≡ F script.workload (stages_after script ts))
    → Plays (λ load z xs. xs ≡ rounds z ds) a b → Plays (λ load z xs. xs ≡ F load z) a b
plays_rounds ds F a b are plays script ts h =
    let one = plays script ts h in record { steps = one.steps; are = one.are ∙ are script ts h; taken = one.taken }

-- all datacentres

count_after : (script : Script) (ts : List TakenTurn) (s : StagesState) → HasTaken script ts s → length (stages_after script ts).datacentres ≡ s.workload.dcs
count_after script ts s h = h.shown.count ∙ ap (λ (l : Workload). l.dcs) (sym h.workload)

pub all_are : (script : Script) (ts : List TakenTurn) (s : StagesState) (ds : List ℕ) → HasTaken script ts s → ds ≡ below s.workload.dcs → rounds (stages_after script ts) ds ≡ all_rounds (stages_after script ts)
all_are script ts s ds h is = ap (rounds (stages_after script ts)) (is ∙ ap below (sym (count_after script ts s h)))

pub marks_are : (script : Script) (ts : List TakenTurn) (s : StagesState) (steps : List Step) → HasTaken script ts s → steps ≡ flat_map marks (below s.workload.dcs) → steps ≡ all_marks (stages_after script ts)
marks_are script ts s steps h is = is ∙ ap (λ n. flat_map marks (below n)) (sym (count_after script ts s h))

pub all_within : (s : StagesState) (ds : List ℕ) → ds ≡ below s.workload.dcs → All (λ d. d < s.workload.dcs) ds
all_within s ds is = subst (All (λ d. d < s.workload.dcs)) (sym is) (all_below s.workload.dcs)

-- those with a command that is not answered
pub answering_within : (s : StagesState) (ds : List ℕ) → (h : HaveTakenTurns s) → ds ≡ filter (λ d. has_unanswered (datacentre_at (stages_after h.script h.turns) d)) (below (length (stages_after h.script h.turns).datacentres)) → All (λ d. d < s.workload.dcs) ds
answering_within s ds h is =
    let z : Stages = stages_after h.script h.turns in
    subst (All (λ d. d < s.workload.dcs)) (sym is)
    (All-filter (λ d. has_unanswered (datacentre_at z d)) (λ d. d < s.workload.dcs) (below (length z.datacentres))
    (subst (λ n. All (λ d. d < n) (below (length z.datacentres))) (count_after h.script h.turns s h.taken) (all_below (length z.datacentres))))

-- so it is after turns
pub link_after : (P : Such) (a b s : StagesState) (x : Errand) → HaveTakenTurns a → AreTwo a.workload.dcs x.from x.to → Plays P a b → b ≡ s → AreThere x.from x.to s.network.links
link_after P a b s x taken two plays same =
    let one = plays taken.script taken.turns taken.taken in
    let dcs : a.workload.dcs ≡ b.workload.dcs = ap (λ (l : Workload). l.dcs) (sym (workload_kept P a b plays taken)) in
    subst (λ (t : StagesState). AreThere x.from x.to t.network.links) same
    (link_of taken.script (taken.turns ++ settled one.steps) b x.from x.to one.taken (subst (λ n. AreTwo n x.from x.to) dcs two))
