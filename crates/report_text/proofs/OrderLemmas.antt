-- The replies of a session stand by the numbers of its commands.
use Rattle.std.proofs.Common.{◌≡◌, ℕ, zero, suc, ◌+◌, ◌<◌, ◌==◌, ◌&&◌, Bool, true, false, if◌then◌else◌, eqb, List, [], ◌∷◌, ◌++◌, length, map, take, get_or, set, refl, ap, sym, ◌∙◌, inl, inr, arith, append_assoc, append-nil, Option, Some, None}
use Rattle.std.proofs.lemmas.Bool.{cases_eq, cond-true, cond-false, eq-eqb, ne_eqb, eqb-true}
use Rattle.std.proofs.lemmas.List.{get_or-set_same, get_or-set_other, map-append}
use Rattle.std.proofs.lemmas.List.Concat.{flat_map-cons}
use Rattle.std.proofs.lemmas.List.FromFn.{map-range_with_len_more}
use Rattle.std.specs.List.{flat_map}
use Rattle.abstract_log.specs.declared.command.Command.{Command}
use Rattle.abstract_log.specs.declared.command.SessionPlan.{SessionPlan}
use Rattle.abstract_log.specs.declared.command.Workload.{Workload}
use Rattle.abstract_log.specs.declared.event.Event.{Event}
use Rattle.abstract_log.specs.declared.event.Event.TheVariants.{Submit, Append, Receive, Add, Learn, Reply, Collect}
use Rattle.abstract_log.specs.declared.world.Standing.{Standing}
use Rattle.abstract_log.specs.declared.world.World.{World}
use Rattle.abstract_log.specs.Runs.{IsRun, CanAllHappen, after_all, world_of}
use Rattle.abstract_log.specs.Steps.{CanHappen, after}
use Rattle.abstract_log.specs.Worlds.{first_standing, nowhere, open_command, standing_of, start}
use Rattle.abstract_log.proofs.Writing.{IsSomeAnd_is}
use Rattle.causal_deps.proofs.Lists.{get_or-set_cases}
use Rattle.report_text.specs.Order.{heads_upto, reply_heads}
use Rattle.report_text.specs.Report.{index_words, reply_lines}

-- how many commands of a session are answered
abbrev answered_in : World → ℕ → ℕ
answered_in w s = (standing_of w s).answered

-- an open command is the next one
is_next : (b e : Bool) (o : Option Command) (c : Command) → (if b && e then o else None) ≡ Some c → e ≡ true
is_next true true o c is = refl
is_next true false o c is = cc
is_next false true o c is = cc
is_next false false o c is = cc

next_of : (w : World) (s k : ℕ) (c : Command) → open_command w s k ≡ Some c → answered_in w s + 1 ≡ k
next_of w s k c is = eqb-true (answered_in w s + 1) k (is_next (standing_of w s).begun (answered_in w s + 1 == k) _ c is)

one_more : (s n k : ℕ) (line : List (List ℕ)) → n + 1 ≡ k → take 2 line ≡ index_words s k → heads_upto s n ++ take 2 line ∷ [] ≡ heads_upto s k
one_more s n k line next head =
    ap (λ h. heads_upto s n ++ h ∷ []) (head ∙ ap (index_words s) (sym next))
    ∙ sym (map-range_with_len_more (index_words s) 1 n (n + 1) (omega arith))
    ∙ ap (heads_upto s) next

-- the event answers command k of session `by`, the next one there, and this line tells it where that session is asked for
module _ (w : World) (by k s : ℕ) (st : Standing) (line : List (List ℕ)) where
  told : by < length w.sessions → answered_in w by + 1 ≡ k → st.answered ≡ k → take 2 line ≡ index_words s k
      → heads_upto s (answered_in w s) ++ map (take 2) (if by == s then line ∷ [] else []) ≡ heads_upto s (get_or (set w.sessions by st) s nowhere).answered
  told there next answered head = elim (cases_eq by s) [
    | inl same ↦
        let asked : (if by == s then line ∷ [] else []) ≡ line ∷ [] = cond-true (eqb by s) (line ∷ []) [] (eq-eqb by s same) in
        let now : (get_or (set w.sessions by st) s nowhere).answered ≡ k =
        ap (λ i. (get_or (set w.sessions by st) i nowhere).answered) (sym same) ∙ ap (λ (x : Standing). x.answered) (get_or-set_same w.sessions by st nowhere there) ∙ answered in
        let is_next : answered_in w s + 1 ≡ k = ap (λ i. answered_in w i + 1) (sym same) ∙ next in
        ap (λ lines. heads_upto s (answered_in w s) ++ map (take 2) lines) asked ∙ one_more s (answered_in w s) k line is_next head ∙ ap (heads_upto s) (sym now)
    | inr other ↦
        let unasked : (if by == s then line ∷ [] else []) ≡ [] = cond-false (eqb by s) (line ∷ []) [] (ne_eqb by s other) in
        ap (λ lines. heads_upto s (answered_in w s) ++ map (take 2) lines) unasked ∙ append-nil (heads_upto s (answered_in w s))
        ∙ ap (λ (x : Standing). heads_upto s x.answered) (sym (get_or-set_other w.sessions by s st nowhere (λ e. other (sym e))))
  ]

-- a standing that is as far as before
opened : (w : World) (by s : ℕ) (st : Standing) → st.answered ≡ answered_in w by → heads_upto s (answered_in w s) ++ [] ≡ heads_upto s (get_or (set w.sessions by st) s nowhere).answered
opened w by s st as_before = append-nil (heads_upto s (answered_in w s)) ∙ elim (get_or-set_cases w.sessions by s st nowhere) [
  | inl here ↦ ap (heads_upto s) (ap (answered_in w) here.0 ∙ sym as_before ∙ sym (ap (λ (x : Standing). x.answered) here.2))
  | inr same ↦ ap (λ (x : Standing). heads_upto s x.answered) (sym same)
]

step : (w : World) (e : Event) (s : ℕ) → CanHappen w e → heads_upto s (answered_in w s) ++ map (take 2) (reply_lines s e) ≡ heads_upto s (answered_in (after w e) s)
step w (Submit by k) s can = opened w by s (record (standing_of w by) { begun = true }) refl
step w (Append d by k lid toid) s can =
    let c = IsSomeAnd_is (open_command w by k) _ can.1.0 in
    told w by k s _ _ can.0.there (next_of w by k c.0 c.1) refl refl
step w (Receive d e table names) s can = append-nil (heads_upto s (answered_in w s))
step w (Add d lid h t) s can = append-nil (heads_upto s (answered_in w s))
step w (Learn d row) s can = append-nil (heads_upto s (answered_in w s))
step w (Reply d by k at answer) s can =
    let c = IsSomeAnd_is (open_command w by k) _ can.1.0 in
    told w by k s _ _ can.0.there (next_of w by k c.0 c.1) refl refl
step w (Collect d p) s can = append-nil (heads_upto s (answered_in w s))

steps : (w : World) (events : List Event) (s : ℕ) → CanAllHappen w events
    → heads_upto s (answered_in w s) ++ map (take 2) (flat_map (reply_lines s) events) ≡ heads_upto s (answered_in (after_all w events) s)
steps w [] s can = append-nil (heads_upto s (answered_in w s))
steps w (e ∷ es) s can =
    let before = heads_upto s (answered_in w s) in
    let first = map (take 2) (reply_lines s e) in
    let more = map (take 2) (flat_map (reply_lines s) es) in
    ap (λ lines. before ++ map (take 2) lines) (flat_map-cons (reply_lines s) e es)
    ∙ ap (λ heads. before ++ heads) (map-append (take 2) (reply_lines s e) (flat_map (reply_lines s) es))
    ∙ sym (append_assoc before first more)
    ∙ ap (λ heads. heads ++ more) (step w e s can.0)
    ∙ steps (after w e) es s can.1

none_yet : (first : Standing) (plans : List SessionPlan) (s : ℕ) → first.answered ≡ 0 → (get_or (map (λ _. first) plans) s nowhere).answered ≡ 0
none_yet first [] s none = refl
none_yet first (plan ∷ plans) zero none = none
none_yet first (plan ∷ plans) (suc s) none = none_yet first plans s none

pub in_order : (load : Workload) (events : List Event) (s : ℕ) → IsRun load events → reply_heads events s ≡ heads_upto s (standing_of (world_of load events) s).answered
in_order load events s run =
    ap (λ n. heads_upto s n ++ reply_heads events s) (sym (none_yet (first_standing load.dcs) load.sessions s refl))
    ∙ steps (start load) events s run
