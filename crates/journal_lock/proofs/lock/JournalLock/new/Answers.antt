use Rattle.std.proofs.Common.{rules, ◌≡◌, ℕ, ◌<◌, List, ap, sym, subst, ◌∙◌, get_or, Some, Option, [], ◌∷◌}
use Rattle.atomic_table.specs.Table.{opening}
use Rattle.journal_lock.specs.declared.law.Plan.{Plan}
use Rattle.journal_lock.specs.Law.{Book, Sat}
use Rattle.journal_lock.specs.Start.{first_notes, fresh}
use Rattle.journal_lock.specs.Heads.{known_list}
use Rattle.journal_lock.specs.Rule.{Keeps}
use Rattle.journal_lock.proofs.Numbers.{each_once}
use Rattle.journal_lock.proofs.Starts.{start_known}
use Rattle.journal_lock.proofs.Steps.{first_state}
use Rattle.journal_lock.proofs.lock.JournalLock.new.Goals as goal

pub new-requires-2 : goal.new-requires-2
new-requires-2 c =
    let load = c.args.workload in let w = c.new.result in let round = c.args.round in let ns = c.args.maintainers.now in
    let members = c.from_vec.ensures ∙ c.in-Ok-from_slice.ensures.items in
    let items : c.push_reserved.new.self.items ≡ Some w ∷ [] = search rules in
    let words = λ (i : ℕ) (lt : i < 258). ap (λ (l : List ℕ). get_or l i 0) c.as_slice.ensures.value ∙ c.in_ok-words.ensures.words i lt in
    let plan : Plan = record { workload = load; round = round; maintainers = ns } in
    subst (λ (z : List (Option Book) × List ℕ). Keeps load round (opening c.as_slice.result.now z.0 (fresh (record { workload = load; round = round; maintainers = z.1 })))) (λ i. (sym items i, sym members i))
    (first_state plan c.requires.workload c.requires.maintainers.0 c.requires.maintainers.1 c.requires.round.0 c.requires.round.1 c.as_slice.result.now (c.as_slice.ensures.len ∙ c.in_ok-words.ensures.len) words w (each_once load c.requires.workload.few) c.new.ensures tt)

pub returns-clause-epochs : goal.returns-clause-epochs
returns-clause-epochs c d low =
    let round = c.args.round in let ns = c.args.maintainers.now in
    let members = c.from_vec.ensures ∙ c.in-Ok-from_slice.ensures.items in
    let words = λ (i : ℕ) (lt : i < 258). ap (λ (l : List ℕ). get_or l i 0) c.as_slice.ensures.value ∙ c.in_ok-words.ensures.words i lt in
    let notes = ap (λ (m : Sat). m.0.notes) c.in-Ok-new.ensures.ok.4 ∙ ap (first_notes round 0) members in
    ap (known_list round d) notes
    ∙ start_known c.args.workload round ns c.requires.workload c.requires.maintainers.0 c.requires.maintainers.1 c.requires.round.0 c.requires.round.1 c.as_slice.result.now (c.as_slice.ensures.len ∙ c.in_ok-words.ensures.len) words d low
