-- What the lines so far write, by the section that they reached, and how it grows by one line.
-- By computation on the lists of lines.
-- The theorem is `keyword_text`: a keyword that was found is the word that spells it.
use Rattle.std.proofs.Common.{◌≡◌, ◌<◌, ℕ, List, [], ◌∷◌, ◌++◌, length, refl, ap, sym, subst, ◌∙◌, arith, Bool, true, false, cond, ◌⊎◌, inl, inr, map, append_assoc}
use Rattle.std.specs.Prelude.{Some, codes, bytes_eq}
use Rattle.std.specs.List.{list_all, find, flat_map}
use Rattle.std.proofs.lemmas.Grind.{flat_map-append}
use Rattle.std.proofs.lemmas.List.{map-append, append-nil}
use Rattle.std.proofs.lemmas.Slice.Eq.{bytes_eq-Decides}
use Rattle.abstract_log.specs.declared.command.Command.{Command}
use Rattle.abstract_log.specs.declared.command.SessionPlan.{SessionPlan}
use Rattle.script_text.specs.declared.keyword.Keyword.{Keyword}
use Rattle.script_text.specs.declared.section.Section.{Section}
use Rattle.script_text.specs.declared.progress.Progress.{Progress}
use Rattle.script_text.specs.declared.progress.SizesLine.{SizesLine}
use Rattle.script_text.specs.Words.{is_line_byte}
use Rattle.script_text.specs.Keywords.{text_of, keywords, keyword_of}
use Rattle.script_text.specs.Meaning.{onto_last}
use Rattle.script_text.specs.Spelled.{letter, command_words, plan_lines, stages_words, first_words, datacentres_words, round_words, before_steps, turn_words, steps_words, end_words}
use Rattle.std.proofs.lemmas.Option.{same_Some}
use Rattle.script_text.specs.declared.section.Section.TheVariants as section

find_passes : (test : Keyword → Bool) (all : List Keyword) (k : Keyword) → find test all ≡ Some k → test k ≡ true
find_passes test [] k same = cc
find_passes test (first ∷ more) k same =
    elim (test first) as (λ v. (test first ≡ v) → cond v (Some first) (find test more) ≡ Some k → test k ≡ true) [
      | true ↦ λ is chose. subst (λ (w : Keyword). test w ≡ true) (same_Some first k chose) is
      | false ↦ λ is chose. find_passes test more k chose
    ] refl same

pub keyword_text : (word : List ℕ) (k : Keyword) → keyword_of word ≡ Some k → word ≡ text_of k
unfolding keyword_of
keyword_text word k same =
    let passes : bytes_eq (text_of k) word ≡ true = find_passes (λ keyword. bytes_eq (text_of keyword) word) keywords k same in
    sym ((bytes_eq-Decides (text_of k) word).0 passes)

abbrev pub so_far_at : Section → Progress → List (List (List ℕ))
so_far_at section.Start said = []
so_far_at section.Datacentres said = first_words ∷ []
so_far_at section.Round said = first_words ∷ datacentres_words said.dcs ∷ []
so_far_at section.Stages said = before_steps said.dcs said.round said.stages said.sessions
so_far_at section.Sessions said = before_steps said.dcs said.round said.stages said.sessions
so_far_at section.Steps said = before_steps said.dcs said.round said.stages said.sessions ++ steps_words ∷ map turn_words said.steps
so_far_at section.Ended said = before_steps said.dcs said.round said.stages said.sessions ++ steps_words ∷ (map turn_words said.steps ++ end_words ∷ [])

-- no `stages` line stands before its part, and no session
abbrev pub laid_at : Section → Progress → Type 0
laid_at section.Start said = (said.stages ≡ []) × (said.sessions ≡ [])
laid_at section.Datacentres said = (said.stages ≡ []) × (said.sessions ≡ [])
laid_at section.Round said = (said.stages ≡ []) × (said.sessions ≡ [])
laid_at section.Stages said = said.sessions ≡ []
laid_at section.Sessions said = Unit {0}
laid_at section.Steps said = Unit {0}
laid_at section.Ended said = Unit {0}

-- a line that is not passed over adds its words
pub record Lays (said after : Progress) (line : List (List ℕ)) : Type 0 where
  pub laid : laid_at after.section after
  pub more : so_far_at after.section after ≡ so_far_at said.section said ++ line ∷ []

pub empty-before : (dcs round : ℕ) (stages : List SizesLine) (plans : List SessionPlan) → stages ≡ [] → plans ≡ []
    → before_steps dcs round stages plans ≡ first_words ∷ datacentres_words dcs ∷ round_words round ∷ []
unfolding before_steps
empty-before dcs round stages plans none nobody = rw (none, nobody) refl

stages-list : (stages : List SizesLine) (given : SizesLine) (later : List (List (List ℕ))) → later ≡ []
    → map stages_words (stages ++ given ∷ []) ++ later ≡ (map stages_words stages ++ later) ++ stages_words given ∷ []
stages-list stages given later none =
    subst (λ (ls : List (List (List ℕ))). map stages_words (stages ++ given ∷ []) ++ ls ≡ (map stages_words stages ++ ls) ++ stages_words given ∷ []) (sym none)
    (append-nil (map stages_words (stages ++ given ∷ [])) ∙ map-append stages_words stages (given ∷ [])
    ∙ ap (λ (ls : List (List (List ℕ))). ls ++ stages_words given ∷ []) (sym (append-nil (map stages_words stages))))

pub stages-before : (dcs round : ℕ) (stages : List SizesLine) (given : SizesLine) (plans : List SessionPlan) → plans ≡ []
    → before_steps dcs round (stages ++ given ∷ []) plans ≡ before_steps dcs round stages plans ++ stages_words given ∷ []
unfolding before_steps
stages-before dcs round stages given plans nobody =
    ap (λ (ls : List (List (List ℕ))). first_words ∷ datacentres_words dcs ∷ round_words round ∷ ls)
    (stages-list stages given (flat_map plan_lines plans) (ap (λ (ps : List SessionPlan). flat_map plan_lines ps) nobody))

pub sessions-before : (dcs round : ℕ) (stages : List SizesLine) (plans : List SessionPlan) (home : ℕ)
    → before_steps dcs round stages (plans ++ record { home = home; commands = [] } ∷ []) ≡ before_steps dcs round stages plans ++ (codes "session" ∷ letter home ∷ []) ∷ []
unfolding before_steps
sessions-before dcs round stages plans home = simp (flat_map-append, append_assoc) refl

onto_last-lines : (plans : List SessionPlan) (c : Command) → 0 < length plans → flat_map plan_lines (onto_last plans c) ≡ flat_map plan_lines plans ++ command_words c ∷ []
onto_last-lines [] c some = absurd (omega arith)
onto_last-lines (plan ∷ []) c some =
    append-nil ((codes "session" ∷ letter plan.home ∷ []) ∷ map command_words (plan.commands ++ c ∷ []))
    ∙ ap (λ (ls : List (List (List ℕ))). (codes "session" ∷ letter plan.home ∷ []) ∷ ls) (map-append command_words plan.commands (c ∷ []))
    ∙ ap (λ (ls : List (List (List ℕ))). ls ++ command_words c ∷ []) (sym (append-nil (plan_lines plan)))
onto_last-lines (plan ∷ next ∷ more) c some =
    ap (λ (ls : List (List (List ℕ))). plan_lines plan ++ ls) (onto_last-lines (next ∷ more) c (omega arith)) ∙ sym (append_assoc (plan_lines plan) (flat_map plan_lines (next ∷ more)) (command_words c ∷ []))

pub commands-before : (dcs round : ℕ) (stages : List SizesLine) (plans : List SessionPlan) (c : Command) → 0 < length plans
    → before_steps dcs round stages (onto_last plans c) ≡ before_steps dcs round stages plans ++ command_words c ∷ []
unfolding before_steps
commands-before dcs round stages plans c some =
    ap (λ (ls : List (List (List ℕ))). first_words ∷ datacentres_words dcs ∷ round_words round ∷ (map stages_words stages ++ ls)) (onto_last-lines plans c some)
    ∙ ap (λ (ls : List (List (List ℕ))). first_words ∷ datacentres_words dcs ∷ round_words round ∷ ls) (sym (append_assoc (map stages_words stages) (flat_map plan_lines plans) (command_words c ∷ [])))

pub either-before : (said : Progress) → (said.section ≡ section.Stages) ⊎ (said.section ≡ section.Sessions) → so_far_at said.section said ≡ before_steps said.dcs said.round said.stages said.sessions
either-before said here = elim here [
  | inl is ↦ ap (λ (s : Section). so_far_at s said) is
  | inr is ↦ ap (λ (s : Section). so_far_at s said) is
]

-- a line of bytes that lines may have
abbrev pub IsLine : List ℕ → Type 0
IsLine line = list_all is_line_byte line ≡ true
