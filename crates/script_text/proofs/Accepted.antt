-- What is written is read: lines that spell a script are accepted, with just that script.
-- By induction on the sessions, steps and lines that are left; `Leads` says where lines one after another lead.
-- The theorem is `what_is_written_is_read`; `all-only` is its form for the contract of `read_script`.
use Rattle.std.proofs.Common.{◌≡◌, ◌<◌, ◌≤◌, ◌+◌, ℕ, List, [], ◌∷◌, ◌++◌, length, length-append, refl, ap, ap₂, sym, subst, ◌∙◌, arith, Bool, true, false, cond, not, ◌||◌, nat_eq, map, append_assoc, All}
use Rattle.std.specs.Prelude.{Ok, Err, Result, codes, get_or, IfOk, IsErrOf, MatchResult}
use Rattle.std.specs.List.{list_all, list_any, flat_map}
use Rattle.std.proofs.lemmas.List.{append-nil}
use Rattle.std.proofs.lemmas.List.Elements.{All-nil, All-cons, All-head, All-tail}
use Rattle.abstract_log.specs.declared.command.Command.{Command}
use Rattle.abstract_log.specs.declared.command.SessionPlan.{SessionPlan}
use Rattle.abstract_log.specs.declared.command.Workload.{Workload}
use Rattle.abstract_log.specs.declared.script.Script.{Script}
use Rattle.abstract_log.specs.declared.script.Sizes.{Sizes}
use Rattle.abstract_log.specs.declared.script.Step.{Step}
use Rattle.script_text.specs.declared.fault.Cause.{Cause}
use Rattle.script_text.specs.declared.fault.Cause.TheVariants.{BadByte, BadSpacing, AfterEnd, TooShort}
use Rattle.script_text.specs.declared.fault.ScriptFault.{ScriptFault}
use Rattle.script_text.specs.declared.keyword.Keyword.TheVariants.{Steps, End}
use Rattle.script_text.specs.declared.section.Section.{Section}
use Rattle.script_text.specs.declared.progress.Progress.{Progress}
use Rattle.script_text.specs.declared.progress.SizesLine.{SizesLine}
use Rattle.script_text.specs.Words.{words, is_line_byte, is_empty_word}
use Rattle.script_text.specs.Reading.{◌>>=◌}
use Rattle.script_text.specs.Keywords.{is_stages, is_sessions, is_ended}
use Rattle.script_text.specs.declared.members.Stage.{Stage}
use Rattle.script_text.specs.Members.{additions, members as members_at, one_of_each}
use Rattle.script_text.specs.Meaning.{start, words_after, is_passed_over, line_after, is_given, sizes_given, sizes_upto, script_said, told, next_number, script_from, script_of}
use Rattle.abstract_log.specs.Fits.{FitsCommand, FitsPlan, commands_of}
use Rattle.script_text.specs.Spelled.{command_words, plan_lines, stages_words, before_steps, turn_words, steps_words, end_words, said_words, AreGivenOnce, FitsStages, IsWritten}
use Rattle.abstract_log.specs.Turns.{FitsStep}
use Rattle.std.proofs.lemmas.Bool.{or_parts, cond-true, cond-false}
use Rattle.cz_base.specs.declared.limits.TheConstants.{DATACENTRES, MEMBERS, SESSIONS, COMMANDS, STEPS, ROUND}
use Rattle.script_text.specs.declared.fault.ScriptFault.TheVariants as fault
use Rattle.script_text.specs.declared.section.Section.TheVariants as section
use Rattle.script_text.proofs.FirstWords.{word_reads, steps_word, end_word}
use Rattle.script_text.proofs.SoFar.{IsLine}
use Rattle.script_text.proofs.Sections.{not_ended}
use Rattle.script_text.proofs.MemberLemmas.{AreWithinAt, has_room}
use Rattle.script_text.proofs.Sound.{eq-sym, is_given-push, get_or-sizes_upto}
use Rattle.script_text.proofs.WrittenLines.{Takes, said_at, chariots_takes, datacentres_takes, round_takes, stages_takes, session_takes, with_plan, command_takes}
use Rattle.script_text.proofs.WrittenSteps.{stepping, turn_takes_line}

abbrev pub Leads : Progress → List (List (List ℕ)) → Progress → Type 0
Leads said [] after = said ≡ after
Leads said (line ∷ more) after = (next : Progress) × (Takes said line next × Leads next more after)

leads_append : (said mid after : Progress) (front back : List (List (List ℕ))) → Leads said front mid → Leads mid back after → Leads said (front ++ back) after
leads_append said mid after [] back first second = subst (λ (p : Progress). Leads p back after) (sym first) second
leads_append said mid after (line ∷ more) back first second = (first.0, (first.1.0, leads_append first.0 mid after more back first.1.1 second))

commands_lead : (dcs round : ℕ) (stages : List SizesLine) (front : List SessionPlan) (home : ℕ) (done : List Command) (count : ℕ) (left all : List Command) (total : ℕ)
    → All FitsCommand left → total ≤ COMMANDS → done ++ left ≡ all → count + length left ≡ total
    → Leads (said_at section.Sessions dcs round stages (with_plan front home done) count) (map command_words left) (said_at section.Sessions dcs round stages (with_plan front home all) total)
commands_lead dcs round stages front home done count [] all total fits few same counted =
    let whole : done ≡ all = sym (append-nil done) ∙ same in
    let full_count : count ≡ total = omega (arith, counted) in
    ap₂ (λ (cs : List Command) (n : ℕ). said_at section.Sessions dcs round stages (with_plan front home cs) n) whole full_count
commands_lead dcs round stages front home done count (c ∷ more) all total fits few same counted = (
  said_at section.Sessions dcs round stages (with_plan front home (done ++ c ∷ [])) (count + 1),
  (
    command_takes dcs round stages front home done count c (All-head FitsCommand c more fits) (omega (arith, counted, few)),
    commands_lead dcs round stages front home (done ++ c ∷ []) (count + 1) more all total (All-tail FitsCommand c more fits) few
        (append_assoc done (c ∷ []) more ∙ same) (omega (arith, counted)),
  ),
)

-- the lines from `steps` on
abbrev closing : List Step → List (List (List ℕ))
closing steps = steps_words ∷ (map turn_words steps ++ end_words ∷ [])

-- what has been said at the end
abbrev pub ended_at : ℕ → ℕ → List SizesLine → List SessionPlan → ℕ → List Step → Progress
ended_at dcs round stages plans count steps = record { section = section.Ended; dcs = dcs; round = round; stages = stages; sessions = plans; commands = count; steps = steps }

steps_takes : (here : Section) (dcs round : ℕ) (stages : List SizesLine) (plans : List SessionPlan) (count : ℕ) → (is_stages here || is_sessions here) ≡ true
    → Takes (said_at here dcs round stages plans count) steps_words (stepping dcs round stages plans count [])
steps_takes here dcs round stages plans count place = record {
  full = refl;
  going = not_ended here place;
  means = word_reads (said_at here dcs round stages plans count) (codes "steps") [] Steps steps_word place refl;
}

end_takes : (dcs round : ℕ) (stages : List SizesLine) (plans : List SessionPlan) (count : ℕ) (steps : List Step)
    → Takes (stepping dcs round stages plans count steps) end_words (ended_at dcs round stages plans count steps)
end_takes dcs round stages plans count steps = record {
  full = refl;
  going = refl;
  means = word_reads (stepping dcs round stages plans count steps) (codes "end") [] End end_word refl refl;
}

steps_lead : (dcs round : ℕ) (stages : List SizesLine) (plans : List SessionPlan) (count : ℕ) (done left all : List Step) → dcs ≤ DATACENTRES → length plans ≤ SESSIONS
    → All (FitsStep (record { dcs = dcs; sessions = plans })) left → AreWithinAt dcs stages all → length done + length left ≤ STEPS → done ++ left ≡ all
    → Leads (stepping dcs round stages plans count done) (map turn_words left ++ end_words ∷ []) (ended_at dcs round stages plans count all)
steps_lead dcs round stages plans count done [] all few room fits members short same = (
  ended_at dcs round stages plans count done,
  (end_takes dcs round stages plans count done, ap (λ (ts : List Step). ended_at dcs round stages plans count ts) (sym (append-nil done) ∙ same)),
)
steps_lead dcs round stages plans count done (t ∷ more) all few room fits members short same =
    let load : Workload = record { dcs = dcs; sessions = plans } in
    let Fits : Step → Type 0 = FitsStep load in
    let fit : Fits t = All-head Fits t more fits in
    let spare = has_room load stages done t more fit (subst (λ (ts : List Step). AreWithinAt dcs stages ts) (sym same) members) in (
      stepping dcs round stages plans count (done ++ t ∷ []),
      (
        turn_takes_line dcs round stages plans count done t few room (omega (arith, short)) fit spare,
        steps_lead dcs round stages plans count (done ++ t ∷ []) more all few room (All-tail Fits t more fits) members
            (omega (arith, short, length-append done (t ∷ []))) (append_assoc done (t ∷ []) more ∙ same),
      ),
    )

plans_lead : (here : Section) (dcs round : ℕ) (stages : List SizesLine) (front : List SessionPlan) (count : ℕ) (left all : List SessionPlan) (total : ℕ) (steps : List Step)
    → (is_stages here || is_sessions here) ≡ true → dcs ≤ DATACENTRES → All (FitsPlan dcs) left → length front + length left ≤ SESSIONS → total ≤ COMMANDS
    → front ++ left ≡ all → count + commands_of left ≡ total
    → All (FitsStep (record { dcs = dcs; sessions = all })) steps → AreWithinAt dcs stages steps → length steps ≤ STEPS
    → Leads (said_at here dcs round stages front count) (flat_map plan_lines left ++ closing steps) (ended_at dcs round stages all total steps)
plans_lead here dcs round stages front count [] all total steps place few fits room small same counted steps_fit members short =
    let whole : front ≡ all = sym (append-nil front) ∙ same in
    let full_count : count ≡ total = omega (arith, counted) in
    let some : length all ≤ SESSIONS = omega (arith, room, ap (λ (ps : List SessionPlan). length ps) whole) in
    let begun : Progress = said_at here dcs round stages front count in
    let led : Leads (said_at here dcs round stages all total) (closing steps) (ended_at dcs round stages all total steps) = (
      stepping dcs round stages all total [],
      (steps_takes here dcs round stages all total place, steps_lead dcs round stages all total [] steps steps few some steps_fit members (omega (arith, short)) refl),
    ) in
    subst (λ (p : Progress). Leads p (closing steps) (ended_at dcs round stages all total steps)) (sym (ap₂ (λ (ps : List SessionPlan) (n : ℕ). said_at here dcs round stages ps n) whole full_count)) led
plans_lead here dcs round stages front count (plan ∷ more) all total steps place few fits room small same counted steps_fit members short =
    let first = All-head (FitsPlan dcs) plan more fits in
    let lead = commands_lead dcs round stages front plan.home [] count plan.commands plan.commands (count + length plan.commands)
    first.commands (omega (arith, counted, small)) refl refl in
    let rest = plans_lead section.Sessions dcs round stages (front ++ plan ∷ []) (count + length plan.commands) more all total steps refl few
    (All-tail (FitsPlan dcs) plan more fits) (omega (arith, length-append front (plan ∷ []), room)) small
    (append_assoc front (plan ∷ []) more ∙ same) (omega (arith, counted)) steps_fit members short in
    let next : Progress = said_at section.Sessions dcs round stages (with_plan front plan.home []) count in
    let end : Progress = ended_at dcs round stages all total steps in
    let both = leads_append next (said_at section.Sessions dcs round stages (front ++ plan ∷ []) (count + length plan.commands)) end (map command_words plan.commands) (flat_map plan_lines more ++ closing steps) lead rest in (
      next,
      (
        session_takes here dcs round stages front count plan.home place first.home few (omega (arith, room)),
        subst (λ (ls : List (List (List ℕ))). Leads next ls end) (sym (append_assoc (map command_words plan.commands) (flat_map plan_lines more) (closing steps))) both,
      ),
    )

-- no line so far gave the sizes of that datacentre
abbrev IsNew : List SizesLine → SizesLine → Type 0
IsNew front given = is_given front given.dc ≡ false

still_new : (front : List SizesLine) (given : SizesLine) (more : List SizesLine) → All (IsNew front) more → is_given more given.dc ≡ false → All (IsNew (front ++ given ∷ [])) more
still_new front given [] new other = All-nil (IsNew (front ++ given ∷ []))
still_new front given (next ∷ later) new other =
    let both = or_parts (nat_eq next.dc given.dc) (is_given later given.dc) other in
    All-cons (IsNew (front ++ given ∷ [])) next later
    (is_given-push front given next.dc (All-head (IsNew front) next later new) (eq-sym next.dc given.dc both.0))
    (still_new front given later (All-tail (IsNew front) next later new) both.1)

stages_lead : (dcs round : ℕ) (front left all : List SizesLine) → dcs ≤ DATACENTRES → All (FitsStages dcs) left → AreGivenOnce left → All (IsNew front) left → front ++ left ≡ all
    → Leads (said_at section.Stages dcs round front [] 0) (map stages_words left) (said_at section.Stages dcs round all [] 0)
stages_lead dcs round front [] all few built once new same =
    ap (λ (given : List SizesLine). said_at section.Stages dcs round given [] 0) (sym (append-nil front) ∙ same)
stages_lead dcs round front (given ∷ more) all few built once new same = (
  said_at section.Stages dcs round (front ++ given ∷ []) [] 0,
  (
    stages_takes dcs round front given few (All-head (FitsStages dcs) given more built) (All-head (IsNew front) given more new),
    stages_lead dcs round (front ++ given ∷ []) more all few (All-tail (FitsStages dcs) given more built) once.1
        (still_new front given more (All-tail (IsNew front) given more new) once.0) (append_assoc front (given ∷ []) more ∙ same),
  ),
)

-- all lines of a script, one after another
all_lead : (dcs round : ℕ) (stages : List SizesLine) (plans : List SessionPlan) (steps : List Step) → 1 ≤ dcs → dcs ≤ DATACENTRES → 1 ≤ round → round ≤ ROUND → All (FitsStages dcs) stages → AreGivenOnce stages
    → All (FitsPlan dcs) plans → length plans ≤ SESSIONS → commands_of plans ≤ COMMANDS → All (FitsStep (record { dcs = dcs; sessions = plans })) steps → AreWithinAt dcs stages steps → length steps ≤ STEPS
    → Leads start (before_steps dcs round stages plans ++ closing steps) (ended_at dcs round stages plans (commands_of plans) steps)
unfolding before_steps
all_lead dcs round stages plans steps some few low high built once fits room small steps_fit members short =
    let begun : Progress = said_at section.Stages dcs round [] [] 0 in
    let end : Progress = ended_at dcs round stages plans (commands_of plans) steps in
    let given = stages_lead dcs round [] stages stages few built once (λ k d within. refl) refl in
    let sessions = plans_lead section.Stages dcs round stages [] 0 plans plans (commands_of plans) steps refl few fits (omega (arith, room)) small refl (omega arith) steps_fit members short in
    let both = leads_append begun (said_at section.Stages dcs round stages [] 0) end (map stages_words stages) (flat_map plan_lines plans ++ closing steps) given sessions in (
      said_at section.Datacentres 0 0 [] [] 0,
      (
        chariots_takes,
        (
          said_at section.Round dcs 0 [] [] 0,
          (
            datacentres_takes dcs some few,
            (
              begun,
              (
                round_takes dcs round low high,
                subst (λ (ls : List (List (List ℕ))). Leads begun ls end) (sym (append_assoc (map stages_words stages) (flat_map plan_lines plans) (closing steps))) both,
              ),
            ),
          ),
        ),
      ),
    )

over_reads : (said : Progress) (line : List ℕ) → IsLine line → is_passed_over line ≡ true → line_after said line ≡ Ok said
unfolding line_after
over_reads said line bytes over =
    let spaced : Result Progress Cause = cond (list_any is_empty_word (words line)) (Err BadSpacing) (cond (is_ended said.section) (Err AfterEnd) (words_after said (words line))) in
    cond-false (not (list_all is_line_byte line)) (Err BadByte) (cond (is_passed_over line) (Ok said) spaced) (ap (λ (t : Bool). not t) bytes)
    ∙ cond-true (is_passed_over line) (Ok said) spaced over

line_reads : (said next : Progress) (line : List ℕ) → IsLine line → is_passed_over line ≡ false → Takes said (words line) next → line_after said line ≡ Ok next
unfolding line_after
line_reads said next line bytes says takes =
    let going : Result Progress Cause = cond (is_ended said.section) (Err AfterEnd) (words_after said (words line)) in
    let spaced : Result Progress Cause = cond (list_any is_empty_word (words line)) (Err BadSpacing) going in
    cond-false (not (list_all is_line_byte line)) (Err BadByte) (cond (is_passed_over line) (Ok said) spaced) (ap (λ (t : Bool). not t) bytes)
    ∙ cond-false (is_passed_over line) (Ok said) spaced says
    ∙ cond-false (list_any is_empty_word (words line)) (Err BadSpacing) going takes.full
    ∙ cond-false (is_ended said.section) (Err AfterEnd) (words_after said (words line)) takes.going
    ∙ takes.means

lines_read : (said : Progress) (number : ℕ) (lines : List (List ℕ)) (after : Progress) → All IsLine lines → Leads said (said_words lines) after → is_ended after.section ≡ true
    → script_from said number lines ≡ Ok (script_said after)
lines_read said number [] after bytes leads ended =
    ap (λ (p : Progress). script_from p number []) leads ∙ cond-true (is_ended after.section) (Ok (script_said after)) (Err (fault.Bad number TooShort)) ended
lines_read said number (line ∷ more) after bytes leads ended =
    elim (is_passed_over line) as (λ v. (is_passed_over line ≡ v) → Leads said (cond v (said_words more) (words line ∷ said_words more)) after → script_from said number (line ∷ more) ≡ Ok (script_said after)) [
      | true ↦ λ over lead.
          ap (λ (r : Result Progress Cause). told number r >>= λ next. script_from next (next_number number) more) (over_reads said line (All-head IsLine line more bytes) over)
          ∙ lines_read said (next_number number) more after (All-tail IsLine line more bytes) lead ended
      | false ↦ λ says lead.
          ap (λ (r : Result Progress Cause). told number r >>= λ next. script_from next (next_number number) more) (line_reads said lead.0 line (All-head IsLine line more bytes) says lead.1.0)
          ∙ lines_read lead.0 (next_number number) more after (All-tail IsLine line more bytes) lead.1.1 ended
    ] refl leads

-- a stage that keeps its limit by the script's sizes keeps it by the lines that give them
stage_within : (script : Script) (stages : List SizesLine) (d : ℕ) (stage : Stage) → script.sizes ≡ sizes_upto stages script.workload.dcs → d < script.workload.dcs
    → members_at stage (get_or script.sizes d one_of_each) + additions d stage script.steps ≤ MEMBERS → members_at stage (sizes_given stages d) + additions d stage script.steps ≤ MEMBERS
stage_within script stages d stage same there within =
    let sizes = ap (λ (all : List Sizes). get_or all d one_of_each) same ∙ get_or-sizes_upto stages script.workload.dcs d one_of_each there in
    subst (λ (of : Sizes). members_at stage of + additions d stage script.steps ≤ MEMBERS) sizes within

-- lines that spell a script are read as just that script
pub what_is_written_is_read : (script : Script) (lines : List (List ℕ)) → IsWritten script lines → script_of lines ≡ Ok script
what_is_written_is_read script lines written =
    let dcs : ℕ = script.workload.dcs in
    let plans : List SessionPlan = script.workload.sessions in
    let stages : List SizesLine = written.spells.stages in
    let limits = written.fits.limits in
    let within : AreWithinAt dcs stages script.steps = λ d stage there. stage_within script stages d stage written.spells.sizes there (written.members d stage there) in
    let end : Progress = ended_at dcs script.round stages plans (commands_of plans) script.steps in
    let lead = all_lead dcs script.round stages plans script.steps limits.workload.some limits.workload.few written.fits.round.0 written.fits.round.1 written.stages written.once
    limits.plans limits.sessions limits.commands written.steps within written.fits.steps in
    let leads = subst (λ (ls : List (List (List ℕ))). Leads start ls end) (sym written.spells.written) lead in
    let same : script_said end ≡ script = ap (λ (sizes : List Sizes). record script { sizes = sizes }) (sym written.spells.sizes) in
    lines_read start 1 lines end written.bytes leads refl ∙ ap (λ (s : Script). Ok s) same

abbrev read : Script → Result Script ScriptFault
read script = Ok script

abbrev refused : ℕ → Cause → Result Script ScriptFault
refused line cause = Err (fault.Bad line cause)

one_script : (found script : Script) → read found ≡ read script → found ≡ script
one_script found script same = cc

no_fault : (line : ℕ) (cause : Cause) (script : Script) → refused line cause ≡ read script → ⊥
no_fault line cause script same = cc

-- the answer of a reader that is exact is that script, unless memory ran out
pub all-only : (lines : List (List ℕ)) (result : Result Script ScriptFault) → IfOk result (λ script. script_of lines ≡ Ok script)
    → ((line : ℕ) (cause : Cause) → IsErrOf result (fault.Bad line cause) → script_of lines ≡ Err (fault.Bad line cause))
    → (script : Script) → IsWritten script lines → MatchResult result (λ found. found ≡ script) (λ why. why ≡ fault.NoMemory)
all-only lines (Ok found) ok bad script written = one_script found script (sym ok ∙ what_is_written_is_read script lines written)
all-only lines (Err (fault.Bad line cause)) ok bad script written = absurd (no_fault line cause script (sym (bad line cause refl) ∙ what_is_written_is_read script lines written))
all-only lines (Err fault.NoMemory) ok bad script written = refl
