-- What a line says, where the calls that read its words have answered.
use Rattle.std.proofs.Common.{◌≡◌, ◌<◌, ◌+◌, List, [], ◌∷◌, ◌++◌, length, length-append, refl, ap, sym, ◌∙◌, arith, false, nat_eq, ℕ, ap₂}
use Rattle.std.specs.Prelude.{nat_le, Ok}
use Rattle.std.proofs.lemmas.Bool.Decides.{nat_tests}
use Rattle.abstract_log.specs.declared.command.Command.{Command}
use Rattle.abstract_log.specs.declared.command.Command.TheVariants.{Append, Put, Del, Get, Last}
use Rattle.abstract_log.specs.declared.command.SessionPlan.{SessionPlan}
use Rattle.script_text.specs.declared.progress.Progress.{Progress}
use Rattle.abstract_log.specs.declared.script.Step.{Step}
use Rattle.script_text.specs.declared.keyword.TurnWord.{TurnWord}
use Rattle.script_text.specs.declared.arguments.Argument.{Argument}
use Rattle.script_text.specs.declared.arguments.Arguments.{Arguments}
use Rattle.script_text.specs.Keywords.{turn_arguments}
use Rattle.script_text.specs.Reading.{number_at, body_at, name_at, names_in}
use Rattle.script_text.specs.Arguments.{no_arguments, arguments_at, step_said}
use Rattle.script_text.specs.Meaning.{onto_last, with_command, append_line, put_line, del_line, get_line, last_line, with_step, turn_line}
use Rattle.cz_base.specs.declared.limits.TheConstants.{COMMANDS, LAST_RECORDS}

-- a command goes to the session that stands last
pub onto_last-last : (plans : List SessionPlan) (plan : SessionPlan) (command : Command)
    → onto_last (plans ++ plan ∷ []) command ≡ plans ++ record { home = plan.home; commands = plan.commands ++ command ∷ [] } ∷ []
onto_last-last [] plan command = refl
onto_last-last (first ∷ []) plan command = refl
onto_last-last (first ∷ next ∷ more) plan command = ap (λ plans. first ∷ plans) (onto_last-last (next ∷ more) plan command)

-- a command is put where a session has begun and there is room
pub with_command-last : (said : Progress) (command : Command) (front : List SessionPlan) (last : SessionPlan) → said.sessions ≡ front ++ last ∷ [] → said.commands < COMMANDS
    → with_command said command ≡ Ok (record said { sessions = front ++ record { home = last.home; commands = last.commands ++ command ∷ [] } ∷ []; commands = said.commands + 1 })
unfolding with_command
with_command-last said command front last is few =
    let room : nat_le COMMANDS said.commands ≡ false = grind (arith, nat_tests) in
    let begun : nat_eq (length said.sessions) 0 ≡ false = grind (arith, nat_tests, ap (λ (plans : List SessionPlan). length plans) is, length-append front (last ∷ [])) in
    rw (room, begun) (ap (λ plans. Ok (record said { sessions = plans; commands = said.commands + 1 })) (ap (λ plans. onto_last plans command) is ∙ onto_last-last front last command))

pub with_command-pushed : (said : Progress) (command : Command) (front : List SessionPlan) (plan : SessionPlan) (commands : List Command) (sessions : List SessionPlan)
    → said.sessions ≡ front ++ plan ∷ [] → said.commands < COMMANDS → commands ≡ plan.commands ++ command ∷ [] → sessions ≡ front ++ record { home = plan.home; commands = commands } ∷ []
    → with_command said command ≡ Ok (record said { sessions = sessions; commands = said.commands + 1 })
with_command-pushed said command front plan commands sessions is few more all =
    with_command-last said command front plan is few
    ∙ ap (λ plans. Ok (record said { sessions = plans; commands = said.commands + 1 })) (sym (all ∙ ap (λ (cs : List Command). front ++ record { home = plan.home; commands = cs } ∷ []) more))

pub append_line-read : (said : Progress) (left : List (List ℕ)) (body : List ℕ) (more tags : List (List ℕ)) → body_at left ≡ Ok (body, more) → names_in more ≡ Ok tags
    → append_line said left ≡ with_command said (Append tags body)
unfolding append_line
append_line-read said left body more tags spelled named = rw (spelled, named) refl

pub put_line-read : (said : Progress) (left : List (List ℕ)) (key body : List ℕ) (more rest : List (List ℕ)) → name_at left ≡ Ok (key, more) → body_at more ≡ Ok (body, rest)
    → put_line said left ≡ with_command said (Put key body)
unfolding put_line
put_line-read said left key body more rest named spelled = rw (named, spelled) refl

pub del_line-read : (said : Progress) (left : List (List ℕ)) (key : List ℕ) (more : List (List ℕ)) → name_at left ≡ Ok (key, more) → del_line said left ≡ with_command said (Del key)
unfolding del_line
del_line-read said left key more named = rw named refl

pub get_line-read : (said : Progress) (left : List (List ℕ)) (key : List ℕ) (more : List (List ℕ)) → name_at left ≡ Ok (key, more) → get_line said left ≡ with_command said (Get key)
unfolding get_line
get_line-read said left key more named = rw named refl

pub last_line-read : (said : Progress) (left : List (List ℕ)) (tag : List ℕ) (n : ℕ) (more rest : List (List ℕ)) → name_at left ≡ Ok (tag, more) → number_at 1 LAST_RECORDS more ≡ Ok (n, rest)
    → last_line said left ≡ with_command said (Last tag n)
unfolding last_line
last_line-read said left tag n more rest named counted = rw (named, counted) refl

pub turn_line-read : (said : Progress) (word : TurnWord) (left : List (List ℕ)) (sessions : ℕ) (kinds : List Argument) (given : Arguments) (step : Step) → sessions ≡ length said.sessions → kinds ≡ turn_arguments word
    → arguments_at said.dcs sessions no_arguments kinds left ≡ Ok given → step ≡ step_said word given → turn_line said word left ≡ with_step said step
unfolding turn_line
turn_line-read said word left sessions kinds given step many table read says =
    let read' : arguments_at said.dcs (length said.sessions) no_arguments (turn_arguments word) left ≡ Ok given
    = ap₂ (λ (n : ℕ) (ks : List Argument). arguments_at said.dcs n no_arguments ks left) (sym many) (sym table) ∙ read in
    rw (read', says) refl
