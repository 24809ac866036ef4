-- What is said so far keeps the ranges of scripts, line after line, and what all lines have said is a script.
-- By cases on the line; a part that a section cannot have yet is told by the rank of the section.
-- The theorems are `line-sound`, one line, and `said-fits`, all of them.
use Rattle.std.proofs.Common.{◌≡◌, ◌<◌, ◌≤◌, ◌+◌, ℕ, zero, suc, List, [], ◌∷◌, ◌++◌, length, length-append, refl, ap, sym, subst, ◌∙◌, arith, Bool, true, false, cond, not, ◌||◌, nat_eq, inl, inr, All, lit<}
use Rattle.std.specs.Prelude.{nat_le, nat_lt, Ok, Option, Some, None, IfSome, get_or}
use Rattle.std.specs.List.{list_all, list_any, find}
use Rattle.std.proofs.lemmas.Bool.Decides.{nat_tests}
use Rattle.std.proofs.Math.ListN.{get_or-append}
use Rattle.std.proofs.lemmas.List.{get_or_push}
use Rattle.std.proofs.lemmas.List.Elements.{All-nil, All-cons, All-push, All-head, All-tail, All-get_or}
use Rattle.cz_base.specs.Text.{IsName}
use Rattle.abstract_log.specs.declared.command.Command.{Command}
use Rattle.abstract_log.specs.declared.command.SessionPlan.{SessionPlan}
use Rattle.abstract_log.specs.declared.command.Workload.{Workload}
use Rattle.abstract_log.specs.declared.script.Sizes.{Sizes}
use Rattle.abstract_log.specs.declared.script.Step.{Step}
use Rattle.abstract_log.specs.Commands.{no_plan}
use Rattle.script_text.specs.declared.keyword.Keyword.{Keyword}
use Rattle.script_text.specs.declared.keyword.Keyword.TheVariants.{Chariots, Datacentres, Round, Stages, Session, Command as CommandLine, Steps, Turn, End}
use Rattle.script_text.specs.declared.keyword.CommandWord.{CommandWord}
use Rattle.script_text.specs.declared.keyword.CommandWord.TheVariants.{Append, Put, Del, Get, Tx, Read, Last}
use Rattle.script_text.specs.declared.keyword.TurnWord.{TurnWord}
use Rattle.script_text.specs.declared.section.Section.{Section}
use Rattle.script_text.specs.declared.progress.Progress.{Progress}
use Rattle.script_text.specs.declared.progress.SizesLine.{SizesLine}
use Rattle.script_text.specs.Words.{words, is_line_byte, is_empty_word}
use Rattle.script_text.specs.Reading.{number_at, datacentre_at, body_at, name_at, names_in, greatest_number}
use Rattle.script_text.specs.Keywords.{keyword_of, stands, turn_arguments, least_words, most_words, is_ended}
use Rattle.script_text.specs.declared.members.Stage.{Stage as StageOf}
use Rattle.script_text.specs.declared.members.Stage.TheVariants.{Batchers, Filters, Queues, Maintainers, Senders, Receivers}
use Rattle.script_text.specs.Members.{additions, members, one_of_each, FitsMembers}
use Rattle.script_text.specs.Meaning.{start, chariots_line, datacentres_line, round_line, sizes_at, stages_line, session_line, onto_last, with_command, append_line, put_line, del_line, get_line, tx_line, read_line, last_line, turn_line, command_meaning, meaning, keyword_after, words_after, is_passed_over, line_after, is_given, sizes_found, sizes_given, sizes_upto, script_said}
use Rattle.abstract_log.specs.Fits.{IsSize, FitsSizes, FitsCommand, FitsPlan, commands_of, FitsScript}
use Rattle.script_text.specs.Spelled.{FitsStages, AreGivenOnce}
use Rattle.abstract_log.specs.Turns.{FitsStep}
use Rattle.std.proofs.lemmas.Bool.{or_parts, or_from, not-false}
use Rattle.cz_base.specs.declared.limits.TheConstants.{DATACENTRES, SESSIONS, COMMANDS, STEPS, MEMBERS, TAGS, KEYS, ROUND, LAST_RECORDS}
use Rattle.abstract_log.specs.declared.command.Command.TheVariants as command
use Rattle.script_text.specs.declared.section.Section.TheVariants as section
use Rattle.script_text.proofs.Going.{okay, okay-same, bind_ok, guard_ok, chosen}
use Rattle.script_text.proofs.Kept.{body_takes, names_take, sizes_take, name_takes}
use Rattle.script_text.proofs.MemberLemmas.{AreWithin, within_push}
use Rattle.script_text.proofs.Sections.{at-start, at-datacentres, at-round, at-stages, at-sessions, at-steps, rank, rank-either, rank-upto}
use Rattle.script_text.proofs.Spelling.{number_spells, datacentre_takes}
use Rattle.script_text.proofs.TurnLemmas.{load_of, turn_takes}

pub record IsSound (said : Progress) : Type 0 where
  pub dcs : 2 ≤ rank said.section → (1 ≤ said.dcs) × (said.dcs ≤ DATACENTRES)
  pub round : 3 ≤ rank said.section → (1 ≤ said.round) × (said.round ≤ ROUND)
  pub begun : rank said.section ≤ 3 → said.sessions ≡ []
  pub bare : rank said.section ≤ 2 → said.stages ≡ []
  pub given : All (FitsStages said.dcs) said.stages
  pub once : AreGivenOnce said.stages
  pub few : length said.sessions ≤ SESSIONS
  pub plans : All (FitsPlan said.dcs) said.sessions
  pub counted : said.commands ≡ commands_of said.sessions
  pub within : said.commands ≤ COMMANDS
  pub idle : rank said.section ≤ 4 → said.steps ≡ []
  pub steps : All (FitsStep (load_of said)) said.steps
  pub members : AreWithin said.stages said.steps
  pub short : length said.steps ≤ STEPS

sizes_found-fits : (given : Option SizesLine) → IfSome given (λ g. FitsSizes g.sizes) → FitsSizes (sizes_found given)
sizes_found-fits None fits = let size : IsSize 1 = (omega arith, omega arith) in record { batchers = size; filters = size; queues = size; maintainers = size; indexers = size; senders = size; receivers = size }
sizes_found-fits (Some given) fits = fits

find-fits : (test : SizesLine → Bool) (stages : List SizesLine) → All (λ (g : SizesLine). FitsSizes g.sizes) stages → IfSome (find test stages) (λ g. FitsSizes g.sizes)
find-fits test [] all = tt
find-fits test (given ∷ more) all =
    elim (test given) as (λ v. IfSome (cond v (Some given) (find test more)) (λ g. FitsSizes g.sizes)) [
      | true ↦ All-head (λ (g : SizesLine). FitsSizes g.sizes) given more all
      | false ↦ find-fits test more (All-tail (λ (g : SizesLine). FitsSizes g.sizes) given more all)
    ]

-- the sizes of each datacentre, where those that are given fit
sizes_given-fit : (stages : List SizesLine) (dc : ℕ) → All (λ (g : SizesLine). FitsSizes g.sizes) stages → FitsSizes (sizes_given stages dc)
sizes_given-fit stages dc all = sizes_found-fits (find (λ given. nat_eq given.dc dc) stages) (find-fits (λ given. nat_eq given.dc dc) stages all)

members_few : (stage : StageOf) (sizes : Sizes) → FitsSizes sizes → members stage sizes ≤ MEMBERS
members_few Batchers sizes fits = fits.batchers.1
members_few Filters sizes fits = fits.filters.1
members_few Queues sizes fits = fits.queues.1
members_few Maintainers sizes fits = fits.maintainers.1
members_few Senders sizes fits = fits.senders.1
members_few Receivers sizes fits = fits.receivers.1

-- where no step has been said, the sizes alone count
none_added : {dcs : ℕ} (stages : List SizesLine) (steps : List Step) → steps ≡ [] → All (FitsStages dcs) stages → AreWithin stages steps
none_added stages steps none fits d stage =
    let few = members_few stage (sizes_given stages d) (sizes_given-fit stages d (λ k g within. (fits k g within).sizes)) in
    omega (arith, few, ap (λ (ts : List Step). additions d stage ts) none)

pub start-sound : IsSound start
start-sound = record {
  dcs = λ h. absurd (omega arith);
  round = λ h. absurd (omega arith);
  begun = λ h. refl;
  bare = λ h. refl;
  given = All-nil (FitsStages 0);
  once = tt;
  few = omega arith;
  plans = All-nil (FitsPlan 0);
  counted = refl;
  within = omega arith;
  idle = λ h. refl;
  steps = All-nil (FitsStep (load_of start));
  members = none_added [] [] refl (All-nil (FitsStages 0));
  short = omega arith;
}

pub eq-sym : (a b : ℕ) → nat_eq a b ≡ false → nat_eq b a ≡ false
eq-sym a b h = grind (arith, nat_tests, h)

pub is_given-push : (front : List SizesLine) (given : SizesLine) (dc : ℕ) → is_given front dc ≡ false → nat_eq given.dc dc ≡ false → is_given (front ++ given ∷ []) dc ≡ false
is_given-push [] given dc before other = or_from (nat_eq given.dc dc) false other refl
is_given-push (first ∷ more) given dc before other =
    let both = or_parts (nat_eq first.dc dc) (is_given more dc) before in
    or_from (nat_eq first.dc dc) (is_given (more ++ given ∷ []) dc) both.0 (is_given-push more given dc both.1 other)

once-push : (front : List SizesLine) (given : SizesLine) → AreGivenOnce front → is_given front given.dc ≡ false → AreGivenOnce (front ++ given ∷ [])
once-push [] given once new = (refl, tt)
once-push (first ∷ more) given once new =
    let both = or_parts (nat_eq first.dc given.dc) (is_given more given.dc) new in
    (is_given-push more given first.dc once.0 (eq-sym first.dc given.dc both.0), once-push more given once.1 both.1)

-- where no line gave sizes, all that did keep anything
none_given : (dcs : ℕ) (stages : List SizesLine) → stages ≡ [] → All (FitsStages dcs) stages
none_given dcs stages none = subst (λ (gs : List SizesLine). All (FitsStages dcs) gs) (sym none) (All-nil (FitsStages dcs))

-- where no session has begun, all sessions keep anything
none_fits : (dcs : ℕ) (plans : List SessionPlan) → plans ≡ [] → All (FitsPlan dcs) plans
none_fits dcs plans none = subst (λ (ps : List SessionPlan). All (FitsPlan dcs) ps) (sym none) (All-nil (FitsPlan dcs))

-- where no step has been said, all steps keep anything
none_steps : (load : Workload) (steps : List Step) → steps ≡ [] → All (FitsStep load) steps
none_steps load steps none = subst (λ (ts : List Step). All (FitsStep load) ts) (sym none) (All-nil (FitsStep load))

chariots-sound : (said after : Progress) (left : List (List ℕ)) → rank said.section ≡ 0 → IsSound said → chariots_line said left ≡ Ok after → IsSound after
unfolding chariots_line
chariots-sound said after left here sound same =
    let read = bind_ok (number_at 1 1 left) _ after same in
    let is : record said { section = section.Datacentres } ≡ after = cc (read.1.1) in
    subst IsSound is (record {
      dcs = λ h. absurd (omega arith);
      round = λ h. absurd (omega arith);
      begun = λ h. sound.begun (omega arith);
      bare = λ h. sound.bare (omega arith);
      given = sound.given;
      once = sound.once;
      few = sound.few;
      plans = sound.plans;
      counted = sound.counted;
      within = sound.within;
      idle = λ h. sound.idle (omega arith);
      steps = sound.steps;
      members = sound.members;
      short = sound.short;
    })

datacentres-sound : (said after : Progress) (left : List (List ℕ)) → rank said.section ≡ 1 → IsSound said → datacentres_line said left ≡ Ok after → IsSound after
unfolding datacentres_line
datacentres-sound said after left here sound same =
    let read = bind_ok (number_at 1 DATACENTRES left) _ after same in
    let n = number_spells 1 DATACENTRES left read.0 (lit< tt) read.1.0 in
    let is : record said { dcs = read.0.0; section = section.Round } ≡ after = cc (read.1.1) in
    subst IsSound is (record {
      dcs = λ h. (n.low, n.high);
      round = λ h. absurd (omega arith);
      begun = λ h. sound.begun (omega arith);
      bare = λ h. sound.bare (omega arith);
      given = none_given read.0.0 said.stages (sound.bare (omega arith));
      once = sound.once;
      few = sound.few;
      plans = none_fits read.0.0 said.sessions (sound.begun (omega arith));
      counted = sound.counted;
      within = sound.within;
      idle = λ h. sound.idle (omega arith);
      steps = none_steps (load_of (record said { dcs = read.0.0; section = section.Round })) said.steps (sound.idle (omega arith));
      members = sound.members;
      short = sound.short;
    })

round-sound : (said after : Progress) (left : List (List ℕ)) → rank said.section ≡ 2 → IsSound said → round_line said left ≡ Ok after → IsSound after
unfolding round_line
round-sound said after left here sound same =
    let read = bind_ok (number_at 1 ROUND left) _ after same in
    let n = number_spells 1 ROUND left read.0 (lit< tt) read.1.0 in
    let is : record said { round = read.0.0; section = section.Stages } ≡ after = cc (read.1.1) in
    subst IsSound is (record {
      dcs = λ h. sound.dcs (omega arith);
      round = λ h. (n.low, n.high);
      begun = λ h. sound.begun (omega arith);
      bare = λ h. absurd (omega arith);
      given = sound.given;
      once = sound.once;
      few = sound.few;
      plans = sound.plans;
      counted = sound.counted;
      within = sound.within;
      idle = λ h. sound.idle (omega arith);
      steps = sound.steps;
      members = sound.members;
      short = sound.short;
    })

stages-sound : (said after : Progress) (left : List (List ℕ)) → rank said.section ≡ 3 → IsSound said → stages_line said left ≡ Ok after → IsSound after
unfolding stages_line
stages-sound said after left here sound same =
    let dc = bind_ok (datacentre_at said.dcs left) _ after same in
    let sizes = bind_ok (sizes_at dc.0.1) _ after dc.1.1 in
    let new = guard_ok (is_given said.stages dc.0.0) _ _ after sizes.1.1 in
    let given : SizesLine = record { dc = dc.0.0; sizes = sizes.0.0 } in
    let fits : FitsStages said.dcs given = record { dc = datacentre_takes said.dcs left dc.0 dc.1.0; sizes = sizes_take dc.0.1 sizes.0 sizes.1.0 } in
    let is : record said { stages = said.stages ++ given ∷ [] } ≡ after = cc (new.1) in
    subst IsSound is (record {
      dcs = sound.dcs;
      round = sound.round;
      begun = sound.begun;
      bare = λ h. absurd (omega arith);
      given = All-push (FitsStages said.dcs) said.stages given sound.given fits;
      once = once-push said.stages given sound.once new.0;
      few = sound.few;
      plans = sound.plans;
      counted = sound.counted;
      within = sound.within;
      idle = λ h. sound.idle (omega arith);
      steps = sound.steps;
      members = none_added (said.stages ++ given ∷ []) said.steps (sound.idle (omega arith)) (All-push (FitsStages said.dcs) said.stages given sound.given fits);
      short = sound.short;
    })

commands_of-push : (plans : List SessionPlan) (home : ℕ) → commands_of (plans ++ record { home = home; commands = [] } ∷ []) ≡ commands_of plans
commands_of-push [] home = refl
commands_of-push (plan ∷ more) home = ap (λ n. length plan.commands + n) (commands_of-push more home)

session-sound : (said after : Progress) (left : List (List ℕ)) → 3 ≤ rank said.section → rank said.section ≤ 4 → IsSound said → session_line said left ≡ Ok after → IsSound after
unfolding session_line
session-sound said after left here early sound same =
    let home = bind_ok (datacentre_at said.dcs left) _ after same in
    let room = guard_ok (nat_eq (length said.sessions) SESSIONS) _ _ after home.1.1 in
    let other : nat_eq (length said.sessions) SESSIONS ≡ false = room.0 in
    let plan : SessionPlan = record { home = home.0.0; commands = [] } in
    let is : record said { sessions = said.sessions ++ plan ∷ []; section = section.Sessions } ≡ after = cc (room.1) in
    let fewer : length said.sessions < SESSIONS = grind (arith, nat_tests, other, sound.few) in
    subst IsSound is (record {
      dcs = λ h. sound.dcs (omega arith);
      round = λ h. sound.round (omega arith);
      begun = λ h. absurd (omega arith);
      bare = λ h. absurd (omega arith);
      given = sound.given;
      once = sound.once;
      few = omega (arith, length-append said.sessions (plan ∷ []), fewer);
      plans = All-push (FitsPlan said.dcs) said.sessions plan sound.plans (record { home = datacentre_takes said.dcs left home.0 home.1.0; commands = All-nil FitsCommand });
      counted = sound.counted ∙ sym (commands_of-push said.sessions home.0.0);
      within = sound.within;
      idle = λ h. sound.idle early;
      steps = none_steps (load_of (record said { sessions = said.sessions ++ plan ∷ []; section = section.Sessions })) said.steps (sound.idle early);
      members = sound.members;
      short = sound.short;
    })

onto_last-fits : (dcs : ℕ) (plans : List SessionPlan) (c : Command) → FitsCommand c → All (FitsPlan dcs) plans → All (FitsPlan dcs) (onto_last plans c)
onto_last-fits dcs [] c fits all = All-nil (FitsPlan dcs)
onto_last-fits dcs (plan ∷ []) c fits all =
    let first = All-head (FitsPlan dcs) plan [] all in
    let more : SessionPlan = record { home = plan.home; commands = plan.commands ++ c ∷ [] } in
    All-cons (FitsPlan dcs) more [] (record { home = first.home; commands = All-push FitsCommand plan.commands c first.commands fits }) (All-nil (FitsPlan dcs))
onto_last-fits dcs (plan ∷ next ∷ more) c fits all =
    All-cons (FitsPlan dcs) plan (onto_last (next ∷ more) c) (All-head (FitsPlan dcs) plan (next ∷ more) all)
    (onto_last-fits dcs (next ∷ more) c fits (All-tail (FitsPlan dcs) plan (next ∷ more) all))

length-onto_last : (plans : List SessionPlan) (c : Command) → length (onto_last plans c) ≡ length plans
length-onto_last [] c = refl
length-onto_last (plan ∷ []) c = refl
length-onto_last (plan ∷ next ∷ more) c = ap (λ n. suc n) (length-onto_last (next ∷ more) c)

commands_of-onto_last : (plans : List SessionPlan) (c : Command) → 0 < length plans → commands_of (onto_last plans c) ≡ commands_of plans + 1
commands_of-onto_last [] c some = absurd (omega arith)
commands_of-onto_last (plan ∷ []) c some = omega (arith, length-append plan.commands (c ∷ []))
commands_of-onto_last (plan ∷ next ∷ more) c some = omega (arith, commands_of-onto_last (next ∷ more) c (omega arith))

command-sound : (said after : Progress) (c : Command) → rank said.section ≡ 4 → FitsCommand c → IsSound said → with_command said c ≡ Ok after → IsSound after
unfolding with_command
command-sound said after c here fits sound same =
    let room = guard_ok (nat_le COMMANDS said.commands) _ _ after same in
    let begun = guard_ok (nat_eq (length said.sessions) 0) _ _ after room.1 in
    let is : record said { sessions = onto_last said.sessions c; commands = said.commands + 1 } ≡ after = cc (begun.1) in
    let fewer : said.commands < COMMANDS = grind (arith, nat_tests, room.0) in
    let some : 0 < length said.sessions = grind (arith, nat_tests, begun.0) in
    subst IsSound is (record {
      dcs = sound.dcs;
      round = sound.round;
      begun = λ h. absurd (omega arith);
      bare = λ h. absurd (omega arith);
      given = sound.given;
      once = sound.once;
      few = omega (arith, length-onto_last said.sessions c, sound.few);
      plans = onto_last-fits said.dcs said.sessions c fits sound.plans;
      counted = omega (arith, commands_of-onto_last said.sessions c some, sound.counted);
      within = omega (arith, fewer);
      idle = λ h. sound.idle (omega arith);
      steps = none_steps (load_of (record said { sessions = onto_last said.sessions c; commands = said.commands + 1 })) said.steps (sound.idle (omega arith));
      members = sound.members;
      short = sound.short;
    })

append-sound : (said after : Progress) (left : List (List ℕ)) → rank said.section ≡ 4 → length left ≤ TAGS + 1 → IsSound said → append_line said left ≡ Ok after → IsSound after
unfolding append_line
append-sound said after left here few sound same =
    let body = bind_ok (body_at left) _ after same in
    let tags = bind_ok (names_in body.0.1) _ after body.1.1 in
    let taken = body_takes left body.0 body.1.0 in
    let named = names_take body.0.1 tags.0 tags.1.0 in
    let short : length tags.0 ≤ TAGS = omega (arith, taken.shorter, ap (λ (ws : List (List ℕ)). length ws) named.0, few) in
    command-sound said after (command.Append tags.0 body.0.0) here (short, (subst (λ (ws : List (List ℕ)). All IsName ws) named.0 named.1, taken.body)) sound tags.1.1

put-sound : (said after : Progress) (left : List (List ℕ)) → rank said.section ≡ 4 → IsSound said → put_line said left ≡ Ok after → IsSound after
unfolding put_line
put-sound said after left here sound same =
    let key = bind_ok (name_at left) _ after same in
    let body = bind_ok (body_at key.0.1) _ after key.1.1 in
    command-sound said after (command.Put key.0.0 body.0.0) here (name_takes left key.0 key.1.0, (body_takes key.0.1 body.0 body.1.0).body) sound body.1.1

del-sound : (said after : Progress) (left : List (List ℕ)) → rank said.section ≡ 4 → IsSound said → del_line said left ≡ Ok after → IsSound after
unfolding del_line
del-sound said after left here sound same =
    let key = bind_ok (name_at left) _ after same in
    command-sound said after (command.Del key.0.0) here (name_takes left key.0 key.1.0) sound key.1.1

get-sound : (said after : Progress) (left : List (List ℕ)) → rank said.section ≡ 4 → IsSound said → get_line said left ≡ Ok after → IsSound after
unfolding get_line
get-sound said after left here sound same =
    let key = bind_ok (name_at left) _ after same in
    command-sound said after (command.Get key.0.0) here (name_takes left key.0 key.1.0) sound key.1.1

tx-sound : (said after : Progress) (left : List (List ℕ)) → rank said.section ≡ 4 → 1 ≤ length left → length left ≤ KEYS → IsSound said → tx_line said left ≡ Ok after → IsSound after
unfolding tx_line
tx-sound said after left here some few sound same =
    let keys = bind_ok (names_in left) _ after same in
    let named = names_take left keys.0 keys.1.0 in
    let fits : FitsCommand (command.Tx left) = (some, (few, named.1)) in
    command-sound said after (command.Tx keys.0) here (subst (λ (ws : List (List ℕ)). FitsCommand (command.Tx ws)) named.0 fits) sound keys.1.1

read-sound : (said after : Progress) (left : List (List ℕ)) → rank said.section ≡ 4 → IsSound said → read_line said left ≡ Ok after → IsSound after
unfolding read_line
read-sound said after left here sound same =
    let lid = bind_ok (number_at 1 greatest_number left) _ after same in
    let n = number_spells 1 greatest_number left lid.0 (lit< tt) lid.1.0 in
    command-sound said after (command.Read lid.0.0) here (n.low, omega (arith, n.high)) sound lid.1.1

last-sound : (said after : Progress) (left : List (List ℕ)) → rank said.section ≡ 4 → IsSound said → last_line said left ≡ Ok after → IsSound after
unfolding last_line
last-sound said after left here sound same =
    let tag = bind_ok (name_at left) _ after same in
    let count = bind_ok (number_at 1 LAST_RECORDS tag.0.1) _ after tag.1.1 in
    let n = number_spells 1 LAST_RECORDS tag.0.1 count.0 (lit< tt) count.1.0 in
    command-sound said after (command.Last tag.0.0 count.0.0) here (name_takes left tag.0 tag.1.0, (n.low, n.high)) sound count.1.1

command_line-sound : (said after : Progress) (word : CommandWord) (left : List (List ℕ)) → rank said.section ≡ 4 → least_words (CommandLine word) ≤ length left → length left ≤ most_words (CommandLine word) → IsSound said → command_meaning said word left ≡ Ok after → IsSound after
command_line-sound said after Append left here some few sound same = append-sound said after left here few sound same
command_line-sound said after Put left here some few sound same = put-sound said after left here sound same
command_line-sound said after Del left here some few sound same = del-sound said after left here sound same
command_line-sound said after Get left here some few sound same = get-sound said after left here sound same
command_line-sound said after Tx left here some few sound same = tx-sound said after left here some few sound same
command_line-sound said after Read left here some few sound same = read-sound said after left here sound same
command_line-sound said after Last left here some few sound same = last-sound said after left here sound same

-- a line that only goes on to a later section
section-sound : (said after : Progress) (next : Section) → 3 ≤ rank said.section → 5 ≤ rank next → IsSound said → okay (record said { section = next }) ≡ okay after → IsSound after
section-sound said after next here later sound same =
    let is : record said { section = next } ≡ after = cc (same) in
    subst IsSound is (record {
      dcs = λ h. sound.dcs (omega arith);
      round = λ h. sound.round (omega arith);
      begun = λ h. absurd (omega arith);
      bare = λ h. absurd (omega arith);
      given = sound.given;
      once = sound.once;
      few = sound.few;
      plans = sound.plans;
      counted = sound.counted;
      within = sound.within;
      idle = λ h. absurd (omega arith);
      steps = sound.steps;
      members = sound.members;
      short = sound.short;
    })

turn-sound : (said after : Progress) (word : TurnWord) (left : List (List ℕ)) → rank said.section ≡ 5 → length left ≤ length (turn_arguments word) → IsSound said → turn_line said word left ≡ Ok after → IsSound after
turn-sound said after word left here few sound same =
    let takes = turn_takes said after word left few same in
    subst IsSound takes.is (record {
      dcs = sound.dcs;
      round = sound.round;
      begun = sound.begun;
      bare = sound.bare;
      given = sound.given;
      once = sound.once;
      few = sound.few;
      plans = sound.plans;
      counted = sound.counted;
      within = sound.within;
      idle = λ h. absurd (omega arith);
      steps = All-push (FitsStep (load_of said)) said.steps takes.step sound.steps takes.turn.fits;
      members = within_push said.stages said.steps takes.step sound.members takes.spare;
      short = omega (arith, length-append said.steps (takes.step ∷ []), takes.room);
    })

-- a section that is known has its rank
ranked : {here there : Section} → here ≡ there → rank here ≡ rank there
ranked is = ap (λ (s : Section). rank s) is

meaning-sound : (said after : Progress) (keyword : Keyword) (left : List (List ℕ)) → stands keyword said.section ≡ true → least_words keyword ≤ length left → length left ≤ most_words keyword → IsSound said → meaning said keyword left ≡ Ok after → IsSound after
meaning-sound said after Chariots left here some few sound same = chariots-sound said after left (ranked (at-start said.section here)) sound same
meaning-sound said after Datacentres left here some few sound same = datacentres-sound said after left (ranked (at-datacentres said.section here)) sound same
meaning-sound said after Round left here some few sound same = round-sound said after left (ranked (at-round said.section here)) sound same
meaning-sound said after Stages left here some few sound same = stages-sound said after left (ranked (at-stages said.section here)) sound same
meaning-sound said after Session left here some few sound same = session-sound said after left (rank-either said.section here) (rank-upto said.section here) sound same
meaning-sound said after (CommandLine word) left here some few sound same = command_line-sound said after word left (ranked (at-sessions said.section here)) some few sound same
meaning-sound said after Steps left here some few sound same = section-sound said after section.Steps (rank-either said.section here) (omega arith) sound same
meaning-sound said after (Turn word) left here some few sound same = turn-sound said after word left (ranked (at-steps said.section here)) few sound same
meaning-sound said after End left here some few sound same = section-sound said after section.Ended (omega (arith, ranked (at-steps said.section here))) (omega arith) sound same

keyword-sound : (said after : Progress) (keyword : Option Keyword) (left : List (List ℕ)) → IsSound said → keyword_after said keyword left ≡ Ok after → IsSound after
keyword-sound said after None left sound same = cc
keyword-sound said after (Some keyword) left sound same =
    let place = guard_ok (not (stands keyword said.section)) _ _ after same in
    let count = guard_ok (nat_lt (length left) (least_words keyword) || nat_lt (most_words keyword) (length left)) _ _ after place.1 in
    let most = or_parts (nat_lt (length left) (least_words keyword)) (nat_lt (most_words keyword) (length left)) count.0 in
    let some : least_words keyword ≤ length left = grind (arith, nat_tests, most.0) in
    let few : length left ≤ most_words keyword = grind (arith, nat_tests, most.1) in
    meaning-sound said after keyword left (not-false (stands keyword said.section) place.0) some few sound count.1

words-sound : (said after : Progress) (left : List (List ℕ)) → IsSound said → words_after said left ≡ Ok after → IsSound after
unfolding words_after
words-sound said after [] sound same = cc
words-sound said after (first ∷ more) sound same = keyword-sound said after (keyword_of first) more sound same

pub line-sound : (said after : Progress) (line : List ℕ) → IsSound said → line_after said line ≡ Ok after → IsSound after
unfolding line_after
line-sound said after line sound same =
    let bytes = guard_ok (not (list_all is_line_byte line)) _ _ after same in
    let either = chosen (is_passed_over line) _ _ (okay after) bytes.1 in
    elim either [
      | inl over ↦ subst IsSound (okay-same said after over) sound
      | inr on ↦
          let spaced = guard_ok (list_any is_empty_word (words line)) _ _ after on in
          let going = guard_ok (is_ended said.section) _ _ after spaced.1 in
          words-sound said after (words line) sound going.1
    ]

sizes_upto-fits : (stages : List SizesLine) (dcs : ℕ) → All (λ (g : SizesLine). FitsSizes g.sizes) stages → All FitsSizes (sizes_upto stages dcs)
sizes_upto-fits stages zero all = All-nil FitsSizes
sizes_upto-fits stages (suc dc) all = All-push FitsSizes (sizes_upto stages dc) (sizes_given stages dc) (sizes_upto-fits stages dc all) (sizes_given-fit stages dc all)

length-sizes_upto : (stages : List SizesLine) (dcs : ℕ) → length (sizes_upto stages dcs) ≡ dcs
length-sizes_upto stages zero = refl
length-sizes_upto stages (suc dc) = omega (arith, length-sizes_upto stages dc, length-append (sizes_upto stages dc) (sizes_given stages dc ∷ []))

-- what all lines have said is a script
pub said-fits : (said : Progress) → IsSound said → 3 ≤ rank said.section → FitsScript (script_said said)
said-fits said sound here =
    let dcs = sound.dcs (omega arith) in
    record {
      limits = record {
        workload = record { some = dcs.0; few = dcs.1; homes = λ s within. (All-get_or (FitsPlan said.dcs) said.sessions s no_plan within sound.plans).home };
        sessions = sound.few;
        plans = sound.plans;
        commands = omega (arith, sound.counted, sound.within);
      };
      round = sound.round here;
      each = length-sizes_upto said.stages said.dcs;
      sizes = sizes_upto-fits said.stages said.dcs (λ k d within. (sound.given k d within).sizes);
      steps = sound.short;
    }

-- the sizes that the script has of a datacentre are those that its line gives
pub get_or-sizes_upto : (stages : List SizesLine) (dcs d : ℕ) (other : Sizes) → d < dcs → get_or (sizes_upto stages dcs) d other ≡ sizes_given stages d
get_or-sizes_upto stages zero d other within = absurd (omega (arith, within))
get_or-sizes_upto stages (suc dc) d other within =
    let many = length-sizes_upto stages dc in
    elim (nat_lt d dc) as (λ v. (nat_lt d dc ≡ v) → get_or (sizes_upto stages (suc dc)) d other ≡ sizes_given stages d) [
      | true ↦ λ before.
          let below : d < dc = grind (arith, nat_tests, before) in
          get_or-append (sizes_upto stages dc) (sizes_given stages dc ∷ []) other d (omega (arith, below, many)) ∙ get_or-sizes_upto stages dc d other below
      | false ↦ λ last.
          let here : d ≡ dc = grind (arith, nat_tests, last, within) in
          get_or_push (sizes_upto stages dc) (sizes_given stages dc) other d (many ∙ sym here) ∙ ap (λ (k : ℕ). sizes_given stages k) (sym here)
    ] refl

-- no stage of it gets more members than it may have
pub said-members : (said : Progress) → IsSound said → FitsMembers (script_said said)
said-members said sound d stage there =
    subst (λ (sizes : Sizes). members stage sizes + additions d stage said.steps ≤ MEMBERS) (sym (get_or-sizes_upto said.stages said.dcs d one_of_each there)) (sound.members d stage)
