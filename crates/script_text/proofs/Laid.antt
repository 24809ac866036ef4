-- What has been said is what the lines so far write: lines from which a script is read write it.
-- By cases on each line (`line-adds`), and then by induction on the lines that are left (`script_from-ends`).
-- The theorem is `script_of-written`; the contract of `read_script` takes its parts from `all-written` on.
use Rattle.std.proofs.Common.{◌≡◌, ◌<◌, ◌≤◌, ◌+◌, ℕ, List, [], ◌∷◌, ◌++◌, length, refl, ap, sym, subst, ◌∙◌, arith, Bool, true, false, cond, not, ◌||◌, nat_eq, ◌⊎◌, inr, map, append_assoc, lit<, All}
use Rattle.std.specs.Prelude.{nat_le, nat_lt, Ok, Err, Result, Option, Some, None, IfOk, codes}
use Rattle.std.specs.List.{list_all, list_any}
use Rattle.std.specs.Fmt.{decimal}
use Rattle.std.proofs.lemmas.Bool.Decides.{nat_tests}
use Rattle.std.proofs.lemmas.List.{map-append, append-nil, nil_from_length}
use Rattle.std.proofs.lemmas.List.Elements.{All-nil, All-cons}
use Rattle.abstract_log.specs.declared.command.Command.{Command}
use Rattle.abstract_log.specs.declared.command.SessionPlan.{SessionPlan}
use Rattle.abstract_log.specs.declared.script.Script.{Script}
use Rattle.abstract_log.specs.declared.script.Sizes.{Sizes}
use Rattle.abstract_log.specs.declared.script.Step.{Step}
use Rattle.script_text.specs.declared.fault.Cause.{Cause}
use Rattle.script_text.specs.declared.fault.Cause.TheVariants.{BadSpacing, AfterEnd}
use Rattle.script_text.specs.declared.fault.ScriptFault.{ScriptFault}
use Rattle.script_text.specs.declared.keyword.Keyword.{Keyword}
use Rattle.script_text.specs.declared.keyword.Keyword.TheVariants.{Chariots, Datacentres, Round, Stages, Session, Command as CommandLine, Steps, Turn, End}
use Rattle.script_text.specs.declared.keyword.CommandWord.{CommandWord}
use Rattle.script_text.specs.declared.keyword.CommandWord.TheVariants.{Append, Put, Del, Get, Tx, Read, Last}
use Rattle.script_text.specs.declared.keyword.TurnWord.{TurnWord}
use Rattle.script_text.specs.declared.section.Section.{Section}
use Rattle.script_text.specs.declared.progress.Progress.{Progress}
use Rattle.script_text.specs.declared.progress.SizesLine.{SizesLine}
use Rattle.script_text.specs.Words.{words, is_line_byte, is_empty_word}
use Rattle.script_text.specs.Reading.{number_at, datacentre_at, body_at, name_at, names_in, greatest_number}
use Rattle.script_text.specs.Keywords.{text_of, turn_text, keyword_of, stands, turn_arguments, least_words, most_words, is_ended}
use Rattle.script_text.specs.Meaning.{start, chariots_line, datacentres_line, round_line, sizes_at, stages_line, session_line, onto_last, with_command, append_line, put_line, del_line, get_line, tx_line, read_line, last_line, turn_line, command_meaning, meaning, keyword_after, words_after, is_passed_over, line_after, is_given, script_said, told, next_number, script_from, script_of}
use Rattle.script_text.specs.Members.{FitsMembers}
use Rattle.script_text.specs.Spelled.{letter, command_words, stages_words, first_words, datacentres_words, round_words, before_steps, turn_words, steps_words, end_words, said_words, Spells, IsWritten}
use Rattle.abstract_log.specs.Turns.{FitsStep}
use Rattle.abstract_log.specs.Fits.{FitsScript}
use Rattle.std.proofs.lemmas.Bool.{or_parts, not-false}
use Rattle.cz_base.specs.declared.limits.TheConstants.{DATACENTRES, MEMBERS, SESSIONS, COMMANDS, ROUND, LAST_RECORDS}
use Rattle.abstract_log.specs.declared.command.Command.TheVariants as command
use Rattle.script_text.specs.declared.section.Section.TheVariants as section
use Rattle.script_text.proofs.Going.{okay, okay-same, bind_ok, guard_ok, pass_ok, told_ok}
use Rattle.script_text.proofs.SoFar.{keyword_text, so_far_at, laid_at, Lays, empty-before, stages-before, sessions-before, commands-before, either-before, IsLine}
use Rattle.script_text.proofs.Sections.{at-start, at-datacentres, at-round, at-stages, at-sessions, at-either, at-steps, at-ended, rank-upto, rank-ended}
use Rattle.script_text.proofs.Sound.{IsSound, start-sound, line-sound, said-fits, said-members}
use Rattle.script_text.proofs.Spelling.{number_spells, datacentre_spells, body_spells, name_spells, names_spell, one_name, one_number}
use Rattle.script_text.proofs.TurnLemmas.{and_step, turn_takes}

chariots-lays : (said after : Progress) (left : List (List ℕ)) → said.section ≡ section.Start → laid_at said.section said → length left ≤ 1 → chariots_line said left ≡ Ok after
    → Lays said after (codes "chariots" ∷ left)
unfolding chariots_line
chariots-lays said after left here laid few same =
    let read = bind_ok (number_at 1 1 left) _ after same in
    let n = number_spells 1 1 left read.0 (lit< tt) read.1.0 in
    let alone = one_number 1 1 left read.0 (lit< tt) few read.1.0 in
    let one : read.0.0 ≡ 1 = omega (arith, n.low, n.high) in
    let is : record said { section = section.Datacentres } ≡ after = okay-same (record said { section = section.Datacentres }) after read.1.1 in
    let none : (said.stages ≡ []) × (said.sessions ≡ []) = subst (λ (s : Section). laid_at s said) here laid in
    let before : so_far_at said.section said ≡ [] = ap (λ (s : Section). so_far_at s said) here in
    let written : first_words ≡ codes "chariots" ∷ left = ap (λ (k : ℕ). codes "chariots" ∷ decimal k ∷ []) (sym one) ∙ ap (λ (ws : List (List ℕ)). codes "chariots" ∷ ws) (sym alone) in
    let made : Lays said (record said { section = section.Datacentres }) (codes "chariots" ∷ left) = record {
      laid = none;
      more = ap (λ (l : List (List ℕ)). l ∷ []) written ∙ ap (λ (ls : List (List (List ℕ))). ls ++ (codes "chariots" ∷ left) ∷ []) (sym before);
    } in
    subst (λ (p : Progress). Lays said p (codes "chariots" ∷ left)) is made

datacentres-lays : (said after : Progress) (left : List (List ℕ)) → said.section ≡ section.Datacentres → laid_at said.section said → length left ≤ 1 → datacentres_line said left ≡ Ok after
    → Lays said after (codes "datacentres" ∷ left)
unfolding datacentres_line
datacentres-lays said after left here laid few same =
    let read = bind_ok (number_at 1 DATACENTRES left) _ after same in
    let alone = one_number 1 DATACENTRES left read.0 (lit< tt) few read.1.0 in
    let is : record said { dcs = read.0.0; section = section.Round } ≡ after = okay-same (record said { dcs = read.0.0; section = section.Round }) after read.1.1 in
    let none : (said.stages ≡ []) × (said.sessions ≡ []) = subst (λ (s : Section). laid_at s said) here laid in
    let before : so_far_at said.section said ≡ first_words ∷ [] = ap (λ (s : Section). so_far_at s said) here in
    let written : datacentres_words read.0.0 ≡ codes "datacentres" ∷ left = ap (λ (ws : List (List ℕ)). codes "datacentres" ∷ ws) (sym alone) in
    let made : Lays said (record said { dcs = read.0.0; section = section.Round }) (codes "datacentres" ∷ left) = record {
      laid = none;
      more = ap (λ (l : List (List ℕ)). first_words ∷ l ∷ []) written ∙ ap (λ (ls : List (List (List ℕ))). ls ++ (codes "datacentres" ∷ left) ∷ []) (sym before);
    } in
    subst (λ (p : Progress). Lays said p (codes "datacentres" ∷ left)) is made

round-lays : (said after : Progress) (left : List (List ℕ)) → said.section ≡ section.Round → laid_at said.section said → length left ≤ 1 → round_line said left ≡ Ok after
    → Lays said after (codes "round" ∷ left)
unfolding round_line
round-lays said after left here laid few same =
    let read = bind_ok (number_at 1 ROUND left) _ after same in
    let alone = one_number 1 ROUND left read.0 (lit< tt) few read.1.0 in
    let is : record said { round = read.0.0; section = section.Stages } ≡ after = okay-same (record said { round = read.0.0; section = section.Stages }) after read.1.1 in
    let none : (said.stages ≡ []) × (said.sessions ≡ []) = subst (λ (s : Section). laid_at s said) here laid in
    let before : so_far_at said.section said ≡ first_words ∷ datacentres_words said.dcs ∷ [] = ap (λ (s : Section). so_far_at s said) here in
    let written : round_words read.0.0 ≡ codes "round" ∷ left = ap (λ (ws : List (List ℕ)). codes "round" ∷ ws) (sym alone) in
    let made : Lays said (record said { round = read.0.0; section = section.Stages }) (codes "round" ∷ left) = record {
      laid = none.1;
      more = empty-before said.dcs read.0.0 said.stages said.sessions none.0 none.1
          ∙ ap (λ (l : List (List ℕ)). first_words ∷ datacentres_words said.dcs ∷ l ∷ []) written ∙ ap (λ (ls : List (List (List ℕ))). ls ++ (codes "round" ∷ left) ∷ []) (sym before);
    } in
    subst (λ (p : Progress). Lays said p (codes "round" ∷ left)) is made

-- the seven numbers of a `stages` line
sizes_spell : (left : List (List ℕ)) (x : Sizes × List (List ℕ)) → sizes_at left ≡ Ok x
    → left ≡ decimal x.0.batchers ∷ decimal x.0.filters ∷ decimal x.0.queues ∷ decimal x.0.maintainers ∷ decimal x.0.indexers ∷ decimal x.0.senders ∷ decimal x.0.receivers ∷ x.1
unfolding sizes_at
sizes_spell left x same =
    let one = bind_ok (number_at 1 MEMBERS left) _ x same in
    let two = bind_ok (number_at 1 MEMBERS one.0.1) _ x one.1.1 in
    let three = bind_ok (number_at 1 MEMBERS two.0.1) _ x two.1.1 in
    let four = bind_ok (number_at 1 MEMBERS three.0.1) _ x three.1.1 in
    let five = bind_ok (number_at 1 MEMBERS four.0.1) _ x four.1.1 in
    let six = bind_ok (number_at 1 MEMBERS five.0.1) _ x five.1.1 in
    let seven = bind_ok (number_at 1 MEMBERS six.0.1) _ x six.1.1 in
    let a = (number_spells 1 MEMBERS left one.0 (lit< tt) one.1.0).word in
    let b = (number_spells 1 MEMBERS one.0.1 two.0 (lit< tt) two.1.0).word in
    let c = (number_spells 1 MEMBERS two.0.1 three.0 (lit< tt) three.1.0).word in
    let d = (number_spells 1 MEMBERS three.0.1 four.0 (lit< tt) four.1.0).word in
    let e = (number_spells 1 MEMBERS four.0.1 five.0 (lit< tt) five.1.0).word in
    let f = (number_spells 1 MEMBERS five.0.1 six.0 (lit< tt) six.1.0).word in
    let g = (number_spells 1 MEMBERS six.0.1 seven.0 (lit< tt) seven.1.0).word in
    let made : Sizes = record { batchers = one.0.0; filters = two.0.0; queues = three.0.0; maintainers = four.0.0; indexers = five.0.0; senders = six.0.0; receivers = seven.0.0 } in
    let pair : (made, seven.0.1) ≡ x = okay-same (made, seven.0.1) x seven.1.1 in
    let all = a ∙ ap (λ (ws : List (List ℕ)). decimal one.0.0 ∷ ws)
    (b ∙ ap (λ (ws : List (List ℕ)). decimal two.0.0 ∷ ws)
    (c ∙ ap (λ (ws : List (List ℕ)). decimal three.0.0 ∷ ws)
    (d ∙ ap (λ (ws : List (List ℕ)). decimal four.0.0 ∷ ws)
    (e ∙ ap (λ (ws : List (List ℕ)). decimal five.0.0 ∷ ws)
    (f ∙ ap (λ (ws : List (List ℕ)). decimal six.0.0 ∷ ws) g))))) in
    subst (λ (p : Sizes × List (List ℕ)). left ≡ decimal p.0.batchers ∷ decimal p.0.filters ∷ decimal p.0.queues ∷ decimal p.0.maintainers ∷ decimal p.0.indexers ∷ decimal p.0.senders ∷ decimal p.0.receivers ∷ p.1) pair all

stages-lays : (said after : Progress) (left : List (List ℕ)) → said.section ≡ section.Stages → laid_at said.section said → length left ≤ 8 → stages_line said left ≡ Ok after
    → Lays said after (codes "stages" ∷ left)
unfolding stages_line
stages-lays said after left here laid few same =
    let dc = bind_ok (datacentre_at said.dcs left) _ after same in
    let sizes = bind_ok (sizes_at dc.0.1) _ after dc.1.1 in
    let new = guard_ok (is_given said.stages dc.0.0) _ _ after sizes.1.1 in
    let given : SizesLine = record { dc = dc.0.0; sizes = sizes.0.0 } in
    let next : Progress = record said { stages = said.stages ++ given ∷ [] } in
    let is : next ≡ after = okay-same next after new.1 in
    let nobody : said.sessions ≡ [] = subst (λ (s : Section). laid_at s said) here laid in
    let first = datacentre_spells said.dcs left dc.0 dc.1.0 in
    let numbers = sizes_spell dc.0.1 sizes.0 sizes.1.0 in
    let none : length sizes.0.1 ≡ 0 = omega (arith, ap (λ (ws : List (List ℕ)). length ws) first, ap (λ (ws : List (List ℕ)). length ws) numbers, few) in
    let whole : left ≡ letter dc.0.0 ∷ decimal sizes.0.0.batchers ∷ decimal sizes.0.0.filters ∷ decimal sizes.0.0.queues ∷ decimal sizes.0.0.maintainers ∷ decimal sizes.0.0.indexers ∷ decimal sizes.0.0.senders ∷ decimal sizes.0.0.receivers ∷ []
    = first ∙ ap (λ (ws : List (List ℕ)). letter dc.0.0 ∷ ws) numbers
    ∙ ap (λ (ws : List (List ℕ)). letter dc.0.0 ∷ decimal sizes.0.0.batchers ∷ decimal sizes.0.0.filters ∷ decimal sizes.0.0.queues ∷ decimal sizes.0.0.maintainers ∷ decimal sizes.0.0.indexers ∷ decimal sizes.0.0.senders ∷ decimal sizes.0.0.receivers ∷ ws) (nil_from_length sizes.0.1 none) in
    let written : stages_words given ≡ codes "stages" ∷ left = ap (λ (ws : List (List ℕ)). codes "stages" ∷ ws) (sym whole) in
    let before : so_far_at said.section said ≡ before_steps said.dcs said.round said.stages said.sessions = ap (λ (s : Section). so_far_at s said) here in
    let now : so_far_at said.section next ≡ before_steps said.dcs said.round (said.stages ++ given ∷ []) said.sessions = ap (λ (s : Section). so_far_at s next) here in
    let made : Lays said next (codes "stages" ∷ left) = record {
      laid = subst (λ (s : Section). laid_at s next) (sym here) nobody;
      more = now ∙ stages-before said.dcs said.round said.stages given said.sessions nobody
          ∙ ap (λ (l : List (List ℕ)). before_steps said.dcs said.round said.stages said.sessions ++ l ∷ []) written
          ∙ ap (λ (ls : List (List (List ℕ))). ls ++ (codes "stages" ∷ left) ∷ []) (sym before);
    } in
    subst (λ (p : Progress). Lays said p (codes "stages" ∷ left)) is made

session-lays : (said after : Progress) (left : List (List ℕ)) → (said.section ≡ section.Stages) ⊎ (said.section ≡ section.Sessions) → length left ≤ 1 → session_line said left ≡ Ok after
    → Lays said after (codes "session" ∷ left)
unfolding session_line
session-lays said after left here few same =
    let home = bind_ok (datacentre_at said.dcs left) _ after same in
    let room = guard_ok (nat_eq (length said.sessions) SESSIONS) _ _ after home.1.1 in
    let plan : SessionPlan = record { home = home.0.0; commands = [] } in
    let next : Progress = record said { sessions = said.sessions ++ plan ∷ []; section = section.Sessions } in
    let is : next ≡ after = okay-same next after room.1 in
    let first = datacentre_spells said.dcs left home.0 home.1.0 in
    let none : length home.0.1 ≡ 0 = omega (arith, ap (λ (ws : List (List ℕ)). length ws) first, few) in
    let whole : left ≡ letter home.0.0 ∷ [] = first ∙ ap (λ (ws : List (List ℕ)). letter home.0.0 ∷ ws) (nil_from_length home.0.1 none) in
    let made : Lays said next (codes "session" ∷ left) = record {
      laid = tt;
      more = sessions-before said.dcs said.round said.stages said.sessions home.0.0
          ∙ ap (λ (ws : List (List ℕ)). before_steps said.dcs said.round said.stages said.sessions ++ (codes "session" ∷ ws) ∷ []) (sym whole)
          ∙ ap (λ (ls : List (List (List ℕ))). ls ++ (codes "session" ∷ left) ∷ []) (sym (either-before said here));
    } in
    subst (λ (p : Progress). Lays said p (codes "session" ∷ left)) is made

command-lays : (said after : Progress) (c : Command) (line : List (List ℕ)) → said.section ≡ section.Sessions → line ≡ command_words c → with_command said c ≡ Ok after → Lays said after line
unfolding with_command
command-lays said after c line here spelled same =
    let room = guard_ok (nat_le COMMANDS said.commands) _ _ after same in
    let begun = guard_ok (nat_eq (length said.sessions) 0) _ _ after room.1 in
    let next : Progress = record said { sessions = onto_last said.sessions c; commands = said.commands + 1 } in
    let is : next ≡ after = okay-same next after begun.1 in
    let some : 0 < length said.sessions = grind (arith, nat_tests, begun.0) in
    let now : so_far_at said.section next ≡ before_steps said.dcs said.round said.stages (onto_last said.sessions c) = ap (λ (s : Section). so_far_at s next) here in
    let made : Lays said next line = record {
      laid = subst (λ (s : Section). laid_at s next) (sym here) tt;
      more = now ∙ commands-before said.dcs said.round said.stages said.sessions c some
          ∙ ap (λ (l : List (List ℕ)). before_steps said.dcs said.round said.stages said.sessions ++ l ∷ []) (sym spelled)
          ∙ ap (λ (ls : List (List (List ℕ))). ls ++ line ∷ []) (sym (either-before said (inr here)));
    } in
    subst (λ (p : Progress). Lays said p line) is made

append-lays : (said after : Progress) (left : List (List ℕ)) → said.section ≡ section.Sessions → append_line said left ≡ Ok after → Lays said after (codes "append" ∷ left)
unfolding append_line
append-lays said after left here same =
    let body = bind_ok (body_at left) _ after same in
    let tags = bind_ok (names_in body.0.1) _ after body.1.1 in
    let first = body_spells left body.0 body.1.0 in
    let rest = names_spell body.0.1 tags.0 tags.1.0 in
    let spelled : codes "append" ∷ left ≡ command_words (command.Append tags.0 body.0.0)
    = ap (λ (ws : List (List ℕ)). codes "append" ∷ ws) (first ∙ ap (λ (ws : List (List ℕ)). (61 ∷ body.0.0) ∷ ws) rest) in
    command-lays said after (command.Append tags.0 body.0.0) (codes "append" ∷ left) here spelled tags.1.1

put-lays : (said after : Progress) (left : List (List ℕ)) → said.section ≡ section.Sessions → length left ≤ 2 → put_line said left ≡ Ok after → Lays said after (codes "put" ∷ left)
unfolding put_line
put-lays said after left here few same =
    let key = bind_ok (name_at left) _ after same in
    let body = bind_ok (body_at key.0.1) _ after key.1.1 in
    let first = name_spells left key.0 key.1.0 in
    let second = body_spells key.0.1 body.0 body.1.0 in
    let none : length body.0.1 ≡ 0 = omega (arith, ap (λ (ws : List (List ℕ)). length ws) first, ap (λ (ws : List (List ℕ)). length ws) second, few) in
    let whole : left ≡ key.0.0 ∷ (61 ∷ body.0.0) ∷ []
    = first ∙ ap (λ (ws : List (List ℕ)). key.0.0 ∷ ws) (second ∙ ap (λ (ws : List (List ℕ)). (61 ∷ body.0.0) ∷ ws) (nil_from_length body.0.1 none)) in
    command-lays said after (command.Put key.0.0 body.0.0) (codes "put" ∷ left) here (ap (λ (ws : List (List ℕ)). codes "put" ∷ ws) whole) body.1.1

del-lays : (said after : Progress) (left : List (List ℕ)) → said.section ≡ section.Sessions → length left ≤ 1 → del_line said left ≡ Ok after → Lays said after (codes "del" ∷ left)
unfolding del_line
del-lays said after left here few same =
    let key = bind_ok (name_at left) _ after same in
    command-lays said after (command.Del key.0.0) (codes "del" ∷ left) here (ap (λ (ws : List (List ℕ)). codes "del" ∷ ws) (one_name left key.0 few key.1.0)) key.1.1

get-lays : (said after : Progress) (left : List (List ℕ)) → said.section ≡ section.Sessions → length left ≤ 1 → get_line said left ≡ Ok after → Lays said after (codes "get" ∷ left)
unfolding get_line
get-lays said after left here few same =
    let key = bind_ok (name_at left) _ after same in
    command-lays said after (command.Get key.0.0) (codes "get" ∷ left) here (ap (λ (ws : List (List ℕ)). codes "get" ∷ ws) (one_name left key.0 few key.1.0)) key.1.1

tx-lays : (said after : Progress) (left : List (List ℕ)) → said.section ≡ section.Sessions → tx_line said left ≡ Ok after → Lays said after (codes "tx" ∷ left)
unfolding tx_line
tx-lays said after left here same =
    let keys = bind_ok (names_in left) _ after same in
    command-lays said after (command.Tx keys.0) (codes "tx" ∷ left) here (ap (λ (ws : List (List ℕ)). codes "tx" ∷ ws) (names_spell left keys.0 keys.1.0)) keys.1.1

read-lays : (said after : Progress) (left : List (List ℕ)) → said.section ≡ section.Sessions → length left ≤ 1 → read_line said left ≡ Ok after → Lays said after (codes "read" ∷ left)
unfolding read_line
read-lays said after left here few same =
    let lid = bind_ok (number_at 1 greatest_number left) _ after same in
    let alone = one_number 1 greatest_number left lid.0 (lit< tt) few lid.1.0 in
    command-lays said after (command.Read lid.0.0) (codes "read" ∷ left) here (ap (λ (ws : List (List ℕ)). codes "read" ∷ ws) alone) lid.1.1

last-lays : (said after : Progress) (left : List (List ℕ)) → said.section ≡ section.Sessions → length left ≤ 2 → last_line said left ≡ Ok after → Lays said after (codes "last" ∷ left)
unfolding last_line
last-lays said after left here few same =
    let tag = bind_ok (name_at left) _ after same in
    let count = bind_ok (number_at 1 LAST_RECORDS tag.0.1) _ after tag.1.1 in
    let first = name_spells left tag.0 tag.1.0 in
    let fewer : length tag.0.1 ≤ 1 = omega (arith, ap (λ (ws : List (List ℕ)). length ws) first, few) in
    let alone = one_number 1 LAST_RECORDS tag.0.1 count.0 (lit< tt) fewer count.1.0 in
    let whole : left ≡ tag.0.0 ∷ decimal count.0.0 ∷ [] = first ∙ ap (λ (ws : List (List ℕ)). tag.0.0 ∷ ws) alone in
    command-lays said after (command.Last tag.0.0 count.0.0) (codes "last" ∷ left) here (ap (λ (ws : List (List ℕ)). codes "last" ∷ ws) whole) count.1.1

command_line-lays : (said after : Progress) (word : CommandWord) (left : List (List ℕ)) → said.section ≡ section.Sessions → length left ≤ most_words (CommandLine word) → command_meaning said word left ≡ Ok after
    → Lays said after (text_of (CommandLine word) ∷ left)
unfolding text_of
command_line-lays said after Append left here few same = append-lays said after left here same
command_line-lays said after Put left here few same = put-lays said after left here few same
command_line-lays said after Del left here few same = del-lays said after left here few same
command_line-lays said after Get left here few same = get-lays said after left here few same
command_line-lays said after Tx left here few same = tx-lays said after left here same
command_line-lays said after Read left here few same = read-lays said after left here few same
command_line-lays said after Last left here few same = last-lays said after left here few same

steps-lays : (said after : Progress) (left : List (List ℕ)) → (said.section ≡ section.Stages) ⊎ (said.section ≡ section.Sessions) → length left ≤ 0 → said.steps ≡ [] → okay (record said { section = section.Steps }) ≡ okay after
    → Lays said after (codes "steps" ∷ left)
steps-lays said after left here few idle same =
    let is : record said { section = section.Steps } ≡ after = okay-same (record said { section = section.Steps }) after same in
    let alone = nil_from_length left (omega arith) in
    let all : List (List (List ℕ)) = before_steps said.dcs said.round said.stages said.sessions in
    let made : Lays said (record said { section = section.Steps }) (codes "steps" ∷ left) = record {
      laid = tt;
      more = ap (λ (ts : List Step). all ++ steps_words ∷ map turn_words ts) idle
          ∙ ap (λ (ws : List (List ℕ)). all ++ (codes "steps" ∷ ws) ∷ []) (sym alone)
          ∙ ap (λ (ls : List (List (List ℕ))). ls ++ (codes "steps" ∷ left) ∷ []) (sym (either-before said here));
    } in
    subst (λ (p : Progress). Lays said p (codes "steps" ∷ left)) is made

turn-lays : (said after : Progress) (word : TurnWord) (left : List (List ℕ)) → said.section ≡ section.Steps → length left ≤ length (turn_arguments word) → turn_line said word left ≡ Ok after
    → Lays said after (turn_text word ∷ left)
turn-lays said after word left here few same =
    let takes = turn_takes said after word left few same in
    let next : Progress = and_step said takes.step in
    let all : List (List (List ℕ)) = before_steps said.dcs said.round said.stages said.sessions in
    let before : so_far_at said.section said ≡ all ++ steps_words ∷ map turn_words said.steps = ap (λ (s : Section). so_far_at s said) here in
    let now : so_far_at said.section next ≡ all ++ steps_words ∷ map turn_words (said.steps ++ takes.step ∷ []) = ap (λ (s : Section). so_far_at s next) here in
    let made : Lays said next (turn_text word ∷ left) = record {
      laid = subst (λ (s : Section). laid_at s next) (sym here) tt;
      more = now ∙ ap (λ (ls : List (List (List ℕ))). all ++ steps_words ∷ ls) (map-append turn_words said.steps (takes.step ∷ []))
          ∙ sym (append_assoc all (steps_words ∷ map turn_words said.steps) (turn_words takes.step ∷ []))
          ∙ ap (λ (l : List (List ℕ)). (all ++ steps_words ∷ map turn_words said.steps) ++ l ∷ []) (sym takes.turn.words)
          ∙ ap (λ (ls : List (List (List ℕ))). ls ++ (turn_text word ∷ left) ∷ []) (sym before);
    } in
    subst (λ (p : Progress). Lays said p (turn_text word ∷ left)) takes.is made

end-lays : (said after : Progress) (left : List (List ℕ)) → said.section ≡ section.Steps → length left ≤ 0 → okay (record said { section = section.Ended }) ≡ okay after
    → Lays said after (codes "end" ∷ left)
end-lays said after left here few same =
    let is : record said { section = section.Ended } ≡ after = okay-same (record said { section = section.Ended }) after same in
    let alone = nil_from_length left (omega arith) in
    let all : List (List (List ℕ)) = before_steps said.dcs said.round said.stages said.sessions in
    let before : so_far_at said.section said ≡ all ++ steps_words ∷ map turn_words said.steps = ap (λ (s : Section). so_far_at s said) here in
    let made : Lays said (record said { section = section.Ended }) (codes "end" ∷ left) = record {
      laid = tt;
      more = sym (append_assoc all (steps_words ∷ map turn_words said.steps) (end_words ∷ []))
          ∙ ap (λ (ws : List (List ℕ)). (all ++ steps_words ∷ map turn_words said.steps) ++ (codes "end" ∷ ws) ∷ []) (sym alone)
          ∙ ap (λ (ls : List (List (List ℕ))). ls ++ (codes "end" ∷ left) ∷ []) (sym before);
    } in
    subst (λ (p : Progress). Lays said p (codes "end" ∷ left)) is made

meaning-lays : (said after : Progress) (keyword : Keyword) (left : List (List ℕ)) → stands keyword said.section ≡ true → length left ≤ most_words keyword → laid_at said.section said → IsSound said → meaning said keyword left ≡ Ok after
    → Lays said after (text_of keyword ∷ left)
unfolding text_of
meaning-lays said after Chariots left here few laid sound same = chariots-lays said after left (at-start said.section here) laid few same
meaning-lays said after Datacentres left here few laid sound same = datacentres-lays said after left (at-datacentres said.section here) laid few same
meaning-lays said after Round left here few laid sound same = round-lays said after left (at-round said.section here) laid few same
meaning-lays said after Stages left here few laid sound same = stages-lays said after left (at-stages said.section here) laid few same
meaning-lays said after Session left here few laid sound same = session-lays said after left (at-either said.section here) few same
meaning-lays said after (CommandLine word) left here few laid sound same = command_line-lays said after word left (at-sessions said.section here) few same
meaning-lays said after Steps left here few laid sound same = steps-lays said after left (at-either said.section here) few (sound.idle (rank-upto said.section here)) same
meaning-lays said after (Turn word) left here few laid sound same = turn-lays said after word left (at-steps said.section here) few same
meaning-lays said after End left here few laid sound same = end-lays said after left (at-steps said.section here) few same

keyword-lays : (said after : Progress) (first : List ℕ) (keyword : Option Keyword) (left : List (List ℕ)) → keyword_of first ≡ keyword → laid_at said.section said → IsSound said → keyword_after said keyword left ≡ Ok after
    → Lays said after (first ∷ left)
keyword-lays said after first None left spelled laid sound same = cc
keyword-lays said after first (Some keyword) left spelled laid sound same =
    let place = guard_ok (not (stands keyword said.section)) _ _ after same in
    let count = guard_ok (nat_lt (length left) (least_words keyword) || nat_lt (most_words keyword) (length left)) _ _ after place.1 in
    let most = or_parts (nat_lt (length left) (least_words keyword)) (nat_lt (most_words keyword) (length left)) count.0 in
    let few : length left ≤ most_words keyword = grind (arith, nat_tests, most.1) in
    subst (λ (word : List ℕ). Lays said after (word ∷ left)) (sym (keyword_text first keyword spelled))
    (meaning-lays said after keyword left (not-false (stands keyword said.section) place.0) few laid sound count.1)

words-lay : (said after : Progress) (line : List (List ℕ)) → laid_at said.section said → IsSound said → words_after said line ≡ Ok after → Lays said after line
unfolding words_after
words-lay said after [] laid sound same = cc
words-lay said after (first ∷ more) laid sound same = keyword-lays said after first (keyword_of first) more refl laid sound same

-- what a whole line adds
adds_of : (said after : Progress) (line : List (List ℕ)) (over : Bool) (rest : Result Progress Cause) → laid_at said.section said → (rest ≡ okay after → Lays said after line) → cond over (okay said) rest ≡ okay after
    → laid_at after.section after × (so_far_at after.section after ≡ so_far_at said.section said ++ cond over [] (line ∷ []))
adds_of said after line true rest laid lays same =
    subst (λ (p : Progress). laid_at p.section p × (so_far_at p.section p ≡ so_far_at said.section said ++ [])) (okay-same said after same) (laid, sym (append-nil (so_far_at said.section said)))
adds_of said after line false rest laid lays same = ((lays same).laid, (lays same).more)

line-adds : (said after : Progress) (line : List ℕ) → laid_at said.section said → IsSound said → line_after said line ≡ Ok after
    → laid_at after.section after × (so_far_at after.section after ≡ so_far_at said.section said ++ cond (is_passed_over line) [] (words line ∷ []))
unfolding line_after
line-adds said after line laid sound same =
    let bytes = guard_ok (not (list_all is_line_byte line)) _ _ after same in
    let rest : Result Progress Cause = cond (list_any is_empty_word (words line)) (Err BadSpacing) (cond (is_ended said.section) (Err AfterEnd) (words_after said (words line))) in
    adds_of said after (words line) (is_passed_over line) rest laid
    (λ (on : rest ≡ okay after).
    let spaced = guard_ok (list_any is_empty_word (words line)) _ _ after on in
    let going = guard_ok (is_ended said.section) _ _ after spaced.1 in
    words-lay said after (words line) laid sound going.1)
    bytes.1

joined : (over : Bool) (line : List (List ℕ)) (more : List (List (List ℕ))) → cond over [] (line ∷ []) ++ more ≡ cond over more (line ∷ more)
joined true line more = refl
joined false line more = refl

line_bytes : (said after : Progress) (line : List ℕ) → line_after said line ≡ Ok after → IsLine line
unfolding line_after
line_bytes said after line same = not-false (list_all is_line_byte line) (guard_ok (not (list_all is_line_byte line)) _ _ after same).0

-- what is said at the end, and what its lines write
pub record Ends (said : Progress) (left : List (List ℕ)) (script : Script) : Type 0 where
  pub at_end : Progress
  pub is : script_said at_end ≡ script
  pub ended : is_ended at_end.section ≡ true
  pub sound : IsSound at_end
  pub bytes : All IsLine left
  pub more : so_far_at section.Ended at_end ≡ so_far_at said.section said ++ said_words left

script_from-ends : (said : Progress) (number : ℕ) (left : List (List ℕ)) (script : Script) → laid_at said.section said → IsSound said → script_from said number left ≡ Ok script → Ends said left script
script_from-ends said number [] script laid sound same =
    let ended = pass_ok (is_ended said.section) _ _ script same in
    record {
      at_end = said;
      is = cc (ended.1);
      ended = ended.0;
      sound = sound;
      bytes = All-nil IsLine;
      more = ap (λ (s : Section). so_far_at s said) (sym (at-ended said.section ended.0)) ∙ sym (append-nil (so_far_at said.section said));
    }
script_from-ends said number (line ∷ more) script laid sound same =
    let step = bind_ok (told number (line_after said line)) (λ after. script_from after (next_number number) more) script same in
    let on = told_ok number (line_after said line) step.0 step.1.0 in
    let adds = line-adds said step.0 line laid sound on in
    let ends = script_from-ends step.0 (next_number number) more script adds.0 (line-sound said step.0 line sound on) step.1.1 in
    let here : List (List (List ℕ)) = so_far_at said.section said in
    let grown = ap (λ (ls : List (List (List ℕ))). ls ++ said_words more) adds.1 in
    record {
      at_end = ends.at_end;
      is = ends.is;
      ended = ends.ended;
      sound = ends.sound;
      bytes = All-cons IsLine line more (line_bytes said step.0 line on) ends.bytes;
      more = ends.more ∙ grown ∙ append_assoc here (cond (is_passed_over line) [] (words line ∷ [])) (said_words more)
          ∙ ap (λ (ls : List (List (List ℕ))). here ++ ls) (joined (is_passed_over line) (words line) (said_words more));
    }

-- lines from which a script is read write it
script_of-written : (lines : List (List ℕ)) (script : Script) → script_of lines ≡ Ok script → IsWritten script lines
script_of-written lines script same =
    let ends = script_from-ends start 1 lines script (refl, refl) start-sound same in
    let late = rank-ended ends.at_end.section ends.ended in
    let spelled : Spells (script_said ends.at_end) lines = record {
      stages = ends.at_end.stages;
      sizes = refl;
      written = sym ends.more;
    } in
    let written : IsWritten (script_said ends.at_end) lines = record {
      spells = spelled;
      bytes = ends.bytes;
      stages = ends.sound.given;
      once = ends.sound.once;
      fits = said-fits ends.at_end ends.sound (omega (arith, late));
      steps = ends.sound.steps;
      members = said-members ends.at_end ends.sound;
    } in
    subst (λ (s : Script). IsWritten s lines) ends.is written

pub all-written : (lines : List (List ℕ)) (result : Result Script ScriptFault) → IfOk result (λ script. script_of lines ≡ Ok script) → IfOk result (λ script. IsWritten script lines)
all-written lines (Ok script) same = script_of-written lines script same
all-written lines (Err fault) same = tt

pub all-spell : (lines : List (List ℕ)) (result : Result Script ScriptFault) → IfOk result (λ script. script_of lines ≡ Ok script) → IfOk result (λ script. Spells script lines)
all-spell lines (Ok script) same = (script_of-written lines script same).spells
all-spell lines (Err fault) same = tt

pub all-fit : (lines : List (List ℕ)) (result : Result Script ScriptFault) → IfOk result (λ script. script_of lines ≡ Ok script) → IfOk result FitsScript
all-fit lines (Ok script) same = (script_of-written lines script same).fits
all-fit lines (Err fault) same = tt

-- the steps of a script are in their ranges
abbrev StepsFit : Script → Type 0
StepsFit script = All (FitsStep script.workload) script.steps

pub all-steps : (lines : List (List ℕ)) (result : Result Script ScriptFault) → IfOk result (λ script. script_of lines ≡ Ok script) → IfOk result StepsFit
all-steps lines (Ok script) same = (script_of-written lines script same).steps
all-steps lines (Err fault) same = tt

pub all-members : (lines : List (List ℕ)) (result : Result Script ScriptFault) → IfOk result (λ script. script_of lines ≡ Ok script) → IfOk result FitsMembers
all-members lines (Ok script) same = (script_of-written lines script same).members
all-members lines (Err fault) same = tt
