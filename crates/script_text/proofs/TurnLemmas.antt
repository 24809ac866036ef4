-- The words of a step line, by the table of arguments: a line that is read writes the step that it says.
-- By induction on the kinds of arguments that its word has, and by cases on the word.
-- The theorem is `turn_takes`.
use Rattle.std.proofs.Common.{◌≡◌, ◌<◌, ◌≤◌, ℕ, List, [], ◌∷◌, ◌++◌, length, refl, ap, sym, subst, ◌∙◌, arith, false, ◌||◌, lit<}
use Rattle.std.specs.Prelude.{◌≢◌, nat_le, Ok, codes}
use Rattle.std.specs.Fmt.{decimal}
use Rattle.std.proofs.lemmas.Bool.{or_parts}
use Rattle.std.proofs.lemmas.Bool.Decides.{nat_tests}
use Rattle.abstract_log.specs.declared.command.Workload.{Workload}
use Rattle.abstract_log.specs.declared.script.Step.{Step}
use Rattle.script_text.specs.declared.keyword.TurnWord.{TurnWord}
use Rattle.script_text.specs.declared.keyword.TurnWord.TheVariants.{Client, Flush, Pass, Stamp, Token, Place, Gossip, Post, Learn, Send, Deliver, Lose, Copy, Floor, Collect, Announce, Mark, AddMaintainer, AddBatcher, AddQueue, AddSender, AddReceiver, Upgrade}
use Rattle.script_text.specs.declared.arguments.Argument.{Argument}
use Rattle.script_text.specs.declared.arguments.Argument.TheVariants.{Datacentre, Other, Session, Member, Second, Packet, Position}
use Rattle.script_text.specs.declared.arguments.Arguments.{Arguments}
use Rattle.script_text.specs.declared.progress.Progress.{Progress}
use Rattle.script_text.specs.Keywords.{turn_text, turn_arguments}
use Rattle.script_text.specs.Reading.{number_at, number_below_at, datacentre_at, other_datacentre_at, greatest_number}
use Rattle.script_text.specs.Arguments.{no_arguments, argument_at, arguments_at, step_said}
use Rattle.script_text.specs.Members.{added_by}
use Rattle.script_text.specs.Meaning.{is_full, with_step, turn_line}
use Rattle.script_text.specs.Spelled.{letter, turn_words}
use Rattle.abstract_log.specs.Turns.{FitsStep, IsMember, IsPacket, IsPosition}
use Rattle.std.proofs.lemmas.List.{nil_from_length}
use Rattle.cz_base.specs.declared.limits.TheConstants.{MEMBERS, STEPS, PACKETS}
use Rattle.abstract_log.specs.declared.script.Step.TheVariants as step
use Rattle.script_text.proofs.Going.{okay-same, bind_ok, guard_ok}
use Rattle.script_text.proofs.Spelling.{number_spells, datacentre_spells, datacentre_takes, below_spells, other_spells}

-- how an argument is written
abbrev pub argument_word : Argument → ℕ → List ℕ
argument_word Datacentre n = letter n
argument_word Other n = letter n
argument_word Session n = decimal n
argument_word Member n = decimal n
argument_word Second n = decimal n
argument_word Packet n = decimal n
argument_word Position n = decimal n

-- its range, after what was given before
abbrev pub IsArgument : ℕ → ℕ → Arguments → Argument → ℕ → Type 0
IsArgument dcs sessions given Datacentre n = n < dcs
IsArgument dcs sessions given Other n = (n < dcs) × (given.dc ≢ n)
IsArgument dcs sessions given Session n = n < sessions
IsArgument dcs sessions given Member n = IsMember n
IsArgument dcs sessions given Second n = IsMember n
IsArgument dcs sessions given Packet n = IsPacket n
IsArgument dcs sessions given Position n = IsPosition n

abbrev pub with_argument : Arguments → Argument → ℕ → Arguments
with_argument given Datacentre n = record given { dc = n }
with_argument given Other n = record given { other = n }
with_argument given Session n = record given { session = n }
with_argument given Member n = record given { member = n }
with_argument given Second n = record given { second = n }
with_argument given Packet n = record given { packet = n }
with_argument given Position n = record given { position = n }

-- words that write arguments of some kinds, each in its range, and what they give
abbrev pub Write : ℕ → ℕ → Arguments → List Argument → List (List ℕ) → Arguments → Type 0
Write dcs sessions given [] left after = (left ≡ []) × (given ≡ after)
Write dcs sessions given (kind ∷ kinds) left after =
    (n : ℕ) × ((more : List (List ℕ)) × ((left ≡ argument_word kind n ∷ more) × (IsArgument dcs sessions given kind n × Write dcs sessions (with_argument given kind n) kinds more after)))

-- one argument that was read
pub record SpellsArgument (dcs sessions : ℕ) (given : Arguments) (kind : Argument) (left : List (List ℕ)) (x : Arguments × List (List ℕ)) : Type 0 where
  pub n : ℕ
  pub word : left ≡ argument_word kind n ∷ x.1
  pub range : IsArgument dcs sessions given kind n
  pub gives : with_argument given kind n ≡ x.0

abbrev Read : Type 0
Read = Arguments × List (List ℕ)

argument_spells : (dcs sessions : ℕ) (given : Arguments) (kind : Argument) (left : List (List ℕ)) (x : Arguments × List (List ℕ)) → argument_at dcs sessions given kind left ≡ Ok x
    → SpellsArgument dcs sessions given kind left x
unfolding argument_at
argument_spells dcs sessions given Datacentre left x same =
    let read = bind_ok (datacentre_at dcs left) _ x same in
    let next : Read = (with_argument given Datacentre read.0.0, read.0.1) in
    let pair : next ≡ x = okay-same next x read.1.1 in
    let made : SpellsArgument dcs sessions given Datacentre left next = record { n = read.0.0; word = datacentre_spells dcs left read.0 read.1.0; range = datacentre_takes dcs left read.0 read.1.0; gives = refl } in
    subst (λ (p : Read). SpellsArgument dcs sessions given Datacentre left p) pair made
argument_spells dcs sessions given Other left x same =
    let read = bind_ok (other_datacentre_at dcs given.dc left) _ x same in
    let spelt = other_spells dcs given.dc left read.0 read.1.0 in
    let next : Read = (with_argument given Other read.0.0, read.0.1) in
    let pair : next ≡ x = okay-same next x read.1.1 in
    let made : SpellsArgument dcs sessions given Other left next = record { n = read.0.0; word = spelt.0; range = spelt.1; gives = refl } in
    subst (λ (p : Read). SpellsArgument dcs sessions given Other left p) pair made
argument_spells dcs sessions given Session left x same =
    let read = bind_ok (number_below_at sessions left) _ x same in
    let spelt = below_spells sessions left read.0 read.1.0 in
    let next : Read = (with_argument given Session read.0.0, read.0.1) in
    let pair : next ≡ x = okay-same next x read.1.1 in
    let made : SpellsArgument dcs sessions given Session left next = record { n = read.0.0; word = spelt.0; range = spelt.1; gives = refl } in
    subst (λ (p : Read). SpellsArgument dcs sessions given Session left p) pair made
argument_spells dcs sessions given Member left x same =
    let read = bind_ok (number_below_at MEMBERS left) _ x same in
    let spelt = below_spells MEMBERS left read.0 read.1.0 in
    let next : Read = (with_argument given Member read.0.0, read.0.1) in
    let pair : next ≡ x = okay-same next x read.1.1 in
    let made : SpellsArgument dcs sessions given Member left next = record { n = read.0.0; word = spelt.0; range = spelt.1; gives = refl } in
    subst (λ (p : Read). SpellsArgument dcs sessions given Member left p) pair made
argument_spells dcs sessions given Second left x same =
    let read = bind_ok (number_below_at MEMBERS left) _ x same in
    let spelt = below_spells MEMBERS left read.0 read.1.0 in
    let next : Read = (with_argument given Second read.0.0, read.0.1) in
    let pair : next ≡ x = okay-same next x read.1.1 in
    let made : SpellsArgument dcs sessions given Second left next = record { n = read.0.0; word = spelt.0; range = spelt.1; gives = refl } in
    subst (λ (p : Read). SpellsArgument dcs sessions given Second left p) pair made
argument_spells dcs sessions given Packet left x same =
    let read = bind_ok (number_at 1 PACKETS left) _ x same in
    let spelt = number_spells 1 PACKETS left read.0 (lit< tt) read.1.0 in
    let next : Read = (with_argument given Packet read.0.0, read.0.1) in
    let pair : next ≡ x = okay-same next x read.1.1 in
    let made : SpellsArgument dcs sessions given Packet left next = record { n = read.0.0; word = spelt.word; range = (spelt.low, spelt.high); gives = refl } in
    subst (λ (p : Read). SpellsArgument dcs sessions given Packet left p) pair made
argument_spells dcs sessions given Position left x same =
    let read = bind_ok (number_at 1 greatest_number left) _ x same in
    let spelt = number_spells 1 greatest_number left read.0 (lit< tt) read.1.0 in
    let next : Read = (with_argument given Position read.0.0, read.0.1) in
    let pair : next ≡ x = okay-same next x read.1.1 in
    let made : SpellsArgument dcs sessions given Position left next = record { n = read.0.0; word = spelt.word; range = (spelt.low, omega (arith, spelt.high)); gives = refl } in
    subst (λ (p : Read). SpellsArgument dcs sessions given Position left p) pair made

-- words that are read as arguments write them
arguments_spell : (dcs sessions : ℕ) (given : Arguments) (kinds : List Argument) (left : List (List ℕ)) (after : Arguments) → length left ≤ length kinds → arguments_at dcs sessions given kinds left ≡ Ok after
    → Write dcs sessions given kinds left after
arguments_spell dcs sessions given [] left after few same = (nil_from_length left (omega (arith, few)), okay-same given after same)
arguments_spell dcs sessions given (kind ∷ kinds) left after few same =
    let read = bind_ok (argument_at dcs sessions given kind left) (λ r. arguments_at dcs sessions r.0 kinds r.1) after same in
    let one = argument_spells dcs sessions given kind left read.0 read.1.0 in
    let fewer : length read.0.1 ≤ length kinds = omega (arith, few, ap (λ (ws : List (List ℕ)). length ws) one.word) in
    let rest = arguments_spell dcs sessions read.0.0 kinds read.0.1 after fewer read.1.1 in
    (one.n, (read.0.1, (one.word, (one.range, subst (λ (g : Arguments). Write dcs sessions g kinds read.0.1 after) (sym one.gives) rest))))

-- a line of this word that is read says a step: it is what is written for the step, which keeps its ranges
pub record IsTurn (load : Workload) (word : TurnWord) (left : List (List ℕ)) (t : Step) : Type 0 where
  pub words : turn_text word ∷ left ≡ turn_words t
  pub fits : FitsStep load t

turn_says : (load : Workload) (word : TurnWord) (left : List (List ℕ)) (given : Arguments) (t : Step) → Write load.dcs (length load.sessions) no_arguments (turn_arguments word) left given
    → step_said word given ≡ t → IsTurn load word left t
turn_says load Client left given t w same =
    let end = w.1.1.1.1 in
    let said : step.Client w.0 ≡ t = subst (λ (g : Arguments). step_said Client g ≡ t) (sym end.1) same in
    let words : left ≡ decimal w.0 ∷ [] = w.1.1.0 ∙ ap (λ (ws : List (List ℕ)). decimal w.0 ∷ ws) end.0 in
    subst (λ (s : Step). IsTurn load Client left s) said (record { words = ap (λ (ws : List (List ℕ)). codes "client" ∷ ws) words; fits = (w.1.1.1.0, tt) })
turn_says load Flush left given t w same =
    let two = w.1.1.1.1 in
    let end = two.1.1.1.1 in
    let said : step.Flush w.0 two.0 ≡ t = subst (λ (g : Arguments). step_said Flush g ≡ t) (sym end.1) same in
    let words : left ≡ letter w.0 ∷ decimal two.0 ∷ [] = w.1.1.0 ∙ ap (λ (ws : List (List ℕ)). letter w.0 ∷ ws) (two.1.1.0 ∙ ap (λ (ws : List (List ℕ)). decimal two.0 ∷ ws) end.0) in
    subst (λ (s : Step). IsTurn load Flush left s) said (record { words = ap (λ (ws : List (List ℕ)). codes "flush" ∷ ws) words; fits = (w.1.1.1.0, two.1.1.1.0) })
turn_says load Pass left given t w same =
    let two = w.1.1.1.1 in
    let three = two.1.1.1.1 in
    let end = three.1.1.1.1 in
    let said : step.Pass w.0 two.0 three.0 ≡ t = subst (λ (g : Arguments). step_said Pass g ≡ t) (sym end.1) same in
    let words : left ≡ letter w.0 ∷ decimal two.0 ∷ decimal three.0 ∷ [] = w.1.1.0 ∙ ap (λ (ws : List (List ℕ)). letter w.0 ∷ ws) (two.1.1.0 ∙ ap (λ (ws : List (List ℕ)). decimal two.0 ∷ ws) (three.1.1.0 ∙ ap (λ (ws : List (List ℕ)). decimal three.0 ∷ ws) end.0)) in
    subst (λ (s : Step). IsTurn load Pass left s) said (record { words = ap (λ (ws : List (List ℕ)). codes "pass" ∷ ws) words; fits = (w.1.1.1.0, (two.1.1.1.0, three.1.1.1.0)) })
turn_says load Stamp left given t w same =
    let two = w.1.1.1.1 in
    let end = two.1.1.1.1 in
    let said : step.Stamp w.0 two.0 ≡ t = subst (λ (g : Arguments). step_said Stamp g ≡ t) (sym end.1) same in
    let words : left ≡ letter w.0 ∷ decimal two.0 ∷ [] = w.1.1.0 ∙ ap (λ (ws : List (List ℕ)). letter w.0 ∷ ws) (two.1.1.0 ∙ ap (λ (ws : List (List ℕ)). decimal two.0 ∷ ws) end.0) in
    subst (λ (s : Step). IsTurn load Stamp left s) said (record { words = ap (λ (ws : List (List ℕ)). codes "stamp" ∷ ws) words; fits = (w.1.1.1.0, two.1.1.1.0) })
turn_says load Token left given t w same =
    let end = w.1.1.1.1 in
    let said : step.Token w.0 ≡ t = subst (λ (g : Arguments). step_said Token g ≡ t) (sym end.1) same in
    let words : left ≡ letter w.0 ∷ [] = w.1.1.0 ∙ ap (λ (ws : List (List ℕ)). letter w.0 ∷ ws) end.0 in
    subst (λ (s : Step). IsTurn load Token left s) said (record { words = ap (λ (ws : List (List ℕ)). codes "token" ∷ ws) words; fits = (w.1.1.1.0, tt) })
turn_says load Place left given t w same =
    let two = w.1.1.1.1 in
    let three = two.1.1.1.1 in
    let end = three.1.1.1.1 in
    let said : step.Place w.0 two.0 three.0 ≡ t = subst (λ (g : Arguments). step_said Place g ≡ t) (sym end.1) same in
    let words : left ≡ letter w.0 ∷ decimal two.0 ∷ decimal three.0 ∷ [] = w.1.1.0 ∙ ap (λ (ws : List (List ℕ)). letter w.0 ∷ ws) (two.1.1.0 ∙ ap (λ (ws : List (List ℕ)). decimal two.0 ∷ ws) (three.1.1.0 ∙ ap (λ (ws : List (List ℕ)). decimal three.0 ∷ ws) end.0)) in
    subst (λ (s : Step). IsTurn load Place left s) said (record { words = ap (λ (ws : List (List ℕ)). codes "place" ∷ ws) words; fits = (w.1.1.1.0, (two.1.1.1.0, three.1.1.1.0)) })
turn_says load Gossip left given t w same =
    let two = w.1.1.1.1 in
    let three = two.1.1.1.1 in
    let end = three.1.1.1.1 in
    let said : step.Gossip w.0 two.0 three.0 ≡ t = subst (λ (g : Arguments). step_said Gossip g ≡ t) (sym end.1) same in
    let words : left ≡ letter w.0 ∷ decimal two.0 ∷ decimal three.0 ∷ [] = w.1.1.0 ∙ ap (λ (ws : List (List ℕ)). letter w.0 ∷ ws) (two.1.1.0 ∙ ap (λ (ws : List (List ℕ)). decimal two.0 ∷ ws) (three.1.1.0 ∙ ap (λ (ws : List (List ℕ)). decimal three.0 ∷ ws) end.0)) in
    subst (λ (s : Step). IsTurn load Gossip left s) said (record { words = ap (λ (ws : List (List ℕ)). codes "gossip" ∷ ws) words; fits = (w.1.1.1.0, (two.1.1.1.0, three.1.1.1.0)) })
turn_says load Post left given t w same =
    let two = w.1.1.1.1 in
    let three = two.1.1.1.1 in
    let end = three.1.1.1.1 in
    let said : step.Post w.0 two.0 three.0 ≡ t = subst (λ (g : Arguments). step_said Post g ≡ t) (sym end.1) same in
    let words : left ≡ letter w.0 ∷ decimal two.0 ∷ decimal three.0 ∷ [] = w.1.1.0 ∙ ap (λ (ws : List (List ℕ)). letter w.0 ∷ ws) (two.1.1.0 ∙ ap (λ (ws : List (List ℕ)). decimal two.0 ∷ ws) (three.1.1.0 ∙ ap (λ (ws : List (List ℕ)). decimal three.0 ∷ ws) end.0)) in
    subst (λ (s : Step). IsTurn load Post left s) said (record { words = ap (λ (ws : List (List ℕ)). codes "post" ∷ ws) words; fits = (w.1.1.1.0, (two.1.1.1.0, three.1.1.1.0)) })
turn_says load Learn left given t w same =
    let end = w.1.1.1.1 in
    let said : step.Learn w.0 ≡ t = subst (λ (g : Arguments). step_said Learn g ≡ t) (sym end.1) same in
    let words : left ≡ letter w.0 ∷ [] = w.1.1.0 ∙ ap (λ (ws : List (List ℕ)). letter w.0 ∷ ws) end.0 in
    subst (λ (s : Step). IsTurn load Learn left s) said (record { words = ap (λ (ws : List (List ℕ)). codes "learn" ∷ ws) words; fits = (w.1.1.1.0, tt) })
turn_says load Send left given t w same =
    let two = w.1.1.1.1 in
    let three = two.1.1.1.1 in
    let end = three.1.1.1.1 in
    let said : step.Send w.0 two.0 three.0 ≡ t = subst (λ (g : Arguments). step_said Send g ≡ t) (sym end.1) same in
    let words : left ≡ letter w.0 ∷ decimal two.0 ∷ letter three.0 ∷ [] = w.1.1.0 ∙ ap (λ (ws : List (List ℕ)). letter w.0 ∷ ws) (two.1.1.0 ∙ ap (λ (ws : List (List ℕ)). decimal two.0 ∷ ws) (three.1.1.0 ∙ ap (λ (ws : List (List ℕ)). letter three.0 ∷ ws) end.0)) in
    subst (λ (s : Step). IsTurn load Send left s) said (record { words = ap (λ (ws : List (List ℕ)). codes "send" ∷ ws) words; fits = (record { first = w.1.1.1.0; second = three.1.1.1.0.0; apart = three.1.1.1.0.1 }, two.1.1.1.0) })
turn_says load Deliver left given t w same =
    let two = w.1.1.1.1 in
    let three = two.1.1.1.1 in
    let four = three.1.1.1.1 in
    let end = four.1.1.1.1 in
    let said : step.Deliver w.0 two.0 three.0 four.0 ≡ t = subst (λ (g : Arguments). step_said Deliver g ≡ t) (sym end.1) same in
    let words : left ≡ letter w.0 ∷ letter two.0 ∷ decimal three.0 ∷ decimal four.0 ∷ [] = w.1.1.0 ∙ ap (λ (ws : List (List ℕ)). letter w.0 ∷ ws) (two.1.1.0 ∙ ap (λ (ws : List (List ℕ)). letter two.0 ∷ ws) (three.1.1.0 ∙ ap (λ (ws : List (List ℕ)). decimal three.0 ∷ ws) (four.1.1.0 ∙ ap (λ (ws : List (List ℕ)). decimal four.0 ∷ ws) end.0))) in
    subst (λ (s : Step). IsTurn load Deliver left s) said (record { words = ap (λ (ws : List (List ℕ)). codes "deliver" ∷ ws) words; fits = (record { first = w.1.1.1.0; second = two.1.1.1.0.0; apart = two.1.1.1.0.1 }, (three.1.1.1.0, four.1.1.1.0)) })
turn_says load Lose left given t w same =
    let two = w.1.1.1.1 in
    let three = two.1.1.1.1 in
    let end = three.1.1.1.1 in
    let said : step.Lose w.0 two.0 three.0 ≡ t = subst (λ (g : Arguments). step_said Lose g ≡ t) (sym end.1) same in
    let words : left ≡ letter w.0 ∷ letter two.0 ∷ decimal three.0 ∷ [] = w.1.1.0 ∙ ap (λ (ws : List (List ℕ)). letter w.0 ∷ ws) (two.1.1.0 ∙ ap (λ (ws : List (List ℕ)). letter two.0 ∷ ws) (three.1.1.0 ∙ ap (λ (ws : List (List ℕ)). decimal three.0 ∷ ws) end.0)) in
    subst (λ (s : Step). IsTurn load Lose left s) said (record { words = ap (λ (ws : List (List ℕ)). codes "lose" ∷ ws) words; fits = (record { first = w.1.1.1.0; second = two.1.1.1.0.0; apart = two.1.1.1.0.1 }, three.1.1.1.0) })
turn_says load Copy left given t w same =
    let two = w.1.1.1.1 in
    let three = two.1.1.1.1 in
    let end = three.1.1.1.1 in
    let said : step.Copy w.0 two.0 three.0 ≡ t = subst (λ (g : Arguments). step_said Copy g ≡ t) (sym end.1) same in
    let words : left ≡ letter w.0 ∷ letter two.0 ∷ decimal three.0 ∷ [] = w.1.1.0 ∙ ap (λ (ws : List (List ℕ)). letter w.0 ∷ ws) (two.1.1.0 ∙ ap (λ (ws : List (List ℕ)). letter two.0 ∷ ws) (three.1.1.0 ∙ ap (λ (ws : List (List ℕ)). decimal three.0 ∷ ws) end.0)) in
    subst (λ (s : Step). IsTurn load Copy left s) said (record { words = ap (λ (ws : List (List ℕ)). codes "copy" ∷ ws) words; fits = (record { first = w.1.1.1.0; second = two.1.1.1.0.0; apart = two.1.1.1.0.1 }, three.1.1.1.0) })
turn_says load Floor left given t w same =
    let two = w.1.1.1.1 in
    let end = two.1.1.1.1 in
    let said : step.Floor w.0 two.0 ≡ t = subst (λ (g : Arguments). step_said Floor g ≡ t) (sym end.1) same in
    let words : left ≡ letter w.0 ∷ decimal two.0 ∷ [] = w.1.1.0 ∙ ap (λ (ws : List (List ℕ)). letter w.0 ∷ ws) (two.1.1.0 ∙ ap (λ (ws : List (List ℕ)). decimal two.0 ∷ ws) end.0) in
    subst (λ (s : Step). IsTurn load Floor left s) said (record { words = ap (λ (ws : List (List ℕ)). codes "floor" ∷ ws) words; fits = (w.1.1.1.0, two.1.1.1.0) })
turn_says load Collect left given t w same =
    let two = w.1.1.1.1 in
    let end = two.1.1.1.1 in
    let said : step.Collect w.0 two.0 ≡ t = subst (λ (g : Arguments). step_said Collect g ≡ t) (sym end.1) same in
    let words : left ≡ letter w.0 ∷ decimal two.0 ∷ [] = w.1.1.0 ∙ ap (λ (ws : List (List ℕ)). letter w.0 ∷ ws) (two.1.1.0 ∙ ap (λ (ws : List (List ℕ)). decimal two.0 ∷ ws) end.0) in
    subst (λ (s : Step). IsTurn load Collect left s) said (record { words = ap (λ (ws : List (List ℕ)). codes "collect" ∷ ws) words; fits = (w.1.1.1.0, two.1.1.1.0) })
turn_says load Announce left given t w same =
    let two = w.1.1.1.1 in
    let three = two.1.1.1.1 in
    let end = three.1.1.1.1 in
    let said : step.Announce w.0 two.0 three.0 ≡ t = subst (λ (g : Arguments). step_said Announce g ≡ t) (sym end.1) same in
    let words : left ≡ letter w.0 ∷ letter two.0 ∷ decimal three.0 ∷ [] = w.1.1.0 ∙ ap (λ (ws : List (List ℕ)). letter w.0 ∷ ws) (two.1.1.0 ∙ ap (λ (ws : List (List ℕ)). letter two.0 ∷ ws) (three.1.1.0 ∙ ap (λ (ws : List (List ℕ)). decimal three.0 ∷ ws) end.0)) in
    subst (λ (s : Step). IsTurn load Announce left s) said (record { words = ap (λ (ws : List (List ℕ)). codes "announce" ∷ ws) words; fits = (record { first = w.1.1.1.0; second = two.1.1.1.0.0; apart = two.1.1.1.0.1 }, three.1.1.1.0) })
turn_says load Mark left given t w same =
    let end = w.1.1.1.1 in
    let said : step.Mark w.0 ≡ t = subst (λ (g : Arguments). step_said Mark g ≡ t) (sym end.1) same in
    let words : left ≡ letter w.0 ∷ [] = w.1.1.0 ∙ ap (λ (ws : List (List ℕ)). letter w.0 ∷ ws) end.0 in
    subst (λ (s : Step). IsTurn load Mark left s) said (record { words = ap (λ (ws : List (List ℕ)). codes "mark" ∷ ws) words; fits = (w.1.1.1.0, tt) })
turn_says load AddMaintainer left given t w same =
    let two = w.1.1.1.1 in
    let end = two.1.1.1.1 in
    let said : step.AddMaintainer w.0 two.0 ≡ t = subst (λ (g : Arguments). step_said AddMaintainer g ≡ t) (sym end.1) same in
    let words : left ≡ letter w.0 ∷ decimal two.0 ∷ [] = w.1.1.0 ∙ ap (λ (ws : List (List ℕ)). letter w.0 ∷ ws) (two.1.1.0 ∙ ap (λ (ws : List (List ℕ)). decimal two.0 ∷ ws) end.0) in
    subst (λ (s : Step). IsTurn load AddMaintainer left s) said (record { words = ap (λ (ws : List (List ℕ)). codes "addmaintainer" ∷ ws) words; fits = ((w.1.1.1.0, omega (arith, two.1.1.1.0.1)), two.1.1.1.0) })
turn_says load AddBatcher left given t w same =
    let end = w.1.1.1.1 in
    let said : step.AddBatcher w.0 ≡ t = subst (λ (g : Arguments). step_said AddBatcher g ≡ t) (sym end.1) same in
    let words : left ≡ letter w.0 ∷ [] = w.1.1.0 ∙ ap (λ (ws : List (List ℕ)). letter w.0 ∷ ws) end.0 in
    subst (λ (s : Step). IsTurn load AddBatcher left s) said (record { words = ap (λ (ws : List (List ℕ)). codes "addbatcher" ∷ ws) words; fits = (w.1.1.1.0, tt) })
turn_says load AddQueue left given t w same =
    let end = w.1.1.1.1 in
    let said : step.AddQueue w.0 ≡ t = subst (λ (g : Arguments). step_said AddQueue g ≡ t) (sym end.1) same in
    let words : left ≡ letter w.0 ∷ [] = w.1.1.0 ∙ ap (λ (ws : List (List ℕ)). letter w.0 ∷ ws) end.0 in
    subst (λ (s : Step). IsTurn load AddQueue left s) said (record { words = ap (λ (ws : List (List ℕ)). codes "addqueue" ∷ ws) words; fits = (w.1.1.1.0, tt) })
turn_says load AddSender left given t w same =
    let end = w.1.1.1.1 in
    let said : step.AddSender w.0 ≡ t = subst (λ (g : Arguments). step_said AddSender g ≡ t) (sym end.1) same in
    let words : left ≡ letter w.0 ∷ [] = w.1.1.0 ∙ ap (λ (ws : List (List ℕ)). letter w.0 ∷ ws) end.0 in
    subst (λ (s : Step). IsTurn load AddSender left s) said (record { words = ap (λ (ws : List (List ℕ)). codes "addsender" ∷ ws) words; fits = (w.1.1.1.0, tt) })
turn_says load AddReceiver left given t w same =
    let end = w.1.1.1.1 in
    let said : step.AddReceiver w.0 ≡ t = subst (λ (g : Arguments). step_said AddReceiver g ≡ t) (sym end.1) same in
    let words : left ≡ letter w.0 ∷ [] = w.1.1.0 ∙ ap (λ (ws : List (List ℕ)). letter w.0 ∷ ws) end.0 in
    subst (λ (s : Step). IsTurn load AddReceiver left s) said (record { words = ap (λ (ws : List (List ℕ)). codes "addreceiver" ∷ ws) words; fits = (w.1.1.1.0, tt) })
turn_says load Upgrade left given t w same =
    let end = w.1.1.1.1 in
    let said : step.Upgrade w.0 ≡ t = subst (λ (g : Arguments). step_said Upgrade g ≡ t) (sym end.1) same in
    let words : left ≡ letter w.0 ∷ [] = w.1.1.0 ∙ ap (λ (ws : List (List ℕ)). letter w.0 ∷ ws) end.0 in
    subst (λ (s : Step). IsTurn load Upgrade left s) said (record { words = ap (λ (ws : List (List ℕ)). codes "upgrade" ∷ ws) words; fits = (w.1.1.1.0, tt) })

abbrev pub load_of : Progress → Workload
load_of said = record { dcs = said.dcs; sessions = said.sessions }

abbrev pub and_step : Progress → Step → Progress
and_step said t = record said { steps = said.steps ++ t ∷ [] }

-- what a step line that is read says, and leaves said
pub record TakesTurn (said after : Progress) (word : TurnWord) (left : List (List ℕ)) : Type 0 where
  pub step : Step
  pub turn : IsTurn (load_of said) word left step
  pub room : length said.steps < STEPS
  pub spare : is_full said.stages said.steps (added_by step) ≡ false
  pub is : and_step said step ≡ after

pub turn_takes : (said after : Progress) (word : TurnWord) (left : List (List ℕ)) → length left ≤ length (turn_arguments word) → turn_line said word left ≡ Ok after → TakesTurn said after word left
unfolding turn_line with_step
turn_takes said after word left few same =
    let given = bind_ok (arguments_at said.dcs (length said.sessions) no_arguments (turn_arguments word) left) _ after same in
    let told : Step = step_said word given.0 in
    let let_on = guard_ok (nat_le STEPS (length said.steps) || is_full said.stages said.steps (added_by told)) _ _ after given.1.1 in
    let room = or_parts (nat_le STEPS (length said.steps)) (is_full said.stages said.steps (added_by told)) let_on.0 in
    let fewer : length said.steps < STEPS = grind (arith, nat_tests, room.0) in
    record {
      step = told;
      turn = turn_says (load_of said) word left given.0 told (arguments_spell said.dcs (length said.sessions) no_arguments (turn_arguments word) left given.0 few given.1.0) refl;
      room = fewer;
      spare = room.1;
      is = okay-same (and_step said told) after let_on.1;
    }
