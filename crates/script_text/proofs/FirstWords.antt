-- The first word of a line: each keyword is found by its own text, and chooses what the line means.
-- By computation on the table of keywords.
-- The theorem is `word_reads`.
use Rattle.std.proofs.Common.{◌≡◌, ℕ, List, ◌∷◌, length, refl, ap, ◌∙◌, Bool, true, false, cond, not, ◌||◌}
use Rattle.std.specs.Prelude.{nat_lt, Err, Result, Option, Some, codes}
use Rattle.script_text.specs.declared.fault.Cause.{Cause}
use Rattle.script_text.specs.declared.fault.Cause.TheVariants.{OutOfPlace, WrongWords}
use Rattle.script_text.specs.declared.keyword.Keyword.{Keyword}
use Rattle.script_text.specs.declared.keyword.Keyword.TheVariants.{Chariots, Datacentres, Round, Stages, Session, Command as CommandLine, Steps, Turn, End}
use Rattle.script_text.specs.declared.keyword.CommandWord.TheVariants.{Append, Put, Del, Get, Tx, Read, Last}
use Rattle.script_text.specs.declared.keyword.TurnWord.{TurnWord}
use Rattle.script_text.specs.declared.progress.Progress.{Progress}
use Rattle.script_text.specs.Keywords.{text_of, turn_text, keyword_of, stands, least_words, most_words, command_text}
use Rattle.script_text.specs.Meaning.{meaning, keyword_after, words_after}
use Rattle.script_text.specs.declared.keyword.CommandWord.{CommandWord}
use Rattle.std.proofs.lemmas.Bool.{cond-false}
use Rattle.script_text.specs.declared.keyword.TurnWord.TheVariants as turn

-- a line whose first word is a keyword that may stand there, with as many words as it has
pub word_reads : (said : Progress) (first : List ℕ) (more : List (List ℕ)) (k : Keyword) → keyword_of first ≡ Some k → stands k said.section ≡ true
    → (nat_lt (length more) (least_words k) || nat_lt (most_words k) (length more)) ≡ false → words_after said (first ∷ more) ≡ meaning said k more
unfolding words_after
word_reads said first more k spelled place count =
    let counted : Result Progress Cause = cond (nat_lt (length more) (least_words k) || nat_lt (most_words k) (length more)) (Err WrongWords) (meaning said k more) in
    ap (λ (o : Option Keyword). keyword_after said o more) spelled
    ∙ cond-false (not (stands k said.section)) (Err OutOfPlace) counted (ap (λ (t : Bool). not t) place)
    ∙ cond-false (nat_lt (length more) (least_words k) || nat_lt (most_words k) (length more)) (Err WrongWords) (meaning said k more) count

pub chariots_word : keyword_of (codes "chariots") ≡ Some Chariots
unfolding keyword_of text_of
chariots_word = refl

pub datacentres_word : keyword_of (codes "datacentres") ≡ Some Datacentres
unfolding keyword_of text_of
datacentres_word = refl

pub round_word : keyword_of (codes "round") ≡ Some Round
unfolding keyword_of text_of
round_word = refl

pub stages_word : keyword_of (codes "stages") ≡ Some Stages
unfolding keyword_of text_of
stages_word = refl

pub session_word : keyword_of (codes "session") ≡ Some Session
unfolding keyword_of text_of
session_word = refl

pub steps_word : keyword_of (codes "steps") ≡ Some Steps
unfolding keyword_of text_of
steps_word = refl

pub end_word : keyword_of (codes "end") ≡ Some End
unfolding keyword_of text_of
end_word = refl

-- the words of commands
pub command_word : (word : CommandWord) → keyword_of (command_text word) ≡ Some (CommandLine word)
unfolding keyword_of text_of
command_word Append = refl
command_word Put = refl
command_word Del = refl
command_word Get = refl
command_word Tx = refl
command_word Read = refl
command_word Last = refl

-- the words of step lines
pub turn_word : (word : TurnWord) → keyword_of (turn_text word) ≡ Some (Turn word)
unfolding keyword_of text_of
turn_word turn.Client = refl
turn_word turn.Flush = refl
turn_word turn.Pass = refl
turn_word turn.Stamp = refl
turn_word turn.Token = refl
turn_word turn.Place = refl
turn_word turn.Gossip = refl
turn_word turn.Post = refl
turn_word turn.Learn = refl
turn_word turn.Send = refl
turn_word turn.Deliver = refl
turn_word turn.Lose = refl
turn_word turn.Copy = refl
turn_word turn.Floor = refl
turn_word turn.Collect = refl
turn_word turn.Announce = refl
turn_word turn.Mark = refl
turn_word turn.AddMaintainer = refl
turn_word turn.AddBatcher = refl
turn_word turn.AddQueue = refl
turn_word turn.AddSender = refl
turn_word turn.AddReceiver = refl
turn_word turn.Upgrade = refl
