-- A line before `steps`, as it is written, is read and says what was written.
-- By the words of each line (`WrittenWords`), and by cases on the command.
-- The theorems are those whose names end in `takes`.
use Rattle.std.proofs.Common.{◌≡◌, ◌<◌, ◌≤◌, ◌+◌, ℕ, List, [], ◌∷◌, ◌++◌, length, refl, ap, ◌∙◌, arith, true, false, ◌||◌, nat_eq, All}
use Rattle.std.specs.Prelude.{nat_lt, Ok, Err, codes}
use Rattle.std.specs.List.{list_any}
use Rattle.std.specs.Fmt.{decimal}
use Rattle.std.proofs.lemmas.Bool.Decides.{nat_tests}
use Rattle.cz_base.specs.Text.{IsName, IsBody}
use Rattle.abstract_log.specs.declared.command.Command.{Command}
use Rattle.abstract_log.specs.declared.command.SessionPlan.{SessionPlan}
use Rattle.abstract_log.specs.declared.script.Sizes.{Sizes}
use Rattle.script_text.specs.declared.fault.Cause.TheVariants.{GivenTwice, TooMany}
use Rattle.script_text.specs.declared.keyword.Keyword.TheVariants.{Chariots, Datacentres, Round, Stages, Session, Command as CommandLine}
use Rattle.script_text.specs.declared.keyword.CommandWord.TheVariants.{Append, Put, Del, Get, Tx, Read, Last}
use Rattle.script_text.specs.declared.section.Section.{Section}
use Rattle.script_text.specs.declared.progress.Progress.{Progress}
use Rattle.script_text.specs.declared.progress.SizesLine.{SizesLine}
use Rattle.script_text.specs.Words.{is_empty_word}
use Rattle.script_text.specs.Reading.{number_at, greatest_number}
use Rattle.script_text.specs.Keywords.{is_stages, is_sessions, is_ended}
use Rattle.script_text.specs.Meaning.{start, chariots_line, datacentres_line, round_line, sizes_at, stages_line, session_line, with_command, append_line, put_line, del_line, get_line, tx_line, read_line, last_line, words_after, is_given}
use Rattle.abstract_log.specs.Fits.{IsSize, FitsSizes, FitsCommand}
use Rattle.script_text.specs.Spelled.{letter, command_words, stages_words, first_words, datacentres_words, round_words, FitsStages}
use Rattle.std.proofs.lemmas.Bool.{or_from, cond-false}
use Rattle.cz_base.specs.declared.limits.TheConstants.{DATACENTRES, MEMBERS, SESSIONS, COMMANDS, TAGS, KEYS, ROUND, LAST_RECORDS}
use Rattle.abstract_log.specs.declared.command.Command.TheVariants as command
use Rattle.script_text.specs.declared.section.Section.TheVariants as section
use Rattle.script_text.proofs.FirstWords.{word_reads, chariots_word, datacentres_word, round_word, stages_word, session_word, command_word}
use Rattle.script_text.proofs.MeaningLemmas.{with_command-last}
use Rattle.script_text.proofs.Sections.{not_ended}
use Rattle.script_text.proofs.WrittenWords.{decimal_reads, datacentre_reads, body_reads, name_reads, names_read, full, full_decimal, full_names}

-- a line that says something is read, and leaves this said
pub record Takes (said : Progress) (line : List (List ℕ)) (after : Progress) : Type 0 where
  pub full : list_any is_empty_word line ≡ false
  pub going : is_ended said.section ≡ false
  pub means : words_after said line ≡ Ok after

-- what has been said in a section
abbrev pub said_at : Section → ℕ → ℕ → List SizesLine → List SessionPlan → ℕ → Progress
said_at here dcs round stages sessions commands = record { section = here; dcs = dcs; round = round; stages = stages; sessions = sessions; commands = commands; steps = [] }

chariots_means : (said : Progress) → chariots_line said (decimal 1 ∷ []) ≡ Ok (record said { section = section.Datacentres })
unfolding chariots_line
chariots_means said = rw (decimal_reads 1 1 1 [] (omega arith) (omega arith) (omega arith)) refl

pub chariots_takes : Takes start first_words (said_at section.Datacentres 0 0 [] [] 0)
chariots_takes = record {
  full = full (codes "chariots") (decimal 1 ∷ []) (omega arith) (full_decimal 1 [] (omega arith) refl);
  going = refl;
  means = word_reads start (codes "chariots") (decimal 1 ∷ []) Chariots chariots_word refl refl ∙ chariots_means start;
}

datacentres_means : (said : Progress) (dcs : ℕ) → 1 ≤ dcs → dcs ≤ DATACENTRES → datacentres_line said (decimal dcs ∷ []) ≡ Ok (record said { dcs = dcs; section = section.Round })
unfolding datacentres_line
datacentres_means said dcs low high = rw (decimal_reads 1 DATACENTRES dcs [] low high (omega arith)) refl

pub datacentres_takes : (dcs : ℕ) → 1 ≤ dcs → dcs ≤ DATACENTRES → Takes (said_at section.Datacentres 0 0 [] [] 0) (datacentres_words dcs) (said_at section.Round dcs 0 [] [] 0)
datacentres_takes dcs low high = record {
  full = full (codes "datacentres") (decimal dcs ∷ []) (omega arith) (full_decimal dcs [] (omega (arith, high)) refl);
  going = refl;
  means = word_reads (said_at section.Datacentres 0 0 [] [] 0) (codes "datacentres") (decimal dcs ∷ []) Datacentres datacentres_word refl refl
      ∙ datacentres_means (said_at section.Datacentres 0 0 [] [] 0) dcs low high;
}

round_means : (said : Progress) (round : ℕ) → 1 ≤ round → round ≤ ROUND → round_line said (decimal round ∷ []) ≡ Ok (record said { round = round; section = section.Stages })
unfolding round_line
round_means said round low high = rw (decimal_reads 1 ROUND round [] low high (omega arith)) refl

pub round_takes : (dcs round : ℕ) → 1 ≤ round → round ≤ ROUND → Takes (said_at section.Round dcs 0 [] [] 0) (round_words round) (said_at section.Stages dcs round [] [] 0)
round_takes dcs round low high = record {
  full = full (codes "round") (decimal round ∷ []) (omega arith) (full_decimal round [] (omega arith) refl);
  going = refl;
  means = word_reads (said_at section.Round dcs 0 [] [] 0) (codes "round") (decimal round ∷ []) Round round_word refl refl ∙ round_means (said_at section.Round dcs 0 [] [] 0) round low high;
}

size_reads : (n : ℕ) (more : List (List ℕ)) → IsSize n → number_at 1 MEMBERS (decimal n ∷ more) ≡ Ok (n, more)
size_reads n more size = decimal_reads 1 MEMBERS n more size.0 size.1 (omega arith)

abbrev sizes_words : Sizes → List (List ℕ)
sizes_words s = decimal s.batchers ∷ decimal s.filters ∷ decimal s.queues ∷ decimal s.maintainers ∷ decimal s.indexers ∷ decimal s.senders ∷ decimal s.receivers ∷ []

sizes_read : (s : Sizes) → FitsSizes s → sizes_at (sizes_words s) ≡ Ok (s, [])
unfolding sizes_at
sizes_read s fits =
    rw (
      size_reads s.batchers (decimal s.filters ∷ decimal s.queues ∷ decimal s.maintainers ∷ decimal s.indexers ∷ decimal s.senders ∷ decimal s.receivers ∷ []) fits.batchers,
      size_reads s.filters (decimal s.queues ∷ decimal s.maintainers ∷ decimal s.indexers ∷ decimal s.senders ∷ decimal s.receivers ∷ []) fits.filters,
      size_reads s.queues (decimal s.maintainers ∷ decimal s.indexers ∷ decimal s.senders ∷ decimal s.receivers ∷ []) fits.queues,
      size_reads s.maintainers (decimal s.indexers ∷ decimal s.senders ∷ decimal s.receivers ∷ []) fits.maintainers,
      size_reads s.indexers (decimal s.senders ∷ decimal s.receivers ∷ []) fits.indexers,
      size_reads s.senders (decimal s.receivers ∷ []) fits.senders,
      size_reads s.receivers [] fits.receivers,
    ) refl

full_sizes : (s : Sizes) → FitsSizes s → list_any is_empty_word (sizes_words s) ≡ false
full_sizes s fits =
    full_decimal s.batchers (decimal s.filters ∷ decimal s.queues ∷ decimal s.maintainers ∷ decimal s.indexers ∷ decimal s.senders ∷ decimal s.receivers ∷ []) (omega (arith, fits.batchers.1))
    (full_decimal s.filters (decimal s.queues ∷ decimal s.maintainers ∷ decimal s.indexers ∷ decimal s.senders ∷ decimal s.receivers ∷ []) (omega (arith, fits.filters.1))
    (full_decimal s.queues (decimal s.maintainers ∷ decimal s.indexers ∷ decimal s.senders ∷ decimal s.receivers ∷ []) (omega (arith, fits.queues.1))
    (full_decimal s.maintainers (decimal s.indexers ∷ decimal s.senders ∷ decimal s.receivers ∷ []) (omega (arith, fits.maintainers.1))
    (full_decimal s.indexers (decimal s.senders ∷ decimal s.receivers ∷ []) (omega (arith, fits.indexers.1))
    (full_decimal s.senders (decimal s.receivers ∷ []) (omega (arith, fits.senders.1))
    (full_decimal s.receivers [] (omega (arith, fits.receivers.1)) refl))))))

stages_means : (said : Progress) (given : SizesLine) → given.dc < said.dcs → said.dcs ≤ DATACENTRES → FitsSizes given.sizes → is_given said.stages given.dc ≡ false
    → stages_line said (letter given.dc ∷ sizes_words given.sizes) ≡ Ok (record said { stages = said.stages ++ given ∷ [] })
unfolding stages_line
stages_means said given within few fits new =
    rw (datacentre_reads said.dcs given.dc (sizes_words given.sizes) within few, sizes_read given.sizes fits)
    (cond-false (is_given said.stages given.dc) (Err GivenTwice) (Ok (record said { stages = said.stages ++ given ∷ [] })) new)

pub stages_takes : (dcs round : ℕ) (front : List SizesLine) (given : SizesLine) → dcs ≤ DATACENTRES → FitsStages dcs given → is_given front given.dc ≡ false
    → Takes (said_at section.Stages dcs round front [] 0) (stages_words given) (said_at section.Stages dcs round (front ++ given ∷ []) [] 0)
stages_takes dcs round front given few fits new = record {
  full = full (codes "stages") (letter given.dc ∷ sizes_words given.sizes) (omega arith) (full (letter given.dc) (sizes_words given.sizes) (omega arith) (full_sizes given.sizes fits.sizes));
  going = refl;
  means = word_reads (said_at section.Stages dcs round front [] 0) (codes "stages") (letter given.dc ∷ sizes_words given.sizes) Stages stages_word refl refl
      ∙ stages_means (said_at section.Stages dcs round front [] 0) given fits.dc few fits.sizes new;
}

session_means : (said : Progress) (home : ℕ) → home < said.dcs → said.dcs ≤ DATACENTRES → length said.sessions < SESSIONS
    → session_line said (letter home ∷ []) ≡ Ok (record said { sessions = said.sessions ++ record { home = home; commands = [] } ∷ []; section = section.Sessions })
unfolding session_line
session_means said home within few room =
    let other : nat_eq (length said.sessions) SESSIONS ≡ false = grind (arith, nat_tests) in
    rw (datacentre_reads said.dcs home [] within few)
    (cond-false (nat_eq (length said.sessions) SESSIONS) (Err TooMany) (Ok (record said { sessions = said.sessions ++ record { home = home; commands = [] } ∷ []; section = section.Sessions })) other)

abbrev session_words : ℕ → List (List ℕ)
session_words home = codes "session" ∷ letter home ∷ []

pub session_takes : (here : Section) (dcs round : ℕ) (stages : List SizesLine) (front : List SessionPlan) (count home : ℕ) → (is_stages here || is_sessions here) ≡ true → home < dcs → dcs ≤ DATACENTRES → length front < SESSIONS
    → Takes (said_at here dcs round stages front count) (session_words home) (said_at section.Sessions dcs round stages (front ++ record { home = home; commands = [] } ∷ []) count)
session_takes here dcs round stages front count home place within few room = record {
  full = full (codes "session") (letter home ∷ []) (omega arith) (full (letter home) [] (omega arith) refl);
  going = not_ended here place;
  means = word_reads (said_at here dcs round stages front count) (codes "session") (letter home ∷ []) Session session_word place refl
      ∙ session_means (said_at here dcs round stages front count) home within few room;
}

append_means : (said : Progress) (body : List ℕ) (tags : List (List ℕ)) → IsBody body → All IsName tags → append_line said ((61 ∷ body) ∷ tags) ≡ with_command said (command.Append tags body)
unfolding append_line
append_means said body tags fits named = rw (body_reads body tags fits, names_read tags named) refl

read_means : (said : Progress) (lid : ℕ) → 1 ≤ lid → lid < 4294967296 → read_line said (decimal lid ∷ []) ≡ with_command said (command.Read lid)
unfolding read_line
read_means said lid low high = rw (decimal_reads 1 greatest_number lid [] low (omega arith) (omega arith)) refl

put_means : (said : Progress) (key body : List ℕ) → IsName key → IsBody body → put_line said (key ∷ (61 ∷ body) ∷ []) ≡ with_command said (command.Put key body)
unfolding put_line
put_means said key body named fits = rw (name_reads key ((61 ∷ body) ∷ []) named, body_reads body [] fits) refl

del_means : (said : Progress) (key : List ℕ) → IsName key → del_line said (key ∷ []) ≡ with_command said (command.Del key)
unfolding del_line
del_means said key named = rw (name_reads key [] named) refl

get_means : (said : Progress) (key : List ℕ) → IsName key → get_line said (key ∷ []) ≡ with_command said (command.Get key)
unfolding get_line
get_means said key named = rw (name_reads key [] named) refl

tx_means : (said : Progress) (keys : List (List ℕ)) → All IsName keys → tx_line said keys ≡ with_command said (command.Tx keys)
unfolding tx_line
tx_means said keys named = rw (names_read keys named) refl

last_means : (said : Progress) (tag : List ℕ) (n : ℕ) → IsName tag → 1 ≤ n → n ≤ LAST_RECORDS → last_line said (tag ∷ decimal n ∷ []) ≡ with_command said (command.Last tag n)
unfolding last_line
last_means said tag n named low high = rw (name_reads tag (decimal n ∷ []) named, decimal_reads 1 LAST_RECORDS n [] low high (omega arith)) refl

-- a line of a command says the command
pub record Says (said : Progress) (c : Command) : Type 0 where
  pub full : list_any is_empty_word (command_words c) ≡ false
  pub means : words_after said (command_words c) ≡ with_command said c

command_says : (said : Progress) (c : Command) → said.section ≡ section.Sessions → FitsCommand c → Says said c
command_says said (command.Append tags body) here fits =
    let least : nat_lt (length ((61 ∷ body) ∷ tags)) 1 ≡ false = grind (arith, nat_tests) in
    let most : nat_lt (TAGS + 1) (length ((61 ∷ body) ∷ tags)) ≡ false = grind (arith, nat_tests, fits.0) in
    record {
      full = full (codes "append") ((61 ∷ body) ∷ tags) (omega arith) (full (61 ∷ body) tags (omega arith) (full_names tags fits.1.0));
      means = word_reads said (codes "append") ((61 ∷ body) ∷ tags) (CommandLine Append) (command_word Append) (ap (λ (s : Section). is_sessions s) here) (or_from (nat_lt (length ((61 ∷ body) ∷ tags)) 1) (nat_lt (TAGS + 1) (length ((61 ∷ body) ∷ tags))) least most)
          ∙ append_means said body tags fits.1.1 fits.1.0;
    }
command_says said (command.Put key body) here fits = record {
  full = full (codes "put") (key ∷ (61 ∷ body) ∷ []) (omega arith) (full key ((61 ∷ body) ∷ []) (omega (arith, fits.0.not_empty)) (full (61 ∷ body) [] (omega arith) refl));
  means = word_reads said (codes "put") (key ∷ (61 ∷ body) ∷ []) (CommandLine Put) (command_word Put) (ap (λ (s : Section). is_sessions s) here) refl
      ∙ put_means said key body fits.0 fits.1;
}
command_says said (command.Del key) here fits = record {
  full = full (codes "del") (key ∷ []) (omega arith) (full key [] (omega (arith, fits.not_empty)) refl);
  means = word_reads said (codes "del") (key ∷ []) (CommandLine Del) (command_word Del) (ap (λ (s : Section). is_sessions s) here) refl
      ∙ del_means said key fits;
}
command_says said (command.Get key) here fits = record {
  full = full (codes "get") (key ∷ []) (omega arith) (full key [] (omega (arith, fits.not_empty)) refl);
  means = word_reads said (codes "get") (key ∷ []) (CommandLine Get) (command_word Get) (ap (λ (s : Section). is_sessions s) here) refl
      ∙ get_means said key fits;
}
command_says said (command.Tx keys) here fits =
    let least : nat_lt (length keys) 1 ≡ false = grind (arith, nat_tests, fits.0) in
    let most : nat_lt KEYS (length keys) ≡ false = grind (arith, nat_tests, fits.1.0) in
    record {
      full = full (codes "tx") keys (omega arith) (full_names keys fits.1.1);
      means = word_reads said (codes "tx") keys (CommandLine Tx) (command_word Tx) (ap (λ (s : Section). is_sessions s) here) (or_from (nat_lt (length keys) 1) (nat_lt KEYS (length keys)) least most)
          ∙ tx_means said keys fits.1.1;
    }
command_says said (command.Read lid) here fits = record {
  full = full (codes "read") (decimal lid ∷ []) (omega arith) (full_decimal lid [] (omega (arith, fits.1)) refl);
  means = word_reads said (codes "read") (decimal lid ∷ []) (CommandLine Read) (command_word Read) (ap (λ (s : Section). is_sessions s) here) refl
      ∙ read_means said lid fits.0 (omega (arith, fits.1));
}
command_says said (command.Last tag n) here fits = record {
  full = full (codes "last") (tag ∷ decimal n ∷ []) (omega arith) (full tag (decimal n ∷ []) (omega (arith, fits.0.not_empty)) (full_decimal n [] (omega (arith, fits.1.1)) refl));
  means = word_reads said (codes "last") (tag ∷ decimal n ∷ []) (CommandLine Last) (command_word Last) (ap (λ (s : Section). is_sessions s) here) refl
      ∙ last_means said tag n fits.0 fits.1.0 fits.1.1;
}

abbrev pub with_plan : List SessionPlan → ℕ → List Command → List SessionPlan
with_plan front home commands = front ++ record { home = home; commands = commands } ∷ []

pub command_takes : (dcs round : ℕ) (stages : List SizesLine) (front : List SessionPlan) (home : ℕ) (done : List Command) (count : ℕ) (c : Command) → FitsCommand c → count < COMMANDS
    → Takes (said_at section.Sessions dcs round stages (with_plan front home done) count) (command_words c) (said_at section.Sessions dcs round stages (with_plan front home (done ++ c ∷ [])) (count + 1))
command_takes dcs round stages front home done count c fits few =
    let said : Progress = said_at section.Sessions dcs round stages (with_plan front home done) count in
    let says : Says said c = command_says said c refl fits in
    record {
      full = says.full;
      going = refl;
      means = says.means ∙ with_command-last said c front (record { home = home; commands = done }) refl few;
    }
