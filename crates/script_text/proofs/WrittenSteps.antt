-- A step line, as it is written, is read and says the step.
-- By induction on the kinds of arguments that its word has, and by cases on the step.
-- The theorem is `turn_takes_line`.
use Rattle.std.proofs.Common.{◌≡◌, ◌<◌, ◌≤◌, ℕ, List, [], ◌∷◌, ◌++◌, length, refl, ap, sym, subst, ◌∙◌, arith, false, ◌||◌}
use Rattle.std.specs.Prelude.{nat_le, nat_lt, Ok, Err, Result, Some}
use Rattle.std.specs.List.{list_any}
use Rattle.std.specs.Fmt.{decimal}
use Rattle.std.proofs.lemmas.Bool.Decides.{nat_tests}
use Rattle.std.proofs.lemmas.Fmt.{decimal_nonempty}
use Rattle.abstract_log.specs.declared.command.SessionPlan.{SessionPlan}
use Rattle.abstract_log.specs.declared.command.Workload.{Workload}
use Rattle.abstract_log.specs.declared.script.Step.{Step}
use Rattle.script_text.specs.declared.fault.Cause.{Cause}
use Rattle.script_text.specs.declared.fault.Cause.TheVariants.{TooMany}
use Rattle.script_text.specs.declared.keyword.Keyword.TheVariants.{Turn}
use Rattle.script_text.specs.declared.keyword.TurnWord.{TurnWord}
use Rattle.script_text.specs.declared.arguments.Argument.{Argument}
use Rattle.script_text.specs.declared.arguments.Argument.TheVariants.{Datacentre, Other, Session as SessionNumber, Member, Second, Packet, Position}
use Rattle.script_text.specs.declared.arguments.Arguments.{Arguments}
use Rattle.script_text.specs.declared.progress.Progress.{Progress}
use Rattle.script_text.specs.declared.progress.SizesLine.{SizesLine}
use Rattle.script_text.specs.Words.{is_empty_word}
use Rattle.script_text.specs.Reading.{◌>>=◌, greatest_number}
use Rattle.script_text.specs.Arguments.{no_arguments, argument_at, arguments_at, step_said}
use Rattle.script_text.specs.Keywords.{turn_text, keyword_of, turn_arguments}
use Rattle.script_text.specs.Members.{added_by}
use Rattle.script_text.specs.Meaning.{is_full, with_step, turn_line}
use Rattle.script_text.specs.Spelled.{letter, turn_words}
use Rattle.abstract_log.specs.Turns.{FitsStep}
use Rattle.std.proofs.lemmas.Bool.{or_from, cond-false}
use Rattle.cz_base.specs.declared.limits.TheConstants.{DATACENTRES, MEMBERS, SESSIONS, STEPS, PACKETS}
use Rattle.abstract_log.specs.declared.script.Step.TheVariants as step
use Rattle.script_text.specs.declared.keyword.TurnWord.TheVariants as turn
use Rattle.script_text.specs.declared.section.Section.TheVariants as section
use Rattle.script_text.proofs.FirstWords.{word_reads, turn_word}
use Rattle.script_text.proofs.Going.{okay}
use Rattle.script_text.proofs.TurnLemmas.{argument_word, IsArgument, with_argument, Write, load_of, and_step}
use Rattle.script_text.proofs.WrittenLines.{Takes}
use Rattle.script_text.proofs.WrittenWords.{decimal_reads, below_reads, datacentre_reads, other_reads, full}

-- one argument is read from what is written for it
argument_reads : (dcs sessions : ℕ) (given : Arguments) (kind : Argument) (n : ℕ) (more : List (List ℕ)) → dcs ≤ DATACENTRES → sessions ≤ SESSIONS → IsArgument dcs sessions given kind n
    → argument_at dcs sessions given kind (argument_word kind n ∷ more) ≡ Ok (with_argument given kind n, more)
unfolding argument_at
argument_reads dcs sessions given Datacentre n more few room range = rw (datacentre_reads dcs n more range few) refl
argument_reads dcs sessions given Other n more few room range = rw (other_reads dcs given.dc n more range.0 few range.1) refl
argument_reads dcs sessions given SessionNumber n more few room range = rw (below_reads sessions n more range room) refl
argument_reads dcs sessions given Member n more few room range = rw (below_reads MEMBERS n more range (omega arith)) refl
argument_reads dcs sessions given Second n more few room range = rw (below_reads MEMBERS n more range (omega arith)) refl
argument_reads dcs sessions given Packet n more few room range = rw (decimal_reads 1 PACKETS n more range.0 range.1 (omega arith)) refl
argument_reads dcs sessions given Position n more few room range = rw (decimal_reads 1 greatest_number n more range.0 (omega (arith, range.1)) (omega arith)) refl

arguments_read : (dcs sessions : ℕ) (given : Arguments) (kinds : List Argument) (left : List (List ℕ)) (after : Arguments) → dcs ≤ DATACENTRES → sessions ≤ SESSIONS → Write dcs sessions given kinds left after
    → arguments_at dcs sessions given kinds left ≡ okay after
arguments_read dcs sessions given [] left after few room w = ap (λ (g : Arguments). okay g) w.1
arguments_read dcs sessions given (kind ∷ kinds) left after few room w =
    ap (λ (ws : List (List ℕ)). arguments_at dcs sessions given (kind ∷ kinds) ws) w.1.1.0
    ∙ ap (λ (r : Result (Arguments × List (List ℕ)) Cause). r >>= λ read. arguments_at dcs sessions read.0 kinds read.1) (argument_reads dcs sessions given kind w.0 w.1.0 few room w.1.1.1.0)
    ∙ arguments_read dcs sessions (with_argument given kind w.0) kinds w.1.0 after few room w.1.1.1.1

argument_full : (dcs sessions : ℕ) (given : Arguments) (kind : Argument) (n : ℕ) → sessions ≤ SESSIONS → IsArgument dcs sessions given kind n → 0 < length (argument_word kind n)
argument_full dcs sessions given Datacentre n room range = omega arith
argument_full dcs sessions given Other n room range = omega arith
argument_full dcs sessions given SessionNumber n room range = decimal_nonempty n (omega (arith, range, room))
argument_full dcs sessions given Member n room range = decimal_nonempty n (omega (arith, range))
argument_full dcs sessions given Second n room range = decimal_nonempty n (omega (arith, range))
argument_full dcs sessions given Packet n room range = decimal_nonempty n (omega (arith, range.1))
argument_full dcs sessions given Position n room range = decimal_nonempty n (omega (arith, range.1))

arguments_full : (dcs sessions : ℕ) (given : Arguments) (kinds : List Argument) (left : List (List ℕ)) (after : Arguments) → sessions ≤ SESSIONS → Write dcs sessions given kinds left after → list_any is_empty_word left ≡ false
arguments_full dcs sessions given [] left after room w = ap (λ (ws : List (List ℕ)). list_any is_empty_word ws) w.0
arguments_full dcs sessions given (kind ∷ kinds) left after room w =
    ap (λ (ws : List (List ℕ)). list_any is_empty_word ws) w.1.1.0
    ∙ full (argument_word kind w.0) w.1.0 (argument_full dcs sessions given kind w.0 room w.1.1.1.0) (arguments_full dcs sessions (with_argument given kind w.0) kinds w.1.0 after room w.1.1.1.1)

-- what is written for a step: the word and what is given with it
pub record Comes (load : Workload) (t : Step) : Type 0 where
  pub word : TurnWord
  pub left : List (List ℕ)
  pub given : Arguments
  pub keyword : keyword_of (turn_text word) ≡ Some (Turn word)
  pub words : turn_words t ≡ turn_text word ∷ left
  pub some : 0 < length (turn_text word)
  pub many : length left ≡ length (turn_arguments word)
  pub writes : Write load.dcs (length load.sessions) no_arguments (turn_arguments word) left given
  pub says : step_said word given ≡ t

step_comes : (load : Workload) (t : Step) → FitsStep load t → Comes load t
step_comes load (step.Client s) fits = record {
  word = turn.Client;
  left = decimal s ∷ [];
  given = record no_arguments { session = s };
  keyword = turn_word turn.Client;
  words = refl;
  some = omega arith;
  many = refl;
  writes = (s, ([], (refl, (fits.0, (refl, refl)))));
  says = refl;
}
step_comes load (step.Flush d b) fits = record {
  word = turn.Flush;
  left = letter d ∷ decimal b ∷ [];
  given = record no_arguments { dc = d; member = b };
  keyword = turn_word turn.Flush;
  words = refl;
  some = omega arith;
  many = refl;
  writes = (d, (decimal b ∷ [], (refl, (fits.0, (b, ([], (refl, (fits.1, (refl, refl)))))))));
  says = refl;
}
step_comes load (step.Pass d f q) fits = record {
  word = turn.Pass;
  left = letter d ∷ decimal f ∷ decimal q ∷ [];
  given = record no_arguments { dc = d; member = f; second = q };
  keyword = turn_word turn.Pass;
  words = refl;
  some = omega arith;
  many = refl;
  writes = (d, (decimal f ∷ decimal q ∷ [], (refl, (fits.0, (f, (decimal q ∷ [], (refl, (fits.1.0, (q, ([], (refl, (fits.1.1, (refl, refl)))))))))))));
  says = refl;
}
step_comes load (step.Stamp d q) fits = record {
  word = turn.Stamp;
  left = letter d ∷ decimal q ∷ [];
  given = record no_arguments { dc = d; member = q };
  keyword = turn_word turn.Stamp;
  words = refl;
  some = omega arith;
  many = refl;
  writes = (d, (decimal q ∷ [], (refl, (fits.0, (q, ([], (refl, (fits.1, (refl, refl)))))))));
  says = refl;
}
step_comes load (step.Token d) fits = record {
  word = turn.Token;
  left = letter d ∷ [];
  given = record no_arguments { dc = d };
  keyword = turn_word turn.Token;
  words = refl;
  some = omega arith;
  many = refl;
  writes = (d, ([], (refl, (fits.0, (refl, refl)))));
  says = refl;
}
step_comes load (step.Place d q m) fits = record {
  word = turn.Place;
  left = letter d ∷ decimal q ∷ decimal m ∷ [];
  given = record no_arguments { dc = d; member = q; second = m };
  keyword = turn_word turn.Place;
  words = refl;
  some = omega arith;
  many = refl;
  writes = (d, (decimal q ∷ decimal m ∷ [], (refl, (fits.0, (q, (decimal m ∷ [], (refl, (fits.1.0, (m, ([], (refl, (fits.1.1, (refl, refl)))))))))))));
  says = refl;
}
step_comes load (step.Gossip d m k) fits = record {
  word = turn.Gossip;
  left = letter d ∷ decimal m ∷ decimal k ∷ [];
  given = record no_arguments { dc = d; member = m; second = k };
  keyword = turn_word turn.Gossip;
  words = refl;
  some = omega arith;
  many = refl;
  writes = (d, (decimal m ∷ decimal k ∷ [], (refl, (fits.0, (m, (decimal k ∷ [], (refl, (fits.1.0, (k, ([], (refl, (fits.1.1, (refl, refl)))))))))))));
  says = refl;
}
step_comes load (step.Post d m i) fits = record {
  word = turn.Post;
  left = letter d ∷ decimal m ∷ decimal i ∷ [];
  given = record no_arguments { dc = d; member = m; second = i };
  keyword = turn_word turn.Post;
  words = refl;
  some = omega arith;
  many = refl;
  writes = (d, (decimal m ∷ decimal i ∷ [], (refl, (fits.0, (m, (decimal i ∷ [], (refl, (fits.1.0, (i, ([], (refl, (fits.1.1, (refl, refl)))))))))))));
  says = refl;
}
step_comes load (step.Learn d) fits = record {
  word = turn.Learn;
  left = letter d ∷ [];
  given = record no_arguments { dc = d };
  keyword = turn_word turn.Learn;
  words = refl;
  some = omega arith;
  many = refl;
  writes = (d, ([], (refl, (fits.0, (refl, refl)))));
  says = refl;
}
step_comes load (step.Send d k e) fits = record {
  word = turn.Send;
  left = letter d ∷ decimal k ∷ letter e ∷ [];
  given = record no_arguments { dc = d; member = k; other = e };
  keyword = turn_word turn.Send;
  words = refl;
  some = omega arith;
  many = refl;
  writes = (d, (decimal k ∷ letter e ∷ [], (refl, (fits.0.first, (k, (letter e ∷ [], (refl, (fits.1, (e, ([], (refl, ((fits.0.second, fits.0.apart), (refl, refl)))))))))))));
  says = refl;
}
step_comes load (step.Deliver d e k r) fits = record {
  word = turn.Deliver;
  left = letter d ∷ letter e ∷ decimal k ∷ decimal r ∷ [];
  given = record no_arguments { dc = d; other = e; packet = k; member = r };
  keyword = turn_word turn.Deliver;
  words = refl;
  some = omega arith;
  many = refl;
  writes = (d, (letter e ∷ decimal k ∷ decimal r ∷ [], (refl, (fits.0.first, (e, (decimal k ∷ decimal r ∷ [], (refl, ((fits.0.second, fits.0.apart), (k, (decimal r ∷ [], (refl, (fits.1.0, (r, ([], (refl, (fits.1.1, (refl, refl)))))))))))))))));
  says = refl;
}
step_comes load (step.Lose d e k) fits = record {
  word = turn.Lose;
  left = letter d ∷ letter e ∷ decimal k ∷ [];
  given = record no_arguments { dc = d; other = e; packet = k };
  keyword = turn_word turn.Lose;
  words = refl;
  some = omega arith;
  many = refl;
  writes = (d, (letter e ∷ decimal k ∷ [], (refl, (fits.0.first, (e, (decimal k ∷ [], (refl, ((fits.0.second, fits.0.apart), (k, ([], (refl, (fits.1, (refl, refl)))))))))))));
  says = refl;
}
step_comes load (step.Copy d e k) fits = record {
  word = turn.Copy;
  left = letter d ∷ letter e ∷ decimal k ∷ [];
  given = record no_arguments { dc = d; other = e; packet = k };
  keyword = turn_word turn.Copy;
  words = refl;
  some = omega arith;
  many = refl;
  writes = (d, (letter e ∷ decimal k ∷ [], (refl, (fits.0.first, (e, (decimal k ∷ [], (refl, ((fits.0.second, fits.0.apart), (k, ([], (refl, (fits.1, (refl, refl)))))))))))));
  says = refl;
}
step_comes load (step.Floor d p) fits = record {
  word = turn.Floor;
  left = letter d ∷ decimal p ∷ [];
  given = record no_arguments { dc = d; position = p };
  keyword = turn_word turn.Floor;
  words = refl;
  some = omega arith;
  many = refl;
  writes = (d, (decimal p ∷ [], (refl, (fits.0, (p, ([], (refl, (fits.1, (refl, refl)))))))));
  says = refl;
}
step_comes load (step.Collect d m) fits = record {
  word = turn.Collect;
  left = letter d ∷ decimal m ∷ [];
  given = record no_arguments { dc = d; member = m };
  keyword = turn_word turn.Collect;
  words = refl;
  some = omega arith;
  many = refl;
  writes = (d, (decimal m ∷ [], (refl, (fits.0, (m, ([], (refl, (fits.1, (refl, refl)))))))));
  says = refl;
}
step_comes load (step.Announce d h t) fits = record {
  word = turn.Announce;
  left = letter d ∷ letter h ∷ decimal t ∷ [];
  given = record no_arguments { dc = d; other = h; position = t };
  keyword = turn_word turn.Announce;
  words = refl;
  some = omega arith;
  many = refl;
  writes = (d, (letter h ∷ decimal t ∷ [], (refl, (fits.0.first, (h, (decimal t ∷ [], (refl, ((fits.0.second, fits.0.apart), (t, ([], (refl, (fits.1, (refl, refl)))))))))))));
  says = refl;
}
step_comes load (step.Mark d) fits = record {
  word = turn.Mark;
  left = letter d ∷ [];
  given = record no_arguments { dc = d };
  keyword = turn_word turn.Mark;
  words = refl;
  some = omega arith;
  many = refl;
  writes = (d, ([], (refl, (fits.0, (refl, refl)))));
  says = refl;
}
step_comes load (step.AddMaintainer d p) fits = record {
  word = turn.AddMaintainer;
  left = letter d ∷ decimal p ∷ [];
  given = record no_arguments { dc = d; position = p };
  keyword = turn_word turn.AddMaintainer;
  words = refl;
  some = omega arith;
  many = refl;
  writes = (d, (decimal p ∷ [], (refl, (fits.0.0, (p, ([], (refl, (fits.1, (refl, refl)))))))));
  says = refl;
}
step_comes load (step.AddBatcher d) fits = record {
  word = turn.AddBatcher;
  left = letter d ∷ [];
  given = record no_arguments { dc = d };
  keyword = turn_word turn.AddBatcher;
  words = refl;
  some = omega arith;
  many = refl;
  writes = (d, ([], (refl, (fits.0, (refl, refl)))));
  says = refl;
}
step_comes load (step.AddQueue d) fits = record {
  word = turn.AddQueue;
  left = letter d ∷ [];
  given = record no_arguments { dc = d };
  keyword = turn_word turn.AddQueue;
  words = refl;
  some = omega arith;
  many = refl;
  writes = (d, ([], (refl, (fits.0, (refl, refl)))));
  says = refl;
}
step_comes load (step.AddSender d) fits = record {
  word = turn.AddSender;
  left = letter d ∷ [];
  given = record no_arguments { dc = d };
  keyword = turn_word turn.AddSender;
  words = refl;
  some = omega arith;
  many = refl;
  writes = (d, ([], (refl, (fits.0, (refl, refl)))));
  says = refl;
}
step_comes load (step.AddReceiver d) fits = record {
  word = turn.AddReceiver;
  left = letter d ∷ [];
  given = record no_arguments { dc = d };
  keyword = turn_word turn.AddReceiver;
  words = refl;
  some = omega arith;
  many = refl;
  writes = (d, ([], (refl, (fits.0, (refl, refl)))));
  says = refl;
}
step_comes load (step.Upgrade d) fits = record {
  word = turn.Upgrade;
  left = letter d ∷ [];
  given = record no_arguments { dc = d };
  keyword = turn_word turn.Upgrade;
  words = refl;
  some = omega arith;
  many = refl;
  writes = (d, ([], (refl, (fits.0, (refl, refl)))));
  says = refl;
}

-- what has been said when some steps have been
abbrev pub stepping : ℕ → ℕ → List SizesLine → List SessionPlan → ℕ → List Step → Progress
stepping dcs round stages plans count steps = record { section = section.Steps; dcs = dcs; round = round; stages = stages; sessions = plans; commands = count; steps = steps }

turn_means : (said : Progress) (word : TurnWord) (left : List (List ℕ)) (given : Arguments) (t : Step) → said.dcs ≤ DATACENTRES → length said.sessions ≤ SESSIONS → length said.steps < STEPS
    → is_full said.stages said.steps (added_by t) ≡ false → Write said.dcs (length said.sessions) no_arguments (turn_arguments word) left given → step_said word given ≡ t
    → turn_line said word left ≡ okay (and_step said t)
unfolding turn_line with_step
turn_means said word left given t few room short spare writes says =
    let test : nat_le STEPS (length said.steps) ≡ false = grind (arith, nat_tests) in
    let both = or_from (nat_le STEPS (length said.steps)) (is_full said.stages said.steps (added_by t)) test spare in
    rw (arguments_read said.dcs (length said.sessions) no_arguments (turn_arguments word) left given few room writes, says)
    (cond-false (nat_le STEPS (length said.steps) || is_full said.stages said.steps (added_by t)) (Err TooMany) (okay (and_step said t)) both)

as_many : (n m : ℕ) → n ≡ m → (nat_lt n m || nat_lt m n) ≡ false
as_many n m same =
    let less : nat_lt n m ≡ false = grind (arith, nat_tests) in
    let more : nat_lt m n ≡ false = grind (arith, nat_tests) in
    or_from (nat_lt n m) (nat_lt m n) less more

pub turn_takes_line : (dcs round : ℕ) (stages : List SizesLine) (plans : List SessionPlan) (count : ℕ) (done : List Step) (t : Step) → dcs ≤ DATACENTRES → length plans ≤ SESSIONS → length done < STEPS
    → FitsStep (record { dcs = dcs; sessions = plans }) t → is_full stages done (added_by t) ≡ false
    → Takes (stepping dcs round stages plans count done) (turn_words t) (stepping dcs round stages plans count (done ++ t ∷ []))
turn_takes_line dcs round stages plans count done t few room short fits spare =
    let said : Progress = stepping dcs round stages plans count done in
    let comes = step_comes (load_of said) t fits in
    let made : Takes said (turn_text comes.word ∷ comes.left) (and_step said t) = record {
      full = full (turn_text comes.word) comes.left comes.some (arguments_full dcs (length plans) no_arguments (turn_arguments comes.word) comes.left comes.given room comes.writes);
      going = refl;
      means = word_reads said (turn_text comes.word) comes.left (Turn comes.word) comes.keyword refl (as_many (length comes.left) (length (turn_arguments comes.word)) comes.many)
          ∙ turn_means said comes.word comes.left comes.given t few room short spare comes.writes comes.says;
    } in
    subst (λ (ws : List (List ℕ)). Takes said ws (and_step said t)) (sym comes.words) made
