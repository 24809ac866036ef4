-- What the lines of a script keep: its numbers are in their ranges.
use Rattle.std.proofs.Common.{◌≡◌, ℕ, ◌+◌, ◌<◌, ◌≤◌, List, [], ◌∷◌, ◌++◌, length, cond, Bool, ◌^◌, true, false, refl, ap, sym, ◌∙◌, subst, arith, lit<}
use Rattle.std.specs.Prelude.{IfOk, Ok, Err, Result, Option, Some, None, nat_le, nat_lt, not, ◌==◌}
use Rattle.std.specs.List.{All, list_all, list_any}
use Rattle.std.proofs.lemmas.Bool.{leb-false, not-false}
use Rattle.std.proofs.lemmas.Bool.Decides.{nat_tests}
use Rattle.std.proofs.lemmas.List.Elements.{All-nil, All-push}
use Rattle.std.proofs.lemmas.List.Sums.{sum_by_push}
use Rattle.flstore_rounds.proofs.EpochLemmas.{length_push}
use Rattle.cz_base.specs.declared.limits.TheConstants.{MEMBERS, STEPS, ROUND}
use Rattle.script_text.specs.declared.fault.Cause.{Cause}
use Rattle.script_text.specs.declared.fault.Cause.TheVariants.{BadByte, BadSpacing, AfterEnd, OutOfPlace, OutOfRange, TooMany, TooShort, WrongWords}
use Rattle.script_text.specs.declared.fault.ScriptFault.{ScriptFault}
use Rattle.script_text.specs.declared.fault.ScriptFault.TheVariants.{Bad}
use Rattle.script_text.specs.Words.{words, is_line_byte, is_empty_word}
use Rattle.script_text.specs.Reading.{greatest_number, number_at, number_below_at, body_at}
use Rattle.script_text.specs.Meaning.{is_passed_over, next_number, told}
use Rattle.script_text.proofs.Going.{bind_ok, guard_ok, okay-same, pass_ok}
use Rattle.script_text.proofs.Kept.{body_takes}
use Rattle.script_text.proofs.Spelling.{number_spells}
use Rattle.flstore_service.specs.declared.keyword.Keyword.{Keyword}
use Rattle.flstore_service.specs.declared.keyword.Keyword.TheVariants.{FlStore, Round, Maintainers, Put, After, Gossip, Head, Read, AddMaintainer, End}
use Rattle.flstore_service.specs.declared.keyword.Section.{Section}
use Rattle.flstore_service.specs.declared.keyword.Section.TheVariants as section
use Rattle.flstore_service.specs.declared.progress.Progress.{Progress}
use Rattle.flstore_service.specs.declared.script.FlScript.{FlScript}
use Rattle.flstore_service.specs.declared.script.FlStep.{FlStep}
use Rattle.flstore_service.specs.declared.script.FlStep.TheVariants as step
use Rattle.flstore_service.specs.Fits.{FitsFlScript, FitsFlStep, additions, adds_maintainer}
use Rattle.flstore_service.specs.Keywords.{is_ended, keyword_of, stands, words_after_first}
use Rattle.flstore_service.specs.Meaning.{add_maintainer_line, after_line, flstore_line, gossip_line, head_line, keyword_after, line_after, maintainers_line, meaning, nothing_said, put_line, read_line, round_line, script_from, script_of, script_said, with_maintainer, with_step, words_after}

-- what was said so far, by the section that was reached
abbrev pub IsRoundSaid : Progress → Type 0
IsRoundSaid said = (1 ≤ said.round) × (said.round ≤ ROUND)

pub record IsSaid (said : Progress) : Type 0 where
  pub round : IsRoundSaid said
  pub some : 1 ≤ said.maintainers
  pub counted : said.maintainers + additions said.steps ≡ said.members
  pub few : said.members ≤ MEMBERS
  pub steps : length said.steps ≤ STEPS
  pub each : All FitsFlStep said.steps

abbrev pub keeps_at : Section → Progress → Type 0
keeps_at section.Start said = said.steps ≡ []
keeps_at section.Round said = said.steps ≡ []
keeps_at section.Maintainers said = (said.steps ≡ []) × IsRoundSaid said
keeps_at section.Steps said = IsSaid said
keeps_at section.Ended said = IsSaid said

abbrev pub Keeps : Progress → Type 0
Keeps said = keeps_at said.section said

-- a number below a limit
below_takes : (limit : ℕ) (left : List (List ℕ)) (x : ℕ × List (List ℕ)) → number_below_at limit left ≡ Ok x → x.0 < limit
unfolding number_below_at
below_takes limit left x same =
    let bound = bind_ok (number_at 0 greatest_number left) (λ n. cond (nat_lt n.0 limit) (Ok n) (Err OutOfRange)) x same in
    let form = pass_ok (nat_lt bound.0.0 limit) OutOfRange (Ok bound.0) x bound.1.1 in
    let is : bound.0 ≡ x = okay-same bound.0 x form.1 in
    let low : bound.0.0 < limit = grind (arith, nat_tests, form.0) in
    omega (arith, low, ap (λ (p : ℕ × List (List ℕ)). p.0) is)

pub step_keeps : (said after : Progress) (x : FlStep) (n : ℕ) → IsRoundSaid said → 1 ≤ said.maintainers → said.maintainers + additions said.steps ≡ n → said.members ≡ n + cond (adds_maintainer x) 1 0 → said.members ≤ MEMBERS → All FitsFlStep said.steps → FitsFlStep x → with_step said x ≡ Ok after
    → IsSaid after × (after.section ≡ said.section)
unfolding with_step
step_keeps said after x n round some counted members few each fits same =
    let form = guard_ok (nat_le STEPS (length said.steps)) TooMany (Ok (record said { steps = said.steps ++ x ∷ [] })) after same in
    let is : record said { steps = said.steps ++ x ∷ [] } ≡ after = okay-same (record said { steps = said.steps ++ x ∷ [] }) after form.1 in
    let short : length said.steps < STEPS = leb-false STEPS (length said.steps) form.0 in (
      subst IsSaid is (record {
        round = round;
        some = some;
        counted = omega (arith, counted, members, sum_by_push (λ (y : FlStep). cond (adds_maintainer y) 1 0) said.steps x);
        few = few;
        steps = omega (arith, short, length_push said.steps x);
        each = All-push FitsFlStep said.steps x each fits;
      }),
      sym (ap (λ (p : Progress). p.section) is),
    )

-- a step that adds no maintainer
plain_keeps : (said after : Progress) (x : FlStep) → adds_maintainer x ≡ false → IsSaid said → FitsFlStep x → with_step said x ≡ Ok after → IsSaid after × (after.section ≡ said.section)
plain_keeps said after x plain is fits same = step_keeps said after x said.members is.round is.some is.counted (omega (arith, ap (λ b. cond {A = ℕ} b 1 0) plain)) is.few is.each fits same

put_keeps : (said after : Progress) (rest : List (List ℕ)) → IsSaid said → put_line said rest ≡ Ok after → IsSaid after × (after.section ≡ said.section)
unfolding put_line
put_keeps said after rest is same =
    let m = bind_ok (number_below_at MEMBERS rest) _ after same in
    let body = bind_ok (body_at m.0.1) _ after m.1.1 in
    plain_keeps said after (step.Put m.0.0 body.0.0) refl is (below_takes MEMBERS rest m.0 m.1.0, (body_takes m.0.1 body.0 body.1.0).body) body.1.1

after_keeps : (said after : Progress) (rest : List (List ℕ)) → IsSaid said → after_line said rest ≡ Ok after → IsSaid after × (after.section ≡ said.section)
unfolding after_line
after_keeps said after rest is same =
    let m = bind_ok (number_below_at MEMBERS rest) _ after same in
    let p = bind_ok (number_at 1 greatest_number m.0.1) _ after m.1.1 in
    let body = bind_ok (body_at p.0.1) _ after p.1.1 in
    let lid = number_spells 1 greatest_number m.0.1 p.0 (lit< tt) p.1.0 in
    plain_keeps said after (step.After m.0.0 p.0.0 body.0.0) refl is (below_takes MEMBERS rest m.0 m.1.0, ((lid.low, omega (arith, lid.high)), (body_takes p.0.1 body.0 body.1.0).body)) body.1.1

gossip_keeps : (said after : Progress) (rest : List (List ℕ)) → IsSaid said → gossip_line said rest ≡ Ok after → IsSaid after × (after.section ≡ said.section)
unfolding gossip_line
gossip_keeps said after rest is same =
    let m = bind_ok (number_below_at MEMBERS rest) _ after same in
    let k = bind_ok (number_below_at MEMBERS m.0.1) _ after m.1.1 in
    plain_keeps said after (step.Gossip m.0.0 k.0.0) refl is (below_takes MEMBERS rest m.0 m.1.0, below_takes MEMBERS m.0.1 k.0 k.1.0) k.1.1

head_keeps : (said after : Progress) (rest : List (List ℕ)) → IsSaid said → head_line said rest ≡ Ok after → IsSaid after × (after.section ≡ said.section)
unfolding head_line
head_keeps said after rest is same =
    let m = bind_ok (number_below_at MEMBERS rest) _ after same in
    plain_keeps said after (step.Head m.0.0) refl is (below_takes MEMBERS rest m.0 m.1.0) m.1.1

read_keeps : (said after : Progress) (rest : List (List ℕ)) → IsSaid said → read_line said rest ≡ Ok after → IsSaid after × (after.section ≡ said.section)
unfolding read_line
read_keeps said after rest is same =
    let m = bind_ok (number_below_at MEMBERS rest) _ after same in
    let p = bind_ok (number_at 1 greatest_number m.0.1) _ after m.1.1 in
    let lid = number_spells 1 greatest_number m.0.1 p.0 (lit< tt) p.1.0 in
    plain_keeps said after (step.Read m.0.0 p.0.0) refl is (below_takes MEMBERS rest m.0 m.1.0, (lid.low, omega (arith, lid.high))) p.1.1

with_maintainer_keeps : (said after : Progress) (p : ℕ) → IsSaid said → (1 ≤ p) × (p < 2 ^ 32) → with_maintainer said p ≡ Ok after → IsSaid after × (after.section ≡ said.section)
unfolding with_maintainer
with_maintainer_keeps said after p is lid same =
    let form = guard_ok (nat_le MEMBERS said.members) TooMany (with_step (record said { members = said.members + 1 }) (step.AddMaintainer p)) after same in
    let room : said.members < MEMBERS = leb-false MEMBERS said.members form.0 in
    step_keeps (record said { members = said.members + 1 }) after (step.AddMaintainer p) said.members is.round is.some is.counted refl (omega (arith, room)) is.each lid form.1

add_keeps : (said after : Progress) (rest : List (List ℕ)) → IsSaid said → add_maintainer_line said rest ≡ Ok after → IsSaid after × (after.section ≡ said.section)
unfolding add_maintainer_line
add_keeps said after rest is same =
    let p = bind_ok (number_at 1 greatest_number rest) _ after same in
    let lid = number_spells 1 greatest_number rest p.0 (lit< tt) p.1.0 in
    with_maintainer_keeps said after p.0.0 is (lid.low, omega (arith, lid.high)) p.1.1

-- the first lines

first_keeps : (said after : Progress) (rest : List (List ℕ)) → said.steps ≡ [] → flstore_line said rest ≡ Ok after → Keeps after
unfolding flstore_line
first_keeps said after rest none same =
    let version = bind_ok (number_at 1 1 rest) _ after same in
    subst Keeps (okay-same (record said { section = section.Round }) after version.1.1) none

round_keeps : (said after : Progress) (rest : List (List ℕ)) → said.steps ≡ [] → round_line said rest ≡ Ok after → Keeps after
unfolding round_line
round_keeps said after rest none same =
    let round = bind_ok (number_at 1 ROUND rest) _ after same in
    let spelled = number_spells 1 ROUND rest round.0 (lit< tt) round.1.0 in
    subst Keeps (okay-same (record said { round = round.0.0; section = section.Maintainers }) after round.1.1) (none, (spelled.low, spelled.high))

maintainers_keeps : (said after : Progress) (rest : List (List ℕ)) → said.steps ≡ [] → IsRoundSaid said → maintainers_line said rest ≡ Ok after → Keeps after
unfolding maintainers_line
maintainers_keeps said after rest none round same =
    let many = bind_ok (number_at 1 MEMBERS rest) _ after same in
    let spelled = number_spells 1 MEMBERS rest many.0 (lit< tt) many.1.0 in
    subst Keeps (okay-same (record said { maintainers = many.0.0; members = many.0.0; section = section.Steps }) after many.1.1) (record {
      round = round;
      some = spelled.low;
      counted = omega (arith, ap additions none);
      few = spelled.high;
      steps = omega (arith, ap (λ (xs : List FlStep). length xs) none);
      each = subst (All FitsFlStep) (sym none) (All-nil FitsFlStep);
    })

-- a section is reached by its name

at_section : (s : Section) (said : Progress) → said.section ≡ s → Keeps said → keeps_at s said
at_section s said is keeps = subst (λ t. keeps_at t said) is keeps

is_start_at : (s : Section) → stands FlStore s ≡ true → s ≡ section.Start
is_start_at section.Start h = refl
is_start_at section.Round h = absurd (cc)
is_start_at section.Maintainers h = absurd (cc)
is_start_at section.Steps h = absurd (cc)
is_start_at section.Ended h = absurd (cc)

is_round_at : (s : Section) → stands Round s ≡ true → s ≡ section.Round
is_round_at section.Start h = absurd (cc)
is_round_at section.Round h = refl
is_round_at section.Maintainers h = absurd (cc)
is_round_at section.Steps h = absurd (cc)
is_round_at section.Ended h = absurd (cc)

is_maintainers_at : (s : Section) → stands Maintainers s ≡ true → s ≡ section.Maintainers
is_maintainers_at section.Start h = absurd (cc)
is_maintainers_at section.Round h = absurd (cc)
is_maintainers_at section.Maintainers h = refl
is_maintainers_at section.Steps h = absurd (cc)
is_maintainers_at section.Ended h = absurd (cc)

is_steps_at : (s : Section) → stands End s ≡ true → s ≡ section.Steps
is_steps_at section.Start h = absurd (cc)
is_steps_at section.Round h = absurd (cc)
is_steps_at section.Maintainers h = absurd (cc)
is_steps_at section.Steps h = refl
is_steps_at section.Ended h = absurd (cc)

in_steps : (said after : Progress) → said.section ≡ section.Steps → IsSaid after × (after.section ≡ said.section) → Keeps after
in_steps said after at kept = subst (λ t. keeps_at t after) (sym (kept.1 ∙ at)) kept.0

meaning_keeps : (said after : Progress) (k : Keyword) (rest : List (List ℕ)) → stands k said.section ≡ true → Keeps said → meaning said k rest ≡ Ok after → Keeps after
meaning_keeps said after FlStore rest here keeps same = first_keeps said after rest (at_section section.Start said (is_start_at said.section here) keeps) same
meaning_keeps said after Round rest here keeps same = round_keeps said after rest (at_section section.Round said (is_round_at said.section here) keeps) same
meaning_keeps said after Maintainers rest here keeps same = let was = at_section section.Maintainers said (is_maintainers_at said.section here) keeps in maintainers_keeps said after rest was.0 was.1 same
meaning_keeps said after Put rest here keeps same = let at = is_steps_at said.section here in in_steps said after at (put_keeps said after rest (at_section section.Steps said at keeps) same)
meaning_keeps said after After rest here keeps same = let at = is_steps_at said.section here in in_steps said after at (after_keeps said after rest (at_section section.Steps said at keeps) same)
meaning_keeps said after Gossip rest here keeps same = let at = is_steps_at said.section here in in_steps said after at (gossip_keeps said after rest (at_section section.Steps said at keeps) same)
meaning_keeps said after Head rest here keeps same = let at = is_steps_at said.section here in in_steps said after at (head_keeps said after rest (at_section section.Steps said at keeps) same)
meaning_keeps said after Read rest here keeps same = let at = is_steps_at said.section here in in_steps said after at (read_keeps said after rest (at_section section.Steps said at keeps) same)
meaning_keeps said after AddMaintainer rest here keeps same = let at = is_steps_at said.section here in in_steps said after at (add_keeps said after rest (at_section section.Steps said at keeps) same)
meaning_keeps said after End rest here keeps same =
    let at = is_steps_at said.section here in
    let was : IsSaid said = at_section section.Steps said at keeps in
    subst Keeps (okay-same (record said { section = section.Ended }) after same) (record { round = was.round; some = was.some; counted = was.counted; few = was.few; steps = was.steps; each = was.each })

keyword_keeps : (said after : Progress) (o : Option Keyword) (rest : List (List ℕ)) → Keeps said → keyword_after said o rest ≡ Ok after → Keeps after
keyword_keeps said after None rest keeps same = absurd (cc)
keyword_keeps said after (Some k) rest keeps same =
    let place = guard_ok (not (stands k said.section)) OutOfPlace (cond (not (length rest == words_after_first k)) (Err WrongWords) (meaning said k rest)) after same in
    let count = guard_ok (not (length rest == words_after_first k)) WrongWords (meaning said k rest) after place.1 in
    meaning_keeps said after k rest (not-false (stands k said.section) place.0) keeps count.1

words_keep : (said after : Progress) (ws : List (List ℕ)) → Keeps said → words_after said ws ≡ Ok after → Keeps after
unfolding words_after
words_keep said after [] keeps same = absurd (cc)
words_keep said after (first ∷ more) keeps same = keyword_keeps said after (keyword_of first) more keeps same

line_keeps : (said after : Progress) (line : List ℕ) → Keeps said → line_after said line ≡ Ok after → Keeps after
unfolding line_after
line_keeps said after line keeps same =
    let bytes = guard_ok (not (list_all is_line_byte line)) BadByte _ after same in
    by_pass (is_passed_over line) bytes.1
  where
    spaced : Result Progress Cause
    spaced = cond (list_any is_empty_word (words line)) (Err BadSpacing) (cond (is_ended said.section) (Err AfterEnd) (words_after said (words line)))

    by_pass : (b : Bool) → cond b (Ok said) spaced ≡ Ok after → Keeps after
    by_pass true h = subst Keeps (okay-same said after h) keeps
    by_pass false h =
        let full = guard_ok (list_any is_empty_word (words line)) BadSpacing _ after h in
        let going = guard_ok (is_ended said.section) AfterEnd _ after full.1 in
        words_keep said after (words line) keeps going.1

-- the whole script

told_is : (number : ℕ) (r : Result Progress Cause) (y : Progress) → told number r ≡ Ok y → r ≡ Ok y
told_is number (Ok x) y same = cc
told_is number (Err e) y same = absurd (cc)

ended_at : (s : Section) (said : Progress) → is_ended s ≡ true → keeps_at s said → IsSaid said
ended_at section.Start said h keeps = absurd (cc)
ended_at section.Round said h keeps = absurd (cc)
ended_at section.Maintainers said h keeps = absurd (cc)
ended_at section.Steps said h keeps = absurd (cc)
ended_at section.Ended said h keeps = keeps

said_fits : (said : Progress) → IsSaid said → FitsFlScript (script_said said)
said_fits said is = record { round = is.round; some = is.some; few = omega (arith, is.counted, is.few); steps = is.steps; each = is.each }

pub script_fits : (before : Progress) (number : ℕ) (lines : List (List ℕ)) (script : FlScript) → Keeps before → script_from before number lines ≡ Ok script → FitsFlScript script
script_fits before number [] script keeps same =
    let form = end_is (is_ended before.section) same in
    subst FitsFlScript form.1 (said_fits before (ended_at before.section before form.0 keeps))
  where
    end_is : (b : Bool) → cond b (Ok (script_said before)) (Err (Bad number TooShort)) ≡ Ok script → (b ≡ true) × (script_said before ≡ script)
    end_is true h = (refl, cc)
    end_is false h = absurd (cc)
script_fits before number (line ∷ more) script keeps same =
    let step = bind_ok (told number (line_after before line)) (λ after. script_from after (next_number number) more) script same in
    script_fits step.0 (next_number number) more script (line_keeps before step.0 line keeps (told_is number (line_after before line) step.0 step.1.0)) step.1.1

-- so what is read keeps its ranges
pub fits_read : (lines : List (List ℕ)) (result : Result FlScript ScriptFault) → IfOk result (λ script. script_of lines ≡ Ok script) → IfOk result FitsFlScript
fits_read lines (Ok script) is = script_fits nothing_said 1 lines script refl is
fits_read lines (Err fault) is = is
