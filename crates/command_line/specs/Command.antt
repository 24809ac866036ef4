-- The command of the program, as `clap` reads it.
use Rattle.std.specs.Prelude.{Some, true, codes}
use Rattle.clap.specs.Words.{App, Rule, new_app, new_rule, with_rule}
use Rattle.clap.specs.Simple.{on_top}

-- what is to be done, which has to be told
abbrev pub mode_argument : Rule
mode_argument = record (new_rule (codes "mode")) { required = true }

-- a number for what is to be done
abbrev pub number_argument : Rule
number_argument = new_rule (codes "number")

-- the form of the report, an option with one value
abbrev pub form_argument : Rule
form_argument = record (new_rule (codes "form")) { long = Some (codes "form") }

-- the command with these three; the program's own name is not among its words
abbrev pub command : App
command = with_rule (with_rule (with_rule (on_top (λ top. record top { no_binary_name = true }) (new_app (codes "chariots"))) mode_argument) number_argument) form_argument
