-- What the check asks of `find_arguments` beyond what it finds by itself.
use Rattle.std.proofs.Common.{◌∙◌}
use Rattle.clap.specs.Words.{app_of, found_of, rows_of}
use Rattle.command_line.proofs.Taken.{taken, found, refused}
use Rattle.command_line.proofs.arguments.find_arguments.Goals as goal

pub returns-in-Ok-clause-taken : goal.returns-in-Ok-clause-taken
returns-in-Ok-clause-taken c = taken (app_of c.in_ok-command.command) c.args.words.now c.in_ok-command.ensures c.in-Ok.ensures.kinds

pub returns-in-Ok-clause-found : goal.returns-in-Ok-clause-found
returns-in-Ok-clause-found c = found (app_of c.in_ok-command.command) c.args.words.now (rows_of (found_of c.in-Ok.matches)) _ c.in_ok-command.ensures c.in-Ok.ensures.matches

pub returns : goal.returns
returns c = record {
  taken = tt;
  found = tt;
  refused = λ fault. refused (app_of c.in_ok-command.command) c.args.words.now c.in-Err.error c.in_ok-command.ensures c.in-Err.ensures.kinds (λ memory. c.in_default.not-OutOfMemory (c.kind.ensures ∙ memory));
}
