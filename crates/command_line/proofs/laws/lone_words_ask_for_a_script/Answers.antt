-- What the check asks of `lone_words_ask_for_a_script` beyond what it finds by itself.
use Rattle.command_line.proofs.Hyphens.{lone}
use Rattle.command_line.proofs.laws.lone_words_ask_for_a_script.Goals as goal

pub returns : goal.returns
returns c = lone
