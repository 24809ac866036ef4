-- What the check asks of `other_words_ask_for_nothing` beyond what it finds by itself.
use Rattle.command_line.proofs.Examples as example
use Rattle.command_line.proofs.laws.other_words_ask_for_nothing.Goals as goal

pub returns : goal.returns
returns c = record {
  none = example.no_words;
  unknown = example.unknown_mode;
  help = example.help;
  help_beside = example.help_beside_replay;
  version = example.version;
}
