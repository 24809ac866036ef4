-- What the check asks of `plain_words_stand_for_themselves` beyond what it finds by itself.
use Rattle.command_line.proofs.Walks as walks
use Rattle.command_line.proofs.laws.plain_words_stand_for_themselves.Goals as goal

pub returns : goal.returns
returns c = record {
  mode = walks.plain_one;
  number = walks.plain_two;
  more = walks.plain_three;
}
