use Rattle.flstore_rounds.proofs.EpochLemmas.{first_epoch_list, epoch_list_more}
use Rattle.flstore_rounds.proofs.laws.later_epochs_keep_lists.Goals as goal

pub returns-clause-first : goal.returns-clause-first
returns-clause-first c = first_epoch_list

pub returns-clause-more : goal.returns-clause-more
returns-clause-more c = epoch_list_more
