use Rattle.toid_filter.proofs.LawsLemmas.{held_waits}
use Rattle.std.proofs.lemmas.List.Elements.{All-weaker}
use Rattle.std.proofs.Common.{◌≡◌, false}
use Rattle.toid_filter.specs.Filters.{is_free}
use Rattle.toid_filter.specs.Laws.{Waits}
use Rattle.toid_filter.proofs.laws.held_records_wait.Goals as goal

pub returns : goal.returns
returns c = λ f sound. All-weaker (λ r. is_free f r ≡ false) (Waits f) (held_waits f) f.held sound.none_free
