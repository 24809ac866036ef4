-- By how many filters have accepted.
use Rattle.std.proofs.Common.{arith}
use Rattle.stage_marks.specs.Marks.{new_announcement}
use Rattle.stage_marks.proofs.Answering.{all_accepted}
use Rattle.stage_marks.proofs.laws.activation_comes_after_all_accepted.Goals as goal

pub returns : goal.returns
returns c = λ host mark filters answers is.
    let all = all_accepted (new_announcement host mark) filters answers is in (all.0, omega (arith, all.1))
