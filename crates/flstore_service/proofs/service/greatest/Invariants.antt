use Rattle.std.proofs.Common.{◌≡◌, fold, max, drop}
use Rattle.flstore_service.proofs.service.greatest.Given as goal

-- what comes next makes of the greatest so far what all make
abbrev pub invariant-loop-lid : goal.invariant-loop-lid
invariant-loop-lid l = fold max l.most (drop l.lid-index l.others) ≡ fold max l.first l.others
