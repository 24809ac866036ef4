use Rattle.std.proofs.Common.{◌∙◌, ◌<◌, ap, not, arith, get_or, rules, ◌≡◌, true, false}
use Rattle.toid_filter.specs.Filters.{FilterState}
use Rattle.toid_filter.proofs.Running.{above_reached, free_open, free_shut, waits_is}
use Rattle.toid_filter.proofs.filter.Filter.may_pass.Goals as goal

pub overflow_add-first : goal.overflow_add-first
overflow_add-first c =
    let above : get_or c.args.self.now.reached c.args.rec.now.host 0 < c.args.rec.now.toid = above_reached c.args.self.now c.args.rec.now c.requires.fits c.requires.new in
    omega (arith, above, c.get-first.ensures, ap (λ (f : FilterState). get_or f.reached c.args.rec.now.host 0) c.self.view_is)

pub returns-then-not-waits : goal.returns-then-not-waits
returns-then-not-waits c =
    let clear : c.serves-waits.result ≡ false = search rules in
    ap not c.holds_back.ensures ∙ free_open c.args.self.now c.args.rec.now c.serves-waits.result (waits_is _ _ _ _ _ _ c.self.view_is c.get-first.ensures c.serves-waits.ensures) clear

pub returns-else-not-waits : goal.returns-else-not-waits
returns-else-not-waits c =
    let shut : c.serves-waits.result ≡ true = search rules in
    ap not shut ∙ free_shut c.args.self.now c.args.rec.now c.serves-waits.result (waits_is _ _ _ _ _ _ c.self.view_is c.get-first.ensures c.serves-waits.ensures) shut
