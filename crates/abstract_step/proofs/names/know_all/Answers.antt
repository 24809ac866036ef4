use Rattle.std.proofs.Common.{ℕ, take, refl, sym, subst}
use Rattle.std.proofs.lemmas.List.{take_all}
use Rattle.std.proofs.lemmas.List.Elements.{All-more, All-same}
use Rattle.causal_deps.specs.Logs.{HasName}
use Rattle.abstract_step.proofs.names.know_all.Goals as goal

pub loop-name-preserved : goal.loop-name-preserved
loop-name-preserved c =
    let P : ℕ × ℕ → Type 0 = λ n. HasName c.args.log.now n.0 n.1 in
    All-more P c.args.names.now c.loop-name.name-index c.name-item.result c.loop-name-test.true c.loop-name.invariant
    (subst P c.name-item.is (c.knows_name.ensures.0 c.if-not-knows_name.false))

pub returns : goal.returns
returns c =
    let P : ℕ × ℕ → Type 0 = λ n. HasName c.args.log.now n.0 n.1 in
    (λ _. All-same P c.args.names.now (take c.loop-name.name-index c.args.names.now) (sym (take_all c.loop-name.name-index c.args.names.now c.loop-name-test.false)) c.loop-name.invariant, λ _. refl)
