use Rattle.std.proofs.Common.{◌≡◌, List, [], ap, sym, subst, ◌∙◌, get_or, length, arith}
use Rattle.std.proofs.lemmas.List.{get_or_read}
use Rattle.causal_deps.specs.declared.record.Record.{Record}
use Rattle.causal_deps.specs.Logs.{FitDatacentres}
use Rattle.abstract_log.specs.Worlds.{log_of}
use Rattle.abstract_step.proofs.parts.counts.Goals as goal

pub counts_of-requires-clause-fit : goal.counts_of-requires-clause-fit
counts_of-requires-clause-fit c =
    let P : List Record → Type 0 = λ xs. FitDatacentres c.args.world.now.workload.dcs xs in
    let inside : length c.as_slice.result.now ≡ c.args.world.now.workload.dcs = ap length c.as_slice.ensures ∙ c.requires.shaped.logs in
    let is : c.as_slice-2.result.now ≡ log_of c.args.world.now c.args.d =
    c.as_slice-2.ensures ∙ get_or_read c.as_slice.result.now c.number.result c.index-as_slice-number.result (omega arith) c.index-as_slice-number.is []
    ∙ ap (λ xs. get_or xs c.number.result []) c.as_slice.ensures ∙ ap (λ i. log_of c.args.world.now i) c.number.ensures.value in
    subst P (sym is) (c.requires.shaped.records c.args.d)
