use Rattle.std.proofs.Common.{◌≡◌, ◌<◌, ℕ, List, [], ◌∷◌, ◌++◌, false, max, length, get_or, set, Some, option_to_list, ap, ap₂, sym, ◌∙◌, arith}
use Rattle.std.proofs.lemmas.List.{get_or_read}
use Rattle.causal_deps.specs.declared.record.Record.{Record}
use Rattle.causal_deps.specs.Counts.{raised}
use Rattle.abstract_log.specs.declared.world.Standing.{Standing}
use Rattle.abstract_log.specs.Worlds.{log_of, standing_of, nowhere}
use Rattle.abstract_log.specs.Steps.{logs_with, written}
use Rattle.abstract_step.proofs.writing.write.Goals as goal

pub returns : goal.returns
returns c =
    let logs : c.push_at.new.lists ≡ logs_with c.args.world.now c.args.d (written c.args.world.now c.args.s c.args.k c.args.d c.args.toid) =
    c.in_ok-push_at.ensures.ok
    ∙ ap (λ i. set c.args.world.now.logs i (get_or c.args.world.now.logs i [] ++ c.seal-rec.result ∷ [])) c.number.ensures.value
    ∙ ap (λ o. set c.args.world.now.logs c.args.d (log_of c.args.world.now c.args.d ++ option_to_list o)) (ap (λ r. Some r) c.seal-rec.ensures ∙ sym (c.requires.drafted.sealing c.args.d c.args.toid)) in
    let inside : c.args.s < length c.as_slice.result.now = omega (arith, c.requires.home.there, ap length c.as_slice.ensures) in
    let standing : c.index-as_slice-s.result ≡ standing_of c.args.world.now c.args.s =
    get_or_read c.as_slice.result.now c.args.s c.index-as_slice-s.result inside c.index-as_slice-s.is nowhere ∙ ap (λ xs. get_or xs c.args.s nowhere) c.as_slice.ensures in
    let sessions : c.set.new.self ≡ set c.args.world.now.sessions c.args.s (record {
      answered = c.args.k;
      begun = false;
      past = raised (standing_of c.args.world.now c.args.s).past c.args.d c.args.toid;
      floor = max (standing_of c.args.world.now c.args.s).floor c.args.lid;
    }) =
    c.set.ensures ∙ ap (λ (x : Standing). set c.args.world.now.sessions c.args.s x)
    (ap₂ (λ (p : List ℕ) (f : ℕ). let x : Standing = record { answered = c.args.k; begun = false; past = p; floor = f } in x)
    (c.raise.ensures ∙ ap (λ (x : Standing). raised x.past c.args.d c.args.toid) standing)
    (c.max.ensures ∙ ap (λ (x : Standing). max x.floor c.args.lid) standing)) in
    record { ok = ap₂ (λ (l : List (List Record)) (s : List Standing). record c.args.world.now { logs = l; sessions = s }) logs sessions; err = tt }
