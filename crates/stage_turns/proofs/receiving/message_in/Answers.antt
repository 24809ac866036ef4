use Rattle.std.proofs.Common.{◌≡◌, ◌∙◌, sym, ap, subst, length, List, ℕ}
use Rattle.record_codec.specs.Wire.{SpellsMessage}
use Rattle.stage_turns.proofs.receiving.message_in.Goals as goal

pub returns-in-Ok-clause-is : goal.returns-in-Ok-clause-is
returns-in-Ok-clause-is c = λ m spelled.
    let dcs : c.dcs.result ≡ length c.args.table.now.table = c.dcs.ensures.value ∙ ap (λ t. length t) c.table.ensures in
    c.in-Ok.ensures.only m (subst (λ n. SpellsMessage n c.as_bytes.result.now m) (sym dcs)
    (subst (λ (bytes : List ℕ). SpellsMessage (length c.args.table.now.table) bytes m) (sym c.as_bytes.ensures) spelled))
