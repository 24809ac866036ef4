-- What the check asks of `put_body` beyond what it finds by itself.
use Rattle.std.proofs.Common.{arith, subst, sym, ◌∙◌}
use Rattle.cz_base.specs.Text.{IsBody}
use Rattle.script_generator.proofs.TextLemmas.{put_is_body}
use Rattle.script_generator.proofs.texts.put_body.Goals as goal

pub body-requires : goal.body-requires
body-requires c = subst IsBody (sym (c.deref.ensures ∙ c.in_ok-format.ensures.ok)) (put_is_body c.args.session c.args.index (omega arith) (omega arith))
