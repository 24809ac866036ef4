use Rattle.record_codec.proofs.TwoTexts.{alike_message, sparse_message}
use Rattle.record_codec.proofs.same.spell_one_message.Goals as goal

pub returns-then-begin_alike : goal.returns-then-begin_alike
returns-then-begin_alike c = alike_message c.args.dcs c.args.first.now c.args.second.now c.are_equal.result c.requires.1 (c.begin_alike.ensures.0 c.if-begin_alike.true) c.are_equal.ensures

pub returns : goal.returns
returns c m n is_m is_n = sparse_message c.args.dcs _ _ _ _ c.are_equal-2.result c.requires.1 c.deref.ensures.value c.deref-2.ensures.value c.are_equal-2.ensures m n (c.in_ok-one.ensures m is_m) (c.in_ok-other.ensures n is_n)
