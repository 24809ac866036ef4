-- What the check asks of `number_of` beyond what it finds by itself.
use Rattle.std.proofs.Common.{arith}
use Rattle.script_text.proofs.WordLemmas.{digit_at, room_for_digit}
use Rattle.script_text.proofs.words.number_of.Goals as goal

pub overflow_mul-number : goal.overflow_mul-number
overflow_mul-number c = omega (arith, room_for_digit c.loop-digit.number c.loop-digit.digit-index c.loop-digit.invariant.small (omega arith))

pub overflow_add-number : goal.overflow_add-number
overflow_add-number c =
    let digit = digit_at c.args.digits.now c.loop-digit.digit-index c.requires.digits (omega arith) in
    omega (arith, room_for_digit c.loop-digit.number c.loop-digit.digit-index c.loop-digit.invariant.small (omega arith), digit.0, digit.1)
