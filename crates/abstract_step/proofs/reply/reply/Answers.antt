use Rattle.std.proofs.Common.{◌≡◌, false, Option, Some, IsSomeAnd, sym, subst, arith}
use Rattle.abstract_log.specs.Commands.{is_write}
use Rattle.abstract_log.specs.Answers.{answer_to}
use Rattle.abstract_log.specs.Worlds.{open_command}
use Rattle.abstract_step.proofs.reply.reply.Goals as goal

some_and : {T : Type 0} (o : Option T) (x : T) (P : T → Type 0) → o ≡ Some x → P x → IsSomeAnd o P
some_and {T} o x P is p = let Q : Option T → Type 0 = λ q. IsSomeAnd q P in subst Q (sym is) p

pub returns : goal.returns
returns c =
    let is : open_command c.args.world.now c.args.s c.args.k ≡ Some c.in-Some.command.now = c.in-Some.ensures.0 in (
      (
        c.is_home.ensures.0 c.if-not-is_home.false,
        (
          some_and (open_command c.args.world.now c.args.s c.args.k) c.in-Some.command.now (λ x. is_write x ≡ false) is c.in-Some.ensures.1,
          (
            (omega (arith, c.floor.ensures), omega (arith, c.log_len.ensures)),
            (
              some_and (open_command c.args.world.now c.args.s c.args.k) c.in-Some.command.now (λ x. answer_to c.args.world.now c.args.d x c.args.at ≡ Some c.args.answer.now) is
                  (c.in_ok-is_answer.ensures.0 c.if-not-branch.false),
              tt,
            ),
          ),
        ),
      ),
      c.answered.ensures c.args.d,
    )
