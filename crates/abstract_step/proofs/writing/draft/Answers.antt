use Rattle.std.proofs.Common.{Result, IfOk, Ok, Err}
use Rattle.abstract_step.proofs.Drafts.{drafted_or_not}
use Rattle.abstract_step.proofs.writing.draft.Goals as goal

ok_then : {T E : Type 0} (r : Result T E) (P Q : T → Type 0) → IfOk r P → ((x : T) → P x → Q x) → IfOk r Q
ok_then (Ok x) P Q h f = f x h
ok_then (Err e) P Q h f = tt

pub returns : goal.returns
returns c = ok_then c.draft_of.result _ _ c.draft_of.ensures (drafted_or_not c.args.world.now c.args.s c.args.k)
