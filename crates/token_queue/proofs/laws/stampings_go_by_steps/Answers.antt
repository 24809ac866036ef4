use Rattle.token_queue.proofs.Stamping.{stamps_joined, stamps_first, stamps_none}
use Rattle.token_queue.proofs.laws.stampings_go_by_steps.Goals as goal

pub returns : goal.returns
returns c = record {
  joined = λ q new t stamps. stamps_joined q new t stamps;
  step = λ q new t found stamps is rest. stamps_first q t found stamps new is rest;
  end = λ q t none. stamps_none q t none;
}
