use Rattle.datacentre.proofs.WholeTurns.{token_may}
use Rattle.datacentre.proofs.parts.Parts.token.Goals as goal

pub token-requires : goal.token-requires
token-requires c = token_may c.args.self.now c.requires
