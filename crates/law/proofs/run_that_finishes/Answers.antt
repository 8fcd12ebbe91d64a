use Rattle.law.proofs.Happens.{happens}
use Rattle.law.proofs.run_that_finishes.Goals as goal

pub returns : goal.returns
returns c = happens
