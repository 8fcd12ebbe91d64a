use Rattle.law.proofs.History.{laws}
use Rattle.law.proofs.laws_of_runs.Goals as goal

pub returns : goal.returns
returns c = laws
