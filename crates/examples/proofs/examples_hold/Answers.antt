use Rattle.examples.proofs.Shown.{examples}
use Rattle.examples.proofs.examples_hold.Goals as goal

pub returns-clause-examples : goal.returns-clause-examples
returns-clause-examples c = examples
