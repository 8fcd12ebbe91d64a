use Rattle.std.proofs.Common.{arith}
use Rattle.tables.proofs.TagBytes.{tag_good}
use Rattle.tables.proofs.path.Path.read.Goals as goal

pub invariant_of-result-clause-tagged : goal.invariant_of-result-clause-tagged
invariant_of-result-clause-tagged c = tag_good c.args.tags.now (λ i. omega (arith, c.type_inv.tags i))
