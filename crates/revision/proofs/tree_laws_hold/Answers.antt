use Rattle.revision.proofs.Writes.{writes_union}
use Rattle.revision.proofs.Heads.{heads_unique}
use Rattle.revision.proofs.tree_laws_hold.Goals as goal

pub returns-clause-laws : goal.returns-clause-laws
returns-clause-laws c = record { writes_union = writes_union; one_list = heads_unique }
