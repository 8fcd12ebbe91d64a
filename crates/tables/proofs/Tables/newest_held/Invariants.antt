use Rattle.std.proofs.Common.{◌-◌}
use Rattle.tables.specs.Paths.{NewestAt}
use Rattle.tables.proofs.Tables.newest_held.Given as goal

abbrev pub invariant-loop-generation : goal.invariant-loop-generation
invariant-loop-generation l = NewestAt l.self l.document l.path (l.generation - 1) l.newest
