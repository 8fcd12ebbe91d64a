use Rattle.std.proofs.Common.{◌≤◌, eqb, take}
use Rattle.checkpoint.specs.Logs.{Compared}
use Rattle.checkpoint.specs.Values.{pairs}
use Rattle.checkpoint.proofs.compare.Given as goal

abbrev pub invariant-loop-e : goal.invariant-loop-e
invariant-loop-e l = Compared eqb (pairs (take l.e-index l.ours)) (pairs l.theirs) l.best l.common × (l.common ≤ l.e-index)
