use Rattle.checkpoint.proofs.Entries.{Replacing}
use Rattle.checkpoint.proofs.replace.Given as goal

abbrev pub invariant-loop-e : goal.invariant-loop-e
invariant-loop-e l = Replacing l.entry.stamp l.entry.position l.e-index l.there l.initial.entries l.entries
