use Rattle.reads.proofs.Climbing.{height, Walked}
use Rattle.reads.proofs.lay_line.Given as goal

abbrev pub invariant-loop-next : goal.invariant-loop-next
invariant-loop-next l = Walked l.tables l.fn.entry.document l.fn.entry.generation l.fn.entry.tag l.initial.out l.next l.out

abbrev pub decreases-loop-next : goal.decreases-loop-next
decreases-loop-next l = height l.next
