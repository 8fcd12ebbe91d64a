use Rattle.limits.proofs.tests.write_roots.Given as goal

abbrev pub invariant-loop-tag : goal.invariant-loop-tag
invariant-loop-tag g l = g.P.Peer.kept l.peer
