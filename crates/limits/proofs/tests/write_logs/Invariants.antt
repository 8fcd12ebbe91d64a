use Rattle.limits.proofs.tests.write_logs.Given as goal

abbrev pub invariant-loop-source : goal.invariant-loop-source
invariant-loop-source g l = g.P.Peer.kept l.peer
