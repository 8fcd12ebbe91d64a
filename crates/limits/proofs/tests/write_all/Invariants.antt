use Rattle.limits.proofs.tests.write_all.Given as goal

abbrev pub invariant-loop-document : goal.invariant-loop-document
invariant-loop-document g l = g.P.Peer.kept l.peer
