use Rattle.std.proofs.Common.{refl, inl}
use Rattle.peer.specs.Functions.{bad_stamp, woken}
use Rattle.memory.proofs.MemoryPeer.wake.Goals as goal

pub returns-then-stamp-eq0-clause-calls : goal.returns-then-stamp-eq0-clause-calls
returns-then-stamp-eq0-clause-calls c = rw c.from.ensures (bad_stamp c.if-stamp-eq0.true, inl refl)

pub returns-clause-calls : goal.returns-clause-calls
returns-clause-calls c = woken _ c.if-stamp-eq0.false (record { number = refl; stamp = refl; up = refl; standing = refl; no_path = refl; no_note = refl })
