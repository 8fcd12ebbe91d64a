use Rattle.memory.proofs.Replying.{log_replies}
use Rattle.memory.proofs.MemoryPeer.log_write.Goals as goal

pub returns-clause-calls : goal.returns-clause-calls
returns-clause-calls c =
    log_replies c.args.self.now.number c.args.self.now.stamp c.args.self.now.tables c.args.key.now c.args.entry.stamp c.args.entry.position _ _ c.log_write.ensures.writes
