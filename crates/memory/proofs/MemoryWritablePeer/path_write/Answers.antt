use Rattle.memory.proofs.Replying.{path_replies}
use Rattle.memory.proofs.MemoryWritablePeer.path_write.Goals as goal

pub returns-clause-calls : goal.returns-clause-calls
returns-clause-calls c =
    path_replies c.args.self.now.number c.args.self.now.stamp c.args.self.now.tables c.args.id.now c.args.generation c.args.tags.now c.args.mark c.args.body.now _ _ c.path_write.ensures.writes
