use Rattle.tables.proofs.PathGiven.{path_writes}
use Rattle.tables.proofs.Tables.path_write.Goals as goal

pub returns-clause-writes : goal.returns-clause-writes
returns-clause-writes c =
    path_writes c.args.self.now c.args.id.now c.args.generation c.args.tags.now c.args.mark c.args.body.now _ c.write.result c.write.new.self c.in_ok-path.ensures c.write.ensures.replies
