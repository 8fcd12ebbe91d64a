use Rattle.std.proofs.Common.{◌∙◌}
use Rattle.revision.specs.Values.{mark_number}
use Rattle.tables.proofs.Bodies.{kept_whole}
use Rattle.tables.proofs.path.Path.content.Goals as goal

pub returns-clause-is : goal.returns-clause-is
returns-clause-is c = c.new.ensures.is ∙ kept_whole (mark_number c.args.self.now.mark) c.args.self.now.body.now c.args.self.now.short
