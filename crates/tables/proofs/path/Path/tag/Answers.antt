use Rattle.std.proofs.Common.{rules}
use Rattle.tables.specs.Tags.{tag_at}
use Rattle.tables.proofs.TagBytes.{tag_bytes}
use Rattle.tables.proofs.path.Path.tag.Goals as goal

pub returns-then-generation-eq0 : goal.returns-then-generation-eq0
unfolding tag_at
returns-then-generation-eq0 c = search rules

pub returns : goal.returns
returns c = tag_bytes c.args.self.now.tags.now c.args.generation c.number_of.result c.if-generation-eq0.false c.number_of.ensures
