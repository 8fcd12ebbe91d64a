use Rattle.std.proofs.Common.{take, ap, ◌∙◌}
use Rattle.keys.proofs.Rules.{starts_passes}
use Rattle.keys.proofs.Rule.passes.Goals as goal

pub returns : goal.returns
returns c = starts_passes _ _ c.args.id.now c.starts_with.result (c.cut.ensures ∙ ap (take c.args.self.prefix.length) c.bytes-all.ensures) c.starts_with.ensures.value
