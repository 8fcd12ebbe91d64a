use Rattle.std.proofs.Common.{ap, ◌∙◌, arith}
use Rattle.notation.specs.Text.{stripped}
use Rattle.notation.proofs.RoundTrip.{parts_wrote}
use Rattle.notation.proofs.lay_text.Goals as goal

pub returns : goal.returns
returns c =
    parts_wrote c.args.revision.generation c.args.revision.tag c.lay_parts.result c.args.out.now c.lay_parts.new.out c.stripped.result.now c.stripped-2.result.now
    c.requires.0 (omega arith) c.requires.1 (c.stripped.ensures.rest ∙ ap (stripped 2) c.digits-generation.ensures) (c.stripped-2.ensures.rest ∙ ap (stripped 14) c.digits-tag.ensures)
    c.lay_parts.ensures.laid c.lay_parts.ensures.many
