use Rattle.std.proofs.Common.{◌∙◌, arith}
use Rattle.keys.proofs.KeyBytes.{four_number, four_small}
use Rattle.keys.proofs.number_at.Goals as goal

pub overflow_cast-result : goal.overflow_cast-result
overflow_cast-result c = omega (arith, four_small c.args.bytes.now c.args.from _ (λ i. omega (arith, c.type_inv.bytes i)) c.part.ensures, c.number_of.ensures)

pub returns : goal.returns
returns c = c.number_of.ensures ∙ four_number c.args.bytes.now c.args.from _ c.part.ensures
