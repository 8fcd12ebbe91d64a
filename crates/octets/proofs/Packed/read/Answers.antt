use Rattle.std.proofs.Common.{refl, arith}
use Rattle.std.proofs.lemmas.Grind.{common_steps}
use Rattle.octets.proofs.Packing.{numbers_pack}
use Rattle.octets.proofs.Packed.read.Goals as goal

pub returns : goal.returns
returns c =
    numbers_pack c.args.bytes.now _ _ (omega arith) (λ i. omega (arith, c.type_inv.bytes i)) (grind (arith, common_steps)) c.number_of.ensures c.number_of-2.ensures refl
