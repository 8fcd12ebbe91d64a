use Rattle.std.proofs.Common.{rules}
use Rattle.octets.specs.Packed.{Packs}
use Rattle.octets.proofs.Packing.{unpacked_packs}
use Rattle.keys.proofs.Rules.{good_rule_from}
use Rattle.keys.proofs.Rule.read.Goals as goal

pub returns : goal.returns
returns c =
    let k : Packs c.args.prefix.now c.in_ok-prefix.prefix = search rules in
    (good_rule_from c.args.prefix.now k.few c.if-not-id_bytes.ensures, k, unpacked_packs c.args.prefix.now c.in_ok-prefix.prefix k)
