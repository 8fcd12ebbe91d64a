use Rattle.std.proofs.Common.{rules}
use Rattle.octets.specs.Packed.{Packs}
use Rattle.octets.proofs.Packing.{unpacked_packs}
use Rattle.revision.proofs.Ids.{good_id_from}
use Rattle.revision.proofs.DocumentId.read.Goals as goal

pub returns : goal.returns
returns c =
    let k : Packs c.args.bytes.now c.in_ok-bytes.bytes = search rules in
    (good_id_from c.args.bytes.now c.if-is_empty.ensures k.few c.if-not-id_bytes.ensures, k, unpacked_packs c.args.bytes.now c.in_ok-bytes.bytes k)
