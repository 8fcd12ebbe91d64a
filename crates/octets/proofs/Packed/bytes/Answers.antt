use Rattle.std.proofs.Common.{◌≡◌, sym, ◌∙◌, arith}
use Rattle.std.proofs.lemmas.Grind.{common_steps}
use Rattle.octets.specs.BigEndian.{in_bytes}
use Rattle.octets.proofs.Widths.{eight_bytes, length_in_bytes}
use Rattle.octets.proofs.Packed.bytes.Goals as goal

pub returns : goal.returns
returns c =
    let a : c.copy_from_slice.new.self ≡ in_bytes 8 c.args.self.now.first = c.copy_from_slice.ensures.after ∙ (c.to_be_bytes.ensures ∙ sym (eight_bytes c.args.self.now.first)) in
    let b : c.copy_from_slice-2.new.self ≡ in_bytes 8 c.args.self.now.second = c.copy_from_slice-2.ensures.after ∙ (c.to_be_bytes-2.ensures ∙ sym (eight_bytes c.args.self.now.second)) in
    grind (arith, common_steps, a, b, length_in_bytes)
