use Rattle.std.proofs.Common.{◌≡◌, ℕ, ◌≤◌, min, List, ◌++◌, length, take, drop, replicate, sym, ap, ◌∙◌, arith}
use Rattle.octets.proofs.Packing.{filled_over, length_unpacked}
use Rattle.octets.proofs.Widths.{four_bytes}
use Rattle.keys.specs.Values.{prefix_of}
use Rattle.keys.proofs.KeyBytes.{assembled}
use Rattle.keys.proofs.Key.bytes.Goals as goal

pub returns : goal.returns
returns c =
    let r = prefix_of c.args.self.rule in
    let n : length r ≡ min c.args.self.rule.prefix.length 16 = length_unpacked c.args.self.rule.prefix in
    let l : length r ≤ 16 = omega arith in
    let cut : c.cut-prefix.result.now ≡ r = c.cut-prefix.ensures ∙ ap (take c.args.self.rule.prefix.length) c.bytes-all.ensures in
    assembled _ _ _ r _ c.args.self.source c.args.self.target
    (c.copy_from_slice-2.ensures.after ∙ (c.to_be_bytes.ensures ∙ sym (four_bytes c.args.self.source)))
    (c.copy_from_slice-3.ensures.after ∙ (c.to_be_bytes-2.ensures ∙ sym (four_bytes c.args.self.target)))
    (c.copy_from_slice-4.ensures.after ∙ (ap (λ (l : List ℕ). l ++ drop (length c.cut-prefix.result.now) (replicate 16 0)) (c.copy_from_slice.ensures.after ∙ cut) ∙
    (ap (λ (m : ℕ). r ++ drop m (replicate 16 0)) (ap length cut) ∙ filled_over 16 r l)))
    (ap length cut)
