-- Numbers in 8 bytes each: how many there are, and one that is copied among them.
use Rattle.std.proofs.Common.{◌≡◌, ℕ, zero, suc, ◌+◌, ◌-◌, ◌*◌, List, [], ◌∷◌, length, drop, sym, refl, ap, ◌∙◌, arith, length-append}
use borrow.Rule.Slice.PartMut.{put_mid}
use Rattle.std.proofs.lemmas.List.Edits.{paste_all}
use Rattle.std.proofs.lemmas.Slice.{put_mid-paste}
use Rattle.octets.specs.BigEndian.{in_bytes, eights, in_eights, with_eight}
use Rattle.octets.proofs.Widths.{length_in_bytes}

pub length_eights : (k : ℕ) (bs : List ℕ) → length (eights k bs) ≡ k
length_eights zero bs = refl
length_eights (suc k) bs = ap suc (length_eights k (drop 8 bs))

pub length_in_eights : (ts : List ℕ) → length (in_eights ts) ≡ 8 * length ts
length_in_eights [] = refl
length_in_eights (x ∷ xs) = length-append (in_bytes 8 x) (in_eights xs) ∙ omega (arith, length_in_bytes 8 x, length_in_eights xs)

-- a number that was copied into its place
pub eight_copied : (out new bytes : List ℕ) (i n : ℕ) → new ≡ bytes → bytes ≡ in_bytes 8 n → put_mid (8 * i) ((8 * i + 8) - 8 * i) out new ≡ with_eight out i n
eight_copied out new bytes i n e b =
    let k : 8 ≡ (8 * i + 8) - 8 * i = omega arith in
    let w : 8 ≡ length (in_bytes 8 n) = sym (length_in_bytes 8 n) in
    put_mid-paste (8 * i) ((8 * i + 8) - 8 * i) out new (in_bytes 8 n) 8 (e ∙ b) k w ∙ paste_all out (8 * i) (in_bytes 8 n) 8 w
