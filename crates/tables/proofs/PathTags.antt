-- The tags of a path by their bytes.
use Rattle.std.proofs.Common.{◌≡◌, ℕ, zero, suc, ◌+◌, ◌*◌, ◌<◌, ◌≤◌, List, length, get_or, take, drop, sym, refl, ap, ◌∙◌, arith}
use Rattle.std.proofs.lemmas.List.{drop-drop}
use Rattle.octets.specs.BigEndian.{number, eights}
use Rattle.octets.proofs.Eights.{length_eights}
use Rattle.revision.specs.Paths.{Path}
use Rattle.tables.specs.Tags.{tag_at}
use Rattle.tables.proofs.TagBytes.{tag_more, tag_none}
use Rattle.tables.proofs.PathRule.{Tags}

eights_at : (k : ℕ) (bs : List ℕ) (i : ℕ) → i < k → number (take 8 (drop (8 * i) bs)) ≡ get_or (eights k bs) i 0
eights_at zero bs i l = absurd (omega arith)
eights_at (suc k) bs zero l = refl
eights_at (suc k) bs (suc i) l =
    let e : 8 * suc i ≡ 8 + 8 * i = omega arith in
    ap (λ (n : ℕ). number (take 8 (drop n bs))) e ∙ (ap (λ (x : List ℕ). number (take 8 x)) (sym (drop-drop (8 * i) 8 bs)) ∙ eights_at k (drop 8 bs) i (omega arith))

pub path_tags : (w : Path) (bs : List ℕ) (n : ℕ) → w.tags ≡ eights n bs → 1 ≤ n → Tags w (tag_at bs) n
path_tags w bs n e l = record {
  long = ap length e ∙ length_eights n bs;
  some = l;
  none = tag_none bs;
  each = λ i h. tag_more bs i ∙ (eights_at n bs i h ∙ ap (λ (x : List ℕ). get_or x i 0) (sym e));
}
