-- Tags written in 8 bytes each read back.
use Rattle.std.proofs.Common.{◌≡◌, ℕ, ◌^◌, ◌<◌, ◌≤◌, true, List, [], ◌∷◌, length, arith}
use Rattle.std.proofs.lemmas.Bool.{and_parts, leb-true}
use Rattle.std.specs.List.{AllByRecursion as All}
use Rattle.octets.specs.BigEndian.{eights, in_eights}
use Rattle.octets.proofs.Widths.{eights_in_eights}
use Rattle.order.specs.Lists.{every}
use Rattle.revision.specs.Ids.{good_tag}

fit : (ts : List ℕ) → every good_tag ts ≡ true → All (λ x. x < 256 ^ 8) ts
fit [] e = tt
fit (x ∷ xs) e =
    let h = and_parts (good_tag x) (every good_tag xs) e in
    let l : x ≤ 0xffffffffffffffff = leb-true x 0xffffffffffffffff h.0 in
    (omega arith, fit xs h.1)

pub tags_back : (ts : List ℕ) → every good_tag ts ≡ true → eights (length ts) (in_eights ts) ≡ ts
tags_back ts e = eights_in_eights ts (fit ts e)
