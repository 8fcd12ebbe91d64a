-- The tags of a path by their bytes: what they are, and that they are good.
use Rattle.std.proofs.Common.{◌≡◌, ℕ, zero, suc, ◌-◌, ◌*◌, ◌^◌, ◌<◌, ◌≤◌, Bool, true, cond, List, length, get_or, take, drop, sym, refl, ap, ◌∙◌, arith}
use Rattle.std.proofs.lemmas.List.{take-take, length-take}
use Rattle.std.proofs.lemmas.Bool.{ne_eqb, le-leb}
use Rattle.octets.specs.BigEndian.{number}
use Rattle.octets.proofs.Packing.{number_small, small_take, small_drop}
use Rattle.revision.specs.Ids.{good_tag}
use Rattle.tables.specs.Tags.{tag_at}

pub tag_bytes : (bs : List ℕ) (g r : ℕ) → (g ≡ 0 → ⊥) → r ≡ number (take 8 (take (8 * g - (8 * g - 8)) (drop (8 * g - 8) bs))) → r ≡ tag_at bs g
unfolding tag_at
tag_bytes bs g r n e =
    let h : 8 * g - (8 * g - 8) ≡ 8 = omega arith in
    let f : 8 * g - 8 ≡ 8 * (g - 1) = omega arith in
    let l : 8 ≤ 8 = omega arith in
    e ∙ (ap (λ (k : ℕ). number (take 8 (take k (drop (8 * g - 8) bs)))) h ∙ (ap number (take-take 8 8 (drop (8 * g - 8) bs) l)
    ∙ (ap (λ (k : ℕ). number (take 8 (drop k bs))) f ∙ sym (ap (λ (b : Bool). cond b 0 (number (take 8 (drop (8 * (g - 1)) bs)))) (ne_eqb g 0 n)))))

pub tag_more : (bs : List ℕ) (i : ℕ) → tag_at bs (suc i) ≡ number (take 8 (drop (8 * i) bs))
unfolding tag_at
tag_more bs i =
    let e : suc i - 1 ≡ i = omega arith in
    ap (λ (b : Bool). cond b 0 (number (take 8 (drop (8 * (suc i - 1)) bs)))) (ne_eqb (suc i) 0 (λ q. omega arith)) ∙ ap (λ (n : ℕ). number (take 8 (drop (8 * n) bs))) e

pub tag_none : (bs : List ℕ) → tag_at bs 0 ≡ 0
unfolding tag_at
tag_none bs = refl

pub tag_good : (bs : List ℕ) → ((i : ℕ) → get_or bs i 0 < 256) → (g : ℕ) → good_tag (tag_at bs g) ≡ true
tag_good bs s zero = ap good_tag (tag_none bs)
tag_good bs s (suc i) =
    let l : length (take 8 (drop (8 * i) bs)) ≤ 8 = omega (arith, length-take 8 (drop (8 * i) bs)) in
    let h : number (take 8 (drop (8 * i) bs)) < 256 ^ 8 = number_small 8 (take 8 (drop (8 * i) bs)) l (small_take 8 (drop (8 * i) bs) (small_drop (8 * i) bs s)) in
    ap good_tag (tag_more bs i) ∙ le-leb (number (take 8 (drop (8 * i) bs))) 0xffffffffffffffff (omega arith)
