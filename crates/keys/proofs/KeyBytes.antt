-- A key's bytes, laid out part by part, and read back.
use Rattle.std.proofs.Common.{◌≡◌, ℕ, ◌-◌, ◌^◌, ◌<◌, Bool, true, false, not, eqb, List, ◌∷◌, ◌++◌, length, get_or, take, drop, set, replicate, sym, refl, ap, ◌∙◌, arith}
use Rattle.std.specs.Cmp.Lexicographic.{pointwise}
use Rattle.std.proofs.lemmas.Slice.Eq.{slice_eq-Decides}
use Rattle.std.proofs.lemmas.Bool.{and_right, both_ways, not_from_true, not-false}
use Rattle.order.specs.Lists.{same}
use Rattle.order.proofs.Lists.{same_true}
use Rattle.octets.proofs.Packing.{Small, small_take, small_drop, number_small, length_filled}
use Rattle.keys.specs.Keys.{Key, good_rule, key_in, key_bytes, good_key}
use borrow.Rule.Slice.PartMut.{put_mid}
use Rattle.std.proofs.lemmas.List.{append-nil, take_all, drop_more, length-take}
use Rattle.octets.specs.BigEndian.{number, in_bytes, filled}
use Rattle.std.proofs.lemmas.Bool.Decides.{Decides-eqb}

-- two numbers, a length and a filled prefix over zeros
pub assembled : (x y f r : List ℕ) (n s t : ℕ) → x ≡ in_bytes 4 s → y ≡ in_bytes 4 t → f ≡ filled 16 r → n ≡ length r →
    put_mid 9 16 (set (put_mid 4 4 (x ++ replicate 21 0) y) 8 n) f ≡ in_bytes 4 s ++ (in_bytes 4 t ++ (length r ∷ filled 16 r))
assembled x y f r n s t a b c d =
    (λ i. put_mid 9 16 (set (put_mid 4 4 (a i ++ replicate 21 0) (b i)) 8 (d i)) (c i)) ∙ (λ i. in_bytes 4 s ++ (in_bytes 4 t ++ (length r ∷ append-nil (filled 16 r) i)))

-- the number in 4 bytes of many
pub four_number : (bs : List ℕ) (from : ℕ) (part : List ℕ) → part ≡ take 4 (drop from bs) → number (take 8 part) ≡ number (take 4 (drop from bs))
four_number bs from part e = ap number (take_all 8 part (omega (arith, ap length e, length-take 4 (drop from bs))) ∙ e)

pub four_small : (bs : List ℕ) (from : ℕ) (part : List ℕ) → Small bs → part ≡ take 4 (drop from bs) → number (take 8 part) < 256 ^ 4
four_small bs from part u e =
    let n : number (take 8 part) ≡ number (take 4 (drop from bs)) = four_number bs from part e in
    let s : number (take 4 (drop from bs)) < 256 ^ 4 = number_small 4 (take 4 (drop from bs)) (omega (arith, length-take 4 (drop from bs))) (small_take 4 (drop from bs) (small_drop from bs u)) in
    omega arith

-- the rule's bytes, by the length byte
pub rule_part : (bs : List ℕ) → length bs ≡ 25 → take (get_or bs 8 0) (drop 9 bs) ≡ (key_in bs).rule
rule_part bs l =
    let d : drop 8 bs ≡ get_or bs 8 0 ∷ drop 9 bs = drop_more bs 8 0 (omega arith) in
    let n : number (take 1 (drop 8 bs)) ≡ get_or bs 8 0 = ap (λ (m : List ℕ). number (take 1 m)) d ∙ omega arith in
    ap (λ (k : ℕ). take k (drop 9 bs)) (sym n)

pub form_bad : (bs : List ℕ) → (bs ≡ key_bytes (key_in bs) → ⊥) → good_key bs ≡ false
form_bad bs n = and_right (eqb (length bs) 25) _ (and_right (good_rule (key_in bs).rule) _ (go (same (key_bytes (key_in bs)) bs) refl))
  where
    go : (b : Bool) → same (key_bytes (key_in bs)) bs ≡ b → b ≡ false
    go true e = absurd (n (sym (same_true _ _ e)))
    go false e = refl

-- what `!=` says of bytes
pub unequal : (bs cs : List ℕ) (r : Bool) → r ≡ not (pointwise eqb bs cs) → (r ≡ true → bs ≡ cs → ⊥) × (r ≡ false → bs ≡ cs)
unequal bs cs r e =
    let d = slice_eq-Decides Decides-eqb bs cs _ refl in (
      (λ t q. both_ways r (e ∙ not_from_true _ (d.1 q)) t),
      λ f. d.0 (not-false _ (sym e ∙ f)),
    )

-- a key's bytes are 25
pub key_bytes_long : (k : Key) (back : List ℕ) → back ≡ key_bytes k → take (25 - 0) back ≡ key_bytes k
key_bytes_long k back e = take_all 25 back (omega (arith, ap length e, length_filled 16 k.rule)) ∙ e
