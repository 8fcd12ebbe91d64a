-- Which texts are numerals, and what stands at the first dash.
use Rattle.std.proofs.Common.{◌≡◌, ℕ, ◌+◌, ◌*◌, ◌^◌, ◌<◌, ◌≤◌, Bool, true, false, ◌&&◌, ltb, leb, List, length, get_or, take, drop, Some, None, ap, ◌∙◌, arith}
use native.Mathlib.Nat.{pow-le-pow_right}
use Rattle.std.specs.Str.Parse.{digits_value, AllDigits}
use Rattle.std.specs.Char.{digit_value}
use Rattle.std.proofs.lemmas.Int.Digits.{digits_value-lt, digits_value_more, digits_more}
use Rattle.std.proofs.lemmas.List.{at_drop_more, length-take-le}
use Rattle.std.proofs.lemmas.Bool.{le-ltb, lt-ltb, lt-leb, le-leb, and_left, and_right, and_from, cond-true, cond-false}
use Rattle.notation.specs.Text.{all_digits, numeral}

-- an empty text is no numeral
pub numeral_empty : (base most : ℕ) (cs : List ℕ) → length cs ≡ 0 → numeral base most cs ≡ None
unfolding numeral
numeral_empty base most cs e = cond-false _ (Some (digits_value base cs)) None (and_left _ (leb (length cs) most && all_digits base cs) (le-ltb 0 (length cs) (omega arith)))

-- nor is one of too many bytes
pub numeral_long : (base most : ℕ) (cs : List ℕ) → most < length cs → numeral base most cs ≡ None
unfolding numeral
numeral_long base most cs h = cond-false _ (Some (digits_value base cs)) None (and_right (ltb 0 (length cs)) _ (and_left _ (all_digits base cs) (lt-leb (length cs) most h)))

-- nor one with a byte that is no digit
pub numeral_other : (base most : ℕ) (cs : List ℕ) → all_digits base cs ≡ false → numeral base most cs ≡ None
unfolding numeral
numeral_other base most cs e = cond-false _ (Some (digits_value base cs)) None (and_right (ltb 0 (length cs)) _ (and_right (leb (length cs) most) _ e))

-- any other text is one, and writes its value
pub numeral_value : (base most : ℕ) (cs : List ℕ) → 0 < length cs → length cs ≤ most → all_digits base cs ≡ true → numeral base most cs ≡ Some (digits_value base cs)
unfolding numeral
numeral_value base most cs z h e = cond-true _ (Some (digits_value base cs)) None (and_from _ _ (lt-ltb 0 (length cs) z) (and_from _ _ (le-leb (length cs) most h) e))

module _ (base : ℕ) (cs : List ℕ) (i : ℕ) (h : i < length cs) where
  -- a digit leaves the question to the rest
  pub digit_here : digit_value (get_or cs i 0) < base → all_digits base (drop i cs) ≡ all_digits base (drop (i + 1) cs)
  digit_here d =
      let e : all_digits base (drop i cs) ≡ (ltb (digit_value (get_or cs i 0)) base && all_digits base (drop (i + 1) cs)) = at_drop_more (all_digits base) cs i 0 h in
      e ∙ ap (λ (b : Bool). b && all_digits base (drop (i + 1) cs)) (lt-ltb _ _ d)

  -- a byte that is no digit settles it
  pub other_here : (digit_value (get_or cs i 0) < base → ⊥) → all_digits base (drop i cs) ≡ false
  other_here d =
      let e : all_digits base (drop i cs) ≡ (ltb (digit_value (get_or cs i 0)) base && all_digits base (drop (i + 1) cs)) = at_drop_more (all_digits base) cs i 0 h in
      e ∙ ap (λ (b : Bool). b && all_digits base (drop (i + 1) cs)) (le-ltb _ _ (omega arith))

  module _ (n d : ℕ) (e : n ≡ digits_value base (take i cs)) (f : d ≡ digit_value (get_or cs i 0)) where
    -- one digit more
    pub value_next : n * base + d ≡ digits_value base (take (i + 1) cs)
    value_next = let p : n * base ≡ digits_value base (take i cs) * base = ap (λ (m : ℕ). m * base) e in omega (arith, digits_value_more base cs i h)

    -- it still fits
    pub fits_next : (most : ℕ) → length cs ≤ most → base ^ most ≤ 2 ^ 64 → AllDigits base (take i cs) → digit_value (get_or cs i 0) < base → n * base + d < 2 ^ 64
    fits_next most l r s u =
        let t = digits_value-lt base (take (i + 1) cs) (digits_more base cs i h s u) in
        let w : length (take (i + 1) cs) ≡ i + 1 = length-take-le (i + 1) cs (omega arith) in
        let v : base ^ length (take (i + 1) cs) ≤ base ^ most = pow-le-pow_right (omega arith) {i = length (take (i + 1) cs)} {j = most} (omega arith) in
        omega (arith, value_next)
