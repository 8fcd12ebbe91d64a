-- Numbers as bytes, the highest first.
use Rattle.std.specs.Prelude.{ℕ, zero, suc, ◌+◌, ◌*◌, ◌/◌, ◌%◌, List, [], ◌∷◌, ◌++◌, take, drop, replicate}
use Rattle.std.specs.Int.Digits

-- the number that bytes write, the highest first
abbrev pub number : List ℕ → ℕ
number bs = Digits.number_from_digits 256 bs

-- a number in so many digits of a base, the highest first
abbrev pub in_base : ℕ → ℕ → ℕ → List ℕ
in_base b zero n = []
in_base b (suc k) n = in_base b k (n / b) ++ (n % b ∷ [])

-- a number in so many bytes
abbrev pub in_bytes : ℕ → ℕ → List ℕ
in_bytes k n = in_base 256 k n

-- so many numbers of 8 bytes each
abbrev pub eights : ℕ → List ℕ → List ℕ
eights zero bs = []
eights (suc k) bs = number (take 8 bs) ∷ eights k (drop 8 bs)

-- numbers in 8 bytes each
abbrev pub in_eights : List ℕ → List ℕ
in_eights [] = []
in_eights (x ∷ xs) = in_bytes 8 x ++ in_eights xs

-- bytes filled with zeros to so many
abbrev pub filled : ℕ → List ℕ → List ℕ
filled k bs = take k (bs ++ replicate k 0)

-- memory in which a number is laid in 8 bytes, as the one number i from the front, counted from 0
abbrev pub with_eight : List ℕ → ℕ → ℕ → List ℕ
with_eight out i n = take (8 * i) out ++ (in_bytes 8 n ++ drop (8 * i + 8) out)
