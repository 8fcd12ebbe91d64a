-- The text of a revision: its generation in decimal, a dash, and its tag in hexadecimal.
use Rattle.std.specs.Prelude.{ℕ, zero, suc, ◌+◌, Bool, true, cond, ◌&&◌, List, [], ◌∷◌, ◌++◌, map, length, take, drop, Some, None, Option, ◌==◌, nat_le, nat_lt}
use Rattle.std.specs.Str.Parse.{digits_value}
use Rattle.std.specs.Char.{digit_value, digit_char}
use Rattle.octets.specs.BigEndian.{in_base}
use Rattle.octets.specs.Places.{place_of}
use Rattle.revision.specs.Ids.{good_generation}

-- the byte between a generation and a tag
abbrev pub dash : ℕ
dash = 45

-- each byte is a digit of a base, in either case
abbrev pub all_digits : ℕ → List ℕ → Bool
all_digits base [] = true
all_digits base (c ∷ cs) = nat_lt (digit_value c) base && all_digits base cs

-- the number that 1 to so many digits of a base write
unfoldable pub numeral : ℕ → ℕ → List ℕ → Option ℕ
numeral base most cs = cond (nat_lt 0 (length cs) && (nat_le (length cs) most && all_digits base cs)) (Some (digits_value base cs)) None

-- a revision of a generation and a tag, where both are read and the generation is 1 to 200
abbrev pub revision : Option ℕ → Option ℕ → Option (ℕ × ℕ)
revision None t = None
revision (Some g) None = None
revision (Some g) (Some x) = cond (good_generation g) (Some (g, x)) None

-- a numeral on each side of the first dash, whose place is given; without a dash there is none
abbrev pub parted : Option ℕ → List ℕ → Option (ℕ × ℕ)
parted None cs = None
parted (Some i) cs = revision (numeral 10 3 (take i cs)) (numeral 16 16 (drop (i + 1) cs))

-- the generation and the tag that a text writes: a numeral on each side of the first dash
unfoldable pub parse : List ℕ → Option (ℕ × ℕ)
parse cs = parted (place_of dash cs) cs

-- a text without its leading zeros (byte 48), of which at most so many go
abbrev pub stripped : ℕ → List ℕ → List ℕ
stripped zero cs = cs
stripped (suc k) [] = []
stripped (suc k) (c ∷ cs) = cond (c == 48) (stripped k cs) (c ∷ cs)

-- a number in so many digits of a base, in lower case
abbrev pub digits_in : ℕ → ℕ → ℕ → List ℕ
digits_in base k n = map digit_char (in_base base k n)

-- the text of a generation and a tag: one decimal digit or more, a dash, and two hexadecimal digits or more
unfoldable pub written : ℕ → ℕ → List ℕ
written g x = stripped 2 (digits_in 10 3 g) ++ dash ∷ stripped 14 (digits_in 16 16 x)
