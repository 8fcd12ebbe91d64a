-- At most 16 bytes as two numbers and a length.
use Rattle.std.specs.Prelude.{◌≡◌, ℕ, ◌≤◌, List, ◌++◌, length, take, drop}
use Rattle.octets.specs.declared.Packed.{Packed}
use Rattle.octets.specs.BigEndian.{number, in_bytes, filled}

-- the bytes of both numbers
abbrev pub sixteen : Packed → List ℕ
sixteen p = in_bytes 8 p.first ++ in_bytes 8 p.second

-- the bytes that are meant: as many as the length says
abbrev pub unpacked : Packed → List ℕ
unpacked p = take p.length (sixteen p)

-- the numbers of at most 16 bytes, filled with zeros
abbrev pub packed : List ℕ → Packed
packed bs = record { first = number (take 8 (filled 16 bs)); second = number (drop 8 (filled 16 bs)); length = length bs }

-- at most 16 bytes are packed: as their numbers, whose bytes they are
pub record Packs (bs : List ℕ) (p : Packed) : Type 0 where
  pub few : length bs ≤ 16
  pub is : p ≡ packed bs
  pub same : sixteen p ≡ filled 16 bs
