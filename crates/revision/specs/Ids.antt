-- Document ids, generations and tags.
use Rattle.std.specs.Prelude.{◌≡◌, ℕ, Bool, true, ◌&&◌, List, length, nat_le}
use Rattle.octets.specs.declared.Packed.{Packed}
use Rattle.octets.specs.Packed.{unpacked, Packs}
use Rattle.order.specs.Lists.{every}

-- a document's id
abbrev pub Id : Type 0
Id = List ℕ

-- a byte that may stand in an id
abbrev pub id_byte : ℕ → Bool
id_byte b = nat_le 0x21 b && nat_le b 0x7e

-- an id has 1 to 16 such bytes
abbrev pub good_id : Id → Bool
good_id d = nat_le 1 (length d) && (nat_le (length d) 16 && every id_byte d)

-- a generation is 1 to 200
abbrev pub good_generation : ℕ → Bool
good_generation g = nat_le 1 g && nat_le g 200

-- a tag has 64 bits
abbrev pub good_tag : ℕ → Bool
good_tag x = nat_le x 0xffffffffffffffff

-- plain numbers that are an id's: its bytes, filled with zeros, and their count
pub record IsId (p : Packed) : Type 0 where
  pub good : good_id (unpacked p) ≡ true
  pub packs : Packs (unpacked p) p
