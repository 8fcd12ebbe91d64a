-- The tags of a path by their bytes.
use Rattle.std.specs.Prelude.{ℕ, ◌-◌, ◌*◌, cond, List, take, drop, ◌==◌}
use Rattle.octets.specs.BigEndian.{number}

-- the tag of generation g of a path, whose bytes have generation 1 first; 0 at generation 0
unfoldable pub tag_at : List ℕ → ℕ → ℕ
tag_at bs g = cond (g == 0) 0 (number (take 8 (drop (8 * (g - 1)) bs)))
