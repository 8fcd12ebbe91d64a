-- A part of a list, behind a write.
use Rattle.std.proofs.Common.{◌≡◌, ℕ, ◌+◌, ◌<◌, List, length, take, drop, set, arith}
use Rattle.std.proofs.Math.Seq.{take-set-lt}
use Rattle.std.proofs.lemmas.List.{drop-set-add, length-take}

-- element m of a list is element n of the part from f on, and is set there
pub part_set : {X : Type 0} (f c n m : ℕ) (xs : List X) (v : X) → m ≡ f + n → n < length (take c (drop f xs)) → take c (drop f (set xs m v)) ≡ set (take c (drop f xs)) n v
part_set f c n m xs v at inside = rw at (rw (drop-set-add f xs n v) (take-set-lt c (drop f xs) n v (omega (arith, inside, length-take c (drop f xs)))))
