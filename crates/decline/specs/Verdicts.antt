-- Tests in their order, and the number of the first that fails.
use Rattle.std.specs.Prelude.{ℕ, Bool, cond, List, [], ◌∷◌, Some, None, Option}

-- the number of the first test that fails
abbrev pub first_failed : List (Bool × ℕ) → Option ℕ
first_failed [] = None
first_failed (t ∷ ts) = cond t.0 (first_failed ts) (Some t.1)
