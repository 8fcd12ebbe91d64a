-- Looking along a list.
use Rattle.std.specs.Prelude.{◌≡◌, ℕ, ◌+◌, ◌<◌, Bool, true, cond, List, [], ◌∷◌, length, Option, find, slice_index_or}
use Rattle.std.specs.List.{position_from}

-- the first element that passes a test
abbrev pub first : {X : Type 0} → (X → Bool) → List X → Option X
first p xs = find p xs

-- the place of the first element that passes a test, counted from k
abbrev pub place : {X : Type 0} → (X → Bool) → ℕ → List X → Option ℕ
place p k xs = position_from p k xs

-- at most one element passes a test
abbrev pub Once : {X : Type 0} → (X → Bool) → List X → Type 0
Once {X} p xs = (i j : ℕ) (z : X) → i < length xs → j < length xs → p (slice_index_or xs i z) ≡ true → p (slice_index_or xs j z) ≡ true → i ≡ j

-- every element has a property
abbrev pub Every : {X : Type 0} → (X → Type 0) → List X → Type 0
Every {X} P xs = (i : ℕ) (z : X) → i < length xs → P (slice_index_or xs i z)

-- how many elements pass a test
abbrev pub count : {X : Type 0} → (X → Bool) → List X → ℕ
count p [] = 0
count p (x ∷ xs) = cond (p x) 1 0 + count p xs
