-- Where a byte stands.
use Rattle.std.specs.Prelude.{◌≡◌, ℕ, ◌<◌, List, length, Some, None, Option, position, ◌==◌, Contains, slice_index}

-- the place of the first byte b, or none where there is none
abbrev pub place_of : ℕ → List ℕ → Option ℕ
place_of b bs = position (λ c. c == b) bs

-- b stands at a place, and at none before it; at no place exactly where it does not stand in the bytes
abbrev pub FirstPlace : ℕ → List ℕ → Option ℕ → Type 0
FirstPlace b bs None = Contains bs b → ⊥
FirstPlace b bs (Some i) = (i < length bs) × (slice_index bs i ≡ b) × ((k : ℕ) → k < i → slice_index bs k ≡ b → ⊥)
