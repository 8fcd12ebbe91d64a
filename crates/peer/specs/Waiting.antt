-- Lists of writes that wait: what they make of a value, in order, and what stands when a first part of them has moved.
use Rattle.std.specs.Prelude.{◌≡◌, ◌⊎◌, List, [], ◌∷◌, ◌++◌}

-- what a list of writes makes of a value
abbrev pub after : {W D : Type 0} → (W → D → D) → D → List W → D
after f x [] = x
after f x (w ∷ ws) = after f (f w x) ws

-- the values on the way there, the first and the last too: what a first part of the list makes
abbrev pub Stage : {W D : Type 0} → (W → D → D) → D → List W → D → Type 0
Stage f x [] z = z ≡ x
Stage f x (w ∷ ws) z = (z ≡ x) ⊎ Stage f (f w x) ws z

-- a first part of a list has moved into the value
pub record Shift {W D : Type 0} (f : W → D → D) (x : D) (ws : List W) (y : D) (vs : List W) : Type 0 where
  pub part : List W
  pub whole : ws ≡ part ++ vs
  pub reach : y ≡ after f x part
