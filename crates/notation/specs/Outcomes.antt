-- What reading and writing the text of a revision answer.
use Rattle.std.specs.Prelude.{◌≡◌, ℕ, ◌<◌, ◌≤◌, true, false, ◌⊎◌, List, ◌++◌, length, take, drop, Some, None, Ok, Err, Result}
use Rattle.decline.specs.declared.Fault.{Fault}
use Rattle.decline.specs.Faults.{bare}
use Rattle.revision.specs.declared.Revision.{Revision}
use Rattle.notation.specs.Text.{parse, written}
use Rattle.revision.specs.Ids.{good_generation}

-- a text is read as it parses, and declined as no revision where it does not
abbrev pub Reads : List ℕ → Result Revision Fault → Type 0
Reads cs (Ok p) = parse cs ≡ Some (p.generation, p.tag)
Reads cs (Err e) = (parse cs ≡ None) × (e ≡ bare 12)

-- the text of a generation and a tag stands in front of what the memory held, n bytes of it, and reads back
pub record Wrote (g x : ℕ) (old new : List ℕ) (n : ℕ) : Type 0 where
  pub admitted : good_generation g ≡ true
  pub room : 20 ≤ length old
  pub many : n ≡ length (written g x)
  pub laid : new ≡ written g x ++ drop n old
  pub back : parse (take n new) ≡ Some (g, x)

-- a generation outside 1 to 200 is declined, then a memory of fewer than 20 bytes
abbrev pub Refused : ℕ → List ℕ → Fault → Type 0
Refused g old e = ((good_generation g ≡ false) × (e ≡ bare 12)) ⊎ ((good_generation g ≡ true) × (length old < 20) × (e ≡ bare 18))

-- the text is written, or declined and the memory untouched
abbrev pub Writes : ℕ → ℕ → List ℕ → List ℕ → Result ℕ Fault → Type 0
Writes g x old new (Ok n) = Wrote g x old new n
Writes g x old new (Err e) = Refused g old e × (new ≡ old)
