-- The lines of the input: fields parted by one space.
use Rattle.std.specs.Prelude.{◌≡◌, ℕ, ◌<◌, ◌≤◌, Bool, true, false, cond, ◌⊎◌, List, [], ◌∷◌, length, is_some, Some, None, Ok, Err, Option, Result, ◌==◌, nat_le, slice_index_or}
use Rattle.std.specs.List.{before_first, after_first}
use Rattle.decline.specs.declared.Fault.{Fault}
use Rattle.decline.specs.Faults.{bare}
use Rattle.decline.specs.Verdicts.{first_failed}
use Rattle.octets.specs.Packed.{unpacked}
use Rattle.revision.specs.declared.DocumentId.{DocumentId}
use Rattle.revision.specs.declared.Revision.{Revision}
use Rattle.revision.specs.declared.Mark.{Mark}
use Rattle.revision.specs.declared.Mark.TheVariants.{Live, Deleted}
use Rattle.revision.specs.Ids.{good_id}
use Rattle.notation.specs.Text.{parse}
use Rattle.prices.specs.declared.Price.{Price}

-- what stands before the first byte b, and what stands behind it
abbrev pub front : ℕ → List ℕ → List ℕ
front b cs = before_first (λ c. c == b) cs

abbrev pub behind : ℕ → List ℕ → List ℕ
behind b cs = after_first (λ c. c == b) cs

-- a mark is one digit, 0 or 1
abbrev pub mark_field : List ℕ → Option Mark
mark_field [] = None
mark_field (c ∷ []) = cond (c == 48) (Some Live) (cond (c == 49) (Some Deleted) None)
mark_field (c ∷ d ∷ ds) = None

-- anything else is declined 13
abbrev pub MarkField : List ℕ → Result Mark Fault → Type 0
MarkField cs (Ok m) = mark_field cs ≡ Some m
MarkField cs (Err e) = (mark_field cs ≡ None) × (e ≡ bare 13)

-- the fields of a line, parted by a space (32), and its body
abbrev pub id_field : List ℕ → List ℕ
id_field cs = front 32 cs

abbrev pub revision_field : List ℕ → List ℕ
revision_field cs = front 32 (behind 32 cs)

abbrev pub mark_part : List ℕ → List ℕ
mark_part cs = front 32 (behind 32 (behind 32 cs))

abbrev pub body_part : List ℕ → List ℕ
body_part cs = behind 32 (behind 32 (behind 32 cs))

-- a line is declined for the first part that is bad: 11 id, 12 revision, 13 mark, 14 body
abbrev pub line_tests : List ℕ → List (Bool × ℕ)
line_tests cs = (good_id (id_field cs), 11) ∷ (is_some (parse (revision_field cs)), 12) ∷ (is_some (mark_field (mark_part cs)), 13) ∷ (nat_le (length (body_part cs)) 96, 14) ∷ []

-- reading a line: its product, its head and its body
pub record ReadLine (cs : List ℕ) (p : Price) : Type 0 where
  pub product : unpacked p.product.bytes ≡ id_field cs
  pub revision : parse (revision_field cs) ≡ Some (p.head.revision.generation, p.head.revision.tag)
  pub mark : mark_field (mark_part cs) ≡ Some p.head.mark
  pub body : p.body.now ≡ body_part cs

abbrev pub LineRead : List ℕ → Result Price Fault → Type 0
LineRead cs (Ok p) = (first_failed (line_tests cs) ≡ None) × ReadLine cs p
LineRead cs (Err e) = (n : ℕ) × (first_failed (line_tests cs) ≡ Some n) × (e ≡ bare n)

-- a price for this revision of this product
abbrev pub IsFor : DocumentId → Revision → Price → Type 0
IsFor d r p = (p.product ≡ d) × (p.head.revision ≡ r)

-- the place of such a price, or none where there is none
abbrev pub Found : List Price → DocumentId → Revision → Option ℕ → Type 0
Found ps d r None = (k : ℕ) (p : Price) → k < length ps → IsFor d r (slice_index_or ps k p) → ⊥
Found ps d r (Some i) = (i < length ps) × ((p : Price) → IsFor d r (slice_index_or ps i p))

-- two prices with the same head and body
abbrev pub SaysSame : Price → Price → Type 0
SaysSame a b = (a.head ≡ b.head) × (a.body.now ≡ b.body.now)

-- a price against those that are kept: one for a revision that is known changes nothing if it says the same, and is declined 34 if it says something
-- else; a new one is declined 35 where 64 are kept
abbrev pub Judged : List Price → Price → Result Bool Fault → Type 0
Judged ps p (Ok b) = elim b [
  | true ↦ Found ps p.product p.head.revision None × (length ps < 64)
  | false ↦ (i : ℕ) × Found ps p.product p.head.revision (Some i) × ((q : Price) → SaysSame (slice_index_or ps i q) p)
]
Judged ps p (Err e) = (Found ps p.product p.head.revision None × (64 ≤ length ps) × (e ≡ bare 35)) ⊎
    ((i : ℕ) × Found ps p.product p.head.revision (Some i) × ((q : Price) → SaysSame (slice_index_or ps i q) p → ⊥) × (e ≡ bare 34))
