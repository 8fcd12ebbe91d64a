-- Prefixes, and the ids that begin with them.
use Rattle.std.proofs.Common.{◌≡◌, ℕ, ◌≤◌, Bool, true, eqb, leb, List, [], ◌∷◌, ◌++◌, length, take, drop, sym, refl, ap, ◌∙◌}
use Rattle.std.specs.Cmp.Lexicographic.{pointwise}
use Rattle.std.proofs.lemmas.Bool.{and_from, and_parts, le-leb, eq-eqb, eqb-true, false≢true}
use Rattle.std.proofs.lemmas.Bool.Decides.{same_from_decides, Decides-eqb}
use Rattle.std.proofs.lemmas.Slice.Eq.{starts_is}
use Rattle.order.specs.Lists.{every}
use Rattle.revision.specs.Ids.{id_byte}
use Rattle.keys.specs.Keys.{good_rule, passes}

pub good_rule_from : (bs : List ℕ) → length bs ≤ 16 → true ≡ every id_byte bs → good_rule bs ≡ true
good_rule_from bs m e = and_from (leb (length bs) 16) _ (le-leb (length bs) 16 m) (sym e)

-- a rule passes the ids that begin with its prefix
pub passes_begins : (p d : List ℕ) → passes p d ≡ true → (rest : List ℕ) × (d ≡ p ++ rest)
passes_begins [] d e = (d, refl)
passes_begins (x ∷ xs) [] e = absurd (false≢true e)
passes_begins (x ∷ xs) (y ∷ ys) e =
    let h = and_parts (eqb x y) (passes xs ys) e in
    let r = passes_begins xs ys h.1 in
    let i : x ≡ y = eqb-true x y h.0 in
    let j : ys ≡ xs ++ r.0 = r.1 in
    (r.0, λ k. sym i k ∷ j k)

pub begins_passes : (p rest : List ℕ) → passes p (p ++ rest) ≡ true
begins_passes [] rest = refl
begins_passes (x ∷ xs) rest = and_from (eqb x x) _ (eq-eqb x x refl) (begins_passes xs rest)

-- so does `starts_with`
pub starts_passes : (p q d : List ℕ) (r : Bool) → q ≡ p → r ≡ pointwise eqb q (take (length q) d) → r ≡ passes p d
starts_passes p q d r e m =
    let s = starts_is Decides-eqb d q r m in
    same_from_decides {P = (rest : List ℕ) × (d ≡ p ++ rest)} r (passes p d)
    ((λ t. (drop (length q) d, s.0 t ∙ ap (λ (l : List ℕ). l ++ drop (length q) d) e)), λ w. s.1 w.0 (w.1 ∙ ap (λ (l : List ℕ). l ++ w.0) (sym e)))
    (passes_begins p d, λ w. ap (passes p) w.1 ∙ begins_passes p w.0)
