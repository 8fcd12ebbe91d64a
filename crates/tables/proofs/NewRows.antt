-- The entries that a path adds.
use Rattle.std.proofs.Common.{◌≡◌, ℕ, ◌+◌, ◌-◌, ◌<◌, Bool, true, false, cond, eqb, List, [], ◌∷◌, ◌++◌, Some, None, Option, sym, refl, ap, ◌∙◌, append_assoc, arith}
use Rattle.std.specs.Bool.{then_some}
use Rattle.std.proofs.lemmas.List.FromFn.{map-range_with_len_more}
use Rattle.entries.specs.declared.HeldRevision.{HeldRevision}
use Rattle.tables.specs.Paths.{row, rows}

abbrev entry : ℕ → ℕ → ℕ → ℕ → Option ℕ → HeldRevision
entry d g t p s = record { document = d; generation = g; tag = t; parent = p; slot = s }

chosen : (b : Bool) (s : ℕ) → then_some b s ≡ cond b (Some s) None
chosen true s = refl
chosen false s = refl

-- one entry more
pub added : (start was aft : List HeldRevision) (d : ℕ) (tag : ℕ → ℕ) (n s k g m t p : ℕ) (l : Option ℕ) → k < g → m ≡ g - k → t ≡ tag g → p ≡ tag (g - 1) → l ≡ then_some (eqb g n) s →
    was ≡ start ++ rows d tag n s k (g - 1 - k) → aft ≡ was ++ (entry d g t p l ∷ []) → aft ≡ start ++ rows d tag n s k m
added start was aft d tag n s k g m t p l h me et ep el ew ea =
    let one : (g - 1 - k) + 1 ≡ m = omega arith in
    let lone : l ≡ cond (eqb g n) (Some s) None = el ∙ chosen (eqb g n) s in
    let e : entry d g t p l ≡ row d tag n s g = λ i. entry d g (et i) (ep i) (lone i) in
    ea ∙ (ap (λ (x : List HeldRevision). x ++ (entry d g t p l ∷ [])) ew ∙ (append_assoc start (rows d tag n s k (g - 1 - k)) (entry d g t p l ∷ [])
    ∙ ap (λ (x : List HeldRevision). start ++ x) (ap (λ (x : HeldRevision). rows d tag n s k (g - 1 - k) ++ (x ∷ [])) e ∙ (sym (map-range_with_len_more (row d tag n s) (k + 1) (g - 1 - k) g (omega arith)) ∙ ap (rows d tag n s k) one))))
