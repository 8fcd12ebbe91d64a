-- Looking along a list: what the place found says.
use Rattle.std.proofs.Common.{◌≡◌, ℕ, suc, ◌+◌, ◌<◌, Bool, true, false, cond, List, [], ◌∷◌, length, get_or, Some, None, sym, refl, ap, ◌∙◌, arith}
use Rattle.std.proofs.lemmas.Bool.{true≢false, false_from_ne_true}
use Rattle.entries.specs.Searches.{first, place}

pub not_both : (b : Bool) → b ≡ true → b ≡ false → ⊥
not_both b p q = true≢false (sym p ∙ q)

pub false_if : (b : Bool) → (b ≡ true → ⊥) → b ≡ false
false_if b h = false_from_ne_true b h

-- what stands at the place that was found
pub record Found {X : Type 0} (p : X → Bool) (xs : List X) (d : X) (j : ℕ) : Type 0 where
  pub within : j < length xs
  pub passes : p (get_or xs j d) ≡ true
  pub value : first p xs ≡ Some (get_or xs j d)

module _ {X : Type 0} (p : X → Bool) (d : X) where
  found_from : (xs : List X) (k i : ℕ) → place p k xs ≡ Some i → (j : ℕ) × (i ≡ k + j) × Found p xs d j
  found_from [] k i e = let z : ◌≡◌ {A = ℕ} 0 1 = cc in absurd (omega arith)
  found_from (x ∷ xs) k i e = elim (p x) as (λ b. p x ≡ b → cond b (Some k) (place p (k + 1) xs) ≡ Some i → (j : ℕ) × (i ≡ k + j) × Found p (x ∷ xs) d j) [
    | true ↦ λ q f. (0, (let g : k ≡ i = cc in omega arith), record { within = omega arith; passes = q; value = ap (λ b. cond b (Some x) (first p xs)) q })
    | false ↦ λ q f. let r = found_from xs (k + 1) i f in
        (suc r.0, omega (arith, r.1), record { within = omega (arith, r.2.within); passes = r.2.passes; value = ap (λ b. cond b (Some x) (first p xs)) q ∙ r.2.value })
  ]
      refl e

  pub found : (xs : List X) (i : ℕ) → place p 0 xs ≡ Some i → Found p xs d i
  found xs i e =
      let r = found_from xs 0 i e in
      let j : r.0 ≡ i = omega (arith, r.1) in
      record { within = omega (arith, r.2.within); passes = ap (λ n. p (get_or xs n d)) (sym j) ∙ r.2.passes; value = r.2.value ∙ ap (λ n. Some (get_or xs n d)) j }

module _ {X : Type 0} (p : X → Bool) where
  none_from : (xs : List X) (k : ℕ) → place p k xs ≡ None → first p xs ≡ None
  none_from [] k e = refl
  none_from (x ∷ xs) k e = elim (p x) as (λ b. cond b (Some k) (place p (k + 1) xs) ≡ None → cond b (Some x) (first p xs) ≡ None)
      [ true ↦ λ f. let z : ◌≡◌ {A = ℕ} 0 1 = cc in absurd (omega arith) | false ↦ λ f. none_from xs (k + 1) f ] e

  pub not_found : (xs : List X) → place p 0 xs ≡ None → first p xs ≡ None
  not_found xs e = none_from xs 0 e
