-- Different numbers below n are at most n.
use Rattle.std.proofs.Common.{◌≡◌, ℕ, zero, suc, ◌<◌, ◌≤◌, Bool, true, false, cond, eqb, List, [], ◌∷◌, length, sym, refl, ap, ◌∙◌, subst, inl, inr, arith}
use Rattle.std.proofs.lemmas.Bool.{eqb-true, eqb-false}
use Rattle.order.specs.Lists.{Mem}

-- no number stands twice
abbrev pub Distinct : List ℕ → Type 0
Distinct [] = Unit
Distinct (x ∷ xs) = (Mem x xs → ⊥) × Distinct xs

abbrev without : ℕ → List ℕ → List ℕ
without a [] = []
without a (x ∷ xs) = cond (eqb x a) (without a xs) (x ∷ without a xs)

mem_without : (a y : ℕ) (xs : List ℕ) → Mem y (without a xs) → Mem y xs × (y ≡ a → ⊥)
mem_without a y [] m = absurd m
mem_without a y (x ∷ xs) m = go (eqb x a) refl m (λ n. mem_without a y xs n)
  where
    go : (b : Bool) → eqb x a ≡ b → Mem y (cond b (without a xs) (x ∷ without a xs)) → (Mem y (without a xs) → Mem y xs × (y ≡ a → ⊥)) → Mem y (x ∷ xs) × (y ≡ a → ⊥)
    go true e m r = let q = r m in (inr q.0, q.1)
    go false e (inl q) r = (inl q, λ s. eqb-false x a e (sym q ∙ s))
    go false e (inr n) r = let q = r n in (inr q.0, q.1)

distinct_without : (a : ℕ) (xs : List ℕ) → Distinct xs → Distinct (without a xs)
distinct_without a [] d = tt
distinct_without a (x ∷ xs) d = go (eqb x a) (distinct_without a xs d.1)
  where
    go : (b : Bool) → Distinct (without a xs) → Distinct (cond b (without a xs) (x ∷ without a xs))
    go true r = r
    go false r = ((λ m. d.0 (mem_without a x xs m).0), r)

not_there : (a : ℕ) (xs : List ℕ) → (Mem a xs → ⊥) → length (without a xs) ≡ length xs
not_there a [] f = refl
not_there a (x ∷ xs) f = go (eqb x a) refl (not_there a xs (λ m. f (inr m)))
  where
    go : (b : Bool) → eqb x a ≡ b → length (without a xs) ≡ length xs → length (cond b (without a xs) (x ∷ without a xs)) ≡ suc (length xs)
    go true e r = absurd (f (inl (sym (eqb-true x a e))))
    go false e r = ap suc r

one_less : (a : ℕ) (xs : List ℕ) → Distinct xs → length xs ≤ suc (length (without a xs))
one_less a [] d = omega arith
one_less a (x ∷ xs) d = go (eqb x a) refl (one_less a xs d.1)
  where
    go : (b : Bool) → eqb x a ≡ b → length xs ≤ suc (length (without a xs)) → suc (length xs) ≤ suc (length (cond b (without a xs) (x ∷ without a xs)))
    go true e r = let q = not_there a xs (λ m. d.0 (subst (λ (y : ℕ). Mem y xs) (sym (eqb-true x a e)) m)) in omega arith
    go false e r = omega arith

pub few : (n : ℕ) (xs : List ℕ) → Distinct xs → ((y : ℕ) → Mem y xs → y < n) → length xs ≤ n
few n [] d b = omega arith
few zero (x ∷ xs) d b = absurd (let h = b x (inl refl) in omega arith)
few (suc n) (x ∷ xs) d b =
    let r = few n (without n (x ∷ xs)) (distinct_without n (x ∷ xs) d) (λ y m. let q = mem_without n y (x ∷ xs) m in let l = b y q.0 in below y n l q.1) in
    let s = one_less n (x ∷ xs) d in omega arith
  where
    below : (y n : ℕ) → y < suc n → (y ≡ n → ⊥) → y < n
    below y n l f = omega arith
