-- Lists of numbers that are the same, and members by their places.
use Rattle.std.proofs.Common.{◌≡◌, ℕ, zero, suc, ◌<◌, ◌≤◌, true, eqb, ◌⊎◌, List, [], ◌∷◌, ◌++◌, length, get_or, Some, None, sym, refl, subst₂, inl, inr, arith}
use Rattle.std.proofs.lemmas.Bool.{and_parts, and_from, eqb-true, eq-eqb, false≢true}
use Rattle.order.specs.Lists.{Mem, nth, same, final}
use Rattle.order.specs.Order.{NoneGreater}

pub same_true : (a b : List ℕ) → same a b ≡ true → a ≡ b
same_true [] [] e = refl
same_true [] (y ∷ ys) e = absurd (false≢true e)
same_true (x ∷ xs) [] e = absurd (false≢true e)
same_true (x ∷ xs) (y ∷ ys) e =
    let h : (eqb x y ≡ true) × (same xs ys ≡ true) = and_parts (eqb x y) (same xs ys) e in
    let i : xs ≡ ys = same_true xs ys h.1 in
    let j : x ≡ y = eqb-true x y h.0 in cc

pub same_self : (a : List ℕ) → same a a ≡ true
same_self [] = refl
same_self (x ∷ xs) = and_from (eqb x x) (same xs xs) (eq-eqb x x refl) (same_self xs)

-- members by their places
pub mem_get_d : {A : Type 0} (xs : List A) (i : ℕ) (d : A) → i < length xs → Mem (get_or xs i d) xs
mem_get_d [] i d h = absurd (omega arith)
mem_get_d (x ∷ xs) zero d h = inl refl
mem_get_d (x ∷ xs) (suc i) d h = inr (mem_get_d xs i d (omega arith))

pub mem_place : {A : Type 0} (a : A) (xs : List A) → Mem a xs → (i : ℕ) × (i < length xs) × ((d : A) → get_or xs i d ≡ a)
mem_place a [] m = absurd m
mem_place a (x ∷ xs) (inl e) = (0, omega arith, λ d. sym e)
mem_place a (x ∷ xs) (inr m) = let r = mem_place a xs m in (suc r.0, omega (arith, r.1), r.2)

-- a place of which none is greater holds an element than which none is greater
pub greatest_member : {A : Type 0} (less : A → A → Type 0) (xs : List A) (i : ℕ) (x : A) → NoneGreater less xs (length xs) i → x ≡ get_or xs i x → (a : A) → Mem a xs → less x a → ⊥
greatest_member less xs i x n e a m l =
    let p = mem_place a xs m in n p.0 x p.1 (subst₂ less e (sym (p.2 x)) l)

-- an element by its place, or none past the end
pub nth_get_d : {A : Type 0} (xs : List A) (i : ℕ) (d : A) → i < length xs → Some (get_or xs i d) ≡ nth xs i
nth_get_d [] i d h = absurd (omega arith)
nth_get_d (x ∷ xs) zero d h = refl
nth_get_d (x ∷ xs) (suc i) d h = nth_get_d xs i d (omega arith)

pub nth_past : {A : Type 0} (xs : List A) (i : ℕ) → length xs ≤ i → None ≡ nth xs i
nth_past [] i h = refl
nth_past (x ∷ xs) zero h = absurd (omega arith)
nth_past (x ∷ xs) (suc i) h = nth_past xs i (omega arith)

-- one member more at the end
pub mem_push : {A : Type 0} (a : A) (xs : List A) (x : A) → Mem a (xs ++ (x ∷ [])) → Mem a xs ⊎ (a ≡ x)
mem_push a [] x (inl e) = inr e
mem_push a [] x (inr m) = absurd m
mem_push a (y ∷ ys) x (inl e) = inl (inl e)
mem_push a (y ∷ ys) x (inr m) = go (mem_push a ys x m)
  where
    go : Mem a ys ⊎ (a ≡ x) → Mem a (y ∷ ys) ⊎ (a ≡ x)
    go (inl n) = inl (inr n)
    go (inr e) = inr e

pub mem_front : {A : Type 0} (a : A) (xs ys : List A) → Mem a xs → Mem a (xs ++ ys)
mem_front a [] ys m = absurd m
mem_front a (x ∷ xs) ys (inl e) = inl e
mem_front a (x ∷ xs) ys (inr m) = inr (mem_front a xs ys m)

pub mem_last : {A : Type 0} (xs : List A) (x : A) → Mem x (xs ++ (x ∷ []))
mem_last [] x = inl refl
mem_last (y ∷ ys) x = inr (mem_last ys x)

-- the last of a list is that of its rest
pub final_more : (y : ℕ) (zs : List ℕ) → 1 ≤ length zs → final (y ∷ zs) ≡ final zs
final_more y [] l = absurd (omega arith)
final_more y (z ∷ zs) l = refl
