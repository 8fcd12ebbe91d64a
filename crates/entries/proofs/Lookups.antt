-- Elements that pass a test: by the first, by its place, and where only one does.
use Rattle.std.proofs.Common.{◌≡◌, ℕ, zero, suc, ◌+◌, ◌<◌, ◌≤◌, Bool, true, false, cond, List, [], ◌∷◌, length, get_or, Some, None, sym, refl, ap, ◌∙◌, arith}
use Rattle.entries.specs.Searches.{first, place, Once}
use Rattle.std.proofs.lemmas.Bool.{false_from_ne_true}

-- an element by its place
pub record Element {X : Type 0} (p : X → Bool) (xs : List X) (y : X) : Type 0 where
  pub place : ℕ
  pub within : place < length xs
  pub is : (z : X) → get_or xs place z ≡ y
  pub passes : p y ≡ true

module _ {X : Type 0} (p : X → Bool) where
  pub first_element : (xs : List X) (y : X) → first p xs ≡ Some y → Element p xs y
  first_element [] y e = let z : ◌≡◌ {A = ℕ} 0 1 = cc in absurd (omega arith)
  first_element (x ∷ xs) y e = elim (p x) as (λ b. p x ≡ b → cond b (Some x) (first p xs) ≡ Some y → Element p (x ∷ xs) y) [
    | true ↦ λ q f. let s : x ≡ y = cc in record { place = 0; within = omega arith; is = λ z. s; passes = ap p (sym s) ∙ q }
    | false ↦ λ q f. let r = first_element xs y f in record { place = suc r.place; within = omega (arith, r.within); is = r.is; passes = r.passes }
  ]
      refl e

  tail_once : (x : X) (xs : List X) → Once p (x ∷ xs) → Once p xs
  tail_once x xs o i j z h k a b = let s : suc i ≡ suc j = o (suc i) (suc j) z (omega arith) (omega arith) a b in omega arith

  -- the only element that passes is the first
  pub first_once : (z : X) (xs : List X) (i : ℕ) → Once p xs → i < length xs → p (get_or xs i z) ≡ true → first p xs ≡ Some (get_or xs i z)
  first_once z [] i o h e = absurd (omega arith)
  first_once z (x ∷ xs) zero o h e = ap (λ b. cond b (Some x) (first p xs)) e
  first_once z (x ∷ xs) (suc i) o h e =
      let f : p x ≡ false = false_from_ne_true (p x) (λ t. let s : 0 ≡ suc i = o 0 (suc i) z (omega arith) h t e in omega arith) in
      ap (λ b. cond b (Some x) (first p xs)) f ∙ first_once z xs i (tail_once x xs o) (omega arith) e

  place_from : (z : X) (xs : List X) (k i : ℕ) → Once p xs → i < length xs → p (get_or xs i z) ≡ true → place p k xs ≡ Some (k + i)
  place_from z [] k i o h e = absurd (omega arith)
  place_from z (x ∷ xs) k zero o h e = let s : k ≡ k + 0 = omega arith in ap (λ b. cond b (Some k) (place p (k + 1) xs)) e ∙ ap (λ (n : ℕ). Some n) s
  place_from z (x ∷ xs) k (suc i) o h e =
      let f : p x ≡ false = false_from_ne_true (p x) (λ t. let s : 0 ≡ suc i = o 0 (suc i) z (omega arith) h t e in omega arith) in
      let s : (k + 1) + i ≡ k + suc i = omega arith in
      ap (λ b. cond b (Some k) (place p (k + 1) xs)) f ∙ (place_from z xs (k + 1) i (tail_once x xs o) (omega arith) e ∙ ap (λ (n : ℕ). Some n) s)

  pub place_once : (z : X) (xs : List X) (i : ℕ) → Once p xs → i < length xs → p (get_or xs i z) ≡ true → place p 0 xs ≡ Some i
  place_once z xs i o h e = let s : 0 + i ≡ i = omega arith in place_from z xs 0 i o h e ∙ ap (λ (n : ℕ). Some n) s

  -- none passes
  pub first_none : (z : X) (xs : List X) → ((j : ℕ) → j < length xs → p (get_or xs j z) ≡ false) → first p xs ≡ None
  first_none z [] h = refl
  first_none z (x ∷ xs) h = ap (λ b. cond b (Some x) (first p xs)) (h 0 (omega arith)) ∙ first_none z xs (λ j l. h (suc j) (omega arith))

  place_none_from : (z : X) (xs : List X) (k : ℕ) → ((j : ℕ) → j < length xs → p (get_or xs j z) ≡ false) → place p k xs ≡ None
  place_none_from z [] k h = refl
  place_none_from z (x ∷ xs) k h = ap (λ b. cond b (Some k) (place p (k + 1) xs)) (h 0 (omega arith)) ∙ place_none_from z xs (k + 1) (λ j l. h (suc j) (omega arith))

  pub place_none : (z : X) (xs : List X) → ((j : ℕ) → j < length xs → p (get_or xs j z) ≡ false) → place p 0 xs ≡ None
  place_none z xs h = place_none_from z xs 0 h

  pub none_passes : (z : X) (xs : List X) → first p xs ≡ None → (j : ℕ) → j < length xs → p (get_or xs j z) ≡ false
  none_passes z [] e j h = absurd (omega arith)
  none_passes z (x ∷ xs) e j h = go (p x) refl e j h (λ f i. none_passes z xs f i)
    where
      go : (b : Bool) → p x ≡ b → cond b (Some x) (first p xs) ≡ None → (j : ℕ) → j < suc (length xs) →
          (first p xs ≡ None → (i : ℕ) → i < length xs → p (get_or xs i z) ≡ false) → p (get_or (x ∷ xs) j z) ≡ false
      go true q f j l r = let y : ◌≡◌ {A = ℕ} 0 1 = cc in absurd (omega arith)
      go false q f zero l r = q
      go false q f (suc j) l r = r f j (omega arith)

-- there is nothing past the end
pub past_end : {X : Type 0} (xs : List X) (i : ℕ) (z : X) → length xs ≤ i → get_or xs i z ≡ z
past_end [] i z h = refl
past_end (x ∷ xs) zero z h = absurd (omega arith)
past_end (x ∷ xs) (suc i) z h = past_end xs i z (omega arith)
