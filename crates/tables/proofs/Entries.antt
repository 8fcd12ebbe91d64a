-- The entries after a path write: those that were there, the one that lost its slot, and the new ones.
use Rattle.std.proofs.Common.{◌≡◌, ℕ, zero, suc, ◌+◌, ◌<◌, ◌≤◌, Bool, true, false, cond, ◌&&◌, eqb, List, [], ◌∷◌, ◌++◌, length, get_or, set, is_some, Some, None, sym, refl, ap, ◌∙◌, ⊎_elim, arith}
use Rattle.std.proofs.lemmas.Bool.{false_from_ne_true, and_parts, and_from, eqb-true, eq-eqb, ne_eqb, cases_eq}
use Rattle.entries.specs.declared.HeldRevision.{HeldRevision}
use Rattle.entries.specs.Searches.{first, count}
use Rattle.entries.specs.Entries.{is_revision}
use Rattle.tables.specs.Sound.{has_slot}
use Rattle.tables.specs.Paths.{row, rows}

abbrev three : ℕ → ℕ → ℕ → ℕ → ℕ → ℕ → Bool
three a d b g c x = eqb a d && (eqb b g && eqb c x)

-- two keys are the same
pub three_same : (a d b g c x : ℕ) → three a d b g c x ≡ true → (a ≡ d) × (b ≡ g) × (c ≡ x)
three_same a d b g c x e =
    let p = and_parts (eqb a d) (eqb b g && eqb c x) e in
    let q = and_parts (eqb b g) (eqb c x) p.1 in
    (eqb-true a d p.0, eqb-true b g q.0, eqb-true c x q.1)

pub three_true : (a d b g c x : ℕ) → a ≡ d → b ≡ g → c ≡ x → three a d b g c x ≡ true
three_true a d b g c x p q r = and_from (eqb a d) (eqb b g && eqb c x) (eq-eqb a d p) (and_from (eqb b g) (eqb c x) (eq-eqb b g q) (eq-eqb c x r))

module _ {X : Type 0} (p : X → Bool) where
  -- the first element that passes is laid over by one that passes
  pub set_only : (z : X) (xs : List X) (i : ℕ) (h : X) → i < length xs → p h ≡ true → ((j : ℕ) → j < i → p (get_or xs j z) ≡ false) → first p (set xs i h) ≡ Some h
  set_only z [] i h l t f = absurd (omega arith)
  set_only z (x ∷ xs) zero h l t f = ap (λ (b : Bool). cond b (Some h) (first p xs)) t
  set_only z (x ∷ xs) (suc i) h l t f = ap (λ (b : Bool). cond b (Some x) (first p (set xs i h))) (f 0 (omega arith)) ∙ set_only z xs i h (omega arith) t (λ j q. f (suc j) (omega arith))

  pub count_append : (xs ys : List X) → count p (xs ++ ys) ≡ count p xs + count p ys
  count_append [] ys = omega arith
  count_append (x ∷ xs) ys = let r = count_append xs ys in omega arith

  pub count_set : (z : X) (xs : List X) (i : ℕ) (h : X) → i < length xs → count p (set xs i h) + cond (p (get_or xs i z)) 1 0 ≡ count p xs + cond (p h) 1 0
  count_set z [] i h l = absurd (omega arith)
  count_set z (x ∷ xs) zero h l = omega arith
  count_set z (x ∷ xs) (suc i) h l = let r = count_set z xs i h (omega arith) in omega arith

-- New entries ---------------------------------------------------------------------------------------------------------

module _ (d : ℕ) (tag : ℕ → ℕ) (n s : ℕ) where
  pub rows_length : (k m : ℕ) → length (rows d tag n s k m) ≡ m
  rows_length k zero = refl
  rows_length k (suc m) = ap suc (rows_length (k + 1) m)

  pub rows_at : (k m i : ℕ) (z : HeldRevision) → i < m → get_or (rows d tag n s k m) i z ≡ row d tag n s (k + 1 + i)
  rows_at k zero i z l = absurd (omega arith)
  rows_at k (suc m) zero z l = let e : k + 1 ≡ k + 1 + 0 = omega arith in ap (row d tag n s) e
  rows_at k (suc m) (suc i) z l = let e : k + 1 + 1 + i ≡ k + 1 + suc i = omega arith in rows_at (k + 1) m i z (omega arith) ∙ ap (row d tag n s) e

  pub rows_miss : (k m e g x : ℕ) → ((e ≡ d) × (k < g) × (g ≤ k + m) × (x ≡ tag g) → ⊥) → first (is_revision e g x) (rows d tag n s k m) ≡ None
  rows_miss k zero e g x h = refl
  rows_miss k (suc m) e g x h =
      let f : is_revision e g x (row d tag n s (k + 1)) ≡ false =
      false_from_ne_true _ (λ q. let r = three_same d e (k + 1) g (tag (k + 1)) x q in h (sym r.0, omega (arith, r.1), omega (arith, r.1), sym r.2 ∙ ap tag r.1)) in
      ap (λ (b : Bool). cond b (Some (row d tag n s (k + 1))) (first (is_revision e g x) (rows d tag n s (k + 1) m))) f
      ∙ rows_miss (k + 1) m e g x (λ q. h (q.0, omega (arith, q.1), omega (arith, q.2), q.3))

  pub rows_hit : (k m g : ℕ) → k < g → g ≤ k + m → first (is_revision d g (tag g)) (rows d tag n s k m) ≡ Some (row d tag n s g)
  rows_hit k zero g l u = absurd (omega arith)
  rows_hit k (suc m) g l u = ⊎_elim
      (λ (e : k + 1 ≡ g). ap (λ (b : Bool). cond b (Some (row d tag n s (k + 1))) (first (is_revision d g (tag g)) (rows d tag n s (k + 1) m))) (three_true d d (k + 1) g (tag (k + 1)) (tag g) refl e (ap tag e))
      ∙ ap (λ (x : ℕ). Some (row d tag n s x)) e)
      (λ (e : k + 1 ≡ g → ⊥). ap (λ (b : Bool). cond b (Some (row d tag n s (k + 1))) (first (is_revision d g (tag g)) (rows d tag n s (k + 1) m)))
      (false_from_ne_true _ (λ q. e (three_same d d (k + 1) g (tag (k + 1)) (tag g) q).1)) ∙ rows_hit (k + 1) m g (omega arith) (omega arith))
      (cases_eq (k + 1) g)

  one_slot : (g : ℕ) → ◌≡◌ {A = ℕ} (cond (has_slot (row d tag n s g)) 1 0) (cond (eqb g n) 1 0)
  one_slot g = elim (eqb g n) as (λ b. ◌≡◌ {A = ℕ} (cond (is_some {T = ℕ} (cond b (Some s) None)) 1 0) (cond b 1 0)) [ true ↦ refl | false ↦ refl ]

  -- one of them has a slot
  pub rows_slots : (k m : ℕ) → k + suc m ≡ n → count has_slot (rows d tag n s k (suc m)) ≡ 1
  rows_slots k zero e = let q : k + 1 ≡ n = omega arith in let r = one_slot (k + 1) ∙ ap (λ (b : Bool). cond b 1 0) (eq-eqb (k + 1) n q) in omega arith
  rows_slots k (suc m) e =
      let q : k + 1 ≡ n → ⊥ = λ f. omega arith in
      let r = one_slot (k + 1) ∙ ap (λ (b : Bool). cond b 1 0) (ne_eqb (k + 1) n q) in
      let t = rows_slots (k + 1) m (omega arith) in omega arith
