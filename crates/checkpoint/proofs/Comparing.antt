-- Comparing two logs, one entry of the first more at a time.
use Rattle.std.proofs.Common.{◌≡◌, ℕ, ◌+◌, ◌<◌, ◌≤◌, min, max, Bool, true, false, cond, eqb, ◌⊎◌, List, [], ◌∷◌, ◌++◌, map, filter, Some, None, Option, MatchOption, sym, refl, ap, ◌∙◌, subst, inl, inr, ⊎_elim, arith}
use Rattle.std.specs.List.{fold, reduce, FoldsTo}
use Rattle.std.specs.Fn.{Called}
use Rattle.std.specs.Iterator.{FoldTurn, ReducesItems}
use Rattle.std.proofs.lemmas.Iterator.{YieldsList}
use Rattle.std.proofs.lemmas.Iterator.Consumers.{reduce_from_yields_List}
use Rattle.std.proofs.lemmas.Bool.{cases_lt, eqb-true, eq-eqb, false≢true}
use denote.Param.Members.{Mut}
use Rattle.order.specs.Lists.{Mem}
use Rattle.order.proofs.Lists.{mem_push, mem_front, mem_last}
use Rattle.checkpoint.specs.declared.Entry.{Entry}
use Rattle.checkpoint.specs.Logs.{Entries, listed, common, Compared}
use Rattle.checkpoint.specs.Values.{pair, pairs, Smaller, Met}
use Rattle.checkpoint.proofs.Entries.{common_push}

-- calls of a closure that acts as a function, one after the other
turns : {A F : Type 0} (g : Mut F (A × (A × Unit {0})) A) (h : A → A → A) (f : F) → ((a x b : A) (q : F) → Called g f (a, (x, tt)) b q → (q ≡ f) × (b ≡ h a x)) →
    (xs : List A) (a : A) (q : F × A) → FoldsTo {P = F × A} (FoldTurn g) (f, a) xs q → FoldsTo (λ p z c. c ≡ h p z) a xs q.1
turns {A} {F} g h f acts [] a q e = ap (λ (z : F × A). z.1) e
turns {A} {F} g h f acts (x ∷ xs) a q (c, t, r) =
    let s = acts a x c.1 c.0 t in
    (c.1, s.1, turns g h f acts xs c.1 q (subst (λ (w : F). FoldsTo {P = F × A} (FoldTurn g) (w, c.1) xs q) s.0 r))

-- an iterator reduced by such a closure
pub reduced : {S A F : Type 0} {steps : S → Option A → S → Type 0} {g : Mut F (A × (A × Unit {0})) A} {f : F} (h : A → A → A) (s : S) (r : Option A) (all : List A) → ReducesItems steps g s f r → YieldsList steps (λ x. x) s all →
    ((a x b : A) (q : F) → Called g f (a, (x, tt)) b q → (q ≡ f) × (b ≡ h a x)) → r ≡ reduce h all
reduced h s None all d y acts = reduce_from_yields_List h s None d y
reduced {g = g} {f = f} h s (Some m) all (x, xs, k, d, t) y acts = reduce_from_yields_List h s (Some m) (x, xs, d, turns g h f acts xs x (k, m) t) y

-- the greatest of numbers, one after the other
picks : (a : ℕ) (ys : List ℕ) → Mem (fold max a ys) (a ∷ ys) × ((m : ℕ) → Mem m (a ∷ ys) → m ≤ fold max a ys)
picks a [] = (inl refl, λ m k. ⊎_elim (λ e. omega arith) (λ n. absurd n) k)
picks a (y ∷ ys) = let r = picks (max a y) ys in (reached r.0, all r.1)
  where
    reached : (fold max (max a y) ys ≡ max a y) ⊎ Mem (fold max (max a y) ys) ys → Mem (fold max (max a y) ys) (a ∷ y ∷ ys)
    reached (inl e) = ⊎_elim (λ (h : a < y). inr (inl (omega arith))) (λ (h : y ≤ a). inl (omega arith)) (cases_lt a y)
    reached (inr k) = inr (inr k)

    all : ((m : ℕ) → Mem m (max a y ∷ ys) → m ≤ fold max (max a y) ys) → (m : ℕ) → Mem m (a ∷ y ∷ ys) → m ≤ fold max (max a y) ys
    all r m (inl e) = omega (arith, r (max a y) (inl refl))
    all r m (inr (inl e)) = omega (arith, r (max a y) (inl refl))
    all r m (inr (inr k)) = r m (inr k)

module _ (e : Entry) where
  -- the smaller positions of an entry and the entries with its stamp
  abbrev pub smaller : List Entry → List ℕ
  smaller log = map (λ (f : Entry). min f.position e.position) (filter (λ (f : Entry). eqb e.stamp f.stamp) log)

  abbrev some : List ℕ → Bool
  some [] = false
  some (x ∷ xs) = true

  listed_some : (log : List Entry) → listed eqb e.stamp (pairs log) ≡ some (smaller log)
  listed_some [] = refl
  listed_some (f ∷ fs) = go (eqb e.stamp f.stamp) (listed_some fs)
    where
      go : (b : Bool) → listed eqb e.stamp (pairs fs) ≡ some (smaller fs) →
          cond b true (listed eqb e.stamp (pairs fs)) ≡ some (map (λ (f : Entry). min f.position e.position) (cond b (f ∷ filter (λ (f : Entry). eqb e.stamp f.stamp) fs) (filter (λ (f : Entry). eqb e.stamp f.stamp) fs)))
      go true i = refl
      go false i = i

  into : (log : List Entry) (m : ℕ) → Smaller (pair e) (pairs log) m → Mem m (smaller log)
  into [] m (q, a, b) = a
  into (f ∷ fs) m (q, inl a, b) = rw (eq-eqb e.stamp f.stamp (ap (λ (z : ℕ × ℕ). z.0) a)) (inl (let z : q ≡ f.position = ap (λ (z : ℕ × ℕ). z.1) a in omega arith))
  into (f ∷ fs) m (q, inr a, b) = go (eqb e.stamp f.stamp) (into fs m (q, a, b))
    where
      go : (b : Bool) → Mem m (smaller fs) → Mem m (map (λ (f : Entry). min f.position e.position) (cond b (f ∷ filter (λ (f : Entry). eqb e.stamp f.stamp) fs) (filter (λ (f : Entry). eqb e.stamp f.stamp) fs)))
      go true i = inr i
      go false i = i

  out : (log : List Entry) (m : ℕ) → Mem m (smaller log) → Smaller (pair e) (pairs log) m
  out [] m = λ k. absurd k
  out (f ∷ fs) m = go (eqb e.stamp f.stamp) refl (out fs m)
    where
      back : Smaller (pair e) (pairs fs) m → Smaller (pair e) (pairs (f ∷ fs)) m
      back (q, a, b) = (q, inr a, b)

      go : (b : Bool) → eqb e.stamp f.stamp ≡ b → (Mem m (smaller fs) → Smaller (pair e) (pairs fs) m) →
          Mem m (map (λ (f : Entry). min f.position e.position) (cond b (f ∷ filter (λ (f : Entry). eqb e.stamp f.stamp) fs) (filter (λ (f : Entry). eqb e.stamp f.stamp) fs))) →
          Smaller (pair e) (pairs (f ∷ fs)) m
      go true s i (inl k) = (f.position, inl (ap (λ (z : ℕ). let w : ℕ × ℕ = (z, f.position) in w) (eqb-true e.stamp f.stamp s)), omega arith)
      go true s i (inr k) = back (i k)
      go false s i k = back (i k)

  pub met : (log : List Entry) → Met (pair e) (pairs log) (reduce max (smaller log))
  met log = go (smaller log) (listed_some log) (into log) (out log)
    where
      go : (ys : List ℕ) → listed eqb e.stamp (pairs log) ≡ some ys → ((m : ℕ) → Smaller (pair e) (pairs log) m → Mem m ys) → ((m : ℕ) → Mem m ys → Smaller (pair e) (pairs log) m) →
          Met (pair e) (pairs log) (reduce max ys)
      go [] a i o = a
      go (y ∷ ys) a i o = let r = picks y ys in (a, o (fold max y ys) r.0, λ m s. r.1 m (i m s))

-- an entry's stamp is listed
mem_listed : (s q : ℕ) (l : Entries ℕ) → Mem (s, q) l → listed eqb s l ≡ true
mem_listed s q [] m = absurd m
mem_listed s q (x ∷ xs) (inl a) = rw (eq-eqb s x.0 (ap (λ (z : ℕ × ℕ). z.0) a)) refl
mem_listed s q (x ∷ xs) (inr m) = go (eqb s x.0) (mem_listed s q xs m)
  where
    go : (b : Bool) → listed eqb s xs ≡ true → cond b true (listed eqb s xs) ≡ true
    go true i = refl
    go false i = i

-- one entry more of the first log
module _ (k l : Entries ℕ) (e : ℕ × ℕ) (n c v w : ℕ) (r : Compared eqb k l n c) where
  abbrev Reached : Entries ℕ → ℕ → Type 0
  Reached j x = (x ≡ 0) ⊎ ((s : ℕ) × (p : ℕ) × (q : ℕ) × Mem (s, p) j × Mem (s, q) l × (x ≡ min p q))

  was : Reached k n → Reached (k ++ (e ∷ [])) n
  was (inl z) = inl z
  was (inr (s, p, q, a, b, f)) = inr (s, p, q, mem_front (s, p) k (e ∷ []) a, b, f)

  counts : (b : Bool) → listed eqb e.0 l ≡ b → w ≡ c + cond b 1 0 → w ≡ common eqb (k ++ (e ∷ [])) l
  counts b t f = f ∙ ((λ i. r.counted i + cond (sym t i) 1 0) ∙ sym (common_push eqb k e l))

  pub compared_more : (o : Option ℕ) → Met e l o → MatchOption o ((v ≡ n) × (w ≡ c)) (λ m. (v ≡ max n m) × (w ≡ c + 1)) → Compared eqb (k ++ (e ∷ [])) l v w
  compared_more None m (x, y) = record {
    reached = subst (Reached (k ++ (e ∷ []))) (sym x) (was r.reached);
    greatest = λ s p q a b. ⊎_elim
        (λ (h : Mem (s, p) k). omega (arith, r.greatest s p q h b))
        (λ (h : ◌≡◌ {A = ℕ × ℕ} (s, p) e).
        let z : listed eqb e.0 l ≡ true = mem_listed e.0 q l (subst (λ (t : ℕ). Mem (t, q) l) (ap (λ (z : ℕ × ℕ). z.0) h) b) in
        absurd (false≢true (sym m ∙ z)))
        (mem_push (s, p) k e a);
    counted = counts false m (omega arith);
  }
  compared_more (Some m) (t, (q, a, b), g) (x, y) = record {
    reached = ⊎_elim
        (λ (h : n < m). inr (e.0, e.1, q, mem_last k e, a, omega arith))
        (λ (h : m ≤ n). subst (Reached (k ++ (e ∷ []))) (omega arith) (was r.reached))
        (cases_lt n m);
    greatest = λ s p i c d. ⊎_elim
        (λ (h : Mem (s, p) k). omega (arith, r.greatest s p i h d))
        (λ (h : ◌≡◌ {A = ℕ × ℕ} (s, p) e).
        let z : p ≡ e.1 = ap (λ (z : ℕ × ℕ). z.1) h in
        omega (arith, g (min e.1 i) (i, subst (λ (t : ℕ). Mem (t, i) l) (ap (λ (z : ℕ × ℕ). z.0) h) d, refl)))
        (mem_push (s, p) k e c);
    counted = counts true t y;
  }
