-- Log entries, one more at a time.
use Rattle.std.proofs.Common.{◌≡◌, ℕ, zero, suc, ◌+◌, ◌-◌, ◌<◌, ◌≤◌, min, Bool, true, false, cond, eqb, List, [], ◌∷◌, ◌++◌, length, get_or, take, drop, set, Some, None, Option, Bor, sym, refl, ap, ◌∙◌, ⊎_elim, arith}
use Rattle.std.proofs.lemmas.List.{take_all, take-take, take_more_set, map_more, map_push, drop_more, drop_all, drop-drop, drop-set-lt, get_or-drop, length-take, length-set, at_drop_more, at_drop_all}
use Rattle.std.proofs.lemmas.Bool.{cases_lt, eq-eqb, ne_eqb, cond-true, cond-false}
use Rattle.std.proofs.lemmas.Cmp.{nat_eq_equiv}
use Rattle.std.specs.List.{AllWithin, HoldsAt}
use Rattle.std.specs.Option.{MatchOption}
use Rattle.checkpoint.specs.declared.Entry.{Entry}
use Rattle.checkpoint.specs.Values.{pair, pairs}
use Rattle.checkpoint.specs.Logs.{Entries, listed, replaced, settled, common}

module _ {S : Type 0} (eq : S → S → Bool) where
  pub listed_push : (s : S) (es : Entries S) (e : S × ℕ) → listed eq s (es ++ (e ∷ [])) ≡ cond (listed eq s es) true (eq s e.0)
  listed_push s [] e = go (eq s e.0)
    where
      go : (b : Bool) → cond b true false ≡ b
      go true = refl
      go false = refl
  listed_push s (x ∷ xs) e = go (eq s x.0) (listed_push s xs e)
    where
      go : (b : Bool) → listed eq s (xs ++ (e ∷ [])) ≡ cond (listed eq s xs) true (eq s e.0) →
          cond b true (listed eq s (xs ++ (e ∷ []))) ≡ cond (cond b true (listed eq s xs)) true (eq s e.0)
      go true i = refl
      go false i = i

  pub replaced_push : (s : S) (p : ℕ) (es : Entries S) (e : S × ℕ) → replaced eq s p (es ++ (e ∷ [])) ≡ replaced eq s p es ++ (cond (eq s e.0) (s, p) e ∷ [])
  replaced_push s p [] e = refl
  replaced_push s p (x ∷ xs) e = ap (λ (l : Entries S). cond (eq s x.0) (s, p) x ∷ l) (replaced_push s p xs e)

  pub common_push : (k : Entries S) (e : S × ℕ) (l : Entries S) → common eq (k ++ (e ∷ [])) l ≡ common eq k l + cond (listed eq e.0 l) 1 0
  common_push [] e l = go (listed eq e.0 l)
    where
      go : (b : Bool) → cond b 1 0 ≡ 0 + cond b 1 0
      go true = refl
      go false = refl
  common_push (x ∷ xs) e l = go (listed eq x.0 l) (common_push xs e l)
    where
      go : (b : Bool) → common eq (xs ++ (e ∷ [])) l ≡ common eq xs l + cond (listed eq e.0 l) 1 0 →
          cond b (suc (common eq (xs ++ (e ∷ [])) l)) (common eq (xs ++ (e ∷ [])) l) ≡ cond b (suc (common eq xs l)) (common eq xs l) + cond (listed eq e.0 l) 1 0
      go true i = omega (arith, i)
      go false i = i

-- an entry in front of 8 places, of which the first so many are in use
pub fronted : {X : Type 0} (xs ys : List X) (e : X) (n m : ℕ) → ys ≡ e ∷ take 7 xs → m ≡ min (n + 1) 8 → take m ys ≡ take 8 (e ∷ take n xs)
fronted {X} xs ys e n m a b = ap (take m) a ∙ ⊎_elim
    (λ (h : n < 7).
    let q : m ≡ suc n = omega arith in
    ap (λ (k : ℕ). take k (e ∷ take 7 xs)) q ∙ ap (λ (l : List X). e ∷ l) (take-take n 7 xs (omega arith) ∙ sym (take_all 7 (take n xs) (omega (arith, length-take n xs)))))
    (λ (h : 7 ≤ n).
    let q : m ≡ 8 = omega arith in
    ap (λ (k : ℕ). take k (e ∷ take 7 xs)) q ∙ ap (λ (l : List X). e ∷ l) (take-take 7 7 xs (omega arith) ∙ sym (take-take 7 n xs h)))
    (cases_lt n 7)

-- 8 places turned by one, with another entry in front
pub turned : {X : Type 0} (xs ys : List X) (e : X) → length xs ≡ 8 → ys ≡ drop (length xs - 1) xs ++ take (length xs - 1) xs → set ys 0 e ≡ e ∷ take 7 xs
turned {X} xs ys e l a =
    let q : length xs - 1 ≡ 7 = omega arith in
    let d : drop 7 xs ≡ get_or xs 7 e ∷ drop 8 xs = drop_more xs 7 e (omega arith) in
    let n : drop 8 xs ≡ [] = drop_all 8 xs (omega arith) in
    ap (λ (m : List X). set m 0 e) (a ∙ (ap (λ (k : ℕ). drop k xs ++ take k xs) q ∙ ap (λ (m : List X). m ++ take 7 xs) (d ∙ ap (λ (m : List X). get_or xs 7 e ∷ m) n)))

-- one step of a loop that replaces the position of a stamp: place i of ys, which are xs from there on, becomes w
module _ (s p i : ℕ) (xs ys : List Entry) (d : Entry) (h : i < length xs) (l : length ys ≡ length xs) (r : drop i ys ≡ drop i xs) where
  pub same_at : get_or ys i d ≡ get_or xs i d
  same_at = ap (λ (k : ℕ). get_or ys k d) z ∙ (sym (get_or-drop i ys 0 d) ∙ (ap (λ (m : List Entry). get_or m 0 d) r ∙ (get_or-drop i xs 0 d ∙ ap (λ (k : ℕ). get_or xs k d) (sym z))))
    where
      z : i ≡ i + 0
      z = omega arith

  step : pairs (take (i + 1) xs) ≡ pairs (take i xs) ++ (pair (get_or xs i d) ∷ [])
  step = map_more pair xs i d h

  pub more_there : (t : Bool) → t ≡ listed eqb s (pairs (take i xs)) → cond t true (eqb s (get_or xs i d).stamp) ≡ listed eqb s (pairs (take (i + 1) xs))
  more_there t e = ap (λ (b : Bool). cond b true (eqb s (get_or xs i d).stamp)) e ∙ (sym (listed_push eqb s (pairs (take i xs)) (pair (get_or xs i d))) ∙ ap (listed eqb s) (sym step))

  pub more_pairs : (w : Entry) → pairs (take i ys) ≡ replaced eqb s p (pairs (take i xs)) → pair w ≡ cond (eqb s (get_or xs i d).stamp) (s, p) (pair (get_or xs i d)) →
      pairs (take (i + 1) (set ys i w)) ≡ replaced eqb s p (pairs (take (i + 1) xs))
  more_pairs w e f =
      ap pairs (take_more_set ys i w (omega arith)) ∙ (map_push pair (take i ys) w ∙ ((λ k. e k ++ (f k ∷ [])) ∙
      (sym (replaced_push eqb s p (pairs (take i xs)) (pair (get_or xs i d))) ∙ ap (replaced eqb s p) (sym step))))

  pub more_drop : (w : Entry) → drop (i + 1) (set ys i w) ≡ drop (i + 1) xs
  more_drop w = drop-set-lt (i + 1) ys i w (omega arith) ∙ (sym (drop-drop 1 i ys) ∙ (ap (drop 1) r ∙ drop-drop 1 i xs))

-- the invariant of that loop
pub record Replacing (s p i : ℕ) (there : Bool) (xs ys : List Entry) : Type 0 where
  pub long : length ys ≡ length xs
  pub found : there ≡ listed eqb s (pairs (take i xs))
  pub front : pairs (take i ys) ≡ replaced eqb s p (pairs (take i xs))
  pub rest : drop i ys ≡ drop i xs

-- a step at the stamp, at another stamp, and the end
module _ (s p i : ℕ) (t : Bool) (xs ys : List Entry) (d : Entry) (k : Replacing s p i t xs ys) where
  pub replaces : i < length xs → (get_or ys i d).stamp ≡ s → (w : Entry) → w ≡ record { stamp = (get_or ys i d).stamp; position = p } → Replacing s p (i + 1) true xs (set ys i w)
  replaces h e w f =
      let a : get_or ys i d ≡ get_or xs i d = same_at s p i xs ys d h k.long k.rest in
      let q : eqb s (get_or xs i d).stamp ≡ true = eq-eqb s _ (sym e ∙ ap (λ (z : Entry). z.stamp) a) in
      record {
        long = length-set ys i w ∙ k.long;
        found = sym (ap (λ (b : Bool). cond t true b) q ∙ any t) ∙ more_there s p i xs ys d h k.long k.rest t k.found;
        front = more_pairs s p i xs ys d h k.long k.rest w k.front (ap pair f ∙ (ap (λ (z : ℕ). let q : ℕ × ℕ = (z, p) in q) e ∙ ap (λ (b : Bool). cond b (s, p) (pair (get_or xs i d))) (sym q)));
        rest = more_drop s p i xs ys d h k.long k.rest w;
      }
    where
      any : (t : Bool) → cond t true true ≡ true
      any true = refl
      any false = refl

  pub skips : i < length xs → ((get_or ys i d).stamp ≡ s → ⊥) → Replacing s p (i + 1) t xs (set ys i (get_or ys i d))
  skips h n =
      let a : get_or ys i d ≡ get_or xs i d = same_at s p i xs ys d h k.long k.rest in
      let q : eqb s (get_or xs i d).stamp ≡ false = ne_eqb s _ (λ z. n (ap (λ (z : Entry). z.stamp) a ∙ sym z)) in
      record {
        long = length-set ys i (get_or ys i d) ∙ k.long;
        found = sym (ap (λ (b : Bool). cond t true b) q ∙ same t) ∙ more_there s p i xs ys d h k.long k.rest t k.found;
        front = more_pairs s p i xs ys d h k.long k.rest (get_or ys i d) k.front (ap pair a ∙ ap (λ (b : Bool). cond b (s, p) (pair (get_or xs i d))) (sym q));
        rest = more_drop s p i xs ys d h k.long k.rest (get_or ys i d);
      }
    where
      same : (t : Bool) → cond t true false ≡ t
      same true = refl
      same false = refl

-- the first entry with a stamp, or none, and whether it has the position
module _ (s p : ℕ) (es : List Entry) where
  abbrev Other : Entry → Type 0
  Other e = e.stamp ≡ s → ⊥

  step_on : (i : ℕ) (d : Entry) → i < length es → settled eqb s p (pairs (drop i es)) ≡ cond (eqb s (get_or es i d).stamp) (eqb p (get_or es i d).position) (settled eqb s p (pairs (drop (i + 1) es)))
  step_on i d h = at_drop_more (λ l. settled eqb s p (pairs l)) es i d h

  -- entries with other stamps are passed
  passed : (i : ℕ) → i ≤ length es → AllWithin Other es 0 i → settled eqb s p (pairs es) ≡ settled eqb s p (pairs (drop i es))
  passed zero h w = refl
  passed (suc i) h w =
      let d : Entry = record { stamp = 0; position = 0 } in
      let n : suc i ≡ i + 1 = omega arith in
      passed i (omega arith) (λ k e a b. w k e a (omega arith)) ∙ (step_on i d (omega arith) ∙
      (cond-false _ _ _ (ne_eqb s _ (λ e. w i d (omega arith) (omega arith) (sym e))) ∙ ap (λ (k : ℕ). settled eqb s p (pairs (drop k es))) (sym n)))

  pub settled_found : (r : Option (Bor Entry)) (b : Bool) →
      MatchOption r (AllWithin Other es 0 (length es)) (λ e. (e.now.stamp ≡ s) × (i : ℕ) × (i < length es) × HoldsAt (λ f. f ≡ e.now) es i × AllWithin Other es 0 i) →
      MatchOption r (b ≡ false) (λ e. b ≡ eqb e.now.position p) → b ≡ settled eqb s p (pairs es)
  settled_found None b w f = f ∙ sym (passed (length es) (omega arith) w ∙ at_drop_all (λ l. settled eqb s p (pairs l)) es (length es) (omega arith))
  settled_found (Some e) b (q, i, l, h, w) f =
      let g : get_or es i e.now ≡ e.now = h e.now in
      f ∙ (nat_eq_equiv.symm e.now.position p ∙ (ap (λ (x : Entry). eqb p x.position) (sym g) ∙
      sym (passed i (omega arith) w ∙ (step_on i e.now l ∙ cond-true _ _ _ (eq-eqb s _ (sym (ap (λ (x : Entry). x.stamp) g ∙ q)))))))
