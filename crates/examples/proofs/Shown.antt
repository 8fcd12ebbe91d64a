-- The examples are shown of the rules.
use Rattle.std.proofs.Common.{◌≡◌, ℕ, zero, suc, ◌≤◌, min, Bool, true, false, cond, not, eqb, ◌⊎◌, List, [], ◌∷◌, Some, None, sym, refl, ap, ◌∙◌, subst, inl, inr, arith}
use Rattle.std.proofs.lemmas.Bool.{eqb-true}
use Rattle.order.specs.Lists.{Mem}
use Rattle.revision.specs.Ids.{Id}
use Rattle.revision.specs.Trees.{Content, Node, absent, inner, head, Tree, held, parent, content_at, Compatible}
use Rattle.revision.specs.Paths.{path_tree, written, contradicted, known, added}
use Rattle.revision.specs.Heads.{Head, Heads, Descending, winner, conflicts}
use Rattle.revision.proofs.Heads.{same_lists}
use Rattle.examples.specs.Examples.{Examples, a_head, a_path, Both}

-- positions of pairs
left : (s p t q : ℕ) → ◌≡◌ {A = ℕ × ℕ} (s, p) (t, q) → s ≡ t
left s p t q e = ap (λ (k : ℕ × ℕ). k.0) e

right : (s p t q : ℕ) → ◌≡◌ {A = ℕ × ℕ} (s, p) (t, q) → p ≡ q
right s p t q e = ap (λ (k : ℕ × ℕ). k.1) e

first_greatest : (s p q : ℕ) → Mem {A = ℕ × ℕ} (s, p) ((9, 20) ∷ (5, 12) ∷ []) → Mem {A = ℕ × ℕ} (s, q) ((7, 30) ∷ (5, 10) ∷ []) → min p q ≤ 10
first_greatest s p q m n = grind (arith, left, right)

second_greatest : (s p q : ℕ) → Mem {A = ℕ × ℕ} (s, p) ((9, 20) ∷ (5, 12) ∷ []) → Mem {A = ℕ × ℕ} (s, q) ((9, 15) ∷ (5, 12) ∷ []) → min p q ≤ 15
second_greatest s p q m n = grind (arith, left, right)

-- two heads in order
two : (t : Tree) (h k : Head) (hs : List Head) → Heads t hs → Both h k hs → Descending (h ∷ k ∷ []) → hs ≡ h ∷ k ∷ []
two t h k hs a b d = same_lists hs (h ∷ k ∷ []) a.order d (λ l m. in_list l ((b l).0 m)) (λ l m. (b l).1 (from_list l m))
  where
    in_list : (l : Head) → (l ≡ h) ⊎ (l ≡ k) → Mem l (h ∷ k ∷ [])
    in_list l (inl e) = inl e
    in_list l (inr e) = inr (inl e)

    from_list : (l : Head) → Mem l (h ∷ k ∷ []) → (l ≡ h) ⊎ (l ≡ k)
    from_list l (inl e) = inl e
    from_list l (inr (inl e)) = inr e
    from_list l (inr (inr e)) = absurd e

other_way : (h k : Head) (hs : List Head) → Both h k hs → Both k h hs
other_way h k hs b l = (λ m. turn ((b l).0 m), λ s. (b l).1 (turn s))
  where
    turn : {A B : Type 0} → A ⊎ B → B ⊎ A
    turn (inl x) = inr x
    turn (inr x) = inl x

-- the one head after path a1 b2 on 1-a1
module _ (d : Id) (b c : Content) where
  abbrev after : Tree
  after = written (path_tree (a_path d (0xa1 ∷ []) b)) (a_path d (0xa1 ∷ 0xb2 ∷ []) c)

  abbrev new : Head
  new = record { generation = 2; tag = 0xb2; content = c }

  no : (e : Content) → None ≡ Some e → ⊥
  no e q = let z : ◌≡◌ {A = ℕ} 0 1 = cc in omega arith

  some_same : (a e : Content) → Some a ≡ Some e → a ≡ e
  some_same a e q = cc

  one_head : Heads after (new ∷ [])
  one_head = record { order = tt; only = only; all = λ h e. all h.generation h.tag h.content e }
    where
      only : (h : Head) → Mem h (new ∷ []) → content_at (after h.generation h.tag) ≡ Some h.content
      only h (inl e) = subst (λ (k : Head). content_at (after k.generation k.tag) ≡ Some k.content) (sym e) refl
      only h (inr m) = absurd m

      all : (g x : ℕ) (e : Content) → content_at (after g x) ≡ Some e → Mem (record { generation = g; tag = x; content = e }) (new ∷ [])
      all zero x e q = absurd (no e q)
      all (suc zero) x e q = absurd (go (eqb x 0xa1) refl q)
        where
          go : (z : Bool) → eqb x 0xa1 ≡ z → content_at (cond z (inner 0) (cond (eqb x 0xa1) (head 0 b) absent)) ≡ Some e → ⊥
          go true f q = no e q
          go false f q = no e (subst (λ (k : Bool). content_at (cond k (head 0 b) absent) ≡ Some e) f q)
      all (suc (suc zero)) x e q = go (eqb x 0xb2) refl q
        where
          go : (z : Bool) → eqb x 0xb2 ≡ z → content_at (cond z (head 0xa1 c) absent) ≡ Some e → Mem (record { generation = 2; tag = x; content = e }) (new ∷ [])
          go true f q = let u : x ≡ 0xb2 = eqb-true x 0xb2 f in let v : c ≡ e = some_same c e q in inl (λ i. record { generation = 2; tag = u i; content = sym v i })
          go false f q = absurd (no e q)
      all (suc (suc (suc g))) x e q = absurd (no e q)

pub examples : Examples
examples = record {
  one_common = record { reached = inr (5, 12, 10, inr (inl refl), inr (inl refl), refl); greatest = first_greatest; counted = refl };
  two_common = record { reached = inr (9, 20, 15, inl refl, inl refl, refl); greatest = second_greatest; counted = refl };
  both_live = λ b c t hs a e.
      let s = two t (a_head 2 0xc3 0 c) (a_head 2 0xb2 0 b) hs a (other_way (a_head 2 0xb2 0 b) (a_head 2 0xc3 0 c) hs e) (inr (refl, inr (refl, omega arith)), tt) in
      (ap winner s, ap conflicts s);
  one_live = λ b c t hs a e.
      ap winner (two t (a_head 2 0xb2 0 b) (a_head 3 0x01 1 c) hs a (other_way (a_head 3 0x01 1 c) (a_head 2 0xb2 0 b) hs e) (inl (omega arith), tt));
  grows = λ d b c. (added (λ (g, x, n). n (fits d b c g x)) refl, one_head d b c);
  stays = λ d c t e. known (λ (g, x, n). n (beside t c e g x)) (ap (λ (n : Node). not (held n)) e);
  contradicts = λ d c t e. contradicted (2, 0xb2, λ k. apart (t 2 0xb2) c e k);
}
  where
    any : (n : Node) → Compatible n absent
    any absent = tt
    any (inner p) = tt
    any (head p c) = tt

    -- path a1 b2 beside head 1-a1
    fits : (d : Id) (b c : Content) (g x : ℕ) → Compatible (path_tree (a_path d (0xa1 ∷ []) b) g x) (path_tree (a_path d (0xa1 ∷ 0xb2 ∷ []) c) g x)
    fits d b c zero x = tt
    fits d b c (suc zero) x = go (eqb x 0xa1)
      where
        go : (z : Bool) → Compatible (cond z (head 0 b) absent) (cond z (inner 0) absent)
        go true = refl
        go false = tt
    fits d b c (suc (suc g)) x = tt

    -- path a1 beside an inner 1-a1
    beside : (t : Tree) (c : Content) → t 1 0xa1 ≡ inner 0 → (g x : ℕ) → Compatible (t g x) (path_tree (a_path [] (0xa1 ∷ []) c) g x)
    beside t c e zero x = any (t 0 x)
    beside t c e (suc zero) x = go (eqb x 0xa1) refl
      where
        go : (z : Bool) → eqb x 0xa1 ≡ z → Compatible (t 1 x) (cond z (head 0 c) absent)
        go true f = subst (λ (n : Node). Compatible n (head 0 c)) (sym (ap (t 1) (eqb-true x 0xa1 f) ∙ e)) refl
        go false f = any (t 1 x)
    beside t c e (suc (suc g)) x = any (t (suc (suc g)) x)

    apart : (n : Node) (c : Content) → parent n ≡ Some 0xa1 → Compatible n (head 0xd9 c) → ⊥
    apart absent c e k = let z : ◌≡◌ {A = ℕ} 0 1 = cc in omega arith
    apart (inner q) c e k = let z : q ≡ 0xa1 = cc in omega arith
    apart (head q b) c e k = let z : q ≡ 0xa1 = cc in omega (arith, k.0)
