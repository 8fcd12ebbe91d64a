-- In a tree of one history each held revision has its line: the tags of its ancestors and its own, each the parent of the next.
use Rattle.std.proofs.Common.{◌≡◌, ℕ, zero, suc, ◌≤◌, Bool, true, false, cond, eqb, List, [], ◌∷◌, length, Some, sym, refl, ap, ◌∙◌, arith}
use Rattle.std.proofs.lemmas.Bool.{eqb-true}
use Rattle.order.specs.Lists.{final}
use Rattle.order.proofs.Lists.{final_more}
use Rattle.revision.specs.Trees.{Content, Node, absent, inner, head, Tree, held, parent, level}
use Rattle.revision.specs.Paths.{last_node, chain, up, Linked, Line}
use Rattle.revision.proofs.Places.{History, later, Follows, Fits, Below, Agrees, held_level, first_same}
use Rattle.revision.proofs.Places as P
use Rattle.revision.proofs.Trees.{Closed, Covered}

linked_up : (t : Tree) (g p : ℕ) (ys : List ℕ) → Linked (up t) g p ys → Linked t (suc g) p ys
linked_up t g p [] l = tt
linked_up t g p (y ∷ ys) l = (l.0, linked_up t (suc g) y ys l.1)

fits_parent : (h : ℕ × Content) (n : Node) (p : ℕ) → Fits h n → p ≡ h.0 → 1 ≤ level n → parent n ≡ Some p
fits_parent h absent p f e l = absurd (omega arith)
fits_parent h (inner q) p f e l = let z : q ≡ p = f ∙ sym e in ap (λ (k : ℕ). Some k) z
fits_parent h (head q c) p f e l = let z : q ≡ p = f.0 ∙ sym e in ap (λ (k : ℕ). Some k) z

node_some : (p : ℕ) (ys : List ℕ) (c : Content) → 1 ≤ level (last_node p ys c)
node_some p [] c = omega arith
node_some p (y ∷ ys) c = omega arith

here : (p y : ℕ) (ys : List ℕ) (c : Content) (x : ℕ) (b : Bool) → eqb x y ≡ b → 1 ≤ level (cond b (last_node p ys c) absent) → x ≡ y
here p y ys c x true e l = eqb-true x y e
here p y ys c x false e l = absurd (omega arith)

-- the line along a path of the history that the tree holds
on : (h : History) (t : Tree) (p : ℕ) (ys : List ℕ) (c : Content) (g x : ℕ) → Follows h p ys c → Agrees h t → Below (chain p ys c) t → 1 ≤ level (chain p ys c g x) →
    (zs : List ℕ) × (length zs ≡ suc g) × (final zs ≡ x) × Linked t 0 p zs
on h t p [] c g x f a b l = absurd (omega arith)
on h t p (y ∷ ys) c zero x f a b l =
    (y ∷ [], refl, sym (here p y ys c x (eqb x y) refl l), (fits_parent (h 0 y) (t 0 y) p (a 0 y) f.0 (omega (arith, b 0 y, node_some p ys c, ap level (first_same p y ys c))), tt))
on h t p (y ∷ ys) c (suc g) x f a b l =
    let r = on (later h) (up t) y ys c g x f.2 (λ i z. a (suc i) z) (λ i z. b (suc i) z) l in (
      y ∷ r.0,
      ap suc r.1,
      final_more y r.0 (omega (arith, r.1)) ∙ r.2,
      (fits_parent (h 0 y) (t 0 y) p (a 0 y) f.0 (omega (arith, b 0 y, node_some p ys c, ap level (first_same p y ys c))), linked_up t 0 y r.0 r.3),
    )

pub lined : (h : History) (t : Tree) → Closed h t → Covered h t → Agrees h t → (g x : ℕ) → held (t g x) ≡ true → (ts : List ℕ) × Line t g x ts
lined h t c k a zero x e = absurd (omega (arith, held_level (t 0 x) e, k.none x))
lined h t c k a (suc g) x e =
    let o = k.covers g x (held_level (t (suc g) x) e) in
    let r = on (later h) (up t) 0 o.tags o.content g x o.follows (λ i z. a (suc i) z)
    (P.path_below (later h) (up t) 0 o.tags o.content c o.follows (omega (arith, o.ends))) o.«on» in
    (r.0, record { long = r.1; ends = r.2; linked = linked_up t 0 0 r.0 r.3 })
