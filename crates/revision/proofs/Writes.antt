-- A path write that is not contradicted makes the union with the path's tree.
-- Places count generations from 0, so that an induction along the tags can go up by one.
use Rattle.std.proofs.Common.{◌≡◌, ℕ, zero, suc, ◌≤◌, Bool, true, false, cond, eqb, List, [], ◌∷◌, length, Some, sym, refl, ap, ◌∙◌, subst, ⊎_elim, arith}
use mathlib.Core.Path.{fun_ext}
use Rattle.std.proofs.lemmas.Bool.{eqb-true, eq-eqb, cases_eq, not-true, not-false}
use Rattle.order.specs.Lists.{final}
use Rattle.revision.specs.Trees.{Content, Node, absent, inner, head, Tree, join, union, held, level, parent, Compatible, Closed}
use Rattle.revision.specs.Paths.{Path, path_tree, last_node, chain, up, next_held, touched, along, written, at_last, Contradicted, Fares, answers, known, added}

pub join_absent : (a : Node) → a ≡ join a absent
join_absent absent = refl
join_absent (inner p) = refl
join_absent (head p c) = refl

-- compatible nodes have one parent
compatible_parents : (a b : Node) (p q : ℕ) → Compatible a b → parent a ≡ Some p → parent b ≡ Some q → p ≡ q
compatible_parents absent b p q k e f = absurd (let z : ◌≡◌ {A = ℕ} 0 1 = cc in omega arith)
compatible_parents (inner r) absent p q k e f = absurd (let z : ◌≡◌ {A = ℕ} 0 1 = cc in omega arith)
compatible_parents (inner r) (inner s) p q k e f = cc
compatible_parents (inner r) (head s d) p q k e f = cc
compatible_parents (head r c) absent p q k e f = absurd (let z : ◌≡◌ {A = ℕ} 0 1 = cc in omega arith)
compatible_parents (head r c) (inner s) p q k e f = cc
compatible_parents (head r c) (head s d) p q k e f = let i : r ≡ s = k.0 in cc

-- what two trees hold they hold under one parent
abbrev Agree : Tree → Tree → Type 0
Agree t u = (g x p q : ℕ) → parent (t g x) ≡ Some p → parent (u g x) ≡ Some q → p ≡ q

not_contradicted : (t : Tree) (w : Path) → (Contradicted t w → ⊥) → Agree t (path_tree w)
not_contradicted t w n g x p q e f = ⊎_elim (λ (s : p ≡ q). s) (λ (d : p ≡ q → ⊥). absurd (n (g, x, λ k. d (compatible_parents (t g x) (path_tree w g x) p q k e f)))) (cases_eq p q)

-- places whose parents are held and inner
abbrev ClosedPlaces : Tree → Type 0
ClosedPlaces t = (g x p : ℕ) → parent (t (suc g) x) ≡ Some p → level (t g p) ≡ 2

-- what places have at the last of some tags
abbrev ends : Tree → List ℕ → Node
ends t [] = absent
ends t (y ∷ []) = t 0 y
ends t (y ∷ z ∷ zs) = ends (up t) (z ∷ zs)

ends_at_last : (t : Tree) (ts : List ℕ) → 1 ≤ length ts → t (length ts) (final ts) ≡ ends (up t) ts
ends_at_last t [] l = absurd (omega arith)
ends_at_last t (y ∷ []) l = refl
ends_at_last t (y ∷ z ∷ zs) l = ends_at_last (up t) (z ∷ zs) (omega arith)

-- a held node has a parent
pub parent_of : (a : Node) → held a ≡ true → (p : ℕ) × (parent a ≡ Some p)
parent_of absent e = absurd (let z : ◌≡◌ {A = ℕ} 0 1 = cc in omega arith)
parent_of (inner p) e = (p, refl)
parent_of (head p c) e = (p, refl)

-- the first revision of a chain has its parent
first_parent : (p y : ℕ) (ys : List ℕ) (c : Content) → parent (chain p (y ∷ ys) c 0 y) ≡ Some p
first_parent p y ys c = rw (eq-eqb y y refl) (go ys)
  where
    go : (ys : List ℕ) → parent (last_node p ys c) ≡ Some p
    go [] = refl
    go (z ∷ zs) = refl

-- where the next revision of a path is held, this one is inner
next_inner : (t : Tree) (p y z : ℕ) (zs : List ℕ) (c : Content) → ClosedPlaces t → Agree t (chain p (y ∷ z ∷ zs) c) → held (t 1 z) ≡ true → level (t 0 y) ≡ 2
next_inner t p y z zs c k a h =
    let o = parent_of (t 1 z) h in
    let e : o.0 ≡ y = a 1 z o.0 y o.1 (first_parent y z zs c) in
    subst (λ (q : ℕ). level (t 0 q) ≡ 2) e (k 0 z o.0 o.1)

pub level_held : (a : Node) → level a ≡ 2 → held a ≡ true
level_held absent e = absurd (omega arith)
level_held (inner p) e = refl
level_held (head p c) e = refl

-- where the last revision of a path is held, the first is
first_held : (t : Tree) (p y : ℕ) (ys : List ℕ) (c : Content) → ClosedPlaces t → Agree t (chain p (y ∷ ys) c) → held (ends t (y ∷ ys)) ≡ true → held (t 0 y) ≡ true
first_held t p y [] c k a h = h
first_held t p y (z ∷ zs) c k a h =
    level_held (t 0 y) (next_inner t p y z zs c k a (first_held (up t) y z zs c (λ g. k (suc g)) (λ g. a (suc g)) h))

-- a missing last revision: the write's rule at each place is the union
along_union : (t : Tree) (p y : ℕ) (ys : List ℕ) (c : Content) → ClosedPlaces t → Agree t (chain p (y ∷ ys) c) → held (ends t (y ∷ ys)) ≡ false →
    (g x : ℕ) → along t p (y ∷ ys) c g x ≡ union t (chain p (y ∷ ys) c) g x
along_union t p y ys c k a h zero x = go (eqb x y) refl
  where
    node : (n : Node) (ys : List ℕ) → t 0 y ≡ n → Agree t (chain p (y ∷ ys) c) → held (ends t (y ∷ ys)) ≡ false → touched n p ys c (next_held (up t) ys) ≡ join n (last_node p ys c)
    node absent ys e a h = refl
    node (inner q) ys e a h = refl
    node (head q d) [] e a h = absurd (let z : true ≡ false = ap held (sym e) ∙ h in let u : ◌≡◌ {A = ℕ} 0 1 = cc in omega arith)
    node (head q d) (v ∷ vs) e a h = pick (held (t 1 v)) refl
      where
        pick : (b : Bool) → held (t 1 v) ≡ b → touched (head q d) p (v ∷ vs) c b ≡ inner q
        pick false f = refl
        pick true f = absurd (omega (arith, ap level e, next_inner t p y v vs c k a f))

    go : (b : Bool) → eqb x y ≡ b → cond b (touched (t 0 y) p ys c (next_held (up t) ys)) (t 0 x) ≡ join (t 0 x) (cond b (last_node p ys c) absent)
    go true e = subst (λ (i : ℕ). touched (t 0 y) p ys c (next_held (up t) ys) ≡ join (t 0 i) (last_node p ys c)) (sym (eqb-true x y e)) (node (t 0 y) ys refl a h)
    go false e = join_absent (t 0 x)
along_union t p y [] c k a h (suc g) x = join_absent (t (suc g) x)
along_union t p y (v ∷ vs) c k a h (suc g) x = along_union (up t) y v vs c (λ i. k (suc i)) (λ i. a (suc i)) h g x

-- a held last revision: the union changes nothing
held_union : (t : Tree) (p y : ℕ) (ys : List ℕ) (c : Content) → ClosedPlaces t → Agree t (chain p (y ∷ ys) c) → held (ends t (y ∷ ys)) ≡ true →
    (g x : ℕ) → t g x ≡ union t (chain p (y ∷ ys) c) g x
held_union t p y ys c k a h zero x = go (eqb x y) refl
  where
    node : (n : Node) (ys : List ℕ) → t 0 y ≡ n → Agree t (chain p (y ∷ ys) c) → held (ends t (y ∷ ys)) ≡ true → n ≡ join n (last_node p ys c)
    node absent ys e a h = absurd (let z : false ≡ true = ap held (sym e) ∙ first_held t p y ys c k a h in let u : ◌≡◌ {A = ℕ} 0 1 = cc in omega arith)
    node (inner q) ys e a h = refl
    node (head q d) [] e a h = refl
    node (head q d) (v ∷ vs) e a h = absurd (omega (arith, ap level e, next_inner t p y v vs c k a (first_held (up t) y v vs c (λ i. k (suc i)) (λ i. a (suc i)) h)))

    go : (b : Bool) → eqb x y ≡ b → t 0 x ≡ join (t 0 x) (cond b (last_node p ys c) absent)
    go true e = subst (λ (i : ℕ). t 0 i ≡ join (t 0 i) (last_node p ys c)) (sym (eqb-true x y e)) (node (t 0 y) ys refl a h)
    go false e = join_absent (t 0 x)
held_union t p y [] c k a h (suc g) x = join_absent (t (suc g) x)
held_union t p y (v ∷ vs) c k a h (suc g) x = held_union (up t) y v vs c (λ i. k (suc i)) (λ i. a (suc i)) h g x

module _ (t : Tree) (w : Path) (k : Closed t) (l : 1 ≤ length w.tags) (n : Contradicted t w → ⊥) where
  agree : Agree (up t) (chain 0 w.tags w.content)
  agree g = not_contradicted t w n (suc g)

  pub written_union : held (at_last t w) ≡ false → written t w ≡ union t (path_tree w)
  written_union h = fun_ext (λ g. fun_ext (λ x. at_each g x))
    where
      go : (ts : List ℕ) → 1 ≤ length ts → Agree (up t) (chain 0 ts w.content) → held (ends (up t) ts) ≡ false → (g x : ℕ) → along (up t) 0 ts w.content g x ≡ union (up t) (chain 0 ts w.content) g x
      go [] l a h g x = absurd (omega arith)
      go (y ∷ ys) l a h g x = along_union (up t) 0 y ys w.content k.parents a h g x

      at_each : (g x : ℕ) → written t w g x ≡ union t (path_tree w) g x
      at_each zero x = join_absent (t 0 x)
      at_each (suc g) x = go w.tags l agree (ap held (sym (ends_at_last t w.tags l)) ∙ h) g x

  pub known_union : held (at_last t w) ≡ true → t ≡ union t (path_tree w)
  known_union h = fun_ext (λ g. fun_ext (λ x. at_each g x))
    where
      go : (ts : List ℕ) → 1 ≤ length ts → Agree (up t) (chain 0 ts w.content) → held (ends (up t) ts) ≡ true → (g x : ℕ) → up t g x ≡ union (up t) (chain 0 ts w.content) g x
      go [] l a h g x = absurd (omega arith)
      go (y ∷ ys) l a h g x = held_union (up t) 0 y ys w.content k.parents a h g x

      at_each : (g x : ℕ) → t g x ≡ union t (path_tree w) g x
      at_each zero x = join_absent (t 0 x)
      at_each (suc g) x = go w.tags l agree (ap held (sym (ends_at_last t w.tags l)) ∙ h) g x

pub writes_union : (t : Tree) (w : Path) (u : Tree) (n : ℕ) → Closed t → 1 ≤ length w.tags → Fares t w (answers n) u → u ≡ union t (path_tree w)
writes_union t w u n k l (known m h) = known_union t w k l m (not-false (held (at_last t w)) h)
writes_union t w u n k l (added m h) = written_union t w k l m (not-true (held (at_last t w)) h)
