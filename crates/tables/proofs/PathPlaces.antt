-- The rule of a path write, and the tree of a path, by places from 0.
use Rattle.std.proofs.Common.{◌≡◌, ℕ, zero, suc, ◌<◌, ◌≤◌, Bool, true, cond, eqb, List, [], ◌∷◌, length, get_or, drop, refl, ap, ◌∙◌, arith}
use Rattle.order.specs.Lists.{final}
use Rattle.revision.specs.Trees.{Content, absent, Tree, held}
use Rattle.revision.specs.Paths.{last_node, chain, up, next_held, touched, along}

-- the tag before place i; p before the first
abbrev pub before : ℕ → List ℕ → ℕ → ℕ
before p ts zero = p
before p [] (suc i) = p
before p (y ∷ ys) (suc i) = before y ys i

-- whether the revision after place i is held, if the path has one
abbrev pub next_at : Tree → ℕ → List ℕ → Bool
next_at t i [] = true
next_at t i (y ∷ ys) = held (t (suc i) y)

next_first : (t : Tree) (ys : List ℕ) → next_held (up t) ys ≡ next_at t 0 ys
next_first t [] = refl
next_first t (y ∷ ys) = refl

next_up : (t : Tree) (i : ℕ) (ys : List ℕ) → next_at (up t) i ys ≡ next_at t (suc i) ys
next_up t i [] = refl
next_up t i (y ∷ ys) = refl

pub along_at : (t : Tree) (p : ℕ) (ts : List ℕ) (c : Content) (i x : ℕ) → i < length ts →
    along t p ts c i x ≡ cond (eqb x (get_or ts i 0)) (touched (t i (get_or ts i 0)) (before p ts i) (drop (suc i) ts) c (next_at t i (drop (suc i) ts))) (t i x)
along_at t p [] c i x l = absurd (omega arith)
along_at t p (y ∷ ys) c zero x l = ap (λ (b : Bool). cond (eqb x y) (touched (t 0 y) p ys c b) (t 0 x)) (next_first t ys)
along_at t p (y ∷ ys) c (suc i) x l =
    along_at (up t) y ys c i x (omega arith)
    ∙ ap (λ (b : Bool). cond (eqb x (get_or ys i 0)) (touched (t (suc i) (get_or ys i 0)) (before y ys i) (drop (suc i) ys) c b) (t (suc i) x)) (next_up t i (drop (suc i) ys))

pub along_past : (t : Tree) (p : ℕ) (ts : List ℕ) (c : Content) (i x : ℕ) → length ts ≤ i → along t p ts c i x ≡ t i x
along_past t p [] c i x l = refl
along_past t p (y ∷ ys) c zero x l = absurd (omega arith)
along_past t p (y ∷ ys) c (suc i) x l = along_past (up t) y ys c i x (omega arith)

pub chain_at : (p : ℕ) (ts : List ℕ) (c : Content) (i x : ℕ) → i < length ts → chain p ts c i x ≡ cond (eqb x (get_or ts i 0)) (last_node (before p ts i) (drop (suc i) ts) c) absent
chain_at p [] c i x l = absurd (omega arith)
chain_at p (y ∷ ys) c zero x l = refl
chain_at p (y ∷ ys) c (suc i) x l = chain_at y ys c i x (omega arith)

pub chain_past : (p : ℕ) (ts : List ℕ) (c : Content) (i x : ℕ) → length ts ≤ i → chain p ts c i x ≡ absent
chain_past p [] c i x l = refl
chain_past p (y ∷ ys) c zero x l = absurd (omega arith)
chain_past p (y ∷ ys) c (suc i) x l = chain_past y ys c i x (omega arith)

pub final_at : (y : ℕ) (ys : List ℕ) → final (y ∷ ys) ≡ get_or (y ∷ ys) (length ys) 0
final_at y [] = refl
final_at y (z ∷ zs) = final_at z zs

-- what is behind place i: nothing at the last, else the next tag and more
pub behind_last : (ts : List ℕ) (i : ℕ) → suc i ≡ length ts → drop (suc i) ts ≡ []
behind_last [] i e = absurd (omega arith)
behind_last (y ∷ []) zero e = refl
behind_last (y ∷ z ∷ zs) zero e = absurd (omega arith)
behind_last (y ∷ ys) (suc i) e = behind_last ys i (omega arith)

pub behind_more : (ts : List ℕ) (i : ℕ) → suc i < length ts → drop (suc i) ts ≡ get_or ts (suc i) 0 ∷ drop (suc (suc i)) ts
behind_more [] i l = absurd (omega arith)
behind_more (y ∷ []) i l = absurd (omega arith)
behind_more (y ∷ z ∷ zs) zero l = refl
behind_more (y ∷ z ∷ zs) (suc i) l = behind_more (z ∷ zs) i (omega arith)

pub before_at : (p : ℕ) (ts : List ℕ) (i : ℕ) → suc i < length ts → before p ts (suc i) ≡ get_or ts i 0
before_at p [] i l = absurd (omega arith)
before_at p (y ∷ ys) zero l = refl
before_at p (y ∷ ys) (suc i) l = before_at y ys i (omega arith)
