-- Trees of one history by generation: what Places shows of places from 0, with nothing at generation 0.
use Rattle.std.proofs.Common.{◌≡◌, ℕ, zero, suc, ◌≤◌, max, List, [], ◌∷◌, length, Some, sym, refl, ap, ◌∙◌, subst, arith}
use Rattle.order.specs.Lists.{final}
use Rattle.revision.specs.Trees.{Content, Node, absent, inner, head, Tree, union, held, parent, level}
use Rattle.revision.specs.Trees as S
use Rattle.revision.specs.Paths.{chain, up, Path, path_tree, at_last, along, written}
use Rattle.revision.proofs.Places.{History, later, Follows, Fits, Below, Agrees, level_join, fits_compatible}
use Rattle.revision.proofs.Places as P
use Rattle.revision.proofs.Writes as W

abbrev pub last_level : Tree → Path → ℕ
last_level t w = level (at_last t w)

-- a path that keeps to the history
abbrev pub Keeps : History → Path → Type 0
Keeps h w = (1 ≤ length w.tags) × Follows (later h) 0 w.tags w.content

-- a parent is held, and is inner
abbrev pub Closed : History → Tree → Type 0
Closed h t = P.Closed (later h) (up t)

-- every revision that is held lies on the path of a head
pub record Covered (h : History) (t : Tree) : Type 0 where
  pub none : (x : ℕ) → level (t 0 x) ≡ 0
  pub covers : P.Covered (later h) (up t)

-- the last revision of tags, by generation and by place
last_up : (t : Tree) (ts : List ℕ) → 1 ≤ length ts → level (t (length ts) (final ts)) ≡ P.last_level (up t) ts
last_up t [] l = absurd (omega arith)
last_up t (y ∷ []) l = refl
last_up t (y ∷ z ∷ zs) l = last_up (up t) (z ∷ zs) (omega arith)

pub path_below : (h : History) (t : Tree) (w : Path) → Closed h t → Keeps h w → 1 ≤ last_level t w → Below (path_tree w) t
path_below h t w k f l zero x = omega arith
path_below h t w k f l (suc g) x = P.path_below (later h) (up t) 0 w.tags w.content k f.1 (omega (arith, last_up t w.tags f.0)) g x

pub last_union : (t u : Tree) (w : Path) → last_level (union t u) w ≡ max (last_level t w) (last_level u w)
last_union t u w = level_join (at_last t w) (at_last u w)

pub last_tree : (w : Path) → 1 ≤ length w.tags → last_level (path_tree w) w ≡ 1
last_tree w l = last_up (path_tree w) w.tags l ∙ go w.tags l
  where
    go : (ts : List ℕ) → 1 ≤ length ts → P.last_level (chain 0 ts w.content) ts ≡ 1
    go [] l = absurd (omega arith)
    go (y ∷ ys) l = P.last_chain 0 y ys w.content

pub closed_union : (h : History) (t : Tree) (w : Path) → Closed h t → Keeps h w → Closed h (union t (path_tree w))
closed_union h t w k f = P.closed_union (later h) (up t) (chain 0 w.tags w.content) k (P.chain_closed (later h) 0 w.tags w.content f.1)

pub path_agrees : (h : History) (w : Path) → Keeps h w → Agrees h (path_tree w)
path_agrees h w f zero x = tt
path_agrees h w f (suc g) x = P.chain_agrees (later h) 0 w.tags w.content f.1 g x

pub covered_union : (h : History) (t : Tree) (w : Path) → Keeps h w → Covered h t → last_level t w ≡ 0 → Covered h (union t (path_tree w))
covered_union h t w f k z = record {
  none = λ x. omega (arith, k.none x, level_join (t 0 x) absent);
  covers = go w.tags f.0 f.1 z;
}
  where
    go : (ts : List ℕ) → 1 ≤ length ts → Follows (later h) 0 ts w.content → level (t (length ts) (final ts)) ≡ 0 → P.Covered (later h) (union (up t) (chain 0 ts w.content))
    go [] l f z = absurd (omega arith)
    go (y ∷ ys) l f z = P.covered_union (later h) (up t) y ys w.content f k.covers (sym (last_up t (y ∷ ys) l) ∙ z)

pub heads_enough : (h : History) (t u : Tree) → Covered h t → Closed h u → ((g x : ℕ) → level (t g x) ≡ 1 → 1 ≤ level (u g x)) → Below t u
heads_enough h t u k c hd zero x = omega (arith, k.none x)
heads_enough h t u k c hd (suc g) x = P.heads_enough (later h) (up t) (up u) k.covers c (λ a b. hd (suc a) b) g x

-- a held node of a history has the parent that the history says
parent_fits : (h : ℕ × Content) (n : Node) (p : ℕ) → Fits h n → parent n ≡ Some p → (1 ≤ level n) × (h.0 ≡ p)
parent_fits h absent p f e = absurd (let z : ◌≡◌ {A = ℕ} 0 1 = cc in omega arith)
parent_fits h (inner q) p f e = (omega arith, let g : q ≡ h.0 = f in cc)
parent_fits h (head q c) p f e = (omega arith, let g : q ≡ h.0 = f.0 in cc)

nothing_there : (n : Node) → level n ≡ 0 → n ≡ absent
nothing_there absent e = refl
nothing_there (inner p) e = absurd (omega arith)
nothing_there (head p c) e = absurd (omega arith)

-- a tree of a history, in the words of the model
pub closed_tree : (h : History) (t : Tree) → Closed h t → Agrees h t → ((x : ℕ) → level (t 0 x) ≡ 0) → S.Closed t
closed_tree h t k a n = record {
  none = λ x. nothing_there (t 0 x) (n x);
  parents = λ g x p e. let f = parent_fits (h (suc (suc g)) x) (t (suc (suc g)) x) p (a (suc (suc g)) x) e in
      subst (λ (q : ℕ). level (t (suc g) q) ≡ 2) f.1 (k g x f.0);
}

-- the rule for a path write makes the union
pub written_union : (h : History) (t : Tree) (w : Path) → Closed h t → Agrees h t → ((x : ℕ) → level (t 0 x) ≡ 0) → Keeps h w → last_level t w ≡ 0 → written t w ≡ union t (path_tree w)
written_union h t w k a n f z =
    W.written_union t w (closed_tree h t k a n) f.0 (λ c. c.2 (fits_compatible (h c.0 c.1) (t c.0 c.1) (path_tree w c.0 c.1) (a c.0 c.1) (path_agrees h w f c.0 c.1)))
    (ap held (nothing_there (at_last t w) z))

-- the rule for a path write keeps all, adds no more than the path, and gives the last revision
pub written_above : (t : Tree) (w : Path) → Below t (written t w)
written_above t w zero x = omega arith
written_above t w (suc g) x = P.along_above (up t) 0 w.tags w.content g x

pub written_least : (t v : Tree) (w : Path) → Below t v → Below (path_tree w) v → Below (written t w) v
written_least t v w h k zero x = h 0 x
written_least t v w h k (suc g) x = P.along_least (up t) (up v) 0 w.tags w.content (λ a b. h (suc a) b) (λ a b. k (suc a) b) g x

pub written_last : (t : Tree) (w : Path) → 1 ≤ length w.tags → 1 ≤ last_level (written t w) w
written_last t w l = go w.tags l (last_up (written t w) w.tags l)
  where
    go : (ts : List ℕ) → 1 ≤ length ts → level (at_last (written t w) w) ≡ P.last_level (along (up t) 0 ts w.content) ts → 1 ≤ level (at_last (written t w) w)
    go [] l e = absurd (omega arith)
    go (y ∷ ys) l e = omega (arith, P.along_last (up t) 0 y ys w.content)
