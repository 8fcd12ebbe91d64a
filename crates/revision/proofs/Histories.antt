-- The one history of paths that agree with each other: of each revision the parent and the content that some path gives it.
use Rattle.std.proofs.Common.{◌≡◌, ℕ, suc, Bool, true, false, cond, List, [], ◌∷◌, sym, refl, subst, inl, inr}
use Rattle.std.proofs.lemmas.Bool.{eq-eqb}
use Rattle.order.specs.Lists.{same, Mem}
use Rattle.order.proofs.Lists.{same_true, same_self}
use Rattle.revision.specs.Ids.{Id}
use Rattle.revision.specs.Trees.{Content, Node, absent, inner, head, Compatible}
use Rattle.revision.specs.Paths.{chain, last_node, Path, path_tree}
use Rattle.revision.proofs.Places.{History, later, Ends, Follows, Fits, Agrees}

-- the history that a list of paths tells
abbrev parent_of : Node → ℕ → ℕ
parent_of absent n = n
parent_of (inner p) n = p
parent_of (head p c) n = p

abbrev content_of : Node → Content → Content
content_of absent n = n
content_of (inner p) n = n
content_of (head p c) n = c

abbrev told_by : Node → ℕ × Content → ℕ × Content
told_by n h = (parent_of n h.0, content_of n h.1)

abbrev pub hist : List Path → Id → History
hist [] d g x = (0, record { mark = 0; body = [] })
hist (p ∷ ps) d g x = cond (same p.doc d) (told_by (path_tree p g x) (hist ps d g x)) (hist ps d g x)

fits_told : (n : Node) (h : ℕ × Content) → Fits (told_by n h) n
fits_told absent h = tt
fits_told (inner p) h = refl
fits_told (head p c) h = (refl, refl)

fits_more : (m n : Node) (h : ℕ × Content) → Compatible m n → Fits h n → Fits (told_by m h) n
fits_more absent n h c f = fits_same n h f
  where
    fits_same : (n : Node) (h : ℕ × Content) → Fits h n → Fits (h.0, h.1) n
    fits_same absent h f = tt
    fits_same (inner q) h f = f
    fits_same (head q e) h f = f
fits_more (inner p) absent h c f = tt
fits_more (inner p) (inner q) h c f = sym c
fits_more (inner p) (head q e) h c f = (sym c, f.1)
fits_more (head p d) absent h c f = tt
fits_more (head p d) (inner q) h c f = sym c
fits_more (head p d) (head q e) h c f = (sym c.0, sym c.1)

pub fits_hist : (ws : List Path) (p : Path) → ((q : Path) → Mem q ws → q.doc ≡ p.doc → (g x : ℕ) → Compatible (path_tree q g x) (path_tree p g x)) → Mem p ws → (g x : ℕ) → Fits (hist ws p.doc g x) (path_tree p g x)
fits_hist [] p k m g x = absurd m
fits_hist (q ∷ qs) p k (inl e) g x =
    subst (λ (z : Path). Fits (cond (same z.doc p.doc) (told_by (path_tree z g x) (hist qs p.doc g x)) (hist qs p.doc g x)) (path_tree p g x)) e
    (subst (λ (b : Bool). Fits (cond b (told_by (path_tree p g x) (hist qs p.doc g x)) (hist qs p.doc g x)) (path_tree p g x)) (sym (same_self p.doc))
    (fits_told (path_tree p g x) (hist qs p.doc g x)))
fits_hist (q ∷ qs) p k (inr m) g x = go (same q.doc p.doc) refl (fits_hist qs p (λ z n. k z (inr n)) m g x)
  where
    go : (b : Bool) → same q.doc p.doc ≡ b → Fits (hist qs p.doc g x) (path_tree p g x) → Fits (cond b (told_by (path_tree q g x) (hist qs p.doc g x)) (hist qs p.doc g x)) (path_tree p g x)
    go true e f = fits_more (path_tree q g x) (path_tree p g x) (hist qs p.doc g x) (k q (inl refl) (same_true q.doc p.doc e) g x) f
    go false e f = f

-- a path whose tree agrees with a history keeps to it
pub follows_from : (h : History) (p : ℕ) (ys : List ℕ) (c : Content) → Agrees h (chain p ys c) → Follows h p ys c
follows_from h p [] c k = tt
follows_from h p (y ∷ ys) c k = (here_parent ys first, here_ends ys first, follows_from (later h) y ys c (λ g x. k (suc g) x))
  where
    first : Fits (h 0 y) (last_node p ys c)
    first = subst (λ (b : Bool). Fits (h 0 y) (cond b (last_node p ys c) absent)) (eq-eqb y y refl) (k 0 y)

    here_parent : (zs : List ℕ) → Fits (h 0 y) (last_node p zs c) → p ≡ (h 0 y).0
    here_parent [] f = f.0
    here_parent (z ∷ zs) f = f

    here_ends : (zs : List ℕ) → Fits (h 0 y) (last_node p zs c) → Ends (h 0 y) zs c
    here_ends [] f = f.1
    here_ends (z ∷ zs) f = tt
