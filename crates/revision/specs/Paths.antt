-- Paths, and the rule of a path write.
use Rattle.std.specs.Prelude.{◌≡◌, ℕ, zero, suc, Bool, true, false, cond, not, List, [], ◌∷◌, length, Some, ◌==◌}
use Rattle.order.specs.Lists.{final}
use Rattle.revision.specs.Ids.{Id}
use Rattle.revision.specs.Trees.{Content, Node, absent, inner, head, Tree, held, parent, Compatible}

-- a path: a document, the tags of generations 1 to g, and the content of the last one
pub record Path : Type 0 where
  pub doc : Id
  pub tags : List ℕ
  pub content : Content

-- a revision with this parent and these tags behind it: inner, or the head
abbrev pub last_node : ℕ → List ℕ → Content → Node
last_node p [] c = head p c
last_node p (y ∷ ys) c = inner p

-- tags one after the other, the first with parent p, by place from 0
abbrev pub chain : ℕ → List ℕ → Content → ℕ → ℕ → Node
chain p [] c g x = absent
chain p (y ∷ ys) c zero x = cond (x == y) (last_node p ys c) absent
chain p (y ∷ ys) c (suc g) x = chain y ys c g x

-- the tree of a path alone: its revisions are inner but for the last, its head
abbrev pub path_tree : Path → Tree
path_tree w zero x = absent
path_tree w (suc g) x = chain 0 w.tags w.content g x

-- what a tree has at the last revision of a path
abbrev pub at_last : Tree → Path → Node
at_last t w = t (length w.tags) (final w.tags)

-- a path is contradicted if one of its revisions is held under another parent, or its last one is a head with other content
abbrev pub Contradicted : Tree → Path → Type 0
Contradicted t w = (g : ℕ) × (x : ℕ) × (Compatible (t g x) (path_tree w g x) → ⊥)

-- the tags of generations g and on, the first with parent p, each the parent of the next
abbrev pub Linked : Tree → ℕ → ℕ → List ℕ → Type 0
Linked t g p [] = Unit
Linked t g p (y ∷ ys) = (parent (t g y) ≡ Some p) × Linked t (suc g) y ys

-- the tags of a revision's line, generation 1 first
pub record Line (t : Tree) (g x : ℕ) (tags : List ℕ) : Type 0 where
  pub long : length tags ≡ g
  pub ends : final tags ≡ x
  pub linked : Linked t 1 0 tags

-- The rule for a path whose last revision is not held, at one place of it: a missing revision is added, the last with the content; the
-- newest held ancestor (the one whose next is not held) becomes inner if it was a head; all else stays.
abbrev pub touched : Node → ℕ → List ℕ → Content → Bool → Node
touched absent p ys c next = last_node p ys c
touched (inner q) p ys c next = inner q
touched (head q e) p ys c false = inner q
touched (head q e) p ys c true = head q e

-- places from the next one on
abbrev pub up : (ℕ → ℕ → Node) → ℕ → ℕ → Node
up t g x = t (suc g) x

-- whether the next revision is held (the last has none behind it, and stays)
abbrev pub next_held : (ℕ → ℕ → Node) → List ℕ → Bool
next_held t [] = true
next_held t (y ∷ ys) = held (t 0 y)

-- the rule along tags, the first with parent p, by place from 0
abbrev pub along : (ℕ → ℕ → Node) → ℕ → List ℕ → Content → ℕ → ℕ → Node
along t p [] c g x = t g x
along t p (y ∷ ys) c zero x = cond (x == y) (touched (t 0 y) p ys c (next_held (up t) ys)) (t 0 x)
along t p (y ∷ ys) c (suc g) x = along (up t) y ys c g x

-- the tree after the write of a path
abbrev pub written : Tree → Path → Tree
written t w zero x = t 0 x
written t w (suc g) x = along (up t) 0 w.tags w.content g x

-- whether a path that is not contradicted changes the tree: its last revision is not held
abbrev pub changes : Tree → Path → Bool
changes t w = not (held (at_last t w))

-- what a path write answers
pub data Outcome : Type 0 where
  answers : ℕ → Outcome
  declines : ℕ → Outcome

-- A path written to a tree, what is answered, and the tree afterwards: a contradicted path is declined 34; one whose last revision is held changes
-- nothing and is answered 0; any other is written and answered 1.
pub data Fares (t : Tree) (w : Path) : Outcome → Tree → Type 0 where
  contradicted : Contradicted t w → Fares t w (declines 34) t
  known : (Contradicted t w → ⊥) → changes t w ≡ false → Fares t w (answers 0) t
  added : (Contradicted t w → ⊥) → changes t w ≡ true → Fares t w (answers 1) (written t w)
