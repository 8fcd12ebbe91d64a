-- Revision trees, and their union.
use Rattle.std.specs.Prelude.{◌≡◌, ℕ, suc, Bool, true, false, ◌&&◌, List, length, Some, None, Option, nat_le}

-- what a head keeps: its mark (0 live, 1 deleted) and its body
pub record Content : Type 0 where
  pub mark : ℕ
  pub body : List ℕ

-- a mark is 0 or 1, and a body has at most 96 bytes
abbrev pub good_content : Content → Bool
good_content c = nat_le c.mark 1 && nat_le (length c.body) 96

-- a revision's place in a tree: not there, an inner one with its parent's tag, or a head with its parent's tag and content
-- (a revision of generation 1 has no parent; 0 stands in its place)
pub data Node : Type 0 where
  absent : Node
  inner : ℕ → Node
  head : ℕ → Content → Node

-- a tree says of each generation and tag what stands there; nothing stands at generation 0
abbrev pub Tree : Type 0
Tree = ℕ → ℕ → Node

-- the tree without revisions
abbrev pub empty : Tree
empty g x = absent

-- whether a revision is held
abbrev pub held : Node → Bool
held absent = false
held (inner p) = true
held (head p c) = true

-- the parent's tag, if the revision is held
abbrev pub parent : Node → Option ℕ
parent absent = None
parent (inner p) = Some p
parent (head p c) = Some p

-- the content, if the revision is a head
abbrev pub content_at : Node → Option Content
content_at absent = None
content_at (inner p) = None
content_at (head p c) = Some c

-- 0 absent, 1 head, 2 inner
abbrev pub level : Node → ℕ
level absent = 0
level (head p c) = 1
level (inner p) = 2

-- the union at one revision: it is held where either holds it, and is a head where it is one in each tree that holds it
abbrev pub join : Node → Node → Node
join absent b = b
join (inner p) b = inner p
join (head p c) absent = head p c
join (head p c) (inner q) = inner p
join (head p c) (head q e) = head p c

-- the union of two trees
abbrev pub union : Tree → Tree → Tree
union t u g x = join (t g x) (u g x)

-- a tree holds another if the union with it changes nothing
abbrev pub Holds : Tree → Tree → Type 0
Holds t u = union t u ≡ t

-- two trees can stand beside each other at a revision: one parent, and one content where it is a head in both
abbrev pub Compatible : Node → Node → Type 0
Compatible absent b = Unit
Compatible (inner p) absent = Unit
Compatible (inner p) (inner q) = p ≡ q
Compatible (inner p) (head q e) = p ≡ q
Compatible (head p c) absent = Unit
Compatible (head p c) (inner q) = p ≡ q
Compatible (head p c) (head q e) = (p ≡ q) × (c ≡ e)

-- A closed tree: nothing stands at generation 0, and the parent of a held revision is held and is inner.
pub record Closed (t : Tree) : Type 0 where
  pub none : (x : ℕ) → t 0 x ≡ absent
  pub parents : (g x p : ℕ) → parent (t (suc (suc g)) x) ≡ Some p → level (t (suc g) p) ≡ 2
