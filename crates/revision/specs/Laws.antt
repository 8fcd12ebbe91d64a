-- What is true of every tree.
use Rattle.std.specs.Prelude.{◌≡◌, ℕ, ◌≤◌, List, length}
use Rattle.revision.specs.Trees.{Tree, union, Closed}
use Rattle.revision.specs.Paths.{Path, path_tree, Fares, answers}
use Rattle.revision.specs.Heads.{Head, Heads}

pub record TreeLaws : Type 0 where
  -- a path write that is not contradicted makes the union of the tree and the path's own
  pub writes_union : (t : Tree) (w : Path) (u : Tree) (n : ℕ) → Closed t → 1 ≤ length w.tags → Fares t w (answers n) u → u ≡ union t (path_tree w)
  -- a tree has one list of its heads in order
  pub one_list : (t : Tree) (hs ks : List Head) → Heads t hs → Heads t ks → hs ≡ ks
