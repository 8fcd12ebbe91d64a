-- Records: documents with their last change numbers, the rows of the feed, and logs.
use Rattle.std.specs.Prelude.{◌≡◌, ℕ, zero, suc, ◌<◌, ◌≤◌, cond, List, [], ◌∷◌, Some, None, Option}
use Rattle.order.specs.Lists.{same}
use Rattle.revision.specs.Ids.{Id}
use Rattle.revision.specs.Trees.{Tree, empty, union}
use Rattle.revision.specs.Paths.{Path, path_tree, written}
use Rattle.checkpoint.specs.Logs.{Logs}

-- what path writes change: each document's tree and last change number (0: none), and the highest one
pub record Documents : Type 0 where
  pub tree : Id → Tree
  pub last : Id → ℕ
  pub highest : ℕ

-- each document's tree, the union with a path's for its document
abbrev pub grow : Path → (Id → Tree) → Id → Tree
grow w f d = cond (same w.doc d) (union (f d) (path_tree w)) (f d)

-- each document's tree, with a path written by its rule
abbrev pub lay : Path → (Id → Tree) → Id → Tree
lay w f d = cond (same w.doc d) (written (f d) w) (f d)

-- a path write that changes something: the path is written, and the next change number is the document's last
abbrev pub put : Path → Documents → Documents
put w x = record { tree = lay w x.tree; last = λ d. cond (same w.doc d) (suc x.highest) (x.last d); highest = suc x.highest }

-- a record
pub record Record : Type 0 where
  pub docs : Documents
  pub logs : Logs

-- no trees
abbrev pub no_trees : Id → Tree
no_trees d = empty

-- no documents
abbrev pub no_documents : Documents
no_documents = record { tree = no_trees; last = λ d. 0; highest = 0 }

-- no log entries
abbrev pub no_entries : Logs
no_entries k = []

-- the empty record
abbrev pub blank : Record
blank = record { docs = no_documents; logs = no_entries }

-- a row of the feed is a document and its last change number
abbrev pub Row : Type 0
Row = Id × ℕ

-- the row after n has the smallest last change number above n
pub record Next (x : Documents) (n : ℕ) (row : Row) : Type 0 where
  pub last : x.last row.0 ≡ row.1
  pub above : n < row.1
  pub least : (d : Id) → n < x.last d → row.1 ≤ x.last d

-- no row stands above n
abbrev pub NoRow : Documents → ℕ → Type 0
NoRow x n = (d : Id) → x.last d ≤ n

-- the row after n, or none
abbrev pub RowAfter : Documents → ℕ → Option Row → Type 0
RowAfter x n (Some row) = Next x n row
RowAfter x n None = NoRow x n

-- the first k rows above n in order, all if there are fewer
abbrev pub First : ℕ → Documents → ℕ → List Row → Type 0
First zero x n [] = Unit
First zero x n (row ∷ rows) = ⊥
First (suc k) x n [] = NoRow x n
First (suc k) x n (row ∷ rows) = Next x n row × First k x row.1 rows

-- the last row's number
abbrev pub end : ℕ → List Row → ℕ
end n [] = n
end n (row ∷ rows) = end row.1 rows
