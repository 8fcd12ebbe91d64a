-- The laws of replication, over whole runs of two peers. What is found at a peer is its current record: the standing one with its waiting writes.
use Rattle.std.specs.Prelude.{◌≡◌, ℕ, ◌≤◌, Bool, true, false, not, List, [], length}
use Rattle.order.specs.Lists.{Mem}
use Rattle.revision.specs.Ids.{Id}
use Rattle.revision.specs.Trees.{Tree, empty, held, union, Holds, Compatible}
use Rattle.revision.specs.Paths.{Path, path_tree, at_last}
use Rattle.revision.specs.Heads.{Head, Heads, winner, conflicts}
use Rattle.keys.specs.Keys.{passes}
use Rattle.peer.specs.Records.{grow}
use Rattle.peer.specs.Peers.{Peer, current, tree_of, path, accept}
use Rattle.peer.specs.Functions.{Lined}
use Rattle.law.specs.Replications.{Replication, done}
use Rattle.law.specs.Runs.{Open, World, StartStep, FinishStep, Run, Only}

-- The premise -----------------------------------------------------------------------------------------------------------

-- The history premise: among these paths no revision of a document has two parents, marks or bodies.
abbrev pub Agreeing : List Path → Type 0
Agreeing ws = (p q : Path) → Mem p ws → Mem q ws → p.doc ≡ q.doc → (g x : ℕ) → Compatible (path_tree p g x) (path_tree q g x)

-- The three laws ------------------------------------------------------------------------------------------------------

-- what a rule lets through of a document's tree
abbrev pub sent : Bool → Tree → Tree
sent true t = t
sent false t = empty

-- Finish: when a replication finishes, each document's tree at the target is exactly the union of the target's own tree at the start, of what others wrote
-- there since, and, if the rule passes the document, of the source's tree now.
abbrev pub Finishes : (Path → Type 0) → Type 0
Finishes Ok = (w v : World) → Run Ok w → (s : ℕ) (r : Open) (m : Replication) → FinishStep s r (done m) w v → (d : Id) →
    tree_of (v.peer (not r.source)) d ≡ union (union (r.own d) (r.others d)) (sent (passes r.numbers.rule d) (tree_of (v.peer r.source) d))

-- Resume: when a replication starts, the target holds the source's tree of every passing document that the source changed last at or before the opening
-- position. So nothing is left out by starting there.
abbrev pub Resumes : (Path → Type 0) → Type 0
Resumes Ok = (w v : World) → Run Ok w → (s : ℕ) (side : Bool) (rule : List ℕ) (m : Replication) → StartStep s side rule (done m) w v → (d : Id) →
    passes rule d ≡ true → (current (v.peer side)).docs.last d ≤ m.position → Holds (tree_of (v.peer (not side)) d) (tree_of (v.peer side) d)

-- two trees are the same, and so are their heads, winners and conflicts
pub record Same (t u : Tree) : Type 0 where
  pub trees : t ≡ u
  pub heads : (hs ks : List Head) → Heads t hs → Heads u ks → hs ≡ ks
  pub winners : (hs ks : List Head) → Heads t hs → Heads u ks → winner hs ≡ winner ks
  pub conflict : (hs ks : List Head) → Heads t hs → Heads u ks → conflicts hs ≡ conflicts ks

-- Converge: when replications of all documents have finished both ways, with only the second one's steps between the two finishes, each document has the
-- same tree on both sides, with the same heads, winner and conflicts.
abbrev pub Converges : (Path → Type 0) → Type 0
Converges Ok = (w u z v : World) → Run Ok w → (s t : ℕ) (r q : Open) (m n : Replication) → r.numbers.rule ≡ [] → q.numbers.rule ≡ [] → q.source ≡ not r.source →
    FinishStep s r (done m) w u → Only Ok t u z → FinishStep t q (done n) z v → (d : Id) → Same (tree_of (v.peer true) d) (tree_of (v.peer false) d)

-- What holds the laws up ------------------------------------------------------------------------------------------------

-- A path at a peer: it is not contradicted; where its last revision is held, all of it is; and once it is accepted, each document's tree is the union with it.
pub record United (p : Peer) (w : Path) : Type 0 where
  pub agreed : (g x : ℕ) → Compatible (tree_of p w.doc g x) (path_tree w g x)
  pub kept : held (at_last (tree_of p w.doc) w) ≡ true → Holds (tree_of p w.doc) (path_tree w)
  pub becomes : (d : Id) → tree_of (accept (path w) p) d ≡ grow w (current p).docs.tree d

-- Unite: every path of a run, of at least one revision, is so at either peer.
abbrev pub Unites : (Path → Type 0) → Type 0
Unites Ok = (w : World) → Run Ok w → (side : Bool) (p : Path) → Ok p → 1 ≤ length p.tags → United (w.peer side) p

-- Line: of every held revision the line of its ancestors stands in the tree.
abbrev pub Lines : (Path → Type 0) → Type 0
Lines Ok = (w : World) → Run Ok w → (side : Bool) → Lined (w.peer side)

-- All together --------------------------------------------------------------------------------------------------------

-- what is true of every run in which only such paths are accepted
pub record LawsOf (Ok : Path → Type 0) : Type 0 where
  pub finishes : Finishes Ok
  pub resumes : Resumes Ok
  pub converges : Converges Ok
  pub unites : Unites Ok
  pub lines : Lines Ok

-- The laws hold of every run whose accepted paths, all among ws, meet the history premise. (The stamp premise is in the runs themselves: no step accepts a
-- stamp twice.)
abbrev pub Laws : Type 0
Laws = (ws : List Path) → Agreeing ws → LawsOf (λ p. Mem p ws)
