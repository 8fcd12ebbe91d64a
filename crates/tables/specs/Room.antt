-- Which writes there is room for.
use Rattle.std.specs.Prelude.{ℕ, suc, ◌+◌, Bool, true, false, cond, ◌&&◌, List, [], ◌∷◌, length, is_some, vec_items, nat_le, nat_lt}
use Rattle.revision.specs.Trees.{Node, absent, inner, head, Tree, held}
use Rattle.peer.specs.Peers.{Write, path, entry}
use Rattle.tables.specs.declared.Tables.{Tables}
use Rattle.entries.specs.Searches.{place}
use Rattle.entries.specs.Entries.{is_document, is_log}
use Rattle.tables.specs.Tables.{documents_of}

-- how many of a path's revisions, from generation g on, a tree does not hold
abbrev pub missing : Tree → ℕ → List ℕ → ℕ
missing t g [] = 0
missing t g (y ∷ ys) = cond (held (t g y)) 0 1 + missing t (suc g) ys

-- whether a node is a head
abbrev pub is_head : Node → Bool
is_head absent = false
is_head (inner p) = false
is_head (head p c) = true

-- whether the newest held one of a path's revisions, from generation g on, is a head; b says so of those before
abbrev pub newest_head : Tree → ℕ → Bool → List ℕ → Bool
newest_head t g b [] = b
newest_head t g b (y ∷ ys) = newest_head t (suc g) (cond (held (t g y)) (is_head (t g y)) b) ys

-- one more, unless it is there
abbrev pub one_more : Bool → ℕ
one_more there = cond there 0 1

-- There is room where after the write there are at most 32 documents, 1,024 revisions and 64 heads in all, with a change number below 2^32, and 8 logs. The new
-- head takes the place of the newest held ancestor, if that is one.
abbrev pub room_in : Tables → Write → Bool
room_in t (path w) =
    nat_le (length (vec_items t.documents) + one_more (is_some (place (is_document w.doc) 0 (vec_items t.documents)))) 32 &&
    (nat_le (length (vec_items t.revisions) + missing ((documents_of t).tree w.doc) 1 w.tags) 1024 &&
    (nat_le (length (vec_items t.contents) + one_more (newest_head ((documents_of t).tree w.doc) 1 false w.tags)) 64 && nat_lt t.highest 4294967295))
room_in t (entry n) = nat_le (length (vec_items t.logs) + one_more (is_some (place (is_log n.key) 0 (vec_items t.logs)))) 8
