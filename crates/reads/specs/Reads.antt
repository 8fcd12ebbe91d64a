-- What the calls that read the tables promise, in the words of the model.
use Rattle.std.specs.Prelude.{◌≡◌, ℕ, List, filter, Some, None, Ok, Err, vec_items, Option, Result, nat_lt}
use Rattle.decline.specs.declared.Fault.{Fault}
use Rattle.decline.specs.Faults.{bare}
use Rattle.revision.specs.Ids.{Id}
use Rattle.revision.specs.Trees.{absent}
use Rattle.peer.specs.Peers.{answered}
use Rattle.peer.specs.Functions.{Function, Answer, Filled}
use Rattle.entries.specs.declared.Document.{Document}
use Rattle.entries.specs.declared.HeldRevision.{HeldRevision}
use Rattle.tables.specs.declared.Tables.{Tables}
use Rattle.tables.specs.Tables.{documents_of}
use Rattle.entries.specs.Searches.{first}
use Rattle.entries.specs.Entries.{is_revision, tree_at}
use Rattle.tables.specs.Calls.{Refused, Answered}

-- a call that reads the tables: what it answers means an answer of the model
abbrev pub Reads : {A : Type 0} (f : Function) → (A → Answer f) → Tables → Result A Fault → Type 0
Reads f mean t (Ok a) = Answered f t (mean a)
Reads f mean t (Err e) = (n : ℕ) × (e ≡ bare n) × Refused f t n

-- a call that reads into lent memory, which held the bytes before: what is handed out tells of the answer
abbrev pub ReadsInto : {A : Type 0} (f : Function) → (Answer f → List ℕ) → (A → Answer f → Type 0) → Tables → List ℕ → Result A Fault → List ℕ → Type 0
ReadsInto f out Tells t before (Ok a) now = (x : Answer f) × Answered f t x × Tells a x × Filled out (answered x) before now
ReadsInto f out Tells t before (Err e) now = (n : ℕ) × (e ≡ bare n) × Refused f t n × (now ≡ before)

-- Look-ups ------------------------------------------------------------------------------------------------------------

-- an entry is that of its revision
abbrev pub IsEntry : Tables → HeldRevision → Type 0
IsEntry t r = first (is_revision r.document r.generation r.tag) (vec_items t.revisions) ≡ Some r

-- the entry of a revision, whose tree is that of the entry's document; none where the tree has nothing
abbrev pub HasEntry : Tables → Id → ℕ → ℕ → Option HeldRevision → Type 0
HasEntry t id g x None = (documents_of t).tree id g x ≡ absent
HasEntry t id g x (Some r) =
    ((documents_of t).tree id ≡ tree_at (vec_items t.revisions) (vec_items t.contents) r.document) × IsEntry t r × (r.generation ≡ g) × (r.tag ≡ x)

-- the documents that have changed after n
abbrev pub changed_after : ℕ → List Document → List Document
changed_after n ds = filter (λ d. nat_lt n d.last) ds
