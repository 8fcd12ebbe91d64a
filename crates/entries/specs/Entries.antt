-- What the entries of the tables say in the words of the model.
use Rattle.std.specs.Prelude.{ℕ, Bool, ◌&&◌, List, [], get_or, take, Some, None, Option, ◌==◌, slice_index_or}
use Rattle.octets.specs.Packed.{unpacked}
use Rattle.order.specs.Lists.{same}
use Rattle.revision.specs.declared.Mark.TheVariants.{Live}
use Rattle.revision.specs.Ids.{Id}
use Rattle.revision.specs.Trees as Trees
use Rattle.revision.specs.Trees.{Node, absent, inner, head, Tree, empty}
use Rattle.revision.specs.Values.{mark_number}
use Rattle.keys.specs.Keys.{Key, same_key}
use Rattle.keys.specs.Values.{key_of}
use Rattle.checkpoint.specs.Logs.{Entries, Logs}
use Rattle.checkpoint.specs.Values.{pairs, entries_of}
use Rattle.entries.specs.declared.Document.{Document}
use Rattle.entries.specs.declared.HeldRevision.{HeldRevision}
use Rattle.entries.specs.declared.Content.{Content}
use Rattle.entries.specs.declared.KeyedLog.{KeyedLog}
use Rattle.entries.specs.Searches.{first, place}
use Rattle.peer.specs.Records.{Documents}

-- Revisions -----------------------------------------------------------------------------------------------------------

-- the mark and the body that a content keeps
abbrev pub content_of : Content → Trees.Content
content_of c = record { mark = mark_number c.mark; body = take c.length c.body }

-- a mark and a body
abbrev pub content : ℕ → List ℕ → Trees.Content
content m b = record { mark = m; body = b }

-- a content that says nothing, for a slot that is not there
abbrev pub no_content : Content
no_content = record { mark = Live; length = 0; body = [] }

-- the node of a revision by its parent's tag and its slot
abbrev pub slotted : List Content → ℕ → Option ℕ → Node
slotted cs p None = inner p
slotted cs p (Some s) = head p (content_of (slice_index_or cs s no_content))

-- the node of an entry, if there is one
abbrev pub node_of : List Content → Option HeldRevision → Node
node_of cs None = absent
node_of cs (Some r) = slotted cs r.parent r.slot

-- whether an entry is that of a document's revision; documents go by their places
abbrev pub is_revision : ℕ → ℕ → ℕ → HeldRevision → Bool
is_revision d g x r = r.document == d && (r.generation == g && r.tag == x)

-- the tree of the document at a place
abbrev pub tree_at : List HeldRevision → List Content → ℕ → Tree
tree_at rs cs d g x = node_of cs (first (is_revision d g x) rs)

-- an entry that says nothing, for a place that is not there
abbrev pub no_revision : HeldRevision
no_revision = record { document = 0; generation = 0; tag = 0; parent = 0; slot = None }

-- the slot of the entry at a place, if it is a head's
abbrev pub slot_at : List HeldRevision → Option ℕ → Option ℕ
slot_at rs None = None
slot_at rs (Some i) = (get_or rs i no_revision).slot

-- Documents -----------------------------------------------------------------------------------------------------------

-- whether an entry is that of the document with an id
abbrev pub is_document : Id → Document → Bool
is_document id e = same (unpacked e.id.bytes) id

-- the tree of a document by its place; empty where it has none
abbrev pub tree_from : List HeldRevision → List Content → Option ℕ → Tree
tree_from rs cs None = empty
tree_from rs cs (Some i) = tree_at rs cs i

-- the last change number of an entry; 0 where there is none
abbrev pub last_of : Option Document → ℕ
last_of None = 0
last_of (Some e) = e.last

-- the documents of some entries, with the highest change number
abbrev pub documents_in : List Document → List HeldRevision → List Content → ℕ → Documents
documents_in ds rs cs n = record {
  tree = λ id. tree_from rs cs (place (is_document id) 0 ds);
  last = λ id. last_of (first (is_document id) ds);
  highest = n;
}

-- Logs ----------------------------------------------------------------------------------------------------------------

-- whether an entry is the log of a key
abbrev pub is_log : Key → KeyedLog → Bool
is_log k e = same_key (key_of e.key) k

-- the entries of a log; none where there is no log
abbrev pub entries_in : Option KeyedLog → Entries ℕ
entries_in None = []
entries_in (Some e) = pairs (entries_of e.log)

-- the logs of some entries
abbrev pub logs_in : List KeyedLog → Logs
logs_in ls k = entries_in (first (is_log k) ls)
