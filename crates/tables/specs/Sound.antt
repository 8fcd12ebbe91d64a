-- The condition that the tables keep.
use Rattle.std.specs.Prelude.{◌≡◌, ℕ, ◌<◌, ◌≤◌, Bool, true, List, length, is_some, Some, vec_items, vec_capacity, slice_index_or}
use Rattle.revision.specs.Ids.{Id, IsId, good_generation, good_tag}
use Rattle.revision.specs.Trees.{parent, Closed}
use Rattle.keys.specs.Keys.{Key}
use Rattle.checkpoint.specs.Values.{pairs, entries_of}
use Rattle.entries.specs.declared.Document.{Document}
use Rattle.entries.specs.declared.HeldRevision.{HeldRevision}
use Rattle.entries.specs.declared.Content.{Content}
use Rattle.entries.specs.declared.KeyedLog.{KeyedLog}
use Rattle.tables.specs.declared.Tables.{Tables}
use Rattle.entries.specs.Searches.{Once, Every, count}
use Rattle.entries.specs.Entries.{is_revision, is_document, is_log, tree_at}

-- every document has a good id that stands once, and a last change number of its own, from 1 to the highest
pub record SoundDocuments (ds : List Document) (highest : ℕ) : Type 0 where
  pub ids : Every (λ e. IsId e.id.bytes) ds
  pub once : (id : Id) → Once (is_document id) ds
  pub numbered : Every (λ e. (1 ≤ e.last) × (e.last ≤ highest)) ds
  pub apart : (i j : ℕ) (z : Document) → i < length ds → j < length ds → (slice_index_or ds i z).last ≡ (slice_index_or ds j z).last → i ≡ j

-- whether an entry has a slot
abbrev pub has_slot : HeldRevision → Bool
has_slot r = is_some r.slot

-- every revision has a document, a good generation and a good tag, and stands once; parents are held and inner, those of generation 1 are 0; every slot is
-- a head's, and each head has one of its own; no body has more than 96 bytes
pub record SoundRevisions (documents : ℕ) (rs : List HeldRevision) (cs : List Content) : Type 0 where
  pub owned : Every (λ r. r.document < documents) rs
  pub generations : Every (λ r. good_generation r.generation ≡ true) rs
  pub tags : Every (λ r. good_tag r.tag ≡ true) rs
  pub once : (d g x : ℕ) → Once (is_revision d g x) rs
  pub closed : (d : ℕ) → Closed (tree_at rs cs d)
  pub roots : (d x p : ℕ) → parent (tree_at rs cs d 1 x) ≡ Some p → p ≡ 0
  pub slots : (i s : ℕ) (z : HeldRevision) → i < length rs → (slice_index_or rs i z).slot ≡ Some s → s < length cs
  pub own_slots : (i j s : ℕ) (z : HeldRevision) → i < length rs → j < length rs → (slice_index_or rs i z).slot ≡ Some s → (slice_index_or rs j z).slot ≡ Some s → i ≡ j
  pub all_slots : count has_slot rs ≡ length cs
  pub bodies : Every (λ c. c.length ≤ 96) cs

-- every log stands once, and has an entry: no place is taken by a log that was never written
pub record SoundLogs (ls : List KeyedLog) : Type 0 where
  pub once : (k : Key) → Once (is_log k) ls
  pub written : Every (λ l. 1 ≤ length (pairs (entries_of l.log))) ls

-- memory is reserved for 32 documents, 1,024 revisions, 64 heads and 8 logs, and there are no more
pub record Reserved (t : Tables) : Type 0 where
  pub documents : (32 ≤ vec_capacity t.documents) × (length (vec_items t.documents) ≤ 32)
  pub revisions : (1024 ≤ vec_capacity t.revisions) × (length (vec_items t.revisions) ≤ 1024)
  pub contents : (64 ≤ vec_capacity t.contents) × (length (vec_items t.contents) ≤ 64)
  pub logs : (8 ≤ vec_capacity t.logs) × (length (vec_items t.logs) ≤ 8)

-- the tables are sound
pub record Sound (t : Tables) : Type 0 where
  pub documents : SoundDocuments (vec_items t.documents) t.highest
  pub revisions : SoundRevisions (length (vec_items t.documents)) (vec_items t.revisions) (vec_items t.contents)
  pub logs : SoundLogs (vec_items t.logs)
  pub reserved : Reserved t
