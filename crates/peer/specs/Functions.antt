-- The functions of a peer. For each there is its verdict on the input, the verdict of the state, its answer and its effect; so a call of it is an instance of the
-- one relation of calls. Wake has a relation of its own.
use Rattle.std.specs.Prelude.{◌≡◌, ℕ, ◌*◌, ◌<◌, ◌≤◌, Bool, true, false, cond, not, ◌&&◌, List, [], ◌∷◌, ◌++◌, length, drop, Some, None, Option, ◌==◌, ◌≢◌, nat_le}
use Rattle.order.specs.Lists.{nth, every}
use Rattle.octets.specs.BigEndian.{eights}
use Rattle.revision.specs.Ids.{Id, good_id, good_generation, good_tag}
use Rattle.revision.specs.Trees.{Content, good_content, held, content_at}
use Rattle.revision.specs.Paths.{Path, Contradicted, Line}
use Rattle.revision.specs.Heads.{Head, Heads}
use Rattle.decline.specs.Verdicts.{first_failed}
use Rattle.keys.specs.Keys.{key_in, key_tests}
use Rattle.checkpoint.specs.Logs.{Note}
use Rattle.peer.specs.Records.{put, Record, Row, RowAfter}
use Rattle.peer.specs.Peers.{Write, path, entry, Peer, current, tree_of, changes, Effect, nothing, writes, commits, Reply, answered, declined, Called}

-- Verdicts ------------------------------------------------------------------------------------------------------------

-- no peer has room past change number 2^32 - 1, or past 64 heads of a document
abbrev pub Bounded : Write → Record → Type 0
Bounded (path w) r = (r.docs.highest < 4294967295) × ((hs : List Head) → Heads ((put w r.docs).tree w.doc) hs → length hs ≤ 64)
Bounded (entry n) r = Unit

-- a peer has room for a write within those bounds
abbrev pub Room : Peer → Write → Type 0
Room p w = (p.room w ≡ true) × Bounded w (current p)

-- full: the write would change something and has no room
abbrev pub Full : Peer → Write → Type 0
Full p w = (changes w (current p) ≡ true) × (Room p w → ⊥)

-- of a path write: 34 contradicted, then 35 full
pub data PathVerdict (p : Peer) (w : Path) : Option ℕ → Type 0 where
  contradicted : Contradicted (tree_of p w.doc) w → PathVerdict p w (Some 34)
  full : (Contradicted (tree_of p w.doc) w → ⊥) → Full p (path w) → PathVerdict p w (Some 35)
  fine : (Contradicted (tree_of p w.doc) w → ⊥) → (Full p (path w) → ⊥) → PathVerdict p w None

-- of a log write: 35 full
pub data NoteVerdict (p : Peer) (n : Note) : Option ℕ → Type 0 where
  full : Full p (entry n) → NoteVerdict p n (Some 35)
  fine : (Full p (entry n) → ⊥) → NoteVerdict p n None

-- where something is asked for: 37 if it is not there
abbrev pub found : {A : Type 0} → Option A → Option ℕ
found None = Some 37
found (Some a) = None

-- Writes of good input --------------------------------------------------------------------------------------------------

-- a path write answers 1 if it changes something, else 0
abbrev pub path_answer : Peer → Path → ℕ
path_answer p w = cond (changes (path w) (current p)) 1 0

-- a path write
abbrev pub PathWrite : Path → Peer → Reply ℕ → Effect → Peer → Type 0
PathWrite w p = Called p None (PathVerdict p w) (λ a. a ≡ path_answer p w) (writes (path w))

-- a log write
abbrev pub LogWrite : Note → Peer → Reply Unit → Effect → Peer → Type 0
LogWrite n p = Called p None (NoteVerdict p n) (λ a. Unit) (writes (entry n))

-- The functions -------------------------------------------------------------------------------------------------------

-- the functions but number and wake, with their input; lent memory is given by its length
pub data Function : Type 0 where
  start_stamp : Function
  row_after : (n : ℕ) → Function
  head_count : (id : Id) → Function
  head_at : (id : Id) (i : ℕ) → Function
  is_held : (id : Id) (generation tag : ℕ) → Function
  tags_of : (id : Id) (generation tag memory : ℕ) → Function
  body_of : (id : Id) (generation tag memory : ℕ) → Function
  log_entry : (key : List ℕ) (i : ℕ) → Function
  log_write : (key : List ℕ) (stamp position : ℕ) → Function
  commit : Function
  path_write : (id : Id) (generation : ℕ) (tags : List ℕ) (mark : ℕ) (body : List ℕ) → Function

-- the type of the answer
abbrev pub Answer : Function → Type 0
Answer start_stamp = ℕ
Answer (row_after n) = Option Row
Answer (head_count id) = ℕ
Answer (head_at id i) = Option (ℕ × ℕ)
Answer (is_held id g x) = Bool
Answer (tags_of id g x m) = List ℕ
Answer (body_of id g x m) = Content
Answer (log_entry k i) = Option (ℕ × ℕ)
Answer (log_write k s n) = Unit
Answer commit = Unit
Answer (path_write id g ts m b) = ℕ

-- the path that is given: its tags are 8 bytes each
abbrev pub path_given : Id → ℕ → List ℕ → ℕ → List ℕ → Path
path_given id g ts m b = record { doc = id; tags = eights g ts; content = record { mark = m; body = b } }

-- the log write that is given: its key is 25 bytes
abbrev pub note_given : List ℕ → ℕ → ℕ → Note
note_given k s n = record { key = key_in k; stamp = s; position = n }

-- the verdict on the input: 11 id, 12 revision, 13 mark, 14 body, 15 stamp, 16 number, 18 memory, 19 rule
abbrev pub input : Function → Option ℕ
input start_stamp = None
input (row_after n) = None
input (head_count id) = first_failed ((good_id id, 11) ∷ [])
input (head_at id i) = first_failed ((good_id id, 11) ∷ [])
input (is_held id g x) = first_failed ((good_id id, 11) ∷ (good_generation g, 12) ∷ [])
input (tags_of id g x m) = first_failed ((good_id id, 11) ∷ (good_generation g, 12) ∷ (nat_le 1600 m, 18) ∷ [])
input (body_of id g x m) = first_failed ((good_id id, 11) ∷ (good_generation g, 12) ∷ (nat_le 96 m, 18) ∷ [])
input (log_entry k i) = first_failed (key_tests k)
input (log_write k s n) = first_failed ((not (s == 0), 15) ∷ key_tests k)
input commit = None
input (path_write id g ts m b) = first_failed ((good_id id, 11) ∷ (good_generation g && (length ts == 8 * g), 12) ∷ (nat_le m 1, 13) ∷ (nat_le (length b) 96, 14) ∷ [])

-- the verdict of the state: 34 contradiction, 35 full, 37 absent
abbrev pub Verdict : Function → Peer → Option ℕ → Type 0
Verdict start_stamp p v = v ≡ None
Verdict (row_after n) p v = v ≡ None
Verdict (head_count id) p v = v ≡ None
Verdict (head_at id i) p v = v ≡ None
Verdict (is_held id g x) p v = v ≡ None
Verdict (tags_of id g x m) p v = v ≡ cond (held (tree_of p id g x)) None (Some 37)
Verdict (body_of id g x m) p v = v ≡ found (content_at (tree_of p id g x))
Verdict (log_entry k i) p v = v ≡ None
Verdict (log_write k s n) p v = NoteVerdict p (note_given k s n) v
Verdict commit p v = v ≡ None
Verdict (path_write id g ts m b) p v = PathVerdict p (path_given id g ts m b) v

-- a head's revision
abbrev pub revision : Option Head → Option (ℕ × ℕ)
revision None = None
revision (Some h) = Some (h.generation, h.tag)

-- a row with a good id, or none
abbrev pub good_row : Option Row → Bool
good_row None = true
good_row (Some row) = good_id row.0

-- a revision with a good generation, or none
abbrev pub good_revision : Option (ℕ × ℕ) → Bool
good_revision None = true
good_revision (Some r) = good_generation r.0

-- what is answered, from the current record; ids, generations, tags and contents that are answered are good ones
abbrev pub Answers : (f : Function) → Peer → Answer f → Type 0
Answers start_stamp p a = a ≡ p.stamp
Answers (row_after n) p a = RowAfter (current p).docs n a × (good_row a ≡ true)
Answers (head_count id) p a = (hs : List Head) × Heads (tree_of p id) hs × (a ≡ length hs)
Answers (head_at id i) p a = (hs : List Head) × Heads (tree_of p id) hs × (a ≡ revision (nth hs i)) × (good_revision a ≡ true)
Answers (is_held id g x) p a = a ≡ held (tree_of p id g x)
Answers (tags_of id g x m) p a = Line (tree_of p id) g x a × (every good_tag a ≡ true)
Answers (body_of id g x m) p a = (content_at (tree_of p id g x) ≡ Some a) × (good_content a ≡ true)
Answers (log_entry k i) p a = a ≡ nth ((current p).logs (key_in k)) i
Answers (log_write k s n) p a = Unit
Answers commit p a = Unit
Answers (path_write id g ts m b) p a = a ≡ path_answer p (path_given id g ts m b)

-- what a function does to the lists
abbrev pub effect : Function → Effect
effect start_stamp = nothing
effect (row_after n) = nothing
effect (head_count id) = nothing
effect (head_at id i) = nothing
effect (is_held id g x) = nothing
effect (tags_of id g x m) = nothing
effect (body_of id g x m) = nothing
effect (log_entry k i) = nothing
effect (log_write k s n) = writes (entry (note_given k s n))
effect commit = commits
effect (path_write id g ts m b) = writes (path (path_given id g ts m b))

-- a call of a function, with the effect that counts
abbrev pub Calls : (f : Function) → Peer → Reply (Answer f) → Effect → Peer → Type 0
Calls f p = Called p (input f) (Verdict f p) (Answers f p) (effect f)

-- a call of a function, whatever counts of its effect: this is what its contract says
abbrev pub Call : (f : Function) → Peer → Reply (Answer f) → Peer → Type 0
Call f p r q = (counts : Effect) × Calls f p r counts q

-- lent memory: an answer fills its front and leaves the bytes behind, and a decline leaves all of it
abbrev pub Filled : {A : Type 0} → (A → List ℕ) → Reply A → List ℕ → List ℕ → Type 0
Filled out (answered a) before now = now ≡ out a ++ drop (length (out a)) before
Filled out (declined n) before now = now ≡ before

-- Lines ---------------------------------------------------------------------------------------------------------------

-- of every held revision the line of its ancestors stands in the tree
abbrev pub Lined : Peer → Type 0
Lined p = (d : Id) (g x : ℕ) → held (tree_of p d g x) ≡ true → (tags : List ℕ) × Line (tree_of p d) g x tags

-- Wake ----------------------------------------------------------------------------------------------------------------

-- woken with a stamp: both lists are emptied, the standing record stays
pub record Woken (s : ℕ) (p q : Peer) : Type 0 where
  pub number : q.number ≡ p.number
  pub stamp : q.stamp ≡ s
  pub up : q.up ≡ true
  pub standing : q.standing ≡ p.standing
  pub no_path : q.paths ≡ []
  pub no_note : q.notes ≡ []

-- left down, with the standing record
pub record LeftDown (p q : Peer) : Type 0 where
  pub number : q.number ≡ p.number
  pub stamp : q.stamp ≡ p.stamp
  pub down : q.up ≡ false
  pub standing : q.standing ≡ p.standing
  pub no_path : q.paths ≡ []
  pub no_note : q.notes ≡ []

-- a wake: 15 stamp 0, then 31 power failed, 42 no file
pub data Wake (s : ℕ) (p : Peer) : Reply Unit → Peer → Type 0 where
  bad_stamp : s ≡ 0 → Wake s p (declined 15) p
  power : (q : Peer) → (s ≢ 0) → LeftDown p q → Wake s p (declined 31) q
  no_file : (q : Peer) → (s ≢ 0) → LeftDown p q → Wake s p (declined 42) q
  woken : (q : Peer) → (s ≢ 0) → Woken s p q → Wake s p (answered tt) q
