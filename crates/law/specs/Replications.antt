-- The steps of a replication: start, turn, secure, record and finish, each as one relation between the replication's numbers, its two peers, the outcome,
-- and the two peers afterwards. (Abandon asks no peer.)
-- The letters: k are the numbers before the step and m those after it; a is the source and b the target, a' and b' are they afterwards; n and side say with
-- which number and at which side a step is declined, and c how many paths a turn had copied by then.
use Rattle.std.specs.Prelude.{◌≡◌, ℕ, zero, suc, ◌+◌, ◌<◌, ◌≤◌, Bool, true, false, cond, List, [], ◌∷◌, ◌++◌, length, ◌≢◌, nat_eq}
use Rattle.decline.specs.declared.Side.{Side}
use Rattle.decline.specs.declared.Side.TheVariants.{Neither, Source, Target}
use Rattle.revision.specs.Ids.{Id}
use Rattle.revision.specs.Trees.{Tree, held}
use Rattle.revision.specs.Paths.{Path, at_last, Line}
use Rattle.revision.specs.Heads.{Head, Heads}
use Rattle.keys.specs.Keys.{Key, good_rule, passes}
use Rattle.checkpoint.specs.Logs.{Note, listed, Compared}
use Rattle.peer.specs.Records.{Documents, lay, Row, Next, NoRow, First, end}
use Rattle.peer.specs.Peers.{Peer, current, Moved, Failed, Lost, Committed, path, Effect, nothing, writes, paths_in, Reply, answered, declined}
use Rattle.peer.specs.Functions.{PathWrite, LogWrite}

-- The numbers ---------------------------------------------------------------------------------------------------------

-- where an open replication is: a turn leads from ready to copied, secure from there to secured, and record back to ready
pub data Phase : Type 0 where
  ready copied secured : Phase

-- an open replication's numbers: its rule and stamp; the start stamps that it noted; its position, and the last recorded one, else the opening one; the rows
-- read, heads checked and paths copied over the accepted turns; and its phase
pub record Replication : Type 0 where
  pub rule : List ℕ
  pub stamp : ℕ
  pub source_stamp : ℕ
  pub target_stamp : ℕ
  pub position : ℕ
  pub recorded : ℕ
  pub rows : ℕ
  pub heads : ℕ
  pub paths : ℕ
  pub phase : Phase

-- a step is done, with the new numbers, or stopped by a decline: its number, its side, and how many paths a turn had copied by then
pub data Outcome : Type 0 where
  done : Replication → Outcome
  stopped : (number : ℕ) (side : Side) (paths : ℕ) → Outcome

-- the key of a replication from a to b, under which both keep its log
abbrev pub key_of : Peer → Peer → List ℕ → Key
key_of a b rule = record { source = a.number; target = b.number; rule = rule }

-- What every step but start and abandon asks first -----------------------------------------------------------------------

-- both peers are up, with the start stamps that the replication noted
pub record Live (k : Replication) (a b : Peer) : Type 0 where
  pub source_up : a.up ≡ true
  pub target_up : b.up ≡ true
  pub source_stamp : a.stamp ≡ k.source_stamp
  pub target_stamp : b.stamp ≡ k.target_stamp

-- or the step is stopped: 31 from the source, 31 from the target, then 39 where a start stamp differs, of the source first
pub data Barred (k : Replication) (a b : Peer) (n : ℕ) (side : Side) (a' b' : Peer) : Type 0 where
  source_lost : n ≡ 31 → side ≡ Source → Lost a a' → Moved b b' → Barred k a b n side a' b'
  target_lost : n ≡ 31 → side ≡ Target → a.up ≡ true → Moved a a' → Lost b b' → Barred k a b n side a' b'
  source_restarted : n ≡ 39 → side ≡ Source → a.up ≡ true → b.up ≡ true → (a.stamp ≢ k.source_stamp) → Moved a a' → Moved b b' →
      Barred k a b n side a' b'
  target_restarted : n ≡ 39 → side ≡ Target → a.up ≡ true → b.up ≡ true → a.stamp ≡ k.source_stamp → (b.stamp ≢ k.target_stamp) → Moved a a' → Moved b b' →
      Barred k a b n side a' b'

-- Start ---------------------------------------------------------------------------------------------------------------

-- the numbers at the opening
abbrev pub opened : ℕ → List ℕ → ℕ → ℕ → ℕ → Replication
opened s rule from to n = record { rule = rule; stamp = s; source_stamp = from; target_stamp = to; position = n; recorded = n; rows = 0; heads = 0; paths = 0; phase = ready }

-- whether a stamp stands in a peer's log of this key
abbrev pub used : ℕ → Peer → Key → Bool
used s p k = listed nat_eq s ((current p).logs k)

-- An accepted start compares the two logs under its key, notes both start stamps, and opens at that position.
pub record Started (s : ℕ) (rule : List ℕ) (a b : Peer) (m : Replication) (a' b' : Peer) : Type 0 where
  pub stamp : s ≡ 0 → ⊥
  pub no_twin : a.number ≡ b.number → ⊥
  pub good : good_rule rule ≡ true
  pub source_up : a.up ≡ true
  pub target_up : b.up ≡ true
  pub not_in_source : used s a (key_of a b rule) ≡ false
  pub not_in_target : used s b (key_of a b rule) ≡ false
  pub position : ℕ
  pub common : ℕ
  pub compared : Compared nat_eq ((current a).logs (key_of a b rule)) ((current b).logs (key_of a b rule)) position common
  pub opens : m ≡ opened s rule a.stamp b.stamp position
  pub source_moved : Moved a a'
  pub target_moved : Moved b b'

-- A start is declined for its input: 15 stamp 0, 17 twins, 19 no rule; then for the state: 31 from the source, 31 from the target, 38 the stamp stands in a log.
pub data StartStopped (s : ℕ) (rule : List ℕ) (a b : Peer) (n : ℕ) (side : Side) (a' b' : Peer) : Type 0 where
  bad_stamp : n ≡ 15 → side ≡ Neither → s ≡ 0 → a' ≡ a → b' ≡ b → StartStopped s rule a b n side a' b'
  twin : n ≡ 17 → side ≡ Neither → (s ≢ 0) → a.number ≡ b.number → a' ≡ a → b' ≡ b → StartStopped s rule a b n side a' b'
  bad_rule : n ≡ 19 → side ≡ Neither → (s ≢ 0) → (a.number ≢ b.number) → good_rule rule ≡ false → a' ≡ a → b' ≡ b →
      StartStopped s rule a b n side a' b'
  source_lost : n ≡ 31 → side ≡ Source → (s ≢ 0) → (a.number ≢ b.number) → good_rule rule ≡ true → Lost a a' → Moved b b' →
      StartStopped s rule a b n side a' b'
  target_lost : n ≡ 31 → side ≡ Target → (s ≢ 0) → (a.number ≢ b.number) → good_rule rule ≡ true → a.up ≡ true → Moved a a' → Lost b b' →
      StartStopped s rule a b n side a' b'
  source_used : n ≡ 38 → side ≡ Source → (s ≢ 0) → (a.number ≢ b.number) → good_rule rule ≡ true → a.up ≡ true → b.up ≡ true →
      used s a (key_of a b rule) ≡ true → Moved a a' → Moved b b' → StartStopped s rule a b n side a' b'
  target_used : n ≡ 38 → side ≡ Target → (s ≢ 0) → (a.number ≢ b.number) → good_rule rule ≡ true → a.up ≡ true → b.up ≡ true →
      used s a (key_of a b rule) ≡ false → used s b (key_of a b rule) ≡ true → Moved a a' → Moved b b' → StartStopped s rule a b n side a' b'

-- A start.
abbrev pub Start : ℕ → List ℕ → Peer → Peer → Outcome → Peer → Peer → Type 0
Start s rule a b (done m) a' b' = Started s rule a b m a' b'
Start s rule a b (stopped n side c) a' b' = StartStopped s rule a b n side a' b' × (c ≡ 0)

-- Turn ----------------------------------------------------------------------------------------------------------------

-- the path of a head of a document: its line, with its content
pub record PathTo (t : Tree) (d : Id) (h : Head) (p : Path) : Type 0 where
  pub doc : p.doc ≡ d
  pub line : Line t h.generation h.tag p.tags
  pub content : p.content ≡ h.content

-- the paths of some heads, in order
abbrev pub PathsTo : Tree → Id → List Head → List Path → Type 0
PathsTo t d [] [] = Unit
PathsTo t d [] (p ∷ ps) = ⊥
PathsTo t d (h ∷ hs) [] = ⊥
PathsTo t d (h ∷ hs) (p ∷ ps) = PathTo t d h p × PathsTo t d hs ps

-- the paths of a passing document's heads, greatest first; of another document none
abbrev pub PathsOf : Bool → Tree → Id → List Path → Type 0
PathsOf true t d ps = (hs : List Head) × Heads t hs × PathsTo t d hs ps
PathsOf false t d ps = ps ≡ []

-- the paths of some rows, one document after the other
abbrev pub Work : Documents → List ℕ → List Row → List Path → Type 0
Work x rule [] ps = ps ≡ []
Work x rule (row ∷ rows) ps = (qs : List Path) × (rs : List Path) × (ps ≡ qs ++ rs) ×
    PathsOf (passes rule row.0) (x.tree row.0) row.0 qs × Work x rule rows rs

-- which of some paths are written to trees: each whose last revision is not held there by then
abbrev pub missing : (Id → Tree) → List Path → List Path
missing f [] = []
missing f (w ∷ ws) = cond (held (at_last (f w.doc) w)) (missing f ws) (w ∷ missing (lay w f) ws)

-- what an accepted turn goes through: the first 8 rows above the position, of which there is at least one, and the heads of their passing documents
pub record Through (k : Replication) (x : Documents) : Type 0 where
  pub row : Row
  pub rows : List Row
  pub first : First 8 x k.position (row ∷ rows)
  pub heads : List Path
  pub work : Work x k.rule (row ∷ rows) heads

-- paths written to a peer one after the other, each accepted and new, with reads before, between and after
abbrev pub Wrote : Peer → List Path → Peer → Type 0
Wrote p [] q = Moved p q
Wrote p (w ∷ ws) q = (m : Peer) × (n : Peer) × Moved p m × PathWrite w m (answered 1) (writes (path w)) n × Wrote n ws q

-- the numbers after a turn through these rows and heads that wrote these paths
abbrev pub turned : Replication → List Row → List Path → List Path → Replication
turned k rows heads ws = record {
  rule = k.rule;
  stamp = k.stamp;
  source_stamp = k.source_stamp;
  target_stamp = k.target_stamp;
  position = end k.position rows;
  recorded = k.recorded;
  rows = k.rows + length rows;
  heads = k.heads + length heads;
  paths = k.paths + length ws;
  phase = copied;
}

-- An accepted turn: it has gone through those rows, and every path that was missing at the target has been written there.
pub record Turned (k : Replication) (a b : Peer) (memory : ℕ) (ws : List Path) (m : Replication) (a' b' : Peer) : Type 0 where
  pub enough : 1696 ≤ memory
  pub live : Live k a b
  pub through : Through k (current a).docs
  pub all : ws ≡ missing (current b).docs.tree through.heads
  pub wrote : Wrote b ws b'
  pub source_moved : Moved a a'
  pub turns : m ≡ turned k (through.row ∷ through.rows) through.heads ws

-- at most k of the first rows above n, in order
abbrev pub SomeFirst : ℕ → Documents → ℕ → List Row → Type 0
SomeFirst k x n [] = Unit
SomeFirst zero x n (row ∷ rows) = ⊥
SomeFirst (suc k) x n (row ∷ rows) = Next x n row × SomeFirst k x row.1 rows

-- the paths of a first part of a passing document's heads
abbrev pub SomeOf : Bool → Tree → Id → List Path → Type 0
SomeOf true t d ps = (hs : List Head) × (ks : List Head) × Heads t (hs ++ ks) × PathsTo t d hs ps
SomeOf false t d ps = ps ≡ []

-- the paths of some rows, of the last one perhaps not all
abbrev pub SomeWork : Documents → List ℕ → List Row → List Path → Type 0
SomeWork x rule [] ps = ps ≡ []
SomeWork x rule (row ∷ []) ps = SomeOf (passes rule row.0) (x.tree row.0) row.0 ps
SomeWork x rule (row ∷ next ∷ rows) ps = (qs : List Path) × (rs : List Path) × (ps ≡ qs ++ rs) ×
    PathsOf (passes rule row.0) (x.tree row.0) row.0 qs × SomeWork x rule (next ∷ rows) rs

-- what a declined turn has gone through, and the paths ws that were missing at the target up to there
pub record Part (k : Replication) (a b : Peer) (ws : List Path) : Type 0 where
  pub rows : List Row
  pub first : SomeFirst 8 (current a).docs k.position rows
  pub heads : List Path
  pub work : SomeWork (current a).docs k.rule rows heads
  pub all : ws ≡ missing (current b).docs.tree heads

-- A turn is declined: 18 too little memory, and no peer is asked; 31 or 39 as above; 41 no row; then 31 where power fails at either peer, or what a path write
-- declines. c paths were copied by then; ws are the paths that count as accepted, at a power failure perhaps one more.
pub data TurnStopped (k : Replication) (a b : Peer) (memory : ℕ) (ws : List Path) (n : ℕ) (side : Side) (c : ℕ) (a' b' : Peer) : Type 0 where
  short : n ≡ 18 → side ≡ Neither → c ≡ 0 → ws ≡ [] → memory < 1696 → a' ≡ a → b' ≡ b → TurnStopped k a b memory ws n side c a' b'
  barred : c ≡ 0 → ws ≡ [] → 1696 ≤ memory → Barred k a b n side a' b' → TurnStopped k a b memory ws n side c a' b'
  no_row : n ≡ 41 → side ≡ Neither → c ≡ 0 → ws ≡ [] → 1696 ≤ memory → Live k a b → NoRow (current a).docs k.position → Moved a a' → Moved b b' →
      TurnStopped k a b memory ws n side c a' b'
  source_failed : n ≡ 31 → side ≡ Source → c ≡ length ws → 1696 ≤ memory → Live k a b → Part k a b ws → Failed a a' → Wrote b ws b' →
      TurnStopped k a b memory ws n side c a' b'
  target_failed : n ≡ 31 → side ≡ Target → c ≡ length ws → 1696 ≤ memory → Live k a b → Part k a b ws → Moved a a' → (m : Peer) → Wrote b ws m → Failed m b' →
      TurnStopped k a b memory ws n side c a' b'
  write_declined : side ≡ Target → 1696 ≤ memory → Live k a b → (vs : List Path) (w : Path) (counts : Effect) → Part k a b (vs ++ (w ∷ [])) → c ≡ length vs →
      ws ≡ vs ++ paths_in counts → Moved a a' → (m : Peer) → Wrote b vs m → PathWrite w m (declined n) counts b' → TurnStopped k a b memory ws n side c a' b'

-- A turn in which the paths ws count as accepted.
abbrev pub Turns : Replication → Peer → Peer → ℕ → List Path → Outcome → Peer → Peer → Type 0
Turns k a b memory ws (done m) a' b' = Turned k a b memory ws m a' b'
Turns k a b memory ws (stopped n side c) a' b' = TurnStopped k a b memory ws n side c a' b'

-- A turn.
abbrev pub Turn : Replication → Peer → Peer → ℕ → Outcome → Peer → Peer → Type 0
Turn k a b memory o a' b' = (ws : List Path) × Turns k a b memory ws o a' b'

-- Secure, record, finish ----------------------------------------------------------------------------------------------

-- the numbers in another phase, and with this recorded position
abbrev pub in_phase : Phase → ℕ → Replication → Replication
in_phase p n k = record {
  rule = k.rule;
  stamp = k.stamp;
  source_stamp = k.source_stamp;
  target_stamp = k.target_stamp;
  position = k.position;
  recorded = n;
  rows = k.rows;
  heads = k.heads;
  paths = k.paths;
  phase = p;
}

-- An accepted secure has committed both peers, the source first.
pub record Secured (k : Replication) (a b : Peer) (m : Replication) (a' b' : Peer) : Type 0 where
  pub live : Live k a b
  pub source_committed : Committed a a'
  pub target_committed : Committed b b'
  pub secures : m ≡ in_phase secured k.recorded k

-- A secure; it is declined 31 or 39 as above, also where power fails at a commit.
abbrev pub Secure : Replication → Peer → Peer → Outcome → Peer → Peer → Type 0
Secure k a b (done m) a' b' = Secured k a b m a' b'
Secure k a b (stopped n side c) a' b' = Barred k a b n side a' b' × (c ≡ 0)

-- the entry that a record writes to both logs: stamp and position under the key
abbrev pub entry_of : Replication → Peer → Peer → Note
entry_of k a b = record { key = key_of a b k.rule; stamp = k.stamp; position = k.position }

-- a log write, after reads
pub record Logged (n : Note) (p : Peer) (r : Reply Unit) (counts : Effect) (q : Peer) : Type 0 where
  pub middle : Peer
  pub reads : Moved p middle
  pub call : LogWrite n middle r counts q

-- An accepted record has written the entry to the source's log, then to the target's; c and d are the effects that count there.
pub record Recorded (k : Replication) (a b : Peer) (c d : Effect) (m : Replication) (a' b' : Peer) : Type 0 where
  pub live : Live k a b
  pub source_logged : Logged (entry_of k a b) a (answered tt) c a'
  pub target_logged : Logged (entry_of k a b) b (answered tt) d b'
  pub records : m ≡ in_phase ready k.position k

-- A record is declined 31 or 39 as above, then what the source's log write declines, then what the target's does.
pub data RecordStopped (k : Replication) (a b : Peer) (c d : Effect) (n : ℕ) (side : Side) (a' b' : Peer) : Type 0 where
  barred : c ≡ nothing → d ≡ nothing → Barred k a b n side a' b' → RecordStopped k a b c d n side a' b'
  source_declined : side ≡ Source → Live k a b → d ≡ nothing → Logged (entry_of k a b) a (declined n) c a' → Moved b b' →
      RecordStopped k a b c d n side a' b'
  target_declined : side ≡ Target → Live k a b → Logged (entry_of k a b) a (answered tt) c a' → Logged (entry_of k a b) b (declined n) d b' →
      RecordStopped k a b c d n side a' b'

-- A record in which the effects c and d count.
abbrev pub Recordings : Replication → Peer → Peer → Effect → Effect → Outcome → Peer → Peer → Type 0
Recordings k a b c d (done m) a' b' = Recorded k a b c d m a' b'
Recordings k a b c d (stopped n side x) a' b' = RecordStopped k a b c d n side a' b' × (x ≡ 0)

-- A record.
abbrev pub Recording : Replication → Peer → Peer → Outcome → Peer → Peer → Type 0
Recording k a b o a' b' = (c : Effect) × (d : Effect) × Recordings k a b c d o a' b'

-- An accepted finish: no row stands above the position; it hands back the numbers.
pub record Finished (k : Replication) (a b : Peer) (m : Replication) (a' b' : Peer) : Type 0 where
  pub live : Live k a b
  pub no_row : NoRow (current a).docs k.position
  pub source_moved : Moved a a'
  pub target_moved : Moved b b'
  pub same : m ≡ k

-- A finish is declined 31 or 39 as above, then 40 where a row is left.
pub data FinishStopped (k : Replication) (a b : Peer) (n : ℕ) (side : Side) (a' b' : Peer) : Type 0 where
  barred : Barred k a b n side a' b' → FinishStopped k a b n side a' b'
  row_left : n ≡ 40 → side ≡ Neither → Live k a b → (d : Id) → k.position < (current a).docs.last d → Moved a a' → Moved b b' →
      FinishStopped k a b n side a' b'

-- A finish.
abbrev pub Finish : Replication → Peer → Peer → Outcome → Peer → Peer → Type 0
Finish k a b (done m) a' b' = Finished k a b m a' b'
Finish k a b (stopped n side c) a' b' = FinishStopped k a b n side a' b' × (c ≡ 0)
