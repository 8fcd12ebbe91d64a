-- What a peer means, and the one relation of all its calls but the number and the wake.
use Rattle.std.specs.Prelude.{◌≡◌, ℕ, Bool, true, false, cond, not, ◌⊎◌, List, [], ◌∷◌, ◌++◌, Some, None, Option, ◌≢◌, nat_eq}
use Rattle.peer.specs.Waiting.{after, Stage, Shift}
use Rattle.revision.specs.Ids.{Id}
use Rattle.revision.specs.Trees.{Tree}
use Rattle.revision.specs.Paths.{Path}
use Rattle.revision.specs.Paths as Paths
use Rattle.checkpoint.specs.Logs.{Note, settled, enter}
use Rattle.peer.specs.Records.{put, Record}

-- The state -----------------------------------------------------------------------------------------------------------

-- what can be written to a peer: a path, or a log entry
pub data Write : Type 0 where
  path : Path → Write
  entry : Note → Write

-- A peer: its number, its start stamp, whether it is up, its standing record, the paths and the log writes that wait to move into it, each in order, and which
-- writes it has room for.
pub record Peer : Type 0 where
  pub number : ℕ
  pub stamp : ℕ
  pub up : Bool
  pub standing : Record
  pub paths : List Path
  pub notes : List Note
  pub room : Write → Bool

-- the current record: the standing one with both waiting lists applied
abbrev pub current : Peer → Record
current p = record { docs = after put p.standing.docs p.paths; logs = after enter p.standing.logs p.notes }

-- a document's tree in the current record
abbrev pub tree_of : Peer → Id → Tree
tree_of p d = (current p).docs.tree d

-- whether a write changes a record: the path's last revision is not held; the entry is not there
abbrev pub changes : Write → Record → Bool
changes (path w) r = Paths.changes (r.docs.tree w.doc) w
changes (entry n) r = not (settled nat_eq n.stamp n.position (r.logs n.key))

-- a write waits at the end of its list
abbrev pub wait : Write → Peer → Peer
wait (path w) p = record {
  number = p.number;
  stamp = p.stamp;
  up = p.up;
  standing = p.standing;
  paths = p.paths ++ (w ∷ []);
  notes = p.notes;
  room = p.room;
}
wait (entry n) p = record {
  number = p.number;
  stamp = p.stamp;
  up = p.up;
  standing = p.standing;
  paths = p.paths;
  notes = p.notes ++ (n ∷ []);
  room = p.room;
}

-- an accepted write waits if it changes something
abbrev pub accept : Write → Peer → Peer
accept w p = cond (changes w (current p)) (wait w p) p

-- What may happen to a peer ---------------------------------------------------------------------------------------------

-- a first part of either list, each by itself, has moved into the standing record
pub record Moved (p q : Peer) : Type 0 where
  pub number : q.number ≡ p.number
  pub stamp : q.stamp ≡ p.stamp
  pub up : q.up ≡ p.up
  pub docs : Shift put p.standing.docs p.paths q.standing.docs q.paths
  pub logs : Shift enter p.standing.logs p.notes q.standing.logs q.notes

-- a record that would stand if a first part of either list, each by itself, moved
abbrev pub Possible : Peer → Record → Type 0
Possible p r = Stage put p.standing.docs p.paths r.docs × Stage enter p.standing.logs p.notes r.logs

-- power failed: a first part has moved, the rest is lost, and the peer is down
pub record Failed (p q : Peer) : Type 0 where
  pub number : q.number ≡ p.number
  pub stamp : q.stamp ≡ p.stamp
  pub down : q.up ≡ false
  pub standing : Possible p q.standing
  pub no_path : q.paths ≡ []
  pub no_note : q.notes ≡ []

-- what 31 from a peer means: it was down, or power fails now
abbrev pub Lost : Peer → Peer → Type 0
Lost p q = ((p.up ≡ false) × (q ≡ p)) ⊎ ((p.up ≡ true) × Failed p q)

-- both lists have moved whole
pub record Committed (p q : Peer) : Type 0 where
  pub moved : Moved p q
  pub no_path : q.paths ≡ []
  pub no_note : q.notes ≡ []

-- the number that a peer tells, never 0
abbrev pub Number : Peer → ℕ → Type 0
Number p a = (a ≡ p.number) × (a ≢ 0)

-- The one relation ----------------------------------------------------------------------------------------------------

-- what a call does to the lists
pub data Effect : Type 0 where
  nothing : Effect
  writes : Write → Effect
  commits : Effect

-- the path that an effect writes, if it writes one
abbrev pub paths_in : Effect → List Path
paths_in nothing = []
paths_in (writes (path w)) = w ∷ []
paths_in (writes (entry n)) = []
paths_in commits = []

-- the peer with the write of an effect that counts as accepted
abbrev pub joined : Effect → Peer → Peer
joined nothing p = p
joined (writes w) p = accept w p
joined commits p = p

-- what an accepted effect does
abbrev pub Effected : Effect → Peer → Peer → Type 0
Effected nothing p q = Moved p q
Effected (writes w) p q = Moved (accept w p) q
Effected commits p q = Committed p q

-- what a call replies: an answer, or a decline with its number
pub data Reply (A : Type 0) : Type 0 where
  answered : A → Reply A
  declined : ℕ → Reply A

-- A call is answered: its input is good, the peer is up, and its state declines nothing.
pub record Answered (p : Peer) (input : Option ℕ) (Verdict : Option ℕ → Type 0) (effect counts : Effect) (q : Peer) : Type 0 where
  pub good : input ≡ None
  pub up : p.up ≡ true
  pub accepted : Verdict None
  pub counted : counts ≡ effect
  pub effected : Effected effect p q

-- A call is declined with number n, for its input first; then since the peer is down; then since power fails, where a write counts as accepted or as not; then
-- for its state.
pub data Declined (p : Peer) (input : Option ℕ) (Verdict : Option ℕ → Type 0) (effect : Effect) (n : ℕ) (counts : Effect) (q : Peer) : Type 0 where
  by_input : input ≡ Some n → counts ≡ nothing → Moved p q → Declined p input Verdict effect n counts q
  by_down : input ≡ None → n ≡ 31 → p.up ≡ false → counts ≡ nothing → q ≡ p → Declined p input Verdict effect n counts q
  by_power : input ≡ None → n ≡ 31 → p.up ≡ true → (counts ≡ nothing) ⊎ ((counts ≡ effect) × Verdict None) → Failed (joined counts p) q →
      Declined p input Verdict effect n counts q
  by_state : input ≡ None → p.up ≡ true → Verdict (Some n) → counts ≡ nothing → Moved p q → Declined p input Verdict effect n counts q

-- The one relation of calls: the peer before, the verdict on the input, what the verdict of the state may be, what may be answered, the effect, the reply, the
-- effect that counts, the peer after. A verdict is None, or the number to decline with.
abbrev pub Called : {A : Type 0} → Peer → Option ℕ → (Option ℕ → Type 0) → (A → Type 0) → Effect → Reply A → Effect → Peer → Type 0
Called p input Verdict Answer effect (answered a) counts q = Answered p input Verdict effect counts q × Answer a
Called p input Verdict Answer effect (declined n) counts q = Declined p input Verdict effect n counts q
