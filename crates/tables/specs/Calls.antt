-- What the calls on the tables promise, in the words of the model.
use Rattle.std.specs.Prelude.{◌≡◌, ℕ, true, cond, ◌⊎◌, [], Some, None, Ok, Err, Result}
use Rattle.decline.specs.declared.Fault.{Fault}
use Rattle.decline.specs.Faults.{bare}
use Rattle.revision.specs.Paths.{Path}
use Rattle.checkpoint.specs.Logs.{enter}
use Rattle.peer.specs.Records.{Record, put}
use Rattle.peer.specs.Peers.{Peer, Write, path, entry, changes}
use Rattle.peer.specs.Functions.{Function, Answer, Answers, Verdict, input, PathVerdict, path_answer}
use Rattle.tables.specs.declared.Tables.{Tables}
use Rattle.tables.specs.Tables.{record_of}
use Rattle.tables.specs.Room.{room_in}

-- Calls ---------------------------------------------------------------------------------------------------------------

-- a peer that is up, stands on the tables and has no write waiting
abbrev pub peer_on : Tables → Peer
peer_on t = record { number = 0; stamp = 0; up = true; standing = record_of t; paths = []; notes = []; room = room_in t }

-- a function is declined with a number: for its input first, then for the record
abbrev pub Refused : Function → Tables → ℕ → Type 0
Refused f t n = (input f ≡ Some n) ⊎ ((input f ≡ None) × Verdict f (peer_on t) (Some n))

-- a function is answered
abbrev pub Answered : (f : Function) → Tables → Answer f → Type 0
Answered f t a = (input f ≡ None) × Verdict f (peer_on t) None × Answers f (peer_on t) a

-- the record after a write: it changes only where the write changes something
abbrev pub applied : Write → Record → Record
applied (path w) r = record { docs = cond (changes (path w) r) (put w r.docs) r.docs; logs = r.logs }
applied (entry n) r = record { docs = r.docs; logs = cond (changes (entry n) r) (enter n r.logs) r.logs }

-- a call that writes: an answered one leaves the record with the write, a declined one leaves all as it was
abbrev pub Writes : {A : Type 0} (f : Function) → (A → Answer f) → Write → Tables → Result A Fault → Tables → Type 0
Writes f mean w t (Ok a) u = Answered f t (mean a) × (record_of u ≡ applied w (record_of t))
Writes f mean w t (Err e) u = (n : ℕ) × (e ≡ bare n) × Refused f t n × (u ≡ t)

-- Paths ---------------------------------------------------------------------------------------------------------------

-- what a path write of good input replies, and the record that it leaves
abbrev pub PathReplied : Tables → Path → Result ℕ Fault → Tables → Type 0
PathReplied t w (Ok a) u = PathVerdict (peer_on t) w None × (a ≡ path_answer (peer_on t) w) × (record_of u ≡ applied (path w) (record_of t))
PathReplied t w (Err e) u = (n : ℕ) × (e ≡ bare n) × PathVerdict (peer_on t) w (Some n) × (u ≡ t)
