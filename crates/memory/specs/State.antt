-- What a peer in memory means.
use Rattle.std.specs.Prelude.{◌≡◌, ℕ, true, ◌⊎◌, [], Ok, Err, Result, ◌≢◌}
use Rattle.decline.specs.Faults.{bare}
use Rattle.peer.specs.Records.{blank}
use Rattle.peer.specs.Peers.{Peer}
use Rattle.tables.specs.declared.Tables.{Tables}
use Rattle.tables.specs.Tables.{record_of}
use Rattle.tables.specs.Room.{room_in}
use Rattle.tables.specs.Sound.{Sound}
use Rattle.memory.specs.declared.Memory.{Memory}
use Rattle.memory.specs.declared.Unmade.{Unmade}
use Rattle.memory.specs.declared.Unmade.TheVariants.{Declined, NoMemory}

-- a peer that is up, stands on the record of tables, and has no write waiting
abbrev pub standing : ℕ → ℕ → Tables → Peer
standing n s t = record { number = n; stamp = s; up = true; standing = record_of t; paths = []; notes = []; room = room_in t }

abbrev pub state_of : Memory → Peer
state_of m = standing m.number m.stamp m.tables

-- its tables are sound, and its number is not 0
pub record Kept (m : Memory) : Type 0 where
  pub sound : Sound m.tables
  pub number : m.number ≡ 0 → ⊥

-- why it was not made: 15 for stamp 0, then 16 for number 0, or there was no memory
abbrev pub Refused : ℕ → ℕ → Unmade → Type 0
Refused n s (Declined e) = ((s ≡ 0) × (e ≡ bare 15)) ⊎ ((s ≢ 0) × (n ≡ 0) × (e ≡ bare 16))
Refused n s NoMemory = (s ≢ 0) × (n ≢ 0)

-- making a peer: it has this number and this stamp, and its record is empty
abbrev pub Made : ℕ → ℕ → Result Memory Unmade → Type 0
Made n s (Ok m) = Kept m × (m.number ≡ n) × (m.stamp ≡ s) × (s ≢ 0) × (record_of m.tables ≡ blank)
Made n s (Err e) = Refused n s e
