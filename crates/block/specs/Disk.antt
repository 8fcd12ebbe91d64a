-- What a block device is to its user, and what its calls do.
use Rattle.std.specs.Prelude.{◌≡◌, ℕ, ◌<◌, ◌≤◌, Bool, true, false, ◌⊎◌, List, length, Some, None, Ok, Err, Option, Result, ◌≢◌, slice_index_or, slice_set}
use Rattle.decline.specs.declared.BlockFault.{BlockFault}
use Rattle.decline.specs.Faults.{block_fault}

-- the blocks in order, each with its contents or unreadable, and whether the device is on
pub record Disk : Type 0 where
  pub blocks : List (Option (List ℕ))
  pub on : Bool

-- a disk of these blocks, on or off
abbrev pub disk_of : List (Option (List ℕ)) → Bool → Disk
disk_of bs b = record { blocks = bs; on = b }

-- a disk that is on, after block n was written
abbrev pub written : Disk → ℕ → List ℕ → Disk
written d n bs = disk_of (slice_set d.blocks n (Some bs)) true

-- the memory is one block long, and block n exists
abbrev pub Proper : Disk → ℕ → List ℕ → Type 0
Proper d n bs = (length bs ≡ 512) × (n < length d.blocks)

-- 18: the memory is not one block long; else 53: block n does not exist
abbrev pub Improper : Disk → ℕ → List ℕ → BlockFault → Type 0
Improper d n bs f =
    ((f ≡ block_fault 18 n) × (length bs ≢ 512))
    ⊎ ((f ≡ block_fault 53 n) × (length bs ≡ 512) × (length d.blocks ≤ n))

-- power failed at a write of bs to block n: the device is off, block n is old, new or unreadable, and no other changed
abbrev pub Torn : Disk → ℕ → List ℕ → Disk → Type 0
Torn d n bs e =
    (e ≡ disk_of d.blocks false)
    ⊎ ((e ≡ disk_of (slice_set d.blocks n (Some bs)) false)
    ⊎ (e ≡ disk_of (slice_set d.blocks n None) false))

-- a write of bs to block n is declined: its input; else 51, as the device was off, or as power failed
abbrev pub WriteDeclined : Disk → ℕ → List ℕ → Disk → BlockFault → Type 0
WriteDeclined d n bs e f =
    (Improper d n bs f × (e ≡ d))
    ⊎ ((f ≡ block_fault 51 n) × Proper d n bs × (((d.on ≡ false) × (e ≡ d)) ⊎ ((d.on ≡ true) × Torn d n bs e)))

-- a write of bs to block n takes disk d to disk e
abbrev pub Writes : Disk → ℕ → List ℕ → Disk → Result (Unit {0}) BlockFault → Type 0
Writes d n bs e (Ok x) = Proper d n bs × (d.on ≡ true) × (e ≡ written d n bs)
Writes d n bs e (Err f) = WriteDeclined d n bs e f

-- a read of block n into memory bs is declined: its input; else 51, as the device is off now, if it was not before;
-- else 52, as the block is unreadable
abbrev pub ReadDeclined : Disk → ℕ → List ℕ → Disk → BlockFault → Type 0
ReadDeclined d n bs e f =
    (Improper d n bs f × (e ≡ d))
    ⊎ (((f ≡ block_fault 51 n) × Proper d n bs × (e ≡ disk_of d.blocks false))
    ⊎ ((f ≡ block_fault 52 n) × Proper d n bs × (d.on ≡ true) × (slice_index_or d.blocks n None ≡ None) × (e ≡ d)))

-- a read of block n takes disk d to disk e, and memory that held bs then holds cs
abbrev pub Reads : Disk → ℕ → List ℕ → List ℕ → Disk → Result (Unit {0}) BlockFault → Type 0
Reads d n bs cs e (Ok x) = Proper d n bs × (d.on ≡ true) × (slice_index_or d.blocks n None ≡ Some cs) × (e ≡ d)
Reads d n bs cs e (Err f) = ReadDeclined d n bs e f × (cs ≡ bs)

-- a write of xs to block m, and only if it is accepted one of ys to block n, take disk d to disk e
abbrev pub WritesTwo : Disk → ℕ → List ℕ → ℕ → List ℕ → Disk → Result (Unit {0}) BlockFault → Type 0
WritesTwo d m xs n ys e (Ok x) = Writes d m xs (written d m xs) (Ok tt) × Writes (written d m xs) n ys e (Ok tt)
WritesTwo d m xs n ys e (Err f) =
    Writes d m xs e (Err f)
    ⊎ (Writes d m xs (written d m xs) (Ok tt) × Writes (written d m xs) n ys e (Err f))
