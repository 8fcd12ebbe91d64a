-- A part of a disk.
use Rattle.std.specs.Prelude.{◌≡◌, ℕ, ◌+◌, take, drop, Ok, Err, Result}
use Rattle.decline.specs.declared.BlockFault.{BlockFault}
use Rattle.decline.specs.Faults.{block_fault}
use Rattle.block.specs.declared.part.Partition.{Partition}
use Rattle.block.specs.Disk.{Disk, disk_of}

-- up to c blocks of a disk from block f on, as far as they exist
abbrev pub part : ℕ → ℕ → Disk → Disk
part f c d = disk_of (take c (drop f d.blocks)) d.on

-- the disk that a partition is, of the disk that its device is
abbrev pub part_of : {X : Type 0} → (X → Disk) → Partition X → Disk
part_of disk p = part p.first p.limit (disk p.device)

-- the same answer, with a fault that names block n
abbrev pub about_block : ℕ → Result (Unit {0}) BlockFault → Result (Unit {0}) BlockFault
about_block n (Ok x) = Ok x
about_block n (Err f) = Err (block_fault f.number n)

-- disks d and e are the same before block f, and from block f + c on
abbrev pub SameOutside : ℕ → ℕ → Disk → Disk → Type 0
SameOutside f c d e = (take f e.blocks ≡ take f d.blocks) × (drop (f + c) e.blocks ≡ drop (f + c) d.blocks)

-- a call takes partition p to q: it lies where it lay, and no block outside it changes
pub record Confined {X : Type 0} (disk : X → Disk) (p q : Partition X) : Type 0 where
  pub first : q.first ≡ p.first
  pub limit : q.limit ≡ p.limit
  pub outside : SameOutside p.first p.limit (disk p.device) (disk q.device)
