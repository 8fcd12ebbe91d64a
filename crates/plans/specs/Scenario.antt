-- What the scenario does, and what is found behind it.
use Rattle.std.specs.Prelude.{◌≡◌, ℕ, ◌≤◌, true, false, ◌⊎◌, List, length, replicate, Some, None, Ok, Err, Result, ◌≢◌, slice_index_or}
use Rattle.decline.specs.declared.BlockFault.{BlockFault}
use Rattle.decline.specs.Faults.{block_fault}
use Rattle.block.specs.Disk.{Disk, disk_of, Writes, WritesTwo}
use Rattle.block.specs.Parts.{part, SameOutside}
use Rattle.plans.specs.declared.Answers.{Answers}
use Rattle.plans.specs.declared.Report.{Report}
use Rattle.plans.specs.declared.Contents.{Contents}
use Rattle.plans.specs.declared.Contents.TheVariants.{Old, New, Other}

-- a block of nothing but a byte
abbrev pub all : ℕ → List ℕ
all b = replicate 512 b

-- the scenario takes disk d to e: block 0 is written, then blocks 1 and 2 as a pair, then block 1 of the part from block 2 on
pub record Ran (d : Disk) (new : List ℕ) (e : Disk) (a : Answers) : Type 0 where
  pub one : Disk
  pub two : Disk
  pub single : Writes d 0 new one a.single
  pub pair : WritesTwo one 1 new 2 new two a.pair
  pub last : Writes (part 2 2 two) 1 new (part 2 2 e) a.part
  pub outside : SameOutside 2 2 two e

-- what is found in block n of a disk
abbrev pub Finds : Disk → ℕ → Result Contents BlockFault → Type 0
Finds d n (Ok Old) = slice_index_or d.blocks n None ≡ Some (all 0)
Finds d n (Ok New) = slice_index_or d.blocks n None ≡ Some (all 1)
Finds d n (Ok Other) = (slice_index_or d.blocks n None ≢ Some (all 0)) × (slice_index_or d.blocks n None ≢ Some (all 1))
Finds d n (Err f) =
    ((f ≡ block_fault 53 n) × (length d.blocks ≤ n))
    ⊎ (((f ≡ block_fault 51 n) × (d.on ≡ false))
    ⊎ ((f ≡ block_fault 52 n) × (slice_index_or d.blocks n None ≡ None)))

-- what is found in the four blocks of a disk
abbrev pub FindsAll : Disk → List (Result Contents BlockFault) → Type 0
FindsAll d fs = Finds d 0 (slice_index_or fs 0 (Ok Other)) × Finds d 1 (slice_index_or fs 1 (Ok Other)) × Finds d 2 (slice_index_or fs 2 (Ok Other)) × Finds d 3 (slice_index_or fs 3 (Ok Other))

-- the scenario takes disk d to one that is then resumed, and that is e; the report says what it answered, and what e holds
pub record Reports (d e : Disk) (r : Report) : Type 0 where
  pub left : Disk
  pub ran : Ran d (all 1) left r.answers
  pub resumed : e ≡ disk_of left.blocks true
  pub found : FindsAll e r.found
