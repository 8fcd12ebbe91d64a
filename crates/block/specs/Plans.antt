-- The array of blocks: what it is as a disk, and how it fails by plan.
use Rattle.std.specs.Prelude.{◌≡◌, ℕ, ◌-◌, true, false, cond, ◌⊎◌, List, replicate, Some, None, Ok, Err, vec_items, vec_capacity, Option, Result, ◌==◌, slice_set}
use Rattle.decline.specs.declared.BlockFault.{BlockFault}
use Rattle.block.specs.declared.array.BlockArray.{BlockArray}
use Rattle.block.specs.declared.array.Outcome.{Outcome}
use Rattle.block.specs.declared.array.Outcome.TheVariants.{Old, New, Unreadable}
use Rattle.block.specs.declared.array.Plan.{Plan}
use Rattle.block.specs.Disk.{Disk, disk_of, Proper}

-- the disk that an array is
abbrev pub array_disk : BlockArray → Disk
array_disk a = disk_of (vec_items a.blocks) a.on

-- an array's memory is as large as it was
abbrev pub SameMemory : BlockArray → BlockArray → Type 0
SameMemory a b = vec_capacity b.blocks ≡ vec_capacity a.blocks

-- so many readable blocks of zeros, on
abbrev pub zeroed : ℕ → Disk
zeroed n = disk_of (replicate n (Some (replicate 512 0))) true

-- what becomes of the next write under a plan: none if power does not fail at it
abbrev pub struck_by : Option Plan → Option Outcome
struck_by None = None
struck_by (Some p) = cond (p.write == 0) (Some p.outcome) None

-- what is left of a plan after a write
abbrev pub plan_after : Option Plan → Option Plan
plan_after None = None
plan_after (Some p) = cond (p.write == 0) None (Some (record { write = p.write - 1; outcome = p.outcome }))

-- the disk after power failed with an outcome at a write of bs to block n
abbrev pub failed : Outcome → Disk → ℕ → List ℕ → Disk
failed Old d n bs = disk_of d.blocks false
failed New d n bs = disk_of (slice_set d.blocks n (Some bs)) false
failed Unreadable d n bs = disk_of (slice_set d.blocks n None) false

-- a write reaches the array: its input is in order, and the array is on
abbrev pub Reaches : Disk → ℕ → List ℕ → Type 0
Reaches d n bs = Proper d n bs × (d.on ≡ true)

-- a write goes by plan p, and leaves plan q: each write that reaches the array is taken off the plan, and power fails
-- at the one that is struck, with the plan's outcome; what is declined before changes no plan
abbrev pub ByPlan : Option Plan → Option Plan → Disk → ℕ → List ℕ → Disk → Result (Unit {0}) BlockFault → Type 0
ByPlan p q d n bs e (Ok x) = (struck_by p ≡ None) × (q ≡ plan_after p)
ByPlan p q d n bs e (Err f) =
    ((Reaches d n bs → ⊥) × (q ≡ p))
    ⊎ ((o : Outcome) × Reaches d n bs × (struck_by p ≡ Some o) × (q ≡ plan_after p) × (e ≡ failed o d n bs))
