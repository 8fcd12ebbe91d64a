-- Faults and their parts.
use Rattle.std.specs.Prelude.{ℕ}
use Rattle.octets.specs.declared.Packed.{Packed}
use Rattle.decline.specs.declared.Fault.{Fault}
use Rattle.decline.specs.declared.BlockFault.{BlockFault}
use Rattle.decline.specs.declared.Side.{Side}
use Rattle.decline.specs.declared.Side.TheVariants.{Neither, Source, Target}

-- the number that stands for a side
abbrev pub side_number : Side → ℕ
side_number Neither = 0
side_number Source = 1
side_number Target = 2

-- in the place of a document, a block and a fault below where there is none
abbrev pub no_document : Packed
no_document = record { first = 0; second = 0; length = 0 }

abbrev pub no_block : ℕ
no_block = 0xffffffff

abbrev pub block_fault : ℕ → ℕ → BlockFault
block_fault n b = record { number = n; block = b }

abbrev pub none_below : BlockFault
none_below = block_fault 0 no_block

-- a fault of which only the number is known
abbrev pub bare : ℕ → Fault
bare n = record { number = n; side = 0; document = no_document; block = no_block; below = none_below }

-- the same fault from a side, about a document, at a block, or carrying the one below
abbrev pub beside : ℕ → Fault → Fault
beside s f = record { number = f.number; side = s; document = f.document; block = f.block; below = f.below }

abbrev pub about : Packed → Fault → Fault
about d f = record { number = f.number; side = f.side; document = d; block = f.block; below = f.below }

abbrev pub at : ℕ → Fault → Fault
at b f = record { number = f.number; side = f.side; document = f.document; block = b; below = f.below }

abbrev pub above : BlockFault → Fault → Fault
above b f = record { number = f.number; side = f.side; document = f.document; block = f.block; below = b }
