-- Reading a path.
use Rattle.std.specs.Prelude.{◌≡◌, ℕ, List, Some, None, Ok, Err, Result}
use Rattle.decline.specs.declared.Fault.{Fault}
use Rattle.decline.specs.Faults.{bare}
use Rattle.octets.specs.Packed.{unpacked}
use Rattle.octets.specs.BigEndian.{eights}
use Rattle.revision.specs.Paths as Paths
use Rattle.revision.specs.Values.{mark_number}
use Rattle.peer.specs.Functions.{path_write, input, path_given}
use Rattle.entries.specs.Entries.{content}
use Rattle.tables.specs.declared.path.Path.{Path}

-- the model's path
abbrev pub path_of : Path → Paths.Path
path_of p = record { doc = unpacked p.id.bytes; tags = eights p.generation p.tags.now; content = content (mark_number p.mark) p.body.now }

-- a path is read where the input of its write is good, and declined with its number otherwise
abbrev pub PathRead : List ℕ → ℕ → List ℕ → ℕ → List ℕ → Result Path Fault → Type 0
PathRead bs g ts m b (Ok p) = (input (path_write bs g ts m b) ≡ None) × (path_of p ≡ path_given bs g ts m b)
PathRead bs g ts m b (Err e) = (n : ℕ) × (e ≡ bare n) × (input (path_write bs g ts m b) ≡ Some n)
