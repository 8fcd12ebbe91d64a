use Rattle.std.proofs.Common.{◌≡◌, ◌^◌, ◌<◌, take}
use Rattle.octets.specs.BigEndian.{number}
use Rattle.octets.proofs.number_of.Given as goal

abbrev pub invariant-loop-b : goal.invariant-loop-b
invariant-loop-b l = record { value : l.n ≡ number (take l.b-index l.b-items); few : l.n < 256 ^ l.b-index }
