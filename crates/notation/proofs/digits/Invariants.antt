use Rattle.std.proofs.Common.{◌≡◌, ◌++◌, length, drop}
use Rattle.notation.specs.Text.{digits_in}
use Rattle.notation.proofs.digits.Given as goal

abbrev pub invariant-loop-i : goal.invariant-loop-i
invariant-loop-i g l = record { long : length l.out ≡ g.row.N; so_far : digits_in l.base l.i l.rest ++ drop l.i l.out ≡ digits_in l.base g.row.N l.n }
