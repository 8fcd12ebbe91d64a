use Rattle.std.proofs.Common.{◌≡◌, take, drop}
use Rattle.std.specs.Str.Parse.{digits_value, AllDigits}
use Rattle.notation.specs.Text.{all_digits}
use Rattle.notation.proofs.numeral.Given as goal

abbrev pub invariant-loop-c : goal.invariant-loop-c
invariant-loop-c l = (l.n ≡ digits_value l.base (take l.c-index l.text)) × AllDigits l.base (take l.c-index l.text) × (all_digits l.base (drop l.c-index l.text) ≡ all_digits l.base l.text)
