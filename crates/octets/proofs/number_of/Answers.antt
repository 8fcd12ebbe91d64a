use Rattle.std.proofs.Common.{take, arith, length-take}
use Rattle.std.proofs.lemmas.Int.Digits.{number_more}
use Rattle.octets.proofs.Widths.{more_lt, room}
use Rattle.octets.proofs.number_of.Goals as goal

pub overflow_mul-n : goal.overflow_mul-n
overflow_mul-n c = let r = room c.loop-b.n c.loop-b.b-index c.loop-b.invariant.few (omega (arith, length-take c.min.result c.args.bytes.now)) in omega arith

pub overflow_add-n : goal.overflow_add-n
overflow_add-n c = let r = room c.loop-b.n c.loop-b.b-index c.loop-b.invariant.few (omega (arith, length-take c.min.result c.args.bytes.now)) in omega arith

pub loop-b-preserved : goal.loop-b-preserved
loop-b-preserved c = record {
  value = omega (arith, c.loop-b.invariant.value, number_more 256 (take c.min.result c.args.bytes.now) c.loop-b.b-index c.loop-b-test.true);
  few = more_lt c.loop-b.n c.loop-b.b-index c.from.result c.loop-b.invariant.few (omega arith);
}
