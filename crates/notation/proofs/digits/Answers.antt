use Rattle.std.proofs.Common.{◌++◌, replicate, ℕ, ◌∙◌, arith}
use Rattle.std.proofs.lemmas.List.{at_drop_all, append-nil, length-replicate}
use Rattle.std.proofs.lemmas.Grind.{common_steps}
use Rattle.notation.specs.Text.{digits_in}
use Rattle.notation.proofs.Writing.{digits_down}
use Rattle.notation.proofs.digits.Goals as goal

pub loop-i-init : goal.loop-i-init
loop-i-init g c = record {
  long = length-replicate {A = ℕ} g.row.N 0;
  so_far =
      at_drop_all (λ l. digits_in c.args.base g.row.N c.args.n ++ l) (replicate {A = ℕ} g.row.N 0) g.row.N (omega (arith, length-replicate {A = ℕ} g.row.N 0))
      ∙ append-nil (digits_in c.args.base g.row.N c.args.n);
}

pub loop-i-preserved : goal.loop-i-preserved
loop-i-preserved g c = record {
  long = grind (arith, common_steps);
  so_far =
      digits_down c.args.base c.loop-i.i c.loop-i.rest c.digit_char.result c.loop-i.out c.loop-i-test.true (omega (arith, c.loop-i.invariant.long)) c.digit_char.ensures
      ∙ c.loop-i.invariant.so_far;
}
