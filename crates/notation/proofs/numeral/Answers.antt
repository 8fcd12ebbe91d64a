use Rattle.std.proofs.Common.{rules, ◌≡◌, ◌+◌, ◌*◌, ◌^◌, ◌<◌, true, Some, sym, ap, ◌∙◌, ⊎_elim, arith}
use Rattle.std.specs.Str.Parse.{digits_value}
use Rattle.std.proofs.lemmas.Int.Digits.{digits_more}
use Rattle.std.proofs.lemmas.List.{at_drop_all, take_all}
use Rattle.notation.specs.Text.{all_digits}
use Rattle.notation.proofs.Numerals.{numeral_empty, numeral_long, numeral_other, numeral_value, digit_here, other_here, value_next, fits_next}
use Rattle.notation.proofs.numeral.Goals as goal

pub returns-then-is_empty : goal.returns-then-is_empty
returns-then-is_empty c = ⊎_elim (λ e. sym (numeral_empty _ _ _ (search rules))) (λ h. sym (numeral_long _ _ _ h.1)) c.then-is_empty.either

pub returns-in_err-digit : goal.returns-in_err-digit
returns-in_err-digit c = c.from_residual.ensures ∙ sym (numeral_other _ _ _ (sym c.loop-c.invariant.2 ∙ other_here c.args.base c.args.text.now c.loop-c.c-index c.loop-c-test.true c.in_err-digit.ensures.value))

next_fits : (c : goal.In_ok-digit) → c.loop-c.n * c.args.base + c.in_ok-digit.digit < 2 ^ 64
next_fits c =
    fits_next c.args.base c.args.text.now c.loop-c.c-index c.loop-c-test.true _ _ c.loop-c.invariant.0 c.in_ok-digit.ensures.value.1
    c.args.most (omega arith) c.requires.room c.loop-c.invariant.1 c.in_ok-digit.ensures.value.0

pub overflow_mul-n : goal.overflow_mul-n
overflow_mul-n c = omega (arith, next_fits c)

pub overflow_add-n : goal.overflow_add-n
overflow_add-n c = omega (arith, next_fits c)

pub loop-c-preserved : goal.loop-c-preserved
loop-c-preserved c = (
  value_next c.args.base c.args.text.now c.loop-c.c-index c.loop-c-test.true _ _ c.loop-c.invariant.0 c.in_ok-digit.ensures.value.1,
  digits_more c.args.base c.args.text.now c.loop-c.c-index c.loop-c-test.true c.loop-c.invariant.1 c.in_ok-digit.ensures.value.0,
  sym (digit_here c.args.base c.args.text.now c.loop-c.c-index c.loop-c-test.true c.in_ok-digit.ensures.value.0) ∙ c.loop-c.invariant.2,
)

pub returns : goal.returns
returns c =
    let e : all_digits c.args.base c.args.text.now ≡ true = sym c.loop-c.invariant.2 ∙ at_drop_all (all_digits c.args.base) c.args.text.now c.loop-c.c-index c.loop-c-test.false in
    let v : c.loop-c.n ≡ digits_value c.args.base c.args.text.now = c.loop-c.invariant.0 ∙ ap (digits_value c.args.base) (take_all c.loop-c.c-index c.args.text.now c.loop-c-test.false) in
    ap Some v ∙ sym (numeral_value c.args.base c.args.most c.args.text.now (search rules) (omega arith) e)
