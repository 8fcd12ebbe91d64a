use Rattle.std.proofs.Common.{drop, ap, ◌∙◌}
use Rattle.std.proofs.lemmas.List.{take_rest}
use Rattle.notation.proofs.Writing.{stripped_drop}
use Rattle.notation.proofs.stripped.Goals as goal

pub returns-clause-rest : goal.returns-clause-rest
returns-clause-rest c = take_rest c.args.text.now c.zeros_in.result ∙ (ap (λ k. drop k c.args.text.now) c.zeros_in.ensures.many ∙ stripped_drop c.args.most c.args.text.now)
