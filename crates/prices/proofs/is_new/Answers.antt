use Rattle.std.proofs.Common.{◌≡◌, true, rules, inr}
use Rattle.std.proofs.lemmas.List.{get_or_default}
use Rattle.prices.proofs.is_new.Goals as goal

pub returns-in-Some : goal.returns-in-Some
returns-in-Some c = (c.in-Some.i, c.in-Some.ensures, λ q. search (rules, get_or_default))

pub returns-in-Some-2 : goal.returns-in-Some-2
returns-in-Some-2 c = inr (
  c.in-Some-2.field-0,
  c.in-Some-2.ensures,
  (λ q s. let e : c.eq.result ≡ true = search (rules, get_or_default, s) in let n = c.if-eq.false in cc),
  c.from.ensures,
)
