use Rattle.std.proofs.Common.{Some, sym, ap, ◌∙◌}
use Rattle.std.specs.Cmp.Lexicographic.{same_text}
use Rattle.plans.proofs.find.Goals as goal

pub returns-then-eq-clause-finds : goal.returns-then-eq-clause-finds
returns-then-eq-clause-finds c = c.in_ok-read.ensures.reads.2 ∙ ap Some (same_text _ _ (sym c.if-eq.true ∙ c.eq.ensures))

pub returns-then-eq-2-clause-finds : goal.returns-then-eq-2-clause-finds
returns-then-eq-2-clause-finds c = c.in_ok-read.ensures.reads.2 ∙ ap Some (same_text _ _ (sym c.if-eq-2.true ∙ c.eq-2.ensures))
