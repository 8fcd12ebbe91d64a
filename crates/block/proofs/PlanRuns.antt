-- A plan over a run of writes strikes the one that it names, and no other.
use Rattle.std.proofs.Common.{◌≡◌, ℕ, zero, suc, ◌-◌, cond, eqb, leb, Some, None, Option, refl, ap, ◌∙◌, arith}
use Rattle.std.proofs.lemmas.Bool.Decides.{nat_tests}
use Rattle.block.specs.declared.array.Plan.{Plan}
use Rattle.block.specs.declared.array.Outcome.{Outcome}
use Rattle.block.specs.Plans.{struck_by, plan_after}

-- what is left of a plan after so many writes
abbrev pub plan_in : ℕ → Option Plan → Option Plan
plan_in zero p = p
plan_in (suc k) p = plan_after (plan_in k p)

-- what a plan says of write k, counted from 0
abbrev pub named_by : Option Plan → ℕ → Option Outcome
named_by None k = None
named_by (Some p) k = cond (eqb k p.write) (Some p.outcome) None

abbrev plan_of : ℕ → Outcome → Plan
plan_of w o = record { write = w; outcome = o }

-- without a plan there is never one
none_left : (k : ℕ) → plan_in k None ≡ None
none_left zero = refl
none_left (suc k) = ap plan_after (none_left k)

-- up to the write that is named the plan counts down, and behind it nothing is left
left : (w : ℕ) (o : Outcome) (k : ℕ) → plan_in k (Some (plan_of w o)) ≡ cond (leb k w) (Some (plan_of (w - k) o)) None
left w o zero = grind (arith, nat_tests)
left w o (suc k) = ap plan_after (left w o k) ∙ grind (arith, nat_tests)

-- write k of a run is struck if the plan names it, and no other is
pub strikes_named : (p : Option Plan) (k : ℕ) → struck_by (plan_in k p) ≡ named_by p k
strikes_named None k = ap struck_by (none_left k)
strikes_named (Some p) k = ap struck_by (left p.write p.outcome k) ∙ grind (arith, nat_tests)
