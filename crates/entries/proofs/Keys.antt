-- When ids and keys are the same.
use Rattle.std.proofs.Common.{◌≡◌, ℕ, Bool, true, List, Decides, subst}
use Rattle.std.proofs.lemmas.Bool.Decides.{same_from_decides}
use Rattle.order.specs.Lists.{same}
use Rattle.order.proofs.Lists.{same_true, same_self}

pub same_decides : (xs ys : List ℕ) → Decides (same xs ys) (xs ≡ ys)
same_decides xs ys = (same_true xs ys, λ e. subst (λ (zs : List ℕ). same xs zs ≡ true) e (same_self xs))

pub same_if : (xs ys : List ℕ) (r : Bool) → Decides r (xs ≡ ys) → r ≡ same xs ys
same_if xs ys r d = same_from_decides r (same xs ys) d (same_decides xs ys)
