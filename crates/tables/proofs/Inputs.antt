-- Tests of the input, in their order.
use Rattle.std.proofs.Common.{◌≡◌, ℕ, Bool, true, cond, List, ◌∷◌, Some, Ok, ap, ◌∙◌}
use Rattle.decline.specs.Verdicts.{first_failed}
use Rattle.revision.specs.declared.DocumentId.{DocumentId}
use Rattle.revision.specs.declared.Revision.{Revision}
use Rattle.revision.specs.Ids.{good_id, good_generation}
use Rattle.revision.specs.Values.{IdRead, RevisionMade}

pub test_passed : (b : Bool) (n : ℕ) (ts : List (Bool × ℕ)) → b ≡ true → first_failed ((b, n) ∷ ts) ≡ first_failed ts
test_passed b n ts e = ap (λ (x : Bool). cond x (first_failed ts) (Some n)) e

-- an id and a revision that were read
pub revision_given : (bs : List ℕ) (g x : ℕ) (d : DocumentId) (r : Revision) (ts : List (Bool × ℕ)) → IdRead bs (Ok d) → RevisionMade g x (Ok r) →
    first_failed ((good_id bs, 11) ∷ (good_generation g, 12) ∷ ts) ≡ first_failed ts
revision_given bs g x d r ts i m = test_passed (good_id bs) 11 ((good_generation g, 12) ∷ ts) i.0 ∙ test_passed (good_generation g) 12 ts m.0
