use Rattle.std.proofs.Common.{◌≡◌, ℕ, List, take, ap, ◌∙◌, Decides, subst₂}
use Rattle.std.proofs.lemmas.Bool.Decides.{Decides-eqb}
use Rattle.std.proofs.lemmas.Slice.Eq.{slice_eq-Decides}
use Rattle.entries.proofs.Keys.{same_if}
use Rattle.entries.proofs.same_bytes.Goals as goal

pub returns : goal.returns
returns c =
    same_if _ _ _ (subst₂ (λ (a b : List ℕ). Decides c.eq.result (a ≡ b)) (c.cut.ensures ∙ ap (take c.args.a.length) c.bytes-ours.ensures)
    (c.cut-2.ensures ∙ ap (take c.args.b.length) c.bytes-theirs.ensures) (slice_eq-Decides Decides-eqb _ _ _ c.eq.ensures))
