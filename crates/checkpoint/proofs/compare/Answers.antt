use Rattle.std.proofs.Common.{◌≡◌, ◌+◌, eqb, ℕ, max, MatchOption, ◌∙◌, sym, subst, arith}
use Rattle.std.proofs.lemmas.List.{map_more}
use Rattle.checkpoint.specs.Logs.{Entries, Compared}
use Rattle.checkpoint.specs.Values.{pair, pairs}
use Rattle.checkpoint.proofs.Comparing.{compared_more}
use Rattle.checkpoint.proofs.compare.Goals as goal
use Rattle.checkpoint.proofs.compare.Goals.{in-Some, in_default}

pub loop-e-preserved : goal.loop-e-preserved
loop-e-preserved c =
    let l = pairs c.args.theirs.now in
    let n = c.loop-e.best in
    let k = c.loop-e.common in
    let v = c.match-meet.best in
    let w = c.match-meet.common in
    let s = sym (map_more pair c.args.ours.now c.loop-e.e-index (record { stamp = 0; position = 0 }) c.loop-e-test.true) in
    let o : MatchOption c.meet.result ((v ≡ n) × (w ≡ k)) (λ m. (v ≡ max n m) × (w ≡ k + 1)) = elim c.match-meet.branch [
      | in-Some b ↦ rw b.in-Some.is (b.best-is ∙ b.later-best.ensures, b.common-is)
      | in_default b ↦ rw b.in_default.is (b.best-is, b.common-is)
    ] in (
      subst (λ (j : Entries ℕ). Compared eqb j l v w) s (compared_more _ l _ n k v w c.loop-e.invariant.0 c.meet.result c.meet.ensures o),
      elim c.match-meet.branch [ in-Some b ↦ omega (arith, b.common-is, c.loop-e.invariant.1) | in_default b ↦ omega (arith, b.common-is, c.loop-e.invariant.1) ],
    )
