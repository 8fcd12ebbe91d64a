use Rattle.std.proofs.Common.{◌+◌, Bool, List, sym, refl, subst₂}
use Rattle.checkpoint.specs.declared.Entry.{Entry}
use Rattle.checkpoint.proofs.Entries.{Replacing, replaces, skips}
use Rattle.checkpoint.proofs.replace.Goals as goal
use Rattle.checkpoint.proofs.replace.Goals.{then-e-entry, else-e-entry}

pub loop-e-preserved : goal.loop-e-preserved
loop-e-preserved c =
    let s = c.args.entry.stamp in
    let p = c.args.entry.position in
    let i = c.loop-e.e-index in
    let xs = c.args.entries.now in
    let ys = c.loop-e.entries in
    elim c.if-e-entry.branch [
      | then-e-entry w ↦ subst₂ (λ (t : Bool) (l : List Entry). Replacing s p (i + 1) t xs l) (sym w.there-is) (sym w.entries-is)
          (replaces s p i c.loop-e.there xs ys _ c.loop-e.invariant c.loop-e-test.true w.if-e-entry.true _ refl)
      | else-e-entry w ↦ subst₂ (λ (t : Bool) (l : List Entry). Replacing s p (i + 1) t xs l) (sym w.there-is) (sym w.entries-is)
          (skips s p i c.loop-e.there xs ys _ c.loop-e.invariant c.loop-e-test.true w.if-e-entry.false)
    ]
