-- In every run, of each held revision the line of its ancestors stands in the tree.
use Rattle.std.proofs.Common.{◌≤◌, Bool, length}
use Rattle.revision.specs.Paths.{Path}
use Rattle.revision.proofs.Lines.{lined}
use Rattle.peer.specs.Functions.{Lined}
use Rattle.law.specs.Runs.{World, Run}
use Rattle.law.proofs.Sites.{now}
use Rattle.law.proofs.Sound.{Histories, PathGood, DocumentsGood}
use Rattle.law.proofs.Steps.{at, source_ok, run_inv}

pub run_lined : (Ok : Path → Type 0) (H : Histories) → ((p : Path) → Ok p → 1 ≤ length p.tags → PathGood H p) → (w : World) → Run Ok w → (side : Bool) → Lined (w.peer side)
run_lined Ok H good w run side d =
    let k : DocumentsGood H (now (at w side)) = source_ok Ok H good w side (run_inv Ok H good run) in
    lined (H d) ((now (at w side)).tree d) (k.closed d) (k.covered d) (k.agrees d)
