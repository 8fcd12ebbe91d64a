-- The laws of replication, of runs whose accepted paths agree: their history is the one that the paths tell.
use Rattle.std.proofs.Common.{suc, ◌≤◌, List, length}
use Rattle.order.specs.Lists.{Mem}
use Rattle.revision.specs.Paths.{Path}
use Rattle.revision.proofs.Places.{later}
use Rattle.revision.proofs.Histories.{hist, fits_hist, follows_from}
use Rattle.law.specs.Laws.{Agreeing, Laws}
use Rattle.law.proofs.Sound.{PathGood}
use Rattle.law.proofs.Finished.{finishes, resumes, converges, unites}
use Rattle.law.proofs.Lines.{run_lined}

path_ok : (ws : List Path) → Agreeing ws → (p : Path) → Mem p ws → 1 ≤ length p.tags → PathGood (hist ws) p
path_ok ws a p m l = (l, follows_from (later (hist ws p.doc)) 0 p.tags p.content (λ g x. fits_hist ws p (λ q n e g x. a q p n m e g x) m (suc g) x))

pub laws : Laws
laws ws a = record {
  finishes = finishes (λ p. Mem p ws) (hist ws) (path_ok ws a);
  resumes = resumes (λ p. Mem p ws) (hist ws) (path_ok ws a);
  converges = converges (λ p. Mem p ws) (hist ws) (path_ok ws a);
  unites = unites (λ p. Mem p ws) (hist ws) (path_ok ws a);
  lines = run_lined (λ p. Mem p ws) (hist ws) (path_ok ws a);
}
