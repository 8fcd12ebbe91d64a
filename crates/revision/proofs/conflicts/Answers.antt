use Rattle.revision.proofs.LiveFront.{conflicts_behind}
use Rattle.revision.proofs.Ordered.{arranged_lower}
use Rattle.revision.proofs.conflicts.Goals as goal

pub returns : goal.returns
returns c = conflicts_behind c.args.heads.now c.arrange.new.xs _ _ (arranged_lower _ _ c.arrange.ensures) c.live_in.ensures c.saturating_sub.ensures
