use Rattle.std.proofs.lemmas.List.{get_or_default}
use Rattle.order.proofs.Lists.{mem_get_d, greatest_member}
use Rattle.revision.specs.Values.{Lower}
use Rattle.revision.specs.HeadOrder.{lower_less}
use Rattle.revision.proofs.winner.Goals as goal

pub returns-clause-winner : goal.returns-clause-winner
returns-clause-winner c =
    let g = c.in_ok-place.ensures in
    let hs = c.args.heads.now in
    (mem_get_d hs c.in_ok-place.place _ g.0, greatest_member Lower hs c.in_ok-place.place _ (λ k d m l. g.1 k d m (lower_less _ _ l)) (get_or_default hs c.in_ok-place.place _ _ g.0))
