use Rattle.std.proofs.Common.{max, eqb, min, subst, sym, rules}
use Rattle.std.proofs.lemmas.Iterator.{YieldsList-from_slice, YieldsList-from_map}
use Rattle.std.proofs.lemmas.Iterator.Consumers.{YieldsList-from_filter, YieldsList-at}
use Rattle.checkpoint.specs.declared.Entry.{Entry}
use Rattle.checkpoint.specs.Values.{pair, pairs, Met}
use Rattle.checkpoint.proofs.Comparing.{met, reduced}
use Rattle.checkpoint.proofs.meet.Goals as goal

pub returns : goal.returns
returns c =
    let e = c.args.e in
    subst (Met (pair e) (pairs c.args.log.now)) (sym (reduced max _ c.reduce.result _ c.reduce.ensures.ran
    (YieldsList-from_map _ (λ (f : Entry). min f.position e.position)
    (YieldsList-at c.map.ensures.source (YieldsList-from_filter _ (λ (f : Entry). eqb e.stamp f.stamp)
    (YieldsList-at c.filter.ensures.source (YieldsList-from_slice c.args.log.now (search rules))) c.filter.ensures.closure (λ x b q k. search rules)))
    c.map.ensures.closure (λ x r q k. search rules))
    (λ a x b q k. search rules))) (met e c.args.log.now)
