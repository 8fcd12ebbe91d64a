-- Equal trees show the same heads, winners and conflicts.
use Rattle.std.proofs.Common.{◌≡◌, List, ap, subst}
use Rattle.revision.specs.Trees.{Tree}
use Rattle.revision.specs.Heads.{Head, Heads, winner, conflicts}
use Rattle.revision.proofs.Heads.{heads_unique}
use Rattle.law.specs.Laws.{Same}

pub same_shown : (t u : Tree) → t ≡ u → Same t u
same_shown t u e = record {
  trees = e;
  heads = go;
  winners = λ hs ks a b. ap winner (go hs ks a b);
  conflict = λ hs ks a b. ap conflicts (go hs ks a b);
}
  where
    go : (hs ks : List Head) → Heads t hs → Heads u ks → hs ≡ ks
    go hs ks a b = heads_unique u hs ks (subst (λ (z : Tree). Heads z hs) e a) b
