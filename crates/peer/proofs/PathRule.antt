-- A path write at a peer goes by the rule of trees: it is contradicted, it changes nothing, or it is written.
use Rattle.std.proofs.Common.{◌≡◌, ℕ, Bool, true, false, cond, [], ◌∷◌, None, Option, sym, refl, ap, ◌∙◌, subst, subst₂, arith}
use Rattle.order.proofs.Lists.{same_self}
use Rattle.revision.specs.Trees.{Tree}
use Rattle.revision.specs.Paths.{Path, Contradicted, written, Fares, answers, known, added}
use Rattle.peer.specs.Records.{Record, Documents, put}
use Rattle.peer.specs.Peers.{Peer, path, current, tree_of, changes, wait, accept, Effect, answered}
use Rattle.peer.specs.Functions.{PathWrite, PathVerdict, full, fine}
use Rattle.peer.specs.Functions as F
use Rattle.peer.proofs.Waiting.{after_more}
use Rattle.peer.proofs.Calls.{moved_current}

not_contradicted : (p : Peer) (w : Path) (v : Option ℕ) → v ≡ None → PathVerdict p w v → Contradicted (tree_of p w.doc) w → ⊥
not_contradicted p w v e (F.contradicted c) k = let z : ◌≡◌ {A = ℕ} 0 1 = cc in omega arith
not_contradicted p w v e (full n f) k = n k
not_contradicted p w v e (fine n f) k = n k

-- an accepted one: the document's tree afterwards is what the rule makes of it, and so is the answer
pub path_fares : (w : Path) (p : Peer) (a : ℕ) (c : Effect) (q : Peer) → PathWrite w p (answered a) c q → Fares (tree_of p w.doc) w (answers a) (tree_of q w.doc)
path_fares w p a c q h = subst (λ (t : Tree). Fares (tree_of p w.doc) w (answers a) t) (sym there) (go (changes (path w) (current p)) refl h.1)
  where
    nc : Contradicted (tree_of p w.doc) w → ⊥
    nc = not_contradicted p w None refl h.0.accepted

    there : tree_of q w.doc ≡ tree_of (accept (path w) p) w.doc
    there = ap (λ (r : Record). r.docs.tree w.doc) (moved_current (accept (path w) p) q h.0.effected)

    grown : tree_of (wait (path w) p) w.doc ≡ written (tree_of p w.doc) w
    grown = ap (λ (x : Documents). x.tree w.doc) (after_more put p.standing.docs p.paths (w ∷ []))
        ∙ ap (λ (b : Bool). cond b (written (tree_of p w.doc) w) (tree_of p w.doc)) (same_self w.doc)

    go : (b : Bool) → changes (path w) (current p) ≡ b → a ≡ cond b 1 0 → Fares (tree_of p w.doc) w (answers a) (tree_of (cond b (wait (path w) p) p) w.doc)
    go true e f = subst₂ (λ (n : ℕ) (t : Tree). Fares (tree_of p w.doc) w (answers n) t) (sym f) (sym grown) (added nc e)
    go false e f = subst (λ (n : ℕ). Fares (tree_of p w.doc) w (answers n) (tree_of p w.doc)) (sym f) (known nc e)
