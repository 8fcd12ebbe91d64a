-- Paths written one after the other have joined the target's list in order.
use Rattle.std.proofs.Common.{◌≡◌, ℕ, ◌⊎◌, List, [], ◌∷◌, ◌++◌, sym, refl, subst, inl, inr}
use Rattle.revision.specs.Paths.{Path}
use Rattle.peer.specs.Peers.{Peer, path, entry, accept, Moved, Effect, nothing, writes, commits, paths_in, joined, Reply, answered, declined}
use Rattle.peer.specs.Functions.{Function, Answer, effect, Calls, PathWrite}
use Rattle.peer.proofs.Calls.{Ends, moved_trans, moved_accept, moved_ends, declined_ends, declined_counts}
use Rattle.law.specs.Replications.{Wrote}
use Rattle.law.specs.Runs.{NoEntry, with_paths}

pub moved_paths : (ws : List Path) (p q : Peer) → Moved p q → Moved (with_paths ws p) (with_paths ws q)
moved_paths [] p q m = m
moved_paths (w ∷ ws) p q m = moved_paths ws (accept (path w) p) (accept (path w) q) (moved_accept (path w) p q m)

-- paths written one after the other have joined the list, and then a first part may have moved
pub wrote : (p : Peer) (ws : List Path) (q : Peer) → Wrote p ws q → Moved (with_paths ws p) q
wrote p [] q m = m
wrote p (w ∷ ws) q h =
    moved_trans (with_paths ws (accept (path w) p)) (with_paths ws h.1) q
    (moved_paths ws (accept (path w) p) h.1 (moved_trans (accept (path w) p) (accept (path w) h.0) h.1 (moved_accept (path w) p h.0 h.2) h.3.0.effected))
    (wrote h.1 ws q h.4)

with_more : (ws vs : List Path) (p : Peer) → with_paths (ws ++ vs) p ≡ with_paths vs (with_paths ws p)
with_more [] vs p = refl
with_more (w ∷ ws) vs p = with_more ws vs (accept (path w) p)

joined_paths : (w : Path) (c : Effect) (p : Peer) → (c ≡ nothing) ⊎ (c ≡ writes (path w)) → joined c p ≡ with_paths (paths_in c) p
joined_paths w c p (inl e) = subst (λ (k : Effect). joined k p ≡ with_paths (paths_in k) p) (sym e) refl
joined_paths w c p (inr e) = subst (λ (k : Effect). joined k p ≡ with_paths (paths_in k) p) (sym e) refl

-- a sequence of paths that ends with a declined one
pub wrote_declined : (p m q : Peer) (vs : List Path) (w : Path) (n : ℕ) (c : Effect) → Wrote p vs m → PathWrite w m (declined n) c q → Ends (with_paths (vs ++ paths_in c) p) q
wrote_declined p m q vs w n c h d =
    subst (λ (z : Peer). Ends z q) (sym (with_more vs (paths_in c) p))
    (moved_ends (with_paths (paths_in c) (with_paths vs p)) (with_paths (paths_in c) m) q (moved_paths (paths_in c) (with_paths vs p) m (wrote p vs m h))
    (subst (λ (z : Peer). Ends z q) (joined_paths w c m (declined_counts d)) (declined_ends d)))

-- a call by others than replications: its path, if it counts, has joined the list
pub call_joins : (f : Function) (p : Peer) (r : Reply (Answer f)) (c : Effect) (q : Peer) → NoEntry (effect f) → Calls f p r c q → joined c p ≡ with_paths (paths_in c) p
call_joins f p r c q n h = go c (counted r h)
  where
    counted : (r : Reply (Answer f)) → Calls f p r c q → (c ≡ nothing) ⊎ (c ≡ effect f)
    counted (answered a) h = inr h.0.counted
    counted (declined m) h = declined_counts h

    plain : (c : Effect) → NoEntry c → joined c p ≡ with_paths (paths_in c) p
    plain nothing n = refl
    plain (writes (path w)) n = refl
    plain (writes (entry e)) n = absurd n
    plain commits n = refl

    go : (c : Effect) → (c ≡ nothing) ⊎ (c ≡ effect f) → joined c p ≡ with_paths (paths_in c) p
    go c (inl e) = plain c (subst NoEntry (sym e) tt)
    go c (inr e) = plain c (subst NoEntry (sym e) n)
