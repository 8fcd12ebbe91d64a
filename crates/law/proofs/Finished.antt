-- The laws, from the invariant.
use Rattle.std.proofs.Common.{◌≡◌, ℕ, ◌≤◌, Bool, true, false, cond, not, ◌⊎◌, List, [], ◌∷◌, length, sym, refl, ap, ◌∙◌, subst, inl, inr, arith}
use Rattle.order.specs.Lists.{same, Each}
use Rattle.revision.specs.Ids.{Id}
use Rattle.revision.specs.Trees.{Tree, union, Holds, held}
use Rattle.revision.specs.Paths.{Path, path_tree, at_last}
use Rattle.keys.specs.Keys.{passes}
use Rattle.checkpoint.specs.Logs.{Note}
use Rattle.peer.specs.Records.{grow, lay, Documents, put, Record, NoRow}
use Rattle.peer.specs.Peers.{Peer, path, entry, current, tree_of, Moved, Effect, nothing, writes, joined}
use Rattle.peer.specs.Peers as S
use Rattle.law.specs.Replications.{ready, Replication, done, entry_of}
use Rattle.law.specs.Replications as R
use Rattle.law.specs.Runs.{Open, Slot, World, sides, Running, with_paths, FinishStep, StepOf, start, turn, secure, recording, finish, abandon, of, Run, next, Only, here, then}
use Rattle.law.specs.Laws.{sent, Finishes, Resumes, Converges, Unites}
use Rattle.revision.proofs.Places.{Below, Agrees, below_refl, below_trans, below_left, union_least, same_tree, fits_join, fits_compatible, held_level, absent_level}
use Rattle.revision.proofs.Trees.{last_level, path_below, path_agrees}
use Rattle.law.proofs.Shown.{same_shown}
use Rattle.order.proofs.Lists.{same_true}
use Rattle.peer.proofs.Waiting.{after_more, shift_after}
use Rattle.law.proofs.Sites.{Site, site, now, log_now, wait, lacks, accept, accepts, site_accepts, Live}
use Rattle.law.proofs.Sound.{Histories, PathGood, DocumentsGood, lay_above, lay_least, lay_grow, held_path}
use Rattle.law.proofs.Invariant.{Conditions, Invariant}
use Rattle.law.proofs.Changes.{Wider, wider_refl, wider_entry, Copied}
use Rattle.peer.proofs.Calls.{Ends}
use Rattle.law.proofs.Steps.{at, at_side, now_had, opens_sound, copies_good, source_ok, turn_paths, turn_ends, record_ends, record_counts, finish_ends, start_ends, secure_ends, run_inv}

-- the peers of a world after a step
after_source : (x : Bool) (w v : World) (p q : Peer) (k l : List Record) (rep : ℕ → Slot) (st : List ℕ) → v ≡ record { peer = sides x p q; past = sides x k l; replications = rep; stamps = st } → v.peer x ≡ p
after_source true w v p q k l rep st e = ap (λ (z : World). z.peer true) e
after_source false w v p q k l rep st e = ap (λ (z : World). z.peer false) e

after_target : (x : Bool) (w v : World) (p q : Peer) (k l : List Record) (rep : ℕ → Slot) (st : List ℕ) → v ≡ record { peer = sides x p q; past = sides x k l; replications = rep; stamps = st } → v.peer (not x) ≡ q
after_target true w v p q k l rep st e = ap (λ (z : World). z.peer false) e
after_target false w v p q k l rep st e = ap (λ (z : World). z.peer true) e

moved_docs : (p q : Peer) → Moved p q → (current q).docs ≡ (current p).docs
moved_docs p q m = shift_after put m.docs

live_sites : (r : Open) (p q : Peer) (k l : List Record) → R.Live r.numbers p q → Live (site p k) (site q l) r
live_sites r p q k l h = record { source_up = h.source_up; source_stamp = h.source_stamp; target_up = h.target_up; target_stamp = h.target_stamp }

-- a run goes on by the steps of one replication
pub only_run : (Ok : Path → Type 0) (t : ℕ) {w z : World} → Run Ok w → Only Ok t w z → Run Ok z
only_run Ok t run here = run
only_run Ok t run (then u v o c) = next u v (only_run Ok t run o) (of t c)

module _ (Ok : Path → Type 0) (H : Histories) (good : (p : Path) → Ok p → 1 ≤ length p.tags → PathGood H p) where
  -- the target holds each passing document of the source when a replication finishes
  finish_holds : (w : World) → Run Ok w → (s : ℕ) (r : Open) → Running s r ready w → R.Live r.numbers (w.peer r.source) (w.peer (not r.source)) → NoRow (now (at w r.source)) r.numbers.position → (d : Id) → passes r.numbers.rule d ≡ true →
      Below ((now (at w r.source)).tree d) ((now (at w (not r.source))).tree d)
  finish_holds w run s r g l n d p =
      (((at_side H w r.source (run_inv Ok H good run)).open_forth s r g.runs refl).conds (live_sites r (w.peer r.source) (w.peer (not r.source)) (w.past r.source) (w.past (not r.source)) l)).current.holds d p (n d)

  finish_trees : (w : World) → Run Ok w → (s : ℕ) (r : Open) → Running s r ready w → R.Live r.numbers (w.peer r.source) (w.peer (not r.source)) → NoRow (now (at w r.source)) r.numbers.position → (d : Id) →
      (now (at w (not r.source))).tree d ≡ union (union (r.own d) (r.others d)) (sent (passes r.numbers.rule d) ((now (at w r.source)).tree d))
  finish_trees w run s r g l n d =
      same_tree (H d) ((now b).tree d) u ((i.two.ok (now b) (log_now b) (now_had b)).agrees d) u_agrees (c.all d)
      (union_least (union (r.own d) (r.others d)) (sent (passes r.numbers.rule d) ((now a).tree d)) ((now b).tree d)
      (union_least (r.own d) (r.others d) ((now b).tree d) (c.own_held d) (c.others_held d))
      (sent_held (passes r.numbers.rule d) refl))
    where
      a : Site
      a = at w r.source

      b : Site
      b = at w (not r.source)

      u : Tree
      u = union (union (r.own d) (r.others d)) (sent (passes r.numbers.rule d) ((now a).tree d))

      i : Invariant H r.source a b w.replications w.stamps
      i = at_side H w r.source (run_inv Ok H good run)

      c : Conditions H a b s r
      c = (i.open_forth s r g.runs refl).conds (live_sites r (w.peer r.source) (w.peer (not r.source)) (w.past r.source) (w.past (not r.source)) l)

      sent_agrees : (t : Bool) → Agrees (H d) (sent t ((now a).tree d))
      sent_agrees true x y = (i.one.ok (now a) (log_now a) (now_had a)).agrees d x y
      sent_agrees false x y = tt

      u_agrees : Agrees (H d) u
      u_agrees x y = fits_join (H d x y) (union (r.own d) (r.others d) x y) (sent (passes r.numbers.rule d) ((now a).tree d) x y)
          (fits_join (H d x y) (r.own d x y) (r.others d x y) (c.own_agrees d x y) (c.others_agrees d x y)) (sent_agrees (passes r.numbers.rule d) x y)

      sent_held : (t : Bool) → passes r.numbers.rule d ≡ t → Below (sent t ((now a).tree d)) ((now b).tree d)
      sent_held true e x y = finish_holds w run s r g l n d e x y
      sent_held false e x y = omega arith

  -- the current documents after a finish
  finish_source : (s : ℕ) (r : Open) (m : Replication) (w v : World) → FinishStep s r (done m) w v → (current (v.peer r.source)).docs ≡ (current (w.peer r.source)).docs
  finish_source s r m w v f =
      ap (λ (z : Peer). (current z).docs) (after_source r.source w v f.source f.target f.goes.source_past f.goes.target_past _ _ f.goes.is) ∙ moved_docs (w.peer r.source) f.source f.step.source_moved

  finish_target : (s : ℕ) (r : Open) (m : Replication) (w v : World) → FinishStep s r (done m) w v → (current (v.peer (not r.source))).docs ≡ (current (w.peer (not r.source))).docs
  finish_target s r m w v f =
      ap (λ (z : Peer). (current z).docs) (after_target r.source w v f.source f.target f.goes.source_past f.goes.target_past _ _ f.goes.is) ∙ moved_docs (w.peer (not r.source)) f.target f.step.target_moved

  pub finishes : Finishes Ok
  finishes w v run s r m f d =
      ap (λ (z : Documents). z.tree d) (finish_target s r m w v f)
      ∙ (finish_trees w run s r f.going f.step.live f.step.no_row d
      ∙ ap (λ (z : Documents). union (union (r.own d) (r.others d)) (sent (passes r.numbers.rule d) (z.tree d))) (sym (finish_source s r m w v f)))

  pub resumes : Resumes Ok
  resumes w v run s side rule m f d p l =
      subst (λ (z : Documents). Holds (tree_of (v.peer (not side)) d) (z.tree d)) (sym ea)
      (subst (λ (z : Documents). Holds (z.tree d) ((now a).tree d)) (sym eb) holds)
    where
      a : Site
      a = at w side

      b : Site
      b = at w (not side)

      n : ℕ
      n = f.step.position

      ea : (current (v.peer side)).docs ≡ (current (w.peer side)).docs
      ea = ap (λ (z : Peer). (current z).docs) (after_source side w v f.source f.target f.goes.source_past f.goes.target_past _ _ f.goes.is) ∙ moved_docs (w.peer side) f.source f.step.source_moved

      eb : (current (v.peer (not side))).docs ≡ (current (w.peer (not side))).docs
      eb = ap (λ (z : Peer). (current z).docs) (after_target side w v f.source f.target f.goes.source_past f.goes.target_past _ _ f.goes.is) ∙ moved_docs (w.peer (not side)) f.target f.step.target_moved

      i : Invariant H side a b w.replications w.stamps
      i = at_side H w side (run_inv Ok H good run)

      low : (now a).last d ≤ n
      low = subst (λ (z : ℕ). (now a).last d ≤ z) (ap (λ (k : Replication). k.position) f.step.opens) (subst (λ (z : Documents). z.last d ≤ m.position) ea l)

      below : Below ((now a).tree d) ((now b).tree d)
      below = (opens_sound H side a b w.replications w.stamps rule n f.step.common i f.step.compared).holds d p low

      ka : Agrees (H d) ((now a).tree d)
      ka = (i.one.ok (now a) (log_now a) (now_had a)).agrees d

      kb : Agrees (H d) ((now b).tree d)
      kb = (i.two.ok (now b) (log_now b) (now_had b)).agrees d

      holds : Holds ((now b).tree d) ((now a).tree d)
      holds = same_tree (H d) (union ((now b).tree d) ((now a).tree d)) ((now b).tree d)
          (λ x y. fits_join (H d x y) ((now b).tree d x y) ((now a).tree d x y) (kb x y) (ka x y)) kb
          (union_least ((now b).tree d) ((now a).tree d) ((now b).tree d) (below_refl ((now b).tree d)) below)
          (below_left ((now b).tree d) ((now a).tree d))

-- both ways --------------------------------------------------------------------------------------------------------------

-- a peer is down, or a holds no more than b
abbrev Ahead : Site → Site → Type 0
Ahead a b = (a.up ≡ false) ⊎ ((b.up ≡ false) ⊎ ((d : Id) → Below ((now a).tree d) ((now b).tree d)))

ends_down : (p q : Peer) → Ends p q → p.up ≡ false → q.up ≡ false
ends_down p q (inl m) e = m.up ∙ e
ends_down p q (inr f) e = f.down

ahead_low : (p q : Peer) (k k' : List Record) (b : Site) → Ends p q → Ahead (site p k) b → Ahead (site q k') b
ahead_low p q k k' b e (inl h) = inl (ends_down p q e h)
ahead_low p q k k' b e (inr (inl h)) = inr (inl h)
ahead_low p q k k' b (inl m) (inr (inr h)) = inr (inr (λ d. subst (λ (z : Documents). Below (z.tree d) ((now b).tree d)) (sym (moved_docs p q m)) (h d)))
ahead_low p q k k' b (inr f) (inr (inr h)) = inl f.down

ahead_high : (p q : Peer) (k k' : List Record) (a : Site) → Ends p q → Ahead a (site p k) → Ahead a (site q k')
ahead_high p q k k' a e (inl h) = inl h
ahead_high p q k k' a e (inr (inl h)) = inr (inl (ends_down p q e h))
ahead_high p q k k' a (inl m) (inr (inr h)) = inr (inr (λ d. subst (λ (z : Documents). Below ((now a).tree d) (z.tree d)) (sym (moved_docs p q m)) (h d)))
ahead_high p q k k' a (inr f) (inr (inr h)) = inr (inl f.down)

ahead_both : (p q p' q' : Peer) (k l k' l' : List Record) → Ends p p' → Ends q q' → Ahead (site p k) (site q l) → Ahead (site p' k') (site q' l')
ahead_both p q p' q' k l k' l' e f h = ahead_high q q' l l' (site p' k') f (ahead_low p p' k k' (site q l) e h)

-- a log write more changes no document
ahead_wider : (p q i j : Peer) (k l : List Record) → Wider p i → Wider q j → Ahead (site p k) (site q l) → Ahead (site i k) (site j l)
ahead_wider p q i j k l e f (inl h) = inl (e.up ∙ h)
ahead_wider p q i j k l e f (inr (inl h)) = inr (inl (f.up ∙ h))
ahead_wider p q i j k l e f (inr (inr h)) = inr (inr (λ d. subst (λ (z : Documents). Below (z.tree d) ((current j).docs.tree d)) (sym e.same_now) (subst (λ (z : Documents). Below ((current p).docs.tree d) (z.tree d)) (sym f.same_now) (h d))))

wider_counts : (n : Note) (c : Effect) (p : Peer) → (c ≡ nothing) ⊎ (c ≡ writes (entry n)) → Wider p (joined c p)
wider_counts n c p (inl e) = subst (λ (z : Effect). Wider p (joined z p)) (sym e) (wider_refl p)
wider_counts n c p (inr e) = subst (λ (z : Effect). Wider p (joined z p)) (sym e) (wider_entry n p)

wait_now : (w : Path) (a : Site) → now (wait w a) ≡ put w (now a)
wait_now w a = after_more put a.docs a.paths (w ∷ [])

ahead_copy : (H : Histories) (r : Open) (w : Path) (a b : Site) → Copied H r b w → Ahead a b → Ahead (accept w a) b
ahead_copy H r w a b c h = go (lacks w a) h
  where
    go : (n : Bool) → Ahead a b → Ahead (cond n (wait w a) a) b
    go true (inl h) = inl h
    go true (inr (inl h)) = inr (inl h)
    go true (inr (inr h)) = inr (inr (λ d. subst (λ (z : Documents). Below (z.tree d) ((now b).tree d)) (sym (wait_now w a))
        (lay_least w (now a).tree d ((now b).tree d) (h d) (λ e. subst (λ (k : Id). Below (path_tree w) ((now b).tree k)) (same_true w.doc d e) c.2))))
    go false h = h

ahead_copies : (H : Histories) (r : Open) (ws : List Path) (a b : Site) → Each (Copied H r b) ws → Ahead a b → Ahead (accepts ws a) b
ahead_copies H r [] a b c h = h
ahead_copies H r (w ∷ ws) a b c h = ahead_copies H r ws (accept w a) b c.1 (ahead_copy H r w a b c.0 h)

ahead_more : (w : Path) (a b : Site) → Ahead a b → Ahead a (accept w b)
ahead_more w a b h = go (lacks w b) h
  where
    go : (n : Bool) → Ahead a b → Ahead a (cond n (wait w b) b)
    go true (inl h) = inl h
    go true (inr (inl h)) = inr (inl h)
    go true (inr (inr h)) = inr (inr (λ d. subst (λ (z : Documents). Below ((now a).tree d) (z.tree d)) (sym (wait_now w b))
        (below_trans ((now a).tree d) ((now b).tree d) (lay w (now b).tree d) (h d) (lay_above w (now b).tree d))))
    go false h = h

ahead_mores : (ws : List Path) (a b : Site) → Ahead a b → Ahead a (accepts ws b)
ahead_mores [] a b h = h
ahead_mores (w ∷ ws) a b h = ahead_mores ws a (accept w b) (ahead_more w a b h)

abbrev AheadIn : Bool → World → Type 0
AheadIn s w = Ahead (at w s) (at w (not s))

-- two peers change, the one on side x to p and the other to q
ahead_to : (s x : Bool) (w v : World) (p q : Peer) (k l : List Record) (rep : ℕ → Slot) (st : List ℕ) → v ≡ record { peer = sides x p q; past = sides x k l; replications = rep; stamps = st } →
    (Ahead (at w x) (at w (not x)) → Ahead (site p k) (site q l)) → (Ahead (at w (not x)) (at w x) → Ahead (site q l) (site p k)) → AheadIn s w → AheadIn s v
ahead_to s x w v p q k l rep st e h f a = subst (λ (z : World). AheadIn s z) (sym e) (go s x h f a)
  where
    go : (s x : Bool) → (Ahead (at w x) (at w (not x)) → Ahead (site p k) (site q l)) → (Ahead (at w (not x)) (at w x) → Ahead (site q l) (site p k)) → AheadIn s w → AheadIn s (record { peer = sides x p q; past = sides x k l; replications = rep; stamps = st })
    go true true h f a = h a
    go true false h f a = f a
    go false true h f a = f a
    go false false h f a = h a

module _ (Ok : Path → Type 0) (H : Histories) (good : (p : Path) → Ok p → 1 ≤ length p.tags → PathGood H p) where
  -- a step in which both peers end
  ahead_quiet : (s x : Bool) (w v : World) (p q : Peer) (k l : List Record) (rep : ℕ → Slot) (st : List ℕ) → v ≡ record { peer = sides x p q; past = sides x k l; replications = rep; stamps = st } →
      Ends (w.peer x) p × Ends (w.peer (not x)) q → AheadIn s w → AheadIn s v
  ahead_quiet s x w v p q k l rep st e f = ahead_to s x w v p q k l rep st e
      (ahead_both (w.peer x) (w.peer (not x)) p q (w.past x) (w.past (not x)) k l f.0 f.1)
      (ahead_both (w.peer (not x)) (w.peer x) q p (w.past (not x)) (w.past x) l k f.1 f.0)

  ahead_of : (s : Bool) (t : ℕ) (w v : World) → Run Ok w → StepOf Ok t w v → AheadIn s w → AheadIn s v
  ahead_of s t w v run (start side rule o c) h = ahead_quiet s side w v c.source c.target c.goes.source_past c.goes.target_past _ _ c.goes.is (start_ends Ok H good t side rule o w v c) h
  ahead_of s t w v run (turn r o c) h =
      ahead_to s r.source w v c.source c.target c.goes.source_past c.goes.target_past _ _ c.goes.is
      (λ k. ahead_both p j c.source c.target (w.past r.source) (w.past (not r.source)) c.goes.source_past c.goes.target_past e.0 e.1
      (subst (λ (z : Site). Ahead a z) (site_accepts c.paths q (w.past (not r.source))) (ahead_mores c.paths a b k)))
      (λ k. ahead_both j p c.target c.source (w.past (not r.source)) (w.past r.source) c.goes.target_past c.goes.source_past e.1 e.0
      (subst (λ (z : Site). Ahead z a) (site_accepts c.paths q (w.past (not r.source))) (ahead_copies H r c.paths b a (copies_good Ok H good r a ok c.paths (turn_paths Ok H good t r o w v ok c)) k))) h
    where
      p : Peer
      p = w.peer r.source

      q : Peer
      q = w.peer (not r.source)

      j : Peer
      j = with_paths c.paths q

      a : Site
      a = at w r.source

      b : Site
      b = at w (not r.source)

      e : Ends p c.source × Ends j c.target
      e = turn_ends Ok H good t r o w v c

      ok : DocumentsGood H (now (at w r.source))
      ok = source_ok Ok H good w r.source (run_inv Ok H good run)
  ahead_of s t w v run (secure r o c) h = ahead_quiet s r.source w v c.source c.target c.goes.source_past c.goes.target_past _ _ c.goes.is (secure_ends Ok H good t r o w v c) h
  ahead_of s t w v run (recording r o c) h =
      ahead_to s r.source w v c.source c.target c.goes.source_past c.goes.target_past _ _ c.goes.is
      (λ k. ahead_both i j c.source c.target (w.past r.source) (w.past (not r.source)) c.goes.source_past c.goes.target_past e.0 e.1 (ahead_wider p q i j (w.past r.source) (w.past (not r.source)) wi wj k))
      (λ k. ahead_both j i c.target c.source (w.past (not r.source)) (w.past r.source) c.goes.target_past c.goes.source_past e.1 e.0 (ahead_wider q p j i (w.past (not r.source)) (w.past r.source) wj wi k)) h
    where
      p : Peer
      p = w.peer r.source

      q : Peer
      q = w.peer (not r.source)

      i : Peer
      i = joined c.source_counts p

      j : Peer
      j = joined c.target_counts q

      e : Ends i c.source × Ends j c.target
      e = record_ends Ok H good t r o w v c

      wi : Wider p i
      wi = wider_counts (entry_of r.numbers p q) c.source_counts p (record_counts Ok H good t r o w v c).0

      wj : Wider q j
      wj = wider_counts (entry_of r.numbers p q) c.target_counts q (record_counts Ok H good t r o w v c).1
  ahead_of s t w v run (finish r o c) h = ahead_quiet s r.source w v c.source c.target c.goes.source_past c.goes.target_past _ _ c.goes.is (finish_ends Ok H good t r o w v c) h
  ahead_of s t w v run (abandon c) h = subst (λ (z : World). AheadIn s z) (sym c.is) h

  only_ahead : (s : Bool) (t : ℕ) {w z : World} → Run Ok w → Only Ok t w z → AheadIn s w → AheadIn s z
  only_ahead s t run here h = h
  only_ahead s t run (then u v o c) h = ahead_of s t u v (only_run Ok t run o) c (only_ahead s t run o h)

  all_pass : (rule : List ℕ) (d : Id) → rule ≡ [] → passes rule d ≡ true
  all_pass rule d e = ap (λ (k : List ℕ). passes k d) e

  both_up : (a b : Site) → a.up ≡ true → b.up ≡ true → Ahead a b → (d : Id) → Below ((now a).tree d) ((now b).tree d)
  both_up a b e f (inl h) = absurd (let z : ◌≡◌ {A = ℕ} 0 1 = cc in omega arith)
  both_up a b e f (inr (inl h)) = absurd (let z : ◌≡◌ {A = ℕ} 0 1 = cc in omega arith)
  both_up a b e f (inr (inr h)) = h

  either_way : (s : Bool) (f : Bool → Tree) → f (not s) ≡ f s → f true ≡ f false
  either_way true f e = sym e
  either_way false f e = e

  pub converges : Converges Ok
  converges w u z v run s t r q m n e1 e2 e3 f1 only f2 d =
      same_shown (tree_of (v.peer true) d) (tree_of (v.peer false) d) (either_way q.source (λ k. tree_of (v.peer k) d)
      (ap (λ (k : Documents). k.tree d) (finish_target Ok H good t q n z v f2)
      ∙ (same_tree (H d) ((now b).tree d) ((now a).tree d) ((i.two.ok (now b) (log_now b) (now_had b)).agrees d) ((i.one.ok (now a) (log_now a) (now_had a)).agrees d) low high
      ∙ ap (λ (k : Documents). k.tree d) (sym (finish_source Ok H good t q n z v f2)))))
    where
      a : Site
      a = at z q.source

      b : Site
      b = at z (not q.source)

      urun : Run Ok u
      urun = next w u run (of s (finish r (done m) f1))

      zrun : Run Ok z
      zrun = only_run Ok t urun only

      i : Invariant H q.source a b z.replications z.stamps
      i = at_side H z q.source (run_inv Ok H good zrun)

      -- after the first finish
      first : AheadIn r.source u
      first = inr (inr (λ k. subst (λ (x : Documents). Below (x.tree k) ((now (at u (not r.source))).tree k)) (sym (finish_source Ok H good s r m w u f1))
          (subst (λ (x : Documents). Below ((now (at w r.source)).tree k) (x.tree k)) (sym (finish_target Ok H good s r m w u f1))
          (finish_holds Ok H good w run s r f1.going f1.step.live f1.step.no_row k (all_pass r.numbers.rule k e1)))))

      still : AheadIn r.source z
      still = only_ahead r.source t urun only first

      turned : (x y : Bool) → y ≡ not x → (g : Bool → Site) → Ahead (g x) (g (not x)) → Ahead (g (not y)) (g y)
      turned true true e g h = absurd (let m : ◌≡◌ {A = ℕ} 0 1 = cc in omega arith)
      turned true false e g h = h
      turned false true e g h = h
      turned false false e g h = absurd (let m : ◌≡◌ {A = ℕ} 0 1 = cc in omega arith)

      low : Below ((now b).tree d) ((now a).tree d)
      low = both_up b a f2.step.live.target_up f2.step.live.source_up (turned r.source q.source e3 (at z) still) d

      high : Below ((now a).tree d) ((now b).tree d)
      high = finish_holds Ok H good z zrun t q f2.going f2.step.live f2.step.no_row d (all_pass q.numbers.rule d e2)

  pub unites : Unites Ok
  unites w run side p o some = record {
    agreed = λ g x. fits_compatible (H p.doc g x) (t g x) (path_tree p g x) (k.agrees p.doc g x) (path_agrees (H p.doc) p (good p o some) g x);
    kept = λ l. grown p.doc (path_below (H p.doc) t p (k.closed p.doc) (good p o some) (held_level (at_last t p) l)) (path_agrees (H p.doc) p (good p o some));
    becomes = λ d. go d (held (at_last t p)) refl;
  }
    where
      a : Site
      a = at w side

      t : Tree
      t = (now a).tree p.doc

      k : DocumentsGood H (now a)
      k = source_ok Ok H good w side (run_inv Ok H good run)

      grown : (d : Id) → Below (path_tree p) ((now a).tree d) → Agrees (H d) (path_tree p) → union ((now a).tree d) (path_tree p) ≡ (now a).tree d
      grown d b f = same_tree (H d) (union ((now a).tree d) (path_tree p)) ((now a).tree d)
          (λ x y. fits_join (H d x y) ((now a).tree d x y) (path_tree p x y) (k.agrees d x y) (f x y)) (k.agrees d)
          (union_least ((now a).tree d) (path_tree p) ((now a).tree d) (below_refl ((now a).tree d)) b) (below_left ((now a).tree d) (path_tree p))

      kept : (d : Id) → 1 ≤ last_level t p → (b : Bool) → same p.doc d ≡ b → (now a).tree d ≡ cond b (union ((now a).tree d) (path_tree p)) ((now a).tree d)
      kept d l true e = sym (grown d (held_path H (now a) p d k (good p o some) e l)
          (subst (λ (c : Id). Agrees (H c) (path_tree p)) (same_true p.doc d e) (path_agrees (H p.doc) p (good p o some))))
      kept d l false e = refl

      go : (d : Id) (n : Bool) → held (at_last t p) ≡ n → tree_of (cond (not n) (S.wait (path p) (w.peer side)) (w.peer side)) d ≡ grow p (now a).tree d
      go d false e = ap (λ (z : Documents). z.tree d) (wait_now p a) ∙ ap (λ (f : Id → Tree). f d) (lay_grow H (now a) p k (good p o some) (absent_level (at_last t p) e))
      go d true e = kept d (held_level (at_last t p) e) (same p.doc d) refl
