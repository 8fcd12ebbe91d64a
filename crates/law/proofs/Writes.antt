-- An accepted path, by a user or by a replication that copies it, keeps the invariant.
use Rattle.std.proofs.Common.{◌≡◌, ℕ, ◌≤◌, min, Bool, true, false, cond, not, eqb, ◌⊎◌, List, [], ◌∷◌, sym, refl, ap, ◌∙◌, subst, inl, inr, arith}
use Rattle.std.proofs.lemmas.Bool.{eqb-true}
use Rattle.order.specs.Lists.{same, Mem}
use Rattle.peer.specs.Waiting.{Stage}
use Rattle.revision.specs.Ids.{Id}
use Rattle.revision.specs.Trees.{Tree, empty, union}
use Rattle.revision.specs.Paths.{Path, path_tree, at_last}
use Rattle.keys.specs.Keys.{passes, Key}
use Rattle.checkpoint.specs.Logs.{Logs, enter}
use Rattle.peer.specs.Records.{grow, lay, Documents, put}
use Rattle.law.specs.Replications.{secured}
use Rattle.law.specs.Runs.{Open, Slot, idle, running, towards, hear, tell, Who, user, copier, told}
use Rattle.law.specs.Laws.{sent}
use Rattle.revision.proofs.Places.{Below, below_refl, below_trans, below_left, below_right, union_least}
use Rattle.revision.proofs.Trees.{last_level}
use Rattle.order.proofs.Lists.{same_true}
use Rattle.peer.proofs.Waiting.{stage_first, stage_last, after_more, stage_end}
use Rattle.law.proofs.Sites.{Site, now, Had, wait, lacks, accept, lacks_none, lacks_some, key_of, Live}
use Rattle.law.proofs.Sound.{Histories, PathGood, DocumentsGood, Sound, sound_source, sound_target, put_ok, grow_agrees, grow_above, grow_least, lay_above, lay_least, lay_grow, held_path}
use Rattle.law.proofs.Invariant.{DocumentsStage, LogsSound, Conditions, ReplicationInvariant, Direction, Noted, Invariant}

-- a path that joins the list of a peer
pub now_wait : (w : Path) (a : Site) → now (wait w a) ≡ put w (now a)
now_wait w a = after_more put a.docs a.paths (w ∷ [])

stage_wait : (w : Path) (a : Site) (x : Documents) → DocumentsStage (wait w a) x → DocumentsStage a x ⊎ (x ≡ put w (now a))
stage_wait w a x h = stage_end put a.docs a.paths w x h

had_now : (a : Site) (l : Logs) → Stage enter a.log a.notes l → Had a (now a) l
had_now a l h = inl (stage_last put a.docs a.paths, h)

had_wait : (w : Path) (a : Site) (x : Documents) (l : Logs) → Had (wait w a) x l → Had a x l ⊎ ((x ≡ put w (now a)) × Had a (now a) l)
had_wait w a x l (inl h) = go (stage_wait w a x h.0)
  where
    go : DocumentsStage a x ⊎ (x ≡ put w (now a)) → Had a x l ⊎ ((x ≡ put w (now a)) × Had a (now a) l)
    go (inl k) = inl (inl (k, h.1))
    go (inr k) = inr (k, had_now a l h.1)
had_wait w a x l (inr h) = inl (inr h)

to_source : (rule : List ℕ) (n : ℕ) (a : Site) (w : Path) (x y : Documents) → x ≡ put w (now a) → Sound rule n (now a) y → Sound rule n x y
to_source rule n a w x y e s = subst (λ (z : Documents). Sound rule n z y) (sym e) (sound_source rule n (now a) y w s)

to_target : (rule : List ℕ) (n : ℕ) (a : Site) (w : Path) (x y : Documents) → y ≡ put w (now a) → Sound rule n x (now a) → Sound rule n x y
to_target rule n a w x y e s = subst (λ (z : Documents). Sound rule n x z) (sym e) (sound_target rule n x (now a) w s)

main_wait_source : (w : Path) (a b : Site) → LogsSound a b → LogsSound (wait w a) b
main_wait_source w a b i rule s p q x l y m hx hy j k = go (had_wait w a x l hx)
  where
    go : Had a x l ⊎ ((x ≡ put w (now a)) × Had a (now a) l) → Sound rule (min p q) x y
    go (inl h) = i rule s p q x l y m h hy j k
    go (inr h) = to_source rule (min p q) a w x y h.0 (i rule s p q (now a) l y m h.1 hy j k)

main_wait_target : (w : Path) (a b : Site) → LogsSound b a → LogsSound b (wait w a)
main_wait_target w a b i rule s p q x l y m hx hy j k = go (had_wait w a y m hy)
  where
    go : Had a y m ⊎ ((y ≡ put w (now a)) × Had a (now a) m) → Sound rule (min p q) x y
    go (inl h) = i rule s p q x l y m hx h j k
    go (inr h) = to_target rule (min p q) a w x y h.0 (i rule s p q x l (now a) m hx h.1 j k)

sent_mono : (b : Bool) (t u : Tree) → Below t u → Below (sent b t) (sent b u)
sent_mono true t u h = h
sent_mono false t u h = below_refl empty

union_mono : (t u v z : Tree) → Below t v → Below u z → Below (union t u) (union v z)
union_mono t u v z h k = union_least t u (union v z) (below_trans t v (union v z) h (below_left v z)) (below_trans u z (union v z) k (below_right v z))

grow_path : (w : Path) (f : Id → Tree) (d : Id) → same w.doc d ≡ true → Below (path_tree w) (grow w f d)
grow_path w f d e = subst (λ (b : Bool). Below (path_tree w) (cond b (union (f d) (path_tree w)) (f d))) (sym e) (below_right (f d) (path_tree w))

module _ (H : Histories) (w : Path) where
  conds_wait_source : (a b : Site) (s : ℕ) (r : Open) → Conditions H a b s r → Conditions H (wait w a) b s r
  conds_wait_source a b s r v = record {
    current = to_source r.numbers.rule r.numbers.position a w (now (wait w a)) (now b) (now_wait w a) v.current;
    standing = λ e x y i j. standing' e x y (stage_wait w a x i) j;
    theirs = λ q x y m i j n. theirs' q x y m (stage_wait w a x i) j n;
    ours = λ p x l y i j n. ours' p x l y (had_wait w a x l i) j n;
    own_agrees = v.own_agrees;
    others_agrees = v.others_agrees;
    own_held = v.own_held;
    others_held = v.others_held;
    all = λ d. below_trans ((now b).tree d) (union (union (r.own d) (r.others d)) (sent (passes r.numbers.rule d) ((now a).tree d))) (union (union (r.own d) (r.others d)) (sent (passes r.numbers.rule d) ((now (wait w a)).tree d))) (v.all d)
        (union_mono (union (r.own d) (r.others d)) (sent (passes r.numbers.rule d) ((now a).tree d)) (union (r.own d) (r.others d)) (sent (passes r.numbers.rule d) ((now (wait w a)).tree d))
        (below_refl (union (r.own d) (r.others d)))
        (sent_mono (passes r.numbers.rule d) ((now a).tree d) ((now (wait w a)).tree d)
        (subst (λ (z : Documents). Below ((now a).tree d) (z.tree d)) (sym (now_wait w a)) (lay_above w (now a).tree d))));
  }
    where
      standing' : r.numbers.phase ≡ secured → (x y : Documents) → DocumentsStage a x ⊎ (x ≡ put w (now a)) → DocumentsStage b y → Sound r.numbers.rule r.numbers.position x y
      standing' e x y (inl i) j = v.standing e x y i j
      standing' e x y (inr i) j = to_source r.numbers.rule r.numbers.position a w x y i (v.standing e (now a) y (stage_last put a.docs a.paths) j)

      theirs' : (q : ℕ) (x y : Documents) (m : Logs) → DocumentsStage a x ⊎ (x ≡ put w (now a)) → Had b y m → Mem (s, q) (m (key_of a b r.numbers.rule)) → Sound r.numbers.rule q x y
      theirs' q x y m (inl i) j n = v.theirs q x y m i j n
      theirs' q x y m (inr i) j n = to_source r.numbers.rule q a w x y i (v.theirs q (now a) y m (stage_last put a.docs a.paths) j n)

      ours' : (p : ℕ) (x : Documents) (l : Logs) (y : Documents) → Had a x l ⊎ ((x ≡ put w (now a)) × Had a (now a) l) → DocumentsStage b y → Mem (s, p) (l (key_of a b r.numbers.rule)) → Sound r.numbers.rule p x y
      ours' p x l y (inl i) j n = v.ours p x l y i j n
      ours' p x l y (inr i) j n = to_source r.numbers.rule p a w x y i.0 (v.ours p (now a) l y i.1 j n)

  -- of a replication from b to a: all but the journal
  module _ (a b : Site) (s : ℕ) (r : Open) (v : Conditions H b a s r) where
    t_current : Sound r.numbers.rule r.numbers.position (now b) (now (wait w a))
    t_current = to_target r.numbers.rule r.numbers.position a w (now b) (now (wait w a)) (now_wait w a) v.current

    t_standing : r.numbers.phase ≡ secured → (x y : Documents) → DocumentsStage b x → DocumentsStage a y ⊎ (y ≡ put w (now a)) → Sound r.numbers.rule r.numbers.position x y
    t_standing e x y i (inl j) = v.standing e x y i j
    t_standing e x y i (inr j) = to_target r.numbers.rule r.numbers.position a w x y j (v.standing e x (now a) i (stage_last put a.docs a.paths))

    t_theirs : (q : ℕ) (x y : Documents) (m : Logs) → DocumentsStage b x → Had a y m ⊎ ((y ≡ put w (now a)) × Had a (now a) m) → Mem (s, q) (m (key_of b a r.numbers.rule)) → Sound r.numbers.rule q x y
    t_theirs q x y m i (inl j) n = v.theirs q x y m i j n
    t_theirs q x y m i (inr j) n = to_target r.numbers.rule q a w x y j.0 (v.theirs q x (now a) m i j.1 n)

    t_ours : (p : ℕ) (x : Documents) (l : Logs) (y : Documents) → Had b x l → DocumentsStage a y ⊎ (y ≡ put w (now a)) → Mem (s, p) (l (key_of b a r.numbers.rule)) → Sound r.numbers.rule p x y
    t_ours p x l y i (inl j) n = v.ours p x l y i j n
    t_ours p x l y i (inr j) n = to_target r.numbers.rule p a w x y j (v.ours p x l (now a) i (stage_last put a.docs a.paths) n)

    above_now : (d : Id) → Below ((now a).tree d) ((now (wait w a)).tree d)
    above_now d = subst (λ (z : Documents). Below ((now a).tree d) (z.tree d)) (sym (now_wait w a)) (lay_above w (now a).tree d)

    -- the replication's own path
    conds_own : passes r.numbers.rule w.doc ≡ true → Below (path_tree w) ((now b).tree w.doc) → Conditions H b (wait w a) s r
    conds_own pass below = record {
      current = t_current;
      standing = λ e x y i j. t_standing e x y i (stage_wait w a y j);
      theirs = λ q x y m i j n. t_theirs q x y m i (had_wait w a y m j) n;
      ours = λ p x l y i j n. t_ours p x l y i (stage_wait w a y j) n;
      own_agrees = v.own_agrees;
      others_agrees = v.others_agrees;
      own_held = λ d. below_trans (r.own d) ((now a).tree d) ((now (wait w a)).tree d) (v.own_held d) (above_now d);
      others_held = λ d. below_trans (r.others d) ((now a).tree d) ((now (wait w a)).tree d) (v.others_held d) (above_now d);
      all = λ d. subst (λ (z : Documents). Below (z.tree d) (u d)) (sym (now_wait w a)) (lay_least w (now a).tree d (u d) (v.all d) (λ e. in_source d e));
    }
      where
        u : Id → Tree
        u d = union (union (r.own d) (r.others d)) (sent (passes r.numbers.rule d) ((now b).tree d))

        in_source : (d : Id) → same w.doc d ≡ true → Below (path_tree w) (u d)
        in_source d e = subst (λ (c : Id). Below (path_tree w) (u c)) (same_true w.doc d e)
            (below_trans (path_tree w) (sent (passes r.numbers.rule w.doc) ((now b).tree w.doc)) (u w.doc)
            (subst (λ (t : Bool). Below (path_tree w) (sent t ((now b).tree w.doc))) (sym pass) below)
            (below_right (union (r.own w.doc) (r.others w.doc)) (sent (passes r.numbers.rule w.doc) ((now b).tree w.doc))))

abbrev heard : Path → Open → Open
heard w r = record { source = r.source; numbers = r.numbers; own = r.own; others = grow w r.others }

module _ (H : Histories) (w : Path) (o : PathGood H w) (a b : Site) (s : ℕ) (r : Open) (v : Conditions H b a s r) where
  others_more : (d : Id) → Below (union (union (r.own d) (r.others d)) (sent (passes r.numbers.rule d) ((now b).tree d))) (union (union (r.own d) (grow w r.others d)) (sent (passes r.numbers.rule d) ((now b).tree d)))
  others_more d = union_mono (union (r.own d) (r.others d)) (sent (passes r.numbers.rule d) ((now b).tree d)) (union (r.own d) (grow w r.others d)) (sent (passes r.numbers.rule d) ((now b).tree d))
      (union_mono (r.own d) (r.others d) (r.own d) (grow w r.others d) (below_refl (r.own d)) (grow_above w r.others d))
      (below_refl (sent (passes r.numbers.rule d) ((now b).tree d)))

  -- another's path, which joins the target's list
  conds_other : ((d : Id) → same w.doc d ≡ true → Below (path_tree w) (lay w (now a).tree d)) → Conditions H b (wait w a) s (heard w r)
  conds_other on_path = record {
    current = t_current H w a b s r v;
    standing = λ e x y i j. t_standing H w a b s r v e x y i (stage_wait w a y j);
    theirs = λ q x y m i j n. t_theirs H w a b s r v q x y m i (had_wait w a y m j) n;
    ours = λ p x l y i j n. t_ours H w a b s r v p x l y i (stage_wait w a y j) n;
    own_agrees = v.own_agrees;
    others_agrees = grow_agrees H w r.others o v.others_agrees;
    own_held = λ d. below_trans (r.own d) ((now a).tree d) ((now (wait w a)).tree d) (v.own_held d) (above_now H w a b s r v d);
    others_held = λ d. subst (λ (z : Documents). Below (grow w r.others d) (z.tree d)) (sym (now_wait w a))
        (grow_least w r.others d (lay w (now a).tree d) (below_trans (r.others d) ((now a).tree d) (lay w (now a).tree d) (v.others_held d) (lay_above w (now a).tree d)) (on_path d));
    all = λ d. subst (λ (z : Documents). Below (z.tree d) (u d)) (sym (now_wait w a)) (lay_least w (now a).tree d (u d)
        (below_trans ((now a).tree d) (union (union (r.own d) (r.others d)) (sent (passes r.numbers.rule d) ((now b).tree d))) (u d) (v.all d) (others_more d))
        (λ e. below_trans (path_tree w) (grow w r.others d) (u d) (grow_path w r.others d e)
        (below_trans (grow w r.others d) (union (r.own d) (grow w r.others d)) (u d) (below_right (r.own d) (grow w r.others d)) (below_left (union (r.own d) (grow w r.others d)) (sent (passes r.numbers.rule d) ((now b).tree d))))));
  }
    where
      u : Id → Tree
      u d = union (union (r.own d) (grow w r.others d)) (sent (passes r.numbers.rule d) ((now b).tree d))

  -- another's path that the target holds
  conds_held : DocumentsGood H (now a) → 1 ≤ last_level ((now a).tree w.doc) w → Conditions H b a s (heard w r)
  conds_held k l = record {
    current = v.current;
    standing = v.standing;
    theirs = v.theirs;
    ours = v.ours;
    own_agrees = v.own_agrees;
    others_agrees = grow_agrees H w r.others o v.others_agrees;
    own_held = v.own_held;
    others_held = λ d. grow_least w r.others d ((now a).tree d) (v.others_held d) (λ e. held_path H (now a) w d k o e l);
    all = λ d. below_trans ((now a).tree d) (union (union (r.own d) (r.others d)) (sent (passes r.numbers.rule d) ((now b).tree d))) (union (union (r.own d) (grow w r.others d)) (sent (passes r.numbers.rule d) ((now b).tree d))) (v.all d) (others_more d);
  }

-- what a replication was before others wrote a path
record Before (who : Who) (t : Bool) (w : Path) (rep : ℕ → Slot) (s : ℕ) (r : Open) : Type 0 where
  old : Open
  was : rep s ≡ running old
  how : ((r ≡ old) × (who ≡ copier s)) ⊎ (r ≡ hear t w old)

before : (who : Who) (t : Bool) (w : Path) (rep : ℕ → Slot) (s : ℕ) (r : Open) → told who t w rep s ≡ running r → Before who t w rep s r
before user t w rep s r e = go (rep s) refl e
  where
    go : (v : Slot) → rep s ≡ v → tell t w v ≡ running r → Before user t w rep s r
    go idle f e = absurd (let z : ◌≡◌ {A = ℕ} 0 1 = cc in omega arith)
    go (running q) f e = record { old = q; was = f; how = inr (let g : r ≡ hear t w q = cc in g) }
before (copier c) t w rep s r e = pick (eqb s c) refl e
  where
    go : (v : Slot) → rep s ≡ v → tell t w v ≡ running r → Before (copier c) t w rep s r
    go idle f e = absurd (let z : ◌≡◌ {A = ℕ} 0 1 = cc in omega arith)
    go (running q) f e = record { old = q; was = f; how = inr (let g : r ≡ hear t w q = cc in g) }

    pick : (b : Bool) → eqb s c ≡ b → cond b (rep s) (tell t w (rep s)) ≡ running r → Before (copier c) t w rep s r
    pick true q e = record { old = r; was = e; how = inl (refl, ap copier (sym (eqb-true s c q))) }
    pick false q e = go (rep s) refl e

away : (s : Bool) → towards s s ≡ false
away true = refl
away false = refl

aim : (s : Bool) → towards (not s) s ≡ true
aim true = refl
aim false = refl

hear_away : (t : Bool) (w : Path) (r : Open) → r.source ≡ t → hear t w r ≡ r
hear_away t w r e =
    let f : towards r.source t ≡ false = subst (λ (k : Bool). towards k t ≡ false) (sym e) (away t) in
    λ i. record { source = r.source; numbers = r.numbers; own = r.own; others = cond (f i) (grow w r.others) r.others }

hear_aim : (t : Bool) (w : Path) (r : Open) → r.source ≡ not t → hear t w r ≡ heard w r
hear_aim t w r e =
    let f : towards r.source t ≡ true = subst (λ (k : Bool). towards k t ≡ true) (sym e) (aim t) in
    λ i. record { source = r.source; numbers = r.numbers; own = r.own; others = cond (f i) (grow w r.others) r.others }

-- what is asked of a path that a replication copies from b, the other side of `side`
abbrev pub Copies : Who → Bool → Site → Path → (ℕ → Slot) → Type 0
Copies user side b w rep = Unit
Copies (copier s) side b w rep = (r : Open) → rep s ≡ running r → (passes r.numbers.rule w.doc ≡ true) × Below (path_tree w) ((now b).tree w.doc)

copies_by : (who : Who) (side : Bool) (b : Site) (w : Path) (rep : ℕ → Slot) (s : ℕ) (r : Open) → who ≡ copier s → Copies who side b w rep → rep s ≡ running r → (passes r.numbers.rule w.doc ≡ true) × Below (path_tree w) ((now b).tree w.doc)
copies_by who side b w rep s r e c f = (subst (λ (k : Who). Copies k side b w rep) e c) r f

hear_live : (a b : Site) (t : Bool) (w : Path) (r : Open) → Live a b (hear t w r) → Live a b r
hear_live a b t w r l = record { source_up = l.source_up; source_stamp = l.source_stamp; target_up = l.target_up; target_stamp = l.target_stamp }

heard_live : (a b : Site) (w : Path) (r : Open) → Live a b (heard w r) → Live a b r
heard_live a b w r l = record { source_up = l.source_up; source_stamp = l.source_stamp; target_up = l.target_up; target_stamp = l.target_stamp }

wait_live_source : (a b : Site) (w : Path) (r : Open) → Live (wait w a) b r → Live a b r
wait_live_source a b w r l = record { source_up = l.source_up; source_stamp = l.source_stamp; target_up = l.target_up; target_stamp = l.target_stamp }

wait_live_target : (a b : Site) (w : Path) (r : Open) → Live b (wait w a) r → Live b a r
wait_live_target a b w r l = record { source_up = l.source_up; source_stamp = l.source_stamp; target_up = l.target_up; target_stamp = l.target_stamp }

module _ (H : Histories) (side : Bool) (a b : Site) (rep : ℕ → Slot) (st : List ℕ) (w : Path) (who : Who) (o : PathGood H w) (c : Copies who side b w rep) (i : Invariant H side a b rep st) where
  now_ok : DocumentsGood H (now a)
  now_ok = i.one.ok (now a) a.log (inl (stage_last put a.docs a.paths, stage_first enter a.log a.notes))

  noted_told : (s : ℕ) (r : Open) → told who side w rep s ≡ running r → Noted (told who side w rep) st s r
  noted_told s r e = go (before who side w rep s r e)
    where
      go : Before who side w rep s r → Noted (told who side w rep) st s r
      go p = pick p.how
        where
          n : Noted rep st s p.old
          n = i.noted s p.old p.was

          pick : ((r ≡ p.old) × (who ≡ copier s)) ⊎ (r ≡ hear side w p.old) → Noted (told who side w rep) st s r
          pick (inl h) = record { name = subst (λ (k : Open). k.numbers.stamp ≡ s) (sym h.0) n.name; self = n.self; from = subst (λ (k : Open). Mem k.numbers.source_stamp st) (sym h.0) n.from; to = subst (λ (k : Open). Mem k.numbers.target_stamp st) (sym h.0) n.to }
          pick (inr h) = record { name = subst (λ (k : Open). k.numbers.stamp ≡ s) (sym h) n.name; self = n.self; from = subst (λ (k : Open). Mem k.numbers.source_stamp st) (sym h) n.from; to = subst (λ (k : Open). Mem k.numbers.target_stamp st) (sym h) n.to }

  -- the replications from a know nothing new
  from_a : (s : ℕ) (r : Open) → told who side w rep s ≡ running r → r.source ≡ side → (rep s ≡ running r)
  from_a s r e f = go (before who side w rep s r e)
    where
      go : Before who side w rep s r → rep s ≡ running r
      go p = pick p.how
        where
          pick : ((r ≡ p.old) × (who ≡ copier s)) ⊎ (r ≡ hear side w p.old) → rep s ≡ running r
          pick (inl h) = p.was ∙ ap running (sym h.0)
          pick (inr h) = p.was ∙ ap running (sym (h ∙ hear_away side w p.old (sym (ap (λ (k : Open). k.source) h) ∙ f)))

  dir2_any : (c₂ : Site) (two : (s : ℕ) (r : Open) → rep s ≡ running r → r.source ≡ not side → ReplicationInvariant H b c₂ s (heard w r)) → (one : (s : ℕ) (r : Open) → rep s ≡ running r → r.source ≡ not side → who ≡ copier s → ReplicationInvariant H b c₂ s r) → Direction H (not side) b c₂ (told who side w rep)
  dir2_any c₂ two one s r e f = go (before who side w rep s r e)
    where
      go : Before who side w rep s r → ReplicationInvariant H b c₂ s r
      go p = pick p.how
        where
          pick : ((r ≡ p.old) × (who ≡ copier s)) ⊎ (r ≡ hear side w p.old) → ReplicationInvariant H b c₂ s r
          pick (inl h) = one s r (p.was ∙ ap running (sym h.0)) f h.1
          pick (inr h) =
              let g : p.old.source ≡ not side = sym (ap (λ (k : Open). k.source) h) ∙ f in
              subst (λ (k : Open). ReplicationInvariant H b c₂ s k) (sym (h ∙ hear_aim side w p.old g)) (two s p.old p.was g)

  inv_wait : last_level ((now a).tree w.doc) w ≡ 0 → Invariant H side (wait w a) b (told who side w rep) st
  inv_wait z = record {
    one = record { ok = λ x l h. ok' x l (had_wait w a x l h); fresh = λ x l k s p h m. fresh' x l k s p (had_wait w a x l h) m; stamp = i.one.stamp };
    two = i.two;
    logs_forth = main_wait_source w a b i.logs_forth;
    logs_back = main_wait_target w a b i.logs_back;
    open_forth = λ s r e f. record { no_twin = (i.open_forth s r (from_a s r e f) f).no_twin; conds = λ l. conds_wait_source H w a b s r ((i.open_forth s r (from_a s r e f) f).conds (wait_live_source a b w r l)) };
    open_back = dir2_any (wait w a)
        (λ s r e f. record { no_twin = (i.open_back s r e f).no_twin; conds = λ l. conds_other H w o a b s r ((i.open_back s r e f).conds (wait_live_target a b w r (heard_live b (wait w a) w r l))) on_path })
        (λ s r e f g. record { no_twin = (i.open_back s r e f).no_twin; conds = λ l. conds_own H w a b s r ((i.open_back s r e f).conds (wait_live_target a b w r l)) (copies_by who side b w rep s r g c e).0 (copies_by who side b w rep s r g c e).1 });
    noted = noted_told;
  }
    where
      on_path : (d : Id) → same w.doc d ≡ true → Below (path_tree w) (lay w (now a).tree d)
      on_path d e = subst (λ (f : Id → Tree). Below (path_tree w) (f d)) (sym (lay_grow H (now a) w now_ok o z)) (grow_path w (now a).tree d e)

      ok' : (x : Documents) (l : Logs) → Had a x l ⊎ ((x ≡ put w (now a)) × Had a (now a) l) → DocumentsGood H x
      ok' x l (inl h) = i.one.ok x l h
      ok' x l (inr h) = subst (λ (y : Documents). DocumentsGood H y) (sym h.0) (put_ok H (now a) w now_ok o z)

      fresh' : (x : Documents) (l : Logs) (k : Key) (s p : ℕ) → Had a x l ⊎ ((x ≡ put w (now a)) × Had a (now a) l) → Mem (s, p) (l k) → Mem s st
      fresh' x l k s p (inl h) m = i.one.fresh x l k s p h m
      fresh' x l k s p (inr h) m = i.one.fresh (now a) l k s p h.1 m

  inv_held : 1 ≤ last_level ((now a).tree w.doc) w → Invariant H side a b (told who side w rep) st
  inv_held z = record {
    one = i.one;
    two = i.two;
    logs_forth = i.logs_forth;
    logs_back = i.logs_back;
    open_forth = λ s r e f. i.open_forth s r (from_a s r e f) f;
    open_back = dir2_any a
        (λ s r e f. record { no_twin = (i.open_back s r e f).no_twin; conds = λ l. conds_held H w o a b s r ((i.open_back s r e f).conds (heard_live b a w r l)) now_ok z })
        (λ s r e f g. i.open_back s r e f);
    noted = noted_told;
  }

  pub inv_accept : Invariant H side (accept w a) b (told who side w rep) st
  inv_accept = go (lacks w a) refl
    where
      go : (n : Bool) → lacks w a ≡ n → Invariant H side (cond n (wait w a) a) b (told who side w rep) st
      go true e = inv_wait (lacks_none (at_last ((now a).tree w.doc) w) e)
      go false e = inv_held (lacks_some (at_last ((now a).tree w.doc) w) e)
