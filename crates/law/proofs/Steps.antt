-- Every step of a run keeps the invariant.
use Rattle.std.proofs.Common.{◌≡◌, ℕ, ◌+◌, ◌<◌, ◌≤◌, min, Bool, true, false, cond, not, eqb, ◌⊎◌, List, [], ◌∷◌, ◌++◌, length, sym, refl, ap, ◌∙◌, subst, inl, inr, arith}
use Rattle.std.proofs.lemmas.List.{append-nil}
use Rattle.std.proofs.lemmas.Bool.{cases_lt}
use Rattle.order.specs.Lists.{Mem, Each}
use Rattle.revision.specs.Ids.{Id}
use Rattle.revision.specs.Trees.{empty, union}
use Rattle.revision.specs.Paths.{Path}
use Rattle.keys.specs.Keys.{passes, Key}
use Rattle.checkpoint.specs.Logs.{Logs, Note, enter, Compared}
use Rattle.peer.specs.Records.{Documents, put, Record, no_documents, no_entries, no_trees, end}
use Rattle.peer.specs.Peers.{Peer, path, entry, current, changes, Moved, Effect, nothing, writes, joined, Reply, answered, declined, paths_in}
use Rattle.decline.specs.declared.Side.{Side}
use Rattle.peer.specs.Peers as S
use Rattle.law.specs.Replications.{ready, copied, secured, Replication, Outcome, done, stopped, Barred, source_lost, target_lost, source_restarted, target_restarted, StartStopped, Through, Part, TurnStopped, Logged, RecordStopped, FinishStopped, entry_of, opened, source_used, target_used, bad_stamp, twin, bad_rule, short, no_row, source_failed, target_failed, write_declined, source_declined, target_declined, row_left}
use Rattle.law.specs.Replications as R
use Rattle.law.specs.Runs.{Open, Slot, running, World, sides, Grew, user, copier, tolds, assign, renewed, closed, opening, spent, is_answered, CallStep, restored, WakeStep, SetBack, StartStep, with_paths, TurnStep, SecureStep, RecordStep, FinishStep, AbandonStep, StepOf, start, turn, secure, recording, finish, abandon, Step, call, wake, set_back, of, Fresh, Run, new, next}
use Rattle.law.specs.Laws.{sent}
use Rattle.revision.proofs.Places.{Below, below_refl, below_trans, below_left}
use Rattle.revision.proofs.Trees.{path_below, heads_enough}
use Rattle.peer.proofs.Waiting.{stage_first, stage_last, stage_none}
use Rattle.law.proofs.Sites.{Site, site, now, log_now, both, Had, note, accepts, site_accepts, key_of, Live, entry_at}
use Rattle.law.proofs.Sound.{Histories, PathGood, DocumentsGood, Sound, sound_zero}
use Rattle.law.proofs.Invariant.{DocumentsStage, Conditions, OnePeer, Invariant, swap, inv_stamps}
use Rattle.law.proofs.Notes.{inv_note_source, inv_note_target}
use Rattle.law.proofs.Changes.{Wider, wider_refl, wider_entry, back, inv_ends, inv_ends_there, inv_wake, inv_users, inv_copies, Copied, inv_assign, inv_idle, inv_set, never}
use Rattle.peer.proofs.Calls.{Ends, moved_refl, moved_same, moved_joined, moved_failed, moved_ends, lost_ends, declined_ends, declined_counts, call_ends, call_paths}
use Rattle.law.proofs.Wrote.{wrote, wrote_declined, call_joins}
use Rattle.law.proofs.Turns.{Copy, turn_copies, part_copies, turn_within, turn_held}

-- the sites of a world
abbrev pub at : World → Bool → Site
at w s = site (w.peer s) (w.past s)

abbrev pub WorldInvariant : Histories → World → Type 0
WorldInvariant H w = Invariant H true (at w true) (at w false) w.replications w.stamps

pub at_side : (H : Histories) (w : World) (s : Bool) → WorldInvariant H w → Invariant H s (at w s) (at w (not s)) w.replications w.stamps
at_side H w true i = i
at_side H w false i = swap H true (at w true) (at w false) w.replications w.stamps i

from_side : (H : Histories) (s : Bool) (p q : Peer) (k l : List Record) (rep : ℕ → Slot) (st : List ℕ) → Invariant H s (site p k) (site q l) rep st → WorldInvariant H (record { peer = sides s p q; past = sides s k l; replications = rep; stamps = st })
from_side H true p q k l rep st i = i
from_side H false p q k l rep st i = swap H false (site p k) (site q l) rep st i

pub now_had : (a : Site) → Had a (now a) (log_now a)
now_had a = inl (stage_last put a.docs a.paths, stage_last enter a.log a.notes)

not_secured : {A : Type 0} → ready ≡ secured → A
not_secured e = absurd (let z : ◌≡◌ {A = ℕ} 0 1 = cc in omega arith)

copied_not_secured : {A : Type 0} → copied ≡ secured → A
copied_not_secured e = absurd (let z : ◌≡◌ {A = ℕ} 0 1 = cc in omega arith)

-- where a list is empty, nothing else could stand
alone : (a : Site) (x : Documents) → a.paths ≡ [] → DocumentsStage a x → x ≡ now a
alone a x e h = stage_none put a.docs a.paths e x h ∙ sym (stage_none put a.docs a.paths e (now a) (stage_last put a.docs a.paths))

-- two peers end a step
inv_both : (H : Histories) (side : Bool) (p i p' q j q' : Peer) (k k' l l' : List Record) (rep : ℕ → Slot) (st : List ℕ) → Wider p i → Ends p p' → Grew k i k' → Wider q j → Ends q q' → Grew l j l' →
    Invariant H side (site i k) (site j l) rep st → Invariant H side (site p' k') (site q' l') rep st
inv_both H side p i p' q j q' k k' l l' rep st w e g v f h n =
    inv_ends_there H side q j q' l l' (site p' k') rep st v f h (inv_ends H side p i p' k k' (site j l) rep st w e g n)

-- what stops a step
barred_ends : {k : Replication} {a b : Peer} {n : ℕ} {side : Side} {a' b' : Peer} → Barred k a b n side a' b' → Ends a a' × Ends b b'
barred_ends {a = a} {a' = a'} (source_lost e f l m) = (lost_ends a a' l, inl m)
barred_ends {b = b} {b' = b'} (target_lost e f u m l) = (inl m, lost_ends b b' l)
barred_ends (source_restarted e f u v d m n) = (inl m, inl n)
barred_ends (target_restarted e f u v d c m n) = (inl m, inl n)

-- what the comparison of the logs at a start gives
pub opens_sound : (H : Histories) (side : Bool) (a b : Site) (rep : ℕ → Slot) (st : List ℕ) (rule : List ℕ) (n c : ℕ) → Invariant H side a b rep st → Compared eqb (log_now a (key_of a b rule)) (log_now b (key_of a b rule)) n c → Sound rule n (now a) (now b)
opens_sound H side a b rep st rule n c i o = go o.reached
  where
    go : (n ≡ 0) ⊎ ((s : ℕ) × (p : ℕ) × (q : ℕ) × Mem (s, p) (log_now a (key_of a b rule)) × Mem (s, q) (log_now b (key_of a b rule)) × (n ≡ min p q)) → Sound rule n (now a) (now b)
    go (inl e) = subst (λ (t : ℕ). Sound rule t (now a) (now b)) (sym e) (sound_zero H rule (now a) (now b) (i.one.ok (now a) (log_now a) (now_had a)))
    go (inr h) = subst (λ (t : ℕ). Sound rule t (now a) (now b)) (sym h.5) (i.logs_forth rule h.0 h.1 h.2 (now a) (log_now a) (now b) (log_now b) (now_had a) (now_had b) h.3 h.4)

abbrev begun : Bool → ℕ → List ℕ → Site → Site → ℕ → Open
begun side s rule a b n = record { source = side; numbers = opened s rule a.stamp b.stamp n; own = (now b).tree; others = no_trees }

inv_start : (H : Histories) (side : Bool) (a b : Site) (rep : ℕ → Slot) (st : List ℕ) (s : ℕ) (rule : List ℕ) (n c : ℕ) → (Mem s st → ⊥) → (a.number ≡ b.number → ⊥) →
    Compared eqb (log_now a (key_of a b rule)) (log_now b (key_of a b rule)) n c → Invariant H side a b rep st → Invariant H side a b (assign s (running (begun side s rule a b n)) rep) (s ∷ st)
inv_start H side a b rep st s rule n c f tw o i =
    inv_assign H side a b rep (s ∷ st) s (begun side s rule a b n) refl (record { no_twin = tw; conds = λ l. v }) refl (inl refl) (inr i.one.stamp) (inr i.two.stamp) (inv_stamps H side a b rep st s i)
  where
    v : Conditions H a b s (begun side s rule a b n)
    v = record {
      current = opens_sound H side a b rep st rule n c i o;
      standing = λ e. not_secured e;
      theirs = λ q x y m h k j. absurd (f (i.two.fresh y m (key_of a b rule) s q k j));
      ours = λ p x l y h k j. absurd (f (i.one.fresh x l (key_of a b rule) s p h j));
      own_agrees = (i.two.ok (now b) (log_now b) (now_had b)).agrees;
      others_agrees = λ d g x. tt;
      own_held = λ d. below_refl ((now b).tree d);
      others_held = λ d g x. omega arith;
      all = λ d. below_trans ((now b).tree d) (union ((now b).tree d) empty) (union (union ((now b).tree d) empty) (sent (passes rule d) ((now a).tree d))) (below_left ((now b).tree d) empty) (below_left (union ((now b).tree d) empty) (sent (passes rule d) ((now a).tree d)));
    }

module _ (Ok : Path → Type 0) (H : Histories) (good : (p : Path) → Ok p → 1 ≤ length p.tags → PathGood H p) where
  each_good : (ws : List Path) → Each Ok ws → Each (λ w. 1 ≤ length w.tags) ws → Each (PathGood H) ws
  each_good [] o l = tt
  each_good (w ∷ ws) o l = (good w o.0 l.0, each_good ws o.1 l.1)

  pub copies_good : (r : Open) (a : Site) → DocumentsGood H (now a) → (ws : List Path) → Each (Copy Ok r.numbers.rule (now a)) ws → Each (Copied H r a) ws
  copies_good r a k [] o = tt
  copies_good r a k (w ∷ ws) o = (
    (
      good w o.0.ok o.0.some,
      o.0.passing,
      path_below (H w.doc) ((now a).tree w.doc) w (k.closed w.doc) (good w o.0.ok o.0.some) (omega (arith, o.0.a_head)),
    ),
    copies_good r a k ws o.1,
  )

  step_call : (w v : World) → WorldInvariant H w → CallStep Ok w v → WorldInvariant H v
  step_call w v i c = subst (λ (z : World). WorldInvariant H z) (sym c.is)
      (from_side H c.side c.peer (w.peer (not c.side)) c.past (w.past (not c.side)) rep w.stamps
      (inv_ends H c.side j j c.peer (w.past c.side) c.past b rep w.stamps (wider_refl j) (call_ends c.function p c.reply c.counts c.peer c.calls) c.grew
      (subst (λ (z : Site). Invariant H c.side z b rep w.stamps) (site_accepts ws p (w.past c.side) ∙ ap (λ (z : Peer). site z (w.past c.side)) (sym (call_joins c.function p c.reply c.counts c.peer c.no_entry c.calls)))
      (inv_users H c.side (at w c.side) b w.replications w.stamps ws (each_good ws c.ok (call_paths c.function p c.reply c.counts c.peer c.calls)) (at_side H w c.side i)))))
    where
      p : Peer
      p = w.peer c.side

      j : Peer
      j = joined c.counts p

      b : Site
      b = at w (not c.side)

      ws : List Path
      ws = paths_in c.counts

      rep : ℕ → Slot
      rep = tolds user c.side ws w.replications

  step_wake : (w v : World) → WorldInvariant H w → WakeStep w v → WorldInvariant H v
  step_wake w v i c = subst (λ (z : World). WorldInvariant H z) (sym c.is)
      (from_side H c.side c.peer (w.peer (not c.side)) c.past (w.past (not c.side)) w.replications (spent (is_answered c.reply) c.stamp w.stamps)
      (inv_wake H c.side c.stamp p c.peer c.reply (w.past c.side) c.past (at w (not c.side)) w.replications w.stamps c.new c.call p refl refl
      (inl (stage_first put p.standing.docs p.paths, stage_first enter p.standing.logs p.notes)) (λ z. inl (moved_refl p)) c.grew (at_side H w c.side i)))
    where
      p : Peer
      p = w.peer c.side

  step_set_back : (w v : World) → WorldInvariant H w → SetBack w v → WorldInvariant H v
  step_set_back w v i c = subst (λ (z : World). WorldInvariant H z) (sym c.is)
      (from_side H c.side c.peer (w.peer (not c.side)) c.past (w.past (not c.side)) w.replications (spent (is_answered c.reply) c.stamp w.stamps)
      (inv_wake H c.side c.stamp (restored c.given p) c.peer c.reply (w.past c.side) c.past (at w (not c.side)) w.replications w.stamps c.new c.call p refl refl
      (go c.stood) (λ z. absurd (c.not_zero z)) c.grew (at_side H w c.side i)))
    where
      p : Peer
      p = w.peer c.side

      go : Mem c.given (w.past c.side) ⊎ S.Possible p c.given → Had (at w c.side) c.given.docs c.given.logs
      go (inl h) = inr h
      go (inr h) = inl h

  pub start_ends : (s : ℕ) (side : Bool) (rule : List ℕ) (o : Outcome) (w v : World) (c : StartStep s side rule o w v) → Ends (w.peer side) c.source × Ends (w.peer (not side)) c.target
  start_ends s side rule (done m) w v c = (inl c.step.source_moved, inl c.step.target_moved)
  start_ends s side rule (stopped n x m) w v c = go c.step.0
    where
      p : Peer
      p = w.peer side

      q : Peer
      q = w.peer (not side)

      go : {n : ℕ} {x : Side} {p' q' : Peer} → StartStopped s rule p q n x p' q' → Ends p p' × Ends q q'
      go {p' = p'} {q' = q'} (bad_stamp n x z e f) = (inl (moved_same p p' e), inl (moved_same q q' f))
      go {p' = p'} {q' = q'} (twin n x z t e f) = (inl (moved_same p p' e), inl (moved_same q q' f))
      go {p' = p'} {q' = q'} (bad_rule n x z t g e f) = (inl (moved_same p p' e), inl (moved_same q q' f))
      go {p' = p'} (R.source_lost n x z t g l m) = (lost_ends p p' l, inl m)
      go {q' = q'} (R.target_lost n x z t g u m l) = (inl m, lost_ends q q' l)
      go (source_used n x z t g u v e m k) = (inl m, inl k)
      go (target_used n x z t g u v e f m k) = (inl m, inl k)

  pub secure_ends : (s : ℕ) (r : Open) (o : Outcome) (w v : World) (c : SecureStep s r o w v) → Ends (w.peer r.source) c.source × Ends (w.peer (not r.source)) c.target
  secure_ends s r (done m) w v c = (inl c.step.source_committed.moved, inl c.step.target_committed.moved)
  secure_ends s r (stopped n x y) w v c = barred_ends c.step.0

  step_start : (s : ℕ) (side : Bool) (rule : List ℕ) (o : Outcome) (w v : World) → WorldInvariant H w → StartStep s side rule o w v → WorldInvariant H v
  step_start s side rule (done m) w v i c = subst (λ (z : World). WorldInvariant H z) (sym c.goes.is)
      (from_side H side c.source c.target c.goes.source_past c.goes.target_past (opening s side (now b).tree (done m) w.replications) (s ∷ w.stamps)
      (inv_both H side p p c.source q q c.target (w.past side) c.goes.source_past (w.past (not side)) c.goes.target_past (opening s side (now b).tree (done m) w.replications) (s ∷ w.stamps)
      (wider_refl p) (inl c.step.source_moved) c.goes.source_grew (wider_refl q) (inl c.step.target_moved) c.goes.target_grew
      (subst (λ (z : Replication). Invariant H side a b (opening s side (now b).tree (done z) w.replications) (s ∷ w.stamps)) (sym c.step.opens)
      (inv_start H side a b w.replications w.stamps s rule c.step.position c.step.common c.new c.step.no_twin c.step.compared (at_side H w side i)))))
    where
      p : Peer
      p = w.peer side

      q : Peer
      q = w.peer (not side)

      a : Site
      a = at w side

      b : Site
      b = at w (not side)
  step_start s side rule (stopped n x m) w v i c = subst (λ (z : World). WorldInvariant H z) (sym c.goes.is)
      (from_side H side c.source c.target c.goes.source_past c.goes.target_past w.replications w.stamps
      (inv_both H side (w.peer side) (w.peer side) c.source (w.peer (not side)) (w.peer (not side)) c.target (w.past side) c.goes.source_past (w.past (not side)) c.goes.target_past w.replications w.stamps
      (wider_refl (w.peer side)) (start_ends s side rule (stopped n x m) w v c).0 c.goes.source_grew (wider_refl (w.peer (not side))) (start_ends s side rule (stopped n x m) w v c).1 c.goes.target_grew (at_side H w side i)))

  -- the copies of a turn
  after_copies : (s : ℕ) (r : Open) (w : World) (ws : List Path) → WorldInvariant H w → w.replications s ≡ running r → Each (Copy Ok r.numbers.rule (now (at w r.source))) ws →
      Invariant H r.source (at w r.source) (accepts ws (at w (not r.source))) (tolds (copier s) (not r.source) ws w.replications) w.stamps × (tolds (copier s) (not r.source) ws w.replications s ≡ running r)
  after_copies s r w ws i e o =
      let j = at_side H w r.source i in
      let k = inv_copies H (not r.source) (at w (not r.source)) (at w r.source) w.replications w.stamps s r ws e
      (copies_good r (at w r.source) (j.one.ok (now (at w r.source)) (log_now (at w r.source)) (now_had (at w r.source))) ws o)
      (swap H r.source (at w r.source) (at w (not r.source)) w.replications w.stamps j) in
      (back H r.source (at w r.source) (accepts ws (at w (not r.source))) (tolds (copier s) (not r.source) ws w.replications) w.stamps k.0, k.1)

  pub source_ok : (w : World) (side : Bool) → WorldInvariant H w → DocumentsGood H (now (at w side))
  source_ok w side i = (at_side H w side i).one.ok (now (at w side)) (log_now (at w side)) (now_had (at w side))

  -- the paths that count as accepted in a turn, and how it ends
  pub turn_paths : (s : ℕ) (r : Open) (o : Outcome) (w v : World) → DocumentsGood H (now (at w r.source)) → (c : TurnStep Ok s r o w v) → Each (Copy Ok r.numbers.rule (now (at w r.source))) c.paths
  turn_paths s r (done m) w v k c =
      turn_copies Ok H r.numbers (now (at w r.source)) k c.step.through (now (at w (not r.source))).tree c.paths [] c.ok (append-nil c.paths ∙ c.step.all)
  turn_paths s r (stopped n x y) w v k c = go c.step
    where
      a : Site
      a = at w r.source

      b : Site
      b = at w (not r.source)

      none : (ws : List Path) → ws ≡ [] → Each (Copy Ok r.numbers.rule (now a)) ws
      none ws e = subst (λ (z : List Path). Each (Copy Ok r.numbers.rule (now a)) z) (sym e) tt

      some : Part r.numbers (w.peer r.source) (w.peer (not r.source)) c.paths → Each (Copy Ok r.numbers.rule (now a)) c.paths
      some p = part_copies Ok H r.numbers (now a) k p.rows p.heads p.work (now b).tree c.paths [] c.ok (append-nil c.paths ∙ p.all)

      -- the first of these paths, and perhaps one more
      more : (vs : List Path) (z : Path) (e : Effect) → Part r.numbers (w.peer r.source) (w.peer (not r.source)) (vs ++ (z ∷ [])) → c.paths ≡ vs ++ paths_in e → (e ≡ nothing) ⊎ (e ≡ writes (path z)) → Each (Copy Ok r.numbers.rule (now a)) c.paths
      more vs z e p f (inl g) =
          part_copies Ok H r.numbers (now a) k p.rows p.heads p.work (now b).tree c.paths (z ∷ []) c.ok
          (ap (λ (l : List Path). l ++ (z ∷ [])) (f ∙ (ap (λ (d : Effect). vs ++ paths_in d) g ∙ append-nil vs)) ∙ p.all)
      more vs z e p f (inr g) =
          part_copies Ok H r.numbers (now a) k p.rows p.heads p.work (now b).tree c.paths [] c.ok
          (append-nil c.paths ∙ (f ∙ (ap (λ (d : Effect). vs ++ paths_in d) g ∙ p.all)))

      go : TurnStopped r.numbers (w.peer r.source) (w.peer (not r.source)) c.memory c.paths n x y c.source c.target → Each (Copy Ok r.numbers.rule (now a)) c.paths
      go (short e1 e2 e3 e l a' b') = none c.paths e
      go (R.barred e3 e l b') = none c.paths e
      go (no_row e1 e2 e3 e l v n a' b') = none c.paths e
      go (source_failed e1 e2 e3 l v p f m) = some p
      go (target_failed e1 e2 e3 l v p m q f g) = some p
      go (write_declined e2 l v vs z e p e3 f m q g d) = more vs z e p f (declined_counts d)

  pub turn_ends : (s : ℕ) (r : Open) (o : Outcome) (w v : World) (c : TurnStep Ok s r o w v) → Ends (w.peer r.source) c.source × Ends (with_paths c.paths (w.peer (not r.source))) c.target
  turn_ends s r (done m) w v c = (inl c.step.source_moved, inl (wrote (w.peer (not r.source)) c.paths c.target c.step.wrote))
  turn_ends s r (stopped n x y) w v c = go c.step
    where
      a : Peer
      a = w.peer r.source

      b : Peer
      b = w.peer (not r.source)

      none : (ws : List Path) → ws ≡ [] → Ends b c.target → Ends (with_paths ws b) c.target
      none ws e h = subst (λ (z : List Path). Ends (with_paths z b) c.target) (sym e) h

      go : TurnStopped r.numbers a b c.memory c.paths n x y c.source c.target → Ends a c.source × Ends (with_paths c.paths b) c.target
      go (short e1 e2 e3 e l a' b') = (inl (moved_same a c.source a'), none c.paths e (inl (moved_same b c.target b')))
      go (R.barred e3 e l b') = let h = barred_ends b' in (h.0, none c.paths e h.1)
      go (no_row e1 e2 e3 e l v n a' b') = (inl a', none c.paths e (inl b'))
      go (source_failed e1 e2 e3 l v p f m) = (inr f, inl (wrote b c.paths c.target m))
      go (target_failed e1 e2 e3 l v p m q f g) = (inl m, inr (moved_failed (with_paths c.paths b) q c.target (wrote b c.paths q f) g))
      go (write_declined e2 l v vs z e p e3 f m q g d) = (inl m, subst (λ (t : List Path). Ends (with_paths t b) c.target) (sym f) (wrote_declined b q c.target vs z n e g d))

  step_turn : (s : ℕ) (r : Open) (o : Outcome) (w v : World) → WorldInvariant H w → TurnStep Ok s r o w v → WorldInvariant H v
  step_turn s r o w v i c = subst (λ (z : World). WorldInvariant H z) (sym c.goes.is)
      (from_side H r.source c.source c.target c.goes.source_past c.goes.target_past (renewed s r o rep) w.stamps
      (inv_both H r.source p p c.source q q c.target (w.past r.source) c.goes.source_past (w.past (not r.source)) c.goes.target_past (renewed s r o rep) w.stamps
      (wider_refl p) e.0 c.goes.source_grew (wider_refl q) e.1 c.goes.target_grew
      (subst (λ (z : Site). Invariant H r.source a z (renewed s r o rep) w.stamps) (site_accepts c.paths (w.peer (not r.source)) (w.past (not r.source))) (go o c j.0 j.1))))
    where
      p : Peer
      p = w.peer r.source

      q : Peer
      q = with_paths c.paths (w.peer (not r.source))

      a : Site
      a = at w r.source

      rep : ℕ → Slot
      rep = tolds (copier s) (not r.source) c.paths w.replications

      e : Ends p c.source × Ends q c.target
      e = turn_ends s r o w v c

      ka : DocumentsGood H (now (at w r.source))
      ka = source_ok w r.source i

      j : Invariant H r.source a (accepts c.paths (at w (not r.source))) rep w.stamps × (rep s ≡ running r)
      j = after_copies s r w c.paths i c.going.runs (turn_paths s r o w v ka c)

      go : (o : Outcome) (c : TurnStep Ok s r o w v) → Invariant H r.source a (accepts c.paths (at w (not r.source))) (tolds (copier s) (not r.source) c.paths w.replications) w.stamps → tolds (copier s) (not r.source) c.paths w.replications s ≡ running r →
          Invariant H r.source a (accepts c.paths (at w (not r.source))) (renewed s r o (tolds (copier s) (not r.source) c.paths w.replications)) w.stamps
      go (stopped n x y) c h k = h
      go (done m) c h k =
          subst (λ (z : Replication). Invariant H r.source a b (renewed s r (done z) rep') w.stamps) (sym c.step.turns)
          (inv_set H r.source a b rep' w.stamps s r upto copied r.numbers.recorded (r.numbers.rows + length (t.row ∷ t.rows)) (r.numbers.heads + length t.heads) (r.numbers.paths + length c.paths) k refl sound (λ q e. copied_not_secured e) h)
        where
          t : Through r.numbers (now (at w r.source))
          t = c.step.through

          b : Site
          b = accepts c.paths (at w (not r.source))

          rep' : ℕ → Slot
          rep' = tolds (copier s) (not r.source) c.paths w.replications

          upto : ℕ
          upto = end r.numbers.position (c.step.through.row ∷ c.step.through.rows)

          kb : DocumentsGood H (now b)
          kb = h.two.ok (now b) (log_now b) (now_had b)

          sound : Conditions H a b s r → Sound r.numbers.rule upto (now a) (now b)
          sound q = record {
            within = turn_within H r.numbers (now a) ka q.current.within c.step.through;
            holds = λ d p l. pick d p l (cases_lt r.numbers.position ((now a).last d));
          }
            where
              pick : (d : Id) → passes r.numbers.rule d ≡ true → (now a).last d ≤ upto → (r.numbers.position < (now a).last d) ⊎ ((now a).last d ≤ r.numbers.position) → Below ((now a).tree d) ((now b).tree d)
              pick d p l (inl h) = heads_enough (H d) ((now a).tree d) ((now b).tree d) (ka.covered d) (kb.closed d) (turn_held H r.numbers (now a) ka c.step.through (at w (not r.source)) c.paths c.step.all d p h l)
              pick d p l (inr h) = q.current.holds d p h

  step_secure : (s : ℕ) (r : Open) (o : Outcome) (w v : World) → WorldInvariant H w → SecureStep s r o w v → WorldInvariant H v
  step_secure s r (done m) w v i c = subst (λ (z : World). WorldInvariant H z) (sym c.goes.is)
      (from_side H r.source c.source c.target c.goes.source_past c.goes.target_past (renewed s r (done m) w.replications) w.stamps
      (subst (λ (z : Replication). Invariant H r.source a b (renewed s r (done z) w.replications) w.stamps) (sym c.step.secures)
      (inv_set H r.source a b w.replications w.stamps s r r.numbers.position secured r.numbers.recorded r.numbers.rows r.numbers.heads r.numbers.paths c.going.runs refl (λ q. q.current)
      (λ q e x y h k.
      subst (λ (z : Documents). Sound r.numbers.rule r.numbers.position z y) (sym (alone a x c.step.source_committed.no_path h))
      (subst (λ (z : Documents). Sound r.numbers.rule r.numbers.position (now a) z) (sym (alone b y c.step.target_committed.no_path k)) q.current))
      (inv_both H r.source p p c.source q q c.target (w.past r.source) c.goes.source_past (w.past (not r.source)) c.goes.target_past w.replications w.stamps
      (wider_refl p) (inl c.step.source_committed.moved) c.goes.source_grew (wider_refl q) (inl c.step.target_committed.moved) c.goes.target_grew (at_side H w r.source i)))))
    where
      p : Peer
      p = w.peer r.source

      q : Peer
      q = w.peer (not r.source)

      a : Site
      a = site c.source c.goes.source_past

      b : Site
      b = site c.target c.goes.target_past
  step_secure s r (stopped n x y) w v i c = subst (λ (z : World). WorldInvariant H z) (sym c.goes.is)
      (from_side H r.source c.source c.target c.goes.source_past c.goes.target_past w.replications w.stamps
      (inv_both H r.source p p c.source q q c.target (w.past r.source) c.goes.source_past (w.past (not r.source)) c.goes.target_past w.replications w.stamps
      (wider_refl p) (barred_ends c.step.0).0 c.goes.source_grew (wider_refl q) (barred_ends c.step.0).1 c.goes.target_grew (at_side H w r.source i)))
    where
      p : Peer
      p = w.peer r.source

      q : Peer
      q = w.peer (not r.source)

  -- the entry accepted at the source, and at the target
  inv_entry_source : (s : ℕ) (r : Open) (n : Note) (p : Peer) (k : List Record) (b : Site) (rep : ℕ → Slot) (st : List ℕ) → entry_at s r (site p k) b ≡ n → rep s ≡ running r → r.numbers.phase ≡ secured → Live (site p k) b r →
      Invariant H r.source (site p k) b rep st → Invariant H r.source (site (S.accept (entry n) p) k) b rep st
  inv_entry_source s r n p k b rep st m e sec l i = go (changes (entry n) (current p))
    where
      go : (c : Bool) → Invariant H r.source (site (cond c (S.wait (entry n) p) p) k) b rep st
      go true = subst (λ (z : Note). Invariant H r.source (note z (site p k)) b rep st) m (inv_note_source H r.source (site p k) b rep st s r e sec i refl l)
      go false = i

  inv_entry_target : (s : ℕ) (r : Open) (n : Note) (a : Site) (q : Peer) (k : List Record) (rep : ℕ → Slot) (st : List ℕ) → entry_at s r a (site q k) ≡ n → rep s ≡ running r → r.numbers.phase ≡ secured → Live a (site q k) r →
      Invariant H r.source a (site q k) rep st → Invariant H r.source a (site (S.accept (entry n) q) k) rep st
  inv_entry_target s r n a q k rep st m e sec l i = go (changes (entry n) (current q))
    where
      dnot : (t : Bool) → t ≡ not (not t)
      dnot true = refl
      dnot false = refl

      go : (c : Bool) → Invariant H r.source a (site (cond c (S.wait (entry n) q) q) k) rep st
      go true = subst (λ (z : Note). Invariant H r.source a (note z (site q k)) rep st) m
          (back H r.source a (note (entry_at s r a (site q k)) (site q k)) rep st
          (inv_note_target H (not r.source) (site q k) a rep st s r e sec (swap H r.source a (site q k) rep st i) (dnot r.source) l))
      go false = i

  -- a log write counts at a side, or not
  abbrev Counts : Note → Effect → Type 0
  Counts n e = (e ≡ nothing) ⊎ (e ≡ writes (entry n))

  logged_counts : {n : Note} {p : Peer} {r : Reply Unit} {c : Effect} {q : Peer} → Logged n p r c q → Counts n c
  logged_counts {r = answered a} l = inr l.call.0.counted
  logged_counts {r = declined m} l = declined_counts l.call

  logged_ends : {n : Note} {p : Peer} {r : Reply Unit} {c : Effect} {q : Peer} → Logged n p r c q → Ends (joined c p) q
  logged_ends {n} {p} {r = answered a} {c} {q} l =
      moved_ends (joined c p) (joined c l.middle) q (moved_joined c p l.middle l.reads)
      (inl (subst (λ (k : Effect). Moved (joined k l.middle) q) (sym l.call.0.counted) l.call.0.effected))
  logged_ends {n} {p} {r = declined m} {c} {q} l = moved_ends (joined c p) (joined c l.middle) q (moved_joined c p l.middle l.reads) (declined_ends l.call)

  -- how a record ends at each side
  pub record_ends : (s : ℕ) (r : Open) (o : Outcome) (w v : World) (c : RecordStep s r o w v) → Ends (joined c.source_counts (w.peer r.source)) c.source × Ends (joined c.target_counts (w.peer (not r.source))) c.target
  record_ends s r (done m) w v c = (logged_ends c.step.source_logged, logged_ends c.step.target_logged)
  record_ends s r (stopped n x y) w v c = go c.step.0
    where
      p : Peer
      p = w.peer r.source

      q : Peer
      q = w.peer (not r.source)

      none : (e : Effect) (u u' : Peer) → e ≡ nothing → Ends u u' → Ends (joined e u) u'
      none e u u' z h = subst (λ (k : Effect). Ends (joined k u) u') (sym z) h

      go : RecordStopped r.numbers p q c.source_counts c.target_counts n x c.source c.target → Ends (joined c.source_counts p) c.source × Ends (joined c.target_counts q) c.target
      go (R.barred e f b) = (none c.source_counts p c.source e (barred_ends b).0, none c.target_counts q c.target f (barred_ends b).1)
      go (source_declined e l f h m) = (logged_ends h, none c.target_counts q c.target f (inl m))
      go (target_declined e l h k) = (logged_ends h, logged_ends k)

  pub record_counts : (s : ℕ) (r : Open) (o : Outcome) (w v : World) (c : RecordStep s r o w v) → Counts (entry_of r.numbers (w.peer r.source) (w.peer (not r.source))) c.source_counts × Counts (entry_of r.numbers (w.peer r.source) (w.peer (not r.source))) c.target_counts ×
      (((c.source_counts ≡ nothing) × (c.target_counts ≡ nothing)) ⊎ R.Live r.numbers (w.peer r.source) (w.peer (not r.source)))
  record_counts s r (done m) w v c = (logged_counts c.step.source_logged, logged_counts c.step.target_logged, inr c.step.live)
  record_counts s r (stopped n x y) w v c = go c.step.0
    where
      p : Peer
      p = w.peer r.source

      q : Peer
      q = w.peer (not r.source)

      go : RecordStopped r.numbers p q c.source_counts c.target_counts n x c.source c.target → Counts (entry_of r.numbers p q) c.source_counts × Counts (entry_of r.numbers p q) c.target_counts ×
          (((c.source_counts ≡ nothing) × (c.target_counts ≡ nothing)) ⊎ R.Live r.numbers p q)
      go (R.barred e f b) = (inl e, inl f, inl (e, f))
      go (source_declined e l f h m) = (logged_counts h, inl f, inr l)
      go (target_declined e l h k) = (logged_counts h, logged_counts k, inr l)

  step_record : (s : ℕ) (r : Open) (o : Outcome) (w v : World) → WorldInvariant H w → RecordStep s r o w v → WorldInvariant H v
  step_record s r o w v i c = subst (λ (z : World). WorldInvariant H z) (sym c.goes.is)
      (from_side H r.source c.source c.target c.goes.source_past c.goes.target_past (renewed s r o w.replications) w.stamps
      (fin o c (inv_both H r.source jp jp c.source jq jq c.target (w.past r.source) c.goes.source_past (w.past (not r.source)) c.goes.target_past w.replications w.stamps
      (wider_refl jp) (record_ends s r o w v c).0 c.goes.source_grew (wider_refl jq) (record_ends s r o w v c).1 c.goes.target_grew
      (noted (record_counts s r o w v c).0 (record_counts s r o w v c).1 (record_counts s r o w v c).2))))
    where
      p : Peer
      p = w.peer r.source

      q : Peer
      q = w.peer (not r.source)

      k : List Record
      k = w.past r.source

      l : List Record
      l = w.past (not r.source)

      jp : Peer
      jp = joined c.source_counts p

      jq : Peer
      jq = joined c.target_counts q

      n : Note
      n = entry_of r.numbers p q

      i0 : Invariant H r.source (site p k) (site q l) w.replications w.stamps
      i0 = at_side H w r.source i

      live : R.Live r.numbers p q → (x y : Peer) → Wider p x → Wider q y → Live (site x k) (site y l) r
      live h x y e f = record { source_up = e.up ∙ h.source_up; source_stamp = e.stamp ∙ h.source_stamp; target_up = f.up ∙ h.target_up; target_stamp = f.stamp ∙ h.target_stamp }

      named : (x y : Peer) → Wider p x → Wider q y → entry_at s r (site x k) (site y l) ≡ n
      named x y e f = λ t. record { key = record { source = e.number t; target = f.number t; rule = r.numbers.rule }; stamp = sym (i0.noted s r c.going.runs).name t; position = r.numbers.position }

      i1 : R.Live r.numbers p q → Invariant H r.source (site (S.accept (entry n) p) k) (site q l) w.replications w.stamps
      i1 h = inv_entry_source s r n p k (site q l) w.replications w.stamps (named p q (wider_refl p) (wider_refl q)) c.going.runs c.going.phase (live h p q (wider_refl p) (wider_refl q)) i0

      i2 : R.Live r.numbers p q → Invariant H r.source (site p k) (site (S.accept (entry n) q) l) w.replications w.stamps
      i2 h = inv_entry_target s r n (site p k) q l w.replications w.stamps (named p q (wider_refl p) (wider_refl q)) c.going.runs c.going.phase (live h p q (wider_refl p) (wider_refl q)) i0

      i3 : R.Live r.numbers p q → Invariant H r.source (site (S.accept (entry n) p) k) (site (S.accept (entry n) q) l) w.replications w.stamps
      i3 h = inv_entry_target s r n (site (S.accept (entry n) p) k) q l w.replications w.stamps (named (S.accept (entry n) p) q (wider_entry n p) (wider_refl q)) c.going.runs c.going.phase (live h (S.accept (entry n) p) q (wider_entry n p) (wider_refl q)) (i1 h)

      to : (e f : Effect) → c.source_counts ≡ e → c.target_counts ≡ f → Invariant H r.source (site (joined e p) k) (site (joined f q) l) w.replications w.stamps → Invariant H r.source (site jp k) (site jq l) w.replications w.stamps
      to e f g h j = subst (λ (z : Effect). Invariant H r.source (site (joined z p) k) (site jq l) w.replications w.stamps) (sym g) (subst (λ (z : Effect). Invariant H r.source (site (joined e p) k) (site (joined z q) l) w.replications w.stamps) (sym h) j)

      noted : Counts n c.source_counts → Counts n c.target_counts → ((c.source_counts ≡ nothing) × (c.target_counts ≡ nothing)) ⊎ R.Live r.numbers p q → Invariant H r.source (site jp k) (site jq l) w.replications w.stamps
      noted e f (inl h) = to nothing nothing h.0 h.1 i0
      noted (inl e) (inl f) (inr h) = to nothing nothing e f i0
      noted (inl e) (inr f) (inr h) = to nothing (writes (entry n)) e f (i2 h)
      noted (inr e) (inl f) (inr h) = to (writes (entry n)) nothing e f (i1 h)
      noted (inr e) (inr f) (inr h) = to (writes (entry n)) (writes (entry n)) e f (i3 h)

      fin : (o : Outcome) (c : RecordStep s r o w v) → Invariant H r.source (site c.source c.goes.source_past) (site c.target c.goes.target_past) w.replications w.stamps → Invariant H r.source (site c.source c.goes.source_past) (site c.target c.goes.target_past) (renewed s r o w.replications) w.stamps
      fin (done m) c j =
          subst (λ (z : Replication). Invariant H r.source (site c.source c.goes.source_past) (site c.target c.goes.target_past) (renewed s r (done z) w.replications) w.stamps) (sym c.step.records)
          (inv_set H r.source (site c.source c.goes.source_past) (site c.target c.goes.target_past) w.replications w.stamps s r r.numbers.position ready r.numbers.position r.numbers.rows r.numbers.heads r.numbers.paths c.going.runs refl (λ q. q.current) (λ q e. not_secured e) j)
      fin (stopped a b d) c j = j

  pub finish_ends : (s : ℕ) (r : Open) (o : Outcome) (w v : World) (c : FinishStep s r o w v) → Ends (w.peer r.source) c.source × Ends (w.peer (not r.source)) c.target
  finish_ends s r (done m) w v c = (inl c.step.source_moved, inl c.step.target_moved)
  finish_ends s r (stopped n x y) w v c = go c.step.0
    where
      go : FinishStopped r.numbers (w.peer r.source) (w.peer (not r.source)) n x c.source c.target → Ends (w.peer r.source) c.source × Ends (w.peer (not r.source)) c.target
      go (R.barred b) = barred_ends b
      go (row_left e f l d h m k) = (inl m, inl k)

  step_finish : (s : ℕ) (r : Open) (o : Outcome) (w v : World) → WorldInvariant H w → FinishStep s r o w v → WorldInvariant H v
  step_finish s r o w v i c = subst (λ (z : World). WorldInvariant H z) (sym c.goes.is)
      (from_side H r.source c.source c.target c.goes.source_past c.goes.target_past (closed s o w.replications) w.stamps
      (fin o (inv_both H r.source p p c.source q q c.target (w.past r.source) c.goes.source_past (w.past (not r.source)) c.goes.target_past w.replications w.stamps
      (wider_refl p) (finish_ends s r o w v c).0 c.goes.source_grew (wider_refl q) (finish_ends s r o w v c).1 c.goes.target_grew (at_side H w r.source i))))
    where
      p : Peer
      p = w.peer r.source

      q : Peer
      q = w.peer (not r.source)

      a : Site
      a = site c.source c.goes.source_past

      b : Site
      b = site c.target c.goes.target_past

      fin : (o : Outcome) → Invariant H r.source a b w.replications w.stamps → Invariant H r.source a b (closed s o w.replications) w.stamps
      fin (done m) j = inv_idle H r.source a b w.replications w.stamps s j
      fin (stopped n x y) j = j

  step_abandon : (s : ℕ) (w v : World) → WorldInvariant H w → AbandonStep s w v → WorldInvariant H v
  step_abandon s w v i c = subst (λ (z : World). WorldInvariant H z) (sym c.is) (inv_idle H true (at w true) (at w false) w.replications w.stamps s i)

  step_of : (s : ℕ) (w v : World) → WorldInvariant H w → StepOf Ok s w v → WorldInvariant H v
  step_of s w v i (start side rule o c) = step_start s side rule o w v i c
  step_of s w v i (turn r o c) = step_turn s r o w v i c
  step_of s w v i (secure r o c) = step_secure s r o w v i c
  step_of s w v i (recording r o c) = step_record s r o w v i c
  step_of s w v i (finish r o c) = step_finish s r o w v i c
  step_of s w v i (abandon c) = step_abandon s w v i c

  step_any : (w v : World) → WorldInvariant H w → Step Ok w v → WorldInvariant H v
  step_any w v i (call c) = step_call w v i c
  step_any w v i (wake c) = step_wake w v i c
  step_any w v i (set_back c) = step_set_back w v i c
  step_any w v i (of s c) = step_of s w v i c

  blank_ok : DocumentsGood H no_documents
  blank_ok = record {
    closed = λ d g x l. absurd (omega arith);
    covered = λ d. record { none = λ x. refl; covers = λ g x l. absurd (omega arith) };
    agrees = λ d g x. tt;
    none = λ d e g x. omega arith;
    within = λ d. omega arith;
    apart = λ d e f l. absurd (omega arith);
  }

  new_inv : (w : World) → Fresh w → WorldInvariant H w
  new_inv w n = record {
    one = single true;
    two = single false;
    logs_forth = λ rule s p q x l y m hx hy j k. absurd (no_entry true x l (key_of (at w true) (at w false) rule) (s, p) hx j);
    logs_back = λ rule s p q x l y m hx hy j k. absurd (no_entry false x l (key_of (at w false) (at w true) rule) (s, p) hx j);
    open_forth = λ s r e f. never r (sym (n.none_open s) ∙ e);
    open_back = λ s r e f. never r (sym (n.none_open s) ∙ e);
    noted = λ s r e. never r (sym (n.none_open s) ∙ e);
  }
    where
      only : (p : Bool) (x : Documents) (l : Logs) → Had (at w p) x l → (x ≡ no_documents) × (l ≡ no_entries)
      only p x l (inl h) = (
        stage_none put (w.peer p).standing.docs (w.peer p).paths (n.paths p) x h.0 ∙ ap (λ (z : Record). z.docs) (n.standing p),
        stage_none enter (w.peer p).standing.logs (w.peer p).notes (n.notes p) l h.1 ∙ ap (λ (z : Record). z.logs) (n.standing p),
      )
      only p x l (inr h) = absurd (subst (λ (z : List Record). Mem (both x l) z) (n.past p) h)

      no_entry : (p : Bool) (x : Documents) (l : Logs) (k : Key) (e : ℕ × ℕ) → Had (at w p) x l → Mem e (l k) → ⊥
      no_entry p x l k e h m = subst (λ (z : Logs). Mem e (z k)) (only p x l h).1 m

      single : (p : Bool) → OnePeer H (at w p) w.stamps
      single p = record {
        ok = λ x l h. subst (λ (z : Documents). DocumentsGood H z) (sym (only p x l h).0) blank_ok;
        fresh = λ x l k s q h m. absurd (no_entry p x l k (s, q) h m);
        stamp = n.stamp p;
      }

  pub run_inv : {w : World} → Run Ok w → WorldInvariant H w
  run_inv (new w n) = new_inv w n
  run_inv (next u w r s) = step_any u w (run_inv r) s
