-- An accepted log entry of a secured replication keeps the invariant.
use Rattle.std.proofs.Common.{◌≡◌, ℕ, min, Bool, not, ◌⊎◌, List, sym, ap, subst, inl, inr, arith}
use Rattle.order.specs.Lists.{Mem}
use Rattle.peer.specs.Waiting.{Stage}
use Rattle.keys.specs.Keys.{Key}
use Rattle.checkpoint.specs.Logs.{Logs, Note, enter}
use Rattle.peer.specs.Records.{Documents}
use Rattle.law.specs.Replications.{secured}
use Rattle.law.specs.Runs.{Open, Slot, running}
use Rattle.peer.proofs.Waiting.{stage_last, stage_end}
use Rattle.checkpoint.proofs.Logs.{in_written}
use Rattle.law.proofs.Sites.{Site, log_now, Had, note, key_of, Live, entry_at}
use Rattle.law.proofs.Sound.{Histories, DocumentsGood, Sound, sound_less}
use Rattle.law.proofs.Invariant.{DocumentsStage, Conditions, Invariant}

-- an entry of a log that could stand once a log write waits: it could stand before
record Since (n : Note) (a : Site) (x : Documents) (k : Key) (e : ℕ × ℕ) : Type 0 where
  log : Logs
  had : Had a x log
  listed : Mem e (log k)

-- or it is the entry that waits
record Now (n : Note) (a : Site) (x : Documents) (k : Key) (e : ℕ × ℕ) : Type 0 where
  stage : DocumentsStage a x
  key : n.key ≡ k
  entry : e ≡ (n.stamp, n.position)

had_note : (n : Note) (a : Site) (x : Documents) (l : Logs) → Had (note n a) x l → Had a x l ⊎ (DocumentsStage a x × (l ≡ enter n (log_now a)))
had_note n a x l (inl h) = go (stage_end enter a.log a.notes n l h.1)
  where
    go : Stage enter a.log a.notes l ⊎ (l ≡ enter n (log_now a)) → Had a x l ⊎ (DocumentsStage a x × (l ≡ enter n (log_now a)))
    go (inl k) = inl (inl (h.0, k))
    go (inr k) = inr (h.0, k)
had_note n a x l (inr h) = inl (inr h)

had_stage : (a : Site) (x : Documents) → DocumentsStage a x → Had a x (log_now a)
had_stage a x h = inl (h, stage_last enter a.log a.notes)

note_entry : (n : Note) (a : Site) (x : Documents) (l : Logs) (k : Key) (e : ℕ × ℕ) → Had (note n a) x l → Mem e (l k) → Since n a x k e ⊎ Now n a x k e
note_entry n a x l k e h m = go (had_note n a x l h)
  where
    go : Had a x l ⊎ (DocumentsStage a x × (l ≡ enter n (log_now a))) → Since n a x k e ⊎ Now n a x k e
    go (inl g) = inl (record { log = l; had = g; listed = m })
    go (inr g) = pick (in_written n (log_now a) k e (subst (λ (t : Logs). Mem e (t k)) g.1 m))
      where
        pick : ((n.key ≡ k) × (e ≡ (n.stamp, n.position))) ⊎ Mem e (log_now a k) → Since n a x k e ⊎ Now n a x k e
        pick (inl f) = inr (record { stage = g.0; key = f.0; entry = f.1 })
        pick (inr f) = inl (record { log = log_now a; had = had_stage a x g.0; listed = f })

note_live_source : (a b : Site) (n : Note) (r : Open) → Live (note n a) b r → Live a b r
note_live_source a b n r l = record { source_up = l.source_up; source_stamp = l.source_stamp; target_up = l.target_up; target_stamp = l.target_stamp }

note_live_target : (a b : Site) (n : Note) (r : Open) → Live b (note n a) r → Live b a r
note_live_target a b n r l = record { source_up = l.source_up; source_stamp = l.source_stamp; target_up = l.target_up; target_stamp = l.target_stamp }

pair_left : (s p t q : ℕ) → ◌≡◌ {A = ℕ × ℕ} (s, p) (t, q) → s ≡ t
pair_left s p t q e = ap (λ (k : ℕ × ℕ). k.0) e

pair_right : (s p t q : ℕ) → ◌≡◌ {A = ℕ × ℕ} (s, p) (t, q) → p ≡ q
pair_right s p t q e = ap (λ (k : ℕ × ℕ). k.1) e

module _ (H : Histories) (side : Bool) (a b : Site) (rep : ℕ → Slot) (st : List ℕ) (n : Note) (i : Invariant H side a b rep st)
    (known : Mem n.stamp st)
    (m1 : (rule : List ℕ) (q : ℕ) (x y : Documents) (m : Logs) → n.key ≡ key_of a b rule → DocumentsStage a x → Had b y m → Mem (n.stamp, q) (m (key_of a b rule)) → Sound rule q x y)
    (m2 : (rule : List ℕ) (p : ℕ) (x : Documents) (l : Logs) (y : Documents) → n.key ≡ key_of b a rule → Had b x l → DocumentsStage a y → Mem (n.stamp, p) (l (key_of b a rule)) → Sound rule p x y)
    (d1 : (s : ℕ) (r : Open) → rep s ≡ running r → n.key ≡ key_of a b r.numbers.rule → s ≡ n.stamp → (x y : Documents) → DocumentsStage a x → DocumentsStage b y → Sound r.numbers.rule n.position x y)
    (d2 : (s : ℕ) (r : Open) → rep s ≡ running r → n.key ≡ key_of b a r.numbers.rule → s ≡ n.stamp → (x y : Documents) → DocumentsStage b x → DocumentsStage a y → Sound r.numbers.rule n.position x y) where
  inv_note : Invariant H side (note n a) b rep st
  inv_note = record {
    one = record { ok = λ x l h. ok' x l (had_note n a x l h); fresh = λ x l k s p h m. fresh' x k s p (note_entry n a x l k (s, p) h m); stamp = i.one.stamp };
    two = i.two;
    logs_forth = λ rule s p q x l y m hx hy j k. logs_forth' rule s p q x y m hy (note_entry n a x l (key_of a b rule) (s, p) hx j) k;
    logs_back = λ rule s p q x l y m hx hy j k. logs_back' rule s p q x l y hx j (note_entry n a y m (key_of b a rule) (s, q) hy k);
    open_forth = λ s r e f. record { no_twin = (i.open_forth s r e f).no_twin; conds = λ v. conds1 s r e ((i.open_forth s r e f).conds (note_live_source a b n r v)) };
    open_back = λ s r e f. record { no_twin = (i.open_back s r e f).no_twin; conds = λ v. conds2 s r e ((i.open_back s r e f).conds (note_live_target a b n r v)) };
    noted = i.noted;
  }
    where
      ok' : (x : Documents) (l : Logs) → Had a x l ⊎ (DocumentsStage a x × (l ≡ enter n (log_now a))) → DocumentsGood H x
      ok' x l (inl h) = i.one.ok x l h
      ok' x l (inr h) = i.one.ok x (log_now a) (had_stage a x h.0)

      fresh' : (x : Documents) (k : Key) (s p : ℕ) → Since n a x k (s, p) ⊎ Now n a x k (s, p) → Mem s st
      fresh' x k s p (inl g) = i.one.fresh x g.log k s p g.had g.listed
      fresh' x k s p (inr g) = subst (λ (t : ℕ). Mem t st) (sym (pair_left s p n.stamp n.position g.entry)) known

      logs_forth' : (rule : List ℕ) (s p q : ℕ) (x y : Documents) (m : Logs) → Had b y m → Since n a x (key_of a b rule) (s, p) ⊎ Now n a x (key_of a b rule) (s, p) → Mem (s, q) (m (key_of a b rule)) → Sound rule (min p q) x y
      logs_forth' rule s p q x y m hy (inl g) k = i.logs_forth rule s p q x g.log y m g.had hy g.listed k
      logs_forth' rule s p q x y m hy (inr g) k =
          sound_less rule (min p q) q x y (omega arith)
          (m1 rule q x y m g.key g.stage hy (subst (λ (t : ℕ). Mem (t, q) (m (key_of a b rule))) (pair_left s p n.stamp n.position g.entry) k))

      logs_back' : (rule : List ℕ) (s p q : ℕ) (x : Documents) (l : Logs) (y : Documents) → Had b x l → Mem (s, p) (l (key_of b a rule)) → Since n a y (key_of b a rule) (s, q) ⊎ Now n a y (key_of b a rule) (s, q) → Sound rule (min p q) x y
      logs_back' rule s p q x l y hx j (inl g) = i.logs_back rule s p q x l y g.log hx g.had j g.listed
      logs_back' rule s p q x l y hx j (inr g) =
          sound_less rule (min p q) p x y (omega arith)
          (m2 rule p x l y g.key hx g.stage (subst (λ (t : ℕ). Mem (t, p) (l (key_of b a rule))) (pair_left s q n.stamp n.position g.entry) j))

      conds1 : (s : ℕ) (r : Open) → rep s ≡ running r → Conditions H a b s r → Conditions H (note n a) b s r
      conds1 s r e v = record {
        current = v.current;
        standing = v.standing;
        theirs = v.theirs;
        ours = λ p x l y h j m. ours' p x y j (note_entry n a x l (key_of a b r.numbers.rule) (s, p) h m);
        own_agrees = v.own_agrees;
        others_agrees = v.others_agrees;
        own_held = v.own_held;
        others_held = v.others_held;
        all = v.all;
      }
        where
          ours' : (p : ℕ) (x y : Documents) → DocumentsStage b y → Since n a x (key_of a b r.numbers.rule) (s, p) ⊎ Now n a x (key_of a b r.numbers.rule) (s, p) → Sound r.numbers.rule p x y
          ours' p x y j (inl g) = v.ours p x g.log y g.had j g.listed
          ours' p x y j (inr g) = subst (λ (t : ℕ). Sound r.numbers.rule t x y) (sym (pair_right s p n.stamp n.position g.entry))
              (d1 s r e g.key (pair_left s p n.stamp n.position g.entry) x y g.stage j)

      conds2 : (s : ℕ) (r : Open) → rep s ≡ running r → Conditions H b a s r → Conditions H b (note n a) s r
      conds2 s r e v = record {
        current = v.current;
        standing = v.standing;
        theirs = λ q x y m h j k. theirs' q x y h (note_entry n a y m (key_of b a r.numbers.rule) (s, q) j k);
        ours = v.ours;
        own_agrees = v.own_agrees;
        others_agrees = v.others_agrees;
        own_held = v.own_held;
        others_held = v.others_held;
        all = v.all;
      }
        where
          theirs' : (q : ℕ) (x y : Documents) → DocumentsStage b x → Since n a y (key_of b a r.numbers.rule) (s, q) ⊎ Now n a y (key_of b a r.numbers.rule) (s, q) → Sound r.numbers.rule q x y
          theirs' q x y j (inl g) = v.theirs q x y g.log j g.had g.listed
          theirs' q x y j (inr g) = subst (λ (t : ℕ). Sound r.numbers.rule t x y) (sym (pair_right s q n.stamp n.position g.entry))
              (d2 s r e g.key (pair_left s q n.stamp n.position g.entry) x y j g.stage)

pub same_repl : (rep : ℕ → Slot) (s t : ℕ) (q r : Open) → rep s ≡ running q → rep t ≡ running r → s ≡ t → q ≡ r
same_repl rep s t q r e f g = let h : rep s ≡ rep t = ap rep g in cc

module _ (H : Histories) (side : Bool) (a b : Site) (rep : ℕ → Slot) (st : List ℕ) (s : ℕ) (r : Open) (e : rep s ≡ running r) (sec : r.numbers.phase ≡ secured) (i : Invariant H side a b rep st) where
  -- a is the source of the replication that records
  pub inv_note_source : r.source ≡ side → Live a b r → Invariant H side (note (entry_at s r a b) a) b rep st
  inv_note_source f l = inv_note H side a b rep st (entry_at s r a b) i (i.noted s r e).self
      (λ rule q x y m k j hy z.
      let g : r.numbers.rule ≡ rule = ap (λ (t : Key). t.rule) k in
      subst (λ (t : List ℕ). Sound t q x y) g (v.theirs q x y m j hy (subst (λ (t : List ℕ). Mem (s, q) (m (key_of a b t))) (sym g) z)))
      (λ rule p x l₁ y k hx j z. absurd (tw (ap (λ (t : Key). t.source) k)))
      (λ s₁ r₁ e₁ k g x y j h.
      let z : r ≡ r₁ = same_repl rep s s₁ r r₁ e e₁ (sym g) in
      subst (λ (t : Open). Sound t.numbers.rule r.numbers.position x y) z (v.standing sec x y j h))
      (λ s₁ r₁ e₁ k g x y j h. absurd (tw (ap (λ (t : Key). t.source) k)))
    where
      v : Conditions H a b s r
      v = (i.open_forth s r e f).conds l

      tw : a.number ≡ b.number → ⊥
      tw = (i.open_forth s r e f).no_twin

  -- a is its target
  pub inv_note_target : r.source ≡ not side → Live b a r → Invariant H side (note (entry_at s r b a) a) b rep st
  inv_note_target f l = inv_note H side a b rep st (entry_at s r b a) i (i.noted s r e).self
      (λ rule q x y m k j hy z. absurd (tw (ap (λ (t : Key). t.source) k)))
      (λ rule p x l₁ y k hx j z.
      let g : r.numbers.rule ≡ rule = ap (λ (t : Key). t.rule) k in
      subst (λ (t : List ℕ). Sound t p x y) g (v.ours p x l₁ y hx j (subst (λ (t : List ℕ). Mem (s, p) (l₁ (key_of b a t))) (sym g) z)))
      (λ s₁ r₁ e₁ k g x y j h. absurd (tw (ap (λ (t : Key). t.source) k)))
      (λ s₁ r₁ e₁ k g x y j h.
      let z : r ≡ r₁ = same_repl rep s s₁ r r₁ e e₁ (sym g) in
      subst (λ (t : Open). Sound t.numbers.rule r.numbers.position x y) z (v.standing sec x y j h))
    where
      v : Conditions H b a s r
      v = (i.open_back s r e f).conds l

      tw : b.number ≡ a.number → ⊥
      tw = (i.open_back s r e f).no_twin
