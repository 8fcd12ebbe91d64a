-- How calls, wakes and sequences of paths keep the invariant, and new numbers of a replication.
use Rattle.std.proofs.Common.{◌≡◌, ℕ, Bool, true, false, cond, not, eqb, ◌⊎◌, List, [], ◌∷◌, sym, refl, ap, ◌∙◌, subst, inl, inr, arith}
use Rattle.std.proofs.lemmas.Bool.{eqb-true, eq-eqb}
use Rattle.order.specs.Lists.{Mem, Each}
use Rattle.peer.specs.Waiting.{Stage}
use Rattle.revision.specs.Paths.{Path, path_tree}
use Rattle.keys.specs.Keys.{passes}
use Rattle.checkpoint.specs.Logs.{Logs, Note, enter}
use Rattle.peer.specs.Records.{Documents, put, Record}
use Rattle.law.specs.Replications.{Phase, secured, Replication}
use Rattle.law.specs.Runs.{Open, Slot, idle, running, user, copier, told, tolds, assign, renew, Grew, New, spent, is_answered}
use Rattle.revision.proofs.Places.{Below}
use Rattle.peer.proofs.Waiting.{shift_stage, shift_after, stage_none, stage_longer}
use Rattle.peer.proofs.Calls.{Ends}
use Rattle.law.proofs.Sites.{Site, site, now, both, Had, accept, accepts, Live}
use Rattle.law.proofs.Sound.{Histories, PathGood, Sound}
use Rattle.law.proofs.Invariant.{DocumentsStage, Conditions, ReplicationInvariant, Noted, Invariant, Quiet, swap, quiet_refl, inv_quiet, Drop, inv_drop}
use Rattle.peer.specs.Peers.{Peer, entry, current, Moved, Failed, changes, Reply}
use Rattle.peer.specs.Functions.{Wake, bad_stamp, power, no_file, woken}
use Rattle.peer.specs.Peers as S
use Rattle.law.proofs.Writes.{inv_accept}
use Rattle.law.proofs.Notes.{same_repl}

-- How calls end -------------------------------------------------------------------------------------------------------

-- j is p, perhaps with a log write more
pub record Wider (p j : Peer) : Type 0 where
  pub number : j.number ≡ p.number
  pub stamp : j.stamp ≡ p.stamp
  pub up : j.up ≡ p.up
  pub same_now : (current j).docs ≡ (current p).docs
  pub stages : (x : Documents) → Stage put p.standing.docs p.paths x → Stage put j.standing.docs j.paths x
  pub logs : (l : Logs) → Stage enter p.standing.logs p.notes l → Stage enter j.standing.logs j.notes l

pub wider_refl : (p : Peer) → Wider p p
wider_refl p = record { number = refl; stamp = refl; up = refl; same_now = refl; stages = λ x s. s; logs = λ l s. s }

pub wider_entry : (n : Note) (p : Peer) → Wider p (S.accept (entry n) p)
wider_entry n p = go (changes (entry n) (current p))
  where
    go : (b : Bool) → Wider p (cond b (S.wait (entry n) p) p)
    go true = record { number = refl; stamp = refl; up = refl; same_now = refl; stages = λ x s. s; logs = λ l s. stage_longer enter p.standing.logs p.notes (n ∷ []) l s }
    go false = wider_refl p

-- what has stood after a call could stand before
past_had : (k k' : List Record) (j : Peer) → Grew k j k' → (x : Documents) (l : Logs) → Mem (both x l) k' → Had (site j k) x l
past_had k k' j g x l m = go (g (both x l) m)
  where
    go : Mem (both x l) k ⊎ S.Possible j (both x l) → Had (site j k) x l
    go (inl h) = inr h
    go (inr h) = inl h

pub moved_quiet : (p j q : Peer) (k k' : List Record) → Wider p j → Moved p q → Grew k j k' → Quiet (site j k) (site q k')
moved_quiet p j q k k' w m g = record {
  number = m.number ∙ sym w.number;
  stamp = m.stamp ∙ sym w.stamp;
  up = m.up ∙ sym w.up;
  same_now = shift_after put m.docs ∙ sym w.same_now;
  stages = λ x h. w.stages x (shift_stage put m.docs x h);
  had = go;
}
  where
    go : (x : Documents) (l : Logs) → Had (site q k') x l → Had (site j k) x l
    go x l (inl h) = inl (w.stages x (shift_stage put m.docs x h.0), w.logs l (shift_stage enter m.logs l h.1))
    go x l (inr h) = past_had k k' j g x l h

-- a peer with empty lists could stand on its record alone
had_alone : (q : Peer) (k' : List Record) (P : Documents → Logs → Type 0) → q.paths ≡ [] → q.notes ≡ [] → P q.standing.docs q.standing.logs → ((x : Documents) (l : Logs) → Mem (both x l) k' → P x l) →
    (x : Documents) (l : Logs) → Had (site q k') x l → P x l
had_alone q k' P e f h m x l (inl s) =
    subst (λ (n : Logs). P x n) (sym (stage_none enter q.standing.logs q.notes f l s.1))
    (subst (λ (z : Documents). P z q.standing.logs) (sym (stage_none put q.standing.docs q.paths e x s.0)) h)
had_alone q k' P e f h m x l (inr s) = m x l s

pub failed_drop : (st : List ℕ) (p j q : Peer) (k k' : List Record) → Wider p j → Failed p q → Grew k j k' → Drop st (site j k) (site q k')
failed_drop st p j q k k' w f g = record {
  number = f.number ∙ sym w.number;
  had = had_alone q k' (Had (site j k)) f.no_path f.no_note (inl (w.stages q.standing.docs f.standing.0, w.logs q.standing.logs f.standing.1)) (past_had k k' j g);
  dead = inl f.down;
}

-- left down or woken, on a record that could stand
rested : (st : List ℕ) (r : Record) (p q : Peer) (k k' : List Record) → q.number ≡ p.number → q.standing ≡ r → q.paths ≡ [] → q.notes ≡ [] → Had (site p k) r.docs r.logs → Grew k p k' → (q.up ≡ false) ⊎ (Mem q.stamp st → ⊥) → Drop st (site p k) (site q k')
rested st r p q k k' n e f h s g d = record {
  number = n;
  had = had_alone q k' (Had (site p k)) f h (subst (λ (z : Record). Had (site p k) z.docs z.logs) (sym e) s) (past_had k k' p g);
  dead = d;
}

not_not' : (s : Bool) → not (not s) ≡ s
not_not' true = refl
not_not' false = refl

-- the other way round
pub back : (H : Histories) (side : Bool) (a b : Site) (rep : ℕ → Slot) (st : List ℕ) → Invariant H (not side) b a rep st → Invariant H side a b rep st
back H side a b rep st i = subst (λ (t : Bool). Invariant H t a b rep st) (not_not' side) (swap H (not side) b a rep st i)

pub inv_ends : (H : Histories) (side : Bool) (p j q : Peer) (k k' : List Record) (b : Site) (rep : ℕ → Slot) (st : List ℕ) → Wider p j → Ends p q → Grew k j k' → Invariant H side (site j k) b rep st → Invariant H side (site q k') b rep st
inv_ends H side p j q k k' b rep st w (inl m) g i = inv_quiet H side (site j k) b (site q k') b rep st (moved_quiet p j q k k' w m g) (quiet_refl b) i
inv_ends H side p j q k k' b rep st w (inr f) g i =
    inv_drop H side (site j k) b (site q k') rep st st (λ n m. m) (subst (λ (t : ℕ). Mem t st) (w.stamp ∙ sym f.stamp) i.one.stamp) (failed_drop st p j q k k' w f g) i

-- at the other one
pub inv_ends_there : (H : Histories) (side : Bool) (p j q : Peer) (k k' : List Record) (a : Site) (rep : ℕ → Slot) (st : List ℕ) → Wider p j → Ends p q → Grew k j k' → Invariant H side a (site j k) rep st → Invariant H side a (site q k') rep st
inv_ends_there H side p j q k k' a rep st w e g i = back H side a (site q k') rep st (inv_ends H (not side) p j q k k' a rep st w e g (swap H side a (site j k) rep st i))

-- a wake, of the peer or of the peer with a record given back
pub inv_wake : (H : Histories) (side : Bool) (s : ℕ) (p q : Peer) (reply : Reply Unit) (k k' : List Record) (b : Site) (rep : ℕ → Slot) (st : List ℕ) →
    New (is_answered reply) s st → Wake s p reply q → (start : Peer) → start.number ≡ p.number → start.stamp ≡ p.stamp → Had (site start k) p.standing.docs p.standing.logs →
    (s ≡ 0 → Ends start p) → Grew k start k' → Invariant H side (site start k) b rep st → Invariant H side (site q k') b rep (spent (is_answered reply) s st)
inv_wake H side s p q reply k k' b rep st n (bad_stamp z) start e f h m g i = inv_ends H side start start p k k' b rep st (wider_refl start) (m z) g i
inv_wake H side s p q reply k k' b rep st n (power q₁ z d) start e f h m g i =
    inv_drop H side (site start k) b (site q₁ k') rep st st (λ x y. y) (subst (λ (t : ℕ). Mem t st) (f ∙ sym d.stamp) i.one.stamp)
    (rested st p.standing start q₁ k k' (d.number ∙ sym e) d.standing d.no_path d.no_note h g (inl d.down)) i
inv_wake H side s p q reply k k' b rep st n (no_file q₁ z d) start e f h m g i =
    inv_drop H side (site start k) b (site q₁ k') rep st st (λ x y. y) (subst (λ (t : ℕ). Mem t st) (f ∙ sym d.stamp) i.one.stamp)
    (rested st p.standing start q₁ k k' (d.number ∙ sym e) d.standing d.no_path d.no_note h g (inl d.down)) i
inv_wake H side s p q reply k k' b rep st n (woken q₁ z d) start e f h m g i =
    inv_drop H side (site start k) b (site q₁ k') rep st (s ∷ st) (λ x y. inr y) (inl d.stamp)
    (rested st p.standing start q₁ k k' (d.number ∙ sym e) d.standing d.no_path d.no_note h g (inr (λ x. n (subst (λ (t : ℕ). Mem t st) d.stamp x)))) i

-- Paths, one after the other --------------------------------------------------------------------------------------------

pub inv_users : (H : Histories) (side : Bool) (a b : Site) (rep : ℕ → Slot) (st : List ℕ) (ws : List Path) → Each (PathGood H) ws → Invariant H side a b rep st → Invariant H side (accepts ws a) b (tolds user side ws rep) st
inv_users H side a b rep st [] o i = i
inv_users H side a b rep st (w ∷ ws) o i = inv_users H side (accept w a) b (told user side w rep) st ws o.1 (inv_accept H side a b rep st w user o.0 tt i)

told_self : (s : ℕ) (side : Bool) (w : Path) (rep : ℕ → Slot) → told (copier s) side w rep s ≡ rep s
told_self s side w rep = rw (eq-eqb s s refl)

-- what is known of a path that the replication r copies from b
abbrev pub Copied : Histories → Open → Site → Path → Type 0
Copied H r b w = PathGood H w × (passes r.numbers.rule w.doc ≡ true) × Below (path_tree w) ((now b).tree w.doc)

pub inv_copies : (H : Histories) (side : Bool) (a b : Site) (rep : ℕ → Slot) (st : List ℕ) (s : ℕ) (r : Open) (ws : List Path) → rep s ≡ running r → Each (Copied H r b) ws → Invariant H side a b rep st →
    Invariant H side (accepts ws a) b (tolds (copier s) side ws rep) st × (tolds (copier s) side ws rep s ≡ running r)
inv_copies H side a b rep st s r [] e o i = (i, e)
inv_copies H side a b rep st s r (w ∷ ws) e o i =
    inv_copies H side (accept w a) b (told (copier s) side w rep) st s r ws (told_self s side w rep ∙ e) o.1
    (inv_accept H side a b rep st w (copier s) o.0.0
    (λ q f. let z : r ≡ q = same_repl rep s s r q e f refl in (subst (λ (t : Open). passes t.numbers.rule w.doc ≡ true) z o.0.1, o.0.2)) i)

-- The replications by their stamps ---------------------------------------------------------------------------------------

assigned : (s : ℕ) (v : Slot) (rep : ℕ → Slot) (t : ℕ) (q : Open) → assign s v rep t ≡ running q → ((t ≡ s) × (v ≡ running q)) ⊎ (rep t ≡ running q)
assigned s v rep t q e = go (eqb t s) refl e
  where
    go : (b : Bool) → eqb t s ≡ b → cond b v (rep t) ≡ running q → ((t ≡ s) × (v ≡ running q)) ⊎ (rep t ≡ running q)
    go true f e = inl (eqb-true t s f, e)
    go false f e = inr e

pub never : {A : Type 0} (q : Open) → idle ≡ running q → A
never q e = absurd (let z : ◌≡◌ {A = ℕ} 0 1 = cc in omega arith)

pub inv_idle : (H : Histories) (side : Bool) (a b : Site) (rep : ℕ → Slot) (st : List ℕ) (s : ℕ) → Invariant H side a b rep st → Invariant H side a b (assign s idle rep) st
inv_idle H side a b rep st s i = record {
  one = i.one;
  two = i.two;
  logs_forth = i.logs_forth;
  logs_back = i.logs_back;
  open_forth = λ t q e f. i.open_forth t q (old t q (assigned s idle rep t q e)) f;
  open_back = λ t q e f. i.open_back t q (old t q (assigned s idle rep t q e)) f;
  noted = λ t q e. let n = i.noted t q (old t q (assigned s idle rep t q e)) in record { name = n.name; self = n.self; from = n.from; to = n.to };
}
  where
    old : (t : ℕ) (q : Open) → ((t ≡ s) × (idle ≡ running q)) ⊎ (rep t ≡ running q) → rep t ≡ running q
    old t q (inl h) = never q h.1
    old t q (inr h) = h

odd : {A : Type 0} (s : Bool) → s ≡ not s → A
odd true e = absurd (let z : ◌≡◌ {A = ℕ} 0 1 = cc in omega arith)
odd false e = absurd (let z : ◌≡◌ {A = ℕ} 0 1 = cc in omega arith)

pub inv_assign : (H : Histories) (side : Bool) (a b : Site) (rep : ℕ → Slot) (st : List ℕ) (s : ℕ) (r : Open) → r.source ≡ side → ReplicationInvariant H a b s r → r.numbers.stamp ≡ s → Mem s st → Mem r.numbers.source_stamp st → Mem r.numbers.target_stamp st → Invariant H side a b rep st → Invariant H side a b (assign s (running r) rep) st
inv_assign H side a b rep st s r src v k0 k1 k2 k3 i = record {
  one = i.one;
  two = i.two;
  logs_forth = i.logs_forth;
  logs_back = i.logs_back;
  open_forth = λ t q e f. go1 t q f (assigned s (running r) rep t q e);
  open_back = λ t q e f. go2 t q f (assigned s (running r) rep t q e);
  noted = λ t q e. go3 t q (assigned s (running r) rep t q e);
}
  where
    inj : (q : Open) → running r ≡ running q → r ≡ q
    inj q e = cc

    go1 : (t : ℕ) (q : Open) → q.source ≡ side → ((t ≡ s) × (running r ≡ running q)) ⊎ (rep t ≡ running q) → ReplicationInvariant H a b t q
    go1 t q f (inl h) = subst (λ (z : Open). ReplicationInvariant H a b t z) (inj q h.1) (subst (λ (z : ℕ). ReplicationInvariant H a b z r) (sym h.0) v)
    go1 t q f (inr h) = i.open_forth t q h f

    go2 : (t : ℕ) (q : Open) → q.source ≡ not side → ((t ≡ s) × (running r ≡ running q)) ⊎ (rep t ≡ running q) → ReplicationInvariant H b a t q
    go2 t q f (inl h) = odd side (sym src ∙ (ap (λ (z : Open). z.source) (inj q h.1) ∙ f))
    go2 t q f (inr h) = i.open_back t q h f

    go3 : (t : ℕ) (q : Open) → ((t ≡ s) × (running r ≡ running q)) ⊎ (rep t ≡ running q) → Noted (assign s (running r) rep) st t q
    go3 t q (inl h) = record { name = subst (λ (z : Open). z.numbers.stamp ≡ t) (inj q h.1) (k0 ∙ sym h.0); self = subst (λ (z : ℕ). Mem z st) (sym h.0) k1; from = subst (λ (z : Open). Mem z.numbers.source_stamp st) (inj q h.1) k2; to = subst (λ (z : Open). Mem z.numbers.target_stamp st) (inj q h.1) k3 }
    go3 t q (inr h) = let n = i.noted t q h in record { name = n.name; self = n.self; from = n.from; to = n.to }

-- other numbers, of the same rule and start stamps
abbrev pub set : ℕ → Phase → ℕ → ℕ → ℕ → ℕ → Replication → Replication
set n p c x y z k = record { rule = k.rule; stamp = k.stamp; source_stamp = k.source_stamp; target_stamp = k.target_stamp; position = n; recorded = c; rows = x; heads = y; paths = z; phase = p }

set_live : (a b : Site) (n : ℕ) (p : Phase) (c x y z : ℕ) (r : Open) → Live a b (renew (set n p c x y z r.numbers) r) → Live a b r
set_live a b n p c x y z r l = record { source_up = l.source_up; source_stamp = l.source_stamp; target_up = l.target_up; target_stamp = l.target_stamp }

pub inv_set : (H : Histories) (side : Bool) (a b : Site) (rep : ℕ → Slot) (st : List ℕ) (s : ℕ) (r : Open) (n : ℕ) (p : Phase) (c x y z : ℕ) → rep s ≡ running r → r.source ≡ side →
    (Conditions H a b s r → Sound r.numbers.rule n (now a) (now b)) →
    (Conditions H a b s r → p ≡ secured → (x y : Documents) → DocumentsStage a x → DocumentsStage b y → Sound r.numbers.rule n x y) →
    Invariant H side a b rep st → Invariant H side a b (assign s (running (renew (set n p c x y z r.numbers) r)) rep) st
inv_set H side a b rep st s r n p c x y z e f cur sta i =
    inv_assign H side a b rep st s (renew (set n p c x y z r.numbers) r) f
    (record { no_twin = (i.open_forth s r e f).no_twin; conds = λ l. to ((i.open_forth s r e f).conds (set_live a b n p c x y z r l)) })
    (i.noted s r e).name (i.noted s r e).self (i.noted s r e).from (i.noted s r e).to i
  where
    to : Conditions H a b s r → Conditions H a b s (renew (set n p c x y z r.numbers) r)
    to v = record { current = cur v; standing = sta v; theirs = v.theirs; ours = v.ours; own_agrees = v.own_agrees; others_agrees = v.others_agrees; own_held = v.own_held; others_held = v.others_held; all = v.all }
