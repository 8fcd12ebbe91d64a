-- What the contracts of calls give to whoever makes them.
use Rattle.std.proofs.Common.{◌≡◌, ℕ, ◌<◌, Bool, true, false, cond, List, [], ◌∷◌, Some, None, Option, sym, refl, ap, ◌∙◌, subst, inl, inr, arith}
use Rattle.decline.specs.Verdicts.{first_failed}
use Rattle.order.specs.Lists.{Each}
use Rattle.revision.specs.Ids.{Id}
use Rattle.peer.specs.Records.{Row, Next, NoRow}
use Rattle.peer.specs.Peers.{Peer, current, Moved, Failed, Committed, Effect, nothing, commits, joined, Declined, by_input, by_down, by_power, by_state, answered, declined, Effected, writes, path, entry, Reply, Called, Lost}
use Rattle.peer.specs.Functions.{Call, start_stamp, row_after, commit, Function, Answer, effect, input, Verdict, Answers, path_write, log_write, PathWrite, LogWrite, path_given, note_given, PathVerdict, NoteVerdict, path_answer}
use Rattle.peer.proofs.Calls.{moved_failed, moved_trans, moved_current}

-- where the state declines nothing and no write counts, a declined call is 31
quiet_declined : (p : Peer) (V : Option ℕ → Type 0) (e : Effect) (n : ℕ) (c : Effect) (q : Peer) → (V (Some n) → ⊥) → joined nothing p ≡ joined e p → Declined p None V e n c q → (n ≡ 31) × Lost p q
quiet_declined p V e n c q f g (by_input i z m) = absurd (let x : ◌≡◌ {A = ℕ} 0 1 = cc in omega arith)
quiet_declined p V e n c q f g (by_down i z u w h) = (z, inl (u, h))
quiet_declined p V e n c q f g (by_power i z u (inl w) h) = (z, inr (u, subst (λ (k : Effect). Failed (joined k p) q) w h))
quiet_declined p V e n c q f g (by_power i z u (inr w) h) = (z, inr (u, subst (λ (k : Peer). Failed k q) (sym g) (subst (λ (k : Effect). Failed (joined k p) q) w.0 h)))
quiet_declined p V e n c q f g (by_state i u v w m) = absurd (f v)

no_number : (n : ℕ) → Some n ≡ None → ⊥
no_number n e = let x : ◌≡◌ {A = ℕ} 0 1 = cc in omega arith

pub stamp_declined : (p : Peer) (n : ℕ) (q : Peer) → Call start_stamp p (declined n) q → (n ≡ 31) × Lost p q
stamp_declined p n q h = quiet_declined p (λ v. v ≡ None) nothing n h.0 q (no_number n) refl h.1

pub commit_declined : (p : Peer) (n : ℕ) (q : Peer) → Call commit p (declined n) q → (n ≡ 31) × Lost p q
commit_declined p n q h = quiet_declined p (λ v. v ≡ None) commits n h.0 q (no_number n) refl h.1

pub stamp_answered : (p : Peer) (a : ℕ) (q : Peer) → Call start_stamp p (answered a) q → (p.up ≡ true) × (p.stamp ≡ a) × Moved p q
stamp_answered p a q h = (h.1.0.up, sym h.1.1, h.1.0.effected)

pub commit_answered : (p : Peer) (a : Unit) (q : Peer) → Call commit p (answered a) q → (p.up ≡ true) × Committed p q
commit_answered p a q h = (h.1.0.up, h.1.0.effected)

-- 31 from a peer that is up
pub lost_failed : (p q : Peer) → p.up ≡ true → Lost p q → Failed p q
lost_failed p q u (inl h) = absurd (let x : ◌≡◌ {A = Bool} true false = sym u ∙ h.0 in let y : ◌≡◌ {A = ℕ} 0 1 = cc in omega arith)
lost_failed p q u (inr h) = h.1

-- after reads of a peer that is up
pub lost_after : (p m q : Peer) → p.up ≡ true → Moved p m → Lost m q → Lost p q
lost_after p m q u v (inl h) = absurd (let x : ◌≡◌ {A = Bool} true false = sym u ∙ (sym v.up ∙ h.0) in let y : ◌≡◌ {A = ℕ} 0 1 = cc in omega arith)
lost_after p m q u v (inr h) = inr (u, moved_failed p m q v h.1)

pub committed_after : (p m q : Peer) → Moved p m → Committed m q → Committed p q
committed_after p m q v c = record { moved = moved_trans p m q v c.moved; no_path = c.no_path; no_note = c.no_note }

pub row_declined : (p : Peer) (k n : ℕ) (q : Peer) → Call (row_after k) p (declined n) q → (n ≡ 31) × Lost p q
row_declined p k n q h = quiet_declined p (λ v. v ≡ None) nothing n h.0 q (no_number n) refl h.1

pub row_none : (p : Peer) (k : ℕ) (q : Peer) → Call (row_after k) p (answered None) q → Moved p q × NoRow (current p).docs k
row_none p k q h = (h.1.0.effected, h.1.1.0)

pub row_some : (p : Peer) (k : ℕ) (row : Row) (q : Peer) → Call (row_after k) p (answered (Some row)) q → Moved p q × Next (current p).docs k row
row_some p k row q h = (h.1.0.effected, h.1.1.0)

-- the row is the same after reads
pub none_after : (p m : Peer) (k : ℕ) → Moved p m → NoRow (current m).docs k → NoRow (current p).docs k
none_after p m k v h = subst (λ r. NoRow r.docs k) (moved_current p m v) h

pub next_after : (p m : Peer) (k : ℕ) (row : Row) → Moved p m → Next (current m).docs k row → Next (current p).docs k row
next_after p m k row v h = subst (λ r. Next r.docs k row) (moved_current p m v) h

pub next_left : (p : Peer) (k : ℕ) (row : Row) → Next (current p).docs k row → k < (current p).docs.last row.0
next_left p k row n = subst (λ (m : ℕ). k < m) (sym n.last) n.above

pub row_is : (p : Peer) (k : ℕ) (q : Peer) (o r : Option Row) → o ≡ r → Call (row_after k) p (answered o) q → Call (row_after k) p (answered r) q
row_is p k q o r e h = subst (λ z. Call (row_after k) p (answered z) q) e h

-- any reading function: what is answered, and what a decline means where the input is good and the state declines nothing
pub read_answered : (f : Function) (p : Peer) (a : Answer f) (q : Peer) → effect f ≡ nothing → Call f p (answered a) q → (p.up ≡ true) × Answers f p a × Moved p q
read_answered f p a q e h = (h.1.0.up, h.1.1, subst (λ (z : Effect). Effected z p q) e h.1.0.effected)

pub read_declined : (f : Function) (p : Peer) (n : ℕ) (q : Peer) → input f ≡ None → effect f ≡ nothing → (Verdict f p (Some n) → ⊥) → Call f p (declined n) q → (n ≡ 31) × Lost p q
read_declined f p n q i e v h =
    quiet_declined p (Verdict f p) nothing n h.0 q v refl
    (subst (λ (z : Effect). Declined p None (Verdict f p) z n h.0 q) e (subst (λ (z : Option ℕ). Declined p z (Verdict f p) (effect f) n h.0 q) i h.1))

-- the two writes, where the input is good
pub as_path : (id : Id) (g : ℕ) (ts : List ℕ) (m : ℕ) (b : List ℕ) (p : Peer) (r : Reply ℕ) (q : Peer) → input (path_write id g ts m b) ≡ None → Call (path_write id g ts m b) p r q → (c : Effect) × PathWrite (path_given id g ts m b) p r c q
as_path id g ts m b p r q i h =
    (h.0, subst (λ (z : Option ℕ). Called p z (PathVerdict p (path_given id g ts m b)) (λ a. a ≡ path_answer p (path_given id g ts m b)) (writes (path (path_given id g ts m b))) r h.0 q) i h.1)

pub as_note : (k : List ℕ) (s n : ℕ) (p : Peer) (r : Reply Unit) (q : Peer) → input (log_write k s n) ≡ None → Call (log_write k s n) p r q → (c : Effect) × LogWrite (note_given k s n) p r c q
as_note k s n p r q i h =
    (h.0, subst (λ (z : Option ℕ). Called p z (NoteVerdict p (note_given k s n)) (λ a. Unit) (writes (entry (note_given k s n))) r h.0 q) i h.1)

-- input whose tests all pass is good
pub passed : (ts : List (Bool × ℕ)) → Each (λ t. t.0 ≡ true) ts → first_failed ts ≡ None
passed [] e = refl
passed (t ∷ ts) e = ap (λ (b : Bool). cond b (first_failed ts) (Some t.1)) e.0 ∙ passed ts e.1
