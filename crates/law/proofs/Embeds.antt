-- What the contracts promise is a step of a run: each call, wake, set-back and step of a replication, from any world in which it can be taken. The records that
-- a peer has had standing may grow by any that could stand on the way, so a run can remember whatever stood.
use Rattle.std.proofs.Common.{◌≡◌, ℕ, Bool, true, false, not, ◌⊎◌, List, ◌∷◌, sym, refl, subst, inl, inr}
use Rattle.order.specs.Lists.{Mem, Each}
use Rattle.revision.specs.Paths.{Path}
use Rattle.checkpoint.specs.Logs.{enter}
use Rattle.peer.specs.Records.{put, Record}
use Rattle.peer.specs.Peers.{Peer, Possible, Effect, paths_in, joined, Reply}
use Rattle.peer.specs.Functions.{Function, Answer, effect, Calls, Wake}
use Rattle.peer.proofs.Waiting.{stage_first, shift_stage}
use Rattle.peer.proofs.Calls.{Ends}
use Rattle.law.specs.Replications.{ready, copied, secured, Outcome, Start, Turns, Secure, Recordings, Finish}
use Rattle.law.specs.Runs.{Open, Slot, World, sides, Grew, Goes, New, is_done, is_answered, NoEntry, restored, Running, with_paths, start, turn, secure, recording, finish, Step, call, wake, set_back, of}

-- a step leads from a world to one with these peers, a on side x, and these records that they have had standing
pub record Leads (Ok : Path → Type 0) (w : World) (x : Bool) (a b : Peer) (k l : List Record) : Type 0 where
  pub world : World
  pub step : Step Ok w world
  pub here : world.peer x ≡ a
  pub there : world.peer (not x) ≡ b
  pub past_here : world.past x ≡ k
  pub past_there : world.past (not x) ≡ l

-- Records that may be remembered ----------------------------------------------------------------------------------------

pub grew_none : (k : List Record) (p : Peer) → Grew k p k
grew_none k p r m = inl m

pub grew_one : (k : List Record) (p : Peer) (r : Record) → Possible p r → Grew k p (r ∷ k)
grew_one k p r h z (inl e) = inr (subst (λ (y : Record). Possible p y) (sym e) h)
grew_one k p r h z (inr m) = inl m

-- the record that stands before a call, and the one that stands after it
pub stood : (p : Peer) → Possible p p.standing
stood p = (stage_first put p.standing.docs p.paths, stage_first enter p.standing.logs p.notes)

pub stands : (p q : Peer) → Ends p q → Possible p q.standing
stands p q (inl m) = (shift_stage put m.docs q.standing.docs (stood q).0, shift_stage enter m.logs q.standing.logs (stood q).1)
stands p q (inr f) = f.standing

-- Steps -------------------------------------------------------------------------------------------------------------------

sides_here : {A : Type 0} (x : Bool) (a b : A) → sides x a b x ≡ a
sides_here true a b = refl
sides_here false a b = refl

sides_there : {A : Type 0} (x : Bool) (a b : A) → sides x a b (not x) ≡ b
sides_there true a b = refl
sides_there false a b = refl

-- the world with these peers and these records
abbrev then : Bool → Peer → Peer → List Record → List Record → (ℕ → Slot) → List ℕ → World
then x a b k l f st = record { peer = sides x a b; past = sides x k l; replications = f; stamps = st }

leads : {Ok : Path → Type 0} {w : World} (x : Bool) (a b : Peer) (k l : List Record) (f : ℕ → Slot) (st : List ℕ) → Step Ok w (then x a b k l f st) → Leads Ok w x a b k l
leads x a b k l f st h = record {
  world = then x a b k l f st;
  step = h;
  here = sides_here x a b;
  there = sides_there x a b;
  past_here = sides_here x k l;
  past_there = sides_there x k l;
}

goes : (x : Bool) (i j a b : Peer) (k l : List Record) (f : ℕ → Slot) (st : List ℕ) (w : World) → Grew (w.past x) i k → Grew (w.past (not x)) j l → Goes x i j a b f st w (then x a b k l f st)
goes x i j a b k l f st w g h = record { source_past = k; target_past = l; source_grew = g; target_grew = h; is = refl }

module _ (Ok : Path → Type 0) (w : World) (x : Bool) where
  pub call_embeds : (f : Function) (r : Reply (Answer f)) (c : Effect) (a : Peer) (k : List Record) → NoEntry (effect f) → Each Ok (paths_in c) → Calls f (w.peer x) r c a → Grew (w.past x) (joined c (w.peer x)) k →
      Leads Ok w x a (w.peer (not x)) k (w.past (not x))
  call_embeds f r c a k n o h g = leads x a (w.peer (not x)) k (w.past (not x)) _ _
      (call (record { side = x; function = f; no_entry = n; reply = r; counts = c; peer = a; calls = h; ok = o; past = k; grew = g; is = refl }))

  pub wake_embeds : (s : ℕ) (r : Reply Unit) (a : Peer) (k : List Record) → New (is_answered r) s w.stamps → Wake s (w.peer x) r a → Grew (w.past x) (w.peer x) k → Leads Ok w x a (w.peer (not x)) k (w.past (not x))
  wake_embeds s r a k n h g = leads x a (w.peer (not x)) k (w.past (not x)) _ _ (wake (record { side = x; stamp = s; reply = r; new = n; peer = a; call = h; past = k; grew = g; is = refl }))

  pub set_back_embeds : (s : ℕ) (r : Reply Unit) (z : Record) (a : Peer) (k : List Record) → (s ≡ 0 → ⊥) → New (is_answered r) s w.stamps → Mem z (w.past x) ⊎ Possible (w.peer x) z → Wake s (restored z (w.peer x)) r a →
      Grew (w.past x) (w.peer x) k → Leads Ok w x a (w.peer (not x)) k (w.past (not x))
  set_back_embeds s r z a k e n m h g = leads x a (w.peer (not x)) k (w.past (not x)) _ _
      (set_back (record { side = x; stamp = s; not_zero = e; reply = r; new = n; given = z; stood = m; peer = a; call = h; past = k; grew = g; is = refl }))

  pub start_embeds : (s : ℕ) (rule : List ℕ) (o : Outcome) (a b : Peer) (k l : List Record) → New (is_done o) s w.stamps → Start s rule (w.peer x) (w.peer (not x)) o a b → Grew (w.past x) (w.peer x) k → Grew (w.past (not x)) (w.peer (not x)) l → Leads Ok w x a b k l
  start_embeds s rule o a b k l n h g i = leads x a b k l _ _ (of s (start x rule o (record { new = n; source = a; target = b; step = h; goes = goes x _ _ a b k l _ _ w g i })))

module _ (Ok : Path → Type 0) (w : World) (s : ℕ) (r : Open) (o : Outcome) (a b : Peer) (k l : List Record) where
  pub turn_embeds : Running s r ready w → (memory : ℕ) (ws : List Path) → Each Ok ws → Turns r.numbers (w.peer r.source) (w.peer (not r.source)) memory ws o a b → Grew (w.past r.source) (w.peer r.source) k → Grew (w.past (not r.source)) (with_paths ws (w.peer (not r.source))) l → Leads Ok w r.source a b k l
  turn_embeds u m ws e h g i = leads r.source a b k l _ _ (of s (turn r o (record { going = u; memory = m; paths = ws; ok = e; source = a; target = b; step = h; goes = goes r.source _ _ a b k l _ _ w g i })))

  pub secure_embeds : Running s r copied w → Secure r.numbers (w.peer r.source) (w.peer (not r.source)) o a b → Grew (w.past r.source) (w.peer r.source) k → Grew (w.past (not r.source)) (w.peer (not r.source)) l → Leads Ok w r.source a b k l
  secure_embeds u h g i = leads r.source a b k l _ _ (of s (secure r o (record { going = u; source = a; target = b; step = h; goes = goes r.source _ _ a b k l _ _ w g i })))

  pub record_embeds : Running s r secured w → (c d : Effect) → Recordings r.numbers (w.peer r.source) (w.peer (not r.source)) c d o a b → Grew (w.past r.source) (joined c (w.peer r.source)) k → Grew (w.past (not r.source)) (joined d (w.peer (not r.source))) l → Leads Ok w r.source a b k l
  record_embeds u c d h g i = leads r.source a b k l _ _
      (of s (recording r o (record { going = u; source = a; target = b; source_counts = c; target_counts = d; step = h; goes = goes r.source _ _ a b k l _ _ w g i })))

  pub finish_embeds : Running s r ready w → Finish r.numbers (w.peer r.source) (w.peer (not r.source)) o a b → Grew (w.past r.source) (w.peer r.source) k → Grew (w.past (not r.source)) (w.peer (not r.source)) l → Leads Ok w r.source a b k l
  finish_embeds u h g i = leads r.source a b k l _ _ (of s (finish r o (record { going = u; source = a; target = b; step = h; goes = goes r.source _ _ a b k l _ _ w g i })))
