-- What the tables promise is what a peer that stands on them owes.
use Rattle.std.proofs.Common.{◌≡◌, ℕ, Bool, true, false, cond, ◌⊎◌, List, [], ◌∷◌, Some, None, Ok, Err, Option, Result, sym, refl, ap, subst, inl, inr}
use Rattle.std.proofs.lemmas.List.{append-nil}
use Rattle.decline.specs.declared.Fault.{Fault}
use Rattle.decline.specs.Faults.{bare}
use Rattle.revision.specs.Ids.{Id}
use Rattle.revision.specs.Paths.{Path}
use Rattle.checkpoint.specs.Logs.{Note, enter}
use Rattle.peer.specs.Records.{Record, put}
use Rattle.peer.specs.Waiting.{after}
use Rattle.peer.specs.Peers.{Peer, Write, path, entry, changes, accept, wait, Moved, nothing, writes, declined, by_input, by_state}
use Rattle.peer.specs.Functions.{Function, log_write, path_write, input, Verdict, Call, note_given, path_given, PathVerdict, contradicted, full, fine, NoteVerdict}
use Rattle.peer.specs.Functions as F
use Rattle.peer.specs.Replies.{FaultOf, Replies, plain}
use Rattle.peer.proofs.Calls.{moved_refl}
use Rattle.tables.specs.declared.Tables.{Tables}
use Rattle.tables.specs.Tables.{record_of}
use Rattle.tables.specs.Room.{room_in}
use Rattle.tables.specs.Calls.{peer_on, applied, Writes}
use Rattle.memory.specs.State.{standing}

-- a call that is declined, with its whole fault
pub declined_still : (f : Function) (p : Peer) (e : Fault) (n : ℕ) → p.up ≡ true → e ≡ bare n → (input f ≡ Some n) ⊎ ((input f ≡ None) × Verdict f p (Some n)) → Call f p (declined e.number) p × FaultOf e.number e
declined_still f p e n u b r = subst (λ (x : Fault). Call f p (declined x.number) p × FaultOf x.number x) (sym b) (go r, inl refl)
  where
    go : (input f ≡ Some n) ⊎ ((input f ≡ None) × Verdict f p (Some n)) → Call f p (declined n) p
    go (inl i) = (nothing, by_input i refl (moved_refl p))
    go (inr v) = (nothing, by_state v.0 u v.1 refl (moved_refl p))

module _ (n s : ℕ) (t : Tables) where
  -- the verdicts do not hang on number and stamp
  path_verdict : (w : Path) (v : Option ℕ) → PathVerdict (peer_on t) w v → PathVerdict (standing n s t) w v
  path_verdict w v (contradicted c) = contradicted c
  path_verdict w v (F.PathVerdict.full c f) = F.PathVerdict.full c f
  path_verdict w v (F.PathVerdict.fine c f) = F.PathVerdict.fine c f

  note_verdict : (m : Note) (v : Option ℕ) → NoteVerdict (peer_on t) m v → NoteVerdict (standing n s t) m v
  note_verdict m v (F.NoteVerdict.full f) = F.NoteVerdict.full f
  note_verdict m v (F.NoteVerdict.fine f) = F.NoteVerdict.fine f

  -- what waited has moved, all of it
  all_moved : (ps : List Path) (ns : List Note) (u : Tables) → (record_of u).docs ≡ after put (record_of t).docs ps → (record_of u).logs ≡ after enter (record_of t).logs ns →
      Moved (record { number = n; stamp = s; up = true; standing = record_of t; paths = ps; notes = ns; room = room_in t }) (standing n s u)
  all_moved ps ns u d l = record {
    number = refl;
    stamp = refl;
    up = refl;
    docs = record { part = ps; whole = sym (append-nil ps); reach = d };
    logs = record { part = ns; whole = sym (append-nil ns); reach = l };
  }

  -- a write that is taken moves at once
  moved : (w : Write) (u : Tables) → record_of u ≡ applied w (record_of t) → Moved (accept w (standing n s t)) (standing n s u)
  moved (path w) u e = go (changes (path w) (record_of t)) (ap (λ (r : Record). r.docs) e) (ap (λ (r : Record). r.logs) e)
    where
      go : (b : Bool) → (record_of u).docs ≡ cond b (put w (record_of t).docs) (record_of t).docs → (record_of u).logs ≡ (record_of t).logs → Moved (cond b (wait (path w) (standing n s t)) (standing n s t)) (standing n s u)
      go true d l = all_moved (w ∷ []) [] u d l
      go false d l = all_moved [] [] u d l
  moved (entry m) u e = go (changes (entry m) (record_of t)) (ap (λ (r : Record). r.docs) e) (ap (λ (r : Record). r.logs) e)
    where
      go : (b : Bool) → (record_of u).docs ≡ (record_of t).docs → (record_of u).logs ≡ cond b (enter m (record_of t).logs) (record_of t).logs → Moved (cond b (wait (entry m) (standing n s t)) (standing n s t)) (standing n s u)
      go true d l = all_moved [] (m ∷ []) u d l
      go false d l = all_moved [] [] u d l

  pub log_replies : (k : List ℕ) (z q : ℕ) (r : Result Unit Fault) (u : Tables) → Writes (log_write k z q) plain (entry (note_given k z q)) t r u → Replies (log_write k z q) plain (standing n s t) r (standing n s u)
  log_replies k z q (Ok a) u ((i, v, w), e) =
      (writes (entry (note_given k z q)), (record { good = i; up = refl; accepted = note_verdict (note_given k z q) None v; counted = refl; effected = moved (entry (note_given k z q)) u e }, w))
  log_replies k z q (Err e) u (m, b, r, same) =
      subst (λ (x : Tables). Replies (log_write k z q) plain (standing n s t) (Err e) (standing n s x)) (sym same) (declined_still (log_write k z q) (standing n s t) e m refl b (go r))
    where
      go : (input (log_write k z q) ≡ Some m) ⊎ ((input (log_write k z q) ≡ None) × NoteVerdict (peer_on t) (note_given k z q) (Some m)) →
          (input (log_write k z q) ≡ Some m) ⊎ ((input (log_write k z q) ≡ None) × NoteVerdict (standing n s t) (note_given k z q) (Some m))
      go (inl i) = inl i
      go (inr (i, v)) = inr (i, note_verdict (note_given k z q) (Some m) v)

  pub path_replies : (id : Id) (g : ℕ) (ts : List ℕ) (k : ℕ) (b : List ℕ) (r : Result ℕ Fault) (u : Tables) → Writes (path_write id g ts k b) plain (path (path_given id g ts k b)) t r u →
      Replies (path_write id g ts k b) plain (standing n s t) r (standing n s u)
  path_replies id g ts k b (Ok a) u ((i, v, w), e) =
      (writes (path (path_given id g ts k b)), (record { good = i; up = refl; accepted = path_verdict (path_given id g ts k b) None v; counted = refl; effected = moved (path (path_given id g ts k b)) u e }, w))
  path_replies id g ts k b (Err e) u (m, c, r, same) =
      subst (λ (x : Tables). Replies (path_write id g ts k b) plain (standing n s t) (Err e) (standing n s x)) (sym same) (declined_still (path_write id g ts k b) (standing n s t) e m refl c (go r))
    where
      go : (input (path_write id g ts k b) ≡ Some m) ⊎ ((input (path_write id g ts k b) ≡ None) × PathVerdict (peer_on t) (path_given id g ts k b) (Some m)) →
          (input (path_write id g ts k b) ≡ Some m) ⊎ ((input (path_write id g ts k b) ≡ None) × PathVerdict (standing n s t) (path_given id g ts k b) (Some m))
      go (inl i) = inl i
      go (inr (i, v)) = inr (i, path_verdict (path_given id g ts k b) (Some m) v)
