-- Runs of two peers: calls, wakes, set-backs and the steps of any number of replications, one after the other, in any order. Each is taken by the very
-- relation that its contract promises, so power may fail in each, at the peer just called.
-- `Ok` says which paths are accepted in a run: the history premise is a condition on these.
use Rattle.std.specs.Prelude.{◌≡◌, ℕ, Bool, true, false, cond, not, ◌⊎◌, List, [], ◌∷◌, ◌==◌}
use Rattle.order.specs.Lists.{Mem, Each}
use Rattle.revision.specs.Ids.{Id}
use Rattle.revision.specs.Trees.{Tree}
use Rattle.revision.specs.Paths.{Path}
use Rattle.peer.specs.Records.{grow, Record, no_trees, blank}
use Rattle.peer.specs.Peers.{Peer, current, accept, Possible, path, entry, Effect, nothing, writes, commits, joined, Reply, answered, declined, paths_in}
use Rattle.peer.specs.Functions.{Function, Answer, effect, Calls, Wake}
use Rattle.law.specs.Replications.{Phase, ready, copied, secured, Replication, Outcome, done, stopped, Start, Turns, Secure, Recordings, Finish}

-- Worlds --------------------------------------------------------------------------------------------------------------

-- An open replication: the side of its source (the other side is its target), its numbers, and a journal that no code keeps: the target's trees at its
-- start, and the union of the paths that others got accepted there since.
pub record Open : Type 0 where
  pub source : Bool
  pub numbers : Replication
  pub own : Id → Tree
  pub others : Id → Tree

-- under a stamp no replication is open, or one
pub data Slot : Type 0 where
  idle : Slot
  running : Open → Slot

-- The two peers, on the sides true and false; records that each has had standing, or could have had; the replications by their stamps; and the stamps
-- accepted so far.
pub record World : Type 0 where
  pub peer : Bool → Peer
  pub past : Bool → List Record
  pub replications : ℕ → Slot
  pub stamps : List ℕ

-- a on side s and b on the other
abbrev pub sides : {A : Type 0} → Bool → A → A → Bool → A
sides true a b true = a
sides true a b false = b
sides false a b true = b
sides false a b false = a

-- the records that a peer has had standing grow by such as could stand in between
abbrev pub Grew : List Record → Peer → List Record → Type 0
Grew past p past' = (r : Record) → Mem r past' → Mem r past ⊎ Possible p r

-- What others wrote ---------------------------------------------------------------------------------------------------

-- whether the target of a replication whose source is on side s is on side t
abbrev pub towards : Bool → Bool → Bool
towards true true = false
towards true false = true
towards false true = true
towards false false = false

-- a replication notes a path that another got accepted on side t, if that is its target
abbrev pub hear : Bool → Path → Open → Open
hear t w r = record { source = r.source; numbers = r.numbers; own = r.own; others = cond (towards r.source t) (grow w r.others) r.others }

-- so does the replication under a stamp, if one is open
abbrev pub tell : Bool → Path → Slot → Slot
tell t w idle = idle
tell t w (running r) = running (hear t w r)

-- who wrote a path: a user, or the replication with a stamp
pub data Who : Type 0 where
  user : Who
  copier : ℕ → Who

-- all but the one who wrote it note a path
abbrev pub told : Who → Bool → Path → (ℕ → Slot) → ℕ → Slot
told user t w f s = tell t w (f s)
told (copier c) t w f s = cond (s == c) (f s) (tell t w (f s))

-- all but the one who wrote them note some paths
abbrev pub tolds : Who → Bool → List Path → (ℕ → Slot) → ℕ → Slot
tolds a t [] f = f
tolds a t (w ∷ ws) f = tolds a t ws (told a t w f)

-- The replications by their stamps ------------------------------------------------------------------------------------

-- another slot under the stamp s
abbrev pub assign : ℕ → Slot → (ℕ → Slot) → ℕ → Slot
assign s v f t = cond (t == s) v (f t)

-- a replication with new numbers
abbrev pub renew : Replication → Open → Open
renew m r = record { source = r.source; numbers = m; own = r.own; others = r.others }

-- a step that is done gives the replication new numbers; one that is stopped leaves it as it was
abbrev pub renewed : ℕ → Open → Outcome → (ℕ → Slot) → ℕ → Slot
renewed s r (done m) f = assign s (running (renew m r)) f
renewed s r (stopped n side c) f = f

-- a finish that is done closes the replication
abbrev pub closed : ℕ → Outcome → (ℕ → Slot) → ℕ → Slot
closed s (done m) f = assign s idle f
closed s (stopped n side c) f = f

-- a start that is done opens a replication, with the target's trees in its journal
abbrev pub opening : ℕ → Bool → (Id → Tree) → Outcome → (ℕ → Slot) → ℕ → Slot
opening s side own (done m) f = assign s (running (record { source = side; numbers = m; own = own; others = no_trees })) f
opening s side own (stopped n x c) f = f

-- Stamps --------------------------------------------------------------------------------------------------------------

-- The stamp premise: no stamp is accepted twice. One that is declined is not used up.
abbrev pub New : Bool → ℕ → List ℕ → Type 0
New true s st = Mem s st → ⊥
New false s st = Unit

-- the stamps accepted afterwards
abbrev pub spent : Bool → ℕ → List ℕ → List ℕ
spent true s st = s ∷ st
spent false s st = st

-- whether a step is done
abbrev pub is_done : Outcome → Bool
is_done (done m) = true
is_done (stopped n side c) = false

-- whether a call is answered
abbrev pub is_answered : {A : Type 0} → Reply A → Bool
is_answered (answered a) = true
is_answered (declined n) = false

-- Calls by others than replications ---------------------------------------------------------------------------------------

-- only record writes logs
abbrev pub NoEntry : Effect → Type 0
NoEntry nothing = Unit
NoEntry (writes (path w)) = Unit
NoEntry (writes (entry n)) = ⊥
NoEntry commits = Unit

-- A call of a function by others than replications. The replications towards that peer note a path that counts as accepted.
pub record CallStep (Ok : Path → Type 0) (w v : World) : Type 0 where
  pub side : Bool
  pub function : Function
  pub no_entry : NoEntry (effect function)
  pub reply : Reply (Answer function)
  pub counts : Effect
  pub peer : Peer
  pub calls : Calls function (w.peer side) reply counts peer
  pub ok : Each Ok (paths_in counts)
  pub past : List Record
  pub grew : Grew (w.past side) (joined counts (w.peer side)) past
  pub is : v ≡ record {
    peer = sides side peer (w.peer (not side));
    past = sides side past (w.past (not side));
    replications = tolds user side (paths_in counts) w.replications;
    stamps = w.stamps;
  }

-- a peer with a record given back: it stands, and both lists are empty
abbrev pub restored : Record → Peer → Peer
restored r p = record { number = p.number; stamp = p.stamp; up = p.up; standing = r; paths = []; notes = []; room = p.room }

-- A wake.
pub record WakeStep (w v : World) : Type 0 where
  pub side : Bool
  pub stamp : ℕ
  pub reply : Reply Unit
  pub new : New (is_answered reply) stamp w.stamps
  pub peer : Peer
  pub call : Wake stamp (w.peer side) reply peer
  pub past : List Record
  pub grew : Grew (w.past side) (w.peer side) past
  pub is : v ≡ record {
    peer = sides side peer (w.peer (not side));
    past = sides side past (w.past (not side));
    replications = w.replications;
    stamps = spent (is_answered reply) stamp w.stamps;
  }

-- A set-back gives a peer a record that it had standing earlier (trees and logs together), and wakes it.
pub record SetBack (w v : World) : Type 0 where
  pub side : Bool
  pub stamp : ℕ
  pub not_zero : stamp ≡ 0 → ⊥
  pub reply : Reply Unit
  pub new : New (is_answered reply) stamp w.stamps
  pub given : Record
  pub stood : Mem given (w.past side) ⊎ Possible (w.peer side) given
  pub peer : Peer
  pub call : Wake stamp (restored given (w.peer side)) reply peer
  pub past : List Record
  pub grew : Grew (w.past side) (w.peer side) past
  pub is : v ≡ record {
    peer = sides side peer (w.peer (not side));
    past = sides side past (w.past (not side));
    replications = w.replications;
    stamps = spent (is_answered reply) stamp w.stamps;
  }

-- Steps of the replication with stamp s -------------------------------------------------------------------------------------

-- After a step the source, on side x, is a and the target is b; the records that they have had standing grow by such as could stand on the way, where i and
-- j are the two peers before the step with all of its writes that count as accepted.
pub record Goes (x : Bool) (i j a b : Peer) (rep : ℕ → Slot) (stamps : List ℕ) (w v : World) : Type 0 where
  pub source_past : List Record
  pub target_past : List Record
  pub source_grew : Grew (w.past x) i source_past
  pub target_grew : Grew (w.past (not x)) j target_past
  pub is : v ≡ record { peer = sides x a b; past = sides x source_past target_past; replications = rep; stamps = stamps }

-- A start with this stamp and rule, from side x.
pub record StartStep (s : ℕ) (x : Bool) (rule : List ℕ) (o : Outcome) (w v : World) : Type 0 where
  pub new : New (is_done o) s w.stamps
  pub source : Peer
  pub target : Peer
  pub step : Start s rule (w.peer x) (w.peer (not x)) o source target
  pub goes : Goes x (w.peer x) (w.peer (not x)) source target
      (opening s x (current (w.peer (not x))).docs.tree o w.replications) (spent (is_done o) s w.stamps) w v

-- the replication with stamp s is open, in this phase
pub record Running (s : ℕ) (r : Open) (p : Phase) (w : World) : Type 0 where
  pub runs : w.replications s ≡ running r
  pub phase : r.numbers.phase ≡ p

-- the peer with paths that count as accepted
abbrev pub with_paths : List Path → Peer → Peer
with_paths [] p = p
with_paths (w ∷ ws) p = with_paths ws (accept (path w) p)

-- A turn. The other replications note its paths.
pub record TurnStep (Ok : Path → Type 0) (s : ℕ) (r : Open) (o : Outcome) (w v : World) : Type 0 where
  pub going : Running s r ready w
  pub memory : ℕ
  pub paths : List Path
  pub ok : Each Ok paths
  pub source : Peer
  pub target : Peer
  pub step : Turns r.numbers (w.peer r.source) (w.peer (not r.source)) memory paths o source target
  pub goes : Goes r.source (w.peer r.source) (with_paths paths (w.peer (not r.source))) source target
      (renewed s r o (tolds (copier s) (not r.source) paths w.replications)) w.stamps w v

-- A secure.
pub record SecureStep (s : ℕ) (r : Open) (o : Outcome) (w v : World) : Type 0 where
  pub going : Running s r copied w
  pub source : Peer
  pub target : Peer
  pub step : Secure r.numbers (w.peer r.source) (w.peer (not r.source)) o source target
  pub goes : Goes r.source (w.peer r.source) (w.peer (not r.source)) source target (renewed s r o w.replications) w.stamps w v

-- A record. Its log write counts at either side or not.
pub record RecordStep (s : ℕ) (r : Open) (o : Outcome) (w v : World) : Type 0 where
  pub going : Running s r secured w
  pub source : Peer
  pub target : Peer
  pub source_counts : Effect
  pub target_counts : Effect
  pub step : Recordings r.numbers (w.peer r.source) (w.peer (not r.source)) source_counts target_counts o source target
  pub goes : Goes r.source (joined source_counts (w.peer r.source)) (joined target_counts (w.peer (not r.source))) source target
      (renewed s r o w.replications) w.stamps w v

-- A finish.
pub record FinishStep (s : ℕ) (r : Open) (o : Outcome) (w v : World) : Type 0 where
  pub going : Running s r ready w
  pub source : Peer
  pub target : Peer
  pub step : Finish r.numbers (w.peer r.source) (w.peer (not r.source)) o source target
  pub goes : Goes r.source (w.peer r.source) (w.peer (not r.source)) source target (closed s o w.replications) w.stamps w v

-- An abandon closes the replication, whatever its phase, and is never declined.
pub record AbandonStep (s : ℕ) (w v : World) : Type 0 where
  pub is : v ≡ record { peer = w.peer; past = w.past; replications = assign s idle w.replications; stamps = w.stamps }

-- A step of the replication with stamp s.
pub data StepOf (Ok : Path → Type 0) (s : ℕ) (w v : World) : Type 0 where
  start : (side : Bool) (rule : List ℕ) (o : Outcome) → StartStep s side rule o w v → StepOf Ok s w v
  turn : (r : Open) (o : Outcome) → TurnStep Ok s r o w v → StepOf Ok s w v
  secure : (r : Open) (o : Outcome) → SecureStep s r o w v → StepOf Ok s w v
  recording : (r : Open) (o : Outcome) → RecordStep s r o w v → StepOf Ok s w v
  finish : (r : Open) (o : Outcome) → FinishStep s r o w v → StepOf Ok s w v
  abandon : AbandonStep s w v → StepOf Ok s w v

-- Runs ------------------------------------------------------------------------------------------------------------------

-- One step of a run.
pub data Step (Ok : Path → Type 0) (w v : World) : Type 0 where
  call : CallStep Ok w v → Step Ok w v
  wake : WakeStep w v → Step Ok w v
  set_back : SetBack w v → Step Ok w v
  of : (s : ℕ) → StepOf Ok s w v → Step Ok w v

-- Two new peers: their records and lists are empty, no replication is open, and the start stamps that they were made with count as accepted.
pub record Fresh (w : World) : Type 0 where
  pub standing : (p : Bool) → (w.peer p).standing ≡ blank
  pub paths : (p : Bool) → (w.peer p).paths ≡ []
  pub notes : (p : Bool) → (w.peer p).notes ≡ []
  pub past : (p : Bool) → w.past p ≡ []
  pub stamp : (p : Bool) → Mem (w.peer p).stamp w.stamps
  pub none_open : (s : ℕ) → w.replications s ≡ idle

-- A run, up to a world.
pub data Run (Ok : Path → Type 0) : World → Type 0 where
  new : (w : World) → Fresh w → Run Ok w
  next : (w v : World) → Run Ok w → Step Ok w v → Run Ok v

-- A part of a run in which only the replication with stamp s takes steps.
pub data Only (Ok : Path → Type 0) (s : ℕ) (w : World) : World → Type 0 where
  here : Only Ok s w w
  then : (u v : World) → Only Ok s w u → StepOf Ok s u v → Only Ok s w v
