-- A site is a peer with what it has had standing: what the invariant speaks of.
use Rattle.std.proofs.Common.{◌≡◌, ℕ, ◌≤◌, Bool, true, false, cond, not, ◌⊎◌, List, [], ◌∷◌, ◌++◌, refl, ap, ◌∙◌, arith}
use Rattle.order.specs.Lists.{Mem}
use Rattle.peer.specs.Waiting.{after, Stage}
use Rattle.revision.specs.Paths.{Path, at_last}
use Rattle.revision.specs.Trees.{held, Node, level}
use Rattle.keys.specs.Keys.{Key}
use Rattle.checkpoint.specs.Logs.{Logs, Note, enter}
use Rattle.peer.specs.Records.{Documents, put, Record}
use Rattle.peer.specs.Peers.{Peer, path, current, changes}
use Rattle.peer.specs.Peers as S
use Rattle.law.specs.Runs.{Open, with_paths}
use Rattle.revision.proofs.Places.{held_level, absent_level}

pub record Site : Type 0 where
  pub number : ℕ
  pub stamp : ℕ
  pub up : Bool
  pub docs : Documents
  pub log : Logs
  pub paths : List Path
  pub notes : List Note
  pub past : List Record

abbrev pub site : Peer → List Record → Site
site p k = record { number = p.number; stamp = p.stamp; up = p.up; docs = p.standing.docs; log = p.standing.logs; paths = p.paths; notes = p.notes; past = k }

-- the current record, in two parts
abbrev pub now : Site → Documents
now p = after put p.docs p.paths

abbrev pub log_now : Site → Logs
log_now p = after enter p.log p.notes

-- what would stand if a first part of either list moved, and what has stood
abbrev pub Possible : Site → Documents → Logs → Type 0
Possible p x l = Stage put p.docs p.paths x × Stage enter p.log p.notes l

abbrev pub both : Documents → Logs → Record
both x l = record { docs = x; logs = l }

abbrev pub Had : Site → Documents → Logs → Type 0
Had p x l = Possible p x l ⊎ Mem (both x l) p.past

abbrev pub wait : Path → Site → Site
wait w p = record { number = p.number; stamp = p.stamp; up = p.up; docs = p.docs; log = p.log; paths = p.paths ++ (w ∷ []); notes = p.notes; past = p.past }

abbrev pub note : Note → Site → Site
note n p = record { number = p.number; stamp = p.stamp; up = p.up; docs = p.docs; log = p.log; paths = p.paths; notes = p.notes ++ (n ∷ []); past = p.past }

-- whether a path's last revision is not held
abbrev pub lacks : Path → Site → Bool
lacks w p = not (held (at_last ((now p).tree w.doc) w))

abbrev pub accept : Path → Site → Site
accept w p = cond (lacks w p) (wait w p) p

abbrev pub accepts : List Path → Site → Site
accepts [] p = p
accepts (w ∷ ws) p = accepts ws (accept w p)

-- in the words of levels
pub lacks_none : (n : Node) → not (held n) ≡ true → level n ≡ 0
lacks_none n e = go (held n) refl e
  where
    go : (b : Bool) → held n ≡ b → not b ≡ true → level n ≡ 0
    go true f e = absurd (let z : ◌≡◌ {A = ℕ} 0 1 = cc in omega arith)
    go false f e = absent_level n f

pub lacks_some : (n : Node) → not (held n) ≡ false → 1 ≤ level n
lacks_some n e = go (held n) refl e
  where
    go : (b : Bool) → held n ≡ b → not b ≡ false → 1 ≤ level n
    go true f e = held_level n f
    go false f e = absurd (let z : ◌≡◌ {A = ℕ} 0 1 = cc in omega arith)

pub site_accepts : (ws : List Path) (p : Peer) (k : List Record) → accepts ws (site p k) ≡ site (with_paths ws p) k
site_accepts [] p k = refl
site_accepts (w ∷ ws) p k = ap (accepts ws) (go (changes (path w) (current p))) ∙ site_accepts ws (S.accept (path w) p) k
  where
    go : (b : Bool) → cond b (wait w (site p k)) (site p k) ≡ site (cond b (S.wait (path w) p) p) k
    go true = refl
    go false = refl

abbrev pub key_of : Site → Site → List ℕ → Key
key_of a b rule = record { source = a.number; target = b.number; rule = rule }

-- both are up with the start stamps that the replication noted
pub record Live (a b : Site) (r : Open) : Type 0 where
  pub source_up : a.up ≡ true
  pub source_stamp : a.stamp ≡ r.numbers.source_stamp
  pub target_up : b.up ≡ true
  pub target_stamp : b.stamp ≡ r.numbers.target_stamp

-- the entry that a record writes
abbrev pub entry_at : ℕ → Open → Site → Site → Note
entry_at s r a b = record { key = key_of a b r.numbers.rule; stamp = s; position = r.numbers.position }
