-- The invariant of runs, and what keeps it: a peer that stays as it is but for what has moved, and one that goes down or restarts.
use Rattle.std.proofs.Common.{◌≡◌, ℕ, min, Bool, true, false, not, ◌⊎◌, List, ◌∷◌, sym, refl, ◌∙◌, subst, inl, inr, arith}
use Rattle.order.specs.Lists.{Mem}
use Rattle.peer.specs.Waiting.{Stage}
use Rattle.revision.specs.Ids.{Id}
use Rattle.revision.specs.Trees.{union}
use Rattle.keys.specs.Keys.{passes, Key}
use Rattle.checkpoint.specs.Logs.{Logs}
use Rattle.peer.specs.Records.{Documents, put}
use Rattle.law.specs.Replications.{secured}
use Rattle.law.specs.Runs.{Open, Slot, running}
use Rattle.law.specs.Laws.{sent}
use Rattle.revision.proofs.Places.{Below, Agrees}
use Rattle.law.proofs.Sites.{Site, now, Had, key_of, Live}
use Rattle.law.proofs.Sound.{Histories, DocumentsGood, Sound}

-- The invariant -----------------------------------------------------------------------------------------------------

-- documents that would stand if a first part of the waiting paths moved
abbrev pub DocumentsStage : Site → Documents → Type 0
DocumentsStage a x = Stage put a.docs a.paths x

-- Whatever two records the peers have had or could have standing: what their logs say of a common stamp is sound.
abbrev pub LogsSound : Site → Site → Type 0
LogsSound a b = (rule : List ℕ) (s p q : ℕ) (x : Documents) (l : Logs) (y : Documents) (m : Logs) → Had a x l → Had b y m →
    Mem (s, p) (l (key_of a b rule)) → Mem (s, q) (m (key_of a b rule)) → Sound rule (min p q) x y

-- Of an open replication from a to b, while both have the start stamps that it noted: its position is sound now; once it is secured, also between all documents
-- that could stand; what either log says of its stamp is sound; and the target holds its own trees, those of others, and no more than these and the source's.
pub record Conditions (H : Histories) (a b : Site) (s : ℕ) (r : Open) : Type 0 where
  pub current : Sound r.numbers.rule r.numbers.position (now a) (now b)
  pub standing : r.numbers.phase ≡ secured → (x y : Documents) → DocumentsStage a x → DocumentsStage b y → Sound r.numbers.rule r.numbers.position x y
  pub theirs : (q : ℕ) (x : Documents) (y : Documents) (m : Logs) → DocumentsStage a x → Had b y m → Mem (s, q) (m (key_of a b r.numbers.rule)) → Sound r.numbers.rule q x y
  pub ours : (p : ℕ) (x : Documents) (l : Logs) (y : Documents) → Had a x l → DocumentsStage b y → Mem (s, p) (l (key_of a b r.numbers.rule)) → Sound r.numbers.rule p x y
  pub own_agrees : (d : Id) → Agrees (H d) (r.own d)
  pub others_agrees : (d : Id) → Agrees (H d) (r.others d)
  pub own_held : (d : Id) → Below (r.own d) ((now b).tree d)
  pub others_held : (d : Id) → Below (r.others d) ((now b).tree d)
  pub all : (d : Id) → Below ((now b).tree d) (union (union (r.own d) (r.others d)) (sent (passes r.numbers.rule d) ((now a).tree d)))

-- so of each open replication
pub record ReplicationInvariant (H : Histories) (a b : Site) (s : ℕ) (r : Open) : Type 0 where
  pub no_twin : a.number ≡ b.number → ⊥
  pub conds : Live a b r → Conditions H a b s r

-- so of each open replication with its source on one side
abbrev pub Direction : Histories → Bool → Site → Site → (ℕ → Slot) → Type 0
Direction H side a b rep = (s : ℕ) (r : Open) → rep s ≡ running r → r.source ≡ side → ReplicationInvariant H a b s r

-- whatever a peer has had or could have standing keeps to the histories, and its logs have accepted stamps only; so has the peer itself
pub record OnePeer (H : Histories) (a : Site) (st : List ℕ) : Type 0 where
  pub ok : (x : Documents) (l : Logs) → Had a x l → DocumentsGood H x
  pub fresh : (x : Documents) (l : Logs) (k : Key) (s p : ℕ) → Had a x l → Mem (s, p) (l k) → Mem s st
  pub stamp : Mem a.stamp st

-- an open replication has its own stamp, and it and the start stamps that it noted are accepted ones
pub record Noted (rep : ℕ → Slot) (st : List ℕ) (s : ℕ) (r : Open) : Type 0 where
  pub name : r.numbers.stamp ≡ s
  pub self : Mem s st
  pub from : Mem r.numbers.source_stamp st
  pub to : Mem r.numbers.target_stamp st

-- all of this, both ways
pub record Invariant (H : Histories) (side : Bool) (a b : Site) (rep : ℕ → Slot) (st : List ℕ) : Type 0 where
  pub one : OnePeer H a st
  pub two : OnePeer H b st
  pub logs_forth : LogsSound a b
  pub logs_back : LogsSound b a
  pub open_forth : Direction H side a b rep
  pub open_back : Direction H (not side) b a rep
  pub noted : (s : ℕ) (r : Open) → rep s ≡ running r → Noted rep st s r

not_not : (s : Bool) → not (not s) ≡ s
not_not true = refl
not_not false = refl

-- the same, seen from the other side
pub swap : (H : Histories) (side : Bool) (a b : Site) (rep : ℕ → Slot) (st : List ℕ) → Invariant H side a b rep st → Invariant H (not side) b a rep st
swap H side a b rep st i = record { one = i.two; two = i.one; logs_forth = i.logs_back; logs_back = i.logs_forth; open_forth = i.open_back; open_back = λ s r e f. i.open_forth s r e (f ∙ not_not side); noted = i.noted }

-- What keeps a peer as it is, but for what has moved ------------------------------------------------------------------

pub record Quiet (a c : Site) : Type 0 where
  pub number : c.number ≡ a.number
  pub stamp : c.stamp ≡ a.stamp
  pub up : c.up ≡ a.up
  pub same_now : now c ≡ now a
  pub stages : (x : Documents) → DocumentsStage c x → DocumentsStage a x
  pub had : (x : Documents) (l : Logs) → Had c x l → Had a x l

pub quiet_refl : (a : Site) → Quiet a a
quiet_refl a = record { number = refl; stamp = refl; up = refl; same_now = refl; stages = λ x h. h; had = λ x l h. h }

same_keys : (a b c d : Site) (rule : List ℕ) → c.number ≡ a.number → d.number ≡ b.number → key_of c d rule ≡ key_of a b rule
same_keys a b c d rule e f = λ i. record { source = e i; target = f i; rule = rule }

main_shrink : (a b c d : Site) → c.number ≡ a.number → d.number ≡ b.number → ((x : Documents) (l : Logs) → Had c x l → Had a x l) → ((x : Documents) (l : Logs) → Had d x l → Had b x l) → LogsSound a b → LogsSound c d
main_shrink a b c d e f h k m rule s p q x l y n hx hy i j =
    m rule s p q x l y n (h x l hx) (k y n hy)
    (subst (λ (t : Key). Mem (s, p) (l t)) (same_keys a b c d rule e f) i)
    (subst (λ (t : Key). Mem (s, q) (n t)) (same_keys a b c d rule e f) j)

live_quiet : (a b c d : Site) (r : Open) → Quiet a c → Quiet b d → Live c d r → Live a b r
live_quiet a b c d r h k v = record {
  source_up = sym h.up ∙ v.source_up;
  source_stamp = sym h.stamp ∙ v.source_stamp;
  target_up = sym k.up ∙ v.target_up;
  target_stamp = sym k.stamp ∙ v.target_stamp;
}

pub conds_quiet : (H : Histories) (a b c d : Site) (s : ℕ) (r : Open) → Quiet a c → Quiet b d → Conditions H a b s r → Conditions H c d s r
conds_quiet H a b c d s r h k v = record {
  current = subst (λ (x : Documents). Sound r.numbers.rule r.numbers.position x (now d)) (sym h.same_now) (subst (λ (y : Documents). Sound r.numbers.rule r.numbers.position (now a) y) (sym k.same_now) v.current);
  standing = λ e x y i j. v.standing e x y (h.stages x i) (k.stages y j);
  theirs = λ q x y m i j n. v.theirs q x y m (h.stages x i) (k.had y m j) (subst (λ (t : Key). Mem (s, q) (m t)) (same_keys a b c d r.numbers.rule h.number k.number) n);
  ours = λ p x l y i j n. v.ours p x l y (h.had x l i) (k.stages y j) (subst (λ (t : Key). Mem (s, p) (l t)) (same_keys a b c d r.numbers.rule h.number k.number) n);
  own_agrees = v.own_agrees;
  others_agrees = v.others_agrees;
  own_held = λ d₁. subst (λ (y : Documents). Below (r.own d₁) (y.tree d₁)) (sym k.same_now) (v.own_held d₁);
  others_held = λ d₁. subst (λ (y : Documents). Below (r.others d₁) (y.tree d₁)) (sym k.same_now) (v.others_held d₁);
  all = λ d₁. subst (λ (x : Documents). Below ((now d).tree d₁) (union (union (r.own d₁) (r.others d₁)) (sent (passes r.numbers.rule d₁) (x.tree d₁)))) (sym h.same_now)
      (subst (λ (y : Documents). Below (y.tree d₁) (union (union (r.own d₁) (r.others d₁)) (sent (passes r.numbers.rule d₁) ((now a).tree d₁)))) (sym k.same_now) (v.all d₁));
}

rep_quiet : (H : Histories) (a b c d : Site) (s : ℕ) (r : Open) → Quiet a c → Quiet b d → ReplicationInvariant H a b s r → ReplicationInvariant H c d s r
rep_quiet H a b c d s r h k v = record {
  no_twin = λ e. v.no_twin (sym h.number ∙ (e ∙ k.number));
  conds = λ l. conds_quiet H a b c d s r h k (v.conds (live_quiet a b c d r h k l));
}

single_quiet : (H : Histories) (a c : Site) (st : List ℕ) → Quiet a c → OnePeer H a st → OnePeer H c st
single_quiet H a c st h v = record {
  ok = λ x l i. v.ok x l (h.had x l i);
  fresh = λ x l k s p i m. v.fresh x l k s p (h.had x l i) m;
  stamp = subst (λ (t : ℕ). Mem t st) (sym h.stamp) v.stamp;
}

pub inv_quiet : (H : Histories) (side : Bool) (a b c d : Site) (rep : ℕ → Slot) (st : List ℕ) → Quiet a c → Quiet b d → Invariant H side a b rep st → Invariant H side c d rep st
inv_quiet H side a b c d rep st h k i = record {
  one = single_quiet H a c st h i.one;
  two = single_quiet H b d st k i.two;
  logs_forth = main_shrink a b c d h.number k.number h.had k.had i.logs_forth;
  logs_back = main_shrink b a d c k.number h.number k.had h.had i.logs_back;
  open_forth = λ s r e f. rep_quiet H a b c d s r h k (i.open_forth s r e f);
  open_back = λ s r e f. rep_quiet H b a d c s r k h (i.open_back s r e f);
  noted = i.noted;
}

-- What restarts a peer, or leaves it down -----------------------------------------------------------------------------

pub record Drop (st : List ℕ) (a c : Site) : Type 0 where
  pub number : c.number ≡ a.number
  pub had : (x : Documents) (l : Logs) → Had c x l → Had a x l
  pub dead : (c.up ≡ false) ⊎ (Mem c.stamp st → ⊥)

no_true : {A : Type 0} (b : Bool) → b ≡ false → b ≡ true → A
no_true b e f = absurd (let z : ◌≡◌ {A = ℕ} 0 1 = go b e f in omega arith)
  where
    go : (b : Bool) → b ≡ false → b ≡ true → ◌≡◌ {A = ℕ} 0 1
    go b e f = cc

pub inv_stamps : (H : Histories) (side : Bool) (a b : Site) (rep : ℕ → Slot) (st : List ℕ) (n : ℕ) → Invariant H side a b rep st → Invariant H side a b rep (n ∷ st)
inv_stamps H side a b rep st n i = record {
  one = record { ok = i.one.ok; fresh = λ x l k s p h m. inr (i.one.fresh x l k s p h m); stamp = inr i.one.stamp };
  two = record { ok = i.two.ok; fresh = λ x l k s p h m. inr (i.two.fresh x l k s p h m); stamp = inr i.two.stamp };
  logs_forth = i.logs_forth;
  logs_back = i.logs_back;
  open_forth = i.open_forth;
  open_back = i.open_back;
  noted = λ s r e. record { name = (i.noted s r e).name; self = inr (i.noted s r e).self; from = inr (i.noted s r e).from; to = inr (i.noted s r e).to };
}

-- st: the stamps before; after it the peer's stamp is among su, which has those of st
pub inv_drop : (H : Histories) (side : Bool) (a b c : Site) (rep : ℕ → Slot) (st su : List ℕ) → ((n : ℕ) → Mem n st → Mem n su) → Mem c.stamp su → Drop st a c → Invariant H side a b rep st → Invariant H side c b rep su
inv_drop H side a b c rep st su g t h i = record {
  one = record { ok = λ x l k. i.one.ok x l (h.had x l k); fresh = λ x l k s p v m. g s (i.one.fresh x l k s p (h.had x l v) m); stamp = t };
  two = record { ok = i.two.ok; fresh = λ x l k s p v m. g s (i.two.fresh x l k s p v m); stamp = g b.stamp i.two.stamp };
  logs_forth = main_shrink a b c b h.number refl h.had (λ x l k. k) i.logs_forth;
  logs_back = main_shrink b a b c refl h.number (λ x l k. k) h.had i.logs_back;
  open_forth = λ s r e f. record { no_twin = λ q. (i.open_forth s r e f).no_twin (sym h.number ∙ q); conds = λ v. dead1 s r e h.dead v };
  open_back = λ s r e f. record { no_twin = λ q. (i.open_back s r e f).no_twin (q ∙ h.number); conds = λ v. dead2 s r e h.dead v };
  noted = λ s r e. record { name = (i.noted s r e).name; self = g s (i.noted s r e).self; from = g r.numbers.source_stamp (i.noted s r e).from; to = g r.numbers.target_stamp (i.noted s r e).to };
}
  where
    dead1 : (s : ℕ) (r : Open) → rep s ≡ running r → (c.up ≡ false) ⊎ (Mem c.stamp st → ⊥) → Live c b r → Conditions H c b s r
    dead1 s r e (inl d) v = no_true c.up d v.source_up
    dead1 s r e (inr d) v = absurd (d (subst (λ (n : ℕ). Mem n st) (sym v.source_stamp) (i.noted s r e).from))

    dead2 : (s : ℕ) (r : Open) → rep s ≡ running r → (c.up ≡ false) ⊎ (Mem c.stamp st → ⊥) → Live b c r → Conditions H b c s r
    dead2 s r e (inl d) v = no_true c.up d v.target_up
    dead2 s r e (inr d) v = absurd (d (subst (λ (n : ℕ). Mem n st) (sym v.target_stamp) (i.noted s r e).to))
