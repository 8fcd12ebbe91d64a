-- A run in which replications copy and finish, both ways, and one resumes.
use Rattle.std.proofs.Common.{◌≡◌, ℕ, zero, suc, ◌≤◌, min, Bool, true, false, cond, eqb, List, [], ◌∷◌, length, Some, None, sym, refl, ap, subst, inl, inr, arith}
use Rattle.std.proofs.lemmas.Bool.{eqb-true}
use Rattle.order.specs.Lists.{Mem, same}
use Rattle.octets.specs.BigEndian.{in_bytes}
use Rattle.revision.specs.Ids.{Id}
use Rattle.revision.specs.Trees.{Content, Node, absent, inner, head, Tree, content_at, Compatible}
use Rattle.revision.specs.Paths.{Path, path_tree}
use Rattle.revision.specs.Heads.{Head, Heads}
use Rattle.checkpoint.specs.Logs.{Note, enter}
use Rattle.peer.specs.Records.{put, Record, blank, no_documents, no_trees, no_entries, Row}
use Rattle.peer.specs.Peers.{Peer, path, entry, current, wait, Moved, Committed, writes, answered}
use Rattle.peer.specs.Functions.{PathWrite, fine, Room, LogWrite, path_write}
use Rattle.law.specs.Replications.{ready, secured, Replication, done, opened, turned, in_phase, entry_of, Live, Through}
use Rattle.law.specs.Runs.{Open, idle, running, World, sides, Grew, copier, tolds, assign, renew, opening, Run, new, next, call, of, StepOf, start, turn, secure, recording, finish, StartStep, FinishStep, Only, here, then}
use Rattle.law.specs.Laws.{Agreeing}
use Rattle.law.specs.Happens.{Happens}
use Rattle.revision.proofs.Heads.{heads_unique}
use Rattle.peer.proofs.Calls.{moved_refl}
use Rattle.law.proofs.Finished.{only_run}

abbrev c0 : Content
c0 = record { mark = 0; body = [] }

abbrev P : Path
P = record { doc = 97 ∷ []; tags = 5 ∷ []; content = c0 }

abbrev h0 : Head
h0 = record { generation = 1; tag = 5; content = c0 }

comp_self : (n : Node) → Compatible n n
comp_self absent = tt
comp_self (inner p) = refl
comp_self (head p c) = (refl, refl)

agree : Agreeing (P ∷ [])
agree = go
  where
    go : (p q : Path) → Mem p (P ∷ []) → Mem q (P ∷ []) → p.doc ≡ q.doc → (g x : ℕ) → Compatible (path_tree p g x) (path_tree q g x)
    go p q (inl e) (inl f) d g x =
        subst (λ (k : Path). Compatible (path_tree k g x) (path_tree q g x)) (sym e) (subst (λ (k : Path). Compatible (path_tree P g x) (path_tree k g x)) (sym f) (comp_self (path_tree P g x)))
    go p q (inl e) (inr f) d g x = absurd f
    go p q (inr e) f d g x = absurd e

some_same : (a b : Content) → Some a ≡ Some b → a ≡ b
some_same a b e = cc

-- the one head of the path alone
abbrev one : Tree
one = (put P no_documents).tree (97 ∷ [])

heads_P : Heads one (h0 ∷ [])
heads_P = record { order = tt; only = only; all = λ h e. all h.generation h.tag h.content e }
  where
    only : (h : Head) → Mem h (h0 ∷ []) → content_at (one h.generation h.tag) ≡ Some h.content
    only h (inl e) = subst (λ (k : Head). content_at (one k.generation k.tag) ≡ Some k.content) (sym e) refl
    only h (inr m) = absurd m

    no : (c : Content) → None ≡ Some c → ⊥
    no c e = let z : ◌≡◌ {A = ℕ} 0 1 = cc in omega arith

    all : (g x : ℕ) (c : Content) → content_at (one g x) ≡ Some c → Mem (record { generation = g; tag = x; content = c }) (h0 ∷ [])
    all zero x c e = absurd (no c e)
    all (suc zero) x c e = go (eqb x 5) refl e
      where
        go : (b : Bool) → eqb x 5 ≡ b → content_at (cond b (head 0 c0) absent) ≡ Some c → Mem (record { generation = 1; tag = x; content = c }) (h0 ∷ [])
        go true f e = let q : x ≡ 5 = eqb-true x 5 f in let d : c0 ≡ c = some_same c0 c e in inl (λ i. record { generation = 1; tag = q i; content = sym d i })
        go false f e = absurd (no c e)
    all (suc (suc g)) x c e = absurd (no c e)

abbrev fresh : ℕ → ℕ → Peer
fresh n s = record { number = n; stamp = s; up = true; standing = blank; paths = []; notes = []; room = λ w. true }

abbrev waiting : ℕ → ℕ → Peer
waiting n s = wait (path P) (fresh n s)

-- the path written to a new peer
write_fresh : (n s : ℕ) → PathWrite P (fresh n s) (answered 1) (writes (path P)) (waiting n s)
write_fresh n s = (record { good = refl; up = refl; accepted = fine (λ c. c.2 tt) (λ f. f.1 room); counted = refl; effected = moved_refl (waiting n s) }, refl)
  where
    room : Room (fresh n s) (path P)
    room = (refl, (omega arith, λ hs h. few hs (heads_unique one hs (h0 ∷ []) h heads_P)))
      where
        few : (hs : List Head) → hs ≡ h0 ∷ [] → length hs ≤ 64
        few hs e = subst (λ (l : List Head). length l ≤ 64) (sym e) (omega arith)

-- a log write to a peer with room
log_fresh : (n : Note) (p q : Peer) → p.up ≡ true → p.room (entry n) ≡ true → Moved (Rattle.peer.specs.Peers.accept (entry n) p) q → LogWrite n p (answered tt) (writes (entry n)) q
log_fresh n p q u r m = (record { good = refl; up = u; accepted = fine (λ f. f.1 (r, tt)); counted = refl; effected = m }, tt)

abbrev Fine : Path → Type 0
Fine p = Mem p (P ∷ [])

abbrev none : Bool → List Record
none b = []

no_more : (p : Peer) → Grew [] p []
no_more p r m = absurd m

abbrev w0 : World
w0 = record { peer = sides true (fresh 1 11) (fresh 2 12); past = sides true [] []; replications = λ s. idle; stamps = 11 ∷ 12 ∷ [] }

both_sides : (Q : Bool → Type 0) → Q true → Q false → (b : Bool) → Q b
both_sides Q t f true = t
both_sides Q t f false = f

run0 : Run Fine w0
run0 = new w0 (record {
  standing = both_sides (λ b. (w0.peer b).standing ≡ blank) refl refl;
  paths = both_sides (λ b. (w0.peer b).paths ≡ []) refl refl;
  notes = both_sides (λ b. (w0.peer b).notes ≡ []) refl refl;
  past = both_sides (λ b. w0.past b ≡ []) refl refl;
  stamp = both_sides (λ b. Mem (w0.peer b).stamp w0.stamps) (inl refl) (inr (inl refl));
  none_open = λ s. refl;
})

-- a path write at the source
abbrev a1 : Peer
a1 = waiting 1 11

abbrev b1 : Peer
b1 = fresh 2 12

abbrev w1 : World
w1 = record { peer = sides true a1 b1; past = sides true [] []; replications = λ s. idle; stamps = 11 ∷ 12 ∷ [] }

run1 : Run Fine w1
run1 = next w0 w1 run0 (call (record {
  side = true;
  function = path_write (97 ∷ []) 1 (in_bytes 8 5) 0 [];
  no_entry = tt;
  reply = answered 1;
  counts = writes (path P);
  peer = a1;
  calls = write_fresh 1 11;
  ok = (inl refl, tt);
  past = [];
  grew = no_more a1;
  is = refl;
}))

-- a start
abbrev k0 : Replication
k0 = opened 13 [] 11 12 0

abbrev r0 : Open
r0 = record { source = true; numbers = k0; own = (current b1).docs.tree; others = no_trees }

abbrev w2 : World
w2 = record { peer = sides true a1 b1; past = sides true [] []; replications = assign 13 (running r0) (λ s. idle); stamps = 13 ∷ 11 ∷ 12 ∷ [] }

new13 : Mem {A = ℕ} 13 (11 ∷ 12 ∷ []) → ⊥
new13 (inl e) = omega arith
new13 (inr (inl e)) = omega arith
new13 (inr (inr e)) = absurd e

run2 : Run Fine w2
run2 = next w1 w2 run1 (of 13 (start true [] (done k0) (record {
  new = new13;
  source = a1;
  target = b1;
  step = record {
    stamp = λ e. omega arith;
    no_twin = λ e. omega arith;
    good = refl;
    source_up = refl;
    target_up = refl;
    not_in_source = refl;
    not_in_target = refl;
    position = 0;
    common = 0;
    compared = record { reached = inl refl; greatest = λ s p q m n. absurd m; counted = refl };
    opens = refl;
    source_moved = moved_refl a1;
    target_moved = moved_refl b1;
  };
  goes = record { source_past = []; target_past = []; source_grew = no_more a1; target_grew = no_more b1; is = refl };
})))

-- a turn
last_most : (d : Id) → (current a1).docs.last d ≤ 1
last_most d = go (same (97 ∷ []) d)
  where
    go : (t : Bool) → cond t 1 0 ≤ 1
    go true = omega arith
    go false = omega arith

abbrev row : Row
row = (97 ∷ [], 1)

abbrev b3 : Peer
b3 = waiting 2 12

abbrev k1 : Replication
k1 = turned k0 (row ∷ []) (P ∷ []) (P ∷ [])

abbrev w3 : World
w3 = record { peer = sides true a1 b3; past = sides true [] []; replications = assign 13 (running (renew k1 r0)) (tolds (copier 13) false (P ∷ []) w2.replications); stamps = 13 ∷ 11 ∷ 12 ∷ [] }

abbrev through0 : Through k0 (current a1).docs
through0 = record {
  row = row;
  rows = [];
  first = (record { last = refl; above = omega arith; least = λ d l. l }, last_most);
  heads = P ∷ [];
  work = (P ∷ [], [], refl, (h0 ∷ [], heads_P, (record { doc = refl; line = record { long = refl; ends = refl; linked = (refl, tt) }; content = refl }, tt)), refl);
}

alive : Live k0 a1 b1
alive = record { source_up = refl; target_up = refl; source_stamp = refl; target_stamp = refl }

run3 : Run Fine w3
run3 = next w2 w3 run2 (of 13 (turn r0 (done k1) (record {
  going = record { runs = refl; phase = refl };
  memory = 1696;
  paths = P ∷ [];
  ok = (inl refl, tt);
  source = a1;
  target = b3;
  step = record { enough = omega arith; live = alive; through = through0; all = refl; wrote = (b1, b3, moved_refl b1, write_fresh 2 12, moved_refl b3); source_moved = moved_refl a1; turns = refl };
  goes = record { source_past = []; target_past = []; source_grew = no_more a1; target_grew = no_more b3; is = refl };
})))

-- secure
abbrev standing : ℕ → ℕ → Peer
standing n s = record { number = n; stamp = s; up = true; standing = record { docs = put P no_documents; logs = no_entries }; paths = []; notes = []; room = λ w. true }

commit : (n s : ℕ) → Committed (waiting n s) (standing n s)
commit n s = record {
  moved = record { number = refl; stamp = refl; up = refl; docs = record { part = P ∷ []; whole = refl; reach = refl }; logs = record { part = []; whole = refl; reach = refl } };
  no_path = refl;
  no_note = refl;
}

abbrev k2 : Replication
k2 = in_phase secured 0 k1

abbrev a4 : Peer
a4 = standing 1 11

abbrev b4 : Peer
b4 = standing 2 12

abbrev w4 : World
w4 = record { peer = sides true a4 b4; past = sides true [] []; replications = assign 13 (running (renew k2 r0)) w3.replications; stamps = 13 ∷ 11 ∷ 12 ∷ [] }

run4 : Run Fine w4
run4 = next w3 w4 run3 (of 13 (secure (renew k1 r0) (done k2) (record {
  going = record { runs = refl; phase = refl };
  source = a4;
  target = b4;
  step = record { live = record { source_up = refl; target_up = refl; source_stamp = refl; target_stamp = refl }; source_committed = commit 1 11; target_committed = commit 2 12; secures = refl };
  goes = record { source_past = []; target_past = []; source_grew = no_more a1; target_grew = no_more b3; is = refl };
})))

-- record
abbrev n5 : Note
n5 = entry_of k2 a4 b4

abbrev a5 : Peer
a5 = wait (entry n5) a4

abbrev b5 : Peer
b5 = wait (entry n5) b4

abbrev k3 : Replication
k3 = in_phase ready 1 k2

abbrev w5 : World
w5 = record { peer = sides true a5 b5; past = sides true [] []; replications = assign 13 (running (renew k3 r0)) w4.replications; stamps = 13 ∷ 11 ∷ 12 ∷ [] }

run5 : Run Fine w5
run5 = next w4 w5 run4 (of 13 (recording (renew k2 r0) (done k3) (record {
  going = record { runs = refl; phase = refl };
  source = a5;
  target = b5;
  source_counts = writes (entry n5);
  target_counts = writes (entry n5);
  step = record {
    live = record { source_up = refl; target_up = refl; source_stamp = refl; target_stamp = refl };
    source_logged = record { middle = a4; reads = moved_refl a4; call = log_fresh n5 a4 a5 refl refl (moved_refl a5) };
    target_logged = record { middle = b4; reads = moved_refl b4; call = log_fresh n5 b4 b5 refl refl (moved_refl b5) };
    records = refl;
  };
  goes = record { source_past = []; target_past = []; source_grew = no_more a5; target_grew = no_more b5; is = refl };
})))

-- finish
abbrev w6 : World
w6 = record { peer = sides true a5 b5; past = sides true [] []; replications = assign 13 idle w5.replications; stamps = 13 ∷ 11 ∷ 12 ∷ [] }

-- a later start opens at the recorded position
abbrev k7 : Replication
k7 = opened 15 [] 11 12 1

one_entry : (s p q : ℕ) → Mem {A = ℕ × ℕ} (s, p) ((13, 1) ∷ []) → Mem {A = ℕ × ℕ} (s, q) ((13, 1) ∷ []) → min p q ≤ 1
one_entry s p q (inl e) n = omega (arith, ap (λ (k : ℕ × ℕ). k.1) e)
one_entry s p q (inr e) n = absurd e

abbrev w_early : World
w_early = record { peer = sides true a5 b5; past = sides true [] []; replications = opening 15 true (current b5).docs.tree (done k7) w6.replications; stamps = 15 ∷ 13 ∷ 11 ∷ 12 ∷ [] }

new_early : Mem {A = ℕ} 15 (13 ∷ 11 ∷ 12 ∷ []) → ⊥
new_early (inl e) = omega arith
new_early (inr (inl e)) = omega arith
new_early (inr (inr (inl e))) = omega arith
new_early (inr (inr (inr e))) = absurd e

start_early : StartStep 15 true [] (done k7) w6 w_early
start_early = record {
  new = new_early;
  source = a5;
  target = b5;
  step = record {
    stamp = λ e. omega arith;
    no_twin = λ e. omega arith;
    good = refl;
    source_up = refl;
    target_up = refl;
    not_in_source = refl;
    not_in_target = refl;
    position = 1;
    common = 1;
    compared = record { reached = inr (13, 1, 1, inl refl, inl refl, refl); greatest = one_entry; counted = refl };
    opens = refl;
    source_moved = moved_refl a5;
    target_moved = moved_refl b5;
  };
  goes = record { source_past = []; target_past = []; source_grew = no_more a5; target_grew = no_more b5; is = refl };
}

-- the other way
abbrev j0 : Replication
j0 = opened 14 [] 12 11 0

abbrev q0 : Open
q0 = record { source = false; numbers = j0; own = (current a5).docs.tree; others = no_trees }

abbrev w8 : World
w8 = record { peer = sides false b5 a5; past = sides false [] []; replications = assign 14 (running q0) w6.replications; stamps = 14 ∷ 13 ∷ 11 ∷ 12 ∷ [] }

new14 : Mem {A = ℕ} 14 (13 ∷ 11 ∷ 12 ∷ []) → ⊥
new14 (inl e) = omega arith
new14 (inr (inl e)) = omega arith
new14 (inr (inr (inl e))) = omega arith
new14 (inr (inr (inr e))) = absurd e

step8 : StepOf Fine 14 w6 w8
step8 = start false [] (done j0) (record {
  new = new14;
  source = b5;
  target = a5;
  step = record {
    stamp = λ e. omega arith;
    no_twin = λ e. omega arith;
    good = refl;
    source_up = refl;
    target_up = refl;
    not_in_source = refl;
    not_in_target = refl;
    position = 0;
    common = 0;
    compared = record { reached = inl refl; greatest = λ s p q m n. absurd m; counted = refl };
    opens = refl;
    source_moved = moved_refl b5;
    target_moved = moved_refl a5;
  };
  goes = record { source_past = []; target_past = []; source_grew = no_more b5; target_grew = no_more a5; is = refl };
})

abbrev j1 : Replication
j1 = turned j0 (row ∷ []) (P ∷ []) []

abbrev w9 : World
w9 = record { peer = sides false b5 a5; past = sides false [] []; replications = assign 14 (running (renew j1 q0)) w8.replications; stamps = 14 ∷ 13 ∷ 11 ∷ 12 ∷ [] }

step9 : StepOf Fine 14 w8 w9
step9 = turn q0 (done j1) (record {
  going = record { runs = refl; phase = refl };
  memory = 1696;
  paths = [];
  ok = tt;
  source = b5;
  target = a5;
  step = record {
    enough = omega arith;
    live = record { source_up = refl; target_up = refl; source_stamp = refl; target_stamp = refl };
    through = record {
      row = row;
      rows = [];
      first = (record { last = refl; above = omega arith; least = λ d l. l }, last_most);
      heads = P ∷ [];
      work = (P ∷ [], [], refl, (h0 ∷ [], heads_P, (record { doc = refl; line = record { long = refl; ends = refl; linked = (refl, tt) }; content = refl }, tt)), refl);
    };
    all = refl;
    wrote = moved_refl a5;
    source_moved = moved_refl b5;
    turns = refl;
  };
  goes = record { source_past = []; target_past = []; source_grew = no_more b5; target_grew = no_more a5; is = refl };
})

abbrev firm : ℕ → ℕ → Peer
firm n s = record { number = n; stamp = s; up = true; standing = record { docs = put P no_documents; logs = enter n5 no_entries }; paths = []; notes = []; room = λ w. true }

commit5 : (n s : ℕ) → Committed (wait (entry n5) (standing n s)) (firm n s)
commit5 n s = record {
  moved = record { number = refl; stamp = refl; up = refl; docs = record { part = []; whole = refl; reach = refl }; logs = record { part = n5 ∷ []; whole = refl; reach = refl } };
  no_path = refl;
  no_note = refl;
}

abbrev a10 : Peer
a10 = firm 1 11

abbrev b10 : Peer
b10 = firm 2 12

abbrev j2 : Replication
j2 = in_phase secured 0 j1

abbrev w10 : World
w10 = record { peer = sides false b10 a10; past = sides false [] []; replications = assign 14 (running (renew j2 q0)) w9.replications; stamps = 14 ∷ 13 ∷ 11 ∷ 12 ∷ [] }

step10 : StepOf Fine 14 w9 w10
step10 = secure (renew j1 q0) (done j2) (record {
  going = record { runs = refl; phase = refl };
  source = b10;
  target = a10;
  step = record { live = record { source_up = refl; target_up = refl; source_stamp = refl; target_stamp = refl }; source_committed = commit5 2 12; target_committed = commit5 1 11; secures = refl };
  goes = record { source_past = []; target_past = []; source_grew = no_more b5; target_grew = no_more a5; is = refl };
})

abbrev n11 : Note
n11 = entry_of j2 b10 a10

abbrev a11 : Peer
a11 = wait (entry n11) a10

abbrev b11 : Peer
b11 = wait (entry n11) b10

abbrev j3 : Replication
j3 = in_phase ready 1 j2

abbrev w11 : World
w11 = record { peer = sides false b11 a11; past = sides false [] []; replications = assign 14 (running (renew j3 q0)) w10.replications; stamps = 14 ∷ 13 ∷ 11 ∷ 12 ∷ [] }

step11 : StepOf Fine 14 w10 w11
step11 = recording (renew j2 q0) (done j3) (record {
  going = record { runs = refl; phase = refl };
  source = b11;
  target = a11;
  source_counts = writes (entry n11);
  target_counts = writes (entry n11);
  step = record {
    live = record { source_up = refl; target_up = refl; source_stamp = refl; target_stamp = refl };
    source_logged = record { middle = b10; reads = moved_refl b10; call = log_fresh n11 b10 b11 refl refl (moved_refl b11) };
    target_logged = record { middle = a10; reads = moved_refl a10; call = log_fresh n11 a10 a11 refl refl (moved_refl a11) };
    records = refl;
  };
  goes = record { source_past = []; target_past = []; source_grew = no_more b11; target_grew = no_more a11; is = refl };
})

abbrev w12 : World
w12 = record { peer = sides false b11 a11; past = sides false [] []; replications = assign 14 idle w11.replications; stamps = 14 ∷ 13 ∷ 11 ∷ 12 ∷ [] }

-- such a start behind the replication back
abbrev r7 : Open
r7 = record { source = true; numbers = k7; own = (current b11).docs.tree; others = no_trees }

abbrev w13 : World
w13 = record { peer = sides true a11 b11; past = sides true [] []; replications = assign 15 (running r7) w12.replications; stamps = 15 ∷ 14 ∷ 13 ∷ 11 ∷ 12 ∷ [] }

new15 : Mem {A = ℕ} 15 (14 ∷ 13 ∷ 11 ∷ 12 ∷ []) → ⊥
new15 (inl e) = omega arith
new15 (inr (inl e)) = omega arith
new15 (inr (inr (inl e))) = omega arith
new15 (inr (inr (inr (inl e)))) = omega arith
new15 (inr (inr (inr (inr e)))) = absurd e

start13 : StartStep 15 true [] (done k7) w12 w13
start13 = record {
  new = new15;
  source = a11;
  target = b11;
  step = record {
    stamp = λ e. omega arith;
    no_twin = λ e. omega arith;
    good = refl;
    source_up = refl;
    target_up = refl;
    not_in_source = refl;
    not_in_target = refl;
    position = 1;
    common = 1;
    compared = record { reached = inr (13, 1, 1, inl refl, inl refl, refl); greatest = one_entry; counted = refl };
    opens = refl;
    source_moved = moved_refl a11;
    target_moved = moved_refl b11;
  };
  goes = record { source_past = []; target_past = []; source_grew = no_more a11; target_grew = no_more b11; is = refl };
}

-- and finishes, since no row is left
abbrev w14 : World
w14 = record { peer = sides true a11 b11; past = sides true [] []; replications = assign 15 idle w13.replications; stamps = 15 ∷ 14 ∷ 13 ∷ 11 ∷ 12 ∷ [] }

finish14 : FinishStep 15 r7 (done k7) w13 w14
finish14 = record {
  going = record { runs = refl; phase = refl };
  source = a11;
  target = b11;
  step = record { live = record { source_up = refl; target_up = refl; source_stamp = refl; target_stamp = refl }; no_row = last_most; source_moved = moved_refl a11; target_moved = moved_refl b11; same = refl };
  goes = record { source_past = []; target_past = []; source_grew = no_more a11; target_grew = no_more b11; is = refl };
}

finish6 : FinishStep 13 (renew k3 r0) (done k3) w5 w6
finish6 = record {
  going = record { runs = refl; phase = refl };
  source = a5;
  target = b5;
  step = record { live = record { source_up = refl; target_up = refl; source_stamp = refl; target_stamp = refl }; no_row = last_most; source_moved = moved_refl a5; target_moved = moved_refl b5; same = refl };
  goes = record { source_past = []; target_past = []; source_grew = no_more a5; target_grew = no_more b5; is = refl };
}

only11 : Only Fine 14 w6 w11
only11 = then w10 w11 (then w9 w10 (then w8 w9 (then w6 w8 here step8) step9) step10) step11

finish12 : FinishStep 14 (renew j3 q0) (done j3) w11 w12
finish12 = record {
  going = record { runs = refl; phase = refl };
  source = b11;
  target = a11;
  step = record { live = record { source_up = refl; target_up = refl; source_stamp = refl; target_stamp = refl }; no_row = last_most; source_moved = moved_refl b11; target_moved = moved_refl a11; same = refl };
  goes = record { source_past = []; target_past = []; source_grew = no_more b11; target_grew = no_more a11; is = refl };
}

-- all of it is one run
run6 : Run Fine w6
run6 = next w5 w6 run5 (of 13 (finish (renew k3 r0) (done k3) finish6))

run12 : Run Fine w12
run12 = next w11 w12 (only_run Fine 14 run6 only11) (of 14 (finish (renew j3 q0) (done j3) finish12))

run14 : Run Fine w14
run14 = next w13 w14 (next w12 w13 run12 (of 15 (start true [] (done k7) start13))) (of 15 (finish r7 (done k7) finish14))

pub happens : Happens
happens = record {
  paths = P ∷ [];
  agreeing = agree;
  before = w5;
  past = w6;
  run = run5;
  stamp = 13;
  first = renew k3 r0;
  numbers = k3;
  finishes = finish6;
  totals = (refl, refl, refl, refl);
  at_once = (w_early, k7, start_early, refl);
  copied = (c0, refl);
  between = w11;
  over = w12;
  only = only11;
  back = renew j3 q0;
  back_numbers = j3;
  other_way = refl;
  rules = (refl, refl);
  finishes_back = finish12;
  later = w13;
  opened = k7;
  resumes = start13;
  at_position = refl;
  end = w14;
  third = r7;
  third_numbers = k7;
  finishes_again = finish14;
  again_totals = (refl, refl);
  whole = run14;
}
