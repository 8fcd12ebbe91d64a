-- How a turn's relation builds up, call by call: one more row, one more head, one more path written.
use Rattle.std.proofs.Common.{◌≡◌, ℕ, zero, suc, ◌+◌, ◌<◌, ◌≤◌, Bool, true, false, cond, ◌⊎◌, List, [], ◌∷◌, ◌++◌, length, sym, refl, ap, ◌∙◌, subst, inl, inr, arith}
use Rattle.std.proofs.lemmas.List.{append-nil, append_assoc}
use Rattle.revision.specs.Ids.{Id}
use Rattle.revision.specs.Trees.{Tree, held}
use Rattle.revision.specs.Paths.{Path, at_last}
use Rattle.revision.specs.Heads.{Head, Heads}
use Rattle.keys.specs.Keys.{passes}
use Rattle.peer.specs.Records.{Documents, lay, put, Row, Next, NoRow, First, end}
use Rattle.peer.specs.Peers.{Peer, path, current, changes, wait, accept, Moved, writes, answered}
use Rattle.peer.specs.Functions.{PathWrite}
use Rattle.law.specs.Replications.{PathTo, PathsTo, PathsOf, Work, SomeFirst, SomeOf, SomeWork, missing, Wrote}
use Rattle.peer.proofs.Waiting.{after_more}
use Rattle.peer.proofs.Calls.{moved_refl, moved_trans, moved_current}

-- Rows --------------------------------------------------------------------------------------------------------------------

pub one_more_row : (k : ℕ) (x : Documents) (n : ℕ) (rows : List Row) (row : Row) → SomeFirst k x n rows → length rows < k → Next x (end n rows) row → SomeFirst k x n (rows ++ (row ∷ []))
one_more_row zero x n rows row f l e = absurd (omega arith)
one_more_row (suc k) x n [] row f l e = (e, tt)
one_more_row (suc k) x n (r ∷ rs) row f l e = (f.0, one_more_row k x r.1 rs row f.1 (omega arith) e)

pub all_rows : (k : ℕ) (x : Documents) (n : ℕ) (rows : List Row) → SomeFirst k x n rows → (length rows ≡ k) ⊎ NoRow x (end n rows) → First k x n rows
all_rows zero x n [] f e = tt
all_rows zero x n (r ∷ rs) f e = absurd f
all_rows (suc k) x n [] f (inl e) = absurd (omega arith)
all_rows (suc k) x n [] f (inr e) = e
all_rows (suc k) x n (r ∷ rs) f (inl e) = (f.0, all_rows k x r.1 rs f.1 (inl (omega arith)))
all_rows (suc k) x n (r ∷ rs) f (inr e) = (f.0, all_rows k x r.1 rs f.1 (inr e))

-- The heads of a row --------------------------------------------------------------------------------------------------------

pub one_more_head : (t : Tree) (d : Id) (hs : List Head) (ps : List Path) (h : Head) (p : Path) → PathsTo t d hs ps → PathTo t d h p → PathsTo t d (hs ++ (h ∷ [])) (ps ++ (p ∷ []))
one_more_head t d [] [] h p a b = (b, tt)
one_more_head t d [] (q ∷ qs) h p a b = absurd a
one_more_head t d (k ∷ ks) [] h p a b = absurd a
one_more_head t d (k ∷ ks) (q ∷ qs) h p a b = (a.0, one_more_head t d ks qs h p a.1 b)

-- a row gone through whole, and one gone through in part
pub one_more_work : (x : Documents) (rule : List ℕ) (rows : List Row) (qs : List Path) (row : Row) (ps : List Path) → Work x rule rows qs → PathsOf (passes rule row.0) (x.tree row.0) row.0 ps → Work x rule (rows ++ (row ∷ [])) (qs ++ ps)
one_more_work x rule [] qs row ps w e = (ps, [], ap (λ (l : List Path). l ++ ps) w ∙ sym (append-nil ps), e, refl)
one_more_work x rule (r ∷ rs) qs row ps w e =
    (w.0, w.1 ++ ps, ap (λ (l : List Path). l ++ ps) w.2 ∙ append_assoc w.0 w.1 ps, w.3, one_more_work x rule rs w.1 row ps w.4 e)

pub some_more_work : (x : Documents) (rule : List ℕ) (rows : List Row) (qs : List Path) (row : Row) (ps : List Path) → Work x rule rows qs → SomeOf (passes rule row.0) (x.tree row.0) row.0 ps → SomeWork x rule (rows ++ (row ∷ [])) (qs ++ ps)
some_more_work x rule [] qs row ps w e = subst (λ (l : List Path). SomeOf (passes rule row.0) (x.tree row.0) row.0 (l ++ ps)) (sym w) e
some_more_work x rule (r ∷ []) qs row ps w e =
    (w.0, w.1 ++ ps, ap (λ (l : List Path). l ++ ps) w.2 ∙ append_assoc w.0 w.1 ps, w.3, some_more_work x rule [] w.1 row ps w.4 e)
some_more_work x rule (r ∷ s ∷ rs) qs row ps w e =
    (w.0, w.1 ++ ps, ap (λ (l : List Path). l ++ ps) w.2 ∙ append_assoc w.0 w.1 ps, w.3, some_more_work x rule (s ∷ rs) w.1 row ps w.4 e)

pub whole_rows : (x : Documents) (rule : List ℕ) (rows : List Row) (qs : List Path) → Work x rule rows qs → SomeWork x rule rows qs
whole_rows x rule [] qs w = w
whole_rows x rule (r ∷ []) qs w = go (passes rule r.0) w.3
  where
    same : qs ≡ w.0
    same = w.2 ∙ (ap (λ (l : List Path). w.0 ++ l) w.4 ∙ append-nil w.0)

    go : (b : Bool) → PathsOf b (x.tree r.0) r.0 w.0 → SomeOf b (x.tree r.0) r.0 qs
    go true h = (h.0, [], subst (λ (l : List Head). Heads (x.tree r.0) l) (sym (append-nil h.0)) h.1, subst (λ (l : List Path). PathsTo (x.tree r.0) r.0 h.0 l) (sym same) h.2)
    go false h = same ∙ h
whole_rows x rule (r ∷ s ∷ rs) qs w = (w.0, w.1, w.2, w.3, whole_rows x rule (s ∷ rs) w.1 w.4)

-- Paths --------------------------------------------------------------------------------------------------------------------

-- trees after some paths
abbrev pub lays : List Path → (Id → Tree) → Id → Tree
lays [] f = f
lays (w ∷ ws) f = lays ws (lay w f)

-- one more head: its path is missing if its last revision is not held after those before it
pub one_more_missing : (f : Id → Tree) (hs : List Path) (p : Path) → missing f (hs ++ (p ∷ [])) ≡ missing f hs ++ cond (held (at_last (lays (missing f hs) f p.doc) p)) [] (p ∷ [])
one_more_missing f [] p = refl
one_more_missing f (h ∷ hs) p = go (held (at_last (f h.doc) h)) (one_more_missing f hs p) (one_more_missing (lay h f) hs p)
  where
    go : (b : Bool) → missing f (hs ++ (p ∷ [])) ≡ missing f hs ++ cond (held (at_last (lays (missing f hs) f p.doc) p)) [] (p ∷ []) →
        missing (lay h f) (hs ++ (p ∷ [])) ≡ missing (lay h f) hs ++ cond (held (at_last (lays (missing (lay h f) hs) (lay h f) p.doc) p)) [] (p ∷ []) →
        cond b (missing f (hs ++ (p ∷ []))) (h ∷ missing (lay h f) (hs ++ (p ∷ []))) ≡
        cond b (missing f hs) (h ∷ missing (lay h f) hs) ++ cond (held (at_last (lays (cond b (missing f hs) (h ∷ missing (lay h f) hs)) f p.doc) p)) [] (p ∷ [])
    go true i j = i
    go false i j = ap (λ (l : List Path). h ∷ l) j

-- one more path written, and reads after it
pub one_more_written : (p : Peer) (ws : List Path) (q : Peer) (w : Path) (n : Peer) → Wrote p ws q → PathWrite w q (answered 1) (writes (path w)) n → Wrote p (ws ++ (w ∷ [])) n
one_more_written p [] q w n h c = (q, n, h, c, moved_refl n)
one_more_written p (v ∷ vs) q w n h c = (h.0, h.1, h.2, h.3, one_more_written h.1 vs q w n h.4 c)

pub written_read : (p : Peer) (ws : List Path) (q n : Peer) → Wrote p ws q → Moved q n → Wrote p ws n
written_read p [] q n h m = moved_trans p q n h m
written_read p (v ∷ vs) q n h m = (h.0, h.1, h.2, h.3, written_read h.1 vs q n h.4 m)

-- the trees of the target by then
pub written_trees : (p : Peer) (ws : List Path) (q : Peer) → Wrote p ws q → (current q).docs.tree ≡ lays ws (current p).docs.tree
written_trees p [] q m = ap (λ r. r.docs.tree) (moved_current p q m)
written_trees p (w ∷ ws) q h =
    written_trees h.1 ws q h.4 ∙ ap (λ (f : Id → Tree). lays ws f) (ap (λ r. r.docs.tree) (moved_current (accept (path w) h.0) h.1 h.3.0.effected) ∙ (go (changes (path w) (current h.0)) h.3.1 ∙ ap (λ r. lay w r.docs.tree) (moved_current p h.0 h.2)))
  where
    go : (b : Bool) → ◌≡◌ {A = ℕ} 1 (cond b 1 0) → (current (cond b (wait (path w) h.0) h.0)).docs.tree ≡ lay w (current h.0).docs.tree
    go true e = ap (λ (x : Documents). x.tree) (after_more put h.0.standing.docs h.0.paths (w ∷ []))
    go false e = absurd (omega arith)

-- In parts ----------------------------------------------------------------------------------------------------------------

-- paths written after others
pub written_then : (p : Peer) (ws : List Path) (m : Peer) (vs : List Path) (q : Peer) → Wrote p ws m → Wrote m vs q → Wrote p (ws ++ vs) q
written_then p [] m [] q h k = moved_trans p m q h k
written_then p [] m (v ∷ vs) q h k = (k.0, k.1, moved_trans p m k.0 h k.2, k.3, k.4)
written_then p (w ∷ ws) m vs q h k = (h.0, h.1, h.2, h.3, written_then h.1 ws m vs q h.4 k)

-- the missing of more paths are those of the first, and of the rest those that are missing by then
pub missing_then : (f : Id → Tree) (ps qs : List Path) → missing f (ps ++ qs) ≡ missing f ps ++ missing (lays (missing f ps) f) qs
missing_then f [] qs = refl
missing_then f (w ∷ ws) qs = go (held (at_last (f w.doc) w)) (missing_then f ws qs) (missing_then (lay w f) ws qs)
  where
    go : (b : Bool) → missing f (ws ++ qs) ≡ missing f ws ++ missing (lays (missing f ws) f) qs → missing (lay w f) (ws ++ qs) ≡ missing (lay w f) ws ++ missing (lays (missing (lay w f) ws) (lay w f)) qs →
        cond b (missing f (ws ++ qs)) (w ∷ missing (lay w f) (ws ++ qs)) ≡ cond b (missing f ws) (w ∷ missing (lay w f) ws) ++ missing (lays (cond b (missing f ws) (w ∷ missing (lay w f) ws)) f) qs
    go true i j = i
    go false i j = ap (λ (l : List Path). w ∷ l) j

-- no more paths are missing than there are
pub missing_few : (f : Id → Tree) (ps : List Path) → length (missing f ps) ≤ length ps
missing_few f [] = omega arith
missing_few f (w ∷ ws) = go (held (at_last (f w.doc) w)) (missing_few f ws) (missing_few (lay w f) ws)
  where
    go : (b : Bool) → length (missing f ws) ≤ length ws → length (missing (lay w f) ws) ≤ length ws → length (cond b (missing f ws) (w ∷ missing (lay w f) ws)) ≤ suc (length ws)
    go true i j = omega arith
    go false i j = omega arith

-- writes leave a peer up
accept_up : (b : Bool) (w : Path) (p : Peer) → (cond b (wait (path w) p) p).up ≡ p.up
accept_up true w p = refl
accept_up false w p = refl

pub written_up : (p : Peer) (ws : List Path) (q : Peer) → Wrote p ws q → q.up ≡ p.up
written_up p [] q m = m.up
written_up p (w ∷ ws) q h = written_up h.1 ws q h.4 ∙ (h.3.0.effected.up ∙ (accept_up (changes (path w) (current h.0)) w h.0 ∙ h.2.up))

-- each head has one path
pub paths_length : (t : Tree) (d : Id) (hs : List Head) (ps : List Path) → PathsTo t d hs ps → length hs ≡ length ps
paths_length t d [] [] a = refl
paths_length t d [] (q ∷ qs) a = absurd a
paths_length t d (k ∷ ks) [] a = absurd a
paths_length t d (k ∷ ks) (q ∷ qs) a = ap suc (paths_length t d ks qs a.1)

-- the last row gives the position
pub end_more : (n : ℕ) (rows : List Row) (row : Row) → end n (rows ++ (row ∷ [])) ≡ row.1
end_more n [] row = refl
end_more n (r ∷ rs) row = end_more r.1 rs row

-- each row raises the position
pub first_rise : (k : ℕ) (x : Documents) (n : ℕ) (rows : List Row) → SomeFirst k x n rows → n + length rows ≤ end n rows
first_rise k x n [] f = omega arith
first_rise zero x n (r ∷ rs) f = absurd f
first_rise (suc k) x n (r ∷ rs) f = omega (arith, f.0.above, first_rise k x r.1 rs f.1)
