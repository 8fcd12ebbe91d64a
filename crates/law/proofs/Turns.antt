-- What a turn has done: it copies paths of passing documents whose last revisions are heads at the source, and afterwards the target holds every head of the
-- rows that it went through.
use Rattle.std.proofs.Common.{◌≡◌, ℕ, zero, suc, ◌<◌, ◌≤◌, Bool, true, false, cond, not, eqb, ◌⊎◌, List, [], ◌∷◌, ◌++◌, length, Some, sym, refl, ap, ◌∙◌, subst, inl, inr, arith}
use Rattle.std.proofs.lemmas.Bool.{eq-eqb, cases_lt, and_from}
use Rattle.order.specs.Lists.{same, Mem, Each, final}
use Rattle.revision.specs.Ids.{Id}
use Rattle.revision.specs.Trees.{Content, Node, absent, inner, head, Tree, held, level, content_at}
use Rattle.revision.specs.Paths.{Path, written, at_last}
use Rattle.revision.specs.Heads.{Head}
use Rattle.keys.specs.Keys.{passes}
use Rattle.peer.specs.Records.{lay, Documents, put, Row, First, end}
use Rattle.law.specs.Replications.{Replication, PathTo, PathsTo, PathsOf, Work, SomeOf, SomeWork, missing, Through}
use Rattle.revision.proofs.Places.{Below, below_refl, below_trans}
use Rattle.revision.proofs.Trees.{last_level, written_last}
use Rattle.peer.proofs.Waiting.{after_more}
use Rattle.law.proofs.Sites.{Site, now, wait, lacks, accept, accepts, lacks_some}
use Rattle.law.proofs.Sound.{Histories, DocumentsGood, lay_above}

-- a path that a turn writes: of a passing document, an accepted one, and its last revision is a head at the source
pub record Copy (Ok : Path → Type 0) (rule : List ℕ) (x : Documents) (p : Path) : Type 0 where
  pub ok : Ok p
  pub passing : passes rule p.doc ≡ true
  pub a_head : last_level (x.tree p.doc) p ≡ 1
  pub some : 1 ≤ length p.tags

-- a path of the work: of a passing document, its last revision a head, and not empty
pub record Aim (rule : List ℕ) (x : Documents) (p : Path) : Type 0 where
  pub passing : passes rule p.doc ≡ true
  pub a_head : last_level (x.tree p.doc) p ≡ 1
  pub some : 1 ≤ length p.tags

-- lists
mem_left : {A : Type 0} (a : A) (xs ys : List A) → Mem a xs → Mem a (xs ++ ys)
mem_left a [] ys m = absurd m
mem_left a (x ∷ xs) ys (inl e) = inl e
mem_left a (x ∷ xs) ys (inr m) = inr (mem_left a xs ys m)

mem_right : {A : Type 0} (a : A) (xs ys : List A) → Mem a ys → Mem a (xs ++ ys)
mem_right a [] ys m = m
mem_right a (x ∷ xs) ys m = inr (mem_right a xs ys m)

each_append : {A : Type 0} (P : A → Type 0) (xs ys : List A) → Each P xs → Each P ys → Each P (xs ++ ys)
each_append P [] ys a b = b
each_append P (x ∷ xs) ys a b = (a.0, each_append P xs ys a.1 b)

each_part : {A : Type 0} (P : A → Type 0) (xs ys : List A) → Each P (xs ++ ys) → Each P xs
each_part P [] ys a = tt
each_part P (x ∷ xs) ys a = (a.0, each_part P xs ys a.1)

each_missing : (P : Path → Type 0) (ws : List Path) (f : Id → Tree) → Each P ws → Each P (missing f ws)
each_missing P [] f a = tt
each_missing P (w ∷ ws) f a = go (each_missing P ws f a.1) (each_missing P ws (lay w f) a.1) (held (at_last (f w.doc) w))
  where
    go : Each P (missing f ws) → Each P (missing (lay w f) ws) → (b : Bool) → Each P (cond b (missing f ws) (w ∷ missing (lay w f) ws))
    go i j true = i
    go i j false = (a.0, j)

wait_now : (w : Path) (a : Site) → now (wait w a) ≡ put w (now a)
wait_now w a = after_more put a.docs a.paths (w ∷ [])

-- accepted paths are held afterwards, and nothing is lost
accept_keep : (w : Path) (p : Site) (d : Id) → Below ((now p).tree d) ((now (accept w p)).tree d)
accept_keep w p d = go (lacks w p)
  where
    go : (n : Bool) → Below ((now p).tree d) ((now (cond n (wait w p) p)).tree d)
    go true = subst (λ (z : Documents). Below ((now p).tree d) (z.tree d)) (sym (wait_now w p)) (lay_above w (now p).tree d)
    go false = below_refl ((now p).tree d)

accepts_keep : (ws : List Path) (p : Site) (d : Id) → Below ((now p).tree d) ((now (accepts ws p)).tree d)
accepts_keep [] p d = below_refl ((now p).tree d)
accepts_keep (w ∷ ws) p d = below_trans ((now p).tree d) ((now (accept w p)).tree d) ((now (accepts ws (accept w p))).tree d) (accept_keep w p d) (accepts_keep ws (accept w p) d)

same_self : (a : List ℕ) → same a a ≡ true
same_self [] = refl
same_self (x ∷ xs) = and_from (eqb x x) (same xs xs) (eq-eqb x x refl) (same_self xs)

accept_has : (w : Path) (p : Site) → 1 ≤ length w.tags → 1 ≤ last_level ((now (accept w p)).tree w.doc) w
accept_has w p l = go (lacks w p) refl
  where
    go : (n : Bool) → lacks w p ≡ n → 1 ≤ last_level ((now (cond n (wait w p) p)).tree w.doc) w
    go true e = subst (λ (z : Documents). 1 ≤ last_level (z.tree w.doc) w) (sym (wait_now w p))
        (subst (λ (b : Bool). 1 ≤ last_level (cond b (written ((now p).tree w.doc) w) ((now p).tree w.doc)) w) (sym (same_self w.doc)) (written_last ((now p).tree w.doc) w l))
    go false e = lacks_some (at_last ((now p).tree w.doc) w) e

accepts_has : (ws : List Path) (p : Site) → Each (λ w. 1 ≤ length w.tags) ws → (w : Path) → Mem w ws → 1 ≤ last_level ((now (accepts ws p)).tree w.doc) w
accepts_has [] p k w m = absurd m
accepts_has (v ∷ vs) p k w (inl e) =
    subst (λ (z : Path). 1 ≤ last_level ((now (accepts vs (accept v p))).tree z.doc) z) (sym e)
    (omega (arith, accept_has v p k.0, accepts_keep vs (accept v p) v.doc (length v.tags) (final v.tags)))
accepts_has (v ∷ vs) p k w (inr m) = accepts_has vs (accept v p) k.1 w m

-- a path that is held is accepted with no change, so to write the missing ones is to write all
accepts_missing : (ws : List Path) (p : Site) → accepts (missing (now p).tree ws) p ≡ accepts ws p
accepts_missing [] p = refl
accepts_missing (w ∷ ws) p = go (accepts_missing ws p) (accepts_missing ws (accept w p)) (held (at_last ((now p).tree w.doc) w)) refl
  where
    go : accepts (missing (now p).tree ws) p ≡ accepts ws p → accepts (missing (now (accept w p)).tree ws) (accept w p) ≡ accepts ws (accept w p) → (b : Bool) → held (at_last ((now p).tree w.doc) w) ≡ b →
        accepts (cond b (missing (now p).tree ws) (w ∷ missing (lay w (now p).tree) ws)) p ≡ accepts ws (accept w p)
    go i j true e = i ∙ ap (λ (k : Bool). accepts ws (cond (not k) (wait w p) p)) (sym e)
    go i j false e =
        let q : accept w p ≡ wait w p = ap (λ (k : Bool). cond (not k) (wait w p) p) e in
        let f : (now (accept w p)).tree ≡ lay w (now p).tree = ap (λ (z : Site). (now z).tree) q ∙ ap (λ (z : Documents). z.tree) (wait_now w p) in
        ap (λ (g : Id → Tree). accepts (missing g ws) (accept w p)) (sym f) ∙ j

-- the documents of the first rows
in_rows : (H : Histories) (x : Documents) → DocumentsGood H x → (k n : ℕ) (rows : List (Id × ℕ)) → First k x n rows → (d : Id) → n < x.last d → x.last d ≤ end n rows → Mem (d, x.last d) rows
in_rows H x o k n [] f d l u = absurd (omega arith)
in_rows H x o zero n (row ∷ rows) f d l u = absurd f
in_rows H x o (suc k) n (row ∷ rows) f d l u = go (λ h. in_rows H x o k row.1 rows f.1 d h u) (cases_lt row.1 (x.last d))
  where
    m : row.1 ≤ x.last d
    m = f.0.least d l

    go : (row.1 < x.last d → Mem (d, x.last d) rows) → (row.1 < x.last d) ⊎ (x.last d ≤ row.1) → ((d, x.last d) ≡ row) ⊎ Mem (d, x.last d) rows
    go i (inl h) = inr (i h)
    go i (inr h) =
        let e : x.last d ≡ row.1 = omega arith in
        let g : d ≡ row.0 = o.apart d row.0 (e ∙ sym f.0.last) (omega arith) in
        inl (λ i. (g i, e i))

end_within : (H : Histories) (x : Documents) → DocumentsGood H x → (k n : ℕ) (rows : List (Id × ℕ)) → First k x n rows → n ≤ x.highest → end n rows ≤ x.highest
end_within H x o k n [] f l = l
end_within H x o zero n (row ∷ rows) f l = absurd f
end_within H x o (suc k) n (row ∷ rows) f l = end_within H x o k row.1 rows f.1 (omega (arith, o.within row.0, f.0.last))

-- heads by their levels
head_content : (n : Node) → level n ≡ 1 → (c : Content) × (content_at n ≡ Some c)
head_content absent e = absurd (omega arith)
head_content (inner p) e = absurd (omega arith)
head_content (head p c) e = (c, refl)

content_head : (n : Node) (c : Content) → content_at n ≡ Some c → level n ≡ 1
content_head absent c e = absurd (let z : ◌≡◌ {A = ℕ} 0 1 = cc in omega arith)
content_head (inner p) c e = absurd (let z : ◌≡◌ {A = ℕ} 0 1 = cc in omega arith)
content_head (head p d) c e = refl

-- the path of a head of the list
path_for : (t : Tree) (d : Id) (hs : List Head) (ps : List Path) → PathsTo t d hs ps → (h : Head) → Mem h hs → (p : Path) × Mem p ps × PathTo t d h p
path_for t d [] ps a h m = absurd m
path_for t d (k ∷ hs) [] a h m = absurd a
path_for t d (k ∷ hs) (p ∷ ps) a h (inl e) = (p, inl refl, subst (λ (z : Head). PathTo t d z p) (sym e) a.0)
path_for t d (k ∷ hs) (p ∷ ps) a h (inr m) = let r = path_for t d hs ps a.1 h m in (r.0, inr r.1, r.2)

-- the heads of the passing documents of the rows are in the work
record Sent (d : Id) (g y : ℕ) (hs : List Path) : Type 0 where
  at_path : Path
  member : Mem at_path hs
  doc : at_path.doc ≡ d
  long : length at_path.tags ≡ g
  ends : final at_path.tags ≡ y

in_work : (x : Documents) (rule : List ℕ) (rows : List Row) (hs : List Path) → Work x rule rows hs → (d : Id) (n : ℕ) → Mem (d, n) rows → passes rule d ≡ true → (g y : ℕ) → level (x.tree d g y) ≡ 1 → Sent d g y hs
in_work x rule [] hs w d n m e g y l = absurd m
in_work x rule (row ∷ rows) hs w d n (inl q) e g y l = go (passes rule row.0) (ap (λ (k : Id). passes rule k) (sym dq) ∙ e) w.3
  where
    dq : d ≡ row.0
    dq = ap (λ (k : Row). k.0) q

    go : (b : Bool) → b ≡ true → PathsOf b (x.tree row.0) row.0 w.0 → Sent d g y hs
    go true f h =
        let c = head_content (x.tree row.0 g y) (subst (λ (k : Id). level (x.tree k g y) ≡ 1) dq l) in
        let k = path_for (x.tree row.0) row.0 h.0 w.0 h.2 (record { generation = g; tag = y; content = c.0 }) (h.1.all (record { generation = g; tag = y; content = c.0 }) c.1) in
        record { at_path = k.0; member = subst (λ (c : List Path). Mem k.0 c) (sym w.2) (mem_left k.0 w.0 w.1 k.1); doc = k.2.doc ∙ sym dq; long = k.2.line.long; ends = k.2.line.ends }
    go false f h = absurd (let z : ◌≡◌ {A = ℕ} 0 1 = cc in omega arith)
in_work x rule (row ∷ rows) hs w d n (inr m) e g y l =
    let k = in_work x rule rows w.1 w.4 d n m e g y l in
    record { at_path = k.at_path; member = subst (λ (c : List Path). Mem k.at_path c) (sym w.2) (mem_right k.at_path w.0 w.1 k.member); doc = k.doc; long = k.long; ends = k.ends }

-- the paths of a row
module _ (H : Histories) (x : Documents) (o : DocumentsGood H x) (rule : List ℕ) (d : Id) (pass : passes rule d ≡ true) where
  at_least : (g y : ℕ) → level (x.tree d g y) ≡ 1 → 1 ≤ g
  at_least zero y l = absurd (omega (arith, (o.covered d).none y))
  at_least (suc g) y l = omega arith

  aim : (h : Head) (p : Path) → level (x.tree d h.generation h.tag) ≡ 1 → PathTo (x.tree d) d h p → Aim rule x p
  aim h p l k = record {
    passing = ap (λ (z : Id). passes rule z) k.doc ∙ pass;
    a_head = ap (λ (z : Id). last_level (x.tree z) p) k.doc ∙ (ap (λ (z : ℕ). level (x.tree d z (final p.tags))) k.line.long ∙ (ap (λ (z : ℕ). level (x.tree d h.generation z)) k.line.ends ∙ l));
    some = subst (λ (z : ℕ). 1 ≤ z) (sym k.line.long) (at_least h.generation h.tag l);
  }

  aims : (hs : List Head) (ps : List Path) → ((h : Head) → Mem h hs → content_at (x.tree d h.generation h.tag) ≡ Some h.content) → PathsTo (x.tree d) d hs ps → Each (Aim rule x) ps
  aims [] [] k a = tt
  aims [] (p ∷ ps) k a = absurd a
  aims (h ∷ hs) [] k a = absurd a
  aims (h ∷ hs) (p ∷ ps) k a = (aim h p (content_head (x.tree d h.generation h.tag) h.content (k h (inl refl))) a.0, aims hs ps (λ z m. k z (inr m)) a.1)

module _ (H : Histories) (x : Documents) (o : DocumentsGood H x) (rule : List ℕ) where
  no_aims : (ps : List Path) → ps ≡ [] → Each (Aim rule x) ps
  no_aims ps e = subst (λ (c : List Path). Each (Aim rule x) c) (sym e) tt

  of_each : (d : Id) (ps : List Path) (b : Bool) → passes rule d ≡ b → PathsOf b (x.tree d) d ps → Each (Aim rule x) ps
  of_each d ps true e h = aims H x o rule d e h.0 ps h.1.only h.2
  of_each d ps false e h = no_aims ps h

  some_of_each : (d : Id) (ps : List Path) (b : Bool) → passes rule d ≡ b → SomeOf b (x.tree d) d ps → Each (Aim rule x) ps
  some_of_each d ps true e h = aims H x o rule d e h.0 ps (λ z m. h.2.only z (mem_left z h.0 h.1 m)) h.3
  some_of_each d ps false e h = no_aims ps h

  both_each : (hs qs rs : List Path) → hs ≡ qs ++ rs → Each (Aim rule x) qs → Each (Aim rule x) rs → Each (Aim rule x) hs
  both_each hs qs rs e a b = subst (λ (c : List Path). Each (Aim rule x) c) (sym e) (each_append (Aim rule x) qs rs a b)

  work_each : (rows : List Row) (hs : List Path) → Work x rule rows hs → Each (Aim rule x) hs
  work_each [] hs w = no_aims hs w
  work_each (row ∷ rows) hs w = both_each hs w.0 w.1 w.2 (of_each row.0 w.0 (passes rule row.0) refl w.3) (work_each rows w.1 w.4)

  some_each : (rows : List Row) (hs : List Path) → SomeWork x rule rows hs → Each (Aim rule x) hs
  some_each [] hs w = no_aims hs w
  some_each (row ∷ []) hs w = some_of_each row.0 hs (passes rule row.0) refl w
  some_each (row ∷ more ∷ rows) hs w = both_each hs w.0 w.1 w.2 (of_each row.0 w.0 (passes rule row.0) refl w.3) (some_each (more ∷ rows) w.1 w.4)

copies : (Ok : Path → Type 0) (rule : List ℕ) (x : Documents) (ws : List Path) → Each Ok ws → Each (Aim rule x) ws → Each (Copy Ok rule x) ws
copies Ok rule x [] a b = tt
copies Ok rule x (w ∷ ws) a b = (record { ok = a.0; passing = b.0.passing; a_head = b.0.a_head; some = b.0.some }, copies Ok rule x ws a.1 b.1)

somes : (rule : List ℕ) (x : Documents) (ws : List Path) → Each (Aim rule x) ws → Each (λ w. 1 ≤ length w.tags) ws
somes rule x [] a = tt
somes rule x (w ∷ ws) a = (a.0.some, somes rule x ws a.1)

-- what is wanted of a turn
aimed_copies : (Ok : Path → Type 0) (rule : List ℕ) (x : Documents) (heads : List Path) → Each (Aim rule x) heads → (f : Id → Tree) (ws vs : List Path) → Each Ok ws → ws ++ vs ≡ missing f heads → Each (Copy Ok rule x) ws
aimed_copies Ok rule x heads k f ws vs a e =
    copies Ok rule x ws a (each_part (Aim rule x) ws vs (subst (λ (c : List Path). Each (Aim rule x) c) (sym e) (each_missing (Aim rule x) heads f k)))

pub turn_copies : (Ok : Path → Type 0) (H : Histories) (k : Replication) (x : Documents) → DocumentsGood H x → (h : Through k x) (f : Id → Tree) (ws vs : List Path) → Each Ok ws → ws ++ vs ≡ missing f h.heads → Each (Copy Ok k.rule x) ws
turn_copies Ok H k x o h f ws vs a e = aimed_copies Ok k.rule x h.heads (work_each H x o k.rule (h.row ∷ h.rows) h.heads h.work) f ws vs a e

pub part_copies : (Ok : Path → Type 0) (H : Histories) (k : Replication) (x : Documents) → DocumentsGood H x → (rows : List Row) (heads : List Path) → SomeWork x k.rule rows heads → (f : Id → Tree) (ws vs : List Path) → Each Ok ws → ws ++ vs ≡ missing f heads → Each (Copy Ok k.rule x) ws
part_copies Ok H k x o rows heads w f ws vs a e = aimed_copies Ok k.rule x heads (some_each H x o k.rule rows heads w) f ws vs a e

pub turn_within : (H : Histories) (k : Replication) (x : Documents) → DocumentsGood H x → k.position ≤ x.highest → (h : Through k x) → end k.position (h.row ∷ h.rows) ≤ x.highest
turn_within H k x o l h = end_within H x o 8 k.position (h.row ∷ h.rows) h.first l

pub turn_held : (H : Histories) (k : Replication) (x : Documents) → DocumentsGood H x → (h : Through k x) (q : Site) (ws : List Path) → ws ≡ missing (now q).tree h.heads →
    (d : Id) → passes k.rule d ≡ true → k.position < x.last d → x.last d ≤ end k.position (h.row ∷ h.rows) → (g y : ℕ) → level (x.tree d g y) ≡ 1 → 1 ≤ level ((now (accepts ws q)).tree d g y)
turn_held H k x o h q ws e d p l u g y v =
    let m = in_work x k.rule (h.row ∷ h.rows) h.heads h.work d (x.last d) (in_rows H x o 8 k.position (h.row ∷ h.rows) h.first d l u) p g y v in
    let w : Path = m.at_path in
    let s : accepts ws q ≡ accepts h.heads q = ap (λ (z : List Path). accepts z q) e ∙ accepts_missing h.heads q in
    let b : 1 ≤ last_level ((now (accepts h.heads q)).tree w.doc) w = accepts_has h.heads q (somes k.rule x h.heads (work_each H x o k.rule (h.row ∷ h.rows) h.heads h.work)) w m.member in
    subst (λ (z : Site). 1 ≤ level ((now z).tree d g y)) (sym s)
    (subst (λ (i : Id). 1 ≤ level ((now (accepts h.heads q)).tree i g y)) m.doc
    (subst (λ (i : ℕ). 1 ≤ level ((now (accepts h.heads q)).tree w.doc g i)) m.ends
    (subst (λ (i : ℕ). 1 ≤ level ((now (accepts h.heads q)).tree w.doc i (final w.tags))) m.long b)))
