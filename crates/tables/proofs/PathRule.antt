-- A path that is written to a tree: when it is contradicted, when it changes something, and what it makes of the tree.
use Rattle.std.proofs.Common.{◌≡◌, ℕ, zero, suc, ◌-◌, ◌<◌, ◌≤◌, Bool, true, false, cond, eqb, ◌⊎◌, List, [], ◌∷◌, length, get_or, drop, Some, sym, refl, ap, ◌∙◌, subst, inl, inr, ⊎_elim, arith}
use Rattle.std.proofs.lemmas.Bool.{eq-eqb, ne_eqb, cases_eq, cases_lt}
use Rattle.order.specs.Lists.{final}
use Rattle.revision.specs.Trees.{Content, Node, absent, inner, head, Tree, held, parent, Compatible}
use Rattle.revision.specs.Paths.{Path, path_tree, last_node, touched, at_last, Contradicted}
use Rattle.tables.specs.Paths.{Missing, Agrees, Against}
use Rattle.tables.specs.Paths.{stands, standing, Clash}
use Rattle.tables.proofs.PathPlaces.{before, chain_at, chain_past, final_at, behind_last, behind_more, before_at}

-- Nodes ---------------------------------------------------------------------------------------------------------------

-- a head that becomes inner
abbrev pub retired : Node → Node
retired absent = absent
retired (inner p) = inner p
retired (head p c) = inner p

-- a head has this content
abbrev pub Suits : Node → Content → Type 0
Suits absent c = Unit
Suits (inner p) c = Unit
Suits (head p e) c = e ≡ c

agrees_or : (q p : ℕ) → cond (eqb q p) Agrees Against ≡ Against → q ≡ p → ⊥
agrees_or q p e s = let f : Agrees ≡ Against = sym (ap (λ (b : Bool). cond b Agrees Against) (eq-eqb q p s)) ∙ e in let z : ◌≡◌ {A = ℕ} 0 1 = cc in omega arith

against_parent : (a b : Node) (p : ℕ) → stands a p ≡ Against → parent b ≡ Some p → Compatible a b → ⊥
against_parent absent b p e f k = let z : ◌≡◌ {A = ℕ} 0 1 = cc in omega arith
against_parent (inner q) absent p e f k = let z : ◌≡◌ {A = ℕ} 0 1 = cc in omega arith
against_parent (inner q) (inner r) p e f k = agrees_or q p e (let z : r ≡ p = cc in k ∙ z)
against_parent (inner q) (head r c) p e f k = agrees_or q p e (let z : r ≡ p = cc in k ∙ z)
against_parent (head q d) absent p e f k = let z : ◌≡◌ {A = ℕ} 0 1 = cc in omega arith
against_parent (head q d) (inner r) p e f k = agrees_or q p e (let z : r ≡ p = cc in k ∙ z)
against_parent (head q d) (head r c) p e f k = agrees_or q p e (let z : r ≡ p = cc in k.0 ∙ z)

same_parent : (q p : ℕ) → (cond (eqb q p) Agrees Against ≡ Against → ⊥) → q ≡ p
same_parent q p n = ⊎_elim (λ (e : q ≡ p). e) (λ (e : q ≡ p → ⊥). absurd (n (ap (λ (b : Bool). cond b Agrees Against) (ne_eqb q p e)))) (cases_eq q p)

-- a node that does not stand against a parent is missing, or has that parent
pub parent_or : (a : Node) (p : ℕ) → (stands a p ≡ Against → ⊥) → (a ≡ absent) ⊎ (parent a ≡ Some p)
parent_or absent p n = inl refl
parent_or (inner q) p n = inr (ap (λ (x : ℕ). Some x) (same_parent q p n))
parent_or (head q c) p n = inr (ap (λ (x : ℕ). Some x) (same_parent q p n))

pub missing_absent : (a : Node) (p : ℕ) → stands a p ≡ Missing → a ≡ absent
missing_absent absent p e = refl
missing_absent (inner q) p e = absurd (no_missing (eqb q p) e)
  where
    no_missing : (b : Bool) → cond b Agrees Against ≡ Missing → ⊥
    no_missing true e = let z : ◌≡◌ {A = ℕ} 0 1 = cc in omega arith
    no_missing false e = let z : ◌≡◌ {A = ℕ} 0 1 = cc in omega arith
missing_absent (head q c) p e = absurd (no_missing (eqb q p) e)
  where
    no_missing : (b : Bool) → cond b Agrees Against ≡ Missing → ⊥
    no_missing true e = let z : ◌≡◌ {A = ℕ} 0 1 = cc in omega arith
    no_missing false e = let z : ◌≡◌ {A = ℕ} 0 1 = cc in omega arith

pub agrees_held : (a : Node) (p : ℕ) → stands a p ≡ Agrees → held a ≡ true
agrees_held absent p e = let z : ◌≡◌ {A = ℕ} 0 1 = cc in absurd (omega arith)
agrees_held (inner q) p e = refl
agrees_held (head q c) p e = refl

inner_fits : (a : Node) (p : ℕ) → (a ≡ absent) ⊎ (parent a ≡ Some p) → Compatible a (inner p)
inner_fits absent p o = tt
inner_fits (inner q) p (inl e) = let z : ◌≡◌ {A = ℕ} 0 1 = cc in absurd (omega arith)
inner_fits (inner q) p (inr e) = cc
inner_fits (head q c) p (inl e) = let z : ◌≡◌ {A = ℕ} 0 1 = cc in absurd (omega arith)
inner_fits (head q c) p (inr e) = cc

head_fits : (a : Node) (p : ℕ) (c : Content) → (a ≡ absent) ⊎ (parent a ≡ Some p) → Suits a c → Compatible a (head p c)
head_fits absent p c o s = tt
head_fits (inner q) p c (inl e) s = let z : ◌≡◌ {A = ℕ} 0 1 = cc in absurd (omega arith)
head_fits (inner q) p c (inr e) s = cc
head_fits (head q d) p c (inl e) s = let z : ◌≡◌ {A = ℕ} 0 1 = cc in absurd (omega arith)
head_fits (head q d) p c (inr e) s = (cc, s)

absent_fits : (a : Node) → Compatible a absent
absent_fits absent = tt
absent_fits (inner q) = tt
absent_fits (head q c) = tt

pub touched_kept : (a : Node) (p : ℕ) (ys : List ℕ) (c : Content) → held a ≡ true → touched a p ys c true ≡ a
touched_kept absent p ys c e = let z : ◌≡◌ {A = ℕ} 0 1 = cc in absurd (omega arith)
touched_kept (inner q) p ys c e = refl
touched_kept (head q d) p ys c e = refl

pub touched_retired : (a : Node) (p : ℕ) (ys : List ℕ) (c : Content) → held a ≡ true → touched a p ys c false ≡ retired a
touched_retired absent p ys c e = let z : ◌≡◌ {A = ℕ} 0 1 = cc in absurd (omega arith)
touched_retired (inner q) p ys c e = refl
touched_retired (head q d) p ys c e = refl

-- Paths ---------------------------------------------------------------------------------------------------------------

-- the tags of a path, from 1 on, and 0 before the first
pub record Tags (w : Path) (tag : ℕ → ℕ) (n : ℕ) : Type 0 where
  pub long : length w.tags ≡ n
  pub some : 1 ≤ n
  pub none : tag 0 ≡ 0
  pub each : (i : ℕ) → i < n → tag (suc i) ≡ get_or w.tags i 0

module _ (w : Path) (tag : ℕ → ℕ) (n : ℕ) (ts : Tags w tag n) where
  pub before_tag : (i : ℕ) → i < n → before 0 w.tags i ≡ tag i
  before_tag zero l = sym ts.none
  before_tag (suc i) l = before_at 0 w.tags i (omega (arith, ts.long)) ∙ sym (ts.each i (omega arith))

  on_place : (i x : ℕ) → i < n → path_tree w (suc i) x ≡ cond (eqb x (tag (suc i))) (last_node (tag i) (drop (suc i) w.tags) w.content) absent
  on_place i x l = chain_at 0 w.tags w.content i x (omega (arith, ts.long))
      ∙ (ap (λ (y : ℕ). cond (eqb x y) (last_node (before 0 w.tags i) (drop (suc i) w.tags) w.content) absent) (sym (ts.each i l))
      ∙ ap (λ (p : ℕ). cond (eqb x (tag (suc i))) (last_node p (drop (suc i) w.tags) w.content) absent) (before_tag i l))

  pub path_on : (i : ℕ) → i < n → path_tree w (suc i) (tag (suc i)) ≡ last_node (tag i) (drop (suc i) w.tags) w.content
  path_on i l = on_place i (tag (suc i)) l ∙ ap (λ (b : Bool). cond b (last_node (tag i) (drop (suc i) w.tags) w.content) absent) (eq-eqb (tag (suc i)) (tag (suc i)) refl)

  pub node_between : (p i : ℕ) → suc i < n → last_node p (drop (suc i) w.tags) w.content ≡ inner p
  node_between p i l = ap (λ (ys : List ℕ). last_node p ys w.content) (behind_more w.tags i (omega (arith, ts.long)))

  pub node_last : (p i : ℕ) → suc i ≡ n → last_node p (drop (suc i) w.tags) w.content ≡ head p w.content
  node_last p i e = ap (λ (ys : List ℕ). last_node p ys w.content) (behind_last w.tags i (e ∙ sym ts.long))

  pub path_off : (g x : ℕ) → ((0 < g) × (g ≤ n) × (x ≡ tag g) → ⊥) → path_tree w g x ≡ absent
  path_off zero x f = refl
  path_off (suc i) x f = ⊎_elim
      (λ (l : i < n). on_place i x l ∙ ap (λ (b : Bool). cond b (last_node (tag i) (drop (suc i) w.tags) w.content) absent) (ne_eqb x (tag (suc i)) (λ e. f (omega arith, omega arith, e))))
      (λ (l : n ≤ i). chain_past 0 w.tags w.content i x (omega (arith, ts.long))) (cases_lt i n)

  last_parent : (p : ℕ) (ys : List ℕ) → parent (last_node p ys w.content) ≡ Some p
  last_parent p [] = refl
  last_parent p (y ∷ ys) = refl

  final_tag : final w.tags ≡ tag n
  final_tag = go w.tags ts.long (λ i. ts.each i)
    where
      go : (ys : List ℕ) → length ys ≡ n → ((i : ℕ) → i < n → tag (suc i) ≡ get_or ys i 0) → final ys ≡ tag n
      go [] e f = absurd (omega (arith, ts.some))
      go (y ∷ ys) e f = final_at y ys ∙ (sym (f (length ys) (omega arith)) ∙ ap tag e)

  pub last_node_is : (t : Tree) → at_last t w ≡ t n (tag n)
  last_node_is t = ap (λ (g : ℕ). t g (final w.tags)) ts.long ∙ ap (t n) final_tag

  module _ (t : Tree) where
    -- a generation under another parent contradicts the path
    pub clash_contradicts : Clash (standing t tag) n → Contradicted t w
    clash_contradicts (g, l, m, e) = at g l m e
      where
        at : (g : ℕ) → 0 < g → g ≤ n → standing t tag g ≡ Against → Contradicted t w
        at zero l m e = absurd (omega arith)
        at (suc i) l m e =
            let one : suc i - 1 ≡ i = omega arith in
            let f = ap (λ (j : ℕ). stands (t (suc i) (tag (suc i))) (tag j)) (sym one) ∙ e in
            (suc i, tag (suc i), against_parent (t (suc i) (tag (suc i))) (path_tree w (suc i) (tag (suc i))) (tag i) f (ap parent (path_on i (omega arith)) ∙ last_parent (tag i) (drop (suc i) w.tags)))

    -- so does a head with other content in the last place
    pub leaf_contradicts : (Suits (t n (tag n)) w.content → ⊥) → Contradicted t w
    leaf_contradicts f = (n, tag n, λ k. f (suits (t n (tag n)) (tag (n - 1)) (subst (λ (b : Node). Compatible (t n (tag n)) b) last k)))
      where
        suits : (a : Node) (p : ℕ) → Compatible a (head p w.content) → Suits a w.content
        suits absent p k = tt
        suits (inner q) p k = tt
        suits (head q e) p k = k.1

        last : path_tree w n (tag n) ≡ head (tag (n - 1)) w.content
        last = let e : suc (n - 1) ≡ n = omega (arith, ts.some) in
            ap (λ (g : ℕ). path_tree w g (tag g)) (sym e) ∙ (path_on (n - 1) (omega (arith, ts.some)) ∙ node_last (tag (n - 1)) (n - 1) e)

    -- nothing else does
    pub not_contradicted : ((g : ℕ) → 0 < g → g ≤ n → standing t tag g ≡ Against → ⊥) → Suits (t n (tag n)) w.content → Contradicted t w → ⊥
    not_contradicted a s (g, x, f) = ⊎_elim (λ (e : x ≡ tag g). f (on g x e)) (λ (e : x ≡ tag g → ⊥). f (off g x (λ q. e q.2))) (cases_eq x (tag g))
      where
        off : (g x : ℕ) → ((0 < g) × (g ≤ n) × (x ≡ tag g) → ⊥) → Compatible (t g x) (path_tree w g x)
        off g x q = subst (λ (b : Node). Compatible (t g x) b) (sym (path_off g x q)) (absent_fits (t g x))

        stood : (i : ℕ) → i < n → (t (suc i) (tag (suc i)) ≡ absent) ⊎ (parent (t (suc i) (tag (suc i))) ≡ Some (tag i))
        stood i l = let one : suc i - 1 ≡ i = omega arith in
            parent_or (t (suc i) (tag (suc i))) (tag i) (λ e. a (suc i) (omega arith) (omega arith) (ap (λ (j : ℕ). stands (t (suc i) (tag (suc i))) (tag j)) one ∙ e))

        here : (i : ℕ) → i < n → Compatible (t (suc i) (tag (suc i))) (path_tree w (suc i) (tag (suc i)))
        here i l = ⊎_elim
            (λ (m : suc i < n). subst (λ (b : Node). Compatible (t (suc i) (tag (suc i))) b) (sym (path_on i l ∙ node_between (tag i) i m)) (inner_fits (t (suc i) (tag (suc i))) (tag i) (stood i l)))
            (λ (m : n ≤ suc i). let e : suc i ≡ n = omega arith in
            subst (λ (b : Node). Compatible (t (suc i) (tag (suc i))) b) (sym (path_on i l ∙ node_last (tag i) i e))
            (head_fits (t (suc i) (tag (suc i))) (tag i) w.content (stood i l) (subst (λ (g : ℕ). Suits (t g (tag g)) w.content) (sym e) s)))
            (cases_lt (suc i) n)

        on : (g x : ℕ) → x ≡ tag g → Compatible (t g x) (path_tree w g x)
        on zero x e = absent_fits (t 0 x)
        on (suc i) x e = ⊎_elim (λ (l : i < n). subst (λ (y : ℕ). Compatible (t (suc i) y) (path_tree w (suc i) y)) (sym e) (here i l)) (λ (l : n ≤ i). off (suc i) x (λ q. omega (arith, q.1))) (cases_lt i n)
