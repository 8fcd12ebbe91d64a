-- Trees of one history: each revision is absent, a head or inner, and union is the greater of the two at each place.
-- Places count generations from 0, so that an induction along the tags can go up by one.
use Rattle.std.proofs.Common.{◌≡◌, ℕ, zero, suc, ◌<◌, ◌≤◌, max, Bool, true, false, cond, eqb, ◌⊎◌, List, [], ◌∷◌, sym, refl, ap, ◌∙◌, subst, inl, inr, arith}
use mathlib.Core.Path.{fun_ext}
use Rattle.std.proofs.lemmas.Bool.{eqb-true, eq-eqb, cases_lt}
use Rattle.revision.specs.Trees.{Content, Node, absent, inner, head, Tree, join, union, held, level, Compatible}
use Rattle.revision.specs.Paths.{last_node, chain, up, next_held, touched, along}

-- the level at which places have the last of some tags: 0 if it is not held, 1 if it is a head
abbrev pub last_level : Tree → List ℕ → ℕ
last_level t [] = 0
last_level t (y ∷ []) = level (t 0 y)
last_level t (y ∷ z ∷ zs) = last_level (up t) (z ∷ zs)

-- a history of a document: of each revision its one parent, and its one content
abbrev pub History : Type 0
History = ℕ → ℕ → ℕ × Content

-- the history from the next place on
abbrev pub later : History → History
later h g x = h (suc g) x

-- the last of some tags has its content
abbrev pub Ends : ℕ × Content → List ℕ → Content → Type 0
Ends h [] c = c ≡ h.1
Ends h (y ∷ ys) c = Unit

-- tags that keep to the history
abbrev pub Follows : History → ℕ → List ℕ → Content → Type 0
Follows h p [] c = Unit
Follows h p (y ∷ ys) c = (p ≡ (h 0 y).0) × Ends (h 0 y) ys c × Follows (later h) y ys c

-- a node has the parent and the content that the history says
abbrev pub Fits : ℕ × Content → Node → Type 0
Fits h absent = Unit
Fits h (inner p) = p ≡ h.0
Fits h (head p c) = (p ≡ h.0) × (c ≡ h.1)

-- each place of one tree is at most at the level of the other
abbrev pub Below : Tree → Tree → Type 0
Below t u = (g x : ℕ) → level (t g x) ≤ level (u g x)

pub level_join : (a b : Node) → level (join a b) ≡ max (level a) (level b)
level_join absent b = omega arith
level_join (inner p) absent = refl
level_join (inner p) (inner q) = refl
level_join (inner p) (head q e) = refl
level_join (head p c) absent = refl
level_join (head p c) (inner q) = refl
level_join (head p c) (head q e) = refl

pub level_most : (a : Node) → level a ≤ 2
level_most absent = omega arith
level_most (inner p) = omega arith
level_most (head p c) = omega arith

pub fits_join : (h : ℕ × Content) (a b : Node) → Fits h a → Fits h b → Fits h (join a b)
fits_join h absent b f k = k
fits_join h (inner p) b f k = f
fits_join h (head p c) absent f k = f
fits_join h (head p c) (inner q) f k = f.0
fits_join h (head p c) (head q e) f k = f

-- two nodes of one history at one level are the same
pub same_node : (h : ℕ × Content) (a b : Node) → Fits h a → Fits h b → level a ≡ level b → a ≡ b
same_node h absent absent f k e = refl
same_node h absent (inner q) f k e = absurd (omega arith)
same_node h absent (head q d) f k e = absurd (omega arith)
same_node h (inner p) absent f k e = absurd (omega arith)
same_node h (inner p) (inner q) f k e = ap inner (f ∙ sym k)
same_node h (inner p) (head q d) f k e = absurd (omega arith)
same_node h (head p c) absent f k e = absurd (omega arith)
same_node h (head p c) (inner q) f k e = absurd (omega arith)
same_node h (head p c) (head q d) f k e = let x : p ≡ q = f.0 ∙ sym k.0 in let y : c ≡ d = f.1 ∙ sym k.1 in cc

-- a tree keeps to the history
abbrev pub Agrees : History → Tree → Type 0
Agrees h t = (g x : ℕ) → Fits (h g x) (t g x)

pub same_tree : (h : History) (t u : Tree) → Agrees h t → Agrees h u → Below t u → Below u t → t ≡ u
same_tree h t u f k b c = fun_ext (λ g. fun_ext (λ x. same_node (h g x) (t g x) (u g x) (f g x) (k g x) (omega (arith, b g x, c g x))))

pub below_refl : (t : Tree) → Below t t
below_refl t g x = omega arith

pub below_trans : (t u v : Tree) → Below t u → Below u v → Below t v
below_trans t u v b c g x = omega (arith, b g x, c g x)

pub below_left : (t u : Tree) → Below t (union t u)
below_left t u g x = omega (arith, level_join (t g x) (u g x))

pub below_right : (t u : Tree) → Below u (union t u)
below_right t u g x = omega (arith, level_join (t g x) (u g x))

pub union_least : (t u v : Tree) → Below t v → Below u v → Below (union t u) v
union_least t u v b c g x = omega (arith, level_join (t g x) (u g x), b g x, c g x)

-- a parent is held, and is inner
abbrev pub Closed : History → Tree → Type 0
Closed h t = (g x : ℕ) → 1 ≤ level (t (suc g) x) → level (t g (h (suc g) x).0) ≡ 2

pub closed_union : (h : History) (t u : Tree) → Closed h t → Closed h u → Closed h (union t u)
closed_union h t u c d g x l =
    let e : level (join (t (suc g) x) (u (suc g) x)) ≡ max (level (t (suc g) x)) (level (u (suc g) x)) = level_join (t (suc g) x) (u (suc g) x) in
    let p : ℕ = (h (suc g) x).0 in
    let f : level (join (t g p) (u g p)) ≡ max (level (t g p)) (level (u g p)) = level_join (t g p) (u g p) in
    let mt : level (t g p) ≤ 2 = level_most (t g p) in
    let mu : level (u g p) ≤ 2 = level_most (u g p) in
    go e f mt mu (cases_lt 0 (level (t (suc g) x)))
  where
    go : level (join (t (suc g) x) (u (suc g) x)) ≡ max (level (t (suc g) x)) (level (u (suc g) x)) →
        level (join (t g (h (suc g) x).0) (u g (h (suc g) x).0)) ≡ max (level (t g (h (suc g) x).0)) (level (u g (h (suc g) x).0)) →
        level (t g (h (suc g) x).0) ≤ 2 → level (u g (h (suc g) x).0) ≤ 2 →
        (0 < level (t (suc g) x)) ⊎ (level (t (suc g) x) ≤ 0) → level (join (t g (h (suc g) x).0) (u g (h (suc g) x).0)) ≡ 2
    go e f mt mu (inl k) = omega (arith, c g x (omega arith))
    go e f mt mu (inr k) = omega (arith, d g x (omega arith))

-- the first node of a chain
pub first_same : (p : ℕ) (y : ℕ) (ys : List ℕ) (c : Content) → chain p (y ∷ ys) c 0 y ≡ last_node p ys c
first_same p y ys c = rw (eq-eqb y y refl)

-- where a chain has something in its first generation, it is the first tag
first_is : (p : ℕ) (x y : ℕ) (ys : List ℕ) (c : Content) → 1 ≤ level (chain p (y ∷ ys) c 0 x) → x ≡ y
first_is p x y ys c l = go (eqb x y) refl l
  where
    go : (b : Bool) → eqb x y ≡ b → 1 ≤ level (cond b (last_node p ys c) absent) → x ≡ y
    go true e k = eqb-true x y e
    go false e k = absurd (omega arith)

-- if the last revision of a path is held, the first is
holds_first : (h : History) (t : Tree) (p y : ℕ) (ys : List ℕ) (c : Content) → Closed h t → Follows h p (y ∷ ys) c → 1 ≤ last_level t (y ∷ ys) → level (last_node p ys c) ≤ level (t 0 y)
holds_first h t p y [] c k f l = l
holds_first h t p y (z ∷ zs) c k f l =
    let i : level (last_node y zs c) ≤ level (t 1 z) = holds_first (later h) (up t) y z zs c (λ g x. k (suc g) x) f.2 l in
    let one : 1 ≤ level (last_node y zs c) = one_last y zs c in
    let e : level (t 0 (h 1 z).0) ≡ 2 = k 0 z (omega arith) in
    let e' : level (t 0 y) ≡ 2 = subst (λ (q : ℕ). level (t 0 q) ≡ 2) (sym f.2.0) e in
    omega arith
  where
    one_last : (y : ℕ) (zs : List ℕ) (c : Content) → 1 ≤ level (last_node y zs c)
    one_last y [] c = omega arith
    one_last y (z ∷ zs) c = omega arith

-- a closed tree that holds the last revision of a path holds the path
pub path_below : (h : History) (t : Tree) (p : ℕ) (ys : List ℕ) (c : Content) → Closed h t → Follows h p ys c → 1 ≤ last_level t ys → Below (chain p ys c) t
path_below h t p [] c k f l g x = omega arith
path_below h t p (y ∷ ys) c k f l zero x = go (eqb x y) refl
  where
    go : (b : Bool) → eqb x y ≡ b → level (cond b (last_node p ys c) absent) ≤ level (t 0 x)
    go true e = subst (λ (q : ℕ). level (last_node p ys c) ≤ level (t 0 q)) (sym (eqb-true x y e)) (holds_first h t p y ys c k f l)
    go false e = omega arith
path_below h t p (y ∷ []) c k f l (suc g) x = omega arith
path_below h t p (y ∷ z ∷ zs) c k f l (suc g) x = path_below (later h) (up t) y (z ∷ zs) c (λ a b. k (suc a) b) f.2 l g x

-- the last revision of a path is a head of its tree
pub last_chain : (p : ℕ) (y : ℕ) (ys : List ℕ) (c : Content) → last_level (chain p (y ∷ ys) c) (y ∷ ys) ≡ 1
last_chain p y [] c = ap level (first_same p y [] c)
last_chain p y (z ∷ zs) c = last_chain y z zs c

pub last_union : (t u : Tree) (ys : List ℕ) → last_level (union t u) ys ≡ max (last_level t ys) (last_level u ys)
last_union t u [] = refl
last_union t u (y ∷ []) = level_join (t 0 y) (u 0 y)
last_union t u (y ∷ z ∷ zs) = last_union (up t) (up u) (z ∷ zs)

pub last_below : (t u : Tree) (ys : List ℕ) → Below t u → last_level t ys ≤ last_level u ys
last_below t u [] b = omega arith
last_below t u (y ∷ []) b = b 0 y
last_below t u (y ∷ z ∷ zs) b = last_below (up t) (up u) (z ∷ zs) (λ g x. b (suc g) x)

-- where a chain has a head, it is its last revision
pub head_is_last : (t : Tree) (p : ℕ) (ys : List ℕ) (c : Content) (g x : ℕ) → level (chain p ys c g x) ≡ 1 → level (t g x) ≡ last_level t ys
head_is_last t p [] c g x e = absurd (omega arith)
head_is_last t p (y ∷ []) c zero x e = ap (λ (q : ℕ). level (t 0 q)) (first_is p x y [] c (omega arith))
head_is_last t p (y ∷ z ∷ zs) c zero x e = absurd (go (eqb x y) e)
  where
    go : (b : Bool) → level (cond b (inner p) absent) ≡ 1 → ⊥
    go true e = omega arith
    go false e = omega arith
head_is_last t p (y ∷ []) c (suc g) x e = absurd (omega arith)
head_is_last t p (y ∷ z ∷ zs) c (suc g) x e = head_is_last (up t) y (z ∷ zs) c g x e

pub chain_closed : (h : History) (p : ℕ) (ys : List ℕ) (c : Content) → Follows h p ys c → Closed h (chain p ys c)
chain_closed h p [] c f g x l = absurd (omega arith)
chain_closed h p (y ∷ []) c f g x l = absurd (omega arith)
chain_closed h p (y ∷ z ∷ zs) c f zero x l =
    let e : x ≡ z = first_is y x z zs c l in
    let q : (h 1 x).0 ≡ y = ap (λ (v : ℕ). (h 1 v).0) e ∙ sym f.2.0 in
    subst (λ (v : ℕ). level (chain p (y ∷ z ∷ zs) c 0 v) ≡ 2) (sym q) (ap level (first_same p y (z ∷ zs) c))
chain_closed h p (y ∷ z ∷ zs) c f (suc g) x l = chain_closed (later h) y (z ∷ zs) c f.2 g x l

pub chain_agrees : (h : History) (p : ℕ) (ys : List ℕ) (c : Content) → Follows h p ys c → Agrees h (chain p ys c)
chain_agrees h p [] c f g x = tt
chain_agrees h p (y ∷ ys) c f zero x = go (eqb x y) refl
  where
    fits_last : (q : ℕ × Content) (ys : List ℕ) → p ≡ q.0 → Ends q ys c → Fits q (last_node p ys c)
    fits_last q [] e k = (e, k)
    fits_last q (z ∷ zs) e k = e

    go : (b : Bool) → eqb x y ≡ b → Fits (h 0 x) (cond b (last_node p ys c) absent)
    go true e = subst (λ (v : ℕ). Fits (h 0 v) (last_node p ys c)) (sym (eqb-true x y e)) (fits_last (h 0 y) ys f.0 f.1)
    go false e = tt
chain_agrees h p (y ∷ ys) c f (suc g) x = chain_agrees (later h) y ys c f.2 g x

-- every revision that is held lies on the path of a head
pub record Covers (h : History) (t : Tree) (g x : ℕ) : Type 0 where
  pub tags : List ℕ
  pub content : Content
  pub follows : Follows h 0 tags content
  pub «on» : 1 ≤ level (chain 0 tags content g x)
  pub ends : last_level t tags ≡ 1

abbrev pub Covered : History → Tree → Type 0
Covered h t = (g x : ℕ) → 1 ≤ level (t g x) → Covers h t g x

pub covered_union : (h : History) (t : Tree) (y : ℕ) (ys : List ℕ) (c : Content) → Follows h 0 (y ∷ ys) c → Covered h t → last_level t (y ∷ ys) ≡ 0 → Covered h (union t (chain 0 (y ∷ ys) c))
covered_union h t y ys c f k z g x l = go (cases_lt 0 (level (chain 0 (y ∷ ys) c g x)))
  where
    u : Tree
    u = chain 0 (y ∷ ys) c

    by_new : 1 ≤ level (chain 0 (y ∷ ys) c g x) → Covers h (union t (chain 0 (y ∷ ys) c)) g x
    by_new l = record { tags = y ∷ ys; content = c; follows = f; «on» = l; ends = omega (arith, last_union t (chain 0 (y ∷ ys) c) (y ∷ ys), last_chain 0 y ys c) }

    old : level (chain 0 (y ∷ ys) c g x) ≤ 0 → Covers h t g x → Covers h (union t (chain 0 (y ∷ ys) c)) g x
    old n q = pick (cases_lt 1 (last_level (chain 0 (y ∷ ys) c) q.tags))
      where
        pick : (1 < last_level (chain 0 (y ∷ ys) c) q.tags) ⊎ (last_level (chain 0 (y ∷ ys) c) q.tags ≤ 1) → Covers h (union t (chain 0 (y ∷ ys) c)) g x
        pick (inl a) =
            let b : level (chain 0 q.tags q.content g x) ≤ level (chain 0 (y ∷ ys) c g x) = path_below h (chain 0 (y ∷ ys) c) 0 q.tags q.content (chain_closed h 0 (y ∷ ys) c f) q.follows (omega arith) g x in
            absurd (omega (arith, q.«on»))
        pick (inr a) = record { tags = q.tags; content = q.content; follows = q.follows; «on» = q.«on»; ends = omega (arith, last_union t (chain 0 (y ∷ ys) c) q.tags, q.ends) }

    go : (0 < level (chain 0 (y ∷ ys) c g x)) ⊎ (level (chain 0 (y ∷ ys) c g x) ≤ 0) → Covers h (union t (chain 0 (y ∷ ys) c)) g x
    go (inl a) = by_new (omega arith)
    go (inr a) = old a (k g x (omega (arith, level_join (t g x) (chain 0 (y ∷ ys) c g x), l)))

-- a closed tree that holds every head of a covered tree holds it all
pub heads_enough : (h : History) (t u : Tree) → Covered h t → Closed h u → ((g x : ℕ) → level (t g x) ≡ 1 → 1 ≤ level (u g x)) → Below t u
heads_enough h t u k c hd g x = go (cases_lt 0 (level (t g x)))
  where
    last_held : (s : Tree) (v : Tree) (ys : List ℕ) → ((g x : ℕ) → level (s g x) ≡ 1 → 1 ≤ level (v g x)) → last_level s ys ≡ 1 → 1 ≤ last_level v ys
    last_held s v [] w e = absurd (omega arith)
    last_held s v (y ∷ []) w e = w 0 y e
    last_held s v (y ∷ z ∷ zs) w e = last_held (up s) (up v) (z ∷ zs) (λ a b. w (suc a) b) e

    by : Covers h t g x → level (t g x) ≤ level (u g x)
    by q = pick (cases_lt (level (chain 0 q.tags q.content g x)) 2)
      where
        b : level (chain 0 q.tags q.content g x) ≤ level (u g x)
        b = path_below h u 0 q.tags q.content c q.follows (last_held t u q.tags hd q.ends) g x

        pick : (level (chain 0 q.tags q.content g x) < 2) ⊎ (2 ≤ level (chain 0 q.tags q.content g x)) → level (t g x) ≤ level (u g x)
        pick (inl a) =
            let one : level (chain 0 q.tags q.content g x) ≡ 1 = omega (arith, q.«on») in
            omega (arith, head_is_last t 0 q.tags q.content g x one, q.ends, b)
        pick (inr a) = omega (arith, level_most (t g x), b)

    go : (0 < level (t g x)) ⊎ (level (t g x) ≤ 0) → level (t g x) ≤ level (u g x)
    go (inl a) = by (k g x (omega arith))
    go (inr a) = omega arith

pub held_level : (n : Node) → held n ≡ true → 1 ≤ level n
held_level absent e = absurd (let z : ◌≡◌ {A = ℕ} 0 1 = cc in omega arith)
held_level (inner p) e = omega arith
held_level (head p c) e = omega arith

pub absent_level : (n : Node) → held n ≡ false → level n ≡ 0
absent_level absent e = refl
absent_level (inner p) e = absurd (let z : ◌≡◌ {A = ℕ} 0 1 = cc in omega arith)
absent_level (head p c) e = absurd (let z : ◌≡◌ {A = ℕ} 0 1 = cc in omega arith)

-- what keeps to one history is nowhere contradicted
pub fits_compatible : (h : ℕ × Content) (a b : Node) → Fits h a → Fits h b → Compatible a b
fits_compatible h absent b f k = tt
fits_compatible h (inner p) absent f k = tt
fits_compatible h (inner p) (inner q) f k = f ∙ sym k
fits_compatible h (inner p) (head q e) f k = f ∙ sym k.0
fits_compatible h (head p c) absent f k = tt
fits_compatible h (head p c) (inner q) f k = f.0 ∙ sym k
fits_compatible h (head p c) (head q e) f k = (f.0 ∙ sym k.0, f.1 ∙ sym k.1)

-- the rule for a path write keeps all, adds no more than the path, and gives the last revision
touched_above : (n : Node) (p : ℕ) (ys : List ℕ) (c : Content) (b : Bool) → level n ≤ level (touched n p ys c b)
touched_above absent p ys c b = omega arith
touched_above (inner q) p ys c b = omega arith
touched_above (head q e) p ys c true = omega arith
touched_above (head q e) p ys c false = omega arith

pub along_above : (t : Tree) (p : ℕ) (ys : List ℕ) (c : Content) → Below t (along t p ys c)
along_above t p [] c g x = omega arith
along_above t p (y ∷ ys) c zero x = go (eqb x y) refl
  where
    go : (b : Bool) → eqb x y ≡ b → level (t 0 x) ≤ level (cond b (touched (t 0 y) p ys c (next_held (up t) ys)) (t 0 x))
    go true e = subst (λ (z : ℕ). level (t 0 z) ≤ level (touched (t 0 y) p ys c (next_held (up t) ys))) (sym (eqb-true x y e)) (touched_above (t 0 y) p ys c (next_held (up t) ys))
    go false e = omega arith
along_above t p (y ∷ ys) c (suc g) x = along_above (up t) y ys c g x

touched_least : (t : Tree) (n : Node) (p : ℕ) (ys : List ℕ) (c : Content) (m : ℕ) → level n ≤ m → level (last_node p ys c) ≤ m → level (touched n p ys c (next_held t ys)) ≤ m
touched_least t absent p ys c m h k = k
touched_least t (inner q) p ys c m h k = h
touched_least t (head q e) p [] c m h k = h
touched_least t (head q e) p (z ∷ zs) c m h k = go (held (t 0 z))
  where
    go : (b : Bool) → level (touched (head q e) p (z ∷ zs) c b) ≤ m
    go true = h
    go false = k

pub along_least : (t v : Tree) (p : ℕ) (ys : List ℕ) (c : Content) → Below t v → Below (chain p ys c) v → Below (along t p ys c) v
along_least t v p [] c h k g x = h g x
along_least t v p (y ∷ ys) c h k zero x = go (eqb x y) refl
  where
    go : (b : Bool) → eqb x y ≡ b → level (cond b (touched (t 0 y) p ys c (next_held (up t) ys)) (t 0 x)) ≤ level (v 0 x)
    go true e = subst (λ (z : ℕ). level (touched (t 0 y) p ys c (next_held (up t) ys)) ≤ level (v 0 z)) (sym (eqb-true x y e))
        (touched_least (up t) (t 0 y) p ys c (level (v 0 y)) (h 0 y) (subst (λ (z : Node). level z ≤ level (v 0 y)) (first_same p y ys c) (k 0 y)))
    go false e = h 0 x
along_least t v p (y ∷ ys) c h k (suc g) x = along_least (up t) (up v) y ys c (λ a b. h (suc a) b) (λ a b. k (suc a) b) g x

pub along_last : (t : Tree) (p y : ℕ) (ys : List ℕ) (c : Content) → 1 ≤ last_level (along t p (y ∷ ys) c) (y ∷ ys)
along_last t p y [] c = rw (eq-eqb y y refl) (go (t 0 y))
  where
    go : (n : Node) → 1 ≤ level (touched n p [] c true)
    go absent = omega arith
    go (inner q) = omega arith
    go (head q e) = omega arith
along_last t p y (z ∷ zs) c = along_last (up t) y z zs c
