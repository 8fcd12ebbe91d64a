-- A tree with the missing generations of a path added: it is the path written by its rule, and stays closed.
use Rattle.std.proofs.Common.{◌≡◌, ℕ, zero, suc, ◌+◌, ◌-◌, ◌<◌, ◌≤◌, Bool, true, false, cond, not, eqb, ◌⊎◌, List, [], ◌∷◌, drop, Some, sym, refl, ap, ◌∙◌, subst, inl, inr, ⊎_elim, arith}
use mathlib.Core.Path.{fun_ext}
use Rattle.std.proofs.lemmas.Bool.{eq-eqb, ne_eqb, cases_eq, cases_lt}
use Rattle.revision.specs.Trees.{Content, Node, absent, inner, head, Tree, held, parent, level, Closed}
use Rattle.revision.specs.Paths.{Path, last_node, up, touched, written, changes}
use Rattle.tables.specs.Paths.{Against}
use Rattle.tables.specs.Paths.{stands, standing, Newest}
use Rattle.tables.proofs.PathPlaces.{before, next_at, along_at, along_past, behind_more}
use Rattle.revision.proofs.Writes.{level_held}
use Rattle.tables.proofs.PathRule.{retired, Suits, Tags, parent_or, missing_absent, agrees_held, touched_kept, touched_retired, before_tag, node_between, node_last, last_node_is}

-- the missing generations are added, the newest held one is a head no more, and all else stays
pub record Grown (t u : Tree) (tag : ℕ → ℕ) (n k : ℕ) (c : Content) : Type 0 where
  pub last : u n (tag n) ≡ head (tag (n - 1)) c
  pub between : (g : ℕ) → k < g → g < n → u g (tag g) ≡ inner (tag (g - 1))
  pub ancestor : u k (tag k) ≡ retired (t k (tag k))
  pub others : (g x : ℕ) → ((k ≤ g) × (g ≤ n) × (x ≡ tag g) → ⊥) → u g x ≡ t g x

parent_retired : (a : Node) → parent (retired a) ≡ parent a
parent_retired absent = refl
parent_retired (inner p) = refl
parent_retired (head p c) = refl

level_retired : (a : Node) → held a ≡ true → level (retired a) ≡ 2
level_retired absent e = let z : ◌≡◌ {A = ℕ} 0 1 = cc in absurd (omega arith)
level_retired (inner p) e = refl
level_retired (head p c) e = refl

inner_retired : (a : Node) → level a ≡ 2 → level (retired a) ≡ 2
inner_retired a e = level_retired a (level_held a e)

module _ (w : Path) (tag : ℕ → ℕ) (n : ℕ) (ts : Tags w tag n) (t : Tree) (k : ℕ) (cl : Closed t) (nw : Newest (standing t tag) n k) where
  pub gone : (g : ℕ) → k < g → g ≤ n → t g (tag g) ≡ absent
  gone g l m = missing_absent (t g (tag g)) (tag (g - 1)) (nw.beyond g l m)

  -- up to the newest held one all are held
  pub held_to : (j g : ℕ) → g + j ≡ k → 0 < g → held (t g (tag g)) ≡ true
  held_to zero g e l = let h : g ≡ k = omega arith in ap (λ (i : ℕ). held (t i (tag i))) h ∙ agrees_held (t k (tag k)) (tag (k - 1)) (nw.last (omega arith))
  held_to (suc j) zero e l = absurd (omega arith)
  held_to (suc j) (suc i) e l = go (parent_or (t (suc (suc i)) (tag (suc (suc i)))) (tag (suc i)) stood) (held_to j (suc (suc i)) (omega arith) (omega arith))
    where
      stood : stands (t (suc (suc i)) (tag (suc (suc i)))) (tag (suc i)) ≡ Against → ⊥
      stood f = let one : suc (suc i) - 1 ≡ suc i = omega arith in
          nw.agrees (suc (suc i)) (omega arith) (omega (arith, nw.within)) (ap (λ (m : ℕ). stands (t (suc (suc i)) (tag (suc (suc i)))) (tag m)) one ∙ f)

      go : (t (suc (suc i)) (tag (suc (suc i))) ≡ absent) ⊎ (parent (t (suc (suc i)) (tag (suc (suc i)))) ≡ Some (tag (suc i))) → held (t (suc (suc i)) (tag (suc (suc i)))) ≡ true → held (t (suc i) (tag (suc i))) ≡ true
      go (inl a) h = absurd (let z : false ≡ true = sym (ap held a) ∙ h in let y : ◌≡◌ {A = ℕ} 0 1 = cc in omega arith)
      go (inr p) h = level_held (t (suc i) (tag (suc i))) (cl.parents i (tag (suc (suc i))) (tag (suc i)) p)

  pub changes_not : k ≡ n → changes t w ≡ false
  changes_not e = ap not (ap held (last_node_is w tag n ts t) ∙ held_to 0 n (omega arith) (omega (arith, ts.some)))

  pub changes_some : k < n → changes t w ≡ true
  changes_some l = ap not (ap held (last_node_is w tag n ts t ∙ gone n l (omega arith)))

  pub suits_gone : (c : Content) → k < n → Suits (t n (tag n)) c
  suits_gone c l = subst (λ (a : Node). Suits a c) (sym (gone n l (omega arith))) tt

  module _ (u : Tree) (l : k < n) (gr : Grown t u tag n k w.content) where
    -- the node of the path's generation that is added
    new_node : (i : ℕ) → k < suc i → i < n → u (suc i) (tag (suc i)) ≡ last_node (tag i) (drop (suc i) w.tags) w.content
    new_node i a b = ⊎_elim
        (λ (m : suc i < n). let one : suc i - 1 ≡ i = omega arith in gr.between (suc i) a m ∙ (ap (λ (j : ℕ). inner (tag j)) one ∙ sym (node_between w tag n ts (tag i) i m)))
        (λ (m : n ≤ suc i). let e : suc i ≡ n = omega arith in let one : n - 1 ≡ i = omega arith in
        ap (λ (g : ℕ). u g (tag g)) e ∙ (gr.last ∙ (ap (λ (j : ℕ). head (tag j) w.content) one ∙ sym (node_last w tag n ts (tag i) i e))))
        (cases_lt (suc i) n)

    on_path : (i : ℕ) → i < n → u (suc i) (tag (suc i)) ≡ touched (t (suc i) (tag (suc i))) (tag i) (drop (suc i) w.tags) w.content (next_at (up t) i (drop (suc i) w.tags))
    on_path i b = ⊎_elim (λ (a : k < suc i). added a) (λ (a : suc i ≤ k). ⊎_elim (λ (e : suc i ≡ k). newest e) (λ (e : suc i ≡ k → ⊥). older (omega arith)) (cases_eq (suc i) k)) (cases_lt k (suc i))
      where
        next : suc i < n → next_at (up t) i (drop (suc i) w.tags) ≡ held (t (suc (suc i)) (tag (suc (suc i))))
        next m = ap (next_at (up t) i) (behind_more w.tags i (omega (arith, ts.long))) ∙ ap (λ (y : ℕ). held (t (suc (suc i)) y)) (sym (ts.each (suc i) m))

        added : k < suc i → u (suc i) (tag (suc i)) ≡ touched (t (suc i) (tag (suc i))) (tag i) (drop (suc i) w.tags) w.content (next_at (up t) i (drop (suc i) w.tags))
        added a = new_node i a b ∙ sym (ap (λ (x : Node). touched x (tag i) (drop (suc i) w.tags) w.content (next_at (up t) i (drop (suc i) w.tags))) (gone (suc i) a (omega arith)))

        newest : suc i ≡ k → u (suc i) (tag (suc i)) ≡ touched (t (suc i) (tag (suc i))) (tag i) (drop (suc i) w.tags) w.content (next_at (up t) i (drop (suc i) w.tags))
        newest e = ap (λ (g : ℕ). u g (tag g)) e ∙ (gr.ancestor ∙ (ap (λ (g : ℕ). retired (t g (tag g))) (sym e)
            ∙ (sym (touched_retired (t (suc i) (tag (suc i))) (tag i) (drop (suc i) w.tags) w.content (held_to 0 (suc i) (omega arith) (omega arith)))
            ∙ sym (ap (touched (t (suc i) (tag (suc i))) (tag i) (drop (suc i) w.tags) w.content) (next (omega arith) ∙ ap held (gone (suc (suc i)) (omega arith) (omega arith)))))))

        older : suc i < k → u (suc i) (tag (suc i)) ≡ touched (t (suc i) (tag (suc i))) (tag i) (drop (suc i) w.tags) w.content (next_at (up t) i (drop (suc i) w.tags))
        older a = gr.others (suc i) (tag (suc i)) (λ q. omega (arith, q.0))
            ∙ (sym (touched_kept (t (suc i) (tag (suc i))) (tag i) (drop (suc i) w.tags) w.content (held_to (k - suc i) (suc i) (omega arith) (omega arith)))
            ∙ sym (ap (touched (t (suc i) (tag (suc i))) (tag i) (drop (suc i) w.tags) w.content) (next (omega arith) ∙ held_to (k - suc (suc i)) (suc (suc i)) (omega arith) (omega arith))))

    at_each : (g x : ℕ) → u g x ≡ written t w g x
    at_each zero x = ⊎_elim
        (λ (q : (k ≡ 0) × (x ≡ tag 0)). ap (u 0) q.1 ∙ (ap (λ (g : ℕ). u g (tag g)) (sym q.0) ∙ (gr.ancestor ∙ (ap (λ (g : ℕ). retired (t g (tag g))) q.0 ∙ (ap retired (cl.none (tag 0)) ∙ sym (cl.none x))))))
        (λ (q : (k ≡ 0) × (x ≡ tag 0) → ⊥). gr.others 0 x (λ z. q (omega (arith, z.0), z.2)))
        (both (cases_eq k 0) (cases_eq x (tag 0)))
      where
        both : (k ≡ 0) ⊎ (k ≡ 0 → ⊥) → (x ≡ tag 0) ⊎ (x ≡ tag 0 → ⊥) → ((k ≡ 0) × (x ≡ tag 0)) ⊎ ((k ≡ 0) × (x ≡ tag 0) → ⊥)
        both (inl a) (inl b) = inl (a, b)
        both (inl a) (inr b) = inr (λ q. b q.1)
        both (inr a) b = inr (λ q. a q.0)
    at_each (suc i) x = ⊎_elim (λ (b : i < n). inside b) (λ (b : n ≤ i). gr.others (suc i) x (λ q. omega (arith, q.1)) ∙ sym (along_past (up t) 0 w.tags w.content i x (omega (arith, ts.long)))) (cases_lt i n)
      where
        rule : i < n → cond (eqb x (tag (suc i))) (touched (t (suc i) (tag (suc i))) (tag i) (drop (suc i) w.tags) w.content (next_at (up t) i (drop (suc i) w.tags))) (t (suc i) x) ≡ written t w (suc i) x
        rule b = sym (along_at (up t) 0 w.tags w.content i x (omega (arith, ts.long))
            ∙ (ap (λ (y : ℕ). cond (eqb x y) (touched (t (suc i) y) (before 0 w.tags i) (drop (suc i) w.tags) w.content (next_at (up t) i (drop (suc i) w.tags))) (t (suc i) x)) (sym (ts.each i b))
            ∙ ap (λ (p : ℕ). cond (eqb x (tag (suc i))) (touched (t (suc i) (tag (suc i))) p (drop (suc i) w.tags) w.content (next_at (up t) i (drop (suc i) w.tags))) (t (suc i) x)) (before_tag w tag n ts i b)))

        inside : i < n → u (suc i) x ≡ written t w (suc i) x
        inside b = ⊎_elim
            (λ (e : x ≡ tag (suc i)). ap (u (suc i)) e ∙ (on_path i b ∙ (sym (ap (λ (z : Bool). cond z (touched (t (suc i) (tag (suc i))) (tag i) (drop (suc i) w.tags) w.content (next_at (up t) i (drop (suc i) w.tags))) (t (suc i) x)) (eq-eqb x (tag (suc i)) e)) ∙ rule b)))
            (λ (e : x ≡ tag (suc i) → ⊥). gr.others (suc i) x (λ q. e q.2) ∙ (sym (ap (λ (z : Bool). cond z (touched (t (suc i) (tag (suc i))) (tag i) (drop (suc i) w.tags) w.content (next_at (up t) i (drop (suc i) w.tags))) (t (suc i) x)) (ne_eqb x (tag (suc i)) e)) ∙ rule b))
            (cases_eq x (tag (suc i)))

    pub grown_written : u ≡ written t w
    grown_written = fun_ext (λ g. fun_ext (λ x. at_each g x))

    -- a node has the parent that it had, or is new
    old_parent : (g x p : ℕ) → parent (u (suc g) x) ≡ Some p → (parent (t (suc g) x) ≡ Some p) ⊎ ((k < suc g) × (g < n) × (x ≡ tag (suc g)) × (p ≡ tag g))
    old_parent g x p e = ⊎_elim
        (λ (q : x ≡ tag (suc g)). ⊎_elim
        (λ (b : g < n). ⊎_elim (λ (a : k < suc g). inr (a, b, q, new a b q))
        (λ (a : suc g ≤ k). ⊎_elim (λ (s : suc g ≡ k). inl (anc s q)) (λ (s : suc g ≡ k → ⊥). inl (ap parent (sym (gr.others (suc g) x (λ z. s (omega (arith, z.0))))) ∙ e)) (cases_eq (suc g) k)) (cases_lt k (suc g)))
        (λ (b : n ≤ g). inl (ap parent (sym (gr.others (suc g) x (λ z. omega (arith, z.1)))) ∙ e)) (cases_lt g n))
        (λ (q : x ≡ tag (suc g) → ⊥). inl (ap parent (sym (gr.others (suc g) x (λ z. q z.2))) ∙ e))
        (cases_eq x (tag (suc g)))
      where
        last_parent : (r : ℕ) (ys : List ℕ) → parent (last_node r ys w.content) ≡ Some r
        last_parent r [] = refl
        last_parent r (y ∷ ys) = refl

        new : k < suc g → g < n → x ≡ tag (suc g) → p ≡ tag g
        new a b q = let f : Some p ≡ Some (tag g) = sym e ∙ (ap (λ (y : ℕ). parent (u (suc g) y)) q ∙ (ap parent (new_node g a b) ∙ last_parent (tag g) (drop (suc g) w.tags))) in cc

        anc : suc g ≡ k → x ≡ tag (suc g) → parent (t (suc g) x) ≡ Some p
        anc s q = ap (λ (y : ℕ). parent (t (suc g) y)) q ∙ (sym (parent_retired (t (suc g) (tag (suc g)))) ∙ (ap (λ (i : ℕ). parent (retired (t i (tag i)))) s
            ∙ (ap parent (sym gr.ancestor) ∙ (ap (λ (i : ℕ). parent (u i (tag i))) (sym s) ∙ (ap (λ (y : ℕ). parent (u (suc g) y)) (sym q) ∙ e)))))

    -- an inner node stays inner
    inner_stays : (g p : ℕ) → level (t g p) ≡ 2 → level (u g p) ≡ 2
    inner_stays g p e = ⊎_elim
        (λ (q : p ≡ tag g). ⊎_elim
        (λ (a : k < g). ⊎_elim (λ (b : g ≤ n). absurd (let z : level (t g p) ≡ 0 = ap level (ap (t g) q ∙ gone g a b) in omega arith)) (λ (b : g ≤ n → ⊥). ap level (gr.others g p (λ z. b z.1)) ∙ e) (le_or g n))
        (λ (a : g ≤ k). ⊎_elim
        (λ (s : g ≡ k). ap level (ap (u g) q ∙ (ap (λ (i : ℕ). u i (tag i)) s ∙ (gr.ancestor ∙ ap (λ (i : ℕ). retired (t i (tag i))) (sym s)))) ∙ inner_retired (t g (tag g)) (ap (λ (y : ℕ). level (t g y)) (sym q) ∙ e))
        (λ (s : g ≡ k → ⊥). ap level (gr.others g p (λ z. s (omega (arith, z.0)))) ∙ e) (cases_eq g k))
        (cases_lt k g))
        (λ (q : p ≡ tag g → ⊥). ap level (gr.others g p (λ z. q z.2)) ∙ e)
        (cases_eq p (tag g))
      where
        le_or : (a b : ℕ) → (a ≤ b) ⊎ (a ≤ b → ⊥)
        le_or a b = ⊎_elim (λ (l : b < a). inr (λ m. omega arith)) (λ (l : a ≤ b). inl l) (cases_lt b a)

    pub grown_closed : Closed u
    grown_closed = record { none = λ x. at_each 0 x ∙ cl.none x; parents = λ g x p e. go g x p (old_parent (suc g) x p e) }
      where
        go : (g x p : ℕ) → (parent (t (suc (suc g)) x) ≡ Some p) ⊎ ((k < suc (suc g)) × (suc g < n) × (x ≡ tag (suc (suc g))) × (p ≡ tag (suc g))) → level (u (suc g) p) ≡ 2
        go g x p (inl e) = inner_stays (suc g) p (cl.parents g x p e)
        go g x p (inr q) = ap (λ (y : ℕ). level (u (suc g) y)) q.3 ∙ ⊎_elim
            (λ (a : k < suc g). ap level (new_node g a (omega (arith, q.1)) ∙ node_between w tag n ts (tag g) g q.1))
            (λ (a : suc g ≤ k). let s : suc g ≡ k = omega (arith, q.0) in
            ap (λ (i : ℕ). level (u i (tag i))) s ∙ (ap level gr.ancestor ∙ level_retired (t k (tag k)) (held_to 0 k (omega arith) (omega arith))))
            (cases_lt k (suc g))

    pub grown_roots : ((x p : ℕ) → parent (t 1 x) ≡ Some p → p ≡ 0) → (x p : ℕ) → parent (u 1 x) ≡ Some p → p ≡ 0
    grown_roots r x p e = go (old_parent 0 x p e)
      where
        go : (parent (t 1 x) ≡ Some p) ⊎ ((k < 1) × (0 < n) × (x ≡ tag 1) × (p ≡ tag 0)) → p ≡ 0
        go (inl f) = r x p f
        go (inr q) = q.3 ∙ ts.none
