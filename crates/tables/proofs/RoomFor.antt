-- What a path adds to a tree: how many revisions, and whether its head takes the place of another.
use Rattle.std.proofs.Common.{◌≡◌, ℕ, suc, ◌+◌, ◌-◌, ◌<◌, ◌≤◌, Bool, true, false, cond, List, [], ◌∷◌, length, get_or, is_some, Some, None, Option, sym, refl, ap, ◌∙◌, ⊎_elim, arith}
use Rattle.std.proofs.lemmas.Bool.{cases_eq, cases_lt}
use Rattle.revision.specs.Trees.{Node, absent, Tree, held, Closed}
use Rattle.revision.specs.Paths.{Path}
use Rattle.entries.specs.declared.HeldRevision.{HeldRevision}
use Rattle.entries.specs.declared.Content.{Content}
use Rattle.entries.specs.Searches.{place}
use Rattle.entries.specs.Entries.{is_revision, tree_at, node_of, slotted, slot_at, no_revision}
use Rattle.tables.specs.Paths.{standing, Newest}
use Rattle.tables.specs.Room.{missing, is_head, newest_head}
use Rattle.entries.proofs.Searching.{found, not_found}
use Rattle.tables.proofs.PathRule.{Tags}
use Rattle.tables.proofs.Growth.{gone, held_to}

module _ (w : Path) (tag : ℕ → ℕ) (n : ℕ) (ts : Tags w tag n) (t : Tree) (k : ℕ) (cl : Closed t) (nw : Newest (standing t tag) n k) where
  -- a rest of the path's tags, from generation g on
  abbrev Rest : ℕ → List ℕ → Type 0
  Rest g ys = (g + length ys ≡ suc n) × ((i : ℕ) → i < length ys → get_or ys i 0 ≡ tag (g + i))

  first_of : (g y : ℕ) (ys : List ℕ) → Rest g (y ∷ ys) → y ≡ tag g
  first_of g y ys r = let e : g + 0 ≡ g = omega arith in r.1 0 (omega arith) ∙ ap tag e

  rest_of : (g y : ℕ) (ys : List ℕ) → Rest g (y ∷ ys) → Rest (suc g) ys
  rest_of g y ys r = (omega (arith, r.0), λ i l. let e : g + suc i ≡ suc g + i = omega arith in r.1 (suc i) (omega arith) ∙ ap tag e)

  whole : Rest 1 w.tags
  whole = (omega (arith, ts.long), λ i l. let e : suc i ≡ 1 + i = omega arith in sym (ts.each i (omega (arith, ts.long))) ∙ ap tag e)

  is_held : (g y : ℕ) (ys : List ℕ) → Rest g (y ∷ ys) → 0 < g → g ≤ k → held (t g y) ≡ true
  is_held g y ys r l u = ap (λ (x : ℕ). held (t g x)) (first_of g y ys r) ∙ held_to w tag n ts t k cl nw (k - g) g (omega arith) l

  is_gone : (g y : ℕ) (ys : List ℕ) → Rest g (y ∷ ys) → k < g → t g y ≡ absent
  is_gone g y ys r l = ap (t g) (first_of g y ys r) ∙ gone w tag n ts t k cl nw g l (omega (arith, r.0))

  missing_new : (g : ℕ) (ys : List ℕ) → Rest g ys → k < g → missing t g ys ≡ length ys
  missing_new g [] r l = refl
  missing_new g (y ∷ ys) r l =
      let a : ◌≡◌ {A = ℕ} (cond (held (t g y)) 0 1) 1 = ap (λ (x : Node). cond (held x) 0 1) (is_gone g y ys r l) in
      let b = missing_new (suc g) ys (rest_of g y ys r) (omega arith) in omega arith

  missing_from : (g : ℕ) (ys : List ℕ) → Rest g ys → 0 < g → g ≤ suc k → missing t g ys ≡ n - k
  missing_from g [] r l u = omega (arith, r.0, nw.within)
  missing_from g (y ∷ ys) r l u = ⊎_elim
      (λ (q : k < g). missing_new g (y ∷ ys) r q ∙ (let e : length (y ∷ ys) ≡ n - k = omega (arith, r.0) in e))
      (λ (q : g ≤ k).
      let a : ◌≡◌ {A = ℕ} (cond (held (t g y)) 0 1) 0 = ap (λ (x : Bool). cond x 0 1) (is_held g y ys r l q) in
      let b = missing_from (suc g) ys (rest_of g y ys r) (omega arith) (omega arith) in omega arith)
      (cases_lt k g)

  pub missing_is : missing t 1 w.tags ≡ n - k
  missing_is = missing_from 1 w.tags whole (omega arith) (omega arith)

  head_new : (g : ℕ) (b : Bool) (ys : List ℕ) → Rest g ys → k < g → newest_head t g b ys ≡ b
  head_new g b [] r l = refl
  head_new g b (y ∷ ys) r l = ap (λ (x : Node). newest_head t (suc g) (cond (held x) (is_head x) b) ys) (is_gone g y ys r l) ∙ head_new (suc g) b ys (rest_of g y ys r) (omega arith)

  head_from : (g : ℕ) (b : Bool) (ys : List ℕ) → Rest g ys → 0 < g → g ≤ k → newest_head t g b ys ≡ is_head (t k (tag k))
  head_from g b [] r l u = absurd (omega (arith, r.0, nw.within))
  head_from g b (y ∷ ys) r l u =
      ap (λ (x : Bool). newest_head t (suc g) (cond x (is_head (t g y)) b) ys) (is_held g y ys r l u) ∙ ⊎_elim
      (λ (q : g ≡ k). head_new (suc g) (is_head (t g y)) ys (rest_of g y ys r) (omega arith) ∙ (ap (λ (x : ℕ). is_head (t g x)) (first_of g y ys r) ∙ ap (λ (x : ℕ). is_head (t x (tag x))) q))
      (λ (q : g ≡ k → ⊥). head_from (suc g) (is_head (t g y)) ys (rest_of g y ys r) (omega arith) (omega arith)) (cases_eq g k)

  pub newest_head_is : newest_head t 1 false w.tags ≡ is_head (t k (tag k))
  newest_head_is = ⊎_elim
      (λ (q : k ≡ 0). head_new 1 false w.tags whole (omega arith) ∙ sym (ap (λ (g : ℕ). is_head (t g (tag g))) q ∙ ap is_head (cl.none (tag 0))))
      (λ (q : k ≡ 0 → ⊥). head_from 1 false w.tags whole (omega arith) (omega arith)) (cases_eq k 0)

-- an entry is a head where it has a slot
pub head_slot : (rs : List HeldRevision) (cs : List Content) (d g x : ℕ) → is_head (tree_at rs cs d g x) ≡ is_some (slot_at rs (place (is_revision d g x) 0 rs))
head_slot rs cs d g x = go (place (is_revision d g x) 0 rs) refl
  where
    at : (p : ℕ) (s : Option ℕ) → is_head (slotted cs p s) ≡ is_some s
    at p None = refl
    at p (Some s) = refl

    go : (o : Option ℕ) → place (is_revision d g x) 0 rs ≡ o → is_head (tree_at rs cs d g x) ≡ is_some (slot_at rs o)
    go None e = ap (λ (q : Option HeldRevision). is_head (node_of cs q)) (not_found (is_revision d g x) rs e)
    go (Some i) e = ap (λ (q : Option HeldRevision). is_head (node_of cs q)) (found (is_revision d g x) no_revision rs i e).value ∙ at (get_or rs i no_revision).parent (get_or rs i no_revision).slot
