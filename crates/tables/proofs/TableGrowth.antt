-- The tables after a path write: the document's tree has grown, the other trees stay, and the revisions stay sound.
use Rattle.std.proofs.Common.{◌≡◌, ℕ, suc, ◌+◌, ◌-◌, ◌<◌, ◌≤◌, Bool, true, false, cond, eqb, leb, ◌⊎◌, List, [], ◌∷◌, ◌++◌, length, get_or, set, is_some, Some, None, Option, sym, refl, ap, ◌∙◌, subst, inl, inr, ⊎_elim, arith}
use mathlib.Core.Path.{fun_ext}
use Rattle.std.specs.Option.{option_or, option_map}
use Rattle.std.proofs.lemmas.List.{get_or-set_same, get_or-set_other, length-set, length-append, get_or_append_left, get_or-append_right, get_or_default, get_or_at}
use Rattle.std.proofs.lemmas.List.Folds.{find-append, find_past}
use Rattle.std.proofs.lemmas.Bool.{false_from_ne_true, eq-eqb, ne_eqb, cases_eq, cases_lt, and_from, le-leb}
use Rattle.revision.specs.Ids.{good_generation, good_tag}
use Rattle.revision.specs.Paths.{Path, written}
use Rattle.revision.specs.Trees as Trees
use Rattle.revision.specs.Trees.{absent, inner, head, Tree}
use Rattle.entries.specs.declared.HeldRevision.{HeldRevision}
use Rattle.entries.specs.declared.Content.{Content}
use Rattle.entries.specs.Searches.{first, place, Once, Every, count}
use Rattle.entries.specs.Entries.{is_revision, tree_at, node_of, slotted, content_of, no_content, no_revision, slot_at}
use Rattle.tables.specs.Sound.{has_slot, SoundRevisions}
use Rattle.tables.specs.Paths.{without_slot, stripped, slot_for, placed, row, rows, standing, Newest}
use Rattle.entries.proofs.Searching.{found, not_found, not_both}
use Rattle.entries.proofs.Lookups.{first_element, none_passes}
use Rattle.tables.proofs.PathRule.{retired, Tags}
use Rattle.tables.proofs.Growth.{Grown, grown_written, grown_closed, grown_roots}
use Rattle.tables.proofs.Entries.{three_same, three_true, set_only, count_append, count_set, rows_length, rows_at, rows_miss, rows_hit, rows_slots}

or_other_none : {Y : Type 0} (o : Option Y) → option_or o None ≡ o
or_other_none None = refl
or_other_none (Some y) = refl

-- nothing in the tree, no entry
pub no_entry : (cs : List Content) (o : Option HeldRevision) → node_of cs o ≡ absent → o ≡ None
no_entry cs None e = refl
no_entry cs (Some r) e = absurd (go r.slot e)
  where
    go : (s : Option ℕ) → slotted cs r.parent s ≡ absent → ⊥
    go None e = let z : ◌≡◌ {A = ℕ} 0 1 = cc in omega arith
    go (Some s) e = let z : ◌≡◌ {A = ℕ} 0 1 = cc in omega arith

-- what an entry after the write is: one that was there, the one that lost its slot, or a new one
pub data View (rs : List HeldRevision) (at : Option ℕ) (d : ℕ) (tag : ℕ → ℕ) (n s k : ℕ) (z : HeldRevision) (i : ℕ) (r : HeldRevision) : Type 0 where
  kept : i < length rs → r ≡ get_or rs i z → (at ≡ Some i → ⊥) → View rs at d tag n s k z i r
  retires : i < length rs → at ≡ Some i → r ≡ without_slot (get_or rs i z) → View rs at d tag n s k z i r
  new : (j : ℕ) → i ≡ length rs + j → j < n - k → r ≡ row d tag n s (k + 1 + j) → View rs at d tag n s k z i r

-- A path of n generations is to be written to sound revisions: k is the newest of which an entry is held, or 0, and x is its content.
pub record Start : Type 0 where
  pub documents : ℕ
  pub rs : List HeldRevision
  pub cs : List Content
  pub d : ℕ
  pub tag : ℕ → ℕ
  pub n : ℕ
  pub k : ℕ
  pub x : Content
  pub sound : SoundRevisions documents rs cs
  pub less : k < n
  pub beyond : (g : ℕ) → k < g → g ≤ n → tree_at rs cs d g (tag g) ≡ absent

module _ (start : Start) where
  abbrev m : ℕ
  m = start.documents

  abbrev rs : List HeldRevision
  rs = start.rs

  abbrev cs : List Content
  cs = start.cs

  abbrev d : ℕ
  d = start.d

  abbrev tag : ℕ → ℕ
  tag = start.tag

  abbrev n : ℕ
  n = start.n

  abbrev k : ℕ
  k = start.k

  abbrev x : Content
  x = start.x

  abbrev at : Option ℕ
  at = place (is_revision d k (tag k)) 0 rs

  abbrev slot : Option ℕ
  slot = slot_at rs at

  abbrev sound : SoundRevisions m rs cs
  sound = start.sound

  less : k < n
  less = start.less

  abbrev beyond : (g : ℕ) → k < g → g ≤ n → tree_at rs cs d g (tag g) ≡ absent
  beyond = start.beyond

  abbrev s : ℕ
  s = slot_for cs slot

  abbrev pub rs' : List HeldRevision
  rs' = stripped rs at ++ rows d tag n (slot_for cs slot) k (n - k)

  abbrev pub cs' : List Content
  cs' = placed cs slot x

  length_stripped : (o : Option ℕ) → length (stripped rs o) ≡ length rs
  length_stripped None = refl
  length_stripped (Some i) = length-set rs i (without_slot (get_or rs i no_revision))

  pub length_after : length rs' ≡ length rs + (n - k)
  length_after = length-append (stripped rs at) (rows d tag n (slot_for cs slot) k (n - k)) ∙ (ap (λ (y : ℕ). y + length (rows d tag n (slot_for cs slot) k (n - k))) (length_stripped at)
      ∙ ap (λ (y : ℕ). length rs + y) (rows_length d tag n (slot_for cs slot) k (n - k)))

  -- the place that is found
  ancestor : (i : ℕ) → at ≡ Some i → (i < length rs) × ((z : HeldRevision) → is_revision d k (tag k) (get_or rs i z) ≡ true)
  ancestor i e = ((found (is_revision d k (tag k)) no_revision rs i e).within, λ z. (found (is_revision d k (tag k)) z rs i e).passes)

  strip_view : (z : HeldRevision) (i : ℕ) → i < length rs → (o : Option ℕ) → at ≡ o → (((at ≡ Some i → ⊥) × (get_or (stripped rs o) i z ≡ get_or rs i z)) ⊎ ((at ≡ Some i) × (get_or (stripped rs o) i z ≡ without_slot (get_or rs i z))))
  strip_view z i l None e = inl ((λ f. let y : ◌≡◌ {A = ℕ} 0 1 = cc in omega arith), refl)
  strip_view z i l (Some j) e = ⊎_elim
      (λ (q : i ≡ j). inr (
        e ∙ ap (λ (y : ℕ). Some y) (sym q),
        ap (λ (y : ℕ). get_or (set rs j (without_slot (get_or rs j no_revision))) y z) q ∙ (get_or-set_same rs j (without_slot (get_or rs j no_revision)) z (subst (λ (y : ℕ). y < length rs) q l)
            ∙ ap without_slot (ap (λ (y : ℕ). get_or rs y no_revision) (sym q) ∙ get_or_default rs i no_revision z l)),
      ))
      (λ (q : i ≡ j → ⊥). inl ((λ f. q (let h : Some i ≡ Some j = sym f ∙ e in cc)), get_or-set_other rs j i (without_slot (get_or rs j no_revision)) z q))
      (cases_eq i j)

  pub view : (z : HeldRevision) (i : ℕ) → i < length rs' → View rs at d tag n (slot_for cs slot) k z i (get_or rs' i z)
  view z i l = ⊎_elim
      (λ (a : i < length rs). let e : get_or rs' i z ≡ get_or (stripped rs at) i z = get_or_append_left (stripped rs at) (rows d tag n (slot_for cs slot) k (n - k)) z i (omega (arith, length_stripped at)) in
      old a e (strip_view z i a at refl))
      (λ (a : length rs ≤ i).
      let j : i - length rs < n - k = omega (arith, length_after) in
      new (i - length rs) (omega arith) j (get_or-append_right (stripped rs at) (rows d tag n (slot_for cs slot) k (n - k)) (length rs) i z (length_stripped at) a ∙ rows_at d tag n (slot_for cs slot) k (n - k) (i - length rs) z j))
      (cases_lt i (length rs))
    where
      old : i < length rs → get_or rs' i z ≡ get_or (stripped rs at) i z → ((at ≡ Some i → ⊥) × (get_or (stripped rs at) i z ≡ get_or rs i z)) ⊎ ((at ≡ Some i) × (get_or (stripped rs at) i z ≡ without_slot (get_or rs i z))) →
          View rs at d tag n (slot_for cs slot) k z i (get_or rs' i z)
      old a e (inl q) = kept a (e ∙ q.1) q.0
      old a e (inr q) = retires a q.0 (e ∙ q.1)

  -- Look-ups after the write

  no_old : (g : ℕ) → k < g → g ≤ n → first (is_revision d g (tag g)) rs ≡ None
  no_old g l u = no_entry cs (first (is_revision d g (tag g)) rs) (beyond g l u)

  strip_other : (e g y : ℕ) → ((e ≡ d) × (g ≡ k) × (y ≡ tag k) → ⊥) → first (is_revision e g y) (stripped rs at) ≡ first (is_revision e g y) rs
  strip_other e g y f = go at refl
    where
      go : (o : Option ℕ) → at ≡ o → first (is_revision e g y) (stripped rs o) ≡ first (is_revision e g y) rs
      go None q = refl
      go (Some i) q =
          let r = get_or rs i no_revision in
          let b : is_revision e g y (get_or rs i no_revision) ≡ false = false_from_ne_true _ (λ t. let u = three_same r.document e r.generation g r.tag y t in
          let v = three_same r.document d r.generation k r.tag (tag k) ((ancestor i q).1 no_revision) in f (sym u.0 ∙ v.0, sym u.1 ∙ v.1, sym u.2 ∙ v.2)) in
          find_past (is_revision e g y) rs i (without_slot (get_or rs i no_revision)) no_revision b b

  entry_ancestor : first (is_revision d k (tag k)) rs' ≡ option_map without_slot (first (is_revision d k (tag k)) rs)
  entry_ancestor = find-append (is_revision d k (tag k)) (stripped rs at) (rows d tag n (slot_for cs slot) k (n - k))
      ∙ (ap (option_or (first (is_revision d k (tag k)) (stripped rs at))) (rows_miss d tag n (slot_for cs slot) k (n - k) d k (tag k) (λ q. omega (arith, q.1)))
      ∙ (or_other_none (first (is_revision d k (tag k)) (stripped rs at)) ∙ go at refl))
    where
      go : (o : Option ℕ) → at ≡ o → first (is_revision d k (tag k)) (stripped rs o) ≡ option_map without_slot (first (is_revision d k (tag k)) rs)
      go None q = let z : first (is_revision d k (tag k)) rs ≡ None = not_found (is_revision d k (tag k)) rs q in z ∙ sym (ap (option_map without_slot) z)
      go (Some i) q =
          let f = found (is_revision d k (tag k)) no_revision rs i q in
          set_only (is_revision d k (tag k)) no_revision rs i (without_slot (get_or rs i no_revision)) f.within f.passes
          (λ j l. false_from_ne_true _ (λ t. let e : j ≡ i = sound.once d k (tag k) j i no_revision (omega (arith, f.within)) f.within t f.passes in omega arith))
          ∙ sym (ap (option_map without_slot) f.value)

  entry_new : (g : ℕ) → k < g → g ≤ n → first (is_revision d g (tag g)) rs' ≡ Some (row d tag n (slot_for cs slot) g)
  entry_new g l u = find-append (is_revision d g (tag g)) (stripped rs at) (rows d tag n (slot_for cs slot) k (n - k))
      ∙ (ap (λ (o : Option HeldRevision). option_or o (first (is_revision d g (tag g)) (rows d tag n (slot_for cs slot) k (n - k)))) (strip_other d g (tag g) (λ q. omega (arith, q.1)) ∙ no_old g l u)
      ∙ rows_hit d tag n (slot_for cs slot) k (n - k) g l (omega arith))

  entry_other : (e g y : ℕ) → ((e ≡ d) × (k ≤ g) × (g ≤ n) × (y ≡ tag g) → ⊥) → first (is_revision e g y) rs' ≡ first (is_revision e g y) rs
  entry_other e g y f = find-append (is_revision e g y) (stripped rs at) (rows d tag n (slot_for cs slot) k (n - k))
      ∙ (ap (option_or (first (is_revision e g y) (stripped rs at))) (rows_miss d tag n (slot_for cs slot) k (n - k) e g y (λ q. f (q.0, omega (arith, q.1), omega (arith, q.2), q.3)))
      ∙ (or_other_none (first (is_revision e g y) (stripped rs at)) ∙ strip_other e g y (λ q. f (q.0, omega (arith, q.1), omega (arith, q.1), q.2 ∙ ap tag (sym q.1)))))

  -- Contents after the write

  slot_there : (v : ℕ) → slot ≡ Some v → v < length cs
  slot_there v e = go at refl
    where
      go : (o : Option ℕ) → at ≡ o → v < length cs
      go None q = absurd (let h : None ≡ Some v = sym (ap (slot_at rs) q) ∙ e in let y : ◌≡◌ {A = ℕ} 0 1 = cc in omega arith)
      go (Some i) q = sound.slots i v no_revision (ancestor i q).0 (sym (ap (slot_at rs) q) ∙ e)

  pub length_contents : (length cs ≤ length cs') × (slot_for cs slot < length cs')
  length_contents = go slot refl
    where
      go : (o : Option ℕ) → slot ≡ o → (length cs ≤ length (placed cs o x)) × (slot_for cs o < length (placed cs o x))
      go None e = (omega (arith, length-append cs (x ∷ [])), omega (arith, length-append cs (x ∷ [])))
      go (Some v) e = (omega (arith, length-set cs v x), omega (arith, length-set cs v x, slot_there v e))

  content_new : get_or cs' (slot_for cs slot) no_content ≡ x
  content_new = go slot refl
    where
      go : (o : Option ℕ) → slot ≡ o → get_or (placed cs o x) (slot_for cs o) no_content ≡ x
      go None e = get_or_at cs x [] no_content (length cs) refl
      go (Some v) e = get_or-set_same cs v x no_content (slot_there v e)

  -- an entry that stays has another slot
  other_slot : (z : HeldRevision) (i v : ℕ) → i < length rs → (at ≡ Some i → ⊥) → (get_or rs i z).slot ≡ Some v → v ≡ slot_for cs slot → ⊥
  other_slot z i v l f e q = go slot refl q
    where
      from : (u : ℕ) → slot ≡ Some u → (o : Option ℕ) → at ≡ o → v ≡ u → ⊥
      from u b None a w = let h : None ≡ Some u = sym (ap (slot_at rs) a) ∙ b in let y : ◌≡◌ {A = ℕ} 0 1 = cc in omega arith
      from u b (Some j) a w = f (a ∙ ap (λ (y : ℕ). Some y) (sym (sound.own_slots i j v z l (ancestor j a).0 e
          (ap (λ (r : HeldRevision). r.slot) (get_or_default rs j z no_revision (ancestor j a).0) ∙ (sym (ap (slot_at rs) a) ∙ (b ∙ ap (λ (y : ℕ). Some y) (sym w)))))))

      go : (o : Option ℕ) → slot ≡ o → v ≡ slot_for cs o → ⊥
      go None b w = let h = sound.slots i v z l e in omega arith
      go (Some u) b w = from u b at refl w

  content_old : (v : ℕ) → v < length cs → (v ≡ slot_for cs slot → ⊥) → get_or cs' v no_content ≡ get_or cs v no_content
  content_old v l f = go slot f
    where
      go : (o : Option ℕ) → (v ≡ slot_for cs o → ⊥) → get_or (placed cs o x) v no_content ≡ get_or cs v no_content
      go None f = get_or_append_left cs (x ∷ []) no_content v l
      go (Some u) f = get_or-set_other cs u v x no_content f

  node_kept : (z : HeldRevision) (i : ℕ) (r : HeldRevision) → i < length rs → (at ≡ Some i → ⊥) → get_or rs i z ≡ r → node_of cs' (Some r) ≡ node_of cs (Some r)
  node_kept z i r l f e = go r.slot refl
    where
      go : (o : Option ℕ) → r.slot ≡ o → slotted cs' r.parent o ≡ slotted cs r.parent o
      go None q = refl
      go (Some v) q =
          let a : (get_or rs i z).slot ≡ Some v = ap (λ (y : HeldRevision). y.slot) e ∙ q in
          ap (λ (c : Content). head r.parent (content_of c)) (content_old v (sound.slots i v z l a) (other_slot z i v l f a))

  pub tree_other : (e g y : ℕ) → ((e ≡ d) × (k ≤ g) × (g ≤ n) × (y ≡ tag g) → ⊥) → tree_at rs' cs' e g y ≡ tree_at rs cs e g y
  tree_other e g y f = ap (node_of cs') (entry_other e g y f) ∙ go (first (is_revision e g y) rs) refl
    where
      go : (o : Option HeldRevision) → first (is_revision e g y) rs ≡ o → node_of cs' o ≡ node_of cs o
      go None q = refl
      go (Some r) q =
          let w = first_element (is_revision e g y) rs r q in
          node_kept r w.place r w.within (λ a.
          let u = three_same r.document e r.generation g r.tag y w.passes in
          let v = three_same r.document d r.generation k r.tag (tag k) (ap (is_revision d k (tag k)) (sym (w.is r)) ∙ (ancestor w.place a).1 r) in
          let h : g ≡ k = sym u.1 ∙ v.1 in
          f (sym u.0 ∙ v.0, omega arith, omega arith, sym u.2 ∙ (v.2 ∙ ap tag (sym h)))) (w.is r)

  retired_node : (o : Option HeldRevision) → node_of cs' (option_map without_slot o) ≡ retired (node_of cs o)
  retired_node None = refl
  retired_node (Some r) = go r.slot
    where
      go : (o : Option ℕ) → inner r.parent ≡ retired (slotted cs r.parent o)
      go None = refl
      go (Some v) = refl

  pub table_grown : (c : Trees.Content) → content_of x ≡ c → Grown (tree_at rs cs d) (tree_at rs' cs' d) tag n k c
  table_grown c e = record {
    last = ap (node_of cs') (entry_new n less (omega arith)) ∙ (ap (λ (b : Bool). slotted cs' (tag (n - 1)) (cond b (Some (slot_for cs slot)) None)) (eq-eqb n n refl)
        ∙ ap (λ (y : Trees.Content). head (tag (n - 1)) y) (ap content_of content_new ∙ e));
    between = λ g l u. ap (node_of cs') (entry_new g l (omega arith)) ∙ ap (λ (b : Bool). slotted cs' (tag (g - 1)) (cond b (Some (slot_for cs slot)) None)) (ne_eqb g n (λ q. omega arith));
    ancestor = ap (node_of cs') entry_ancestor ∙ retired_node (first (is_revision d k (tag k)) rs);
    others = λ g y f. tree_other d g y (λ q. f (q.1, q.2, q.3));
  }

  -- Soundness after the write

  each : (P : HeldRevision → Type 0) → ((r : HeldRevision) → P r → P (without_slot r)) → ((g : ℕ) → k < g → g ≤ n → P (row d tag n (slot_for cs slot) g)) → Every P rs → Every P rs'
  each P a b e i z l = go (view z i l)
    where
      go : View rs at d tag n (slot_for cs slot) k z i (get_or rs' i z) → P (get_or rs' i z)
      go (kept h q f) = subst P (sym q) (e i z h)
      go (retires h f q) = subst P (sym q) (a (get_or rs i z) (e i z h))
      go (new j f h q) = subst P (sym q) (b (k + 1 + j) (omega arith) (omega arith))

  old_or_new : (e g y : ℕ) (z : HeldRevision) (i : ℕ) → i < length rs' → is_revision e g y (get_or rs' i z) ≡ true →
      ((i < length rs) × (is_revision e g y (get_or rs i z) ≡ true)) ⊎ ((j : ℕ) × (i ≡ length rs + j) × (j < n - k) × (d ≡ e) × (k + 1 + j ≡ g) × (tag (k + 1 + j) ≡ y))
  old_or_new e g y z i l p = go (view z i l)
    where
      go : View rs at d tag n (slot_for cs slot) k z i (get_or rs' i z) →
          ((i < length rs) × (is_revision e g y (get_or rs i z) ≡ true)) ⊎ ((j : ℕ) × (i ≡ length rs + j) × (j < n - k) × (d ≡ e) × (k + 1 + j ≡ g) × (tag (k + 1 + j) ≡ y))
      go (kept h q f) = inl (h, ap (is_revision e g y) (sym q) ∙ p)
      go (retires h f q) = inl (h, ap (is_revision e g y) (sym q) ∙ p)
      go (new j f h q) = let r = three_same d e (k + 1 + j) g (tag (k + 1 + j)) y (ap (is_revision e g y) (sym q) ∙ p) in inr (j, f, h, r.0, r.1, r.2)

  -- an old entry and a new one have different keys
  apart : (e g y : ℕ) (z : HeldRevision) (i j : ℕ) → i < length rs → is_revision e g y (get_or rs i z) ≡ true → j < n - k → d ≡ e → k + 1 + j ≡ g → tag (k + 1 + j) ≡ y → ⊥
  apart e g y z i j l p h a b c =
      let r = get_or rs i z in
      let u = three_same r.document e r.generation g r.tag y p in
      let t : is_revision d g (tag g) (get_or rs i z) ≡ true = three_true r.document d r.generation g r.tag (tag g) (u.0 ∙ sym a) u.1 (u.2 ∙ (sym c ∙ ap tag b)) in
      not_both (is_revision d g (tag g) (get_or rs i z)) t (none_passes (is_revision d g (tag g)) z rs (no_old g (omega arith) (omega arith)) i l)

  once_after : (e g y : ℕ) → Once (is_revision e g y) rs'
  once_after e g y i j z a b p q = go (old_or_new e g y z i a p) (old_or_new e g y z j b q)
    where
      go : ((i < length rs) × (is_revision e g y (get_or rs i z) ≡ true)) ⊎ ((v : ℕ) × (i ≡ length rs + v) × (v < n - k) × (d ≡ e) × (k + 1 + v ≡ g) × (tag (k + 1 + v) ≡ y)) →
          ((j < length rs) × (is_revision e g y (get_or rs j z) ≡ true)) ⊎ ((v : ℕ) × (j ≡ length rs + v) × (v < n - k) × (d ≡ e) × (k + 1 + v ≡ g) × (tag (k + 1 + v) ≡ y)) → i ≡ j
      go (inl u) (inl v) = sound.once e g y i j z u.0 v.0 u.1 v.1
      go (inl u) (inr v) = absurd (apart e g y z i v.0 u.0 u.1 v.2 v.3 v.4 v.5)
      go (inr u) (inl v) = absurd (apart e g y z j u.0 v.0 v.1 u.2 u.3 u.4 u.5)
      go (inr u) (inr v) = omega (arith, u.1, v.1, u.4, v.4)

  -- the slot of a new entry
  new_slot : (g v : ℕ) → cond (eqb g n) (Some (slot_for cs slot)) None ≡ Some v → (v ≡ slot_for cs slot) × (g ≡ n)
  new_slot g v e = ⊎_elim
      (λ (q : g ≡ n). let f : Some (slot_for cs slot) ≡ Some v = sym (ap (λ (b : Bool). cond b (Some (slot_for cs slot)) None) (eq-eqb g n q)) ∙ e in (cc, q))
      (λ (q : g ≡ n → ⊥). absurd (let f : None ≡ Some v = sym (ap (λ (b : Bool). cond b (Some (slot_for cs slot)) None) (ne_eqb g n q)) ∙ e in let y : ◌≡◌ {A = ℕ} 0 1 = cc in omega arith))
      (cases_eq g n)

  slot_view : (z : HeldRevision) (i v : ℕ) → i < length rs' → (get_or rs' i z).slot ≡ Some v →
      ((i < length rs) × ((get_or rs i z).slot ≡ Some v) × (at ≡ Some i → ⊥)) ⊎ ((j : ℕ) × (i ≡ length rs + j) × (j < n - k) × (v ≡ slot_for cs slot) × (k + 1 + j ≡ n))
  slot_view z i v l e = go (view z i l)
    where
      go : View rs at d tag n (slot_for cs slot) k z i (get_or rs' i z) →
          ((i < length rs) × ((get_or rs i z).slot ≡ Some v) × (at ≡ Some i → ⊥)) ⊎ ((j : ℕ) × (i ≡ length rs + j) × (j < n - k) × (v ≡ slot_for cs slot) × (k + 1 + j ≡ n))
      go (kept h q f) = inl (h, ap (λ (r : HeldRevision). r.slot) (sym q) ∙ e, f)
      go (retires h f q) = absurd (let b : None ≡ Some v = ap (λ (r : HeldRevision). r.slot) (sym q) ∙ e in let y : ◌≡◌ {A = ℕ} 0 1 = cc in omega arith)
      go (new j f h q) = let r = new_slot (k + 1 + j) v (ap (λ (r : HeldRevision). r.slot) (sym q) ∙ e) in inr (j, f, h, r.0, r.1)

  slots_after : (i v : ℕ) (z : HeldRevision) → i < length rs' → (get_or rs' i z).slot ≡ Some v → v < length cs'
  slots_after i v z l e = go (slot_view z i v l e)
    where
      go : ((i < length rs) × ((get_or rs i z).slot ≡ Some v) × (at ≡ Some i → ⊥)) ⊎ ((j : ℕ) × (i ≡ length rs + j) × (j < n - k) × (v ≡ slot_for cs slot) × (k + 1 + j ≡ n)) → v < length cs'
      go (inl u) = let h = sound.slots i v z u.0 u.1 in omega (arith, length_contents.0)
      go (inr u) = omega (arith, length_contents.1, u.3)

  own_slots_after : (i j v : ℕ) (z : HeldRevision) → i < length rs' → j < length rs' → (get_or rs' i z).slot ≡ Some v → (get_or rs' j z).slot ≡ Some v → i ≡ j
  own_slots_after i j v z a b p q = go (slot_view z i v a p) (slot_view z j v b q)
    where
      go : ((i < length rs) × ((get_or rs i z).slot ≡ Some v) × (at ≡ Some i → ⊥)) ⊎ ((h : ℕ) × (i ≡ length rs + h) × (h < n - k) × (v ≡ slot_for cs slot) × (k + 1 + h ≡ n)) →
          ((j < length rs) × ((get_or rs j z).slot ≡ Some v) × (at ≡ Some j → ⊥)) ⊎ ((h : ℕ) × (j ≡ length rs + h) × (h < n - k) × (v ≡ slot_for cs slot) × (k + 1 + h ≡ n)) → i ≡ j
      go (inl u) (inl w) = sound.own_slots i j v z u.0 w.0 u.1 w.1
      go (inl u) (inr w) = absurd (other_slot z i v u.0 u.2 u.1 w.3)
      go (inr u) (inl w) = absurd (other_slot z j v w.0 w.2 w.1 u.3)
      go (inr u) (inr w) = omega (arith, u.1, w.1, u.4, w.4)

  all_slots_after : count has_slot rs' ≡ length cs'
  all_slots_after = count_append has_slot (stripped rs at) (rows d tag n (slot_for cs slot) k (n - k)) ∙ (ap (λ (y : ℕ). count has_slot (stripped rs at) + y) one ∙ go at refl slot refl)
    where
      one : count has_slot (rows d tag n (slot_for cs slot) k (n - k)) ≡ 1
      one = let e : n - k ≡ suc (n - k - 1) = omega arith in
          ap (λ (y : ℕ). count has_slot (rows d tag n (slot_for cs slot) k y)) e ∙ rows_slots d tag n (slot_for cs slot) k (n - k - 1) (omega arith)

      go : (o : Option ℕ) → at ≡ o → (p : Option ℕ) → slot ≡ p → count has_slot (stripped rs o) + 1 ≡ length (placed cs p x)
      go None a None b = omega (arith, sound.all_slots, length-append cs (x ∷ []))
      go None a (Some v) b = absurd (let h : None ≡ Some v = sym (ap (slot_at rs) a) ∙ b in let y : ◌≡◌ {A = ℕ} 0 1 = cc in omega arith)
      go (Some i) a None b =
          let h : (get_or rs i no_revision).slot ≡ None = sym (ap (slot_at rs) a) ∙ b in
          let c = count_set has_slot no_revision rs i (without_slot (get_or rs i no_revision)) (ancestor i a).0 in
          let f : ◌≡◌ {A = ℕ} (cond (has_slot (get_or rs i no_revision)) 1 0) 0 = ap (λ (o : Option ℕ). cond (is_some o) 1 0) h in
          omega (arith, sound.all_slots, length-append cs (x ∷ []))
      go (Some i) a (Some v) b =
          let h : (get_or rs i no_revision).slot ≡ Some v = sym (ap (slot_at rs) a) ∙ b in
          let c = count_set has_slot no_revision rs i (without_slot (get_or rs i no_revision)) (ancestor i a).0 in
          let f : ◌≡◌ {A = ℕ} (cond (has_slot (get_or rs i no_revision)) 1 0) 1 = ap (λ (o : Option ℕ). cond (is_some o) 1 0) h in
          omega (arith, sound.all_slots, length-set cs v x)

  bodies_after : x.length ≤ 96 → Every (λ c. c.length ≤ 96) cs'
  bodies_after h = go slot
    where
      go : (o : Option ℕ) → Every (λ c. c.length ≤ 96) (placed cs o x)
      go None i z l = ⊎_elim
          (λ (a : i < length cs). subst (λ (c : Content). c.length ≤ 96) (sym (get_or_append_left cs (x ∷ []) z i a)) (sound.bodies i z a))
          (λ (a : length cs ≤ i). let e : i ≡ length cs = omega (arith, length-append cs (x ∷ [])) in
          subst (λ (c : Content). c.length ≤ 96) (sym (ap (λ (y : ℕ). get_or (cs ++ (x ∷ [])) y z) e ∙ get_or_at cs x [] z (length cs) refl)) h)
          (cases_lt i (length cs))
      go (Some v) i z l = ⊎_elim
          (λ (e : i ≡ v). subst (λ (c : Content). c.length ≤ 96) (sym (ap (λ (y : ℕ). get_or (set cs v x) y z) e ∙ get_or-set_same cs v x z (omega (arith, length-set cs v x)))) h)
          (λ (e : i ≡ v → ⊥). subst (λ (c : Content). c.length ≤ 96) (sym (get_or-set_other cs v i x z e)) (sound.bodies i z (omega (arith, length-set cs v x))))
          (cases_eq i v)

  pub same_tree : (e : ℕ) → (e ≡ d → ⊥) → tree_at rs' cs' e ≡ tree_at rs cs e
  same_tree e f = fun_ext (λ g. fun_ext (λ y. tree_other e g y (λ q. f q.0)))

  module _ (m' : ℕ) (more : m ≤ m') (mine : d < m') (high : n ≤ 200) (good : (g : ℕ) → good_tag (tag g) ≡ true) (short : x.length ≤ 96)
      (w : Path) (ts : Tags w tag n) (is : content_of x ≡ w.content) (nw : Newest (standing (tree_at rs cs d) tag) n k) where
    grows : Grown (tree_at rs cs d) (tree_at rs' cs' d) tag n k w.content
    grows = table_grown w.content is

    pub sound_after : SoundRevisions m' rs' cs'
    sound_after = record {
      owned = each (λ r. r.document < m') (λ r h. h) (λ g a b. mine) (λ i z l. let h = sound.owned i z l in omega arith);
      generations = each (λ r. good_generation r.generation ≡ true) (λ r h. h) (λ g a b. and_from (leb 1 g) (leb g 200) (le-leb 1 g (omega arith)) (le-leb g 200 (omega arith))) sound.generations;
      tags = each (λ r. good_tag r.tag ≡ true) (λ r h. h) (λ g a b. good g) sound.tags;
      once = once_after;
      closed = λ e. ⊎_elim
          (λ (q : e ≡ d). subst (λ (y : ℕ). Trees.Closed (tree_at rs' cs' y)) (sym q) (grown_closed w tag n ts (tree_at rs cs d) k (sound.closed d) nw (tree_at rs' cs' d) less grows))
          (λ (q : e ≡ d → ⊥). subst (λ (t : Tree). Trees.Closed t) (sym (same_tree e q)) (sound.closed e)) (cases_eq e d);
      roots = λ e. ⊎_elim
          (λ (q : e ≡ d). subst (λ (y : ℕ). (v p : ℕ) → Trees.parent (tree_at rs' cs' y 1 v) ≡ Some p → p ≡ 0) (sym q) (grown_roots w tag n ts (tree_at rs cs d) k (sound.closed d) nw (tree_at rs' cs' d) less grows (sound.roots d)))
          (λ (q : e ≡ d → ⊥). subst (λ (t : Tree). (v p : ℕ) → Trees.parent (t 1 v) ≡ Some p → p ≡ 0) (sym (same_tree e q)) (sound.roots e)) (cases_eq e d);
      slots = slots_after;
      own_slots = own_slots_after;
      all_slots = all_slots_after;
      bodies = bodies_after short;
    }

    pub tree_written : tree_at rs' cs' d ≡ written (tree_at rs cs d) w
    tree_written = grown_written w tag n ts (tree_at rs cs d) k (sound.closed d) nw (tree_at rs' cs' d) less grows
