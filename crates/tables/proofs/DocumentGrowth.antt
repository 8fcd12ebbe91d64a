-- The documents after a path write: the one that was written has the next change number, and all are sound.
use Rattle.std.proofs.Common.{◌≡◌, ℕ, zero, suc, ◌+◌, ◌<◌, ◌≤◌, Bool, true, false, cond, ◌⊎◌, List, [], ◌∷◌, ◌++◌, length, get_or, set, Some, None, Option, sym, refl, ap, ◌∙◌, subst, inl, inr, ⊎_elim, arith}
use mathlib.Core.Path.{fun_ext}
use Rattle.std.proofs.lemmas.List.{get_or-set_same, get_or-set_other, length-set, length-append, get_or_append_left, get_or_at}
use Rattle.std.proofs.lemmas.List.Folds.{find_past}
use Rattle.std.proofs.lemmas.Bool.{false_from_ne_true, cases_eq, cases_lt, lt-ltb, le-ltb}
use Rattle.octets.specs.Packed.{unpacked}
use Rattle.order.specs.Lists.{same}
use Rattle.order.proofs.Lists.{same_true}
use Rattle.revision.specs.declared.DocumentId.{DocumentId}
use Rattle.revision.specs.Ids.{Id, IsId}
use Rattle.revision.specs.Trees.{Tree}
use Rattle.revision.specs.Paths.{Path, written}
use Rattle.peer.specs.Records.{put}
use Rattle.entries.specs.declared.Document.{Document}
use Rattle.entries.specs.declared.HeldRevision.{HeldRevision}
use Rattle.entries.specs.declared.Content.{Content}
use Rattle.entries.specs.Searches.{first, place, Once, Every}
use Rattle.entries.specs.Entries.{is_document, is_revision, tree_at, tree_from, node_of, last_of, documents_in, no_revision}
use Rattle.tables.specs.Sound.{SoundDocuments, SoundRevisions}
use Rattle.tables.specs.Paths.{place_for, renewed}
use Rattle.entries.proofs.Searching.{found, not_both}
use Rattle.entries.proofs.Lookups.{first_once, place_once, first_none}
use Rattle.tables.proofs.Entries.{three_same}

module _ {X : Type 0} (p : X → Bool) where
  place_set_other : (z : X) (xs : List X) (k i : ℕ) (h : X) → p (get_or xs i z) ≡ false → p h ≡ false → place p k (set xs i h) ≡ place p k xs
  place_set_other z [] k i h q f = refl
  place_set_other z (x ∷ xs) k zero h q f = ap (λ (b : Bool). cond b (Some k) (place p (k + 1) xs)) f ∙ sym (ap (λ (b : Bool). cond b (Some k) (place p (k + 1) xs)) q)
  place_set_other z (x ∷ xs) k (suc i) h q f = ap (λ (o : Option ℕ). cond (p x) (Some k) o) (place_set_other z xs (k + 1) i h q f)

  place_push : (xs : List X) (k : ℕ) (h : X) → p h ≡ false → place p k (xs ++ (h ∷ [])) ≡ place p k xs
  place_push [] k h f = ap (λ (b : Bool). cond b (Some k) None) f
  place_push (x ∷ xs) k h f = ap (λ (o : Option ℕ). cond (p x) (Some k) o) (place_push xs (k + 1) h f)

  first_push : (xs : List X) (h : X) → p h ≡ false → first p (xs ++ (h ∷ [])) ≡ first p xs
  first_push [] h f = ap (λ (b : Bool). cond b (Some h) None) f
  first_push (x ∷ xs) h f = ap (λ (o : Option X). cond (p x) (Some x) o) (first_push xs h f)

-- the tree that a document has by its place
pub known_tree : (ds : List Document) (rs : List HeldRevision) (cs : List Content) (o : Option ℕ) → SoundRevisions (length ds) rs cs → tree_from rs cs o ≡ tree_at rs cs (place_for ds o)
known_tree ds rs cs None rev = fun_ext (λ g. fun_ext (λ x. sym (ap (node_of cs) (none g x))))
  where
    none : (g x : ℕ) → first (is_revision (length ds) g x) rs ≡ None
    none g x = first_none (is_revision (length ds) g x) no_revision rs (λ j l. false_from_ne_true _ (λ t.
        let r = get_or rs j no_revision in
        let u = three_same r.document (length ds) r.generation g r.tag x t in
        let v = rev.owned j no_revision l in omega (arith, u.0)))
known_tree ds rs cs (Some i) rev = refl

blank_id : DocumentId
blank_id = record { bytes = record { first = 0; second = 0; length = 0 } }

module _ (ds : List Document) (h : ℕ) (id : DocumentId) (o : Option ℕ) (sound : SoundDocuments ds h) (pe : place (is_document (unpacked id.bytes)) 0 ds ≡ o) where
  abbrev doc : Id
  doc = unpacked id.bytes

  abbrev entry : Document
  entry = record { id = id; last = h + 1 }

  abbrev pub d : ℕ
  d = place_for ds o

  abbrev pub ds' : List Document
  ds' = renewed ds (place_for ds o) (record { id = id; last = h + 1 })

  nothing : Document
  nothing = record { id = blank_id; last = 0 }

  known : (i : ℕ) → o ≡ Some i → (i < length ds) × ((z : Document) → is_document (unpacked id.bytes) (get_or ds i z) ≡ true)
  known i e = ((found (is_document (unpacked id.bytes)) nothing ds i (pe ∙ e)).within, λ z. (found (is_document (unpacked id.bytes)) z ds i (pe ∙ e)).passes)

  -- the table is laid over at a place, or is one longer
  shape : ((i : ℕ) × (o ≡ Some i) × (ds' ≡ set ds i (record { id = id; last = h + 1 })) × (place_for ds o ≡ i)) ⊎ ((o ≡ None) × (ds' ≡ ds ++ (record { id = id; last = h + 1 } ∷ [])) × (place_for ds o ≡ length ds))
  shape = go o refl
    where
      go : (q : Option ℕ) → o ≡ q → ((i : ℕ) × (o ≡ Some i) × (ds' ≡ set ds i (record { id = id; last = h + 1 })) × (place_for ds o ≡ i)) ⊎ ((o ≡ None) × (ds' ≡ ds ++ (record { id = id; last = h + 1 } ∷ [])) × (place_for ds o ≡ length ds))
      go None e = let q : place_for ds o ≡ length ds = ap (place_for ds) e in inr (e, ap (λ (b : Bool). cond b (set ds (place_for ds o) (record { id = id; last = h + 1 })) (ds ++ (record { id = id; last = h + 1 } ∷ []))) (le-ltb (place_for ds o) (length ds) (omega arith)), q)
      go (Some i) e = let q : place_for ds o ≡ i = ap (place_for ds) e in
          inl (i, e, ap (λ (b : Bool). cond b (set ds (place_for ds o) (record { id = id; last = h + 1 })) (ds ++ (record { id = id; last = h + 1 } ∷ []))) (lt-ltb (place_for ds o) (length ds) (omega (arith, (known i e).0))) ∙ ap (λ (y : ℕ). set ds y (record { id = id; last = h + 1 })) q, q)

  pub sizes : (length ds ≤ length ds') × (place_for ds o < length ds') × (length ds' ≤ length ds + 1) × ((place_for ds o ≡ length ds) ⊎ (length ds' ≡ length ds))
  sizes = go shape
    where
      go : ((i : ℕ) × (o ≡ Some i) × (ds' ≡ set ds i (record { id = id; last = h + 1 })) × (place_for ds o ≡ i)) ⊎ ((o ≡ None) × (ds' ≡ ds ++ (record { id = id; last = h + 1 } ∷ [])) × (place_for ds o ≡ length ds)) →
          (length ds ≤ length ds') × (place_for ds o < length ds') × (length ds' ≤ length ds + 1) × ((place_for ds o ≡ length ds) ⊎ (length ds' ≡ length ds))
      go (inl (i, e, q, r)) = let l : length ds' ≡ length ds = ap length q ∙ length-set ds i (record { id = id; last = h + 1 }) in (omega arith, omega (arith, (known i e).0), omega arith, inr l)
      go (inr (e, q, r)) = let l : length ds' ≡ length ds + 1 = ap length q ∙ length-append ds (record { id = id; last = h + 1 } ∷ []) in (omega arith, omega arith, omega arith, inl r)

  -- an entry is one that was there, or the new one
  view : (z : Document) (i : ℕ) → i < length ds' → ((i < length ds) × (get_or ds' i z ≡ get_or ds i z) × (i ≡ place_for ds o → ⊥)) ⊎ ((i ≡ place_for ds o) × (get_or ds' i z ≡ record { id = id; last = h + 1 }))
  view z i l = go shape
    where
      go : ((j : ℕ) × (o ≡ Some j) × (ds' ≡ set ds j (record { id = id; last = h + 1 })) × (place_for ds o ≡ j)) ⊎ ((o ≡ None) × (ds' ≡ ds ++ (record { id = id; last = h + 1 } ∷ [])) × (place_for ds o ≡ length ds)) →
          ((i < length ds) × (get_or ds' i z ≡ get_or ds i z) × (i ≡ place_for ds o → ⊥)) ⊎ ((i ≡ place_for ds o) × (get_or ds' i z ≡ record { id = id; last = h + 1 }))
      go (inl (j, e, q, r)) = ⊎_elim
          (λ (a : i ≡ j). inr (a ∙ sym r, ap (λ (ys : List Document). get_or ys i z) q ∙ (ap (λ (y : ℕ). get_or (set ds j (record { id = id; last = h + 1 })) y z) a ∙ get_or-set_same ds j (record { id = id; last = h + 1 }) z (known j e).0)))
          (λ (a : i ≡ j → ⊥). inl (omega (arith, ap length q ∙ length-set ds j (record { id = id; last = h + 1 })), ap (λ (ys : List Document). get_or ys i z) q ∙ get_or-set_other ds j i (record { id = id; last = h + 1 }) z a, λ b. a (b ∙ r)))
          (cases_eq i j)
      go (inr (e, q, r)) = ⊎_elim
          (λ (a : i < length ds). inl (a, ap (λ (ys : List Document). get_or ys i z) q ∙ get_or_append_left ds (record { id = id; last = h + 1 } ∷ []) z i a, λ b. omega arith))
          (λ (a : length ds ≤ i). let b : i ≡ length ds = omega (arith, ap length q ∙ length-append ds (record { id = id; last = h + 1 } ∷ [])) in
          inr (b ∙ sym r, ap (λ (ys : List Document). get_or ys i z) q ∙ (ap (λ (y : ℕ). get_or (ds ++ (record { id = id; last = h + 1 } ∷ [])) y z) b ∙ get_or_at ds (record { id = id; last = h + 1 }) [] z (length ds) refl)))
          (cases_lt i (length ds))

  -- another entry has another id
  apart : (e : Id) (z : Document) (i : ℕ) → i < length ds → (i ≡ place_for ds o → ⊥) → is_document e (get_or ds i z) ≡ true → same (unpacked id.bytes) e ≡ true → ⊥
  apart e z i l f p q =
      let a : is_document (unpacked id.bytes) (get_or ds i z) ≡ true = ap (λ (x : Id). is_document x (get_or ds i z)) (same_true (unpacked id.bytes) e q) ∙ p in
      f (sym (ap (place_for ds) (sym pe ∙ place_once (is_document (unpacked id.bytes)) z ds i (sound.once (unpacked id.bytes)) l a)))

  pub once_after : (e : Id) → Once (is_document e) ds'
  once_after e i j z a b p q = go (view z i a) (view z j b)
    where
      go : ((i < length ds) × (get_or ds' i z ≡ get_or ds i z) × (i ≡ place_for ds o → ⊥)) ⊎ ((i ≡ place_for ds o) × (get_or ds' i z ≡ record { id = id; last = h + 1 })) →
          ((j < length ds) × (get_or ds' j z ≡ get_or ds j z) × (j ≡ place_for ds o → ⊥)) ⊎ ((j ≡ place_for ds o) × (get_or ds' j z ≡ record { id = id; last = h + 1 })) → i ≡ j
      go (inl u) (inl v) = sound.once e i j z u.0 v.0 (ap (is_document e) (sym u.1) ∙ p) (ap (is_document e) (sym v.1) ∙ q)
      go (inl u) (inr v) = absurd (apart e z i u.0 u.2 (ap (is_document e) (sym u.1) ∙ p) (ap (is_document e) (sym v.1) ∙ q))
      go (inr u) (inl v) = absurd (apart e z j v.0 v.2 (ap (is_document e) (sym v.1) ∙ q) (ap (is_document e) (sym u.1) ∙ p))
      go (inr u) (inr v) = u.0 ∙ sym v.0

  each : (P : Document → Type 0) → P (record { id = id; last = h + 1 }) → Every P ds → Every P ds'
  each P a e i z l = ⊎_elim (λ (u : (i < length ds) × (get_or ds' i z ≡ get_or ds i z) × (i ≡ place_for ds o → ⊥)). subst P (sym u.1) (e i z u.0))
      (λ (u : (i ≡ place_for ds o) × (get_or ds' i z ≡ record { id = id; last = h + 1 })). subst P (sym u.1) a) (view z i l)

  pub sound_after : IsId id.bytes → SoundDocuments ds' (h + 1)
  sound_after good = record {
    ids = each (λ e. IsId e.id.bytes) good sound.ids;
    once = once_after;
    numbered = each (λ e. (1 ≤ e.last) × (e.last ≤ h + 1)) (omega arith, omega arith) (λ i z l. let n = sound.numbered i z l in (n.0, omega (arith, n.1)));
    apart = λ i j z a b e. lasts i j z (view z i a) (view z j b) e;
  }
    where
      lasts : (i j : ℕ) (z : Document) → ((i < length ds) × (get_or ds' i z ≡ get_or ds i z) × (i ≡ place_for ds o → ⊥)) ⊎ ((i ≡ place_for ds o) × (get_or ds' i z ≡ record { id = id; last = h + 1 })) →
          ((j < length ds) × (get_or ds' j z ≡ get_or ds j z) × (j ≡ place_for ds o → ⊥)) ⊎ ((j ≡ place_for ds o) × (get_or ds' j z ≡ record { id = id; last = h + 1 })) → (get_or ds' i z).last ≡ (get_or ds' j z).last → i ≡ j
      lasts i j z (inl u) (inl v) e = sound.apart i j z u.0 v.0 (ap (λ (x : Document). x.last) (sym u.1) ∙ (e ∙ ap (λ (x : Document). x.last) v.1))
      lasts i j z (inl u) (inr v) e = absurd (let n = sound.numbered i z u.0 in let q : (get_or ds i z).last ≡ h + 1 = ap (λ (x : Document). x.last) (sym u.1) ∙ (e ∙ ap (λ (x : Document). x.last) v.1) in omega (arith, n.1))
      lasts i j z (inr u) (inl v) e = absurd (let n = sound.numbered j z v.0 in let q : h + 1 ≡ (get_or ds j z).last = ap (λ (x : Document). x.last) (sym u.1) ∙ (e ∙ ap (λ (x : Document). x.last) v.1) in omega (arith, n.1))
      lasts i j z (inr u) (inr v) e = u.0 ∙ sym v.0

  -- the entry of the document, and those of others
  here : (e : Id) → same (unpacked id.bytes) e ≡ true → (z : Document) → is_document e (get_or ds' (place_for ds o) z) ≡ true
  here e q z = go (view z (place_for ds o) sizes.1)
    where
      go : ((place_for ds o < length ds) × (get_or ds' (place_for ds o) z ≡ get_or ds (place_for ds o) z) × (place_for ds o ≡ place_for ds o → ⊥)) ⊎ ((place_for ds o ≡ place_for ds o) × (get_or ds' (place_for ds o) z ≡ record { id = id; last = h + 1 })) → is_document e (get_or ds' (place_for ds o) z) ≡ true
      go (inl u) = absurd (u.2 refl)
      go (inr u) = ap (is_document e) u.1 ∙ q

  pub place_here : (e : Id) → same (unpacked id.bytes) e ≡ true → place (is_document e) 0 ds' ≡ Some (place_for ds o)
  place_here e q = place_once (is_document e) nothing ds' (place_for ds o) (once_after e) sizes.1 (here e q nothing)

  new_there : (z : Document) → get_or ds' (place_for ds o) z ≡ record { id = id; last = h + 1 }
  new_there z = go (view z (place_for ds o) sizes.1)
    where
      go : ((place_for ds o < length ds) × (get_or ds' (place_for ds o) z ≡ get_or ds (place_for ds o) z) × (place_for ds o ≡ place_for ds o → ⊥)) ⊎ ((place_for ds o ≡ place_for ds o) × (get_or ds' (place_for ds o) z ≡ record { id = id; last = h + 1 })) → get_or ds' (place_for ds o) z ≡ record { id = id; last = h + 1 }
      go (inl u) = absurd (u.2 refl)
      go (inr u) = u.1

  last_here : (e : Id) → same (unpacked id.bytes) e ≡ true → last_of (first (is_document e) ds') ≡ h + 1
  last_here e q = ap last_of (first_once (is_document e) nothing ds' (place_for ds o) (once_after e) sizes.1 (here e q nothing)) ∙ ap (λ (x : Document). x.last) (new_there nothing)

  elsewhere : (e : Id) → same (unpacked id.bytes) e ≡ false → (place (is_document e) 0 ds' ≡ place (is_document e) 0 ds) × (first (is_document e) ds' ≡ first (is_document e) ds)
  elsewhere e q = go shape
    where
      off : (i : ℕ) → o ≡ Some i → is_document e (get_or ds i nothing) ≡ false
      off i k = let a : unpacked (get_or ds i nothing).id.bytes ≡ unpacked id.bytes = same_true (unpacked (get_or ds i nothing).id.bytes) (unpacked id.bytes) ((known i k).1 nothing) in ap (λ (x : Id). same x e) a ∙ q

      go : ((i : ℕ) × (o ≡ Some i) × (ds' ≡ set ds i (record { id = id; last = h + 1 })) × (place_for ds o ≡ i)) ⊎ ((o ≡ None) × (ds' ≡ ds ++ (record { id = id; last = h + 1 } ∷ [])) × (place_for ds o ≡ length ds)) →
          (place (is_document e) 0 ds' ≡ place (is_document e) 0 ds) × (first (is_document e) ds' ≡ first (is_document e) ds)
      go (inl (i, k, r, s)) = (ap (place (is_document e) 0) r ∙ place_set_other (is_document e) nothing ds 0 i (record { id = id; last = h + 1 }) (off i k) q, ap (first (is_document e)) r ∙ find_past (is_document e) ds i (record { id = id; last = h + 1 }) nothing (off i k) q)
      go (inr (k, r, s)) = (ap (place (is_document e) 0) r ∙ place_push (is_document e) ds 0 (record { id = id; last = h + 1 }) q, ap (first (is_document e)) r ∙ first_push (is_document e) ds (record { id = id; last = h + 1 }) q)

  -- the place of another document is another place
  other_place : (e : Id) (i : ℕ) → same (unpacked id.bytes) e ≡ false → place (is_document e) 0 ds ≡ Some i → i ≡ place_for ds o → ⊥
  other_place e i q p r = go shape
    where
      go : ((j : ℕ) × (o ≡ Some j) × (ds' ≡ set ds j (record { id = id; last = h + 1 })) × (place_for ds o ≡ j)) ⊎ ((o ≡ None) × (ds' ≡ ds ++ (record { id = id; last = h + 1 } ∷ [])) × (place_for ds o ≡ length ds)) → ⊥
      go (inr (k, a, b)) = omega (arith, (found (is_document e) nothing ds i p).within)
      go (inl (j, k, a, b)) =
          let s : i ≡ j = r ∙ b in
          let u : unpacked (get_or ds j nothing).id.bytes ≡ unpacked id.bytes = same_true (unpacked (get_or ds j nothing).id.bytes) (unpacked id.bytes) ((known j k).1 nothing) in
          not_both (same (unpacked id.bytes) e) (ap (λ (x : Id). same x e) (sym u) ∙ (ap (λ (y : ℕ). is_document e (get_or ds y nothing)) (sym s) ∙ (found (is_document e) nothing ds i p).passes)) q

  module _ (rs rs' : List HeldRevision) (cs cs' : List Content) (w : Path) (named : w.doc ≡ unpacked id.bytes) (rev : SoundRevisions (length ds) rs cs)
      (there : tree_at rs' cs' (place_for ds o) ≡ written (tree_at rs cs (place_for ds o)) w) (rest : (e : ℕ) → (e ≡ place_for ds o → ⊥) → tree_at rs' cs' e ≡ tree_at rs cs e) where
    trees : (e : Id) → tree_from rs' cs' (place (is_document e) 0 ds') ≡ cond (same w.doc e) (written (tree_from rs cs (place (is_document e) 0 ds)) w) (tree_from rs cs (place (is_document e) 0 ds))
    trees e = go (same w.doc e) refl
      where
        go : (b : Bool) → same w.doc e ≡ b → tree_from rs' cs' (place (is_document e) 0 ds') ≡ cond b (written (tree_from rs cs (place (is_document e) 0 ds)) w) (tree_from rs cs (place (is_document e) 0 ds))
        go true q =
            let s : same (unpacked id.bytes) e ≡ true = ap (λ (x : Id). same x e) (sym named) ∙ q in
            let a : place (is_document e) 0 ds ≡ o = ap (λ (x : Id). place (is_document x) 0 ds) (sym (same_true (unpacked id.bytes) e s)) ∙ pe in
            ap (tree_from rs' cs') (place_here e s) ∙ (there ∙ ap (λ (t : Tree). written t w) (sym (known_tree ds rs cs o rev) ∙ ap (tree_from rs cs) (sym a)))
        go false q =
            let s : same (unpacked id.bytes) e ≡ false = ap (λ (x : Id). same x e) (sym named) ∙ q in
            ap (tree_from rs' cs') (elsewhere e s).0 ∙ each_place e s (place (is_document e) 0 ds) refl
          where
            each_place : (e : Id) → same (unpacked id.bytes) e ≡ false → (p : Option ℕ) → place (is_document e) 0 ds ≡ p → tree_from rs' cs' p ≡ tree_from rs cs p
            each_place e s None p = refl
            each_place e s (Some i) p = rest i (other_place e i s p)

    lasts : (e : Id) → last_of (first (is_document e) ds') ≡ cond (same w.doc e) (suc h) (last_of (first (is_document e) ds))
    lasts e = go (same w.doc e) refl
      where
        go : (b : Bool) → same w.doc e ≡ b → last_of (first (is_document e) ds') ≡ cond b (suc h) (last_of (first (is_document e) ds))
        go true q = let s : h + 1 ≡ suc h = omega arith in last_here e (ap (λ (x : Id). same x e) (sym named) ∙ q) ∙ s
        go false q = ap last_of (elsewhere e (ap (λ (x : Id). same x e) (sym named) ∙ q)).1

    pub documents_put : documents_in ds' rs' cs' (h + 1) ≡ put w (documents_in ds rs cs h)
    documents_put = let s : h + 1 ≡ suc h = omega arith in λ i. record { tree = fun_ext trees i; last = fun_ext lasts i; highest = s i }
