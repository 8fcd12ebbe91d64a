-- What the entry of a revision says of the tree.
use Rattle.std.proofs.Common.{◌≡◌, ℕ, ◌<◌, true, ◌&&◌, eqb, leb, List, is_some, Some, None, Ok, vec_items, Option, sym, refl, ap, ◌∙◌, subst, arith}
use Rattle.std.proofs.lemmas.Bool.{and_parts, eqb-true, leb-true}
use Rattle.octets.specs.Packed.{unpacked}
use Rattle.revision.specs.Ids.{Id, good_generation, good_tag}
use Rattle.revision.specs.Trees.{Tree, held, content_at}
use Rattle.revision.specs.declared.DocumentId.{DocumentId}
use Rattle.revision.specs.declared.Revision.{Revision}
use Rattle.revision.specs.Values.{IdRead, RevisionMade}
use Rattle.entries.specs.declared.HeldRevision.{HeldRevision}
use Rattle.tables.specs.declared.Tables.{Tables}
use Rattle.entries.specs.Searches.{first, place}
use Rattle.entries.specs.Entries.{is_document, is_revision, tree_at, tree_from, node_of, slotted}
use Rattle.tables.specs.Sound.{Sound}
use Rattle.tables.specs.Tables.{documents_of}
use Rattle.reads.specs.Reads.{IsEntry, HasEntry}
use Rattle.reads.specs.Heads.{HeadSlot}
use Rattle.entries.proofs.Lookups.{first_element}

-- an entry that was found is that of its revision
pub record Names (d g x : ℕ) (r : HeldRevision) : Type 0 where
  pub document : r.document ≡ d
  pub generation : r.generation ≡ g
  pub tag : r.tag ≡ x

pub found_names : (d g x : ℕ) (rs : List HeldRevision) (r : HeldRevision) → first (is_revision d g x) rs ≡ Some r → Names d g x r
found_names d g x rs r e =
    let m = first_element (is_revision d g x) rs r e in
    let a = and_parts (eqb r.document d) (eqb r.generation g && eqb r.tag x) m.passes in
    let b = and_parts (eqb r.generation g) (eqb r.tag x) a.1 in
    record { document = eqb-true r.document d a.0; generation = eqb-true r.generation g b.0; tag = eqb-true r.tag x b.1 }

module _ (t : Tables) where
  pub found_entry : (d g x : ℕ) (r : HeldRevision) → first (is_revision d g x) (vec_items t.revisions) ≡ Some r → IsEntry t r
  found_entry d g x r e =
      let n = found_names d g x (vec_items t.revisions) r e in
      ap (λ (v : ℕ). first (is_revision v r.generation r.tag) (vec_items t.revisions)) n.document
      ∙ (ap (λ (v : ℕ). first (is_revision d v r.tag) (vec_items t.revisions)) n.generation ∙ (ap (λ (v : ℕ). first (is_revision d g v) (vec_items t.revisions)) n.tag ∙ e))

  pub entry_generation : (r : HeldRevision) → Sound t → IsEntry t r → 0 < r.generation
  entry_generation r s e =
      let m = first_element (is_revision r.document r.generation r.tag) (vec_items t.revisions) r e in
      let a = and_parts (leb 1 r.generation) (leb r.generation 200) (subst (λ (q : HeldRevision). good_generation q.generation ≡ true) (m.is r) (s.revisions.generations m.place r m.within)) in
      omega (arith, leb-true 1 r.generation a.0)

  pub entry_tag : (r : HeldRevision) → Sound t → IsEntry t r → good_tag r.tag ≡ true
  entry_tag r s e =
      let m = first_element (is_revision r.document r.generation r.tag) (vec_items t.revisions) r e in
      subst (λ (q : HeldRevision). good_tag q.tag ≡ true) (m.is r) (s.revisions.tags m.place r m.within)

  -- no entry is one of a revision before generation 1
  pub none_before : (d x : ℕ) → Sound t → first (is_revision d 0 x) (vec_items t.revisions) ≡ None
  none_before d x s = go (first (is_revision d 0 x) (vec_items t.revisions)) refl
    where
      go : (o : Option HeldRevision) → first (is_revision d 0 x) (vec_items t.revisions) ≡ o → first (is_revision d 0 x) (vec_items t.revisions) ≡ None
      go None q = q
      go (Some r) q =
          let n = found_names d 0 x (vec_items t.revisions) r q in
          absurd (omega (arith, n.generation, entry_generation r s (found_entry d 0 x r q)))

  module _ (id : Id) (g x : ℕ) where
    -- an entry that was looked up by the document's place
    pub entry_found : (d : ℕ) (o : Option HeldRevision) → Some d ≡ place (is_document id) 0 (vec_items t.documents) → o ≡ first (is_revision d g x) (vec_items t.revisions) → HasEntry t id g x o
    entry_found d o p e = go o (sym e)
      where
        own : (documents_of t).tree id ≡ tree_at (vec_items t.revisions) (vec_items t.contents) d
        own = sym (ap (tree_from (vec_items t.revisions) (vec_items t.contents)) p)

        go : (o : Option HeldRevision) → first (is_revision d g x) (vec_items t.revisions) ≡ o → HasEntry t id g x o
        go None q = ap (λ (f : Tree). f g x) own ∙ ap (node_of (vec_items t.contents)) q
        go (Some r) q =
            let n = found_names d g x (vec_items t.revisions) r q in
            (own ∙ sym (ap (tree_at (vec_items t.revisions) (vec_items t.contents)) n.document), found_entry d g x r q, n.generation, n.tag)

    entry_node : (r : HeldRevision) → HasEntry t id g x (Some r) → (documents_of t).tree id g x ≡ slotted (vec_items t.contents) r.parent r.slot
    entry_node r h =
        ap (λ (f : Tree). f g x) h.0 ∙ (sym (ap (λ (v : ℕ). tree_at (vec_items t.revisions) (vec_items t.contents) r.document v x) h.2)
        ∙ (sym (ap (λ (v : ℕ). tree_at (vec_items t.revisions) (vec_items t.contents) r.document r.generation v) h.3) ∙ ap (node_of (vec_items t.contents)) h.1))

    -- a revision is held where it has an entry
    pub held_known : (o : Option HeldRevision) → HasEntry t id g x o → is_some o ≡ held ((documents_of t).tree id g x)
    held_known None h = sym (ap held h)
    held_known (Some r) h = sym (ap held (entry_node r h) ∙ go r.slot)
      where
        go : (s : Option ℕ) → held (slotted (vec_items t.contents) r.parent s) ≡ true
        go None = refl
        go (Some s) = refl

    pub slot_known : (r : HeldRevision) → Sound t → HasEntry t id g x (Some r) → HeadSlot t id g x r.slot
    slot_known r s h = go r.slot refl
      where
        go : (o : Option ℕ) → r.slot ≡ o → HeadSlot t id g x o
        go None q = ap content_at (entry_node r h) ∙ ap (λ (o : Option ℕ). content_at (slotted (vec_items t.contents) r.parent o)) q
        go (Some k) q =
            let m = first_element (is_revision r.document r.generation r.tag) (vec_items t.revisions) r h.1 in
            (s.revisions.slots m.place k r m.within (ap (λ (e : HeldRevision). e.slot) (m.is r) ∙ q), ap content_at (entry_node r h) ∙ ap (λ (o : Option ℕ). content_at (slotted (vec_items t.contents) r.parent o)) q)

-- the same by what was given
pub entry_given : (t : Tables) (bs : List ℕ) (g x : ℕ) (d : DocumentId) (r : Revision) (o : Option HeldRevision) → IdRead bs (Ok d) → RevisionMade g x (Ok r) → HasEntry t (unpacked d.bytes) r.generation r.tag o → HasEntry t bs g x o
entry_given t bs g x d r o i m h =
    let a = subst (λ (id : Id). HasEntry t id r.generation r.tag o) i.2 h in
    subst (λ (q : Revision). HasEntry t bs q.generation q.tag o) m.1 a
