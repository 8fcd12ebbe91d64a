-- The next row of the feed.
use Rattle.std.proofs.Common.{◌≡◌, ℕ, zero, suc, ◌<◌, ◌≤◌, Bool, true, false, cond, List, [], ◌∷◌, length, get_or, filter, Some, None, Option, sym, refl, ap, ◌∙◌, subst, All, Contains, ⊎_elim, nat_lt, arith}
use Rattle.std.proofs.lemmas.Bool.{lt-ltb, cases_order}
use Rattle.octets.specs.Packed.{unpacked}
use Rattle.order.proofs.Lists.{same_self}
use Rattle.revision.specs.Ids.{Id, IsId}
use Rattle.peer.specs.Records.{RowAfter}
use Rattle.entries.specs.declared.Document.{Document}
use Rattle.entries.specs.declared.HeldRevision.{HeldRevision}
use Rattle.entries.specs.declared.Content.{Content}
use Rattle.entries.specs.Searches.{first}
use Rattle.entries.specs.Entries.{is_document, last_of, documents_in}
use Rattle.tables.specs.Sound.{SoundDocuments}
use Rattle.reads.specs.Reads.{changed_after}
use Rattle.entries.proofs.Lookups.{first_element, first_once}

-- an element that passes is kept
filter_keeps : {X : Type 0} (p : X → Bool) (xs : List X) (i : ℕ) (z : X) → i < length xs → p (get_or xs i z) ≡ true → (j : ℕ) × (j < length (filter p xs)) × (get_or (filter p xs) j z ≡ get_or xs i z)
filter_keeps p [] i z l e = absurd (omega arith)
filter_keeps {X} p (x ∷ xs) zero z l e = subst (λ (b : Bool). (j : ℕ) × (j < length (cond b (x ∷ filter p xs) (filter p xs))) × (get_or (cond b (x ∷ filter p xs) (filter p xs)) j z ≡ x)) (sym e) (0, omega arith, refl)
filter_keeps {X} p (x ∷ xs) (suc i) z l e = go (p x) (filter_keeps p xs i z (omega arith) e)
  where
    go : (b : Bool) → (j : ℕ) × (j < length (filter p xs)) × (get_or (filter p xs) j z ≡ get_or xs i z) →
        (j : ℕ) × (j < length (cond b (x ∷ filter p xs) (filter p xs))) × (get_or (cond b (x ∷ filter p xs) (filter p xs)) j z ≡ get_or xs i z)
    go true r = (suc r.0, omega (arith, r.1), r.2)
    go false r = r

module _ (ds : List Document) (rs : List HeldRevision) (cs : List Content) (h n : ℕ) (s : SoundDocuments ds h) where
  changed : (d : Document) → Contains ds d → n < d.last → (j : ℕ) × (j < length (changed_after n ds)) × (get_or (changed_after n ds) j d ≡ d)
  changed d w l =
      let k = filter_keeps (λ (x : Document). nat_lt n x.last) ds w.0 d w.1 (ap (λ (x : Document). nat_lt n x.last) w.2 ∙ lt-ltb n d.last l) in
      (k.0, k.1, k.2 ∙ w.2)

  -- where no document has changed after n there is no row
  pub no_row : changed_after n ds ≡ [] → RowAfter (documents_in ds rs cs h) n None
  no_row e = λ id. go id (first (is_document id) ds) refl
    where
      go : (id : Id) (o : Option Document) → first (is_document id) ds ≡ o → last_of o ≤ n
      go id None q = omega arith
      go id (Some d) q =
          let f = first_element (is_document id) ds d q in
          ⊎_elim (λ (l : d.last ≡ n). omega arith) (⊎_elim (λ (l : d.last < n). omega arith)
          (λ (l : n < d.last). let k = changed d (f.place, f.within, f.is d) l in absurd (omega (arith, k.1, ap length e)))) (cases_order d.last n)

  -- the first of those that have is the next row
  pub next_row : (d : Document) → Contains ds d → n < d.last → All (λ e. d.last ≤ e.last) (changed_after n ds) → RowAfter (documents_in ds rs cs h) n (Some (unpacked d.id.bytes, d.last))
  next_row d w l a = record { last = found; above = l; least = λ id. least id (first (is_document id) ds) refl }
    where
      found : last_of (first (is_document (unpacked d.id.bytes)) ds) ≡ d.last
      found =
          ap last_of (first_once (is_document (unpacked d.id.bytes)) d ds w.0 (s.once _) w.1
          (ap (is_document (unpacked d.id.bytes)) w.2 ∙ same_self (unpacked d.id.bytes)) ∙ ap (λ (x : Document). Some x) w.2)

      least : (id : Id) (o : Option Document) → first (is_document id) ds ≡ o → n < last_of o → d.last ≤ last_of o
      least id None e m = absurd (omega arith)
      least id (Some x) e m =
          let f = first_element (is_document id) ds x e in
          let k = changed x (f.place, f.within, f.is x) m in
          subst (λ (y : Document). d.last ≤ y.last) k.2 (a k.0 x k.1)

  pub next_id : (d : Document) → Contains ds d → IsId d.id.bytes
  next_id d w = subst (λ (x : Document). IsId x.id.bytes) w.2 (s.ids w.0 d w.1)
