-- In sound tables every held revision has the line of its ancestors.
use Rattle.std.proofs.Common.{◌≡◌, ℕ, zero, suc, ◌+◌, true, List, [], ◌∷◌, ◌++◌, length, Some, None, vec_items, Option, sym, refl, ap, ◌∙◌, subst, arith}
use Rattle.std.proofs.lemmas.List.{length_push}
use Rattle.std.proofs.lemmas.Bool.{false≢true}
use Rattle.order.specs.Lists.{final}
use Rattle.order.proofs.Lists.{final_more}
use Rattle.revision.specs.Ids.{Id}
use Rattle.revision.specs.Trees.{Tree, held, parent, Closed}
use Rattle.revision.specs.Paths.{Linked, Line}
use Rattle.revision.proofs.Writes.{parent_of, level_held}
use Rattle.tables.specs.declared.Tables.{Tables}
use Rattle.entries.specs.Searches.{place}
use Rattle.entries.specs.Entries.{is_document, tree_from}
use Rattle.tables.specs.Tables.{documents_of}
use Rattle.tables.specs.Sound.{Sound}

linked_push : (t : Tree) (g q : ℕ) (ys : List ℕ) (x : ℕ) → Linked t g q ys → parent (t (g + length ys) x) ≡ Some (final (q ∷ ys)) → Linked t g q (ys ++ (x ∷ []))
linked_push t g q [] x l e = let z : g + 0 ≡ g = omega arith in (subst (λ (k : ℕ). parent (t k x) ≡ Some q) z e, tt)
linked_push t g q (y ∷ ys) x l e = let z : g + suc (length ys) ≡ suc g + length ys = omega arith in (l.0, linked_push t (suc g) y ys x l.1 (subst (λ (k : ℕ). parent (t k x) ≡ Some (final (y ∷ ys))) z e))

final_push : (ys : List ℕ) (x : ℕ) → final (ys ++ (x ∷ [])) ≡ x
final_push [] x = refl
final_push (y ∷ []) x = refl
final_push (y ∷ z ∷ zs) x = final_push (z ∷ zs) x

pub line_of : (t : Tree) → Closed t → ((x p : ℕ) → parent (t 1 x) ≡ Some p → p ≡ 0) → (g x : ℕ) → held (t g x) ≡ true → (tags : List ℕ) × Line t g x tags
line_of t k r zero x h = absurd (false≢true (sym (ap held (k.none x)) ∙ h))
line_of t k r (suc zero) x h =
    let o = parent_of (t 1 x) h in
    (x ∷ [], record { long = refl; ends = refl; linked = (o.1 ∙ ap (λ (p : ℕ). Some p) (r x o.0 o.1), tt) })
line_of t k r (suc (suc g)) x h =
    let o = parent_of (t (suc (suc g)) x) h in
    let i = line_of t k r (suc g) o.0 (level_held (t (suc g) o.0) (k.parents g x o.0 o.1)) in
    let n : length i.0 ≡ suc g = i.1.long in
    let m : suc (suc g) ≡ 1 + length i.0 = omega arith in
    let f : final (0 ∷ i.0) ≡ o.0 = final_more 0 i.0 (omega arith) ∙ i.1.ends in (
      i.0 ++ (x ∷ []),
      record {
        long = length_push i.0 x ∙ omega arith;
        ends = final_push i.0 x;
        linked = linked_push t 1 0 i.0 x i.1.linked (subst (λ (z : ℕ). parent (t z x) ≡ Some (final (0 ∷ i.0))) m (o.1 ∙ ap (λ (p : ℕ). Some p) (sym f)));
      },
    )

pub sound_lined : (t : Tables) → Sound t → (d : Id) (g x : ℕ) → held ((documents_of t).tree d g x) ≡ true → (tags : List ℕ) × Line ((documents_of t).tree d) g x tags
sound_lined t s d g x = go (place (is_document d) 0 (vec_items t.documents))
  where
    go : (o : Option ℕ) → held (tree_from (vec_items t.revisions) (vec_items t.contents) o g x) ≡ true → (tags : List ℕ) × Line (tree_from (vec_items t.revisions) (vec_items t.contents) o) g x tags
    go None h = absurd (false≢true h)
    go (Some i) h = line_of _ (s.revisions.closed i) (s.revisions.roots i) g x h
