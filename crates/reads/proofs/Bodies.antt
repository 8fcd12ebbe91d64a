-- The bodies of heads.
use Rattle.std.proofs.Common.{◌≡◌, ℕ, ◌≤◌, Bool, true, ◌&&◌, leb, List, [], ◌∷◌, ◌++◌, length, get_or, take, drop, Some, Ok, vec_items, Option, sym, refl, ap, ◌∙◌, subst, arith}
use Rattle.std.proofs.lemmas.List.{get_or_default, length-take}
use Rattle.std.proofs.lemmas.Bool.{le-leb}
use Rattle.octets.specs.Packed.{unpacked}
use Rattle.revision.specs.declared.DocumentId.{DocumentId}
use Rattle.revision.specs.declared.Revision.{Revision}
use Rattle.revision.specs.declared.Mark.{Mark}
use Rattle.revision.specs.declared.Mark.TheVariants.{Live, Deleted}
use Rattle.revision.specs.Ids.{Id}
use Rattle.revision.specs.Trees.{good_content, content_at}
use Rattle.revision.specs.Values.{IdRead, RevisionMade, mark_number}
use Rattle.peer.specs.declared.Body.{Body}
use Rattle.peer.specs.Functions.{Function, found}
use Rattle.peer.specs.Replies.{body_bytes, TellsBody}
use Rattle.entries.specs.declared.Content.{Content}
use Rattle.tables.specs.declared.Tables.{Tables}
use Rattle.tables.specs.Tables.{documents_of}
use Rattle.entries.specs.Entries.{content_of, no_content}
use Rattle.tables.specs.Sound.{Sound}
use Rattle.reads.specs.Reads.{ReadsInto}
use Rattle.reads.specs.Heads.{HeadSlot}
use Rattle.tables.proofs.Inputs.{test_passed, revision_given}

good_mark : (m : Mark) → leb (mark_number m) 1 ≡ true
good_mark Live = refl
good_mark Deleted = refl

-- a content of a sound table is a good one
good_kept : (c : Content) → c.length ≤ 96 → good_content (content_of c) ≡ true
good_kept c h =
    let l : length (take c.length c.body) ≤ 96 = omega (arith, length-take c.length c.body) in
    ap (λ (b : Bool). b && leb (length (take c.length c.body)) 96) (good_mark c.mark) ∙ le-leb (length (take c.length c.body)) 96 l

-- the slot of a head by what was given
slot_given : (t : Tables) (bs : List ℕ) (g x : ℕ) (d : DocumentId) (r : Revision) (o : Option ℕ) → IdRead bs (Ok d) → RevisionMade g x (Ok r) → HeadSlot t (unpacked d.bytes) r.generation r.tag o → HeadSlot t bs g x o
slot_given t bs g x d r o i m s =
    let a = subst (λ (id : Id). HeadSlot t id r.generation r.tag o) i.2 s in
    subst (λ (q : Revision). HeadSlot t bs q.generation q.tag o) m.1 a

-- a body that is read
pub body_read : (t : Tables) (bs : List ℕ) (g x s : ℕ) (before now : List ℕ) (d : DocumentId) (r : Revision) (c : Content) (b : Body) →
    Sound t → IdRead bs (Ok d) → RevisionMade g x (Ok r) → 96 ≤ length before → HeadSlot t (unpacked d.bytes) r.generation r.tag (Some s) → c ≡ get_or (vec_items t.contents) s c →
    TellsBody b (content_of c) → now ≡ (content_of c).body ++ drop (length (content_of c).body) before →
    ReadsInto (Function.body_of bs g x (length before)) body_bytes TellsBody t before (Ok b) now
body_read t bs g x s before now d r c b snd i m room h ce tells e =
    let h = slot_given t bs g x d r (Some s) i m h in
    let q : c ≡ get_or (vec_items t.contents) s no_content = ce ∙ get_or_default (vec_items t.contents) s c no_content h.0 in
    let k : content_at ((documents_of t).tree bs g x) ≡ Some (content_of c) = h.1 ∙ sym (ap (λ (v : Content). Some (content_of v)) q) in
    let good : good_content (content_of c) ≡ true = ap (λ (v : Content). good_content (content_of v)) q ∙ good_kept (get_or (vec_items t.contents) s no_content) (snd.revisions.bodies s no_content h.0) in (
      content_of c,
      (revision_given bs g x d r ((leb 96 (length before), 18) ∷ []) i m ∙ test_passed (leb 96 (length before)) 18 [] (le-leb 96 (length before) room), sym (ap found k), (k, good)),
      tells,
      e,
    )
