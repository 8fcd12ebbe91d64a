-- A tree of the tables has at most as many heads as there are slots.
use Rattle.std.proofs.Common.{◌≡◌, ℕ, suc, ◌<◌, ◌≤◌, true, List, [], ◌∷◌, length, get_or, Some, None, Option, sym, refl, ap, ◌∙◌, subst, inl, inr, arith}
use Rattle.order.specs.Lists.{Mem}
use Rattle.revision.specs.Trees.{content_at}
use Rattle.revision.specs.Heads.{Head, Above, Descending, Heads}
use Rattle.revision.proofs.Heads.{above_not, first_above, below_first}
use Rattle.entries.specs.declared.HeldRevision.{HeldRevision}
use Rattle.entries.specs.declared.Content.{Content}
use Rattle.entries.specs.Searches.{first}
use Rattle.entries.specs.Entries.{is_revision, tree_at, node_of, slotted, content_of, no_content}
use Rattle.tables.specs.Sound.{SoundRevisions}
use Rattle.entries.proofs.Lookups.{first_element}
use Rattle.tables.proofs.Entries.{three_same}
use Rattle.tables.proofs.Pigeons.{Distinct, few}

module _ (m : ℕ) (rs : List HeldRevision) (cs : List Content) (d : ℕ) (sound : SoundRevisions m rs cs) where
  -- a head has an entry with a slot
  record Entry (h : Head) : Type 0 where
    place : ℕ
    slot : ℕ
    within : place < length rs
    entry : HeldRevision
    is : (z : HeldRevision) → get_or rs place z ≡ entry
    passes : is_revision d h.generation h.tag entry ≡ true
    slotted : entry.slot ≡ Some slot
    content : h.content ≡ content_of (get_or cs slot no_content)

  entry_of : (h : Head) → content_at (tree_at rs cs d h.generation h.tag) ≡ Some h.content → Entry h
  entry_of h e = go (first (is_revision d h.generation h.tag) rs) refl e
    where
      at : (r : HeldRevision) → first (is_revision d h.generation h.tag) rs ≡ Some r → (s : Option ℕ) → r.slot ≡ s → content_at (slotted cs r.parent s) ≡ Some h.content → Entry h
      at r q None p f = absurd (let y : ◌≡◌ {A = ℕ} 0 1 = cc in omega arith)
      at r q (Some s) p f = let w = first_element (is_revision d h.generation h.tag) rs r q in
          record { place = w.place; slot = s; within = w.within; entry = r; is = w.is; passes = w.passes; slotted = p; content = cc }

      go : (o : Option HeldRevision) → first (is_revision d h.generation h.tag) rs ≡ o → content_at (node_of cs o) ≡ Some h.content → Entry h
      go None q f = absurd (let y : ◌≡◌ {A = ℕ} 0 1 = cc in omega arith)
      go (Some r) q f = at r q r.slot refl f

  -- one slot, one head
  same_head : (h k : Head) (a : Entry h) (b : Entry k) → a.slot ≡ b.slot → h ≡ k
  same_head h k a b e =
      let z = a.entry in
      let p : a.place ≡ b.place = sound.own_slots a.place b.place b.slot z a.within b.within
      (ap (λ (r : HeldRevision). r.slot) (a.is z) ∙ (a.slotted ∙ ap (λ (y : ℕ). Some y) e)) (ap (λ (r : HeldRevision). r.slot) (b.is z) ∙ b.slotted) in
      let r : a.entry ≡ b.entry = sym (a.is z) ∙ (ap (λ (y : ℕ). get_or rs y z) p ∙ b.is z) in
      let u = three_same a.entry.document d a.entry.generation h.generation a.entry.tag h.tag a.passes in
      let v = three_same b.entry.document d b.entry.generation k.generation b.entry.tag k.tag b.passes in
      let g : h.generation ≡ k.generation = sym u.1 ∙ (ap (λ (x : HeldRevision). x.generation) r ∙ v.1) in
      let x : h.tag ≡ k.tag = sym u.2 ∙ (ap (λ (y : HeldRevision). y.tag) r ∙ v.2) in
      let c : h.content ≡ k.content = a.content ∙ (ap (λ (y : ℕ). content_of (get_or cs y no_content)) e ∙ sym b.content) in
      λ i. record { generation = g i; tag = x i; content = c i }

  -- the slots of some heads
  abbrev slots : (hs : List Head) → ((h : Head) → Mem h hs → Entry h) → List ℕ
  slots [] f = []
  slots (h ∷ hs) f = (f h (inl refl)).slot ∷ slots hs (λ k n. f k (inr n))

  slots_long : (hs : List Head) (f : (h : Head) → Mem h hs → Entry h) → length (slots hs f) ≡ length hs
  slots_long [] f = refl
  slots_long (h ∷ hs) f = ap suc (slots_long hs (λ k n. f k (inr n)))

  slots_mem : (hs : List Head) (f : (h : Head) → Mem h hs → Entry h) (y : ℕ) → Mem y (slots hs f) → (h : Head) × (n : Mem h hs) × (y ≡ (f h n).slot)
  slots_mem [] f y n = absurd n
  slots_mem (h ∷ hs) f y (inl e) = (h, inl refl, e)
  slots_mem (h ∷ hs) f y (inr n) = let r = slots_mem hs (λ k q. f k (inr q)) y n in (r.0, inr r.1, r.2)

  slots_distinct : (hs : List Head) (f : (h : Head) → Mem h hs → Entry h) → Descending hs → Distinct (slots hs f)
  slots_distinct [] f o = tt
  slots_distinct (h ∷ hs) f o = (
    λ n. let r = slots_mem hs (λ k q. f k (inr q)) (f h (inl refl)).slot n in
        let e : h ≡ r.0 = same_head h r.0 (f h (inl refl)) (f r.0 (inr r.1)) r.2 in
        above_not h (subst (λ (k : Head). Above h k) (sym e) (first_above h hs o r.0 r.1)),
    slots_distinct hs (λ k q. f k (inr q)) (below_first h hs o),
  )

  pub heads_few : (hs : List Head) → Heads (tree_at rs cs d) hs → length hs ≤ length cs
  heads_few hs w =
      let f : (h : Head) → Mem h hs → Entry h = λ h n. entry_of h (w.only h n) in
      let b = few (length cs) (slots hs f) (slots_distinct hs f w.order) (λ y n. let r = slots_mem hs f y n in bound y (f r.0 r.1) r.2) in
      omega (arith, slots_long hs f)
    where
      bound : (y : ℕ) {h : Head} (a : Entry h) → y ≡ a.slot → y < length cs
      bound y a e = let l = sound.slots a.place a.slot a.entry a.within (ap (λ (r : HeldRevision). r.slot) (a.is a.entry) ∙ a.slotted) in omega arith
