-- A tree has at most one list of its heads in order.
use Rattle.std.proofs.Common.{◌≡◌, ◌⊎◌, List, [], ◌∷◌, sym, refl, ◌∙◌, subst, inl, inr, arith}
use Rattle.order.specs.Lists.{Mem}
use Rattle.revision.specs.Trees.{Tree}
use Rattle.revision.specs.Heads.{Head, Above, Descending, Heads}

pub above_not : (h : Head) → Above h h → ⊥
above_not h (inl e) = omega arith
above_not h (inr (e, inl f)) = omega arith
above_not h (inr (e, inr f)) = omega (arith, f.1)

above_trans : (h k l : Head) → Above h k → Above k l → Above h l
above_trans h k l (inl e) (inl f) = inl (omega arith)
above_trans h k l (inl e) (inr f) = inl (omega (arith, f.0))
above_trans h k l (inr e) (inl f) = inl (omega (arith, e.0))
above_trans h k l (inr (e, inl g)) (inr (f, inl i)) = inr (e ∙ f, inl (omega arith))
above_trans h k l (inr (e, inl g)) (inr (f, inr i)) = inr (e ∙ f, inl (omega (arith, i.0)))
above_trans h k l (inr (e, inr g)) (inr (f, inl i)) = inr (e ∙ f, inl (omega (arith, g.0)))
above_trans h k l (inr (e, inr g)) (inr (f, inr i)) = inr (e ∙ f, inr (i.0 ∙ g.0, omega (arith, g.1, i.1)))

-- the first is above all others
pub first_above : (h : Head) (hs : List Head) → Descending (h ∷ hs) → (k : Head) → Mem k hs → Above h k
first_above h [] d k m = absurd m
first_above h (x ∷ xs) d k (inl e) = subst (λ (z : Head). Above h z) (sym e) d.0
first_above h (x ∷ xs) d k (inr m) = above_trans h x k d.0 (first_above x xs d.1 k m)

pub below_first : (h : Head) (hs : List Head) → Descending (h ∷ hs) → Descending hs
below_first h [] d = tt
below_first h (x ∷ xs) d = d.1

-- descending lists with the same members are the same
pub same_lists : (hs ks : List Head) → Descending hs → Descending ks → ((h : Head) → Mem h hs → Mem h ks) → ((h : Head) → Mem h ks → Mem h hs) → hs ≡ ks
same_lists [] [] d e f g = refl
same_lists [] (k ∷ ks) d e f g = absurd (g k (inl refl))
same_lists (h ∷ hs) [] d e f g = absurd (f h (inl refl))
same_lists (h ∷ hs) (k ∷ ks) d e f g =
    let i : hs ≡ ks = same_lists hs ks (below_first h hs d) (below_first k ks e)
    (λ x m. keep h k x ks first (first_above h hs d x m) (f x (inr m)))
    (λ x m. keep k h x hs (sym first) (first_above k ks e x m) (g x (inr m))) in
    λ t. first t ∷ i t
  where
    first : h ≡ k
    first = go (f h (inl refl)) (g k (inl refl))
      where
        go : (h ≡ k) ⊎ Mem h ks → (k ≡ h) ⊎ Mem k hs → h ≡ k
        go (inl p) q = p
        go (inr p) (inl q) = sym q
        go (inr p) (inr q) = absurd (above_not h (above_trans h k h (first_above h hs d k q) (first_above k ks e h p)))

    keep : (a b x : Head) (bs : List Head) → a ≡ b → Above a x → (x ≡ b) ⊎ Mem x bs → Mem x bs
    keep a b x bs p u (inl q) = absurd (above_not a (subst (λ (z : Head). Above a z) (q ∙ sym p) u))
    keep a b x bs p u (inr q) = q

pub heads_unique : (t : Tree) (hs ks : List Head) → Heads t hs → Heads t ks → hs ≡ ks
heads_unique t hs ks a b = same_lists hs ks a.order b.order (λ h m. b.all h (a.only h m)) (λ h m. a.all h (b.only h m))
