-- The heads of a tree in their order, winners and conflicts.
use Rattle.std.specs.Prelude.{◌≡◌, ℕ, ◌<◌, filter, ◌⊎◌, List, [], ◌∷◌, Some, None, Option, ◌==◌}
use Rattle.order.specs.Lists.{Mem}
use Rattle.revision.specs.Trees.{Content, Tree, content_at}

-- what the order of heads looks at
pub record Rank : Type 0 where
  pub mark : ℕ
  pub generation : ℕ
  pub tag : ℕ

-- live (mark 0) above deleted (mark 1), then by generation, then by tag
abbrev pub Outranks : Rank → Rank → Type 0
Outranks h k = (h.mark < k.mark) ⊎ ((h.mark ≡ k.mark) ×
    ((k.generation < h.generation) ⊎ ((k.generation ≡ h.generation) × (k.tag < h.tag))))

-- a head: its revision and its content
pub record Head : Type 0 where
  pub generation : ℕ
  pub tag : ℕ
  pub content : Content

-- a head's rank
abbrev pub rank : Head → Rank
rank h = record { mark = h.content.mark; generation = h.generation; tag = h.tag }

-- one head is above another
abbrev pub Above : Head → Head → Type 0
Above h k = Outranks (rank h) (rank k)

-- each above the next
abbrev pub Descending : List Head → Type 0
Descending [] = Unit
Descending (h ∷ []) = Unit
Descending (h ∷ k ∷ ks) = Above h k × Descending (k ∷ ks)

-- all heads of a tree, greatest first
pub record Heads (t : Tree) (hs : List Head) : Type 0 where
  pub order : Descending hs
  pub only : (h : Head) → Mem h hs → content_at (t h.generation h.tag) ≡ Some h.content
  pub all : (h : Head) → content_at (t h.generation h.tag) ≡ Some h.content → Mem h hs

-- the winner is the greatest head
abbrev pub winner : {H : Type 0} → List H → Option H
winner [] = None
winner (h ∷ hs) = Some h

-- the live ones of some heads, by their marks
abbrev pub live : {H : Type 0} → (H → ℕ) → List H → List H
live mark hs = filter (λ h. mark h == 0) hs

-- the conflicts among heads in order, greatest first, are the other live ones
abbrev pub others_live : {H : Type 0} → (H → ℕ) → List H → List H
others_live mark [] = []
others_live mark (h ∷ hs) = live mark hs

-- the conflicts of a tree's heads
abbrev pub conflicts : List Head → List Head
conflicts hs = others_live (λ h. h.content.mark) hs
