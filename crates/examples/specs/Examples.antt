-- The rules at work on small examples.
use Rattle.std.specs.Prelude.{◌≡◌, ℕ, ◌⊎◌, ◌↔◌, List, [], ◌∷◌, Some, nat_eq}
use Rattle.order.specs.Lists.{Mem}
use Rattle.revision.specs.Ids.{Id}
use Rattle.revision.specs.Trees.{Content, Tree, inner, parent}
use Rattle.revision.specs.Paths.{Path, path_tree, written, Fares, answers, declines}
use Rattle.revision.specs.Heads.{Head, Heads, winner, conflicts}
use Rattle.checkpoint.specs.Logs.{Compared}

-- a head of some generation, tag, mark and body
abbrev pub a_head : ℕ → ℕ → ℕ → List ℕ → Head
a_head g x m b = record { generation = g; tag = x; content = record { mark = m; body = b } }

-- a path of a document, with these tags
abbrev pub a_path : Id → List ℕ → Content → Path
a_path d ts c = record { doc = d; tags = ts; content = c }

-- just these two are members
abbrev pub Both : Head → Head → List Head → Type 0
Both h k hs = (l : Head) → Mem l hs ↔ ((l ≡ h) ⊎ (l ≡ k))

pub record Examples : Type 0 where
  -- (9,20)(5,12) against (7,30)(5,10): 10, one common
  pub one_common : Compared nat_eq ((9, 20) ∷ (5, 12) ∷ []) ((7, 30) ∷ (5, 10) ∷ []) 10 1
  -- (9,20)(5,12) against (9,15)(5,12): 15, two common
  pub two_common : Compared nat_eq ((9, 20) ∷ (5, 12) ∷ []) ((9, 15) ∷ (5, 12) ∷ []) 15 2
  -- heads 2-b2 and 2-c3, live: winner 2-c3, conflict 2-b2
  pub both_live : (b c : List ℕ) (t : Tree) (hs : List Head) → Heads t hs → Both (a_head 2 0xb2 0 b) (a_head 2 0xc3 0 c) hs →
      (winner hs ≡ Some (a_head 2 0xc3 0 c)) × (conflicts hs ≡ a_head 2 0xb2 0 b ∷ [])
  -- 3-01 deleted and 2-b2 live: winner 2-b2
  pub one_live : (b c : List ℕ) (t : Tree) (hs : List Head) → Heads t hs → Both (a_head 3 0x01 1 c) (a_head 2 0xb2 0 b) hs → winner hs ≡ Some (a_head 2 0xb2 0 b)
  -- path a1 b2 on head 1-a1: answer 1, head 2-b2 only
  pub grows : (d : Id) (b c : Content) → let t : Tree = path_tree (a_path d (0xa1 ∷ []) b) in let w : Path = a_path d (0xa1 ∷ 0xb2 ∷ []) c in
      Fares t w (answers 1) (written t w) × Heads (written t w) (record { generation = 2; tag = 0xb2; content = c } ∷ [])
  -- path a1 when 1-a1 is inner: 0, and nothing changes
  pub stays : (d : Id) (c : Content) (t : Tree) → t 1 0xa1 ≡ inner 0 → Fares t (a_path d (0xa1 ∷ []) c) (answers 0) t
  -- path d9 b2 with 2-b2 under 1-a1: declined 34, and nothing changes
  pub contradicts : (d : Id) (c : Content) (t : Tree) → parent (t 2 0xb2) ≡ Some 0xa1 → Fares t (a_path d (0xd9 ∷ 0xb2 ∷ []) c) (declines 34) t
