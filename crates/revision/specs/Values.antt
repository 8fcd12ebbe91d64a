-- What the code's values say in the words of the model.
use Rattle.std.specs.Prelude.{◌≡◌, ℕ, ◌<◌, ◌≤◌, true, false, ◌⊎◌, List, [], ◌++◌, length, take, drop, Some, None, Ok, Err, Option, Result}
use Rattle.octets.specs.Packed.{unpacked, Packs}
use Rattle.decline.specs.declared.Fault.{Fault}
use Rattle.decline.specs.Faults.{bare}
use Rattle.octets.specs.declared.Packed.{Packed}
use Rattle.order.specs.Lists.{Mem}
use Rattle.order.specs.Order.{Arranged}
use Rattle.revision.specs.declared.DocumentId.{DocumentId}
use Rattle.revision.specs.declared.Revision.{Revision}
use Rattle.revision.specs.declared.Mark.{Mark}
use Rattle.revision.specs.declared.Mark.TheVariants.{Live, Deleted}
use Rattle.revision.specs.declared.Head.{Head}
use Rattle.revision.specs.Heads.{Rank, Outranks, others_live}
use Rattle.revision.specs.Ids.{good_id, good_generation, IsId}

-- Reading an id: its numbers, from which its bytes come back; declined 11 where the bytes are no id.
abbrev pub IdRead : List ℕ → Result DocumentId Fault → Type 0
IdRead bs (Ok d) = (good_id bs ≡ true) × Packs bs d.bytes × (unpacked d.bytes ≡ bs)
IdRead bs (Err e) = (good_id bs ≡ false) × (e ≡ bare 11)

-- Laying an id into memory that held the bytes before: declined 11, then 18, with the memory untouched; else its bytes in front, from which reading
-- gives these numbers back.
abbrev pub IdLaid : Packed → List ℕ → Result ℕ Fault → List ℕ → Type 0
IdLaid p before (Ok n) now = IsId p × (16 ≤ length before) × (n ≡ length (unpacked p)) × (now ≡ unpacked p ++ drop n before)
IdLaid p before (Err e) now = (now ≡ before) × (((IsId p → ⊥) × (e ≡ bare 11)) ⊎ (IsId p × (length before < 16) × (e ≡ bare 18)))

-- making a revision: declined 12 where the generation is outside 1 to 200
abbrev pub RevisionMade : ℕ → ℕ → Result Revision Fault → Type 0
RevisionMade g x (Ok r) = (good_generation g ≡ true) × (r ≡ record { generation = g; tag = x })
RevisionMade g x (Err e) = (good_generation g ≡ false) × (e ≡ bare 12)

-- the number of a mark
abbrev pub mark_number : Mark → ℕ
mark_number Live = 0
mark_number Deleted = 1

-- reading a mark: declined 13 above 1
abbrev pub MarkRead : ℕ → Result Mark Fault → Type 0
MarkRead n (Ok m) = n ≡ mark_number m
MarkRead n (Err e) = (1 < n) × (e ≡ bare 13)

-- a head's mark, and its rank
abbrev pub head_mark : Head → ℕ
head_mark h = mark_number h.mark

abbrev pub head_rank : Head → Rank
head_rank h = record { mark = head_mark h; generation = h.revision.generation; tag = h.revision.tag }

-- one head stands below another
abbrev pub Lower : Head → Head → Type 0
Lower h k = Outranks (head_rank k) (head_rank h)

-- the winner is one of the heads, and none of them is above it; without heads there is none
abbrev pub Winner : List Head → Option Head → Type 0
Winner hs None = hs ≡ []
Winner hs (Some h) = Mem h hs × ((k : Head) → Mem k hs → Lower h k → ⊥)

-- heads put in order, and the number of conflicts, which follow the first head
pub record Conflicts (before : List Head) (n : ℕ) (now : List Head) : Type 0 where
  pub arranged : Arranged Lower before now
  pub many : n ≡ length (others_live head_mark now)
  pub behind : take n (drop 1 now) ≡ others_live head_mark now
