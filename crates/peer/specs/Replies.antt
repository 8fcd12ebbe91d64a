-- What the results of the code say in the words of the model.
use Rattle.std.specs.Prelude.{◌≡◌, ℕ, ◌⊎◌, List, length, Some, None, Ok, Err, Option, Result}
use Rattle.octets.specs.Packed.{unpacked}
use Rattle.decline.specs.declared.Fault.{Fault}
use Rattle.decline.specs.Faults.{bare, above, block_fault}
use Rattle.revision.specs.declared.Revision.{Revision}
use Rattle.revision.specs.Ids.{IsId}
use Rattle.revision.specs.Trees.{Content}
use Rattle.revision.specs.Values.{mark_number}
use Rattle.peer.specs.declared.Row as Code
use Rattle.peer.specs.declared.Body.{Body}
use Rattle.peer.specs.Records.{Row}
use Rattle.peer.specs.Peers.{Peer, Reply, answered, declined}
use Rattle.peer.specs.Functions.{Function, Answer, Call, Filled, Wake}

-- Declines ------------------------------------------------------------------------------------------------------------

-- The whole fault of a decline with number n: the bare number; but a 31 may carry a device's 51 with its block, and a 42 a device's 52 of block 0.
abbrev pub FaultOf : ℕ → Fault → Type 0
FaultOf n e = (e ≡ bare n) ⊎ (((n ≡ 31) × ((block : ℕ) × (e ≡ above (block_fault 51 block) (bare 31)))) ⊎ ((n ≡ 42) × (e ≡ above (block_fault 52 0) (bare 42))))

-- Calls ---------------------------------------------------------------------------------------------------------------

-- an answer that is the model's as it stands
abbrev pub plain : {A : Type 0} → A → A
plain a = a

-- The one way from a result to a reply of the model: an answer means one of the model; a fault declines with its number, and is whole.
abbrev pub Replied : {A B : Type 0} → (Reply B → Type 0) → (A → B) → Result A Fault → Type 0
Replied Said mean (Ok a) = Said (answered (mean a))
Replied Said mean (Err e) = Said (declined e.number) × FaultOf e.number e

-- A call of a function.
abbrev pub Replies : {A : Type 0} (f : Function) → (A → Answer f) → Peer → Result A Fault → Peer → Type 0
Replies f mean p r q = Replied (λ y. Call f p y q) mean r

-- A call whose answer goes into lent memory, which held the bytes before: the result tells of the answer.
abbrev pub Fills : {A : Type 0} (f : Function) → (Answer f → List ℕ) → (A → Answer f → Type 0) → Peer → List ℕ → Result A Fault → Peer → List ℕ → Type 0
Fills f out Tells p before (Ok a) q now = (x : Answer f) × Tells a x × Replied (λ y. Call f p y q) plain (Ok x) × Filled out (answered x) before now
Fills f out Tells p before (Err e) q now = Replied {A = Answer f} (λ y. Call f p y q) plain (Err e) × Filled out (declined e.number) before now

-- A wake.
abbrev pub Wakes : ℕ → Peer → Result Unit Fault → Peer → Type 0
Wakes s p r q = Replied (λ y. Wake s p y q) plain r

-- Answers -------------------------------------------------------------------------------------------------------------

-- an answer that may be none
abbrev pub perhaps : {A B : Type 0} → (A → B) → Option A → Option B
perhaps f None = None
perhaps f (Some a) = Some (f a)

-- a row of the feed
abbrev pub row_of : Code.Row → Row
row_of r = (unpacked r.id.bytes, r.change)

-- an answered row has the numbers of an id
abbrev pub RowHasId : Result (Option Code.Row) Fault → Type 0
RowHasId (Ok None) = Unit
RowHasId (Ok (Some r)) = IsId r.id.bytes
RowHasId (Err e) = Unit

-- a revision
abbrev pub revision_of : Revision → ℕ × ℕ
revision_of r = (r.generation, r.tag)

-- how many bytes of lent memory an answer fills
abbrev pub Fits : {A : Type 0} → (A → List ℕ) → ℕ → A → Type 0
Fits out n a = n ≡ length (out a)

-- the bytes of a body
abbrev pub body_bytes : Content → List ℕ
body_bytes c = c.body

-- a head's mark, and how many bytes its body fills
abbrev pub TellsBody : Body → Content → Type 0
TellsBody b c = (mark_number b.mark ≡ c.mark) × (b.length ≡ length c.body)
