-- The decline numbers, each with its layer and word.
use Rattle.std.specs.Prelude.{ℕ, cond, List, [], ◌∷◌, Some, None, codes, Option, ◌==◌}
use Rattle.decline.specs.declared.Entry.{Entry}
use Rattle.decline.specs.declared.Layer.{Layer}
use Rattle.decline.specs.declared.Layer.TheVariants.{Peer, Replication, Device}
use Rattle.decline.specs.declared.Decline.{Decline}
use Rattle.decline.specs.declared.Decline.TheVariants.{Id, Revision, Mark, Body, Stamp, Number, Twin, Memory, Rule, Size, Down, Contradiction, Full, Absent, Used, Restarted, Rows, End, NoFile, Off, Unreadable, Beyond}

-- a number with its layer and the bytes of its word
pub record Named : Type 0 where
  pub number : ℕ
  pub layer : Layer
  pub word : List ℕ

-- a row of the code's table
abbrev pub plain : Entry → Named
plain e = record { number = e.number; layer = e.layer; word = e.word.now }

-- the numbers, each with its layer and word
abbrev pub rows : List Named
rows =
    record { number = 11; layer = Peer; word = codes "id" }
    ∷ record { number = 12; layer = Peer; word = codes "revision" }
    ∷ record { number = 13; layer = Peer; word = codes "mark" }
    ∷ record { number = 14; layer = Peer; word = codes "body" }
    ∷ record { number = 15; layer = Peer; word = codes "stamp" }
    ∷ record { number = 16; layer = Peer; word = codes "number" }
    ∷ record { number = 17; layer = Replication; word = codes "twin" }
    ∷ record { number = 18; layer = Peer; word = codes "memory" }
    ∷ record { number = 19; layer = Peer; word = codes "rule" }
    ∷ record { number = 20; layer = Peer; word = codes "size" }
    ∷ record { number = 31; layer = Peer; word = codes "down" }
    ∷ record { number = 34; layer = Peer; word = codes "contradiction" }
    ∷ record { number = 35; layer = Peer; word = codes "full" }
    ∷ record { number = 37; layer = Peer; word = codes "absent" }
    ∷ record { number = 38; layer = Replication; word = codes "used" }
    ∷ record { number = 39; layer = Replication; word = codes "restarted" }
    ∷ record { number = 40; layer = Replication; word = codes "rows" }
    ∷ record { number = 41; layer = Replication; word = codes "end" }
    ∷ record { number = 42; layer = Peer; word = codes "nofile" }
    ∷ record { number = 51; layer = Device; word = codes "off" }
    ∷ record { number = 52; layer = Device; word = codes "unreadable" }
    ∷ record { number = 53; layer = Device; word = codes "beyond" } ∷ []

-- the first row with a number
abbrev pub found : List Named → ℕ → Option Named
found [] n = None
found (r ∷ rs) n = cond (r.number == n) (Some r) (found rs n)

-- the number of a reason
abbrev pub number_of : Decline → ℕ
number_of Id = 11
number_of Revision = 12
number_of Mark = 13
number_of Body = 14
number_of Stamp = 15
number_of Number = 16
number_of Twin = 17
number_of Memory = 18
number_of Rule = 19
number_of Size = 20
number_of Down = 31
number_of Contradiction = 34
number_of Full = 35
number_of Absent = 37
number_of Used = 38
number_of Restarted = 39
number_of Rows = 40
number_of End = 41
number_of NoFile = 42
number_of Off = 51
number_of Unreadable = 52
number_of Beyond = 53
