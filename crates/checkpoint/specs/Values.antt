-- What the code's logs say in the words of the model.
use Rattle.std.specs.Prelude.{◌≡◌, ℕ, ◌≤◌, min, true, false, List, map, take, Some, None, Option, Ok, Err, Result, ◌≢◌, nat_eq}
use Rattle.order.specs.Lists.{Mem}
use Rattle.decline.specs.declared.Fault.{Fault}
use Rattle.decline.specs.Faults.{bare}
use Rattle.checkpoint.specs.declared.Entry.{Entry}
use Rattle.checkpoint.specs.declared.Log.{Log}
use Rattle.checkpoint.specs.Logs.{Entries, listed, entered}

-- an entry's stamp and position
abbrev pub pair : Entry → ℕ × ℕ
pair e = (e.stamp, e.position)

abbrev pub pairs : List Entry → Entries ℕ
pairs es = map pair es

-- the entries of a log, newest first
abbrev pub entries_of : Log → List Entry
entries_of l = take l.count l.entries

-- a log write: declined 15 for stamp 0, with the log untouched
abbrev pub Put : Log → ℕ → ℕ → Result Unit Fault → Log → Type 0
Put l s p (Ok x) m = (s ≢ 0) × (pairs (entries_of m) ≡ entered nat_eq s p (pairs (entries_of l)))
Put l s p (Err e) m = (s ≡ 0) × (e ≡ bare 15) × (m ≡ l)

-- the smaller positions that an entry and the entries of a log with its stamp give
abbrev pub Smaller : ℕ × ℕ → Entries ℕ → ℕ → Type 0
Smaller e l m = (q : ℕ) × Mem (e.0, q) l × (m ≡ min e.1 q)

-- an entry against a log: the greatest of those, or none where its stamp is not there
abbrev pub Met : ℕ × ℕ → Entries ℕ → Option ℕ → Type 0
Met e l None = listed nat_eq e.0 l ≡ false
Met e l (Some n) = (listed nat_eq e.0 l ≡ true) × Smaller e l n × ((m : ℕ) → Smaller e l m → m ≤ n)
