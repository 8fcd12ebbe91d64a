-- Replication logs: entries, log writes, and the comparison of two logs. Stamps are of any type with a test for equality.
use Rattle.std.specs.Prelude.{◌≡◌, ℕ, suc, ◌≤◌, min, Bool, true, false, cond, ◌⊎◌, List, [], ◌∷◌, take, ◌==◌, nat_eq}
use Rattle.order.specs.Lists.{Mem}
use Rattle.keys.specs.Keys.{Key, same_key}

-- a log's entries are stamps with positions, newest first
abbrev pub Entries : Type 0 → Type 0
Entries S = List (S × ℕ)

-- whether a stamp is there
abbrev pub listed : {S : Type 0} → (S → S → Bool) → S → Entries S → Bool
listed eq s [] = false
listed eq s (e ∷ es) = cond (eq s e.0) true (listed eq s es)

-- the entries with the position of a stamp replaced
abbrev pub replaced : {S : Type 0} → (S → S → Bool) → S → ℕ → Entries S → Entries S
replaced eq s p [] = []
replaced eq s p (e ∷ es) = cond (eq s e.0) (s, p) e ∷ replaced eq s p es

-- the position of a stamp that is there is replaced; otherwise the entry goes in front, and a ninth is dropped
abbrev pub entered : {S : Type 0} → (S → S → Bool) → S → ℕ → Entries S → Entries S
entered eq s p es = cond (listed eq s es) (replaced eq s p es) (take 8 ((s, p) ∷ es))

-- whether a stamp is there with this position already
abbrev pub settled : {S : Type 0} → (S → S → Bool) → S → ℕ → Entries S → Bool
settled eq s p [] = false
settled eq s p (e ∷ es) = cond (eq s e.0) (p == e.1) (settled eq s p es)

-- how many entries of one log have stamps that are in the other
abbrev pub common : {S : Type 0} → (S → S → Bool) → Entries S → Entries S → ℕ
common eq [] l = 0
common eq (e ∷ es) l = cond (listed eq e.0 l) (suc (common eq es l)) (common eq es l)

-- Comparing two logs: each stamp in both gives the smaller of its two positions; the position is the greatest of these, else 0; with it the number of common
-- stamps.
pub record Compared {S : Type 0} (eq : S → S → Bool) (k l : Entries S) (n count : ℕ) : Type 0 where
  pub reached : (n ≡ 0) ⊎ ((s : S) × (p : ℕ) × (q : ℕ) × Mem (s, p) k × Mem (s, q) l × (n ≡ min p q))
  pub greatest : (s : S) (p q : ℕ) → Mem (s, p) k → Mem (s, q) l → min p q ≤ n
  pub counted : count ≡ common eq k l

-- the logs of a peer by their keys; their stamps are numbers
abbrev pub Logs : Type 0
Logs = Key → Entries ℕ

-- a log write
pub record Note : Type 0 where
  pub key : Key
  pub stamp : ℕ
  pub position : ℕ

-- the logs after a log write
abbrev pub enter : Note → Logs → Logs
enter n l k = cond (same_key n.key k) (entered nat_eq n.stamp n.position (l k)) (l k)
