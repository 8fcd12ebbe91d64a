-- Rules, and the keys of replication logs.
use Rattle.std.specs.Prelude.{ℕ, Bool, true, false, not, ◌&&◌, List, [], ◌∷◌, ◌++◌, length, take, drop, ◌==◌, nat_le}
use Rattle.octets.specs.BigEndian.{number, in_bytes, filled}
use Rattle.order.specs.Lists.{every, same}
use Rattle.revision.specs.Ids.{Id, id_byte}

-- a rule is a prefix of 0 to 16 id bytes
abbrev pub good_rule : List ℕ → Bool
good_rule r = nat_le (length r) 16 && every id_byte r

-- it passes the ids that begin with it
abbrev pub passes : List ℕ → Id → Bool
passes [] d = true
passes (x ∷ xs) [] = false
passes (x ∷ xs) (y ∷ ys) = x == y && passes xs ys

-- a log's key: the numbers of source and target, and the rule
pub record Key : Type 0 where
  pub source : ℕ
  pub target : ℕ
  pub rule : List ℕ

-- whether two keys are the same
abbrev pub same_key : Key → Key → Bool
same_key k l = k.source == l.source && (k.target == l.target && same k.rule l.rule)

-- a key in 25 bytes: source number, target number, the prefix's length, and the prefix filled with zeros to 16
abbrev pub key_bytes : Key → List ℕ
key_bytes k = in_bytes 4 k.source ++ (in_bytes 4 k.target ++ (length k.rule ∷ filled 16 k.rule))

-- the key that 25 bytes are; of fewer bytes, what is there of it
abbrev pub key_in : List ℕ → Key
key_in bs = record { source = number (take 4 bs); target = number (take 4 (drop 4 bs)); rule = take (number (take 1 (drop 8 bs))) (drop 9 bs) }

-- whether bytes have the form of a key
abbrev pub good_key : List ℕ → Bool
good_key bs = length bs == 25 && (good_rule (key_in bs).rule && same (key_bytes (key_in bs)) bs)

-- a key's bytes are declined 16 for a number 0, then 19 for another form
abbrev pub key_tests : List ℕ → List (Bool × ℕ)
key_tests bs = (not ((key_in bs).source == 0) && not ((key_in bs).target == 0), 16) ∷ (good_key bs, 19) ∷ []
