-- What the code's rules and keys say in the words of the model.
use Rattle.std.specs.Prelude.{◌≡◌, ℕ, true, false, ◌⊎◌, List, Some, None, Ok, Err, Result, ◌≢◌}
use Rattle.octets.specs.Packed.{unpacked, Packs}
use Rattle.decline.specs.declared.Fault.{Fault}
use Rattle.decline.specs.Faults.{bare}
use Rattle.decline.specs.Verdicts.{first_failed}
use Rattle.keys.specs.declared.Rule.{Rule}
use Rattle.keys.specs.declared.Key.{Key}
use Rattle.keys.specs.Keys as Model
use Rattle.keys.specs.Keys.{good_rule, good_key, key_in, key_tests}

-- the prefix of a rule
abbrev pub prefix_of : Rule → List ℕ
prefix_of r = unpacked r.prefix

-- Reading a rule: its numbers, from which its bytes come back; declined 19 where the bytes are no prefix of an id.
abbrev pub RuleRead : List ℕ → Result Rule Fault → Type 0
RuleRead bs (Ok r) = (good_rule bs ≡ true) × Packs bs r.prefix × (prefix_of r ≡ bs)
RuleRead bs (Err e) = (good_rule bs ≡ false) × (e ≡ bare 19)

-- the key that the numbers are
abbrev pub key_of : Key → Model.Key
key_of k = record { source = k.source; target = k.target; rule = prefix_of k.rule }

-- a peer's number in a key: declined 16 for 0
abbrev pub NumberRead : ℕ → Result ℕ Fault → Type 0
NumberRead n (Ok m) = (n ≢ 0) × (m ≡ n)
NumberRead n (Err e) = (n ≡ 0) × (e ≡ bare 16)

-- making a key: declined 16 for a number 0, then 19 for a bad prefix
abbrev pub KeyMade : ℕ → ℕ → List ℕ → Result Key Fault → Type 0
KeyMade s t bs (Ok k) = (s ≢ 0) × (t ≢ 0) × (k.source ≡ s) × (k.target ≡ t) × RuleRead bs (Ok k.rule)
KeyMade s t bs (Err e) = (((s ≡ 0) ⊎ (t ≡ 0)) × (e ≡ bare 16)) ⊎ ((s ≢ 0) × (t ≢ 0) × RuleRead bs (Err e))

-- reading the form of a key's bytes: declined 19 where it is another
abbrev pub FormRead : List ℕ → Result Key Fault → Type 0
FormRead bs (Ok k) = (good_key bs ≡ true) × (key_of k ≡ key_in bs)
FormRead bs (Err e) = (good_key bs ≡ false) × (e ≡ bare 19)

-- reading a key's bytes: declined by the first test that fails
abbrev pub KeyRead : List ℕ → Result Key Fault → Type 0
KeyRead bs (Ok k) = (first_failed (key_tests bs) ≡ None) × (key_of k ≡ key_in bs)
KeyRead bs (Err e) = (n : ℕ) × (first_failed (key_tests bs) ≡ Some n) × (e ≡ bare n)
