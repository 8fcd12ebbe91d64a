-- Keys that are the same, and keys as bytes: a good key's bytes have the form of a key and give the key back.
use Rattle.std.proofs.Common.{◌≡◌, ℕ, ◌^◌, ◌<◌, ◌≤◌, true, ◌&&◌, eqb, leb, [], ◌∷◌, length, take, refl, ap, ◌∙◌, arith}
use Rattle.std.proofs.lemmas.Bool.{eqb-true, eq-eqb, and_from, and_parts, leb-true}
use Rattle.octets.specs.BigEndian.{number, in_bytes, filled}
use Rattle.octets.proofs.Widths.{number_in_bytes}
use Rattle.octets.proofs.Packing.{length_filled, take_filled}
use Rattle.order.specs.Lists.{every, same}
use Rattle.order.proofs.Lists.{same_true, same_self}
use Rattle.revision.specs.Ids.{id_byte}
use Rattle.keys.specs.Keys.{good_rule, Key, same_key, key_bytes, key_in, good_key}

pub same_key_true : (k l : Key) → same_key k l ≡ true → k ≡ l
same_key_true k l e =
    let h = and_parts (eqb k.source l.source) (eqb k.target l.target && same k.rule l.rule) e in
    let g = and_parts (eqb k.target l.target) (same k.rule l.rule) h.1 in
    let a = eqb-true k.source l.source h.0 in
    let b = eqb-true k.target l.target g.0 in
    let c = same_true k.rule l.rule g.1 in
    λ i. record { source = a i; target = b i; rule = c i }

pub same_key_self : (k : Key) → same_key k k ≡ true
same_key_self k = and_from (eqb k.source k.source) _ (eq-eqb k.source k.source refl)
    (and_from (eqb k.target k.target) (same k.rule k.rule) (eq-eqb k.target k.target refl) (same_self k.rule))

-- a key of 32-bit numbers and a good rule
module _ (k : Key) (s : k.source < 256 ^ 4) (t : k.target < 256 ^ 4) (g : good_rule k.rule ≡ true) where
  few : length k.rule ≤ 16
  few = leb-true (length k.rule) 16 (and_parts (leb (length k.rule) 16) (every id_byte k.rule) g).0

  pub key_back : key_in (key_bytes k) ≡ k
  key_back =
      let a : number (in_bytes 4 k.source) ≡ k.source = number_in_bytes 4 k.source s in
      let b : number (in_bytes 4 k.target) ≡ k.target = number_in_bytes 4 k.target t in
      let n : number (length k.rule ∷ []) ≡ length k.rule = omega arith in
      let c : take (number (length k.rule ∷ [])) (filled 16 k.rule) ≡ k.rule = ap (λ (m : ℕ). take m (filled 16 k.rule)) n ∙ take_filled 16 k.rule few in
      λ i. record { source = a i; target = b i; rule = c i }

  pub key_good : good_key (key_bytes k) ≡ true
  key_good =
      and_from (eqb (length (key_bytes k)) 25) _ (eq-eqb (length (key_bytes k)) 25 (omega (arith, length_filled 16 k.rule)))
      (and_from (good_rule (key_in (key_bytes k)).rule) _ (ap (λ (z : Key). good_rule z.rule) key_back ∙ g)
      (ap (λ (z : Key). same (key_bytes z) (key_bytes k)) key_back ∙ same_self (key_bytes k)))
