-- What is written reads back.
use Rattle.std.proofs.Common.{◌≡◌, ℕ, zero, suc, ◌+◌, ◌*◌, ◌/◌, ◌%◌, ◌^◌, ◌<◌, ◌≤◌, true, not, eqb, ◌==◌, ltb, leb, List, [], ◌∷◌, ◌++◌, length, take, drop, Some, Option, length-append, sym, refl, ap, ◌∙◌, mod-lt, div-lt_iff_lt-mul, pow-suc, arith, lit<, lit≤}
use native.Mathlib.Nat.{pow-zero}
use Rattle.std.specs.Str.Parse.{digits_value as value, digits_value_after}
use Rattle.std.specs.Char.{digit_value, digit_char}
use Rattle.std.proofs.lemmas.Nat.{div-add-mod'}
use Rattle.std.proofs.lemmas.Int.Digits.{digits_value_push}
use Rattle.std.proofs.lemmas.List.{map_push, length-map, take_at, drop_at, append_assoc, length_push}
use Rattle.std.proofs.lemmas.Bool.{and_from, and_parts, cond-true, cond_both, eqb-true, ne_eqb, leb-true, ltb-true, lt-ltb}
use Rattle.std.proofs.lemmas.Str.{digit_value-digit_char}
use Rattle.std.specs.List.{position_or_len}
use Rattle.octets.specs.BigEndian.{in_base}
use Rattle.octets.specs.Places.{place_of}
use Rattle.octets.proofs.Widths.{length_in_base}
use Rattle.notation.specs.Text.{all_digits, numeral, dash, revision, parted, parse, stripped, digits_in, written}
use Rattle.revision.specs.Ids.{good_generation}
use Rattle.notation.specs.Outcomes.{Wrote}
use Rattle.notation.proofs.Numerals.{numeral_value}

all_digits_push : (b : ℕ) (cs : List ℕ) (c : ℕ) → all_digits b cs ≡ true → digit_value c < b → all_digits b (cs ++ c ∷ []) ≡ true
all_digits_push b [] c e h = and_from _ true (lt-ltb _ _ h) refl
all_digits_push b (d ∷ cs) c e h =
    let p = and_parts (ltb (digit_value d) b) (all_digits b cs) e in
    and_from _ _ p.0 (all_digits_push b cs c p.1 h)

module _ (b : ℕ) (z : 0 < b) (w : b ≤ 36) where
  last_digit : (n : ℕ) → digit_value (digit_char (n % b)) ≡ n % b
  last_digit n = digit_value-digit_char (n % b) (omega (arith, mod-lt n z))

  -- the digits of a number are digits
  digits_are : (k n : ℕ) → all_digits b (digits_in b k n) ≡ true
  digits_are zero n = refl
  digits_are (suc k) n =
      ap (all_digits b) (map_push digit_char (in_base b k (n / b)) (n % b))
      ∙ all_digits_push b (digits_in b k (n / b)) (digit_char (n % b)) (digits_are k (n / b)) (omega (arith, last_digit n, mod-lt n z))

  -- and write the number
  digits_value : (k n : ℕ) → n < b ^ k → value b (digits_in b k n) ≡ n
  digits_value zero n h = omega (arith, pow-zero b)
  digits_value (suc k) n h =
      let p : b ^ suc k ≡ b ^ k * b = pow-suc b k in
      let s : n / b < b ^ k = (div-lt_iff_lt-mul z).1 (omega arith) in
      let e : value b (digits_in b k (n / b)) ≡ n / b = digits_value k (n / b) s in
      ap (value b) (map_push digit_char (in_base b k (n / b)) (n % b))
      ∙ (digits_value_push b (digits_in b k (n / b)) (digit_char (n % b)) ∙ ((λ i. e i * b + last_digit n i) ∙ div-add-mod' n b))

-- a zero in front adds nothing
value_zero : (b c : ℕ) (cs : List ℕ) → c ≡ 48 → value b cs ≡ value b (c ∷ cs)
value_zero b c cs e =
    let d : digit_value c ≡ 0 = ap digit_value e in
    let z : 0 ≡ 0 * b + digit_value c = omega arith in
    ap (λ (m : ℕ). digits_value_after b m cs) z

-- nor do leading zeros
stripped_value : (b k : ℕ) (cs : List ℕ) → value b (stripped k cs) ≡ value b cs
stripped_value b zero cs = refl
stripped_value b (suc k) [] = refl
stripped_value b (suc k) (c ∷ cs) =
    cond_both (eqb c 48) (stripped k cs) (c ∷ cs) (λ (l : List ℕ). value b l ≡ value b (c ∷ cs))
    (λ e. stripped_value b k cs ∙ value_zero b c cs (eqb-true c 48 e)) (λ _. refl)

-- the rest of digits are digits
stripped_digits : (b k : ℕ) (cs : List ℕ) → all_digits b cs ≡ true → all_digits b (stripped k cs) ≡ true
stripped_digits b zero cs d = d
stripped_digits b (suc k) [] d = d
stripped_digits b (suc k) (c ∷ cs) d =
    cond_both (eqb c 48) (stripped k cs) (c ∷ cs) (λ (l : List ℕ). all_digits b l ≡ true)
    (λ _. stripped_digits b k cs (and_parts (ltb (digit_value c) b) (all_digits b cs) d).1) (λ _. d)

-- at most so many bytes go
stripped_length : (k : ℕ) (cs : List ℕ) → (length (stripped k cs) ≤ length cs) × (length cs ≤ length (stripped k cs) + k)
stripped_length zero cs = (omega arith, omega arith)
stripped_length (suc k) [] = (omega arith, omega arith)
stripped_length (suc k) (c ∷ cs) =
    let h = stripped_length k cs in
    cond_both (eqb c 48) (stripped k cs) (c ∷ cs) (λ (l : List ℕ). (length l ≤ length (c ∷ cs)) × (length (c ∷ cs) ≤ length l + suc k))
    (λ _. (omega arith, omega arith)) (λ _. (omega arith, omega arith))

-- a number's text is a numeral of it
numeral_back : (b most k n : ℕ) → 0 < b → b ≤ 36 → k < most → n < b ^ most → numeral b most (stripped k (digits_in b most n)) ≡ Some n
numeral_back b most k n z w h u =
    let cs : List ℕ = digits_in b most n in
    let l : length cs ≡ most = length-map (in_base b most n) digit_char ∙ length_in_base b most n in
    let s = stripped_length k cs in
    numeral_value b most (stripped k cs) (omega arith) (omega arith) (stripped_digits b k cs (digits_are b z w most n))
    ∙ ap Some (stripped_value b k cs ∙ digits_value b z w most n u)

-- no decimal digit is a dash
digit_no_dash : (c : ℕ) → digit_value c < 10 → c ≡ 45 → ⊥
digit_no_dash c h e = let d : digit_value c ≡ 36 = ap digit_value e in omega arith

-- the first dash stands behind the digits
dash_behind : (cs ds : List ℕ) → all_digits 10 cs ≡ true → position_or_len (λ c. c == dash) (cs ++ dash ∷ ds) ≡ length cs
dash_behind [] ds e = refl
dash_behind (c ∷ cs) ds e =
    let p = and_parts (ltb (digit_value c) 10) (all_digits 10 cs) e in
    let n : 1 + position_or_len (λ c. c == dash) (cs ++ dash ∷ ds) ≡ length (c ∷ cs) = omega (arith, dash_behind cs ds p.1) in
    cond-true _ (1 + position_or_len (λ c. c == dash) (cs ++ dash ∷ ds)) 0 (ap not (ne_eqb c 45 (digit_no_dash c (ltb-true _ _ p.0)))) ∙ n

dash_place : (cs ds : List ℕ) → all_digits 10 cs ≡ true → place_of dash (cs ++ dash ∷ ds) ≡ Some (length cs)
dash_place cs ds e =
    let n : position_or_len (λ c. c == dash) (cs ++ dash ∷ ds) ≡ length cs = dash_behind cs ds e in
    let l : position_or_len (λ c. c == dash) (cs ++ dash ∷ ds) < length (cs ++ dash ∷ ds) = omega (arith, n, length-append cs (dash ∷ ds)) in
    cond-true _ _ _ (lt-ltb _ _ l) ∙ ap Some n

-- a revision's text parses to the revision
pub parse_written : (g x : ℕ) → good_generation g ≡ true → x < 2 ^ 64 → parse (written g x) ≡ Some (g, x)
unfolding parse written
parse_written g x p h =
    let d : List ℕ = stripped 2 (digits_in 10 3 g) in
    let t : List ℕ = stripped 14 (digits_in 16 16 x) in
    let u = leb-true g 200 (and_parts (leb 1 g) (leb g 200) p).1 in
    let a : place_of dash (written g x) ≡ Some (length d) = dash_place d t (stripped_digits 10 2 (digits_in 10 3 g) (digits_are 10 (lit< tt) (lit≤ tt) 3 g)) in
    let f : drop (length d + 1) (written g x) ≡ t =
    ap (drop (length d + 1)) (sym (append_assoc d (45 ∷ []) t)) ∙ drop_at (d ++ 45 ∷ []) t (length d + 1) (length_push d 45) in
    let m : numeral 10 3 (take (length d) (written g x)) ≡ Some g =
    ap (numeral 10 3) (take_at d (45 ∷ t) (length d) refl) ∙ numeral_back 10 3 2 g (lit< tt) (lit≤ tt) (lit< tt) (omega arith) in
    let n : numeral 16 16 (drop (length d + 1) (written g x)) ≡ Some x = ap (numeral 16 16) f ∙ numeral_back 16 16 14 x (lit< tt) (lit≤ tt) (lit< tt) (omega arith) in
    ap (λ (o : Option ℕ). parted o (written g x)) a ∙ ((λ i. revision (m i) (n i)) ∙ cond-true _ _ _ p)

-- both parts laid with a dash between them are the text, and it reads back
pub parts_wrote : (g x n : ℕ) (old new d t : List ℕ) → good_generation g ≡ true → x < 2 ^ 64 → 20 ≤ length old →
    d ≡ stripped 2 (digits_in 10 3 g) → t ≡ stripped 14 (digits_in 16 16 x) →
    new ≡ (d ++ 45 ∷ t) ++ drop n old → n ≡ length (d ++ 45 ∷ t) → Wrote g x old new n
unfolding written
parts_wrote g x n old new d t p h r a b l m =
    let w : d ++ 45 ∷ t ≡ written g x = λ i. a i ++ 45 ∷ b i in
    let u : n ≡ length (written g x) = m ∙ ap length w in
    let v : new ≡ written g x ++ drop n old = l ∙ ap (λ (cs : List ℕ). cs ++ drop n old) w in
    let f : take n new ≡ written g x = ap (take n) v ∙ take_at (written g x) (drop n old) n (sym u) in
    record { admitted = p; room = r; many = u; laid = v; back = ap parse f ∙ parse_written g x p h }
