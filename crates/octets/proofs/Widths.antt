-- Numbers and their bytes: each reads back as the other.
use Rattle.std.proofs.Common.{◌≡◌, ℕ, zero, suc, ◌+◌, ◌*◌, ◌/◌, ◌%◌, ◌^◌, ◌<◌, ◌≤◌, List, [], ◌∷◌, ◌++◌, length, get_or, take, sym, refl, ap, ◌∙◌, ⊎_elim, div-lt_iff_lt-mul, pow-suc, add-one, arith, lit<, get_or-take}
use native.Mathlib.Nat.{pow-zero, pow-succ', pow-le-pow_right, div-div-eq-div-mul}
use Rattle.std.proofs.lemmas.Int.Digits.{number_push}
use Rattle.std.proofs.lemmas.Bool.{cases_lt}
use Rattle.std.proofs.lemmas.Nat.{div-add-mod', div-mul-add, mod-mul-add}
use Rattle.std.proofs.lemmas.List.{take_more, take_all, length_push, nil_from_length, length-take-le, get_or_past}
use Rattle.std.specs.List.{AllByRecursion as All}
use Rattle.octets.specs.BigEndian.{number, in_base, in_bytes, eights, in_eights}
use Rattle.std.specs.Int.Digits

pub pow_more : (i : ℕ) → 256 ^ (i + 1) ≡ 256 * 256 ^ i
pow_more i = rw add-one (pow-succ' 256 i)

pub more_lt : (n i b : ℕ) → n < 256 ^ i → b < 256 → n * 256 + b < 256 ^ (i + 1)
more_lt n i b h k = omega (arith, pow_more i)

-- a number of fewer than 8 bytes leaves room for one byte more
pub room : (n i : ℕ) → n < 256 ^ i → i < 8 → n < 256 ^ 7
room n i h k = let p : 256 ^ i ≤ 256 ^ 7 = pow-le-pow_right (lit< tt) {i = i} {j = 7} (omega arith) in omega arith

pub length_in_base : (b k n : ℕ) → length (in_base b k n) ≡ k
length_in_base b zero n = refl
length_in_base b (suc k) n = length_push (in_base b k (n / b)) (n % b) ∙ omega (arith, length_in_base b k (n / b))

pub length_in_bytes : (k n : ℕ) → length (in_bytes k n) ≡ k
length_in_bytes k n = length_in_base 256 k n

-- a number's digits write that number
pub number_in_base : (b k n : ℕ) → 0 < b → n < b ^ k → Digits.number_from_digits b (in_base b k n) ≡ n
number_in_base b zero n z h = omega (arith, pow-zero b)
number_in_base b (suc k) n z h =
    let p : b ^ suc k ≡ b ^ k * b = pow-suc b k in
    let s : n / b < b ^ k = (div-lt_iff_lt-mul z).1 (omega arith) in
    let e : Digits.number_from_digits b (in_base b k (n / b)) ≡ n / b = number_in_base b k (n / b) z s in
    number_push b (in_base b k (n / b)) (n % b) ∙ (ap (λ (m : ℕ). m * b + n % b) e ∙ div-add-mod' n b)

pub number_in_bytes : (k n : ℕ) → n < 256 ^ k → number (in_bytes k n) ≡ n
number_in_bytes k n h = number_in_base 256 k n (lit< tt) h

-- what bytes write has those bytes
pub in_bytes_number : (k : ℕ) (bs : List ℕ) → length bs ≡ k → ((i : ℕ) → get_or bs i 0 < 256) → in_bytes k (number bs) ≡ bs
in_bytes_number zero bs e u = sym (nil_from_length bs e)
in_bytes_number (suc k) bs e u =
    let h : k < length bs = omega arith in
    let l : length (take k bs) ≡ k = length-take-le k bs (omega arith) in
    let w : take (k + 1) bs ≡ bs = take_all (k + 1) bs (omega arith) in
    let s : bs ≡ take k bs ++ get_or bs k 0 ∷ [] = sym w ∙ take_more bs k 0 h in
    let v : number bs ≡ number (take k bs) * 256 + get_or bs k 0 = ap number s ∙ number_push 256 (take k bs) (get_or bs k 0) in
    let b : get_or bs k 0 < 256 = u k in
    let q : number bs / 256 ≡ number (take k bs) = ap (λ x. x / 256) v ∙ div-mul-add (number (take k bs)) 256 (get_or bs k 0) b in
    let m : number bs % 256 ≡ get_or bs k 0 = ap (λ x. x % 256) v ∙ mod-mul-add (number (take k bs)) 256 (get_or bs k 0) b in
    let r : in_bytes k (number (take k bs)) ≡ take k bs = in_bytes_number k (take k bs) l (λ i. ⊎_elim (λ (p : i < k). rw get_or-take (u i)) (λ (p : k ≤ i). rw (get_or_past (take k bs) i 0 (omega arith)) (lit< tt)) (cases_lt i k)) in
    ap (λ x. in_bytes k x ++ (number bs % 256) ∷ []) q ∙ (ap (λ x. x ++ (number bs % 256) ∷ []) r ∙ (ap (λ x. take k bs ++ x ∷ []) m ∙ sym s))

-- as the library's numbers give their bytes
pub eight_bytes : (n : ℕ) → in_bytes 8 n ≡ n / 72057594037927936 % 256 ∷ n / 281474976710656 % 256 ∷ n / 1099511627776 % 256 ∷ n / 4294967296 % 256 ∷ n / 16777216 % 256 ∷ n / 65536 % 256 ∷ n / 256 % 256 ∷ n % 256 ∷ []
eight_bytes n = simp div-div-eq-div-mul

pub four_bytes : (n : ℕ) → in_bytes 4 n ≡ n / 16777216 % 256 ∷ n / 65536 % 256 ∷ n / 256 % 256 ∷ n % 256 ∷ []
four_bytes n = simp div-div-eq-div-mul

-- numbers written in 8 bytes each read back
pub eights_in_eights : (ts : List ℕ) → All (λ x. x < 256 ^ 8) ts → eights (length ts) (in_eights ts) ≡ ts
eights_in_eights [] e = refl
eights_in_eights (x ∷ xs) e =
    let a : number (in_bytes 8 x) ≡ x = number_in_bytes 8 x e.0 in
    let b : eights (length xs) (in_eights xs) ≡ xs = eights_in_eights xs e.1 in
    λ i. a i ∷ b i
