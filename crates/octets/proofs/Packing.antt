-- Packed bytes read back.
use Rattle.std.proofs.Common.{◌≡◌, ℕ, ◌+◌, ◌-◌, ◌^◌, ◌<◌, ◌≤◌, min, List, ◌++◌, length, get_or, take, drop, replicate, sym, ap, ◌∙◌, subst, arith, lit<, length-append}
use Rattle.std.proofs.lemmas.List.{take-append-drop, take-take, take_at, length-take-le, length-take, length-drop, length-replicate, take_all, drop-replicate, replicate-append-replicate, append_assoc}
use Rattle.std.proofs.lemmas.Grind.{common_steps}
use Rattle.std.proofs.lemmas.Int.Digits.{number_lt}
use Rattle.std.proofs.ByRecursion.{All-from_get_or}
use native.Mathlib.Nat.{pow-le-pow_right}
use Rattle.octets.specs.BigEndian.{number, in_bytes, filled}
use Rattle.octets.specs.Packed.{sixteen, unpacked, packed, Packs}
use Rattle.octets.specs.declared.Packed.{Packed}
use Rattle.octets.proofs.Widths.{in_bytes_number}

pub length_filled : (k : ℕ) (bs : List ℕ) → length (filled k bs) ≡ k
length_filled k bs = grind (arith, common_steps)

-- the front of filled bytes is the bytes
pub take_filled : (k : ℕ) (bs : List ℕ) → length bs ≤ k → take (length bs) (filled k bs) ≡ bs
take_filled k bs h = grind (arith, common_steps)

-- what is packed is unpacked
pub unpacked_packs : (bs : List ℕ) (p : Packed) → Packs bs p → unpacked p ≡ bs
unpacked_packs bs p k = ap (λ (n : ℕ). take n (sixteen p)) (ap (λ (q : Packed). q.length) k.is) ∙ (ap (λ (l : List ℕ). take (length bs) l) k.same ∙ take_filled 16 bs k.few)

-- bytes laid over zeros are filled with zeros
pub filled_over : (k : ℕ) (bs : List ℕ) → length bs ≤ k → bs ++ drop (length bs) (replicate k 0) ≡ filled k bs
filled_over k bs h =
    let d : drop (length bs) (replicate {A = ℕ} k 0) ≡ replicate {A = ℕ} (k - length bs) 0 = drop-replicate (length bs) k 0 in
    let r : replicate (k - length bs) 0 ++ replicate (length bs) 0 ≡ replicate {A = ℕ} k 0 =
    replicate-append-replicate (k - length bs) (length bs) 0 ∙ ap (λ (m : ℕ). replicate m 0) (omega arith) in
    let l : length (bs ++ replicate (k - length bs) 0) ≡ k = length-append bs (replicate (k - length bs) 0) ∙ omega (arith, length-replicate {A = ℕ} (k - length bs) 0) in
    ap (λ (m : List ℕ). bs ++ m) d ∙ (sym (take_at (bs ++ replicate (k - length bs) 0) (replicate (length bs) 0) k l) ∙
    ap (λ (m : List ℕ). take k m) (append_assoc bs (replicate (k - length bs) 0) (replicate (length bs) 0) ∙ ap (λ (m : List ℕ). bs ++ m) r))

-- each place of bytes, and of parts of them, is below 256
abbrev pub Small : List ℕ → Type 0
Small bs = (i : ℕ) → get_or bs i 0 < 256

pub small_take : (k : ℕ) (bs : List ℕ) → Small bs → Small (take k bs)
small_take k bs u i = grind (arith, common_steps, u i)

pub small_drop : (k : ℕ) (bs : List ℕ) → Small bs → Small (drop k bs)
small_drop k bs u i = grind (arith, common_steps, u (k + i))

pub small_append : (bs cs : List ℕ) → Small bs → Small cs → Small (bs ++ cs)
small_append bs cs u v i = grind (arith, common_steps, u i, v (i - length bs))

small_zeros : (k : ℕ) → Small (replicate k 0)
small_zeros k i = grind (arith, common_steps)

-- the numbers of both halves of 16 bytes
pub numbers_pack : (bs all : List ℕ) (p : Packed) → length bs ≤ 16 → Small bs → all ≡ bs ++ drop (length bs) (replicate 16 0) →
    p.first ≡ number (take 8 (take 8 all)) → p.second ≡ number (take 8 (take 8 (drop 8 all))) → p.length ≡ length bs → Packs bs p
numbers_pack bs all p h u e f s n =
    let w : all ≡ filled 16 bs = e ∙ filled_over 16 bs h in
    let l : length all ≡ 16 = ap length w ∙ length_filled 16 bs in
    let v : Small all = subst Small (sym e) (small_append bs _ u (small_drop (length bs) _ (small_zeros 16))) in
    let d : length (drop 8 all) ≡ 8 = length-drop 8 all ∙ omega arith in
    let f' : p.first ≡ number (take 8 all) = f ∙ ap number (take-take 8 8 all (omega arith)) in
    let s' : p.second ≡ number (drop 8 all) =
    s ∙ ap number (take_all 8 (take 8 (drop 8 all)) (omega (arith, length-take 8 (drop 8 all))) ∙ take_all 8 (drop 8 all) (omega arith)) in
    let a : in_bytes 8 p.first ≡ take 8 all = ap (in_bytes 8) f' ∙ in_bytes_number 8 (take 8 all) (length-take-le 8 all (omega arith)) (small_take 8 all v) in
    let b : in_bytes 8 p.second ≡ drop 8 all = ap (in_bytes 8) s' ∙ in_bytes_number 8 (drop 8 all) d (small_drop 8 all v) in
    let x : p.first ≡ (packed bs).first = f' ∙ ap (λ (m : List ℕ). number (take 8 m)) w in
    let y : p.second ≡ (packed bs).second = s' ∙ ap (λ (m : List ℕ). number (drop 8 m)) w in
    record { few = h; is = λ i. record { first = x i; second = y i; length = n i }; same = (λ i. a i ++ b i) ∙ (take-append-drop 8 all ∙ w) }

pub length_unpacked : (p : Packed) → length (unpacked p) ≡ min p.length 16
length_unpacked p = length-take p.length (sixteen p)

-- what few bytes write is small
pub number_small : (k : ℕ) (bs : List ℕ) → length bs ≤ k → Small bs → number bs < 256 ^ k
number_small k bs l u =
    let a : number bs < 256 ^ length bs = number_lt 256 bs (All-from_get_or (λ d. d < 256) bs 0 (λ i h. u i)) in
    let b : 256 ^ length bs ≤ 256 ^ k = pow-le-pow_right (lit< tt) {i = length bs} {j = k} l in
    omega arith
