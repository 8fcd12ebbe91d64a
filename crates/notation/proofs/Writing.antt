-- How the text of a number is made.
use Rattle.std.proofs.Common.{◌≡◌, ℕ, zero, suc, ◌+◌, ◌-◌, ◌/◌, ◌%◌, ◌<◌, ◌≤◌, eqb, ◌==◌, List, [], ◌∷◌, ◌++◌, length, get_or, take, drop, set, sym, refl, ap, ◌∙◌, add-one, arith}
use borrow.Rule.Slice.PartMut.{put_mid}
use Rattle.std.specs.Char.{digit_char}
use Rattle.std.proofs.lemmas.Grind.{common_steps}
use Rattle.std.specs.List.{prefix_len}
use Rattle.std.proofs.lemmas.List.{map_push, append_assoc, drop_more, drop-drop, set_at, length_push}
use Rattle.std.proofs.lemmas.Bool.{cond-true, cond-false, cond_both}
use Rattle.octets.specs.BigEndian.{in_base}
use Rattle.notation.specs.Text.{stripped, digits_in}

-- the last digit apart
digits_push : (base k n : ℕ) → digits_in base (k + 1) n ≡ digits_in base k (n / base) ++ digit_char (n % base) ∷ []
digits_push base k n = ap (λ (m : ℕ). digits_in base m n) (add-one k) ∙ map_push digit_char (in_base base k (n / base)) (n % base)

-- a digit before those that stand, from a place that counts down
pub digits_down : (base i n s : ℕ) (out : List ℕ) → 0 < i → i ≤ length out → s ≡ digit_char (n % base) →
    digits_in base (i - 1) (n / base) ++ drop (i - 1) (set out (i - 1) s) ≡ digits_in base i n ++ drop i out
digits_down base i n s out z h e =
    let d : i - 1 + 1 ≡ i = omega arith in
    let r : digits_in base (i - 1) (n / base) ++ drop (i - 1) (set out (i - 1) s) ≡ digits_in base (i - 1 + 1) n ++ drop (i - 1 + 1) out = grind (arith, common_steps, digits_push) in
    r ∙ ap (λ (k : ℕ). digits_in base k n ++ drop k out) d

-- what is stripped is the zeros in front, among so many bytes
pub stripped_drop : (most : ℕ) (cs : List ℕ) → drop (prefix_len (λ c. c == 48) (take most cs)) cs ≡ stripped most cs
stripped_drop zero cs = refl
stripped_drop (suc k) [] = refl
stripped_drop (suc k) (c ∷ cs) =
    let n : 1 + prefix_len (λ c. c == 48) (take k cs) ≡ suc (prefix_len (λ c. c == 48) (take k cs)) = omega arith in
    cond_both (eqb c 48) (1 + prefix_len (λ c. c == 48) (take k cs)) 0 (λ (n : ℕ). drop n (c ∷ cs) ≡ stripped (suc k) (c ∷ cs))
    (λ e. ap (λ (m : ℕ). drop m (c ∷ cs)) n ∙ (stripped_drop k cs ∙ sym (cond-true _ _ _ e))) (λ e. sym (cond-false _ _ _ e))

module _ (x y out : List ℕ) where
  -- a byte laid behind the front
  byte_laid : (c : ℕ) → length x < length out → set (x ++ drop (length x) out) (length x) c ≡ (x ++ c ∷ []) ++ drop (length x + 1) out
  byte_laid c h =
      ap (λ (l : List ℕ). set (x ++ l) (length x) c) (drop_more out (length x) 0 h)
      ∙ (set_at x (get_or out (length x) 0) (drop (length x + 1) out) c (length x) refl ∙ sym (append_assoc x (c ∷ []) (drop (length x + 1) out)))

  -- a part laid behind a front
  part_laid : (front rest : List ℕ) (k n : ℕ) → length front ≡ n → put_mid n k (front ++ rest) y ≡ front ++ (y ++ drop k rest)
  part_laid front rest k n e = grind (arith, common_steps)

  -- two parts and a byte between them
  pub parts_laid : (c : ℕ) → length x < length out →
      put_mid (length x + 1) (length x + 1 + length y - (length x + 1)) (set (x ++ drop (length x) out) (length x) c) y ≡ (x ++ c ∷ y) ++ drop (length x + 1 + length y) out
  parts_laid c h =
      let k : length x + 1 + length y - (length x + 1) ≡ length y = omega arith in
      let rest : List ℕ = drop (length x + 1) out in
      let r : drop (length y) rest ≡ drop (length x + 1 + length y) out = drop-drop (length y) (length x + 1) out in
      ap (λ (l : List ℕ). put_mid (length x + 1) (length x + 1 + length y - (length x + 1)) l y) (byte_laid c h)
      ∙ (part_laid (x ++ c ∷ []) rest _ _ (length_push x c)
      ∙ (ap (λ (j : ℕ). (x ++ c ∷ []) ++ (y ++ drop j rest)) k
      ∙ (ap (λ (l : List ℕ). (x ++ c ∷ []) ++ (y ++ l)) r
      ∙ (append_assoc x (c ∷ []) (y ++ drop (length x + 1 + length y) out) ∙ sym (append_assoc x (c ∷ y) (drop (length x + 1 + length y) out))))))
