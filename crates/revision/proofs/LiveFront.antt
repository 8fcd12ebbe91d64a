-- Live heads stand in front where heads fall.
use Rattle.std.proofs.Common.{◌≡◌, ℕ, zero, suc, ◌-◌, ◌<◌, Bool, true, false, cond, eqb, List, [], ◌∷◌, length, get_or, take, drop, sym, refl, ap, ◌∙◌, inl, arith}
use Rattle.std.proofs.lemmas.Bool.{eqb-true, eqb-false}
use Rattle.order.specs.Order.{Falling, Arranged}
use Rattle.revision.specs.Heads.{live, others_live}
use Rattle.revision.specs.declared.Head.{Head}
use Rattle.revision.specs.declared.Mark.{Mark}
use Rattle.revision.specs.declared.Mark.TheVariants.{Live, Deleted}
use Rattle.revision.specs.Values.{head_mark, mark_number, Lower, Conflicts}

falls_tail : (h : Head) (hs : List Head) → Falling Lower (h ∷ hs) → Falling Lower hs
falls_tail h hs f i k d a b l = f (suc i) (suc k) d (omega arith) (omega arith) (omega arith)

-- behind a head that is not live none is
dead_behind : (h : Head) (hs : List Head) → Falling Lower (h ∷ hs) → (head_mark h ≡ 0 → ⊥) → live head_mark hs ≡ []
dead_behind h [] f n = refl
dead_behind h (k ∷ ks) f n = go (dead_behind h ks rest n) (eqb (head_mark k) 0) refl
  where
    rest : Falling Lower (h ∷ ks)
    rest i j d a b l m = skip i j d a b l m
      where
        skip : (i j : ℕ) (d : Head) → i < suc (length ks) → i < j → j < suc (length ks) → Lower (get_or (h ∷ ks) i d) (get_or (h ∷ ks) j d) → ⊥
        skip i zero d a b l m = absurd (omega arith)
        skip zero (suc j) d a b l m = f 0 (suc (suc j)) d (omega arith) (omega arith) (omega arith) m
        skip (suc i) (suc j) d a b l m = f (suc (suc i)) (suc (suc j)) d (omega arith) (omega arith) (omega arith) m

    go : live head_mark ks ≡ [] → (b : Bool) → eqb (head_mark k) 0 ≡ b → cond b (k ∷ live head_mark ks) (live head_mark ks) ≡ []
    go z true e = absurd (f 0 1 h (omega arith) (omega arith) (omega arith) (inl (omega (arith, eqb-true (head_mark k) 0 e, n_pos h.mark n))))
      where
        n_pos : (m : Mark) → (mark_number m ≡ 0 → ⊥) → 0 < mark_number m
        n_pos Live n = absurd (n refl)
        n_pos Deleted n = omega arith
    go z false e = z

-- the live ones are the front
live_front : (hs : List Head) → Falling Lower hs → take (length (live head_mark hs)) hs ≡ live head_mark hs
live_front [] f = refl
live_front (h ∷ hs) f = go (live_front hs (falls_tail h hs f)) (eqb (head_mark h) 0) refl
  where
    go : take (length (live head_mark hs)) hs ≡ live head_mark hs → (b : Bool) → eqb (head_mark h) 0 ≡ b → take (length (cond b (h ∷ live head_mark hs) (live head_mark hs))) (h ∷ hs) ≡ cond b (h ∷ live head_mark hs) (live head_mark hs)
    go i true e = ap (λ (l : List Head). h ∷ l) i
    go i false e = let z = dead_behind h hs f (eqb-false (head_mark h) 0 e) in ap (λ (l : List Head). take (length l) (h ∷ hs)) z ∙ sym z

-- one less than the live heads are the conflicts
pub conflicts_behind : (before now : List Head) (n m : ℕ) → Arranged Lower before now → m ≡ length (live head_mark now) → n ≡ m - 1 → Conflicts before n now
conflicts_behind before now n m a e f = record { arranged = a; many = many; behind = ap (λ (k : ℕ). take k (drop 1 now)) many ∙ front now a.falling }
  where
    count : (hs : List Head) → Falling Lower hs → length (live head_mark hs) - 1 ≡ length (others_live head_mark hs)
    count [] f = refl
    count (h ∷ hs) f = go (eqb (head_mark h) 0) refl
      where
        go : (b : Bool) → eqb (head_mark h) 0 ≡ b → length (cond b (h ∷ live head_mark hs) (live head_mark hs)) - 1 ≡ length (live head_mark hs)
        go true e = omega arith
        go false e = let z : length (live head_mark hs) ≡ 0 = ap length (dead_behind h hs f (eqb-false (head_mark h) 0 e)) in omega arith

    many : n ≡ length (others_live head_mark now)
    many = let c = count now a.falling in omega arith

    front : (hs : List Head) → Falling Lower hs → take (length (others_live head_mark hs)) (drop 1 hs) ≡ others_live head_mark hs
    front [] f = refl
    front (h ∷ hs) f = live_front hs (falls_tail h hs f)
