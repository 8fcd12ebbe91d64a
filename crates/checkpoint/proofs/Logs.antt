-- What stands in a log after a log write stood there before, or is the entry that was written.
use Rattle.std.proofs.Common.{◌≡◌, ℕ, zero, suc, ◌≤◌, Bool, true, false, cond, eqb, ◌⊎◌, [], ◌∷◌, length, take, refl, inl, inr, arith}
use Rattle.order.specs.Lists.{Mem}
use Rattle.keys.specs.Keys.{Key, same_key}
use Rattle.keys.proofs.Keys.{same_key_true}
use Rattle.checkpoint.specs.Logs.{Entries, listed, replaced, entered, Logs, Note, enter}

module _ {S : Type 0} (eq : S → S → Bool) (s : S) (p : ℕ) (e : S × ℕ) where
  in_replaced : (es : Entries S) → Mem e (replaced eq s p es) → (e ≡ (s, p)) ⊎ Mem e es
  in_replaced [] m = absurd m
  in_replaced (x ∷ xs) (inl q) = pick (eq s x.0) q
    where
      pick : (b : Bool) → e ≡ cond b (s, p) x → (e ≡ (s, p)) ⊎ ((e ≡ x) ⊎ Mem e xs)
      pick true q = inl q
      pick false q = inr (inl q)
  in_replaced (x ∷ xs) (inr m) = later (in_replaced xs m)
    where
      later : (e ≡ (s, p)) ⊎ Mem e xs → (e ≡ (s, p)) ⊎ ((e ≡ x) ⊎ Mem e xs)
      later (inl q) = inl q
      later (inr q) = inr (inr q)

  in_take : (n : ℕ) (es : Entries S) → Mem e (take n es) → Mem e es
  in_take zero es m = absurd m
  in_take (suc n) [] m = absurd m
  in_take (suc n) (x ∷ xs) (inl q) = inl q
  in_take (suc n) (x ∷ xs) (inr m) = inr (in_take n xs m)

  pub in_entered : (es : Entries S) → Mem e (entered eq s p es) → (e ≡ (s, p)) ⊎ Mem e es
  in_entered es = go (listed eq s es)
    where
      go : (b : Bool) → Mem e (cond b (replaced eq s p es) (take 8 ((s, p) ∷ es))) → (e ≡ (s, p)) ⊎ Mem e es
      go true m = in_replaced es m
      go false m = in_take 8 ((s, p) ∷ es) m

pub in_written : (n : Note) (l : Logs) (k : Key) (e : ℕ × ℕ) → Mem e (enter n l k) → ((n.key ≡ k) × (e ≡ (n.stamp, n.position))) ⊎ Mem e (l k)
in_written n l k e m = go (same_key n.key k) refl m
  where
    go : (b : Bool) → same_key n.key k ≡ b → Mem e (cond b (entered eqb n.stamp n.position (l k)) (l k)) → ((n.key ≡ k) × (e ≡ (n.stamp, n.position))) ⊎ Mem e (l k)
    go true q m = pick (in_entered eqb n.stamp n.position e (l k) m)
      where
        pick : (e ≡ (n.stamp, n.position)) ⊎ Mem e (l k) → ((n.key ≡ k) × (e ≡ (n.stamp, n.position))) ⊎ Mem e (l k)
        pick (inl a) = inl (same_key_true n.key k q, a)
        pick (inr a) = inr a
    go false q m = inr m

-- a log has an entry after a log write
pub entered_some : {S : Type 0} (eq : S → S → Bool) (s : S) (p : ℕ) (es : Entries S) → 1 ≤ length (entered eq s p es)
entered_some eq s p [] = omega arith
entered_some eq s p (x ∷ xs) = go (listed eq s (x ∷ xs))
  where
    go : (b : Bool) → 1 ≤ length (cond b (replaced eq s p (x ∷ xs)) (take 8 ((s, p) ∷ x ∷ xs)))
    go true = omega arith
    go false = omega arith
