-- Lists of writes in parts: stages of a longer list, and what has moved in several steps.
use Rattle.std.proofs.Common.{◌≡◌, ◌⊎◌, List, [], ◌∷◌, ◌++◌, sym, refl, ap, ◌∙◌, subst, inl, inr}
use Rattle.std.proofs.lemmas.List.{append_assoc}
use Rattle.peer.specs.Waiting.{after, Stage, Shift}

module _ {W D : Type 0} (f : W → D → D) where
  pub stage_first : (x : D) (ws : List W) → Stage f x ws x
  stage_first x [] = refl
  stage_first x (w ∷ ws) = inl refl

  pub stage_last : (x : D) (ws : List W) → Stage f x ws (after f x ws)
  stage_last x [] = refl
  stage_last x (w ∷ ws) = inr (stage_last (f w x) ws)

  pub after_more : (x : D) (vs ws : List W) → after f x (vs ++ ws) ≡ after f (after f x vs) ws
  after_more x [] ws = refl
  after_more x (v ∷ vs) ws = after_more (f v x) vs ws

  pub stage_more : (x : D) (vs ws : List W) (z : D) → Stage f (after f x vs) ws z → Stage f x (vs ++ ws) z
  stage_more x [] ws z s = s
  stage_more x (v ∷ vs) ws z s = inr (stage_more (f v x) vs ws z s)

  -- one more write at the end of the list
  pub stage_end : (x : D) (ws : List W) (w : W) (z : D) → Stage f x (ws ++ (w ∷ [])) z → Stage f x ws z ⊎ (z ≡ f w (after f x ws))
  stage_end x [] w z (inl e) = inl e
  stage_end x [] w z (inr e) = inr e
  stage_end x (v ∷ vs) w z (inl e) = inl (inl e)
  stage_end x (v ∷ vs) w z (inr s) = go (stage_end (f v x) vs w z s)
    where
      go : Stage f (f v x) vs z ⊎ (z ≡ f w (after f (f v x) vs)) → Stage f x (v ∷ vs) z ⊎ (z ≡ f w (after f (f v x) vs))
      go (inl a) = inl (inr a)
      go (inr a) = inr a

  pub shift_stage : {x : D} {ws : List W} {y : D} {vs : List W} → Shift f x ws y vs → (z : D) → Stage f y vs z → Stage f x ws z
  shift_stage {x} {ws} {y} {vs} s z t =
      subst (λ (l : List W). Stage f x l z) (sym s.whole) (stage_more x s.part vs z (subst (λ (k : D). Stage f k vs z) s.reach t))

  pub shift_after : {x : D} {ws : List W} {y : D} {vs : List W} → Shift f x ws y vs → after f y vs ≡ after f x ws
  shift_after {x} {ws} {y} {vs} s =
      ap (λ (k : D). after f k vs) s.reach ∙ (sym (after_more x s.part vs) ∙ ap (λ (l : List W). after f x l) (sym s.whole))

  pub stage_none : (x : D) (ws : List W) → ws ≡ [] → (z : D) → Stage f x ws z → z ≡ x
  stage_none x ws e z s = subst (λ (l : List W). Stage f x l z) e s

  pub stage_longer : (x : D) (vs ws : List W) (z : D) → Stage f x vs z → Stage f x (vs ++ ws) z
  stage_longer x [] [] z e = e
  stage_longer x [] (w ∷ ws) z e = inl e
  stage_longer x (v ∷ vs) ws z (inl e) = inl e
  stage_longer x (v ∷ vs) ws z (inr s) = inr (stage_longer (f v x) vs ws z s)

  pub shift_trans : {x : D} {ws : List W} {y : D} {vs : List W} {z : D} {us : List W} → Shift f x ws y vs → Shift f y vs z us → Shift f x ws z us
  shift_trans {x} {ws} {y} {vs} {z} {us} s t = record {
    part = s.part ++ t.part;
    whole = s.whole ∙ (ap (λ (l : List W). s.part ++ l) t.whole ∙ sym (append_assoc s.part t.part us));
    reach = t.reach ∙ (ap (λ (k : D). after f k t.part) s.reach ∙ sym (after_more x s.part t.part));
  }

  pub shift_longer : {x : D} {ws : List W} {y : D} {vs : List W} (us : List W) → Shift f x ws y vs → Shift f x (ws ++ us) y (vs ++ us)
  shift_longer {x} {ws} {y} {vs} us s = record { part = s.part; whole = ap (λ (l : List W). l ++ us) s.whole ∙ append_assoc s.part vs us; reach = s.reach }
