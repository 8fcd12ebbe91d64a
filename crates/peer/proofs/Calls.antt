-- Calls one after the other: what has moved adds up, accepted writes join in order, and a call ends with what counts of its effect.
use Rattle.std.proofs.Common.{◌≡◌, ℕ, ◌*◌, ◌≤◌, Bool, true, false, cond, ◌&&◌, eqb, leb, ◌⊎◌, [], ◌∷◌, length, Some, None, Option, sym, refl, ◌∙◌, subst, inl, inr, arith}
use Rattle.std.proofs.lemmas.Bool.{and_parts, leb-true}
use Rattle.octets.proofs.Eights.{length_eights}
use Rattle.decline.specs.Verdicts.{first_failed}
use Rattle.order.specs.Lists.{Each}
use Rattle.revision.specs.Ids.{good_id, good_generation}
use Rattle.checkpoint.specs.Logs.{enter}
use Rattle.peer.specs.Records.{put, Record}
use Rattle.peer.specs.Peers.{Peer, Write, path, entry, current, changes, wait, accept, Moved, Failed, Lost, Effect, nothing, writes, commits, paths_in, joined, Effected, Reply, answered, declined, Declined, by_input, by_down, by_power, by_state}
use Rattle.peer.specs.Functions.{Function, Answer, start_stamp, row_after, head_count, head_at, is_held, tags_of, body_of, log_entry, log_write, commit, path_write, input, Verdict, effect, Calls}
use Rattle.peer.proofs.Waiting.{shift_after, shift_stage, shift_trans, shift_longer}

pub moved_refl : (p : Peer) → Moved p p
moved_refl p = record { number = refl; stamp = refl; up = refl; docs = record { part = []; whole = refl; reach = refl }; logs = record { part = []; whole = refl; reach = refl } }

pub moved_same : (p q : Peer) → q ≡ p → Moved p q
moved_same p q e = subst (λ (z : Peer). Moved p z) (sym e) (moved_refl p)

pub moved_trans : (p q t : Peer) → Moved p q → Moved q t → Moved p t
moved_trans p q t m n = record {
  number = n.number ∙ m.number;
  stamp = n.stamp ∙ m.stamp;
  up = n.up ∙ m.up;
  docs = shift_trans put m.docs n.docs;
  logs = shift_trans enter m.logs n.logs;
}

-- what moves keeps the current record
pub moved_current : (p q : Peer) → Moved p q → current q ≡ current p
moved_current p q m = let d = shift_after put m.docs in let l = shift_after enter m.logs in λ i. record { docs = d i; logs = l i }

pub moved_wait : (w : Write) (p q : Peer) → Moved p q → Moved (wait w p) (wait w q)
moved_wait (path w) p q m = record { number = m.number; stamp = m.stamp; up = m.up; docs = shift_longer put (w ∷ []) m.docs; logs = m.logs }
moved_wait (entry n) p q m = record { number = m.number; stamp = m.stamp; up = m.up; docs = m.docs; logs = shift_longer enter (n ∷ []) m.logs }

pub moved_accept : (w : Write) (p q : Peer) → Moved p q → Moved (accept w p) (accept w q)
moved_accept w p q m =
    subst (λ (k : Record). Moved (accept w p) (cond (changes w k) (wait w q) q)) (sym (moved_current p q m)) (go (changes w (current p)))
  where
    go : (b : Bool) → Moved (cond b (wait w p) p) (cond b (wait w q) q)
    go true = moved_wait w p q m
    go false = m

pub moved_joined : (e : Effect) (p q : Peer) → Moved p q → Moved (joined e p) (joined e q)
moved_joined nothing p q m = m
moved_joined (writes w) p q m = moved_accept w p q m
moved_joined commits p q m = m

pub moved_failed : (p q t : Peer) → Moved p q → Failed q t → Failed p t
moved_failed p q t m f = record {
  number = f.number ∙ m.number;
  stamp = f.stamp ∙ m.stamp;
  down = f.down;
  standing = (shift_stage put m.docs t.standing.docs f.standing.0, shift_stage enter m.logs t.standing.logs f.standing.1);
  no_path = f.no_path;
  no_note = f.no_note;
}

-- a call ends, the peer up as before or down by a power failure
abbrev pub Ends : Peer → Peer → Type 0
Ends p q = Moved p q ⊎ Failed p q

pub moved_ends : (p q t : Peer) → Moved p q → Ends q t → Ends p t
moved_ends p q t m (inl e) = inl (moved_trans p q t m e)
moved_ends p q t m (inr f) = inr (moved_failed p q t m f)

pub lost_ends : (p q : Peer) → Lost p q → Ends p q
lost_ends p q (inl e) = inl (moved_same p q e.1)
lost_ends p q (inr f) = inr f.1

-- a declined call ends with what counts of its effect
pub declined_ends : {p : Peer} {input : Option ℕ} {V : Option ℕ → Type 0} {e : Effect} {n : ℕ} {c : Effect} {q : Peer} → Declined p input V e n c q → Ends (joined c p) q
declined_ends {p = p} {c = c} {q = q} (by_input i z m) = inl (subst (λ (k : Effect). Moved (joined k p) q) (sym z) m)
declined_ends {p = p} {c = c} {q = q} (by_down i n u z e) = inl (subst (λ (k : Effect). Moved (joined k p) q) (sym z) (moved_same p q e))
declined_ends (by_power i n u z f) = inr f
declined_ends {p = p} {c = c} {q = q} (by_state i u v z m) = inl (subst (λ (k : Effect). Moved (joined k p) q) (sym z) m)

-- what counts of a declined call is nothing or its effect
pub declined_counts : {p : Peer} {input : Option ℕ} {V : Option ℕ → Type 0} {e : Effect} {n : ℕ} {c : Effect} {q : Peer} → Declined p input V e n c q → (c ≡ nothing) ⊎ (c ≡ e)
declined_counts (by_input i z m) = inl z
declined_counts (by_down i n u z e) = inl z
declined_counts (by_power i n u (inl z) f) = inl z
declined_counts (by_power i n u (inr z) f) = inr z.0
declined_counts (by_state i u v z m) = inl z

-- any call ends with what counts of its effect
pub call_ends : (f : Function) (p : Peer) (r : Reply (Answer f)) (c : Effect) (q : Peer) → Calls f p r c q → Ends (joined c p) q
call_ends f p (answered a) c q h = inl (subst (λ (k : Effect). Moved (joined k p) q) (sym h.0.counted) (go (effect f) h.0.effected))
  where
    go : (e : Effect) → Effected e p q → Moved (joined e p) q
    go nothing m = m
    go (writes w) m = m
    go commits m = m.moved
call_ends f p (declined n) c q h = declined_ends h

-- the paths that count are of at least one revision
second_passes : (a b : Bool) (m n : ℕ) (r : Option ℕ) → cond a (cond b r (Some n)) (Some m) ≡ None → b ≡ true
second_passes true true m n r e = refl
second_passes true false m n r e = absurd (let z : ◌≡◌ {A = ℕ} 0 1 = cc in omega arith)
second_passes false b m n r e = absurd (let z : ◌≡◌ {A = ℕ} 0 1 = cc in omega arith)

effect_paths : (f : Function) → input f ≡ None → Each (λ w. 1 ≤ length w.tags) (paths_in (effect f))
effect_paths start_stamp e = tt
effect_paths (row_after n) e = tt
effect_paths (head_count id) e = tt
effect_paths (head_at id i) e = tt
effect_paths (is_held id g x) e = tt
effect_paths (tags_of id g x m) e = tt
effect_paths (body_of id g x m) e = tt
effect_paths (log_entry k i) e = tt
effect_paths (log_write k s n) e = tt
effect_paths commit e = tt
effect_paths (path_write id g ts m b) e =
    let u = and_parts (good_generation g) (eqb (length ts) (8 * g)) (second_passes (good_id id) (good_generation g && eqb (length ts) (8 * g)) 11 12 (first_failed ((leb m 1, 13) ∷ (leb (length b) 96, 14) ∷ [])) e) in
    let v = and_parts (leb 1 g) (leb g 200) u.0 in
    (omega (arith, length_eights g ts, leb-true 1 g v.0), tt)

pub call_paths : (f : Function) (p : Peer) (r : Reply (Answer f)) (c : Effect) (q : Peer) → Calls f p r c q → Each (λ w. 1 ≤ length w.tags) (paths_in c)
call_paths f p r c q h = go (counted r h)
  where
    counts_some : (n : ℕ) → Declined p (input f) (Verdict f p) (effect f) n c q → (c ≡ nothing) ⊎ ((c ≡ effect f) × (input f ≡ None))
    counts_some n (by_input i z m) = inl z
    counts_some n (by_down i m u z e) = inl z
    counts_some n (by_power i m u (inl z) e) = inl z
    counts_some n (by_power i m u (inr z) e) = inr (z.0, i)
    counts_some n (by_state i u v z m) = inl z

    counted : (r : Reply (Answer f)) → Calls f p r c q → (c ≡ nothing) ⊎ ((c ≡ effect f) × (input f ≡ None))
    counted (answered a) h = inr (h.0.counted, h.0.good)
    counted (declined n) h = counts_some n h

    go : (c ≡ nothing) ⊎ ((c ≡ effect f) × (input f ≡ None)) → Each (λ w. 1 ≤ length w.tags) (paths_in c)
    go (inl e) = subst (λ (z : Effect). Each (λ w. 1 ≤ length w.tags) (paths_in z)) (sym e) tt
    go (inr e) = subst (λ (z : Effect). Each (λ w. 1 ≤ length w.tags) (paths_in z)) (sym e.0) (effect_paths f e.1)
