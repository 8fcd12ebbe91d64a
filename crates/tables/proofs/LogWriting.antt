-- A log write to the tables is one to the logs of the model, and keeps the tables sound.
use Rattle.std.proofs.Common.{◌≡◌, ℕ, ◌+◌, ◌<◌, ◌≤◌, Bool, true, false, cond, not, eqb, leb, ◌⊎◌, List, [], ◌∷◌, ◌++◌, length, get_or, set, is_some, Some, None, Ok, Err, vec_items, vec_capacity, Option, Vec, Global, sym, refl, ap, ◌∙◌, subst, inl, inr, ⊎_elim, arith}
use mathlib.Core.Path.{fun_ext}
use Rattle.std.specs.Option.{option_or}
use Rattle.std.proofs.lemmas.List.{get_or-set_same, get_or-set_other, length-set, length-append, get_or_append_left, get_or_push, get_or_default}
use Rattle.std.proofs.lemmas.List.Folds.{find-append, find_past}
use Rattle.std.proofs.lemmas.Bool.{false_from_ne_true, cases_eq, cases_lt, le-leb, lt-leb, ne_eqb, true≢false}
use Rattle.decline.specs.declared.Fault.{Fault}
use Rattle.decline.specs.Faults.{bare}
use Rattle.decline.specs.Verdicts.{first_failed}
use Rattle.keys.specs.declared.Key as Code
use Rattle.keys.specs.Keys.{Key, same_key, key_in, key_tests}
use Rattle.keys.specs.Values.{key_of, KeyRead}
use Rattle.keys.proofs.Keys.{same_key_true}
use Rattle.std.specs.Vec.{with_item}
use Rattle.checkpoint.specs.declared.Log.{Log}
use Rattle.checkpoint.specs.Logs.{Entries, Note, settled, entered, enter}
use Rattle.checkpoint.specs.Values.{pairs, entries_of}
use Rattle.checkpoint.proofs.Logs.{entered_some}
use Rattle.entries.specs.declared.KeyedLog.{KeyedLog}
use Rattle.tables.specs.declared.Tables.{Tables}
use Rattle.entries.specs.Searches.{first, place, Once}
use Rattle.entries.specs.Entries.{is_log, entries_in, logs_in}
use Rattle.tables.specs.Tables.{logs_of, documents_of, record_of}
use Rattle.tables.specs.Sound.{Sound, SoundLogs}
use Rattle.peer.specs.Functions.{log_write, input, note_given, full, fine}
use Rattle.peer.specs.Peers.{entry, changes}
use Rattle.peer.specs.Replies.{plain}
use Rattle.tables.specs.Room.{room_in, one_more}
use Rattle.tables.specs.Calls.{Writes, applied}
use Rattle.tables.proofs.Inputs.{test_passed}
use Rattle.entries.proofs.Searching.{Found, found, not_found, not_both}
use Rattle.entries.proofs.Lookups.{none_passes}
use Rattle.tables.proofs.Entries.{set_only}

-- the log write of a key
abbrev pub note : Key → ℕ → ℕ → Note
note k s p = record { key = k; stamp = s; position = p }

-- the log of a key by its place
pub log_at : (ls : List KeyedLog) (k : Key) (at : ℕ) (z : KeyedLog) → place (is_log k) 0 ls ≡ Some at → logs_in ls k ≡ pairs (entries_of (get_or ls at z).log)
log_at ls k at z e = ap entries_in (found (is_log k) z ls at e).value

pub no_log : (ls : List KeyedLog) (k : Key) → place (is_log k) 0 ls ≡ None → logs_in ls k ≡ []
no_log ls k e = ap entries_in (not_found (is_log k) ls e)

-- room: the log is there, or one more has a place
pub room_there : (t : Tables) (k : Key) (s p at : ℕ) → place (is_log k) 0 (vec_items t.logs) ≡ Some at → length (vec_items t.logs) ≤ 8 → room_in t (entry (note k s p)) ≡ true
room_there t k s p at e h = ap (λ (o : Option ℕ). leb (length (vec_items t.logs) + one_more (is_some o)) 8) e ∙ le-leb (length (vec_items t.logs) + 0) 8 (omega arith)

pub room_new : (t : Tables) (k : Key) (s p : ℕ) → place (is_log k) 0 (vec_items t.logs) ≡ None → length (vec_items t.logs) < 8 → room_in t (entry (note k s p)) ≡ true
room_new t k s p e h = ap (λ (o : Option ℕ). leb (length (vec_items t.logs) + one_more (is_some o)) 8) e ∙ le-leb (length (vec_items t.logs) + 1) 8 (omega arith)

pub no_room : (t : Tables) (k : Key) (s p : ℕ) → place (is_log k) 0 (vec_items t.logs) ≡ None → 8 ≤ length (vec_items t.logs) → room_in t (entry (note k s p)) ≡ false
no_room t k s p e h = ap (λ (o : Option ℕ). leb (length (vec_items t.logs) + one_more (is_some o)) 8) e ∙ lt-leb (length (vec_items t.logs) + 1) 8 (omega arith)

-- the tables with other logs
abbrev pub with_logs : Tables → Vec KeyedLog Global → Tables
with_logs t v = record { documents = t.documents; revisions = t.revisions; contents = t.contents; logs = v; highest = t.highest }

still_sound : (t : Tables) (v : Vec KeyedLog Global) → vec_capacity v ≡ vec_capacity t.logs → Sound t → SoundLogs (vec_items v) → length (vec_items v) ≤ 8 → Sound (with_logs t v)
still_sound t v m q l h = record {
  documents = q.documents;
  revisions = q.revisions;
  logs = l;
  reserved = record { documents = q.reserved.documents; revisions = q.reserved.revisions; contents = q.reserved.contents; logs = (omega (arith, q.reserved.logs.0), h) };
}

-- Logs ----------------------------------------------------------------------------------------------------------------

-- stamp and position are entered into the log at a place
pub record EnteredAt (ls ms : List KeyedLog) (at s p : ℕ) : Type 0 where
  pub entry : KeyedLog
  pub key : (z : KeyedLog) → entry.key ≡ (get_or ls at z).key
  pub log : (z : KeyedLog) → pairs (entries_of entry.log) ≡ entered eqb s p (pairs (entries_of (get_or ls at z).log))
  pub logs : ms ≡ set ls at entry

-- a new log has just stamp and position
pub record EnteredNew (ls ms : List KeyedLog) (k : Key) (s p : ℕ) : Type 0 where
  pub entry : KeyedLog
  pub key : key_of entry.key ≡ k
  pub log : pairs (entries_of entry.log) ≡ entered eqb s p []
  pub logs : ms ≡ ls ++ (entry ∷ [])

-- a log that is there
module _ (ls ms : List KeyedLog) (k : Key) (at s p : ℕ) (z : KeyedLog) (f : place (is_log k) 0 ls ≡ Some at) (w : EnteredAt ls ms at s p) (q : SoundLogs ls) where
  there : Found (is_log k) ls z at
  there = found (is_log k) z ls at f

  -- the entry has the key that stood there
  same_test : (l : Key) → is_log l w.entry ≡ is_log l (get_or ls at z)
  same_test l = ap (λ c. same_key (key_of c) l) (w.key z)

  pub at_logs : logs_in ms ≡ enter (note k s p) (logs_in ls)
  at_logs = fun_ext (λ l. ap (λ (m : List KeyedLog). entries_in (first (is_log l) m)) w.logs ∙ go l (same_key k l) refl)
    where
      go : (l : Key) (b : Bool) → same_key k l ≡ b →
          entries_in (first (is_log l) (set ls at w.entry)) ≡ cond b (entered eqb s p (entries_in (first (is_log l) ls))) (entries_in (first (is_log l) ls))
      go l true e = subst (λ (m : Key). entries_in (first (is_log m) (set ls at w.entry)) ≡ entered eqb s p (entries_in (first (is_log m) ls))) (same_key_true k l e)
          (ap entries_in (set_only (is_log k) z ls at w.entry there.within (same_test k ∙ there.passes)
          (λ j h. false_from_ne_true (is_log k (get_or ls j z)) (λ y. let c : j ≡ at = q.once k j at z (omega (arith, there.within)) there.within y there.passes in omega arith)))
          ∙ (w.log z ∙ sym (ap (λ (o : Option KeyedLog). entered eqb s p (entries_in o)) there.value)))
      go l false e =
          let old : is_log l (get_or ls at z) ≡ false = ap (λ (m : Key). same_key m l) (same_key_true _ k there.passes) ∙ e in
          ap entries_in (find_past (is_log l) ls at w.entry z old (same_test l ∙ old))

  tests : (l : Key) (i : ℕ) (y : KeyedLog) → i < length ls → is_log l (get_or (set ls at w.entry) i y) ≡ is_log l (get_or ls i y)
  tests l i y h = ⊎_elim
      (λ (e : i ≡ at). ap (λ (j : ℕ). is_log l (get_or (set ls at w.entry) j y)) e ∙ (ap (is_log l) (get_or-set_same ls at w.entry y there.within) ∙
      (same_test l ∙ (ap (is_log l) (get_or_default ls at z y there.within) ∙ ap (λ (j : ℕ). is_log l (get_or ls j y)) (sym e)))))
      (λ (n : i ≡ at → ⊥). ap (is_log l) (get_or-set_other ls at i w.entry y n))
      (cases_eq i at)

  -- the log that was entered into has an entry, the others have theirs
  some_at : (i : ℕ) (y : KeyedLog) → i < length ls → 1 ≤ length (pairs (entries_of (get_or (set ls at w.entry) i y).log))
  some_at i y h = ⊎_elim
      (λ (e : i ≡ at). subst (λ (l : KeyedLog). 1 ≤ length (pairs (entries_of l.log))) (sym (ap (λ (j : ℕ). get_or (set ls at w.entry) j y) e ∙ get_or-set_same ls at w.entry y there.within))
      (subst (λ (l : Entries ℕ). 1 ≤ length l) (sym (w.log z)) (entered_some eqb s p (pairs (entries_of (get_or ls at z).log)))))
      (λ (n : i ≡ at → ⊥). subst (λ (l : KeyedLog). 1 ≤ length (pairs (entries_of l.log))) (sym (get_or-set_other ls at i w.entry y n)) (q.written i y h))
      (cases_eq i at)

  pub at_sound : SoundLogs ms
  at_sound =
      let n : length (set ls at w.entry) ≡ length ls = length-set ls at w.entry in
      subst SoundLogs (sym w.logs) (record {
        once = λ l i j y h g a b. q.once l i j y (omega arith) (omega arith) (sym (tests l i y (omega arith)) ∙ a) (sym (tests l j y (omega arith)) ∙ b);
        written = λ i y h. some_at i y (omega arith);
      })

-- a new log
module _ (ls ms : List KeyedLog) (k : Key) (s p : ℕ) (f : place (is_log k) 0 ls ≡ None) (w : EnteredNew ls ms k s p) (q : SoundLogs ls) where
  none : first (is_log k) ls ≡ None
  none = not_found (is_log k) ls f

  test : (l : Key) → is_log l w.entry ≡ same_key k l
  test l = ap (λ (c : Key). same_key c l) w.key

  pub new_logs : logs_in ms ≡ enter (note k s p) (logs_in ls)
  new_logs = fun_ext (λ l. ap (λ (m : List KeyedLog). entries_in (first (is_log l) m)) w.logs ∙ (ap entries_in (find-append (is_log l) ls (w.entry ∷ [])) ∙ go l (same_key k l) refl))
    where
      other : (o : Option KeyedLog) → option_or o None ≡ o
      other None = refl
      other (Some e) = refl

      go : (l : Key) (b : Bool) → same_key k l ≡ b →
          entries_in (option_or (first (is_log l) ls) (cond (is_log l w.entry) (Some w.entry) None)) ≡
          cond b (entered eqb s p (entries_in (first (is_log l) ls))) (entries_in (first (is_log l) ls))
      go l true e =
          let n : first (is_log l) ls ≡ None = subst (λ (m : Key). first (is_log m) ls ≡ None) (same_key_true k l e) none in
          ap (λ (o : Option KeyedLog). entries_in (option_or o (cond (is_log l w.entry) (Some w.entry) None))) n ∙
          (ap (λ (b : Bool). entries_in (cond b (Some w.entry) None)) (test l ∙ e) ∙ (w.log ∙ sym (ap (λ (o : Option KeyedLog). entered eqb s p (entries_in o)) n)))
      go l false e = ap (λ (b : Bool). entries_in (option_or (first (is_log l) ls) (cond b (Some w.entry) None))) (test l ∙ e) ∙ ap entries_in (other (first (is_log l) ls))

  -- no log that was there has the new key
  apart : (l : Key) (i : ℕ) (y : KeyedLog) → i < length ls → is_log l (get_or ls i y) ≡ true → is_log l w.entry ≡ true → ⊥
  apart l i y h a b =
      let e : k ≡ l = same_key_true k l (sym (test l) ∙ b) in
      not_both (is_log k (get_or ls i y)) (subst (λ (m : Key). is_log m (get_or ls i y) ≡ true) (sym e) a) (none_passes (is_log k) y ls none i h)

  once_more : (l : Key) → Once (is_log l) (ls ++ (w.entry ∷ []))
  once_more l i j y h g a b = go (cases_lt i (length ls)) (cases_lt j (length ls))
    where
      n : length (ls ++ (w.entry ∷ [])) ≡ length ls + 1
      n = length-append ls (w.entry ∷ [])

      below : (i : ℕ) → i < length ls → is_log l (get_or (ls ++ (w.entry ∷ [])) i y) ≡ true → is_log l (get_or ls i y) ≡ true
      below i h a = ap (is_log l) (sym (get_or_append_left ls (w.entry ∷ []) y i h)) ∙ a

      last : (i : ℕ) → i ≡ length ls → is_log l (get_or (ls ++ (w.entry ∷ [])) i y) ≡ true → is_log l w.entry ≡ true
      last i e a = ap (is_log l) (sym (get_or_push ls w.entry y i (sym e))) ∙ a

      go : (i < length ls) ⊎ (length ls ≤ i) → (j < length ls) ⊎ (length ls ≤ j) → i ≡ j
      go (inl c) (inl d) = q.once l i j y c d (below i c a) (below j d b)
      go (inl c) (inr d) = absurd (apart l i y c (below i c a) (last j (omega (arith, n)) b))
      go (inr c) (inl d) = absurd (apart l j y d (below j d b) (last i (omega (arith, n)) a))
      go (inr c) (inr d) = omega (arith, n)

  -- the new log has an entry, the others have theirs
  some_more : (i : ℕ) (y : KeyedLog) → i < length (ls ++ (w.entry ∷ [])) → 1 ≤ length (pairs (entries_of (get_or (ls ++ (w.entry ∷ [])) i y).log))
  some_more i y h = ⊎_elim
      (λ (c : i < length ls). subst (λ (l : KeyedLog). 1 ≤ length (pairs (entries_of l.log))) (sym (get_or_append_left ls (w.entry ∷ []) y i c)) (q.written i y c))
      (λ (c : length ls ≤ i). let e : i ≡ length ls = omega (arith, length-append ls (w.entry ∷ [])) in
      subst (λ (l : KeyedLog). 1 ≤ length (pairs (entries_of l.log))) (sym (get_or_push ls w.entry y i (sym e))) (subst (λ (l : Entries ℕ). 1 ≤ length l) (sym w.log) (entered_some eqb s p [])))
      (cases_lt i (length ls))

  pub new_sound : SoundLogs ms
  new_sound = subst SoundLogs (sym w.logs) (record { once = once_more; written = some_more })

-- The whole call --------------------------------------------------------------------------------------------------------

-- a good stamp and a good key
input_good : (bs : List ℕ) (s p : ℕ) → (s ≡ 0 → ⊥) → first_failed (key_tests bs) ≡ None → input (log_write bs s p) ≡ None
input_good bs s p n e = test_passed (not (eqb s 0)) 15 (key_tests bs) (ap not (ne_eqb s 0 n)) ∙ e

-- the record after a log write, by whether it changes something
changed_record : (t : Tables) (v : Vec KeyedLog Global) (n : Note) → changes (entry n) (record_of t) ≡ true → logs_in (vec_items v) ≡ enter n (logs_of t) → record_of (with_logs t v) ≡ applied (entry n) (record_of t)
changed_record t v n c l =
    let m : logs_in (vec_items v) ≡ cond (changes (entry n) (record_of t)) (enter n (logs_of t)) (logs_of t) = l ∙ ap (λ (b : Bool). cond b (enter n (logs_of t)) (logs_of t)) (sym c) in
    λ i. record { docs = documents_of t; logs = m i }

same_record : (t : Tables) (n : Note) → changes (entry n) (record_of t) ≡ false → record_of t ≡ applied (entry n) (record_of t)
same_record t n c =
    let m : logs_of t ≡ cond (changes (entry n) (record_of t)) (enter n (logs_of t)) (logs_of t) = ap (λ (b : Bool). cond b (enter n (logs_of t)) (logs_of t)) (sym c) in
    λ i. record { docs = documents_of t; logs = m i }

module _ (t : Tables) (bs : List ℕ) (s p : ℕ) (key : Code.Key) (ls : List KeyedLog) (v : ls ≡ vec_items t.logs) (r : KeyRead bs (Ok key)) (n0 : s ≡ 0 → ⊥) where
  -- the place that was found in the slice, by the key that the bytes are
  placed : (o : Option ℕ) → o ≡ place (is_log (key_of key)) 0 ls → place (is_log (key_in bs)) 0 (vec_items t.logs) ≡ o
  placed o e = sym (e ∙ (ap (place (is_log (key_of key)) 0) v ∙ ap (λ (k : Key). place (is_log k) 0 (vec_items t.logs)) r.1))

  module _ (at : ℕ) (z : KeyedLog) (f : Some at ≡ place (is_log (key_of key)) 0 ls) where
    known : (b : Bool) → b ≡ settled eqb s p (pairs (entries_of (get_or (vec_items t.logs) at z).log)) → changes (entry (note_given bs s p)) (record_of t) ≡ not b
    known b e = ap (λ (l : Entries ℕ). not (settled eqb s p l)) (log_at (vec_items t.logs) (key_in bs) at z (placed (Some at) f)) ∙ ap not (sym e)

    pub written_same : true ≡ settled eqb s p (pairs (entries_of (get_or (vec_items t.logs) at z).log)) → Writes (log_write bs s p) plain (entry (note_given bs s p)) t (Ok tt) t
    written_same e = ((input_good bs s p n0 r.0, fine (λ g. true≢false (sym g.0 ∙ known true e)), tt), same_record t (note_given bs s p) (known true e))

    -- an entry that was changed where it stands
    changed : (e : KeyedLog) (log : Log) → at < length (vec_items t.logs) → e ≡ get_or (vec_items t.logs) at e → pairs (entries_of log) ≡ entered eqb s p (pairs (entries_of e.log)) →
        EnteredAt (vec_items t.logs) (set (vec_items t.logs) at (record { key = e.key; log = log })) at s p
    changed e log h q l = record {
      entry = record { key = e.key; log = log };
      key = λ y. ap (λ (x : KeyedLog). x.key) (here y);
      log = λ y. l ∙ ap (λ (x : KeyedLog). entered eqb s p (pairs (entries_of x.log))) (here y);
      logs = refl;
    }
      where
        here : (y : KeyedLog) → e ≡ get_or (vec_items t.logs) at y
        here y = q ∙ get_or_default (vec_items t.logs) at e y h

    pub written_there : (e : KeyedLog) (log : Log) → false ≡ settled eqb s p (pairs (entries_of (get_or (vec_items t.logs) at z).log)) → at < length (vec_items t.logs) → e ≡ get_or (vec_items t.logs) at e →
        pairs (entries_of log) ≡ entered eqb s p (pairs (entries_of e.log)) → Sound t →
        let u = with_logs t (with_item t.logs at (record { key = e.key; log = log })) in Sound u × Writes (log_write bs s p) plain (entry (note_given bs s p)) t (Ok tt) u
    written_there e log c h q l sound =
        let g = placed (Some at) f in
        let v = with_item t.logs at (record { key = e.key; log = log }) in
        let w : EnteredAt (vec_items t.logs) (vec_items v) at s p = changed e log h q l in
        let n : length (vec_items v) ≡ length (vec_items t.logs) = length-set (vec_items t.logs) at (record { key = e.key; log = log }) in (
          still_sound t v refl sound (at_sound (vec_items t.logs) (vec_items v) (key_in bs) at s p z g w sound.logs) (omega (arith, sound.reserved.logs.1)),
          (
            (input_good bs s p n0 r.0, fine (λ h. h.1 (room_there t (key_in bs) s p at g sound.reserved.logs.1, tt)), tt),
            changed_record t v (note_given bs s p) (known false c) (at_logs (vec_items t.logs) (vec_items v) (key_in bs) at s p z g w sound.logs),
          ),
        )

  module _ (f : None ≡ place (is_log (key_of key)) 0 ls) where
    unknown : changes (entry (note_given bs s p)) (record_of t) ≡ true
    unknown = ap (λ (l : Entries ℕ). not (settled eqb s p l)) (no_log (vec_items t.logs) (key_in bs) (placed None f))

    pub written_full : (e : Fault) → 8 ≤ length (vec_items t.logs) → e ≡ bare 35 → Writes (log_write bs s p) plain (entry (note_given bs s p)) t (Err e) t
    written_full e h b = (35, b, inr (input_good bs s p n0 r.0, full (unknown, λ m. true≢false (sym m.0 ∙ no_room t (key_in bs) s p (placed None f) h))), refl)

    pub written_new : (v : Vec KeyedLog Global) (log : Log) → length (vec_items t.logs) < 8 → vec_items v ≡ vec_items t.logs ++ (record { key = key; log = log } ∷ []) →
        vec_capacity v ≡ vec_capacity t.logs → pairs (entries_of log) ≡ entered eqb s p [] → Sound t → Sound (with_logs t v) × Writes (log_write bs s p) plain (entry (note_given bs s p)) t (Ok tt) (with_logs t v)
    written_new v log h e m l sound =
        let g = placed None f in
        let w : EnteredNew (vec_items t.logs) (vec_items v) (key_in bs) s p = record { entry = record { key = key; log = log }; key = r.1; log = l; logs = e } in (
          still_sound t v m sound (new_sound (vec_items t.logs) (vec_items v) (key_in bs) s p g w sound.logs) (omega (arith, ap length e, length-append (vec_items t.logs) (w.entry ∷ []))),
          (
            (input_good bs s p n0 r.0, fine (λ m. m.1 (room_new t (key_in bs) s p g h, tt)), tt),
            changed_record t v (note_given bs s p) unknown (new_logs (vec_items t.logs) (vec_items v) (key_in bs) s p g w sound.logs),
          ),
        )
