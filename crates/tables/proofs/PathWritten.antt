-- A path write to the tables is one of the model: its reply, and the record that it leaves.
use Rattle.std.proofs.Common.{◌≡◌, ℕ, ◌+◌, ◌-◌, ◌<◌, ◌≤◌, Bool, true, false, cond, leb, List, [], ◌∷◌, length, get_or, is_some, Some, None, Ok, Err, vec_items, vec_capacity, Option, Result, sym, refl, ap, ◌∙◌, subst, inl, inr, ⊎_elim, arith, length-set}
use Rattle.std.proofs.lemmas.List.{length-append}
use Rattle.std.proofs.lemmas.Bool.{and_from, and_parts, le-leb, leb-true, lt-ltb, ltb-true}
use Rattle.decline.specs.declared.Fault.{Fault}
use Rattle.octets.specs.Packed.{unpacked}
use Rattle.revision.specs.declared.DocumentId.{DocumentId}
use Rattle.revision.specs.Trees as Trees
use Rattle.revision.specs.Trees.{Tree, Closed}
use Rattle.revision.specs.Paths as Paths
use Rattle.revision.specs.Paths.{Path, Contradicted}
use Rattle.revision.specs.Heads.{Head, Heads}
use Rattle.peer.specs.Records.{Documents, Record, put}
use Rattle.peer.specs.Peers.{path}
use Rattle.peer.specs.Functions as F
use Rattle.entries.specs.declared.Document.{Document}
use Rattle.entries.specs.declared.HeldRevision.{HeldRevision}
use Rattle.entries.specs.declared.Content.{Content}
use Rattle.tables.specs.declared.Tables.{Tables}
use Rattle.tables.specs.declared.path.Path as Code
use Rattle.tables.specs.PathReads.{path_of}
use Rattle.entries.specs.Searches.{place}
use Rattle.entries.specs.Entries.{is_document, is_revision, tree_at, node_of, slotted, content_of, documents_in, logs_in, slot_at, no_revision}
use Rattle.tables.specs.Tables.{documents_of, logs_of, record_of}
use Rattle.tables.specs.Sound.{Sound, SoundDocuments, SoundRevisions, SoundLogs}
use Rattle.tables.specs.Paths.{standing, Newest, placed, place_for, renewed, Keeps, SlotRoom, Fits, Extended, tag_in, tree_in, entry_of, slot_of, Wrote}
use Rattle.tables.specs.Room.{missing, newest_head, one_more, room_in}
use Rattle.tables.specs.Calls.{PathReplied}
use Rattle.entries.proofs.Searching.{found, not_found, not_both}
use Rattle.tables.proofs.PathRule.{Suits, Tags, clash_contradicts, leaf_contradicts, not_contradicted}
use Rattle.tables.proofs.PathTags.{path_tags}
use Rattle.tables.proofs.Growth.{changes_not, changes_some, suits_gone, gone}
use Rattle.tables.proofs.TableGrowth.{rs', cs', length_after, same_tree, tree_written}
use Rattle.tables.proofs.TableGrowth as Table
use Rattle.tables.proofs.DocumentGrowth.{known_tree, sizes, documents_put}
use Rattle.tables.proofs.DocumentGrowth as Docs
use Rattle.tables.proofs.RoomFor.{missing_is, newest_head_is, head_slot}
use Rattle.tables.proofs.HeadBound.{heads_few}

-- what a slot keeps is what the head's node has
suits_keeps : (rs : List HeldRevision) (cs : List Content) (d g x : ℕ) (c : Trees.Content) → Suits (tree_at rs cs d g x) c → Keeps cs (slot_at rs (place (is_revision d g x) 0 rs)) c
suits_keeps rs cs d g x c s = go (place (is_revision d g x) 0 rs) refl
  where
    at : (p : ℕ) (o : Option ℕ) → Suits (slotted cs p o) c → Keeps cs o c
    at p None s = tt
    at p (Some v) s = s

    go : (o : Option ℕ) → place (is_revision d g x) 0 rs ≡ o → Keeps cs (slot_at rs o) c
    go None e = tt
    go (Some i) e = at (get_or rs i no_revision).parent (get_or rs i no_revision).slot (subst (λ (q : Option HeldRevision). Suits (node_of cs q) c) (found (is_revision d g x) no_revision rs i e).value s)

keeps_suits : (rs : List HeldRevision) (cs : List Content) (d g x : ℕ) (c : Trees.Content) → Keeps cs (slot_at rs (place (is_revision d g x) 0 rs)) c → Suits (tree_at rs cs d g x) c
keeps_suits rs cs d g x c = go (place (is_revision d g x) 0 rs) refl
  where
    at : (p : ℕ) (o : Option ℕ) → Keeps cs o c → Suits (slotted cs p o) c
    at p None s = tt
    at p (Some v) s = s

    go : (o : Option ℕ) → place (is_revision d g x) 0 rs ≡ o → Keeps cs (slot_at rs o) c → Suits (tree_at rs cs d g x) c
    go None e k = subst (λ (q : Option HeldRevision). Suits (node_of cs q) c) (sym (not_found (is_revision d g x) rs e)) tt
    go (Some i) e k = subst (λ (q : Option HeldRevision). Suits (node_of cs q) c) (sym (found (is_revision d g x) no_revision rs i e).value) (at (get_or rs i no_revision).parent (get_or rs i no_revision).slot k)

module _ (t : Tables) (p : Code.Path) (sound : Sound t) where
  abbrev id : DocumentId
  id = p.id

  abbrev w : Path
  w = path_of p

  abbrev tag : ℕ → ℕ
  tag = tag_in p

  abbrev n : ℕ
  n = p.generation

  ts : Tags w tag n
  ts = path_tags w p.tags.now n refl p.some

  abbrev ds : List Document
  ds = vec_items t.documents

  abbrev rs : List HeldRevision
  rs = vec_items t.revisions

  abbrev cs : List Content
  cs = vec_items t.contents

  abbrev o : Option ℕ
  o = place (is_document (unpacked id.bytes)) 0 (vec_items t.documents)

  abbrev pub d : ℕ
  d = place_for (vec_items t.documents) (place (is_document (unpacked id.bytes)) 0 (vec_items t.documents))

  abbrev T : Tree
  T = (documents_of t).tree w.doc

  -- the document's tree is the one at its place
  here : (documents_of t).tree w.doc ≡ tree_in t d
  here = known_tree ds rs cs o sound.revisions

  closed : Closed (tree_in t d)
  closed = sound.revisions.closed d

  to_model : (P : Tree → Type 0) → P (tree_in t d) → P ((documents_of t).tree w.doc)
  to_model P p = subst P (sym here) p

  module _ (k : ℕ) (nw : Newest (standing (tree_in t d) tag) n k) where
    slot_head : is_some (slot_of t d tag k) ≡ newest_head ((documents_of t).tree w.doc) 1 false w.tags
    slot_head = sym (head_slot rs cs d k (tag k)) ∙ (sym (newest_head_is w tag n ts (tree_in t d) k closed nw) ∙ ap (λ (x : Tree). newest_head x 1 false w.tags) (sym here))

    missing_here : missing ((documents_of t).tree w.doc) 1 w.tags ≡ n - k
    missing_here = ap (λ (x : Tree). missing x 1 w.tags) here ∙ missing_is w tag n ts (tree_in t d) k closed nw

    one_document : (q : Option ℕ) → o ≡ q → (d < 32 → length ds + one_more (is_some q) ≤ 32) × (length ds + one_more (is_some q) ≤ 32 → d < 32)
    one_document None e = let r : d ≡ length ds = ap (place_for ds) e in (λ l. omega arith, λ l. omega arith)
    one_document (Some i) e =
        let r : d ≡ i = ap (place_for ds) e in
        let l = (found (is_document (unpacked id.bytes)) (record { id = id; last = 0 }) ds i e).within in
        (λ u. omega (arith, sound.reserved.documents.1), λ u. omega (arith, sound.reserved.documents.1))

    one_head : (q : Option ℕ) → (SlotRoom (length cs) q → length cs + one_more (is_some q) ≤ 64) × (length cs + one_more (is_some q) ≤ 64 → SlotRoom (length cs) q)
    one_head None = (λ l. omega arith, λ l. omega arith)
    one_head (Some v) = (λ l. omega (arith, sound.reserved.contents.1), λ l. tt)

    pub fits_room : Fits t d (n - k) (slot_of t d tag k) → room_in t (path w) ≡ true
    fits_room f =
        let a = (one_document o refl).0 f.0 in
        let b = (one_head (slot_of t d tag k)).0 f.2 in
        let h = ap (λ (x : Bool). length cs + one_more x) slot_head in
        and_from (leb (length ds + one_more (is_some (place (is_document w.doc) 0 ds))) 32) _ (le-leb _ 32 (omega arith))
        (and_from (leb (length rs + missing ((documents_of t).tree w.doc) 1 w.tags) 1024) _ (le-leb _ 1024 (omega (arith, missing_here, f.1)))
        (and_from (leb (length cs + one_more (newest_head ((documents_of t).tree w.doc) 1 false w.tags)) 64) _ (le-leb _ 64 (omega arith)) (lt-ltb t.highest 4294967295 f.3)))

    pub room_fits : room_in t (path w) ≡ true → Fits t d (n - k) (slot_of t d tag k)
    room_fits e =
        let a = and_parts (leb (length ds + one_more (is_some (place (is_document w.doc) 0 ds))) 32) _ e in
        let b = and_parts (leb (length rs + missing ((documents_of t).tree w.doc) 1 w.tags) 1024) _ a.1 in
        let c = and_parts (leb (length cs + one_more (newest_head ((documents_of t).tree w.doc) 1 false w.tags)) 64) _ b.1 in
        let x = leb-true (length ds + one_more (is_some (place (is_document w.doc) 0 ds))) 32 a.0 in
        let y = leb-true (length rs + missing ((documents_of t).tree w.doc) 1 w.tags) 1024 b.0 in
        let z = leb-true (length cs + one_more (newest_head ((documents_of t).tree w.doc) 1 false w.tags)) 64 c.0 in
        let h = ap (λ (x : Bool). length cs + one_more x) slot_head in
        ((one_document o refl).1 (omega arith), omega (arith, missing_here), (one_head (slot_of t d tag k)).1 (omega arith), ltb-true t.highest 4294967295 c.1)

    allowed : Suits (tree_in t d n (tag n)) w.content → Contradicted ((documents_of t).tree w.doc) w → ⊥
    allowed s = to_model (λ (x : Tree). Contradicted x w → ⊥) (not_contradicted w tag n ts (tree_in t d) nw.agrees s)

  -- declined
  pub declined_reply : (e : Fault) (u : Tables) → Wrote t d p (Err e) u → PathReplied t w (Err e) u
  declined_reply e u (same, inl (f, inl c)) = (34, f, F.contradicted (to_model (λ (x : Tree). Contradicted x w) (clash_contradicts w tag n ts (tree_in t d) c)), same)
  declined_reply e u (same, inl (f, inr c)) =
      (34, f, F.contradicted (to_model (λ (x : Tree). Contradicted x w) (leaf_contradicts w tag n ts (tree_in t d) (λ s. c.1 (suits_keeps rs cs d n (tag n) w.content s)))), same)
  declined_reply e u (same, inr (f, (k, l, nw, unfit))) =
      (35, f, F.full (allowed k nw (suits_gone w tag n ts (tree_in t d) k closed nw w.content l)) (to_model (λ (x : Tree). Paths.changes x w ≡ true) (changes_some w tag n ts (tree_in t d) k closed nw l), λ r. unfit (room_fits k nw r.0)), same)

  -- nothing changed
  pub known_reply : (a : ℕ) (u : Tables) → a ≡ 0 → Newest (standing (tree_in t d) tag) n n → Keeps (vec_items t.contents) (slot_of t d tag n) w.content → u ≡ t → PathReplied t w (Ok a) u
  known_reply a u z nw kp same =
      let stays : Paths.changes ((documents_of t).tree w.doc) w ≡ false = to_model (λ (x : Tree). Paths.changes x w ≡ false) (changes_not w tag n ts (tree_in t d) n closed nw refl) in (
        F.fine (allowed n nw (keeps_suits rs cs d n (tag n) w.content kp)) (λ f. not_both (Paths.changes ((documents_of t).tree w.doc) w) f.0 stays),
        z ∙ sym (ap (λ (b : Bool). cond b 1 0) stays),
        ap record_of same ∙ sym (ap (λ (b : Bool). let r : Record = record { docs = cond b (put w (documents_of t)) (documents_of t); logs = logs_of t } in r) stays),
      )

  module _ (k : ℕ) (less : k < n) (nw : Newest (standing (tree_in t d) tag) n k) (fit : Fits t d (n - k) (slot_of t d tag k)) (x : Content) (is : content_of x ≡ w.content) (short : x.length ≤ 96)
      (u : Tables) (ex : Extended t id d tag n k (entry_of t d tag k) (slot_of t d tag k) x u) where
    beyond : (g : ℕ) → k < g → g ≤ n → tree_at rs cs d g (tag g) ≡ Trees.absent
    beyond g l m = gone w tag n ts (tree_in t d) k closed nw g l m

    abbrev start : Table.Start
    start = record { documents = length ds; rs = rs; cs = cs; d = d; tag = tag; n = n; k = k; x = x; sound = sound.revisions; less = less; beyond = beyond }

    size : (length ds ≤ length (vec_items u.documents)) × (d < length (vec_items u.documents)) × (length (vec_items u.documents) ≤ 32)
    size =
        let s = sizes ds t.highest id o sound.documents refl in
        let e = ap length ex.documents in
        (omega (arith, s.0), omega (arith, s.1), ⊎_elim (λ (q : d ≡ length ds). omega (arith, s.2, fit.0)) (λ (q : length (renewed ds d (record { id = id; last = t.highest + 1 })) ≡ length ds). omega (arith, sound.reserved.documents.1)) s.3)

    revisions_after : SoundRevisions (length (vec_items u.documents)) (vec_items u.revisions) (vec_items u.contents)
    revisions_after =
        subst (λ (y : List HeldRevision). SoundRevisions (length (vec_items u.documents)) y (vec_items u.contents)) (sym ex.revisions)
        (subst (λ (y : List Content). SoundRevisions (length (vec_items u.documents)) (Table.rs' start) y) (sym ex.contents)
        (Table.sound_after start
        (length (vec_items u.documents)) size.0 size.1 p.few p.tagged short w ts is nw))

    contents_few : (q : Option ℕ) → SlotRoom (length cs) q → length (placed cs q x) ≤ 64
    contents_few None l = omega (arith, length-append cs (x ∷ []))
    contents_few (Some v) l = omega (arith, length-set cs v x, sound.reserved.contents.1)

    pub sound_after : Sound u
    sound_after = record {
      documents = subst (λ (y : ℕ). SoundDocuments (vec_items u.documents) y) (sym ex.highest) (subst (λ (y : List Document). SoundDocuments y (t.highest + 1)) (sym ex.documents) (Docs.sound_after ds t.highest id o sound.documents refl p.named));
      revisions = revisions_after;
      logs = subst (λ y. SoundLogs (vec_items y)) (sym ex.logs) sound.logs;
      reserved = record {
        documents = (omega (arith, sound.reserved.documents.0, ex.capacities.0), size.2);
        revisions = (
          omega (arith, sound.reserved.revisions.0, ex.capacities.1),
          (let e = ap length ex.revisions ∙ length_after start in omega (arith, fit.1)),
        );
        contents = (omega (arith, sound.reserved.contents.0, ex.capacities.2), (let e = ap length ex.contents in omega (arith, contents_few (slot_of t d tag k) fit.2)));
        logs = subst (λ y. (8 ≤ vec_capacity y) × (length (vec_items y) ≤ 8)) (sym ex.logs) sound.reserved.logs;
      };
    }

    docs_after : documents_of u ≡ put w (documents_of t)
    docs_after =
        (λ i. documents_in (ex.documents i) (ex.revisions i) (ex.contents i) (ex.highest i))
        ∙ documents_put ds t.highest id o sound.documents refl rs (Table.rs' start) cs
        (Table.cs' start) w refl sound.revisions
        (tree_written start (length (vec_items u.documents)) size.0 size.1 p.few p.tagged short w ts is nw)
        (same_tree start)

    -- the heads afterwards are at most 64
    heads_after : (hs : List Head) → Heads ((put w (documents_of t)).tree w.doc) hs → length hs ≤ 64
    heads_after hs h =
        let e : (documents_of u).tree w.doc ≡ tree_in u (place_for (vec_items u.documents) (place (is_document w.doc) 0 (vec_items u.documents))) =
        known_tree (vec_items u.documents) (vec_items u.revisions) (vec_items u.contents) (place (is_document w.doc) 0 (vec_items u.documents)) revisions_after in
        let g = subst (λ (y : Documents). Heads (y.tree w.doc) hs) (sym docs_after) h in
        let f = heads_few (length (vec_items u.documents)) (vec_items u.revisions) (vec_items u.contents) _ revisions_after hs (subst (λ (y : Tree). Heads y hs) e g) in
        let c = ap length ex.contents in omega (arith, contents_few (slot_of t d tag k) fit.2)

    pub added_reply : (a : ℕ) → a ≡ 1 → PathReplied t w (Ok a) u
    added_reply a one =
        let adds : Paths.changes ((documents_of t).tree w.doc) w ≡ true = to_model (λ (y : Tree). Paths.changes y w ≡ true) (changes_some w tag n ts (tree_in t d) k closed nw less) in (
          F.fine (allowed k nw (suits_gone w tag n ts (tree_in t d) k closed nw w.content less)) (λ f. f.1 (fits_room k nw fit, (fit.3, heads_after))),
          one ∙ sym (ap (λ (b : Bool). cond b 1 0) adds),
          (λ i. let r : Record = record { docs = docs_after i; logs = logs_in (vec_items (ex.logs i)) } in r) ∙ sym (ap (λ (b : Bool). let r : Record = record { docs = cond b (put w (documents_of t)) (documents_of t); logs = logs_of t } in r) adds),
        )

  -- every way
  pub path_reply : (r : Result ℕ Fault) (u : Tables) → Wrote t d p r u → Sound u × PathReplied t w r u
  path_reply (Err e) u h = (subst (λ (y : Tables). Sound y) (sym h.0) sound, declined_reply e u h)
  path_reply (Ok a) u (inl (z, nw, kp, same)) = (subst (λ (y : Tables). Sound y) (sym same) sound, known_reply a u z nw kp same)
  path_reply (Ok a) u (inr (one, (k, l, nw, fit, (x, is, short, ex)))) = (sound_after k l nw fit x is short u ex, added_reply k l nw fit x is short u ex a one)
