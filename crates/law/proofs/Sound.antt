-- Documents that keep to histories, and when a position is sound: the target holds what the source changed last at or before it. A sound position stays sound
-- under path writes on either side, and that is what the laws rest on.
use Rattle.std.proofs.Common.{◌≡◌, ℕ, suc, ◌≤◌, Bool, true, false, cond, List, sym, refl, ◌∙◌, subst, arith}
use mathlib.Core.Path.{fun_ext}
use Rattle.order.specs.Lists.{same}
use Rattle.revision.specs.Ids.{Id}
use Rattle.revision.specs.Trees.{Tree, empty, union}
use Rattle.revision.specs.Paths.{Path, path_tree, written}
use Rattle.keys.specs.Keys.{passes}
use Rattle.peer.specs.Records.{grow, lay, Documents, put}
use Rattle.revision.proofs.Places.{History, Below, Agrees, fits_join, below_refl, below_trans, below_left, below_right, union_least}
use Rattle.revision.proofs.Trees.{last_level, Keeps, Closed, Covered, path_below, closed_union, path_agrees, covered_union, written_union, written_above, written_least}
use Rattle.order.proofs.Lists.{same_true}

-- a history for each document
abbrev pub Histories : Type 0
Histories = Id → History

-- a path keeps to the history of its document
abbrev pub PathGood : Histories → Path → Type 0
PathGood H w = Keeps (H w.doc) w

-- documents keep to the histories, each held revision lies on the path of a head, and the last change numbers are apart and at most the highest
pub record DocumentsGood (H : Histories) (x : Documents) : Type 0 where
  pub closed : (d : Id) → Closed (H d) (x.tree d)
  pub covered : (d : Id) → Covered (H d) (x.tree d)
  pub agrees : (d : Id) → Agrees (H d) (x.tree d)
  pub none : (d : Id) → x.last d ≡ 0 → Below (x.tree d) empty
  pub within : (d : Id) → x.last d ≤ x.highest
  pub apart : (d e : Id) → x.last d ≡ x.last e → 1 ≤ x.last d → d ≡ e

-- a path of the document d, where the test says that it is
at_doc : (H : Histories) (w : Path) (d : Id) → PathGood H w → same w.doc d ≡ true → Keeps (H d) w
at_doc H w d o e = subst (λ (k : Id). Keeps (H k) w) (same_true w.doc d e) o

pub grow_agrees : (H : Histories) (w : Path) (f : Id → Tree) → PathGood H w → ((d : Id) → Agrees (H d) (f d)) → (d : Id) → Agrees (H d) (grow w f d)
grow_agrees H w f o k d = go (same w.doc d) refl
  where
    go : (b : Bool) → same w.doc d ≡ b → Agrees (H d) (cond b (union (f d) (path_tree w)) (f d))
    go true e g x = fits_join (H d g x) (f d g x) (path_tree w g x) (k d g x) (path_agrees (H d) w (at_doc H w d o e) g x)
    go false e g x = k d g x

pub grow_above : (w : Path) (f : Id → Tree) (d : Id) → Below (f d) (grow w f d)
grow_above w f d = go (same w.doc d)
  where
    go : (b : Bool) → Below (f d) (cond b (union (f d) (path_tree w)) (f d))
    go true = below_left (f d) (path_tree w)
    go false = below_refl (f d)

pub grow_mono : (w : Path) (f k : Id → Tree) (d : Id) → Below (f d) (k d) → Below (grow w f d) (grow w k d)
grow_mono w f k d b = go (same w.doc d)
  where
    go : (t : Bool) → Below (cond t (union (f d) (path_tree w)) (f d)) (cond t (union (k d) (path_tree w)) (k d))
    go true = union_least (f d) (path_tree w) (union (k d) (path_tree w)) (below_trans (f d) (k d) (union (k d) (path_tree w)) b (below_left (k d) (path_tree w))) (below_right (k d) (path_tree w))
    go false = b

-- a bound of the trees and of the path bounds the grown trees
pub grow_least : (w : Path) (f : Id → Tree) (d : Id) (u : Tree) → Below (f d) u → (same w.doc d ≡ true → Below (path_tree w) u) → Below (grow w f d) u
grow_least w f d u b k = go (same w.doc d) refl
  where
    go : (t : Bool) → same w.doc d ≡ t → Below (cond t (union (f d) (path_tree w)) (f d)) u
    go true e = union_least (f d) (path_tree w) u b (k e)
    go false e = b

-- where the last revision of a path is held, the path is
pub held_path : (H : Histories) (x : Documents) (w : Path) (d : Id) → DocumentsGood H x → PathGood H w → same w.doc d ≡ true → 1 ≤ last_level (x.tree w.doc) w → Below (path_tree w) (x.tree d)
held_path H x w d k o e l =
    subst (λ (c : Id). Below (path_tree w) (x.tree c)) (same_true w.doc d e)
    (path_below (H w.doc) (x.tree w.doc) w (k.closed w.doc) o l)

-- a path written by its rule
pub lay_above : (w : Path) (f : Id → Tree) (d : Id) → Below (f d) (lay w f d)
lay_above w f d = go (same w.doc d)
  where
    go : (b : Bool) → Below (f d) (cond b (written (f d) w) (f d))
    go true = written_above (f d) w
    go false = below_refl (f d)

pub lay_least : (w : Path) (f : Id → Tree) (d : Id) (u : Tree) → Below (f d) u → (same w.doc d ≡ true → Below (path_tree w) u) → Below (lay w f d) u
lay_least w f d u b k = go (same w.doc d) refl
  where
    go : (t : Bool) → same w.doc d ≡ t → Below (cond t (written (f d) w) (f d)) u
    go true e = written_least (f d) u w b (k e)
    go false e = b

-- where its last revision is not held, that makes the union
pub lay_grow : (H : Histories) (x : Documents) (w : Path) → DocumentsGood H x → PathGood H w → last_level (x.tree w.doc) w ≡ 0 → lay w x.tree ≡ grow w x.tree
lay_grow H x w k o z = fun_ext (λ d. go d (same w.doc d) refl)
  where
    go : (d : Id) (b : Bool) → same w.doc d ≡ b → cond b (written (x.tree d) w) (x.tree d) ≡ cond b (union (x.tree d) (path_tree w)) (x.tree d)
    go d true e = written_union (H d) (x.tree d) w (k.closed d) (k.agrees d) (k.covered d).none (at_doc H w d o e) (subst (λ (c : Id). last_level (x.tree c) w ≡ 0) (same_true w.doc d e) z)
    go d false e = refl

abbrev put_union : Path → Documents → Documents
put_union w x = record { tree = grow w x.tree; last = λ d. cond (same w.doc d) (suc x.highest) (x.last d); highest = suc x.highest }

union_ok : (H : Histories) (x : Documents) (w : Path) → DocumentsGood H x → PathGood H w → last_level (x.tree w.doc) w ≡ 0 → DocumentsGood H (put_union w x)
union_ok H x w k o z = record {
  closed = λ d. go_closed d (same w.doc d) refl;
  covered = λ d. go_covered d (same w.doc d) refl;
  agrees = grow_agrees H w x.tree o k.agrees;
  none = λ d. go_none d (same w.doc d);
  within = λ d. go_within d (same w.doc d);
  apart = λ d e. go_apart d e (same w.doc d) (same w.doc e) refl refl;
}
  where
    go_apart : (d e : Id) (a b : Bool) → same w.doc d ≡ a → same w.doc e ≡ b → cond a (suc x.highest) (x.last d) ≡ cond b (suc x.highest) (x.last e) → 1 ≤ cond a (suc x.highest) (x.last d) → d ≡ e
    go_apart d e true true f g q l = sym (same_true w.doc d f) ∙ same_true w.doc e g
    go_apart d e true false f g q l = absurd (omega (arith, k.within e))
    go_apart d e false true f g q l = absurd (omega (arith, k.within d))
    go_apart d e false false f g q l = k.apart d e q l

    go_closed : (d : Id) (b : Bool) → same w.doc d ≡ b → Closed (H d) (cond b (union (x.tree d) (path_tree w)) (x.tree d))
    go_closed d true e = closed_union (H d) (x.tree d) w (k.closed d) (at_doc H w d o e)
    go_closed d false e = k.closed d

    go_covered : (d : Id) (b : Bool) → same w.doc d ≡ b → Covered (H d) (cond b (union (x.tree d) (path_tree w)) (x.tree d))
    go_covered d true e = covered_union (H d) (x.tree d) w (at_doc H w d o e) (k.covered d)
        (subst (λ (c : Id). last_level (x.tree c) w ≡ 0) (same_true w.doc d e) z)
    go_covered d false e = k.covered d

    go_none : (d : Id) (b : Bool) → cond b (suc x.highest) (x.last d) ≡ 0 → Below (cond b (union (x.tree d) (path_tree w)) (x.tree d)) empty
    go_none d true e = absurd (omega arith)
    go_none d false e = k.none d e

    go_within : (d : Id) (b : Bool) → cond b (suc x.highest) (x.last d) ≤ suc x.highest
    go_within d true = omega arith
    go_within d false = omega (arith, k.within d)

pub put_ok : (H : Histories) (x : Documents) (w : Path) → DocumentsGood H x → PathGood H w → last_level (x.tree w.doc) w ≡ 0 → DocumentsGood H (put w x)
put_ok H x w k o z =
    let e : lay w x.tree ≡ grow w x.tree = lay_grow H x w k o z in
    let f : put w x ≡ put_union w x = λ i. record { tree = e i; last = λ d. cond (same w.doc d) (suc x.highest) (x.last d); highest = suc x.highest } in
    subst (λ (y : Documents). DocumentsGood H y) (sym f) (union_ok H x w k o z)

-- The position n of a source is sound at a target: what the source changed last at or before n, the target holds.
pub record Sound (rule : List ℕ) (n : ℕ) (x y : Documents) : Type 0 where
  pub within : n ≤ x.highest
  pub holds : (d : Id) → passes rule d ≡ true → x.last d ≤ n → Below (x.tree d) (y.tree d)

pub sound_less : (rule : List ℕ) (m n : ℕ) (x y : Documents) → m ≤ n → Sound rule n x y → Sound rule m x y
sound_less rule m n x y l s = record { within = omega (arith, s.within); holds = λ d p k. s.holds d p (omega arith) }

pub sound_source : (rule : List ℕ) (n : ℕ) (x y : Documents) (w : Path) → Sound rule n x y → Sound rule n (put w x) y
sound_source rule n x y w s = record { within = omega (arith, s.within); holds = λ d. go d (same w.doc d) }
  where
    go : (d : Id) (b : Bool) → passes rule d ≡ true → cond b (suc x.highest) (x.last d) ≤ n → Below (cond b (written (x.tree d) w) (x.tree d)) (y.tree d)
    go d true p l = absurd (omega (arith, s.within))
    go d false p l = s.holds d p l

pub sound_target : (rule : List ℕ) (n : ℕ) (x y : Documents) (w : Path) → Sound rule n x y → Sound rule n x (put w y)
sound_target rule n x y w s = record { within = s.within; holds = λ d p l. below_trans (x.tree d) (y.tree d) (lay w y.tree d) (s.holds d p l) (lay_above w y.tree d) }

pub sound_zero : (H : Histories) (rule : List ℕ) (x y : Documents) → DocumentsGood H x → Sound rule 0 x y
sound_zero H rule x y k = record { within = omega arith; holds = λ d p l g v. omega (arith, k.none d (omega arith) g v) }
