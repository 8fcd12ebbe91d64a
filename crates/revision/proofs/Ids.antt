-- When bytes are an id.
use Rattle.std.proofs.Common.{◌≡◌, ℕ, ◌≤◌, true, false, leb, eqb, List, length, sym, arith}
use Rattle.std.proofs.lemmas.Bool.{and_from, le-leb, eqb-false}
use Rattle.order.specs.Lists.{every}
use Rattle.revision.specs.Ids.{id_byte, good_id}

pub good_id_from : (bs : List ℕ) → false ≡ eqb (length bs) 0 → length bs ≤ 16 → true ≡ every id_byte bs → good_id bs ≡ true
good_id_from bs n m e =
    let some : length bs ≡ 0 → ⊥ = eqb-false (length bs) 0 (sym n) in
    let l : 1 ≤ length bs = omega arith in
    and_from (leb 1 (length bs)) _ (le-leb 1 (length bs) l) (and_from (leb (length bs) 16) _ (le-leb (length bs) 16 m) (sym e))
