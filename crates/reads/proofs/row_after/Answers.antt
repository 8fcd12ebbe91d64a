use Rattle.std.proofs.Common.{refl, vec_items}
use Rattle.reads.proofs.Rows.{no_row, next_row, next_id}
use Rattle.reads.proofs.row_after.Goals as goal

pub returns-in_err-next : goal.returns-in_err-next
returns-in_err-next c =
    let t = c.args.tables.now in
    let none = rw c.as_slice.ensures.value at c.in_err-next.ensures.none in
    let row = no_row (vec_items t.documents) (vec_items t.revisions) (vec_items t.contents) t.highest c.args.n c.requires.documents none in
    rw c.from_residual.ensures record { named = tt; row = (refl, refl, (row, refl)) }

pub returns : goal.returns
returns c =
    let t = c.args.tables.now in
    let d = c.in_ok-next.next in
    let there = rw c.as_slice.ensures.value at c.in_ok-next.ensures.there in
    let first = rw c.as_slice.ensures.value at c.in_ok-next.ensures.first in
    let named = next_id (vec_items t.documents) (vec_items t.revisions) (vec_items t.contents) t.highest c.args.n c.requires.documents d there in
    let row = next_row (vec_items t.documents) (vec_items t.revisions) (vec_items t.contents) t.highest c.args.n c.requires.documents d there c.in_ok-next.ensures.after first in
    record { named = named; row = (refl, refl, (row, named.good)) }
