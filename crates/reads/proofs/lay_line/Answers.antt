use Rattle.std.proofs.Common.{◌-◌, ◌*◌, ◌<◌, ◌≤◌, Option, length, sym, subst, arith, rules}
use Rattle.octets.proofs.Eights.{eight_copied}
use Rattle.octets.proofs.Widths.{eight_bytes}
use Rattle.entries.specs.declared.HeldRevision.{HeldRevision}
use Rattle.reads.proofs.Held.{entry_generation}
use Rattle.reads.proofs.Climbing.{height, walk_start, walk_room, walk_more, walk_end, parent_lower}
use Rattle.reads.proofs.lay_line.Goals as goal

pub loop-next-init : goal.loop-next-init
loop-next-init c = walk_start c.args.tables.now c.requires.sound c.args.out.now c.args.entry c.requires.held

pub overflow_sub-place : goal.overflow_sub-place
overflow_sub-place c =
    let w = rw c.in-Some.is at c.loop-next.invariant in
    entry_generation c.args.tables.now c.in-Some.entry c.requires.sound w.entry.1

pub slice_bounds-copy_from_slice-end : goal.slice_bounds-copy_from_slice-end
slice_bounds-copy_from_slice-end c =
    let w = rw c.in-Some.is at c.loop-next.invariant in
    let low : 0 < c.in-Some.entry.generation = entry_generation c.args.tables.now c.in-Some.entry c.requires.sound w.entry.1 in
    let room : 8 * c.in-Some.entry.generation ≤ length c.loop-next.out = walk_room c.args.tables.now c.requires.sound _ _ _ _ c.in-Some.entry c.loop-next.out w c.requires.room in
    omega arith

pub parent_of-next-requires-clause-low : goal.parent_of-next-requires-clause-low
parent_of-next-requires-clause-low c =
    let w = rw c.in-Some.is at c.loop-next.invariant in
    entry_generation c.args.tables.now c.in-Some.entry c.requires.sound w.entry.1

pub loop-next-smaller : goal.loop-next-smaller
loop-next-smaller c =
    let w = rw c.in-Some.is at c.loop-next.invariant in
    subst (λ (o : Option HeldRevision). height c.parent_of-next.result < height o) (sym c.in-Some.is)
    (parent_lower c.args.tables.now c.requires.sound c.in-Some.entry c.parent_of-next.result w.entry.1 c.parent_of-next.ensures)

pub loop-next-preserved : goal.loop-next-preserved
loop-next-preserved c =
    let w = rw c.in-Some.is at c.loop-next.invariant in
    walk_more c.args.tables.now c.requires.sound _ _ _ _ c.in-Some.entry c.parent_of-next.result c.loop-next.out _ w c.parent_of-next.ensures c.requires.room
    (eight_copied c.loop-next.out c.copy_from_slice.new.self _ (c.in-Some.entry.generation - 1) c.in-Some.entry.tag (search rules) (sym (eight_bytes c.in-Some.entry.tag))) (search rules)

pub returns : goal.returns
returns c =
    let w = rw c.in_default.is at c.loop-next.invariant in
    walk_end c.args.tables.now c.requires.sound _ _ _ _ c.loop-next.out (entry_generation c.args.tables.now c.args.entry c.requires.sound c.requires.held) w
