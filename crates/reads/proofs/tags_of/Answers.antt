use Rattle.std.proofs.Common.{◌≤◌, length, rules}
use Rattle.reads.proofs.LineReads.{line_read}
use Rattle.reads.proofs.tags_of.Goals as goal

pub returns : goal.returns
returns c =
    let room : 1600 ≤ length c.args.out.now = search rules in
    line_read c.args.tables.now _ _ _ c.args.out.now _ c.in_ok-id.id c.in_ok-revision.revision c.in_ok-entry.entry
    c.in_ok-id.ensures c.in_ok-revision.ensures room (rw c.in_ok-entry.ensures.ok_part at c.entry_of.ensures) c.lay_line.ensures
