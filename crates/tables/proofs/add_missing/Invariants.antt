use Rattle.std.proofs.Common.{◌≡◌, ◌+◌, ◌-◌, ◌≤◌, ◌++◌, vec_items, vec_len, vec_capacity}
use Rattle.tables.specs.Tags.{tag_at}
use Rattle.tables.specs.Paths.{rows}
use Rattle.tables.proofs.add_missing.Given as goal

abbrev pub invariant-loop-generation : goal.invariant-loop-generation
invariant-loop-generation l = record {
  within : l.generation ≤ l.path.generation + 1;
  entries : vec_items l.revisions ≡ vec_items l.initial.revisions ++ rows l.document (tag_at l.path.tags.now) l.path.generation l.slot l.k (l.generation - 1 - l.k);
  many : vec_len l.revisions ≡ vec_len l.initial.revisions + (l.generation - 1 - l.k);
  capacity : vec_capacity l.revisions ≡ vec_capacity l.initial.revisions;
}
