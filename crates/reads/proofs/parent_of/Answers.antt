use Rattle.std.proofs.Common.{◌≡◌, ℕ, ◌-◌, vec_items, sym, ap, ◌∙◌, arith}
use Rattle.entries.specs.Searches.{first}
use Rattle.entries.specs.Entries.{is_revision}
use Rattle.reads.proofs.Held.{none_before}
use Rattle.reads.proofs.parent_of.Goals as goal

pub returns-then-entry-eq1 : goal.returns-then-entry-eq1
returns-then-entry-eq1 c =
    let root : c.args.entry.generation - 1 ≡ 0 = omega (arith, c.if-entry-eq1.true) in
    sym (ap (λ (g : ℕ). first (is_revision c.args.entry.document g c.args.entry.parent) (vec_items c.args.tables.now.revisions)) root
    ∙ none_before c.args.tables.now c.args.entry.document c.args.entry.parent c.requires.sound)
