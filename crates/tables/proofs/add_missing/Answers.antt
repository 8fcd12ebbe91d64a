use Rattle.std.proofs.Common.{◌≡◌, ◌-◌, vec_items, ◌∙◌, arith}
use Rattle.tables.specs.Tags.{tag_at}
use Rattle.tables.proofs.NewRows.{added}
use Rattle.tables.proofs.add_missing.Goals as goal

pub loop-generation-preserved : goal.loop-generation-preserved
loop-generation-preserved c = record {
  within = omega arith;
  entries = added (vec_items c.args.revisions.now) _ _ c.args.document (tag_at c.args.path.now.tags.now) c.args.path.now.generation c.args.slot c.args.k c.loop-generation.generation _ _ _ _
      (omega arith) (omega arith) c.tag.ensures c.tag-in-loop-generation.ensures c.then_some.ensures c.loop-generation.invariant.entries c.push_reserved.ensures.items;
  many = omega (arith, c.push_reserved.ensures.len);
  capacity = c.push_reserved.ensures.capacity ∙ c.loop-generation.invariant.capacity;
}

pub returns-clause-revisions : goal.returns-clause-revisions
returns-clause-revisions c =
    let e : c.loop-generation.generation - 1 - c.args.k ≡ c.args.path.now.generation - c.args.k = omega arith in rw (← e) c.loop-generation.invariant.entries

pub returns-2-clause-revisions : goal.returns-2-clause-revisions
returns-2-clause-revisions c =
    added (vec_items c.args.revisions.now) _ _ c.args.document (tag_at c.args.path.now.tags.now) c.args.path.now.generation c.args.slot c.args.k c.loop-generation.generation _ _ _ _
    (omega arith) (omega arith) c.tag.ensures c.tag-in-loop-generation.ensures c.then_some.ensures c.loop-generation.invariant.entries c.push_reserved.ensures.items
