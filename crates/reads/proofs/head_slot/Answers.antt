use Rattle.reads.proofs.Held.{slot_known}
use Rattle.reads.proofs.head_slot.Goals as goal

pub returns : goal.returns
returns c = slot_known c.args.tables.now _ _ _ c.in_ok-entry_of.field-0 c.requires c.in_ok-entry_of.ensures
