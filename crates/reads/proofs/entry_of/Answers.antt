use Rattle.std.proofs.Common.{ap, ◌∙◌}
use Rattle.entries.specs.Searches.{place}
use Rattle.entries.specs.Entries.{is_document}
use Rattle.octets.specs.Packed.{unpacked}
use Rattle.reads.proofs.Held.{entry_found}
use Rattle.reads.proofs.entry_of.Goals as goal

pub returns : goal.returns
returns c = entry_found c.args.tables.now _ _ _ c.in_ok-document.field-0 c.held_entry.result (c.in_ok-document.ensures.value ∙ ap (place (is_document (unpacked c.args.id.bytes)) 0) c.deref.ensures.value) c.held_entry.ensures
