use Rattle.std.proofs.Common.{◌≡◌, None, get_or, refl, rules, MatchOption}
use Rattle.order.specs.Lists.{nth}
use Rattle.checkpoint.specs.Values.{entries_of}
use Rattle.entries.specs.declared.KeyedLog.{KeyedLog}
use Rattle.reads.proofs.LogEntries.{log_entry_read}
use Rattle.reads.proofs.log_entry.Goals as goal

pub returns : goal.returns
returns c =
    let k = c.in_ok-key.ensures in
    let e : MatchOption c.place_in.result (c.and_then.result ≡ None) (λ at. (z : KeyedLog) × (c.and_then.result ≡ nth (entries_of (get_or c.as_slice-logs.result.now at z).log) c.args.i)) = search rules in
    (k.0, refl, log_entry_read _ _ _ _ _ c.place_in.result c.and_then.result c.as_slice-logs.ensures.value k.1 c.place_in.ensures.value e)
