-- The entries of the log of a key.
use Rattle.std.proofs.Common.{◌≡◌, ℕ, zero, suc, List, [], ◌∷◌, get_or, Some, None, Option, sym, refl, ap, ◌∙◌, MatchOption}
use Rattle.order.specs.Lists.{nth}
use Rattle.keys.specs.Keys.{Key}
use Rattle.checkpoint.specs.declared.Entry.{Entry}
use Rattle.checkpoint.specs.Values.{pair, pairs, entries_of}
use Rattle.peer.specs.Replies.{perhaps}
use Rattle.entries.specs.declared.KeyedLog.{KeyedLog}
use Rattle.entries.specs.Searches.{place}
use Rattle.entries.specs.Entries.{is_log, entries_in, logs_in}
use Rattle.entries.proofs.Searching.{found, not_found}

nth_pairs : (es : List Entry) (i : ℕ) → perhaps pair (nth es i) ≡ nth (pairs es) i
nth_pairs [] i = refl
nth_pairs (e ∷ es) zero = refl
nth_pairs (e ∷ es) (suc i) = nth_pairs es i

-- entry i of the log that was looked up
pub log_entry_read : (ls logs : List KeyedLog) (k l : Key) (i : ℕ) (o : Option ℕ) (r : Option Entry) → ls ≡ logs → k ≡ l → o ≡ place (is_log k) 0 ls →
    MatchOption o (r ≡ None) (λ at. (z : KeyedLog) × (r ≡ nth (entries_of (get_or ls at z).log) i)) → perhaps pair r ≡ nth (logs_in logs l) i
log_entry_read ls logs k l i o r le ke e h = go o (sym e) h ∙ (ap (λ (m : List KeyedLog). nth (logs_in m k) i) le ∙ ap (λ (q : Key). nth (logs_in logs q) i) ke)
  where
    go : (o : Option ℕ) → place (is_log k) 0 ls ≡ o → MatchOption o (r ≡ None) (λ at. (z : KeyedLog) × (r ≡ nth (entries_of (get_or ls at z).log) i)) → perhaps pair r ≡ nth (logs_in ls k) i
    go None q h = ap (perhaps pair) h ∙ sym (ap (λ (p : Option KeyedLog). nth (entries_in p) i) (not_found (is_log k) ls q))
    go (Some at) q (z, h) = ap (perhaps pair) h ∙ (nth_pairs (entries_of (get_or ls at z).log) i ∙ sym (ap (λ (p : Option KeyedLog). nth (entries_in p) i) (found (is_log k) z ls at q).value))
