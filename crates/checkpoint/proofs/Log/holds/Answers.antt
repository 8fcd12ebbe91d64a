use Rattle.std.proofs.Common.{◌≡◌, false, nat_eq, MatchOption, rules}
use Rattle.std.proofs.lemmas.Iterator.{YieldsList-from_slice, first_from_find}
use borrow.Author.Tests.{tests}
use Rattle.checkpoint.specs.declared.Entry.{Entry}
use Rattle.checkpoint.specs.Values.{entries_of}
use Rattle.checkpoint.proofs.Entries.{settled_found}
use Rattle.checkpoint.proofs.Log.holds.Goals as goal

pub returns : goal.returns
returns c =
    let es = entries_of c.args.self.now in
    let r = first_from_find _ _ c.find-found.result (λ (e : Entry). e.stamp ≡ c.args.entry.stamp) (λ e. e.stamp ≡ c.args.entry.stamp → ⊥) c.find-found.ensures.ran (YieldsList-from_slice es (search rules))
    (λ x q k. search (rules, tests)) (λ x q k. search (rules, tests)) in
    let f : MatchOption c.find-found.result (c.is_some_and.result ≡ false) (λ e. c.is_some_and.result ≡ nat_eq e.now.position c.args.entry.position) = search rules in
    settled_found c.args.entry.stamp c.args.entry.position es c.find-found.result c.is_some_and.result r f
