use Rattle.std.proofs.Common.{◌≡◌, ℕ, length, take, ap, ◌∙◌, rules}
use Rattle.std.proofs.lemmas.List.{take_min, take_at}
use Rattle.entries.specs.Entries.{content}
use Rattle.revision.specs.Values.{mark_number}
use Rattle.entries.proofs.Content.new.Goals as goal

pub returns-clause-is : goal.returns-clause-is
returns-clause-is c =
    let n = c.min-length.result in
    let l : length c.copy_from_slice.new.self ≡ n = search rules in
    ap (content (mark_number c.args.mark)) (take_at c.copy_from_slice.new.self _ n l ∙ (c.copy_from_slice.ensures.after ∙ (ap (λ (k : ℕ). take k c.args.body.now) c.min-length.ensures ∙ take_min 96 c.args.body.now)))
