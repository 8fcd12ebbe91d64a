use Rattle.std.proofs.Common.{ℕ, ◌+◌, ◌-◌, ◌++◌, length, drop, set, ◌∙◌, arith}
use borrow.Rule.Slice.PartMut.{put_mid}
use Rattle.notation.proofs.Writing.{parts_laid}
use Rattle.notation.proofs.lay_parts.Goals as goal

pub returns-clause-laid : goal.returns-clause-laid
returns-clause-laid c =
    let x = c.args.before.now in
    let y = c.args.behind.now in
    let n : ℕ = length x + 1 in
    (λ i. put_mid n (n + length y - n) (set (c.copy_from_slice.ensures.after i ++ drop (length x) c.args.out.now) (length x) 45) (c.copy_from_slice-2.ensures.after i))
    ∙ parts_laid x y c.args.out.now 45 (omega arith)
