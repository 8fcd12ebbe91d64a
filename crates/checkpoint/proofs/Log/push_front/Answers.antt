use Rattle.std.proofs.Common.{◌≡◌, ◌+◌, min, length, rules}
use Rattle.checkpoint.proofs.Entries.{fronted, turned}
use Rattle.checkpoint.proofs.Log.push_front.Goals as goal

pub returns : goal.returns
returns c =
    let xs = c.args.self.now.entries in
    let l : length xs ≡ 8 = search rules in
    let n : c.min-self.result ≡ min (c.args.self.now.count + 1) 8 = search rules in
    fronted xs _ c.args.entry c.args.self.now.count _ (turned xs _ c.args.entry l c.rotate_right.ensures.after) n
