use Rattle.std.proofs.Common.{◌≡◌, length, sym, ap, ◌∙◌, arith}
use Rattle.keys.specs.Keys.{key_in, key_bytes}
use Rattle.keys.specs.Values.{key_of}
use Rattle.keys.proofs.KeyBytes.{rule_part, form_bad, unequal, key_bytes_long}
use Rattle.keys.proofs.Key.with_rule.Goals as goal

pub returns-then-ne : goal.returns-then-ne
returns-then-ne c =
    let bs = c.args.bytes.now in
    let l : length bs ≡ 25 = omega arith in
    let p = c.in_ok-rule.ensures.2 ∙ (c.part.ensures ∙ rule_part bs l) in
    let k : key_of (record { source = c.args.source; target = c.args.target; rule = c.in_ok-rule.rule }) ≡ key_in bs = λ i. record { source = c.requires.0 i; target = c.requires.1 i; rule = p i } in
    let u = unequal bs _ _ c.ne.ensures in
    (form_bad bs (λ q. u.0 c.if-ne.true (q ∙ sym (key_bytes_long _ _ c.bytes-back.ensures ∙ ap key_bytes k))), c.from-then-ne.ensures)
