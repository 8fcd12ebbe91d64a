use Rattle.std.proofs.Common.{◌≡◌, subst}
use Rattle.revision.specs.Values.{RevisionMade}
use Rattle.notation.proofs.Parsing.{parse_no_dash, parse_no_generation, parse_no_tag, parse_no_byte, parse_made, the_byte}
use Rattle.notation.proofs.parse.Goals as goal

pub returns-in_err-dash : goal.returns-in_err-dash
returns-in_err-dash c = rw c.from_residual.ensures (parse_no_dash c.args.text.now c.in_err-dash.ensures.place)

pub returns-in_err-generation : goal.returns-in_err-generation
returns-in_err-generation c = rw c.from_residual-in_err-generation.ensures (parse_no_generation c.args.text.now _ c.in_ok-dash.ensures.place c.in_err-generation.ensures)

pub returns-in_err-tag : goal.returns-in_err-tag
returns-in_err-tag c = rw c.from_residual-in_err-tag.ensures (parse_no_tag c.args.text.now _ c.in_ok-dash.ensures.place c.in_err-tag.ensures)

pub returns-in_err-ok : goal.returns-in_err-ok
returns-in_err-ok c = rw c.from_residual-in_err-ok.ensures
    (parse_no_byte c.args.text.now _ c.in_ok-dash.ensures.place _ _ c.in_ok-generation.ensures c.in_ok-tag.ensures c.try_from.result c.try_from.ensures c.in_err-ok.ensures.value)

pub returns : goal.returns
returns c =
    let e : c.in_ok-ok.field-0 ≡ c.in_ok-generation.generation = the_byte c.try_from.result _ _ c.try_from.ensures c.in_ok-ok.ensures.value in
    rw c.ok-2.ensures.value
    (parse_made c.args.text.now _ c.in_ok-dash.ensures.place _ _ c.in_ok-generation.ensures c.in_ok-tag.ensures c.new.result (subst (λ g. RevisionMade g c.in_ok-tag.tag c.new.result) e c.new.ensures))
