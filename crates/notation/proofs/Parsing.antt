-- How a text parses, by what stands on each side of its first dash.
use Rattle.std.proofs.Common.{◌≡◌, ℕ, ◌+◌, ◌-◌, ◌<◌, false, leb, List, length, take, drop, Some, None, Option, Ok, Err, Result, MatchOption, sym, refl, ap, ◌∙◌, arith}
use Rattle.std.specs.Result.{OkIff, result_ok}
use Rattle.std.proofs.lemmas.List.{take_rest}
use Rattle.std.proofs.lemmas.Bool.{cond-true, cond-false, and_right, lt-leb}
use Rattle.decline.specs.declared.Fault.{Fault}
use Rattle.revision.specs.declared.Revision.{Revision}
use Rattle.revision.specs.Ids.{good_generation}
use Rattle.revision.specs.Values.{RevisionMade}
use Rattle.octets.specs.Places.{place_of}
use Rattle.notation.specs.Text.{numeral, dash, revision, parted, parse}

-- without a tag there is no revision
revision_no_tag : (g : Option ℕ) → revision g None ≡ None
revision_no_tag None = refl
revision_no_tag (Some g) = refl

-- a number above a byte's is no generation
no_byte : {E : Type 0} (r : Result ℕ E) (g : ℕ) → OkIff r (g < 256) g → None ≡ result_ok r → good_generation g ≡ false
no_byte (Ok k) g h e = cc
no_byte (Err f) g h e = and_right (leb 1 g) _ (lt-leb g 200 (omega (arith, h)))

-- any other is the byte
pub the_byte : {E : Type 0} (r : Result ℕ E) (g k : ℕ) → OkIff r (g < 256) g → Some k ≡ result_ok r → k ≡ g
the_byte (Ok j) g k h e = cc
the_byte (Err f) g k h e = cc

module _ (cs : List ℕ) where
  pub parse_no_dash : None ≡ place_of dash cs → parse cs ≡ None
  unfolding parse
  parse_no_dash e = ap (λ (o : Option ℕ). parted o cs) (sym e)

  -- i is the place of the first dash
  module _ (i : ℕ) (e : Some i ≡ place_of dash cs) where
    -- the parts decide
    pub parse_parts : (g t : Option ℕ) → g ≡ numeral 10 3 (take i cs) → t ≡ numeral 16 16 (take (length cs - (i + 1)) (drop (i + 1) cs)) → parse cs ≡ revision g t
    unfolding parse
    parse_parts g t p q =
        ap (λ (o : Option ℕ). parted o cs) (sym e)
        ∙ (ap (λ (o : Option ℕ). revision o (numeral 16 16 (drop (i + 1) cs))) (sym p) ∙ ap (revision g) (ap (numeral 16 16) (sym (take_rest cs (i + 1))) ∙ sym q))

    pub parse_no_generation : None ≡ numeral 10 3 (take i cs) → parse cs ≡ None
    parse_no_generation p = parse_parts None _ p refl

    pub parse_no_tag : None ≡ numeral 16 16 (take (length cs - (i + 1)) (drop (i + 1) cs)) → parse cs ≡ None
    parse_no_tag q = parse_parts _ None refl q ∙ revision_no_tag _

    -- both are numerals
    module _ (g x : ℕ) (p : Some g ≡ numeral 10 3 (take i cs)) (q : Some x ≡ numeral 16 16 (take (length cs - (i + 1)) (drop (i + 1) cs))) where
      pub parse_no_byte : {E : Type 0} (r : Result ℕ E) → OkIff r (g < 256) g → None ≡ result_ok r → parse cs ≡ None
      parse_no_byte r h n = parse_parts _ _ p q ∙ cond-false _ _ _ (no_byte r g h n)

      -- the revision is made, or the generation is none
      pub parse_made : (r : Result Revision Fault) → RevisionMade g x r → MatchOption (result_ok r) (parse cs ≡ None) (λ v. parse cs ≡ Some (v.generation, v.tag))
      parse_made (Ok v) m = parse_parts _ _ p q ∙ (cond-true _ _ _ m.0 ∙ ap (λ (w : Revision). Some (w.generation, w.tag)) (sym m.1))
      parse_made (Err f) m = parse_parts _ _ p q ∙ cond-false _ _ _ m.0
