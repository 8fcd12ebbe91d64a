-- The text of some revisions, and how some texts parse.
use Rattle.std.proofs.Common.{◌≡◌, Some, None, codes, refl}
use Rattle.notation.specs.Text.{numeral, parse, written}

writes_two_digits : written 2 0xc3 ≡ codes "2-c3"
unfolding written
writes_two_digits = refl

writes_leading_zero : written 3 1 ≡ codes "3-01"
unfolding written
writes_leading_zero = refl

writes_zero : written 100 0 ≡ codes "100-00"
unfolding written
writes_zero = refl

writes_three_digits : written 20 0x1c3 ≡ codes "20-1c3"
unfolding written
writes_three_digits = refl

writes_longest : written 200 0xffffffffffffffff ≡ codes "200-ffffffffffffffff"
unfolding written
writes_longest = refl

reads_leading_zeros : parse (codes "002-00c3") ≡ Some (2, 0xc3)
unfolding parse numeral
reads_leading_zeros = refl

reads_either_case : parse (codes "1-aF") ≡ Some (1, 0xaf)
unfolding parse numeral
reads_either_case = refl

reads_no_generation_zero : parse (codes "0-c3") ≡ None
unfolding parse numeral
reads_no_generation_zero = refl

reads_no_generation_above : parse (codes "201-c3") ≡ None
unfolding parse numeral
reads_no_generation_above = refl

reads_no_fourth_digit : parse (codes "0001-c3") ≡ None
unfolding parse numeral
reads_no_fourth_digit = refl

reads_no_hexadecimal_generation : parse (codes "a-c3") ≡ None
unfolding parse numeral
reads_no_hexadecimal_generation = refl

reads_no_empty_tag : parse (codes "1-") ≡ None
unfolding parse numeral
reads_no_empty_tag = refl

reads_no_seventeenth_digit : parse (codes "1-00000000000000001") ≡ None
unfolding parse numeral
reads_no_seventeenth_digit = refl

reads_no_second_dash : parse (codes "1--1") ≡ None
unfolding parse numeral
reads_no_second_dash = refl

reads_no_other_byte : parse (codes "1-g1") ≡ None
unfolding parse numeral
reads_no_other_byte = refl
