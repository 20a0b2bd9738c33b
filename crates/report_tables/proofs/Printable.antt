-- What is printable is ASCII.
use Rattle.std.proofs.Common.{◌≡◌, ◌<◌, ◌&&◌, zero, suc, length, nat_le, arith, ℕ, true, List, []}
use Rattle.std.proofs.Common.{◌∷◌}
use Rattle.std.specs.Str.{IsUtf8, IsAscii}
use Rattle.std.specs.List.{list_all}
use Rattle.std.proofs.lemmas.Bool.{and_parts}
use Rattle.std.proofs.lemmas.Bool.Decides.{nat_tests}
use Rattle.std.proofs.lemmas.Str.{IsUtf8-from_ascii}
use Rattle.report_amounts.specs.report_rules.Measures.{is_printable, is_measure}

low : (c : ℕ) → is_printable c ≡ true → c < 128
low c h = grind (arith, nat_tests)

all_low : (value : List ℕ) → list_all is_printable value ≡ true → IsAscii value
all_low [] h i = omega arith
all_low (c ∷ cs) h zero = low c (and_parts (is_printable c) (list_all is_printable cs) h).0
all_low (c ∷ cs) h (suc i) =
    all_low cs (and_parts (is_printable c) (list_all is_printable cs) h).1 i

pub measure_utf8 : (value : List ℕ) → is_measure value ≡ true → IsUtf8 value
measure_utf8 value h =
    let front = nat_le 1 (length value) && nat_le (length value) 32 in
    IsUtf8-from_ascii value (all_low value (and_parts front (list_all is_printable value) h).1)
