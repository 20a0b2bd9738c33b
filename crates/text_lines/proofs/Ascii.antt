-- Names are ASCII.
use Rattle.std.proofs.Common.{◌≡◌, ◌<◌, ◌&&◌, zero, suc, length, nat_le, slice_index, arith, ℕ}
use Rattle.std.proofs.Common.{true, List, [], ◌∷◌}
use Rattle.std.specs.Str.{IsUtf8, IsAscii}
use Rattle.std.specs.List.{list_all}
use Rattle.std.proofs.lemmas.Bool.{and_parts}
use Rattle.std.proofs.lemmas.Bool.Decides.{nat_tests}
use Rattle.std.proofs.lemmas.Str.{IsUtf8-from_ascii}
use Rattle.edit_rules.specs.problem_rules.Names.{is_name, begins_name, continues_name}

low : (c : ℕ) → continues_name c ≡ true → c < 128
low c h = grind (arith, nat_tests)

all_low : (text : List ℕ) → list_all continues_name text ≡ true → IsAscii text
all_low [] h i = omega arith
all_low (c ∷ cs) h zero = low c (and_parts (continues_name c) (list_all continues_name cs) h).0
all_low (c ∷ cs) h (suc i) =
    all_low cs (and_parts (continues_name c) (list_all continues_name cs) h).1 i

-- a name is ASCII
pub name_utf8 : (text : List ℕ) → is_name text ≡ true → IsUtf8 text
name_utf8 text h =
    let front =
    nat_le 1 (length text) && nat_le (length text) 64 && begins_name (slice_index text 0) in
    IsUtf8-from_ascii text (all_low text (and_parts front (list_all continues_name text) h).1)
