-- Terms of a line of rates as pairs of a rate and a material, if each has one token or two.
use Rattle.std.specs.Prelude.{◌==◌, ◌||◌, ℕ, Bool, List, [], Option, Some, None, length, map}
use Rattle.std.specs.Prelude.{flat_map, not, nat_lt, slice_index_or, if◌then◌else◌}
use Rattle.std.specs.List.{list_any}
use Rattle.text_rules.specs.Field.{sides_of, material_of, rate_of}

-- a term of no token or of more than two
abbrev pub is_bad_term : List (List ℕ) → Bool
is_bad_term term = length term == 0 || nat_lt 2 (length term)

-- a number and a name
abbrev pub Pair : Type 0
Pair = List ℕ × List ℕ

abbrev pub pair_of : List (List ℕ) → Pair
pair_of term = (rate_of term, material_of term)

abbrev pub has_bad_sides : List (List (List (List ℕ))) → Bool
has_bad_sides sides =
    not (length sides == 2) || list_any is_bad_term (flat_map (λ side. side) sides)

-- the terms of both sides, if there are two sides and each term is good
abbrev pub sides_read : List (List (List (List ℕ))) → Option (List Pair × List Pair)
sides_read sides =
    if has_bad_sides sides then None else Some
    (map pair_of (slice_index_or sides 0 []), map pair_of (slice_index_or sides 1 []))

-- the terms on both sides of a line of rates
abbrev pub pairs_at : List ℕ → List Pair × List Pair
pairs_at text = (
  map pair_of (slice_index_or (sides_of text) 0 []),
  map pair_of (slice_index_or (sides_of text) 1 []),
)
