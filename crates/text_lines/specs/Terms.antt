-- Terms and sides as they are read one by one, and terms of the code as pairs of a number and a
-- name.
use Rattle.std.specs.Prelude.{ℕ, Bool, List, [], ◌∷◌, Option, Some, None, map, codes, if◌then◌else◌}
use Rattle.std.specs.List.{list_any}
use Rattle.std.specs.Str.{bytes_eq}
use Rattle.edit_rules.specs.text_rules.Term.{is_bad_term, Pair, pair_of}
use Rattle.text_lines.specs.declared.term.Term.{Term}
use Rattle.text_lines.specs.declared.term.Sides.{Sides}

abbrev pub is_plus : List ℕ → Bool
is_plus token = bytes_eq token (codes "+")

abbrev pub is_arrow : List ℕ → Bool
is_arrow token = bytes_eq token (codes "=>")

abbrev pub begins : List (List ℕ) → Option Pair
begins term = if is_bad_term term then None else Some (pair_of term)

abbrev pub terms_read : List (List (List ℕ)) → Option (List Pair)
terms_read terms = if list_any is_bad_term terms then None else Some (map pair_of terms)

-- two parts, if there are exactly two
abbrev pub only_two : {A : Type 0} → List A → Option (A × A)
only_two (left ∷ right ∷ []) = Some (left, right)
only_two parts = None

-- the terms of both sides
abbrev pub both_read : Option (List Pair) → Option (List Pair) → Option (List Pair × List Pair)
both_read None right = None
both_read (Some left) None = None
both_read (Some left) (Some right) = Some (left, right)

abbrev pub term_view : Term → Pair
term_view term = (term.number.now, term.name.now)

abbrev pub terms_view : List Term → List Pair
terms_view = map term_view

abbrev pub sides_view : Sides → List Pair × List Pair
sides_view sides = (terms_view sides.inputs.items, terms_view sides.outputs.items)
