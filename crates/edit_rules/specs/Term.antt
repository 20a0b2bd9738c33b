-- The terms on both sides of a new unit, as pairs of a rate and a material, each a token. They have
-- their form if exactly one `=>` separates the sides, `+` separates the terms, and each term is a
-- material, or a rate and a material.
use Rattle.std.specs.Prelude.{◌==◌, ◌||◌, ℕ, Bool, not, List, [], ◌∷◌, length, map, codes, Option}
use Rattle.std.specs.Prelude.{Some, None}
use Rattle.std.specs.List.{list_any, slice_split}
use Rattle.std.specs.Str.{bytes_eq}
use Rattle.text_rules.specs.problem_rules.Names.{is_among, has_double}
use Rattle.edit_rules.specs.Edit.{NamedTerm}
use Rattle.text_rules.specs.Fault.{millionths}
use Rattle.text_rules.specs.Field.{terms_of}
use Rattle.edit_rules.specs.declared.EditKind.{EditKind}
use Rattle.edit_rules.specs.declared.EditKind.TheVariants.{BadTerms}
use Rattle.edit_rules.specs.ScriptFault.{lesser, least, unless, name_fault, rate_fault}

abbrev pub Pair : Type 0
Pair = List ℕ × List ℕ

-- a rate that is left out is 1
abbrev pub pair_of : List (List ℕ) → Option Pair
pair_of [] = None
pair_of (material ∷ []) = Some (codes "1", material)
pair_of (rate ∷ material ∷ []) = Some (rate, material)
pair_of (rate ∷ material ∷ more ∷ tokens) = None

abbrev pub with_pair : Option Pair → Option (List Pair) → Option (List Pair)
with_pair None pairs = None
with_pair (Some pair) None = None
with_pair (Some pair) (Some pairs) = Some (pair ∷ pairs)

abbrev pub pairs_of : List (List (List ℕ)) → Option (List Pair)
pairs_of [] = Some []
pairs_of (term ∷ terms) = with_pair (pair_of term) (pairs_of terms)

abbrev pub both : Option (List Pair) → Option (List Pair) → Option (List Pair × List Pair)
both None right = None
both (Some left) None = None
both (Some left) (Some right) = Some (left, right)

-- two sides, and no more
abbrev pub both_sides : List (List (List ℕ)) → Option (List Pair × List Pair)
both_sides (left ∷ right ∷ []) = both (pairs_of (terms_of left)) (pairs_of (terms_of right))
both_sides sides = None

abbrev pub is_arrow : List ℕ → Bool
is_arrow token = bytes_eq token (codes "=>")

abbrev pub sides_of : List (List ℕ) → Option (List Pair × List Pair)
sides_of tokens = both_sides (slice_split is_arrow tokens)

abbrev pub term_fault : Pair → Option EditKind
term_fault pair = lesser (rate_fault pair.0) (name_fault pair.1)

abbrev pub terms_fault : List Pair → Option EditKind
terms_fault pairs = least (map term_fault pairs)

abbrev pub materials_of : List Pair → List (List ℕ)
materials_of pairs = map (λ pair. pair.1) pairs

-- a side without terms, a material twice on one side or on both sides
abbrev pub are_bad_sides : List Pair → List Pair → Bool
are_bad_sides inputs outputs =
    length inputs == 0 || length outputs == 0 || has_double (materials_of inputs) || has_double
    (materials_of outputs)
    || list_any (is_among (materials_of outputs)) (materials_of inputs)

abbrev pub sides_fault : List Pair → List Pair → Option EditKind
sides_fault inputs outputs = unless (not (are_bad_sides inputs outputs)) BadTerms

abbrev pub term_read : Pair → NamedTerm
term_read pair = record { name = pair.1; rate = millionths pair.0 }
