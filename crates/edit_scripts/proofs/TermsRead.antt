-- The sides that are read are those of a script's grammar, which gives the pair of a term from its
-- tokens one by one.
use Rattle.std.proofs.Common.{◌≡◌, ◌==◌, ◌∷◌, [], ℕ, Bool, nat_lt, length, if◌then◌else◌, List}
use Rattle.std.proofs.Common.{Option, Some, None, map, option_map, refl, ap, ◌∙◌, arith}
use Rattle.std.proofs.lemmas.Bool.{or_right, lt-ltb}
use Rattle.text_lines.specs.text_rules.Field.{terms_of}
use Rattle.text_lines.specs.text_rules.Term.{sides_read}
use Rattle.text_lines.specs.text_rules.Term as rates
use Rattle.text_lines.specs.Terms.{begins, terms_read, both_read}
use Rattle.text_lines.proofs.Cited.{term-good, term-bad, sides-two, sides-none}
use Rattle.text_lines.specs.edit_rules.Term.{Pair, pair_of, with_pair, pairs_of, both, both_sides}

begun : (term : List (List ℕ)) → begins term ≡ pair_of term
begun [] = refl
begun (name ∷ []) = refl
begun (number ∷ name ∷ []) = refl
begun (number ∷ name ∷ more ∷ tokens) =
    let term : List (List ℕ) = number ∷ name ∷ more ∷ tokens in
    ap (λ (b : Bool). if b then None else Some (rates.pair_of term))
    (or_right (length term == 0) (nat_lt 2 (length term))
    (lt-ltb 2 (length term) (omega arith)))

in_front : (pair : Pair) (found : Option (List Pair))
    → option_map (λ more. pair ∷ more) found ≡ with_pair (Some pair) found
in_front pair None = refl
in_front pair (Some pairs) = refl

one_more : (term : List (List ℕ)) (terms : List (List (List ℕ))) (found : Option Pair)
    → begins term ≡ found → terms_read terms ≡ pairs_of terms
    → terms_read (term ∷ terms) ≡ with_pair found (pairs_of terms)
one_more term terms None e rest = term-bad term terms e
one_more term terms (Some pair) e rest =
    term-good term terms pair e ∙ ap (option_map (λ more. pair ∷ more)) rest
    ∙ in_front pair (pairs_of terms)

all_read : (terms : List (List (List ℕ))) → terms_read terms ≡ pairs_of terms
all_read [] = refl
all_read (term ∷ terms) = one_more term terms (pair_of term) (begun term) (all_read terms)

same_both : (left right : Option (List Pair)) → both_read left right ≡ both left right
same_both None right = refl
same_both (Some left) None = refl
same_both (Some left) (Some right) = refl

pub sides_same : (parts : List (List (List ℕ))) → sides_read (map terms_of parts) ≡ both_sides parts
sides_same [] = sides-none [] refl
sides_same (one ∷ []) = sides-none (one ∷ []) refl
sides_same (left ∷ right ∷ []) =
    sides-two (left ∷ right ∷ []) left right refl
    ∙ ap (λ (found : Option (List Pair)). both_read found (terms_read (terms_of right)))
    (all_read (terms_of left))
    ∙ ap (both_read (pairs_of (terms_of left))) (all_read (terms_of right))
    ∙ same_both (pairs_of (terms_of left)) (pairs_of (terms_of right))
sides_same (left ∷ right ∷ third ∷ parts) = sides-none (left ∷ right ∷ third ∷ parts) refl
