-- Fields that are appended one after another make a line.
use Rattle.std.proofs.Common.{◌≡◌, ◌<◌, ◌+◌, ℕ, List, [], ◌∷◌, ◌++◌, length, drop, get_or, refl, ap}
use Rattle.std.proofs.Common.{◌∙◌, append_assoc}
use Rattle.std.proofs.lemmas.List.{drop_more}
use Rattle.tree_text_rules.specs.problem_rules.Problem.{Problem}
use Rattle.tree_text_rules.specs.text_rules.Canonical.{joined}
use Rattle.tree_text.specs.Printing.{appended}
use Rattle.tree_text.specs.Fields.{field_tokens, tokens_of}
use Rattle.tree_text.specs.declared.line.Field.{Field}

-- after a word, joined by spaces
pub line_appended : (word : List ℕ) (fields : List (List ℕ))
    → appended word fields ≡ joined 32 (word ∷ fields)
line_appended word [] = refl
line_appended word (field ∷ fields) = line_appended (word ++ 32 ∷ field) fields
    ∙ one_less word field fields
  where
    one_less : (word field : List ℕ) (fields : List (List ℕ))
        → joined 32 ((word ++ 32 ∷ field) ∷ fields) ≡ joined 32 (word ∷ field ∷ fields)
    one_less word field [] = refl
    one_less word field (next ∷ fields) =
        append_assoc word (32 ∷ field) (32 ∷ joined 32 (next ∷ fields))

-- a line that was begun and has its fields
pub line_made : (line begun word : List ℕ) (fields : List (List ℕ)) → line ≡ appended begun fields
    → begun ≡ word → line ≡ joined 32 (word ∷ fields)
line_made line begun word fields e f =
    e ∙ ap (λ (t : List ℕ). appended t fields) f ∙ line_appended word fields

appended-append : (text : List ℕ) (xs ys : List (List ℕ))
    → appended text (xs ++ ys) ≡ appended (appended text xs) ys
appended-append text [] ys = refl
appended-append text (x ∷ xs) ys = appended-append (text ++ 32 ∷ x) xs ys

-- a field of a list, and then the others
pub field_ahead : (p : Problem) (text : List ℕ) (fields : List Field) (i : ℕ) (field : Field)
    → i < length fields
    → appended text (tokens_of p (drop i fields))
    ≡ appended (appended text (field_tokens p (get_or fields i field)))
    (tokens_of p (drop (i + 1) fields))
field_ahead p text fields i field lt =
    ap (λ (rest : List Field). appended text (tokens_of p rest)) (drop_more fields i field lt)
    ∙ first_of (get_or fields i field) (drop (i + 1) fields)
  where
    first_of : (first : Field) (rest : List Field)
        → appended text (tokens_of p (first ∷ rest))
        ≡ appended (appended text (field_tokens p first)) (tokens_of p rest)
    first_of first [] = refl
    first_of first (next ∷ rest) =
        appended-append text (field_tokens p first) (tokens_of p (next ∷ rest))
