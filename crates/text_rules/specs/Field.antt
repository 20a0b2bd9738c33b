-- The fields of a line: its items with keys and values, and its sides with terms. A line is split
-- in the same way in each section, and the section says which parts of it count.
use Rattle.std.specs.Prelude.{◌==◌, ◌||◌, ℕ, Bool, List, [], ◌∷◌, ◌++◌, length, map, filter, codes}
use Rattle.std.specs.Prelude.{not, if◌then◌else◌}
use Rattle.std.specs.List.{list_any, before_first, after_first, slice_split}
use Rattle.std.specs.Str.{bytes_eq, byte}
use Rattle.problem_rules.specs.Names.{is_among}
use Rattle.text_rules.specs.Blanks.{is_blank, trim}
use Rattle.text_rules.specs.Line.{is_colon, tail_of}

-- the first `=` of an item separates its key from its value; blanks around it are dropped
abbrev pub is_equals : ℕ → Bool
is_equals c = c == byte "="

abbrev pub has_key : List ℕ → Bool
has_key item = list_any is_equals item

abbrev pub key_of : List ℕ → List ℕ
key_of item = trim (before_first is_equals item)

abbrev pub value_of : List ℕ → List ℕ
value_of item = trim (after_first is_equals item)

-- the texts between the commas after the first colon, without blanks; there is no item if there is
-- no colon
abbrev pub items_of : List ℕ → List (List ℕ)
items_of text =
    if list_any is_colon text then map trim (slice_split (λ c. c == byte ",") (tail_of text))
    else []

-- the texts between the blanks: in rates nothing else separates tokens, so `A+B` is one and `1e+5`
-- is one
abbrev pub tokens_of : List ℕ → List (List ℕ)
tokens_of text = filter (λ token. not (length token == 0)) (slice_split is_blank text)

-- The terms of a side, each a list of tokens, separated by `+` if it is a whole token. A side
-- without tokens has no terms; a side `+` has two terms without tokens.
abbrev pub terms_of : List (List ℕ) → List (List (List ℕ))
terms_of [] = []
terms_of (token ∷ tokens) = slice_split (λ t. bytes_eq t (codes "+")) (token ∷ tokens)

-- the sides after the first colon, separated by `=>` if it is a whole token; a further colon is a
-- byte of a token
abbrev pub sides_of : List ℕ → List (List (List (List ℕ)))
sides_of text =
    map terms_of (slice_split (λ token. bytes_eq token (codes "=>")) (tokens_of (tail_of text)))

-- The last token of a term is its material, and the first of two is its rate; a rate that is left
-- out is 1. So a single token is a name, whatever it is.
abbrev pub material_of : List (List ℕ) → List ℕ
material_of [] = []
material_of (token ∷ []) = token
material_of (token ∷ next ∷ tokens) = material_of (next ∷ tokens)

abbrev pub rate_of : List (List ℕ) → List ℕ
rate_of (token ∷ next ∷ tokens) = token
rate_of tokens = codes "1"

-- the words and keys of the sections
abbrev pub kind_words : List (List ℕ)
kind_words = codes "raw_material" ∷ codes "intermediate" ∷ codes "product" ∷ []

abbrev pub material_keys : List (List ℕ)
material_keys = codes "price" ∷ codes "flow_rate_lower_bound" ∷ codes "flow_rate_upper_bound" ∷ []

abbrev pub unit_keys : List (List ℕ)
unit_keys = codes "capacity_lower_bound" ∷ codes "capacity_upper_bound" ∷ codes "fix_cost"
    ∷ codes "proportional_cost"
    ∷ codes "investment_fix_cost" ∷ codes "investment_proportional_cost" ∷ []

-- the key of a default begins with the sort of item that it is for
abbrev pub for_material : List ℕ → List ℕ
for_material key = codes "material_" ++ key

abbrev pub for_unit : List ℕ → List ℕ
for_unit key = codes "operating_unit_" ++ key

abbrev pub material_type : List ℕ
material_type = codes "material_type"

abbrev pub payout_period : List ℕ
payout_period = codes "payout_period"

abbrev pub default_keys : List (List ℕ)
default_keys = material_type ∷ payout_period ∷ map for_material material_keys
    ++ map for_unit unit_keys

-- an item's key and value; a kind word has the key of the default that it stands for, so two kind
-- words are a doubled key
abbrev pub keyed : List ℕ → List ℕ × List ℕ
keyed item =
    if is_among kind_words item then (material_type, item) else (key_of item, value_of item)

-- an item with a key or a kind word
abbrev pub is_keyed : List ℕ → Bool
is_keyed item = has_key item || is_among kind_words item
