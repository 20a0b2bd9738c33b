-- Terms and sides that are read one by one.
use Rattle.std.proofs.Common.{◌≡◌, ◌==◌, nat_lt, ◌<◌, ◌≤◌, ◌+◌, ◌||◌, ◌++◌, ℕ, Bool, true, false}
use Rattle.std.proofs.Common.{not, List, [], ◌∷◌, Option, Some, None, length, map, flat_map}
use Rattle.std.proofs.Common.{option_map, codes, get_or, if◌then◌else◌, refl, ap, sym, ◌∙◌, arith}
use Rattle.std.proofs.Common.{append_assoc, take, drop}
use Rattle.std.specs.Borrow.{Bor}
use Rattle.std.specs.List.{list_any, slice_split, position_or_len}
use Rattle.std.proofs.lemmas.Bool.{ne_eqb, or_right, lt-ltb}
use Rattle.std.proofs.lemmas.List.{length-map}
use Rattle.std.proofs.lemmas.List.Folds.{list_any-append}
use Rattle.std.proofs.lemmas.List.Splits.{length-slice_split}
use Rattle.text_lines.proofs.Cutting.{split-at, split-none}
use Rattle.text_lines.specs.View.{texts}
use Rattle.text_lines.specs.Terms.{begins, terms_read, both_read, only_two, is_plus, is_arrow}
use Rattle.edit_rules.specs.text_rules.Term.{Pair, is_bad_term, pair_of, sides_read}
use Rattle.edit_rules.specs.text_rules.Field.{terms_of}

more_good : (b c : Bool) (pair : Pair) (pairs : List Pair) (t : Pair)
    → (if b then None else Some t) ≡ Some pair
    → (if b || c then None else Some (t ∷ pairs))
    ≡ option_map (λ more. pair ∷ more) (if c then None else Some pairs)
more_good true c pair pairs t e = cc
more_good false true pair pairs t e = refl
more_good false false pair pairs t e = let same : t ≡ pair =
    cc in ap (λ (u : Pair). Some (u ∷ pairs)) same

-- a term that has its form, and one that does not
pub term-good : (term : List (List ℕ)) (terms : List (List (List ℕ))) (pair : Pair)
    → begins term ≡ Some pair → terms_read (term ∷ terms)
    ≡ option_map (λ more. pair ∷ more) (terms_read terms)
term-good term terms pair e =
    more_good (is_bad_term term) (list_any is_bad_term terms) pair (map pair_of terms)
    (pair_of term) e

more_bad : (b c : Bool) (t : Pair) (pairs : List Pair) → (if b then None else Some t) ≡ None
    → (if b || c then None else Some pairs) ≡ None
more_bad true c t pairs e = refl
more_bad false c t pairs e = cc

pub term-bad : (term : List (List ℕ)) (terms : List (List (List ℕ))) → begins term ≡ None
    → terms_read (term ∷ terms) ≡ None
term-bad term terms e =
    more_bad (is_bad_term term) (list_any is_bad_term terms) (pair_of term)
    (map pair_of (term ∷ terms)) e

map_twice : (done more : List Pair) (pair : Pair) (found : Option (List Pair))
    → option_map (λ rest. done ++ rest) (option_map (λ rest. pair ∷ rest) found)
    ≡ option_map (λ rest. (done ++ pair ∷ []) ++ rest) found
map_twice done more pair None = refl
map_twice done more pair (Some rest) = ap Some (sym (append_assoc done (pair ∷ []) rest))

-- one more term after those that are read
pub terms-more : (done : List Pair) (pair : Pair) (term : List (List ℕ))
    (rest all : List (List (List ℕ))) (whole : Option (List Pair)) → begins term ≡ Some pair
    → all ≡ term ∷ rest
    → option_map (λ more. done ++ more) (terms_read all) ≡ whole
    → option_map (λ more. (done ++ pair ∷ []) ++ more) (terms_read rest) ≡ whole
terms-more done pair term rest all whole good cut kept =
    sym (map_twice done [] pair (terms_read rest))
    ∙ ap (option_map (λ more. done ++ more)) (sym (term-good term rest pair good))
    ∙ ap (λ (terms : List (List (List ℕ))). option_map (λ more. done ++ more) (terms_read terms))
    (sym cut)
    ∙ kept

-- one without its form
pub terms-bad : (done : List Pair) (term : List (List ℕ)) (rest all : List (List (List ℕ)))
    (whole : Option (List Pair)) → begins term ≡ None → all ≡ term ∷ rest
    → option_map (λ more. done ++ more) (terms_read all) ≡ whole → None ≡ whole
terms-bad done term rest all whole bad cut kept =
    ap (option_map (λ more. done ++ more)) (sym (term-bad term rest bad))
    ∙ ap (λ (terms : List (List (List ℕ))). option_map (λ more. done ++ more) (terms_read terms))
    (sym cut)
    ∙ kept

both_by : (p q : Bool) (left right : List Pair)
    → (if (not true || (p || (q || false))) then None else Some (left, right))
    ≡ both_read (if p then None else Some left) (if q then None else Some right)
both_by true q left right = refl
both_by false true left right = refl
both_by false false left right = refl

two_sides : (left right : List (List (List ℕ)))
    → sides_read (left ∷ right ∷ []) ≡ both_read (terms_read left) (terms_read right)
two_sides left right =
    ap (λ (b : Bool). if (not true || b) then None else Some
    (map pair_of left, map pair_of right))
    (list_any-append is_bad_term left (right ++ [])
    ∙ ap (λ (b : Bool). list_any is_bad_term left || b) (list_any-append is_bad_term right []))
    ∙ both_by (list_any is_bad_term left) (list_any is_bad_term right) (map pair_of left)
    (map pair_of right)

sides_found : Option (List (List ℕ) × List (List ℕ)) → Option (List Pair × List Pair)
sides_found None = None
sides_found (Some cut) = both_read (terms_read (terms_of cut.0)) (terms_read (terms_of cut.1))

sides_cut : (parts : List (List (List ℕ)))
    → sides_read (map terms_of parts) ≡ sides_found (only_two parts)
unfolding sides_found
sides_cut [] = refl
sides_cut (one ∷ []) = refl
sides_cut (left ∷ right ∷ []) = two_sides (terms_of left) (terms_of right)
sides_cut (left ∷ right ∷ third ∷ parts) =
    three (length parts) parts
    (list_any is_bad_term (flat_map (λ side. side) (map terms_of (left ∷ right ∷ third ∷ parts))))
    _
    (length-map parts terms_of) where
      three : (n : ℕ) (parts : List (List (List ℕ))) (b : Bool) (found : List Pair × List Pair)
          → length (map terms_of parts) ≡ length parts
          → (if
          (not
          (length (terms_of left ∷ terms_of right ∷ terms_of third ∷ map terms_of parts) == 2)
          ||
          b) then None else Some found) ≡ None
      three n parts b found e =
          ap (λ (t : Bool). if (not t || b) then None else Some found)
          (ne_eqb (length (terms_of left ∷ terms_of right ∷ terms_of third ∷ map terms_of parts))
          2
          (λ e. omega (arith, e)))

pub sides-two : (parts : List (List (List ℕ))) (left right : List (List ℕ))
    → Some (left, right) ≡ only_two parts
    → sides_read (map terms_of parts)
    ≡ both_read (terms_read (terms_of left)) (terms_read (terms_of right))
unfolding sides_found
sides-two parts left right e = sides_cut parts ∙ ap sides_found (sym e)

pub sides-none : (parts : List (List (List ℕ))) → None ≡ only_two parts
    → sides_read (map terms_of parts) ≡ None
unfolding sides_found
sides-none parts e = sides_cut parts ∙ ap sides_found (sym e)

-- parts by the places of the marks
pub none_parted : (tokens : List (List ℕ)) → length tokens ≤ position_or_len is_arrow tokens
    → only_two (slice_split is_arrow tokens) ≡ None
none_parted tokens le = ap only_two (split-none is_arrow tokens le)

only_more : (left right : List (List ℕ)) (parts : List (List (List ℕ))) → 0 < length parts
    → only_two (left ∷ right ∷ parts) ≡ None
only_more left right [] lt = absurd (omega arith)
only_more left right (part ∷ parts) lt = refl

pub twice_parted : (tokens : List (List ℕ)) (at : ℕ) → at ≡ position_or_len is_arrow tokens
    → at < length tokens → position_or_len is_arrow (drop (at + 1) tokens)
    < length (drop (at + 1) tokens) → only_two (slice_split is_arrow tokens) ≡ None
twice_parted tokens at e lt more =
    let rest : List (List ℕ) = drop (at + 1) tokens in
    let next : List (List ℕ) = drop (position_or_len is_arrow rest + 1) rest in
    ap only_two (split-at is_arrow tokens [] at e lt
    ∙ ap (λ (parts : List (List (List ℕ))). take at tokens ∷ parts)
    (split-at is_arrow rest [] (position_or_len is_arrow rest) refl more))
    ∙ only_more (take at tokens) (take (position_or_len is_arrow rest) rest)
    (slice_split is_arrow next) (let long = length-slice_split is_arrow next in omega arith)

pub once_parted : (tokens : List (List ℕ)) (at : ℕ) → at ≡ position_or_len is_arrow tokens
    → at < length tokens → length (drop (at + 1) tokens)
    ≤ position_or_len is_arrow (drop (at + 1) tokens)
    → only_two (slice_split is_arrow tokens) ≡ Some (take at tokens, drop (at + 1) tokens)
once_parted tokens at e lt none =
    ap only_two (split-at is_arrow tokens [] at e lt
    ∙ ap (λ (parts : List (List (List ℕ))). take at tokens ∷ parts)
    (split-none is_arrow (drop (at + 1) tokens) none))

pub terms_some : (tokens : List (List ℕ)) → 0 < length tokens
    → slice_split is_plus tokens ≡ terms_of tokens
terms_some [] lt = absurd (omega arith)
terms_some (token ∷ tokens) lt = refl

-- the term of one token, and of two; with fewer or more there is none
pub no_token : (tokens : List (Bor (List ℕ))) → length tokens < 1 → None ≡ begins (texts tokens)
no_token [] lt = refl
no_token (token ∷ tokens) lt = absurd (omega (arith, lt))

pub more_tokens : (tokens : List (Bor (List ℕ))) → 2 < length tokens
    → None ≡ begins (texts tokens)
more_tokens tokens lt =
    let long : 2 < length (texts tokens) =
    omega (arith, lt, length-map tokens (λ (text : Bor (List ℕ)). text.now)) in
    sym (ap (λ (b : Bool). if b then None else Some (pair_of (texts tokens)))
    (or_right (length (texts tokens) == 0) (nat_lt 2 (length (texts tokens)))
    (lt-ltb 2 (length (texts tokens)) long)))

pub one_token : (tokens : List (Bor (List ℕ))) (d : Bor (List ℕ)) (number : List ℕ)
    → length tokens ≡ 1 → number ≡ codes "1"
    → Some (number, (get_or tokens 0 d).now) ≡ begins (texts tokens)
one_token [] d number e is = absurd (omega (arith, e))
one_token (name ∷ []) d number e is = ap (λ (n : List ℕ). Some (n, name.now)) is
one_token (one ∷ name ∷ more) d number e is = absurd (omega (arith, e))

pub two_tokens : (tokens : List (Bor (List ℕ))) (d e : Bor (List ℕ)) → length tokens ≡ 2
    → Some ((get_or tokens 0 d).now, (get_or tokens 1 e).now) ≡ begins (texts tokens)
two_tokens [] d e two = absurd (omega (arith, two))
two_tokens (name ∷ []) d e two = absurd (omega (arith, two))
two_tokens (number ∷ name ∷ []) d e two = refl
two_tokens (number ∷ name ∷ one ∷ more) d e two = absurd (omega (arith, two))
