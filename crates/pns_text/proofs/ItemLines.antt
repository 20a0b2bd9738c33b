-- Items that are split off one after the other, and each at its first equals sign.
use Rattle.std.proofs.Common.{◌≡◌, ◌<◌, ◌≤◌, ◌+◌, ◌||◌, Bool, true, false, cond, not, ℕ, suc, List}
use Rattle.std.proofs.Common.{[], ◌∷◌, length, refl, arith, ◌==◌, ◌++◌, map, take, drop, sym, ap}
use Rattle.std.proofs.Common.{◌∙◌, append_assoc}
use Rattle.std.specs.List.{list_any, position_or_len, slice_split}
use Rattle.std.specs.Str.{byte}
use Rattle.text_lines.specs.text_rules.Blanks.{trim}
use Rattle.text_lines.proofs.Cited.{split-at, split-first, behind-none}

one_more : (b : Bool) (n m : ℕ) (rest : Bool) → cond (not b) (1 + n) 0 < suc m
    → (n < m → rest ≡ true) → (b || rest) ≡ true
one_more true n m rest lt more = refl
one_more false n m rest lt more = more (omega (arith, lt))

pub has_place : {X : Type 0} (p : X → Bool) (xs : List X) → position_or_len p xs < length xs
    → list_any p xs ≡ true
has_place p [] lt = absurd (omega (arith, lt))
has_place p (x ∷ xs) lt =
    one_more (p x) (position_or_len p xs) (length xs) (list_any p xs) lt (has_place p xs)

none_more : (b : Bool) (n m : ℕ) (rest : Bool) → suc m ≤ cond (not b) (1 + n) 0
    → (m ≤ n → rest ≡ false) → (b || rest) ≡ false
none_more true n m rest le more = absurd (omega (arith, le))
none_more false n m rest le more = more (omega (arith, le))

pub no_place : {X : Type 0} (p : X → Bool) (xs : List X) → length xs ≤ position_or_len p xs
    → list_any p xs ≡ false
no_place p [] le = refl
no_place p (x ∷ xs) le =
    none_more (p x) (position_or_len p xs) (length xs) (list_any p xs) le (no_place p xs)

abbrev pub items_in : List ℕ → List (List ℕ)
items_in rest = map trim (slice_split (λ c. c == byte ",") rest)

-- after an item that ends at a comma
pub items_more : (items more all : List (List ℕ)) (rest behind : List ℕ) (at : ℕ)
    → at ≡ position_or_len (λ c. c == byte ",") rest → at < length rest
    → more ≡ items ++ trim (take at rest) ∷ [] → behind ≡ drop (at + 1) rest
    → items ++ items_in rest ≡ all → more ++ items_in behind ≡ all
items_more items more all rest behind at e lt pushed cut kept =
    (λ i. pushed i ++ items_in (cut i))
    ∙ append_assoc items (trim (take at rest) ∷ []) (items_in (drop (at + 1) rest))
    ∙ ap (λ (parts : List (List ℕ)). items ++ map trim parts)
    (sym (split-at (λ (c : ℕ). c == byte ",") rest 0 at e lt))
    ∙ kept

-- after the last item
pub items_last : (items all : List (List ℕ)) (rest : List ℕ) (at : ℕ)
    → at ≡ position_or_len (λ c. c == byte ",") rest → length rest ≤ at
    → items ++ items_in rest ≡ all → items ++ trim (take at rest) ∷ [] ≡ all
items_last items all rest at e le kept =
    ap (λ (parts : List (List ℕ)). items ++ map trim (take at rest ∷ parts))
    (sym (behind-none (λ (c : ℕ). c == byte ",") rest at le))
    ∙ ap (λ (parts : List (List ℕ)). items ++ map trim parts)
    (sym (split-first (λ (c : ℕ). c == byte ",") rest 0 at e))
    ∙ kept
