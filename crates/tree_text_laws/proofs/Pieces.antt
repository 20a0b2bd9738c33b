-- A text is split at the places at which it was joined, and joined at the places at which it was
-- split.
use Rattle.std.proofs.Common.{◌≡◌, ◌==◌, Bool, true, false, cond, ℕ, List, [], ◌∷◌, ◌++◌, map}
use Rattle.std.proofs.Common.{flat_map, refl, sym, ap, ap₂, ◌∙◌, append_assoc, append-nil, eqb-true}
use Rattle.std.proofs.Common.{if◌then◌else◌}
use Rattle.std.specs.List.{list_any, slice_split, onto_first}
use Rattle.tree_text_rules.specs.problem_rules.Each.{Each}
use Rattle.tree_text_rules.specs.text_rules.Canonical.{joined}
use Rattle.text_laws.proofs.Cited.{split_at}
pub use Rattle.text_laws.proofs.Cuts.{split_joined, joined_none}
use Rattle.tree_text_rules.specs.Line.{Token, Line, is_feed, lines_from, lines_of}
use Rattle.tree_text_rules.specs.Spelling.{line_text, text_of}
use Rattle.tree_text_laws.specs.Codes.{line_of}

-- ---- pieces

joined_onto : {A : Type 0} (mark x : A) (pieces : List (List A))
    → joined mark (onto_first x pieces) ≡ x ∷ joined mark pieces
joined_onto mark x [] = refl
joined_onto mark x (piece ∷ []) = refl
joined_onto mark x (piece ∷ next ∷ pieces) = refl

-- a split gives a piece at least
joined_split_at : {A : Type 0} (p : A → Bool) (mark : A) (xs : List A)
    → joined mark ([] ∷ slice_split p xs) ≡ mark ∷ joined mark (slice_split p xs)
joined_split_at p mark [] = refl
joined_split_at p mark (x ∷ xs) = at (p x) (slice_split p xs) where
  at : (b : Bool) (pieces : List (List _))
      → joined mark ([] ∷ cond b ([] ∷ pieces) (onto_first x pieces)) ≡ mark
      ∷ joined mark (cond b ([] ∷ pieces) (onto_first x pieces))
  at true pieces = refl
  at false [] = refl
  at false (piece ∷ pieces) = refl

-- a text that is split at a byte is joined by it
pub joined_split : (k : ℕ) (bytes : List ℕ) → joined k (slice_split (λ c. c == k) bytes) ≡ bytes
joined_split k [] = refl
joined_split k (c ∷ cs) = at (c == k) refl (joined_split k cs) where
  at : (b : Bool) → (c == k) ≡ b → joined k (slice_split (λ c. c == k) cs) ≡ cs
      → joined k
      (cond b ([] ∷ slice_split (λ c. c == k) cs) (onto_first c (slice_split (λ c. c == k) cs))) ≡ c
      ∷ cs
  at true e rest = joined_split_at (λ c. c == k) k cs
      ∙ ap₂ (λ (x : ℕ) (xs : List ℕ). x ∷ xs) (sym (eqb-true c k e)) rest
  at false e rest = joined_onto k c (slice_split (λ c. c == k) cs)
      ∙ ap (λ (xs : List ℕ). c ∷ xs) rest

-- ---- lines

abbrev feed_of : Bool → List ℕ
feed_of ended = if ended then 10 ∷ [] else []

abbrev line_bytes : Line → List ℕ
line_bytes line = line.text ++ feed_of line.ended

bytes_from : (pieces : List (List ℕ)) → flat_map line_bytes (lines_from pieces) ≡ joined 10 pieces
bytes_from [] = refl
bytes_from ([] ∷ []) = refl
bytes_from ((c ∷ cs) ∷ []) = append-nil (c ∷ cs ++ []) ∙ append-nil (c ∷ cs)
bytes_from (piece ∷ next ∷ pieces) =
    append_assoc piece (10 ∷ []) (flat_map line_bytes (lines_from (next ∷ pieces)))
    ∙ ap (λ (rest : List ℕ). piece ++ 10 ∷ rest) (bytes_from (next ∷ pieces))

bytes_said : (lines : List (List Token)) → flat_map line_bytes (map line_of lines) ≡ text_of lines
bytes_said [] = refl
bytes_said (line ∷ lines) = ap (λ (rest : List ℕ). line_text line ++ rest) (bytes_said lines)

-- a text whose lines are those of tokens is the text of these
pub text_back : (bytes : List ℕ) (lines : List (List Token)) → lines_of bytes ≡ map line_of lines
    → bytes ≡ text_of lines
text_back bytes lines e =
    sym (joined_split 10 bytes) ∙ sym (bytes_from (slice_split is_feed bytes))
    ∙ ap (flat_map line_bytes) e ∙ bytes_said lines

abbrev pub HasNoFeed : List Token → Type 0
HasNoFeed tokens = list_any is_feed (joined 32 tokens) ≡ false

split_text : (lines : List (List Token)) → Each HasNoFeed lines
    → slice_split is_feed (text_of lines) ≡ map (joined 32) lines ++ [] ∷ []
split_text [] each = refl
split_text (line ∷ lines) each =
    ap (slice_split is_feed) (append_assoc (joined 32 line) (10 ∷ []) (text_of lines))
    ∙ split_at is_feed (joined 32 line) 10 (text_of lines) each.0 refl
    ∙ ap (λ (rest : List (List ℕ)). joined 32 line ∷ rest) (split_text lines each.1)

lines_ended : (lines : List (List Token))
    → lines_from (map (joined 32) lines ++ [] ∷ []) ≡ map line_of lines
lines_ended [] = refl
lines_ended (line ∷ []) = refl
lines_ended (line ∷ next ∷ lines) =
    ap (λ (rest : List Line). line_of line ∷ rest) (lines_ended (next ∷ lines))

-- and the text of tokens has their lines
pub text_again : (lines : List (List Token)) → Each HasNoFeed lines
    → lines_of (text_of lines) ≡ map line_of lines
text_again lines each = ap lines_from (split_text lines each) ∙ lines_ended lines
