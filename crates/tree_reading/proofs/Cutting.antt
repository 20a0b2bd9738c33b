-- A text is split into lines, and a line into tokens, one by one.
use Rattle.std.proofs.Common.{sym, ◌≡◌, ◌<◌, ◌≤◌, ◌+◌, ℕ, true, false, List, [], ◌∷◌, length}
use Rattle.std.proofs.Common.{count_by, take, drop, refl, ap, ◌∙◌, arith}
use Rattle.std.specs.List.{slice_split, position_or_len}
use Rattle.std.proofs.lemmas.Grind.{common_steps}
use Rattle.std.proofs.lemmas.List.Splits.{length-slice_split}
use Rattle.text_lines.proofs.Cited.{split-at, split-none, parts_some}
use Rattle.tree_text_rules.specs.Line.{lines_of, lines_from, is_feed, is_space}

-- a piece after which others follow
pub more_pieces : (piece : List ℕ) (pieces : List (List ℕ)) → 0 < length pieces
    → lines_from (piece ∷ pieces) ≡ record { text = piece; ended = true } ∷ lines_from pieces
more_pieces piece [] some = absurd (omega arith)
more_pieces piece (next ∷ pieces) some = refl

-- a line that is ended by a line feed
pub line_ended : (rest : List ℕ) (at : ℕ) → at ≡ position_or_len is_feed rest → at < length rest
    → lines_of rest ≡ record { text = take at rest; ended = true } ∷ lines_of (drop (at + 1) rest)
line_ended rest at e lt =
    ap lines_from (split-at is_feed rest 0 at e lt)
    ∙ more_pieces (take at rest) (slice_split is_feed (drop (at + 1) rest))
    (parts_some is_feed (drop (at + 1) rest))

last_line : (rest : List ℕ) → 0 < length rest
    → lines_from (rest ∷ []) ≡ record { text = rest; ended = false } ∷ []
last_line [] some = absurd (omega arith)
last_line (c ∷ cs) some = refl

-- the last line, if no line feed ends it
pub line_open : (rest : List ℕ) (at : ℕ) → 0 < length rest → at ≡ position_or_len is_feed rest
    → length rest ≤ at → lines_of rest ≡ record { text = take at rest; ended = false }
    ∷ lines_of (drop at rest)
line_open rest at some e le =
    let all : take at rest ≡ rest = grind (arith, common_steps) in
    let none : drop at rest ≡ [] = grind (arith, common_steps) in
    rw (all, none) (ap lines_from (split-none is_feed rest (omega arith)) ∙ last_line rest some)

-- a token that is ended by a space, and the last one
pub token_ended : (text : List ℕ) (at : ℕ) → at ≡ position_or_len is_space text → at < length text
    → slice_split is_space text ≡ take at text ∷ slice_split is_space (drop (at + 1) text)
token_ended text at e lt = split-at is_space text 0 at e lt

pub token_last : (text : List ℕ) (at : ℕ) → at ≡ position_or_len is_space text → length text ≤ at
    → slice_split is_space text ≡ text ∷ []
token_last text at e le = split-none is_space text (omega arith)

pub token_number : (text : List ℕ) → length (slice_split is_space text) ≡ count_by is_space text + 1
token_number text = length-slice_split is_space text

-- a line has a token or more
pub tokens_some : (text : List ℕ) → 0 < length (slice_split is_space text)
tokens_some text = parts_some is_space text
