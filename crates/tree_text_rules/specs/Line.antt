-- The lines of a tree's text and their tokens. Only a line feed ends a line. What follows the last
-- line feed, if it is not empty, is a line that has not ended. One space separates two tokens. So a
-- space at an end of a line or next to another space makes a token without bytes, which no line
-- has.
use Rattle.std.specs.Prelude.{◌==◌, ◌&&◌, ℕ, Bool, true, false, not, List, [], ◌∷◌, length, codes}
use Rattle.std.specs.Prelude.{Option, Some, None, if◌then◌else◌}
use Rattle.std.specs.List.{list_all, slice_split}
use Rattle.std.specs.Str.{bytes_eq}
use Rattle.tree_text_rules.specs.declared.Word.{Word}
use Rattle.tree_text_rules.specs.declared.Word.TheVariants.{Network, Sizes, Cost, Infeasible}
use Rattle.tree_text_rules.specs.declared.Word.TheVariants.{Unknown, Node, Raw, Rival, Starve}
use Rattle.tree_text_rules.specs.declared.Word.TheVariants.{Loose, Sole, Dead, Clash, Refuted}
use Rattle.tree_text_rules.specs.declared.Word.TheVariants.{Bound, Charge, SomeOf, With, Branch}
use Rattle.tree_text_rules.specs.declared.Word.TheVariants.{Either, Open, Cap, Out, Trim, Use}
use Rattle.tree_text_rules.specs.declared.Word.TheVariants.{Spent, Past, Nonbasic, Place, End}

abbrev pub Token : Type 0
Token = List ℕ

pub record Line : Type 0 where
  pub text : List ℕ
  pub ended : Bool

abbrev pub is_feed : ℕ → Bool
is_feed c = c == 10

-- what follows the last line feed
abbrev pub last_line : List ℕ → List Line
last_line [] = []
last_line (c ∷ cs) = record { text = c ∷ cs; ended = false } ∷ []

abbrev pub lines_from : List (List ℕ) → List Line
lines_from [] = []
lines_from (piece ∷ []) = last_line piece
lines_from (piece ∷ next ∷ pieces) =
    record { text = piece; ended = true } ∷ lines_from (next ∷ pieces)

abbrev pub lines_of : List ℕ → List Line
lines_of bytes = lines_from (slice_split is_feed bytes)

abbrev pub is_space : ℕ → Bool
is_space c = c == 32

abbrev pub tokens_of : Line → List Token
tokens_of line = slice_split is_space line.text

abbrev pub has_bytes : Token → Bool
has_bytes token = not (length token == 0)

-- the line has ended, and all its tokens have bytes
abbrev pub is_formed : Line → Bool
is_formed line = line.ended && list_all has_bytes (tokens_of line)

-- ---- first words

-- the whole first line of a text
abbrev pub file_type : List ℕ
file_type = codes "file_type=PNS_tree_v1"

abbrev pub word_text : Word → Token
word_text Network = codes "network"
word_text Sizes = codes "sizes"
word_text Cost = codes "cost"
word_text Infeasible = codes "infeasible"
word_text Unknown = codes "unknown"
word_text Node = codes "node"
word_text Raw = codes "raw"
word_text Rival = codes "rival"
word_text Starve = codes "starve"
word_text Loose = codes "loose"
word_text Sole = codes "sole"
word_text Dead = codes "dead"
word_text Clash = codes "clash"
word_text Refuted = codes "refuted"
word_text Bound = codes "bound"
word_text Charge = codes "charge"
word_text SomeOf = codes "some"
word_text With = codes "with"
word_text Branch = codes "branch"
word_text Either = codes "either"
word_text Open = codes "open"
word_text Cap = codes "cap"
word_text Out = codes "out"
word_text Trim = codes "trim"
word_text Use = codes "use"
word_text Spent = codes "spent"
word_text Past = codes "past"
word_text Nonbasic = codes "nonbasic"
word_text Place = codes "place"
word_text End = codes "end"

-- the first word of a tail that a token is
abbrev pub tail_word_named : Token → Option Word
tail_word_named token =
    if bytes_eq token (word_text Spent) then Some Spent
    else if bytes_eq token (word_text Past) then Some Past
    else if bytes_eq token (word_text Nonbasic) then Some Nonbasic
    else if bytes_eq token (word_text Place) then Some Place
    else if bytes_eq token (word_text End) then Some End
    else None

-- and that of the head of a tree
abbrev pub head_word_named : Token → Option Word
head_word_named token =
    if bytes_eq token (word_text Cap) then Some Cap
    else if bytes_eq token (word_text Out) then Some Out
    else if bytes_eq token (word_text Trim) then Some Trim
    else if bytes_eq token (word_text Use) then Some Use
    else tail_word_named token

-- the first word that a token is
unfoldable pub word_named : Token → Option Word
word_named token =
    if bytes_eq token (word_text Network) then Some Network
    else if bytes_eq token (word_text Sizes) then Some Sizes
    else if bytes_eq token (word_text Cost) then Some Cost
    else if bytes_eq token (word_text Infeasible) then Some Infeasible
    else if bytes_eq token (word_text Unknown) then Some Unknown
    else if bytes_eq token (word_text Node) then Some Node
    else if bytes_eq token (word_text Raw) then Some Raw
    else if bytes_eq token (word_text Rival) then Some Rival
    else if bytes_eq token (word_text Starve) then Some Starve
    else if bytes_eq token (word_text Loose) then Some Loose
    else if bytes_eq token (word_text Sole) then Some Sole
    else if bytes_eq token (word_text Dead) then Some Dead
    else if bytes_eq token (word_text Clash) then Some Clash
    else if bytes_eq token (word_text Refuted) then Some Refuted
    else if bytes_eq token (word_text Bound) then Some Bound
    else if bytes_eq token (word_text Charge) then Some Charge
    else if bytes_eq token (word_text SomeOf) then Some SomeOf
    else if bytes_eq token (word_text With) then Some With
    else if bytes_eq token (word_text Branch) then Some Branch
    else if bytes_eq token (word_text Either) then Some Either
    else if bytes_eq token (word_text Open) then Some Open
    else head_word_named token

abbrev pub first_word : List Token → Option Word
first_word [] = None
first_word (token ∷ tokens) = word_named token

abbrev pub behind_first : List Token → List Token
behind_first [] = []
behind_first (token ∷ tokens) = tokens

-- the first word of a line, and the tokens after it
abbrev pub word_of : Line → Option Word
word_of line = first_word (tokens_of line)

abbrev pub fields_of : Line → List Token
fields_of line = behind_first (tokens_of line)
