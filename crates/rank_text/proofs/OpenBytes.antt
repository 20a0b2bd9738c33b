-- A text is made of its lines, also with `open` in place of each line that names a network.
use Rattle.std.proofs.Common.{◌≡◌, ◌≤◌, Bool, true, false, cond, ℕ, List, [], ◌∷◌, ◌++◌, map}
use Rattle.std.proofs.Common.{flat_map, length, take, drop, refl, sym, ap, ◌∙◌, append_assoc}
use Rattle.std.proofs.Common.{append-nil, Option, Some, None}
use Rattle.std.specs.List.{list_any, slice_split, onto_first}
use Rattle.std.proofs.lemmas.Bool.{or_from}
use Rattle.std.proofs.lemmas.List.{length-take-le}
use Rattle.std.proofs.Math.Seq.{drop-append_seam}
use Rattle.tree_text_laws.specs.problem_rules.Each.{Each}
use Rattle.tree_text_laws.proofs.text_laws.Cited.{split_at, split_none}
use Rattle.tree_reading.proofs.text_lines.Cited.{parts_some}
use Rattle.tree_text_laws.specs.tree_text_rules.Line.{Line, is_feed, lines_from, lines_of}
use Rattle.tree_text_laws.specs.tree_text_rules.Line.{word_text}
use Rattle.tree_text_laws.specs.tree_text_rules.declared.Word.TheVariants.{Open, Unknown}
use Rattle.tree_reading.proofs.Cited.{more_pieces}
use Rattle.rank_check.specs.rank_rules.declared.naming.Naming.{Naming}
use Rattle.rank_check.specs.rank_rules.Opened.{way_of, opened_by, opened, unknown_line, line_bytes}

abbrev pub bytes_of : List Line → List ℕ
bytes_of lines = flat_map line_bytes lines

-- ---- a text of lines has these lines

abbrev IsClear : List ℕ → Type 0
IsClear text = list_any is_feed text ≡ false

pieces_clear : (bytes : List ℕ) → Each IsClear (slice_split is_feed bytes)
pieces_clear [] = (refl, tt)
pieces_clear (c ∷ cs) = at (is_feed c) refl (slice_split is_feed cs) (pieces_clear cs)
  where
    at : (b : Bool) → is_feed c ≡ b → (pieces : List (List ℕ)) → Each IsClear pieces
        → Each IsClear (cond b ([] ∷ pieces) (onto_first c pieces))
    at true e pieces each = (refl, each)
    at false e [] each = (or_from (is_feed c) false e refl, tt)
    at false e (piece ∷ pieces) each =
        (or_from (is_feed c) (list_any is_feed piece) e each.0, each.1)

-- a line that has ended, in front of others
front_line : (text : List ℕ) (lines : List Line) → IsClear text → lines_of (bytes_of lines) ≡ lines
    → lines_of ((text ++ 10 ∷ []) ++ bytes_of lines) ≡ record { text = text; ended = true } ∷ lines
front_line text lines clear rest =
    ap lines_of (append_assoc text (10 ∷ []) (bytes_of lines))
    ∙ ap lines_from (split_at is_feed text 10 (bytes_of lines) clear refl)
    ∙ more_pieces text (slice_split is_feed (bytes_of lines)) (parts_some is_feed (bytes_of lines))
    ∙ ap (λ (ls : List Line). record { text = text; ended = true } ∷ ls) rest

front_opened : (way : Option Naming) (text : List ℕ) (lines : List Line) → IsClear text
    → lines_of (bytes_of lines) ≡ lines
    → lines_of
    (line_bytes (opened_by way (record { text = text; ended = true })) ++ bytes_of lines)
    ≡ opened_by way (record { text = text; ended = true }) ∷ lines
front_opened (Some way) text lines clear rest = front_line (word_text Open) lines refl rest
front_opened None text lines clear rest = front_line text lines clear rest

last_opened : (way : Option Naming) (c : ℕ) (cs : List ℕ) → IsClear (c ∷ cs)
    → lines_of (line_bytes (opened_by way (record { text = c ∷ cs; ended = false })) ++ [])
    ≡ opened_by way (record { text = c ∷ cs; ended = false }) ∷ []
last_opened (Some way) c cs clear = refl
last_opened None c cs clear = ap lines_of (append-nil (c ∷ cs))
    ∙ ap lines_from (split_none is_feed (c ∷ cs) clear)

opened_again : (distinct : Bool) (pieces : List (List ℕ)) → Each IsClear pieces
    → lines_of (bytes_of (map (opened distinct) (lines_from pieces)))
    ≡ map (opened distinct) (lines_from pieces)
opened_again distinct [] each = refl
opened_again distinct ([] ∷ []) each = refl
opened_again distinct ((c ∷ cs) ∷ []) each =
    last_opened (way_of distinct (record { text = c ∷ cs; ended = false })) c cs each.0
opened_again distinct (piece ∷ next ∷ pieces) each =
    front_opened (way_of distinct (record { text = piece; ended = true })) piece
    (map (opened distinct) (lines_from (next ∷ pieces))) each.0
    (opened_again distinct (next ∷ pieces) each.1)

-- ---- a text that is made line by line

-- the text after what is before the place
abbrev pub opened_from : Bool → List ℕ → ℕ → List ℕ
opened_from distinct bytes at =
    bytes_of (unknown_line ∷ map (opened distinct) (lines_of (drop at bytes)))

-- before the first line
pub text_begun : (distinct : Bool) (bytes made : List ℕ) (at : ℕ)
    → made ≡ take at bytes ++ line_bytes unknown_line
    → made ++ bytes_of (map (opened distinct) (lines_of (drop at bytes))) ≡ take at bytes
    ++ opened_from distinct bytes at
text_begun distinct bytes made at is =
    ap (λ (bs : List ℕ). bs ++ bytes_of (map (opened distinct) (lines_of (drop at bytes)))) is
    ∙ append_assoc (take at bytes) (line_bytes unknown_line)
    (bytes_of (map (opened distinct) (lines_of (drop at bytes))))

-- one line more
pub text_on : (distinct : Bool) (made next : List ℕ) (left rest : List Line) (line : Line)
    (way : Option Naming) (whole : List ℕ)
    → made ++ bytes_of (map (opened distinct) left) ≡ whole → left ≡ line ∷ rest
    → way ≡ way_of distinct line → next ≡ made ++ line_bytes (opened_by way line)
    → next ++ bytes_of (map (opened distinct) rest) ≡ whole
text_on distinct made next left rest line way whole e cut way_is is =
    ap (λ (bs : List ℕ). bs ++ bytes_of (map (opened distinct) rest))
    (is ∙ ap (λ (w : Option Naming). made ++ line_bytes (opened_by w line)) way_is)
    ∙ append_assoc made (line_bytes (opened distinct line)) (bytes_of (map (opened distinct) rest))
    ∙ ap (λ (ls : List Line). made ++ bytes_of (map (opened distinct) ls)) (sym cut)
    ∙ e

-- no line is left
pub text_done : (distinct : Bool) (bytes made : List ℕ) (at : ℕ) (left : List Line)
    → at ≤ length bytes
    → made ++ bytes_of (map (opened distinct) left) ≡ take at bytes
    ++ opened_from distinct bytes at → left ≡ []
    → lines_of (drop at made) ≡ unknown_line ∷ map (opened distinct) (lines_of (drop at bytes))
text_done distinct bytes made at left within e none =
    let front : length (take at bytes) ≡ at = length-take-le at bytes within in
    let lines : List Line = map (opened distinct) (lines_of (drop at bytes)) in
    ap (λ (bs : List ℕ). lines_of (drop at bs))
    (sym (append-nil made)
    ∙ ap (λ (ls : List Line). made ++ bytes_of (map (opened distinct) ls)) (sym none) ∙ e)
    ∙ ap (λ (n : ℕ). lines_of (drop n (take at bytes ++ opened_from distinct bytes at))) (sym front)
    ∙ ap lines_of (drop-append_seam (take at bytes) (opened_from distinct bytes at))
    ∙ front_line (word_text Unknown) lines refl
    (opened_again distinct (slice_split is_feed (drop at bytes)) (pieces_clear (drop at bytes)))
