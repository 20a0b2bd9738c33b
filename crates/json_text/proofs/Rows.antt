-- The rows of a text, line by line.
use Rattle.std.proofs.Common.{◌≡◌, ◌∷◌, [], ◌++◌, ◌∙◌, suc, ap, sym, subst, true, false, refl, Bool}
use Rattle.std.proofs.Common.{ℕ, List, Result, Ok, Err, true≢false}
use Rattle.std.specs.Prelude.{if◌then◌else◌}
use Rattle.tree_reading.specs.text_lines.Tells.{Tells}
use Rattle.tree_reading.specs.text_lines.declared.fault.TextFault.{TextFault}
use Rattle.report_rules.specs.problem_rules.Problem.{Problem}
use Rattle.report_rules.specs.tree_text_rules.Line.{Line}
use Rattle.report_rules.specs.tree_text_rules.Read.{Fault, on_line}
use Rattle.report_rules.specs.tree_text_rules.declared.TreeKind.{TreeKind}
use Rattle.report_rules.specs.tree_text_rules.declared.TreeKind.TheVariants.{BadLine}
use Rattle.tree_reading.specs.Tells.{IsOfLine}
use Rattle.report_rules.specs.RangeTable.{words_of, has_no_word, row_read, rows_taken, has_headings}
use Rattle.report_rules.specs.RangeTable.{lines_taken}
use Rattle.report_rules.specs.declared.row.Row.{Row}

first_of : {A : Type 0} (b : Bool) (x y : A) → b ≡ true → (if b then x else y) ≡ x
first_of true x y e = refl
first_of false x y e = absurd (true≢false (sym e))

second_of : {A : Type 0} (b : Bool) (x y : A) → b ≡ false → (if b then x else y) ≡ y
second_of false x y e = refl
second_of true x y e = absurd (true≢false e)

module _ (p : Problem) (rows : List Row) (number : ℕ) (lines rest : List Line) (line : Line)
    (all : Result (List Row) Fault) (front : lines ≡ line ∷ rest)
    (whole : rows_taken p rows number lines ≡ all) where
  abbrev more : Row → Result (List Row) Fault
  more row = rows_taken p (rows ++ row ∷ []) (suc number) rest

  -- the line has words
  read_on : has_no_word (words_of line) ≡ false → on_line number (row_read p line) more ≡ all
  read_on some =
      sym
      (ap (λ (ls : List Line). rows_taken p rows number ls) front
      ∙ second_of (has_no_word (words_of line)) (Ok rows) (on_line number (row_read p line) more)
      some)
      ∙ whole

  pub next_row : (row : Row) → has_no_word (words_of line) ≡ false → row_read p line ≡ Ok row
      → rows_taken p (rows ++ row ∷ []) (suc number) rest ≡ all
  next_row row some is =
      sym (ap (λ (r : Result Row TreeKind). on_line number r more) is) ∙ read_on some

  bad_row : (kind : TreeKind) → has_no_word (words_of line) ≡ false
      → row_read p line ≡ Err kind → all ≡ Err (number, kind)
  bad_row kind some is =
      sym (read_on some) ∙ ap (λ (r : Result Row TreeKind). on_line number r more) is

  pub told_row : (fault : TextFault TreeKind) → has_no_word (words_of line) ≡ false
      → IsOfLine number (row_read p line) fault → Tells all fault
  told_row fault some of =
      subst (λ (f : TextFault TreeKind). Tells all f) (sym of.fault_is)
      (bad_row of.kind some of.read_is)

  -- the line has none
  pub last_row : has_no_word (words_of line) ≡ true → all ≡ Ok rows
  last_row none =
      sym whole ∙ ap (λ (ls : List Line). rows_taken p rows number ls) front
      ∙ first_of (has_no_word (words_of line)) (Ok rows)
      (on_line number (row_read p line) more) none

pub no_line : (p : Problem) (rows : List Row) (number : ℕ) (lines : List Line)
    (all : Result (List Row) Fault) → lines ≡ [] → rows_taken p rows number lines ≡ all
    → all ≡ Ok rows
no_line p rows number lines all none whole =
    sym whole ∙ ap (λ (ls : List Line). rows_taken p rows number ls) none

-- ---- the first line

module _ (p : Problem) (lines rest : List Line) (line : Line) (front : lines ≡ line ∷ rest) where
  pub headed : (number : ℕ) → has_headings line ≡ true → number ≡ 2
      → rows_taken p [] number rest ≡ lines_taken p lines
  headed number has two =
      ap (λ (n : ℕ). rows_taken p [] n rest) two
      ∙ sym
      (ap (λ (ls : List Line). lines_taken p ls) front
      ∙ first_of (has_headings line) (rows_taken p [] 2 rest) (Err (1, BadLine)) has)

  pub unheaded : has_headings line ≡ false → lines_taken p lines ≡ Err (1, BadLine)
  unheaded has =
      ap (λ (ls : List Line). lines_taken p ls) front
      ∙ second_of (has_headings line) (rows_taken p [] 2 rest) (Err (1, BadLine)) has
