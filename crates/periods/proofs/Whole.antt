-- The whole text: its first line, and what the lines after it stand for.
use Rattle.std.proofs.Common.{◌≡◌, ◌+◌, ℕ, Option, Some, None, List, [], ◌∷◌, length, Result, Ok}
use Rattle.std.proofs.Common.{Err, refl, sym, ap, ◌∙◌, arith}
use Rattle.plan_laws.specs.problem_rules.Problem.{Problem}
use Rattle.plan_laws.specs.edit_rules.Line.{script_lines}
use Rattle.plan_laws.specs.plan_rules.Line.{file_type}
use Rattle.plan_laws.specs.plan_rules.Meaning as rules
use Rattle.plan_laws.specs.plan_rules.Meaning.{at_line, lines_fault, count_fault, period_count}
use Rattle.plan_laws.specs.plan_rules.Meaning.{periods_of}
use Rattle.plan_laws.specs.plan_rules.Meaning.{or_behind, lines_judged, read_plan}
use Rattle.plan_laws.specs.plan_rules.Read.{Fault, Line, nothing_seen, lines_read, text_read}
use Rattle.text_lines.specs.Lines.{Coming}
use Rattle.periods.specs.Reading.{judged, ended, go_on, rest_read}
use Rattle.periods.proofs.Valid.{periods_counted}

judged_same : (p : Problem) (lines : List Line) (fault : Option Fault)
    → rules.judged p lines fault ≡ judged (periods_of p lines) fault
judged_same p lines (Some fault) = refl
judged_same p lines None = refl

ended_same : (p : Problem) (count : ℕ) (lines : List Line) (fault : Option Fault)
    → rules.judged p lines (or_behind p count lines fault)
    ≡ ended p (count + 1) fault (periods_of p lines)
ended_same p count lines (Some fault) = refl
ended_same p count lines None =
    judged_same p lines (at_line (count + 1) (count_fault p (period_count lines)) None)
    ∙ ap (λ (n : ℕ). judged (periods_of p lines) (at_line (count + 1) (count_fault p n) None))
    (sym (periods_counted p lines))

judged_on : (p : Problem) (count : ℕ) (r : Result (List Line) Fault)
    → lines_judged p count r ≡ go_on p (count + 1) None [] r
judged_on p count (Ok lines) = ended_same p count lines (lines_fault p lines)
judged_on p count (Err fault) = refl

pub typed : (p : Problem) (bytes : List ℕ) (coming : Coming) → coming.number ≡ 2
    → script_lines bytes ≡ file_type ∷ coming.lines → read_plan p bytes ≡ rest_read p coming
typed p bytes coming second cut =
    ap (λ (texts : List (List ℕ)). lines_judged p (length texts) (text_read texts)) cut
    ∙ judged_on p (length (file_type ∷ coming.lines)) (lines_read 2 nothing_seen coming.lines)
    ∙ ap (λ (n : ℕ). go_on p n None [] (lines_read 2 nothing_seen coming.lines))
    (omega (arith, second))
    ∙ ap
    (λ (n : ℕ). go_on p (coming.number + length coming.lines) None []
    (lines_read n nothing_seen coming.lines)) (sym second)
