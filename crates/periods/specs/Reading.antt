-- A reading that continues: what is answered of the lines that remain, after those that were read.
use Rattle.std.specs.Prelude.{◌≡◌, ◌==◌, ◌+◌, ℕ, not, List, [], ◌∷◌, length, Option, Some, None}
use Rattle.std.specs.Prelude.{Result, Ok, Err}
use Rattle.std.specs.Option.{option_or}
use Rattle.plan_laws.specs.problem_rules.Problem.{Problem}
use Rattle.plan_laws.specs.plan_rules.declared.PlanKind.{PlanKind}
use Rattle.plan_laws.specs.plan_rules.Line.{Entry}
use Rattle.plan_laws.specs.plan_rules.Meaning.{at_line, lines_fault, count_fault, period_from}
use Rattle.plan_laws.specs.plan_rules.Meaning.{periods_of}
use Rattle.plan_laws.specs.plan_rules.Plan.{Period, Plan}
use Rattle.plan_laws.specs.plan_rules.Read.{Fault, Line, Seen, nothing_seen, seen_past, placed}
use Rattle.plan_laws.specs.plan_rules.Read.{with_line}
use Rattle.plan_laws.specs.plan_rules.Read.{lines_read}
use Rattle.text_lines.specs.Lines.{Coming}
use Rattle.periods.specs.declared.reading.Reading.{Reading}

-- what the lines so far say of the present period
abbrev pub seen_of : Reading → Seen
seen_of r =
    record { started = not (length r.periods.items == 0); priced = r.priced; bounded = r.bounded }

-- the periods so far, and those of the lines that remain, which continue with the last period so
-- far
abbrev pub resumed : Problem → List Period → List Line → List Period
resumed p [] lines = periods_of p lines
resumed p (q ∷ []) lines = period_from p q lines ∷ periods_of p lines
resumed p (q ∷ r ∷ rs) lines = q ∷ resumed p (r ∷ rs) lines

-- The plan of all periods, if no line has a fault of meaning. Faults of the plan itself are at the
-- line after the last.
abbrev pub judged : List Period → Option Fault → Result Plan Fault
judged periods (Some fault) = Err fault
judged periods None = Ok (record { periods = periods })

abbrev pub ended : Problem → ℕ → Option Fault → List Period → Result Plan Fault
ended p behind fault periods =
    judged periods (option_or fault (at_line behind (count_fault p (length periods)) None))

abbrev pub go_on : Problem → ℕ → Option Fault → List Period → Result (List Line) Fault
    → Result Plan Fault
go_on p behind fault periods (Ok lines) =
    ended p behind (option_or fault (lines_fault p lines)) (resumed p periods lines)
go_on p behind fault periods (Err first) = Err first

abbrev pub read_on : Problem → ℕ → Reading → Coming → Result Plan Fault
read_on p behind r coming =
    go_on p behind r.fault r.periods.items (lines_read coming.number (seen_of r) coming.lines)

-- the result if nothing was read before
abbrev pub rest_read : Problem → Coming → Result Plan Fault
rest_read p coming =
    go_on p (coming.number + length coming.lines) None []
    (lines_read coming.number nothing_seen coming.lines)

-- a reading that has taken a line of this number
pub record HasTaken (p : Problem) (number : ℕ) (line : Result Entry PlanKind)
    (old new : Reading) : Type 0 where
  pub seen : seen_of new ≡ seen_past (seen_of old) line
  pub same : (behind : ℕ) (rest : Result (List Line) Fault)
      → go_on p behind new.fault new.periods.items rest
      ≡ go_on p behind old.fault old.periods.items
      (with_line number (placed (seen_of old) line) rest)
