-- The plan that lines without a fault of form stand for, or their first fault of meaning: that of
-- the first line that has one, else, after the last line, that there is no period or that there are
-- too many.
use Rattle.std.specs.Prelude.{◌==◌, ◌+◌, ℕ, suc, List, [], ◌∷◌, length, map, Option, Some, None}
use Rattle.std.specs.Prelude.{Result, Ok, Err, int_lt, slice_set, if◌then◌else◌}
use Rattle.edit_rules.specs.problem_rules.Problem.{Problem, Material}
use Rattle.edit_rules.specs.Place.{has_material, material_place}
use Rattle.edit_rules.specs.Line.{script_lines}
use Rattle.plan_rules.specs.declared.PlanKind.{PlanKind}
use Rattle.plan_rules.specs.declared.PlanKind.TheVariants.{UnknownName, LowAboveHigh, NoPeriod}
use Rattle.plan_rules.specs.declared.PlanKind.TheVariants.{TooWide}
use Rattle.plan_rules.specs.Line.{Entry, begins, price, bounds}
use Rattle.plan_rules.specs.Plan.{Period, Plan, is_too_wide}
use Rattle.plan_rules.specs.Read.{Fault, Line, is_begin, read_lines}

-- ---- faults

abbrev pub entry_fault : Problem → Entry → Option PlanKind
entry_fault p begins = None
entry_fault p (price name value) = if has_material p name then None else Some UnknownName
entry_fault p (bounds name lower upper) =
    if has_material p name then (if int_lt upper lower then Some LowAboveHigh else None) else Some
    UnknownName

-- a line's fault, before those of the lines after it
abbrev pub at_line : ℕ → Option PlanKind → Option Fault → Option Fault
at_line number (Some kind) rest = Some (number, kind)
at_line number None rest = rest

abbrev pub lines_fault : Problem → List Line → Option Fault
lines_fault p [] = None
lines_fault p (line ∷ lines) = at_line line.number (entry_fault p line.entry) (lines_fault p lines)

-- how many periods begin
abbrev pub period_count : List Line → ℕ
period_count [] = 0
period_count (line ∷ lines) =
    if is_begin line.entry then suc (period_count lines) else period_count lines

abbrev pub count_fault : Problem → ℕ → Option PlanKind
count_fault p periods =
    if periods == 0 then Some NoPeriod
    else if is_too_wide (length p.units) (length p.materials) periods then Some TooWide
    else None

-- the fault of the lines, or else of their number of periods, at the line after the last of the
-- text; the text has `count` lines, with empty ones and remarks
abbrev pub or_behind : Problem → ℕ → List Line → Option Fault → Option Fault
or_behind p count lines (Some fault) = Some fault
or_behind p count lines None = at_line (count + 1) (count_fault p (period_count lines)) None

abbrev pub meaning_fault : Problem → ℕ → List Line → Option Fault
meaning_fault p count lines = or_behind p count lines (lines_fault p lines)

-- ---- the plan

-- the problem's own prices and bounds
abbrev pub own_period : Problem → Period
own_period p = record {
  prices = map (λ (m : Material). m.price) p.materials;
  lowers = map (λ (m : Material). m.lower) p.materials;
  uppers = map (λ (m : Material). m.upper) p.materials;
}

abbrev pub changed : Problem → Period → Entry → Period
changed p q begins = q
changed p q (price name value) =
    record q { prices = slice_set q.prices (material_place p name) value }
changed p q (bounds name lower upper) = record q {
  lowers = slice_set q.lowers (material_place p name) lower;
  uppers = slice_set q.uppers (material_place p name) upper;
}

-- a period up to its end: the lines up to the next that begins one change it
abbrev pub period_from : Problem → Period → List Line → Period
period_from p q [] = q
period_from p q (line ∷ lines) =
    if is_begin line.entry then q else period_from p (changed p q line.entry) lines

-- each period begins with the problem's own prices and bounds
abbrev pub periods_of : Problem → List Line → List Period
periods_of p [] = []
periods_of p (line ∷ lines) =
    if is_begin line.entry then period_from p (own_period p) lines
    ∷ periods_of p lines else periods_of p lines

-- ---- the text

abbrev pub judged : Problem → List Line → Option Fault → Result Plan Fault
judged p lines (Some fault) = Err fault
judged p lines None = Ok (record { periods = periods_of p lines })

abbrev pub lines_judged : Problem → ℕ → Result (List Line) Fault → Result Plan Fault
lines_judged p count (Ok lines) = judged p lines (meaning_fault p count lines)
lines_judged p count (Err fault) = Err fault

-- the plan for a problem that a text stands for, or its first fault: what a reader of plans has to
-- answer
abbrev pub read_plan : Problem → List ℕ → Result Plan Fault
read_plan p bytes = lines_judged p (length (script_lines bytes)) (read_lines bytes)
