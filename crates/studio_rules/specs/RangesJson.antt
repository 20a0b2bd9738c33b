-- `json FILE TEXT` on a table of ranges, as `stable FILE TREE` prints it: its rows as one JSON
-- object for programs. Nothing is judged. Any other text is a tree or a ranking.
use Rattle.std.specs.Prelude.{◌≡◌, ◌≤◌, ℕ, List, [], ◌∷◌, Ok, Err, length}
use Rattle.report_rules.specs.text_rules.Outside.{Told}
use Rattle.report_rules.specs.problem_rules.Problem.{Problem}
use Rattle.report_rules.specs.tree_text_rules.declared.TreeKind.{TreeKind}
use Rattle.report_rules.specs.Object.{table_lines}
use Rattle.report_rules.specs.RangeTable.{is_table, read_table}
use Rattle.report_rules.specs.declared.row.Row.{Row}
use Rattle.studio_rules.specs.Json.{JsonWork}
use Rattle.studio_rules.specs.RankJson.{RankJsonWork}
use Rattle.studio_rules.specs.Reading.{IsLong, OnSecond}
use Rattle.studio_rules.specs.TextFile.{by_kind, EitherSays}
use Rattle.studio_rules.specs.TreeFile.{tree_limit, tree_fault_line}
use Rattle.studio_rules.specs.declared.status.Status.{Status}
use Rattle.studio_rules.specs.declared.status.Status.TheVariants.{Done, BadTree, TooLong}

-- The object of the rows; or the file is above the limit, or has a fault, which is reported with
-- its line and kind.
abbrev pub TableSays : List ℕ → Problem → List ℕ → Status → List (List ℕ) → Type 0
TableSays name p file Done lines =
    (length file ≤ tree_limit)
    × ((rows : List Row) × (read_table p file ≡ Ok rows) × (lines ≡ table_lines p rows))
TableSays name p file BadTree lines =
    (length file ≤ tree_limit)
    × ((line : ℕ) × (kind : TreeKind) × (read_table p file ≡ Err (line, kind))
    × (lines ≡ tree_fault_line line kind ∷ []))
TableSays name p file TooLong lines = IsLong name tree_limit file lines
TableSays name p file status lines = ⊥

-- the first line says whether a file is a table
abbrev pub AnySays : List ℕ → Problem → List ℕ → Status → List (List ℕ) → Type 0
AnySays name p file status lines =
    by_kind (is_table file) (TableSays name p file status lines)
    (EitherSays JsonWork RankJsonWork name p file status lines)

abbrev pub OnAny : (List ℕ → Told) → List ℕ → Problem → Status → List (List ℕ) → Type 0
OnAny held name = OnSecond (AnySays name) held name
