-- What is read of the lines at the head of a tree: first each line without the sets that follow it,
-- and then with them.
use Rattle.std.specs.Prelude.{◌≡◌, ℕ, Bool, List, [], ◌∷◌, Option, Some, None, IfSome, Result, Ok}
use Rattle.std.specs.Prelude.{Err}
use Rattle.tree_text_rules.specs.problem_rules.Problem.{Problem}
use Rattle.tree_text_rules.specs.flow_rules.Cover.{Cover}
use Rattle.tree_text_rules.specs.tree_rules.Head as heads
use Rattle.tree_text_rules.specs.tree_rules.HeadKnown.{KnowsLine}
use Rattle.branch_tree.specs.HeadView.{line_of}
use Rattle.branch_tree.specs.declared.line.HeadLine.{HeadLine}
use Rattle.tree_text_rules.specs.Line.{Token, Line}
use Rattle.tree_text_rules.specs.LineRead.{one, cap_of, out_of, use_of, sets_of}
use Rattle.tree_text_rules.specs.Token.{mapped, unit_of}
use Rattle.tree_text_rules.specs.Read.{Fault, Taken, then_read, covers_taken, with_line}
use Rattle.tree_text_rules.specs.Read.{front_taken}
use Rattle.tree_text_rules.specs.declared.TreeKind.{TreeKind}
use Rattle.tree_text_rules.specs.declared.Word.{Word}
use Rattle.tree_text_rules.specs.declared.Word.TheVariants as words
use Rattle.text_lines.specs.Tells.{Tells, TellsLine}
use Rattle.text_lines.specs.declared.fault.LineFault.{LineFault}
use Rattle.text_lines.specs.declared.fault.TextFault.{TextFault}
use Rattle.tree_reading.specs.Apart.{formed_by}
use Rattle.tree_reading.specs.Place.{IsBehind, lines_at}
use Rattle.tree_reading.specs.Taken.{taken}
use Rattle.tree_reading.specs.declared.cut.Cut.{Cut}

-- a line with facts, or none if the line is a step or another
abbrev pub fact_by : Problem → Option Word → List Token → Option (Result heads.HeadLine TreeKind)
fact_by p (Some words.Cap) fields = Some (cap_of p fields)
fact_by p (Some words.Out) fields = Some (out_of p fields)
fact_by p (Some words.Trim) fields = Some (mapped heads.trim (one (unit_of p) fields))
fact_by p (Some words.Use) fields = Some (use_of p fields)
fact_by p word fields = None

-- no sets were read yet
abbrev pub BearsNone : heads.HeadLine → Type 0
BearsNone line = IfSome (sets_of line) (λ covers. covers ≡ [])

-- the line is what was read, the problem knows it, and no sets were read yet
pub record IsBegun (p : Problem) (read : Result heads.HeadLine TreeKind) (line : heads.HeadLine)
    : Type 0 where
  pub reads : read ≡ Ok line
  pub known : KnowsLine p line
  pub bare : BearsNone line

-- what a reader of one line answers, by what the grammar reads
abbrev pub ReadsBegun : Problem → Result heads.HeadLine TreeKind
    → Result HeadLine (LineFault TreeKind) → Type 0
ReadsBegun p read (Ok line) = IsBegun p read (line_of line)
ReadsBegun p read (Err fault) = TellsLine read fault

-- the same, if the line may be another
abbrev pub ReadsLine : Problem → Option (Result heads.HeadLine TreeKind)
    → Option (Result HeadLine (LineFault TreeKind)) → Type 0
ReadsLine p None None = Unit {0}
ReadsLine p None (Some found) = ⊥
ReadsLine p (Some read) None = ⊥
ReadsLine p (Some read) (Some found) = ReadsBegun p read found

-- ---- with the sets that follow

abbrev pub with_sets : heads.HeadLine → List Cover → heads.HeadLine
with_sets (heads.step s) covers = heads.step s
with_sets (heads.cap u v d ys none) covers = heads.cap u v d ys covers
with_sets (heads.out u d ys none) covers = heads.out u d ys covers
with_sets (heads.trim u) covers = heads.trim u
with_sets (heads.uses q d ys none) covers = heads.uses q d ys covers

-- a line, after those that were read of it, if sets may follow it
abbrev pub line_behind : Problem → heads.HeadLine → Option (List Cover) → ℕ → List Line
    → Result (Taken heads.HeadLine) Fault
line_behind p line None number lines =
    Ok (record { what = line; number = number; behind = lines })
line_behind p line (Some covers) number lines =
    then_read (covers_taken p covers number lines) (λ covers number lines.
    Ok (record { what = with_sets line covers; number = number; behind = lines }))

-- a line of a head, with its sets, and the place after it
pub record IsLine (p : Problem) (bytes : List ℕ) (cut : Cut) (line : HeadLine) (next : Cut)
    : Type 0 where
  pub reads : front_taken p None cut.line (lines_at bytes cut)
      ≡ with_line (line_of line) (front_taken p None next.line (lines_at bytes next))
  pub behind : IsBehind bytes cut next
  pub known : KnowsLine p (line_of line)

-- the head ends here, or it begins with a line, and what follows it is read
abbrev pub GivesLine : Problem → List ℕ → Cut
    → Result (Option (HeadLine × Cut)) (TextFault TreeKind) → Type 0
GivesLine p bytes cut (Ok None) =
    front_taken p None cut.line (lines_at bytes cut) ≡ Ok (taken [] bytes cut)
GivesLine p bytes cut (Ok (Some found)) = IsLine p bytes cut found.0 found.1
GivesLine p bytes cut (Err fault) =
    Tells (front_taken p None cut.line (lines_at bytes cut)) fault
