-- The reading of a text that continues: what was seen and kept of the lines so far, and the lines
-- that remain.
use Rattle.std.specs.Prelude.{◌≡◌, ◌≤◌, ◌+◌, ◌++◌, ℕ, List, [], ◌∷◌, length, filter, None, Result}
use Rattle.std.specs.Prelude.{if◌then◌else◌}
use Rattle.text_lines.specs.problem_rules.Problem.{Problem}
use Rattle.text_lines.specs.text_rules.declared.Section.{Section}
use Rattle.text_lines.specs.text_rules.declared.Section.TheVariants.{Preamble, Materials}
use Rattle.text_lines.specs.text_rules.declared.Section.TheVariants.{OperatingUnits}
use Rattle.text_lines.specs.text_rules.declared.Section.TheVariants.{Rates}
use Rattle.text_lines.specs.text_rules.Line.{Placed, section_after, is_header, placed_from}
use Rattle.text_lines.specs.text_rules.Line.{standing, matters}
use Rattle.text_lines.specs.text_rules.Line.{heads_at}
use Rattle.text_lines.specs.text_rules.Fault.{Fault, Seen, seen_none, seen_after, line_fault}
use Rattle.text_lines.specs.text_rules.Fault.{first_fault}
use Rattle.text_lines.specs.text_rules.Value.{meaning_at, or_first}

-- what was seen, the lines that matter so far, and the section of the next line
pub record Walk : Type 0 where
  pub seen : Seen
  pub kept : List Placed
  pub section : Section

abbrev pub walk_start : Walk
walk_start = record { seen = seen_none; kept = []; section = Preamble }

abbrev pub placed_at : ℕ → Section → List ℕ → Placed
placed_at number section text =
    record {
      number = number;
      section = section_after section text;
      header = is_header text;
      text =
          text;
    }

abbrev pub kept_after : List Placed → Placed → List Placed
kept_after kept line = if matters line then kept ++ line ∷ [] else kept

-- the walk after a line
abbrev pub walk_past : Walk → Placed → Walk
walk_past w line =
    record { seen = seen_after w.seen line; kept = kept_after w.kept line; section = line.section }

-- a line without a fault was taken
pub record IsPast (old : Walk) (line : Placed) (new : Walk) : Type 0 where
  pub none : line_fault old.seen line ≡ None
  pub past : new ≡ walk_past old line

-- the lines that remain and are not empty, the first of which has the number
abbrev pub to_come : Walk → ℕ → List (List ℕ) → List Placed
to_come w number texts = standing (placed_from number w.section texts)

-- what the text stands for if these lines remain
abbrev pub read_on : Walk → ℕ → List (List ℕ) → Result Problem Fault
read_on w number texts =
    or_first (first_fault w.seen (to_come w number texts))
    (meaning_at (w.kept ++ filter matters (to_come w number texts)) (number + length texts))

-- The names that were seen are those of the lines that were kept. There are fewer kept lines than
-- lines before the next.
pub record HasNames (w : Walk) (number : ℕ) : Type 0 where
  pub materials : w.seen.materials ≡ heads_at Materials w.kept
  pub units : w.seen.units ≡ heads_at OperatingUnits w.kept
  pub rates : w.seen.rates ≡ heads_at Rates w.kept
  pub counted : length w.kept + 2 ≤ number
