-- A line in its parts: its first word, and the tokens after it.
use Rattle.std.specs.Prelude.{◌≡◌, Bool, Option, Some, None, Result, Err, if◌then◌else◌}
use Rattle.tree_text_rules.specs.problem_rules.Problem.{Problem}
use Rattle.tree_text_rules.specs.tree_rules.Known.{AreUnits}
use Rattle.tree_text_rules.specs.Line as rules
use Rattle.tree_text_rules.specs.declared.TreeKind.{TreeKind}
use Rattle.tree_text_rules.specs.declared.TreeKind.TheVariants.{BadLine}
use Rattle.tree_text_rules.specs.Line.{word_of, fields_of, is_formed}
use Rattle.tree_text_rules.specs.LineRead as reads
use Rattle.tree_reading.specs.View.{tokens_in}
use Rattle.tree_reading.specs.declared.apart.LineParts.{LineParts}
use Rattle.tree_reading.specs.declared.opening.Opening.{Opening}
use Rattle.tree_reading.specs.declared.opening.Opening.TheVariants.{Network, Infeasible, Unknown}
use Rattle.tree_reading.specs.declared.opening.TailOpening.{TailOpening}
use Rattle.tree_reading.specs.declared.opening.TailOpening.TheVariants.{Whole, Spent, Past}

pub record AreParts (parts : LineParts) (line : rules.Line) : Type 0 where
  pub formed : parts.formed ≡ is_formed line
  pub word : parts.word ≡ word_of line
  pub fields : tokens_in parts.fields ≡ fields_of line

-- what is read of a line, if it has its form
abbrev pub formed_by : {A : Type 0} → Bool → Result A TreeKind → Result A TreeKind
formed_by formed read = if formed then read else Err BadLine

-- the same, if there may be nothing to read
abbrev pub formed_if_read : {A : Type 0} → Bool → Option (Result A TreeKind)
    → Option (Result A TreeKind)
formed_if_read formed None = None
formed_if_read formed (Some read) = Some (formed_by formed read)

abbrev pub opening_of : Opening → reads.Opening
opening_of (Network us) = reads.network us
opening_of Infeasible = reads.infeasible
opening_of Unknown = reads.unknown

abbrev pub tail_opening_of : TailOpening → reads.TailOpening
tail_opening_of Whole = reads.whole
tail_opening_of (Spent next options) = reads.spent next options
tail_opening_of (Past node) = reads.past node

abbrev pub KnowsOpening : Problem → Opening → Type 0
KnowsOpening p (Network us) = AreUnits p us
KnowsOpening p Infeasible = Unit {0}
KnowsOpening p Unknown = Unit {0}
