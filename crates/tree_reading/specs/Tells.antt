-- What a fault of the reader says of a whole text, and what a kind of fault says of a line with its
-- number.
use Rattle.std.specs.Prelude.{◌≡◌, ℕ, List, Result, Err}
use Rattle.tree_text_rules.specs.problem_rules.Problem.{Problem}
use Rattle.tree_text_rules.specs.Read as rules
use Rattle.tree_text_rules.specs.declared.TreeKind.{TreeKind}
use Rattle.text_lines.specs.declared.fault.TextFault.{TextFault}
use Rattle.text_lines.specs.declared.fault.TextFault.TheVariants.{At}
use Rattle.text_lines.specs.Tells.{Tells}

abbrev pub TellsFault : Problem → List ℕ → TextFault TreeKind → Type 0
TellsFault p bytes fault = Tells (rules.read_text p bytes) fault

abbrev pub kind_at : ℕ → TreeKind → TextFault TreeKind
kind_at number kind = At number kind

-- the fault of the line of this number, of which this was read
pub record IsOfLine {A : Type 0} (number : ℕ) (read : Result A TreeKind)
    (fault : TextFault TreeKind) : Type 0 where
  pub kind : TreeKind
  pub read_is : read ≡ Err kind
  pub fault_is : fault ≡ kind_at number kind
