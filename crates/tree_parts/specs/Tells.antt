-- What a fault of the reader says of a text. `Memory`, out of memory, says nothing.
use Rattle.std.specs.Prelude.{ℕ, List, Err}
use Rattle.tree_text_laws.specs.problem_rules.Problem.{Problem}
use Rattle.tree_text_laws.specs.tree_text_rules.declared.TreeKind.{TreeKind}
use Rattle.tree_reading.specs.text_lines.declared.fault.TextFault.{TextFault}
use Rattle.tree_reading.specs.text_lines.declared.fault.TextFault.TheVariants.{At, Memory}
use Rattle.tree_text_laws.specs.tree_text_rules.PartRead.{PartReads}

abbrev pub TellsPart : Problem → List ℕ → TextFault TreeKind → Type 0
TellsPart p bytes Memory = Unit {0}
TellsPart p bytes (At number kind) = PartReads p bytes (Err (number, kind))
