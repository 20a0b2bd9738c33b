use Rattle.std.proofs.Common.{◌≡◌, drop}
use Rattle.text_lines.specs.View.{texts}
use Rattle.text_lines.specs.Once.{once}
use Rattle.text_lines.proofs.Naming.{once_from}
use Rattle.text_lines.proofs.name_set.once.Given as goal

-- the names that remain complete the set
abbrev pub invariant-loop-name : goal.invariant-loop-name
invariant-loop-name l = once_from l.set (texts (drop l.name-index l.names)) ≡ once (texts l.names)
