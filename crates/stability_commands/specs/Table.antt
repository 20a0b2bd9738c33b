-- Why there is no table of ranges, for the proof of the command.
use Rattle.stability.specs.problem_rules.Problem.{Problem}
use Rattle.stability.specs.tree_rules.Claim.{Network}
use Rattle.stability.specs.report_rules.Range.{IsCheaper}
use Rattle.stability_commands.specs.declared.cells.TableFault.{TableFault}
use Rattle.stability_commands.specs.declared.cells.TableFault.TheVariants.{NotBest, Memory}

-- a network of least cost is cheaper now, or there is no memory
abbrev pub IsTableFault : Problem → Network → TableFault → Type 0
IsTableFault p w (NotBest n) = IsCheaper p (record { cost = w.cost; d = w.d }) n
IsTableFault p w Memory = Unit {0}
