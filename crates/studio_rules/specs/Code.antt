-- The numbers of the statuses with which the program ends.
use Rattle.std.specs.Prelude.{ℕ}
use Rattle.studio_rules.specs.declared.status.Status.{Status}
use Rattle.studio_rules.specs.declared.status.Status.TheVariants.{Done, Refused, Usage, BadProblem}
use Rattle.studio_rules.specs.declared.status.Status.TheVariants.{Past, Spent, ReadFault}
use Rattle.studio_rules.specs.declared.status.Status.TheVariants.{WriteFault, Memory}
use Rattle.studio_rules.specs.declared.status.Status.TheVariants.{BadToken, BadTree, BadEdit}
use Rattle.studio_rules.specs.declared.status.Status.TheVariants.{TooLong, NotBest, UnknownName}
use Rattle.studio_rules.specs.declared.status.Status.TheVariants.{NotMigrated, BadNode, NoLeaf}
use Rattle.studio_rules.specs.declared.status.Status.TheVariants.{BadPlan, BadClaim}

-- There is no 15. A refused claim has the number of a refusal.
abbrev pub code_of : Status → ℕ
code_of Done = 0
code_of Refused = 1
code_of Usage = 2
code_of BadProblem = 3
code_of Past = 4
code_of Spent = 5
code_of ReadFault = 6
code_of WriteFault = 7
code_of Memory = 8
code_of BadToken = 9
code_of BadTree = 10
code_of BadEdit = 11
code_of TooLong = 12
code_of NotBest = 13
code_of UnknownName = 14
code_of NotMigrated = 16
code_of BadNode = 17
code_of NoLeaf = 18
code_of BadPlan = 19
code_of BadClaim = 1
