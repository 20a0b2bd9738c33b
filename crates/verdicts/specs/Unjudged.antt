-- Why there is no verdict on a claim. `Memory`, out of memory, says nothing of the claim.
use Rattle.std.specs.Prelude.{Bool, true}
use Rattle.report_rules.specs.problem_rules.Problem.{Problem}
use Rattle.report_rules.specs.tree_rules.Claim as rules
use Rattle.verdicts.specs.declared.verdict.Unjudged.{Unjudged}
use Rattle.verdicts.specs.declared.verdict.Unjudged.TheVariants.{Memory, Claim}

-- the claim fails for this cause; with a partial tree a claim of nothing is permitted
abbrev pub IsUnjudgedIf : Bool → Problem → rules.Claim → Unjudged → Type 0
IsUnjudgedIf partial p claim Memory = Unit {0}
IsUnjudgedIf partial p claim (Claim why) = rules.ClaimFails partial p claim why

-- the claim fails for this cause, even if a claim of nothing is permitted
abbrev pub IsUnjudged : Problem → rules.Claim → Unjudged → Type 0
IsUnjudged p claim unjudged = IsUnjudgedIf true p claim unjudged
