-- A refusal of parts that have no fault is out of memory.
use Rattle.std.proofs.Common.{◌≡◌, true, Option, None, refl, ◌∙◌}
use Rattle.text_rules.specs.problem_rules.Validity.{Refusal}
use Rattle.pns_problem.specs.Fault.{Tells, is_memory}
use Rattle.pns_problem.specs.declared.fault.BuildFault.{BuildFault}
use Rattle.pns_problem.specs.declared.fault.BuildFault.TheVariants.{TooManyMaterials, TooManyUnits}
use Rattle.pns_problem.specs.declared.fault.BuildFault.TheVariants.{BadName, DoubleName, OutOfRange}
use Rattle.pns_problem.specs.declared.fault.BuildFault.TheVariants.{LowAboveHigh, Sign, NoMaterial}
use Rattle.pns_problem.specs.declared.fault.BuildFault.TheVariants.{DoubleTerm, BothSides}
use Rattle.pns_problem.specs.declared.fault.BuildFault.TheVariants.{EmptySide, NoProduct}
use Rattle.pns_problem.specs.declared.fault.BuildFault.TheVariants.{TooManyExclusions, BadExclusion}
use Rattle.pns_problem.specs.declared.fault.BuildFault.TheVariants.{BadPayout, Memory}

pub only_memory : (fault : BuildFault) (first : Option Refusal) → Tells first fault → first ≡ None
    → is_memory fault ≡ true
only_memory Memory first h none = refl
only_memory (TooManyMaterials at) first h none = let e = h ∙ none in cc
only_memory (TooManyUnits at) first h none = let e = h ∙ none in cc
only_memory (BadName at) first h none = let e = h ∙ none in cc
only_memory (DoubleName at) first h none = let e = h ∙ none in cc
only_memory (OutOfRange at) first h none = let e = h ∙ none in cc
only_memory (LowAboveHigh at) first h none = let e = h ∙ none in cc
only_memory (Sign at) first h none = let e = h ∙ none in cc
only_memory (NoMaterial at) first h none = let e = h ∙ none in cc
only_memory (DoubleTerm at) first h none = let e = h ∙ none in cc
only_memory (BothSides at) first h none = let e = h ∙ none in cc
only_memory (EmptySide at) first h none = let e = h ∙ none in cc
only_memory (NoProduct at) first h none = let e = h ∙ none in cc
only_memory (TooManyExclusions at) first h none = let e = h ∙ none in cc
only_memory (BadExclusion at) first h none = let e = h ∙ none in cc
only_memory (BadPayout at) first h none = let e = h ∙ none in cc
