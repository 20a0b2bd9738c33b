-- The refusals of parts, as the rules name them, and what an answer says of the first fault.
use Rattle.std.specs.Prelude.{◌≡◌, Bool, true, false, Option, Some, None, Result, Ok, Err}
use Rattle.text_rules.specs.problem_rules.Validity.{Refusal, too_many_materials, too_many_units}
use Rattle.text_rules.specs.problem_rules.Validity.{bad_name}
use Rattle.text_rules.specs.problem_rules.Validity.{double_name, out_of_range, low_above_high, sign}
use Rattle.text_rules.specs.problem_rules.Validity.{no_material, double_term, both_sides}
use Rattle.text_rules.specs.problem_rules.Validity.{empty_side}
use Rattle.text_rules.specs.problem_rules.Validity.{no_product, too_many_exclusions, bad_exclusion}
use Rattle.text_rules.specs.problem_rules.Validity.{bad_payout}
use Rattle.pns_problem.specs.declared.fault.BuildFault.{BuildFault}
use Rattle.pns_problem.specs.declared.fault.BuildFault.TheVariants.{TooManyMaterials, TooManyUnits}
use Rattle.pns_problem.specs.declared.fault.BuildFault.TheVariants.{BadName, DoubleName, OutOfRange}
use Rattle.pns_problem.specs.declared.fault.BuildFault.TheVariants.{LowAboveHigh, Sign, NoMaterial}
use Rattle.pns_problem.specs.declared.fault.BuildFault.TheVariants.{DoubleTerm, BothSides}
use Rattle.pns_problem.specs.declared.fault.BuildFault.TheVariants.{EmptySide, NoProduct}
use Rattle.pns_problem.specs.declared.fault.BuildFault.TheVariants.{TooManyExclusions, BadExclusion}
use Rattle.pns_problem.specs.declared.fault.BuildFault.TheVariants.{BadPayout, Memory}

-- the refusal that an answer stands for; out of memory stands for none
abbrev pub refusal_of : BuildFault → Option Refusal
refusal_of (TooManyMaterials at) = Some (record { kind = too_many_materials; at = at })
refusal_of (TooManyUnits at) = Some (record { kind = too_many_units; at = at })
refusal_of (BadName at) = Some (record { kind = bad_name; at = at })
refusal_of (DoubleName at) = Some (record { kind = double_name; at = at })
refusal_of (OutOfRange at) = Some (record { kind = out_of_range; at = at })
refusal_of (LowAboveHigh at) = Some (record { kind = low_above_high; at = at })
refusal_of (Sign at) = Some (record { kind = sign; at = at })
refusal_of (NoMaterial at) = Some (record { kind = no_material; at = at })
refusal_of (DoubleTerm at) = Some (record { kind = double_term; at = at })
refusal_of (BothSides at) = Some (record { kind = both_sides; at = at })
refusal_of (EmptySide at) = Some (record { kind = empty_side; at = at })
refusal_of (NoProduct at) = Some (record { kind = no_product; at = at })
refusal_of (TooManyExclusions at) = Some (record { kind = too_many_exclusions; at = at })
refusal_of (BadExclusion at) = Some (record { kind = bad_exclusion; at = at })
refusal_of (BadPayout at) = Some (record { kind = bad_payout; at = at })
refusal_of Memory = None

abbrev pub is_memory : BuildFault → Bool
is_memory Memory = true
is_memory (TooManyMaterials at) = false
is_memory (TooManyUnits at) = false
is_memory (BadName at) = false
is_memory (DoubleName at) = false
is_memory (OutOfRange at) = false
is_memory (LowAboveHigh at) = false
is_memory (Sign at) = false
is_memory (NoMaterial at) = false
is_memory (DoubleTerm at) = false
is_memory (BothSides at) = false
is_memory (EmptySide at) = false
is_memory (NoProduct at) = false
is_memory (TooManyExclusions at) = false
is_memory (BadExclusion at) = false
is_memory (BadPayout at) = false

-- the answer is out of memory, or exactly this refusal
abbrev pub Tells : Option Refusal → BuildFault → Type 0
Tells refusal Memory = Unit {0}
Tells refusal fault = refusal_of fault ≡ refusal

-- a judgement that takes no memory: `Ok` if there is no fault, else the fault
abbrev pub Judges : {X : Type 0} → Result X BuildFault → Option Refusal → Type 0
Judges (Ok x) refusal = refusal ≡ None
Judges (Err fault) refusal = refusal_of fault ≡ refusal
