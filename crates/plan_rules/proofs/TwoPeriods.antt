-- A plant over two periods: its plan is read, it is expanded, and its design is a design and costs
-- what it should.
use Rattle.std.proofs.Common.{◌≡◌, ◌++◌, ℕ, zero, suc, true, List, [], ◌∷◌, codes, refl, None, Ok}
use Rattle.std.proofs.Common.{Err, ℤ, pos}
use Rattle.std.specs.Fmt.{digits}
use Rattle.edit_rules.specs.number_sets.Sets.{listed}
use Rattle.edit_rules.specs.problem_rules.Problem.{material_names, unit_names}
use Rattle.edit_rules.specs.problem_rules.Validity.{fault_of}
use Rattle.edit_rules.specs.text_rules.Canonical.{rates_lines}
use Rattle.plan_rules.specs.declared.PlanKind.TheVariants.{UnknownName, NoPeriod}
use Rattle.plan_rules.specs.Design.{Design, design_cost}
use Rattle.plan_rules.specs.Expanded.{expanded}
use Rattle.plan_rules.specs.Meaning.{read_plan}
use Rattle.plan_rules.specs.Plan.{Plan}
use Rattle.plan_rules.proofs.Plant.{plant, first, second, plan}
use Rattle.plan_rules.proofs.Texts.{body}

-- ---- read

plan_read : read_plan plant
    (body (codes "period" ∷ codes "bounds P 20 20" ∷ codes "period" ∷ codes "bounds P 30 30" ∷ []))
    ≡ Ok plan
plan_read = refl

-- with carriage returns, an empty line, and a last line without its line feed
apart : List ℕ
apart =
    codes "file_type=PNS_plan_v1" ++ 13 ∷ 10 ∷ codes "period" ++ 13 ∷ 10 ∷ 13 ∷ 10
    ∷ codes "bounds P +20.0 2e1" ++ 10 ∷ codes "period" ++ 10 ∷ codes "bounds P 30 30"

apart_read : read_plan plant apart ≡ Ok plan
unfolding apart
apart_read = refl

-- with remarks: one has blanks before it, and one would be a line of its period without its sign
remarked : List ℕ
remarked =
    body (codes "# a remark" ∷ codes "period" ∷ codes "bounds P 20 20" ∷ (32 ∷ 9 ∷ codes "# 2")
    ∷ codes "period" ∷ codes "#price A 4" ∷ codes "bounds P 30 30" ∷ [])

remarked_read : read_plan plant remarked ≡ Ok plan
unfolding remarked
remarked_read = refl

-- with a price in the second period: each period begins again with the problem's own numbers
dear : Plan
dear = record { periods = first ∷ record second { prices = pos 4000000 ∷ pos 0 ∷ [] } ∷ [] }

dear_read : read_plan plant
    (body (codes "period" ∷ codes "bounds P 20 20" ∷ codes "period" ∷ codes "price A 4"
    ∷ codes "bounds P 30 30" ∷ [])) ≡ Ok dear
unfolding dear
dear_read = refl

first_line_alone : read_plan plant (body []) ≡ Err (2, NoPeriod)
first_line_alone = refl

unknown : read_plan plant
    (body (codes "period" ∷ codes "price Z 1" ∷ codes "period" ∷ codes "bounds P 30 30" ∷ []))
    ≡ Err (3, UnknownName)
unknown = refl

-- ---- expanded

materials_named : material_names (expanded plant plan).materials
    ≡ codes "s0" ∷ codes "m0.1" ∷ codes "m1.1" ∷ codes "c0.1" ∷ codes "m0.2" ∷ codes "m1.2"
    ∷ codes "c0.2" ∷ []
unfolding digits
materials_named = refl

units_named : unit_names (expanded plant plan).units ≡ codes "b0" ∷ codes "u0.1" ∷ codes "u0.2" ∷ []
unfolding digits
units_named = refl

rates : rates_lines (expanded plant plan) ≡ codes "b0: s0 => c0.1 + c0.2"
    ∷ codes "u0.1: m0.1 + c0.1 => m1.1" ∷ codes "u0.2: m0.2 + c0.2 => m1.2" ∷ []
unfolding digits
rates = refl

valid : fault_of (expanded plant plan) ≡ None
unfolding digits
valid = refl

-- ---- a design

size_in : ℕ → ℤ
size_in zero = pos 20000000
size_in (suc t) = pos 30000000

-- U1 runs in both periods, at 20 and at 30, and has a capacity of 30
both_periods : Design
both_periods = record {
  runs = λ t i. true;
  capacity = λ i. pos 30000000;
  size = λ t i. size_in t;
  d = pos 1;
}

cost : design_cost plant plan both_periods ≡ pos 140000000000000000000
unfolding both_periods size_in listed
cost = refl

dear_cost : design_cost plant dear both_periods ≡ pos 200000000000000000000
unfolding both_periods size_in dear listed
dear_cost = refl
