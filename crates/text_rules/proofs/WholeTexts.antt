-- Whole small texts, each with its first fault, and texts that have none.
use Rattle.std.proofs.Common.{◌≡◌, ◌+◌, ◌/◌, ◌%◌, ◌++◌, ℕ, List, [], ◌∷◌, map, codes, refl, Err}
use Rattle.std.specs.List.{range_with_len}
use Rattle.text_rules.specs.declared.TextKind.TheVariants.{FileType, UnknownSection, DoubleSection}
use Rattle.text_rules.specs.declared.TextKind.TheVariants.{BadLine, BadName, UnknownKey, DoubleKey}
use Rattle.text_rules.specs.declared.TextKind.TheVariants.{Negative, UnknownKind, DoubleTerm}
use Rattle.text_rules.specs.declared.TextKind.TheVariants.{DoubleMaterial, DoubleUnit, DoubleRates}
use Rattle.text_rules.specs.declared.TextKind.TheVariants.{TooMany, LowAboveHigh, UnknownMaterial}
use Rattle.text_rules.specs.declared.TextKind.TheVariants.{NoRates, NoProduct, DoubleExclusion}
use Rattle.text_rules.specs.declared.TextKind.TheVariants.{DoubleMember, FewMembers, UnknownUnit}
use Rattle.text_rules.specs.Fault.{Fault}
use Rattle.text_rules.specs.Value.{read_text}
use Rattle.text_rules.proofs.Texts.{First, Read}

-- the first line
file_types : List (List ℕ)
file_types =
    []
    ∷ (239 ∷ 187 ∷ 191 ∷ [])
    ∷ (10 ∷ codes "file_type=PNS_problem_v1")
    ∷ codes "file_type = PNS_problem_v1"
    ∷ codes "file_type=PNS_problem_v2"
    ∷ codes "materials:"
    ∷ (239 ∷ 187 ∷ 191 ∷ 239 ∷ 187 ∷ 191 ∷ codes "file_type=PNS_problem_v1")
    ∷ codes "#file_type=PNS_problem_v1"
    ∷ (codes " # a remark" ++ 10 ∷ codes "file_type=PNS_problem_v1")
    ∷ []

file_types_told : map read_text file_types ≡ map (λ text. Err (1, FileType)) file_types
unfolding file_types
file_types_told = refl

-- sections, their order, and the ends of lines
section_rows : List (List (List ℕ) × Fault)
section_rows =
    (codes "name" ∷ [], (2, BadLine))
    ∷ (codes "A:" ∷ [], (2, UnknownSection))
    ∷ (codes "foo :" ∷ [], (2, UnknownSection))
    ∷ (codes "exclusions:" ∷ [], (2, UnknownSection))
    ∷ ((codes "x" ++ 13 ∷ 32 ∷ []) ∷ [], (2, BadLine))
    ∷ ((11 ∷ []) ∷ [], (2, BadLine))
    ∷ (codes "materials:" ∷ codes "P: product" ∷ codes "materials:" ∷ [], (4, DoubleSection))
    ∷ (codes "defaults :" ∷ codes "defaults:" ∷ codes "foo:" ∷ [], (3, DoubleSection))
    ∷ (codes "foo:" ∷ codes "foo:" ∷ [], (2, UnknownSection))
    ∷ ([] ∷ codes "materials:" ∷ [] ∷ [] ∷ codes "9" ∷ [], (6, BadName))
    ∷ (
      codes "a b = c:d" ∷ codes "=" ∷ codes "materials:" ∷ codes "A" ∷ [] ∷ [] ∷ [],
      (8, NoProduct),
    )
    ∷ (codes "materials:" ∷ codes "A: raw_material" ∷ (13 ∷ []) ∷ [], (5, NoProduct))
    ∷ []

sections_told : First section_rows
unfolding section_rows
sections_told = refl

-- remarks are counted; a number sign after other text makes no remark
remark_rows : List (List (List ℕ) × Fault)
remark_rows =
    (codes "# a remark" ∷ codes "name" ∷ [], (3, BadLine))
    ∷ (codes "name # a remark" ∷ [], (2, BadLine))
    ∷ ((13 ∷ codes "# a remark") ∷ [], (2, BadLine))
    ∷ (
      codes "materials:" ∷ codes "# A: foo=1" ∷ (32 ∷ 9 ∷ codes "#") ∷ codes "9" ∷ [],
      (5, BadName),
    )
    ∷ (codes "materials:" ∷ codes "A # a remark" ∷ [], (3, BadName))
    ∷ (codes "materials:" ∷ codes "A: # a remark" ∷ [], (3, UnknownKind))
    ∷ (codes "materials:" ∷ codes "A: raw_material # a remark" ∷ [], (3, UnknownKind))
    ∷ (codes "materials: # a remark" ∷ [], (2, BadLine))
    ∷ (codes "materials:" ∷ codes "#materials:" ∷ codes "# P: product" ∷ [], (5, NoProduct))
    ∷ []

remarks_told : First remark_rows
unfolding remark_rows
remarks_told = refl

-- names that are repeated, and faults of form before those of meaning
order_rows : List (List (List ℕ) × Fault)
order_rows =
    (codes "defaults:" ∷ codes "material_price=1" ∷ codes "material_price=x" ∷ [], (4, DoubleKey))
    ∷ (codes "defaults:" ∷ codes "payout_period=2" ∷ codes "payout_period=0" ∷ [], (4, DoubleKey))
    ∷ (codes "materials:" ∷ codes "A" ∷ codes "A: product" ∷ [], (4, DoubleMaterial))
    ∷ (codes "materials:" ∷ codes "A" ∷ codes "A: foo=1" ∷ [], (4, UnknownKey))
    ∷ (codes "operating_units:" ∷ codes "U" ∷ codes "U" ∷ [], (4, DoubleUnit))
    ∷ (
      codes "material_to_operating_unit_flow_rates:" ∷ codes "U: A => P" ∷ codes "U: B => P" ∷ [],
      (4, DoubleRates),
    )
    ∷ (
      codes "material_to_operating_unit_flow_rates:" ∷ codes "U: A => P" ∷ codes "U: B + B => P"
          ∷ [],
      (4, DoubleTerm),
    )
    ∷ (codes "mutual_exclusions:" ∷ codes "X: U, V" ∷ codes "X: U, V" ∷ [], (4, DoubleExclusion))
    ∷ (codes "mutual_exclusions:" ∷ codes "X: U, V" ∷ codes "X: U, U" ∷ [], (4, DoubleExclusion))
    ∷ (
      codes "materials:" ∷ codes "P: product, flow_rate_lower_bound=2, flow_rate_upper_bound=1"
          ∷ codes "P" ∷ [],
      (4, DoubleMaterial),
    )
    ∷ (
      codes "materials:" ∷ codes "A: flow_rate_lower_bound=2, flow_rate_upper_bound=1" ∷ [],
      (3, LowAboveHigh),
    )
    ∷ (
      codes "operating_units:" ∷ codes "U: capacity_lower_bound=2, capacity_upper_bound=1" ∷ [],
      (3, LowAboveHigh),
    )
    ∷ (
      codes "material_to_operating_unit_flow_rates:" ∷ codes "U: A => P" ∷ [],
      (3, UnknownMaterial),
    )
    ∷ (
      codes "materials:" ∷ codes "P: product" ∷ codes "operating_units:" ∷ codes "U" ∷ [],
      (5, NoRates),
    )
    ∷ (codes "materials:" ∷ codes "A" ∷ [] ∷ [] ∷ [], (6, NoProduct))
    ∷ ([], (2, NoProduct))
    ∷ []

order_told : First order_rows
unfolding order_rows
order_told = refl

-- defaults, wherever they are
default_rows : List (List (List ℕ) × Fault)
default_rows = (
  codes "materials:" ∷ codes "P: product" ∷ codes "defaults:"
      ∷ codes "material_flow_rate_upper_bound=1" ∷ codes "material_flow_rate_lower_bound=2" ∷ [],
  (3, LowAboveHigh),
)
    ∷ (
      codes "materials:" ∷ codes "P: product" ∷ codes "defaults:"
          ∷ codes "operating_unit_capacity_upper_bound=1"
          ∷ codes "operating_unit_capacity_lower_bound=2"
          ∷ codes "material_to_operating_unit_flow_rates:" ∷ codes "U: Q => P" ∷ [],
      (8, LowAboveHigh),
    )
    ∷ (
      codes "defaults:" ∷ codes "material_flow_rate_lower_bound=-1" ∷ codes "materials:"
          ∷ codes "P: product, flow_rate_lower_bound=1" ∷ [],
      (3, Negative),
    )
    ∷ []

defaults_told : First default_rows
unfolding default_rows
defaults_told = refl

-- exclusions of three units that have rates lines
with_units : List (List ℕ) → List (List ℕ)
with_units lines = codes "materials:" ∷ codes "A: raw_material" ∷ codes "P: product"
    ∷ codes "material_to_operating_unit_flow_rates:"
    ∷ codes "U1: A => P" ∷ codes "U2: A => P" ∷ codes "U3: A => P" ∷ codes "mutual_exclusions:"
    ∷ lines

exclusion_rows : List (List (List ℕ) × Fault)
exclusion_rows =
    (with_units (codes "X: U1, Q" ∷ []), (10, UnknownUnit))
    ∷ (with_units (codes "X: U1, U2" ∷ codes "Y: A, P" ∷ []), (11, UnknownUnit))
    ∷ (with_units (codes "X: U1, Q" ∷ codes "X: U1, U2" ∷ []), (11, DoubleExclusion))
    ∷ (with_units (codes "X: U1" ∷ []), (10, FewMembers))
    ∷ (with_units (codes "X: U1, U1" ∷ []), (10, DoubleMember))
    ∷ []

exclusions_told : First exclusion_rows
unfolding exclusion_rows with_units
exclusions_told = refl

-- texts without a fault
good_rows : List (List (List ℕ))
good_rows =
    (codes "materials :" ∷ codes "P : product" ∷ [])
    ∷ ((9 ∷ codes "materials:" ++ 32 ∷ 9 ∷ 13 ∷ []) ∷ (codes "  P: product" ++ 13 ∷ [])
    ∷ (32 ∷ 9 ∷ []) ∷ [])
    ∷ (codes "# a remark" ∷ codes "materials:" ∷ (32 ∷ 9 ∷ codes "# what is made")
    ∷ codes "P: product" ∷ (35 ∷ 13 ∷ []) ∷ codes "#P: product" ∷ [])
    ∷ (codes "materials:" ∷ codes "P: product, price=000000000000000000000000000001" ∷ [])
    ∷ (codes "materials:" ∷ codes "P: product, price=-1e9" ∷ [])
    ∷ (codes "materials:" ∷ codes "P: product, flow_rate_lower_bound=-0" ∷ [])
    ∷ (codes "materials:"
    ∷ codes "a234567890123456789012345678901234567890123456789012345678901234: product" ∷ [])
    ∷ (codes "materials:" ∷ codes "P: product" ∷ codes "operating_units:"
    ∷ codes "material_to_operating_unit_flow_rates:" ∷ codes "mutual_exclusions:"
    ∷ codes "measurement_units:" ∷ codes "defaults:" ∷ [])
    ∷ (codes "materials:" ∷ codes "P: product, flow_rate_upper_bound=5" ∷ codes "defaults:"
    ∷ codes "operating_unit_capacity_lower_bound=9"
    ∷ codes "operating_unit_capacity_upper_bound=2" ∷ codes "material_flow_rate_lower_bound=2"
    ∷ [])
    ∷ (codes "payout_period=x" ∷ codes "measurement_units:" ∷ codes "payout_period=0"
    ∷ codes "materials:" ∷ codes "P: product" ∷ [])
    ∷ with_units (codes "X: U3, U1, U2" ∷ codes "A: U2, U1" ∷ [])
    ∷ []

good_read : Read good_rows
unfolding good_rows with_units
good_read = refl

-- n lines, each with a name of two letters and then this text
named_lines : ℕ → ℕ → List ℕ → List (List ℕ)
named_lines from n text =
    map (λ k. 77 ∷ (65 + k / 26) ∷ (65 + k % 26) ∷ text) (range_with_len from n)

-- the 257th material, the 129th unit with half of them in each section, and the 65th exclusion
many_rows : List (List (List ℕ) × Fault)
many_rows =
    (codes "materials:" ∷ named_lines 0 256 [], (259, NoProduct))
    ∷ (codes "materials:" ∷ named_lines 0 257 [], (259, TooMany))
    ∷ (codes "materials:" ∷ named_lines 0 256 [] ++ codes "MAA" ∷ [], (259, DoubleMaterial))
    ∷ (codes "operating_units:" ∷ named_lines 0 129 [], (131, TooMany))
    ∷ (
      codes "operating_units:" ∷ named_lines 0 100 []
          ++ codes "material_to_operating_unit_flow_rates:" ∷ named_lines 50 79 (codes ": A => B"),
      (182, TooMany),
    )
    ∷ (
      codes "material_to_operating_unit_flow_rates:" ∷ named_lines 0 128 (codes ": A => B")
          ++ codes "operating_units:" ∷ codes "MAA" ∷ codes "MAA" ∷ [],
      (133, DoubleUnit),
    )
    ∷ (codes "mutual_exclusions:" ∷ named_lines 0 65 (codes ": U, V"), (67, TooMany))
    ∷ (
      codes "mutual_exclusions:" ∷ named_lines 0 64 (codes ": U, V") ++ codes "MAA: U" ∷ [],
      (67, TooMany),
    )
    ∷ (
      codes "mutual_exclusions:" ∷ named_lines 0 64 (codes ": U, V") ++ codes "MAA" ∷ [],
      (67, BadLine),
    )
    ∷ (
      codes "mutual_exclusions:" ∷ named_lines 0 64 (codes ": U, V") ++ codes "9: U" ∷ [],
      (67, BadName),
    )
    ∷ (codes "mutual_exclusions:" ∷ named_lines 0 64 (codes ": U, V"), (3, UnknownUnit))
    ∷ []

many_told : First many_rows
unfolding many_rows named_lines
many_told = refl

-- 128 units make a problem
full_rows : List (List (List ℕ))
full_rows =
    (codes "materials:" ∷ codes "A: raw_material" ∷ codes "P: product"
    ∷ codes "material_to_operating_unit_flow_rates:" ∷ named_lines 0 128 (codes ": A => P")) ∷ []

full_read : Read full_rows
unfolding full_rows named_lines
full_read = refl
