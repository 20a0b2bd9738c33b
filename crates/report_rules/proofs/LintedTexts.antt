-- Texts and what is printed of them: one with each kind of warning, with its sections in another
-- order than the usual one and a remark, and one without any.
use Rattle.std.proofs.Common.{◌≡◌, ◌++◌, ℕ, Bool, List, [], ◌∷◌, flat_map, codes, refl, Result, Ok}
use Rattle.std.proofs.Common.{Err}
use Rattle.std.specs.Fmt.{digits}
use Rattle.rank_rules.specs.number_sets.Sets.{has}
use Rattle.rank_rules.specs.problem_rules.Problem.{Problem}
use Rattle.rank_rules.specs.text_rules.Fault.{Fault}
use Rattle.rank_rules.specs.text_rules.Value.{read_text}
use Rattle.report_rules.specs.declared.warning.Warning.{Warning}
use Rattle.report_rules.specs.declared.warning.Warning.TheVariants.{NoNetwork, UnusedMaterial}
use Rattle.report_rules.specs.declared.warning.Warning.TheVariants.{NoDemand, DefaultCapacity, Free}
use Rattle.report_rules.specs.declared.warning.Warning.TheVariants.{FreeRaw, NoLimit, Twins}
use Rattle.report_rules.specs.declared.warning.Warning.TheVariants.{FineRates, Alone}
use Rattle.report_rules.specs.Words.{sentence}
use Rattle.report_rules.specs.Lint.{lint_lines}

-- each line with its line feed, after the first line
text_of : List (List ℕ) → List ℕ
text_of lines = flat_map (λ line. line ++ 10 ∷ []) (codes "file_type=PNS_problem_v1" ∷ lines)

-- what is printed if the text has no fault
told : (ℕ → Bool) → List ℕ → Result Problem Fault → List (List ℕ)
told s bytes (Ok p) = lint_lines p s bytes
told s bytes (Err fault) = []

-- what is printed of the text; the units with these numbers are its maximal structure
linted : List ℕ → List (List ℕ) → List (List ℕ)
linted units lines = told (has units) (text_of lines) (read_text (text_of lines))

-- a first line with the sentence of its kind
record Wanted : Type 0 where
  first : List ℕ
  kind : Warning

wanted : List Wanted → List (List ℕ)
wanted = flat_map (λ one. one.first ∷ (32 ∷ 32 ∷ sentence one.kind) ∷ [])

odd_lines : List (List ℕ)
odd_lines =
    codes "mutual_exclusions:"
    ∷ codes "X: U, W"
    ∷ codes "Y: U, V"
    ∷ codes "materials:"
    ∷ codes "# Z: raw_material"
    ∷ codes "A: raw_material"
    ∷ codes "B: raw_material, price=1"
    ∷ codes "M: price=2"
    ∷ codes "N"
    ∷ codes "P: product"
    ∷ codes "operating_units:"
    ∷ codes "U: fix_cost=1"
    ∷ codes "V: capacity_upper_bound=5"
    ∷ codes "material_to_operating_unit_flow_rates:"
    ∷ codes "W: B => N"
    ∷ codes "V: M => 0.0005 P"
    ∷ codes "U: A => M"
    ∷ codes "Z: B => N"
    ∷ []

odd_told : linted (0 ∷ 1 ∷ []) odd_lines ≡ wanted (
    record { first = codes "line 3 Alone X"; kind = Alone }
    ∷ record { first = codes "line 7 FreeRaw A"; kind = FreeRaw }
    ∷ record { first = codes "line 8 UnusedMaterial B"; kind = UnusedMaterial }
    ∷ record { first = codes "line 9 NoLimit M"; kind = NoLimit }
    ∷ record { first = codes "line 10 UnusedMaterial N"; kind = UnusedMaterial }
    ∷ record { first = codes "line 11 NoDemand P"; kind = NoDemand }
    ∷ record { first = codes "line 13 DefaultCapacity U"; kind = DefaultCapacity }
    ∷ record { first = codes "line 14 Free V"; kind = Free }
    ∷ record { first = codes "line 16 NoNetwork W"; kind = NoNetwork }
    ∷ record { first = codes "line 16 Free W"; kind = Free }
    ∷ record { first = codes "line 17 FineRates V"; kind = FineRates }
    ∷ record { first = codes "line 19 NoNetwork Z"; kind = NoNetwork }
    ∷ record { first = codes "line 19 Free Z"; kind = Free }
    ∷ record { first = codes "line 19 Twins Z"; kind = Twins }
    ∷ []
    )
unfolding text_of told linted wanted odd_lines digits
odd_told = refl

-- the terms of twins are in any order; one differs in its rate, one in a bound, one in a cost
pair_lines : List (List ℕ)
pair_lines =
    codes "defaults:"
    ∷ codes "operating_unit_capacity_upper_bound=5"
    ∷ codes "operating_unit_proportional_cost=1"
    ∷ codes "operating_units:"
    ∷ codes "T4: capacity_lower_bound=1"
    ∷ codes "T5: proportional_cost=2"
    ∷ codes "material_to_operating_unit_flow_rates:"
    ∷ codes "T1: A + 2 B => P"
    ∷ codes "T2: A + B => P"
    ∷ codes "T3: 2 B + A => P"
    ∷ codes "T4: A + 2 B => P"
    ∷ codes "T5: A + 2 B => P"
    ∷ codes "materials:"
    ∷ codes "A: raw_material, price=1"
    ∷ codes "B: raw_material, price=1"
    ∷ codes "P: product, flow_rate_lower_bound=1"
    ∷ []

pair_told : linted (0 ∷ 1 ∷ 2 ∷ 3 ∷ 4 ∷ []) pair_lines
    ≡ wanted (record { first = codes "line 11 Twins T3"; kind = Twins } ∷ [])
unfolding text_of told linted wanted pair_lines digits
pair_told = refl

-- nothing is odd, also if a price above 0 has a bound and a rate has three decimals
plain_lines : List (List ℕ)
plain_lines =
    codes "materials:"
    ∷ codes "A: raw_material, price=1"
    ∷ codes "P: product, price=3, flow_rate_lower_bound=1, flow_rate_upper_bound=7"
    ∷ codes "operating_units:"
    ∷ codes "U: capacity_upper_bound=5, fix_cost=1"
    ∷ codes "material_to_operating_unit_flow_rates:"
    ∷ codes "U: A => 0.125 P"
    ∷ []

plain_told : linted (0 ∷ []) plain_lines ≡ codes "clean" ∷ []
unfolding text_of told linted wanted plain_lines digits
plain_told = refl
