-- Each kind of fault together with its neighbours in the order: of several faults of a line the
-- least number is reported.
use Rattle.std.proofs.Common.{◌≡◌, ◌++◌, ℕ, List, [], ◌∷◌, codes, refl, true, false}
use Rattle.std.specs.Prelude.{replicate}
use Rattle.plan_rules.specs.declared.PlanKind.{PlanKind}
use Rattle.plan_rules.specs.declared.PlanKind.TheVariants.{FileType, BadLine, BadName, BadNumber}
use Rattle.plan_rules.specs.declared.PlanKind.TheVariants.{TooFine, TooLarge, Sign, DoubleLine}
use Rattle.plan_rules.specs.declared.PlanKind.TheVariants.{UnknownName, LowAboveHigh, NoPeriod}
use Rattle.plan_rules.specs.declared.PlanKind.TheVariants.{TooWide}
use Rattle.plan_rules.specs.Plan.{is_too_wide}
use Rattle.plan_rules.specs.Read.{Fault}
use Rattle.plan_rules.proofs.Texts.{text_of, body, Told, First}

-- one line in a period
lines : List (List ℕ × PlanKind)
lines =
    (codes "x", BadLine)
    ∷ (codes "period 1", BadLine)
    ∷ (codes "period ", BadLine)
    ∷ (codes " period", BadLine)
    ∷ (codes "period # 1", BadLine)
    ∷ (codes "price A 1 #", BadLine)
    ∷ (codes "price #A 1", BadName)
    ∷ (codes "price A", BadLine)
    ∷ (codes "price 9 1 x", BadLine)
    ∷ (codes "price  A 1", BadLine)
    ∷ (codes "bounds A 1", BadLine)
    ∷ (codes "fix U1 1", BadLine)
    ∷ (codes "price 9 x", BadName)
    ∷ (codes "bounds A,B x -1", BadName)
    ∷ (codes "price A x", BadNumber)
    ∷ (codes "bounds A 0.0000001 x", BadNumber)
    ∷ (codes "bounds A 1e10 0.0000001", TooFine)
    ∷ (codes "price A -1e10", TooLarge)
    ∷ (codes "bounds A -1 1e10", TooLarge)
    ∷ (codes "bounds Z 0 -1", Sign)
    ∷ (codes "price Z 1", UnknownName)
    ∷ (codes "price U1 1", UnknownName)
    ∷ (codes "bounds Z 2 1", UnknownName)
    ∷ (codes "bounds A 2 1", LowAboveHigh)
    ∷ []

lines_told : Told lines
unfolding lines
lines_told = refl

-- Whole texts. A fault of form is reported before each of meaning. A change before the first period
-- has no other fault, and a double line is found by names as they are written. What is missing or
-- too much is reported after the last line.
texts : List (List ℕ × Fault)
texts =
    ([], (1, FileType))
    ∷ (text_of (codes "file_type=PNS_edits_v1" ∷ codes "period" ∷ []), (1, FileType))
    ∷ (239 ∷ 187 ∷ 191 ∷ body (codes "period" ∷ []), (1, FileType))
    ∷ (10 ∷ body (codes "period" ∷ []), (1, FileType))
    ∷ (codes "# a remark" ++ 10 ∷ body (codes "period" ∷ []), (1, FileType))
    ∷ (body (codes "price A 1" ∷ codes "period" ∷ []), (2, BadLine))
    ∷ (body ([] ∷ codes "price 9 x" ∷ codes "period" ∷ []), (3, BadLine))
    ∷ (body (codes "# a remark" ∷ codes "price A 1" ∷ codes "period" ∷ []), (3, BadLine))
    ∷ (
      body (codes "period" ∷ codes "price A 1" ∷ (32 ∷ 9 ∷ codes "# price A 1") ∷ codes "#"
          ∷ codes "price A 1" ∷ []),
      (6, DoubleLine),
    )
    ∷ (body (codes "period" ∷ codes "price A 1" ∷ codes "price A 1" ∷ []), (4, DoubleLine))
    ∷ (body (codes "period" ∷ codes "price Z 1" ∷ codes "price Z 2" ∷ []), (4, DoubleLine))
    ∷ (body (codes "period" ∷ codes "price A 1" ∷ codes "price A x" ∷ []), (4, BadNumber))
    ∷ (
      body (codes "period" ∷ codes "bounds A 0 1" ∷ codes "price A 1" ∷ codes "bounds A 2 1" ∷ []),
      (5, DoubleLine),
    )
    ∷ (
      body (codes "period" ∷ codes "bounds P 0 1" ∷ codes "bounds A 0 1" ∷ codes "period"
          ∷ codes "bounds A 0 1" ∷ codes "bounds Z 0 1" ∷ []),
      (7, UnknownName),
    )
    ∷ (body (codes "period" ∷ codes "price Z 1" ∷ codes "x" ∷ []), (4, BadLine))
    ∷ (body (codes "period" ∷ codes "bounds A 2 1" ∷ codes "price Z 1" ∷ []), (3, LowAboveHigh))
    ∷ (body [], (2, NoPeriod))
    ∷ (codes "file_type=PNS_plan_v1", (2, NoPeriod))
    ∷ (body ([] ∷ [] ∷ []), (4, NoPeriod))
    ∷ (body (codes "# period" ∷ []), (3, NoPeriod))
    ∷ []

texts_first : First texts
unfolding texts
texts_first = refl

-- one unit and two materials leave room for 85 periods, 3 * 85 + 1 = 256
limits : (is_too_wide 1 2 85 ≡ false) × (is_too_wide 1 2 86 ≡ true) × (is_too_wide 64 2 1 ≡ false)
    × (is_too_wide 64 2 2 ≡ true) × (is_too_wide 65 2 1 ≡ true)
limits = (refl, refl, refl, refl, refl)

many : List (List ℕ × Fault)
many = (body (replicate 86 (codes "period")), (88, TooWide))
    ∷ (body (replicate 86 (codes "period") ++ [] ∷ codes "price Z 1" ∷ []), (89, UnknownName)) ∷ []

many_first : First many
unfolding many
many_first = refl
