-- `table FILE TREE`: the network of the claim as two tables with an empty line between them.
use Rattle.std.specs.Prelude.{◌≡◌, ◌++◌, ℕ, List, [], ◌∷◌, map}
use Rattle.csv.specs.Writing.{default_writer, row_text}
use Rattle.report_rules.specs.problem_rules.Problem.{Problem}
use Rattle.report_rules.specs.tree_rules.Claim.{Network}
use Rattle.report_rules.specs.Table.{AreUnitRows, AreMaterialRows, unit_heading, material_heading}
use Rattle.studio_rules.specs.Lines.{line}
use Rattle.studio_rules.specs.declared.status.Status.{Status}
use Rattle.studio_rules.specs.declared.status.Status.TheVariants.{Done}

-- Each line with its line feed is a record of the one table, the line feed alone, or a record of
-- the other table.
pub record AreTables (p : Problem) (w : Network) (lines : List (List ℕ)) : Type 0 where
  pub units : List (List (List ℕ))
  pub materials : List (List (List ℕ))
  pub unit_rows : AreUnitRows p w units
  pub material_rows : AreMaterialRows p w materials
  pub lines_are : map line lines ≡ map (row_text default_writer) (unit_heading ∷ units) ++ line []
      ∷ map (row_text default_writer) (material_heading ∷ materials)

abbrev pub TableWork : Problem → Network → Status → List (List ℕ) → Type 0
TableWork p w Done lines = AreTables p w lines
TableWork p w status lines = ⊥
