-- A problem with the units of its maximal structure, and the items that it has.
use Rattle.std.specs.Prelude.{ℕ, ◌<◌, List, length}
use Rattle.text_lines.specs.problem_rules.Problem.{Problem}
use Rattle.command_files.specs.report_rules.declared.item.Item.{Item}
use Rattle.command_files.specs.report_rules.declared.item.Item.TheVariants as items

pub record Judged : Type 0 where
  pub problem : Problem
  pub units : List ℕ

-- the problem has the item
abbrev pub IsKnown : Problem → Item → Type 0
IsKnown p (items.Material x) = x < length p.materials
IsKnown p (items.Unit u) = u < length p.units
IsKnown p (items.Rates u) = u < length p.units
IsKnown p (items.BareUnit u) = u < length p.units
IsKnown p (items.Exclusion k) = k < length p.exclusions
