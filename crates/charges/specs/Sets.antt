-- The covers as the code has them.
use Rattle.std.specs.Prelude.{ℕ, ◌<◌, ℤ, ◌+ℤ◌, ◌++◌, List, map, IfSome}
use Rattle.std.specs.List.{AllByRecursion}
use Rattle.structure_list.specs.flow_rules.Cover as rules
use Rattle.structure_list.specs.flow_rules.ChargeSteps.{beside_steps}
use Rattle.structure_list.specs.pgraph.declared.cover.Cover.{Cover}

-- a unit beside a set is below 128
abbrev pub IsBesideSmall : Cover → Type 0
IsBesideSmall c = IfSome c.beside (λ u. u < 128)

abbrev pub AreBesideSmall : List Cover → Type 0
AreBesideSmall cs = AllByRecursion IsBesideSmall cs

-- the steps for what one set pays
abbrev pub cover_steps : (ℕ → ℤ) → rules.Cover → List ℤ
cover_steps before c =
    map (λ i. before i +ℤ c.weight) c.units ++ beside_steps before c.weight c.beside
