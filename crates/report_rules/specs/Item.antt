-- Which item of the problem a line of its text is of, and which warnings are of the item.
use Rattle.std.specs.Prelude.{ℕ, ◌+◌, Bool, ◌||◌, List, [], ◌∷◌, Option, Some, None, option_map}
use Rattle.std.specs.Prelude.{filter, if◌then◌else◌}
use Rattle.std.specs.Str.{bytes_eq}
use Rattle.rank_rules.specs.problem_rules.Problem.{Problem, material_at, unit_at, exclusion_at}
use Rattle.rank_rules.specs.problem_rules.Problem.{material_names}
use Rattle.rank_rules.specs.problem_rules.Problem.{unit_names, exclusion_names}
use Rattle.rank_rules.specs.problem_rules.Names.{is_among}
use Rattle.rank_rules.specs.text_rules.declared.Section.{Section}
use Rattle.rank_rules.specs.text_rules.declared.Section.TheVariants as sections
use Rattle.report_rules.specs.declared.item.Item.{Item}
use Rattle.report_rules.specs.declared.item.Item.TheVariants as items
use Rattle.report_rules.specs.declared.warning.Warning.{Warning}
use Rattle.report_rules.specs.declared.warning.Warning.TheVariants.{NoNetwork, UnusedMaterial}
use Rattle.report_rules.specs.declared.warning.Warning.TheVariants.{NoDemand, DefaultCapacity, Free}
use Rattle.report_rules.specs.declared.warning.Warning.TheVariants.{FreeRaw, NoLimit, Twins}
use Rattle.report_rules.specs.declared.warning.Warning.TheVariants.{FineRates, Alone}
use Rattle.report_rules.specs.Warned.{material_stands, unit_stands, rates_stand, exclusion_stands}

-- the number of the first of the names that is this one, if the first name has number k
abbrev pub number_from : ℕ → List (List ℕ) → List ℕ → Option ℕ
number_from k [] name = None
number_from k (word ∷ words) name =
    if bytes_eq word name then Some k else number_from (k + 1) words name

abbrev pub number_of : List (List ℕ) → List ℕ → Option ℕ
number_of names name = number_from 0 names name

-- a line of rates is of a unit that has a line of its own, or that has none
abbrev pub rates_item : Bool → ℕ → Item
rates_item own u = if own then items.Rates u else items.BareUnit u

-- The item that a line of the section is of, by the name with which the line begins; `own` are the
-- names of the units that have a line of their own.
abbrev pub item_at : Problem → List (List ℕ) → Section → List ℕ → Option Item
item_at p own sections.Materials name =
    option_map (λ x. items.Material x) (number_of (material_names p.materials) name)
item_at p own sections.OperatingUnits name =
    option_map (λ u. items.Unit u) (number_of (unit_names p.units) name)
item_at p own sections.Rates name =
    option_map (rates_item (is_among own name)) (number_of (unit_names p.units) name)
item_at p own sections.Exclusions name =
    option_map (λ k. items.Exclusion k) (number_of (exclusion_names p.exclusions) name)
item_at p own section name = None

abbrev pub name_of : Problem → Item → List ℕ
name_of p (items.Material x) = (material_at p x).name
name_of p (items.Unit u) = (unit_at p u).name
name_of p (items.Rates u) = (unit_at p u).name
name_of p (items.BareUnit u) = (unit_at p u).name
name_of p (items.Exclusion k) = (exclusion_at p k).name

-- Whether a kind of warning is due at an item. A unit is warned of at its own line and at its line
-- of rates; a unit that has only the second, at that one.
abbrev pub stands : Problem → (ℕ → Bool) → Item → Warning → Bool
stands p s (items.Material x) kind = material_stands p s x kind
stands p s (items.Unit u) kind = unit_stands p s u kind
stands p s (items.Rates u) kind = rates_stand p u kind
stands p s (items.BareUnit u) kind = unit_stands p s u kind || rates_stand p u kind
stands p s (items.Exclusion k) kind = exclusion_stands p s k kind

-- all kinds, in the order in which those of one line are printed
abbrev pub kinds : List Warning
kinds = NoNetwork ∷ UnusedMaterial ∷ NoDemand ∷ DefaultCapacity ∷ Free ∷ FreeRaw ∷ NoLimit ∷ Twins
    ∷ FineRates ∷ Alone ∷ []

-- the warnings of an item
abbrev pub warnings_of : Problem → (ℕ → Bool) → Item → List Warning
warnings_of p s item = filter (stands p s item) kinds
