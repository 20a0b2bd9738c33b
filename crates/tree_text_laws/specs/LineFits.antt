-- What a line can have: numbers in range, counts up to 2^32 - 1, up to 2^128 - 1 options, and ends
-- and places that a problem knows with such counts.
use Rattle.std.specs.Prelude.{◌≡◌, ℕ, ℤ, pos, ◌≤◌, ◌≤ℤ◌, ◌^◌, ◌-◌, List, [], length}
use Rattle.tree_text_rules.specs.integer_laws.Range.{InRange}
use Rattle.tree_text_rules.specs.problem_rules.Each.{Each}
use Rattle.tree_text_rules.specs.problem_rules.Problem.{Problem}
use Rattle.tree_text_rules.specs.flow_rules.declared.place.Place.{Place}
use Rattle.tree_text_rules.specs.flow_rules.declared.place.Place.TheVariants as places
use Rattle.tree_text_rules.specs.tree_rules.Ways as ways
use Rattle.tree_text_rules.specs.tree_rules.Tree as trees
use Rattle.tree_text_rules.specs.tree_rules.Leaf as leaves
use Rattle.tree_text_rules.specs.tree_rules.Known.{KnowsEnd, KnowsPlace}
use Rattle.tree_text_rules.specs.tree_rules.Head.{HeadLine}
use Rattle.tree_text_rules.specs.tree_rules.HeadKnown.{KnowsLine}
use Rattle.tree_text_rules.specs.Spelling.{covers_in, sets_in}

-- the number of a node or of a step, or how many children a branch has
abbrev pub IsCount : ℕ → Type 0
IsCount n = n ≤ 4294967295

abbrev pub IsSomeCount : ℕ → Type 0
IsSomeCount n = (1 ≤ n) × IsCount n

-- how many options there are
abbrev pub IsOptionCount : ℕ → Type 0
IsOptionCount n = n ≤ 2 ^ 128 - 1

-- the weight of a set
abbrev pub IsWeight : ℤ → Type 0
IsWeight z = InRange z × (pos 0 ≤ℤ z)

-- what sizes and cost are over
abbrev pub IsDenominator : ℤ → Type 0
IsDenominator z = InRange z × (pos 1 ≤ℤ z)

-- the divisor of sizes, and this many sizes
abbrev pub FitsSizes : ℕ → ℤ × List ℤ → Type 0
FitsSizes count c = (IsDenominator c.0 × Each InRange c.1) × (length c.1 ≡ count)

abbrev pub CountsEnd : trees.End leaves.Leaf → Type 0
CountsEnd (trees.branch (ways.at_material x c)) = IsCount c
CountsEnd (trees.branch (ways.either u)) = Unit {0}
CountsEnd (trees.leaf l) = Unit {0}

pub record FitsEnd (p : Problem) (end : trees.End leaves.Leaf) : Type 0 where
  pub known : KnowsEnd p end
  pub some : trees.HasChildren end
  pub counted : CountsEnd end

-- an end that its first line says whole: no set follows it
pub record FitsEndLine (p : Problem) (end : trees.End leaves.Leaf) : Type 0 where
  pub fits : FitsEnd p end
  pub bare : covers_in end ≡ []

-- a line of a head that its first line says whole
pub record FitsFrontLine (p : Problem) (line : HeadLine) : Type 0 where
  pub known : KnowsLine p line
  pub bare : sets_in line ≡ []

abbrev pub CountsPlace : Place → Type 0
CountsPlace (places.Entry leave enter row column which) = Unit {0}
CountsPlace (places.Flow unit which) = Unit {0}
CountsPlace (places.Cost at) = IsCount at
CountsPlace (places.FlowSum at) = IsCount at
CountsPlace (places.Bound at) = IsCount at
CountsPlace (places.Refute row at) = IsCount at

pub record FitsPlace (p : Problem) (place : Place) : Type 0 where
  pub known : KnowsPlace p place
  pub counted : CountsPlace place
