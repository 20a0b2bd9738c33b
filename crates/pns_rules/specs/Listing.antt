-- The listing of the solution structures in the order of their traces. It is the solution structure
-- generation of Friedler, Tarjan, Huang and Fan 1992, with an order of this program.
use Rattle.std.specs.Prelude.{ℕ, Bool, List, [], ◌∷◌, Option, Some, None}
use Rattle.number_sets.specs.Sets.{has, IsRising}
use Rattle.number_sets.specs.Options.{IsIn}
use Rattle.pns_rules.specs.Shape.{Shape}
use Rattle.pns_rules.specs.Structure.{IsStructure, IsAllowed}
use Rattle.pns_rules.specs.Trace.{IsBefore}

-- s comes after the unit set `after`; without an `after` each set does
abbrev pub IsLater : Shape → Option (List ℕ) → (ℕ → Bool) → Type 0
IsLater g None s = Unit {0}
IsLater g (Some after) s = IsBefore g (has after) s

-- what is listed after `after`: each clash-free solution structure that comes later; `after` itself
-- may clash
pub record IsListed (g : Shape) (after : Option (List ℕ)) (s : List ℕ) : Type 0 where
  pub rising : IsRising s
  pub meets : IsStructure g (has s)
  pub allowed : IsAllowed g (has s)
  pub later : IsLater g after (has s)

-- s is before each
abbrev pub IsBeforeAll : Shape → List ℕ → List (List ℕ) → Type 0
IsBeforeAll g s [] = Unit {0}
IsBeforeAll g s (t ∷ ts) = IsBefore g (has s) (has t) × IsBeforeAll g s ts

-- each is before all that come after it
abbrev pub IsInOrder : Shape → List (List ℕ) → Type 0
IsInOrder g [] = Unit {0}
IsInOrder g (s ∷ ss) = IsBeforeAll g s ss × IsInOrder g ss

-- the listing after `after`: all that is listed, nothing else, and each before the next, so each
-- once
pub record IsListing (g : Shape) (after : Option (List ℕ)) (xs : List (List ℕ)) : Type 0 where
  pub in_order : IsInOrder g xs
  pub has_all : (s : List ℕ) → IsListed g after s → IsIn s xs
  pub no_more : (s : List ℕ) → IsIn s xs → IsListed g after s
