-- Laws of the definitions. Each is the contract of a public function of this crate.
use Rattle.std.specs.Prelude.{◌≡◌, ℕ, ◌<◌, Bool, true, false, List, ◌∷◌, ◌++◌, Option, Some, ◌↔◌}
use Rattle.std.specs.Prelude.{◌⊎◌}
use Rattle.number_sets.specs.Sets.{Avoids}
use Rattle.number_sets.specs.Options.{IsIn, IsAscending}
use Rattle.problem_rules.specs.Problem.{Problem}
use Rattle.problem_rules.specs.Validity.{IsValid}
use Rattle.pns_rules.specs.Shape.{Shape, shape_of, IsProper}
use Rattle.pns_rules.specs.Trace.{Pair, IsTrace, IsBefore, IsWalk, HasMakers, next_material}
use Rattle.pns_rules.specs.Listing.{IsListing}
use Rattle.pns_rules.specs.Structure.{IsStructure, InFamily, Clashes, both, is_needed}
use Rattle.pns_rules.specs.Nodes.{Node, Step, IsPossible, after, IsOption, options, child}
use Rattle.pns_rules.specs.Ends.{IsDead}

-- the shape of each valid problem is proper
abbrev pub ValidIsProper : Type 0
ValidIsProper = (p : Problem) → IsValid p → IsProper (shape_of p)

-- ---- structures and traces

-- the union of two solution structures is one
abbrev pub StructuresUnite : Type 0
StructuresUnite = (g : Shape) (s t : ℕ → Bool) → IsStructure g s → IsStructure g t
    → IsStructure g (both s t)

-- each unit set has a trace, and no other
abbrev pub TracesExist : Type 0
TracesExist = (g : Shape) (s : ℕ → Bool) → (t : List Pair) × IsTrace g s t

abbrev pub TracesAreUnique : Type 0
TracesAreUnique = (g : Shape) (s : ℕ → Bool) (t t' : List Pair) → IsTrace g s t → IsTrace g s t'
    → t ≡ t'

-- two solution structures with equal traces are equal
abbrev pub TracesTell : Type 0
TracesTell = (g : Shape) (s s' : ℕ → Bool) (t : List Pair) → IsProper g → IsStructure g s
    → IsStructure g s' → IsTrace g s t → IsTrace g s' t → (u : ℕ) → s u ≡ s' u

-- ---- the order of structures

-- no set is before itself
abbrev pub OrderIsStrict : Type 0
OrderIsStrict = (g : Shape) (s : ℕ → Bool) → IsBefore g s s → ⊥

abbrev pub OrderIsTransitive : Type 0
OrderIsTransitive = (g : Shape) (s t v : ℕ → Bool) → IsBefore g s t → IsBefore g t v
    → IsBefore g s v

-- of two solution structures one is before the other, or they have the same units
abbrev pub OrderIsTotal : Type 0
OrderIsTotal =
    (g : Shape) (s t : ℕ → Bool) → IsProper g → IsStructure g s → IsStructure g t
    → ((u : ℕ) → s u ≡ t u) ⊎ (IsBefore g s t ⊎ IsBefore g t s)

-- Of two sets whose traces begin with the same pairs, and whose makers of the next material differ
-- at u and at no greater unit, the one without u is before the other.
abbrev pub TracesBranch : Type 0
TracesBranch =
    (g : Shape) (s t : ℕ → Bool) (pairs : List Pair) (x u : ℕ) → IsWalk g pairs
    → HasMakers g s pairs → HasMakers g t pairs
    → next_material g pairs ≡ Some x → u < g.units → g.makes u x ≡ true → s u ≡ false → t u ≡ true
    → ((v : ℕ) → u < v → v < g.units → g.makes v x ≡ true → s v ≡ t v) → IsBefore g s t

-- ---- the listing

-- there is a listing, and no other
abbrev pub ListingExists : Type 0
ListingExists = (g : Shape) (after : Option (List ℕ)) → IsProper g → (xs : List (List ℕ))
    × IsListing g after xs

abbrev pub ListingIsUnique : Type 0
ListingIsUnique = (g : Shape) (after : Option (List ℕ)) (xs ys : List (List ℕ))
    → IsListing g after xs → IsListing g after ys → xs ≡ ys

-- what comes after a structure of a listing is the listing after that structure
abbrev pub ListingResumes : Type 0
ListingResumes =
    (g : Shape) (after : Option (List ℕ)) (ys : List (List ℕ)) (z : List ℕ) (xs : List (List ℕ))
    → IsListing g after (ys ++ z ∷ xs) → IsListing g (Some z) xs

-- ---- steps and families

-- a possible step loses no structure and adds none
abbrev pub StepsKeepFamilies : Type 0
StepsKeepFamilies =
    (g : Shape) (n : Node) (step : Step) → IsProper g → IsPossible g n step → (o : ℕ → Bool)
    → InFamily g n.inside n.outside o
    ↔ InFamily g (after g n step).inside (after g n step).outside o

-- a node that clashes at an exclusion has an empty family
abbrev pub ClashesAreEmpty : Type 0
ClashesAreEmpty = (g : Shape) (n : Node) (k : ℕ) (o : ℕ → Bool) → Clashes g n.inside k
    → InFamily g n.inside n.outside o → ⊥

-- so has a node with a dead material
abbrev pub DeadAreEmpty : Type 0
DeadAreEmpty = (g : Shape) (n : Node) (x : ℕ) (o : ℕ → Bool) → IsProper g → IsDead g n x
    → InFamily g n.inside n.outside o → ⊥

-- ---- options and children

-- the list of options has just the options
abbrev pub OptionsAreAll : Type 0
OptionsAreAll =
    (g : Shape) (n : Node) (x : ℕ) (t : List ℕ) → IsProper g → Avoids n.inside n.outside
    → IsIn t (options g n x) ↔ IsOption g n x t

-- the list of options is in numeric order
abbrev pub OptionsAscend : Type 0
OptionsAscend = (g : Shape) (n : Node) (x : ℕ) → IsAscending (options g n x)

-- each structure of a node is in the family of the child of some option of a needed material, and
-- of no other
abbrev pub ChildrenCover : Type 0
ChildrenCover =
    (g : Shape) (n : Node) (x : ℕ) (o : ℕ → Bool) → IsProper g → is_needed g n.inside x ≡ true
    → InFamily g n.inside n.outside o
    → (t : List ℕ) × IsOption g n x t × InFamily g (child g n x t).inside (child g n x t).outside o

abbrev pub ChildrenAreApart : Type 0
ChildrenAreApart =
    (g : Shape) (n : Node) (x : ℕ) (o : ℕ → Bool) (t t' : List ℕ) → IsOption g n x t
    → IsOption g n x t'
    → InFamily g (child g n x t).inside (child g n x t).outside o
    → InFamily g (child g n x t').inside (child g n x t').outside o → t ≡ t'
