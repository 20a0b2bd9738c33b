-- What contracts see of a listing that is under way: what is still to come is the listing after the
-- structure given last.
use Rattle.std.specs.Prelude.{ℕ, List, Option}
use Rattle.pgraph.specs.number_sets.Sets.{has}
use Rattle.pgraph.specs.pns_rules.Shape.{Shape}
use Rattle.pgraph.specs.pns_rules.Listing.{IsLater, IsListed, IsListing}
use Rattle.pgraph.specs.Tables.{Tables, shape}
use Rattle.structure_list.specs.declared.position.Position.{Position}
use Rattle.structure_list.specs.Stack.{InStack, IsStack}

pub record Rest : Type 0 where
  pub graph : Tables
  pub last : Option (List ℕ)

-- xs is what is still to come
abbrev pub IsToCome : Rest → List (List ℕ) → Type 0
IsToCome r xs = IsListing (shape r.graph) r.last xs

-- what a list that is under way keeps: the structures of its positions are those that are listed
pub record IsUnderWay (g : Shape) (ps : List Position) (last : Option (List ℕ)) : Type 0 where
  pub stack : IsStack g ps
  pub has_all : (s : List ℕ) → IsListed g last s → InStack g ps (has s)
  pub no_more : (s : List ℕ) → InStack g ps (has s) → IsLater g last (has s)
