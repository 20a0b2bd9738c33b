-- The search for a name from the front of a list: the names that remain, and how many were passed.
use Rattle.std.proofs.Common.{◌≡◌, ◌+◌, ℕ, List}
use Rattle.edit_laws.specs.problem_rules.Names.{is_among}
use Rattle.edit_laws.specs.edit_rules.Place.{place_of}

pub record IsSought (passed : ℕ) (name : List ℕ) (names rest : List (List ℕ)) : Type 0 where
  pub known : is_among rest name ≡ is_among names name
  pub place : passed + place_of rest name ≡ place_of names name
