-- What the call answers for a set of units, and what it promises of each answer.
use Rattle.std.specs.Prelude.{◌≡◌, ℕ, ℤ, List}
use Rattle.dual_simplex.specs.integer_laws.Range.{InRange}
use Rattle.dual_simplex.specs.problem_rules.Each.{Each}
use Rattle.dual_simplex.specs.problem_rules.Problem.{Problem}
use Rattle.dual_simplex.specs.flow_rules.Net.{net_of}
use Rattle.node_evaluation.specs.tree_rules.Claim.{Network}
use Rattle.dual_simplex.specs.flow_rules.declared.place.Column.{Column}
use Rattle.dual_simplex.specs.flow_rules.declared.place.Place.{Place}
use Rattle.node_evaluation.specs.tree_rules.Known.{KnowsColumn, KnowsPlace}
use Rattle.dual_simplex.specs.flow_rules.PastPlace.{IsPastNamed}
use Rattle.node_evaluation.specs.tree_rules.LeastFlows.{decided, IsLeastFlows, HasNoFlows}
use Rattle.flow_evaluator.specs.declared.answer.StructureFlows.{StructureFlows}
use Rattle.flow_evaluator.specs.declared.answer.StructureFlows.TheVariants.{Least, Refuted, Past}

-- the network is one of these units
pub record IsLeastFor (p : Problem) (us : List ℕ) (w : Network) (d : ℤ) (ys : List ℤ) : Type 0 where
  pub units_are : w.units ≡ us
  pub d_in_range : InRange d
  pub flows : IsLeastFlows p w d ys

-- a number overflows at the place, at the basis that leaves the columns out, and both have names
pub record IsPastFor (p : Problem) (us : List ℕ) (nonbasic : List Column) (place : Place) : Type
    0 where
  pub past : IsPastNamed (net_of p) (decided p us) nonbasic place
  pub columns : Each (KnowsColumn p) nonbasic
  pub known : KnowsPlace p place

abbrev pub AnswersFor : Problem → List ℕ → StructureFlows → Type 0
AnswersFor p us (Least network bound) = IsLeastFor p us network bound.d bound.ys
AnswersFor p us (Refuted ys) = HasNoFlows p us ys
AnswersFor p us (Past nonbasic place) = IsPastFor p us nonbasic place
