-- `flows FILE UNITS`, if the units are a solution structure, clash-free or not: flows of least cost
-- for them with multipliers that prove it, or multipliers that refute all flows, or what overflows
-- on the way. Else the broken axiom, as `axioms` prints it. The lines are those of a tree text.
use Rattle.std.specs.Prelude.{◌≡◌, ◌⊎◌, ◌++◌, ℕ, ℤ, List, [], ◌∷◌, Option, Some, None, length}
use Rattle.report_rules.specs.number_sets.Sets.{has, IsSet}
use Rattle.report_rules.specs.problem_rules.Problem.{Problem}
use Rattle.report_rules.specs.pns_rules.Shape.{shape_of}
use Rattle.report_rules.specs.pns_rules.Verdict.{Judges}
use Rattle.report_rules.specs.pns_rules.declared.verdict.Axiom.TheVariants.{S3}
use Rattle.report_rules.specs.pns_rules.declared.verdict.Verdict.{Verdict}
use Rattle.report_rules.specs.pns_rules.declared.verdict.Verdict.TheVariants.{Meets, Breaks}
use Rattle.report_rules.specs.flow_rules.declared.place.Column.{Column}
use Rattle.report_rules.specs.flow_rules.declared.place.Place.{Place}
use Rattle.report_rules.specs.tree_rules.Tree as trees
use Rattle.report_rules.specs.tree_rules.Leaf as leaves
use Rattle.report_rules.specs.tree_rules.Claim.{Network, IsSized}
use Rattle.report_rules.specs.tree_rules.Claim as claims
use Rattle.report_rules.specs.tree_text_rules.Spelling.{network_lines, claim_lines, end_line}
use Rattle.report_rules.specs.tree_text_rules.Spelling.{place_lines}
use Rattle.report_rules.specs.flow_rules.Net.{net_of}
use Rattle.report_rules.specs.flow_rules.PastPlace.{IsPastNamed}
use Rattle.report_rules.specs.tree_rules.LeastFlows.{decided, IsLeastFlows, HasNoFlows}
use Rattle.studio_rules.specs.Printed.{spelled}
use Rattle.studio_rules.specs.Axioms.{units_named, first_stranger, breaks_line, VerdictSays}
use Rattle.studio_rules.specs.declared.status.Status.{Status}
use Rattle.studio_rules.specs.declared.status.Status.TheVariants.{Done, Refused, Past}

-- the lines of the network, with one size for each unit in file order, and that of the bound
abbrev pub LeastLines : Problem → List ℕ → List (List ℕ) → Type 0
LeastLines p us lines =
    (w : Network) × (d : ℤ) × (ys : List ℤ) × (w.units ≡ us) × IsSized w × IsLeastFlows p w d ys
    × (lines
    ≡ spelled (network_lines p w ++ end_line p (trees.leaf (leaves.bounded d ys)) ∷ []))

-- `infeasible`, and the line of the refutation
abbrev pub NoneLines : Problem → List ℕ → List (List ℕ) → Type 0
NoneLines p us lines =
    (ys : List ℤ) × HasNoFlows p us ys
    × (lines
    ≡ spelled
    (claim_lines p claims.infeasible ++ end_line p (trees.leaf (leaves.refuted ys)) ∷ []))

-- the columns outside a basis, and what overflows at it
abbrev pub PastLines : Problem → List ℕ → List (List ℕ) → Type 0
PastLines p us lines = (nonbasic : List Column) × (place : Place)
    × IsPastNamed (net_of p) (decided p us) nonbasic place
    × (lines ≡ spelled (place_lines p nonbasic place))

-- what is said of the flows of a solution structure
abbrev pub FlowsSay : Problem → List ℕ → Status → List (List ℕ) → Type 0
FlowsSay p us Done lines = LeastLines p us lines ⊎ NoneLines p us lines
FlowsSay p us Past lines = PastLines p us lines
FlowsSay p us status lines = ⊥

-- of names that are all known
abbrev pub UnitsSay : List (List ℕ) → Problem → Verdict → Status → List (List ℕ) → Type 0
UnitsSay names p Meets status lines = (us : List ℕ) × IsSet (length p.units) us
    × (has us ≡ units_named p names) × FlowsSay p us status lines
UnitsSay names p (Breaks broken at) status lines = VerdictSays p (Breaks broken at) status lines

-- what is said of the names, given the first of them that no unit has, if there is one
abbrev pub FlowNamesSay : List (List ℕ) → Problem → Option (List ℕ) → Status → List (List ℕ)
    → Type 0
FlowNamesSay names p (Some stranger) status lines =
    (status ≡ Refused) × (lines ≡ breaks_line S3 stranger ∷ [])
FlowNamesSay names p None status lines =
    (verdict : Verdict) × Judges (shape_of p) (units_named p names) verdict
    × UnitsSay names p verdict status lines

abbrev pub FlowsWork : List (List ℕ) → Problem → Status → List (List ℕ) → Type 0
FlowsWork names p = FlowNamesSay names p (first_stranger p names)

-- no number overflows on the path of the program at the node that the named units decide
abbrev pub StaysInRange : List (List ℕ) → Problem → Type 0
StaysInRange names p =
    (us : List ℕ) (nonbasic : List Column) (place : Place) → has us ≡ units_named p names
    → IsPastNamed (net_of p) (decided p us) nonbasic place → ⊥
