-- The columns and places of the program of a node of a problem, by the numbers of the problem, are
-- known to it.
use Rattle.std.proofs.Common.{◌≡◌, ℕ, ◌+◌, ◌-◌, ◌<◌, ◌≤◌, Bool, true, false, cond, List, [], ◌∷◌}
use Rattle.std.proofs.Common.{length, map, refl, subst, sym, arith, Some, None}
use Rattle.std.specs.Prelude.{nat_lt, nat_eq}
use Rattle.std.proofs.lemmas.Bool.Decides.{nat_tests}
use Rattle.dual_simplex.proofs.number_sets.Cited.{has_below, AreBelow-listed}
use Rattle.dual_simplex.specs.integer_laws.declared.which.Which.{Which}
use Rattle.dual_simplex.specs.problem_rules.Each.{Each}
use Rattle.dual_simplex.specs.problem_rules.Problem.{Problem}
use Rattle.dual_simplex.specs.pns_rules.Nodes.{Node}
use Rattle.dual_simplex.specs.flow_rules.Net.{net_of}
use Rattle.dual_simplex.specs.flow_rules.Program.{Program, program_of}
use Rattle.dual_simplex.specs.flow_rules.declared.place.Column.TheVariants.{X, S, T, W, Right}
use Rattle.dual_simplex.specs.flow_rules.declared.place.Column.TheVariants.{Scale}
use Rattle.dual_simplex.specs.flow_rules.LinearProgram.{linear_of}
use Rattle.dual_simplex.specs.flow_rules.Columns.{Basis, scale_at}
use Rattle.dual_simplex.specs.flow_rules.Places as path
use Rattle.dual_simplex.specs.flow_rules.ReadFlows.{FlowStep}
use Rattle.dual_simplex.proofs.path_laws.Cited.{has_at}
use Rattle.node_evaluation.specs.tree_rules.Known.{IsUnit, IsMaterial, KnowsColumn, KnowsRow}
use Rattle.node_evaluation.specs.tree_rules.Known.{KnowsPlace}
use Rattle.dual_simplex.specs.flow_rules.Named.{unit_named, row_named, named_at, column_named}
use Rattle.dual_simplex.specs.flow_rules.Named.{nonbasic_named}
use Rattle.dual_simplex.specs.flow_rules.Named.{place_named}

-- the units and the rows of the program are units and materials of the problem
record Knows (p : Problem) (q : Program) : Type 0 where
  unit : (i : ℕ) → i < length q.units → IsUnit p (unit_named q i)
  row : (j : ℕ) → j < length q.rows → IsMaterial p (row_named q j)

knows_own : (p : Problem) (n : Node) → Knows p (program_of (net_of p) n)
knows_own p n = record {
  unit =
      λ i h. has_below (length p.units) (program_of (net_of p) n).units _ (AreBelow-listed _ _)
      (has_at (program_of (net_of p) n).units i h);
  row =
      λ j h. has_below (length p.materials) (program_of (net_of p) n).rows _ (AreBelow-listed _ _)
      (has_at (program_of (net_of p) n).rows j h);
}

knows : (p : Problem) (n : Node) (q : Program) → q ≡ program_of (net_of p) n → Knows p q
knows p n q e = subst (λ (r : Program). Knows p r) (sym e) (knows_own p n)

at_place : (p : Problem) (q : Program) (u r k : ℕ) → ((i : ℕ) → i < u → IsUnit p (unit_named q i))
    → ((j : ℕ) → j < r → IsMaterial p (row_named q j)) → KnowsColumn p (named_at q u r k)
at_place p q u r k us rs =
    pick (nat_lt k u) (nat_lt k (u + u)) (nat_lt k (u + u + r)) (nat_lt k (u + u + r + r))
    (nat_eq k (u + u + r + r)) refl refl refl refl
  where
    pick : (a b c d e : Bool) → nat_lt k u ≡ a → nat_lt k (u + u) ≡ b → nat_lt k (u + u + r) ≡ c
        → nat_lt k (u + u + r + r) ≡ d
        → KnowsColumn p
        (cond a (X (unit_named q k))
        (cond b (S (unit_named q (k - u)))
        (cond c (T (row_named q (k - (u + u))))
        (cond d (W (row_named q (k - (u + u + r)))) (cond e Right Scale)))))
    pick true b c d e ha hb hc hd = let h : k < u = grind (arith, nat_tests) in us k h
    pick false true c d e ha hb hc hd =
        let g : u ≤ k = grind (arith, nat_tests) in
        let h : k < u + u = grind (arith, nat_tests) in
        us (k - u) (omega arith)
    pick false false true d e ha hb hc hd =
        let g : u + u ≤ k = grind (arith, nat_tests) in
        let h : k < u + u + r = grind (arith, nat_tests) in
        rs (k - (u + u)) (omega arith)
    pick false false false true e ha hb hc hd =
        let g : u + u + r ≤ k = grind (arith, nat_tests) in
        let h : k < u + u + r + r = grind (arith, nat_tests) in
        rs (k - (u + u + r)) (omega arith)
    pick false false false false true ha hb hc hd = tt
    pick false false false false false ha hb hc hd = tt

column : (p : Problem) (n : Node) (q : Program) → q ≡ program_of (net_of p) n → (k : ℕ)
    → KnowsColumn p (column_named q k)
column p n q e k = let h = knows p n q e in
    at_place p q (length q.units) (length q.rows) k h.unit h.row

each_column : (p : Problem) (q : Program) → ((k : ℕ) → KnowsColumn p (column_named q k))
    → (ks : List ℕ) → Each (KnowsColumn p) (map (column_named q) ks)
each_column p q h [] = tt
each_column p q h (k ∷ ks) = (h k, each_column p q h ks)

pub columns_known : (p : Problem) (n : Node) (q : Program) (b : Basis) → q ≡ program_of (net_of p) n
    → Each (KnowsColumn p) (nonbasic_named q b)
columns_known p n q b e = each_column p q (column p n q e) _

row : (p : Problem) (q : Program) (k : ℕ) → KnowsColumn p (column_named q k) → (b : Bool)
    → KnowsRow p (cond b None (Some (column_named q k)))
row p q k h true = tt
row p q k h false = h

pub entry_known : (p : Problem) (n : Node) (q : Program) → q ≡ program_of (net_of p) n
    → (leave enter r k : ℕ) (which : Which)
    → KnowsPlace p (place_named q (path.Entry leave enter r k which))
entry_known p n q e leave enter r k which =
    let h = column p n q e in
    (h leave, h enter, row p q r (h r) (nat_eq r (scale_at (linear_of q))), h k)

pub flow_known : (p : Problem) (n : Node) (q : Program) → q ≡ program_of (net_of p) n
    → (unit : ℕ) (step : FlowStep) → unit < length q.units
    → KnowsPlace p (place_named q (path.Flow unit step))
flow_known p n q e unit step h = (knows p n q e).unit unit h
