-- What the reading of multipliers needs of the last basis.
use Rattle.std.proofs.Common.{◌≡◌, ◌<◌, ◌≤◌, ◌++◌, ℕ, arith, subst, sym, ◌∙◌, List, length, take}
use Rattle.std.proofs.lemmas.List.{take-append-le, take_all, length-take-le}
use Rattle.flow_program.specs.integer_laws.Range.{InRange, AllInRange}
use Rattle.flow_program.specs.flow_rules.declared.place.Column.{Column}
use Rattle.flow_program.specs.flow_rules.Program.{Program}
use Rattle.flow_program.specs.flow_rules.LinearProgram.{linear_of}
use Rattle.flow_program.specs.flow_rules.Multipliers.{AreMultipliers, AreRefuting}
use Rattle.std.proofs.lemmas.Int.{ints}
use Rattle.flow_program.specs.flow_rules.ReadFlows.{AreRead}
use Rattle.dual_simplex.specs.Reading.{IsOwnPositive}
use Rattle.flow_program.specs.flow_rules.Named.{column_named, nonbasic_named}
use Rattle.dual_simplex.specs.Bench.{IsLeastOf, IsNoneOf, AreFlowsOf}
use Rattle.std.specs.Prelude.{ℤ, pos, ◌<ℤ◌, ◌≤ℤ◌}
use Rattle.flow_program.specs.flow_rules.LinearProgram.{LinearProgram}
use Rattle.flow_program.specs.flow_rules.Columns.{scale_at}
use Rattle.path_laws.proofs.Cited.{basis_is_of_columns}
use Rattle.dual_simplex.specs.Rows.{Rows, table, basis}
use Rattle.dual_simplex.specs.Choice.{columns_of, scale_of}
use Rattle.dual_simplex.specs.Dual.{IsNotNegative}
use Rattle.dual_simplex.specs.Walk.{EndsFeasible, EndsRefuting}
use Rattle.dual_simplex.proofs.FirstLemmas.{scale_is}
use Rattle.dual_simplex.proofs.SecondLemmas.{columns_are}

pub costs_not_negative : (p : LinearProgram) (r : Rows) → EndsFeasible p r
    → IsNotNegative r (scale_of r)
costs_not_negative p r h k l =
    let n = columns_are p r h.on_path.size in
    subst (λ c. pos 0 ≤ℤ table r c k) (sym (scale_is p r h.on_path.size))
    (h.feasible.costs k (subst (λ m. k < m) n l))

pub scale_positive : (p : LinearProgram) (r : Rows) → EndsFeasible p r
    → pos 0 <ℤ table r (scale_of r) (scale_of r)
scale_positive p r h =
    let on = h.on_path in
    subst (λ c. pos 0 <ℤ table r c c) (sym (scale_is p r on.size))
    (on.is_tableau (scale_at p) (basis_is_of_columns p on.pivots (basis r) on.reached).0).own

pub row_not_negative : (p : LinearProgram) (r : Rows) (row : ℕ) → EndsRefuting p r row
    → IsNotNegative r row
row_not_negative p r row h k l =
    h.refuting.entries k (subst (λ m. k < m) (columns_are p r h.on_path.size) l)

pub row_below : (p : LinearProgram) (r : Rows) (row : ℕ) → EndsRefuting p r row → row < columns_of r
row_below p r row h =
    subst (λ m. row < m) (sym (columns_are p r h.on_path.size)) h.refuting.leaving.column

pub taken : (n : ℕ) (xs rest : List ℤ) → length xs ≡ n → take n (xs ++ rest) ≡ xs
taken n xs rest e = take-append-le n xs rest (omega arith) ∙ take_all n xs (omega arith)

pub least_of : (q : Program) (r : Rows) (nonbasic : List Column) (d : ℤ) (items ys : List ℤ)
    (row : Column) (flows : List ℤ) (den : ℤ) → items ≡ ys → r.rows ≤ length ys
    → EndsFeasible (linear_of q) r
    → nonbasic ≡ nonbasic_named q (basis r)
    → AreMultipliers (linear_of q) (table r (scale_at (linear_of q))) d (take r.rows ys)
    → InRange d → AllInRange (take r.rows ys)
    → IsLeastOf q
    (record {
      rows = r;
      nonbasic = nonbasic;
      d = d;
      ys = take r.rows items;
      row = row;
      flows =
          flows;
      flow_den = den;
    })
least_of q r nonbasic d items ys row flows den e room f n a rd ry = record {
  feasible = f;
  nonbasic_are = n;
  are =
      subst
      (λ (xs : List ℤ). AreMultipliers (linear_of q) (table r (scale_at (linear_of q))) d
      (take r.rows xs)) (sym e) a;
  count =
      subst (λ (xs : List ℤ). length (take r.rows xs) ≡ length q.rows) (sym e)
      (length-take-le r.rows ys room ∙ sym f.on_path.size.rows);
  scale_in_range = rd;
  in_range = subst (λ (xs : List ℤ). AllInRange (take r.rows xs)) (sym e) ry;
}

pub none_of : (q : Program) (r : Rows) (nonbasic : List Column) (d : ℤ) (items ys : List ℤ)
    (place : ℕ) (row : Column) (flows : List ℤ) (den : ℤ) → items ≡ ys → r.rows ≤ length ys
    → EndsRefuting (linear_of q) r place
    → row ≡ column_named q place → nonbasic ≡ nonbasic_named q (basis r)
    → AreRefuting (linear_of q) (table r place) (take r.rows ys) → AllInRange (take r.rows ys)
    → IsNoneOf q
    (record {
      rows = r;
      nonbasic = nonbasic;
      d = d;
      ys = take r.rows items;
      row = row;
      flows =
          flows;
      flow_den = den;
    })
none_of q r nonbasic d items ys place row flows den e room f is n a ry = record {
  place = place;
  refuting = f;
  row_is = is;
  nonbasic_are = n;
  are =
      subst (λ (xs : List ℤ). AreRefuting (linear_of q) (table r place) (take r.rows xs)) (sym e) a;
  count =
      subst (λ (xs : List ℤ). length (take r.rows xs) ≡ length q.rows) (sym e)
      (length-take-le r.rows ys room ∙ sym f.on_path.size.rows);
  in_range = subst (λ (xs : List ℤ). AllInRange (take r.rows xs)) (sym e) ry;
}

pub own_positive : (p : LinearProgram) (r : Rows) → EndsFeasible p r → IsOwnPositive r
own_positive p r h i l b = (h.on_path.is_tableau i b).own

-- what is read into the front of a list
pub flows_of : (q : Program) (r : Rows) (nonbasic : List Column) (d : ℤ) (ys : List ℤ)
    (row : Column) (items zs : List ℤ) (den : ℤ) → items ≡ zs → r.units ≤ length zs
    → EndsFeasible (linear_of q) r
    → AreRead (linear_of q) (basis r) (table r) (take r.units zs) den → pos 0 <ℤ den → InRange den
    → AllInRange (take r.units zs)
    → AreFlowsOf q
    (record {
      rows = r;
      nonbasic = nonbasic;
      d = d;
      ys = ys;
      row = row;
      flows =
          take r.units items;
      flow_den = den;
    })
flows_of q r nonbasic d ys row items zs den e room f a positive rd rz = record {
  read =
      subst (λ (xs : List ℤ). AreRead (linear_of q) (basis r) (table r) (take r.units xs) den)
      (sym e) a;
  count =
      subst (λ (xs : List ℤ). length (take r.units xs) ≡ length q.units) (sym e)
      (length-take-le r.units zs room ∙ sym f.on_path.size.units);
  positive = omega (arith, ints);
  den_in_range = rd;
  in_range = subst (λ (xs : List ℤ). AllInRange (take r.units xs)) (sym e) rz;
}
