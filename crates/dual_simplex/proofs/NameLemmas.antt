-- The columns of a tableau are named by units and rows of the program.
use Rattle.std.proofs.Common.{◌≡◌, ℕ, ◌+◌, ◌-◌, Bool, true, false, not, cond, arith, refl, sym}
use Rattle.std.proofs.Common.{subst, List, [], ◌∷◌, map, length, nat_lt, nat_eq}
use Rattle.std.specs.Prelude.{Some, None}
use Rattle.std.specs.List.{filter, range_with_len}
use Rattle.std.proofs.lemmas.Bool.{ltb-true, ltb-false}
use Rattle.flow_program.specs.problem_rules.Each.{Each}
use Rattle.flow_program.specs.flow_rules.Program.{Program}
use Rattle.flow_program.specs.flow_rules.declared.place.Column.TheVariants.{Right, Scale}
use Rattle.flow_program.specs.flow_rules.LinearProgram.{linear_of}
use Rattle.flow_program.specs.flow_rules.Columns.{columns, scale_at}
use Rattle.path_laws.proofs.Cited.{has_at}
use Rattle.flow_program.specs.flow_rules.Named.{column_named}
use Rattle.dual_simplex.specs.ProgramNames.{IsColumnOf, IsRowOf, IsPlaceOf, NonbasicAreOfProgram}
use Rattle.dual_simplex.specs.ProgramNames.{ColumnsAreOfProgram, RowIsOfProgram}
use Rattle.dual_simplex.specs.ProgramNames.{EntriesAreOfProgram, FlowsAreOfProgram}

either : {A : Type 0} (P : A → Type 0) (c : Bool) (x y : A) → (c ≡ true → P x) → (c ≡ false → P y)
    → P (cond c x y)
either P true x y f g = f refl
either P false x y f g = g refl

pub columns_are_of_program : ColumnsAreOfProgram
columns_are_of_program q k =
    let u = length q.units in
    let r = length q.rows in
    either (IsColumnOf q) (nat_lt k u) _ _ (λ e. has_at q.units k (ltb-true k u e))
    (λ e. either (IsColumnOf q) (nat_lt k (u + u)) _ _
    (λ f. has_at q.units (k - u) (let a = ltb-true k (u + u) f in let b =
    ltb-false k u e in omega arith))
    (λ f. either (IsColumnOf q) (nat_lt k (u + u + r)) _ _
    (λ g. has_at q.rows (k - (u + u))
    (let a = ltb-true k (u + u + r) g in let b = ltb-false k (u + u) f in omega arith))
    (λ g. either (IsColumnOf q) (nat_lt k (u + u + r + r)) _ _
    (λ h. has_at q.rows (k - (u + u + r))
    (let a = ltb-true k (u + u + r + r) h in let b = ltb-false k (u + u + r) g in omega arith))
    (λ h. either (IsColumnOf q) (nat_eq k (u + u + r + r)) Right Scale (λ i. tt) (λ i. tt)))))

each_named : (q : Program) (ks : List ℕ) → Each (IsColumnOf q) (map (column_named q) ks)
each_named q [] = tt
each_named q (k ∷ ks) = (columns_are_of_program q k, each_named q ks)

pub nonbasic_are_of_program : NonbasicAreOfProgram
nonbasic_are_of_program q b =
    each_named q (filter (λ k. not (b k)) (range_with_len 0 (columns (linear_of q))))

pub row_is_of_program : RowIsOfProgram
row_is_of_program q b h = subst (IsColumnOf q) (sym h.row_is) (columns_are_of_program q h.place)

row_of_program : (q : Program) (row : ℕ)
    → IsRowOf q (cond (nat_eq row (scale_at (linear_of q))) None (Some (column_named q row)))
row_of_program q row =
    either (IsRowOf q) (nat_eq row (scale_at (linear_of q))) None (Some (column_named q row))
    (λ e. tt) (λ e. columns_are_of_program q row)

pub entries_are_of_program : EntriesAreOfProgram
entries_are_of_program q b place h =
    subst (IsPlaceOf q) (sym h.named) (
      columns_are_of_program q h.leaves,
      columns_are_of_program q h.enters,
      row_of_program q h.row,
      columns_are_of_program q h.column,
    )

pub flows_are_of_program : FlowsAreOfProgram
flows_are_of_program q b place h =
    subst (IsPlaceOf q) (sym h.named) (has_at q.units h.unit h.is_unit)
