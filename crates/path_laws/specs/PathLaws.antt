-- Laws of the path of a linear program with ranges, each the contract of a public function of this
-- crate. T, T' and U are tableaux: rows, one for each column.
use Rattle.std.specs.Prelude.{◌≡◌, ◌≢◌, ℕ, suc, ◌+◌, ◌<◌, ◌≤◌, false, ℤ, pos, ◌*ℤ◌, ◌≤ℤ◌, ◌<ℤ◌}
use Rattle.flow_rules.specs.integer_laws.declared.which.Which.{Which}
use Rattle.flow_rules.specs.LinearProgram.{LinearProgram}
use Rattle.flow_rules.specs.Columns.{Basis, Has, x_at, s_at, columns, right_at, scale_at, start}
use Rattle.flow_rules.specs.Tableau.{IsPrimitive, IsTableau}
use Rattle.flow_rules.specs.Lexicographic.{IsBefore}
use Rattle.flow_rules.specs.Vectors.{gain, value_top, value_bottom}
use Rattle.flow_rules.specs.Pivots.{IsFirstKind, HasPivot, IsFeasible, IsRefuting, IsPivoted}
use Rattle.flow_rules.specs.Path.{Follows, Reaches, IsLast}
use Rattle.flow_rules.specs.Places.{IsPastPivot}
use Rattle.flow_rules.specs.Start.{IsStart}
use Rattle.flow_rules.specs.Rank.{rank, IsWithin}
use Rattle.path_laws.specs.Phases.{IsFirstPhase, VectorsRise, ValuesRise, IsExchange}

-- ---- one path

-- a basis of the path has at most one tableau
abbrev pub TableauIsOne : Type 0
TableauIsOne =
    (p : LinearProgram) (n : ℕ) (b : Basis) → Reaches p n b → (T U : ℕ → ℕ → ℤ) → IsTableau p b T
    → IsTableau p b U
    → (c k : ℕ) → Has b c → k ≤ scale_at p → T c k ≡ U c k

-- at most one basis follows
abbrev pub NextIsOne : Type 0
NextIsOne = (p : LinearProgram) (n : ℕ) (b : Basis) → Reaches p n b → (b' b'' : Basis)
    → Follows p b b' → Follows p b b'' → (k : ℕ) → b' k ≡ b'' k

-- so after each number of pivots the path is at one basis
abbrev pub PathIsOne : Type 0
PathIsOne = (p : LinearProgram) (n : ℕ) (b c : Basis) → Reaches p n b → Reaches p n c → (k : ℕ)
    → b k ≡ c k

-- and it has one last basis
abbrev pub LastIsOne : Type 0
LastIsOne = (p : LinearProgram) (b c : Basis) → IsLast p b → IsLast p c → (k : ℕ) → b k ≡ c k

-- every basis column is a column, and the scale is one
abbrev pub BasisIsOfColumns : Type 0
BasisIsOfColumns = (p : LinearProgram) (n : ℕ) (b : Basis) → Reaches p n b → Has b (scale_at p)
    × (b (right_at p) ≡ false) × ((k : ℕ) → Has b k → k ≤ scale_at p)

-- ---- ends

-- a basis of the path with least flows has no pivot and is the last
abbrev pub FeasibleIsLast : Type 0
FeasibleIsLast =
    (p : LinearProgram) (n : ℕ) (b : Basis) → Reaches p n b → (T : ℕ → ℕ → ℤ) → IsTableau p b T
    → IsFeasible p b T
    → IsLast p b
    × ((U : ℕ → ℕ → ℤ) → IsTableau p b U → (l e : ℕ) (pivot : ℕ → ℤ) → HasPivot p b U l e pivot
    → ⊥)

-- so is one with a row that can't be met
abbrev pub RefutingIsLast : Type 0
RefutingIsLast =
    (p : LinearProgram) (n : ℕ) (b : Basis) → Reaches p n b → (T : ℕ → ℕ → ℤ) → IsTableau p b T
    → (row : ℕ) → IsRefuting p b T row
    → IsLast p b
    × ((U : ℕ → ℕ → ℤ) → IsTableau p b U → (l e : ℕ) (pivot : ℕ → ℤ) → HasPivot p b U l e pivot
    → ⊥)

-- and one at whose pivot a number is out of range
abbrev pub PastIsLast : Type 0
PastIsLast =
    (p : LinearProgram) (n : ℕ) (b : Basis) → Reaches p n b → (T : ℕ → ℕ → ℤ) → IsTableau p b T
    → (l e row column : ℕ) (which : Which) → IsPastPivot p b T l e row column which → IsLast p b

-- ---- the first phase

-- at the start no unit is done
abbrev pub StartIsFirstPhase : Type 0
StartIsFirstPhase = (p : LinearProgram) (T : ℕ → ℕ → ℤ) → IsStart p T → IsFirstPhase p (start p) T 0

-- a unit whose entry in the cost row is not below 0 is done
abbrev pub FirstPhaseSkips : Type 0
FirstPhaseSkips =
    (p : LinearProgram) (b : Basis) (T : ℕ → ℕ → ℤ) (unit : ℕ) → unit < p.units
    → pos 0 ≤ℤ T (scale_at p) (x_at p unit)
    → IsFirstPhase p b T unit → IsFirstPhase p b T (unit + 1)

-- else it is the first such unit, and has a pivot of the first kind
abbrev pub FirstPhasePivots : Type 0
FirstPhasePivots =
    (p : LinearProgram) (b : Basis) (T : ℕ → ℕ → ℤ) (unit : ℕ) → unit < p.units
    → IsFirstPhase p b T unit → T (scale_at p) (x_at p unit) <ℤ pos 0
    → IsFirstKind p b T unit

-- after the pivot it is done
abbrev pub FirstPhaseGoesOn : Type 0
FirstPhaseGoesOn =
    (p : LinearProgram) (b b' : Basis) (T T' : ℕ → ℕ → ℤ) (unit : ℕ) → unit < p.units
    → Has b (scale_at p) → IsTableau p b T → IsFirstPhase p b T unit
    → T (scale_at p) (x_at p unit) <ℤ pos 0
    → IsPivoted b b' T T' (s_at p unit) (x_at p unit) (T (s_at p unit))
    → ((c : ℕ) → Has b c → c ≢ s_at p unit → IsPrimitive (suc (scale_at p)) (T' c))
    → IsFirstPhase p b' T' (unit + 1)

-- once all units are done the vector of each column outside the basis rises
abbrev pub FirstPhaseEnds : Type 0
FirstPhaseEnds = (p : LinearProgram) (b : Basis) (T : ℕ → ℕ → ℤ) → IsFirstPhase p b T p.units
    → VectorsRise p b T

-- ---- the second phase

-- the basis after a pivot is on the path
abbrev pub ExchangeReaches : Type 0
ExchangeReaches =
    (p : LinearProgram) (n : ℕ) (b b' : Basis) (T T' : ℕ → ℕ → ℤ) (l e : ℕ) (pivot : ℕ → ℤ)
    → Reaches p n b → IsTableau p b T
    → IsExchange p b b' T T' l e pivot → Reaches p (suc n) b' × IsTableau p b' T'

-- if the vectors rise no pivot is of the first kind: no entry of the cost row is below 0
abbrev pub CostsAreNotNegative : Type 0
CostsAreNotNegative =
    (p : LinearProgram) (n : ℕ) (b : Basis) (T : ℕ → ℕ → ℤ) → Reaches p n b → IsTableau p b T
    → VectorsRise p b T
    → (k : ℕ) → k < columns p → pos 0 ≤ℤ T (scale_at p) k

-- after a pivot the vectors still rise
abbrev pub VectorsKeepRising : Type 0
VectorsKeepRising =
    (p : LinearProgram) (n : ℕ) (b b' : Basis) (T T' : ℕ → ℕ → ℤ) (l e : ℕ) (pivot : ℕ → ℤ)
    → Reaches p n b → IsTableau p b T → VectorsRise p b T
    → IsExchange p b b' T T' l e pivot → VectorsRise p b' T'

-- and the list of the values rises
abbrev pub ValuesRiseByPivots : Type 0
ValuesRiseByPivots =
    (p : LinearProgram) (n : ℕ) (b b' : Basis) (T T' : ℕ → ℕ → ℤ) (l e : ℕ) (pivot : ℕ → ℤ)
    → Reaches p n b → IsTableau p b T → VectorsRise p b T
    → IsExchange p b b' T T' l e pivot → ValuesRise p b T b' T'

-- so the rank of the list rises, if its numbers are at most m
abbrev pub RankRises : Type 0
RankRises =
    (p : LinearProgram) (b b' : Basis) (T T' : ℕ → ℕ → ℤ) (m : ℕ)
    → IsWithin m (suc (columns p)) (value_top b T (scale_at p) (right_at p))
    (value_bottom b T (scale_at p))
    → IsWithin m (suc (columns p)) (value_top b' T' (scale_at p) (right_at p))
    (value_bottom b' T' (scale_at p))
    → ValuesRise p b T b' T'
    → rank m (suc (columns p)) (value_top b T (scale_at p) (right_at p))
    (value_bottom b T (scale_at p))
    < rank m (suc (columns p)) (value_top b' T' (scale_at p) (right_at p))
    (value_bottom b' T' (scale_at p))

-- ---- the column that enters: entries a, b and c above 0, vectors f, g and h

-- what is before the least so far is before the others too
abbrev pub ColumnsAreOrdered : Type 0
ColumnsAreOrdered =
    (n : ℕ) (a b c : ℤ) (f g h : ℕ → ℤ) → pos 0 <ℤ a → pos 0 <ℤ b → pos 0 <ℤ c
    → IsBefore n (λ q. b *ℤ f q) (λ q. a *ℤ g q) → IsBefore n (λ q. c *ℤ g q) (λ q. b *ℤ h q)
    → IsBefore n (λ q. c *ℤ f q) (λ q. a *ℤ h q)

-- two columns outside the basis differ at the place of the first
abbrev pub ColumnsDiffer : Type 0
ColumnsDiffer =
    (b : Basis) (T : ℕ → ℕ → ℤ) (scale i j : ℕ) (x y : ℤ) → b i ≡ false → i ≢ j → pos 0 <ℤ y
    → y *ℤ gain b T scale i (suc i) ≡ x *ℤ gain b T scale j (suc i) → ⊥
