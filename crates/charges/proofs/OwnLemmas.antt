-- The bounds of units, written into a table.
use Rattle.std.proofs.Common.{◌≡◌, ◌≢◌, ℕ, zero, suc, [], ◌∷◌, replicate, ◌+◌, ◌<◌, ◌≤◌, refl, sym}
use Rattle.std.proofs.Common.{ap, ◌∙◌, arith, inl, inr, pos, ℤ, List, length, get_or, set, subst}
use Rattle.std.specs.Prelude.{Option, Some, None}
use Rattle.std.proofs.lemmas.List.{get_or-set_same, get_or-set_other, length-set}
use Rattle.std.proofs.lemmas.Bool.{cases_eq, cases_order, eq-eqb, ne_eqb}
use Rattle.structure_list.specs.problem_rules.Problem.{Problem, OperatingUnit, unit_at, no_unit}
use Rattle.charges.specs.Known.{at_one, known_at}

-- the table has f at each number below u, and 0 from there on
pub record IsWritten (f : ℕ → ℤ) (table : List ℤ) (u : ℕ) : Type 0 where
  pub size : length table ≡ 128
  pub below : (i : ℕ) → i < u → get_or table i (pos 0) ≡ f i
  pub above : (i : ℕ) → u ≤ i → get_or table i (pos 0) ≡ pos 0

pub written_more : (f : ℕ → ℤ) (table : List ℤ) (u : ℕ) (value : ℤ) → u < 128 → value ≡ f u
    → IsWritten f table u → IsWritten f (set table u value) (u + 1)
written_more f table u value l e h = record {
  size = length-set table u value ∙ h.size;
  below = λ i k. elim (cases_eq i u) [
    | inl same ↦
        (let w : u < length table = let s = h.size in omega arith in rw same (rw get_or-set_same e))
    | inr other ↦ (let o : i ≢ u = other in rw get_or-set_other (h.below i (omega arith)))
  ];
  above =
      λ i k. (let o : i ≢ u = λ e. omega arith in rw get_or-set_other (h.above i (omega arith)));
}

pub written_all : (f : ℕ → ℤ) (table : List ℤ) (n u : ℕ) → u ≡ n → ((i : ℕ) → n ≤ i → f i ≡ pos 0)
    → IsWritten f table u → (i : ℕ) → get_or table i (pos 0) ≡ f i
written_all f table n u e none h i = elim (cases_order i u) [
  | inl same ↦ (h.above i (omega arith) ∙ sym (none i (omega arith)))
  | inr d ↦ elim d [
    | inl lt ↦ h.below i lt
    | inr gt ↦ (h.above i (omega arith) ∙ sym (none i (omega arith)))
  ]
]

pub same_all : {X : Type 0} (x : X) (n i : ℕ) → get_or (replicate n x) i x ≡ x
same_all x zero i = refl
same_all x (suc n) zero = refl
same_all x (suc n) (suc i) = same_all x n i

pub none_written : (f : ℕ → ℤ) → IsWritten f (replicate 128 (pos 0)) 0
none_written f =
    record {
      size = refl;
      below = λ i k. absurd (omega arith);
      above =
          λ i k. same_all (pos 0) 128 i;
    }

pub past : {X : Type 0} (xs : List X) (i : ℕ) (d : X) → length xs ≤ i → get_or xs i d ≡ d
past [] i d h = refl
past (x ∷ xs) zero d h = absurd (omega arith)
past (x ∷ xs) (suc i) d h = past xs i d (omega arith)

pub no_lower : (p : Problem) (i : ℕ) → length p.units ≤ i → (unit_at p i).lower ≡ pos 0
no_lower p i h = ap (λ (u : OperatingUnit). u.lower) (past p.units i no_unit h)

pub no_upper : (p : Problem) (i : ℕ) → length p.units ≤ i → (unit_at p i).upper ≡ pos 0
no_upper p i h = ap (λ (u : OperatingUnit). u.upper) (past p.units i no_unit h)

-- ---- a table in which one number, or one amount, is written

pub one_written : (table : List ℤ) (u : ℕ) (value : ℤ) → u < length table
    → (i : ℕ) → get_or (set table u value) i (pos 0) ≡ at_one (λ i. get_or table i
    (pos 0)) u value i
one_written table u value l i = elim (cases_eq u i) [
  | inl same ↦ rw (eq-eqb u i same)
      (subst (λ (k : ℕ). get_or (set table u value) k (pos 0) ≡ value) same
      (let w : u < length table = l in rw get_or-set_same refl))
  | inr other ↦ rw (ne_eqb u i other)
      (let o : i ≢ u = λ e. other (sym e) in rw get_or-set_other refl)
]

pub one_known : (table : List (Option ℤ)) (j : ℕ) (amount : ℤ) → j < length table
    → (m : ℕ) → get_or (set table j (Some amount)) m None
    ≡ known_at (λ m. get_or table m None) j amount m
one_known table j amount l m = elim (cases_eq j m) [
  | inl same ↦ rw (eq-eqb j m same)
      (subst (λ (k : ℕ). get_or (set table j (Some amount)) k None ≡ Some amount) same
      (let w : j < length table = l in rw get_or-set_same refl))
  | inr other ↦ rw (ne_eqb j m other)
      (let o : m ≢ j = λ e. other (sym e) in rw get_or-set_other refl)
]
