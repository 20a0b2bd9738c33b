-- The best candidate, one column after another.
use Rattle.std.proofs.Common.{◌≡◌, ◌≢◌, ℕ, suc, ◌+◌, ◌<◌, inl, inr, ℤ, pos, ◌<ℤ◌, ◌≤ℤ◌, neg_ℤ, sym}
use Rattle.std.proofs.Common.{subst, arith}
use Rattle.std.proofs.lemmas.Int.{ints}
use Rattle.std.proofs.lemmas.Bool.Decides.{eqb_tells}
use Rattle.path_laws.specs.PathLaws.{ColumnsAreOrdered}
use Rattle.dual_simplex.specs.Rows.{Rows, table}
use Rattle.dual_simplex.specs.Choice.{columns_of}
use Rattle.dual_simplex.specs.Candidates.{vector, ComesBefore, IsLeastBelow, IsBestBelow}
use Rattle.dual_simplex.specs.declared.candidates.Candidate.{Candidate}
use Rattle.std.specs.Prelude.{Option, Some, None}

opposite : {z : ℤ} → z <ℤ pos 0 → pos 0 <ℤ neg_ℤ z
opposite h = omega (arith, ints)

not_both : (z : ℤ) → z <ℤ pos 0 → pos 0 ≤ℤ z → ⊥
not_both z h k = omega (arith, ints)

before_this : {j k : ℕ} → j < k + 1 → j ≢ k → j < k
before_this h n = omega arith

-- the first candidate is the best
pub first_candidate : (r : Rows) (l k : ℕ) → table r l k <ℤ pos 0
    → ((j : ℕ) → j < k → pos 0 ≤ℤ table r l j) → IsLeastBelow r l (k + 1) k
first_candidate r l k h none = record {
  column = omega arith;
  negative = h;
  least =
      λ j below neg other. absurd (not_both (table r l j) neg (none j (before_this below other)));
}

-- one that comes before the best so far is the best
pub better_candidate : (r : Rows) (l k e : ℕ) → ColumnsAreOrdered → table r l k <ℤ pos 0
    → IsLeastBelow r l k e → ComesBefore r k (neg_ℤ (table r l k)) e (neg_ℤ (table r l e))
    → IsLeastBelow r l (k + 1) k
better_candidate r l k e order h best b = record {
  column = omega arith;
  negative = h;
  least = λ j below neg other. elim (eqb_tells j e) [
    | inl (_, same)
        ↦ subst (λ (i : ℕ). ComesBefore r k (neg_ℤ (table r l k)) i (neg_ℤ (table r l i)))
        (sym same) b
    | inr (_, differ) ↦
        order (suc (columns_of r)) (neg_ℤ (table r l k)) (neg_ℤ (table r l e)) (neg_ℤ (table r l j))
        (vector r k) (vector r e) (vector r j) (opposite h) (opposite best.negative)
        (opposite neg) b
        (best.least j (before_this below other) neg differ)
  ];
}

-- one that comes after it is not
pub worse_candidate : (r : Rows) (l k e : ℕ) → IsLeastBelow r l k e
    → ComesBefore r e (neg_ℤ (table r l e)) k (neg_ℤ (table r l k)) → IsLeastBelow r l (k + 1) e
worse_candidate r l k e best b = record {
  column = let h : e < k = best.column in omega arith;
  negative = best.negative;
  least = λ j below neg other. elim (eqb_tells j k) [
    | inl (_, same)
        ↦ subst (λ (i : ℕ). ComesBefore r e (neg_ℤ (table r l e)) i (neg_ℤ (table r l i)))
        (sym same) b
    | inr (_, differ) ↦ best.least j (before_this below differ) neg other
  ];
}

-- ---- the same of candidates, with their sizes

pub first_best : (r : Rows) (l k e : ℕ) (size : ℤ) (best : Option Candidate) → e ≡ k
    → size ≡ neg_ℤ (table r l k) → table r l k <ℤ pos 0 → best ≡ None → IsBestBelow r l k best
    → IsLeastBelow r l (k + 1) e × (size ≡ neg_ℤ (table r l e))
first_best r l k e size best same s h is none =
    subst (λ (i : ℕ). IsLeastBelow r l (k + 1) i × (size ≡ neg_ℤ (table r l i))) (sym same)
    (first_candidate r l k h (subst (λ (b : Option Candidate). IsBestBelow r l k b) is none), s)

pub better_best : (r : Rows) (l k e : ℕ) (size : ℤ) (best : Option Candidate) (c : Candidate)
    → ColumnsAreOrdered → e ≡ k → size ≡ neg_ℤ (table r l k) → table r l k <ℤ pos 0 → best ≡ Some c
    → IsBestBelow r l k best → ComesBefore r e size c.column c.size → IsLeastBelow r l (k + 1) e
    × (size ≡ neg_ℤ (table r l e))
better_best r l k e size best c order same s h is so_far b =
    let old : IsLeastBelow r l k c.column × (c.size ≡ neg_ℤ (table r l c.column)) =
    subst (λ (x : Option Candidate). IsBestBelow r l k x) is so_far in
    let b' : ComesBefore r k (neg_ℤ (table r l k)) c.column (neg_ℤ (table r l c.column)) =
    subst
    (λ (i : ℕ). ComesBefore r i (neg_ℤ (table r l k)) c.column (neg_ℤ (table r l c.column)))
    same
    (subst (λ (x : ℤ). ComesBefore r e x c.column (neg_ℤ (table r l c.column))) s
    (subst (λ (x : ℤ). ComesBefore r e size c.column x) old.1 b)) in
    subst (λ (i : ℕ). IsLeastBelow r l (k + 1) i × (size ≡ neg_ℤ (table r l i))) (sym same)
    (better_candidate r l k c.column order h old.0 b', s)

pub worse_best : (r : Rows) (l k e : ℕ) (size : ℤ) (best : Option Candidate) (c : Candidate) → e ≡ k
    → size ≡ neg_ℤ (table r l k) → best ≡ Some c → IsBestBelow r l k best
    → ComesBefore r c.column c.size e size → IsLeastBelow r l (k + 1) c.column
    × (c.size ≡ neg_ℤ (table r l c.column))
worse_best r l k e size best c same s is so_far b =
    let old : IsLeastBelow r l k c.column × (c.size ≡ neg_ℤ (table r l c.column)) =
    subst (λ (x : Option Candidate). IsBestBelow r l k x) is so_far in
    let b' : ComesBefore r c.column (neg_ℤ (table r l c.column)) k (neg_ℤ (table r l k)) =
    subst
    (λ (i : ℕ). ComesBefore r c.column (neg_ℤ (table r l c.column)) i (neg_ℤ (table r l k)))
    same
    (subst (λ (x : ℤ). ComesBefore r c.column (neg_ℤ (table r l c.column)) e x) s
    (subst (λ (x : ℤ). ComesBefore r c.column x e size) old.1 b)) in
    (worse_candidate r l k c.column old.0 b', old.1)
