-- The greatest common divisor of a number and a row, one entry after another, and the division by
-- it.
use Rattle.std.proofs.Common.{◌≡◌, ℕ, suc, ◌+◌, ◌<◌, ◌≤ℤ◌, ◌<ℤ◌, pos, ℤ, List, ◌∷◌, take, map}
use Rattle.std.proofs.Common.{length, get_or, ap, ◌∙◌, subst, arith}
use Rattle.std.specs.Prelude.{unsigned_abs, int_div}
use Rattle.std.specs.Int.{IsGcd, ◌∣◌}
use Rattle.std.proofs.lemmas.Nat.Gcd.{IsGcd-swap}
use Rattle.flow_program.proofs.integer_laws.Cited.{gcd_positive}
use Rattle.flow_program.specs.integer_laws.Range.{InRange}
use Rattle.flow_program.specs.integer_laws.Reduced.{DividesAll, IsRowGcd, IsReduced}
use Rattle.flow_program.proofs.exact_numbers.Cited.{IsRowGcd-more, reduced_from_quotients}

-- the greatest common divisor of the first number and the i after it
pub record IsSoFar (first : ℤ) (row : List ℤ) (i : ℕ) (common : ℤ) : Type 0 where
  pub positive : pos 0 <ℤ common
  pub in_range : InRange common
  pub greatest : IsRowGcd (first ∷ take i row) (unsigned_abs common)

pub so_far_more : (first : ℤ) (row : List ℤ) (i : ℕ) (common next : ℤ) → i < length row
    → IsSoFar first row i common → pos 0 ≤ℤ next → InRange next
    → IsGcd (unsigned_abs (get_or row i (pos 0))) (unsigned_abs common) (unsigned_abs next)
    → IsSoFar first row (i + 1) next
so_far_more first row i common next within before at_least range step = record {
  positive = gcd_positive (get_or row i (pos 0)) common next before.positive at_least step;
  in_range = range;
  greatest =
      let place : suc i + 1 ≡ suc (i + 1) = omega arith in
      let inside : suc i < length (first ∷ row) = omega arith in
      subst (λ (n : ℕ). IsRowGcd (take n (first ∷ row)) (unsigned_abs next)) place
      (IsRowGcd-more (first ∷ row) (suc i) (unsigned_abs common) (unsigned_abs next) inside
      before.greatest
      (IsGcd-swap (unsigned_abs (get_or row i (pos 0))) (unsigned_abs common)
      (unsigned_abs next) step));
}

pub divides_first : (first : ℤ) (row : List ℤ) (g : ℕ) → IsRowGcd (first ∷ row) g
    → g ∣ unsigned_abs first
divides_first first row g h = h.divides 0 (pos 0) (omega arith)

pub divides_rest : (first : ℤ) (row : List ℤ) (g : ℕ) → IsRowGcd (first ∷ row) g → DividesAll g row
divides_rest first row g h = λ k d within. h.divides (suc k) d (omega arith)

pub reduced_both : (first : ℤ) (row : List ℤ) (g q : ℤ) (new : List ℤ) → pos 0 <ℤ g
    → IsRowGcd (first ∷ row) (unsigned_abs g) → q ≡ int_div first g
    → new ≡ map (λ x. int_div x g) row → IsReduced (first ∷ row) (q ∷ new)
reduced_both first row g q new p h e f =
    reduced_from_quotients (first ∷ row) (q ∷ new) g p h
    (ap (λ (x : ℤ). x ∷ new) e ∙ ap (λ (xs : List ℤ). int_div first g ∷ xs) f)
