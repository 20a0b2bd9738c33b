-- The vector of a column outside the basis, and the list of the values of a basis. T is the
-- tableau.
use Rattle.std.specs.Prelude.{ℕ, zero, suc, ℤ, pos, neg_ℤ, cond, nat_eq}
use Rattle.flow_rules.specs.Columns.{Basis}

-- What column j does to the cost (place 0) and to each column k (place k + 1) as it grows. For the
-- cost it is the entry of the cost row. For k it is minus the entry of the row of k if k is in the
-- basis, 1 if k is j, and else 0. These entries would be divided by the row's entry at k, and the
-- cost by the scale. Those divisors are above 0 and the same for all j, so a comparison of two
-- columns place by place does not need them.
abbrev pub gain : Basis → (ℕ → ℕ → ℤ) → ℕ → ℕ → ℕ → ℤ
gain b T scale j zero = T scale j
gain b T scale j (suc k) = cond (b k) (neg_ℤ (T k j)) (cond (nat_eq k j) (pos 1) (pos 0))

-- The cost (place 0) and the value of each column k (place k + 1), as fractions. The cost is the
-- negated right side of the cost row over the scale. The value is the right side of the row of k
-- over its entry at k if k is in the basis, else 0.
abbrev pub value_top : Basis → (ℕ → ℕ → ℤ) → ℕ → ℕ → ℕ → ℤ
value_top b T scale right zero = neg_ℤ (T scale right)
value_top b T scale right (suc k) = cond (b k) (T k right) (pos 0)

abbrev pub value_bottom : Basis → (ℕ → ℕ → ℤ) → ℕ → ℕ → ℤ
value_bottom b T scale zero = T scale scale
value_bottom b T scale (suc k) = cond (b k) (T k k) (pos 1)
