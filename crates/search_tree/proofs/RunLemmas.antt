-- Stacks of runs.
use Rattle.std.proofs.Common.{◌≡◌, ℕ, zero, suc, ◌+◌, ◌-◌, ◌<◌, arith, List, [], ◌∷◌, ◌++◌, refl}
use Rattle.std.proofs.Common.{ap, ◌∙◌, append_assoc, length}
use Rattle.std.specs.List.{range_with_len}
use Rattle.search_tree.specs.declared.walk.Run.{Run}
use Rattle.search_tree.specs.Runs.{numbers_of, to_come}

pub to_come-push : (stack : List Run) (r : Run)
    → to_come (stack ++ r ∷ []) ≡ numbers_of r ++ to_come stack
to_come-push [] r = append-none (numbers_of r)
  where
    append-none : (xs : List ℕ) → [] ++ xs ≡ xs ++ []
    append-none [] = refl
    append-none (x ∷ xs) = ap (λ ys. x ∷ ys) (append-none xs)
to_come-push (s ∷ ss) r = ap (λ xs. xs ++ numbers_of s) (to_come-push ss r)
    ∙ append_assoc (numbers_of r) (to_come ss) (numbers_of s)

pub range-first : (a n : ℕ) → 0 < n → a ∷ range_with_len (a + 1) (n - 1) ≡ range_with_len a n
range-first a zero h = absurd (omega (arith, h))
range-first a (suc n) h = ap (λ k. a ∷ range_with_len (a + 1) k) (less n)
  where
    less : (n : ℕ) → suc n - 1 ≡ n
    less n = omega arith

pub come_none : (stack : List Run) → length stack ≡ 0 → to_come stack ≡ []
come_none [] h = refl
come_none (r ∷ rs) h = absurd (omega (arith, h))
