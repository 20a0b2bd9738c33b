-- The open leaves in rising order of value, with a new leaf before those of equal value.
use Rattle.std.specs.Prelude.{◌≡◌, ℕ, Bool, true, false, cond, List, [], ◌∷◌, ◌++◌, Option, Some}
use Rattle.std.specs.Prelude.{None}
use Rattle.std.specs.List.{slice_get}
use Rattle.std.specs.Ordering.{is_le}
use Rattle.std.specs.declared.cmp.Ordering.TheVariants.{Greater}
use Rattle.exact_numbers.specs.declared.number.Mixed.{Mixed}
use Rattle.exact_numbers.specs.MixedOrder.{mixed_cmp}
use Rattle.link_lists.specs.Lists.{first, has, inserted}

-- the other value is there, and v is at most that
abbrev pub at_most : Mixed → Option Mixed → Bool
at_most v None = false
at_most v (Some w) = is_le (mixed_cmp v w)

-- leaf c has at least the value v; the values of all leaves are vs
abbrev pub is_at_least : List Mixed → Mixed → ℕ → Bool
is_at_least vs v c = at_most v (slice_get vs c)

-- the leaves with the leaf c of value v: before the first that has at least this value, so before
-- all of the same value
abbrev pub placed : List Mixed → Mixed → ℕ → List ℕ → List ℕ
placed vs v c [] = c ∷ []
placed vs v c (x ∷ xs) = cond (is_at_least vs v x) (c ∷ x ∷ xs) (x ∷ placed vs v c xs)

-- the value of x is at most that of y
abbrev pub IsAtMost : List Mixed → ℕ → ℕ → Type 0
IsAtMost vs x y = (v w : Mixed) → slice_get vs x ≡ Some v → slice_get vs y ≡ Some w
    → mixed_cmp v w ≡ Greater → ⊥

-- no leaf has a greater value than one after it
abbrev pub IsRising : List Mixed → List ℕ → Type 0
IsRising vs [] = Unit {0}
IsRising vs (x ∷ xs) = ((y : ℕ) → has xs y ≡ true → IsAtMost vs x y) × IsRising vs xs

-- the leaf after the first one
abbrev pub second : List ℕ → Option ℕ
second [] = None
second (x ∷ xs) = first xs

-- the leaves, and how many nodes can be leaves without more memory
pub record OpenLeaves : Type 0 where
  pub leaves : List ℕ
  pub room : ℕ

-- the leaves with c just before b, or at the end
abbrev pub put_before : ℕ → Option ℕ → List ℕ → List ℕ
put_before c None xs = xs ++ c ∷ []
put_before c (Some b) xs = inserted c b xs
