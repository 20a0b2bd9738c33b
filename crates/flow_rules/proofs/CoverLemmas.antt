-- What the covers pay: the units of a structure are paid at least the weights.
use Rattle.std.proofs.Common.{◌≡◌, ℕ, ◌≤◌, ◌==◌, zero, suc, refl, sym, subst, ap, arith, pos, ℤ}
use Rattle.std.proofs.Common.{◌+ℤ◌, ◌-ℤ◌, ◌≤ℤ◌, List, [], ◌∷◌, Bool, true, false, cond}
use Rattle.std.specs.Prelude.{Option, Some, None, IfSome, ◌&&◌, ◌||◌}
use Rattle.std.specs.List.{AllByRecursion}
use Rattle.std.proofs.lemmas.Int.{ints}
use Rattle.std.proofs.Common.{eqb-true}
use Rattle.integer_laws.specs.Total.{total, total_below}
use Rattle.integer_laws.proofs.Cited.{total-sub, total-le, total-exchange}
use Rattle.pns_rules.specs.number_sets.Sets.{has, any_below, listed}
use Rattle.pns_rules.specs.Shape.{Shape}
use Rattle.pns_rules.specs.Structure.{IsBetween}
use Rattle.pns_rules.specs.Nodes.{Node}
use Rattle.flow_rules.proofs.ListedLemmas.{total-listed}
use Rattle.flow_rules.specs.Cover.{Cover, Covers, is_beside, paid_by, paid, added, weights}
use Rattle.flow_rules.specs.ChargeLaws.{AreCovers}

-- ---- the units of a set

nonneg_below : (n : ℕ) (f : ℕ → ℤ) → ((i : ℕ) → pos 0 ≤ℤ f i) → pos 0 ≤ℤ total_below n f
nonneg_below zero f h = omega (arith, ints)
nonneg_below (suc n) f h = omega (arith, ints, h n, nonneg_below n f h)

either_weight : (a b : Bool) (w : ℤ) → pos 0 ≤ℤ w → pos 0 ≤ℤ cond a (cond b w (pos 0)) (pos 0)
either_weight true true w p = p
either_weight true false w p = omega (arith, ints)
either_weight false b w p = omega (arith, ints)

either_zero : (b : Bool) → cond b (pos 0) (pos 0) ≡ pos 0
either_zero true = refl
either_zero false = refl

-- if s has a unit of t, its units are paid the weight at least once
some_below : (n : ℕ) (s t : ℕ → Bool) (w : ℤ) → pos 0 ≤ℤ w → any_below n (λ u. s u && t u) ≡ true
    → w ≤ℤ total_below n (λ i. cond (s i) (cond (t i) w (pos 0)) (pos 0))
some_below zero s t w p e = cc
some_below (suc n) s t w p e =
    at (s n) (t n) e (nonneg_below n (λ i. cond (s i) (cond (t i) w (pos 0)) (pos 0))
    (λ i. either_weight (s i) (t i) w p)) (some_below n s t w p)
  where
    at : (a b : Bool) → ((a && b) || any_below n (λ u. s u && t u)) ≡ true
        → pos 0 ≤ℤ total_below n (λ i. cond (s i) (cond (t i) w (pos 0)) (pos 0))
        → (any_below n (λ u. s u && t u) ≡ true
        → w ≤ℤ total_below n (λ i. cond (s i) (cond (t i) w (pos 0)) (pos 0)))
        → w ≤ℤ (total_below n (λ i. cond (s i) (cond (t i) w (pos 0)) (pos 0))
        +ℤ cond a (cond b w (pos 0)) (pos 0))
    at true true e q ih = omega (arith, ints)
    at true false e q ih = omega (arith, ints, ih e)
    at false b e q ih = omega (arith, ints, ih e)

-- ---- the unit beside it

-- which is one unit
one_below : (n : ℕ) (s : ℕ → Bool) (u : ℕ) (w : ℤ) → pos 0 ≤ℤ w
    → (total_below n (λ i. cond (s i) (cond (u == i) w (pos 0)) (pos 0)) ≤ℤ cond (s u) w (pos 0))
    × (n ≤ u → total_below n (λ i. cond (s i) (cond (u == i) w (pos 0)) (pos 0)) ≡ pos 0)
one_below zero s u w p = (weight (s u) p, λ l. refl)
  where
    weight : (b : Bool) → pos 0 ≤ℤ w → pos 0 ≤ℤ cond b w (pos 0)
    weight true p = p
    weight false p = omega (arith, ints)
one_below (suc n) s u w p =
    let ih = one_below n s u w p in
    (at (u == n) refl ih.0 ih.1, λ l. after (u == n) refl l (ih.1 (omega arith)))
  where
    at : (b : Bool) → (u == n) ≡ b
        → total_below n (λ i. cond (s i) (cond (u == i) w (pos 0)) (pos 0)) ≤ℤ cond (s u) w (pos 0)
        → (n ≤ u → total_below n (λ i. cond (s i) (cond (u == i) w (pos 0)) (pos 0)) ≡ pos 0)
        → (total_below n (λ i. cond (s i) (cond (u == i) w (pos 0)) (pos 0))
        +ℤ cond (s n) (cond b w (pos 0)) (pos 0)) ≤ℤ cond (s u) w (pos 0)
    at true e h k =
        let same = eqb-true u n e in
        let none = k (omega arith) in
        let last : cond (s n) w (pos 0) ≡ cond (s u) w (pos 0)
        = ap (λ (v : ℕ). cond (s v) w (pos 0)) (sym same) in
        omega (arith, ints)
    at false e h k = let none = either_zero (s n) in omega (arith, ints)

    after : (b : Bool) → (u == n) ≡ b → suc n ≤ u
        → total_below n (λ i. cond (s i) (cond (u == i) w (pos 0)) (pos 0)) ≡ pos 0
        → total_below n (λ i. cond (s i) (cond (u == i) w (pos 0)) (pos 0))
        +ℤ cond (s n) (cond b w (pos 0)) (pos 0) ≡ pos 0
    after true e l h = let same = eqb-true u n e in absurd (omega arith)
    after false e l h = let none = either_zero (s n) in omega (arith, ints)

-- ---- one set

-- the units of a structure are paid what a set adds at least
paid_at : (n : ℕ) (s : ℕ → Bool) (units : List ℕ) (beside : Option ℕ) (w : ℤ) → pos 0 ≤ℤ w
    → (IfSome beside (λ u. s u ≡ true) → any_below n (λ u. s u && has units u) ≡ true)
    → added beside w ≤ℤ (total_below n (λ i. cond (s i) (cond (has units i) w (pos 0)) (pos 0))
    -ℤ total_below n (λ i. cond (s i) (cond (is_beside beside i) w (pos 0)) (pos 0)))
paid_at n s units None w p h =
    let some = some_below n s (has units) w p (h tt) in
    let none : total_below n (λ i. cond (s i) (pos 0) (pos 0)) ≡ pos 0 = nothing n in
    omega (arith, ints)
  where
    nothing : (n : ℕ) → total_below n (λ i. cond (s i) (pos 0) (pos 0)) ≡ pos 0
    nothing zero = refl
    nothing (suc n) = omega (arith, ints, nothing n, either_zero (s n))
paid_at n s units (Some u) w p h = by_unit (s u) refl
  where
    by_unit : (b : Bool) → s u ≡ b
        → pos 0 ≤ℤ (total_below n (λ i. cond (s i) (cond (has units i) w (pos 0)) (pos 0))
        -ℤ total_below n (λ i. cond (s i) (cond (u == i) w (pos 0)) (pos 0)))
    by_unit true e =
        let some = some_below n s (has units) w p (h e) in
        let one = subst (λ (b : Bool). total_below n
        (λ i. cond (s i) (cond (u == i) w (pos 0)) (pos 0)) ≤ℤ cond b w (pos 0)) e
        (one_below n s u w p).0 in
        omega (arith, ints)
    by_unit false e =
        let some = nonneg_below n (λ i. cond (s i) (cond (has units i) w (pos 0)) (pos 0))
        (λ i. either_weight (s i) (has units i) w p) in
        let one = subst (λ (b : Bool). total_below n
        (λ i. cond (s i) (cond (u == i) w (pos 0)) (pos 0)) ≤ℤ cond b w (pos 0)) e
        (one_below n s u w p).0 in
        omega (arith, ints)

cover_paid : (g : Shape) (n : Node) (s : ℕ → Bool) → IsBetween g n.inside n.outside s → (c : Cover)
    → pos 0 ≤ℤ c.weight → Covers g n c
    → added c.beside c.weight ≤ℤ total (paid_by c) (listed g.units s)
cover_paid g n s between c p covers =
    let parts = total-sub (λ i. cond (has c.units i) c.weight (pos 0))
    (λ i. cond (is_beside c.beside i) c.weight (pos 0)) (listed g.units s) in
    let units = total-listed (λ i. cond (has c.units i) c.weight (pos 0)) g.units s in
    let beside = total-listed (λ i. cond (is_beside c.beside i) c.weight (pos 0)) g.units s in
    let less = paid_at g.units s c.units c.beside c.weight p (covers s between) in
    omega (arith, ints, parts, units, beside, less)

-- ---- all sets

All-imply : {X : Type 0} {P Q : X → Type 0} → ((x : X) → P x → Q x) → (xs : List X)
    → AllByRecursion P xs → AllByRecursion Q xs
All-imply h [] a = tt
All-imply h (x ∷ xs) a = (h x a.0, All-imply h xs a.1)

-- the units of a structure are paid at least the weights
pub weights_paid : (g : Shape) (n : Node) (s : ℕ → Bool) → IsBetween g n.inside n.outside s
    → (cs : List Cover) → AreCovers g n cs
    → weights cs ≤ℤ total (paid cs) (listed g.units s)
weights_paid g n s between cs covers =
    let each = total-le (λ c. added c.beside c.weight)
    (λ c. total (paid_by c) (listed g.units s)) cs
    (All-imply (λ c h. cover_paid g n s between c h.0 h.1) cs covers) in
    rw (← total-exchange (λ i c. paid_by c i) (listed g.units s) cs) at each
