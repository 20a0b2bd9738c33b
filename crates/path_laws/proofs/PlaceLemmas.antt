-- The elements of a list by their places: sums, maps, the numbers beside the elements, and the
-- rates of units in rows.
use Rattle.std.proofs.Common.{◌≡◌, ℕ, zero, suc, ◌+◌, ◌*◌, ◌<◌, inl, inr, refl, sym, ap, ◌∙◌, arith}
use Rattle.std.proofs.Common.{pos, ℤ, ◌+ℤ◌, List, [], ◌∷◌, ◌++◌, Bool, true, false, cond, get_or}
use Rattle.std.proofs.Common.{length}
use Rattle.std.specs.Prelude.{map, ◌==◌, ◌||◌}
use Rattle.std.proofs.lemmas.List.{get_or-map, get_or-append-add, get_or_append_left}
use Rattle.std.proofs.lemmas.Bool.Decides.{eqb_tells}
use Rattle.flow_rules.specs.integer_laws.Total.{total, total_below}
use Rattle.flow_rules.proofs.integer_laws.Cited.{total_below-first}
use Rattle.flow_rules.specs.number_sets.Sets.{has, IsBelowAll, IsRising}
use Rattle.flow_rules.specs.Net.{Net, beside}
use Rattle.flow_rules.specs.Program.{rates_over}

-- a sum over a list, by places
pub total-at : (f : ℕ → ℤ) (xs : List ℕ)
    → total f xs ≡ total_below (length xs) (λ k. f (get_or xs k 0))
total-at f [] = refl
total-at f (x ∷ xs) = ap (λ z. f x +ℤ z) (total-at f xs)
    ∙ sym (total_below-first (length xs) (λ k. f (get_or (x ∷ xs) k 0)))

pub at-map : (f : ℕ → ℤ) (xs : List ℕ) (k : ℕ) → k < length xs
    → get_or (map f xs) k (pos 0) ≡ f (get_or xs k 0)
at-map f xs k h = get_or-map f xs k 0 (pos 0) h

-- the place of a number of a list
pub place_of : (xs : List ℕ) (u : ℕ) → has xs u ≡ true → (k : ℕ) × (k < length xs)
    × (get_or xs k 0 ≡ u)
place_of [] u h = absurd (let y : false ≡ true = h in cc)
place_of (x ∷ xs) u h =
    elim (eqb_tells x u) [
      | inl (_, e) ↦ (0, omega arith, e)
      | inr (g, _) ↦
          let (k, l, e) = place_of xs u (sym (ap (λ b. b || has xs u) g) ∙ h) in
          (suc k, omega arith, e)
    ]

-- the element at a place is one of the list
pub has_at : (xs : List ℕ) (k : ℕ) → k < length xs → has xs (get_or xs k 0) ≡ true
has_at [] k h = absurd (omega arith)
has_at (x ∷ xs) zero h =
    elim (eqb_tells x x) [ inl (g, _) ↦ rw g refl | inr (_, q) ↦ absurd (q refl) ]
has_at (x ∷ xs) (suc k) h =
    later (x == get_or xs k 0) (has xs (get_or xs k 0)) (has_at xs k (omega arith))
  where
    later : (a b : Bool) → b ≡ true → (a || b) ≡ true
    later true b e = refl
    later false b e = e

below_at : (x : ℕ) (xs : List ℕ) (k : ℕ) → IsBelowAll x xs → k < length xs → x < get_or xs k 0
below_at x [] k b h = absurd (omega arith)
below_at x (y ∷ ys) zero b h = b.0
below_at x (y ∷ ys) (suc k) b h = below_at x ys k b.1 (omega arith)

-- the number beside the element at a place is the one at that place
pub beside_at : (xs : List ℕ) (zs : List ℤ) (k : ℕ) → IsRising xs → length zs ≡ length xs
    → k < length xs → beside xs zs (get_or xs k 0) ≡ get_or zs k (pos 0)
beside_at [] zs k r e h = absurd (omega arith)
beside_at (x ∷ xs) [] k r e h = absurd (omega arith)
beside_at (x ∷ xs) (z ∷ zs) zero r e h =
    elim (eqb_tells x x) [ inl (g, _) ↦ rw g refl | inr (_, q) ↦ absurd (q refl) ]
beside_at (x ∷ xs) (z ∷ zs) (suc k) r e h =
    let l = below_at x xs k r.0 (omega arith) in
    elim (eqb_tells x (get_or xs k 0)) [
      | inl (_, q) ↦ absurd (omega arith)
      | inr (g, _) ↦ ap (λ b. cond b z (beside xs zs (get_or xs k 0))) g
          ∙ beside_at xs zs k r.1 (omega arith) (omega arith)
    ]

-- the number beside any other number is 0
pub beside_none : (xs : List ℕ) (zs : List ℤ) (u : ℕ) → has xs u ≡ false → beside xs zs u ≡ pos 0
beside_none [] zs u h = refl
beside_none (x ∷ xs) [] u h = refl
beside_none (x ∷ xs) (z ∷ zs) u h = pick (x == u) h (λ e. beside_none xs zs u e)
  where
    pick : (b : Bool) → (b || has xs u) ≡ false → (has xs u ≡ false → beside xs zs u ≡ pos 0)
        → cond b z (beside xs zs u) ≡ pos 0
    pick true h f = absurd (let y : true ≡ false = h in cc)
    pick false h f = f h

pub length_map : {X Y : Type 0} (f : X → Y) (xs : List X) → length (map f xs) ≡ length xs
length_map f [] = refl
length_map f (x ∷ xs) = ap suc (length_map f xs)

-- the rate of the unit at place i in the row at place j
pub rates_at : (net : Net) (js is : List ℕ) (i j : ℕ) → i < length is → j < length js
    → get_or (rates_over net js is) (i * length js + j) (pos 0)
    ≡ net.rate (get_or js j 0) (get_or is i 0)
rates_at net js [] i j h l = absurd (omega arith)
rates_at net js (x ∷ is) zero j h l =
    let e = length_map (λ j. net.rate j x) js in
    let z : 0 * length js + j ≡ j = omega arith in
    ap (λ m. get_or (map (λ j. net.rate j x) js ++ rates_over net js is) m (pos 0)) z
    ∙ get_or_append_left (map (λ j. net.rate j x) js) (rates_over net js is) (pos 0) j
    (omega (arith, e)) ∙ at-map (λ j. net.rate j x) js j l
rates_at net js (x ∷ is) (suc i) j h l =
    let e = length_map (λ j. net.rate j x) js in
    let k : suc i * length js + j ≡ length (map (λ j. net.rate j x) js) + (i * length js + j) =
    omega (arith, e) in
    ap (λ m. get_or (map (λ j. net.rate j x) js ++ rates_over net js is) m (pos 0)) k
    ∙ get_or-append-add (map (λ j. net.rate j x) js) (rates_over net js is) (i * length js + j)
    (pos 0)
    ∙ rates_at net js is i j (omega arith) l
