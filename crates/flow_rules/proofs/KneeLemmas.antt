-- The knees of a unit: at each size what is owed after them is at most what was owed before them
-- and the worth of what is made beyond the knees.
use Rattle.std.proofs.Common.{◌≡◌, refl, ap, ◌∙◌, arith, pos, ℤ, ◌+ℤ◌, ◌-ℤ◌, ◌*ℤ◌, ◌≤ℤ◌, ◌<ℤ◌}
use Rattle.std.proofs.Common.{neg_ℤ, List, [], ◌∷◌, Bool, true, false, cond, map}
use Rattle.std.specs.Prelude.{int_lt, int_le, ◌&&◌}
use Rattle.std.specs.List.{AllByRecursion}
use Rattle.std.specs.Int.{int_min, int_max}
use Rattle.std.proofs.lemmas.Int.{ints, clamps, by_lt_z}
use Rattle.integer_laws.specs.Total.{total}
use Rattle.integer_laws.proofs.Cited.{ring_z, V, ◌⊖◌, ◌⊗◌, ring, mul_nonneg, mul-le_right}
use Rattle.integer_laws.proofs.Cited.{le_trans_z, left-le_int_max, right-le_int_max, box_least}
use Rattle.flow_rules.specs.Charge.{Knee, inserted, sorted, Owed, counted, bend, bent, least_owed}

-- d times the worth of what is made at size z / d beyond the knee
abbrev pub excess : ℤ → ℤ → Knee → ℤ
excess z d k = int_max (pos 0) (k.worth *ℤ z -ℤ d *ℤ (k.worth *ℤ k.at))

-- ---- how much counts: b, all of it; e, the cost of a size is below 0; h, the knee is below the
-- greatest size

counted_at : (b e h : Bool) (each worth : ℤ) → (e ≡ true → each <ℤ pos 0) → pos 0 ≤ℤ worth
    → (pos 0 ≤ℤ cond b worth (cond (e && h) (int_min (neg_ℤ each) worth) (pos 0)))
    × (cond b worth (cond (e && h) (int_min (neg_ℤ each) worth) (pos 0)) ≤ℤ worth)
counted_at true e h each worth neg some = (some, omega (arith, ints))
counted_at false true true each worth neg some =
    let n : each <ℤ pos 0 = neg refl in
    (omega (arith, ints, clamps), omega (arith, ints, clamps))
counted_at false true false each worth neg some = (omega (arith, ints), some)
counted_at false false h each worth neg some = (omega (arith, ints), some)

below_zero : (z : ℤ) → int_lt z (pos 0) ≡ true → z <ℤ pos 0
below_zero z e = omega (arith, ints)

pub counted_within : (low high each : ℤ) (k : Knee) → pos 0 ≤ℤ k.worth
    → (pos 0 ≤ℤ counted low high each k) × (counted low high each k ≤ℤ k.worth)
counted_within low high each k some =
    counted_at (int_le k.at low) (int_lt each (pos 0)) (int_lt k.at high) each k.worth
    (below_zero each) some

-- ---- one knee

pulled_out : (t at z d : ℤ) → t *ℤ z -ℤ d *ℤ (t *ℤ at) ≡ t *ℤ (z -ℤ d *ℤ at)
pulled_out t at z d = ring (V t ⊗ V z ⊖ V d ⊗ (V t ⊗ V at)) (V t ⊗ (V z ⊖ V d ⊗ V at)) (omega arith)

-- a part t of the worth counts no more than the worth of what is beyond the knee
part_of_excess : (t worth at z d : ℤ) → pos 0 ≤ℤ t → t ≤ℤ worth
    → (t *ℤ z -ℤ d *ℤ (t *ℤ at)) ≤ℤ int_max (pos 0) (worth *ℤ z -ℤ d *ℤ (worth *ℤ at))
part_of_excess t worth at z d some within =
    let e = pulled_out t at z d in
    let f = pulled_out worth at z d in
    let x : ℤ = z -ℤ d *ℤ at in
    by_lt_z x (pos 0)
    (λ neg.
    let a : pos 0 ≤ℤ (t *ℤ neg_ℤ x) = mul_nonneg t (neg_ℤ x) some (omega (arith, ints)) in
    let b : t *ℤ neg_ℤ x ≡ neg_ℤ (t *ℤ x) = omega (arith, ring_z) in
    let c = left-le_int_max (pos 0) (worth *ℤ z -ℤ d *ℤ (worth *ℤ at)) in
    omega (arith, ints))
    (λ nonneg.
    let a : (t *ℤ x) ≤ℤ (worth *ℤ x) = mul-le_right t worth x within nonneg in
    let c = right-le_int_max (pos 0) (worth *ℤ z -ℤ d *ℤ (worth *ℤ at)) in
    omega (arith, ints))

bend_step : (d once t at each z rest x : ℤ) → (t *ℤ z -ℤ d *ℤ (t *ℤ at)) ≤ℤ x
    → (d *ℤ (once -ℤ t *ℤ at) +ℤ (each +ℤ t) *ℤ z +ℤ rest)
    ≤ℤ (d *ℤ once +ℤ each *ℤ z +ℤ (x +ℤ rest))
bend_step d once t at each z rest x h = omega (arith, ring_z)

-- ---- all knees

pub bent_least : (low high z d : ℤ) (ks : List Knee) (o : Owed)
    → AllByRecursion (λ k. pos 0 ≤ℤ k.worth) ks
    → (d *ℤ (bent low high ks o).once +ℤ (bent low high ks o).each *ℤ z)
    ≤ℤ (d *ℤ o.once +ℤ o.each *ℤ z +ℤ total (excess z d) ks)
bent_least low high z d [] o h = omega (arith, ints)
bent_least low high z d (k ∷ ks) o h =
    let t : ℤ = counted low high o.each k in
    let within = counted_within low high o.each k h.0 in
    le_trans_z
    (d *ℤ (bent low high ks (bend low high o k)).once
    +ℤ (bent low high ks (bend low high o k)).each *ℤ z)
    (d *ℤ (o.once -ℤ t *ℤ k.at) +ℤ (o.each +ℤ t) *ℤ z +ℤ total (excess z d) ks)
    (d *ℤ o.once +ℤ o.each *ℤ z +ℤ (excess z d k +ℤ total (excess z d) ks))
    (bent_least low high z d ks (bend low high o k) h.1)
    (bend_step d o.once t k.at o.each z (total (excess z d) ks) (excess z d k)
    (part_of_excess t k.worth k.at z d within.0 within.1))

-- the same for the least that is owed at a size between low and high
pub least_owed_bent : (low high z d : ℤ) (ks : List Knee) (o : Owed) → pos 0 ≤ℤ d → (low *ℤ d) ≤ℤ z
    → z ≤ℤ (high *ℤ d)
    → AllByRecursion (λ k. pos 0 ≤ℤ k.worth) ks
    → (d *ℤ least_owed low high (bent low high ks o))
    ≤ℤ (d *ℤ o.once +ℤ o.each *ℤ z +ℤ total (excess z d) ks)
least_owed_bent low high z d ks o nonneg lo hi h =
    let b : Owed = bent low high ks o in
    let box = box_least b.each low high d z nonneg lo hi in
    let knees = bent_least low high z d ks o h in
    at b.once (int_min (b.each *ℤ low) (b.each *ℤ high)) (b.each *ℤ z)
    (d *ℤ o.once +ℤ o.each *ℤ z +ℤ total (excess z d) ks) box knees
  where
    at : (once least x y : ℤ) → (d *ℤ least) ≤ℤ x → (d *ℤ once +ℤ x) ≤ℤ y
        → (d *ℤ (once +ℤ least)) ≤ℤ y
    at once least x y p q = omega (arith, ring_z)

-- ---- the order of the knees

total-inserted : (f : Knee → ℤ) (k : Knee) (ks : List Knee)
    → total f (inserted k ks) ≡ f k +ℤ total f ks
total-inserted f k [] = refl
total-inserted f k (x ∷ xs) = at (int_le k.at x.at) (total-inserted f k xs)
  where
    at : (b : Bool) → total f (inserted k xs) ≡ f k +ℤ total f xs
        → total f (cond b (k ∷ x ∷ xs) (x ∷ inserted k xs)) ≡ f k +ℤ (f x +ℤ total f xs)
    at true ih = refl
    at false ih = omega (arith, ints, ih)

pub total-sorted : (f : Knee → ℤ) (ks : List Knee) → total f (sorted ks) ≡ total f ks
total-sorted f [] = refl
total-sorted f (k ∷ ks) = total-inserted f k (sorted ks) ∙ ap (λ z. f k +ℤ z) (total-sorted f ks)

All-inserted : (P : Knee → Type 0) (k : Knee) (ks : List Knee) → P k → AllByRecursion P ks
    → AllByRecursion P (inserted k ks)
All-inserted P k [] h hs = (h, tt)
All-inserted P k (x ∷ xs) h hs = at (int_le k.at x.at) (All-inserted P k xs h hs.1)
  where
    at : (b : Bool) → AllByRecursion P (inserted k xs)
        → AllByRecursion P (cond b (k ∷ x ∷ xs) (x ∷ inserted k xs))
    at true ih = (h, hs)
    at false ih = (hs.0, ih)

pub All-sorted : (P : Knee → Type 0) (ks : List Knee) → AllByRecursion P ks
    → AllByRecursion P (sorted ks)
All-sorted P [] h = tt
All-sorted P (k ∷ ks) h = All-inserted P k (sorted ks) h.0 (All-sorted P ks h.1)

pub All-map : {X Y : Type 0} (P : Y → Type 0) (g : X → Y) (xs : List X)
    → AllByRecursion (λ x. P (g x)) xs → AllByRecursion P (map g xs)
All-map P g [] h = tt
All-map P g (x ∷ xs) h = (h.0, All-map P g xs h.1)

pub total-map : {X Y : Type 0} (f : Y → ℤ) (g : X → Y) (xs : List X)
    → total f (map g xs) ≡ total (λ x. f (g x)) xs
total-map f g [] = refl
total-map f g (x ∷ xs) = ap (λ z. f (g x) +ℤ z) (total-map f g xs)
