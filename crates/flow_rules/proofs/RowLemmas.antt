-- A row with its knees: its balance, times the multiplier, less the worth of what is made beyond
-- the knees, is at least what the row gives to the charge.
use Rattle.std.proofs.Common.{◌≡◌, ℕ, ◌<◌, ◌⊎◌, inl, inr, refl, sym, ap, ◌∙◌, arith, pos, ℤ, ◌+ℤ◌}
use Rattle.std.proofs.Common.{◌-ℤ◌, ◌*ℤ◌, ◌≤ℤ◌, ◌<ℤ◌, neg_ℤ, List, [], ◌∷◌, Bool, true, false, cond}
use Rattle.std.specs.Prelude.{int_lt, not, ◌&&◌}
use Rattle.std.specs.List.{AllByRecursion}
use Rattle.std.specs.Int.{int_min, int_max}
use Rattle.std.proofs.lemmas.Int.{ints, clamps, by_lt_z}
use Rattle.integer_laws.specs.Total.{total}
use Rattle.integer_laws.proofs.Cited.{ring_z, V, ◌⊖◌, ◌⊗◌, ring, mul_nonneg, mul-le_left}
use Rattle.integer_laws.proofs.Cited.{mul-le_right, int_min-le_left, right-le_int_max, box_least}
use Rattle.integer_laws.proofs.Cited.{total-sub, total-mul, total-zero, total-agree}
use Rattle.pns_rules.specs.number_sets.Sets.{IsWithin}
use Rattle.pns_rules.specs.Structure.{mats}
use Rattle.pns_rules.specs.Nodes.{Node}
use Rattle.flow_rules.specs.Net.{Net, units_of}
use Rattle.flow_rules.specs.Flows.{balance}
use Rattle.flow_rules.specs.Relaxed.{stays, row_low, row_high, row_part}
use Rattle.flow_rules.proofs.ListedLemmas.{All-listed}
use Rattle.flow_rules.proofs.NetLemmas.{IsNet}
use Rattle.flow_rules.specs.ChargeFacts.{Facts, AreFacts, Fit, use_rate, use_of}
use Rattle.flow_rules.specs.Charge.{users_most, at_most, useful, rounded_up, has_knee, knee_of}
use Rattle.flow_rules.proofs.KneeLemmas.{excess}
use Rattle.flow_rules.proofs.UsefulLemmas.{rounded_up_nonneg, rounded_up_most, use_of_under}
use Rattle.flow_rules.proofs.UsefulLemmas.{useful_nonneg}

-- d times the worth of what unit i makes of material j beyond its knee; 0 if it has none
abbrev pub beyond : Net → Node → Facts → (ℕ → ℤ) → (ℕ → ℤ) → ℤ → ℕ → ℕ → ℤ
beyond net n f y z d i j =
    cond (has_knee net n y i j) (excess (z i) d (knee_of net n f y i j)) (pos 0)

-- d times what it makes of it beyond the knee
abbrev cut : Net → Node → Facts → (ℕ → ℤ) → ℤ → ℕ → ℕ → ℤ
cut net n f z d j i =
    cond (int_lt (pos 0) (net.rate j i))
    (int_max (pos 0) (net.rate j i *ℤ z i
    -ℤ d *ℤ (net.rate j i *ℤ rounded_up (useful net n f j) (net.rate j i)))) (pos 0)

-- ---- one unit: a, it makes the material at this rate

-- what it makes up to the knee is all that it makes, or at least w; what it uses is at most its use
cut_at : (a : Bool) (rate z d q w : ℤ) → int_lt (pos 0) rate ≡ a → pos 0 ≤ℤ z → pos 0 ≤ℤ d
    → (a ≡ true → pos 0 ≤ℤ q) → (a ≡ true → w ≤ℤ (d *ℤ (rate *ℤ q)))
    → (pos 0 ≤ℤ ((rate *ℤ z -ℤ cond a (int_max (pos 0) (rate *ℤ z -ℤ d *ℤ (rate *ℤ q))) (pos 0))
    +ℤ int_max (pos 0) (neg_ℤ rate) *ℤ z))
    × ((rate *ℤ z -ℤ cond a (int_max (pos 0) (rate *ℤ z -ℤ d *ℤ (rate *ℤ q))) (pos 0) ≡ rate *ℤ z)
    ⊎ (w ≤ℤ ((rate *ℤ z -ℤ cond a (int_max (pos 0) (rate *ℤ z -ℤ d *ℤ (rate *ℤ q))) (pos 0))
    +ℤ int_max (pos 0) (neg_ℤ rate) *ℤ z)))
cut_at false rate z d q w e zp dp qp h =
    let low : rate ≤ℤ pos 0 = omega (arith, ints) in
    let a : (neg_ℤ rate *ℤ z) ≤ℤ (int_max (pos 0) (neg_ℤ rate) *ℤ z)
    = mul-le_right (neg_ℤ rate) (int_max (pos 0) (neg_ℤ rate)) z
    (right-le_int_max (pos 0) (neg_ℤ rate)) zp in
    let b : neg_ℤ rate *ℤ z ≡ neg_ℤ (rate *ℤ z) = omega (arith, ring_z) in
    (omega (arith, ints), inl (omega (arith, ints)))
cut_at true rate z d q w e zp dp qp h =
    let high : pos 0 <ℤ rate = omega (arith, ints) in
    let some : pos 0 ≤ℤ rate = omega (arith, ints) in
    let u : pos 0 ≤ℤ (int_max (pos 0) (neg_ℤ rate) *ℤ z)
    = mul_nonneg (int_max (pos 0) (neg_ℤ rate)) z (omega (arith, ints, clamps)) zp in
    let x : pos 0 ≤ℤ (rate *ℤ z) = mul_nonneg rate z some zp in
    let v : pos 0 ≤ℤ (d *ℤ (rate *ℤ q))
    = mul_nonneg d (rate *ℤ q) dp (mul_nonneg rate q some (qp refl)) in
    let enough : w ≤ℤ (d *ℤ (rate *ℤ q)) = h refl in
    here (rate *ℤ z) (d *ℤ (rate *ℤ q)) (int_max (pos 0) (neg_ℤ rate) *ℤ z) w x v u enough
  where
    here : (x v u w : ℤ) → pos 0 ≤ℤ x → pos 0 ≤ℤ v → pos 0 ≤ℤ u → w ≤ℤ v
        → (pos 0 ≤ℤ ((x -ℤ int_max (pos 0) (x -ℤ v)) +ℤ u))
        × ((x -ℤ int_max (pos 0) (x -ℤ v) ≡ x) ⊎ (w ≤ℤ ((x -ℤ int_max (pos 0) (x -ℤ v)) +ℤ u)))
    here x v u w p q r h =
        by_lt_z v x
        (λ over. (omega (arith, ints, clamps), inr (omega (arith, ints, clamps))))
        (λ under. (omega (arith, ints, clamps), inl (omega (arith, ints, clamps))))

-- ---- all units

either_total : {X : Type 0} (f g u : X → ℤ) (w : ℤ) (xs : List X)
    → AllByRecursion (λ x. (pos 0 ≤ℤ (f x +ℤ u x)) × ((f x ≡ g x) ⊎ (w ≤ℤ (f x +ℤ u x)))) xs
    → (pos 0 ≤ℤ (total f xs +ℤ total u xs))
    × ((total f xs ≡ total g xs) ⊎ (w ≤ℤ (total f xs +ℤ total u xs)))
either_total f g u w [] h = (omega (arith, ints), inl refl)
either_total f g u w (x ∷ xs) h =
    let rest = either_total f g u w xs h.1 in
    join (f x) (g x) (u x) (total f xs) (total g xs) (total u xs) h.0.0 rest.0 h.0.1 rest.1
  where
    join : (a b c p q r : ℤ) → pos 0 ≤ℤ (a +ℤ c) → pos 0 ≤ℤ (p +ℤ r) → (a ≡ b) ⊎ (w ≤ℤ (a +ℤ c))
        → (p ≡ q) ⊎ (w ≤ℤ (p +ℤ r))
        → (pos 0 ≤ℤ ((a +ℤ p) +ℤ (c +ℤ r))) × ((a +ℤ p ≡ b +ℤ q) ⊎ (w ≤ℤ ((a +ℤ p) +ℤ (c +ℤ r))))
    join a b c p q r h k (inl e) (inl e') = (omega (arith, ints), inl (omega (arith, ints)))
    join a b c p q r h k (inr e) s = (omega (arith, ints), inr (omega (arith, ints)))
    join a b c p q r h k (inl e) (inr e') = (omega (arith, ints), inr (omega (arith, ints)))

size_nonneg : (least d z : ℤ) → pos 0 ≤ℤ least → pos 0 ≤ℤ d → (least *ℤ d) ≤ℤ z → pos 0 ≤ℤ z
size_nonneg least d z p q h = let a = mul_nonneg least d p q in omega (arith, ints)

-- what is made up to the knees, less what is used, is at least the low end of the row
pub low_with_knees : (net : Net) → IsNet net
    → (n : Node) (f : Facts) (s : ℕ → Bool) (z : ℕ → ℤ) (d : ℤ) → AreFacts net f → Fit net f s z d
    → IsWithin s (stays n) → pos 0 ≤ℤ d → (j : ℕ) → j < net.graph.materials
    → net.graph.raw j ≡ false
    → (row_low net n j *ℤ d) ≤ℤ balance net s z j
    → (row_low net n j *ℤ d) ≤ℤ total (λ i. net.rate j i *ℤ z i -ℤ cut net n f z d j i)
    (units_of net s)
low_with_knees net valid n f s z d facts fit sub nonneg j l e low =
    let w : ℤ = useful net n f j *ℤ d in
    let part : ℕ → ℤ = λ i. net.rate j i *ℤ z i -ℤ cut net n f z d j i in
    let some = useful_nonneg net valid n f facts j l e in
    let each : AllByRecursion (λ i. (pos 0 ≤ℤ (part i +ℤ use_rate net j i *ℤ z i))
    × ((part i ≡ net.rate j i *ℤ z i) ⊎ (w ≤ℤ (part i +ℤ use_rate net j i *ℤ z i))))
    (units_of net s)
    = All-listed (λ i. (pos 0 ≤ℤ (part i +ℤ use_rate net j i *ℤ z i))
    × ((part i ≡ net.rate j i *ℤ z i) ⊎ (w ≤ℤ (part i +ℤ use_rate net j i *ℤ z i)))) net.graph.units
    s
    (λ i k h. cut_at (int_lt (pos 0) (net.rate j i)) (net.rate j i) (z i) d
    (rounded_up (useful net n f j) (net.rate j i)) w refl
    (size_nonneg (f.least i) d (z i) (facts.not_negative i k) nonneg (fit.at_least i k h)) nonneg
    (λ a. rounded_up_nonneg (useful net n f j) (net.rate j i) some (above (net.rate j i) a))
    (λ a. scaled (useful net n f j) (net.rate j i *ℤ rounded_up (useful net n f j) (net.rate j i)) d
    (rounded_up_most (useful net n f j) (net.rate j i) some (above (net.rate j i) a)) nonneg)) in
    let both = either_total part (λ i. net.rate j i *ℤ z i) (λ i. use_rate net j i *ℤ z i) w
    (units_of net s) each in
    by_case (row_low net n j) (at_most (f.used j) (users_most net n f j)) d
    (total part (units_of net s)) (balance net s z j) (use_of net s z j)
    low (use_of_under net n f s z d facts fit sub nonneg j l) both.1
  where
    above : (x : ℤ) → int_lt (pos 0) x ≡ true → pos 0 <ℤ x
    above x a = omega (arith, ints)

    scaled : (x v k : ℤ) → x ≤ℤ v → pos 0 ≤ℤ k → (x *ℤ k) ≤ℤ (k *ℤ v)
    scaled x v k h p = let a = mul-le_left k x v h p in omega (arith, ints)

    by_case : (low most d made all used : ℤ) → (low *ℤ d) ≤ℤ all → used ≤ℤ (most *ℤ d)
        → (made ≡ all) ⊎ (((low +ℤ most) *ℤ d) ≤ℤ (made +ℤ used)) → (low *ℤ d) ≤ℤ made
    by_case low most d made all used h k (inl e) = omega (arith, ints)
    by_case low most d made all used h k (inr e) = omega (arith, ring_z)

-- ---- the worth

times_max : (y x : ℤ) → pos 0 ≤ℤ y → int_max (pos 0) (y *ℤ x) ≡ y *ℤ int_max (pos 0) x
times_max y x p =
    by_lt_z x (pos 0)
    (λ neg.
    let a : pos 0 ≤ℤ (y *ℤ neg_ℤ x) = mul_nonneg y (neg_ℤ x) p (omega (arith, ints)) in
    let b : y *ℤ neg_ℤ x ≡ neg_ℤ (y *ℤ x) = omega (arith, ring_z) in
    let c : int_max (pos 0) x ≡ pos 0 = omega (arith, ints, clamps) in
    let e : int_max (pos 0) (y *ℤ x) ≡ pos 0 = omega (arith, ints, clamps) in
    e ∙ sym (ap (λ (v : ℤ). y *ℤ v) c ∙ none y))
    (λ nonneg.
    let a : pos 0 ≤ℤ (y *ℤ x) = mul_nonneg y x p nonneg in
    let c : int_max (pos 0) x ≡ x = omega (arith, ints, clamps) in
    let e : int_max (pos 0) (y *ℤ x) ≡ y *ℤ x = omega (arith, ints, clamps) in
    e ∙ sym (ap (λ (v : ℤ). y *ℤ v) c))
  where
    none : (y : ℤ) → y *ℤ pos 0 ≡ pos 0
    none y = omega (arith, ints)

-- m, the material is a row; r, it is raw; a, the unit makes it; b, the multiplier is above 0
beyond_at : (m r a b : Bool) (y rate z d q : ℤ) → m ≡ true → r ≡ false → b ≡ true → pos 0 ≤ℤ y
    → cond (m && not r && a && b) (int_max (pos 0) ((y *ℤ rate) *ℤ z -ℤ d *ℤ ((y *ℤ rate) *ℤ q)))
    (pos 0)
    ≡ y *ℤ cond a (int_max (pos 0) (rate *ℤ z -ℤ d *ℤ (rate *ℤ q))) (pos 0)
beyond_at false r a b y rate z d q e g h p = cc
beyond_at true true a b y rate z d q e g h p = cc
beyond_at true false a false y rate z d q e g h p = cc
beyond_at true false false true y rate z d q e g h p = omega (arith, ints)
beyond_at true false true true y rate z d q e g h p =
    let same : (y *ℤ rate) *ℤ z -ℤ d *ℤ ((y *ℤ rate) *ℤ q) ≡ y *ℤ (rate *ℤ z -ℤ d *ℤ (rate *ℤ q))
    = ring ((V y ⊗ V rate) ⊗ V z ⊖ V d ⊗ ((V y ⊗ V rate) ⊗ V q))
    (V y ⊗ (V rate ⊗ V z ⊖ V d ⊗ (V rate ⊗ V q))) (omega arith) in
    ap (λ (v : ℤ). int_max (pos 0) v) same ∙ times_max y (rate *ℤ z -ℤ d *ℤ (rate *ℤ q)) p

no_beyond : (m r a b : Bool) (x : ℤ) → (r ≡ true) ⊎ (b ≡ false)
    → cond (m && not r && a && b) x (pos 0) ≡ pos 0
no_beyond false r a b x e = refl
no_beyond true true a b x e = refl
no_beyond true false false b x e = refl
no_beyond true false true false x e = refl
no_beyond true false true true x (inl e) = cc
no_beyond true false true true x (inr e) = cc

-- ---- the row

pub row_with_knees : (net : Net) → IsNet net
    → (n : Node) (f : Facts) (s : ℕ → Bool) (z : ℕ → ℤ) (d : ℤ) → AreFacts net f → Fit net f s z d
    → IsWithin s (stays n) → pos 0 ≤ℤ d → (y : ℕ → ℤ) (j : ℕ) → j < net.graph.materials
    → mats net.graph (stays n) j ≡ true
    → (row_low net n j *ℤ d) ≤ℤ balance net s z j → balance net s z j ≤ℤ (row_high net n j *ℤ d)
    → (d *ℤ row_part net n y j) ≤ℤ (y j *ℤ balance net s z j
    -ℤ total (λ i. beyond net n f y z d i j) (units_of net s))
row_with_knees net valid n f s z d facts fit sub nonneg y j l m low high =
    at (net.graph.raw j) (int_lt (pos 0) (y j)) refl refl
  where
    plain : (net.graph.raw j ≡ true) ⊎ (int_lt (pos 0) (y j) ≡ false)
        → (d *ℤ row_part net n y j) ≤ℤ (y j *ℤ balance net s z j
        -ℤ total (λ i. beyond net n f y z d i j) (units_of net s))
    plain e =
        let none : total (λ i. beyond net n f y z d i j) (units_of net s) ≡ pos 0
        = total-zero (λ i. beyond net n f y z d i j) (units_of net s)
        (All-listed (λ i. beyond net n f y z d i j ≡ pos 0) net.graph.units s
        (λ i k h. no_beyond (mats net.graph (stays n) j) (net.graph.raw j)
        (int_lt (pos 0) (net.rate j i)) (int_lt (pos 0) (y j))
        (excess (z i) d (knee_of net n f y i j)) e)) in
        let box = box_least (y j) (row_low net n j) (row_high net n j) d
        (balance net s z j) nonneg low high in
        omega (arith, ints, none, box)

    bent : net.graph.raw j ≡ false → int_lt (pos 0) (y j) ≡ true
        → (d *ℤ row_part net n y j) ≤ℤ (y j *ℤ balance net s z j
        -ℤ total (λ i. beyond net n f y z d i j) (units_of net s))
    bent e g =
        let some : pos 0 ≤ℤ y j = omega (arith, ints) in
        let worth : total (λ i. beyond net n f y z d i j) (units_of net s)
        ≡ y j *ℤ total (cut net n f z d j) (units_of net s)
        = total-agree (λ i. beyond net n f y z d i j) (λ i. y j *ℤ cut net n f z d j i)
        (units_of net s)
        (All-listed (λ i. beyond net n f y z d i j ≡ y j *ℤ cut net n f z d j i) net.graph.units s
        (λ i k h. beyond_at (mats net.graph (stays n) j) (net.graph.raw j)
        (int_lt (pos 0) (net.rate j i)) (int_lt (pos 0) (y j)) (y j) (net.rate j i) (z i) d
        (rounded_up (useful net n f j) (net.rate j i)) m e g some))
        ∙ total-mul (y j) (cut net n f z d j) (units_of net s) in
        let made = rw (total-sub (λ i. net.rate j i *ℤ z i) (cut net n f z d j)
        (units_of net s)) at (low_with_knees net valid n f s z d facts fit sub nonneg j l e low) in
        whole (y j) (row_low net n j) (y j *ℤ row_high net n j) (balance net s z j)
        (total (cut net n f z d j) (units_of net s))
        (total (λ i. beyond net n f y z d i j) (units_of net s)) some worth made
      where
        whole : (y low high all cuts worth : ℤ) → pos 0 ≤ℤ y → worth ≡ y *ℤ cuts
            → (low *ℤ d) ≤ℤ (all -ℤ cuts)
            → (d *ℤ int_min (y *ℤ low) high) ≤ℤ (y *ℤ all -ℤ worth)
        whole y low high all cuts worth some e h =
            let a = mul-le_left d (int_min (y *ℤ low) high) (y *ℤ low)
            (int_min-le_left (y *ℤ low) high) nonneg in
            let b = mul-le_left y (low *ℤ d) (all -ℤ cuts) h some in
            omega (arith, ring_z)

    at : (r b : Bool) → net.graph.raw j ≡ r → int_lt (pos 0) (y j) ≡ b
        → (d *ℤ row_part net n y j) ≤ℤ (y j *ℤ balance net s z j
        -ℤ total (λ i. beyond net n f y z d i j) (units_of net s))
    at true b e g = plain (inl e)
    at false false e g = plain (inr g)
    at false true e g = bent e g
