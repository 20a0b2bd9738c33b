-- Flows over another denominator, multipliers without a common factor.
use Rattle.std.proofs.Common.{◌≡◌, ℕ, zero, suc, ◌<◌, ◌⊎◌, inl, inr, arith, refl, ap, sym, ◌∙◌}
use Rattle.std.specs.Prelude.{ℤ, pos, negsuc, ◌+ℤ◌, ◌-ℤ◌, ◌*ℤ◌, ◌<ℤ◌, ◌≤ℤ◌}
use Rattle.std.specs.Int.{int_min}
use Rattle.std.proofs.lemmas.Int.{ints, clamps, by_lt_z}
use Rattle.flow_rules.proofs.integer_laws.Cited.{total_below-same, total_below-mul, mul_nonneg}
use Rattle.flow_rules.proofs.integer_laws.Cited.{mul-le_left, V}
use Rattle.flow_rules.proofs.integer_laws.Cited.{◌⊕◌, ◌⊖◌, ◌⊗◌, ring, ring_le, read_equal, read_le}
use Rattle.flow_rules.specs.integer_laws.Total.{total_below}
use Rattle.flow_rules.specs.LinearProgram.{LinearProgram}
use Rattle.path_laws.proofs.Relaxed.{flow, relaxed_cost, bound, left_over, IsRelaxedFlow}

-- ---- flows that are equal as fractions
apart : (x y : ℤ) → x ≤ℤ y → pos 0 ≤ℤ (y -ℤ x)
apart x y h = omega (arith, ints)

joined : (x y : ℤ) → pos 0 ≤ℤ (y -ℤ x) → x ≤ℤ y
joined x y h = omega (arith, ints)

nonneg_of : (c x : ℤ) → pos 0 <ℤ c → pos 0 ≤ℤ (c *ℤ x) → pos 0 ≤ℤ x
nonneg_of (pos zero) x h e = absurd (omega (arith, ints))
nonneg_of (negsuc m) x h e = absurd (omega (arith, ints))
nonneg_of (pos (suc m)) (pos n) h e = omega (arith, ints)
nonneg_of (pos (suc m)) (negsuc n) h e = absurd (omega (arith, ints))

weaken : (z : ℤ) → pos 0 <ℤ z → pos 0 ≤ℤ z
weaken z h = omega (arith, ints)

-- x / d and y / m are the same: a bound of the one is one of the other
lower_same : (a x y d m : ℤ) → pos 0 <ℤ m → pos 0 <ℤ d → x *ℤ m ≡ y *ℤ d → (a *ℤ m) ≤ℤ y
    → (a *ℤ d) ≤ℤ x
lower_same a x y d m pm pd e h =
    let u =
    read_le (V (pos 0)) (V d ⊗ (V y ⊖ V a ⊗ V m))
    (mul_nonneg d (y -ℤ a *ℤ m) (weaken d pd) (apart (a *ℤ m) y h)) in
    let v = read_equal (V x ⊗ V m) (V y ⊗ V d) e in
    joined (a *ℤ d) x
    (nonneg_of m (x -ℤ a *ℤ d) pm
    (ring_le (V (pos 0)) (V m ⊗ (V x ⊖ V a ⊗ V d)) (omega (arith, u, v))))

upper_same : (a x y d m : ℤ) → pos 0 <ℤ m → pos 0 <ℤ d → x *ℤ m ≡ y *ℤ d → y ≤ℤ (a *ℤ m)
    → x ≤ℤ (a *ℤ d)
upper_same a x y d m pm pd e h =
    let u =
    read_le (V (pos 0)) (V d ⊗ (V a ⊗ V m ⊖ V y))
    (mul_nonneg d (a *ℤ m -ℤ y) (weaken d pd) (apart y (a *ℤ m) h)) in
    let v = read_equal (V x ⊗ V m) (V y ⊗ V d) e in
    joined x (a *ℤ d)
    (nonneg_of m (a *ℤ d -ℤ x) pm
    (ring_le (V (pos 0)) (V m ⊗ (V a ⊗ V d ⊖ V x)) (omega (arith, u, v))))

same_total : (n : ℕ) (a Z Y : ℕ → ℤ) (d m : ℤ) → ((i : ℕ) → i < n → Z i *ℤ m ≡ Y i *ℤ d)
    → total_below n (λ i. a i *ℤ Z i) *ℤ m ≡ total_below n (λ i. a i *ℤ Y i) *ℤ d
same_total zero a Z Y d m e = ring (V (pos 0) ⊗ V m) (V (pos 0) ⊗ V d) (omega arith)
same_total (suc n) a Z Y d m e =
    let x =
    read_equal (V (total_below n (λ i. a i *ℤ Z i)) ⊗ V m)
    (V (total_below n (λ i. a i *ℤ Y i)) ⊗ V d)
    (same_total n a Z Y d m (λ i l. e i (omega arith))) in
    let y =
    read_equal (V (a n) ⊗ (V (Z n) ⊗ V m)) (V (a n) ⊗ (V (Y n) ⊗ V d))
    (ap (λ z. a n *ℤ z) (e n (omega arith))) in
    ring ((V (total_below n (λ i. a i *ℤ Z i)) ⊕ V (a n) ⊗ V (Z n)) ⊗ V m)
    ((V (total_below n (λ i. a i *ℤ Y i)) ⊕ V (a n) ⊗ V (Y n)) ⊗ V d) (omega (arith, x, y))

-- relaxed flows over one denominator are relaxed flows over any other that takes them
pub relaxed_same : (p : LinearProgram) (Z Y : ℕ → ℤ) (d m : ℤ) → pos 0 <ℤ d
    → ((i : ℕ) → i < p.units → Z i *ℤ m ≡ Y i *ℤ d) → IsRelaxedFlow p Y m → IsRelaxedFlow p Z d
relaxed_same p Z Y d m pd e f = record {
  positive = pd;
  from = λ i h. lower_same (p.low i) (Z i) (Y i) d m f.positive pd (e i h) (f.from i h);
  upto = λ i h. upper_same (p.high i) (Z i) (Y i) d m f.positive pd (e i h) (f.upto i h);
  enough =
      λ j h. lower_same (p.floor j) (flow p Z j) (flow p Y j) d m f.positive pd
      (same_total p.units (p.rate j) Z Y d m e) (f.enough j h);
  within =
      λ j h. upper_same (p.ceiling j) (flow p Z j) (flow p Y j) d m f.positive pd
      (same_total p.units (p.rate j) Z Y d m e) (f.within j h);
}

pub cost_same : (p : LinearProgram) (Z Y : ℕ → ℤ) (d m : ℤ)
    → ((i : ℕ) → i < p.units → Z i *ℤ m ≡ Y i *ℤ d)
    → relaxed_cost p Z d *ℤ m ≡ relaxed_cost p Y m *ℤ d
cost_same p Z Y d m e =
    let x =
    read_equal (V (total_below p.units (λ i. p.cost i *ℤ Z i)) ⊗ V m)
    (V (total_below p.units (λ i. p.cost i *ℤ Y i)) ⊗ V d)
    (same_total p.units p.cost Z Y d m e) in
    ring ((V p.fixed ⊗ V d ⊕ V (total_below p.units (λ i. p.cost i *ℤ Z i))) ⊗ V m)
    ((V p.fixed ⊗ V m ⊕ V (total_below p.units (λ i. p.cost i *ℤ Y i))) ⊗ V d)
    (omega (arith, x))

-- the size of a basic x over d: low * d + (d / q) * r, if the basic solution over m has v = o * r'
-- with m = o * q'
pub size_same : (low d q k r o r' q' v m : ℤ) → d ≡ k *ℤ q → q *ℤ r' ≡ r *ℤ q' → v ≡ o *ℤ r'
    → m ≡ o *ℤ q' → (k *ℤ r +ℤ low *ℤ d) *ℤ m ≡ (v +ℤ low *ℤ m) *ℤ d
size_same low d q k r o r' q' v m e f g h =
    ap (λ x. (k *ℤ r +ℤ low *ℤ d) *ℤ x) h ∙ ap (λ x. (k *ℤ r +ℤ low *ℤ x) *ℤ (o *ℤ q')) e
    ∙ (let y =
    read_equal (V k ⊗ (V o ⊗ (V q ⊗ V r'))) (V k ⊗ (V o ⊗ (V r ⊗ V q')))
    (ap (λ x. k *ℤ (o *ℤ x)) f) in
    ring ((V k ⊗ V r ⊕ V low ⊗ (V k ⊗ V q)) ⊗ (V o ⊗ V q'))
    ((V o ⊗ V r' ⊕ V low ⊗ (V o ⊗ V q')) ⊗ (V k ⊗ V q)) (omega (arith, y)))
    ∙ ap (λ x. (x +ℤ low *ℤ (o *ℤ q')) *ℤ (k *ℤ q)) (sym g)
    ∙ ap (λ x. (v +ℤ low *ℤ x) *ℤ (k *ℤ q)) (sym h) ∙ ap (λ x. (v +ℤ low *ℤ m) *ℤ x) (sym e)

-- ---- multipliers without their common factor
min_is : (a b : ℤ) → (int_min a b ≡ a) ⊎ (int_min a b ≡ b)
min_is a b =
    by_lt_z b a (λ h. inr (omega (arith, ints, clamps))) (λ h. inl (omega (arith, ints, clamps)))

min_times : (g a b : ℤ) → pos 0 ≤ℤ g → int_min (g *ℤ a) (g *ℤ b) ≡ g *ℤ int_min a b
min_times g a b h = by_lt_z b a
    (λ l. right (g *ℤ a) (g *ℤ b) (int_min a b) b (mul-le_left g b a (below b a l) h)
    (omega (arith, ints, clamps)))
    (λ l. left (g *ℤ a) (g *ℤ b) (int_min a b) a (mul-le_left g a b l h)
    (omega (arith, ints, clamps)))
  where
    below : (x y : ℤ) → x <ℤ y → x ≤ℤ y
    below x y h = omega (arith, ints)

    right : (x y m z : ℤ) → (g *ℤ z) ≤ℤ x → m ≡ z → int_min x (g *ℤ z) ≡ g *ℤ m
    right x y m z le e = pick x (g *ℤ z) le ∙ ap (λ n. g *ℤ n) (sym e)
      where
        pick : (x y : ℤ) → y ≤ℤ x → int_min x y ≡ y
        pick x y l = omega (arith, ints, clamps)

    left : (x y m z : ℤ) → (g *ℤ z) ≤ℤ y → m ≡ z → int_min (g *ℤ z) y ≡ g *ℤ m
    left x y m z le e = pick (g *ℤ z) y le ∙ ap (λ n. g *ℤ n) (sym e)
      where
        pick : (x y : ℤ) → x ≤ℤ y → int_min x y ≡ x
        pick x y l = omega (arith, ints, clamps)

times_first : (g y a : ℤ) → (g *ℤ y) *ℤ a ≡ g *ℤ (y *ℤ a)
times_first g y a = ring ((V g ⊗ V y) ⊗ V a) (V g ⊗ (V y ⊗ V a)) (omega arith)

pub bound_times : (p : LinearProgram) (g D : ℤ) (Y : ℕ → ℤ) → pos 0 ≤ℤ g
    → bound p (g *ℤ D) (λ j. g *ℤ Y j) ≡ g *ℤ bound p D Y
bound_times p g D Y h =
    together (g *ℤ D *ℤ p.fixed)
    (total_below p.rows (λ j. int_min ((g *ℤ Y j) *ℤ p.floor j) ((g *ℤ Y j) *ℤ p.ceiling j)))
    (total_below p.units
    (λ i. int_min (left_over p (g *ℤ D) (λ j. g *ℤ Y j) i *ℤ p.low i)
    (left_over p (g *ℤ D) (λ j. g *ℤ Y j) i *ℤ p.high i))) g (D *ℤ p.fixed)
    (total_below p.rows ends_j) (total_below p.units ends_i) (times_first g D p.fixed)
    (total_below-same p.rows (λ j. int_min ((g *ℤ Y j) *ℤ p.floor j) ((g *ℤ Y j) *ℤ p.ceiling j))
    (λ j. g *ℤ ends_j j) (λ j _. ends (Y j) (p.floor j) (p.ceiling j) (g *ℤ Y j) refl)
    ∙ total_below-mul p.rows g ends_j)
    (total_below-same p.units
    (λ i. int_min (left_over p (g *ℤ D) (λ j. g *ℤ Y j) i *ℤ p.low i)
    (left_over p (g *ℤ D) (λ j. g *ℤ Y j) i *ℤ p.high i)) (λ i. g *ℤ ends_i i)
    (λ i _. ends (left_over p D Y i) (p.low i) (p.high i)
    (left_over p (g *ℤ D) (λ j. g *ℤ Y j) i) (left i)) ∙ total_below-mul p.units g ends_i)
  where
    ends_j : ℕ → ℤ
    ends_j j = int_min (Y j *ℤ p.floor j) (Y j *ℤ p.ceiling j)

    ends_i : ℕ → ℤ
    ends_i i = int_min (left_over p D Y i *ℤ p.low i) (left_over p D Y i *ℤ p.high i)

    ends : (y a b z : ℤ) → z ≡ g *ℤ y → int_min (z *ℤ a) (z *ℤ b) ≡ g *ℤ int_min (y *ℤ a) (y *ℤ b)
    ends y a b z e = ap (λ x. int_min (x *ℤ a) (x *ℤ b)) e
        ∙ ap (λ x. int_min x ((g *ℤ y) *ℤ b)) (times_first g y a)
        ∙ ap (λ x. int_min (g *ℤ (y *ℤ a)) x) (times_first g y b) ∙ min_times g (y *ℤ a) (y *ℤ b) h

    left : (i : ℕ) → left_over p (g *ℤ D) (λ j. g *ℤ Y j) i ≡ g *ℤ left_over p D Y i
    left i =
        ap (λ x. g *ℤ D *ℤ p.cost i -ℤ x)
        (total_below-same p.rows (λ j. (g *ℤ Y j) *ℤ p.rate j i) (λ j. g *ℤ (Y j *ℤ p.rate j i))
        (λ j _. times_first g (Y j) (p.rate j i))
        ∙ total_below-mul p.rows g (λ j. Y j *ℤ p.rate j i))
        ∙ ring (V g ⊗ V D ⊗ V (p.cost i) ⊖ V g ⊗ V (total_below p.rows (λ j. Y j *ℤ p.rate j i)))
        (V g ⊗ (V D ⊗ V (p.cost i) ⊖ V (total_below p.rows (λ j. Y j *ℤ p.rate j i))))
        (omega arith)

    together : (a b c g x y z : ℤ) → a ≡ g *ℤ x → b ≡ g *ℤ y → c ≡ g *ℤ z
        → a +ℤ b +ℤ c ≡ g *ℤ (x +ℤ y +ℤ z)
    together a b c g x y z e f h =
        let u = read_equal (V a) (V g ⊗ V x) e in
        let v = read_equal (V b) (V g ⊗ V y) f in
        let w = read_equal (V c) (V g ⊗ V z) h in
        ring (V a ⊕ V b ⊕ V c) (V g ⊗ (V x ⊕ V y ⊕ V z)) (omega (arith, u, v, w))
