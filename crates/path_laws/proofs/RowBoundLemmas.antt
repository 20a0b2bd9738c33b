-- The multipliers that a row without a negative entry gives: their bound is at least what the row
-- says.
use Rattle.std.proofs.Common.{◌≡◌, ℕ, ◌<◌, arith, ap, sym, ◌∙◌, subst}
use Rattle.std.specs.Prelude.{ℤ, pos, ◌+ℤ◌, ◌-ℤ◌, ◌*ℤ◌, ◌<ℤ◌, ◌≤ℤ◌}
use Rattle.std.specs.Int.{int_min}
use Rattle.std.proofs.lemmas.Int.{ints}
use Rattle.flow_rules.proofs.integer_laws.Cited.{V, ◌⊕◌, ◌⊖◌, ◌⊗◌, ring, box_ends-least}
use Rattle.flow_rules.proofs.integer_laws.Cited.{total_below-same}
use Rattle.flow_rules.proofs.integer_laws.Cited.{total_below-add, total_below-mul, total_below-zero}
use Rattle.flow_rules.proofs.integer_laws.Cited.{total_below-exchange, total_below-le}
use Rattle.flow_rules.specs.Multipliers.{multiplier}
use Rattle.flow_rules.specs.integer_laws.Total.{total_below}
use Rattle.flow_rules.specs.Columns.{x_at, s_at, t_at, w_at, right_at, scale_at, columns}
use Rattle.flow_rules.specs.Equations.{IsCombination}
use Rattle.flow_rules.specs.LinearProgram.{LinearProgram}
use Rattle.path_laws.proofs.Relaxed.{bound, left_over, IsOpen}

-- what is left of a unit's cost is its entry at x less that at s
pub left_over-row : (p : LinearProgram) (r : ℕ → ℤ) → IsCombination p r → (i : ℕ) → i < p.units
    → left_over p (r (scale_at p)) (multiplier p r) i ≡ r (x_at p i) -ℤ r (s_at p i)
left_over-row p r c i h =
    let f = λ (j : ℕ). (r (w_at p j) -ℤ r (t_at p j)) *ℤ p.rate j i in
    let g = λ (j : ℕ). multiplier p r j *ℤ p.rate j i in
    let z : total_below p.rows f +ℤ total_below p.rows g ≡ pos 0 =
    sym (total_below-add p.rows f g)
    ∙ total_below-same p.rows (λ j. f j +ℤ g j) (λ j. pos 0)
    (λ j _. none (r (w_at p j)) (r (t_at p j)) (p.rate j i)) ∙ total_below-zero p.rows in
    let x = c.at_x i h in
    omega (arith, ints, x, z)
  where
    none : (w t a : ℤ) → (w -ℤ t) *ℤ a +ℤ (t -ℤ w) *ℤ a ≡ pos 0
    none w t a = ring ((V w ⊖ V t) ⊗ V a ⊕ (V t ⊖ V w) ⊗ V a) (V (pos 0)) (omega arith)

-- What a combination says of the lower ends of the boxes. Its parts: s, the boxes; t, the rows; q,
-- the ends of the rows; x, the ends of the boxes; g, the cost at the lower ends; w, the flows at
-- the lower ends.
assembled : (s t q x D g w r : ℤ) → r ≡ s +ℤ t → t +ℤ (q +ℤ w) ≡ pos 0 → x +ℤ s ≡ D *ℤ g +ℤ w
    → q +ℤ x ≡ D *ℤ g -ℤ r
assembled s t q x D g w r e f h =
    let d = D *ℤ g in omega (arith, ints, e, f, h)

part_zero : (w t a b l : ℤ)
    → ((w -ℤ t) *ℤ (a -ℤ l) +ℤ w *ℤ (b -ℤ a)) +ℤ ((t *ℤ a -ℤ w *ℤ b) +ℤ (w -ℤ t) *ℤ l) ≡ pos 0
part_zero w t a b l =
    ring
    (((V w ⊖ V t) ⊗ (V a ⊖ V l) ⊕ V w ⊗ (V b ⊖ V a)) ⊕
    ((V t ⊗ V a ⊖ V w ⊗ V b) ⊕ (V w ⊖ V t) ⊗ V l)) (V (pos 0)) (omega arith)

part_x : (x s D c k low high : ℤ) → x ≡ D *ℤ c +ℤ s +ℤ k
    → (x *ℤ low -ℤ s *ℤ high) +ℤ s *ℤ (high -ℤ low) ≡ D *ℤ (c *ℤ low) +ℤ k *ℤ low
part_x x s D c k low high e =
    ap (λ z. (z *ℤ low -ℤ s *ℤ high) +ℤ s *ℤ (high -ℤ low)) e
    ∙ ring (((V D ⊗ V c ⊕ V s ⊕ V k) ⊗ V low ⊖ V s ⊗ V high) ⊕ V s ⊗ (V high ⊖ V low))
    (V D ⊗ (V c ⊗ V low) ⊕ V k ⊗ V low) (omega arith)

comm : (a b : ℤ) → a *ℤ b ≡ b *ℤ a
comm a b = ring (V a ⊗ V b) (V b ⊗ V a) (omega arith)

regroup : (v a l : ℤ) → l *ℤ (v *ℤ a) ≡ v *ℤ (a *ℤ l)
regroup v a l = ring (V l ⊗ (V v ⊗ V a)) (V v ⊗ (V a ⊗ V l)) (omega arith)

-- the ends that a row takes
abbrev pub row_ends : LinearProgram → (ℕ → ℤ) → ℤ
row_ends p r = total_below p.rows (λ j. r (t_at p j) *ℤ p.floor j -ℤ r (w_at p j) *ℤ p.ceiling j)

abbrev pub box_ends : LinearProgram → (ℕ → ℤ) → ℤ
box_ends p r = total_below p.units (λ i. r (x_at p i) *ℤ p.low i -ℤ r (s_at p i) *ℤ p.high i)

pub ends_say : (p : LinearProgram) (r : ℕ → ℤ) → IsCombination p r
    → row_ends p r +ℤ box_ends p r
    ≡ r (scale_at p) *ℤ total_below p.units (λ i. p.cost i *ℤ p.low i) -ℤ r (right_at p)
ends_say p r c =
    assembled (total_below p.units boxes) (total_below p.rows parts) (row_ends p r) (box_ends p r)
    (r (scale_at p)) (total_below p.units costs) (total_below p.rows flows) (r (right_at p))
    c.at_right rows_zero boxes_say
  where
    v : ℕ → ℤ
    v j = r (w_at p j) -ℤ r (t_at p j)

    flow_low : ℕ → ℤ
    flow_low j = total_below p.units (λ i. p.rate j i *ℤ p.low i)

    boxes : ℕ → ℤ
    boxes i = r (s_at p i) *ℤ (p.high i -ℤ p.low i)

    parts : ℕ → ℤ
    parts j = v j *ℤ (p.floor j -ℤ flow_low j) +ℤ r (w_at p j) *ℤ (p.ceiling j -ℤ p.floor j)

    costs : ℕ → ℤ
    costs i = p.cost i *ℤ p.low i

    flows : ℕ → ℤ
    flows j = v j *ℤ flow_low j

    ends_j : ℕ → ℤ
    ends_j j = r (t_at p j) *ℤ p.floor j -ℤ r (w_at p j) *ℤ p.ceiling j

    ends_i : ℕ → ℤ
    ends_i i = r (x_at p i) *ℤ p.low i -ℤ r (s_at p i) *ℤ p.high i

    pull : ℕ → ℤ
    pull i = total_below p.rows (λ j. v j *ℤ p.rate j i)

    rows_zero : total_below p.rows parts +ℤ (row_ends p r +ℤ total_below p.rows flows) ≡ pos 0
    rows_zero =
        ap (λ z. total_below p.rows parts +ℤ z) (sym (total_below-add p.rows ends_j flows))
        ∙ sym (total_below-add p.rows parts (λ j. ends_j j +ℤ flows j))
        ∙ total_below-same p.rows (λ j. parts j +ℤ (ends_j j +ℤ flows j)) (λ j. pos 0)
        (λ j _. part_zero (r (w_at p j)) (r (t_at p j)) (p.floor j) (p.ceiling j) (flow_low j))
        ∙ total_below-zero p.rows

    pulls : total_below p.units (λ i. pull i *ℤ p.low i) ≡ total_below p.rows flows
    pulls =
        total_below-same p.units (λ i. pull i *ℤ p.low i)
        (λ i. total_below p.rows (λ j. v j *ℤ (p.rate j i *ℤ p.low i)))
        (λ i _. comm (pull i) (p.low i)
        ∙ sym (total_below-mul p.rows (p.low i) (λ j. v j *ℤ p.rate j i))
        ∙ total_below-same p.rows (λ j. p.low i *ℤ (v j *ℤ p.rate j i))
        (λ j. v j *ℤ (p.rate j i *ℤ p.low i)) (λ j _. regroup (v j) (p.rate j i) (p.low i)))
        ∙ total_below-exchange p.units p.rows (λ i j. v j *ℤ (p.rate j i *ℤ p.low i))
        ∙ total_below-same p.rows (λ j. total_below p.units (λ i. v j *ℤ (p.rate j i *ℤ p.low i)))
        flows (λ j _. total_below-mul p.units (v j) (λ i. p.rate j i *ℤ p.low i))

    boxes_say : box_ends p r +ℤ total_below p.units boxes
        ≡ r (scale_at p) *ℤ total_below p.units costs +ℤ total_below p.rows flows
    boxes_say =
        sym (total_below-add p.units ends_i boxes)
        ∙ total_below-same p.units (λ i. ends_i i +ℤ boxes i)
        (λ i. r (scale_at p) *ℤ costs i +ℤ pull i *ℤ p.low i)
        (λ i h. part_x (r (x_at p i)) (r (s_at p i)) (r (scale_at p)) (p.cost i) (pull i)
        (p.low i) (p.high i) (c.at_x i h))
        ∙ total_below-add p.units (λ i. r (scale_at p) *ℤ costs i) (λ i. pull i *ℤ p.low i)
        ∙ ap (λ z. z +ℤ total_below p.units (λ i. pull i *ℤ p.low i))
        (total_below-mul p.units (r (scale_at p)) costs)
        ∙ ap (λ z. r (scale_at p) *ℤ total_below p.units costs +ℤ z) pulls

-- no entry at a column is below 0
abbrev pub IsNonNegative : LinearProgram → (ℕ → ℤ) → Type 0
IsNonNegative p r = (k : ℕ) → k < columns p → pos 0 ≤ℤ r k

-- The bound of a row's multipliers is at least what the row says. With scale 0 and a right side
-- below 0 it is above 0: a refutation.
pub bound_of_row : (p : LinearProgram) (r : ℕ → ℤ) → IsOpen p → IsCombination p r
    → IsNonNegative p r
    → (r (scale_at p) *ℤ p.fixed +ℤ r (scale_at p) *ℤ total_below p.units (λ i. p.cost i *ℤ p.low i)
    -ℤ r (right_at p)) ≤ℤ bound p (r (scale_at p)) (multiplier p r)
bound_of_row p r o c n =
    let a =
    total_below-le p.rows (λ j. r (t_at p j) *ℤ p.floor j -ℤ r (w_at p j) *ℤ p.ceiling j)
    (λ j. int_min (multiplier p r j *ℤ p.floor j) (multiplier p r j *ℤ p.ceiling j))
    (λ j h. box_ends-least (r (t_at p j)) (r (w_at p j)) (p.floor j) (p.ceiling j)
    (n (t_at p j) (omega arith)) (n (w_at p j) (omega arith)) (o.bands j h)) in
    let b =
    total_below-le p.units (λ i. r (x_at p i) *ℤ p.low i -ℤ r (s_at p i) *ℤ p.high i)
    (λ i. int_min (left_over p (r (scale_at p)) (multiplier p r) i *ℤ p.low i)
    (left_over p (r (scale_at p)) (multiplier p r) i *ℤ p.high i))
    (λ i h. subst
    (λ z. (r (x_at p i) *ℤ p.low i -ℤ r (s_at p i) *ℤ p.high i)
    ≤ℤ int_min (z *ℤ p.low i) (z *ℤ p.high i)) (sym (left_over-row p r c i h))
    (box_ends-least (r (x_at p i)) (r (s_at p i)) (p.low i) (p.high i)
    (n (x_at p i) (omega arith)) (n (s_at p i) (omega arith)) (o.boxes i h))) in
    joined (row_ends p r) (box_ends p r)
    (r (scale_at p) *ℤ total_below p.units (λ i. p.cost i *ℤ p.low i)) (r (right_at p))
    (r (scale_at p) *ℤ p.fixed)
    (total_below p.rows
    (λ j. int_min (multiplier p r j *ℤ p.floor j) (multiplier p r j *ℤ p.ceiling j)))
    (total_below p.units
    (λ i. int_min (left_over p (r (scale_at p)) (multiplier p r) i *ℤ p.low i)
    (left_over p (r (scale_at p)) (multiplier p r) i *ℤ p.high i))) (ends_say p r c) a b
  where
    joined : (q x g r k a b : ℤ) → q +ℤ x ≡ g -ℤ r → q ≤ℤ a → x ≤ℤ b
        → (k +ℤ g -ℤ r) ≤ℤ (k +ℤ a +ℤ b)
    joined q x g r k a b e h i = omega (arith, ints)

pub refutes : (p : LinearProgram) (r : ℕ → ℤ) → IsOpen p → IsCombination p r → IsNonNegative p r
    → r (scale_at p) ≡ pos 0 → r (right_at p) <ℤ pos 0 → pos 0 <ℤ bound p (pos 0) (multiplier p r)
refutes p r o c n z h =
    let b = bound_of_row p r o c n in
    let b' =
    subst
    (λ s.
    (s *ℤ p.fixed +ℤ s *ℤ total_below p.units (λ i. p.cost i *ℤ p.low i) -ℤ r (right_at p))
    ≤ℤ bound p s (multiplier p r)) z b in
    above (p.fixed) (total_below p.units (λ i. p.cost i *ℤ p.low i)) (r (right_at p))
    (bound p (pos 0) (multiplier p r)) h b'
  where
    above : (k g r b : ℤ) → r <ℤ pos 0 → (pos 0 *ℤ k +ℤ pos 0 *ℤ g -ℤ r) ≤ℤ b → pos 0 <ℤ b
    above k g r b h e = omega (arith, ints)
