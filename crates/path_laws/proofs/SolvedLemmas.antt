-- A solution without a value below 0 gives relaxed flows of the cost that the cost row says.
use Rattle.std.proofs.Common.{◌≡◌, ℕ, zero, suc, ◌<◌, arith, ap, sym, ◌∙◌, subst}
use Rattle.std.specs.Prelude.{ℤ, pos, ◌+ℤ◌, ◌-ℤ◌, ◌*ℤ◌, neg_ℤ, ◌<ℤ◌, ◌≤ℤ◌}
use Rattle.std.proofs.lemmas.Int.{ints}
use Rattle.flow_rules.proofs.integer_laws.Cited.{total_below-same, total_below-add, total_below-mul}
use Rattle.flow_rules.proofs.integer_laws.Cited.{V, ◌⊕◌}
use Rattle.flow_rules.proofs.integer_laws.Cited.{◌⊖◌, ◌⊗◌, Neg, ring, ring_le, read_equal, read_le}
use Rattle.flow_rules.specs.integer_laws.Total.{total_below}
use Rattle.flow_rules.specs.Columns.{x_at, s_at, t_at, w_at, scale_at, columns}
use Rattle.flow_rules.specs.Equations.{IsSolution}
use Rattle.flow_rules.specs.LinearProgram.{LinearProgram}
use Rattle.path_laws.proofs.Relaxed.{flow, relaxed_cost, IsRelaxedFlow}

pub flows_of : LinearProgram → (ℕ → ℤ) → ℤ → ℕ → ℤ
flows_of p v d i = v (x_at p i) +ℤ p.low i *ℤ d

flow_of : (p : LinearProgram) (v : ℕ → ℤ) (d : ℤ) (j : ℕ)
    → flow p (λ i. v (x_at p i) +ℤ p.low i *ℤ d) j
    ≡ total_below p.units (λ i. p.rate j i *ℤ v (x_at p i)) +ℤ total_below p.units
    (λ i. p.rate j i *ℤ p.low i) *ℤ d
flow_of p v d j =
    total_below-same p.units (λ i. p.rate j i *ℤ (v (x_at p i) +ℤ p.low i *ℤ d))
    (λ i. p.rate j i *ℤ v (x_at p i) +ℤ d *ℤ (p.rate j i *ℤ p.low i))
    (λ i _. spread (p.rate j i) (v (x_at p i)) (p.low i) d)
    ∙ total_below-add p.units (λ i. p.rate j i *ℤ v (x_at p i)) (λ i. d *ℤ (p.rate j i *ℤ p.low i))
    ∙ ap (λ x. total_below p.units (λ i. p.rate j i *ℤ v (x_at p i)) +ℤ x)
    (total_below-mul p.units d (λ i. p.rate j i *ℤ p.low i)
    ∙ turn d (total_below p.units (λ i. p.rate j i *ℤ p.low i)))
  where
    spread : (a x l d : ℤ) → a *ℤ (x +ℤ l *ℤ d) ≡ a *ℤ x +ℤ d *ℤ (a *ℤ l)
    spread a x l d = ring (V a ⊗ (V x ⊕ V l ⊗ V d)) (V a ⊗ V x ⊕ V d ⊗ (V a ⊗ V l)) (omega arith)

    turn : (a b : ℤ) → a *ℤ b ≡ b *ℤ a
    turn a b = ring (V a ⊗ V b) (V b ⊗ V a) (omega arith)

upper : (x s l h d : ℤ) → pos 0 ≤ℤ s → x +ℤ s ≡ (h -ℤ l) *ℤ d → (x +ℤ l *ℤ d) ≤ℤ (h *ℤ d)
upper x s l h d p e =
    let y = read_equal (V x ⊕ V s) ((V h ⊖ V l) ⊗ V d) e in
    let z = read_le (V (pos 0)) (V s) p in
    ring_le (V x ⊕ V l ⊗ V d) (V h ⊗ V d) (omega (arith, y, z))

lower_flow : (f t a l d : ℤ) → pos 0 ≤ℤ t → f -ℤ t ≡ (a -ℤ l) *ℤ d → (a *ℤ d) ≤ℤ (f +ℤ l *ℤ d)
lower_flow f t a l d p e =
    let y = read_equal (V f ⊖ V t) ((V a ⊖ V l) ⊗ V d) e in
    let z = read_le (V (pos 0)) (V t) p in
    ring_le (V a ⊗ V d) (V f ⊕ V l ⊗ V d) (omega (arith, y, z))

upper_flow : (f t w a b l d : ℤ) → pos 0 ≤ℤ w → f -ℤ t ≡ (a -ℤ l) *ℤ d → t +ℤ w ≡ (b -ℤ a) *ℤ d
    → (f +ℤ l *ℤ d) ≤ℤ (b *ℤ d)
upper_flow f t w a b l d p e g =
    let y = read_equal (V f ⊖ V t) ((V a ⊖ V l) ⊗ V d) e in
    let y' = read_equal (V t ⊕ V w) ((V b ⊖ V a) ⊗ V d) g in
    let z = read_le (V (pos 0)) (V w) p in
    ring_le (V f ⊕ V l ⊗ V d) (V b ⊗ V d) (omega (arith, y, y', z))

pub relaxed_of : (p : LinearProgram) (v : ℕ → ℤ) (d : ℤ) → pos 0 <ℤ d → IsSolution p v d
    → ((k : ℕ) → k < columns p → pos 0 ≤ℤ v k)
    → IsRelaxedFlow p (λ i. v (x_at p i) +ℤ p.low i *ℤ d) d
relaxed_of p v d pd s n = record {
  positive = pd;
  from = λ i h. from_at (v (x_at p i)) (p.low i *ℤ d) (n (x_at p i) (omega arith));
  upto =
      λ i h. upper (v (x_at p i)) (v (s_at p i)) (p.low i) (p.high i) d (n (s_at p i) (omega arith))
      (s.boxes i h);
  enough =
      λ j h. subst (λ f. (p.floor j *ℤ d) ≤ℤ f) (sym (flow_of p v d j))
      (lower_flow (total_below p.units (λ i. p.rate j i *ℤ v (x_at p i))) (v (t_at p j)) (p.floor j)
      (total_below p.units (λ i. p.rate j i *ℤ p.low i)) d (n (t_at p j) (omega arith))
      (s.flows j h));
  within =
      λ j h. subst (λ f. f ≤ℤ (p.ceiling j *ℤ d)) (sym (flow_of p v d j))
      (upper_flow (total_below p.units (λ i. p.rate j i *ℤ v (x_at p i))) (v (t_at p j))
      (v (w_at p j)) (p.floor j) (p.ceiling j) (total_below p.units (λ i. p.rate j i *ℤ p.low i)) d
      (n (w_at p j) (omega arith)) (s.flows j h) (s.bands j h));
}
  where
    from_at : (x l : ℤ) → pos 0 ≤ℤ x → l ≤ℤ (x +ℤ l)
    from_at x l h = omega (arith, ints)

cost_spread : (n : ℕ) (c x l : ℕ → ℤ) (d : ℤ)
    → total_below n (λ i. c i *ℤ (x i +ℤ l i *ℤ d))
    ≡ total_below n (λ i. c i *ℤ x i) +ℤ total_below n (λ i. c i *ℤ l i) *ℤ d
cost_spread zero c x l d = omega (arith, ints)
cost_spread (suc n) c x l d =
    ap (λ z. z +ℤ c n *ℤ (x n +ℤ l n *ℤ d)) (cost_spread n c x l d)
    ∙ ring
    ((V (total_below n (λ i. c i *ℤ x i)) ⊕ V (total_below n (λ i. c i *ℤ l i)) ⊗ V d) ⊕ V (c n)
    ⊗ (V (x n) ⊕ V (l n) ⊗ V d))
    ((V (total_below n (λ i. c i *ℤ x i)) ⊕ V (c n) ⊗ V (x n)) ⊕
    (V (total_below n (λ i. c i *ℤ l i)) ⊕ V (c n) ⊗ V (l n)) ⊗ V d) (omega arith)

-- D times the cost of a solution, if the cost row says D times the scale's value
pub cost_of : (p : LinearProgram) (v : ℕ → ℤ) (d D r : ℤ) → IsSolution p v d
    → D *ℤ v (scale_at p) ≡ r *ℤ d
    → D *ℤ relaxed_cost p (λ i. v (x_at p i) +ℤ p.low i *ℤ d) d
    ≡ (D *ℤ p.fixed +ℤ D *ℤ total_below p.units (λ i. p.cost i *ℤ p.low i) -ℤ r) *ℤ d
cost_of p v d D r s e =
    ap (λ x. D *ℤ (p.fixed *ℤ d +ℤ x)) (cost_spread p.units p.cost (λ i. v (x_at p i)) p.low d)
    ∙ joined D p.fixed d (total_below p.units (λ i. p.cost i *ℤ v (x_at p i)))
    (total_below p.units (λ i. p.cost i *ℤ p.low i)) (v (scale_at p)) r s.costs e
  where
    joined : (D k d x g z r : ℤ) → z ≡ neg_ℤ x → D *ℤ z ≡ r *ℤ d
        → D *ℤ (k *ℤ d +ℤ (x +ℤ g *ℤ d)) ≡ (D *ℤ k +ℤ D *ℤ g -ℤ r) *ℤ d
    joined D k d x g z r e f =
        let i = read_equal (V D ⊗ Neg (V x)) (V r ⊗ V d) (ap (λ n. D *ℤ n) (sym e) ∙ f) in
        ring (V D ⊗ (V k ⊗ V d ⊕ (V x ⊕ V g ⊗ V d))) ((V D ⊗ V k ⊕ V D ⊗ V g ⊖ V r) ⊗ V d)
        (omega (arith, i))
