-- What a pivot keeps of the rows: each is a combination of the equations, positive at its own
-- column and 0 at the other basis columns.
use Rattle.std.proofs.Common.{◌≡◌, ◌≢◌, ℕ, zero, suc, ◌≤◌, ◌⊎◌, inl, inr, true, false, arith, ap}
use Rattle.std.proofs.Common.{sym, ◌∙◌}
use Rattle.std.specs.Prelude.{ℤ, pos, ◌+ℤ◌, ◌-ℤ◌, ◌*ℤ◌, neg_ℤ, ◌<ℤ◌}
use Rattle.std.proofs.lemmas.Int.{ints}
use Rattle.std.proofs.lemmas.Bool.Decides.{eqb_tells}
use Rattle.flow_rules.proofs.integer_laws.Cited.{zero_of-mul, cancel, V, ◌⊕◌, ◌⊖◌, ◌⊗◌, Neg, ring}
use Rattle.flow_rules.proofs.integer_laws.Cited.{read_equal}
use Rattle.flow_rules.specs.integer_laws.Total.{total_below}
use Rattle.flow_rules.specs.Columns.{Basis, Has, x_at, s_at, t_at, w_at, right_at, scale_at}
use Rattle.flow_rules.specs.Equations.{IsCombination}
use Rattle.flow_rules.specs.LinearProgram.{LinearProgram}
use Rattle.flow_rules.specs.Tableau.{IsIndependent}
use Rattle.flow_rules.specs.Pivots.{IsCombined, IsPivoted}

-- f times h is a times r less b times q
pub record Mixes (f a b h r q : ℤ) : Type 0 where
  pub is : f *ℤ h ≡ a *ℤ r -ℤ b *ℤ q

pub mixes_sum : {f a b h r q h' r' q' : ℤ} → Mixes f a b h r q → Mixes f a b h' r' q'
    → Mixes f a b (h +ℤ h') (r +ℤ r') (q +ℤ q')
mixes_sum {f} {a} {b} {h} {r} {q} {h'} {r'} {q'} e e' =
    let x = read_equal (V f ⊗ V h) (V a ⊗ V r ⊖ V b ⊗ V q) e.is in
    let y = read_equal (V f ⊗ V h') (V a ⊗ V r' ⊖ V b ⊗ V q') e'.is in
    record {
      is =
          ring (V f ⊗ (V h ⊕ V h')) (V a ⊗ (V r ⊕ V r') ⊖ V b ⊗ (V q ⊕ V q')) (omega (arith, x, y));
    }

pub mixes_less : {f a b h r q h' r' q' : ℤ} → Mixes f a b h r q → Mixes f a b h' r' q'
    → Mixes f a b (h -ℤ h') (r -ℤ r') (q -ℤ q')
mixes_less {f} {a} {b} {h} {r} {q} {h'} {r'} {q'} e e' =
    let x = read_equal (V f ⊗ V h) (V a ⊗ V r ⊖ V b ⊗ V q) e.is in
    let y = read_equal (V f ⊗ V h') (V a ⊗ V r' ⊖ V b ⊗ V q') e'.is in
    record {
      is =
          ring (V f ⊗ (V h ⊖ V h')) (V a ⊗ (V r ⊖ V r') ⊖ V b ⊗ (V q ⊖ V q')) (omega (arith, x, y));
    }

pub mixes_times : {f a b h r q : ℤ} (c : ℤ) → Mixes f a b h r q
    → Mixes f a b (h *ℤ c) (r *ℤ c) (q *ℤ c)
mixes_times {f} {a} {b} {h} {r} {q} c e = record {
  is =
      ring (V f ⊗ (V h ⊗ V c)) ((V f ⊗ V h) ⊗ V c) (omega arith)
      ∙ ap (λ x. x *ℤ c) e.is
      ∙ ring ((V a ⊗ V r ⊖ V b ⊗ V q) ⊗ V c) (V a ⊗ (V r ⊗ V c) ⊖ V b ⊗ (V q ⊗ V c)) (omega arith);
}

pub mixes_total : (n : ℕ) {f a b : ℤ} (h r q : ℕ → ℤ) → ((k : ℕ) → Mixes f a b (h k) (r k) (q k))
    → Mixes f a b (total_below n h) (total_below n r) (total_below n q)
mixes_total zero {f} {a} {b} h r q e =
    record { is = ring (V f ⊗ V (pos 0)) (V a ⊗ V (pos 0) ⊖ V b ⊗ V (pos 0)) (omega arith) }
mixes_total (suc n) h r q e = mixes_sum (mixes_total n h r q e) (e n)

same_mix : {f a b h r q h' r' q' : ℤ} → pos 0 <ℤ f → Mixes f a b h r q → r ≡ r' → q ≡ q'
    → Mixes f a b h' r' q' → h ≡ h'
same_mix {f} {a} {b} {h} {r} {q} {h'} {r'} {q'} pf e x y e' =
    let z : f *ℤ h ≡ f *ℤ h' = e.is ∙ ap (λ n. a *ℤ n -ℤ b *ℤ q) x ∙ ap (λ n. a *ℤ r' -ℤ b *ℤ n) y
    ∙ sym e'.is in
    cancel f h h' pf z

abbrev x_part : LinearProgram → ℕ → (ℕ → ℤ) → ℕ → ℤ
x_part p i r j = (r (w_at p j) -ℤ r (t_at p j)) *ℤ p.rate j i

abbrev right_part : LinearProgram → (ℕ → ℤ) → ℕ → ℤ
right_part p r j =
    (r (w_at p j) -ℤ r (t_at p j)) *ℤ
    (p.floor j -ℤ total_below p.units (λ i. p.rate j i *ℤ p.low i)) +ℤ r (w_at p j) *ℤ
    (p.ceiling j -ℤ p.floor j)

-- what combinations of the equations mix to is one, up to a positive factor
pub mixed : (p : LinearProgram) (f a b : ℤ) (pivot row new : ℕ → ℤ) → pos 0 <ℤ f
    → ((k : ℕ) → Mixes f a b (new k) (row k) (pivot k)) → IsCombination p pivot
    → IsCombination p row → IsCombination p new
mixed p f a b pivot row new pf at cp cr =
    record {
      at_x = λ i h.
          same_mix pf (at (x_at p i)) (cr.at_x i h) (cp.at_x i h)
          (mixes_sum (mixes_sum (mixes_times (p.cost i) (at (scale_at p))) (at (s_at p i)))
          (mixes_total p.rows (x_part p i new) (x_part p i row) (x_part p i pivot)
          (λ j. mixes_times (p.rate j i) (apart j))));
      at_right =
          same_mix pf (at (right_at p)) cr.at_right cp.at_right
          (mixes_sum
          (mixes_total p.units (λ i. new (s_at p i) *ℤ (p.high i -ℤ p.low i))
          (λ i. row (s_at p i) *ℤ (p.high i -ℤ p.low i))
          (λ i. pivot (s_at p i) *ℤ (p.high i -ℤ p.low i))
          (λ i. mixes_times (p.high i -ℤ p.low i) (at (s_at p i))))
          (mixes_total p.rows (right_part p new) (right_part p row) (right_part p pivot)
          (λ j. mixes_sum
          (mixes_times (p.floor j -ℤ total_below p.units (λ i. p.rate j i *ℤ p.low i))
          (apart j)) (mixes_times (p.ceiling j -ℤ p.floor j) (at (w_at p j))))));
    }
  where
    apart : (j : ℕ)
        → Mixes f a b (new (w_at p j) -ℤ new (t_at p j)) (row (w_at p j) -ℤ row (t_at p j))
        (pivot (w_at p j) -ℤ pivot (t_at p j))
    apart j = mixes_less (at (w_at p j)) (at (t_at p j))

pub combined : (p : LinearProgram) (pivot row new : ℕ → ℤ) (e : ℕ) → IsCombination p pivot
    → IsCombination p row → IsCombined pivot row new e → IsCombination p new
combined p pivot row new e cp cr c =
    mixed p c.factor (pivot e) (row e) pivot row new c.positive (λ k. record { is = c.at k }) cp cr

pub negated : (p : LinearProgram) (row new : ℕ → ℤ) → ((k : ℕ) → new k ≡ neg_ℤ (row k))
    → IsCombination p row → IsCombination p new
negated p row new e c =
    mixed p (pos 1) (pos 0) (pos 1) row row new (omega (arith, ints))
    (λ k. record { is = minus (row k) (new k) (e k) }) c c
  where
    minus : (x y : ℤ) → y ≡ neg_ℤ x → pos 1 *ℤ y ≡ pos 0 *ℤ x -ℤ pos 1 *ℤ x
    minus x y h = ap (λ z. pos 1 *ℤ z) h
        ∙ ring (V (pos 1) ⊗ Neg (V x)) (V (pos 0) ⊗ V x ⊖ V (pos 1) ⊗ V x) (omega arith)

-- the columns stay independent if the row of the one that leaves is not 0 at the one that enters
pub exchange_independent : (p : LinearProgram) (b b' : Basis) (l e : ℕ) (P : ℕ → ℤ) → b e ≡ false
    → Has b' e → ((k : ℕ) → k ≢ l → k ≢ e → b' k ≡ b k) → pos 0 <ℤ P e → e ≤ scale_at p
    → IsCombination p P → (pos 0 <ℤ P l) ⊎ (P l <ℤ pos 0)
    → ((k : ℕ) → Has b k → k ≢ l → P k ≡ pos 0) → IsIndependent p b → IsIndependent p b'
exchange_independent p b b' l e P free enters stays pe le cp pl u ind r cr z =
    ind r cr
    (λ k h. elim (eqb_tells k l) [ inl (_, kl) ↦ ap r kl ∙ rl | inr (_, kl) ↦ zero_at k h kl ])
  where
    zero_at : (k : ℕ) → Has b k → k ≢ l → r k ≡ pos 0
    zero_at k h kl = z k (stays k kl (λ x. let y : true ≡ false = sym h ∙ ap b x ∙ free in cc) ∙ h)

    m : ℕ → ℤ
    m k = P l *ℤ r k -ℤ r l *ℤ P k

    one_mix : (k : ℕ) → Mixes (pos 1) (P l) (r l) (m k) (r k) (P k)
    one_mix k =
        record {
          is =
              ring (V (pos 1) ⊗ (V (P l) ⊗ V (r k) ⊖ V (r l) ⊗ V (P k)))
              (V (P l) ⊗ V (r k) ⊖ V (r l) ⊗ V (P k)) (omega arith);
        }

    m_zero : (k : ℕ) → Has b k → m k ≡ pos 0
    m_zero k h = elim (eqb_tells k l) [
      | inl (_, kl) ↦ ap m kl ∙ self (P l) (r l)
      | inr (_, kl) ↦ ap (λ x. P l *ℤ x -ℤ r l *ℤ P k) (zero_at k h kl)
          ∙ ap (λ x. P l *ℤ pos 0 -ℤ r l *ℤ x) (u k h kl) ∙ nothing (P l) (r l)
    ]
      where
        self : (x y : ℤ) → x *ℤ y -ℤ y *ℤ x ≡ pos 0
        self x y = ring (V x ⊗ V y ⊖ V y ⊗ V x) (V (pos 0)) (omega arith)

        nothing : (x y : ℤ) → x *ℤ pos 0 -ℤ y *ℤ pos 0 ≡ pos 0
        nothing x y = ring (V x ⊗ V (pos 0) ⊖ V y ⊗ V (pos 0)) (V (pos 0)) (omega arith)

    at_e : m e ≡ pos 0
    at_e = ind m (mixed p (pos 1) (P l) (r l) P r m (omega (arith, ints)) one_mix cp cr) m_zero e le

    product_zero : P e *ℤ r l ≡ pos 0
    product_zero =
        let x = read_equal (V (P l) ⊗ V (r e) ⊖ V (r l) ⊗ V (P e)) (V (pos 0)) at_e in
        let re : r e ≡ pos 0 = z e enters in
        let y = ap (λ n. P l *ℤ n -ℤ r l *ℤ P e) re in
        let w = read_equal (V (P l) ⊗ V (pos 0) ⊖ V (r l) ⊗ V (P e)) (V (pos 0)) (sym y ∙ at_e) in
        ring (V (P e) ⊗ V (r l)) (V (pos 0)) (omega (arith, w))

    rl : r l ≡ pos 0
    rl = zero_of-mul (P e) (r l) pe product_zero

pub pivot_independent : (p : LinearProgram) (b b' : Basis) (T T' : ℕ → ℕ → ℤ) (l e : ℕ) (P : ℕ → ℤ)
    → IsPivoted b b' T T' l e P → e ≤ scale_at p → IsCombination p P → (pos 0 <ℤ P l)
    ⊎ (P l <ℤ pos 0) → ((k : ℕ) → Has b k → k ≢ l → P k ≡ pos 0) → IsIndependent p b
    → IsIndependent p b'
pivot_independent p b b' T T' l e P v le cp pl u ind =
    exchange_independent p b b' l e P v.free v.enters v.stays v.positive le cp pl u ind
