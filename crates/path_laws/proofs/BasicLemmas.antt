-- The basic solution of a tableau, over a common multiple of the entries at the basis columns.
use Rattle.std.proofs.Common.{◌≡◌, ◌≢◌, ℕ, zero, suc, ◌<◌, ◌≤◌, inl, inr, true, false, cond, arith}
use Rattle.std.proofs.Common.{refl, ap, sym, ◌∙◌, subst}
use Rattle.std.specs.Prelude.{ℤ, pos, ◌+ℤ◌, ◌*ℤ◌, neg_ℤ, ◌<ℤ◌, nat_eq}
use Rattle.std.proofs.lemmas.Int.{ints}
use Rattle.std.proofs.lemmas.Bool.Decides.{eqb_tells}
use Rattle.flow_rules.proofs.integer_laws.Cited.{total_below-same, total_below-zero}
use Rattle.flow_rules.proofs.integer_laws.Cited.{total_below-single}
use Rattle.flow_rules.proofs.integer_laws.Cited.{mul_pos, V, ◌⊕◌, ◌⊗◌, Neg, ring, mul-zero_z}
use Rattle.flow_rules.specs.integer_laws.Total.{total_below}
use Rattle.flow_rules.specs.Columns.{Basis, Has, right_at, scale_at, columns}
use Rattle.flow_rules.specs.Equations.{dot}
use Rattle.flow_rules.specs.LinearProgram.{LinearProgram}
use Rattle.path_laws.proofs.BoolLemmas.{bool_cases}

-- f 0 * .. * f (n - 1), and the product of all but the one at k
product : ℕ → (ℕ → ℤ) → ℤ
product zero f = pos 1
product (suc n) f = product n f *ℤ f n

others : ℕ → (ℕ → ℤ) → ℕ → ℤ
others zero f k = pos 1
others (suc n) f k = cond (nat_eq n k) (product n f) (others n f k *ℤ f n)

product_pos : (n : ℕ) (f : ℕ → ℤ) → ((k : ℕ) → k < n → pos 0 <ℤ f k) → pos 0 <ℤ product n f
unfolding product
product_pos zero f h = omega (arith, ints)
product_pos (suc n) f h =
    mul_pos (product n f) (f n) (product_pos n f (λ k l. h k (omega arith))) (h n (omega arith))

others_pos : (n k : ℕ) (f : ℕ → ℤ) → ((i : ℕ) → i < n → pos 0 <ℤ f i) → pos 0 <ℤ others n f k
unfolding others
others_pos zero k f h = omega (arith, ints)
others_pos (suc n) k f h =
    elim (eqb_tells n k) [
      | inl (e, _)
          ↦ subst (λ b. pos 0 <ℤ cond b (product n f) (others n f k *ℤ f n)) (sym e)
          (product_pos n f (λ i l. h i (omega arith)))
      | inr (e, _)
          ↦ subst (λ b. pos 0 <ℤ cond b (product n f) (others n f k *ℤ f n)) (sym e)
          (mul_pos (others n f k) (f n) (others_pos n k f (λ i l. h i (omega arith)))
          (h n (omega arith)))
    ]

product_is : (n k : ℕ) (f : ℕ → ℤ) → k < n → product n f ≡ others n f k *ℤ f k
unfolding product others
product_is zero k f h = absurd (omega arith)
product_is (suc n) k f h =
    elim (eqb_tells n k) [
      | inl (e, q) ↦ rw e (ap (λ i. product n f *ℤ f i) q)
      | inr (e, q)
          ↦ rw e (ap (λ x. x *ℤ f n) (product_is n k f (omega arith))
          ∙ swap (others n f k) (f k) (f n))
    ]
  where
    swap : (a b c : ℤ) → (a *ℤ b) *ℤ c ≡ (a *ℤ c) *ℤ b
    swap a b c = ring ((V a ⊗ V b) ⊗ V c) ((V a ⊗ V c) ⊗ V b) (omega arith)

-- The rows of a tableau are positive at their own column, and 0 at the other basis columns. The
-- scale is a basis column, the right side is none.
pub record IsUnitary (p : LinearProgram) (b : Basis) (T : ℕ → ℕ → ℤ) : Type 0 where
  pub scale : Has b (scale_at p)
  pub right : b (right_at p) ≡ false
  pub own : (c : ℕ) → Has b c → pos 0 <ℤ T c c
  pub clear : (c k : ℕ) → Has b c → Has b k → k ≢ c → T c k ≡ pos 0

-- values of the columns over d, 0 outside the basis and in the proportion of the rows on it
pub record IsBasic (p : LinearProgram) (b : Basis) (T : ℕ → ℕ → ℤ) (v : ℕ → ℤ) (d : ℤ) : Type
    0 where
  pub positive : pos 0 <ℤ d
  pub at_right : v (right_at p) ≡ neg_ℤ d
  pub basic : (c : ℕ) → Has b c → c ≤ scale_at p → (o : ℤ) × (pos 0 <ℤ o)
      × (v c ≡ o *ℤ T c (right_at p)) × (d ≡ o *ℤ T c c)
  pub outside : (c : ℕ) → b c ≡ false → c ≢ right_at p → v c ≡ pos 0

pub basic_exists : (p : LinearProgram) (b : Basis) (T : ℕ → ℕ → ℤ) → IsUnitary p b T → (v : ℕ → ℤ)
    × (d : ℤ) × IsBasic p b T v d
basic_exists p b T u = (
  v,
  d,
  record {
    positive = product_pos n f (λ k _. f_pos k);
    at_right = at_right;
    basic =
        λ c h l. (
          others n f c,
          others_pos n c f (λ k _. f_pos k),
          at_basic c h,
          product_is n c f (omega arith) ∙ ap (λ x. others n f c *ℤ x) (f_basic c h),
        );
    outside = at_outside;
  },
)
  where
    n : ℕ
    n = suc (scale_at p)

    f : ℕ → ℤ
    f k = cond (b k) (T k k) (pos 1)

    d : ℤ
    d = product n f

    v : ℕ → ℤ
    v k =
        cond (b k) (others n f k *ℤ T k (right_at p))
        (cond (nat_eq k (right_at p)) (neg_ℤ d) (pos 0))

    f_basic : (k : ℕ) → Has b k → f k ≡ T k k
    f_basic k h = rw h

    f_pos : (k : ℕ) → pos 0 <ℤ f k
    f_pos k = elim (bool_cases (b k)) [
      | inl h ↦ subst (λ x. pos 0 <ℤ x) (sym (f_basic k h)) (u.own k h)
      | inr h ↦ subst (λ x. pos 0 <ℤ cond x (T k k) (pos 1)) (sym h) (omega (arith, ints))
    ]

    at_basic : (k : ℕ) → Has b k → v k ≡ others n f k *ℤ T k (right_at p)
    at_basic k h = rw h

    at_right : v (right_at p) ≡ neg_ℤ d
    at_right =
        elim (eqb_tells (right_at p) (right_at p))
        [ inl (e, _) ↦ rw (u.right, e) | inr (_, q) ↦ absurd (q refl) ]

    at_outside : (k : ℕ) → b k ≡ false → k ≢ right_at p → v k ≡ pos 0
    at_outside k h q =
        elim (eqb_tells k (right_at p)) [ inl (_, e) ↦ absurd (q e) | inr (e, _) ↦ rw (h, e) ]

-- a row at the basic solution: only its own column and the right side count
row_zero : (o r t d v : ℤ) → v ≡ o *ℤ r → d ≡ o *ℤ t → t *ℤ v +ℤ r *ℤ neg_ℤ d ≡ pos 0
row_zero o r t d v e f =
    ap (λ x. t *ℤ x +ℤ r *ℤ neg_ℤ d) e ∙ ap (λ x. t *ℤ (o *ℤ r) +ℤ r *ℤ neg_ℤ x) f
    ∙ ring (V t ⊗ (V o ⊗ V r) ⊕ V r ⊗ Neg (V o ⊗ V t)) (V (pos 0)) (omega arith)

pub basic_solves : (p : LinearProgram) (b : Basis) (T : ℕ → ℕ → ℤ) (v : ℕ → ℤ) (d : ℤ)
    → IsUnitary p b T → IsBasic p b T v d → (c : ℕ) → Has b c → c ≤ scale_at p
    → dot p (T c) v ≡ pos 0
basic_solves p b T v d u s c h l =
    let (o, po, e, g) = s.basic c h l in
    let r : T c (right_at p) *ℤ v (right_at p) ≡ T c (right_at p) *ℤ neg_ℤ d =
    ap (λ x. T c (right_at p) *ℤ x) s.at_right in
    elim (eqb_tells c (scale_at p)) [
      | inl (_, cs) ↦
          let low : total_below (columns p) (λ k. T c k *ℤ v k) ≡ pos 0 =
          total_below-same (columns p) (λ k. T c k *ℤ v k) (λ k. pos 0)
          (λ k kl. none k (omega arith) (λ q. absurd (omega arith)) (λ q. absurd (omega arith)))
          ∙ total_below-zero (columns p) in
          let own : T c (scale_at p) *ℤ v (scale_at p) ≡ T c c *ℤ v c =
          ap (λ x. T c x *ℤ v x) (sym cs) in
          let z = row_zero o (T c (right_at p)) (T c c) d (v c) e g in
          three (total_below (columns p) (λ k. T c k *ℤ v k)) (T c (right_at p) *ℤ v (right_at p))
          (T c (scale_at p) *ℤ v (scale_at p)) (pos 0) (T c (right_at p) *ℤ neg_ℤ d)
          (T c c *ℤ v c) low r own (omega (arith, ints, z))
      | inr (_, cs) ↦
          let cr : c ≢ right_at p = λ q. let y : true ≡ false = sym h ∙ ap b q ∙ u.right in cc in
          let low : total_below (columns p) (λ k. T c k *ℤ v k) ≡ T c c *ℤ v c =
          total_below-single (columns p) c (λ k. T c k *ℤ v k) (omega arith)
          (λ k kl kc. none k (omega arith) kc (λ q. absurd (omega arith))) in
          let own : T c (scale_at p) *ℤ v (scale_at p) ≡ pos 0 =
          none (scale_at p) (omega arith) (λ q. cs (sym q)) (λ q. absurd (omega arith)) in
          let z = row_zero o (T c (right_at p)) (T c c) d (v c) e g in
          three (total_below (columns p) (λ k. T c k *ℤ v k)) (T c (right_at p) *ℤ v (right_at p))
          (T c (scale_at p) *ℤ v (scale_at p)) (T c c *ℤ v c) (T c (right_at p) *ℤ neg_ℤ d)
          (pos 0) low r own (omega (arith, ints, z))
    ]
  where
    none : (k : ℕ) → k ≤ scale_at p → k ≢ c → k ≢ right_at p → T c k *ℤ v k ≡ pos 0
    none k l kc kr = elim (bool_cases (b k)) [
      | inl bk ↦ ap (λ x. x *ℤ v k) (u.clear c k h bk kc) ∙ zero_left (v k)
      | inr bk ↦ ap (λ x. T c k *ℤ x) (s.outside k bk kr) ∙ mul-zero_z (T c k)
    ]
      where
        zero_left : (x : ℤ) → pos 0 *ℤ x ≡ pos 0
        zero_left x = omega (arith, ints)

    three : (a b c a' b' c' : ℤ) → a ≡ a' → b ≡ b' → c ≡ c' → a' +ℤ b' +ℤ c' ≡ pos 0
        → a +ℤ b +ℤ c ≡ pos 0
    three a b c a' b' c' e f g h = cc
