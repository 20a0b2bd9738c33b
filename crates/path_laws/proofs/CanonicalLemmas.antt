-- The tableau of a basis, with 0 at each place at which an entry does not matter. A basis has at
-- most one such tableau.
use Rattle.std.proofs.Common.{◌≡◌, ℕ, suc, ◌<◌, ◌≤◌, inl, inr, cond, arith, refl, ap, sym, ◌∙◌}
use Rattle.std.proofs.Common.{subst}
use Rattle.std.specs.Prelude.{ℤ, pos, ◌+ℤ◌, ◌-ℤ◌, ◌*ℤ◌, neg_ℤ, ◌<ℤ◌, ◌≤ℤ◌, nat_le, unsigned_abs}
use Rattle.std.specs.Int.{◌∣◌}
use Rattle.std.proofs.Math.Path.{fun_ext}
use Rattle.std.proofs.lemmas.Bool.Decides.{leb_tells}
use Rattle.flow_rules.proofs.integer_laws.Cited.{total_below-same}
use Rattle.flow_rules.specs.LinearProgram.{LinearProgram, low_flow}
use Rattle.flow_rules.specs.Columns.{Basis, Has, x_at, s_at, t_at, w_at, columns, right_at}
use Rattle.flow_rules.specs.Columns.{scale_at}
use Rattle.flow_rules.specs.Equations.{IsCombination}
use Rattle.flow_rules.specs.Tableau.{IsRowOf, IsTableau, IsComplete}
use Rattle.flow_rules.specs.Lexicographic.{IsBefore}
use Rattle.flow_rules.specs.Vectors.{gain}
use Rattle.flow_rules.specs.Pivots.{HasPivot, first_kind, second_kind, IsFirstKind, IsLeaving}
use Rattle.flow_rules.specs.Pivots.{IsEntering}
use Rattle.path_laws.proofs.BoolLemmas.{bool_cases}
use Rattle.path_laws.proofs.OnePathLemmas.{Agree, gain_same}
use Rattle.path_laws.proofs.PathLemmas.{IsSound}

abbrev pub canonical : LinearProgram → Basis → (ℕ → ℕ → ℤ) → ℕ → ℕ → ℤ
canonical p b T c k = cond (b c) (cond (nat_le k (scale_at p)) (T c k) (pos 0)) (pos 0)

pub canonical-at : (p : LinearProgram) (b : Basis) (T : ℕ → ℕ → ℤ) (c k : ℕ) → Has b c
    → k ≤ scale_at p → canonical p b T c k ≡ T c k
canonical-at p b T c k h l =
    elim (leb_tells k (scale_at p))
    [ inl (g, _) ↦ rw (h, g) refl | inr (_, q) ↦ absurd (omega arith) ]

pub canonical-past : (p : LinearProgram) (b : Basis) (T : ℕ → ℕ → ℤ) (c k : ℕ) → scale_at p < k
    → canonical p b T c k ≡ pos 0
canonical-past p b T c k l = elim (leb_tells k (scale_at p)) [
  | inl (_, q) ↦ absurd (omega arith)
  | inr (g, _) ↦ elim (bool_cases (b c)) [ inl h ↦ rw (h, g) refl | inr h ↦ rw h refl ]
]

pub canonical_same : (p : LinearProgram) (b : Basis) (T U : ℕ → ℕ → ℤ) → Agree p b T U
    → canonical p b T ≡ canonical p b U
canonical_same p b T U a = fun_ext (λ c. fun_ext (λ k. entry c k))
  where
    entry : (c k : ℕ) → canonical p b T c k ≡ canonical p b U c k
    entry c k = elim (bool_cases (b c)) [
      | inl h ↦ elim (leb_tells k (scale_at p))
          [ inl (g, l) ↦ rw (h, g) (a c k h l) | inr (g, _) ↦ rw (h, g) refl ]
      | inr h ↦ rw h refl
    ]

-- a row that agrees with a combination at all places that matter is one
pub same_combination : (p : LinearProgram) (r q : ℕ → ℤ) → ((k : ℕ) → k ≤ scale_at p → r k ≡ q k)
    → IsCombination p r → IsCombination p q
same_combination p r q e c = record {
  at_x = λ i h. sym (e (x_at p i) (omega arith)) ∙ c.at_x i h
      ∙ (let scale = e (scale_at p) (omega arith) in
      let s = e (s_at p i) (omega arith) in
      let t =
      total_below-same p.rows (λ j. (r (w_at p j) -ℤ r (t_at p j)) *ℤ p.rate j i)
      (λ j. (q (w_at p j) -ℤ q (t_at p j)) *ℤ p.rate j i) (λ j l. part (p.rate j i) j l) in
      (λ z. scale z *ℤ p.cost i +ℤ s z +ℤ t z));
  at_right = sym (e (right_at p) (omega arith)) ∙ c.at_right
      ∙ (let s =
      total_below-same p.units (λ i. r (s_at p i) *ℤ (p.high i -ℤ p.low i))
      (λ i. q (s_at p i) *ℤ (p.high i -ℤ p.low i))
      (λ i l. ap (λ z. z *ℤ (p.high i -ℤ p.low i)) (at_s i l)) in
      let t =
      total_below-same p.rows
      (λ j. (r (w_at p j) -ℤ r (t_at p j)) *ℤ (p.floor j -ℤ low_flow p j) +ℤ r (w_at p j) *ℤ
      (p.ceiling j -ℤ p.floor j))
      (λ j. (q (w_at p j) -ℤ q (t_at p j)) *ℤ (p.floor j -ℤ low_flow p j) +ℤ q (w_at p j) *ℤ
      (p.ceiling j -ℤ p.floor j))
      (λ j l.
      (λ z. part (p.floor j -ℤ low_flow p j) j l z +ℤ at_w j l z *ℤ
      (p.ceiling j -ℤ p.floor j))) in
      (λ z. s z +ℤ t z));
}
  where
    at_s : (i : ℕ) → i < p.units → r (s_at p i) ≡ q (s_at p i)
    at_s i l = e (s_at p i) (omega arith)

    at_t : (j : ℕ) → j < p.rows → r (t_at p j) ≡ q (t_at p j)
    at_t j l = e (t_at p j) (omega arith)

    at_w : (j : ℕ) → j < p.rows → r (w_at p j) ≡ q (w_at p j)
    at_w j l = e (w_at p j) (omega arith)

    part : (a : ℤ) (j : ℕ) → j < p.rows
        → (r (w_at p j) -ℤ r (t_at p j)) *ℤ a ≡ (q (w_at p j) -ℤ q (t_at p j)) *ℤ a
    part a j l = (λ z. (at_w j l z -ℤ at_t j l z) *ℤ a)

same_row : (p : LinearProgram) (b : Basis) (c : ℕ) (r q : ℕ → ℤ) → IsSound p b → c ≤ scale_at p
    → ((k : ℕ) → k ≤ scale_at p → r k ≡ q k) → IsRowOf p b c r → IsRowOf p b c q
same_row p b c r q s l e row = record {
  combination = same_combination p r q e row.combination;
  own = subst (λ z. pos 0 <ℤ z) (e c l) row.own;
  others = λ k h n. sym (e k (s.inside k h)) ∙ row.others k h n;
  primitive =
      λ d h. row.primitive d
      (λ k i. subst (λ z. d ∣ unsigned_abs z) (sym (e k (omega arith))) (h k i));
}

pub canonical_tableau : (p : LinearProgram) (b : Basis) (T : ℕ → ℕ → ℤ) → IsSound p b
    → IsTableau p b T → IsTableau p b (canonical p b T)
canonical_tableau p b T s t c h =
    same_row p b c (T c) (canonical p b T c) s (s.inside c h)
    (λ k l. sym (canonical-at p b T c k h l)) (t c h)

pub agrees : (p : LinearProgram) (b : Basis) (T : ℕ → ℕ → ℤ) → Agree p b T (canonical p b T)
agrees p b T c k h l = sym (canonical-at p b T c k h l)

pub same_complete : (p : LinearProgram) (b : Basis) (T U : ℕ → ℕ → ℤ) → Agree p b T U
    → IsComplete p b T → IsComplete p b U
same_complete p b T U a comp v d r z =
    comp v d r
    (λ c h. total_below-same (suc (scale_at p)) (λ k. T c k *ℤ v k) (λ k. U c k *ℤ v k)
    (λ k l. ap (λ x. x *ℤ v k) (a c k h (omega arith))) ∙ z c h)

-- ---- the pivot of one tableau is that of the other
before_same : (n : ℕ) (f g f' g' : ℕ → ℤ) → ((k : ℕ) → k < n → f k ≡ f' k)
    → ((k : ℕ) → k < n → g k ≡ g' k) → IsBefore n f g → IsBefore n f' g'
before_same n f g f' g' e h r = record {
  at = r.at;
  below = r.below;
  same = λ i l. let b : i < n = omega (arith, r.below) in sym (e i b) ∙ r.same i l ∙ h i b;
  less =
      subst (λ z. z <ℤ g' r.at) (e r.at r.below) (subst (λ z. f r.at <ℤ z) (h r.at r.below) r.less);
}

leaving_to : (p : LinearProgram) (b : Basis) (T U : ℕ → ℕ → ℤ) (l : ℕ) → IsSound p b → Agree p b T U
    → IsLeaving p b T l → IsLeaving p b U l
leaving_to p b T U l s a f = record {
  costs = λ k h. subst (λ z. pos 0 ≤ℤ z) (a (scale_at p) k s.scale (omega arith)) (f.costs k h);
  column = f.column;
  basic = f.basic;
  negative = subst (λ z. z <ℤ pos 0) (a l (right_at p) f.basic (omega arith)) f.negative;
  before = λ c h i. subst (λ z. pos 0 ≤ℤ z) (a c (right_at p) i (omega arith)) (f.before c h i);
}

entering_to : (p : LinearProgram) (b : Basis) (T U : ℕ → ℕ → ℤ) (l e : ℕ) → IsSound p b → Has b l
    → Agree p b T U → IsEntering p b T l e → IsEntering p b U l e
entering_to p b T U l e s hl a f = record {
  column = f.column;
  negative = subst (λ z. z <ℤ pos 0) (a l e hl (inside e f.column)) f.negative;
  least =
      λ j h neg n. before_same (suc (columns p)) (λ q. neg_ℤ (T l j) *ℤ gain b T (scale_at p) e q)
      (λ q. neg_ℤ (T l e) *ℤ gain b T (scale_at p) j q)
      (λ q. neg_ℤ (U l j) *ℤ gain b U (scale_at p) e q)
      (λ q. neg_ℤ (U l e) *ℤ gain b U (scale_at p) j q)
      (λ k i.
      (λ z. neg_ℤ (a l j hl (inside j h) z) *ℤ gain_same p b T U s.scale a e k f.column i z))
      (λ k i.
      (λ z. neg_ℤ (a l e hl (inside e f.column) z) *ℤ gain_same p b T U s.scale a j k h i z))
      (f.least j h (subst (λ z. z <ℤ pos 0) (sym (a l j hl (inside j h))) neg) n);
}
  where
    inside : (k : ℕ) → k < columns p → k ≤ scale_at p
    inside k h = omega arith

pub first_to : (p : LinearProgram) (b : Basis) (T U : ℕ → ℕ → ℤ) (u : ℕ) → IsSound p b
    → Agree p b T U → IsFirstKind p b T u → IsFirstKind p b U u
first_to p b T U u s a f = record {
  is_unit = f.is_unit;
  negative =
      subst (λ z. z <ℤ pos 0) (a (scale_at p) (x_at p u) s.scale (inside u f.is_unit)) f.negative;
  before =
      λ i l. subst (λ z. pos 0 ≤ℤ z) (a (scale_at p) (x_at p i) s.scale (below i u l f.is_unit))
      (f.before i l);
  basic = f.basic;
  positive =
      subst (λ z. pos 0 <ℤ z) (a (s_at p u) (x_at p u) f.basic (inside u f.is_unit)) f.positive;
}
  where
    inside : (i : ℕ) → i < p.units → x_at p i ≤ scale_at p
    inside i h = omega arith

    below : (i u : ℕ) → i < u → u < p.units → x_at p i ≤ scale_at p
    below i u l h = omega arith

pub pivot_to : (p : LinearProgram) (b : Basis) (T U : ℕ → ℕ → ℤ) (l e : ℕ) (P : ℕ → ℤ) → IsSound p b
    → Agree p b T U → HasPivot p b T l e P → (Q : ℕ → ℤ) × HasPivot p b U l e Q
pivot_to p b T U l e P s a (first_kind u f) =
    (U (s_at p u), first_kind u (first_to p b T U u s a f))
pivot_to p b T U l e P s a (second_kind l' e' f g) = (
  (λ k. neg_ℤ (U l' k)),
  second_kind l' e' (leaving_to p b T U l' s a f) (entering_to p b T U l' e' s f.basic a g),
)
