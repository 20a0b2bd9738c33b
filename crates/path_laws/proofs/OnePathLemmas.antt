-- A basis has at most one next basis.
use Rattle.std.proofs.Common.{◌≡◌, ◌≢◌, ℕ, zero, suc, ◌<◌, ◌≤◌, inl, inr, arith, refl, ap, sym, ◌∙◌}
use Rattle.std.proofs.Common.{subst}
use Rattle.std.specs.Prelude.{Some, None, ℤ, pos, ◌*ℤ◌, neg_ℤ, ◌<ℤ◌, ◌≤ℤ◌}
use Rattle.std.proofs.lemmas.Int.{ints}
use Rattle.std.proofs.lemmas.Bool.{cases_order}
use Rattle.std.proofs.lemmas.Bool.Decides.{eqb_tells}
use Rattle.path_laws.proofs.RisingLemmas.{before_both}
use Rattle.flow_rules.specs.Columns.{Basis, Has, x_at, s_at, columns, right_at, scale_at, exchanged}
use Rattle.flow_rules.specs.LinearProgram.{LinearProgram}
use Rattle.flow_rules.specs.Path.{Follows, IsPastEntry}
use Rattle.flow_rules.specs.Pivots.{HasPivot, first_kind, second_kind, IsFirstKind, IsLeaving}
use Rattle.flow_rules.specs.Pivots.{IsEntering, IsFeasible, IsRefuting}
use Rattle.flow_rules.specs.Tableau.{IsTableau, IsIndependent}
use Rattle.flow_rules.specs.Vectors.{gain}
use Rattle.path_laws.proofs.BoolLemmas.{bool_cases}
use Rattle.path_laws.proofs.UniqueLemmas.{row_unique}
use Rattle.flow_rules.specs.Places.{IsPastPivot, at_first, at_second}
use Rattle.flow_rules.specs.integer_laws.declared.which.Which.{Which}
use Rattle.flow_rules.specs.integer_laws.Combined.{past_of}
use Rattle.flow_rules.specs.integer_laws.Lowest.{IsLowest}

-- two tableaux of one basis
abbrev pub Agree : LinearProgram → Basis → (ℕ → ℕ → ℤ) → (ℕ → ℕ → ℤ) → Type 0
Agree p b T U = (c k : ℕ) → Has b c → k ≤ scale_at p → T c k ≡ U c k

pub gain_same : (p : LinearProgram) (b : Basis) (T U : ℕ → ℕ → ℤ) → Has b (scale_at p)
    → Agree p b T U → (j q : ℕ) → j < columns p → q < suc (columns p)
    → gain b T (scale_at p) j q ≡ gain b U (scale_at p) j q
gain_same p b T U hs a j zero l h = a (scale_at p) j hs (omega arith)
gain_same p b T U hs a j (suc k) l h =
    elim (bool_cases (b k)) [
      | inl e ↦ basic e
      | inr e ↦ rw e refl
    ]
  where
    basic : Has b k → gain b T (scale_at p) j (suc k) ≡ gain b U (scale_at p) j (suc k)
    basic e = let x = ap neg_ℤ (a k j e (omega arith)) in rw e x

clash_sign : (x y : ℤ) → x ≡ y → x <ℤ pos 0 → pos 0 ≤ℤ y → ⊥
clash_sign x y e h k = omega (arith, ints)

negative_of : (x y : ℤ) → x ≡ y → x <ℤ pos 0 → y <ℤ pos 0
negative_of x y e h = omega (arith, ints)

pub first_unit : (p : LinearProgram) (b : Basis) (T U : ℕ → ℕ → ℤ) (u v : ℕ)
    → ((k : ℕ) → k ≤ scale_at p → T (scale_at p) k ≡ U (scale_at p) k) → IsFirstKind p b T u
    → IsFirstKind p b U v → u ≡ v
first_unit p b T U u v a f g =
    elim (cases_order u v) [
      | inl e ↦ e
      | inr o ↦ elim o [
        | inl l
            ↦ absurd
            (clash_sign (T (scale_at p) (x_at p u)) (U (scale_at p) (x_at p u))
            (a (x_at p u) (inside u f.is_unit)) f.negative (g.before u l))
        | inr l
            ↦ absurd
            (clash_sign (U (scale_at p) (x_at p v)) (T (scale_at p) (x_at p v))
            (sym (a (x_at p v) (inside v g.is_unit))) g.negative (f.before v l))
      ]
    ]
  where
    inside : (i : ℕ) → i < p.units → x_at p i ≤ scale_at p
    inside i h = omega arith

leaving_same : (p : LinearProgram) (b : Basis) (T U : ℕ → ℕ → ℤ) (l m : ℕ) → Agree p b T U
    → IsLeaving p b T l → IsLeaving p b U m → l ≡ m
leaving_same p b T U l m a f g =
    elim (cases_order l m) [
      | inl e ↦ e
      | inr o ↦ elim o [
        | inl h
            ↦ absurd
            (clash_sign (T l (right_at p)) (U l (right_at p))
            (a l (right_at p) f.basic (omega arith)) f.negative (g.before l h f.basic))
        | inr h
            ↦ absurd
            (clash_sign (U m (right_at p)) (T m (right_at p))
            (sym (a m (right_at p) g.basic (omega arith))) g.negative (f.before m h g.basic))
      ]
    ]

entering_same : (p : LinearProgram) (b : Basis) (T U : ℕ → ℕ → ℤ) (l d e : ℕ) → Has b (scale_at p)
    → Has b l → Agree p b T U → IsEntering p b T l d → IsEntering p b U l e → d ≡ e
entering_same p b T U l d e hs hl a f g =
    elim (eqb_tells d e) [
      | inl (_, q) ↦ q
      | inr (_, q) ↦
          let te : T l e <ℤ pos 0 =
          negative_of (U l e) (T l e) (sym (a l e hl (inside e g.column))) g.negative in
          let ud : U l d <ℤ pos 0 =
          negative_of (T l d) (U l d) (a l d hl (inside d f.column)) f.negative in
          absurd
          (before_both (suc (columns p)) (λ k. neg_ℤ (T l e) *ℤ gain b T (scale_at p) d k)
          (λ k. neg_ℤ (T l d) *ℤ gain b T (scale_at p) e k)
          (λ k. neg_ℤ (U l e) *ℤ gain b U (scale_at p) d k)
          (λ k. neg_ℤ (U l d) *ℤ gain b U (scale_at p) e k)
          (λ k h. times (T l e) (U l e) (gain b T (scale_at p) d k) (gain b U (scale_at p) d k)
          (a l e hl (inside e g.column)) (gain_same p b T U hs a d k f.column h))
          (λ k h. times (T l d) (U l d) (gain b T (scale_at p) e k) (gain b U (scale_at p) e k)
          (a l d hl (inside d f.column)) (gain_same p b T U hs a e k g.column h))
          (f.least e g.column te (λ x. q (sym x))) (g.least d f.column ud q))
    ]
  where
    inside : (k : ℕ) → k < columns p → k ≤ scale_at p
    inside k h = omega arith

    times : (x y g h : ℤ) → x ≡ y → g ≡ h → neg_ℤ x *ℤ g ≡ neg_ℤ y *ℤ h
    times x y g h e f = cc

-- a basis has at most one pivot
pub pivot_same : (p : LinearProgram) (b : Basis) (T U : ℕ → ℕ → ℤ) (l m d e : ℕ) (P Q : ℕ → ℤ)
    → Has b (scale_at p) → Agree p b T U → HasPivot p b T l d P → HasPivot p b U m e Q → (l ≡ m)
    × (d ≡ e)
pivot_same p b T U l m d e P Q hs a (first_kind u f) (first_kind v g) =
    let x = first_unit p b T U u v (λ k h. a (scale_at p) k hs h) f g in
    (ap (s_at p) x, ap (x_at p) x)
pivot_same p b T U l m d e P Q hs a (first_kind u f) (second_kind m' e' g h) =
    absurd
    (clash_sign (T (scale_at p) (x_at p u)) (U (scale_at p) (x_at p u))
    (a (scale_at p) (x_at p u) hs (inside p u f.is_unit)) f.negative
    (g.costs (x_at p u) (column p u f.is_unit)))
  where
    inside : (p : LinearProgram) (i : ℕ) → i < p.units → x_at p i ≤ scale_at p
    inside p i h = omega arith

    column : (p : LinearProgram) (i : ℕ) → i < p.units → x_at p i < columns p
    column p i h = omega arith
pivot_same p b T U l m d e P Q hs a (second_kind l' d' g h) (first_kind u f) =
    absurd
    (clash_sign (U (scale_at p) (x_at p u)) (T (scale_at p) (x_at p u))
    (sym (a (scale_at p) (x_at p u) hs (inside p u f.is_unit))) f.negative
    (g.costs (x_at p u) (column p u f.is_unit)))
  where
    inside : (p : LinearProgram) (i : ℕ) → i < p.units → x_at p i ≤ scale_at p
    inside p i h = omega arith

    column : (p : LinearProgram) (i : ℕ) → i < p.units → x_at p i < columns p
    column p i h = omega arith
pivot_same p b T U l m d e P Q hs a (second_kind l' d' f f') (second_kind m' e' g g') =
    let x = leaving_same p b T U l' m' a f g in
    let f'' : IsEntering p b T m' d' = subst (λ z. IsEntering p b T z d') x f' in
    (x, entering_same p b T U m' d' e' hs g.basic a f'' g')

pub follows_same : (p : LinearProgram) (b b' b'' : Basis) → Has b (scale_at p) → IsIndependent p b
    → Follows p b b' → Follows p b b'' → (k : ℕ) → b' k ≡ b'' k
follows_same p b b' b'' hs ind f g k =
    let a : Agree p b f.tableau g.tableau =
    λ c j h l. row_unique p b c (f.tableau c) (g.tableau c) ind (f.is_tableau c h)
    (g.is_tableau c h) j l in
    let (x, y) =
    pivot_same p b f.tableau g.tableau f.leaves g.leaves f.enters g.enters f.pivot g.pivot hs a
    f.has_pivot g.has_pivot in
    f.next k ∙ ap (λ z. exchanged b z f.enters k) x ∙ ap (λ z. exchanged b g.leaves z k) y
    ∙ sym (g.next k)

-- ---- a basis at which the path ends has no next one
pivot_row_same : (p : LinearProgram) (b : Basis) (T U : ℕ → ℕ → ℤ) (l m d e : ℕ) (P Q : ℕ → ℤ)
    → Has b (scale_at p) → Agree p b T U → HasPivot p b T l d P → HasPivot p b U m e Q → (k : ℕ)
    → k ≤ scale_at p → P k ≡ Q k
pivot_row_same p b T U l m d e P Q hs a (first_kind u f) (first_kind v g) k h =
    let x = first_unit p b T U u v (λ k h. a (scale_at p) k hs h) f g in a (s_at p u) k f.basic h
    ∙ ap (λ z. U (s_at p z) k) x
pivot_row_same p b T U l m d e P Q hs a (first_kind u f) (second_kind m' e' g g') k h =
    let (x, y) =
    pivot_same p b T U (s_at p u) m' (x_at p u) e' (T (s_at p u)) (λ k. neg_ℤ (U m' k)) hs a
    (first_kind u f) (second_kind m' e' g g') in
    absurd
    (clash_sign (T (scale_at p) (x_at p u)) (U (scale_at p) (x_at p u))
    (a (scale_at p) (x_at p u) hs (inside p u f.is_unit)) f.negative
    (g.costs (x_at p u) (column p u f.is_unit)))
  where
    inside : (p : LinearProgram) (i : ℕ) → i < p.units → x_at p i ≤ scale_at p
    inside p i h = omega arith

    column : (p : LinearProgram) (i : ℕ) → i < p.units → x_at p i < columns p
    column p i h = omega arith
pivot_row_same p b T U l m d e P Q hs a (second_kind l' d' g h') (first_kind u f) k h =
    absurd
    (clash_sign (U (scale_at p) (x_at p u)) (T (scale_at p) (x_at p u))
    (sym (a (scale_at p) (x_at p u) hs (inside p u f.is_unit))) f.negative
    (g.costs (x_at p u) (column p u f.is_unit)))
  where
    inside : (p : LinearProgram) (i : ℕ) → i < p.units → x_at p i ≤ scale_at p
    inside p i h = omega arith

    column : (p : LinearProgram) (i : ℕ) → i < p.units → x_at p i < columns p
    column p i h = omega arith
pivot_row_same p b T U l m d e P Q hs a (second_kind l' d' f f') (second_kind m' e' g g') k h =
    let x = leaving_same p b T U l' m' a f g in ap neg_ℤ (a l' k f.basic h ∙ ap (λ z. U z k) x)

pub feasible_last : (p : LinearProgram) (b : Basis) (T : ℕ → ℕ → ℤ) (l e : ℕ) (P : ℕ → ℤ)
    → IsFeasible p b T → HasPivot p b T l e P → ⊥
feasible_last p b T l e P s (first_kind u f) =
    below (T (scale_at p) (x_at p u)) f.negative (s.costs (x_at p u) (column p u f.is_unit))
  where
    column : (p : LinearProgram) (i : ℕ) → i < p.units → x_at p i < columns p
    column p i h = omega arith

    below : (z : ℤ) → z <ℤ pos 0 → pos 0 ≤ℤ z → ⊥
    below z h k = omega (arith, ints)
feasible_last p b T l e P s (second_kind l' e' f g) =
    below (T l' (right_at p)) f.negative (s.values l' f.basic f.column)
  where
    below : (z : ℤ) → z <ℤ pos 0 → pos 0 ≤ℤ z → ⊥
    below z h k = omega (arith, ints)

pub refuting_last : (p : LinearProgram) (b : Basis) (T : ℕ → ℕ → ℤ) (r l e : ℕ) (P : ℕ → ℤ)
    → IsRefuting p b T r → HasPivot p b T l e P → ⊥
refuting_last p b T r l e P s (first_kind u f) =
    clash_sign (T (scale_at p) (x_at p u)) (T (scale_at p) (x_at p u)) refl f.negative
    (s.leaving.costs (x_at p u) (column p u f.is_unit))
  where
    column : (p : LinearProgram) (i : ℕ) → i < p.units → x_at p i < columns p
    column p i h = omega arith
refuting_last p b T r l e P s (second_kind l' e' f g) =
    let x = leaving_same p b T T r l' (λ c k h i. refl) s.leaving f in
    clash_sign (T l' e') (T r e') (ap (λ z. T z e') (sym x)) g.negative (s.entries e' g.column)

-- a number of a row other than the pivot's overflows at the pivot
record IsPastRow (p : LinearProgram) (b : Basis) (T : ℕ → ℕ → ℤ) (l e c k : ℕ)
    (which : Which) : Type 0 where
  pub pivot : ℕ → ℤ
  pub has_pivot : HasPivot p b T l e pivot
  pub is_row : Has b c
  pub other : c ≢ l
  pub past : IsPastEntry (scale_at p) pivot (T c) e k which

past_row : (p : LinearProgram) (b : Basis) (T : ℕ → ℕ → ℤ) (l e c k : ℕ) (which : Which)
    → Has b (scale_at p) → IsPastPivot p b T l e c k which → IsPastRow p b T l e c k which
past_row p b T l e c k which hs (at_first u k' which' f q) =
    record {
      pivot = T (s_at p u);
      has_pivot = first_kind u f;
      is_row = hs;
      other =
          λ x. apart p u f.is_unit x;
      past = q;
    }
  where
    apart : (p : LinearProgram) (u : ℕ) → u < p.units → scale_at p ≡ s_at p u → ⊥
    apart p u h x = omega arith
past_row p b T l e c k which hs (at_second l' e' c' k' which' f g h n q) =
    record {
      pivot = λ i. neg_ℤ (T l' i);
      has_pivot = second_kind l' e' f g;
      is_row = h;
      other =
          n;
      past = q;
    }

entering_inside : (p : LinearProgram) (b : Basis) (T : ℕ → ℕ → ℤ) (l e : ℕ) (P : ℕ → ℤ)
    → HasPivot p b T l e P → e ≤ scale_at p
entering_inside p b T l e P (first_kind u g) = unit_inside p u g.is_unit
  where
    unit_inside : (p : LinearProgram) (i : ℕ) → i < p.units → x_at p i ≤ scale_at p
    unit_inside p i h = omega arith
entering_inside p b T l e P (second_kind l' e' g h) = column_inside p e' h.column
  where
    column_inside : (p : LinearProgram) (k : ℕ) → k < columns p → k ≤ scale_at p
    column_inside p k h = omega arith

past_last : (p : LinearProgram) (b b' : Basis) (T : ℕ → ℕ → ℤ) (l e c k : ℕ) (which : Which)
    → Has b (scale_at p) → (f : Follows p b b') → Agree p b T f.tableau
    → IsPastRow p b T l e c k which → ⊥
past_last p b b' T l e c k which hs f a s =
    let (x, y) =
    pivot_same p b T f.tableau l f.leaves e f.enters s.pivot f.pivot hs a s.has_pivot
    f.has_pivot in
    let rows =
    pivot_row_same p b T f.tableau l f.leaves e f.enters s.pivot f.pivot hs a s.has_pivot
    f.has_pivot in
    let t = s.past in
    let el : e ≤ scale_at p = entering_inside p b T l e s.pivot s.has_pivot in
    let re : T c e ≡ f.tableau c f.enters = a c e s.is_row el ∙ ap (f.tableau c) y in
    let pe : s.pivot e ≡ f.pivot f.enters = rows e el ∙ ap f.pivot y in
    let lowest : IsLowest (f.tableau c f.enters) (f.pivot f.enters) t.right t.left =
    subst (λ z. IsLowest z (f.pivot f.enters) t.right t.left) re
    (subst (λ z. IsLowest (T c e) z t.right t.left) pe t.lowest) in
    let ok =
    f.fits c s.is_row (λ q. s.other (q ∙ sym x)) (λ q. t.counts (re ∙ q)) t.left t.right lowest
    k t.place in
    some_none which
    (sym t.past ∙ (λ i. past_of t.left (a c k s.is_row t.place i) t.right (rows k t.place i))
    ∙ ok)
  where
    some_none : (w : Which) → Some w ≡ None → ⊥
    some_none w q = cc

-- if a number of the pivot is out of range, no basis follows
pub past_is_last : (p : LinearProgram) (b b' : Basis) (T : ℕ → ℕ → ℤ) (l e c k : ℕ) (which : Which)
    → Has b (scale_at p) → IsIndependent p b → IsTableau p b T → IsPastPivot p b T l e c k which
    → Follows p b b' → ⊥
past_is_last p b b' T l e c k which hs ind t s f =
    past_last p b b' T l e c k which hs f
    (λ c j h i. row_unique p b c (T c) (f.tableau c) ind (t c h) (f.is_tableau c h) j i)
    (past_row p b T l e c k which hs s)
