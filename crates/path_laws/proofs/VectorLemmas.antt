-- A pivot of the second kind keeps each column outside the basis rising.
use Rattle.std.proofs.Common.{◌≡◌, ◌≢◌, ℕ, zero, suc, ◌<◌, inl, inr, true, false, arith, refl, ap}
use Rattle.std.proofs.Common.{sym, ◌∙◌, subst}
use Rattle.std.specs.Prelude.{ℤ, pos, ◌+ℤ◌, ◌-ℤ◌, ◌*ℤ◌, neg_ℤ, ◌<ℤ◌}
use Rattle.std.proofs.lemmas.Int.{ints}
use Rattle.std.proofs.lemmas.Bool.Decides.{eqb_tells}
use Rattle.flow_rules.proofs.integer_laws.Cited.{mul_pos, sign_cases, V, ◌⊕◌, ◌⊖◌, ◌⊗◌, Neg, ring}
use Rattle.flow_rules.proofs.integer_laws.Cited.{read_equal}
use Rattle.flow_rules.proofs.integer_laws.Cited.{mul-zero_z}
use Rattle.path_laws.proofs.BoolLemmas.{bool_cases}
use Rattle.path_laws.proofs.RisingLemmas.{rising_scaled, rising_sum₀, rising_times, rising_of}
use Rattle.flow_rules.specs.Columns.{Basis, Has}
use Rattle.flow_rules.specs.Lexicographic.{IsBefore, IsRising}
use Rattle.flow_rules.specs.Pivots.{IsPivoted}
use Rattle.flow_rules.specs.Vectors.{gain}

pub gain-basic : (b : Basis) (T : ℕ → ℕ → ℤ) (s j k : ℕ) → Has b k
    → gain b T s j (suc k) ≡ neg_ℤ (T k j)
gain-basic b T s j k h = rw h

pub gain-other : (b : Basis) (T : ℕ → ℕ → ℤ) (s j k : ℕ) → b k ≡ false → k ≢ j
    → gain b T s j (suc k) ≡ pos 0
gain-other b T s j k h n =
    elim (eqb_tells k j) [ inl (e, q) ↦ absurd (n q) | inr (e, q) ↦ rw (h, e) ]

pub both_outside : (b b' : Basis) (T T' : ℕ → ℕ → ℤ) (s j k : ℕ) → b k ≡ false → b' k ≡ false
    → gain b' T' s j (suc k) ≡ gain b T s j (suc k)
both_outside b b' T T' s j k h h' = rw (h, h')

pub gain-own : (b : Basis) (T : ℕ → ℕ → ℤ) (s k : ℕ) → b k ≡ false → gain b T s k (suc k) ≡ pos 1
gain-own b T s k h = elim (eqb_tells k k) [ inl (e, q) ↦ rw (h, e) | inr (e, q) ↦ absurd (q refl) ]

at_cost : (f n pe rj re pj : ℤ) → f *ℤ n ≡ pe *ℤ rj -ℤ re *ℤ pj
    → f *ℤ n ≡ pe *ℤ rj +ℤ neg_ℤ pj *ℤ re
at_cost f n pe rj re pj h =
    h ∙ ring (V pe ⊗ V rj ⊖ V re ⊗ V pj) (V pe ⊗ V rj ⊕ Neg (V pj) ⊗ V re) (omega arith)

at_basic : (f n pe rj re pj : ℤ) → f *ℤ n ≡ pe *ℤ rj -ℤ re *ℤ pj
    → f *ℤ neg_ℤ n ≡ pe *ℤ neg_ℤ rj +ℤ neg_ℤ pj *ℤ neg_ℤ re
at_basic f n pe rj re pj h =
    let e = read_equal (V f ⊗ V n) (V pe ⊗ V rj ⊖ V re ⊗ V pj) h in
    ring (V f ⊗ Neg (V n)) (V pe ⊗ Neg (V rj) ⊕ Neg (V pj) ⊗ Neg (V re)) (omega (arith, e))

-- the pivot row is the row of l, negated
abbrev pub IsNegated : (ℕ → ℕ → ℤ) → ℕ → (ℕ → ℤ) → Type 0
IsNegated T l P = (k : ℕ) → P k ≡ neg_ℤ (T l k)

pub one_pos : pos 0 <ℤ pos 1
one_pos = omega (arith, ints)

with_gains : (c pe m g' gj ge a' aj ae : ℤ) → g' ≡ a' → gj ≡ aj → ge ≡ ae
    → c *ℤ a' ≡ pe *ℤ aj +ℤ m *ℤ ae → c *ℤ g' ≡ pe *ℤ gj +ℤ m *ℤ ge
with_gains c pe m g' gj ge a' aj ae e f g h = cc

at_entering : (pe pj : ℤ) → pos 1 *ℤ neg_ℤ pj ≡ pe *ℤ pos 0 +ℤ neg_ℤ pj *ℤ pos 1
at_entering pe pj =
    ring (V (pos 1) ⊗ Neg (V pj)) (V pe ⊗ V (pos 0) ⊕ Neg (V pj) ⊗ V (pos 1)) (omega arith)

at_leaving : (pe pj : ℤ) → pos 1 *ℤ pos 0 ≡ pe *ℤ pj +ℤ neg_ℤ pj *ℤ pe
at_leaving pe pj = ring (V (pos 1) ⊗ V (pos 0)) (V pe ⊗ V pj ⊕ Neg (V pj) ⊗ V pe) (omega arith)

at_outside : (pe m x : ℤ) → pe *ℤ x ≡ pe *ℤ x +ℤ m *ℤ pos 0
at_outside pe m x = ring (V pe ⊗ V x) (V pe ⊗ V x ⊕ V m ⊗ V (pos 0)) (omega arith)

apart : (b : Basis) (k j : ℕ) → b k ≡ true → b j ≡ false → k ≢ j
apart b k j h f e = let x : true ≡ false = sym h ∙ ap b e ∙ f in cc

-- at each place, up to a positive factor, the gain of a column after the pivot is this sum of gains
-- before it
pub gain-pivot : (b b' : Basis) (T T' : ℕ → ℕ → ℤ) (s l e : ℕ) (P : ℕ → ℤ)
    → IsPivoted b b' T T' l e P → IsNegated T l P → Has b s → s ≢ l → (j : ℕ) → b j ≡ false → j ≢ e
    → (q : ℕ) → (c : ℤ) × (pos 0 <ℤ c)
    × (c *ℤ gain b' T' s j q ≡ P e *ℤ gain b T s j q +ℤ neg_ℤ (P j) *ℤ gain b T s e q)
gain-pivot b b' T T' s l e P v n hs sl j fj je zero =
    let r = v.rows s hs sl in
    (r.factor, r.positive, at_cost r.factor (T' s j) (P e) (T s j) (T s e) (P j) (r.at j))
gain-pivot b b' T T' s l e P v n hs sl j fj je (suc k) =
    elim (eqb_tells k e) [
      | inl (_, ke) ↦
          let bk : b k ≡ false = ap b ke ∙ v.free in
          let bk' : b' k ≡ true = ap b' ke ∙ v.enters in
          let kj : k ≢ j = λ x. je (sym x ∙ ke) in
          let g' : gain b' T' s j (suc k) ≡ neg_ℤ (P j) =
          gain-basic b' T' s j k bk' ∙ ap (λ x. neg_ℤ (T' x j)) ke ∙ ap neg_ℤ (v.row j) in
          let ge : gain b T s e (suc k) ≡ pos 1 =
          ap (λ x. gain b T s x (suc k)) (sym ke) ∙ gain-own b T s k bk in (
            pos 1,
            one_pos,
            with_gains (pos 1) (P e) (neg_ℤ (P j)) (gain b' T' s j (suc k)) (gain b T s j (suc k))
                (gain b T s e (suc k)) (neg_ℤ (P j)) (pos 0) (pos 1) g' (gain-other b T s j k bk kj)
                ge (at_entering (P e) (P j)),
          )
      | inr (_, ke) ↦ elim (eqb_tells k l) [
        | inl (_, kl) ↦
            let bk : b k ≡ true = ap b kl ∙ v.was in
            let bk' : b' k ≡ false = ap b' kl ∙ v.leaves in
            let kj : k ≢ j = apart b k j bk fj in
            let gj : gain b T s j (suc k) ≡ P j =
            gain-basic b T s j k bk ∙ ap (λ x. neg_ℤ (T x j)) kl ∙ sym (n j) in
            let ge : gain b T s e (suc k) ≡ P e =
            gain-basic b T s e k bk ∙ ap (λ x. neg_ℤ (T x e)) kl ∙ sym (n e) in (
              pos 1,
              one_pos,
              with_gains (pos 1) (P e) (neg_ℤ (P j)) (gain b' T' s j (suc k))
                  (gain b T s j (suc k)) (gain b T s e (suc k)) (pos 0) (P j) (P e)
                  (gain-other b' T' s j k bk' kj) gj ge (at_leaving (P e) (P j)),
            )
        | inr (_, kl) ↦ elim (bool_cases (b k)) [
          | inl bk ↦
              let bk' : b' k ≡ true = v.stays k kl ke ∙ bk in
              let r = v.rows k bk kl in (
                r.factor,
                r.positive,
                with_gains r.factor (P e) (neg_ℤ (P j)) (gain b' T' s j (suc k))
                    (gain b T s j (suc k)) (gain b T s e (suc k)) (neg_ℤ (T' k j)) (neg_ℤ (T k j))
                    (neg_ℤ (T k e)) (gain-basic b' T' s j k bk') (gain-basic b T s j k bk)
                    (gain-basic b T s e k bk)
                    (at_basic r.factor (T' k j) (P e) (T k j) (T k e) (P j) (r.at j)),
              )
          | inr bk ↦
              let bk' : b' k ≡ false = v.stays k kl ke ∙ bk in
              let same : gain b' T' s j (suc k) ≡ gain b T s j (suc k) =
              both_outside b b' T T' s j k bk bk' in (
                P e,
                v.positive,
                with_gains (P e) (P e) (neg_ℤ (P j)) (gain b' T' s j (suc k))
                    (gain b T s j (suc k)) (gain b T s e (suc k)) (gain b T s j (suc k))
                    (gain b T s j (suc k)) (pos 0) same refl (gain-other b T s e k bk ke)
                    (at_outside (P e) (neg_ℤ (P j)) (gain b T s j (suc k))),
              )
        ]
      ]
    ]

left_cost : (f n pe te pl : ℤ) (tl : ℤ) → tl ≡ pos 0 → f *ℤ n ≡ pe *ℤ tl -ℤ te *ℤ pl
    → f *ℤ n ≡ neg_ℤ pl *ℤ te
left_cost f n pe te pl tl z h =
    h ∙ ap (λ x. pe *ℤ x -ℤ te *ℤ pl) z
    ∙ ring (V pe ⊗ V (pos 0) ⊖ V te ⊗ V pl) (Neg (V pl) ⊗ V te) (omega arith)

left_basic : (f n pe te pl : ℤ) (tl : ℤ) → tl ≡ pos 0 → f *ℤ n ≡ pe *ℤ tl -ℤ te *ℤ pl
    → f *ℤ neg_ℤ n ≡ neg_ℤ pl *ℤ neg_ℤ te
left_basic f n pe te pl tl z h =
    let e = read_equal (V f ⊗ V n) (Neg (V pl) ⊗ V te) (left_cost f n pe te pl tl z h) in
    ring (V f ⊗ Neg (V n)) (Neg (V pl) ⊗ Neg (V te)) (omega (arith, e))

with_gain : (c m g' ge a' ae : ℤ) → g' ≡ a' → ge ≡ ae → c *ℤ a' ≡ m *ℤ ae → c *ℤ g' ≡ m *ℤ ge
with_gain c m g' ge a' ae e f h = cc

one_times : (x : ℤ) → pos 1 *ℤ x ≡ x *ℤ pos 1
one_times x = ring (V (pos 1) ⊗ V x) (V x ⊗ V (pos 1)) (omega arith)

-- the column that left rises as the one that entered did
pub gain-left : (b b' : Basis) (T T' : ℕ → ℕ → ℤ) (s l e : ℕ) (P : ℕ → ℤ)
    → IsPivoted b b' T T' l e P → IsNegated T l P → Has b s → s ≢ l
    → ((c : ℕ) → Has b c → c ≢ l → T c l ≡ pos 0) → pos 0 <ℤ neg_ℤ (P l) → (q : ℕ) → (c : ℤ)
    × (pos 0 <ℤ c) × (c *ℤ gain b' T' s l q ≡ neg_ℤ (P l) *ℤ gain b T s e q)
gain-left b b' T T' s l e P v n hs sl u ol zero =
    let r = v.rows s hs sl in (
      r.factor,
      r.positive,
      left_cost r.factor (T' s l) (P e) (T s e) (P l) (T s l) (u s hs sl) (r.at l),
    )
gain-left b b' T T' s l e P v n hs sl u ol (suc k) =
    elim (eqb_tells k e) [
      | inl (_, ke) ↦
          let bk : b k ≡ false = ap b ke ∙ v.free in
          let bk' : b' k ≡ true = ap b' ke ∙ v.enters in
          let g' : gain b' T' s l (suc k) ≡ neg_ℤ (P l) =
          gain-basic b' T' s l k bk' ∙ ap (λ x. neg_ℤ (T' x l)) ke ∙ ap neg_ℤ (v.row l) in
          let ge : gain b T s e (suc k) ≡ pos 1 =
          ap (λ x. gain b T s x (suc k)) (sym ke) ∙ gain-own b T s k bk in (
            pos 1,
            one_pos,
            with_gain (pos 1) (neg_ℤ (P l)) (gain b' T' s l (suc k)) (gain b T s e (suc k))
                (neg_ℤ (P l)) (pos 1) g' ge (one_times (neg_ℤ (P l))),
          )
      | inr (_, ke) ↦ elim (eqb_tells k l) [
        | inl (_, kl) ↦
            let bk : b k ≡ true = ap b kl ∙ v.was in
            let bk' : b' k ≡ false = ap b' kl ∙ v.leaves in
            let g' : gain b' T' s l (suc k) ≡ pos 1 =
            ap (λ x. gain b' T' s x (suc k)) (sym kl) ∙ gain-own b' T' s k bk' in
            let ge : gain b T s e (suc k) ≡ P e =
            gain-basic b T s e k bk ∙ ap (λ x. neg_ℤ (T x e)) kl ∙ sym (n e) in
            let c = neg_ℤ (P l) *ℤ P e in (
              c,
              mul_pos (neg_ℤ (P l)) (P e) ol v.positive,
              with_gain c (neg_ℤ (P l)) (gain b' T' s l (suc k)) (gain b T s e (suc k)) (pos 1)
                  (P e) g' ge (sym (one_times c) ∙ one_left c),
            )
        | inr (_, kl) ↦ elim (bool_cases (b k)) [
          | inl bk ↦
              let bk' : b' k ≡ true = v.stays k kl ke ∙ bk in
              let r = v.rows k bk kl in (
                r.factor,
                r.positive,
                with_gain r.factor (neg_ℤ (P l)) (gain b' T' s l (suc k)) (gain b T s e (suc k))
                    (neg_ℤ (T' k l)) (neg_ℤ (T k e)) (gain-basic b' T' s l k bk')
                    (gain-basic b T s e k bk)
                    (left_basic r.factor (T' k l) (P e) (T k e) (P l) (T k l) (u k bk kl) (r.at l)),
              )
          | inr bk ↦
              let bk' : b' k ≡ false = v.stays k kl ke ∙ bk in (
                pos 1,
                one_pos,
                with_gain (pos 1) (neg_ℤ (P l)) (gain b' T' s l (suc k)) (gain b T s e (suc k))
                    (pos 0) (pos 0) (gain-other b' T' s l k bk' kl) (gain-other b T s e k bk ke)
                    (mul-zero_z (pos 1) ∙ sym (mul-zero_z (neg_ℤ (P l)))),
              )
        ]
      ]
    ]
  where
    one_left : (x : ℤ) → pos 1 *ℤ x ≡ x
    one_left x = omega (arith, ints)

-- Each column outside the basis rises after a pivot, if it did before and the one that enters is
-- the least by the quotients.
pub pivot_rising : (n m : ℕ) (b b' : Basis) (T T' : ℕ → ℕ → ℤ) (s l e : ℕ) (P : ℕ → ℤ)
    → IsPivoted b b' T T' l e P → IsNegated T l P → Has b s → s ≢ l
    → ((c : ℕ) → Has b c → c ≢ l → T c l ≡ pos 0) → pos 0 <ℤ neg_ℤ (P l) → IsRising n (gain b T s e)
    → ((j : ℕ) → j < m → b j ≡ false → IsRising n (gain b T s j))
    → ((j : ℕ) → j < m → b j ≡ false → j ≢ e → pos 0 <ℤ P j
    → IsBefore n (λ q. P j *ℤ gain b T s e q) (λ q. P e *ℤ gain b T s j q)) → (j : ℕ) → j < m
    → b' j ≡ false → IsRising n (gain b' T' s j)
pivot_rising n m b b' T T' s l e P v ng hs sl u ol re rising ratio j jm h =
    elim (eqb_tells j l) [
      | inl (_, jl) ↦
          let r : IsRising n (gain b' T' s l) =
          rising_scaled n (λ q. neg_ℤ (P l) *ℤ gain b T s e q) (gain b' T' s l)
          (λ q _. gain-left b b' T T' s l e P v ng hs sl u ol q)
          (rising_times n (gain b T s e) (neg_ℤ (P l)) ol re) in
          subst (λ x. IsRising n (gain b' T' s x)) (sym jl) r
      | inr (_, jl) ↦
          let je : j ≢ e = λ x. let y : true ≡ false = sym v.enters ∙ ap b' (sym x) ∙ h in cc in
          let bj : b j ≡ false = sym (v.stays j jl je) ∙ h in
          rising_scaled n (λ q. P e *ℤ gain b T s j q +ℤ neg_ℤ (P j) *ℤ gain b T s e q)
          (gain b' T' s j)
          (λ q _. gain-pivot b b' T T' s l e P v ng hs sl j bj je q)
          (elim (sign_cases (P j)) [
            | inl p
                ↦ rising_of n (λ q. P j *ℤ gain b T s e q) (λ q. P e *ℤ gain b T s j q)
                (λ q. P e *ℤ gain b T s j q +ℤ neg_ℤ (P j) *ℤ gain b T s e q)
                (λ q. minus (P e) (gain b T s j q) (P j) (gain b T s e q)) (ratio j jm bj je p)
            | inr p
                ↦ rising_sum₀ n (gain b T s j) (gain b T s e) (P e) (neg_ℤ (P j)) v.positive
                (omega (arith, ints)) (rising j jm bj) re
          ])
    ]
  where
    minus : (a x c y : ℤ) → a *ℤ x +ℤ neg_ℤ c *ℤ y ≡ a *ℤ x -ℤ c *ℤ y
    minus a x c y = ring (V a ⊗ V x ⊕ Neg (V c) ⊗ V y) (V a ⊗ V x ⊖ V c ⊗ V y) (omega arith)
