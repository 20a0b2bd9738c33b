-- The tableaux of a basis and of the next one: the pivot makes the later of the earlier. Both have
-- 0 after the scale.
use Rattle.std.proofs.Common.{◌≡◌, ◌≢◌, ℕ, suc, ◌<◌, ◌≤◌, inl, inr, true, false, arith, ap, sym}
use Rattle.std.proofs.Common.{◌∙◌, subst}
use Rattle.std.specs.Prelude.{ℤ, pos, negsuc, ◌-ℤ◌, ◌*ℤ◌, neg_ℤ, ◌<ℤ◌, unsigned_abs, int_div}
use Rattle.std.specs.Int.{◌∣◌}
use Rattle.std.proofs.lemmas.Int.{ints, unsigned_abs-mul}
use Rattle.std.proofs.lemmas.Bool.Decides.{eqb_tells, leb_tells}
use Rattle.std.proofs.Math.Nat.{dvd-mul_right}
use Rattle.flow_rules.proofs.integer_laws.Cited.{V, ◌⊖◌, ◌⊗◌, ring, mul_pos, pos_of-mul, cancel}
use Rattle.exact_numbers.proofs.Cited.{quotient_exact}
use Rattle.flow_rules.specs.LinearProgram.{LinearProgram}
use Rattle.flow_rules.specs.Columns.{Basis, Has, scale_at, exchanged}
use Rattle.flow_rules.specs.Equations.{IsCombination}
use Rattle.flow_rules.specs.Tableau.{IsRowOf, IsTableau}
use Rattle.flow_rules.specs.Pivots.{HasPivot, IsCombined, IsPivoted}
use Rattle.path_laws.proofs.CombinationLemmas.{Mixes, mixed}
use Rattle.path_laws.proofs.PivotLemmas.{exchanged-in, exchanged-out, exchanged-other, IsTurn}
use Rattle.path_laws.proofs.PivotLemmas.{turn_of}
use Rattle.path_laws.proofs.UniqueLemmas.{divides, row_unique}
use Rattle.path_laws.proofs.PathLemmas.{IsSound}

abs_positive : (z : ℤ) → pos 0 <ℤ z → 0 < unsigned_abs z
abs_positive (pos n) h = omega (arith, ints)
abs_positive (negsuc n) h = absurd (omega (arith, ints))

one_mix : (a b : ℤ) (row pivot : ℕ → ℤ) (k : ℕ)
    → Mixes (pos 1) a b (a *ℤ row k -ℤ b *ℤ pivot k) (row k) (pivot k)
one_mix a b row pivot k =
    record {
      is =
          ring (V (pos 1) ⊗ (V a ⊗ V (row k) ⊖ V b ⊗ V (pivot k)))
          (V a ⊗ V (row k) ⊖ V b ⊗ V (pivot k))
          (omega arith);
    }

swap : (x y : ℤ) → x *ℤ y -ℤ y *ℤ x ≡ pos 0
swap x y = ring (V x ⊗ V y ⊖ V y ⊗ V x) (V (pos 0)) (omega arith)

nothing : (a b x y : ℤ) → x ≡ pos 0 → y ≡ pos 0 → a *ℤ x -ℤ b *ℤ y ≡ pos 0
nothing a b x y e f = ap (λ z. a *ℤ z -ℤ b *ℤ y) e ∙ ap (λ z. a *ℤ pos 0 -ℤ b *ℤ z) f
    ∙ ring (V a ⊗ V (pos 0) ⊖ V b ⊗ V (pos 0)) (V (pos 0)) (omega arith)

-- a row q in lowest terms and a row m in proportion to it: m is a whole multiple
multiple : (n c : ℕ) (m q : ℕ → ℤ) → pos 0 <ℤ q c → pos 0 <ℤ m c
    → ((d : ℕ) → ((k : ℕ) → k < n → d ∣ unsigned_abs (q k)) → d ≡ 1)
    → ((k : ℕ) → k < n → q c *ℤ m k ≡ m c *ℤ q k) → (pos 0 <ℤ int_div (m c) (q c))
    × ((k : ℕ) → k < n → int_div (m c) (q c) *ℤ q k ≡ m k)
multiple n c m q pq pm prim e =
    let d : unsigned_abs (q c) ∣ unsigned_abs (m c) =
    divides n (unsigned_abs (q c)) (unsigned_abs (m c)) (λ k. unsigned_abs (q k))
    (abs_positive (q c) pq) (abs_positive (m c) pm) prim
    (λ k l. subst (λ z. unsigned_abs (q c) ∣ z)
    (sym (unsigned_abs-mul (q c) (m k)) ∙ ap unsigned_abs (e k l)
    ∙ unsigned_abs-mul (m c) (q k))
    (dvd-mul_right (unsigned_abs (q c)) (unsigned_abs (m k)))) in
    let exact : q c *ℤ int_div (m c) (q c) ≡ m c = quotient_exact (m c) (q c) pq d in (
      pos_of-mul (q c) (int_div (m c) (q c)) pq (subst (λ z. pos 0 <ℤ z) (sym exact) pm),
      λ k l. cancel (q c) (int_div (m c) (q c) *ℤ q k) (m k) pq
          (ring (V (q c) ⊗ (V (int_div (m c) (q c)) ⊗ V (q k)))
          ((V (q c) ⊗ V (int_div (m c) (q c))) ⊗ V (q k)) (omega arith) ∙ ap (λ z. z *ℤ q k) exact
          ∙ sym (e k l)),
    )

module _ (p : LinearProgram) (b b' : Basis) (T T' : ℕ → ℕ → ℤ) (l e : ℕ) (P : ℕ → ℤ)
    (sound : IsSound p b) (sound' : IsSound p b') (t : IsTableau p b T) (t' : IsTableau p b' T')
    (h : HasPivot p b T l e P) (next : (k : ℕ) → b' k ≡ exchanged b l e k)
    (clean : (c k : ℕ) → scale_at p < k → T c k ≡ pos 0)
    (clean' : (c k : ℕ) → scale_at p < k → T' c k ≡ pos 0) where
  turn : IsTurn p b T l e P
  turn = turn_of p b T l e P t h

  apart : e ≢ l
  apart q = let y : true ≡ false = sym turn.was ∙ ap b (sym q) ∙ turn.outside in cc

  enters : Has b' e
  enters = next e ∙ exchanged-in b l e apart

  leaves : b' l ≡ false
  leaves = next l ∙ exchanged-out b l e

  stays : (k : ℕ) → k ≢ l → k ≢ e → b' k ≡ b k
  stays k n m = next k ∙ exchanged-other b l e k n m

  not_left : (k : ℕ) → Has b' k → k ≢ l
  not_left k hk q = let y : true ≡ false = sym hk ∙ ap b' q ∙ leaves in cc

  was_in : (k : ℕ) → Has b' k → k ≢ e → Has b k
  was_in k hk n = sym (stays k (not_left k hk) n) ∙ hk

  pivot_past : (k : ℕ) → scale_at p < k → P k ≡ pos 0
  pivot_past k i =
      elim turn.same [
        | inl s ↦ sym (s k) ∙ clean l k i
        | inr s
            ↦ flipped (P k) (sym (s k) ∙ clean l k i)
      ]
    where
      flipped : (z : ℤ) → neg_ℤ z ≡ pos 0 → z ≡ pos 0
      flipped z q = omega (arith, ints, q)

  pivot_row : IsRowOf p b' e P
  pivot_row =
      record {
        combination = turn.combination;
        own = turn.positive;
        others =
            λ k hk n. turn.clear k (was_in k hk n) (not_left k hk);
        primitive = turn.primitive;
      }

  row : (k : ℕ) → T' e k ≡ P k
  row k = elim (leb_tells k (scale_at p)) [
    | inl (_, i) ↦ row_unique p b' e (T' e) P sound'.independent (t' e enters) pivot_row k i
    | inr (_, i) ↦ clean' e k (omega arith) ∙ sym (pivot_past k (omega arith))
  ]

  module _ (c : ℕ) (hc : Has b c) (cl : c ≢ l) where
    abbrev m : ℕ → ℤ
    m k = P e *ℤ T c k -ℤ T c e *ℤ P k

    ce : c ≢ e
    ce q = let y : true ≡ false = sym hc ∙ ap b q ∙ turn.outside in cc

    still : Has b' c
    still = stays c cl ce ∙ hc

    m_combines : IsCombination p m
    m_combines =
        mixed p (pos 1) (P e) (T c e) P (T c) m (omega (arith, ints))
        (one_mix (P e) (T c e) (T c) P) turn.combination (t c hc).combination

    m_zero : (k : ℕ) → Has b' k → k ≢ c → m k ≡ pos 0
    m_zero k hk n = elim (eqb_tells k e) [
      | inl (_, q) ↦ ap m q ∙ swap (P e) (T c e)
      | inr (_, q)
          ↦ nothing (P e) (T c e) (T c k) (P k) ((t c hc).others k (was_in k hk q) n)
          (turn.clear k (was_in k hk q) (not_left k hk))
    ]

    m_own : m c ≡ P e *ℤ T c c
    m_own = ap (λ z. P e *ℤ T c c -ℤ T c e *ℤ z) (turn.clear c hc cl)
        ∙ ring (V (P e) ⊗ V (T c c) ⊖ V (T c e) ⊗ V (pos 0)) (V (P e) ⊗ V (T c c)) (omega arith)

    m_positive : pos 0 <ℤ m c
    m_positive =
        subst (λ z. pos 0 <ℤ z) (sym m_own) (mul_pos (P e) (T c c) turn.positive (t c hc).own)

    abbrev gap : ℕ → ℤ
    gap k = T' c c *ℤ m k -ℤ m c *ℤ T' c k

    gap_zero : (k : ℕ) → Has b' k → gap k ≡ pos 0
    gap_zero k hk = elim (eqb_tells k c) [
      | inl (_, q) ↦ ap gap q ∙ swap (T' c c) (m c)
      | inr (_, q)
          ↦ nothing (T' c c) (m c) (m k) (T' c k) (m_zero k hk q) ((t' c still).others k hk q)
    ]

    level : (k : ℕ) → k ≤ scale_at p → T' c c *ℤ m k ≡ m c *ℤ T' c k
    level k i =
        let z : gap k ≡ pos 0 =
        sound'.independent gap
        (mixed p (pos 1) (T' c c) (m c) (T' c) m gap (omega (arith, ints))
        (one_mix (T' c c) (m c) m (T' c)) (t' c still).combination m_combines) gap_zero k i in
        omega (arith, ints, z)

    combined_row : IsCombined P (T c) (T' c) e
    combined_row =
        let (pf, at) =
        multiple (suc (scale_at p)) c m (T' c) (t' c still).own m_positive
        (t' c still).primitive (λ k i. level k (omega arith)) in
        record {
          factor = int_div (m c) (T' c c);
          positive = pf;
          at = λ k. elim (leb_tells k (scale_at p)) [
            | inl (_, i) ↦ at k (omega arith)
            | inr (_, i)
                ↦ past (int_div (m c) (T' c c)) (T' c k) (m k) (clean' c k (omega arith))
                (nothing (P e) (T c e) (T c k) (P k) (clean c k (omega arith))
                (pivot_past k (omega arith)))
          ];
        }
      where
        past : (f x y : ℤ) → x ≡ pos 0 → y ≡ pos 0 → f *ℤ x ≡ y
        past f x y q r = ap (λ z. f *ℤ z) q ∙ ring (V f ⊗ V (pos 0)) (V (pos 0)) (omega arith)
            ∙ sym r

  pub pivoted : IsPivoted b b' T T' l e P
  pivoted =
      record {
        was = turn.was;
        free = turn.outside;
        enters = enters;
        leaves = leaves;
        stays =
            stays;
        positive = turn.positive;
        row = row;
        rows = combined_row;
      }

  pub turns : IsTurn p b T l e P
  turns = turn
