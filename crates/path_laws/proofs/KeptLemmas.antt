-- A pivot keeps the tableau: what each row is, and that the rows solve the equations.
use Rattle.std.proofs.Common.{◌≡◌, ◌≢◌, ℕ, suc, inl, inr, true, false, arith, ap, sym, ◌∙◌, subst}
use Rattle.std.specs.Prelude.{ℤ, pos, ◌-ℤ◌, ◌*ℤ◌, ◌<ℤ◌}
use Rattle.std.specs.Prelude.{unsigned_abs}
use Rattle.std.proofs.lemmas.Int.{ints}
use Rattle.std.proofs.lemmas.Bool.Decides.{eqb_tells}
use Rattle.std.specs.Int.{◌∣◌}
use Rattle.flow_rules.proofs.integer_laws.Cited.{mul_pos, zero_of-mul, pos_of-mul, V, ◌⊖◌, ◌⊗◌}
use Rattle.flow_rules.proofs.integer_laws.Cited.{ring}
use Rattle.flow_rules.proofs.integer_laws.Cited.{mul-zero_z}
use Rattle.flow_rules.specs.Columns.{Basis, Has, scale_at}
use Rattle.flow_rules.specs.Equations.{IsCombination}
use Rattle.flow_rules.specs.LinearProgram.{LinearProgram}
use Rattle.flow_rules.specs.Pivots.{IsCombined, IsPivoted}
use Rattle.flow_rules.specs.Tableau.{IsTableau, IsRowOf, IsPrimitive}
use Rattle.path_laws.proofs.CombinationLemmas.{combined, Mixes, mixed}

own_kept : (f n a t r q : ℤ) → f *ℤ n ≡ a *ℤ t -ℤ r *ℤ q → q ≡ pos 0 → f *ℤ n ≡ a *ℤ t
own_kept f n a t r q e z = e ∙ ap (λ x. a *ℤ t -ℤ r *ℤ x) z
    ∙ ring (V a ⊗ V t ⊖ V r ⊗ V (pos 0)) (V a ⊗ V t) (omega arith)

pub pivot_tableau : (p : LinearProgram) (b b' : Basis) (T T' : ℕ → ℕ → ℤ) (l e : ℕ) (P : ℕ → ℤ)
    → IsPivoted b b' T T' l e P → IsTableau p b T → IsCombination p P
    → ((k : ℕ) → Has b k → k ≢ l → P k ≡ pos 0) → IsPrimitive (suc (scale_at p)) P
    → ((c : ℕ) → Has b c → c ≢ l → IsPrimitive (suc (scale_at p)) (T' c)) → IsTableau p b' T'
pivot_tableau p b b' T T' l e P v t cp u prim prims c h =
    elim (eqb_tells c e) [
      | inl (_, ce) ↦ subst (λ x. IsRowOf p b' x (T' x)) (sym ce) entering
      | inr (_, ce) ↦ elim (eqb_tells c l) [
        | inl (_, cl) ↦ absurd (out c h cl)
        | inr (_, cl) ↦ staying c (sym (v.stays c cl ce) ∙ h) cl ce
      ]
    ]
  where
    out : (k : ℕ) → Has b' k → k ≡ l → ⊥
    out k h q = let y : true ≡ false = sym h ∙ ap b' q ∙ v.leaves in cc

    in_old : (k : ℕ) → Has b' k → k ≢ e → Has b k
    in_old k h n = sym (v.stays k (out k h) n) ∙ h

    row_is : (k : ℕ) → Mixes (pos 1) (pos 1) (pos 0) (T' e k) (P k) (P k)
    row_is k = record { is = same (P k) (T' e k) (v.row k) }
      where
        same : (x y : ℤ) → y ≡ x → pos 1 *ℤ y ≡ pos 1 *ℤ x -ℤ pos 0 *ℤ x
        same x y q = ap (λ z. pos 1 *ℤ z) q
            ∙ ring (V (pos 1) ⊗ V x) (V (pos 1) ⊗ V x ⊖ V (pos 0) ⊗ V x) (omega arith)

    entering : IsRowOf p b' e (T' e)
    entering = record {
      combination = mixed p (pos 1) (pos 1) (pos 0) P P (T' e) (omega (arith, ints)) row_is cp cp;
      own = subst (λ x. pos 0 <ℤ x) (sym (v.row e)) v.positive;
      others = λ k h n. v.row k ∙ u k (in_old k h n) (out k h);
      primitive = λ d h. prim d (λ k l. subst (λ z. d ∣ unsigned_abs z) (v.row k) (h k l));
    }

    staying : (c : ℕ) → Has b c → c ≢ l → c ≢ e → IsRowOf p b' c (T' c)
    staying c h cl ce = record {
      combination = combined p P (T c) (T' c) e cp (t c h).combination m;
      own =
          pos_of-mul m.factor (T' c c) m.positive
          (subst (λ x. pos 0 <ℤ x)
          (sym (own_kept m.factor (T' c c) (P e) (T c c) (T c e) (P c) (m.at c) (u c h cl)))
          (mul_pos (P e) (T c c) v.positive (t c h).own));
      others = λ k hk n. elim (eqb_tells k e) [
        | inl (_, ke)
            ↦ zero_of-mul m.factor (T' c k) m.positive
            (ap (λ x. m.factor *ℤ T' c x) ke ∙ m.at e ∙ swap (P e) (T c e))
        | inr (_, ke)
            ↦ zero_of-mul m.factor (T' c k) m.positive
            (own_kept m.factor (T' c k) (P e) (T c k) (T c e) (P k) (m.at k)
            (u k (in_old k hk ke) (out k hk))
            ∙ ap (λ x. P e *ℤ x) ((t c h).others k (in_old k hk ke) n) ∙ mul-zero_z (P e))
      ];
      primitive = prims c h cl;
    }
      where
        m : IsCombined P (T c) (T' c) e
        m = v.rows c h cl

        swap : (x y : ℤ) → x *ℤ y -ℤ y *ℤ x ≡ pos 0
        swap x y = ring (V x ⊗ V y ⊖ V y ⊗ V x) (V (pos 0)) (omega arith)
