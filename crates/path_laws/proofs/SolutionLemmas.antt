-- What solves the rows after a pivot solves the rows before it.
use Rattle.std.proofs.Common.{◌≡◌, ◌≢◌, ℕ, suc, ◌⊎◌, inl, inr, true, false, arith, ap, sym, ◌∙◌}
use Rattle.std.specs.Prelude.{ℤ, pos, ◌-ℤ◌, ◌*ℤ◌, neg_ℤ}
use Rattle.std.proofs.lemmas.Int.{ints}
use Rattle.std.proofs.lemmas.Bool.Decides.{eqb_tells}
use Rattle.flow_rules.proofs.integer_laws.Cited.{total_below-same, zero_of-mul, V, ◌⊖◌, ◌⊗◌, Neg}
use Rattle.flow_rules.proofs.integer_laws.Cited.{ring}
use Rattle.flow_rules.proofs.integer_laws.Cited.{read_equal}
use Rattle.flow_rules.specs.Columns.{Basis, Has, scale_at}
use Rattle.flow_rules.specs.Equations.{dot}
use Rattle.flow_rules.specs.LinearProgram.{LinearProgram}
use Rattle.flow_rules.specs.Pivots.{IsPivoted}
use Rattle.flow_rules.specs.Tableau.{IsComplete}
use Rattle.path_laws.proofs.CombinationLemmas.{Mixes, mixes_total, mixes_times}

dot_mixes : (p : LinearProgram) {f a b : ℤ} (new row pivot v : ℕ → ℤ)
    → ((k : ℕ) → Mixes f a b (new k) (row k) (pivot k))
    → Mixes f a b (dot p new v) (dot p row v) (dot p pivot v)
dot_mixes p new row pivot v m =
    mixes_total (suc (scale_at p)) (λ k. new k *ℤ v k) (λ k. row k *ℤ v k) (λ k. pivot k *ℤ v k)
    (λ k. mixes_times (v k) (m k))

-- what solves the new rows solves the old ones
pub pivot_complete : (p : LinearProgram) (b b' : Basis) (T T' : ℕ → ℕ → ℤ) (l e : ℕ) (P : ℕ → ℤ)
    → IsPivoted b b' T T' l e P → ((k : ℕ) → T l k ≡ P k) ⊎ ((k : ℕ) → T l k ≡ neg_ℤ (P k))
    → IsComplete p b T → IsComplete p b' T'
pivot_complete p b b' T T' l e P v pl comp w d r z = comp w d r old
  where
    pivot_zero : dot p P w ≡ pos 0
    pivot_zero =
        sym (total_below-same (suc (scale_at p)) (λ k. T' e k *ℤ w k) (λ k. P k *ℤ w k)
        (λ k _. ap (λ x. x *ℤ w k) (v.row k))) ∙ z e v.enters

    leave_zero : dot p (T l) w ≡ pos 0
    leave_zero = elim pl [
      | inl s ↦ total_below-same (suc (scale_at p)) (λ k. T l k *ℤ w k) (λ k. P k *ℤ w k)
          (λ k _. ap (λ x. x *ℤ w k) (s k)) ∙ pivot_zero
      | inr s ↦
          let x =
          mixes_total (suc (scale_at p)) {f = pos 1} {a = pos 0} {b = pos 1} (λ k. T l k *ℤ w k)
          (λ k. P k *ℤ w k) (λ k. P k *ℤ w k)
          (λ k. mixes_times {f = pos 1} {a = pos 0} {b = pos 1} {h = T l k} {r = P k} {q = P k}
          (w k) (record { is = minus (P k) (T l k) (s k) })) in
          let y = x.is ∙ ap (λ n. pos 0 *ℤ n -ℤ pos 1 *ℤ n) pivot_zero in
          omega (arith, ints, y)
    ]
      where
        minus : (x y : ℤ) → y ≡ neg_ℤ x → pos 1 *ℤ y ≡ pos 0 *ℤ x -ℤ pos 1 *ℤ x
        minus x y h = ap (λ z. pos 1 *ℤ z) h
            ∙ ring (V (pos 1) ⊗ Neg (V x)) (V (pos 0) ⊗ V x ⊖ V (pos 1) ⊗ V x) (omega arith)

    old : (c : ℕ) → Has b c → dot p (T c) w ≡ pos 0
    old c h = elim (eqb_tells c l) [
      | inl (_, cl) ↦ ap (λ x. dot p (T x) w) cl ∙ leave_zero
      | inr (_, cl) ↦
          let m = v.rows c h cl in
          let ce : c ≢ e = λ x. let y : true ≡ false = sym h ∙ ap b x ∙ v.free in cc in
          let x =
          dot_mixes p {f = m.factor} {a = P e} {b = T c e} (T' c) (T c) P w
          (λ k. record { is = m.at k }) in
          let n : dot p (T' c) w ≡ pos 0 = z c (v.stays c cl ce ∙ h) in
          zero_of-mul (P e) (dot p (T c) w) v.positive
          (drop (m.factor) (dot p (T' c) w) (P e) (dot p (T c) w) (T c e) (dot p P w) x.is n
          pivot_zero)
    ]
      where
        drop : (f h a r b q : ℤ) → f *ℤ h ≡ a *ℤ r -ℤ b *ℤ q → h ≡ pos 0 → q ≡ pos 0
            → a *ℤ r ≡ pos 0
        drop f h a r b q e x y =
            let e' : f *ℤ pos 0 ≡ a *ℤ r -ℤ b *ℤ pos 0 =
            ap (λ n. f *ℤ n) (sym x) ∙ e ∙ ap (λ n. a *ℤ r -ℤ b *ℤ n) y in
            let i = read_equal (V f ⊗ V (pos 0)) (V a ⊗ V r ⊖ V b ⊗ V (pos 0)) e' in
            ring (V a ⊗ V r) (V (pos 0)) (omega (arith, i))
