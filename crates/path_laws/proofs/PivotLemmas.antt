-- What a pivot is, of either kind.
use Rattle.std.proofs.Common.{◌≡◌, ◌≢◌, ℕ, suc, ◌<◌, ◌⊎◌, inl, inr, true, false, arith, refl, ap}
use Rattle.std.proofs.Common.{sym, subst}
use Rattle.std.specs.Prelude.{ℤ, pos, neg_ℤ, ◌<ℤ◌, unsigned_abs}
use Rattle.std.specs.Int.{◌∣◌}
use Rattle.std.proofs.lemmas.Int.{ints}
use Rattle.std.proofs.lemmas.Bool.Decides.{eqb_tells}
use Rattle.flow_rules.specs.LinearProgram.{LinearProgram}
use Rattle.flow_rules.specs.Columns.{Basis, Has, x_at, s_at, columns, scale_at, exchanged}
use Rattle.flow_rules.specs.Equations.{IsCombination}
use Rattle.flow_rules.specs.Tableau.{IsTableau, IsRowOf, IsPrimitive}
use Rattle.flow_rules.specs.Pivots.{HasPivot, first_kind, second_kind}
use Rattle.path_laws.proofs.BoolLemmas.{bool_cases}
use Rattle.path_laws.proofs.CombinationLemmas.{negated}

pub exchanged-out : (b : Basis) (l e : ℕ) → exchanged b l e l ≡ false
exchanged-out b l e = elim (eqb_tells l l) [ inl (g, _) ↦ rw g | inr (_, q) ↦ absurd (q refl) ]

pub exchanged-in : (b : Basis) (l e : ℕ) → e ≢ l → exchanged b l e e ≡ true
exchanged-in b l e n =
    elim (eqb_tells e l) [
      | inl (_, q) ↦ absurd (n q)
      | inr (g, _)
          ↦ elim (eqb_tells e e) [ inl (h, _) ↦ rw (g, h) | inr (_, q) ↦ absurd (q refl) ]
    ]

pub exchanged-other : (b : Basis) (l e k : ℕ) → k ≢ l → k ≢ e → exchanged b l e k ≡ b k
exchanged-other b l e k n m =
    elim (eqb_tells k l) [
      | inl (_, q) ↦ absurd (n q)
      | inr (g, _)
          ↦ elim (eqb_tells k e) [ inl (_, q) ↦ absurd (m q) | inr (h, _) ↦ rw (g, h) ]
    ]

-- what a pivot is: the row of a basis column, as it is or negated, with an entry above 0 at a
-- column outside the basis
pub record IsTurn (p : LinearProgram) (b : Basis) (T : ℕ → ℕ → ℤ) (l e : ℕ) (P : ℕ → ℤ) : Type
    0 where
  pub was : Has b l
  pub outside : b e ≡ false
  pub column : e < columns p
  pub leaving : l < columns p
  pub positive : pos 0 <ℤ P e
  pub combination : IsCombination p P
  pub own : (pos 0 <ℤ P l) ⊎ (P l <ℤ pos 0)
  pub clear : (k : ℕ) → Has b k → k ≢ l → P k ≡ pos 0
  pub primitive : IsPrimitive (suc (scale_at p)) P
  pub same : ((k : ℕ) → T l k ≡ P k) ⊎ ((k : ℕ) → T l k ≡ neg_ℤ (P k))

outside_of : (p : LinearProgram) (b : Basis) (l e : ℕ) (r : ℕ → ℤ) → IsRowOf p b l r → e ≢ l
    → (r e ≡ pos 0 → ⊥) → b e ≡ false
outside_of p b l e r row n h =
    elim (bool_cases (b e)) [ inl t ↦ absurd (h (row.others e t n)) | inr f ↦ f ]

abs_same : (z : ℤ) → unsigned_abs (neg_ℤ z) ≡ unsigned_abs z
abs_same z = omega (arith, ints)

twice : (z : ℤ) → z ≡ neg_ℤ (neg_ℤ z)
twice z = omega (arith, ints)

pub turn_of : (p : LinearProgram) (b : Basis) (T : ℕ → ℕ → ℤ) (l e : ℕ) (P : ℕ → ℤ)
    → IsTableau p b T → HasPivot p b T l e P → IsTurn p b T l e P
turn_of p b T l e P t (first_kind u f) =
    let row = t (s_at p u) f.basic in
    let n : x_at p u ≢ s_at p u = λ q. apart p u q f.is_unit in
    record {
      was = f.basic;
      outside = outside_of p b (s_at p u) (x_at p u) (T (s_at p u)) row n (not_zero f.positive);
      column = small p u f.is_unit;
      leaving = small_s p u f.is_unit;
      positive = f.positive;
      combination = row.combination;
      own = inl row.own;
      clear = row.others;
      primitive = row.primitive;
      same = inl (λ k. refl);
    }
  where
    apart : (p : LinearProgram) (u : ℕ) → x_at p u ≡ s_at p u → u < p.units → ⊥
    apart p u q h = omega arith

    not_zero : {z : ℤ} → pos 0 <ℤ z → z ≡ pos 0 → ⊥
    not_zero h e = omega (arith, ints)

    small : (p : LinearProgram) (u : ℕ) → u < p.units → x_at p u < columns p
    small p u h = omega arith

    small_s : (p : LinearProgram) (u : ℕ) → u < p.units → s_at p u < columns p
    small_s p u h = omega arith
turn_of p b T l e P t (second_kind l' e' f g) =
    let row = t l' f.basic in
    record {
      was = f.basic;
      outside =
          outside_of p b l' e' (T l') row
          (λ q. apart (T l' l') (T l' e') (ap (T l') (sym q)) row.own g.negative)
          (not_zero g.negative);
      column = g.column;
      leaving = f.column;
      positive = flip g.negative;
      combination = negated p (T l') (λ k. neg_ℤ (T l' k)) (λ k. refl) row.combination;
      own = inr (flop row.own);
      clear = λ k h n. let z = row.others k h n in omega (arith, ints, z);
      primitive = λ d h. row.primitive d (λ k i. subst (λ z. d ∣ z) (abs_same (T l' k)) (h k i));
      same = inr (λ k. twice (T l' k));
    }
  where
    apart : (x y : ℤ) → x ≡ y → pos 0 <ℤ x → y <ℤ pos 0 → ⊥
    apart x y e h k = omega (arith, ints)

    not_zero : {z : ℤ} → z <ℤ pos 0 → z ≡ pos 0 → ⊥
    not_zero h e = omega (arith, ints)

    flip : {z : ℤ} → z <ℤ pos 0 → pos 0 <ℤ neg_ℤ z
    flip h = omega (arith, ints)

    flop : {z : ℤ} → pos 0 <ℤ z → neg_ℤ z <ℤ pos 0
    flop h = omega (arith, ints)
