-- The values of a basis and the common denominators: there is one of each, and the last denominator
-- takes each value.
use Rattle.std.proofs.Common.{◌≡◌, ℕ, zero, suc, ◌<◌, ◌≤◌, inl, inr, true, false, ℤ, pos, negsuc}
use Rattle.std.proofs.Common.{◌≤ℤ◌, ◌<ℤ◌, sym, ap, ◌∙◌, subst, arith}
use Rattle.std.specs.Prelude.{unsigned_abs}
use Rattle.std.specs.Int.{◌∣◌}
use Rattle.std.proofs.lemmas.Int.{ints}
use Rattle.std.proofs.lemmas.Nat.Gcd.{dvd_trans, dvd_refl, dvd_antisymm}
use Rattle.std.proofs.lemmas.Bool.Decides.{eqb_tells}
use Rattle.flow_program.proofs.integer_laws.Cited.{one_divides}
use Rattle.flow_program.specs.integer_laws.Lowest.{IsLowest}
use Rattle.flow_program.proofs.exact_numbers.Cited.{lowest_same}
use Rattle.flow_program.specs.flow_rules.LinearProgram.{LinearProgram}
use Rattle.flow_program.specs.flow_rules.Columns.{right_at}
use Rattle.flow_program.specs.flow_rules.ReadFlows.{IsLcm}
use Rattle.dual_simplex.specs.Rows.{Rows, table, basis}
use Rattle.dual_simplex.specs.Choice.{IsOfSize, columns_of}
use Rattle.dual_simplex.specs.Reading.{Reading}
use Rattle.dual_simplex.proofs.LcmLemmas.{lcm_same}

pub right_same : (p : LinearProgram) (r : Rows) → IsOfSize p r → right_at p ≡ columns_of r
right_same p r s = omega (arith, s.units, s.rows)

same_abs : (x y : ℤ) → pos 0 ≤ℤ x → pos 0 ≤ℤ y → unsigned_abs x ≡ unsigned_abs y → x ≡ y
same_abs (pos m) (pos n) h k e = ap pos e
same_abs (negsuc m) y h k e = absurd h.le
same_abs (pos m) (negsuc n) h k e = absurd k.le

module _ {p : LinearProgram} {r : Rows} (v : Reading p r) where
  within : {i : ℕ} → i < r.units → i < p.units
  within h = omega (arith, v.size.units)

  -- the lowest terms of a value
  pub value_same : (i : ℕ) (right own : ℤ) → i < r.units → basis r i ≡ true → pos 0 <ℤ table r i i
      → IsLowest (table r i (columns_of r)) (table r i i) right own → (right ≡ v.right i)
      × (own ≡ v.own i)
  value_same i right own h b positive low =
      let known : IsLowest (table r i (columns_of r)) (table r i i) (v.right i) (v.own i) =
      subst (λ (k : ℕ). IsLowest (table r i k) (table r i i) (v.right i) (v.own i))
      (right_same p r v.size) (v.values.basic i (within h) b) in
      lowest_same positive low known

  -- the denominator after a unit of the basis
  pub next_same : (i : ℕ) (den own next : ℤ) → i < r.units → den ≡ v.den i → own ≡ v.own i
      → pos 0 <ℤ next → IsLcm (unsigned_abs den) (unsigned_abs own) (unsigned_abs next)
      → next ≡ v.den (suc i)
  next_same i den own next h e f positive lcm =
      let known = v.values.next i (within h) in
      let moved : IsLcm (unsigned_abs (v.den i)) (unsigned_abs (v.own i)) (unsigned_abs next) =
      subst (λ (x : ℤ). IsLcm (unsigned_abs x) (unsigned_abs (v.own i)) (unsigned_abs next)) e
      (subst (λ (x : ℤ). IsLcm (unsigned_abs den) (unsigned_abs x) (unsigned_abs next)) f
      lcm) in
      same_abs next (v.den (suc i)) (omega (arith, ints)) (v.values.not_negative i (within h))
      (lcm_same (unsigned_abs (v.den i)) (unsigned_abs (v.own i)) (unsigned_abs next)
      (unsigned_abs (v.den (suc i))) moved known)

  pub next_past : (i : ℕ) (den own : ℤ) → i < r.units → den ≡ v.den i → own ≡ v.own i
      → IsLcm (unsigned_abs den) (unsigned_abs own) (unsigned_abs (v.den (suc i)))
  next_past i den own h e f =
      subst (λ (x : ℤ). IsLcm (unsigned_abs x) (unsigned_abs own) (unsigned_abs (v.den (suc i))))
      (sym e)
      (subst
      (λ (x : ℤ). IsLcm (unsigned_abs (v.den i)) (unsigned_abs x)
      (unsigned_abs (v.den (suc i)))) (sym f) (v.values.next i (within h)))

  -- and after one that is not in it
  pub next_outside : (i : ℕ) (den : ℤ) → i < r.units → basis r i ≡ false → den ≡ v.den i
      → pos 0 <ℤ den → den ≡ v.den (suc i)
  next_outside i den h b e positive =
      let known = v.values.next i (within h) in
      let one : unsigned_abs (v.own i) ∣ unsigned_abs (v.den i) =
      subst (λ (x : ℤ). unsigned_abs x ∣ unsigned_abs (v.den i))
      (sym (v.values.outside-own i (within h) b)) (one_divides (unsigned_abs (v.den i))) in
      let same : unsigned_abs (v.den i) ≡ unsigned_abs (v.den (suc i)) =
      dvd_antisymm known.left
      (known.least (unsigned_abs (v.den i)) (dvd_refl (unsigned_abs (v.den i))) one) in
      same_abs den (v.den (suc i)) (omega (arith, ints)) (v.values.not_negative i (within h))
      (ap unsigned_abs e ∙ same)

  chain : (k i : ℕ) → k ≤ r.units → i ≤ k → unsigned_abs (v.den i) ∣ unsigned_abs (v.den k)
  chain zero i h l = let e : i ≡ 0 = omega arith in
      subst (λ j. unsigned_abs (v.den j) ∣ unsigned_abs (v.den 0)) (sym e)
      (dvd_refl (unsigned_abs (v.den 0)))
  chain (suc k) i h l =
      elim (eqb_tells i (suc k)) [
        | inl (_, e)
            ↦ subst (λ j. unsigned_abs (v.den j) ∣ unsigned_abs (v.den (suc k))) (sym e)
            (dvd_refl (unsigned_abs (v.den (suc k))))
        | inr (_, n)
            ↦ dvd_trans (unsigned_abs (v.den i)) (chain k i (omega arith) (omega arith))
            ((v.values.next k (within {i = k} (omega arith))).left)
      ]

  -- the last denominator takes the value of each unit
  pub own_divides : (i : ℕ) → i < r.units → unsigned_abs (v.own i) ∣ unsigned_abs (v.den r.units)
  own_divides i h =
      dvd_trans (unsigned_abs (v.own i)) ((v.values.next i (within h)).right)
      (chain r.units (suc i) (omega arith) (omega arith))
