-- An exchange of the rows is a step of the path.
use Rattle.std.proofs.Common.{◌≡◌, ◌≢◌, ℕ, suc, ◌+◌, ◌-◌, ◌*◌, ◌<◌, ◌≤◌, inl, inr, true, false}
use Rattle.std.proofs.Common.{arith, refl, ap, sym, ◌∙◌, subst, List, length, get_or, drop, None}
use Rattle.std.proofs.Common.{Some}
use Rattle.std.specs.Prelude.{ℤ, pos, ◌-ℤ◌, ◌*ℤ◌, ◌<ℤ◌}
use Rattle.std.proofs.lemmas.Int.{ints}
use Rattle.std.proofs.lemmas.Bool.Decides.{eqb_tells}
use Rattle.std.proofs.lemmas.List.{length-take-le}
use Rattle.std.proofs.Math.ListN.{length-drop}
use Rattle.std.proofs.Math.Nat.{mul-le-mul}
use Rattle.flow_program.proofs.integer_laws.Cited.{mul_pos, pos_of-mul, V, ◌⊖◌, ◌⊗◌, ring}
use Rattle.flow_program.specs.integer_laws.declared.which.Which.{Which}
use Rattle.flow_program.specs.integer_laws.Combined as rows
use Rattle.flow_program.specs.integer_laws.Lowest.{IsLowest}
use Rattle.flow_program.proofs.exact_numbers.Cited.{lowest_same}
use Rattle.flow_program.specs.flow_rules.LinearProgram.{LinearProgram}
use Rattle.flow_program.specs.flow_rules.Columns.{Has, exchanged, scale_at}
use Rattle.flow_program.specs.flow_rules.Tableau.{IsTableau, IsPrimitive}
use Rattle.flow_program.specs.flow_rules.Pivots.{HasPivot, IsCombined}
use Rattle.flow_program.specs.flow_rules.Path.{Fits, IsPastEntry}
use Rattle.path_laws.specs.Phases.{IsExchange}
use Rattle.path_laws.proofs.Cited.{rows_are_combined, rows_are_primitive}
use Rattle.dual_simplex.specs.Rows.{Rows, width, row_of, table, basis, AreRows}
use Rattle.dual_simplex.specs.Exchange.{IsStepped, IsPastStep, IsExchanged}
use Rattle.dual_simplex.specs.Choice.{IsOfSize}

pub row_long : (r : Rows) → AreRows r → (c : ℕ) → c < width r → length (row_of r c) ≡ width r
row_long r a c h =
    let m : suc c * width r ≤ width r * width r = mul-le-mul h (omega arith) in
    let n : c * width r + width r ≤ length r.entries =
    room (width r) c (length r.entries) m a.room in
    let d : length (drop (c * width r) r.entries) ≡ length r.entries - c * width r =
    length-drop (c * width r) r.entries in
    length-take-le (c * width r + width r - c * width r) (drop (c * width r) r.entries)
    (omega (arith, n, d)) ∙ both (c * width r) (width r)
  where
    room : (w c n : ℕ) → suc c * w ≤ w * w → suc w * w ≤ n → c * w + w ≤ n
    room w c n h k = omega (arith, h, k)

    both : (a b : ℕ) → a + b - a ≡ b
    both a b = omega arith

-- the pivot row as a list and as a function
module _ (p : LinearProgram) (old new : Rows) (l e : ℕ) (list : List ℤ) (pivot : ℕ → ℤ)
    (same : (k : ℕ) → get_or list k (pos 0) ≡ pivot k) (positive : pos 0 <ℤ pivot e) where
  list_positive : pos 0 <ℤ get_or list e (pos 0)
  list_positive = subst (λ z. pos 0 <ℤ z) (sym (same e)) positive

  step_fits : (row next : List ℤ) (last : ℕ) → length row ≡ suc last → IsStepped row list e next
      → Fits last pivot (λ k. get_or row k (pos 0)) e
  step_fits row next last size (inl (z, _)) ne m n low k h = absurd (ne z)
  step_fits row next last size (inr (_, c)) ne m n low k h =
      let low' : IsLowest (get_or row e (pos 0)) (get_or list e (pos 0)) n m =
      subst (λ z. IsLowest (get_or row e (pos 0)) z n m) (sym (same e)) low in
      let is = lowest_same list_positive c.lowest low' in
      subst (λ a. rows.past_of a (get_or row k (pos 0)) n (pivot k) ≡ None) is.1
      (subst (λ b. rows.past_of c.p (get_or row k (pos 0)) b (pivot k) ≡ None) is.0
      (subst (λ z. rows.past_of c.p (get_or row k (pos 0)) c.q z ≡ None) (same k)
      (c.in_range k (omega arith))))

  step_combined : (row next : List ℤ) → length row ≡ length list → IsStepped row list e next
      → IsCombined pivot (λ k. get_or row k (pos 0)) (λ k. get_or next k (pos 0)) e
  step_combined row next size (inl (z, s)) = record {
    factor = pivot e;
    positive = positive;
    at = λ k. ap (λ xs. pivot e *ℤ get_or xs k (pos 0)) s
        ∙ stays (pivot e) (get_or row k (pos 0)) (get_or row e (pos 0)) (pivot k) z;
  }
    where
      stays : (f a b q : ℤ) → b ≡ pos 0 → f *ℤ a ≡ f *ℤ a -ℤ b *ℤ q
      stays f a b q h = ring (V f ⊗ V a) (V f ⊗ V a ⊖ V (pos 0) ⊗ V q) (omega arith)
          ∙ ap (λ x. f *ℤ a -ℤ x *ℤ q) (sym h)
  step_combined row next size (inr (_, c)) =
      let m = rows_are_combined row list next e size list_positive c in
      record {
        factor = m.factor;
        positive = m.positive;
        at = λ k. m.at k
            ∙ (λ i. same e i *ℤ get_or row k (pos 0) -ℤ get_or row e (pos 0) *ℤ same k i);
      }

  step_primitive : (row next : List ℤ) (c : ℕ) → length row ≡ length list
      → length next ≡ length row
      → c < length row → pivot c ≡ pos 0 → pos 0 <ℤ get_or row c (pos 0)
      → IsPrimitive (length row) (λ k. get_or row k (pos 0)) → IsStepped row list e next
      → IsPrimitive (length row) (λ k. get_or next k (pos 0))
  step_primitive row next c size long within zero own prim (inl (z, s)) =
      subst (λ xs. IsPrimitive (length row) (λ k. get_or xs k (pos 0))) (sym s) prim
  step_primitive row next c size long within zero own prim (inr (ne, m)) =
      let i = step_combined row next size (inr (ne, m)) in
      let at : i.factor *ℤ get_or next c (pos 0) ≡ pivot e *ℤ get_or row c (pos 0) =
      own_kept i.factor (get_or next c (pos 0)) (pivot e) (get_or row c (pos 0))
      (get_or row e (pos 0)) (pivot c) (i.at c) zero in
      let above : pos 0 <ℤ get_or next c (pos 0) =
      pos_of-mul i.factor (get_or next c (pos 0)) i.positive
      (subst (λ z. pos 0 <ℤ z) (sym at)
      (mul_pos (pivot e) (get_or row c (pos 0)) positive own)) in
      subst (λ n. IsPrimitive n (λ k. get_or next k (pos 0))) long
      (rows_are_primitive row list next e m c (omega arith)
      (λ q. not_zero (get_or next c (pos 0)) above q))
    where
      own_kept : (f n a t r q : ℤ) → f *ℤ n ≡ a *ℤ t -ℤ r *ℤ q → q ≡ pos 0 → f *ℤ n ≡ a *ℤ t
      own_kept f n a t r q e z = e ∙ ap (λ x. a *ℤ t -ℤ r *ℤ x) z
          ∙ ring (V a ⊗ V t ⊖ V r ⊗ V (pos 0)) (V a ⊗ V t) (omega arith)

      not_zero : (z : ℤ) → pos 0 <ℤ z → z ≡ pos 0 → ⊥
      not_zero z h q = absurd (omega (arith, ints))

  -- l and e are exchanged by this pivot
  pub exchange_is : IsOfSize p old → AreRows old → AreRows new → width new ≡ width old
      → IsTableau p (basis old) (table old) → ((k : ℕ) → Has (basis old) k → k ≤ scale_at p)
      → HasPivot p (basis old) (table old) l e pivot → Has (basis old) l → basis old e ≡ false
      → length list ≡ width old → ((c : ℕ) → Has (basis old) c → c ≢ l → pivot c ≡ pos 0)
      → IsExchanged old new l e list
      → IsExchange p (basis old) (basis new) (table old) (table new) l e pivot
  exchange_is size a b wide t of_columns has was free long zero x = record {
    has_pivot = has;
    fits =
        λ c h ne. step_fits (row_of old c) (row_of new c) (scale_at p)
        (row_long old a c (within c h) ∙ sym last) (x.rows c (within c h) h ne);
    next = x.flags;
    pivoted = record {
      was = was;
      free = free;
      enters = x.flags e ∙ entered;
      leaves = x.flags l ∙ left;
      stays = λ k nl ne. x.flags k ∙ stayed k nl ne;
      positive = positive;
      row = λ k. ap (λ r. get_or r k (pos 0)) x.pivot_row ∙ same k;
      rows =
          λ c h ne. step_combined (row_of old c) (row_of new c)
          (row_long old a c (within c h) ∙ sym long) (x.rows c (within c h) h ne);
    };
    primitive = λ c h ne.
        let o = row_long old a c (within c h) in
        let n = row_long new b c (subst (λ w. c < w) (sym wide) (within c h)) in
        subst (λ n. IsPrimitive n (table new c)) (o ∙ sym last)
        (step_primitive (row_of old c) (row_of new c) c (o ∙ sym long) (n ∙ wide ∙ sym o)
        (subst (λ n. c < n) (sym o) (within c h)) (zero c h ne) (t c h).own
        (subst (λ n. IsPrimitive n (table old c)) (last ∙ sym o) (t c h).primitive)
        (x.rows c (within c h) h ne));
  }
    where
      last : suc (scale_at p) ≡ width old
      last = let u = size.units in let r = size.rows in omega (arith, u, r)

      within : (c : ℕ) → Has (basis old) c → c < width old
      within c h = let m = of_columns c h in omega (arith, m, last)

      apart : e ≢ l
      apart q = let both : true ≡ false = sym was ∙ ap (basis old) (sym q) ∙ free in cc

      entered : exchanged (basis old) l e e ≡ true
      entered =
          elim (eqb_tells e l) [
            | inl (_, q) ↦ absurd (apart q)
            | inr (f, _)
                ↦ elim (eqb_tells e e)
                [ inl (g, _) ↦ rw (f, g) refl | inr (_, n) ↦ absurd (n refl) ]
          ]

      left : exchanged (basis old) l e l ≡ false
      left = elim (eqb_tells l l) [ inl (f, _) ↦ rw f refl | inr (_, n) ↦ absurd (n refl) ]

      stayed : (k : ℕ) → k ≢ l → k ≢ e → exchanged (basis old) l e k ≡ basis old k
      stayed k nl ne =
          elim (eqb_tells k l) [
            | inl (_, q) ↦ absurd (nl q)
            | inr (f, _)
                ↦ elim (eqb_tells k e)
                [ inl (_, q) ↦ absurd (ne q) | inr (g, _) ↦ rw (f, g) refl ]
          ]

  -- a row that makes no step overflows
  pub past_is : (row : List ℤ) (last j : ℕ) (which : Which) → length row ≡ suc last
      → IsPastStep row list e j which
      → IsPastEntry last pivot (λ k. get_or row k (pos 0)) e j which
  past_is row last j which size (ne, h) = record {
    counts = ne;
    place = let w = h.within in omega (arith, w, size);
    left = h.p;
    right = h.q;
    lowest = subst (λ z. IsLowest (get_or row e (pos 0)) z h.q h.p) (same e) h.lowest;
    past =
        subst (λ z. rows.past_of h.p (get_or row j (pos 0)) h.q z ≡ Some which) (same j) h.past;
    before =
        λ i b. subst (λ z. rows.past_of h.p (get_or row i (pos 0)) h.q z ≡ None) (same i)
        (h.before i b);
  }
