-- Quotients, sums, and the order of mixed numbers.
use Rattle.std.proofs.Common.{◌≡◌, ℕ, ◌<◌, ◌+◌, ◌*◌, sym, ap, ◌∙◌, refl, subst, arith, pos, negsuc}
use Rattle.std.proofs.Common.{ℤ, ◌+ℤ◌, ◌*ℤ◌, ◌≤ℤ◌, ◌<ℤ◌}
use Rattle.std.specs.Prelude.{unsigned_abs}
use Rattle.std.specs.Int.{int_div_euclid, int_rem_euclid}
use Rattle.std.specs.Ordering.{int_cmp, nat_cmp}
use Rattle.std.specs.declared.cmp.Ordering.{Ordering}
use Rattle.std.specs.declared.cmp.Ordering.TheVariants.{Less, Equal, Greater}
use Rattle.std.specs.Cmp.{int_cmp_is, int_ranked, ranked}
use Rattle.std.proofs.lemmas.Int.{ints}
use Rattle.integer_laws.proofs.Cited.{V, ◌⊕◌, ◌⊗◌, ring, mul-le_right, mul-lt_right}

pub quotient_whole : (num den : ℤ) → pos 1 ≤ℤ den
    → int_div_euclid num den *ℤ den +ℤ pos (unsigned_abs (int_rem_euclid num den)) ≡ num
quotient_whole (pos a) (pos d) h = omega (arith, ints)
quotient_whole (negsuc a) (pos d) h = omega (arith, ints)
quotient_whole num (negsuc d) h = absurd h.le

pub sum_is : (base factor num den quotient whole : ℤ) (rest more left : ℕ) → pos 1 ≤ℤ den
    → pos 0 ≤ℤ factor → quotient *ℤ den +ℤ pos rest ≡ num
    → more * unsigned_abs den + left ≡ unsigned_abs factor * rest
    → whole ≡ (factor *ℤ quotient +ℤ pos more) +ℤ base
    → whole *ℤ pos (unsigned_abs den) +ℤ pos left ≡ base *ℤ den +ℤ factor *ℤ num
sum_is base (pos f) num (pos d) q whole rest more left hd hf e share w =
    let s : pos more *ℤ pos d +ℤ pos left ≡ pos f *ℤ pos rest = omega (arith, ints) in
    ap (λ (z : ℤ). z *ℤ pos d +ℤ pos left) w
    ∙ (ring (((V (pos f) ⊗ V q ⊕ V (pos more)) ⊕ V base) ⊗ V (pos d) ⊕ V (pos left))
    ((V base ⊗ V (pos d) ⊕ V (pos f) ⊗ (V q ⊗ V (pos d))) ⊕
    (V (pos more) ⊗ V (pos d) ⊕ V (pos left))) (omega arith)
    ∙ (ap (λ (z : ℤ). (base *ℤ pos d +ℤ pos f *ℤ (q *ℤ pos d)) +ℤ z) s
    ∙ (ring ((V base ⊗ V (pos d) ⊕ V (pos f) ⊗ (V q ⊗ V (pos d))) ⊕ V (pos f) ⊗ V (pos rest))
    (V base ⊗ V (pos d) ⊕ V (pos f) ⊗ (V q ⊗ V (pos d) ⊕ V (pos rest))) (omega arith)
    ∙ ap (λ (z : ℤ). base *ℤ pos d +ℤ pos f *ℤ z) e)))
sum_is base (negsuc f) num den q whole rest more left hd hf e share w = absurd hf.le
sum_is base (pos f) num (negsuc d) q whole rest more left hd hf e share w = absurd hd.le

-- ---- the order of w and r / d, and v and s / e

abbrev top : ℤ → ℕ → ℕ → ℤ
top w r d = w *ℤ pos d +ℤ pos r

opened : (w : ℤ) (r d e : ℕ) → top w r d *ℤ pos e ≡ (w *ℤ pos d) *ℤ pos e +ℤ pos (r * e)
opened w r d e =
    ring ((V w ⊗ V (pos d) ⊕ V (pos r)) ⊗ V (pos e))
    ((V w ⊗ V (pos d)) ⊗ V (pos e) ⊕ V (pos r) ⊗ V (pos e)) (omega arith)

turned : (w : ℤ) (d e : ℕ) → (w *ℤ pos e) *ℤ pos d ≡ (w *ℤ pos d) *ℤ pos e
turned w d e = ring ((V w ⊗ V (pos e)) ⊗ V (pos d)) ((V w ⊗ V (pos d)) ⊗ V (pos e)) (omega arith)

same_order : (t x y : ℤ) (m n : ℕ) → x ≡ t +ℤ pos m → y ≡ t +ℤ pos n → nat_cmp m n ≡ int_cmp x y
same_order t x y m n hx hy = by (nat_cmp m n) refl
  where
    by : (o : Ordering) → nat_cmp m n ≡ o → nat_cmp m n ≡ int_cmp x y
    by Less k = let l : m < n = ranked m n Less (sym k) in k
        ∙ int_cmp_is x y Less (omega (arith, ints))
    by Equal k = let l : m ≡ n = ranked m n Equal (sym k) in k
        ∙ int_cmp_is x y Equal (omega (arith, ints))
    by Greater k = let l : n < m = ranked m n Greater (sym k) in k
        ∙ int_cmp_is x y Greater (omega (arith, ints))

-- whole parts are the same
pub rest_decides : (w v : ℤ) (r d s e : ℕ) → w ≡ v
    → nat_cmp (r * e) (s * d) ≡ int_cmp (top w r d *ℤ pos e) (top v s e *ℤ pos d)
rest_decides w v r d s e h =
    same_order ((w *ℤ pos d) *ℤ pos e) (top w r d *ℤ pos e) (top v s e *ℤ pos d) (r * e) (s * d)
    (opened w r d e)
    (opened v s e d
    ∙ ap (λ (z : ℤ). z +ℤ pos (s * d))
    (ap (λ (z : ℤ). (z *ℤ pos e) *ℤ pos d) (sym h) ∙ turned w d e))

one_more : (w : ℤ) (d : ℕ) → (w +ℤ pos 1) *ℤ pos d ≡ w *ℤ pos d +ℤ pos d
one_more w d =
    ring ((V w ⊕ V (pos 1)) ⊗ V (pos d)) (V w ⊗ V (pos d) ⊕ V (pos 1) ⊗ V (pos d)) (omega arith)
    ∙ ap (λ (n : ℕ). w *ℤ pos d +ℤ pos n) (omega arith)

less_whole : (w v : ℤ) (r d s e : ℕ) → w <ℤ v → r < d → s < e
    → (top w r d *ℤ pos e) <ℤ (top v s e *ℤ pos d)
less_whole w v r d s e h below other =
    let a : top w r d <ℤ (w *ℤ pos d +ℤ pos d) = omega (arith, ints) in
    let b : (top w r d *ℤ pos e) <ℤ ((w *ℤ pos d +ℤ pos d) *ℤ pos e) =
    mul-lt_right (top w r d) (w *ℤ pos d +ℤ pos d) (pos e) a (omega (arith, ints)) in
    let c : ((w +ℤ pos 1) *ℤ pos d) ≤ℤ (v *ℤ pos d) =
    mul-le_right (w +ℤ pos 1) v (pos d) (omega (arith, ints)) (omega (arith, ints)) in
    let f : (w *ℤ pos d +ℤ pos d) ≤ℤ (v *ℤ pos d) =
    subst (λ (z : ℤ). z ≤ℤ (v *ℤ pos d)) (one_more w d) c in
    let g : ((w *ℤ pos d +ℤ pos d) *ℤ pos e) ≤ℤ ((v *ℤ pos d) *ℤ pos e) =
    mul-le_right (w *ℤ pos d +ℤ pos d) (v *ℤ pos d) (pos e) f (omega (arith, ints)) in
    let y : top v s e *ℤ pos d ≡ (v *ℤ pos d) *ℤ pos e +ℤ pos (s * d) =
    opened v s e d ∙ ap (λ (z : ℤ). z +ℤ pos (s * d)) (turned v d e) in
    omega (arith, ints)

-- whole parts are not the same
pub whole_decides : (w v : ℤ) (r d s e : ℕ) → r < d → s < e → (int_cmp w v ≡ Equal → ⊥)
    → int_cmp w v ≡ int_cmp (top w r d *ℤ pos e) (top v s e *ℤ pos d)
whole_decides w v r d s e below other ne = by (int_cmp w v) refl
  where
    by : (o : Ordering) → int_cmp w v ≡ o
        → int_cmp w v ≡ int_cmp (top w r d *ℤ pos e) (top v s e *ℤ pos d)
    by Less k =
        k ∙ int_cmp_is (top w r d *ℤ pos e) (top v s e *ℤ pos d) Less
        (less_whole w v r d s e (int_ranked w v Less (sym k)) below other)
    by Equal k = absurd (ne k)
    by Greater k =
        k ∙ int_cmp_is (top w r d *ℤ pos e) (top v s e *ℤ pos d) Greater
        (less_whole v w s e r d (int_ranked w v Greater (sym k)) other below)
