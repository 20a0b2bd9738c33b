-- One row written in a block of rows: what it is then, and that the others stay.
use Rattle.std.proofs.Common.{◌≡◌, ◌≢◌, ℕ, ◌+◌, ◌-◌, ◌*◌, ◌<◌, ◌≤◌, ◌++◌, arith, sym, ap, ◌∙◌, refl}
use Rattle.std.proofs.Common.{subst, inl, inr, List, length, take, drop, All, ℤ}
use Rattle.std.proofs.lemmas.Bool.{cases_lt}
use Rattle.std.proofs.lemmas.List.{drop-take, take-append-le}
use Rattle.std.proofs.lemmas.List.Elements.{All-take, All-drop, All-append}
use Rattle.std.proofs.lemmas.Slice.{take-put_mid_below, drop-put_mid}
use borrow.Rule.Slice.PartMut.{put_mid}
use Rattle.flow_program.specs.integer_laws.Range.{InRange, AllInRange}
use Rattle.dual_simplex.specs.Rows.{row_at}

-- a row ends before the next begins
pub below : (w c d : ℕ) → d < c → d * w + w ≤ c * w
below w c d h = grind (arith, h)

row_is : (w d : ℕ) (es : List ℤ) → row_at w es d ≡ take w (drop (d * w) es)
row_is w d es = ap (λ k. take k (drop (d * w) es)) (both (d * w) w)
  where
    both : (a b : ℕ) → a + b - a ≡ b
    both a b = omega arith

pub other_row : (w c d n : ℕ) (es ys : List ℤ) → n ≡ w → length ys ≡ w → c * w + w ≤ length es
    → d ≢ c → row_at w (put_mid (c * w) n es ys) d ≡ row_at w es d
other_row w c d n es ys e l room ne =
    elim (cases_lt d c) [
      | inl h ↦
          let b = below w c d h in
          row_is w d (put_mid (c * w) n es ys) ∙ sym (drop-take (d * w) w (put_mid (c * w) n es ys))
          ∙ ap (drop (d * w)) (take-put_mid_below (c * w) n es ys (d * w + w) b (omega arith))
          ∙ drop-take (d * w) w es ∙ sym (row_is w d es)
      | inr h ↦
          let b = below w d c (omega (arith, ne)) in
          row_is w d (put_mid (c * w) n es ys)
          ∙ ap (take w)
          (drop-put_mid (c * w) n es ys (d * w) (omega arith) (omega arith) (omega arith))
          ∙ sym (row_is w d es)
    ]

pub all_kept : (a n : ℕ) (es ys : List ℤ) → AllInRange es → AllInRange ys
    → AllInRange (put_mid a n es ys)
all_kept a n es ys h k =
    All-append InRange (take a es) _ (All-take InRange a es h)
    (All-append InRange ys _ k (All-drop InRange n (drop a es) (All-drop InRange a es h)))

-- a row in the front of a block
row_by_front : (w d : ℕ) (es : List ℤ) → row_at w es d ≡ drop (d * w) (take (d * w + w) es)
row_by_front w d es = row_is w d es ∙ sym (drop-take (d * w) w es)

pub row_before : (w d : ℕ) (es rest : List ℤ) → d * w + w ≤ length es
    → row_at w (es ++ rest) d ≡ row_at w es d
row_before w d es rest h = row_by_front w d (es ++ rest)
    ∙ ap (drop (d * w)) (take-append-le (d * w + w) es rest h) ∙ sym (row_by_front w d es)
