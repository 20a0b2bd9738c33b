-- The rows of a basis make their steps one after the other.
use Rattle.std.proofs.Common.{◌≡◌, ◌≢◌, ◌<◌, ◌≤◌, ◌+◌, ◌*◌, ◌++◌, arith, sym, ap, ◌∙◌, subst, inl}
use Rattle.std.proofs.Common.{inr, ℕ, ℤ, Bool, true, false, List, length, get_or}
use Rattle.std.proofs.lemmas.Bool.{cases_eq}
use Rattle.flow_program.specs.integer_laws.Range.{AllInRange}
use Rattle.dual_simplex.specs.Rows.{row_at}
use Rattle.flow_program.specs.integer_laws.declared.which.Which.{Which}
use Rattle.dual_simplex.specs.Exchange.{IsStepped, IsPastStep, AreStepped, IsPastAmong}
use Rattle.dual_simplex.proofs.BlockLemmas.{below, row_before}

-- the rows before c have made their steps, and the others are as they were
pub record IsSteppedTo (w : ℕ) (flags : List Bool) (old pivot : List ℤ) (l e : ℕ) (new : List ℤ)
    (c : ℕ) : Type 0 where
  pub size : length new ≡ length old
  pub done : (d : ℕ) → d < c → get_or flags d false ≡ true → d ≢ l
      → IsStepped (row_at w old d) pivot e (row_at w new d)
  pub rest : (d : ℕ) → c ≤ d → row_at w new d ≡ row_at w old d
  pub in_range : AllInRange new

module _ (w : ℕ) (flags : List Bool) (old pivot : List ℤ) (l e : ℕ) (es : List ℤ) (c : ℕ)
    (h : IsSteppedTo w flags old pivot l e es c) where
  pub one_more : (new : List ℤ) → length new ≡ length es
      → IsStepped (row_at w es c) pivot e (row_at w new c)
      → ((d : ℕ) → d ≢ c → row_at w new d ≡ row_at w es d) → AllInRange new
      → IsSteppedTo w flags old pivot l e new (c + 1)
  one_more new size step others in_range = record {
    size = size ∙ h.size;
    done = λ d lt f ne. elim (cases_eq d c) [
      | inl s ↦ subst (λ x. IsStepped (row_at w old x) pivot e (row_at w new x)) (sym s)
          (subst (λ r. IsStepped r pivot e (row_at w new c)) (h.rest c (omega arith)) step)
      | inr n ↦ subst (λ r. IsStepped (row_at w old d) pivot e r) (sym (others d n))
          (h.done d (omega (arith, n)) f ne)
    ];
    rest = λ d le. others d (λ s. absurd (omega arith)) ∙ h.rest d (omega arith);
    in_range = in_range;
  }

  pub none_more : (get_or flags c false ≡ true → c ≢ l → ⊥)
      → IsSteppedTo w flags old pivot l e es (c + 1)
  none_more never = record {
    size = h.size;
    done = λ d lt f ne. elim (cases_eq d c) [
      | inl s ↦ absurd (never (subst (λ x. get_or flags x false ≡ true) s f) (λ q. ne (s ∙ q)))
      | inr n ↦ h.done d (omega (arith, n)) f ne
    ];
    rest = λ d le. h.rest d (omega arith);
    in_range = h.in_range;
  }

-- the steps in the front of a block are those of the block
module _ (w : ℕ) (flags : List Bool) (es front back : List ℤ) (value : es ≡ front ++ back)
    (room : w * w ≤ length front) where
  pub front_row : (c : ℕ) → c < w → row_at w front c ≡ row_at w es c
  front_row c lt = let b = below w w c lt in sym (row_before w c front back (omega arith))
      ∙ ap (λ xs. row_at w xs c) (sym value)

  pub block_stepped : (p q : List ℤ) (l e : ℕ) → p ≡ q → (body rest : List ℤ) → w * w ≤ length body
      → AreStepped w flags front p l e body → AreStepped w flags es q l e (body ++ rest)
  block_stepped p q l e same body rest r h = λ c lt f ne.
      let b = below w w c lt in
      subst (λ r. IsStepped (row_at w es c) r e (row_at w (body ++ rest) c)) same
      (subst (λ r. IsStepped (row_at w es c) p e r) (sym (row_before w c body rest (omega arith)))
      (subst (λ r. IsStepped r p e (row_at w body c)) (front_row c lt) (h c lt f ne)))

  pub block_past : (p q : List ℤ) (l e : ℕ) → p ≡ q → (row j : ℕ) (which : Which)
      → IsPastAmong w flags front p l e row j which → IsPastAmong w flags es q l e row j which
  block_past p q l e same row j which h = record {
    there = h.there;
    basic = h.basic;
    other = h.other;
    past = subst (λ r. IsPastStep (row_at w es row) r e j which) same
        (subst (λ r. IsPastStep r p e j which) (front_row row h.there) h.past);
  }
