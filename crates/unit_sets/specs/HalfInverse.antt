-- Lemmas that the model of a material set cites: the halves of the list of two halves.
use Rattle.std.proofs.Common.{◌≡◌, ℕ, ◌+◌, ◌-◌, nat_lt, Bool, true, false, cond, not, List, [], ◌∷◌}
use Rattle.std.proofs.Common.{map, refl, ap, ◌∙◌, arith}
use Rattle.std.proofs.lemmas.Bool.{lt-ltb, le-ltb, cond-true, cond-false}
use Rattle.number_sets.specs.Sets.{AreBelow, kept}
use Rattle.unit_sets.specs.Halves.{halves, lows, highs}

shifted_low : (h : List ℕ) → lows (map (λ x. x + 128) h) ≡ []
shifted_low [] = refl
shifted_low (x ∷ xs) =
    cond-false (nat_lt (x + 128) 128) ((x + 128) ∷ lows (map (λ x. x + 128) xs))
    (lows (map (λ x. x + 128) xs)) (le-ltb (x + 128) 128 (omega arith)) ∙ shifted_low xs

shifted_high : (h : List ℕ) → highs (map (λ x. x + 128) h) ≡ h
shifted_high [] = refl
shifted_high (x ∷ xs) =
    at (nat_lt (x + 128) 128) (le-ltb (x + 128) 128 (omega arith)) (shifted_high xs)
  where
    at : (b : Bool) → b ≡ false → highs (map (λ x. x + 128) xs) ≡ xs
        → map (λ v. v - 128)
        (cond (not b) ((x + 128) ∷ kept (λ v. not (nat_lt v 128)) (map (λ x. x + 128) xs))
        (kept (λ v. not (nat_lt v 128)) (map (λ x. x + 128) xs))) ≡ x ∷ xs
    at true e ih = cc
    at false e ih = λ i. same i ∷ ih i
      where
        same : x + 128 - 128 ≡ x
        same = omega arith

pub lows-halves : (l h : List ℕ) → AreBelow 128 l → lows (halves l h) ≡ l
lows-halves [] h b = shifted_low h
lows-halves (x ∷ xs) h b =
    cond-true (nat_lt x 128) (x ∷ lows (halves xs h)) (lows (halves xs h)) (lt-ltb x 128 b.0)
    ∙ ap (λ ys. x ∷ ys) (lows-halves xs h b.1)

pub highs-halves : (l h : List ℕ) → AreBelow 128 l → highs (halves l h) ≡ h
highs-halves [] h b = shifted_high h
highs-halves (x ∷ xs) h b = at (nat_lt x 128) (lt-ltb x 128 b.0) (highs-halves xs h b.1)
  where
    at : (t : Bool) → t ≡ true → highs (halves xs h) ≡ h
        → map (λ v. v - 128)
        (cond (not t) (x ∷ kept (λ v. not (nat_lt v 128)) (halves xs h))
        (kept (λ v. not (nat_lt v 128)) (halves xs h))) ≡ h
    at true e ih = ih
    at false e ih = cc
