-- The number of a unit, looked for from the least unit on.
use Rattle.std.proofs.Common.{◌≡◌, ℕ, ◌+◌, ◌<◌, List, [], ◌∷◌, length, drop, get_or, refl, sym, ap}
use Rattle.std.proofs.Common.{◌∙◌, pos, ℤ, cond}
use Rattle.std.proofs.lemmas.List.{drop_more}
use Rattle.std.proofs.lemmas.Bool.{eq-eqb, ne_eqb}
use Rattle.report_rules.specs.flow_rules.Net.{beside}

beside_nothing : (left : List ℕ) (u : ℕ) → beside left [] u ≡ pos 0
beside_nothing [] u = refl
beside_nothing (x ∷ xs) u = refl

module _ (sizes : List ℤ) (left rest : List ℕ) (k x u : ℕ) (size : ℤ) (e : left ≡ x ∷ rest)
    (l : k < length sizes) (so_far : beside left (drop k sizes) u ≡ size) where
  here : beside left (drop k sizes) u
      ≡ beside (x ∷ rest) (get_or sizes k (pos 0) ∷ drop (k + 1) sizes) u
  here = λ i. beside (e i) (drop_more sizes k (pos 0) l i) u

  pub size_found : x ≡ u → get_or sizes k (pos 0) ≡ size
  size_found same =
      sym (here
      ∙ ap (λ b. cond b (get_or sizes k (pos 0)) (beside rest (drop (k + 1) sizes) u))
      (eq-eqb x u same)) ∙ so_far

  pub size_later : (x ≡ u → ⊥) → beside rest (drop (k + 1) sizes) u ≡ size
  size_later other =
      sym (here
      ∙ ap (λ b. cond b (get_or sizes k (pos 0)) (beside rest (drop (k + 1) sizes) u))
      (ne_eqb x u other)) ∙ so_far

pub size_none : (sizes : List ℤ) (left : List ℕ) (k u : ℕ) (size : ℤ) → drop k sizes ≡ []
    → beside left (drop k sizes) u ≡ size → pos 0 ≡ size
size_none sizes left k u size e so_far =
    sym (ap (λ (zs : List ℤ). beside left zs u) e ∙ beside_nothing left u) ∙ so_far
