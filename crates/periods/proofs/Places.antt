-- The place of a name, as a look-up finds it.
use Rattle.std.proofs.Common.{◌≡◌, ◌+◌, ℕ, suc, Bool, true, false, cond, not, ◌||◌, nat_lt, Some}
use Rattle.std.proofs.Common.{None, List, [], ◌∷◌, length, refl, sym, ◌∙◌, arith, inl, inr}
use Rattle.std.specs.List.{list_any, position, position_or_len}
use Rattle.std.specs.Str.{bytes_eq}
use Rattle.std.proofs.lemmas.Bool.{cases_lt, lt-ltb, le-ltb}
use Rattle.plan_laws.specs.problem_rules.Problem.{Problem, material_names}
use Rattle.plan_laws.specs.edit_rules.Place.{has_material, material_place}

step_same : (a b : ℕ) → nat_lt (1 + a) (suc b) ≡ nat_lt a b
step_same a b = elim (cases_lt a b) as (λ _. nat_lt (1 + a) (suc b) ≡ nat_lt a b) [
  | inl lt ↦ lt-ltb (1 + a) (suc b) (omega (arith, lt)) ∙ sym (lt-ltb a b lt)
  | inr le ↦ le-ltb (1 + a) (suc b) (omega (arith, le)) ∙ sym (le-ltb a b le)
]

by_first : (b any : Bool) (at long : ℕ) → any ≡ nat_lt at long
    → (b || any) ≡ nat_lt (cond (not b) (1 + at) 0) (suc long)
by_first true any at long e = sym (lt-ltb 0 (suc long) (omega arith))
by_first false any at long e = e ∙ sym (step_same at long)

-- a name is among others if its place is within them
any_within : {X : Type 0} (p : X → Bool) (xs : List X)
    → list_any p xs ≡ nat_lt (position_or_len p xs) (length xs)
any_within p [] = refl
any_within p (x ∷ xs) =
    by_first (p x) (list_any p xs) (position_or_len p xs) (length xs) (any_within p xs)

some_at : (b : Bool) (at k : ℕ) → Some k ≡ cond b (Some at) None → (b ≡ true) × (k ≡ at)
some_at true at k e = (refl, cc)
some_at false at k e = cc

none_at : (b : Bool) (at : ℕ) → None ≡ cond b (Some at) None → b ≡ false
none_at true at e = cc
none_at false at e = refl

module _ (p : Problem) (name : List ℕ) where
  abbrev names : List (List ℕ)
  names = material_names p.materials

  abbrev is_name : List ℕ → Bool
  is_name word = bytes_eq word name

  abbrev within : Bool
  within = nat_lt (position_or_len is_name names) (length names)

  pub place_at : (k : ℕ) → Some k ≡ position is_name names → k ≡ material_place p name
  place_at k e = (some_at within (position_or_len is_name names) k e).1

  pub known : (k : ℕ) → Some k ≡ position is_name names → true ≡ has_material p name
  known k e =
      sym (any_within is_name names ∙ (some_at within (position_or_len is_name names) k e).0)

  pub unknown : None ≡ position is_name names → false ≡ has_material p name
  unknown e = sym (any_within is_name names ∙ none_at within (position_or_len is_name names) e)
