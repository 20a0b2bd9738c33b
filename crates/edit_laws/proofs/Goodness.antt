-- The part of a problem's validity that each item has alone. The keys of a unit's terms, which are
-- numbers or names, are separated from their rates.
use Rattle.std.specs.Prelude.{◌≡◌, ◌<◌, ◌≤◌, ◌==◌, ℕ, Bool, true, false, ◌||◌, List, [], ◌∷◌}
use Rattle.std.specs.Prelude.{length, map, ℤ, pos, int_lt, unsigned_abs}
use Rattle.edit_rules.specs.problem_rules.Problem.{Problem, Material, OperatingUnit, Exclusion}
use Rattle.edit_rules.specs.problem_rules.Problem.{numbers_of}
use Rattle.edit_rules.specs.problem_rules.Problem.{rates_of}
use Rattle.edit_rules.specs.problem_rules.Each.{Each}
use Rattle.edit_rules.specs.problem_rules.WellFormed.{IsInRange, IsBound}
use Rattle.edit_rules.specs.Edit.{NamedTerm}
use Rattle.edit_rules.specs.Formed.{IsName}
use Rattle.edit_laws.proofs.Soundness.{IsSound}

abbrev pub same_number : ℕ → ℕ → Bool
same_number a b = a == b

abbrev pub among : {K : Type 0} → (K → K → Bool) → K → List K → Bool
among eq x [] = false
among eq x (k ∷ ks) = eq k x || among eq x ks

-- some key is there twice
abbrev pub double : {K : Type 0} → (K → K → Bool) → List K → Bool
double eq [] = false
double eq (k ∷ ks) = among eq k ks || double eq ks

-- some key of the second list is in the first
abbrev pub both : {K : Type 0} → (K → K → Bool) → List K → List K → Bool
both eq ks [] = false
both eq ks (j ∷ js) = among eq j ks || both eq ks js

pub record IsRate (z : ℤ) : Type 0 where
  pub in_range : IsInRange z
  pub positive : int_lt (pos 0) z ≡ true

pub record AreSides {K : Type 0} (eq : K → K → Bool) (in_rates out_rates : List ℤ)
    (ins outs : List K) : Type 0 where
  pub ins_rated : Each IsRate in_rates
  pub outs_rated : Each IsRate out_rates
  pub ins_once : double eq ins ≡ false
  pub outs_once : double eq outs ≡ false
  pub apart : both eq ins outs ≡ false
  pub ins_some : 0 < length ins
  pub outs_some : 0 < length outs

pub record IsGoodMaterial (m : Material) : Type 0 where
  pub named : IsName m.name
  pub price : IsInRange m.price
  pub lower : IsBound m.lower
  pub upper : IsBound m.upper

pub record IsGoodUnit (u : OperatingUnit) : Type 0 where
  pub named : IsName u.name
  pub lower : IsBound u.lower
  pub upper : IsBound u.upper
  pub fix : IsBound u.fix
  pub proportional : IsInRange u.proportional
  pub investment_fix : IsBound u.investment_fix
  pub investment_proportional : IsInRange u.investment_proportional
  pub sides : AreSides same_number (rates_of u.inputs) (rates_of u.outputs) (numbers_of u.inputs)
      (numbers_of u.outputs)

pub record IsGoodExclusion (x : Exclusion) : Type 0 where
  pub named : IsName x.name
  pub enough : 2 ≤ length x.units

pub record IsGood (p : Problem) : Type 0 where
  pub materials : Each IsGoodMaterial p.materials
  pub units : Each IsGoodUnit p.units
  pub exclusions : Each IsGoodExclusion p.exclusions
  pub payout_positive : int_lt (pos 0) p.payout ≡ true
  pub payout_limit : unsigned_abs p.payout ≤ 100

pub record IsWell (p : Problem) : Type 0 where
  pub sound : IsSound p
  pub good : IsGood p

abbrev pub named_rates : List NamedTerm → List ℤ
named_rates ts = map (λ (t : NamedTerm). t.rate) ts

abbrev pub AreNames : List (List ℕ) → Type 0
AreNames ns = Each (λ n. IsName n) ns
