-- What is known of the flows that matter at a node: between which sizes a unit is, and how much is
-- used of a material at most. Of one material it may be asked what follows if more is used. All
-- numbers are whole millionths.
use Rattle.std.specs.Prelude.{◌≡◌, ℕ, ◌<◌, ℤ, pos, neg_ℤ, ◌*ℤ◌, ◌≤ℤ◌, Bool, true, Option, None}
use Rattle.std.specs.Prelude.{IfSome}
use Rattle.std.specs.Int.{int_max}
use Rattle.integer_laws.specs.Total.{total}
use Rattle.flow_rules.specs.Net.{Net, million, units_of}

-- a material of which at least so much is used, and what the sum gets for each part of its use
pub record Demand : Type 0 where
  pub of : ℕ
  pub amount : ℤ
  pub worth : ℤ

pub record Facts : Type 0 where
  pub least : ℕ → ℤ
  pub most : ℕ → ℤ
  pub used : ℕ → Option ℤ
  pub demand : Option Demand

-- what the problem's own numbers say
abbrev pub own_facts : Net → Facts
own_facts net =
    record { least = net.least; most = net.most; used = λ j. None; demand = None }

-- the least size of each unit is at least 0 and at most its greatest, no use is below 0, and no use
-- that is asked for is worth less than 0
pub record AreFacts (net : Net) (f : Facts) : Type 0 where
  pub not_negative : (i : ℕ) → i < net.graph.units → pos 0 ≤ℤ f.least i
  pub ordered : (i : ℕ) → i < net.graph.units → f.least i ≤ℤ f.most i
  pub some_used : (j : ℕ) → j < net.graph.materials → IfSome (f.used j) (λ v. pos 0 ≤ℤ v)
  pub some_worth : IfSome f.demand (λ q. pos 0 ≤ℤ q.worth)

-- the rate at which unit i uses material j; 0 if it does not use it
abbrev pub use_rate : Net → ℕ → ℕ → ℤ
use_rate net j i = int_max (pos 0) (neg_ℤ (net.rate j i))

-- what the units of s use of material j
abbrev pub use_of : Net → (ℕ → Bool) → (ℕ → ℤ) → ℕ → ℤ
use_of net s z j = total (λ i. use_rate net j i *ℤ z i) (units_of net s)

-- the sizes z / d of the units of s are as the facts say
pub record Fit (net : Net) (f : Facts) (s : ℕ → Bool) (z : ℕ → ℤ) (d : ℤ) : Type 0 where
  pub at_least : (i : ℕ) → i < net.graph.units → s i ≡ true → (f.least i *ℤ d) ≤ℤ z i
  pub at_most : (i : ℕ) → i < net.graph.units → s i ≡ true → z i ≤ℤ (f.most i *ℤ d)
  pub used : (j : ℕ) → j < net.graph.materials
      → IfSome (f.used j) (λ v. use_of net s z j ≤ℤ (million *ℤ v *ℤ d))
  pub demand : IfSome f.demand (λ q. (million *ℤ q.amount *ℤ d) ≤ℤ use_of net s z q.of)
