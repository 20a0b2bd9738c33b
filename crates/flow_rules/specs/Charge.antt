-- The charge of a node is a bound in which a free unit owes its whole fixed cost or nothing. Each
-- cover makes one unit owe. What is made of a material beyond what can be used of it is worth
-- nothing. If so much of a material is used, its use is worth something.
use Rattle.std.specs.Prelude.{ℕ, ℤ, pos, neg_ℤ, ◌+ℤ◌, ◌-ℤ◌, ◌*ℤ◌, int_lt, int_le, int_div, Bool}
use Rattle.std.specs.Prelude.{cond, not, ◌&&◌, List, [], ◌∷◌, map, Option, Some, None}
use Rattle.std.specs.Int.{int_min}
use Rattle.integer_laws.specs.Total.{total}
use Rattle.pns_rules.specs.number_sets.Sets.{listed}
use Rattle.pns_rules.specs.Structure.{mats}
use Rattle.pns_rules.specs.Nodes.{Node}
use Rattle.flow_rules.specs.Net.{Net, million, trillion, size_cost}
use Rattle.flow_rules.specs.Relaxed.{stays, units, rows, row_low, row_part}
use Rattle.flow_rules.specs.ChargeFacts.{Demand, Facts, use_rate}
use Rattle.flow_rules.specs.Cover.{Cover, paid, weights}

-- ---- what is useful of a material

-- what the units of the node can use of material j at most
abbrev pub users_most : Net → Node → Facts → ℕ → ℤ
users_most net n f j = total (λ i. use_rate net j i *ℤ f.most i) (units net n)

abbrev pub at_most : Option ℤ → ℤ → ℤ
at_most None most = most
at_most (Some v) most = int_min (million *ℤ v) most

-- what has to be left over of it, and what can be used of it
abbrev pub useful : Net → Node → Facts → ℕ → ℤ
useful net n f j = row_low net n j +ℤ at_most (f.used j) (users_most net n f j)

-- x over y rounded up, for an x of at least 0 and a y above 0
abbrev pub rounded_up : ℤ → ℤ → ℤ
rounded_up x y = int_div (x +ℤ (y -ℤ pos 1)) y

-- ---- knees: the size above which a unit's output is worth nothing, and what it is worth below

pub record Knee : Type 0 where
  pub at : ℤ
  pub worth : ℤ

-- an output that is no raw material and has a multiplier above 0
abbrev pub has_knee : Net → Node → (ℕ → ℤ) → ℕ → ℕ → Bool
has_knee net n y i j =
    mats net.graph (stays n) j && not (net.graph.raw j) && int_lt (pos 0) (net.rate j i)
    && int_lt (pos 0) (y j)

abbrev pub knee_of : Net → Node → Facts → (ℕ → ℤ) → ℕ → ℕ → Knee
knee_of net n f y i j =
    record { at = rounded_up (useful net n f j) (net.rate j i); worth = y j *ℤ net.rate j i }

-- by rising sizes, and at one size in the order of the materials
abbrev pub inserted : Knee → List Knee → List Knee
inserted k [] = k ∷ []
inserted k (x ∷ xs) = cond (int_le k.at x.at) (k ∷ x ∷ xs) (x ∷ inserted k xs)

abbrev pub sorted : List Knee → List Knee
sorted [] = []
sorted (k ∷ ks) = inserted k (sorted ks)

abbrev pub knees : Net → Node → Facts → (ℕ → ℤ) → ℕ → List Knee
knees net n f y i =
    sorted (map (knee_of net n f y i) (listed net.graph.materials (has_knee net n y i)))

-- ---- what a use is worth

-- all that is asked for
abbrev pub demanded : Option Demand → ℤ
demanded None = pos 0
demanded (Some q) = q.worth *ℤ (million *ℤ q.amount)

-- what a size of unit i uses of it
abbrev pub demanded_by : Net → Option Demand → ℕ → ℤ
demanded_by net None i = pos 0
demanded_by net (Some q) i = q.worth *ℤ use_rate net q.of i

-- ---- the part of a unit

-- what is left of the cost of a size after its rows have paid, and what the unit owes besides
pub record Owed : Type 0 where
  pub each : ℤ
  pub once : ℤ

-- How much of a knee's worth counts. If the knee is at most the least size, all of it. Else, if the
-- cost of a size is below 0 and the knee below the greatest size, as much as brings that cost up to
-- 0, or all if that is less. Else nothing.
abbrev pub counted : ℤ → ℤ → ℤ → Knee → ℤ
counted low high each k =
    cond (int_le k.at low) k.worth
    (cond (int_lt each (pos 0) && int_lt k.at high) (int_min (neg_ℤ each) k.worth) (pos 0))

abbrev pub bend : ℤ → ℤ → Owed → Knee → Owed
bend low high o k =
    record {
      each = o.each +ℤ counted low high o.each k;
      once = o.once -ℤ counted low high o.each k *ℤ k.at;
    }

abbrev pub bent : ℤ → ℤ → List Knee → Owed → Owed
bent low high [] o = o
bent low high (k ∷ ks) o = bent low high ks (bend low high o k)

abbrev pub owed : Net → Node → Facts → ℤ → (ℕ → ℤ) → List Cover → ℕ → Owed
owed net n f scale y covers i =
    record {
      each =
          scale *ℤ size_cost net i -ℤ total (λ j. y j *ℤ net.rate j i) (rows net n)
          -ℤ demanded_by net f.demand i;
      once = scale *ℤ (net.fix i *ℤ trillion) -ℤ paid covers i;
    }

abbrev pub owed_bent : Net → Node → Facts → ℤ → (ℕ → ℤ) → List Cover → ℕ → Owed
owed_bent net n f scale y covers i =
    bent (f.least i) (f.most i) (knees net n f y i) (owed net n f scale y covers i)

-- the least that is owed at a size within the facts
abbrev pub least_owed : ℤ → ℤ → Owed → ℤ
least_owed low high o = o.once +ℤ int_min (o.each *ℤ low) (o.each *ℤ high)

abbrev pub unit_charge : Net → Node → Facts → ℤ → (ℕ → ℤ) → List Cover → ℕ → ℤ
unit_charge net n f scale y covers i =
    least_owed (f.least i) (f.most i) (owed_bent net n f scale y covers i)

-- a free unit may be left out and owes nothing then
abbrev pub or_none : Bool → ℤ → ℤ
or_none is_in part = cond is_in part (int_min (pos 0) part)

abbrev pub unit_part : Net → Node → Facts → ℤ → (ℕ → ℤ) → List Cover → ℕ → ℤ
unit_part net n f scale y covers i = or_none (n.inside i) (unit_charge net n f scale y covers i)

-- ---- the charge

abbrev pub charge : Net → Node → Facts → ℤ → (ℕ → ℤ) → List Cover → ℤ
charge net n f scale y covers =
    total (row_part net n y) (rows net n) +ℤ demanded f.demand +ℤ weights covers
    +ℤ total (unit_part net n f scale y covers) (units net n)
