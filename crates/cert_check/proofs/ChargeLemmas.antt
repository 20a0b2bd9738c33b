-- A charge of a node: when it passes, and the first of its conditions that fails.
use Rattle.std.proofs.Common.{◌≡◌, ◌⊎◌, ℕ, ◌≤◌, zero, suc, ℤ, pos, negsuc, ◌≤ℤ◌, Bool, List, []}
use Rattle.std.proofs.Common.{◌∷◌, length, Option, refl, sym, subst, inl, inr, arith}
use Rattle.std.proofs.lemmas.Int.{ints}
use Rattle.std.proofs.lemmas.List.{length-map}
use Rattle.tree_text_rules.specs.problem_rules.Each.{Each}
use Rattle.tree_text_rules.specs.problem_rules.Problem.{Problem}
use Rattle.tree_text_rules.specs.pns_rules.Shape.{shape_of}
use Rattle.tree_text_rules.specs.pns_rules.Nodes.{Node}
use Rattle.tree_text_rules.specs.flow_rules.ChargeFacts.{Facts}
use Rattle.tree_text_rules.specs.flow_rules.ChargeLeaf.{Handed, IsScale, IsOneEach, CoversPass}
use Rattle.tree_text_rules.specs.flow_rules.ChargeLeaf.{IsFormed}
use Rattle.tree_text_rules.specs.flow_rules.ChargeLeaf.{ChargeReaches, charge_of, ChargePasses}
use Rattle.tree_text_rules.specs.flow_rules.ChargeLeaf.{ChargeFails}
use Rattle.tree_text_rules.specs.flow_rules.declared.charge_why.ChargeWhy.{ChargeWhy}
use Rattle.tree_text_rules.specs.flow_rules.declared.charge_why.ChargeWhy.TheVariants as causes
use Rattle.tree_text_rules.specs.tree_rules.Claim.{CostOver, IsAtLeast}
use Rattle.tree_text_rules.specs.tree_rules.Leaf.{IsClaimed}
use Rattle.charges.specs.pgraph.declared.cover.Cover.{Cover}
use Rattle.charges.specs.pgraph.CoversView.{cover_of, covers_of}
use Rattle.charges.specs.pgraph.Kept.{IsKept, AreKept}
use Rattle.charges.specs.Sets.{AreBesideSmall}

-- a scale that is not below 0
pub zero_or_more : (d : ℤ) → pos 0 ≤ℤ d → (d ≡ pos 0) ⊎ (pos 1 ≤ℤ d)
zero_or_more (pos zero) h = inl refl
zero_or_more (pos (suc n)) h = inr (omega (arith, ints))
zero_or_more (negsuc n) h = absurd (omega (arith, ints))

pub not_below : (d : ℤ) → (d ≡ pos 0) ⊎ ((pos 1 ≤ℤ d) × Unit {0}) → pos 0 ≤ℤ d
not_below d (inl e) = omega (arith, ints, e)
not_below d (inr h) = let more = h.0 in omega (arith, ints, more)

-- ---- what is kept of the sets

pub few_covers : (cs : List Cover) → AreKept (covers_of cs) → length cs ≤ 1000000
few_covers cs kept = subst (λ (n : ℕ). n ≤ 1000000) (length-map cs cover_of) kept.few

pub beside_small : (cs : List Cover) → Each IsKept (covers_of cs) → AreBesideSmall cs
beside_small [] each = tt
beside_small (c ∷ cs) each = (each.0.beside, beside_small cs each.1)

-- ---- the conditions in turn

module _ (p : Problem) (claimed : Option CostOver) (n : Node) (f : Facts) (h : Handed) where
  abbrev FailsBy : ChargeWhy → Type 0
  FailsBy why = ChargeFails p (IsClaimed claimed) (IsAtLeast claimed) n f h why

  pub scale_fails : (IsScale (IsClaimed claimed) h.d → ⊥) → FailsBy causes.Bound
  scale_fails never = inl (refl, λ k. never k.0)

  pub rows_fail : (IsOneEach p n h.ys → ⊥) → FailsBy causes.Bound
  rows_fail never = inl (refl, λ k. never k.1)

  module _ (scale : IsScale (IsClaimed claimed) h.d) (each : IsOneEach p n h.ys) where
    pub covers_fail : (CoversPass (shape_of p) n h.covers → ⊥) → FailsBy causes.Cover
    covers_fail never = inr ((scale, each), inl (refl, never))

    module _ (covered : CoversPass (shape_of p) n h.covers) where
      pub sum_fails : (IsFormed p n f h → ⊥) → FailsBy causes.Sum
      sum_fails never = inr ((scale, each), inr (covered, inl (refl, never)))

      module _ (formed : IsFormed p n f h) (x : ℤ) (is : x ≡ charge_of p n f h) where
        pub charge_fails : (ChargeReaches (IsAtLeast claimed) x h.d → ⊥) → FailsBy causes.Bound
        charge_fails never =
            let y = charge_of p n f h in
            let below : ChargeReaches (IsAtLeast claimed) y h.d → ⊥ =
            λ r. never (subst (λ (z : ℤ). ChargeReaches (IsAtLeast claimed) z h.d) (sym is) r) in
            inr ((scale, each), inr (covered, inr (formed, inl (refl, below))))

        pub charge_passes : ChargeReaches (IsAtLeast claimed) x h.d
            → ChargePasses p (IsClaimed claimed) (IsAtLeast claimed) n f h
        charge_passes reaches = record {
          scale = scale;
          each_row = each;
          covered = covered;
          formed = formed;
          reaches = subst (λ (y : ℤ). ChargeReaches (IsAtLeast claimed) y h.d) is reaches;
        }
