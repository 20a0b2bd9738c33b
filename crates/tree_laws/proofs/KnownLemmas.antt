-- What a capped plant knows, the plant knows: it has as many materials, units and exclusions.
use Rattle.std.proofs.Common.{ℕ, ◌<◌, ℤ, pos, List, [], ◌∷◌, length, Option, Some}
use Rattle.std.proofs.Common.{None, IfSome, subst, arith}
use Rattle.std.proofs.lemmas.Int.{ints}
use Rattle.tree_rules.specs.number_sets.Sets.{IsSet}
use Rattle.tree_rules.specs.integer_laws.Range.{InRange, AllInRange}
use Rattle.tree_rules.specs.problem_rules.Each.{Each}
use Rattle.tree_rules.specs.problem_rules.Problem.{Problem, Material, Exclusion}
use Rattle.tree_rules.specs.pns_rules.Nodes as nodes
use Rattle.tree_rules.specs.flow_rules.Cover.{Cover}
use Rattle.tree_rules.specs.flow_rules.ChargeLeaf.{Handed}
use Rattle.tree_rules.specs.Ways as ways
use Rattle.tree_rules.specs.Tree.{End, branch, leaf, TreeNode}
use Rattle.tree_rules.specs.Leaf.{Leaf, dead, clash, refuted, bounded, charged, untried}
use Rattle.tree_rules.specs.Claim as claims
use Rattle.tree_rules.specs.Accepted.{Tree}
use Rattle.tree_rules.specs.Known.{IsUnit, IsMaterial, IsExclusion, AreUnits, KnowsStep, KnowsCover}
use Rattle.tree_rules.specs.Known.{KnowsCharge, KnowsLeaf, KnowsWay, KnowsEnd, KnowsNode}
use Rattle.tree_rules.specs.Known.{KnowsTree, KnowsClaim}
use Rattle.tree_laws.specs.Capped.{IsCapped}
use Rattle.tree_laws.specs.Recharged.{recharged_leaf, recharged_end, recharged_node}
use Rattle.tree_laws.specs.Recharged.{recharged_tree}
use Rattle.tree_laws.proofs.CappedLemmas.{as_many}

pub each_too : {X : Type 0} (P Q : X → Type 0) → ((x : X) → P x → Q x) → (xs : List X) → Each P xs
    → Each Q xs
each_too P Q f [] h = tt
each_too P Q f (x ∷ xs) h = (f x h.0, each_too P Q f xs h.1)

some_too : {X : Type 0} (P Q : X → Type 0) → ((x : X) → P x → Q x) → (o : Option X) → IfSome o P
    → IfSome o Q
some_too P Q f None h = tt
some_too P Q f (Some x) h = f x h

-- a charge that counts no cost, or one of d, without covers
pub without_covers : (p : Problem) (d : ℤ) (ys : List ℤ) → InRange d → AllInRange ys
    → KnowsCharge p (record { d = d; ys = ys; covers = [] })
without_covers p d ys r s =
    record { scale = r; multipliers = s; few = omega arith; covers = tt }

zero_in_range : InRange (pos 0)
zero_in_range = omega (arith, ints)

module _ (p q : Problem) (h : IsCapped p q) where
  unit_too : (u : ℕ) → IsUnit q u → IsUnit p u
  unit_too u k = subst (λ (n : ℕ). u < n) (as_many p q h) k

  material_too : (x : ℕ) → IsMaterial q x → IsMaterial p x
  material_too x k = subst (λ (ms : List Material). x < length ms) h.materials k

  exclusion_too : (x : ℕ) → IsExclusion q x → IsExclusion p x
  exclusion_too x k = subst (λ (es : List Exclusion). x < length es) h.exclusions k

  units_too : (us : List ℕ) → AreUnits q us → AreUnits p us
  units_too us k = subst (λ (n : ℕ). IsSet n us) (as_many p q h) k

  step_too : (s : nodes.Step) → KnowsStep q s → KnowsStep p s
  step_too (nodes.raw u) k = unit_too u k
  step_too (nodes.rival u) k = unit_too u k
  step_too (nodes.starve x) k = material_too x k
  step_too (nodes.loose us) k = units_too us k
  step_too (nodes.sole x u) k = (material_too x k.0, unit_too u k.1)

  cover_too : (c : Cover) → KnowsCover q c → KnowsCover p c
  cover_too c k = record {
    weight = k.weight;
    not_negative = k.not_negative;
    beside = some_too (IsUnit q) (IsUnit p) unit_too c.beside k.beside;
    units = units_too c.units k.units;
    some = k.some;
  }

  charge_too : (c : Handed) → KnowsCharge q c → KnowsCharge p c
  charge_too c k = record {
    scale = k.scale;
    multipliers = k.multipliers;
    few = k.few;
    covers = each_too (KnowsCover q) (KnowsCover p) cover_too c.covers k.covers;
  }

  leaf_too : (l : Leaf) → KnowsLeaf q l → KnowsLeaf p (recharged_leaf l)
  leaf_too (dead x) k = material_too x k
  leaf_too (clash x) k = exclusion_too x k
  leaf_too (refuted ys) k =
      without_covers p (pos 0) ys zero_in_range k
  leaf_too (bounded d ys) k = without_covers p d ys k.0 k.1
  leaf_too (charged c) k = charge_too c k
  leaf_too (untried low) k = k

  way_too : (w : ways.Way) → KnowsWay q w → KnowsWay p w
  way_too (ways.at_material x c) k = material_too x k
  way_too (ways.either u) k = unit_too u k

  end_too : (e : End Leaf) → KnowsEnd q e → KnowsEnd p (recharged_end e)
  end_too (branch w) k = way_too w k
  end_too (leaf l) k = leaf_too l k

  node_too : (t : TreeNode Leaf) → KnowsNode q t → KnowsNode p (recharged_node t)
  node_too t k = record {
    option = units_too t.option k.option;
    steps = each_too (KnowsStep q) (KnowsStep p) step_too t.steps k.steps;
    end = end_too t.end k.end;
  }

  pub tree_too : (tree : Tree) → KnowsTree q tree → KnowsTree p (recharged_tree tree)
  tree_too [] k = tt
  tree_too (t ∷ ts) k = (node_too t k.0, tree_too ts k.1)

  pub claim_too : (claim : claims.Claim) → KnowsClaim q claim → KnowsClaim p claim
  claim_too (claims.network w) k = units_too w.units k
  claim_too claims.infeasible k = tt
  claim_too claims.unknown k = tt
