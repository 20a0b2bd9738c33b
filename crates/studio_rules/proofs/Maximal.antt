-- What the search for the maximal structure gives, said of the problem.
use Rattle.std.proofs.Common.{◌≡◌, [], ℕ, List, Bool, false, ap, sym, subst}
use Rattle.std.proofs.lemmas.Bool.{both_ways}
use Rattle.report_rules.specs.number_sets.Sets.{has, Avoids}
use Rattle.report_rules.specs.pns_rules.Shape.{Shape}
use Rattle.report_rules.specs.pns_rules.Structure.{Meets, IsStructure, IsBetween, IsUnion, mats}
use Rattle.studio_rules.specs.Max.{IsMaximal, HasNoStructure}

pub maximal_from : (g h : Shape) (w s : List ℕ) → g ≡ h → w ≡ [] → IsUnion g (has w) (has s)
    → IsBetween g (λ _. false) (has w) (has s) → IsMaximal h (has s)
maximal_from g h w s same none union between = record {
  union =
      subst (λ (v : List ℕ). IsUnion h (has v) (has s)) none
      (subst (λ (k : Shape). IsUnion k (has w) (has s)) same union);
  structure = subst (λ (k : Shape). IsStructure k (has s)) same between.meets;
}

pub none_from : (g h : Shape) (w : List ℕ) → g ≡ h → w ≡ []
    → ((m o : ℕ → Bool) → Meets g m o → Avoids o (has w) → ⊥) → HasNoStructure h
none_from g h w same none refuted s is =
    refuted (mats g s) s (subst (λ (k : Shape). IsStructure k s) (sym same) is)
    (λ u inside left. both_ways (has w u) (ap (λ (v : List ℕ). has v u) none) left)
