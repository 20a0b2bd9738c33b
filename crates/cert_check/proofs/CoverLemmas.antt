-- The sets of a charge, judged one after the other.
use Rattle.std.proofs.Common.{◌≡◌, ℕ, zero, suc, ◌<◌, ◌≤◌, List, [], ◌∷◌, drop, length, get_or, sym}
use Rattle.std.proofs.Common.{subst, arith, IfSome}
use Rattle.tree_text_rules.specs.pns_rules.Shape.{Shape}
use Rattle.tree_text_rules.specs.pns_rules.Nodes.{Node}
use Rattle.tree_text_rules.specs.flow_rules.Cover as rules
use Rattle.tree_text_rules.specs.flow_rules.ChargeLeaf.{CoverPasses, CoversPass}
use Rattle.tree_text_rules.specs.problem_rules.Each.{Each}
use Rattle.charges.specs.pgraph.declared.cover.Cover.{Cover}
use Rattle.charges.specs.pgraph.CoversView.{cover_of, covers_of}
use Rattle.charges.specs.pgraph.Kept.{IsKept}
use Rattle.cert_check.proofs.NodeLemmas.{step_ahead, none_ahead}

-- the first i sets pass, so the others decide
pub record ArePassed (g : Shape) (n : Node) (cs : List rules.Cover) (i : ℕ) : Type 0 where
  pub back : CoversPass g n (drop i cs) → CoversPass g n cs
  pub forth : CoversPass g n cs → CoversPass g n (drop i cs)

-- what is kept of the set at a place
pub kept_at : (cs : List Cover) (i : ℕ) (c : Cover) → Each IsKept (covers_of cs) → i < length cs
    → c ≡ get_or cs i c → IfSome c.beside (λ u. u < 128)
kept_at [] i c each lt is = absurd (omega arith)
kept_at (d ∷ ds) zero c each lt is =
    subst (λ (x : Cover). IfSome x.beside (λ u. u < 128)) (sym is) each.0.beside
kept_at (d ∷ ds) (suc i) c each lt is = kept_at ds i c each.1 (omega arith) is

module _ (g : Shape) (n : Node) (covers : List Cover) where
  pub none_passed : ArePassed g n (covers_of covers) 0
  none_passed = record { back = λ p. p; forth = λ p. p }

  module _ (i : ℕ) (c : Cover) (passed : ArePassed g n (covers_of covers) i)
      (lt : i < length covers) (is : c ≡ get_or covers i c) where
    ahead : drop i (covers_of covers) ≡ cover_of c ∷ drop (suc i) (covers_of covers)
    ahead = step_ahead cover_of covers i c lt is

    pub passes_on : CoverPasses g n (cover_of c) → ArePassed g n (covers_of covers) (suc i)
    passes_on one = record {
      back =
          λ p. passed.back
          (subst (λ (cs : List rules.Cover). CoversPass g n cs) (sym ahead) (one, p));
      forth = λ p. let q : CoversPass g n (cover_of c ∷ drop (suc i) (covers_of covers)) =
          subst (λ (cs : List rules.Cover). CoversPass g n cs) ahead (passed.forth p) in q.1;
    }

    pub stops_here : (CoverPasses g n (cover_of c) → ⊥) → CoversPass g n (covers_of covers) → ⊥
    stops_here never p = let q : CoversPass g n (cover_of c ∷ drop (suc i) (covers_of covers)) =
        subst (λ (cs : List rules.Cover). CoversPass g n cs) ahead (passed.forth p) in never q.0

  pub all_passed : (i : ℕ) → length covers ≤ i → ArePassed g n (covers_of covers) i
      → CoversPass g n (covers_of covers)
  all_passed i le passed =
      passed.back
      (subst (λ (cs : List rules.Cover). CoversPass g n cs) (sym (none_ahead cover_of covers i le))
      tt)
