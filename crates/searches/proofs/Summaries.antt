-- The lines of a summary, and the units of the maximal structure.
use Rattle.std.proofs.Common.{◌≡◌, ◌++◌, ◌∷◌, [], ℕ, ℤ, Bool, false, List, length, codes, decimal}
use Rattle.std.proofs.Common.{sym, ap, subst, append_assoc, append-nil}
use Rattle.std.specs.Fmt.{signed_decimal}
use Rattle.std.proofs.lemmas.Bool.{both_ways}
use Rattle.tree_text.specs.number_sets.Sets.{has, IsSet, Avoids}
use Rattle.tree_text.proofs.number_sets.Cited.{below_from}
use Rattle.tree_text.specs.problem_rules.Problem.{Problem, unit_names}
use Rattle.tree_text.specs.pns_rules.Shape.{Shape, shape_of}
use Rattle.tree_text.specs.pns_rules.Structure.{Meets, IsStructure, IsBetween, IsUnion, mats}
use Rattle.tree_text.specs.tree_rules.Claim.{Network}
use Rattle.command_files.specs.studio_rules.Lines.{text_of, spaced_names, names_in}
use Rattle.command_files.specs.studio_rules.Summary.{CountsMaximal, summary_lines}

regrouped : (u a f m b n names k c d v e : List ℕ)
    → ((u ++ (a ++ ((f ++ m) ++ (b ++ (f ++ n))))) ++ names)
    ++ ((f ++ k) ++ (c ++ (d ++ ((f ++ v) ++ (e ++ f))))) ≡ ((u ++ a) ++ f)
    ++ (((m ++ b) ++ f)
    ++ (((n ++ names) ++ f) ++ ((((k ++ c) ++ d) ++ f) ++ (((v ++ e) ++ f) ++ []))))
regrouped u a f m b n names k c d v e = simp (append_assoc, append-nil)

-- the lines before the names of a network, and those after them
abbrev pub before_names : ℕ → ℕ → List ℕ
before_names units most =
    codes "units "
    ++ (decimal units ++ (10 ∷ codes "maximal " ++ (decimal most ++ 10 ∷ codes "network")))

abbrev pub behind_names : ℤ → ℤ → ℕ → List ℕ
behind_names cost d nodes =
    10 ∷ codes "cost "
    ++ (signed_decimal cost
    ++ (32 ∷ signed_decimal d ++ (10 ∷ codes "nodes " ++ (decimal nodes ++ 10 ∷ []))))

pub summary_is : (p : Problem) (most : ℕ) (w : Network) (nodes : ℕ)
    → (before_names (length p.units) most
    ++ spaced_names (names_in (has w.units) 0 (unit_names p.units)))
    ++ behind_names w.cost w.d nodes ≡ text_of (summary_lines p most w nodes)
summary_is p most w nodes =
    regrouped (codes "units ") (decimal (length p.units)) (10 ∷ []) (codes "maximal ")
    (decimal most) (codes "network")
    (spaced_names (names_in (has w.units) 0 (unit_names p.units)))
    (codes "cost ") (signed_decimal w.cost) (32 ∷ signed_decimal w.d) (codes "nodes ")
    (decimal nodes)

-- ---- the maximal structure

pub counts : (p : Problem) (g : Shape) (w all : List ℕ) (most : ℕ) → g ≡ shape_of p → w ≡ []
    → IsSet 128 all → IsUnion g (has w) (has all) → IsBetween g (λ u. false) (has w) (has all)
    → most ≡ length all → CountsMaximal p most
counts p g w all most same none set union between count = record {
  all = all;
  set =
      record {
        rising = set.rising;
        below =
            below_from (length p.units) all
            (λ u h. (subst (λ (k : Shape). IsStructure k (has all)) same between.meets).s3 u h);
      };
  union =
      subst (λ (v : List ℕ). IsUnion (shape_of p) (has v) (has all)) none
      (subst (λ (k : Shape). IsUnion k (has w) (has all)) same union);
  count = count;
}

pub none_refuted : (p : Problem) (g : Shape) (w : List ℕ) (s : ℕ → Bool) → g ≡ shape_of p → w ≡ []
    → ((m o : ℕ → Bool) → Meets g m o → Avoids o (has w) → ⊥) → IsStructure (shape_of p) s → ⊥
none_refuted p g w s same none refuted is =
    refuted (mats g s) s (subst (λ (k : Shape). IsStructure k s) (sym same) is)
    (λ u inside left. both_ways (has w u) (ap (λ (v : List ℕ). has v u) none) left)
