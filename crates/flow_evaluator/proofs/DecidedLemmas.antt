-- The node of a clash-free solution structure: it is sound, and all is decided there.
use Rattle.std.proofs.Common.{◌≡◌, ℕ, ◌<◌, Bool, true, false, not, ◌&&◌, List, length, refl, ap}
use Rattle.std.proofs.Common.{◌∙◌, inl, inr}
use Rattle.std.proofs.lemmas.Bool.{or_cases, or_left, and_parts, and_from, both_ways}
use Rattle.std.proofs.lemmas.Bool.{false_from_ne_true, not-true}
use Rattle.dual_simplex.specs.number_sets.Sets.{has}
use Rattle.dual_simplex.specs.problem_rules.Problem.{Problem}
use Rattle.dual_simplex.specs.pns_rules.Shape.{shape_of, IsProper}
use Rattle.dual_simplex.specs.pns_rules.Structure.{is_made, is_used, mats, IsStructure, IsAllowed}
use Rattle.dual_simplex.specs.pns_rules.Nodes.{Step, raw, rival, starve, loose, sole, IsPossible}
use Rattle.dual_simplex.specs.pns_rules.Nodes.{is_free}
use Rattle.dual_simplex.specs.pns_rules.Ends.{IsSound, IsDead, IsDecided}
use Rattle.dual_simplex.proofs.pns_rules.Cited.{raw_unmade, a_maker}
use Rattle.node_evaluation.specs.tree_rules.LeastFlows.{decided}
use Rattle.flow_evaluator.proofs.NodeLemmas.{outside_is, is_between}

neither : (b : Bool) → (not b && not (not b)) ≡ false
neither true = refl
neither false = refl

module _ (p : Problem) (us : List ℕ) (h : IsStructure (shape_of p) (has us)) where
  apart : (u : ℕ) → has us u ≡ true → (decided p us).outside u ≡ true → ⊥
  apart = (is_between p us h).avoids

  pub is_sound : IsSound (shape_of p) (decided p us)
  is_sound = record {
    known = h.s3;
    apart = apart;
    no_raw = λ u x i m r. raw_unmade (shape_of p) (has us) h u x i m r;
    leads = h.s4;
  }

  none_free : (u : ℕ) → u < length p.units → is_free (shape_of p) (decided p us) u ≡ false
  none_free u lt = ap (λ (b : Bool). not (has us u) && not b) (outside_is p us u lt)
      ∙ neither (has us u)

  not_free : (u : ℕ) → u < length p.units → is_free (shape_of p) (decided p us) u ≡ true → ⊥
  not_free u lt e = both_ways (is_free (shape_of p) (decided p us) u) (none_free u lt) e

  some_side : (u : ℕ) → u < length p.units → has us u ≡ false → (decided p us).outside u ≡ false → ⊥
  some_side u lt i o =
      not_free u lt
      (and_from (not (has us u)) (not ((decided p us).outside u)) (ap not i) (ap not o))

  no_step : (s : Step) → IsPossible (shape_of p) (decided p us) s → ⊥
  no_step (raw u) k = not_free u k.0 k.1
  no_step (rival u) k = not_free u k.0 k.1
  no_step (starve x) k = let c = k.2 in some_side c.0 c.1 (k.3 c.0 c.1 c.2 c.3) c.3
  no_step (loose w) k = let c = k.0 in let q = k.1 c.0 c.1 in not_free c.0 q.0 q.1
  no_step (sole x u) k = some_side u k.1 k.4 k.3

  module _ (proper : IsProper (shape_of p)) where
    -- a material of the structure that is not raw has a maker in it
    has_maker : (x : ℕ) → mats (shape_of p) (has us) x ≡ true → (shape_of p).raw x ≡ false
        → IsDead (shape_of p) (decided p us) x → ⊥
    has_maker x m r d = let k = a_maker (shape_of p) (has us) h x m r in
        apart k.0 k.2 (d.all_out k.0 k.1 k.3)

    no_dead : (x : ℕ) → IsDead (shape_of p) (decided p us) x → ⊥
    no_dead x d =
        elim
        (or_cases ((shape_of p).product x)
        (not ((shape_of p).raw x) && is_used (shape_of p) (has us) x) d.needed) [
          | inl q
              ↦ has_maker x (h.s1 x q)
              (false_from_ne_true ((shape_of p).raw x) (λ r. proper.kinds_apart x r q)) d
          | inr q ↦
              let k = and_parts (not ((shape_of p).raw x)) (is_used (shape_of p) (has us) x) q in
              has_maker x
              (or_left (is_used (shape_of p) (has us) x) (is_made (shape_of p) (has us) x) k.1)
              (not-true ((shape_of p).raw x) k.0) d
        ]

    pub is_decided : IsAllowed (shape_of p) (has us) → IsDecided (shape_of p) (decided p us)
    is_decided allowed = record {
      reduced =
          record { live = record { no_dead = no_dead; no_clash = allowed }; no_step = no_step };
      decided = λ x k. let c = k.some in not_free c.0 c.1 c.3;
      meets = h;
      allowed = allowed;
      none_free = none_free;
    }
