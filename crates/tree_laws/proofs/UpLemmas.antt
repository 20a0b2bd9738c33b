-- What goes up a tree: that a structure is of a node, and that a node takes in and leaves out no
-- more than another.
use Rattle.std.proofs.Common.{ℕ, Bool, not, ◌&&◌, ◌==◌, List}
use Rattle.std.proofs.lemmas.Bool.{or_left, or_right}
use Rattle.tree_rules.specs.number_sets.Sets.{has, Avoids, IsWithin}
use Rattle.tree_rules.specs.pns_rules.Shape.{Shape, IsProper}
use Rattle.tree_rules.specs.pns_rules.Nodes.{Node, Step, raw, rival, starve, loose, sole, after}
use Rattle.tree_rules.proofs.pns_rules.Cited.{steps_keep_families}
use Rattle.tree_rules.specs.Ways.{Way, decides, child_at}
use Rattle.tree_laws.proofs.CoverLemmas.{IsOf}
use Rattle.tree_laws.proofs.ApartLemmas.{GoesUp}
use Rattle.tree_laws.proofs.WayLemmas.{choices, of_child, ways_apart, one_choice}

pub structure_goes_up : (g : Shape) → IsProper g → (s : ℕ → Bool) → GoesUp g (IsOf g s)
structure_goes_up g proper s = record {
  back = λ n t p f. (steps_keep_families g n t proper p s).1 f;
  up = λ n w t f. of_child g n w t s f;
  alone = λ n w t t' may i j f h. ways_apart g proper n w may s t t' i j f h;
}

-- ---- nodes that take in and leave out no more than the node m

pub record IsOver (m n : Node) : Type 0 where
  pub inside : IsWithin n.inside m.inside
  pub outside : IsWithin n.outside m.outside

over_step : (g : Shape) (m n : Node) (t : Step) → IsOver m (after g n t) → IsOver m n
over_step g m n (raw u) f =
    record { inside = f.inside; outside = λ v e. f.outside v (or_right (u == v) (n.outside v) e) }
over_step g m n (rival u) f =
    record { inside = f.inside; outside = λ v e. f.outside v (or_right (u == v) (n.outside v) e) }
over_step g m n (starve x) f =
    record {
      inside = f.inside;
      outside =
          λ v e. f.outside v (or_right (g.uses v x) (n.outside v) e);
    }
over_step g m n (loose w) f =
    record { inside = f.inside; outside = λ v e. f.outside v (or_right (has w v) (n.outside v) e) }
over_step g m n (sole x u) f =
    record { inside = λ v e. f.inside v (or_right (u == v) (n.inside v) e); outside = f.outside }

over_child : (g : Shape) (m n : Node) (w : Way) (t : List ℕ) → IsOver m (child_at g n w t)
    → IsOver m n
over_child g m n w t f = record {
  inside = λ u e. f.inside u (or_right (has t u) (n.inside u) e);
  outside = λ u e. f.outside u (or_right (decides g w u && not (has t u)) (n.outside u) e);
}

pub over_goes_up : (g : Shape) → IsProper g → (m : Node) → Avoids m.inside m.outside
    → GoesUp g (IsOver m)
over_goes_up g proper m apart = record {
  back = λ n t p f. over_step g m n t f;
  up = λ n w t f. over_child g m n w t f;
  alone = λ n w t t' may i j f h.
      let over = over_child g m n w t f in
      let a : Avoids n.inside n.outside = λ u v k. apart u (over.inside u v) (over.outside u k) in
      one_choice g n w t t' (choices g n w t proper a may i) (choices g n w t' proper a may j)
      (λ u e o. apart u (f.inside u (or_left (has t u) (n.inside u) e))
      (h.outside u (or_left (decides g w u && not (has t' u)) (n.outside u) o)))
      (λ u e o. apart u (h.inside u (or_left (has t' u) (n.inside u) e))
      (f.outside u (or_left (decides g w u && not (has t u)) (n.outside u) o)));
}
