-- How a leaf of a growing tree becomes a branch.
use Rattle.std.specs.Prelude.{◌≡◌, ℕ, ◌<◌, ◌≤◌, Bool, true, false, List, [], ◌∷◌, ◌++◌, length}
use Rattle.std.specs.Prelude.{Option}
use Rattle.node_pool.specs.link_lists.Lists.{has}
use Rattle.node_pool.specs.Pooled.{Pooled}
use Rattle.node_pool.specs.exact_numbers.declared.number.Mixed.{Mixed}
use Rattle.tree_laws.specs.tree_rules.Tree.{End, branch, leaf}
use Rattle.tree_laws.specs.tree_rules.Leaf.{Leaf, dead, clash, refuted, bounded, charged, untried}
use Rattle.tree_laws.specs.tree_rules.Leaf.{Scaled}
use Rattle.search_tree.specs.declared.growth.Fresh.{Fresh}
use Rattle.search_tree.specs.Cells.{Cell, cell_at}

-- whether the end is a leaf that is open
abbrev pub is_open_leaf : Leaf → Bool
is_open_leaf (dead x) = false
is_open_leaf (clash k) = false
is_open_leaf (refuted ys) = false
is_open_leaf (bounded d ys) = false
is_open_leaf (charged h) = false
is_open_leaf (untried low) = true

abbrev pub is_open : End Leaf → Bool
is_open (branch w) = false
is_open (leaf l) = is_open_leaf l

-- the end is a leaf that is open
abbrev pub EndsOpen : End Leaf → Type 0
EndsOpen e = (low : Option Scaled) × (e ≡ leaf (untried low))

-- the open leaves of the pool after node `at` is branched: those before but this one, and each new
-- node that ends open
pub record AreOpenAfter (old new : Pooled Cell) (at : ℕ) : Type 0 where
  pub shut : has new.leaves at ≡ false
  pub others : (j : ℕ) → j < length old.payloads → (j ≡ at → ⊥)
      → has new.leaves j ≡ has old.leaves j
  pub fresh : (j : ℕ) → length old.payloads ≤ j → j < length new.payloads
      → has new.leaves j ≡ is_open (cell_at new.payloads j).end

-- the cell with an end whose children begin with `first`
abbrev pub as_parent : Cell → ℕ → End Leaf → Cell
as_parent c first e =
    record {
      option = c.option;
      steps = c.steps;
      node = c.node;
      first = first;
      end = e;
      key =
          c.key;
    }

-- the cells and the values of children that are listed with the last one first, in their order
abbrev pub cells_in_turn : List Fresh → List Cell
cells_in_turn [] = []
cells_in_turn (f ∷ fs) = cells_in_turn fs ++ f.cell ∷ []

abbrev pub values_in_turn : List Fresh → List Mixed
values_in_turn [] = []
values_in_turn (f ∷ fs) = values_in_turn fs ++ f.value ∷ []

-- the cell with another end
abbrev pub as_shut : Cell → End Leaf → Cell
as_shut c e =
    record {
      option = c.option;
      steps = c.steps;
      node = c.node;
      first = c.first;
      end = e;
      key =
          c.key;
    }
