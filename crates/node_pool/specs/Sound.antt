-- How the parts of a pool fit together.
use Rattle.std.specs.Prelude.{◌≡◌, ℕ, ◌<◌, ◌≤◌, true, List, length, ◌^◌}
use Rattle.exact_numbers.specs.declared.number.Mixed.{Mixed}
use Rattle.link_lists.specs.Lists.{has}
use Rattle.node_pool.specs.Tree.{Branches}
use Rattle.node_pool.specs.Order.{OpenLeaves, IsRising}

-- a tree, values and payloads with memory for so many, and the open leaves
pub record IsSound (tree : Branches) (values : List Mixed) (value_room payloads payload_room : ℕ)
    (open_leaves : OpenLeaves) : Type 0 where
  pub some_values : length values ≡ length tree.parents
  pub some_payloads : payloads ≡ length tree.parents
  pub few : length tree.parents ≤ open_leaves.room
  pub numbered : open_leaves.room < 2 ^ 32
  pub tree_room : open_leaves.room ≤ tree.room
  pub value_rooms : open_leaves.room ≤ value_room
  pub payload_rooms : open_leaves.room ≤ payload_room
  pub known : (c : ℕ) → has open_leaves.leaves c ≡ true → c < length tree.parents
  pub rising : IsRising values open_leaves.leaves
