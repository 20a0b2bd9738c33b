-- What the call of `search_tree` that branches a leaf does to the cells is a step of a turn.
use Rattle.std.proofs.Common.{◌≡◌, ℕ, ◌+◌, ◌<◌, List, length, slice_set, ◌++◌, sym, ap, ◌∙◌, arith}
use Rattle.std.proofs.Common.{length-append}
use Rattle.std.proofs.lemmas.List.{get_or_append_left, get_or-append-add, get_or-set_same}
use Rattle.std.proofs.lemmas.List.{get_or-set_other, length-set}
use Rattle.tree_laws.specs.tree_rules.Ways.{Way, width}
use Rattle.tree_laws.specs.tree_rules.Tree.{branch}
use Rattle.search_tree.specs.Cells.{Cell, no_cell, cell_at}
use Rattle.search_tree.specs.Growth.{as_parent}
use Rattle.search_tree.specs.Turns.{IsBranched}

module _ (old children : List Cell) (at : ℕ) (w : Way) (there : at < length old)
    (wide : width w ≡ length children) where
  abbrev now : Cell
  now = as_parent (cell_at old at) (length old) (branch w)

  abbrev marked : List Cell
  marked = slice_set old at now

  same_length : length marked ≡ length old
  same_length = length-set old at now

  pub growth_branches : IsBranched old children (marked ++ children) at w
  growth_branches = record {
    wide = wide;
    len = length-append marked children ∙ ap (λ n. n + length children) same_length;
    others =
        λ j lt ne. get_or_append_left marked children no_cell j
        (let l = same_length in omega (arith, lt, l)) ∙ get_or-set_other old at j now no_cell ne;
    key = (cell_at old at).key;
    at_is =
        get_or_append_left marked children
        no_cell at (let l = same_length in omega (arith, there, l))
        ∙ get_or-set_same old at now no_cell there;
    children_are = λ k lt. ap (λ n. cell_at (marked ++ children) (n + k)) (sym same_length)
        ∙ get_or-append-add marked children k no_cell;
  }
