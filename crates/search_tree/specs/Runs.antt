-- What is still to visit, as runs of numbers that follow one another, the next one to visit on top
-- of the stack.
use Rattle.std.specs.Prelude.{ℕ, ◌+◌, List, [], ◌∷◌, ◌++◌}
use Rattle.std.specs.List.{range_with_len}
use Rattle.search_tree.specs.declared.walk.Run.{Run}

-- the next number, and those that follow it
abbrev pub numbers_of : Run → List ℕ
numbers_of r = r.next ∷ range_with_len (r.next + 1) r.more

-- the last run of the stack is its top
abbrev pub to_come : List Run → List ℕ
to_come [] = []
to_come (r ∷ rs) = to_come rs ++ numbers_of r
