-- A ranking with exactly one mark for each open leaf, as its text has it. Marks after that of the
-- last open leaf make no difference to the ranked tree. A missing mark stands for an open leaf, and
-- makes none either.
use Rattle.std.specs.Prelude.{◌≤◌, ℕ, List, [], ◌∷◌, Some, None}
use Rattle.rank_text.specs.integer_laws.Range.{InRange, AllInRange}
use Rattle.rank_text.specs.tree_rules.Tree.{TreeNode, End, branch, leaf}
use Rattle.rank_text.specs.tree_rules.Leaf.{Leaf, dead, clash, refuted, bounded, charged, untried}
use Rattle.rank_text.specs.tree_rules.Accepted.{Tree}
use Rattle.rank_text.specs.rank_rules.Marked.{Mark, first_mark, marks_behind}
use Rattle.rank_text.specs.rank_rules.Text.{Text}

-- the mark of an open leaf, and after it those of the nodes that follow
abbrev pub with_mark : List Mark → End Leaf → List Mark → List Mark
with_mark ms (branch w) behind = behind
with_mark ms (leaf (dead x)) behind = behind
with_mark ms (leaf (clash k)) behind = behind
with_mark ms (leaf (refuted ys)) behind = behind
with_mark ms (leaf (bounded d ys)) behind = behind
with_mark ms (leaf (charged h)) behind = behind
with_mark ms (leaf (untried low)) behind = first_mark ms ∷ behind

abbrev pub marks_for : Tree → List Mark → List Mark
marks_for [] ms = []
marks_for (t ∷ ts) ms = with_mark ms t.end (marks_for ts (marks_behind ms t.end))

abbrev pub normal : Text → Text
normal t =
    record {
      count = t.count;
      distinct = t.distinct;
      networks = t.networks;
      tree = t.tree;
      marks =
          marks_for t.tree t.marks;
      tail = t.tail;
    }

-- the numbers of a mark are those of the code's types
abbrev pub IsMarkInRange : Mark → Type 0
IsMarkInRange None = Unit {0}
IsMarkInRange (Some m) = (m.network ≤ 4294967295) × InRange m.d × AllInRange m.ys
