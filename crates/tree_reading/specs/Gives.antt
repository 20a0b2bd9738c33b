-- What a reader answers, by what the grammar reads: the value that the lines stand for, with what
-- is known of it, or their first fault. A view says which value of the rules a value of the code
-- is.
use Rattle.std.specs.Prelude.{◌≡◌, ◌+◌, ℕ, List, Result, Ok, Err}
use Rattle.tree_text_rules.specs.problem_rules.Problem.{Problem}
use Rattle.tree_text_rules.specs.tree_rules.Tree as trees
use Rattle.tree_text_rules.specs.tree_rules.Leaf.{Leaf}
use Rattle.tree_text_rules.specs.tree_rules.Known.{KnowsNode}
use Rattle.tree_text_rules.specs.tree_rules.Accepted.{Tree}
use Rattle.tree_text_rules.specs.Line.{Line}
use Rattle.tree_text_rules.specs.Read.{Fault, Taken, with_node, between, at_option, nodes_taken}
use Rattle.tree_text_rules.specs.declared.TreeKind.{TreeKind}
use Rattle.text_lines.specs.declared.fault.TextFault.{TextFault}
use Rattle.text_lines.specs.Tells.{Tells}
use Rattle.tree_reading.specs.Place.{IsBehind, lines_at}
use Rattle.tree_reading.specs.Taken.{taken}
use Rattle.tree_reading.specs.declared.cut.Cut.{Cut}

-- to the end of a text
abbrev pub Gives : {A B : Type 0} → (A → B) → (B → Type 0) → Result B Fault
    → Result A (TextFault TreeKind) → Type 0
Gives view Known reading (Ok a) = (reading ≡ Ok (view a)) × Known (view a)
Gives view Known reading (Err fault) = Tells reading fault

-- from a place on, with the place after what was read
pub record IsRead {A B : Type 0} (view : A → B) (Known : B → Type 0)
    (read : ℕ → List Line → Result (Taken B) Fault) (bytes : List ℕ) (cut : Cut)
    (found : A × Cut) : Type 0 where
  pub reads : read cut.line (lines_at bytes cut) ≡ Ok (taken (view found.0) bytes found.1)
  pub behind : IsBehind bytes cut found.1
  pub known : Known (view found.0)

abbrev pub GivesAt : {A B : Type 0} → (A → B) → (B → Type 0)
    → (ℕ → List Line → Result (Taken B) Fault) → List ℕ → Cut
    → Result (A × Cut) (TextFault TreeKind) → Type 0
GivesAt view Known read bytes cut (Ok found) = IsRead view Known read bytes cut found
GivesAt view Known read bytes cut (Err fault) = Tells (read cut.line (lines_at bytes cut)) fault

-- what is read of a tree after the line of a node with this option, with `count` subtrees after the
-- node
abbrev pub begun : Problem → List ℕ → ℕ → ℕ → List Line → Result (Taken Tree) Fault
begun p option count number lines = nodes_taken p (at_option option) count number lines

-- The node is the first in what is read; its children and the subtrees after it follow. The problem
-- knows the node.
pub record IsNode (p : Problem) (option bytes : List ℕ) (cut : Cut)
    (found : trees.TreeNode Leaf × Cut) : Type 0 where
  pub reads : (count : ℕ) → begun p option count cut.line (lines_at bytes cut)
      ≡ with_node found.0
      (nodes_taken p between (trees.children found.0.end + count) found.1.line
      (lines_at bytes found.1))
  pub behind : IsBehind bytes cut found.1
  pub option_is : found.0.option ≡ option
  pub known : KnowsNode p found.0
  pub whole : trees.HasChildren found.0.end

abbrev pub GivesNode : Problem → List ℕ → List ℕ → Cut
    → Result (trees.TreeNode Leaf × Cut) (TextFault TreeKind) → Type 0
GivesNode p option bytes cut (Ok found) = IsNode p option bytes cut found
GivesNode p option bytes cut (Err fault) =
    (count : ℕ) → Tells (begun p option count cut.line (lines_at bytes cut)) fault
