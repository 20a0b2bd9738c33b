-- The first fault of whole texts: line ends, missing lines, and what follows the last.
use Rattle.std.proofs.Common.{◌++◌, List, [], ◌∷◌, codes, refl, ℕ}
use Rattle.tree_text_rules.specs.Line.{word_named}
use Rattle.tree_text_rules.specs.Read.{Fault, nodes_taken}
use Rattle.tree_text_rules.specs.declared.TreeKind.TheVariants.{FileType, BadLine, UnknownName}
use Rattle.tree_text_rules.specs.declared.TreeKind.TheVariants.{MoreNodes, FewerNodes, AfterEnd}
use Rattle.tree_text_rules.proofs.Plant.{First, lines, body}

firsts : List (List ℕ × Fault)
firsts =
    ([], (1, FileType)) ∷
    (codes "file_type=PNS_tree_v1", (1, FileType)) ∷
    (lines (codes "file_type=PNS_tree_v1 " ∷ []), (1, FileType)) ∷
    (lines ([] ∷ codes "file_type=PNS_tree_v1" ∷ []), (1, FileType)) ∷
    (body [], (2, BadLine)) ∷
    (body (codes "network U1" ∷ []), (3, BadLine)) ∷
    (body (codes "unknown" ∷ []), (3, BadLine)) ∷
    (body (codes "unknown" ∷ codes "node" ∷ []), (4, BadLine)) ∷
    (body (codes "unknown" ∷ codes "node" ∷ []) ++ codes "open", (4, BadLine)) ∷
    (body (codes "unknown" ∷ codes "node" ∷ codes "open" ∷ []), (5, BadLine)) ∷
    (body (codes "unknown" ∷ codes "node" ∷ codes "open" ∷ []) ++ codes "end", (5, BadLine)) ∷
    (body (codes "unknown" ∷ codes "node" ∷ codes "open" ∷ []) ++ codes "node", (5, MoreNodes))
    ∷ (
      body (codes "unknown" ∷ codes "node" ∷ codes "branch A 2" ∷ codes "node" ∷ codes "open"
          ∷ [])
          ++ codes "end",
      (7, FewerNodes),
    ) ∷ (
      body (codes "unknown" ∷ codes "node" ∷ codes "either U1" ∷ codes "node U1" ∷ codes "open"
          ∷ codes "end" ∷ []),
      (7, FewerNodes),
    ) ∷ (
      body (codes "unknown" ∷ codes "node" ∷ codes "either U1" ∷ codes "node U1" ∷ codes "open"
          ∷ []),
      (7, BadLine),
    ) ∷ (
      body (codes "unknown" ∷ codes "node" ∷ codes "either U1" ∷ codes "node" ∷ codes "open"
          ∷ codes "node" ∷ codes "open" ∷ codes "node" ∷ []),
      (9, MoreNodes),
    ) ∷ (
      body (codes "unknown" ∷ codes "node" ∷ codes "open" ∷ codes "end" ∷ []) ++ 32 ∷ [],
      (6, AfterEnd),
    ) ∷ (
      body (codes "unknown" ∷ codes "node" ∷ codes "open" ∷ codes "end" ∷ codes "end" ∷ []),
      (6, AfterEnd),
    ) ∷
    (body (codes "unknown" ∷ codes "node" ∷ codes "dead Q" ∷ codes "node" ∷ []), (4, UnknownName))
    ∷ (
      body (codes "unknown" ∷ codes "node" ∷ codes "charge 1" ∷ codes "some 1 U1" ∷ []),
      (6, BadLine),
    ) ∷ (
      body (codes "unknown" ∷ codes "node" ∷ codes "charge 1" ∷ codes "some 1 U1" ∷ [])
          ++ codes "some 1 U1",
      (6, BadLine),
    ) ∷ (
      body (codes "unknown" ∷ codes "node" ∷ codes "either U1" ∷ codes "node U1"
          ∷ codes "charge 1"
          ∷ []),
      (7, BadLine),
    ) ∷
    (body (codes "unknown" ∷ codes "node" ∷ codes "open" ∷ codes "spent 0 3" ∷ []), (6, BadLine))
    ∷ (
      body (codes "unknown" ∷ codes "node" ∷ codes "open" ∷ codes "spent 0 3" ∷ codes "node"
          ∷ []),
      (6, MoreNodes),
    ) ∷ (
      body (codes "unknown" ∷ codes "node" ∷ codes "open" ∷ (codes "end" ++ 13 ∷ []) ∷ []),
      (5, BadLine),
    ) ∷
    []

firsts_told : First firsts
unfolding firsts word_named nodes_taken
firsts_told = refl
