-- The text of a list of alternatives: it is spelled just so, and reads back. Without the line
-- `distinct`, its line `over` has no form.
use Rattle.std.proofs.Common.{◌≡◌, ◌++◌, ℕ, pos, true, false, List, [], ◌∷◌, codes, refl, Ok, Err}
use Rattle.std.proofs.Common.{Some, None}
use Rattle.std.specs.Fmt.{digits}
use Rattle.tree_text_rules.specs.pns_rules.Nodes.{starve, loose, sole}
use Rattle.tree_text_rules.specs.tree_rules.Ways.{at_material}
use Rattle.tree_text_rules.specs.tree_rules.Tree.{branch, leaf, TreeNode}
use Rattle.tree_text_rules.specs.tree_rules.Leaf as leaves
use Rattle.tree_text_rules.specs.tree_rules.Claim.{Network}
use Rattle.tree_text_rules.specs.tree_rules.Tail.{whole}
use Rattle.tree_text_rules.specs.Line.{Line, word_named}
use Rattle.tree_text_rules.specs.Read.{nodes_taken}
use Rattle.tree_text_rules.specs.declared.TreeKind.TheVariants.{BadLine}
use Rattle.rank_rules.specs.declared.naming.Naming.TheVariants.{Only, Within}
use Rattle.rank_rules.specs.Text.{Text}
use Rattle.rank_rules.specs.Opened.{opened, mark_read}
use Rattle.rank_rules.specs.Read.{is_distinct, read_text}
use Rattle.rank_rules.specs.Spelling.{rank_text}
use Rattle.rank_rules.proofs.Plant.{plant, text_with}

abbrev line : List ℕ → Line
line text = record { text = text; ended = true }

-- ---- lines

over_opened : (opened true (line (codes "over 1 1 0")) ≡ line (codes "open"))
    × (opened false (line (codes "over 1 1 0")) ≡ line (codes "over 1 1 0"))
    × (opened false (line (codes "named 1 1 0")) ≡ line (codes "open"))
    × (opened true (line (codes "overt 1 1 0")) ≡ line (codes "overt 1 1 0"))
unfolding digits word_named
over_opened = (refl, refl, refl, refl)

over_read : (mark_read true (line (codes "over 2 1 0"))
    ≡ Some (Ok (Some (record { way = Within; network = 2; d = pos 1; ys = pos 0 ∷ [] }))))
    × (mark_read true (line (codes "named 2 1 0"))
    ≡ Some (Ok (Some (record { way = Only; network = 2; d = pos 1; ys = pos 0 ∷ [] }))))
    × (mark_read false (line (codes "over 2 1 0")) ≡ None)
    × (mark_read true (line (codes "over")) ≡ Some (Err BadLine))
unfolding digits word_named
over_read = (refl, refl, refl, refl)

distinct_lines_are : (is_distinct (line (codes "distinct")) ≡ true)
    × (is_distinct (line (codes "distinct ")) ≡ false)
    × (is_distinct (line (codes "networks 2")) ≡ false)
distinct_lines_are = (refl, refl, refl)

-- ---- a whole text

abbrev shut : List ℕ → TreeNode leaves.Leaf
shut option = record { option = option; steps = []; end = leaf (leaves.untried None) }

abbrev listed : Network
listed =
    record {
      units = 0 ∷ 2 ∷ [];
      sizes = pos 20000000 ∷ pos 20000000 ∷ [];
      d = pos 1;
      cost =
          pos 75000000000000000000;
    }

abbrev other : Network
other =
    record {
      units = 1 ∷ 2 ∷ [];
      sizes = pos 20000000 ∷ pos 20000000 ∷ [];
      d = pos 1;
      cost =
          pos 86000000000000000000;
    }

abbrev alternatives : Text
alternatives = record {
  count = 2;
  distinct = true;
  networks = listed ∷ other ∷ [];
  tree =
      record {
        option = [];
        steps = starve 3 ∷ loose (4 ∷ []) ∷ sole 5 2 ∷ [];
        end =
            branch (at_material 2 3);
      }
      ∷ shut (0 ∷ [])
      ∷ shut (1 ∷ [])
      ∷ shut (0 ∷ 1 ∷ [])
      ∷ [];
  marks =
      Some
      (record {
        way = Only;
        network = 1;
        d = pos 1;
        ys =
            pos 0 ∷ pos 3000000 ∷ pos 3000000 ∷ [];
      })
      ∷ Some
      (record {
        way = Only;
        network = 2;
        d = pos 1;
        ys =
            pos 0 ∷ pos 4000000 ∷ pos 4000000 ∷ [];
      })
      ∷ Some
      (record {
        way = Within;
        network = 1;
        d = pos 1;
        ys =
            pos 0 ∷ pos 0 ∷ pos 3000000 ∷ pos 3000000 ∷ [];
      })
      ∷ [];
  tail = whole;
}

abbrev front : List (List ℕ)
front = codes "file_type=PNS_rank_v1" ∷ codes "count 2" ∷ []

abbrev rest : List (List ℕ)
rest =
    codes "networks 2"
    ∷ codes "network U1 U3"
    ∷ codes "sizes 1 20000000 20000000"
    ∷ codes "cost 75000000000000000000"
    ∷ codes "network U2 U3"
    ∷ codes "sizes 1 20000000 20000000"
    ∷ codes "cost 86000000000000000000"
    ∷ codes "node"
    ∷ codes "starve E"
    ∷ codes "loose U5"
    ∷ codes "sole P U3"
    ∷ codes "branch C 3"
    ∷ codes "node U1"
    ∷ codes "named 1 1 0 3000000 3000000"
    ∷ codes "node U2"
    ∷ codes "named 2 1 0 4000000 4000000"
    ∷ codes "node U1 U2"
    ∷ codes "over 1 1 0 0 3000000 3000000"
    ∷ codes "end"
    ∷ []

abbrev text : List ℕ
text = text_with (front ++ codes "distinct" ∷ rest)

text_is : (read_text plant text ≡ Ok alternatives) × (rank_text plant alternatives ≡ text)
unfolding digits nodes_taken word_named
text_is = (refl, refl)

-- in a ranking the line `over` is none of a leaf
needs_distinct : read_text plant (text_with (front ++ rest)) ≡ Err (20, BadLine)
unfolding digits nodes_taken word_named
needs_distinct = refl
