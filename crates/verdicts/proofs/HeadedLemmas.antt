-- Heads without lines.
use Rattle.std.proofs.Common.{◌≡◌, ◌==◌, List, [], ◌∷◌, length, refl, arith}
use Rattle.std.proofs.lemmas.Bool.{ne_eqb}
use Rattle.tree_parts.specs.branch_tree.HeadView.{lines_of}
use Rattle.tree_parts.specs.branch_tree.declared.line.HeadLine.{HeadLine}
use Rattle.report_rules.specs.HeadedVerdict.{is_plain}

-- a head has no lines just if its list is empty
pub plain_of : (lines : List HeadLine) → (length lines == 0) ≡ is_plain (lines_of lines)
plain_of [] = refl
plain_of (line ∷ lines) = ne_eqb (length (line ∷ lines)) 0 (λ e. omega (arith, e))
