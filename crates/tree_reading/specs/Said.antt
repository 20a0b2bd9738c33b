-- What a text says whose tree may have a head.
use Rattle.tree_text_rules.specs.problem_rules.Problem.{Problem}
use Rattle.branch_tree.specs.View.{claim_of, tail_of}
use Rattle.tree_text_rules.specs.tree_rules.Known.{KnowsClaim, KnowsTree, KnowsTail}
use Rattle.tree_text_rules.specs.tree_rules.HeadKnown.{KnowsHead}
use Rattle.tree_text_rules.specs.Read.{HeadedCertificate}
use Rattle.tree_reading.specs.declared.text.Headed.{Headed}

abbrev pub said_by : Headed → HeadedCertificate
said_by c =
    record { claim = claim_of c.claim; head = c.head; tree = c.tree; tail = tail_of c.tail }

-- the problem knows what it speaks of
pub record KnowsSaid (p : Problem) (c : Headed) : Type 0 where
  pub claim : KnowsClaim p (claim_of c.claim)
  pub head : KnowsHead p c.head
  pub tree : KnowsTree p c.tree
  pub tail : KnowsTail p (tail_of c.tail)
