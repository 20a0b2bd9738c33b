-- What a text can have: claims, trees and tails that a problem knows, with networks that are sized,
-- numbers in range, and counts that a line can have.
use Rattle.tree_text_rules.specs.problem_rules.Each.{Each}
use Rattle.tree_text_rules.specs.problem_rules.Problem.{Problem}
use Rattle.tree_text_rules.specs.tree_rules.Tree as trees
use Rattle.tree_text_rules.specs.tree_rules.Accepted.{Tree}
use Rattle.tree_text_rules.specs.tree_rules.Claim as claims
use Rattle.tree_text_rules.specs.tree_rules.Known.{AreUnits, KnowsClaim, KnowsStep, KnowsTree}
use Rattle.tree_text_rules.specs.tree_rules.Known.{KnowsTail}
use Rattle.branch_tree.specs.Sized.{IsKept}
use Rattle.tree_text_rules.specs.tree_rules.Tail as tails
use Rattle.tree_text_rules.specs.tree_rules.HeadKnown.{KnowsHead}
use Rattle.tree_text_rules.specs.Read.{Certificate, HeadedCertificate, Head}
use Rattle.tree_text_laws.specs.LineFits.{IsCount, IsOptionCount, CountsEnd, CountsPlace}

abbrev pub CountsTree : Tree → Type 0
CountsTree tree = Each (λ t. CountsEnd t.end) tree

abbrev pub CountsTail : tails.Tail → Type 0
CountsTail tails.whole = Unit {0}
CountsTail (tails.spent next options) = IsCount next × IsOptionCount options
CountsTail (tails.past node nonbasic place) = IsCount node × CountsPlace place

abbrev pub KeepsClaim : claims.Claim → Type 0
KeepsClaim (claims.network w) = IsKept w
KeepsClaim claims.infeasible = Unit {0}
KeepsClaim claims.unknown = Unit {0}

pub record FitsNetwork (p : Problem) (w : claims.Network) : Type 0 where
  pub known : AreUnits p w.units
  pub kept : IsKept w

pub record FitsClaim (p : Problem) (claim : claims.Claim) : Type 0 where
  pub known : KnowsClaim p claim
  pub kept : KeepsClaim claim

-- a node without its end
pub record FitsHead (p : Problem) (head : Head) : Type 0 where
  pub option : AreUnits p head.option
  pub steps : Each (KnowsStep p) head.steps

-- one whole tree
pub record FitsTree (p : Problem) (tree : Tree) : Type 0 where
  pub whole : trees.IsTree tree
  pub known : KnowsTree p tree
  pub counted : CountsTree tree

pub record FitsTail (p : Problem) (tail : tails.Tail) : Type 0 where
  pub known : KnowsTail p tail
  pub counted : CountsTail tail

pub record Fits (p : Problem) (c : Certificate) : Type 0 where
  pub claim : FitsClaim p c.claim
  pub tree : FitsTree p c.tree
  pub tail : FitsTail p c.tail

pub record FitsHeaded (p : Problem) (c : HeadedCertificate) : Type 0 where
  pub claim : FitsClaim p c.claim
  pub head : KnowsHead p c.head
  pub tree : FitsTree p c.tree
  pub tail : FitsTail p c.tail
