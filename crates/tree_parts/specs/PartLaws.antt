-- The laws of the text of parts, each of which a public function of this crate has as its contract.
use Rattle.std.specs.Prelude.{◌≡◌, ℕ, List, Result, Ok}
use Rattle.tree_text_laws.specs.problem_rules.Problem.{Problem}
use Rattle.tree_text_laws.specs.problem_rules.Validity.{IsValid}
use Rattle.tree_text_laws.specs.tree_rules.Known.{AreUnits}
use Rattle.tree_text_laws.specs.tree_text_rules.Read.{Fault, Certificate}
use Rattle.tree_text_laws.specs.Fits as trees
use Rattle.tree_text_laws.specs.tree_text_rules.Part.{Part, IsApart}
use Rattle.tree_text_laws.specs.tree_text_rules.PartRead.{PartReads}
use Rattle.tree_text_laws.specs.tree_text_rules.PartSpelling.{part_text}

-- what a part has of a tree text
abbrev pub certificate_of : Part → Certificate
certificate_of part = record { claim = part.claim; tree = part.tree; tail = part.tail }

-- What a text can have.
pub record Fits (p : Problem) (part : Part) : Type 0 where
  pub inside : AreUnits p part.inside
  pub outside : AreUnits p part.outside
  pub apart : IsApart part.inside part.outside
  pub rest : trees.Fits p (certificate_of part)

-- The text of a part that fits a valid problem has no fault, and stands for the part.
abbrev pub SpelledPartsRead : Type 0
SpelledPartsRead = (p : Problem) → IsValid p → (part : Part) → Fits p part
    → PartReads p (part_text p part) (Ok part)

-- A text without a fault is the one text of what it stands for, which fits the problem.
pub record IsSpelled (p : Problem) (bytes : List ℕ) (part : Part) : Type 0 where
  pub text : bytes ≡ part_text p part
  pub fits : Fits p part

abbrev pub ReadPartsAreSpelled : Type 0
ReadPartsAreSpelled = (p : Problem) → IsValid p → (bytes : List ℕ) (part : Part)
    → PartReads p bytes (Ok part) → IsSpelled p bytes part

-- A text stands for one part, or has one first fault.
abbrev pub PartsAreReadOnce : Type 0
PartsAreReadOnce = (p : Problem) → IsValid p → (bytes : List ℕ) (one other : Result Part Fault)
    → PartReads p bytes one → PartReads p bytes other → one ≡ other
