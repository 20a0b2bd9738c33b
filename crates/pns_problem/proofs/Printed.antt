-- How far a list is printed: the items that remain complete the text.
use Rattle.std.proofs.Common.{◌≡◌, ◌++◌, ℕ, List, false, drop, map}
use Rattle.text_rules.specs.problem_rules.Problem.{Term}
use Rattle.text_rules.specs.problem_rules.Each.{Each}
use Rattle.text_rules.specs.problem_rules.Validity.{names_no_material}
use Rattle.text_rules.specs.Canonical.{name_at}
use Rattle.pns_problem.specs.Printing.{printed, further_items, further_terms, AreKnown}

pub record AreTermsPrinted (materials : ℕ) (names : List (List ℕ)) (terms : List Term) (k : ℕ)
    (old text : List ℕ) : Type 0 where
  pub known : names_no_material materials (drop k terms) ≡ false
  pub whole : text ++ further_terms names (drop k terms) ≡ old ++ further_terms names terms

pub record AreMembersPrinted (units : ℕ) (names : List (List ℕ)) (members : List ℕ) (k : ℕ)
    (old text : List ℕ) : Type 0 where
  pub known : AreKnown units (drop k members)
  pub whole : text ++ further_items (map (name_at names) (drop k members)) ≡ old
      ++ further_items (map (name_at names) members)

pub record AreLinesPrinted {X : Type 0} (line : X → List ℕ) (xs : List X) (k : ℕ)
    (old text : List ℕ) : Type 0 where
  pub whole : text ++ printed (map line (drop k xs)) ≡ old ++ printed (map line xs)

-- the same, of items that are fit to be printed
pub record AreFitLinesPrinted {X : Type 0} (Fit : X → Type 0) (line : X → List ℕ) (xs : List X)
    (k : ℕ) (old text : List ℕ) : Type 0 where
  pub fit : Each Fit (drop k xs)
  pub whole : text ++ printed (map line (drop k xs)) ≡ old ++ printed (map line xs)
