-- The laws of the text of branch trees, each the contract of a public function of this crate.
use Rattle.std.specs.Prelude.{◌≡◌, ◌+◌, ℕ, List, [], ◌++◌, length, None, Ok}
use Rattle.tree_text_rules.specs.problem_rules.Problem.{Problem}
use Rattle.tree_text_rules.specs.problem_rules.Validity.{IsValid}
use Rattle.tree_text_rules.specs.tree_rules.HeadKnown.{KnowsHead}
use Rattle.tree_text_rules.specs.Line.{Line}
use Rattle.tree_text_rules.specs.Read.{Taken, Certificate, Head, network_taken}
use Rattle.tree_text_rules.specs.Read.{claim_taken}
use Rattle.tree_text_rules.specs.Read.{head_taken, end_taken, front_taken, tree_taken, tail_taken}
use Rattle.tree_text_rules.specs.Read.{rest_taken}
use Rattle.tree_text_rules.specs.Read.{read_text, HeadedCertificate, headed_rest_taken}
use Rattle.tree_text_rules.specs.Read.{read_headed_text}
use Rattle.tree_text_rules.specs.Spelling.{network_lines, claim_lines, head_lines}
use Rattle.tree_text_rules.specs.Spelling.{end_with_sets}
use Rattle.tree_text_rules.specs.Spelling.{tree_lines, tail_lines, rest_lines, tree_text}
use Rattle.tree_text_rules.specs.Spelling.{front_lines, headed_rest_lines, headed_text}
use Rattle.tree_text_laws.specs.LineFits.{FitsEnd}
use Rattle.tree_text_laws.specs.Fits.{FitsNetwork, FitsClaim, FitsHead, FitsTree}
use Rattle.tree_text_laws.specs.Fits.{FitsTail}
use Rattle.tree_text_laws.specs.Fits.{Fits, FitsHeaded}
use Rattle.tree_text_laws.specs.Lines.{lines_said, TakesJust, TakesBefore, ReadsJust}
use Rattle.tree_text_laws.specs.Lines.{BeginsNoSet, BeginsNoFront}
use Rattle.tree_text_laws.specs.Lines.{BeginsNoStep}

-- ---- whole texts

-- The text of a claim, a tree and a tail that fit a valid problem has no fault, and stands for
-- them.
abbrev pub SpelledTextsRead : Type 0
SpelledTextsRead = (p : Problem) → IsValid p → (c : Certificate) → Fits p c
    → read_text p (tree_text p c.claim c.tree c.tail) ≡ Ok c

-- A text without a fault is the one text of what it stands for, which fits the problem.
pub record IsSpelled (p : Problem) (bytes : List ℕ) (c : Certificate) : Type 0 where
  pub text : bytes ≡ tree_text p c.claim c.tree c.tail
  pub fits : Fits p c

abbrev pub ReadTextsAreSpelled : Type 0
ReadTextsAreSpelled = (p : Problem) → IsValid p → (bytes : List ℕ) (c : Certificate)
    → read_text p bytes ≡ Ok c → IsSpelled p bytes c

-- So no two that fit have one text.
abbrev pub TextsTell : Type 0
TextsTell = (p : Problem) → IsValid p → (c d : Certificate) → Fits p c → Fits p d
    → tree_text p c.claim c.tree c.tail ≡ tree_text p d.claim d.tree d.tail → c ≡ d

-- ---- texts in which the lines of a head may come before the first node

-- The text of a claim, a head, a tree and a tail that fit a valid problem has no fault, and stands
-- for them.
abbrev pub SpelledHeadedTextsRead : Type 0
SpelledHeadedTextsRead = (p : Problem) → IsValid p → (c : HeadedCertificate) → FitsHeaded p c
    → read_headed_text p (headed_text p c.claim c.head c.tree c.tail) ≡ Ok c

-- A text without a fault is the one text of what it stands for, which fits the problem.
pub record IsSpelledHeaded (p : Problem) (bytes : List ℕ) (c : HeadedCertificate) : Type 0 where
  pub text : bytes ≡ headed_text p c.claim c.head c.tree c.tail
  pub fits : FitsHeaded p c

abbrev pub ReadHeadedTextsAreSpelled : Type 0
ReadHeadedTextsAreSpelled = (p : Problem) → IsValid p → (bytes : List ℕ) (c : HeadedCertificate)
    → read_headed_text p bytes ≡ Ok c → IsSpelledHeaded p bytes c

-- A text of a tree without a head stands for the same tree, with a head that has no lines.
abbrev pub PlainTextsAreHeaded : Type 0
PlainTextsAreHeaded = (p : Problem) → IsValid p → (bytes : List ℕ) (c : Certificate)
    → read_text p bytes ≡ Ok c
    → read_headed_text p bytes
    ≡ Ok (record { claim = c.claim; head = []; tree = c.tree; tail = c.tail })

-- ---- parts of a text

abbrev pub NetworksAreTaken : Type 0
NetworksAreTaken = (p : Problem) → IsValid p
    → TakesJust (network_taken p) (network_lines p) (FitsNetwork p)

abbrev pub ClaimsAreTaken : Type 0
ClaimsAreTaken = (p : Problem) → IsValid p
    → TakesJust (claim_taken p) (claim_lines p) (FitsClaim p)

-- after an end and a tree comes no set of a charge, which would be one of its last
abbrev pub EndsAreTaken : Type 0
EndsAreTaken = (p : Problem) → IsValid p
    → TakesBefore (BeginsNoSet p) (end_taken p) (end_with_sets p) (FitsEnd p)

abbrev pub TreesAreTaken : Type 0
TreesAreTaken = (p : Problem) → IsValid p
    → TakesBefore (BeginsNoSet p) (tree_taken p) (tree_lines p) (FitsTree p)

-- after a head comes no line of one, and no set
abbrev pub HeadsAreTaken : Type 0
HeadsAreTaken = (p : Problem) → IsValid p
    → TakesBefore (BeginsNoFront p) (front_taken p None) (front_lines p) (KnowsHead p)

abbrev pub TailsAreRead : Type 0
TailsAreRead = (p : Problem) → IsValid p
    → ReadsJust (tail_taken p) (tail_lines p) (FitsTail p)

-- all lines but the first
abbrev pub RestsAreRead : Type 0
RestsAreRead = (p : Problem) → IsValid p
    → ReadsJust (rest_taken p) (λ c. rest_lines p c.claim c.tree c.tail) (Fits p)

abbrev pub HeadedRestsAreRead : Type 0
HeadedRestsAreRead = (p : Problem) → IsValid p
    → ReadsJust (headed_rest_taken p) (λ c. headed_rest_lines p c.claim c.head c.tree c.tail)
    (FitsHeaded p)

-- ---- a node's line and its steps, after which no step follows

abbrev pub SpelledHeadsRead : Type 0
SpelledHeadsRead =
    (p : Problem) → IsValid p → (head : Head) (number : ℕ) (behind : List Line)
    → FitsHead p head
    → BeginsNoStep p behind
    → head_taken p number (lines_said (head_lines p head.option head.steps) ++ behind)
    ≡ Ok
    (record {
      what = head;
      number =
          number + length (head_lines p head.option head.steps);
      behind = behind;
    })

pub record IsHeadOf (p : Problem) (number : ℕ) (lines : List Line)
    (taken : Taken Head) : Type
    0 where
  pub lines_are : lines ≡ lines_said (head_lines p taken.what.option taken.what.steps)
      ++ taken.behind
  pub number_is : taken.number ≡ number
      + length (head_lines p taken.what.option taken.what.steps)
  pub fits : FitsHead p taken.what
  pub stops : BeginsNoStep p taken.behind

abbrev pub ReadHeadsAreSpelled : Type 0
ReadHeadsAreSpelled = (p : Problem) → IsValid p
    → (number : ℕ) (lines : List Line) (taken : Taken Head)
    → head_taken p number lines ≡ Ok taken
    → IsHeadOf p number lines taken
