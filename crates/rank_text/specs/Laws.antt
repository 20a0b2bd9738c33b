-- The laws of the text of rankings. Each is the contract of a public function of this crate.
use Rattle.std.specs.Prelude.{◌≡◌, ℕ, List, Ok}
use Rattle.tree_text_laws.specs.problem_rules.Problem.{Problem}
use Rattle.tree_text_laws.specs.problem_rules.Validity.{IsValid}
use Rattle.rank_check.specs.rank_rules.Text.{Text}
use Rattle.rank_check.specs.rank_rules.Read.{read_text}
use Rattle.rank_check.specs.rank_rules.Spelling.{rank_text}
use Rattle.rank_text.specs.Fits.{Fits}

-- The text of a ranking that fits a valid problem has no fault, and stands for the ranking.
abbrev pub SpelledRanksRead : Type 0
SpelledRanksRead = (p : Problem) → IsValid p → (t : Text) → Fits p t
    → read_text p (rank_text p t) ≡ Ok t

-- A text without a fault is the one text of what it stands for, which fits the problem.
pub record IsSpelled (p : Problem) (bytes : List ℕ) (t : Text) : Type 0 where
  pub text : bytes ≡ rank_text p t
  pub fits : Fits p t

abbrev pub ReadRanksAreSpelled : Type 0
ReadRanksAreSpelled = (p : Problem) → IsValid p → (bytes : List ℕ) (t : Text)
    → read_text p bytes ≡ Ok t → IsSpelled p bytes t
