-- Values and their one spelling, as a token or as a line. A reading gives a value for its spelling
-- alone, and gives each value that fits.
use Rattle.std.specs.Prelude.{◌≡◌, true, false, List, Result, Ok}
use Rattle.std.specs.List.{list_any}
use Rattle.tree_text_rules.specs.problem_rules.Each.{Each}
use Rattle.tree_text_rules.specs.text_rules.Canonical.{joined}
use Rattle.tree_text_rules.specs.Line.{Token, Line, is_feed, is_space, has_bytes}
use Rattle.tree_text_rules.specs.declared.TreeKind.{TreeKind}

-- a text that can be a token: bytes, and no space or line feed among them
pub record IsToken (text : Token) : Type 0 where
  pub some : has_bytes text ≡ true
  pub space : list_any is_space text ≡ false
  pub feed : list_any is_feed text ≡ false

-- the line of tokens: separated by a space, and ended
abbrev pub line_of : List Token → Line
line_of tokens = record { text = joined 32 tokens; ended = true }

-- a value is one token
pub record IsCode {A : Type 0} (read : Token → Result A TreeKind) (spell : A → Token)
    (Fits : A → Type 0) : Type 0 where
  pub back : (token : Token) (a : A) → read token ≡ Ok a → (token ≡ spell a) × Fits a
  pub again : (a : A) → Fits a → read (spell a) ≡ Ok a
  pub token : (a : A) → Fits a → IsToken (spell a)

-- a value is one line
pub record IsLineCode {A : Type 0} (read : Line → Result A TreeKind) (spell : A → List Token)
    (Fits : A → Type 0) : Type 0 where
  pub back : (line : Line) (a : A) → read line ≡ Ok a → (line ≡ line_of (spell a)) × Fits a
  pub again : (a : A) → Fits a → read (line_of (spell a)) ≡ Ok a
  pub tokens : (a : A) → Fits a → Each IsToken (spell a)
