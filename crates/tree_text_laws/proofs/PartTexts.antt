-- A reading of several lines goes on after a line that it can read, and no other.
use Rattle.std.proofs.Common.{◌≡◌, ℕ, List, [], ◌∷◌, Result, Ok, Err, refl, ap}
use Rattle.tree_text_rules.specs.Line.{Token, Line}
use Rattle.tree_text_rules.specs.Read.{Fault, Taken, on_line, first_line, then_read}
use Rattle.tree_text_rules.specs.declared.TreeKind.{TreeKind}
use Rattle.tree_text_laws.specs.Codes.{line_of, IsLineCode}

abbrev pub good : {A : Type 0} → A → Result A Fault
good a = Ok a

pub good_is : {A : Type 0} (a b : A) → good a ≡ good b → a ≡ b
good_is a b e = cc

pub on_line_ok : {A B : Type 0} (number : ℕ) (r : Result A TreeKind) (read : A → Result B Fault)
    (b : B) → on_line number r read ≡ Ok b → (a : A) × (r ≡ Ok a) × (read a ≡ Ok b)
on_line_ok number (Ok a) read b e = (a, refl, e)
on_line_ok number (Err kind) read b e = absurd cc

pub then_ok : {A B : Type 0} (r : Result (Taken A) Fault)
    (read : A → ℕ → List Line → Result B Fault) (b : B) → then_read r read ≡ Ok b
    → (taken : Taken A) × (r ≡ Ok taken) × (read taken.what taken.number taken.behind ≡ Ok b)
then_ok (Ok taken) read b e = (taken, refl, e)
then_ok (Err fault) read b e = absurd cc

-- lines that begin with that of a value, after which the reading goes on
pub record Begins {A B : Type 0} (spell : A → List Token) (Fits : A → Type 0) (lines : List Line)
    (read : A → List Line → Result B Fault) (b : B) : Type 0 where
  pub what : A
  pub rest : List Line
  pub lines_are : lines ≡ line_of (spell what) ∷ rest
  pub fits : Fits what
  pub reads : read what rest ≡ Ok b

module _ {A B : Type 0} (judge : Line → Result A TreeKind) (spell : A → List Token)
    (Fits : A → Type 0) (is : IsLineCode judge spell Fits) where
  pub first_back : (number : ℕ) (lines : List Line) (read : A → List Line → Result B Fault) (b : B)
      → first_line judge number lines read ≡ Ok b → Begins spell Fits lines read b
  first_back number [] read b e = absurd cc
  first_back number (line ∷ lines) read b e =
      let o = on_line_ok number (judge line) (λ a. read a lines) b e in
      let s = is.back line o.0 o.1 in
      record {
        what = o.0;
        rest = lines;
        lines_are = ap (λ (l : Line). l ∷ lines) s.0;
        fits =
            s.1;
        reads = o.2;
      }

  pub first_again : (number : ℕ) (a : A) (rest : List Line) (read : A → List Line → Result B Fault)
      → Fits a → first_line judge number (line_of (spell a) ∷ rest) read ≡ read a rest
  first_again number a rest read fits =
      ap (λ (r : Result A TreeKind). on_line number r (λ a. read a rest)) (is.again a fits)
