-- The lines of values, and readings that take the lines of each value that fits, and no others.
use Rattle.std.specs.Prelude.{◌≡◌, ◌+◌, ℕ, List, [], ◌∷◌, ◌++◌, length, map, None, Result, Ok}
use Rattle.tree_text_rules.specs.problem_rules.Problem.{Problem}
use Rattle.tree_text_rules.specs.Line.{Token, Line}
use Rattle.tree_text_rules.specs.LineRead.{step_read, cover_read, head_read}
use Rattle.tree_text_rules.specs.Read.{Fault, Taken}
use Rattle.tree_text_laws.specs.Codes.{line_of}

abbrev pub lines_said : List (List Token) → List Line
lines_said lines = map line_of lines

-- from any number on, a reading takes exactly the lines of a value, and leaves those that follow
pub record TakesJust {A : Type 0} (read : ℕ → List Line → Result (Taken A) Fault)
    (spell : A → List (List Token)) (Fits : A → Type 0) : Type 0 where
  pub takes : (a : A) (number : ℕ) (behind : List Line) → Fits a
      → read number (lines_said (spell a) ++ behind)
      ≡ Ok (record { what = a; number = number + length (spell a); behind = behind })
  pub lines_are : (number : ℕ) (lines : List Line) (taken : Taken A) → read number lines ≡ Ok taken
      → lines ≡ lines_said (spell taken.what) ++ taken.behind
  pub number_is : (number : ℕ) (lines : List Line) (taken : Taken A) → read number lines ≡ Ok taken
      → taken.number ≡ number + length (spell taken.what)
  pub fits : (number : ℕ) (lines : List Line) (taken : Taken A) → read number lines ≡ Ok taken
      → Fits taken.what

-- the same of a reading that goes on as long as it can, if what follows stops it
pub record TakesBefore {A : Type 0} (Stops : List Line → Type 0)
    (read : ℕ → List Line → Result (Taken A) Fault) (spell : A → List (List Token))
    (Fits : A → Type 0) : Type 0 where
  pub takes : (a : A) (number : ℕ) (behind : List Line) → Fits a → Stops behind
      → read number (lines_said (spell a) ++ behind)
      ≡ Ok (record { what = a; number = number + length (spell a); behind = behind })
  pub lines_are : (number : ℕ) (lines : List Line) (taken : Taken A) → read number lines ≡ Ok taken
      → lines ≡ lines_said (spell taken.what) ++ taken.behind
  pub number_is : (number : ℕ) (lines : List Line) (taken : Taken A) → read number lines ≡ Ok taken
      → taken.number ≡ number + length (spell taken.what)
  pub fits : (number : ℕ) (lines : List Line) (taken : Taken A) → read number lines ≡ Ok taken
      → Fits taken.what

-- from any number on, a reading gives a value for just its lines, after which the text ends
pub record ReadsJust {A : Type 0} (read : ℕ → List Line → Result A Fault)
    (spell : A → List (List Token)) (Fits : A → Type 0) : Type 0 where
  pub reads : (a : A) (number : ℕ) → Fits a → read number (lines_said (spell a)) ≡ Ok a
  pub lines_are : (number : ℕ) (lines : List Line) (a : A) → read number lines ≡ Ok a
      → lines ≡ lines_said (spell a)
  pub fits : (number : ℕ) (lines : List Line) (a : A) → read number lines ≡ Ok a → Fits a

-- the first line, where there is one, is no set of a charge
abbrev pub BeginsNoSet : Problem → List Line → Type 0
BeginsNoSet p [] = Unit {0}
BeginsNoSet p (line ∷ lines) = cover_read p line ≡ None

-- the first line, where there is one, is no line of a head, and no set of one
abbrev pub BeginsNoFront : Problem → List Line → Type 0
BeginsNoFront p [] = Unit {0}
BeginsNoFront p (line ∷ lines) = (head_read p line ≡ None) × (cover_read p line ≡ None)

-- the first line, where there is one, is no step
abbrev pub BeginsNoStep : Problem → List Line → Type 0
BeginsNoStep p [] = Unit {0}
BeginsNoStep p (line ∷ lines) = step_read p line ≡ None
