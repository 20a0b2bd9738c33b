-- A line of a text that is judged when it is reached.
use Rattle.std.specs.Prelude.{◌≡◌, ℕ, List, [], ◌∷◌, Result, Ok, Err}
use Rattle.tree_text_laws.specs.tree_text_rules.Line.{Line}
use Rattle.tree_text_laws.specs.tree_text_rules.declared.TreeKind.{TreeKind}
use Rattle.tree_text_laws.specs.tree_text_rules.declared.TreeKind.TheVariants.{BadLine}
use Rattle.tree_reading.specs.text_lines.declared.fault.TextFault.{TextFault}
use Rattle.tree_reading.specs.text_lines.declared.fault.TextFault.TheVariants.{At, Memory}

-- the first of the lines stands for the set, and those after it are left
pub record IsTaken (Judged : Line → Result (List ℕ) TreeKind → Type 0) (lines : List Line)
    (units : List ℕ) (behind : List Line) : Type 0 where
  pub line : Line
  pub judged : Judged line (Ok units)
  pub cut : lines ≡ line ∷ behind

-- the first of the lines has this fault; one that is missing is bad
abbrev pub HasKind : (Line → Result (List ℕ) TreeKind → Type 0) → List Line → TreeKind → Type 0
HasKind Judged [] kind = kind ≡ BadLine
HasKind Judged (line ∷ lines) kind = Judged line (Err kind)

abbrev pub IsFaultAt : (Line → Result (List ℕ) TreeKind → Type 0) → ℕ → List Line
    → TextFault TreeKind → Type 0
IsFaultAt Judged number lines Memory = ⊥
IsFaultAt Judged number lines (At line kind) = (line ≡ number) × HasKind Judged lines kind
