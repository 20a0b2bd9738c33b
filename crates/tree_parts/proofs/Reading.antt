-- The part that the lines of a text stand for, or its first fault after the first set.
use Rattle.std.proofs.Common.{◌≡◌, ℕ, suc, true, List, [], ◌∷◌, codes, Result, Err, sym, ap, ◌∙◌}
use Rattle.std.proofs.Common.{subst, inl, inr}
use Rattle.tree_text_laws.specs.problem_rules.Problem.{Problem}
use Rattle.tree_text_laws.specs.tree_text_rules.Line.{Line, lines_of}
use Rattle.tree_text_laws.specs.tree_text_rules.Read.{Fault, Certificate, rest_taken}
use Rattle.tree_text_laws.specs.tree_text_rules.declared.TreeKind.{TreeKind}
use Rattle.tree_reading.specs.text_lines.Tells.{Tells}
use Rattle.tree_reading.specs.text_lines.declared.fault.TextFault.{TextFault}
use Rattle.tree_reading.specs.text_lines.declared.fault.TextFault.TheVariants.{At, Memory}
use Rattle.tree_text_laws.specs.tree_text_rules.Part.{Part}
use Rattle.tree_text_laws.specs.tree_text_rules.PartRead.{SetLine, FirstLine, StartReads}
use Rattle.tree_text_laws.specs.tree_text_rules.PartRead.{BehindType, LinesRead, PartReads}
use Rattle.tree_text_laws.specs.tree_text_rules.PartRead.{is_file_type, with_start}
use Rattle.tree_parts.specs.Lines.{IsTaken, HasKind, IsFaultAt}
use Rattle.tree_parts.specs.Tells.{TellsPart}

-- ---- a line that is judged, and the lines after it

module _ (Judged : Line → Result (List ℕ) TreeKind → Type 0) (number : ℕ)
    (Read : List ℕ → List Line → Result Part Fault → Type 0) where
  first_taken : {lines : List Line} {units : List ℕ} {behind : List Line} (r : Result Part Fault)
      → IsTaken Judged lines units behind → Read units behind r
      → FirstLine Judged number lines Read r
  first_taken {lines} {units} {behind} r taken read =
      subst (λ (ls : List Line). FirstLine Judged number ls Read r) (sym taken.cut)
      (inr (units, taken.judged, read))

  first_bad : (line : ℕ) (kind : TreeKind) (lines : List Line) → line ≡ number
      → HasKind Judged lines kind → FirstLine Judged number lines Read (Err (line, kind))
  first_bad line kind [] q e = λ i. Err (q i, e i)
  first_bad line kind (l ∷ lines) q judged = inl (kind, judged, λ i. Err (q i, kind))

-- ---- the lines after the first set, and after both

abbrev BehindSets : Problem → List ℕ → List ℕ → List Line → Result Part Fault → Type 0
BehindSets p inside outside lines result = result ≡ with_start inside outside (rest_taken p 4 lines)

abbrev BehindSet : Problem → List ℕ → List Line → Result Part Fault → Type 0
BehindSet p inside lines result =
    FirstLine (SetLine p inside (codes "outside")) 3 lines (BehindSets p inside) result

module _ (p : Problem) (bytes : List ℕ) {line : Line} {first second : List Line}
    {none inside : List ℕ} {number : ℕ} (cut : lines_of bytes ≡ line ∷ first)
    (type : is_file_type line ≡ true)
    (empty : none ≡ []) (taken : IsTaken (SetLine p none (codes "inside")) first inside second)
    (third : number ≡ 3) where
  behind_set : (r : Result Part Fault) → BehindSet p inside second r → PartReads p bytes r
  behind_set r read =
      let start : StartReads p first r =
      first_taken (SetLine p [] (codes "inside")) 2 (BehindSet p) r
      (subst
      (λ (before : List ℕ). IsTaken (SetLine p before (codes "inside")) first inside second)
      empty taken) read in
      subst (λ (ls : List Line). LinesRead p ls r) (sym cut)
      (subst (λ b. BehindType b p first r) (sym type) start)

  pub outside_told : (fault : TextFault TreeKind)
      → IsFaultAt (SetLine p inside (codes "outside")) number second fault → TellsPart p bytes fault
  outside_told Memory h = tt
  outside_told (At line kind) h =
      behind_set (Err (line, kind))
      (first_bad (SetLine p inside (codes "outside")) 3 (BehindSets p inside) line kind second
      (h.0 ∙ third) h.1)

  module _ {outside : List ℕ} {left : List Line} {number' : ℕ}
      (taken' : IsTaken (SetLine p inside (codes "outside")) second outside left)
      (next : number' ≡ suc number) where
    pub rest_read : (read : Result Certificate Fault) → rest_taken p number' left ≡ read
        → PartReads p bytes (with_start inside outside read)
    rest_read read e =
        behind_set (with_start inside outside read)
        (first_taken (SetLine p inside (codes "outside")) 3 (BehindSets p inside)
        (with_start inside outside read) taken'
        (ap (with_start inside outside)
        (sym e ∙ ap (λ (n : ℕ). rest_taken p n left) (next ∙ ap suc third))))

    pub rest_told : (fault : TextFault TreeKind) → Tells (rest_taken p number' left) fault
        → TellsPart p bytes fault
    rest_told Memory h = tt
    rest_told (At line kind) h = rest_read (Err (line, kind)) h
