-- Scripts: edits that are applied one after another, each on a line of a text.
use Rattle.std.specs.Prelude.{◌≡◌, ℕ, zero, suc, List, [], ◌∷◌, ◌++◌, Some, slice_index_or}
use Rattle.text_rules.specs.problem_rules.Problem.{Problem}
use Rattle.edit_rules.specs.Edit.{Edit, Script}
use Rattle.edit_rules.specs.Effect.{effect}
use Rattle.edit_rules.specs.Fault.{Fault, checks, fault_of, AreClear}
use Rattle.edit_rules.specs.Inverse.{inverse}

-- the problem after all edits
abbrev pub applied : Problem → List Edit → Problem
applied p [] = p
applied p (e ∷ es) = applied (effect p e) es

-- no edit has a fault of meaning on the problem that the edits before it give
abbrev pub CanApply : Problem → List Edit → Type 0
CanApply p [] = Unit {0}
CanApply p (e ∷ es) = AreClear (checks p e) × CanApply (effect p e) es

-- edit k, counted from 0, is the first that has a fault of meaning, and `fault` is its first fault
abbrev pub IsFirstFault : Problem → List Edit → ℕ → Fault → Type 0
IsFirstFault p [] k fault = ⊥
IsFirstFault p (e ∷ es) zero fault = fault_of p e ≡ Some fault
IsFirstFault p (e ∷ es) (suc k) fault = AreClear (checks p e) × IsFirstFault (effect p e) es k fault

-- such an edit is at this line
pub record IsFaultAt (p : Problem) (s : Script) (line : ℕ) (fault : Fault) : Type 0 where
  pub edit : ℕ
  pub first : IsFirstFault p s.edits edit fault
  pub line_is : line ≡ slice_index_or s.lines edit 0

-- the inverses in reverse order; the edits of one inverse stay in their own order
abbrev pub undoing : Problem → List Edit → List Edit
undoing p [] = []
undoing p (e ∷ es) = undoing (effect p e) es ++ inverse p e

-- the edits can be applied to q and lead to p
pub record LeadsTo (q : Problem) (es : List Edit) (p : Problem) : Type 0 where
  pub can : CanApply q es
  pub same : applied q es ≡ p
