-- A mark for each material that is among the terms.
use Rattle.std.specs.Prelude.{◌≡◌, ◌<◌, ℕ, Bool, false, List, slice_index_or}
use Rattle.text_rules.specs.problem_rules.Problem.{Term, terms_have}

abbrev pub AreMarks : List Bool → List Term → Type 0
AreMarks marked terms = (x : ℕ) → x < 256 → slice_index_or marked x false ≡ terms_have terms x
