-- `alternatives FILE N BUDGET`: the N best networks of which none is another with something idle,
-- each at its least cost, with the tree that proves it. If the search stopped before its end: the
-- networks that were found and the tree as far as it came. The lines are those of a rank text.
use Rattle.std.specs.Prelude.{◌≡◌, ℕ, true, false, List}
use Rattle.report_rules.specs.problem_rules.Problem.{Problem}
use Rattle.report_rules.specs.tree_rules.Tail.{Tail}
use Rattle.report_rules.specs.rank_rules.Alternatives.{IsRight}
use Rattle.report_rules.specs.rank_rules.Text.{Text}
use Rattle.studio_rules.specs.Rank.{AreTextOf, Lists, HoldsAs}
use Rattle.studio_rules.specs.Solve.{status_of}
use Rattle.studio_rules.specs.declared.status.Status.{Status}

-- The tree proves the list. It is right: nothing cheaper is left out but a listed network with more
-- units, at no lower cost.
pub record Alternates (count : ℕ) (p : Problem) (t : Text) : Type 0 where
  pub lists : Lists true false count p t
  pub right : IsRight p t.count t.networks

-- what a list is by its tail
abbrev pub AlternatesHold : ℕ → ℕ → Problem → Text → Tail → Type 0
AlternatesHold count budget p t = HoldsAs true (Alternates count p t) count budget p t

abbrev pub AlternatesWork : ℕ → ℕ → Problem → Status → List (List ℕ) → Type 0
AlternatesWork count budget p status lines =
    (t : Text) × (status ≡ status_of t.tail) × AlternatesHold count budget p t t.tail
    × AreTextOf p t lines
