-- The verdict on a unit set: it meets the axioms, or it breaks one. Then the first such axiom is
-- named, with the least place at which it breaks.
use Rattle.std.specs.Prelude.{ℕ, Bool}
use Rattle.pns_rules.specs.Shape.{Shape}
use Rattle.pns_rules.specs.Structure.{IsStructure}
use Rattle.pns_rules.specs.Ends.{IsFirst, IsNever}
use Rattle.pns_rules.specs.Breaks.{BreaksS1, BreaksS2, BreaksS4}
use Rattle.pns_rules.specs.declared.verdict.Axiom.{Axiom}
use Rattle.pns_rules.specs.declared.verdict.Axiom.TheVariants.{S1, S2, S3, S4, S5}
use Rattle.pns_rules.specs.declared.verdict.Verdict.{Verdict}
use Rattle.pns_rules.specs.declared.verdict.Verdict.TheVariants.{Meets, Breaks}

-- S3 and S5 hold for every set of units of the problem
abbrev pub BreaksFirst : Shape → (ℕ → Bool) → Axiom → ℕ → Type 0
BreaksFirst g o S1 x = IsFirst (BreaksS1 g o) x
BreaksFirst g o S2 x = IsNever (BreaksS1 g o) × IsFirst (BreaksS2 g o) x
BreaksFirst g o S3 x = ⊥
BreaksFirst g o S4 u = IsNever (BreaksS1 g o) × IsNever (BreaksS2 g o) × IsFirst (BreaksS4 g o) u
BreaksFirst g o S5 x = ⊥

abbrev pub Judges : Shape → (ℕ → Bool) → Verdict → Type 0
Judges g o Meets = IsStructure g o
Judges g o (Breaks broken at) = BreaksFirst g o broken at
