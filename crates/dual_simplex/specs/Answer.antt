-- What each answer of a bench means.
use Rattle.flow_program.specs.flow_rules.Program.{Program}
use Rattle.dual_simplex.specs.declared.bench.Ends.{Ends}
use Rattle.dual_simplex.specs.declared.bench.Ends.TheVariants as ends
use Rattle.dual_simplex.specs.Bench.{Bench, IsLeastOf, IsNoneOf}

abbrev pub EndsAs : Program → Bench → Ends → Type 0
EndsAs q b ends.Least = IsLeastOf q b
EndsAs q b ends.None = IsNoneOf q b
