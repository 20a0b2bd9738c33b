use Rattle.std.proofs.Common.{sym}
use Rattle.flow_program.specs.flow_rules.LinearProgram.{linear_of}
use Rattle.dual_simplex.proofs.StartLemmas.{starts}
use Rattle.dual_simplex.proofs.walk.walk.Goals as goal

pub walk_first-requires : goal.walk_first-requires
walk_first-requires c =
    let e = c.start.ensures in
    record {
      first =
          starts (linear_of c.args.program.now) c.start.new.self
          (record { units = sym e.units; rows = sym e.rows }) e.start e.basis;
    }
