use Rattle.std.proofs.Common.{arith}
use Rattle.report_amounts.proofs.Division.{power_positive}
use Rattle.report_amounts.proofs.places.push_scaled.Goals as goal

pub nonzero_div-whole : goal.nonzero_div-whole
nonzero_div-whole c = let p = power_positive c.args.places in omega (arith, p)

pub nonzero_rem-rest : goal.nonzero_rem-rest
nonzero_rem-rest c = let p = power_positive c.args.places in omega (arith, p)
