use Rattle.cert_check.specs.branch_tree.View.{end_of}
use Rattle.cert_check.specs.tree_rules.Claim as claims
use Rattle.command_files.specs.tree_text.declared.fault.PrintFault.TheVariants.{WriteFault}
use Rattle.cert_check.specs.tree_text_rules.Spelling.{claim_lines, end_with_sets}
use Rattle.command_files.proofs.Cited.{two_printed, part_failed}
use Rattle.structure_commands.proofs.flows.print_none.Goals as goal

pub returns-in-Ok-clause-prints : goal.returns-in-Ok-clause-prints
returns-in-Ok-clause-prints g c =
    let p = c.args.problem.now in
    two_printed (claim_lines p claims.infeasible) (end_with_sets p (end_of c.args.refuted.now)) _ _
    _ _ c.in-Ok.ensures.later (record { outcome = c.in-Ok.ensures.ok })
    c.print_end.ensures.prints

pub returns-in-Err-clause-prints : goal.returns-in-Err-clause-prints
returns-in-Err-clause-prints g c =
    let p = c.args.problem.now in
    part_failed (claim_lines p claims.infeasible) (end_with_sets p (end_of c.args.refuted.now)) _ _
    WriteFault (record { outcome = (c.in-Err.ensures.cause, c.in-Err.ensures.err) })
